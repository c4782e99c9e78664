use Rattle.std.proofs.Common.{◌≡◌, ◌⊎◌, ℕ, subst, arith}
use Rattle.std.specs.List.{range_with_len}
use Rattle.std.specs.Prelude.{OnOk}
use Rattle.assign.specs.Printed.{AppendsFrontOf, AppendsPart, AppendsSome}
use Rattle.assign.specs.SkimSteps.{BeginsSkims}
use Rattle.assign.specs.SkimTables.{IsSkimTable}
use Rattle.assign.proofs.printing.print_skims.Goals as goal

pub skim_table-requires-in-Some-clause-within : goal.skim_table-requires-in-Some-clause-within
skim_table-requires-in-Some-clause-within g c = omega (arith, c.requires.printable.zone_there c.in-Some.zone c.in-Some.is)

pub returns-in-None-clause-ok : goal.returns-in-None-clause-ok
returns-in-None-clause-ok g c =
    rw (c.in-None.is, ← c.names-names.ensures.value)
    (subst (λ (count : ℕ). OnOk c.skim_table.result (AppendsSome (IsSkimTable c.args.prepared.now.city c.names-names.result.now (range_with_len 0 count))
    (g.S.Sink.written c.args.out.now) (g.S.Sink.written c.skim_table.new.out))) c.zones.ensures.value c.skim_table.ensures.ok)

pub returns-in-None-clause-sent : goal.returns-in-None-clause-sent
returns-in-None-clause-sent g c =
    rw (c.in-None.is, ← c.names-names.ensures.value)
    (λ sent is. subst (λ (count : ℕ). AppendsPart (BeginsSkims c.args.prepared.now.city c.names-names.result.now (range_with_len 0 count)) sent
    (g.S.Sink.written c.args.out.now) (g.S.Sink.written c.skim_table.new.out)) c.zones.ensures.value (c.skim_table.ensures.sent sent is))

pub returns-in-None-clause-no_memory : goal.returns-in-None-clause-no_memory
returns-in-None-clause-no_memory g c =
    rw (c.in-None.is, ← c.names-names.ensures.value)
    (λ is. subst (λ (count : ℕ). (c.skim_table.new.out ≡ c.args.out.now) ⊎ AppendsFrontOf (BeginsSkims c.args.prepared.now.city c.names-names.result.now (range_with_len 0 count))
    (g.S.Sink.written c.args.out.now) (g.S.Sink.written c.skim_table.new.out)) c.zones.ensures.value (c.skim_table.ensures.no_memory is))

pub returns-in-Some-clause-ok : goal.returns-in-Some-clause-ok
returns-in-Some-clause-ok g c = rw (c.in-Some.is, ← c.names-names.ensures.value) c.skim_table-in-Some.ensures.ok

pub returns-in-Some-clause-sent : goal.returns-in-Some-clause-sent
returns-in-Some-clause-sent g c = rw (c.in-Some.is, ← c.names-names.ensures.value) c.skim_table-in-Some.ensures.sent

pub returns-in-Some-clause-no_memory : goal.returns-in-Some-clause-no_memory
returns-in-Some-clause-no_memory g c = rw (c.in-Some.is, ← c.names-names.ensures.value) c.skim_table-in-Some.ensures.no_memory
