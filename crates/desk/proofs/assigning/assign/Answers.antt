use Rattle.std.proofs.Common.{Some, refl, sym, subst}
use Rattle.desk.specs.declared.command.Command.TheVariants.{Assign}
use Rattle.desk.specs.declared.status.Cause.TheVariants.{Usage}
use Rattle.desk.specs.Ends.{EndsCommand}
use Rattle.desk.proofs.EndLemmas.{fault_at, period_at, period_ends}
use Rattle.desk.proofs.assigning.assign.Goals as goal

pub assign_in-requires : goal.assign_in-requires
assign_in-requires g c = record {
  agree = c.requires.agree;
  period =
      period_at c.as_str.result.now c.as_str-2.result.now c.as_str-3.result.now c.args.words.now.date c.args.words.now.from c.args.words.now.to c.in-Ok.period
      c.as_str.ensures.value c.as_str-2.ensures.value c.as_str-3.ensures.value c.in-Ok.ensures.period;
}

pub returns-in-Err-clause-ends : goal.returns-in-Err-clause-ends
returns-in-Err-clause-ends g c =
    subst (λ found. EndsCommand
    (record { files = g.D.Folder.files c.args.folder.now; old_count = g.D.Counted.count c.args.folder.now; new_count = g.D.Counted.count c.args.folder.now })
    (record { old_count = g.O.Counted.count c.args.out.now; new_count = g.O.Counted.count c.args.out.now; old = g.O.Sink.written c.args.out.now; new = g.O.Sink.written c.args.out.now })
    (Some (Assign c.args.words.now)) (Usage found)) (sym c.usage_of.ensures.value)
    (period_ends
    (record { files = g.D.Folder.files c.args.folder.now; old_count = g.D.Counted.count c.args.folder.now; new_count = g.D.Counted.count c.args.folder.now })
    (record { old_count = g.O.Counted.count c.args.out.now; new_count = g.O.Counted.count c.args.out.now; old = g.O.Sink.written c.args.out.now; new = g.O.Sink.written c.args.out.now })
    c.args.words.now c.in-Err.bad
    (fault_at c.as_str.result.now c.as_str-2.result.now c.as_str-3.result.now c.args.words.now.date c.args.words.now.from c.args.words.now.to c.in-Err.bad
    c.as_str.ensures.value c.as_str-2.ensures.value c.as_str-3.ensures.value c.in-Err.ensures.refused) refl)
