use Rattle.std.proofs.Common.{◌≡◌, sym, ap, subst, ◌∙◌}
use Rattle.desk.specs.declared.status.Status.{Status}
use Rattle.desk.specs.declared.status.UsageFault.TheVariants.{Words, Date, Window, NoFile}
use Rattle.desk.specs.declared.status.Cause.TheVariants.{Done, Usage, Feed, Demand, Scenario, Range, ReadFault, WriteFault, NoMemory, Refused, Unreachable}
use Rattle.desk.specs.Command.{command_of}
use Rattle.desk.specs.Ends.{EndsCommand}
use Rattle.desk.specs.Outcome.{WritesNothing}
use Rattle.desk.proofs.Completeness.{complete}
use Rattle.desk.proofs.EndLemmas.{outcome_of}
use Rattle.desk.proofs.FrontLemmas.{front_of}
use Rattle.desk.proofs.RunLemmas.{ends_at, nothing_written}
use Rattle.desk.proofs.SolvingLemmas.{printed_within_slack}
use Rattle.desk.proofs.run.run.Goals as goal

pub returns-clause-done : goal.returns-clause-done
returns-clause-done g c e =
    let same : c.of.result.cause ≡ c.carry_out-cause.result = ap (λ (s : Status). s.cause) c.of.ensures.status in
    (ends_at
    (record { files = g.D.Folder.files c.args.folder.now; old_count = g.D.Counted.count c.args.folder.now; new_count = g.D.Counted.count c.carry_out-cause.new.folder })
    (record { old_count = g.O.Counted.count c.args.out.now; new_count = g.O.Counted.count c.carry_out-cause.new.out; old = g.O.Sink.written c.args.out.now; new = g.O.Sink.written c.carry_out-cause.new.out })
    (command_of c.args.words.now) c.carry_out-cause.result c.of.result.cause Done c.carry_out-cause.ensures.ends same e)

pub returns-clause-words : goal.returns-clause-words
returns-clause-words g c e =
    let same : c.of.result.cause ≡ c.carry_out-cause.result = ap (λ (s : Status). s.cause) c.of.ensures.status in
    (ends_at
    (record { files = g.D.Folder.files c.args.folder.now; old_count = g.D.Counted.count c.args.folder.now; new_count = g.D.Counted.count c.carry_out-cause.new.folder })
    (record { old_count = g.O.Counted.count c.args.out.now; new_count = g.O.Counted.count c.carry_out-cause.new.out; old = g.O.Sink.written c.args.out.now; new = g.O.Sink.written c.carry_out-cause.new.out })
    (command_of c.args.words.now) c.carry_out-cause.result c.of.result.cause (Usage Words) c.carry_out-cause.ensures.ends same e).0

pub returns-clause-date : goal.returns-clause-date
returns-clause-date g c e =
    let same : c.of.result.cause ≡ c.carry_out-cause.result = ap (λ (s : Status). s.cause) c.of.ensures.status in
    (ends_at
    (record { files = g.D.Folder.files c.args.folder.now; old_count = g.D.Counted.count c.args.folder.now; new_count = g.D.Counted.count c.carry_out-cause.new.folder })
    (record { old_count = g.O.Counted.count c.args.out.now; new_count = g.O.Counted.count c.carry_out-cause.new.out; old = g.O.Sink.written c.args.out.now; new = g.O.Sink.written c.carry_out-cause.new.out })
    (command_of c.args.words.now) c.carry_out-cause.result c.of.result.cause (Usage Date) c.carry_out-cause.ensures.ends same e).0

pub returns-clause-window : goal.returns-clause-window
returns-clause-window g c e =
    let same : c.of.result.cause ≡ c.carry_out-cause.result = ap (λ (s : Status). s.cause) c.of.ensures.status in
    (ends_at
    (record { files = g.D.Folder.files c.args.folder.now; old_count = g.D.Counted.count c.args.folder.now; new_count = g.D.Counted.count c.carry_out-cause.new.folder })
    (record { old_count = g.O.Counted.count c.args.out.now; new_count = g.O.Counted.count c.carry_out-cause.new.out; old = g.O.Sink.written c.args.out.now; new = g.O.Sink.written c.carry_out-cause.new.out })
    (command_of c.args.words.now) c.carry_out-cause.result c.of.result.cause (Usage Window) c.carry_out-cause.ensures.ends same e).0

pub returns-clause-no_file : goal.returns-clause-no_file
returns-clause-no_file g c path e =
    let same : c.of.result.cause ≡ c.carry_out-cause.result = ap (λ (s : Status). s.cause) c.of.ensures.status in
    (ends_at
    (record { files = g.D.Folder.files c.args.folder.now; old_count = g.D.Counted.count c.args.folder.now; new_count = g.D.Counted.count c.carry_out-cause.new.folder })
    (record { old_count = g.O.Counted.count c.args.out.now; new_count = g.O.Counted.count c.carry_out-cause.new.out; old = g.O.Sink.written c.args.out.now; new = g.O.Sink.written c.carry_out-cause.new.out })
    (command_of c.args.words.now) c.carry_out-cause.result c.of.result.cause (Usage (NoFile path)) c.carry_out-cause.ensures.ends same e).0

pub returns-clause-feed : goal.returns-clause-feed
returns-clause-feed g c found e =
    let same : c.of.result.cause ≡ c.carry_out-cause.result = ap (λ (s : Status). s.cause) c.of.ensures.status in
    (ends_at
    (record { files = g.D.Folder.files c.args.folder.now; old_count = g.D.Counted.count c.args.folder.now; new_count = g.D.Counted.count c.carry_out-cause.new.folder })
    (record { old_count = g.O.Counted.count c.args.out.now; new_count = g.O.Counted.count c.carry_out-cause.new.out; old = g.O.Sink.written c.args.out.now; new = g.O.Sink.written c.carry_out-cause.new.out })
    (command_of c.args.words.now) c.carry_out-cause.result c.of.result.cause (Feed found) c.carry_out-cause.ensures.ends same e).0

pub returns-clause-demand : goal.returns-clause-demand
returns-clause-demand g c found e =
    let same : c.of.result.cause ≡ c.carry_out-cause.result = ap (λ (s : Status). s.cause) c.of.ensures.status in
    (ends_at
    (record { files = g.D.Folder.files c.args.folder.now; old_count = g.D.Counted.count c.args.folder.now; new_count = g.D.Counted.count c.carry_out-cause.new.folder })
    (record { old_count = g.O.Counted.count c.args.out.now; new_count = g.O.Counted.count c.carry_out-cause.new.out; old = g.O.Sink.written c.args.out.now; new = g.O.Sink.written c.carry_out-cause.new.out })
    (command_of c.args.words.now) c.carry_out-cause.result c.of.result.cause (Demand found) c.carry_out-cause.ensures.ends same e).0

pub returns-clause-scenario : goal.returns-clause-scenario
returns-clause-scenario g c found e =
    let same : c.of.result.cause ≡ c.carry_out-cause.result = ap (λ (s : Status). s.cause) c.of.ensures.status in
    (ends_at
    (record { files = g.D.Folder.files c.args.folder.now; old_count = g.D.Counted.count c.args.folder.now; new_count = g.D.Counted.count c.carry_out-cause.new.folder })
    (record { old_count = g.O.Counted.count c.args.out.now; new_count = g.O.Counted.count c.carry_out-cause.new.out; old = g.O.Sink.written c.args.out.now; new = g.O.Sink.written c.carry_out-cause.new.out })
    (command_of c.args.words.now) c.carry_out-cause.result c.of.result.cause (Scenario found) c.carry_out-cause.ensures.ends same e).0

pub returns-clause-unreachable : goal.returns-clause-unreachable
returns-clause-unreachable g c unreached e =
    let same : c.of.result.cause ≡ c.carry_out-cause.result = ap (λ (s : Status). s.cause) c.of.ensures.status in
    (ends_at
    (record { files = g.D.Folder.files c.args.folder.now; old_count = g.D.Counted.count c.args.folder.now; new_count = g.D.Counted.count c.carry_out-cause.new.folder })
    (record { old_count = g.O.Counted.count c.args.out.now; new_count = g.O.Counted.count c.carry_out-cause.new.out; old = g.O.Sink.written c.args.out.now; new = g.O.Sink.written c.carry_out-cause.new.out })
    (command_of c.args.words.now) c.carry_out-cause.result c.of.result.cause (Unreachable unreached) c.carry_out-cause.ensures.ends same e).0

pub returns-clause-range : goal.returns-clause-range
returns-clause-range g c limit count e =
    let same : c.of.result.cause ≡ c.carry_out-cause.result = ap (λ (s : Status). s.cause) c.of.ensures.status in
    (ends_at
    (record { files = g.D.Folder.files c.args.folder.now; old_count = g.D.Counted.count c.args.folder.now; new_count = g.D.Counted.count c.carry_out-cause.new.folder })
    (record { old_count = g.O.Counted.count c.args.out.now; new_count = g.O.Counted.count c.carry_out-cause.new.out; old = g.O.Sink.written c.args.out.now; new = g.O.Sink.written c.carry_out-cause.new.out })
    (command_of c.args.words.now) c.carry_out-cause.result c.of.result.cause (Range limit count) c.carry_out-cause.ensures.ends same e).0

pub returns-clause-refused : goal.returns-clause-refused
returns-clause-refused g c found e =
    let same : c.of.result.cause ≡ c.carry_out-cause.result = ap (λ (s : Status). s.cause) c.of.ensures.status in
    (ends_at
    (record { files = g.D.Folder.files c.args.folder.now; old_count = g.D.Counted.count c.args.folder.now; new_count = g.D.Counted.count c.carry_out-cause.new.folder })
    (record { old_count = g.O.Counted.count c.args.out.now; new_count = g.O.Counted.count c.carry_out-cause.new.out; old = g.O.Sink.written c.args.out.now; new = g.O.Sink.written c.carry_out-cause.new.out })
    (command_of c.args.words.now) c.carry_out-cause.result c.of.result.cause (Refused found) c.carry_out-cause.ensures.ends same e).0

pub returns-clause-read_cause : goal.returns-clause-read_cause
returns-clause-read_cause g c e =
    let same : c.of.result.cause ≡ c.carry_out-cause.result = ap (λ (s : Status). s.cause) c.of.ensures.status in
    (ends_at
    (record { files = g.D.Folder.files c.args.folder.now; old_count = g.D.Counted.count c.args.folder.now; new_count = g.D.Counted.count c.carry_out-cause.new.folder })
    (record { old_count = g.O.Counted.count c.args.out.now; new_count = g.O.Counted.count c.carry_out-cause.new.out; old = g.O.Sink.written c.args.out.now; new = g.O.Sink.written c.carry_out-cause.new.out })
    (command_of c.args.words.now) c.carry_out-cause.result c.of.result.cause ReadFault c.carry_out-cause.ensures.ends same e).0

pub returns-clause-write_cause : goal.returns-clause-write_cause
returns-clause-write_cause g c sent e =
    let same : c.of.result.cause ≡ c.carry_out-cause.result = ap (λ (s : Status). s.cause) c.of.ensures.status in
    (ends_at
    (record { files = g.D.Folder.files c.args.folder.now; old_count = g.D.Counted.count c.args.folder.now; new_count = g.D.Counted.count c.carry_out-cause.new.folder })
    (record { old_count = g.O.Counted.count c.args.out.now; new_count = g.O.Counted.count c.carry_out-cause.new.out; old = g.O.Sink.written c.args.out.now; new = g.O.Sink.written c.carry_out-cause.new.out })
    (command_of c.args.words.now) c.carry_out-cause.result c.of.result.cause (WriteFault sent) c.carry_out-cause.ensures.ends same e).0

pub returns-clause-sent : goal.returns-clause-sent
returns-clause-sent g c sent e =
    let same : c.of.result.cause ≡ c.carry_out-cause.result = ap (λ (s : Status). s.cause) c.of.ensures.status in
    (ends_at
    (record { files = g.D.Folder.files c.args.folder.now; old_count = g.D.Counted.count c.args.folder.now; new_count = g.D.Counted.count c.carry_out-cause.new.folder })
    (record { old_count = g.O.Counted.count c.args.out.now; new_count = g.O.Counted.count c.carry_out-cause.new.out; old = g.O.Sink.written c.args.out.now; new = g.O.Sink.written c.carry_out-cause.new.out })
    (command_of c.args.words.now) c.carry_out-cause.result c.of.result.cause (WriteFault sent) c.carry_out-cause.ensures.ends same e).1

pub returns-clause-no_memory : goal.returns-clause-no_memory
returns-clause-no_memory g c e =
    let same : c.of.result.cause ≡ c.carry_out-cause.result = ap (λ (s : Status). s.cause) c.of.ensures.status in
    (ends_at
    (record { files = g.D.Folder.files c.args.folder.now; old_count = g.D.Counted.count c.args.folder.now; new_count = g.D.Counted.count c.carry_out-cause.new.folder })
    (record { old_count = g.O.Counted.count c.args.out.now; new_count = g.O.Counted.count c.carry_out-cause.new.out; old = g.O.Sink.written c.args.out.now; new = g.O.Sink.written c.carry_out-cause.new.out })
    (command_of c.args.words.now) c.carry_out-cause.result c.of.result.cause NoMemory c.carry_out-cause.ensures.ends same e).front

pub returns-clause-nothing : goal.returns-clause-nothing
returns-clause-nothing g c none =
    let same : c.of.result.cause ≡ c.carry_out-cause.result = ap (λ (s : Status). s.cause) c.of.ensures.status in
    nothing_written
    (record { files = g.D.Folder.files c.args.folder.now; old_count = g.D.Counted.count c.args.folder.now; new_count = g.D.Counted.count c.carry_out-cause.new.folder })
    (record { old_count = g.O.Counted.count c.args.out.now; new_count = g.O.Counted.count c.carry_out-cause.new.out; old = g.O.Sink.written c.args.out.now; new = g.O.Sink.written c.carry_out-cause.new.out })
    (command_of c.args.words.now) c.carry_out-cause.result c.carry_out-cause.ensures.ends (subst (WritesNothing (command_of c.args.words.now)) same none)

pub returns-clause-outcome : goal.returns-clause-outcome
returns-clause-outcome g c =
    let same : c.of.result.cause ≡ c.carry_out-cause.result = ap (λ (s : Status). s.cause) c.of.ensures.status in
    outcome_of (g.D.Folder.files c.args.folder.now) (g.D.Counted.count c.args.folder.now) (g.D.Counted.count c.carry_out-cause.new.folder)
    (record { old_count = g.O.Counted.count c.args.out.now; new_count = g.O.Counted.count c.carry_out-cause.new.out; old = g.O.Sink.written c.args.out.now; new = g.O.Sink.written c.carry_out-cause.new.out })
    (command_of c.args.words.now) c.of.result.cause
    (subst (EndsCommand
    (record { files = g.D.Folder.files c.args.folder.now; old_count = g.D.Counted.count c.args.folder.now; new_count = g.D.Counted.count c.carry_out-cause.new.folder })
    (record { old_count = g.O.Counted.count c.args.out.now; new_count = g.O.Counted.count c.carry_out-cause.new.out; old = g.O.Sink.written c.args.out.now; new = g.O.Sink.written c.carry_out-cause.new.out })
    (command_of c.args.words.now)) (sym same) c.carry_out-cause.ensures.ends)

pub returns-clause-front : goal.returns-clause-front
returns-clause-front g c =
    let same : c.of.result.cause ≡ c.carry_out-cause.result = ap (λ (s : Status). s.cause) c.of.ensures.status in
    front_of (g.D.Folder.files c.args.folder.now) (g.D.Counted.count c.args.folder.now) (g.D.Counted.count c.carry_out-cause.new.folder)
    (record { old_count = g.O.Counted.count c.args.out.now; new_count = g.O.Counted.count c.carry_out-cause.new.out; old = g.O.Sink.written c.args.out.now; new = g.O.Sink.written c.carry_out-cause.new.out })
    (command_of c.args.words.now) c.carry_out-cause.result c.carry_out-cause.ensures.ends

pub returns-clause-assigned : goal.returns-clause-assigned
returns-clause-assigned g c values is done =
    let same : c.of.result.cause ≡ c.carry_out-cause.result = ap (λ (s : Status). s.cause) c.of.ensures.status in
    c.carry_out-cause.ensures.assigned values is (sym same ∙ done)

pub returns-clause-generated : goal.returns-clause-generated
returns-clause-generated g c values is done =
    let same : c.of.result.cause ≡ c.carry_out-cause.result = ap (λ (s : Status). s.cause) c.of.ensures.status in
    c.carry_out-cause.ensures.generated values is (sym same ∙ done)

pub returns-clause-certified : goal.returns-clause-certified
returns-clause-certified g c values is certificate done =
    let same : c.of.result.cause ≡ c.carry_out-cause.result = ap (λ (s : Status). s.cause) c.of.ensures.status in
    c.carry_out-cause.ensures.certified values is certificate (sym same ∙ done)

pub returns-clause-solved : goal.returns-clause-solved
returns-clause-solved g c path is done =
    let same : c.of.result.cause ≡ c.carry_out-cause.result = ap (λ (s : Status). s.cause) c.of.ensures.status in
    c.carry_out-cause.ensures.solved path is (sym same ∙ done)

pub returns-clause-gap : goal.returns-clause-gap
returns-clause-gap g c path is done =
    let same : c.of.result.cause ≡ c.carry_out-cause.result = ap (λ (s : Status). s.cause) c.of.ensures.status in
    printed_within_slack _ _ _ _ (c.carry_out-cause.ensures.solved path is (sym same ∙ done))

pub returns-clause-known : goal.returns-clause-known
returns-clause-known g c words memory =
    let same : c.of.result.cause ≡ c.carry_out-cause.result = ap (λ (s : Status). s.cause) c.of.ensures.status in
    c.carry_out-cause.ensures.known (λ e. words (same ∙ e)) (λ e. memory (same ∙ e))

pub returns-clause-complete : goal.returns-clause-complete
returns-clause-complete g c = complete _ _ _ _ _ _ _ _ _ (returns-clause-outcome g c) (returns-clause-read_cause g c) (returns-clause-write_cause g c)
