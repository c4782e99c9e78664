use Rattle.std.proofs.Common.{◌∙◌, sym}
use Rattle.std.proofs.lemmas.Result.{IfOk-weaker}
use Rattle.feed_reader.proofs.FileLemmas.{faults-rows, kept-rows, lists-rows}
use Rattle.feed_reader.proofs.timetable_files.read_call_file.Goals as goal

pub returns-in-Some-clause-kept : goal.returns-in-Some-clause-kept
returns-in-Some-clause-kept c = IfOk-weaker c.read_call_bytes.result _ _
    (λ _ e. e ∙ kept-rows c.args.files.now c.in-Some.bytes.now c.args.stops.now c.args.trips.now c.requires.stops c.requires.trips (sym c.in-Some.ensures.value))
    c.read_call_bytes.ensures.kept

pub returns-in-Some-clause-lists : goal.returns-in-Some-clause-lists
returns-in-Some-clause-lists c = IfOk-weaker c.read_call_bytes.result _ _
    (λ _ e. e ∙ lists-rows c.args.files.now c.in-Some.bytes.now c.args.stops.now c.args.trips.now c.requires.stops c.requires.trips (sym c.in-Some.ensures.value))
    c.read_call_bytes.ensures.lists

pub returns-in-Some-clause-faultless : goal.returns-in-Some-clause-faultless
returns-in-Some-clause-faultless c = IfOk-weaker c.read_call_bytes.result _ _
    (λ _ e. sym (faults-rows c.args.files.now c.in-Some.bytes.now c.args.stops.now c.args.trips.now c.requires.stops c.requires.trips (sym c.in-Some.ensures.value)) ∙ e)
    c.read_call_bytes.ensures.faultless

pub returns-in-Some-clause-refused : goal.returns-in-Some-clause-refused
returns-in-Some-clause-refused c =
    rw (faults-rows c.args.files.now c.in-Some.bytes.now c.args.stops.now c.args.trips.now c.requires.stops c.requires.trips (sym c.in-Some.ensures.value)) at c.read_call_bytes.ensures.refused
