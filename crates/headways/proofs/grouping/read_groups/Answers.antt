use Rattle.std.proofs.Common.{◌≡◌, ◌++◌, ℕ, List, length, get_or, take, ap, refl, sym, ◌∙◌, map}
use Rattle.std.specs.Prelude.{flat_map}
use Rattle.std.proofs.lemmas.List.{take_all}
use Rattle.std.proofs.lemmas.Result.{err_from_is_err_and}
use Rattle.headways.specs.declared.fault.LineFault.{LineFault}
use Rattle.headways.specs.Faults.{IsFirstFault, line_faults}
use Rattle.headways.specs.Lines.{firsts, line_of, line_of_trips}
use Rattle.headways.proofs.FaultLemmas.{faults-more, faults-of-lines, line-refused, lines-more}
use Rattle.headways.proofs.GroupLemmas.{before-first, before-next}
use Rattle.headways.proofs.MemberLemmas.{members-run, readable}
use Rattle.headways.proofs.grouping.read_groups.Goals as goal

pub loop-line-init : goal.loop-line-init
loop-line-init c = record { value = c.new-lines.ensures.items; faultless = refl; before = before-first c.args.counted.now }

pub read_line-requires : goal.read_line-requires
read_line-requires c =
    let trips = members-run c.args.feed.now c.args.weights.now c.args.first_trips.now c.as_slice.result.now c.args.counted.now c.loop-line.line c.loop-line.start c.end_of-end.result c.requires.sorted
    c.loop-line.invariant.before c.end_of-end.ensures.value c.requires.firsts c.requires.groups c.loop-line-test.true (c.as_slice.ensures.value ∙ c.in_ok-trips.ensures.value) in
    let r = readable c.args.feed.now c.args.weights.now c.args.first_trips.now c.as_slice.result.now c.loop-line.line c.requires.weights c.requires.firsts c.loop-line-test.true trips in
    record { first = r.first_is; trips = r.trips_are; weights = c.requires.weights.weight_per_trip; some = r.some; fits = r.fits }

pub loop-line-preserved : goal.loop-line-preserved
loop-line-preserved c =
    let trips = members-run c.args.feed.now c.args.weights.now c.args.first_trips.now c.as_slice.result.now c.args.counted.now c.loop-line.line c.loop-line.start c.end_of-end.result c.requires.sorted
    c.loop-line.invariant.before c.end_of-end.ensures.value c.requires.firsts c.requires.groups c.loop-line-test.true (c.as_slice.ensures.value ∙ c.in_ok-trips.ensures.value) in
    let read : c.in_ok-read.read ≡ line_of c.args.feed.now c.args.weights.now (get_or c.args.first_trips.now c.loop-line.line 0) =
    c.in_ok-read.ensures.value ∙ ap (λ (xs : List ℕ). line_of_trips c.args.feed.now c.args.weights.now (get_or c.args.first_trips.now c.loop-line.line 0) xs) trips in
    record {
      value = c.in_ok-push.ensures.items ∙ rw (c.loop-line.invariant.value, read) (sym (lines-more (line_of c.args.feed.now c.args.weights.now) c.args.first_trips.now c.loop-line.line 0 c.loop-line-test.true));
      faultless = faults-more (λ first. line_faults (line_of c.args.feed.now c.args.weights.now first)) c.args.first_trips.now c.loop-line.line 0 c.loop-line-test.true
          ∙ ap (λ (xs : List LineFault). xs ++ line_faults (line_of c.args.feed.now c.args.weights.now (get_or c.args.first_trips.now c.loop-line.line 0))) c.loop-line.invariant.faultless
          ∙ ap (λ (xs : List ℕ). line_faults (line_of_trips c.args.feed.now c.args.weights.now (get_or c.args.first_trips.now c.loop-line.line 0) xs)) (sym trips)
          ∙ c.in_ok-read.ensures.faultless;
      before = before-next c.args.counted.now c.loop-line.line c.loop-line.start c.end_of-end.result c.requires.sorted c.loop-line.invariant.before c.end_of-end.ensures.value;
    }

pub returns-in_err-read-clause-refused : goal.returns-in_err-read-clause-refused
returns-in_err-read-clause-refused c =
    let trips = members-run c.args.feed.now c.args.weights.now c.args.first_trips.now c.as_slice.result.now c.args.counted.now c.loop-line.line c.loop-line.start c.end_of-end.result c.requires.sorted
    c.loop-line.invariant.before c.end_of-end.ensures.value c.requires.firsts c.requires.groups c.loop-line-test.true (c.as_slice.ensures.value ∙ c.in_ok-trips.ensures.value) in
    let first : IsFirstFault (line_faults (line_of c.args.feed.now c.args.weights.now (get_or c.args.first_trips.now c.loop-line.line 0))) c.in_err-read.field-0.0 =
    rw trips at c.in_err-read.ensures.refused in
    let p = err_from_is_err_and c.from_residual-in_err-read.result c.from_residual-in_err-read.ensures.1 in
    rw (p.1, p.2, faults-of-lines (line_of c.args.feed.now c.args.weights.now) (firsts c.args.feed.now c.args.weights.now), ← c.requires.firsts)
    (line-refused (λ one. line_faults (line_of c.args.feed.now c.args.weights.now one)) c.args.first_trips.now c.loop-line.line 0 c.in_err-read.field-0.0 c.loop-line-test.true c.loop-line.invariant.faultless first)

pub returns-clause-value : goal.returns-clause-value
returns-clause-value c =
    let all : take c.loop-line.line c.args.first_trips.now ≡ firsts c.args.feed.now c.args.weights.now = take_all c.loop-line.line c.args.first_trips.now c.loop-line-test.false ∙ c.requires.firsts in
    c.loop-line.invariant.value ∙ ap (λ (xs : List ℕ). map (line_of c.args.feed.now c.args.weights.now) xs) all

pub returns-clause-faultless : goal.returns-clause-faultless
returns-clause-faultless c =
    let all : take c.loop-line.line c.args.first_trips.now ≡ firsts c.args.feed.now c.args.weights.now = take_all c.loop-line.line c.args.first_trips.now c.loop-line-test.false ∙ c.requires.firsts in
    faults-of-lines (line_of c.args.feed.now c.args.weights.now) (firsts c.args.feed.now c.args.weights.now)
    ∙ ap (λ (xs : List ℕ). flat_map (λ first. line_faults (line_of c.args.feed.now c.args.weights.now first)) xs) (sym all) ∙ c.loop-line.invariant.faultless
