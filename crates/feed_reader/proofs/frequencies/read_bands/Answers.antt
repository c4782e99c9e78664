use Rattle.std.proofs.Common.{◌≡◌, ◌<◌, ◌∙◌, ℕ, List, Option, length, ap, arith}
use Rattle.std.proofs.lemmas.Result.{err_from_is_err_and}
use Rattle.feed_reader.specs.Frequencies.{band_faults}
use Rattle.feed_reader.specs.Kept.{kept_of}
use Rattle.feed_reader.proofs.FaultLemmas.{first-of-rows, none-more}
use Rattle.feed_reader.proofs.KeptLemmas.{bands-done, bands-more, bands-within, length-numbers}
use Rattle.feed_reader.proofs.frequencies.read_bands.Goals as goal

pub push_band-requires-clause-one_each : goal.push_band-requires-clause-one_each
push_band-requires-clause-one_each c =
    ap (λ (numbers : List (Option ℕ)). length numbers) (c.deref.ensures.value ∙ c.in_ok-numbers.ensures.value) ∙ length-numbers 0 c.args.kept.now ∙ c.requires.one_each

pub returns-in_err-push_band-clause-refused : goal.returns-in_err-push_band-clause-refused
returns-in_err-push_band-clause-refused c =
    let p = err_from_is_err_and c.from_residual-in_err-push_band.result c.from_residual-in_err-push_band.ensures.1 in
    let lt : c.loop-row.row < length c.args.sheet.now.rows = omega arith in
    rw (p.1, p.2) (first-of-rows (band_faults c.args.trips.now c.args.sheet.now.rows) c.args.sheet.now.rows c.loop-row.row c.in_err-push_band.field-0.0 lt c.loop-row.invariant.none c.in_err-push_band.ensures.refused)

pub loop-row-preserved : goal.loop-row-preserved
loop-row-preserved c =
    let lt : c.loop-row.row < length c.args.sheet.now.rows = omega arith in
    record {
      bands = bands-more c.args.trips.now c.in_ok-numbers.numbers.items c.args.sheet.now.rows c.loop-row.row c.deref.result.now c.loop-row.bands.items c.push_band.new.bands.items lt c.deref.ensures.value
          c.loop-row.invariant.bands c.in_ok-push_band.ensures.band;
      headways = c.in_ok-push_band.ensures.headways;
      none = none-more (band_faults c.args.trips.now c.args.sheet.now.rows) c.loop-row.row c.loop-row.invariant.none c.in_ok-push_band.ensures.faultless;
    }

pub returns-clause-bands : goal.returns-clause-bands
returns-clause-bands c =
    let done : c.loop-row.row ≡ length c.args.sheet.now.rows = omega arith in
    bands-done c.args.trips.now c.args.kept.now c.in_ok-numbers.numbers.items c.args.sheet.now.rows c.loop-row.row c.loop-row.bands.items c.in_ok-numbers.ensures.value done c.loop-row.invariant.bands c.requires.one_each
    c.requires.distinct

pub returns-clause-numbers : goal.returns-clause-numbers
returns-clause-numbers c = bands-within (kept_of c.args.trips.now c.args.kept.now) c.args.sheet.now.rows c.loop-row.bands.items (returns-clause-bands c) c.loop-row.invariant.headways
