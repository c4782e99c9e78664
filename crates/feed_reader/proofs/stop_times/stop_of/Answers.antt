use Rattle.std.proofs.Common.{◌≡◌, map, refl, true, false}
use Rattle.std.specs.Prelude.{◌&&◌, Bool, is_some, not}
use Rattle.feed_reader.specs.Faults.{is_empty}
use Rattle.feed_reader.specs.Ids.{is_known, number_of}
use Rattle.feed_reader.specs.Stops.{stop_id, stop_ids}
use Rattle.feed_reader.proofs.CallRowLemmas.{stop-known}
use Rattle.feed_reader.proofs.stop_times.stop_of.Goals.{then-is_some-via-then-is_some, then-is_some-via-else-is_some+then-is_empty, then-is_some-via-else-is_some+else-is_empty+then-is_known}
use Rattle.feed_reader.proofs.stop_times.stop_of.Goals as goal

and-false : (b : Bool) → (b && false) ≡ false
and-false true = refl
and-false false = refl

pub returns-then-is_some-clause-faultless : goal.returns-then-is_some-clause-faultless
returns-then-is_some-clause-faultless c = elim c.then-is_some.branch [
  | then-is_some-via-then-is_some w ↦
      let some : is_some (number_of (stop_ids c.args.stops.now) c.args.id.now) ≡ true = cc in
      let known = stop-known c.args.stops.now c.args.id.now some in
      rw (known, and-false (not (is_empty c.args.id.now))) refl
  | then-is_some-via-else-is_some+then-is_empty w ↦
      let empty : is_empty c.args.id.now ≡ true = cc in
      rw empty refl
  | then-is_some-via-else-is_some+else-is_empty+then-is_known w ↦
      let known : is_known (map stop_id c.args.stops.now) c.args.id.now ≡ true = cc in
      rw (known, and-false (not (is_empty c.args.id.now))) refl
]
