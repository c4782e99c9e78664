-- The timed calls around a place.
use Rattle.std.specs.Prelude.{◌≡◌, ℕ, List, unwrap_or}
use Rattle.feed_reader.specs.declared.row_call.RowCall.{RowCall}
use Rattle.feed_reader.specs.declared.spreading.Gap.{Gap}
use Rattle.feed_reader.specs.Calls.{timed_before, timed_from}

-- a gap is that around a place: the last timed place before it and the first from it on
pub record IsGapAt (calls : List RowCall) (place : ℕ) (gap : Gap) : Type 0 where
  pub first : gap.first ≡ unwrap_or (timed_before calls place) 0
  pub last : gap.last ≡ unwrap_or (timed_from calls place) 0
