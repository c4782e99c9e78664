-- Rows of stop_times.txt that stand one behind the other and are of one trip.
use Rattle.std.specs.Prelude.{◌≡◌, ◌≤◌, ◌==◌, ℕ, Bool, List, All, map, flat_map}
use Rattle.std.specs.List.{slice_range}
use Rattle.feed_reader.specs.declared.call_rows.Stretch.{Stretch}
use Rattle.feed_reader.specs.declared.order.TripCall.{TripCall}
use Rattle.feed_reader.specs.declared.row_call.RowCall.{RowCall}

-- the trip of a stretch, by its number among the rows of trips.txt
abbrev pub stretch_trip : Stretch → ℕ
stretch_trip stretch = stretch.trip

-- whether a stretch is of a trip
abbrev pub is_stretch_of : ℕ → Stretch → Bool
is_stretch_of trip stretch = stretch_trip stretch == trip

-- the calls of a stretch, where these are all of the file
abbrev pub calls_on : List RowCall → Stretch → List RowCall
calls_on calls stretch = slice_range calls stretch.start stretch.end

-- the rows of a stretch
abbrev pub stretch_rows : List RowCall → Stretch → List TripCall
stretch_rows calls stretch = map (λ call. record { trip = stretch.trip; call = call }) (calls_on calls stretch)

-- the rows of stretches, one stretch after the other
abbrev pub rows_on : List RowCall → List Stretch → List TripCall
rows_on calls stretches = flat_map (stretch_rows calls) stretches

-- a stretch lies among so many rows
pub record IsWithin (count : ℕ) (stretch : Stretch) : Type 0 where
  pub rises : stretch.start ≤ stretch.end
  pub ends : stretch.end ≤ count

-- the last stretch ends behind so many rows, and those before it lie among them
pub record EndsWith (count : ℕ) (stretches : List Stretch) (last : Stretch) : Type 0 where
  pub before : All (IsWithin count) stretches
  pub rises : last.start ≤ last.end
  pub ends : last.end ≡ count
