-- Parts of what is said of a row of transfers.txt.
use Rattle.std.specs.Prelude.{◌||◌, ◌++◌, ℕ, Bool, not, List, map, codes}
use Rattle.feed_reader.specs.declared.fault.FeedFault.{FeedFault}
use Rattle.feed_reader.specs.declared.fault.FeedFault.TheVariants as fault
use Rattle.feed_reader.specs.Columns.{transfers_file}
use Rattle.feed_reader.specs.Faults.{Fields, fault_if, field, is_empty, place_in}
use Rattle.feed_reader.specs.Ids.{is_known}
use Rattle.feed_reader.specs.Stops.{stop_id}

-- whether a row is of some route or trip alone
abbrev pub is_partial : Fields → Bool
is_partial row = not (is_empty (field row 4)) || not (is_empty (field row 5)) || not (is_empty (field row 6)) || not (is_empty (field row 7))

-- the faults of the two sides of a row that is not passed over
abbrev pub unknown_sides : List Fields → ℕ → List ℕ → List ℕ → List FeedFault
unknown_sides stops number from to =
    fault_if (not (is_known (map stop_id stops) from)) (fault.UnknownId (place_in transfers_file number (codes "from_stop_id") from))
    ++ fault_if (not (is_known (map stop_id stops) to)) (fault.UnknownId (place_in transfers_file number (codes "to_stop_id") to))
