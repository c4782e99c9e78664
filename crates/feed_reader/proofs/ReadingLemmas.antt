-- The faults of the files in reading order, part by part.
use Rattle.std.proofs.Common.{◌≡◌, List, [], ◌++◌, append_assoc}
use Rattle.feed_reader.specs.declared.fault.FeedFault.{FeedFault}
use Rattle.feed_reader.specs.Faults.{IsFirstFault}
use Rattle.feed_reader.specs.Feed.{FilesData, feed_faults}
use Rattle.feed_reader.specs.FileFaults.{of_bands, of_calls, of_exceptions, of_lists, of_routes, of_stops, of_transfers, of_trips, of_weeks}
use Rattle.feed_reader.proofs.FaultLemmas.{behind, in-front}

regroup : (a b c d e f g h : List FeedFault) → a ++ b ++ c ++ d ++ e ++ f ++ g ++ h ≡ a ++ (b ++ ((c ++ (d ++ e)) ++ ((f ++ g) ++ h)))
regroup a b c d e f g h = simp append_assoc

pub file-parts : (files : FilesData) → feed_faults files ≡ of_stops files ++ (of_routes files ++ of_lists files)
file-parts files = regroup (of_stops files) (of_routes files) (of_weeks files) (of_exceptions files) (of_trips files) (of_calls files) (of_bands files) (of_transfers files)

-- the first fault of the second of three parts
pub second-part : (a b c : List FeedFault) (e : FeedFault) → a ≡ [] → IsFirstFault b e → IsFirstFault (a ++ (b ++ c)) e
second-part a b c e none h = behind a (b ++ c) e none (in-front b c e h)
