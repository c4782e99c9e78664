-- The counted trips with the numbers of their lines, as the code keeps them.
use Rattle.std.specs.Prelude.{◌≡◌, ◌==◌, ◌+◌, ◌*◌, ◌++◌, ℕ, Bool, true, false, List, [], ◌∷◌, Some, None, All, filter, map, slice_get, if◌then◌else◌, Vec}
use Rattle.std.specs.BTreeMap.{BTreeMap, get}
use Rattle.std.specs.Cmp.Lexicographic.{slice_cmp}
use Rattle.std.specs.List.{list_any}
use Rattle.std.specs.Ordering.{nat_cmp}
use Rattle.std.specs.declared.cmp.Ordering.{Ordering}
use Rattle.std.specs.declared.alloc.Global.{Global}
use Rattle.std.specs.Str.{bytes_eq}
use Rattle.feed_reader.specs.declared.timetable.Call.{Call}
use Rattle.feed_reader.specs.Feed.{FeedData}
use Rattle.headways.specs.declared.numbering.Counted.{Counted}
use Rattle.headways.specs.declared.numbering.Numbered.{Numbered}
use Rattle.headways.specs.Lines.{counted_before, firsts, firsts_before, members, route_of}
use Rattle.headways.specs.TripWeights.{calls_of}

-- a flag as a number
abbrev pub bit : Bool → ℕ
bit true = 1
bit false = 0

-- a stop and its two flags in one number
abbrev pub code_of : Call → ℕ
code_of call = 4 * call.stop + 2 * bit call.pickup + bit call.drop

-- what the trips of a line have in common, as numbers
abbrev pub key_of : FeedData → ℕ → List ℕ
key_of feed trip = route_of feed trip ∷ map code_of (calls_of feed trip)

-- the keys of trips
abbrev pub keys_of : FeedData → List ℕ → List (List ℕ)
keys_of feed trips = map (key_of feed) trips

-- the line of a counted trip, by its number
abbrev pub line_number : Counted → ℕ
line_number found = found.line

-- a counted trip has the number of the line that has its key
abbrev pub IsCounted : FeedData → List ℕ → Counted → Type 0
IsCounted feed firsts found = slice_get (keys_of feed firsts) found.line ≡ Some (key_of feed found.trip)

-- the counted trips before a number and the first of each line
pub record AreNumbered (feed : FeedData) (weights : List ℕ) (end : ℕ) (counted : List Counted) (firsts : List ℕ) : Type 0 where
  pub trips : map (λ found. found.trip) counted ≡ counted_before weights end
  pub firsts_are : firsts ≡ firsts_before feed weights end
  pub lines : All (IsCounted feed firsts) counted
  pub distinct : (i j : ℕ) (key : List ℕ) → slice_get (keys_of feed firsts) i ≡ Some key → slice_get (keys_of feed firsts) j ≡ Some key → i ≡ j

-- the counted trips before a number, as they are kept
abbrev pub IsNumbered : FeedData → List ℕ → ℕ → Numbered → Type 0
IsNumbered feed weights end found = AreNumbered feed weights end found.counted.items found.firsts.items

-- the order of keys in a map
abbrev pub key_cmp : Vec ℕ Global → Vec ℕ Global → Ordering
key_cmp one other = slice_cmp nat_cmp one.items other.items

-- a map from keys, each once, to their places
pub record IsKeyed (keys : List (List ℕ)) (numbers : BTreeMap (Vec ℕ Global) ℕ) : Type 0 where
  pub absent : (key : Vec ℕ Global) → get key_cmp numbers key ≡ None → list_any (bytes_eq key.items) keys ≡ false
  pub found : (key : Vec ℕ Global) (place : ℕ) → get key_cmp numbers key ≡ Some place → slice_get keys place ≡ Some key.items

-- the first trips, with this one where its key is new
abbrev pub firsts_with : FeedData → List ℕ → ℕ → List ℕ
firsts_with feed firsts trip = if list_any (bytes_eq (key_of feed trip)) (keys_of feed firsts) then firsts else firsts ++ trip ∷ []

-- each line has its members, by its number
abbrev pub AreGroups : FeedData → List ℕ → List Counted → Type 0
AreGroups feed weights counted = (line first : ℕ) → slice_get (firsts feed weights) line ≡ Some first
    → map (λ found. found.trip) (filter (λ found. line_number found == line) counted) ≡ members feed weights first
