-- What several sources say of one way.
use Rattle.std.proofs.Common.{◌≡◌, ℕ, ◌==◌, Bool, true, false, List, [], ◌∷◌, ◌++◌, map, refl, ap, inl, inr, Option, None}
use Rattle.std.specs.Prelude.{fold, min, if◌then◌else◌}
use Rattle.std.proofs.lemmas.Bool.{cases_Bool}
use Rattle.demand.specs.declared.tables.WalkRow.{WalkRow}
use Rattle.feed_reader.specs.declared.timetable.Transfer.{Transfer}
use Rattle.network.specs.StopWalks.{by_transfers, by_walks, walk_to}
use Rattle.network.specs.Ways.{merged, ruling_of, seconds_by, walk_by, way_with, with_more}
use Rattle.network.specs.declared.ways.Ruling.{Ruling}
use Rattle.network.specs.declared.ways.Ruling.TheVariants as ruling
use Rattle.network.specs.declared.ways.Way.{Way}

-- the walk by ways of which each is told of the same way
abbrev pub block_walks : List Way → List WalkRow
block_walks [] = []
block_walks (way ∷ ways) = walk_by (fold with_more way ways)

-- the seconds by rulings
abbrev pub seconds_among : List Ruling → Option ℕ
seconds_among [] = None
seconds_among (first ∷ rest) = seconds_by (fold merged first rest)

-- what the rows of the walks file say, and what a station says
abbrev pub listed_rulings : List WalkRow → List Ruling
listed_rulings rows = map (λ row. ruling.Listed row.seconds) rows

abbrev pub station_rulings : Bool → List Ruling
station_rulings true = ruling.Allowed 120 ∷ []
station_rulings false = []

fold-ways : (from to : ℕ) (first : Ruling) (rest : List Ruling) → fold with_more (way_with from to first) (map (way_with from to) rest) ≡ way_with from to (fold merged first rest)
fold-ways from to first [] = refl
fold-ways from to first (next ∷ rest) = fold-ways from to (merged first next) rest

pub block-seconds : (from to : ℕ) (rulings : List Ruling) → block_walks (map (way_with from to) rulings) ≡ (if from == to then [] else walk_to from to (seconds_among rulings))
block-seconds from to [] = elim (cases_Bool (from == to)) [ inl e ↦ rw e refl | inr e ↦ rw e refl ]
block-seconds from to (first ∷ rest) = ap walk_by (fold-ways from to first rest)

allowed-stays : (seconds : ℕ) (rest : List Ruling) → fold merged (ruling.Allowed seconds) rest ≡ ruling.Allowed seconds
allowed-stays seconds [] = refl
allowed-stays seconds (next ∷ rest) = allowed-stays seconds rest

barred-stays : (rest : List Ruling) → fold merged ruling.Barred rest ≡ ruling.Barred
barred-stays [] = refl
barred-stays (next ∷ rest) = barred-stays rest

-- the first row of transfers.txt decides, and then the station
by-transfers : (rows : List Transfer) (shared : Bool) → seconds_among (map ruling_of rows ++ station_rulings shared) ≡ by_transfers rows shared
by-transfers [] true = refl
by-transfers [] false = refl
by-transfers (row ∷ rows) shared = elim (cases_Bool row.barred) [
  | inl e ↦ rw e (ap seconds_by (barred-stays (map ruling_of rows ++ station_rulings shared)))
  | inr e ↦ rw e (ap seconds_by (allowed-stays row.seconds (map ruling_of rows ++ station_rulings shared)))
]

-- a row of the walks file decides over those
listed-stays : (seconds : ℕ) (rows : List Transfer) (shared : Bool) → fold merged (ruling.Listed seconds) (map ruling_of rows ++ station_rulings shared) ≡ ruling.Listed seconds
listed-stays seconds [] true = refl
listed-stays seconds [] false = refl
listed-stays seconds (row ∷ rows) shared = elim (cases_Bool row.barred) [
  | inl e ↦ rw e (listed-stays seconds rows shared)
  | inr e ↦ rw e (listed-stays seconds rows shared)
]

least-listed : (seconds : ℕ) (walks : List WalkRow) (rows : List Transfer) (shared : Bool)
    → fold merged (ruling.Listed seconds) (listed_rulings walks ++ (map ruling_of rows ++ station_rulings shared)) ≡ ruling.Listed (fold min seconds (map (λ walk. walk.seconds) walks))
least-listed seconds [] rows shared = listed-stays seconds rows shared
least-listed seconds (walk ∷ walks) rows shared = least-listed (min seconds walk.seconds) walks rows shared

-- the seconds of the definition
pub seconds-are : (walks : List WalkRow) (rows : List Transfer) (shared : Bool)
    → seconds_among (listed_rulings walks ++ (map ruling_of rows ++ station_rulings shared)) ≡ by_walks walks (by_transfers rows shared)
seconds-are [] rows shared = by-transfers rows shared
seconds-are (walk ∷ walks) rows shared = ap seconds_by (least-listed walk.seconds walks rows shared)
