-- The table of the skims to some zones is one, and that to the first of them begins it.
use Rattle.std.proofs.Common.{◌≡◌, ℕ, zero, suc, ◌+◌, ◌<◌, ◌≤◌, ◌==◌, Bool, List, [], ◌∷◌, ◌++◌, Option, None, Some, cond, length, take, refl, sym, ap, ap₂, ◌∙◌, subst, arith}
use Rattle.std.proofs.lemmas.Bool.{false≢true}
use Rattle.std.specs.Prelude.{IsTrue, is_some, slice_index}
use Rattle.std.specs.List.{AllZip, flat_map, range_with_len}
use Rattle.std.specs.Option.{option_map_or}
use Rattle.std.proofs.lemmas.Grind.{flat_map-append}
use Rattle.csv.specs.Writing.{default_writer, row_text}
use Rattle.definitions.specs.Labels.{SolvesLabels}
use Rattle.definitions.specs.Reach.{IsReach, Reaches}
use Rattle.definitions.proofs.LabelLemmas.{labels_unique, reach_unique}
use Rattle.line_report.specs.Tables.{Row, rows_text}
use Rattle.network.specs.Cities.{CityData}
use Rattle.skims.specs.Skims.{AreSkims, part_in, part_of, skim_at, terms_of}
use Rattle.skims.specs.Totals.{PartsAreOne}
use Rattle.skims.specs.declared.part.Part.{Part}
use Rattle.skims.specs.declared.part.Part.TheVariants as parts
use Rattle.skims.specs.declared.skim.Skim.{Skim}
use Rattle.assign.specs.SkimTables.{AreRowsTo, AreSkimsTo, IsSkimTable, row_where, rows_from, rows_to, skim_header}
use Rattle.assign.specs.Visits.{goal_of}
use Rattle.assign.proofs.JobFeedLemmas.{one_list}

-- the text of rows and more rows
pub text_then : (rows more : List Row) → rows_text (rows ++ more) ≡ rows_text rows ++ rows_text more
text_then rows more = flat_map-append (row_text default_writer) rows more

-- ---- one zone

-- a part of a skim that is there
part_there : (rows : List (Option Skim)) (part : Part) (node : ℕ) (skim : Skim) → skim_at rows node ≡ Some skim → part_in rows part node ≡ part_of part skim
part_there rows part node skim is = ap (λ (found : Option Skim). option_map_or (part_of part) found 0) is

-- the skims of one node are one
same_skim : (city : CityData) (goal : ℕ) (reached : List Bool) (labels : List ℕ) (a b : List (Option Skim)) (node : ℕ) → node < city.net.nodes →
    AreSkims city goal reached labels a → AreSkims city goal reached labels b → ((part : Part) → part_in a part node ≡ part_in b part node) → skim_at a node ≡ skim_at b node
same_skim city goal reached labels a b node lt h g same = both (skim_at a node) (skim_at b node) refl refl
  where
    reach_in_b : (found : Option Skim) → skim_at b node ≡ found → Reaches city.net goal node → IsTrue (is_some found)
    reach_in_b found is way = subst (λ (some : Option Skim). IsTrue (is_some some)) is ((g.reaching node lt).1 way)

    reach_in_a : (found : Option Skim) → skim_at a node ≡ found → Reaches city.net goal node → IsTrue (is_some found)
    reach_in_a found is way = subst (λ (some : Option Skim). IsTrue (is_some some)) is ((h.reaching node lt).1 way)

    way_of_a : (skim : Skim) → skim_at a node ≡ Some skim → Reaches city.net goal node
    way_of_a skim is = (h.reaching node lt).0 (subst (λ (some : Option Skim). IsTrue (is_some some)) (sym is) refl)

    way_of_b : (skim : Skim) → skim_at b node ≡ Some skim → Reaches city.net goal node
    way_of_b skim is = (g.reaching node lt).0 (subst (λ (some : Option Skim). IsTrue (is_some some)) (sym is) refl)

    one : (x y : Skim) → skim_at a node ≡ Some x → skim_at b node ≡ Some y → x ≡ y
    one x y p q =
        let label : x.label ≡ y.label = h.labelled node x lt p ∙ sym (g.labelled node y lt q) in
        let walk : x.walk ≡ y.walk = sym (part_there a parts.Walk node x p) ∙ same parts.Walk ∙ part_there b parts.Walk node y q in
        let wait : x.wait ≡ y.wait = sym (part_there a parts.Wait node x p) ∙ same parts.Wait ∙ part_there b parts.Wait node y q in
        let ride : x.ride ≡ y.ride = sym (part_there a parts.Ride node x p) ∙ same parts.Ride ∙ part_there b parts.Ride node y q in
        let board : x.board ≡ y.board = sym (part_there a parts.Board node x p) ∙ same parts.Board ∙ part_there b parts.Board node y q in
        λ i. record { label = label i; walk = walk i; wait = wait i; ride = ride i; board = board i }

    both : (x y : Option Skim) → skim_at a node ≡ x → skim_at b node ≡ y → x ≡ y
    both None None p q = refl
    both (Some x) None p q = absurd (false≢true (reach_in_b None q (way_of_a x p)))
    both None (Some y) p q = absurd (false≢true (reach_in_a None p (way_of_b y q)))
    both (Some x) (Some y) p q = ap (λ (skim : Skim). Some skim) (one x y p q)

-- the skims to a zone are one
same_skims : PartsAreOne → (city : CityData) (zone : ℕ) (a b : List (Option Skim)) → AreSkimsTo city zone a → AreSkimsTo city zone b → (node : ℕ) → node < city.net.nodes →
    skim_at a node ≡ skim_at b node
same_skims law city zone a b h g node lt =
    let goal : ℕ = goal_of city zone in
    let marks : h.reached ≡ g.reached = reach_unique city.net goal h.reached g.reached h.reach g.reach in
    let solves : SolvesLabels city.net goal g.reached h.labels = subst (λ (some : List Bool). SolvesLabels city.net goal some h.labels) marks h.labelled in
    let labels : h.labels ≡ g.labels = labels_unique city.net goal g.reached h.labels g.labels g.well_formed solves g.labelled in
    let skims : AreSkims city goal g.reached g.labels a =
    subst (λ (some : List ℕ). AreSkims city goal g.reached some a) labels (subst (λ (some : List Bool). AreSkims city goal some h.labels a) marks h.are_skims) in
    same_skim city goal g.reached g.labels a b node lt skims g.are_skims
    (λ part. law city.net goal g.reached g.labels (terms_of city part) (part_in a part) (part_in b part) g.well_formed (skims.parts part) (g.are_skims.parts part) node lt)

-- so are the rows to it
same_rows : (names : List (List ℕ)) (zone : ℕ) (a b : List (Option Skim)) (bound from count : ℕ) → from + count ≤ bound →
    ((origin : ℕ) → origin < bound → skim_at a origin ≡ skim_at b origin) → flat_map (rows_from names zone a) (range_with_len from count) ≡ flat_map (rows_from names zone b) (range_with_len from count)
same_rows names zone a b bound from zero within same = refl
same_rows names zone a b bound from (suc count) within same =
    let here : rows_from names zone a from ≡ rows_from names zone b from =
    ap (λ (found : Option Skim). cond (from == zone) [] (row_where names zone from found)) (same from (omega arith)) in
    ap₂ (λ (first rest : List Row). first ++ rest) here (same_rows names zone a b bound (from + 1) count (omega arith) same)

one_rows : PartsAreOne → (city : CityData) (names : List (List ℕ)) → length names ≤ city.net.nodes → (zone : ℕ) (a b : List Row) →
    AreRowsTo city names zone a → AreRowsTo city names zone b → a ≡ b
one_rows law city names each zone a b h g =
    h.are_rows
    ∙ same_rows names zone h.skims g.skims (length names) 0 (length names) (omega arith)
    (λ origin lt. same_skims law city zone h.skims g.skims h.to_zone g.to_zone origin (omega arith))
    ∙ sym g.are_rows

-- ---- some zones

-- a table is one
pub one_skim_table : PartsAreOne → (city : CityData) (names : List (List ℕ)) (zones bytes others : List ℕ) → IsSkimTable city names zones bytes → IsSkimTable city names zones others →
    bytes ≡ others
one_skim_table law city names zones bytes others h g =
    let same : h.parts ≡ g.parts = one_list (AreRowsTo city names) (one_rows law city names g.origin_each) zones h.parts g.parts h.each g.each in
    h.is_text ∙ ap (λ (parts : List (List Row)). rows_text (skim_header ∷ flat_map (λ rows. rows) parts)) same ∙ sym g.is_text

-- what belongs to the first of some things begins what belongs to all
begun_list : {A B : Type 0} (R : A → B → Type 0) → ((x : A) (a b : B) → R x a → R x b → a ≡ b) → (count : ℕ) (xs : List A) (front whole : List B) → AllZip R (take count xs) front →
    AllZip R xs whole → (rest : List B) × (whole ≡ front ++ rest)
begun_list R one zero xs [] whole h g = (whole, refl)
begun_list R one zero xs (a ∷ front) whole h g = absurd h
begun_list R one (suc count) [] [] whole h g = (whole, refl)
begun_list R one (suc count) [] (a ∷ front) whole h g = absurd h
begun_list R one (suc count) (x ∷ xs) [] whole h g = absurd h
begun_list R one (suc count) (x ∷ xs) (a ∷ front) [] h g = absurd g
begun_list R one (suc count) (x ∷ xs) (a ∷ front) (b ∷ whole) h g =
    let later = begun_list R one count xs front whole h.1 g.1 in
    (later.0, ap₂ (λ first next. first ∷ next) (one x b a g.0 h.0) later.1)

-- the table to some first zones begins that to all
pub begins_skim_table : PartsAreOne → (city : CityData) (names : List (List ℕ)) (count : ℕ) (zones begun bytes : List ℕ) → IsSkimTable city names (take count zones) begun →
    IsSkimTable city names zones bytes → (rest : List ℕ) × (bytes ≡ begun ++ rest)
begins_skim_table law city names count zones begun bytes h g =
    let later = begun_list (AreRowsTo city names) (one_rows law city names g.origin_each) count zones h.parts g.parts h.each g.each in
    let rest : List (List Row) = later.0 in (
      rows_text (flat_map (λ rows. rows) rest),
      g.is_text
          ∙ ap (λ (parts : List (List Row)). rows_text (skim_header ∷ flat_map (λ rows. rows) parts)) later.1
          ∙ ap (λ (rows : List Row). rows_text (skim_header ∷ rows)) (flat_map-append (λ (rows : List Row). rows) h.parts rest)
          ∙ text_then (skim_header ∷ flat_map (λ rows. rows) h.parts) (flat_map (λ rows. rows) rest)
          ∙ ap (λ (text : List ℕ). text ++ rows_text (flat_map (λ rows. rows) rest)) (sym h.is_text),
    )
