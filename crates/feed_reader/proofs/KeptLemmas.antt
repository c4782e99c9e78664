-- What is kept of ids by flags, and the number of an id among it.
use Rattle.std.proofs.Common.{◌≡◌, ℕ, suc, ◌+◌, ◌<◌, ◌≤◌, Bool, true, false, List, [], ◌∷◌, ◌++◌, Option, Some, None, length, take, get_or, refl, sym, ap, ◌∙◌, inl, inr, arith, IfSome}
use Rattle.std.specs.Prelude.{if◌then◌else◌, All, filter, filter_map, option_map, slice_index_or}
use Rattle.std.specs.List.{AllByRecursion, IsDistinct, cons_option, position_from}
use Rattle.std.specs.Str.{bytes_eq}
use Rattle.std.proofs.lemmas.Bool.{cases_Bool}
use Rattle.std.proofs.lemmas.List.{take_more, length-append}
use Rattle.std.proofs.lemmas.List.Elements.{All-append, All-nil, All-push, filter-append}
use Rattle.std.proofs.lemmas.Slice.Eq.{bytes_eq-Decides}
use Rattle.gtfs_rows.specs.declared.timetable.Band.{Band}
use Rattle.feed_reader.specs.BandRows.{HasHeadway, IsBandWithin, band_by}
use Rattle.feed_reader.specs.Faults.{Fields}
use Rattle.feed_reader.specs.Frequencies.{band_of, band_trip, bands_of}
use Rattle.feed_reader.specs.Ids.{number_of}
use Rattle.feed_reader.specs.Kept.{kept_number, kept_of, numbers_from}
use Rattle.feed_reader.proofs.IdLemmas.{number-within}
use Rattle.feed_reader.proofs.RowLemmas.{all-rows, given-more}

-- how many flags are true
abbrev pub trues : List Bool → ℕ
trues kept = length (filter (λ keep. keep) kept)

numbers-push : (count : ℕ) (kept : List Bool) (keep : Bool) → numbers_from count (kept ++ keep ∷ []) ≡ numbers_from count kept ++ (if keep then Some (count + trues kept) else None) ∷ []
numbers-push count [] true = let e : count + 0 ≡ count = omega arith in rw e refl
numbers-push count [] false = refl
numbers-push count (true ∷ kept) keep =
    let e : count + 1 + trues kept ≡ count + suc (trues kept) = omega arith in
    ap (λ (rest : List (Option ℕ)). Some count ∷ rest) (numbers-push (count + 1) kept keep ∙ ap (λ (n : ℕ). numbers_from (count + 1) kept ++ (if keep then Some n else None) ∷ []) e)
numbers-push count (false ∷ kept) keep = ap (λ (rest : List (Option ℕ)). None ∷ rest) (numbers-push count kept keep)

-- one more flag
flags-more : (kept : List Bool) (i : ℕ) → i < length kept → take (i + 1) kept ≡ take i kept ++ get_or kept i false ∷ []
flags-more kept i lt = take_more kept i false lt

pub numbers-more : (kept : List Bool) (i count : ℕ) (number : Option ℕ) (old new : List (Option ℕ)) → i < length kept → count ≡ trues (take i kept) → old ≡ numbers_from 0 (take i kept)
    → number ≡ (if get_or kept i false then Some count else None) → new ≡ old ++ number ∷ [] → new ≡ numbers_from 0 (take (i + 1) kept)
numbers-more kept i count number old new lt counted before is now =
    let zero-first : 0 + trues (take i kept) ≡ count = omega (arith, counted) in
    now ∙ ap (λ (xs : List (Option ℕ)). xs ++ number ∷ []) before ∙ ap (λ (n : Option ℕ). numbers_from 0 (take i kept) ++ n ∷ []) is
    ∙ ap (λ (n : ℕ). numbers_from 0 (take i kept) ++ (if get_or kept i false then Some n else None) ∷ []) (sym zero-first)
    ∙ sym (ap (numbers_from 0) (flags-more kept i lt) ∙ numbers-push 0 (take i kept) (get_or kept i false))

one-true : (keep : Bool) → trues (keep ∷ []) ≡ (if keep then 1 else 0)
one-true true = refl
one-true false = refl

one-within : (keep : Bool) → (if keep then 1 else 0) ≤ 1
one-within true = omega arith
one-within false = omega arith

pub trues-more : (kept : List Bool) (i count one : ℕ) → i < length kept → count ≡ trues (take i kept) → one ≡ (if get_or kept i false then 1 else 0)
    → (count + one ≡ trues (take (i + 1) kept)) × (one ≤ 1)
trues-more kept i count one lt counted is =
    let split : trues (take i kept ++ get_or kept i false ∷ []) ≡ trues (take i kept) + trues (get_or kept i false ∷ [])
    = ap (λ (xs : List Bool). length xs) (filter-append (λ (k : Bool). k) (take i kept) (get_or kept i false ∷ []))
    ∙ length-append (filter (λ (k : Bool). k) (take i kept)) (filter (λ (k : Bool). k) (get_or kept i false ∷ [])) in
    let whole : trues (take (i + 1) kept) ≡ trues (take i kept) + trues (get_or kept i false ∷ []) = ap trues (flags-more kept i lt) ∙ split in
    let last = one-true (get_or kept i false) in
    let most = one-within (get_or kept i false) in
    (omega (arith, whole, last, counted, is), omega (arith, most, is))

-- there is a number for each
pub length-numbers : (count : ℕ) (kept : List Bool) → length (numbers_from count kept) ≡ length kept
length-numbers count [] = refl
length-numbers count (true ∷ kept) = let rest = length-numbers (count + 1) kept in omega (arith, rest)
length-numbers count (false ∷ kept) = let rest = length-numbers count kept in omega (arith, rest)

-- what is nowhere is not kept
none-from : (id : List ℕ) (ids : List (List ℕ)) (kept : List Bool) (s z : ℕ) → position_from (bytes_eq id) s ids ≡ None → position_from (bytes_eq id) z (kept_of ids kept) ≡ None
none-from id [] kept s z h = refl
none-from id (x ∷ ids) [] s z h = refl
none-from id (x ∷ ids) (true ∷ kept) s z h = elim (cases_Bool (bytes_eq id x)) [
  | inl here ↦ let found : Some s ≡ None = rw here at h in absurd (cc found)
  | inr not ↦ let later : position_from (bytes_eq id) (s + 1) ids ≡ None = rw not at h in rw not (none-from id ids kept (s + 1) (z + 1) later)
]
none-from id (x ∷ ids) (false ∷ kept) s z h = elim (cases_Bool (bytes_eq id x)) [
  | inl here ↦ let found : Some s ≡ None = rw here at h in absurd (cc found)
  | inr not ↦ let later : position_from (bytes_eq id) (s + 1) ids ≡ None = rw not at h in none-from id ids kept (s + 1) z later
]

-- an id that differs from all is none of those that are kept
gone : (x : List ℕ) (ids : List (List ℕ)) (kept : List Bool) (z : ℕ) → AllByRecursion (λ y. bytes_eq x y ≡ false) ids → position_from (bytes_eq x) z (kept_of ids kept) ≡ None
gone x [] kept z all = refl
gone x (y ∷ ids) [] z all = refl
gone x (y ∷ ids) (true ∷ kept) z all = rw all.0 (gone x ids kept (z + 1) all.1)
gone x (y ∷ ids) (false ∷ kept) z all = gone x ids kept z all.1

-- the number of an id among those that are kept, by its number among all
kept-from : (id : List ℕ) (ids : List (List ℕ)) (kept : List Bool) (s z n : ℕ) → length kept ≡ length ids → IsDistinct bytes_eq ids → position_from (bytes_eq id) s ids ≡ Some n
    → (k : ℕ) × (s + k ≡ n) × (position_from (bytes_eq id) z (kept_of ids kept) ≡ slice_index_or (numbers_from z kept) k None)
unfolding IsDistinct
kept-from id [] kept s z n size distinct h = absurd (cc h)
kept-from id (x ∷ ids) [] s z n size distinct h = absurd (omega (arith, size))
kept-from id (x ∷ ids) (true ∷ kept) s z n size distinct h = elim (cases_Bool (bytes_eq id x)) [
  | inl here ↦ let is : Some s ≡ Some n = rw here at h in let at : s ≡ n = cc is in (0, omega arith, rw here refl)
  | inr not ↦
      let later = kept-from id ids kept (s + 1) (z + 1) n (omega (arith, size)) distinct.1 (rw not at h) in
      (suc later.0, omega (arith, later.1), rw not later.2)
]
kept-from id (x ∷ ids) (false ∷ kept) s z n size distinct h = elim (cases_Bool (bytes_eq id x)) [
  | inl here ↦
      let is : Some s ≡ Some n = rw here at h in
      let at : s ≡ n = cc is in
      let same : id ≡ x = (bytes_eq-Decides id x).0 here in
      (0, omega arith, ap (λ (t : List ℕ). position_from (bytes_eq t) z (kept_of ids kept)) same ∙ gone x ids kept z distinct.0)
  | inr not ↦
      let later = kept-from id ids kept (s + 1) z n (omega (arith, size)) distinct.1 (rw not at h) in
      (suc later.0, omega (arith, later.1), later.2)
]

pub kept-is : (ids : List (List ℕ)) (kept : List Bool) (id : List ℕ) → length kept ≡ length ids → IsDistinct bytes_eq ids → kept_number ids (numbers_from 0 kept) id ≡ number_of (kept_of ids kept) id
kept-is ids kept id size distinct = by (number_of ids id) refl
  where
    by : (found : Option ℕ) → number_of ids id ≡ found → kept_number ids (numbers_from 0 kept) id ≡ number_of (kept_of ids kept) id
    by None h = rw h (sym (none-from id ids kept 0 0 h))
    by (Some n) h =
        let f = kept-from id ids kept 0 0 n size distinct h in
        let same : f.0 ≡ n = omega (arith, f.1) in
        let is : position_from (bytes_eq id) 0 (kept_of ids kept) ≡ slice_index_or (numbers_from 0 kept) n None = rw same at f.2 in
        rw h (sym is)

-- the bands by these numbers
bands-by : (ids kept : List (List ℕ)) (numbers : List (Option ℕ)) (rows : List Fields) → ((id : List ℕ) → kept_number ids numbers id ≡ number_of kept id) → filter_map (band_by ids numbers) rows ≡ bands_of kept rows
bands-by ids kept numbers [] same = refl
bands-by ids kept numbers (row ∷ rows) same =
    ap (λ (found : Option ℕ). cons_option (option_map (band_of row) found) (filter_map (band_by ids numbers) rows)) (same (band_trip row))
    ∙ ap (cons_option (option_map (band_of row) (number_of kept (band_trip row)))) (bands-by ids kept numbers rows same)

pub bands-are : (ids : List (List ℕ)) (kept : List Bool) (rows : List Fields) → length kept ≡ length ids → IsDistinct bytes_eq ids → filter_map (band_by ids (numbers_from 0 kept)) rows ≡ bands_of (kept_of ids kept) rows
bands-are ids kept rows size distinct = bands-by ids (kept_of ids kept) (numbers_from 0 kept) rows (λ id. kept-is ids kept id size distinct)

-- the trip of each band is one of those that are kept
within-each : (kept : List (List ℕ)) (rows : List Fields) → All (λ (band : Band). band.trip < length kept) (bands_of kept rows)
within-each kept [] = All-nil (λ (band : Band). band.trip < length kept)
within-each kept (row ∷ rows) = step (number_of kept (band_trip row)) (number-within kept (band_trip row) (number_of kept (band_trip row)) refl) (within-each kept rows)
  where
    step : (found : Option ℕ) → IfSome found (λ k. k < length kept) → All (λ (band : Band). band.trip < length kept) (bands_of kept rows)
        → All (λ (band : Band). band.trip < length kept) (cons_option (option_map (band_of row) found) (bands_of kept rows))
    step None h rest = rest
    step (Some n) h rest = All-append (λ (band : Band). band.trip < length kept) (band_of row n ∷ []) (bands_of kept rows)
        (All-push (λ (band : Band). band.trip < length kept) [] (band_of row n) (All-nil (λ (band : Band). band.trip < length kept)) h) rest

pub bands-within : (kept : List (List ℕ)) (rows : List Fields) (bands : List Band) → bands ≡ bands_of kept rows → All HasHeadway bands → All (IsBandWithin (length kept)) bands
bands-within kept rows bands is headways =
    let trips : All (λ (band : Band). band.trip < length kept) bands = rw is (within-each kept rows) in
    λ k d lt. record { trip = trips k d lt; some = (headways k d lt).some; most = (headways k d lt).most }

-- the bands of all rows
pub bands-done : (ids : List (List ℕ)) (kept : List Bool) (numbers : List (Option ℕ)) (rows : List Fields) (row : ℕ) (bands : List Band) → numbers ≡ numbers_from 0 kept → row ≡ length rows
    → bands ≡ filter_map (band_by ids numbers) (take row rows) → length kept ≡ length ids → IsDistinct bytes_eq ids → bands ≡ bands_of (kept_of ids kept) rows
bands-done ids kept numbers rows row bands is done so-far size distinct =
    so-far ∙ ap (λ (n : ℕ). filter_map (band_by ids numbers) (take n rows)) done ∙ ap (filter_map (band_by ids numbers)) (all-rows rows)
    ∙ ap (λ (ns : List (Option ℕ)). filter_map (band_by ids ns) rows) is ∙ bands-are ids kept rows size distinct

pub bands-more : (ids : List (List ℕ)) (numbers : List (Option ℕ)) (rows : List Fields) (row : ℕ) (shown : List (Option ℕ)) (old new : List Band) → row < length rows → shown ≡ numbers
    → old ≡ filter_map (band_by ids numbers) (take row rows) → new ≡ old ++ filter_map (band_by ids shown) (get_or rows row [] ∷ []) → new ≡ filter_map (band_by ids numbers) (take (row + 1) rows)
bands-more ids numbers rows row shown old new lt same before now =
    now ∙ ap (λ (xs : List Band). xs ++ filter_map (band_by ids shown) (get_or rows row [] ∷ [])) before
    ∙ ap (λ (ns : List (Option ℕ)). filter_map (band_by ids numbers) (take row rows) ++ filter_map (band_by ids ns) (get_or rows row [] ∷ [])) same
    ∙ sym (given-more (band_by ids numbers) rows row [] lt)
