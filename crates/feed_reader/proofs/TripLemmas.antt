-- Steps over the rows of trips.txt.
use Rattle.std.proofs.Common.{◌≡◌, ℕ, zero, suc, ◌+◌, ◌<◌, Bool, true, false, List, [], ◌∷◌, ◌++◌, Some, None, length, take, map, get_or, refl, sym, ap, ◌∙◌, inl, inr, arith, subst}
use Rattle.std.specs.Prelude.{if◌then◌else◌, All}
use Rattle.std.specs.List.{AllZip, IsDistinct, list_any, position_from}
use Rattle.std.specs.Str.{bytes_eq}
use Rattle.std.proofs.lemmas.Bool.{cases_Bool, false_from_ne_true}
use Rattle.std.specs.Cmp.{IsEquivalence}
use Rattle.std.proofs.lemmas.List.Elements.{All-nil}
use Rattle.std.proofs.lemmas.Map.Keys.{IsDistinct-push}
use Rattle.std.proofs.lemmas.Slice.Eq.{bytes_eq-Decides}
use Rattle.feed_reader.specs.declared.timetable.Trip.{Trip}
use Rattle.feed_reader.specs.Faults.{Fields, row_at}
use Rattle.feed_reader.specs.Ids.{number_of}
use Rattle.feed_reader.specs.Kept.{kept_of}
use Rattle.feed_reader.specs.Numbered.{noted}
use Rattle.feed_reader.specs.TripRows.{IsTripOfRow, IsTripWithin}
use Rattle.feed_reader.specs.Trips.{trip_of, trip_route, trip_service}
use Rattle.feed_reader.proofs.IdLemmas.{number-within}
use Rattle.feed_reader.proofs.RowLemmas.{all-rows, zip-more}
use Rattle.feed_reader.proofs.ServiceLemmas.{number-noted}
use Rattle.feed_reader.proofs.CalendarLemmas.{zip-each}

-- a trip stays that of its row, with one more service noted
trip-noted : (routes services : List (List ℕ)) (id : List ℕ) (row : Fields) (trip : Trip) → IsTripOfRow routes services row trip → IsTripOfRow routes (noted services id) row trip
trip-noted routes services id row trip h = record { id = h.id; route = h.route; service = number-noted services id (trip_service row) trip.service h.service }

-- one more trip
pub trips-more : (routes : List (List ℕ)) (rows : List Fields) (row : ℕ) (old new : List (List ℕ)) (trips more : List Trip) (trip : Trip) → row < length rows
    → AllZip (IsTripOfRow routes old) (take row rows) trips → new ≡ noted old (trip_service (row_at rows row)) → IsTripOfRow routes new (row_at rows row) trip → more ≡ trips ++ trip ∷ []
    → AllZip (IsTripOfRow routes new) (take (row + 1) rows) more
trips-more routes rows row old new trips more trip lt all grown one is =
    let kept = zip-each (IsTripOfRow routes old) (IsTripOfRow routes (noted old (trip_service (row_at rows row)))) (take row rows) trips (trip-noted routes old (trip_service (row_at rows row))) all in
    let stay : AllZip (IsTripOfRow routes new) (take row rows) trips = subst (λ (services : List (List ℕ)). AllZip (IsTripOfRow routes services) (take row rows) trips) (sym grown) kept in
    subst (λ (list : List Trip). AllZip (IsTripOfRow routes new) (take (row + 1) rows) list) (sym is) (zip-more (IsTripOfRow routes new) rows row [] trips trip lt stay one)

-- the trip of a row is the one of the definition
one-trip : (routes services : List (List ℕ)) (row : Fields) (trip : Trip) → IsTripOfRow routes services row trip → trip ≡ trip_of routes services row
one-trip routes services row trip h = rw (h.route, h.service, ← h.id) refl

pub all-trips : (routes services : List (List ℕ)) (rows : List Fields) (trips : List Trip) → AllZip (IsTripOfRow routes services) rows trips → trips ≡ map (trip_of routes services) rows
all-trips routes services [] [] all = refl
all-trips routes services [] (t ∷ trips) all = absurd all
all-trips routes services (row ∷ rows) [] all = absurd all
all-trips routes services (row ∷ rows) (t ∷ trips) all =
    let one = one-trip routes services row t all.0 in
    let rest = all-trips routes services rows trips all.1 in
    ap (λ (first : Trip). first ∷ trips) one ∙ ap (λ (more : List Trip). trip_of routes services row ∷ more) rest

-- its route and its service are there
one-within : (routes services : List (List ℕ)) (row : Fields) (trip : Trip) → IsTripOfRow routes services row trip → IsTripWithin (length routes) (length services) trip
one-within routes services row trip h = record {
  route = number-within routes (trip_route row) (Some trip.route) (sym h.route);
  service = number-within services (trip_service row) (Some trip.service) (sym h.service);
}

pub trips-within : (routes services : List (List ℕ)) (rows : List Fields) (trips : List Trip) → AllZip (IsTripOfRow routes services) rows trips → All (IsTripWithin (length routes) (length services)) trips
trips-within routes services [] [] all = All-nil (IsTripWithin (length routes) (length services))
trips-within routes services [] (t ∷ trips) all = absurd all
trips-within routes services (row ∷ rows) [] all = absurd all
trips-within routes services (row ∷ rows) (t ∷ trips) all = at (trips-within routes services rows trips all.1)
  where
    at : All (IsTripWithin (length routes) (length services)) trips → (k : ℕ) (d : Trip) → k < length (t ∷ trips) → IsTripWithin (length routes) (length services) (get_or (t ∷ trips) k d)
    at rest zero d lt = one-within routes services row t all.0
    at rest (suc k) d lt = rest k d (omega (arith, lt))

-- the same of all rows
all-zipped : (routes services : List (List ℕ)) (rows : List Fields) (row : ℕ) (trips : List Trip) → row ≡ length rows → AllZip (IsTripOfRow routes services) (take row rows) trips → AllZip (IsTripOfRow routes services) rows trips
all-zipped routes services rows row trips done all =
    let whole : take row rows ≡ rows = ap (λ (n : ℕ). take n rows) done ∙ all-rows rows in
    subst (λ (xs : List Fields). AllZip (IsTripOfRow routes services) xs trips) whole all

pub trips-done : (routes services : List (List ℕ)) (rows : List Fields) (row : ℕ) (trips : List Trip) → row ≡ length rows → AllZip (IsTripOfRow routes services) (take row rows) trips → trips ≡ map (trip_of routes services) rows
trips-done routes services rows row trips done all = all-trips routes services rows trips (all-zipped routes services rows row trips done all)

pub within-done : (routes services : List (List ℕ)) (rows : List Fields) (row : ℕ) (trips : List Trip) → row ≡ length rows → AllZip (IsTripOfRow routes services) (take row rows) trips
    → All (IsTripWithin (length routes) (length services)) trips
within-done routes services rows row trips done all = trips-within routes services rows trips (all-zipped routes services rows row trips done all)

-- ids stay distinct with a new one behind
not-any : (id : List ℕ) (ids : List (List ℕ)) (s : ℕ) → position_from (bytes_eq id) s ids ≡ None → list_any (bytes_eq id) ids ≡ false
not-any id [] s h = refl
not-any id (x ∷ ids) s h = elim (cases_Bool (bytes_eq id x)) [
  | inl here ↦ let found : Some s ≡ None = rw here at h in absurd (cc found)
  | inr not ↦ let later : position_from (bytes_eq id) (s + 1) ids ≡ None = rw not at h in rw not (not-any id ids (s + 1) later)
]

swapped : (xs ys : List ℕ) → bytes_eq xs ys ≡ bytes_eq ys xs
swapped xs ys = elim (cases_Bool (bytes_eq xs ys)) [
  | inl h ↦ h ∙ sym ((bytes_eq-Decides ys xs).1 (sym ((bytes_eq-Decides xs ys).0 h)))
  | inr h ↦ h ∙ sym (false_from_ne_true _ (λ k. let back = (bytes_eq-Decides xs ys).1 (sym ((bytes_eq-Decides ys xs).0 k)) in absurd (cc (h, back))))
]

bytes-laws : IsEquivalence bytes_eq
bytes-laws = record {
  refl = λ x. (bytes_eq-Decides x x).1 refl;
  symm = swapped;
  congr = λ x y z h. ap (λ (t : List ℕ). bytes_eq t z) ((bytes_eq-Decides x y).0 h);
}

pub distinct-more : (ids more : List (List ℕ)) (id : List ℕ) → IsDistinct bytes_eq ids → number_of ids id ≡ None → more ≡ ids ++ id ∷ [] → IsDistinct bytes_eq more
distinct-more ids more id all new is = subst (λ (xs : List (List ℕ)). IsDistinct bytes_eq xs) (sym is) (IsDistinct-push bytes-laws ids id all (not-any id ids 0 new))

pub distinct-none : (ids : List (List ℕ)) → ids ≡ [] → IsDistinct bytes_eq ids
unfolding IsDistinct
distinct-none ids is = rw is tt

-- one more trip of those that are kept
kept-more : (xs : List Trip) (kept : List Bool) (n : ℕ) (x : Trip) → n < length xs → length kept ≡ length xs → x ≡ get_or xs n x
    → kept_of (take (n + 1) xs) kept ≡ kept_of (take n xs) kept ++ (if get_or kept n false then x ∷ [] else [])
kept-more [] kept n x lt size is = absurd (omega (arith, lt))
kept-more (y ∷ ys) [] n x lt size is = absurd (omega (arith, size))
kept-more (y ∷ ys) (true ∷ ks) zero x lt size is = rw is refl
kept-more (y ∷ ys) (false ∷ ks) zero x lt size is = refl
kept-more (y ∷ ys) (true ∷ ks) (suc n) x lt size is =
    let step : suc n + 1 ≡ suc (n + 1) = omega arith in
    rw step (ap (λ (rest : List Trip). y ∷ rest) (kept-more ys ks n x (omega (arith, lt)) (omega (arith, size)) is))
kept-more (y ∷ ys) (false ∷ ks) (suc n) x lt size is =
    let step : suc n + 1 ≡ suc (n + 1) = omega arith in
    rw step (kept-more ys ks n x (omega (arith, lt)) (omega (arith, size)) is)

pub kept-step : (xs : List Trip) (kept : List Bool) (n number more : ℕ) (x : Trip) (old new : List Trip) → n < length xs → length kept ≡ length xs → number ≡ n → more ≡ n + 1 → x ≡ get_or xs n x
    → old ≡ kept_of (take n xs) kept → new ≡ old ++ (if get_or kept number false then x ∷ [] else []) → new ≡ kept_of (take more xs) kept
kept-step xs kept n number more x old new lt size same next is before now =
    now ∙ ap (λ (list : List Trip). list ++ (if get_or kept number false then x ∷ [] else [])) before
    ∙ ap (λ (k : ℕ). kept_of (take n xs) kept ++ (if get_or kept k false then x ∷ [] else [])) same
    ∙ sym (ap (λ (k : ℕ). kept_of (take k xs) kept) next ∙ kept-more xs kept n x lt size is)
