-- The first fault of means, and of lines, one after the other.
use Rattle.std.proofs.Common.{◌≡◌, ℕ, zero, suc, ◌+◌, ◌-◌, ◌<◌, ◌≤◌, List, [], ◌∷◌, ◌++◌, Option, Some, None, length, take, drop, get_or, refl, sym, ap, ◌∙◌, inl, inr, arith, append_assoc}
use Rattle.std.specs.Prelude.{flat_map, map, slice_get}
use Rattle.std.specs.List.{range_with_len}
use Rattle.std.proofs.lemmas.Grind.{flat_map-append}
use Rattle.std.proofs.lemmas.List.{append-nil, map-append, take_more}
use Rattle.std.proofs.lemmas.Option.{slice_get-get_or}
use Rattle.std.proofs.lemmas.List.FromFn.{map-range_with_len_more}
use Rattle.feed_reader.specs.declared.timetable.Trip.{Trip}
use Rattle.feed_reader.specs.Feed.{FeedData}
use Rattle.headways.specs.declared.fault.Limit.TheVariants as limit
use Rattle.headways.specs.declared.fault.LineFault.{LineFault}
use Rattle.headways.specs.declared.line.Line.{Line}
use Rattle.headways.specs.declared.line.LinePlace.{LinePlace}
use Rattle.headways.specs.declared.means.Part.{Part}
use Rattle.headways.specs.declared.means.Part.TheVariants.{Ride, Dwell}
use Rattle.headways.specs.Faults.{IsFirstFault, cost_faults, limit_faults, line_faults}
use Rattle.definitions.specs.declared.limits.TheConstants.{COST_LIMIT}
use Rattle.headways.specs.Lines.{dwell_of, ride_of, route_of}
use Rattle.headways.specs.Means.{begin_of, mean_of, means_of}

first-some : {A : Type 0} (xs ys : List A) (x : A) → slice_get xs 0 ≡ Some x → slice_get (xs ++ ys) 0 ≡ Some x
first-some [] ys x h = absurd (cc h)
first-some (y ∷ xs) ys x h = h

pub first-front : (xs ys : List LineFault) (f : LineFault) → IsFirstFault xs f → IsFirstFault (xs ++ ys) f
first-front xs ys f (inl e) = inl e
first-front xs ys f (inr e) = inr (first-some xs ys f e)

pub begin-most : (part : Part) → begin_of part ≤ 1
begin-most Ride = omega arith
begin-most Dwell = omega arith

range-split : (a m k : ℕ) → range_with_len a (m + k) ≡ range_with_len a m ++ range_with_len (a + m) k
range-split a zero k = let e : 0 + k ≡ k = omega arith in let z : a + 0 ≡ a = omega arith in rw (e, z) refl
range-split a (suc m) k =
    let e : suc m + k ≡ suc (m + k) = omega arith in
    let z : a + 1 + m ≡ a + suc m = omega arith in
    rw e (ap (λ (xs : List ℕ). a ∷ xs) (rw z at (range-split (a + 1) m k)))

pub cut-range : (a place end : ℕ) → a ≤ place → place < end → range_with_len a (end - a) ≡ range_with_len a (place - a) ++ place ∷ range_with_len (place + 1) (end - place - 1)
cut-range a place end le lt =
    let size : end - a ≡ (place - a) + suc (end - place - 1) = omega arith in
    let here : a + (place - a) ≡ place = omega arith in
    rw size (rw here at (range-split a (place - a) (suc (end - place - 1))))

-- one more place
pub means-more : (feed : FeedData) (weights trips : List ℕ) (part : Part) (place : ℕ) → begin_of part ≤ place
    → means_of feed weights trips part (place + 1) ≡ means_of feed weights trips part place ++ mean_of feed weights trips part place ∷ []
means-more feed weights trips part place le =
    let size : place + 1 - begin_of part ≡ (place - begin_of part) + 1 = omega arith in
    rw size (map-range_with_len_more (mean_of feed weights trips part) (begin_of part) (place - begin_of part) place (omega arith))

pub costs-more : (ticks : List ℕ) (last : ℕ) → cost_faults (ticks ++ last ∷ []) ≡ cost_faults ticks ++ limit_faults limit.Cost COST_LIMIT last
costs-more ticks last = flat_map-append (limit_faults limit.Cost COST_LIMIT) ticks (last ∷ []) ∙ ap (λ (xs : List LineFault). cost_faults ticks ++ xs) (append-nil (limit_faults limit.Cost COST_LIMIT last))

-- the fault of a mean is the first of all, where those before it have none
pub mean-refused : (feed : FeedData) (weights trips : List ℕ) (part : Part) (place end : ℕ) (f : LineFault) → begin_of part ≤ place → place < end
    → cost_faults (means_of feed weights trips part place) ≡ [] → IsFirstFault (limit_faults limit.Cost COST_LIMIT (mean_of feed weights trips part place)) f
    → IsFirstFault (cost_faults (means_of feed weights trips part end)) f
mean-refused feed weights trips part place end f le lt none first =
    let later : List ℕ = map (mean_of feed weights trips part) (range_with_len (place + 1) (end - place - 1)) in
    let all : means_of feed weights trips part end ≡ means_of feed weights trips part place ++ mean_of feed weights trips part place ∷ later =
    ap (λ (xs : List ℕ). map (mean_of feed weights trips part) xs) (cut-range (begin_of part) place end le lt)
    ∙ map-append (mean_of feed weights trips part) (range_with_len (begin_of part) (place - begin_of part)) (place ∷ range_with_len (place + 1) (end - place - 1)) in
    let faults : cost_faults (means_of feed weights trips part end) ≡ limit_faults limit.Cost COST_LIMIT (mean_of feed weights trips part place) ++ cost_faults later =
    ap (λ (xs : List ℕ). cost_faults xs) all
    ∙ flat_map-append (limit_faults limit.Cost COST_LIMIT) (means_of feed weights trips part place) (mean_of feed weights trips part place ∷ later)
    ∙ ap (λ (xs : List LineFault). xs ++ (limit_faults limit.Cost COST_LIMIT (mean_of feed weights trips part place) ++ cost_faults later)) none in
    rw faults (first-front (limit_faults limit.Cost COST_LIMIT (mean_of feed weights trips part place)) (cost_faults later) f first)

-- the parts of a line
pub route-is : (feed : FeedData) (trips : List Trip) (first : ℕ) (d : Trip) → trips ≡ feed.trips → first < length feed.trips → (get_or trips first d).route ≡ route_of feed first
route-is feed trips first d e lt = rw (e, slice_get-get_or feed.trips first d lt) refl

pub rides-are : (feed : FeedData) (weights trips : List ℕ) (end count : ℕ) → end ≡ count - 1 → means_of feed weights trips Ride end ≡ map (ride_of feed weights trips) (range_with_len 0 (count - 1))
rides-are feed weights trips end count e = let size : end - 0 ≡ count - 1 = omega arith in rw size refl

pub dwells-are : (feed : FeedData) (weights trips : List ℕ) (end count : ℕ) → end ≡ count - 1 → means_of feed weights trips Dwell end ≡ map (dwell_of feed weights trips) (range_with_len 1 (count - 2))
dwells-are feed weights trips end count e = let size : end - 1 ≡ count - 2 = omega arith in rw size refl

-- equal parts make equal lines
pub same-line : (route route2 weight weight2 : ℕ) (places places2 : List LinePlace) (rides rides2 dwells dwells2 : List ℕ) → route ≡ route2 → weight ≡ weight2 → places ≡ places2 → rides ≡ rides2 → dwells ≡ dwells2
    → ◌≡◌ {A = Line} (record { route = route; weight = weight; places = places; rides = rides; dwells = dwells })
    (record { route = route2; weight = weight2; places = places2; rides = rides2; dwells = dwells2 })
same-line route route2 weight weight2 places places2 rides rides2 dwells dwells2 a b c d e = cc

append-three : (xs ys zs : List LineFault) → (xs ++ ys) ++ zs ≡ xs ++ (ys ++ zs)
append-three xs ys zs = append_assoc xs ys zs

front-none : (xs ys : List LineFault) → xs ++ ys ≡ [] → xs ≡ []
front-none [] ys h = refl
front-none (x ∷ xs) ys h = absurd (cc h)

-- lines, one more of which has this first trip
pub faults-more : (faults : ℕ → List LineFault) (firsts : List ℕ) (i : ℕ) (d : ℕ) → i < length firsts → flat_map faults (take (i + 1) firsts) ≡ flat_map faults (take i firsts) ++ faults (get_or firsts i d)
faults-more faults (x ∷ firsts) zero d lt = append-nil (faults x)
faults-more faults (x ∷ firsts) (suc i) d lt = let e : suc i + 1 ≡ suc (i + 1) = omega arith in rw e (ap (λ (xs : List LineFault). faults x ++ xs) (faults-more faults firsts i d (omega arith)) ∙ sym (append-three (faults x) (flat_map faults (take i firsts)) (faults (get_or firsts i d))))
faults-more faults [] i d lt = absurd (omega arith)

pub line-refused : (faults : ℕ → List LineFault) (firsts : List ℕ) (i : ℕ) (d : ℕ) (f : LineFault) → i < length firsts → flat_map faults (take i firsts) ≡ [] → IsFirstFault (faults (get_or firsts i d)) f
    → IsFirstFault (flat_map faults firsts) f
line-refused faults [] i d f lt none first = absurd (omega arith)
line-refused faults (x ∷ firsts) zero d f lt none first = first-front (faults x) (flat_map faults firsts) f first
line-refused faults (x ∷ firsts) (suc i) d f lt none first =
    let here : faults x ≡ [] = front-none (faults x) (flat_map faults (take i firsts)) none in
    let rest : flat_map faults (take i firsts) ≡ [] = rw here at none in
    rw here (line-refused faults firsts i d f (omega arith) rest first)

pub faults-of-lines : (line : ℕ → Line) (firsts : List ℕ) → flat_map line_faults (map line firsts) ≡ flat_map (λ first. line_faults (line first)) firsts
faults-of-lines line [] = refl
faults-of-lines line (x ∷ firsts) = ap (λ (xs : List LineFault). line_faults (line x) ++ xs) (faults-of-lines line firsts)

pub lines-more : (line : ℕ → Line) (firsts : List ℕ) (i d : ℕ) → i < length firsts → map line (take (i + 1) firsts) ≡ map line (take i firsts) ++ line (get_or firsts i d) ∷ []
lines-more line firsts i d lt = rw (take_more firsts i d lt) (map-append line (take i firsts) (get_or firsts i d ∷ []))
