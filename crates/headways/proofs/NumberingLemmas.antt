-- The counted trips with the numbers of their lines, one trip after the other.
use Rattle.std.proofs.Common.{◌≡◌, ℕ, zero, suc, ◌+◌, ◌<◌, ◌≤◌, Bool, true, false, List, [], ◌∷◌, ◌++◌, Option, Some, None, length, refl, sym, ap, ◌∙◌, inl, inr, arith, cond}
use Rattle.std.specs.Prelude.{◌||◌, ◌==◌, All, filter, map, nat_lt, not, slice_get, slice_index, if◌then◌else◌, Vec}
use Rattle.std.specs.BTreeMap.{BTreeMap, get, is_at}
use Rattle.std.specs.List.{list_any, range_with_len}
use Rattle.std.specs.Str.{bytes_eq}
use Rattle.std.specs.declared.alloc.Global.{Global}
use Rattle.std.proofs.lemmas.Bool.{cases_Bool, false_from_ne_true, lt-ltb}
use Rattle.std.proofs.lemmas.List.{append-nil, length-map, map-append}
use Rattle.std.proofs.lemmas.List.Elements.{All-push, All-weaker, filter-append}
use Rattle.std.proofs.lemmas.List.Folds.{list_any-append}
use Rattle.std.proofs.lemmas.List.FromFn.{length-range_with_len}
use Rattle.std.proofs.lemmas.Map.Text.{is_eq-slice_cmp}
use Rattle.std.proofs.lemmas.Slice.Eq.{bytes_eq-Decides}
use Rattle.feed_reader.specs.Feed.{FeedData}
use Rattle.headways.specs.declared.numbering.Counted.{Counted}
use Rattle.headways.specs.Lines.{counted_before, firsts_before, is_alike, is_led}
use Rattle.headways.specs.Numbering.{AreNumbered, IsCounted, IsKeyed, firsts_with, key_cmp, key_of, keys_of}
use Rattle.headways.proofs.CountedLemmas.{counted-more, firsts-counted, firsts-few, firsts-passed, itself, keys-firsts, led-key, same-bytes, swap-bytes}
use Rattle.headways.proofs.KeyLemmas.{same-key}
use Rattle.headways.proofs.ListLemmas.{any-map, any-same, filter-less, get-cases, get-front, get-seam, range-next}

pub numbered-few : (feed : FeedData) (weights : List ℕ) (end : ℕ) (counted : List Counted) (firsts : List ℕ) → AreNumbered feed weights end counted firsts → length firsts ≤ end
numbered-few feed weights end counted firsts h = rw h.firsts_are (firsts-few feed weights end)

-- the keys of first trips are in the map
pub keyed-none : (numbers : BTreeMap (Vec ℕ Global) ℕ) → numbers.entries ≡ [] → IsKeyed [] numbers
keyed-none numbers e = record { absent = λ key h. refl; found = λ key place h. absurd (let none : get key_cmp numbers key ≡ None = rw e refl in cc (h, none)) }

keyed-at : (k q : Vec ℕ Global) → is_at (key_cmp k) q ≡ bytes_eq k.items q.items
keyed-at k q = is_eq-slice_cmp k.items q.items

pub keyed-push : (keys : List (List ℕ)) (m n : BTreeMap (Vec ℕ Global) ℕ) (k : Vec ℕ Global) (number : ℕ) → IsKeyed keys m → number ≡ length keys
    → ((q : Vec ℕ Global) → get key_cmp n q ≡ cond (is_at (key_cmp k) q) (Some number) (get key_cmp m q)) → IsKeyed (keys ++ k.items ∷ []) n
keyed-push keys m n k number h at put = record {
  absent = λ q none. elim (cases_Bool (bytes_eq k.items q.items)) [
    | inl e ↦ absurd (let there : get key_cmp n q ≡ Some number = put q ∙ rw (keyed-at k q ∙ e) refl in cc (there, none))
    | inr e ↦
        let old : get key_cmp m q ≡ None = sym (put q ∙ rw (keyed-at k q ∙ e) refl) ∙ none in
        let back : bytes_eq q.items k.items ≡ false = swap-bytes q.items k.items ∙ e in
        list_any-append (bytes_eq q.items) keys (k.items ∷ []) ∙ rw (h.absent q old, back) refl
  ];
  found = λ q place is. elim (cases_Bool (bytes_eq k.items q.items)) [
    | inl e ↦
        let there : get key_cmp n q ≡ Some number = put q ∙ rw (keyed-at k q ∙ e) refl in
        let place-is : place ≡ length keys = cc (there, is, at) in
        let key-is : k.items ≡ q.items = same-bytes k.items q.items e in
        rw place-is (get-seam keys k.items ∙ ap (λ (xs : List ℕ). Some xs) key-is)
    | inr e ↦
        let old : get key_cmp m q ≡ Some place = sym (put q ∙ rw (keyed-at k q ∙ e) refl) ∙ is in
        get-front keys (k.items ∷ []) place q.items (h.found q place old)
  ];
}

later : (a b : Bool) → (a || b) ≡ false → b ≡ false
later true b h = absurd (cc h)
later false b h = h

either : (a b : Bool) → b ≡ true → (a || b) ≡ true
either true b h = refl
either false b h = h

-- where an absent key is appended, each stays once
none-at : (k : List ℕ) (keys : List (List ℕ)) (i : ℕ) → list_any (bytes_eq k) keys ≡ false → slice_get keys i ≡ Some k → ⊥
none-at k [] i none h = cc h
none-at k (x ∷ keys) zero none h =
    let is : x ≡ k = cc h in
    let yes : bytes_eq k x ≡ true = rw is (itself k) in
    let bad = rw yes at none in
    cc bad
none-at k (x ∷ keys) (suc i) none h = none-at k keys i (later (bytes_eq k x) (list_any (bytes_eq k) keys) none) h

abbrev pub IsOnce : List (List ℕ) → Type 0
IsOnce keys = (i j : ℕ) (key : List ℕ) → slice_get keys i ≡ Some key → slice_get keys j ≡ Some key → i ≡ j

once-push : (keys : List (List ℕ)) (k : List ℕ) → IsOnce keys → list_any (bytes_eq k) keys ≡ false → IsOnce (keys ++ k ∷ [])
once-push keys k once none i j key hi hj = elim (get-cases keys k i key hi) [
  | inl a ↦ elim (get-cases keys k j key hj) [
    | inl b ↦ once i j key a b
    | inr b ↦ absurd (none-at k keys i none (a ∙ ap (λ (xs : List ℕ). Some xs) (sym b.1)))
  ]
  | inr a ↦ elim (get-cases keys k j key hj) [
    | inl b ↦ absurd (none-at k keys j none (b ∙ ap (λ (xs : List ℕ). Some xs) (sym a.1)))
    | inr b ↦ a.0 ∙ sym b.0
  ]
]

pub numbered-none : (feed : FeedData) (weights : List ℕ) → AreNumbered feed weights 0 [] []
unfolding counted_before firsts_before
numbered-none feed weights = record { trips = refl; firsts_are = refl; lines = λ k d lt. absurd (omega arith); distinct = λ i j key h. absurd (cc h) }

-- a trip that weighs nothing changes nothing
pub numbered-passed : (feed : FeedData) (weights : List ℕ) (trip : ℕ) (counted : List Counted) (firsts : List ℕ) → AreNumbered feed weights trip counted firsts → slice_index weights trip ≡ 0
    → AreNumbered feed weights (trip + 1) counted firsts
numbered-passed feed weights trip counted firsts h none =
    let light : nat_lt 0 (slice_index weights trip) ≡ false = rw none refl in
    record {
      trips = h.trips ∙ sym (counted-more weights trip ∙ rw light refl);
      firsts_are = h.firsts_are ∙ sym (firsts-passed feed weights trip light);
      lines = h.lines;
      distinct = h.distinct;
    }

with-first : (feed : FeedData) (firsts more : List ℕ) (found : Counted) → IsCounted feed firsts found → IsCounted feed (firsts ++ more) found
with-first feed firsts more found h = rw (map-append (key_of feed) firsts more) (get-front (keys_of feed firsts) (keys_of feed more) found.line (key_of feed found.trip) h)

with-trip : (feed : FeedData) (firsts : List ℕ) (trip : ℕ) (found : Counted) → IsCounted feed firsts found → IsCounted feed (firsts_with feed firsts trip) found
with-trip feed firsts trip found h = elim (cases_Bool (list_any (bytes_eq (key_of feed trip)) (keys_of feed firsts))) [
  | inl e ↦ rw e h
  | inr e ↦ rw e (with-first feed firsts (trip ∷ []) found h)
]

once-with : (feed : FeedData) (firsts : List ℕ) (trip : ℕ) → IsOnce (keys_of feed firsts) → IsOnce (keys_of feed (firsts_with feed firsts trip))
once-with feed firsts trip once = elim (cases_Bool (list_any (bytes_eq (key_of feed trip)) (keys_of feed firsts))) [
  | inl e ↦ rw e once
  | inr e ↦ rw (e, map-append (key_of feed) firsts (trip ∷ [])) (once-push (keys_of feed firsts) (key_of feed trip) once e)
]

firsts-with : (feed : FeedData) (weights : List ℕ) (trip : ℕ) → nat_lt 0 (slice_index weights trip) ≡ true
    → firsts_with feed (firsts_before feed weights trip) trip ≡ firsts_before feed weights (trip + 1)
firsts-with feed weights trip some =
    let known : list_any (bytes_eq (key_of feed trip)) (keys_of feed (firsts_before feed weights trip)) ≡ is_led feed weights trip =
    sym (led-key feed weights trip ∙ keys-firsts feed weights trip (key_of feed trip)) in
    rw known (sym (firsts-counted feed weights trip some))

-- a trip of positive weight is counted
pub numbered-more : (feed : FeedData) (weights : List ℕ) (trip line : ℕ) (counted counted2 : List Counted) (firsts firsts2 : List ℕ) → AreNumbered feed weights trip counted firsts
    → 0 < slice_index weights trip → firsts2 ≡ firsts_with feed firsts trip → slice_get (keys_of feed firsts2) line ≡ Some (key_of feed trip)
    → counted2 ≡ counted ++ record { trip = trip; line = line } ∷ [] → AreNumbered feed weights (trip + 1) counted2 firsts2
numbered-more feed weights trip line counted counted2 firsts firsts2 h some fe le ce =
    let heavy : nat_lt 0 (slice_index weights trip) ≡ true = lt-ltb _ _ some in
    let found : Counted = record { trip = trip; line = line } in
    record {
      trips = rw ce (map-append (λ (c : Counted). c.trip) counted (found ∷ []) ∙ ap (λ (ts : List ℕ). ts ++ trip ∷ []) h.trips ∙ sym (counted-more weights trip ∙ rw heavy refl));
      firsts_are = fe ∙ ap (λ (ts : List ℕ). firsts_with feed ts trip) h.firsts_are ∙ firsts-with feed weights trip heavy;
      lines = rw ce (All-push (IsCounted feed firsts2) counted found
          (All-weaker (IsCounted feed firsts) (IsCounted feed firsts2) (λ c was. rw fe (with-trip feed firsts trip c was)) counted h.lines) le);
      distinct = rw fe (once-with feed firsts trip h.distinct);
    }

-- what the map says of a trip, by what the calls say
pub known-line : (feed : FeedData) (firsts : List ℕ) (trip line : ℕ) (m : BTreeMap (Vec ℕ Global) ℕ) (k : Vec ℕ Global) → IsKeyed (keys_of feed firsts) m → k.items ≡ key_of feed trip
    → get key_cmp m k ≡ Some line → slice_get (keys_of feed firsts) line ≡ Some (key_of feed trip)
known-line feed firsts trip line m k h is at = h.found k line at ∙ ap (λ (xs : List ℕ). Some xs) is

any-at : (k : List ℕ) (keys : List (List ℕ)) (i : ℕ) → slice_get keys i ≡ Some k → list_any (bytes_eq k) keys ≡ true
any-at k [] i h = absurd (cc h)
any-at k (x ∷ keys) zero h =
    let is : x ≡ k = cc h in
    let yes : bytes_eq k x ≡ true = rw is (itself k) in
    rw yes refl
any-at k (x ∷ keys) (suc i) h = either (bytes_eq k x) (list_any (bytes_eq k) keys) (any-at k keys i h)

pub known-firsts : (feed : FeedData) (firsts : List ℕ) (trip line : ℕ) → slice_get (keys_of feed firsts) line ≡ Some (key_of feed trip) → firsts ≡ firsts_with feed firsts trip
known-firsts feed firsts trip line h = rw (any-at (key_of feed trip) (keys_of feed firsts) line h) refl

pub keyed-put : (feed : FeedData) (firsts firsts2 : List ℕ) (trip number : ℕ) (m n : BTreeMap (Vec ℕ Global) ℕ) (k : Vec ℕ Global) → IsKeyed (keys_of feed firsts) m → number ≡ length firsts
    → firsts2 ≡ firsts ++ trip ∷ [] → k.items ≡ key_of feed trip → ((q : Vec ℕ Global) → get key_cmp n q ≡ cond (is_at (key_cmp k) q) (Some number) (get key_cmp m q))
    → IsKeyed (keys_of feed firsts2) n
keyed-put feed firsts firsts2 trip number m n k h at grown is put =
    let size : number ≡ length (keys_of feed firsts) = at ∙ sym (length-map firsts (key_of feed)) in
    let all = keyed-push (keys_of feed firsts) m n k number h size put in
    rw (grown, map-append (key_of feed) firsts (trip ∷ []), ← is) all

pub new-line : (feed : FeedData) (firsts firsts2 : List ℕ) (trip number : ℕ) → number ≡ length firsts → firsts2 ≡ firsts ++ trip ∷ [] → slice_get (keys_of feed firsts2) number ≡ Some (key_of feed trip)
new-line feed firsts firsts2 trip number at grown =
    let size : number ≡ length (keys_of feed firsts) = at ∙ sym (length-map firsts (key_of feed)) in
    rw (grown, map-append (key_of feed) firsts (trip ∷ []), size) (get-seam (keys_of feed firsts) (key_of feed trip))
