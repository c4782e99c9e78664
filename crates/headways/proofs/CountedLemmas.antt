-- One more trip among the counted trips and the first trips of lines, and their keys.
use Rattle.std.proofs.Common.{◌≡◌, ℕ, zero, suc, ◌+◌, ◌<◌, ◌≤◌, Bool, true, false, List, [], ◌∷◌, ◌++◌, Option, Some, None, length, refl, sym, ap, ◌∙◌, inl, inr, arith, cond}
use Rattle.std.specs.Prelude.{◌||◌, ◌==◌, All, filter, map, nat_lt, not, slice_get, slice_index, if◌then◌else◌, Vec}
use Rattle.std.specs.BTreeMap.{BTreeMap, get, is_at}
use Rattle.std.specs.List.{list_any, range_with_len}
use Rattle.std.specs.Str.{bytes_eq}
use Rattle.std.specs.declared.alloc.Global.{Global}
use Rattle.std.proofs.lemmas.Bool.{cases_Bool, false_from_ne_true, lt-ltb}
use Rattle.std.proofs.lemmas.List.{append-nil, length-map, map-append}
use Rattle.std.proofs.lemmas.List.Elements.{All-push, All-weaker, filter-append}
use Rattle.std.proofs.lemmas.List.Folds.{list_any-append}
use Rattle.std.proofs.lemmas.List.FromFn.{length-range_with_len}
use Rattle.std.proofs.lemmas.Map.Text.{is_eq-slice_cmp}
use Rattle.std.proofs.lemmas.Slice.Eq.{bytes_eq-Decides}
use Rattle.feed_reader.specs.Feed.{FeedData}
use Rattle.headways.specs.declared.numbering.Counted.{Counted}
use Rattle.headways.specs.Lines.{counted_before, firsts_before, is_alike, is_led}
use Rattle.headways.specs.Numbering.{AreNumbered, IsCounted, IsKeyed, firsts_with, key_cmp, key_of, keys_of}
use Rattle.headways.proofs.KeyLemmas.{same-key}
use Rattle.headways.proofs.ListLemmas.{any-map, any-same, filter-less, get-cases, get-front, get-seam, range-next}

pub same-bytes : (xs ys : List ℕ) → bytes_eq xs ys ≡ true → xs ≡ ys
same-bytes xs ys h = (bytes_eq-Decides xs ys).0 h

pub itself : (xs : List ℕ) → bytes_eq xs xs ≡ true
itself xs = (bytes_eq-Decides xs xs).1 refl

pub swap-bytes : (xs ys : List ℕ) → bytes_eq xs ys ≡ bytes_eq ys xs
swap-bytes xs ys = elim (cases_Bool (bytes_eq xs ys)) [
  | inl h ↦ h ∙ sym ((bytes_eq-Decides ys xs).1 (sym (same-bytes xs ys h)))
  | inr h ↦ h ∙ sym (false_from_ne_true _ (λ k. let back = (bytes_eq-Decides xs ys).1 (sym (same-bytes ys xs k)) in absurd (cc (h, back))))
]

-- the counted trips with one more
abbrev pub counted_with : List ℕ → ℕ → List ℕ → List ℕ
counted_with weights trip trips = if nat_lt 0 (slice_index weights trip) then trips ++ trip ∷ [] else trips

one-more : {A : Type 0} (p : A → Bool) (xs : List A) (x : A) → filter p (xs ++ x ∷ []) ≡ (if p x then filter p xs ++ x ∷ [] else filter p xs)
one-more p xs x = elim (cases_Bool (p x)) [
  | inl e ↦ filter-append p xs (x ∷ []) ∙ rw e refl
  | inr e ↦ filter-append p xs (x ∷ []) ∙ rw e (append-nil (filter p xs))
]

pub counted-more : (weights : List ℕ) (trip : ℕ) → counted_before weights (trip + 1) ≡ counted_with weights trip (counted_before weights trip)
unfolding counted_before
counted-more weights trip = ap (λ (xs : List ℕ). filter (λ t. nat_lt 0 (slice_index weights t)) xs) (range-next trip) ∙ one-more (λ t. nat_lt 0 (slice_index weights t)) (range_with_len 0 trip) trip

-- the first trips with one more counted trip
pub firsts-counted : (feed : FeedData) (weights : List ℕ) (trip : ℕ) → nat_lt 0 (slice_index weights trip) ≡ true
    → firsts_before feed weights (trip + 1) ≡ (if is_led feed weights trip then firsts_before feed weights trip else firsts_before feed weights trip ++ trip ∷ [])
unfolding firsts_before
firsts-counted feed weights trip e =
    let more : counted_before weights (trip + 1) ≡ counted_before weights trip ++ trip ∷ [] = counted-more weights trip ∙ rw e refl in
    ap (λ (xs : List ℕ). filter (λ t. not (is_led feed weights t)) xs) more ∙ one-more (λ t. not (is_led feed weights t)) (counted_before weights trip) trip
    ∙ (elim (cases_Bool (is_led feed weights trip)) [
      | inl h ↦ rw h refl
      | inr h ↦ rw h refl
    ])

pub firsts-passed : (feed : FeedData) (weights : List ℕ) (trip : ℕ) → nat_lt 0 (slice_index weights trip) ≡ false → firsts_before feed weights (trip + 1) ≡ firsts_before feed weights trip
unfolding firsts_before
firsts-passed feed weights trip e = ap (λ (xs : List ℕ). filter (λ t. not (is_led feed weights t)) xs) (counted-more weights trip ∙ rw e refl)

or-false : (a b : Bool) → (a || (b || false)) ≡ (a || b)
or-false true b = refl
or-false false true = refl
or-false false false = refl

-- a key is that of a counted trip where it is that of a first one
any-more : (feed : FeedData) (key : List ℕ) (trips : List ℕ) (trip : ℕ) → list_any (bytes_eq key) (keys_of feed (trips ++ trip ∷ [])) ≡ (list_any (bytes_eq key) (keys_of feed trips) || bytes_eq key (key_of feed trip))
any-more feed key trips trip =
    ap (λ (ks : List (List ℕ)). list_any (bytes_eq key) ks) (map-append (key_of feed) trips (trip ∷ []))
    ∙ list_any-append (bytes_eq key) (keys_of feed trips) (key_of feed trip ∷ [])
    ∙ or-false (list_any (bytes_eq key) (keys_of feed trips)) (bytes_eq key (key_of feed trip))

pub led-key : (feed : FeedData) (weights : List ℕ) (trip : ℕ) → is_led feed weights trip ≡ list_any (bytes_eq (key_of feed trip)) (keys_of feed (counted_before weights trip))
led-key feed weights trip = any-same (is_alike feed trip) (λ t. bytes_eq (key_of feed trip) (key_of feed t)) (counted_before weights trip) (λ t. same-key feed trip t)
    ∙ sym (any-map (bytes_eq (key_of feed trip)) (key_of feed) (counted_before weights trip))

or-true : (a b : Bool) → a ≡ true → (a || b) ≡ a
or-true true b h = refl
or-true false b h = absurd (cc h)

or-not : (a b : Bool) → b ≡ false → (a || b) ≡ a
or-not true b h = refl
or-not false b h = h

or-known : (key other : List ℕ) (keys : List (List ℕ)) → list_any (bytes_eq other) keys ≡ true → (list_any (bytes_eq key) keys || bytes_eq key other) ≡ list_any (bytes_eq key) keys
or-known key other keys led = elim (cases_Bool (bytes_eq key other)) [
  | inl h ↦
      let is : key ≡ other = same-bytes key other h in
      or-true (list_any (bytes_eq key) keys) (bytes_eq key other) (rw is led)
  | inr h ↦ or-not (list_any (bytes_eq key) keys) (bytes_eq key other) h
]

known-more : (feed : FeedData) (weights : List ℕ) (n : ℕ) (key : List ℕ) → nat_lt 0 (slice_index weights n) ≡ true
    → list_any (bytes_eq key) (keys_of feed (counted_before weights n)) ≡ list_any (bytes_eq key) (keys_of feed (firsts_before feed weights n))
    → (list_any (bytes_eq key) (keys_of feed (counted_before weights n)) || bytes_eq key (key_of feed n)) ≡ list_any (bytes_eq key) (keys_of feed (firsts_before feed weights (n + 1)))
known-more feed weights n key e before = elim (cases_Bool (is_led feed weights n)) [
  | inr h ↦
      let grown : firsts_before feed weights (n + 1) ≡ firsts_before feed weights n ++ n ∷ [] = firsts-counted feed weights n e ∙ rw h refl in
      ap (λ (b : Bool). b || bytes_eq key (key_of feed n)) before ∙ sym (any-more feed key (firsts_before feed weights n) n)
      ∙ ap (λ (ts : List ℕ). list_any (bytes_eq key) (keys_of feed ts)) (sym grown)
  | inl h ↦
      let same : firsts_before feed weights (n + 1) ≡ firsts_before feed weights n = firsts-counted feed weights n e ∙ rw h refl in
      let led : list_any (bytes_eq (key_of feed n)) (keys_of feed (counted_before weights n)) ≡ true = sym (led-key feed weights n) ∙ h in
      rw same (or-known key (key_of feed n) (keys_of feed (counted_before weights n)) led ∙ before)
]

keys-none : (feed : FeedData) (weights : List ℕ) (key : List ℕ)
    → list_any (bytes_eq key) (keys_of feed (counted_before weights 0)) ≡ list_any (bytes_eq key) (keys_of feed (firsts_before feed weights 0))
unfolding counted_before firsts_before
keys-none feed weights key = refl

pub keys-firsts : (feed : FeedData) (weights : List ℕ) (end : ℕ) (key : List ℕ)
    → list_any (bytes_eq key) (keys_of feed (counted_before weights end)) ≡ list_any (bytes_eq key) (keys_of feed (firsts_before feed weights end))
keys-firsts feed weights zero key = keys-none feed weights key
keys-firsts feed weights (suc n) key =
    let next : suc n ≡ n + 1 = omega arith in
    let before = keys-firsts feed weights n key in
    rw next (elim (cases_Bool (nat_lt 0 (slice_index weights n))) [
      | inr e ↦ ap (λ (ts : List ℕ). list_any (bytes_eq key) (keys_of feed ts)) (counted-more weights n ∙ rw e refl) ∙ before
          ∙ ap (λ (ts : List ℕ). list_any (bytes_eq key) (keys_of feed ts)) (sym (firsts-passed feed weights n e))
      | inl e ↦ ap (λ (ts : List ℕ). list_any (bytes_eq key) (keys_of feed ts)) (counted-more weights n ∙ rw e refl) ∙ any-more feed key (counted_before weights n) n
          ∙ known-more feed weights n key e before
    ])

pub firsts-few : (feed : FeedData) (weights : List ℕ) (end : ℕ) → length (firsts_before feed weights end) ≤ end
unfolding firsts_before counted_before
firsts-few feed weights end =
    let some = filter-less (λ t. not (is_led feed weights t)) (counted_before weights end) in
    let most = filter-less (λ t. nat_lt 0 (slice_index weights t)) (range_with_len 0 end) in
    let size = length-range_with_len 0 end in
    omega arith

pub counted-few : (weights : List ℕ) (end : ℕ) → length (counted_before weights end) ≤ end
unfolding counted_before
counted-few weights end =
    let most = filter-less (λ t. nat_lt 0 (slice_index weights t)) (range_with_len 0 end) in
    let size = length-range_with_len 0 end in
    omega arith
