-- Texts of lists, given one item after the other.
use Rattle.std.proofs.Common.{◌≡◌, ℕ, zero, suc, ◌+◌, ◌<◌, ◌≤◌, List, [], ◌∷◌, ◌++◌, Option, refl, sym, ap, subst, ◌∙◌, append_assoc, append-nil, arith, length, take, drop, get_or}
use Rattle.std.specs.List.{flat_map}
use Rattle.std.specs.Prelude.{Result, Ok, Err, IfErr, OnOk}
use Rattle.std.specs.Result.{IsErrAnd}
use Rattle.desk_io.specs.declared.whole.WriteFault.{WriteFault}
use Rattle.desk_io.specs.Gathering.{Gathering, Sends, Stops, nothing_gathered}
use Rattle.desk_io.specs.Told.{Appends}
use Rattle.desk_io.proofs.GatheringLemmas.{sends_then, stops_then, stops_within, sends_all_at_end, stops_at_end}

-- the number behind one that is not 0
next : (i : ℕ) → suc (i + 1) ≡ suc i + 1
next i = omega arith

module _ {X : Type 0} (text : X → List ℕ) where
  -- the text of the items up to one and with it
  one_more : (xs : List X) (i : ℕ) (d : X) → i < length xs → flat_map text (take i xs) ++ text (get_or xs i d) ≡ flat_map text (take (i + 1) xs)
  one_more [] i d lt = absurd (omega arith)
  one_more (x ∷ xs) zero d lt = sym (append-nil (text x))
  one_more (x ∷ xs) (suc i) d lt =
      append_assoc (text x) (flat_map text (take i xs)) (text (get_or xs i d))
      ∙ ap (λ rest. text x ++ rest) (one_more xs i d (omega arith)) ∙ ap (λ n. flat_map text (take n (x ∷ xs))) (next i)

  -- the text of a list, split behind one of its items
  split_behind : (xs : List X) (i : ℕ) → flat_map text (take i xs) ++ flat_map text (drop i xs) ≡ flat_map text xs
  split_behind xs zero = refl
  split_behind [] (suc i) = refl
  split_behind (x ∷ xs) (suc i) =
      append_assoc (text x) (flat_map text (take i xs)) (flat_map text (drop i xs)) ∙ ap (λ rest. text x ++ rest) (split_behind xs i)

  -- the next item was given
  pub sends_next : (first mid last : Option (List ℕ)) (f g h : Gathering) (xs : List X) (i : ℕ) (d x : X) → x ≡ get_or xs i d → i < length xs →
      Sends first f mid g (flat_map text (take i xs)) → Sends mid g last h (text x) → Sends first f last h (flat_map text (take (i + 1) xs))
  sends_next first mid last f g h xs i d x is lt before here =
      subst (Sends first f last h) (ap (λ y. flat_map text (take i xs) ++ text y) is ∙ one_more xs i d lt)
      (sends_then first mid last f g h (flat_map text (take i xs)) (text x) before here)

  -- a write failed within the next item
  pub stops_next : (first mid last : Option (List ℕ)) (f g : Gathering) (xs : List X) (i : ℕ) (d x : X) (sent : ℕ) → x ≡ get_or xs i d → i < length xs →
      Sends first f mid g (flat_map text (take i xs)) → Stops mid g last (text x) sent → Stops first f last (flat_map text xs) sent
  stops_next first mid last f g xs i d x sent is lt before here =
      let up_to = flat_map text (take i xs) in
      let item = text x in
      let whole : (up_to ++ item) ++ flat_map text (drop (i + 1) xs) ≡ flat_map text xs =
      ap (λ front. front ++ flat_map text (drop (i + 1) xs)) (ap (λ y. up_to ++ text y) is ∙ one_more xs i d lt) ∙ split_behind xs (i + 1) in
      subst (λ bytes. Stops first f last bytes sent) whole
      (stops_within first last f (up_to ++ item) (flat_map text (drop (i + 1) xs)) sent (stops_then first mid last f g up_to item sent before here))

-- a fault that is handed on
pub handed_on : (r : Result (Unit {0}) WriteFault) (fault : WriteFault) (Is : WriteFault → Type 0) → Is fault → IsErrAnd r (λ e. e ≡ fault) → IfErr r Is
handed_on (Ok done) fault Is holds same = tt
handed_on (Err other) fault Is holds same = subst Is (sym same) holds

-- a text is given whole to a sink, and what waits of it is sent
pub finishes : (r : Result (Unit {0}) WriteFault) (first mid last : Option (List ℕ)) (start f g : Gathering) (bytes : List ℕ) → start ≡ nothing_gathered →
    Sends first start mid f bytes → OnOk r (Sends mid f last g []) → OnOk r (g.waiting ≡ []) → OnOk r (Appends first last bytes)
finishes (Ok done) first mid last start f g bytes fresh sends flushed empty =
    sends_all_at_end first mid last f g bytes (subst (λ s. Sends first s mid f bytes) fresh sends) flushed empty
finishes (Err fault) first mid last start f g bytes fresh sends flushed empty = tt

-- what was sent of the text where that fails
pub ends_within : (r : Result (Unit {0}) WriteFault) (first mid last : Option (List ℕ)) (start f : Gathering) (bytes : List ℕ) → start ≡ nothing_gathered →
    length bytes ≤ 18446744073709551615 → Sends first start mid f bytes → IfErr r (λ fault. Stops mid f last [] fault.sent) →
    IfErr r (λ fault. (fault.sent < length bytes) × Appends first last (take fault.sent bytes))
ends_within (Ok done) first mid last start f bytes fresh short sends stops = tt
ends_within (Err fault) first mid last start f bytes fresh short sends stops =
    stops_at_end first mid last f bytes fault.sent short (subst (λ s. Sends first s mid f bytes) fresh sends) stops

-- the first part of what a fault says, and the second
pub first_part : (r : Result (Unit {0}) WriteFault) (P Q : WriteFault → Type 0) → IfErr r (λ fault. P fault × Q fault) → IfErr r P
first_part (Ok done) P Q both = tt
first_part (Err fault) P Q both = both.0

pub second_part : (r : Result (Unit {0}) WriteFault) (P Q : WriteFault → Type 0) → IfErr r (λ fault. P fault × Q fault) → IfErr r Q
second_part (Ok done) P Q both = tt
second_part (Err fault) P Q both = both.1
