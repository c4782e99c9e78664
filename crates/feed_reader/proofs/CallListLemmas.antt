-- The lists of calls that lie one after the other.
use Rattle.std.proofs.Common.{◌≡◌, ℕ, false, zero, suc, ◌<◌, ◌≤◌, ◌-◌, List, [], ◌∷◌, ◌++◌, length, take, drop, get_or, refl, ap, ◌∙◌, arith, length-append, length-drop}
use Rattle.std.specs.Prelude.{◌==◌}
use Rattle.std.proofs.lemmas.Bool.{ne_eqb}
use Rattle.std.proofs.lemmas.List.{drop-append-le, take-append-le, take_all}
use Rattle.std.proofs.Math.Seq.{drop-append_seam}
use Rattle.feed_reader.specs.declared.timetable.Call.{Call}
use Rattle.feed_reader.specs.CallCuts.{AreEnds, lists_to, start_at}

pub ends-none : AreEnds 0 [] 0
unfolding AreEnds
ends-none = refl

pub lists-none : (calls : List Call) → lists_to 0 [] calls ≡ []
unfolding lists_to
lists-none calls = refl

pub lists-length : (start : ℕ) (ends : List ℕ) (calls : List Call) → length (lists_to start ends calls) ≡ length ends
unfolding lists_to
lists-length start [] calls = refl
lists-length start (end ∷ ends) calls = ap suc (lists-length end ends calls)

ends-most : (start : ℕ) (ends : List ℕ) (last : ℕ) → AreEnds start ends last → start ≤ last
unfolding AreEnds
ends-most start [] last h = omega arith
ends-most start (end ∷ ends) last h = let low = h.0 in let rest = ends-most end ends last h.1 in omega arith

-- one more end
ends-more : (start : ℕ) (ends : List ℕ) (last more : ℕ) → AreEnds start ends last → last ≤ more → AreEnds start (ends ++ more ∷ []) more
unfolding AreEnds
ends-more start [] last more h le = (omega arith, refl)
ends-more start (end ∷ ends) last more h le = (h.0, ends-more end ends last more h.1 le)

-- one more list
lists-more : (start : ℕ) (ends : List ℕ) (calls more : List Call) → AreEnds start ends (length calls)
    → lists_to start (ends ++ length (calls ++ more) ∷ []) (calls ++ more) ≡ lists_to start ends calls ++ more ∷ []
unfolding AreEnds lists_to
lists-more start [] calls more h =
    let size = length-append calls more in
    let count : length (calls ++ more) - start ≡ length more = omega arith in
    let rest : drop start (calls ++ more) ≡ more = rw h (drop-append_seam calls more) in
    rw (count, rest, take_all (length more) more (omega arith)) refl
lists-more start (end ∷ ends) calls more h =
    let low = h.0 in
    let high = ends-most end ends (length calls) h.1 in
    let size = length-drop start calls in
    let within : end - start ≤ length (drop start calls) = omega arith in
    let fits : start ≤ length calls = omega arith in
    let first : take (end - start) (drop start (calls ++ more)) ≡ take (end - start) (drop start calls) =
    rw (drop-append-le start calls more fits) (take-append-le (end - start) (drop start calls) more within) in
    rw (first, lists-more end ends calls more h.1) refl

pub pushed-ends : (ends ends2 : List ℕ) (calls calls2 more : List Call) → AreEnds 0 ends (length calls) → calls2 ≡ calls ++ more → ends2 ≡ ends ++ length calls2 ∷ []
    → AreEnds 0 ends2 (length calls2)
pushed-ends ends ends2 calls calls2 more h ec ee =
    let size = length-append calls more in
    rw (ee, ec) (ends-more 0 ends (length calls) (length (calls ++ more)) h (omega arith))

pub pushed-lists : (ends ends2 : List ℕ) (calls calls2 more : List Call) (lists : List (List Call)) → AreEnds 0 ends (length calls) → lists_to 0 ends calls ≡ lists
    → calls2 ≡ calls ++ more → ends2 ≡ ends ++ length calls2 ∷ [] → lists_to 0 ends2 calls2 ≡ lists ++ more ∷ []
pushed-lists ends ends2 calls calls2 more lists h is ec ee = rw (ee, ec, ← is) (lists-more 0 ends calls more h)

-- the list behind another, and its bounds
later-list : (start : ℕ) (ends : List ℕ) (calls : List Call) (i : ℕ) → suc i < length ends
    → take (get_or ends (suc i) 0 - get_or ends i 0) (drop (get_or ends i 0) calls) ≡ get_or (lists_to start ends calls) (suc i) []
unfolding lists_to
later-list start [] calls i lt = absurd (omega arith)
later-list start (e ∷ []) calls i lt = absurd (omega arith)
later-list start (e ∷ f ∷ es) calls zero lt = refl
later-list start (e ∷ f ∷ es) calls (suc i) lt = later-list e (f ∷ es) calls i (omega arith)

later-bounds : (start : ℕ) (ends : List ℕ) (last i : ℕ) → AreEnds start ends last → suc i < length ends → (get_or ends i 0 ≤ get_or ends (suc i) 0) × (get_or ends (suc i) 0 ≤ last)
unfolding AreEnds
later-bounds start [] last i h lt = absurd (omega arith)
later-bounds start (e ∷ []) last i h lt = absurd (omega arith)
later-bounds start (e ∷ f ∷ es) last zero h lt = (h.1.0, ends-most f es last h.1.1)
later-bounds start (e ∷ f ∷ es) last (suc i) h lt = later-bounds e (f ∷ es) last i h.1 (omega arith)

-- the list at a place
pub record IsListAt (ends : List ℕ) (calls : List Call) (place start : ℕ) : Type 0 where
  pub rises : start ≤ get_or ends place 0
  pub within : get_or ends place 0 ≤ length calls
  pub value : take (get_or ends place 0 - start) (drop start calls) ≡ get_or (lists_to 0 ends calls) place []

pub list-at : (ends : List ℕ) (calls : List Call) (place start : ℕ) → AreEnds 0 ends (length calls) → place < length ends → start ≡ start_at ends place → IsListAt ends calls place start
unfolding AreEnds lists_to
list-at [] calls place start h lt e = absurd (omega arith)
list-at (f ∷ es) calls zero start h lt e = rw e (record { rises = omega arith; within = ends-most f es (length calls) h.1; value = refl })
list-at (f ∷ es) calls (suc i) start h lt e =
    let back : suc i - 1 ≡ i = omega arith in
    let later : (suc i == 0) ≡ false = ne_eqb _ _ (λ z. absurd (omega arith)) in
    let at : start ≡ get_or (f ∷ es) i 0 = e ∙ rw (later, back) refl in
    let bounds = later-bounds 0 (f ∷ es) (length calls) i h lt in
    rw at (record { rises = bounds.0; within = bounds.1; value = later-list 0 (f ∷ es) calls i lt })

pub place-fits : (ends : List ℕ) (calls : List Call) (lists : List (List Call)) (i : ℕ) → lists_to 0 ends calls ≡ lists → i < length lists → i < length ends
place-fits ends calls lists i is lt =
    let size = lists-length 0 ends calls in
    let same : length (lists_to 0 ends calls) ≡ length lists = ap length is in
    omega arith
