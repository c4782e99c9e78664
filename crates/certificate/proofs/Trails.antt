-- Lines that follow one another from a draft on, and that one text has no two of them.
use Rattle.std.proofs.Common.{◌≡◌, ℕ, ◌+◌, ◌≤◌, List, [], ◌∷◌, ◌++◌, Ok, Err, refl, sym, ap, subst, ◌∙◌, append_assoc, arith, inl, inr}
use Rattle.std.specs.Prelude.{sum, map}
use Rattle.std.specs.List.{flat_map}
use Rattle.std.proofs.lemmas.Bool.{cases_lt, lt-ltb}
use Rattle.std.proofs.lemmas.List.{append-nil}
use Rattle.std.proofs.lemmas.List.Sums.{sum_by-append, sum_by-cons}
use Rattle.definitions.specs.declared.limits.TheConstants.{UNIT_LIMIT}
use Rattle.certificate.specs.declared.fault.Fault.{Fault}
use Rattle.certificate.specs.declared.refused.Limit.TheVariants as limit
use Rattle.certificate.specs.declared.refused.Refused.TheVariants as refused
use Rattle.certificate.specs.Draft.{DraftData}
use Rattle.certificate.specs.NextLine.{line_at}
use Rattle.certificate.specs.Grammar.{Line, line_text, Kind, kind_at, IsOf, IsNext}
use Rattle.certificate.specs.LineFaults.{range_faults, line_faults}
use Rattle.certificate.specs.GoodLines.{step, AreGoodLines}
use Rattle.certificate.proofs.Readers.{done, failed, ok_is}
use Rattle.certificate.proofs.ExactLines.{shape_at, shape_exact}
use Rattle.certificate.proofs.ExactJudged.{HasUnits}
use Rattle.certificate.proofs.KindReaders.{reader_at, line_is}
use Rattle.certificate.proofs.LineStops.{some_or_none, good_kind}

-- a good line that may come next makes another draft
pub record Follows (d : DraftData) (line : Line) (e : DraftData) : Type 0 where
  pub next : IsNext d line
  pub good : line_faults d line ≡ []
  pub is : step d line ≡ e

-- so do several
abbrev pub Runs : DraftData → List Line → DraftData → Type 0
Runs = AreGoodLines (λ d. kind_at d.stage d)

-- lines and then more
pub go_on : (next : DraftData → Kind) (a b c : DraftData) (ls ms : List Line) → AreGoodLines next a ls b → AreGoodLines next b ms c → AreGoodLines next a (ls ++ ms) c
go_on next a b c [] ms r s = subst (λ d. AreGoodLines next d ms c) (sym r) s
go_on next a b c (l ∷ ls) ms r s = (r.0, r.1, go_on next (step a l) b c ls ms r.2 s)

pub run_on : (a b c : DraftData) (ls ms : List Line) → Runs a ls b → Runs b ms c → Runs a (ls ++ ms) c
run_on = go_on (λ d. kind_at d.stage d)

-- rows of one kind
pub fill : {A : Type 0} (make : A → Line) (set : List A → DraftData) (before todo : List A) →
    ((so_far : List A) (x : A) (others : List A) → before ++ todo ≡ so_far ++ x ∷ others → Follows (set so_far) (make x) (set (so_far ++ x ∷ []))) →
    Runs (set before) (map make todo) (set (before ++ todo))
fill make set before [] h = ap set (sym (append-nil before))
fill make set before (x ∷ todo) h =
    let f = h before x todo refl in
    let whole = append_assoc before (x ∷ []) todo in
    let rest = fill make set (before ++ x ∷ []) todo (λ so_far y others e. h so_far y others (sym whole ∙ e)) in
    let on : Runs (set (before ++ x ∷ [])) (map make todo) (set (before ++ x ∷ todo)) = subst (λ xs. Runs (set (before ++ x ∷ [])) (map make todo) (set xs)) whole rest in
    (f.next, f.good, subst (λ d. Runs d (map make todo) (set (before ++ x ∷ todo))) (sym f.is) on)

pub row_texts : {A : Type 0} (make : A → Line) (text : A → List ℕ) → ((x : A) → line_text (make x) ≡ text x) → (xs : List A) → flat_map line_text (map make xs) ≡ flat_map text xs
row_texts make text same [] = refl
row_texts make text same (x ∷ xs) = ap (λ t. t ++ flat_map line_text (map make xs)) (same x) ∙ ap (λ t. text x ++ t) (row_texts make text same xs)

-- ---- units

pub sum_push : (xs : List ℕ) (n : ℕ) → sum (xs ++ n ∷ []) ≡ sum xs + n
sum_push xs n =
    let parts : sum (xs ++ n ∷ []) ≡ sum xs + sum (n ∷ []) = sum_by-append (λ x. x) xs (n ∷ []) in
    let one : sum (n ∷ []) ≡ n + 0 = sum_by-cons (λ x. x) n [] in
    omega arith

few_of : (n : ℕ) → range_faults limit.Units n ≡ [] → n ≤ UNIT_LIMIT
few_of n none = elim (cases_lt UNIT_LIMIT n) [
  | inl lt ↦ absurd (let some : range_faults limit.Units n ≡ refused.Range limit.Units n ∷ [] = rw (lt-ltb UNIT_LIMIT n lt) refl in let both = sym none ∙ some in cc)
  | inr low ↦ low
]

pub units_step : (d : DraftData) (line : Line) → HasUnits d → line_faults d line ≡ [] → HasUnits (step d line)
units_step d Line.Title u none = record { sum = u.sum; few = u.few }
units_step d Line.NetworkTitle u none = record { sum = u.sum; few = u.few }
units_step d (Line.Nodes n) u none = record { sum = u.sum; few = u.few }
units_step d (Line.Arcs n) u none = record { sum = u.sum; few = u.few }
units_step d (Line.K n) u none = record { sum = u.sum; few = u.few }
units_step d (Line.Destination n) u none = record { sum = u.sum; few = u.few }
units_step d (Line.Arc arc) u none = record { sum = u.sum; few = u.few }
units_step d (Line.Demand n) u none =
    let before : d.units ≡ sum d.demand = u.sum in
    let few : sum d.demand + n ≤ UNIT_LIMIT = few_of (sum d.demand + n) none in
    record { sum = ap (λ m. m + n) before ∙ sym (sum_push d.demand n); few = omega arith }
units_step d (Line.Label n) u none = record { sum = u.sum; few = u.few }
units_step d (Line.Volume n) u none = record { sum = u.sum; few = u.few }
units_step d (Line.Wait n) u none = record { sum = u.sum; few = u.few }
units_step d Line.End u none = record { sum = u.sum; few = u.few }

-- ---- one text

-- the first of the lines is known from the bytes
record SameLine (l m : Line) (r s : List ℕ) : Type 0 where
  line : l ≡ m
  rest : r ≡ s

first_line : (kind : Kind) (l m : Line) (r s : List ℕ) → IsOf kind l → IsOf kind m → line_text l ++ r ≡ line_text m ++ s → SameLine l m r s
first_line kind l m r s nl nm e = elim (some_or_none kind) [
  | inl none ↦ absurd (subst (λ k. IsOf k l) none nl)
  | inr some ↦ (
      let exact = shape_exact kind some in
      let both : done {A = Line × List ℕ} (l, r) ≡ done (m, s) = sym (exact.again l r nl) ∙ ap (shape_at kind) e ∙ exact.again m s nm in
      let same = ok_is {A = Line × List ℕ} (l, r) (m, s) both in
      record { line = ap (λ (p : Line × List ℕ). p.0) same; rest = ap (λ (p : Line × List ℕ). p.1) same })
]

-- where a good line comes next, the reading does not stop
passes : (kind : Kind) (d : DraftData) (line : Line) (lines : List Line) (r s : List ℕ) (f : Fault) → HasUnits d → IsOf kind line → line_faults d line ≡ [] → r ≡ (line_text line ++ flat_map line_text lines) ++ s → reader_at kind d r ≡ Err f → ⊥
passes kind d line lines r s f u next good e stops =
    let good_is : reader_at kind d r ≡ Ok (flat_map line_text lines ++ s) = ap (reader_at kind d) (e ∙ append_assoc (line_text line) (flat_map line_text lines) s) ∙ good_kind kind d line (flat_map line_text lines ++ s) u next good in
    let both : failed f ≡ done (flat_map line_text lines ++ s) = sym stops ∙ good_is in
    cc

-- two readings are at one place
pub record SamePlace (a b : DraftData) (r s : List ℕ) : Type 0 where
  pub draft : a ≡ b
  pub rest : r ≡ s

-- the reading of a text stops at one place
pub one_place : (next : DraftData → Kind) (d a b : DraftData) (ls ms : List Line) (r s : List ℕ) (f g : Fault) → HasUnits d → AreGoodLines next d ls a → AreGoodLines next d ms b →
    flat_map line_text ls ++ r ≡ flat_map line_text ms ++ s → reader_at (next a) a r ≡ Err f → reader_at (next b) b s ≡ Err g → SamePlace a b r s
one_place next d a b [] [] r s f g u ra rb e x y = record { draft = sym ra ∙ rb; rest = e }
one_place next d a b [] (m ∷ ms) r s f g u ra rb e x y = absurd (passes (next d) d m ms r s f u rb.0 rb.1 e (ap (λ c. reader_at (next c) c r) ra ∙ x))
one_place next d a b (l ∷ ls) [] r s f g u ra rb e x y = absurd (passes (next d) d l ls s r g u ra.0 ra.1 (sym e) (ap (λ c. reader_at (next c) c s) rb ∙ y))
one_place next d a b (l ∷ ls) (m ∷ ms) r s f g u ra rb e x y =
    let same = first_line (next d) l m (flat_map line_text ls ++ r) (flat_map line_text ms ++ s) ra.0 rb.0 (sym (append_assoc (line_text l) (flat_map line_text ls) r) ∙ e ∙ append_assoc (line_text m) (flat_map line_text ms) s) in
    let other : AreGoodLines next (step d l) ms b = subst (λ line. AreGoodLines next (step d line) ms b) (sym same.line) rb.2 in
    one_place next (step d l) a b ls ms r s f g (units_step d l u ra.1) ra.2 other same.rest x y

-- with one fault
pub one_stop : (d a b : DraftData) (ls ms : List Line) (r s : List ℕ) (f g : Fault) → HasUnits d → Runs d ls a → Runs d ms b →
    flat_map line_text ls ++ r ≡ flat_map line_text ms ++ s → line_at a r ≡ Err f → line_at b s ≡ Err g → f ≡ g
one_stop d a b ls ms r s f g u ra rb e x y =
    let same = one_place (λ c. kind_at c.stage c) d a b ls ms r s f g u ra rb e (sym (line_is a.stage a r) ∙ x) (sym (line_is b.stage b s) ∙ y) in
    let both : failed {A = List ℕ} f ≡ failed g = sym x ∙ ap (λ c. line_at c r) same.draft ∙ ap (line_at b) same.rest ∙ y in
    cc
