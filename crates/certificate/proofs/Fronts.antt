-- Texts that are read exactly are told apart wherever they stand, and so are lists of them.
use Rattle.std.proofs.Common.{◌≡◌, ℕ, ◌+◌, ◌<◌, ◌≤◌, List, [], ◌∷◌, ◌++◌, length, Result, refl, sym, ap, ◌∙◌, append_assoc, arith, All, IfSome}
use Rattle.std.specs.Prelude.{sum}
use Rattle.std.specs.List.{flat_map}
use Rattle.std.proofs.lemmas.List.Sums.{sum_by-cons}
use Rattle.std.proofs.lemmas.List.Elements.{All-head, All-tail, All-nil, All-cons}
use Rattle.definitions.specs.declared.arc.NetArc.{NetArc}
use Rattle.definitions.specs.Decimal.{number_line}
use Rattle.certificate.specs.declared.fault.Fault.{Fault}
use Rattle.certificate.specs.Spelling.{arc_line}
use Rattle.certificate.specs.Grammar.{Line, line_text, IsShort, HasArc}
use Rattle.certificate.proofs.Readers.{done, ok_is}
use Rattle.certificate.proofs.Exact.{IsExact}
use Rattle.certificate.proofs.ExactArcs.{arc_shape_exact, arc_shape}
use Rattle.certificate.proofs.ExactLines.{word_exact}

-- ---- one text

-- what begins a list of bytes is known from the bytes
pub record Peels {A : Type 0} (text : A → List ℕ) (Fits : A → Type 0) : Type 0 where
  pub peel : (x y : A) → Fits x → Fits y → (r s : List ℕ) → text x ++ r ≡ text y ++ s → (x ≡ y) × (r ≡ s)

exact_peels : {A : Type 0} (read : List ℕ → Result (A × List ℕ) Fault) (text : A → List ℕ) (Fits : A → Type 0) → IsExact read text Fits → Peels text Fits
exact_peels {A} read text Fits exact = record {
  peel = λ x y fx fy r s e.
      let both : done {A = A × List ℕ} (x, r) ≡ done (y, s) = sym (exact.again x r fx) ∙ ap read e ∙ exact.again y s fy in
      let same = ok_is {A = A × List ℕ} (x, r) (y, s) both in
      (ap (λ (p : A × List ℕ). p.0) same, ap (λ (p : A × List ℕ). p.1) same);
}

pub number_peels : (word : List ℕ) → Peels (number_line word) IsShort
number_peels word = exact_peels _ (number_line word) IsShort (word_exact word)

-- an arc with short numbers
pub record HasShortNumbers (arc : NetArc) : Type 0 where
  pub tail : IsShort arc.tail
  pub head : IsShort arc.head
  pub cost : IsShort arc.cost
  pub weight : IfSome arc.weight IsShort

pub has_arc : (arc : NetArc) → HasShortNumbers arc → HasArc (Line.Arc arc)
has_arc arc short = record { arc = arc; tail = short.tail; head = short.head; cost = short.cost; weight = short.weight; is = refl }

pub arc_peels : Peels arc_line HasShortNumbers
arc_peels = record {
  peel = λ x y fx fy r s e.
      let lines = (exact_peels arc_shape line_text HasArc arc_shape_exact).peel (Line.Arc x) (Line.Arc y) (has_arc x fx) (has_arc y fy) r s e in
      let same : x ≡ y = (let l : Line.Arc x ≡ Line.Arc y = lines.0 in cc) in
      (same, lines.1);
}

-- ---- many texts

opened : {A : Type 0} (text : A → List ℕ) (x : A) (xs : List A) (y : A) (ys : List A) (r s : List ℕ) → flat_map text (x ∷ xs) ++ r ≡ flat_map text (y ∷ ys) ++ s →
    text x ++ (flat_map text xs ++ r) ≡ text y ++ (flat_map text ys ++ s)
opened text x xs y ys r s e = sym (append_assoc (text x) (flat_map text xs) r) ∙ e ∙ append_assoc (text y) (flat_map text ys) s

-- the first of two lists is the front of the second, and what comes next stands first in the bytes
pub record NextIs {A : Type 0} (text : A → List ℕ) (xs ys : List A) (r s : List ℕ) : Type 0 where
  pub next : A
  pub others : List A
  pub all : ys ≡ xs ++ next ∷ others
  pub bytes : r ≡ text next ++ (flat_map text others ++ s)

pub list_next : {A : Type 0} (text : A → List ℕ) (Fits : A → Type 0) → Peels text Fits → (xs ys : List A) → All Fits xs → All Fits ys → (r s : List ℕ) →
    flat_map text xs ++ r ≡ flat_map text ys ++ s → length xs < length ys → NextIs text xs ys r s
list_next text Fits peels xs [] fx fy r s e lt = absurd (omega arith)
list_next text Fits peels [] (y ∷ ys) fx fy r s e lt = record { next = y; others = ys; all = refl; bytes = e ∙ append_assoc (text y) (flat_map text ys) s }
list_next text Fits peels (x ∷ xs) (y ∷ ys) fx fy r s e lt =
    let one = peels.peel x y (All-head Fits x xs fx) (All-head Fits y ys fy) (flat_map text xs ++ r) (flat_map text ys ++ s) (opened text x xs y ys r s e) in
    let rest = list_next text Fits peels xs ys (All-tail Fits x xs fx) (All-tail Fits y ys fy) r s one.1 (omega arith) in
    record {
      next = rest.next;
      others = rest.others;
      all = ap (λ z. z ∷ ys) (sym one.0) ∙ ap (λ zs. x ∷ zs) rest.all;
      bytes = rest.bytes;
    }

-- lists of one length are one
pub list_whole : {A : Type 0} (text : A → List ℕ) (Fits : A → Type 0) → Peels text Fits → (xs ys : List A) → All Fits xs → All Fits ys → (r s : List ℕ) →
    flat_map text xs ++ r ≡ flat_map text ys ++ s → length xs ≡ length ys → (xs ≡ ys) × (r ≡ s)
list_whole text Fits peels [] [] fx fy r s e same = (refl, e)
list_whole text Fits peels [] (y ∷ ys) fx fy r s e same = absurd (omega arith)
list_whole text Fits peels (x ∷ xs) [] fx fy r s e same = absurd (omega arith)
list_whole text Fits peels (x ∷ xs) (y ∷ ys) fx fy r s e same =
    let one = peels.peel x y (All-head Fits x xs fx) (All-head Fits y ys fy) (flat_map text xs ++ r) (flat_map text ys ++ s) (opened text x xs y ys r s e) in
    let rest = list_whole text Fits peels xs ys (All-tail Fits x xs fx) (All-tail Fits y ys fy) r s one.1 (omega arith) in
    (ap (λ z. z ∷ xs) one.0 ∙ ap (λ zs. y ∷ zs) rest.0, rest.1)

-- no number is above the sum
pub sum_short : (xs : List ℕ) (limit : ℕ) → sum xs ≤ limit → All (λ x. x ≤ limit) xs
sum_short [] limit low = All-nil (λ x. x ≤ limit)
sum_short (x ∷ xs) limit low =
    let parts : sum (x ∷ xs) ≡ x + sum xs = sum_by-cons (λ y. y) x xs in
    All-cons (λ y. y ≤ limit) x xs (omega arith) (sum_short xs limit (omega arith))
