-- The line of an arc is read exactly.
use Rattle.std.proofs.Common.{◌≡◌, ℕ, List, [], ◌∷◌, ◌++◌, Option, Result, Ok, refl, sym, ap, subst, ◌∙◌, append_assoc, IfSome}
use Rattle.std.specs.Prelude.{codes}
use Rattle.std.specs.Fmt.{decimal}
use Rattle.std.proofs.lemmas.List.{append-nil}
use Rattle.definitions.specs.Decimal.{line_end}
use Rattle.lp_model.specs.declared.wide_arc.WideArc.{WideArc}
use Rattle.lp_model.specs.Wide.{arc_of_wide}
use Rattle.certificate.specs.declared.fault.Fault.{Fault}
use Rattle.certificate.specs.Bytes.{◌>>=◌, number_at}
use Rattle.certificate.specs.Lines.{weight_at, wide_arc_at}
use Rattle.certificate.specs.Spelling.{weight_text, arc_line}
use Rattle.certificate.specs.Grammar.{Line, line_text, IsShort, HasArc}
use Rattle.certificate.proofs.Exact.{IsExact, same_text, value_exact, after_literal}
use Rattle.certificate.proofs.ExactNext.{next_exact}
use Rattle.certificate.proofs.ExactNumbers.{number_exact, weight_exact}

-- the number and the blank after it
abbrev blank_text : ℕ → List ℕ
blank_text n = decimal n ++ 32 ∷ []

abbrev from_weight : WideArc → List ℕ
from_weight a = weight_text a.weight ++ line_end

abbrev from_cost : WideArc → List ℕ
from_cost a = blank_text a.cost ++ from_weight a

abbrev from_head : WideArc → List ℕ
from_head a = blank_text a.head ++ from_cost a

abbrev from_tail : WideArc → List ℕ
from_tail a = blank_text a.tail ++ from_head a

-- an arc with short numbers from the weight on, and these before
record FromWeight (tail head cost : ℕ) (a : WideArc) : Type 0 where
  t : a.tail ≡ tail
  h : a.head ≡ head
  c : a.cost ≡ cost
  w : IfSome a.weight IsShort

record FromCost (tail head : ℕ) (a : WideArc) : Type 0 where
  t : a.tail ≡ tail
  h : a.head ≡ head
  c : IsShort a.cost
  w : IfSome a.weight IsShort

record FromHead (tail : ℕ) (a : WideArc) : Type 0 where
  t : a.tail ≡ tail
  h : IsShort a.head
  c : IsShort a.cost
  w : IfSome a.weight IsShort

-- an arc with short numbers
pub record AreShort (a : WideArc) : Type 0 where
  pub t : IsShort a.tail
  pub h : IsShort a.head
  pub c : IsShort a.cost
  pub w : IfSome a.weight IsShort

abbrev wide : ℕ → ℕ → ℕ → Option ℕ → WideArc
wide tail head cost weight = record { tail = tail; head = head; cost = cost; weight = weight }

abbrev weight_read : ℕ → ℕ → ℕ → List ℕ → Result (WideArc × List ℕ) Fault
weight_read tail head cost bytes = weight_at bytes >>= λ w. Ok (wide tail head cost w.0, w.1)

weight_read_exact : (tail head cost : ℕ) → IsExact (weight_read tail head cost) from_weight (FromWeight tail head cost)
weight_read_exact tail head cost =
    next_exact weight_at (λ w. weight_text w ++ line_end) (λ w. IfSome w IsShort) (λ w bytes. Ok (wide tail head cost w, bytes)) (λ w a. []) (λ w a. a ≡ wide tail head cost w) from_weight (FromWeight tail head cost)
    (record {
      makes = λ w a short same. (append-nil (weight_text w ++ line_end) ∙ ap from_weight (sym same), subst (FromWeight tail head cost) (sym same) (record { t = refl; h = refl; c = refl; w = short }));
      made = λ a f. (a.weight, f.w, λ i. record { tail = f.t i; head = f.h i; cost = f.c i; weight = a.weight });
    })
    weight_exact (λ w short. value_exact (wide tail head cost w))

abbrev cost_read : ℕ → ℕ → List ℕ → Result (WideArc × List ℕ) Fault
cost_read tail head bytes = number_at 32 bytes >>= λ c. weight_read tail head c.0 c.1

cost_read_exact : (tail head : ℕ) → IsExact (cost_read tail head) from_cost (FromCost tail head)
cost_read_exact tail head =
    next_exact (number_at 32) blank_text IsShort (weight_read tail head) (λ c a. from_weight a) (FromWeight tail head) from_cost (FromCost tail head)
    (record {
      makes = λ c a short f. (ap (λ n. blank_text n ++ from_weight a) (sym f.c), record { t = f.t; h = f.h; c = subst IsShort (sym f.c) short; w = f.w });
      made = λ a f. (a.cost, f.c, record { t = f.t; h = f.h; c = refl; w = f.w });
    })
    (number_exact 32 refl) (λ c short. weight_read_exact tail head c)

abbrev head_read : ℕ → List ℕ → Result (WideArc × List ℕ) Fault
head_read tail bytes = number_at 32 bytes >>= λ h. cost_read tail h.0 h.1

head_read_exact : (tail : ℕ) → IsExact (head_read tail) from_head (FromHead tail)
head_read_exact tail =
    next_exact (number_at 32) blank_text IsShort (cost_read tail) (λ h a. from_cost a) (FromCost tail) from_head (FromHead tail)
    (record {
      makes = λ h a short f. (ap (λ n. blank_text n ++ from_cost a) (sym f.h), record { t = f.t; h = subst IsShort (sym f.h) short; c = f.c; w = f.w });
      made = λ a f. (a.head, f.h, record { t = f.t; h = refl; c = f.c; w = f.w });
    })
    (number_exact 32 refl) (λ h short. cost_read_exact tail h)

abbrev tail_read : List ℕ → Result (WideArc × List ℕ) Fault
tail_read bytes = number_at 32 bytes >>= λ t. head_read t.0 t.1

tail_read_exact : IsExact tail_read from_tail AreShort
tail_read_exact =
    next_exact (number_at 32) blank_text IsShort head_read (λ t a. from_head a) FromHead from_tail AreShort
    (record {
      makes = λ t a short f. (ap (λ n. blank_text n ++ from_head a) (sym f.t), record { t = subst IsShort (sym f.t) short; h = f.h; c = f.c; w = f.w });
      made = λ a f. (a.tail, f.t, record { t = refl; h = f.h; c = f.c; w = f.w });
    })
    (number_exact 32 refl) (λ t short. head_read_exact t)

wide_arc_exact : IsExact wide_arc_at (λ a. arc_line (arc_of_wide a)) AreShort
unfolding wide_arc_at
wide_arc_exact =
    same_text wide_arc_at (λ a. codes "a " ++ from_tail a) (λ a. arc_line (arc_of_wide a)) AreShort
    (λ a short. regroup (codes "a ") (decimal a.tail) (decimal a.head) (decimal a.cost) (weight_text a.weight) (32 ∷ []) line_end)
    (after_literal (codes "a ") tail_read from_tail AreShort tail_read_exact)
  where
    regroup : (a b c d e s n : List ℕ) → a ++ ((b ++ s) ++ ((c ++ s) ++ ((d ++ s) ++ (e ++ n)))) ≡ (((((((a ++ b) ++ s) ++ c) ++ s) ++ d) ++ s) ++ e) ++ n
    regroup a b c d e s n = simp append_assoc

-- the line of an arc
abbrev pub arc_shape : List ℕ → Result (Line × List ℕ) Fault
arc_shape bytes = wide_arc_at bytes >>= λ a. Ok (Line.Arc (arc_of_wide a.0), a.1)

pub arc_shape_exact : IsExact arc_shape line_text HasArc
arc_shape_exact =
    next_exact wide_arc_at (λ a. arc_line (arc_of_wide a)) AreShort (λ a bytes. Ok (Line.Arc (arc_of_wide a), bytes)) (λ a y. []) (λ a y. y ≡ Line.Arc (arc_of_wide a)) line_text HasArc
    (record {
      makes = λ a y short same. (append-nil (arc_line (arc_of_wide a)) ∙ ap line_text (sym same), record { arc = arc_of_wide a; tail = short.t; head = short.h; cost = short.c; weight = short.w; is = same });
      made = λ y h. (wide h.arc.tail h.arc.head h.arc.cost h.arc.weight, record { t = h.tail; h = h.head; c = h.cost; w = h.weight }, h.is);
    })
    wide_arc_exact (λ a short. value_exact (Line.Arc (arc_of_wide a)))
