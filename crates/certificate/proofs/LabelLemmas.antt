-- A node's label, judged by its arcs.
use Rattle.std.proofs.Common.{◌≡◌, ◌≢◌, ℕ, ◌<◌, ◌≤◌, length, Option, None, Some, sym, ap, subst, ◌∙◌, arith, inl, inr}
use Rattle.std.specs.Prelude.{IsFalse, MatchOption, slice_index}
use Rattle.definitions.specs.Network.{is_boarding, tail_of}
use Rattle.definitions.specs.Dual.{time_through}
use Rattle.certificate.specs.declared.refused.Refused.{Refused}
use Rattle.certificate.specs.declared.refused.Refused.TheVariants as refused
use Rattle.certificate.specs.Spelling.{Certificate, network_of}
use Rattle.certificate.specs.Judged.{IsFreeArcKept, AreFreeArcsKept, savings_at, IsLabelKept, IsNotZero, IsFreeArcBroken, IsLabelBroken}
use Rattle.certificate.proofs.OwnArcs.{AreOwn, own_are, own_only}

-- a label is no higher than what the free arc leads to
abbrev IsBelow : Certificate → ℕ → ℕ → Type 0
IsBelow c label arc = IsFalse (is_boarding (network_of c) arc) → label ≤ time_through (network_of c) c.labels arc

-- so is that of its tail
of_tail : (c : Certificate) (node label arc : ℕ) → label ≡ slice_index c.labels node → tail_of (network_of c) arc ≡ node → IsBelow c label arc → IsFreeArcKept c arc
of_tail c node label arc is leaves below free =
    let tail_label : slice_index c.labels (tail_of (network_of c) arc) ≡ label = ap (λ n. slice_index c.labels n) leaves ∙ sym is in
    subst (λ l. l ≤ time_through (network_of c) c.labels arc) (sym tail_label) (below free)

pub free_kept : (c : Certificate) (node first end label : ℕ) → AreOwn (network_of c) node first end → label ≡ slice_index c.labels node →
    ((before : ℕ) → first ≤ before → before < end → IsBelow c label before) → AreFreeArcsKept c node
free_kept c node first end label own is below arc within leaves =
    let between = own_only (network_of c) node first end arc own within leaves in
    of_tail c node label arc is leaves (below arc between.low between.high)

-- what a free arc that leads to less than a label says
pub record LeadsBelow (c : Certificate) (label arc through : ℕ) : Type 0 where
  pub free : IsFalse (is_boarding (network_of c) arc)
  pub value : through ≡ time_through (network_of c) c.labels arc
  pub below : through < label

pub free_broken : (c : Certificate) (node first end label arc through : ℕ) → AreOwn (network_of c) node first end → label ≡ slice_index c.labels node → first ≤ arc → arc < end →
    ((before : ℕ) → first ≤ before → before < arc → IsBelow c label before) → LeadsBelow c label arc through → IsFreeArcBroken c node (refused.DualBroken node (Some arc) label through)
free_broken c node first end label arc through own is low high kept here =
    let mine = own_are (network_of c) node first end arc own low high in
    record {
      arc = arc;
      within = mine.within;
      leaves = mine.leaves;
      free = here.free;
      above = subst (λ l. time_through (network_of c) c.labels arc < l) is (subst (λ t. t < label) here.value here.below);
      says = ap (λ l. refused.DualBroken node (Some arc) l through) is ∙ ap (λ t. refused.DualBroken node (Some arc) (slice_index c.labels node) t) here.value;
      first = λ before lt leaves.
          let within : before < length c.arcs = omega (arith, mine.within) in
          let between = own_only (network_of c) node first end before own within leaves in
          of_tail c node label before is leaves (kept before between.low lt);
    }

pub at_destination : (c : Certificate) (node : ℕ) (r : Option Refused) → node ≡ c.destination → MatchOption r (slice_index c.labels node ≡ 0) (IsNotZero c node) →
    MatchOption r (IsLabelKept c node) (IsLabelBroken c node)
at_destination c node None here zero = record { zero = λ same. zero; free = λ other. absurd (other here); boarding = λ other. absurd (other here) }
at_destination c node (Some answer) here broken = inl broken

pub at_free_arc : (c : Certificate) (node : ℕ) (answer : Refused) → node ≢ c.destination → IsFreeArcBroken c node answer → IsLabelBroken c node answer
at_free_arc c node answer other broken = inr (other, inl broken)

pub at_boarding_arcs : (c : Certificate) (node : ℕ) (r : Option Refused) → node ≢ c.destination → AreFreeArcsKept c node →
    MatchOption r (savings_at c node ≤ c.k) (λ answer. (c.k < savings_at c node) × (answer ≡ refused.DualBroken node None (savings_at c node) c.k)) →
    MatchOption r (IsLabelKept c node) (IsLabelBroken c node)
at_boarding_arcs c node None other free within = record { zero = λ same. absurd (other same); free = λ _. free; boarding = λ _. within }
at_boarding_arcs c node (Some answer) other free above = inr (other, inr (record { free = free; above = above.0; says = above.1 }))
