-- A certificate whose lines are good holds, or something in it fails first.
use Rattle.std.proofs.Common.{◌≡◌, ℕ, zero, suc, ◌*◌, ◌<◌, ◌≤◌, Bool, true, false, None, Some, length, IsTrue, refl, sym, subst, ◌∙◌, arith, ◌⊎◌, inl, inr}
use Rattle.std.specs.Prelude.{IsFalse, slice_index, ◌≢◌}
use Rattle.std.proofs.lemmas.Bool.{cases_lt}
use Rattle.std.proofs.lemmas.Bool.Decides.{eqb_tells}
use Rattle.definitions.specs.Network.{tail_of, weight_of, is_boarding}
use Rattle.definitions.specs.Plan.{flow_out_of, due_at}
use Rattle.definitions.specs.Dual.{time_through}
use Rattle.certificate.specs.declared.refused.Refused.{Refused}
use Rattle.certificate.specs.declared.refused.Refused.TheVariants as refused
use Rattle.certificate.specs.Spelling.{Certificate, network_of}
use Rattle.certificate.specs.Judged.{IsConserved, IsConservedAt, IsUnconserved, IsWaited, IsWaitedAt, IsWaitShort, IsFreeArcKept, savings_at, AreLabelsKept, IsLabelKept, IsLabelBroken, IsFirstRefusal, IsFirstFailure}

-- ---- the first of a count

-- each is kept, or one is the first that is broken
abbrev Settled : ℕ → (ℕ → Type 0) → (ℕ → Refused → Type 0) → Type 0
Settled count Kept Broken = ((at : ℕ) → at < count → Kept at) ⊎ ((answer : Refused) × IsFirstRefusal count Kept Broken answer)

settled : (count : ℕ) (Kept : ℕ → Type 0) (Broken : ℕ → Refused → Type 0) → ((at : ℕ) → at < count → Kept at ⊎ ((answer : Refused) × Broken at answer)) → Settled count Kept Broken
settled zero Kept Broken h = inl (λ at lt. absurd (omega arith))
settled (suc n) Kept Broken h = elim (settled n Kept Broken (λ at lt. h at (omega arith))) [
  | inl all ↦ elim (h n (omega arith)) [
    | inl kept ↦ inl (λ at lt. elim (cases_lt at n) [ inl low ↦ all at low | inr high ↦ (let same : n ≡ at = omega arith in subst Kept same kept) ])
    | inr broken ↦ inr (broken.0, record { at = n; within = omega arith; broken = broken.1; kept_before = all })
  ]
  | inr first ↦ (let low = first.1.within in inr (first.0, record { at = first.1.at; within = omega arith; broken = first.1.broken; kept_before = first.1.kept_before }))
]

-- a test holds, or does not
tested : (b : Bool) → IsTrue b ⊎ IsFalse b
tested true = inl refl
tested false = inr refl

not_both : (b : Bool) → IsTrue b → IsFalse b → ⊥
not_both b holds fails = (let both : true ≡ false = sym holds ∙ fails in cc)

-- ---- each kind

conserved_or : (c : Certificate) (node : ℕ) → IsConservedAt c node ⊎ ((answer : Refused) × IsUnconserved c node answer)
conserved_or c node = elim (eqb_tells node c.destination) [
  | inl here ↦ inl (λ elsewhere. absurd (elsewhere here.1))
  | inr elsewhere ↦ elim (eqb_tells (due_at (network_of c) 1 c.demand c.volumes node) (flow_out_of (network_of c) c.volumes node)) [
    | inl same ↦ inl (λ other. sym same.1)
    | inr unequal ↦ inr (
      refused.NotConserved node (due_at (network_of c) 1 c.demand c.volumes node) (flow_out_of (network_of c) c.volumes node),
      record { elsewhere = elsewhere.1; unequal = unequal.1; says = refl },
    )
  ]
]

waited_or : (c : Certificate) (arc : ℕ) → IsWaitedAt c arc ⊎ ((answer : Refused) × IsWaitShort c arc answer)
waited_or c arc = elim (tested (is_boarding (network_of c) arc)) [
  | inl boarded ↦ elim (cases_lt (weight_of (network_of c) arc * slice_index c.waits (tail_of (network_of c) arc)) (c.k * slice_index c.volumes arc)) [
    | inl short ↦ inr (
      refused.WaitShort arc (c.k * slice_index c.volumes arc) (weight_of (network_of c) arc * slice_index c.waits (tail_of (network_of c) arc)),
      record { boarded = boarded; short = short; says = refl },
    )
    | inr enough ↦ inl (λ other. enough)
  ]
  | inr free ↦ inl (λ boarded. absurd (not_both (is_boarding (network_of c) arc) boarded free))
]

-- the refusal at a free arc of a node
record IsAbove (c : Certificate) (node arc : ℕ) (answer : Refused) : Type 0 where
  leaves : tail_of (network_of c) arc ≡ node
  free : IsFalse (is_boarding (network_of c) arc)
  above : time_through (network_of c) c.labels arc < slice_index c.labels node
  says : answer ≡ refused.DualBroken node (Some arc) (slice_index c.labels node) (time_through (network_of c) c.labels arc)

free_or : (c : Certificate) (node arc : ℕ) → (tail_of (network_of c) arc ≡ node → IsFreeArcKept c arc) ⊎ ((answer : Refused) × IsAbove c node arc answer)
free_or c node arc = elim (eqb_tells (tail_of (network_of c) arc) node) [
  | inl leaves ↦ elim (tested (is_boarding (network_of c) arc)) [
    | inl boarded ↦ inl (λ here free. absurd (not_both (is_boarding (network_of c) arc) boarded free))
    | inr free ↦ elim (cases_lt (time_through (network_of c) c.labels arc) (slice_index c.labels node)) [
      | inl above ↦ inr (
        refused.DualBroken node (Some arc) (slice_index c.labels node) (time_through (network_of c) c.labels arc),
        record { leaves = leaves.1; free = free; above = above; says = refl },
      )
      | inr low ↦ inl (λ here other. subst (λ n. slice_index c.labels n ≤ time_through (network_of c) c.labels arc) (sym here) low)
    ]
  ]
  | inr elsewhere ↦ inl (λ here. absurd (elsewhere.1 here))
]

elsewhere_or : (c : Certificate) (node : ℕ) → node ≢ c.destination → IsLabelKept c node ⊎ ((answer : Refused) × IsLabelBroken c node answer)
elsewhere_or c node elsewhere = elim (settled (length c.arcs) (λ arc. tail_of (network_of c) arc ≡ node → IsFreeArcKept c arc) (IsAbove c node) (λ arc lt. free_or c node arc)) [
  | inl free ↦ elim (cases_lt c.k (savings_at c node)) [
    | inl above ↦ inr (refused.DualBroken node None (savings_at c node) c.k, inr (elsewhere, inr (record { free = free; above = above; says = refl })))
    | inr low ↦ inl (record { zero = λ here. absurd (elsewhere here); free = λ other. free; boarding = λ other. low })
  ]
  | inr first ↦ inr (
    first.0,
    inr (
      elsewhere,
      inl (record {
        arc = first.1.at;
        within = first.1.within;
        leaves = first.1.broken.leaves;
        free = first.1.broken.free;
        above = first.1.broken.above;
        says = first.1.broken.says;
        first = first.1.kept_before;
      }),
    ),
  )
]

label_or : (c : Certificate) (node : ℕ) → IsLabelKept c node ⊎ ((answer : Refused) × IsLabelBroken c node answer)
label_or c node = elim (eqb_tells node c.destination) [
  | inl here ↦ elim (cases_lt 0 (slice_index c.labels node)) [
    | inl above ↦ inr (refused.DualBroken node None (slice_index c.labels node) 0, inl (record { here = here.1; label = above; says = refl }))
    | inr low ↦ inl (record { zero = λ at. omega arith; free = λ other. absurd (other here.1); boarding = λ other. absurd (other here.1) })
  ]
  | inr elsewhere ↦ elsewhere_or c node elsewhere.1
]

-- ---- all of them

-- all holds
pub record AllHolds (c : Certificate) : Type 0 where
  pub conserved : IsConserved c
  pub waited : IsWaited c
  pub labels : AreLabelsKept c

pub decided : (c : Certificate) → AllHolds c ⊎ ((answer : Refused) × IsFirstFailure c answer)
decided c = elim (settled c.nodes (IsConservedAt c) (IsUnconserved c) (λ node lt. conserved_or c node)) [
  | inr first ↦ inr (first.0, inl first.1)
  | inl conserved ↦ elim (settled (length c.arcs) (IsWaitedAt c) (IsWaitShort c) (λ arc lt. waited_or c arc)) [
    | inr first ↦ inr (first.0, inr (conserved, inl first.1))
    | inl waited ↦ elim (settled c.nodes (IsLabelKept c) (IsLabelBroken c) (λ node lt. label_or c node)) [
      | inr first ↦ inr (first.0, inr (conserved, inr (waited, first.1)))
      | inl labels ↦ inl (record { conserved = conserved; waited = waited; labels = labels })
    ]
  ]
]
