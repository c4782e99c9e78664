-- A draft that is whole has a network without faults.
use Rattle.std.proofs.Common.{◌≡◌, ℕ, zero, suc, ◌+◌, ◌<◌, ◌≤◌, ◌⊎◌, List, [], length, None, Some, refl, ap, subst, ◌∙◌, sym, arith, inl, inr}
use Rattle.std.specs.Prelude.{slice_get}
use Rattle.std.specs.List.{flat_map, range_with_len}
use Rattle.std.proofs.lemmas.Bool.{le-ltb}
use Rattle.definitions.specs.declared.limits.TheConstants.{NODE_LIMIT, ARC_LIMIT, K_LIMIT}
use Rattle.definitions.specs.Network.{NetworkData, arc_at}
use Rattle.lp_model.specs.declared.fault.NetFault.{NetFault}
use Rattle.lp_model.specs.declared.fault.NetFault.TheVariants as net_fault
use Rattle.lp_model.specs.Faults.{arc_faults, tail_before, network_faults, first_fault}
use Rattle.certificate.specs.declared.stage.Stage.TheVariants as stage
use Rattle.certificate.specs.Draft.{DraftData, network_so_far}
use Rattle.certificate.specs.Kept.{HasSizes, HasRows, IsWhole, IsAtStage}

-- where nothing stands at each number of a range, nothing stands at all
none_of : {X : Type 0} (f : ℕ → List X) (a n : ℕ) → ((i : ℕ) → a ≤ i → i < a + n → f i ≡ []) → flat_map f (range_with_len a n) ≡ []
none_of f a zero h = refl
none_of f a (suc n) h = rw (h a (omega arith) (omega arith), none_of f (a + 1) n (λ i low high. h i (omega arith) (omega arith))) refl

pub faultless : (d : DraftData) → HasSizes d → HasRows d → network_faults (network_so_far d) ≡ []
faultless d sizes rows =
    let few : length d.arcs ≤ ARC_LIMIT = omega (arith, rows.order.arcs, sizes.arcs) in
    let net : NetworkData = network_so_far d in
    rw (
      le-ltb NODE_LIMIT d.nodes sizes.nodes,
      le-ltb ARC_LIMIT (length d.arcs) few,
      le-ltb K_LIMIT d.k sizes.k,
      none_of (λ arc. arc_faults net.nodes (tail_before net arc) arc (arc_at net arc)) 0 (length d.arcs) (λ arc low high. rows.arcs arc (omega arith)),
    ) refl

-- so only memory can be refused
pub memory_alone : (d : DraftData) (f : NetFault) → HasSizes d → HasRows d → ((f ≡ net_fault.NoMemory) ⊎ (first_fault (network_so_far d) ≡ Some f)) → f ≡ net_fault.NoMemory
memory_alone d f sizes rows (inl memory) = memory
memory_alone d f sizes rows (inr fault) =
    let none : first_fault (network_so_far d) ≡ None = ap (λ fs. slice_get fs 0) (faultless d sizes rows) in
    absurd (let e : Some f ≡ None = sym fault ∙ none in cc)

pub only_memory : (d : DraftData) (f : NetFault) → d.stage ≡ stage.Done → HasSizes d → IsAtStage d.stage d →
    ((f ≡ net_fault.NoMemory) ⊎ (first_fault (network_so_far d) ≡ Some f)) → f ≡ net_fault.NoMemory
only_memory d f done sizes at_stage why =
    let whole : IsWhole d = subst (λ s. IsAtStage s d) done at_stage in
    memory_alone d f sizes whole.rows why
