-- A certificate that is read and judged is valid, and no plan is cheaper than its bound.
use Rattle.std.proofs.Common.{◌≡◌, ℕ, ◌*◌, ◌≤◌, List, ◌++◌, length, Result, Ok, Err, IfOk, refl, ap, sym, ◌∙◌, arith, inr}
use Rattle.std.proofs.lemmas.List.{append-nil, nil_from_length}
use Rattle.definitions.specs.Network.{tail_of}
use Rattle.definitions.specs.Plan.{cost_of_plan}
use Rattle.definitions.proofs.DualityLemmas.{duality}
use Rattle.certificate.specs.declared.checking.Verdict.{Verdict}
use Rattle.certificate.specs.Spelling.{Certificate, network_of, spelling}
use Rattle.certificate.specs.Valid.{HasGoodLines, IsValid, verdict_of, HasVerdict, NoPlanIsCheaperIn}
use Rattle.certificate.specs.declared.refused.Refused.{Refused}
use Rattle.certificate.specs.Judged.{IsConserved, IsWaited, AreLabelsKept, IsFirstFailure}
use Rattle.certificate.specs.Refusals.{IsRefusedWith}

-- where nothing is left, the text so far is the text
pub text_is : {E : Type 0} (r : Result Certificate E) (bytes so_far rest : List ℕ) (c : Certificate) → so_far ++ rest ≡ bytes → length rest ≡ 0 → so_far ≡ spelling c →
    IfOk r (λ claim. claim ≡ c) → IfOk r (λ claim. bytes ≡ spelling claim)
text_is (Err e) bytes so_far rest c text none whole same = tt
text_is (Ok claim) bytes so_far rest c text none whole same =
    sym text ∙ ap (λ xs. so_far ++ xs) (nil_from_length rest none) ∙ append-nil so_far ∙ whole ∙ ap spelling (sym same)

pub valid_of : (c : Certificate) → HasGoodLines c → IsConserved c → IsWaited c → AreLabelsKept c → IsValid c
valid_of c lines conserved waited labels = record {
  lines = lines;
  plan = record {
    flow_per_arc = lines.volume_per_arc;
    wait_per_node = lines.wait_per_node;
    conserved = conserved;
    waited_for = waited;
  };
  dual = record {
    label_per_node = lines.label_per_node;
    zero_at_destination = (labels c.destination lines.destination).zero refl;
    free_arcs = λ arc within other free. (labels (tail_of (network_of c) arc) (lines.network.well_formed.tails arc within)).free other arc within refl free;
    boarding = λ node within other. (labels node within).boarding other;
  };
}

-- the verdict of a valid certificate
pub verdict_is : (bytes : List ℕ) (c : Certificate) (verdict : Verdict) → bytes ≡ spelling c → IsValid c → verdict ≡ verdict_of c → HasVerdict bytes verdict
verdict_is bytes c verdict text valid shown = record { certificate = c; text = text; valid = valid; shown = shown }

pub lower_bound : (bytes : List ℕ) (verdict : Verdict) → HasVerdict bytes verdict → NoPlanIsCheaperIn bytes verdict
lower_bound bytes verdict h =
    let c : Certificate = h.certificate in
    let lines : HasGoodLines c = h.valid.lines in
    record {
      text = h;
      lower = rw h.shown (duality (network_of c) c.destination c.demand c.labels lines.network.well_formed lines.demand_per_node h.valid.dual);
    }

-- a certificate's own plan costs no less than its bound
pub gap_is : (bytes : List ℕ) (verdict : Verdict) → HasVerdict bytes verdict → verdict.bound ≤ verdict.cost
unfolding lower_bound
gap_is bytes verdict h =
    let c : Certificate = h.certificate in
    let low : 1 * verdict.bound ≤ cost_of_plan (network_of c) c.volumes c.waits = (lower_bound bytes verdict h).lower 1 c.volumes c.waits h.valid.plan in
    let cost : verdict.cost ≡ cost_of_plan (network_of c) c.volumes c.waits = ap (λ (v : Verdict). v.cost) h.shown in
    omega arith

-- a certificate that is read and fails is refused for it
pub failure_is : (bytes : List ℕ) (c : Certificate) (answer : Refused) → bytes ≡ spelling c → HasGoodLines c → IsFirstFailure c answer → IsRefusedWith bytes answer
failure_is bytes c answer text lines first = inr (inr (record { certificate = c; text = text; lines = lines; first = first }))
