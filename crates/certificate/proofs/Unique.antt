-- A text that spells a valid certificate is accepted with its verdict, unless memory runs out.
use Rattle.std.proofs.Common.{◌≡◌, ℕ, ◌<◌, List, length, Result, Ok, Err, refl, sym, ap, subst, ◌∙◌, arith, ◌⊎◌, inl, inr}
use Rattle.std.specs.Prelude.{sum, slice_index}
use Rattle.std.specs.Result.{IsErrAnd}
use Rattle.definitions.specs.Network.{tail_of}
use Rattle.definitions.specs.Duality.{NoPlanIsCheaper}
use Rattle.definitions.proofs.DualityLemmas.{duality}
use Rattle.certificate.specs.declared.checking.Verdict.{Verdict}
use Rattle.certificate.specs.declared.refused.Refused.{Refused}
use Rattle.certificate.specs.declared.refused.Refused.TheVariants as refused
use Rattle.certificate.specs.declared.stage.Stage.TheVariants as stage
use Rattle.certificate.specs.Spelling.{Certificate, network_of, last_line, spelling}
use Rattle.certificate.specs.Valid.{HasGoodLines, IsValid, IsOnly, verdict_of}
use Rattle.certificate.specs.Draft.{DraftData}
use Rattle.certificate.specs.Kept.{HasSizes, HasRows}
use Rattle.certificate.specs.Judged.{IsLabelBroken, IsFirstFailure}
use Rattle.certificate.specs.Stops.{StopsWith}
use Rattle.certificate.proofs.FrontRows.{is_front, full_of, same_certificate}
use Rattle.certificate.proofs.Advancing.{no_arc_fault}
use Rattle.certificate.proofs.Spelled.{no_stop}

-- ---- one text, one certificate

-- all lines of a certificate
abbrev whole_draft : Certificate → DraftData
whole_draft c =
    record {
      stage = stage.Done;
      nodes = c.nodes;
      arc_count = length c.arcs;
      k = c.k;
      destination = c.destination;
      units = sum c.demand;
      arcs = c.arcs;
      demand = c.demand;
      labels = c.labels;
      volumes = c.volumes;
      waits = c.waits;
    }

whole_rows : (c : Certificate) → HasGoodLines c → HasRows (whole_draft c)
whole_rows c lines =
    let demand = lines.demand_per_node in
    let labels = lines.label_per_node in
    let volumes = lines.volume_per_arc in
    let waits = lines.wait_per_node in
    record {
      order = record {
        arcs = omega arith;
        demand = omega arith;
        labels = omega arith;
        volumes = omega arith;
        waits = omega arith;
        arcs_first = λ lt. absurd (omega arith);
        demand_then = λ lt. absurd (omega arith);
        labels_then = λ lt. absurd (omega arith);
        volumes_then = λ lt. absurd (omega arith);
      };
      destination = lines.destination;
      arcs = no_arc_fault (network_of c) lines.network;
      no_demand = lines.no_demand_at_destination;
      units = refl;
      few_units = lines.units;
      labels = lines.labels;
      volumes = lines.volumes;
      waits = lines.waits;
    }

pub one_certificate : (b c : Certificate) → HasGoodLines b → HasGoodLines c → spelling b ≡ spelling c → b ≡ c
one_certificate b c good lines e =
    let d : DraftData = whole_draft b in
    let rows = whole_rows b good in
    let sizes : HasSizes d = record { nodes = good.network.within.nodes; arcs = good.network.within.arcs; k = good.network.within.k } in
    same_certificate d c last_line (is_front d c last_line sizes rows lines e) (full_of d rows good.wait_per_node)

-- ---- a valid certificate does not fail

labels_hold : (c : Certificate) → IsValid c → (at : ℕ) (answer : Refused) → at < c.nodes → IsLabelBroken c at answer → ⊥
labels_hold c valid at answer within (inl broken) =
    let zero : slice_index c.labels at ≡ 0 = ap (slice_index c.labels) broken.here ∙ valid.dual.zero_at_destination in
    let above : 0 < slice_index c.labels at = broken.label in
    omega arith
labels_hold c valid at answer within (inr (elsewhere, inl broken)) =
    let low = valid.dual.free_arcs broken.arc broken.within (λ e. elsewhere (sym broken.leaves ∙ e)) broken.free in
    let high = broken.above in
    let here : slice_index c.labels (tail_of (network_of c) broken.arc) ≡ slice_index c.labels at = ap (slice_index c.labels) broken.leaves in
    omega arith
labels_hold c valid at answer within (inr (elsewhere, inr broken)) =
    let low = valid.dual.boarding at within elsewhere in
    let high = broken.above in
    omega arith

pub holds : (c : Certificate) (answer : Refused) → IsValid c → IsFirstFailure c answer → ⊥
holds c answer valid (inl first) = first.broken.unequal (sym (valid.plan.conserved first.at first.within first.broken.elsewhere))
holds c answer valid (inr (kept, inl first)) =
    let low = valid.plan.waited_for first.at first.within first.broken.boarded in
    let high = first.broken.short in
    omega arith
holds c answer valid (inr (kept, inr (waited, first))) = labels_hold c valid first.at answer first.within first.broken

-- ---- what is answered

pub only_read : (r : Result Verdict Refused) (bytes : List ℕ) (answer : Refused) → (answer ≡ refused.NoMemory) ⊎ StopsWith bytes answer → IsErrAnd r (λ e. e ≡ answer) → IsOnly bytes r
only_read (Ok v) bytes answer why is c valid text = absurd is
only_read (Err e) bytes answer (inl memory) is c valid text = is ∙ memory
only_read (Err e) bytes answer (inr stops) is c valid text = absurd (no_stop bytes c answer valid.lines text stops)

pub only_judged : (r : Result Verdict Refused) (bytes : List ℕ) (claim : Certificate) (answer : Refused) → bytes ≡ spelling claim → HasGoodLines claim → IsFirstFailure claim answer → IsErrAnd r (λ e. e ≡ answer) → IsOnly bytes r
only_judged r bytes claim answer read lines fails is c valid text =
    let same : c ≡ claim = one_certificate c claim valid.lines lines (sym text ∙ read) in
    absurd (holds claim answer (subst IsValid same valid) fails)

pub only_shown : (verdict : Verdict) (bytes : List ℕ) (claim : Certificate) → bytes ≡ spelling claim → HasGoodLines claim → verdict ≡ verdict_of claim → IsOnly bytes (Ok verdict)
only_shown verdict bytes claim read lines shown c valid text = shown ∙ ap verdict_of (one_certificate claim c lines valid.lines (sym read ∙ text))

-- its bound is a bound of that certificate's problem
pub bound_holds : (verdict : Verdict) (bytes : List ℕ) (claim : Certificate) → bytes ≡ spelling claim → HasGoodLines claim → verdict ≡ verdict_of claim →
    (c : Certificate) → IsValid c → bytes ≡ spelling c → NoPlanIsCheaper (network_of c) c.destination c.demand verdict.bound
bound_holds verdict bytes claim read lines shown c valid text =
    let is : verdict ≡ verdict_of c = only_shown verdict bytes claim read lines shown c valid text in
    let lower : NoPlanIsCheaper (network_of c) c.destination c.demand (verdict_of c).bound = duality (network_of c) c.destination c.demand c.labels valid.lines.network.well_formed valid.lines.demand_per_node valid.dual in
    subst (λ (v : Verdict). NoPlanIsCheaper (network_of c) c.destination c.demand v.bound) (sym is) lower
