-- Where lines so far begin the text of a certificate with good lines, a good line comes next.
use Rattle.std.proofs.Common.{◌≡◌, ℕ, zero, suc, ◌+◌, ◌<◌, ◌≤◌, ◌==◌, false, List, [], ◌∷◌, ◌++◌, length, length-append, rules, Option, None, Some, refl, sym, ap, subst, ◌∙◌, arith, All, IsTrue, inl, inr}
use Rattle.std.specs.Prelude.{codes, map, is_some, unwrap_or}
use Rattle.std.specs.List.{flat_map}
use Rattle.std.proofs.lemmas.Bool.{lt-ltb, le-ltb, lt-leb}
use Rattle.std.proofs.lemmas.Bool.Decides.{eqb_tells}
use Rattle.std.proofs.lemmas.List.{get_or_at, nil_from_length}
use Rattle.std.proofs.lemmas.List.Elements.{All-get_or}
use Rattle.definitions.specs.declared.arc.NetArc.{NetArc}
use Rattle.definitions.specs.declared.limits.TheConstants.{COST_LIMIT, WEIGHT_LIMIT}
use Rattle.definitions.specs.Decimal.{number_line}
use Rattle.definitions.specs.Network.{NetworkData, IsNetwork, arc_at, no_arc, tail_of, head_of, cost_of}
use Rattle.lp_model.specs.Faults.{arc_faults, weight_faults, tail_before}
use Rattle.certificate.specs.declared.refused.Limit.{Limit}
use Rattle.certificate.specs.declared.stage.Stage.TheVariants as stage
use Rattle.certificate.specs.Limits.{greatest}
use Rattle.certificate.specs.Spelling.{Certificate, network_of, arc_line}
use Rattle.certificate.specs.Draft.{DraftData}
use Rattle.certificate.specs.Grammar.{Line, line_text, Kind, kind_at, IsOf, IsNext}
use Rattle.certificate.specs.LineFaults.{range_faults, arc_refusal, line_faults}
use Rattle.certificate.proofs.Keeping.{net_of, same_before}
use Rattle.certificate.proofs.Fronts.{HasShortNumbers, has_arc, arc_peels, list_next}
use Rattle.certificate.proofs.FrontHeader.{from_demand}
use Rattle.certificate.proofs.FrontRows.{IsFront, demand_and}

-- a good line comes next
pub record Advances (d : DraftData) (rest : List ℕ) : Type 0 where
  pub line : Line
  pub next : IsNext d line
  pub good : line_faults d line ≡ []
  pub more : List ℕ
  pub bytes : rest ≡ line_text line ++ more

-- a line of a kind comes next
pub next_of : (d : DraftData) (kind : Kind) (line : Line) → kind_at d.stage d ≡ kind → IsOf kind line → IsNext d line
next_of d kind line here of = subst (λ k. IsOf k line) (sym here) of

-- a number within its limit
pub in_range : (limit : Limit) (n : ℕ) → n ≤ greatest limit → range_faults limit n ≡ []
in_range limit n low = rw (le-ltb (greatest limit) n low) refl

-- ---- an arc

no_weight_fault : (number : ℕ) (w : Option ℕ) → (IsTrue (is_some w) → 0 < unwrap_or w 0) → unwrap_or w 0 ≤ WEIGHT_LIMIT → weight_faults number w ≡ []
no_weight_fault number None some low = refl
no_weight_fault number (Some w) some low = elim (eqb_tells w 0) [
  | inl e ↦ absurd (let z : w ≡ 0 = e.1 in let p : 0 < w = some (search rules) in omega arith)
  | inr e ↦ rw (e.0, le-ltb WEIGHT_LIMIT w low) refl
]

rises : (net : NetworkData) → IsNetwork net → (arc : ℕ) → arc < length net.arcs → tail_before net arc ≤ tail_of net arc
rises net rules zero lt = omega arith
rises net rules (suc arc) lt = rules.grouped arc (suc arc) (omega arith) lt

pub no_arc_fault : (net : NetworkData) → IsNetwork net → (arc : ℕ) → arc < length net.arcs → arc_faults net.nodes (tail_before net arc) arc (arc_at net arc) ≡ []
no_arc_fault net rules arc lt =
    let tail : tail_of net arc < net.nodes = rules.well_formed.tails arc lt in
    let head : head_of net arc < net.nodes = rules.well_formed.heads arc lt in
    let cost : cost_of net arc == 0 ≡ false = elim (eqb_tells (cost_of net arc) 0) [ inl e ↦ absurd (let z = e.1 in let p = rules.well_formed.costs arc lt in omega arith) | inr e ↦ e.0 ] in
    rw (
      lt-leb net.nodes (tail_of net arc) tail,
      lt-leb net.nodes (head_of net arc) head,
      cost,
      le-ltb COST_LIMIT (cost_of net arc) (rules.within.costs arc lt),
      no_weight_fault arc (arc_at net arc).weight (rules.well_formed.weights arc lt) (rules.within.weights arc lt),
      le-ltb (tail_of net arc) (tail_before net arc) (rises net rules arc lt),
    ) refl

-- the arc after some of a network's
pub next_arc_good : (nodes k : ℕ) (arcs others : List NetArc) (z : NetArc) → IsNetwork (net_of nodes k (arcs ++ z ∷ others)) → arc_faults nodes (tail_before (net_of nodes k arcs) (length arcs)) (length arcs) z ≡ []
next_arc_good nodes k arcs others z rules =
    let net : NetworkData = net_of nodes k (arcs ++ z ∷ others) in
    let long = length-append arcs (z ∷ others) in
    let here : arc_at net (length arcs) ≡ z = get_or_at arcs z others no_arc (length arcs) refl in
    let before : tail_before net (length arcs) ≡ tail_before (net_of nodes k arcs) (length arcs) = same_before nodes k arcs (z ∷ others) (length arcs) (omega arith) in
    sym (ap (λ b. arc_faults nodes b (length arcs) z) before) ∙ sym (ap (arc_faults nodes (tail_before net (length arcs)) (length arcs)) here) ∙ no_arc_fault net rules (length arcs) (omega arith)

-- what stands in the middle of a list
pub middle : {A : Type 0} (P : A → Type 0) (xs zs ys : List A) (z d : A) → ys ≡ xs ++ z ∷ zs → All P ys → P z
middle P xs zs ys z d e all =
    let long = length-append xs (z ∷ zs) in
    let here : All P (xs ++ z ∷ zs) = subst (All P) e all in
    subst P (get_or_at xs z zs d (length xs) refl) (All-get_or P (xs ++ z ∷ zs) (length xs) d (omega arith) here)

pub arc_next : (d : DraftData) (c : Certificate) (rest : List ℕ) → IsFront d c rest → d.stage ≡ stage.Rows → length d.arcs < d.arc_count → Advances d rest
arc_next d c rest f rows lt =
    let n = list_next arc_line HasShortNumbers arc_peels d.arcs c.arcs f.short.arcs f.all_short.arcs (demand_and d rest) (from_demand c) f.header.bytes (subst (λ m. length d.arcs < m) f.header.arc_count lt) in
    let some : d.destination < d.nodes = f.rows.destination in
    let g : length d.demand ≡ 0 = f.rows.order.arcs_first lt in
    let u : length d.labels ≡ 0 = f.rows.order.demand_then (omega arith) in
    let v : length d.volumes + length d.waits ≡ 0 = f.rows.order.labels_then (omega arith) in
    let only : demand_and d rest ≡ rest = nothing d.demand d.labels d.volumes d.waits (nil_from_length d.demand g) (nil_from_length d.labels u) (nil_from_length d.volumes (omega arith)) (nil_from_length d.waits (omega arith)) in
    let same : network_of c ≡ net_of d.nodes d.k (d.arcs ++ n.next ∷ n.others) = λ i. record { nodes = sym f.header.nodes i; arcs = n.all i; k = sym f.header.k i } in
    record {
      line = Line.Arc n.next;
      next = next_of d Kind.Arc (Line.Arc n.next) (ap (λ s. kind_at s d) rows ∙ rw (lt-ltb (length d.arcs) d.arc_count lt) refl) (has_arc n.next (middle HasShortNumbers d.arcs n.others c.arcs n.next no_arc n.all f.all_short.arcs));
      good = ap (map arc_refusal) (next_arc_good d.nodes d.k d.arcs n.others n.next (subst IsNetwork same f.lines.network));
      more = flat_map arc_line n.others ++ from_demand c;
      bytes = sym only ∙ n.bytes;
    }
  where
    nothing : (gs us vs qs : List ℕ) → gs ≡ [] → us ≡ [] → vs ≡ [] → qs ≡ [] →
        flat_map (number_line (codes "g")) gs ++ (flat_map (number_line (codes "u")) us ++ (flat_map (number_line (codes "v")) vs ++ (flat_map (number_line (codes "q")) qs ++ rest))) ≡ rest
    nothing gs us vs qs g u v q = rw (g, u, v, q) refl
