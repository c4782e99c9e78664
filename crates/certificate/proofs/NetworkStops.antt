-- Where the reading of a network text stops, its refusal stands.
use Rattle.std.proofs.Common.{◌≡◌, ℕ, ◌<◌, List, [], ◌∷◌, ◌++◌, length, length-append, Err, refl, sym, ap, subst, ◌∙◌, append_assoc, arith, inl, inr}
use Rattle.std.specs.Prelude.{codes}
use Rattle.std.specs.List.{flat_map}
use Rattle.std.proofs.lemmas.Bool.{le-ltb}
use Rattle.std.proofs.lemmas.List.{append-nil, append_cancel_left}
use Rattle.std.proofs.lemmas.Grind.{flat_map-append}
use Rattle.definitions.specs.Decimal.{number_line}
use Rattle.certificate.specs.declared.fault.Fault.{Fault}
use Rattle.certificate.specs.Bytes.{literal_at}
use Rattle.certificate.specs.Spelling.{title, last_line, arc_line}
use Rattle.certificate.specs.NetworkText.{network_title, network_spelling}
use Rattle.certificate.specs.Draft.{DraftData, text_before, text_so_far}
use Rattle.certificate.specs.Kept.{HasRows, IsAtStage}
use Rattle.certificate.specs.Grammar.{Line, line_text, Kind, IsOf}
use Rattle.certificate.specs.GoodLines.{start, step, AreGoodLines}
use Rattle.certificate.specs.NetworkRefusals.{problem_kind, HasNetworkRefusal}
use Rattle.certificate.specs.ProblemDraft.{problem_so_far, IsProblemWhole, StopsInProblem, StopsAtEnd}
use Rattle.certificate.specs.Stops.{refusal_of}
use Rattle.certificate.proofs.ExactJudged.{HasUnits}
use Rattle.certificate.proofs.KindReaders.{reader_at}
use Rattle.certificate.proofs.LineStops.{kind_fault}
use Rattle.certificate.proofs.Taken.{literal_taken}
use Rattle.certificate.proofs.Trails.{go_on, units_step}
use Rattle.certificate.proofs.TrailRows.{arcs_full}
use Rattle.certificate.proofs.ProblemTrail.{left_reader, problem_list, problem_end, rows_good, rows_parts, rows_text}
use Rattle.certificate.proofs.ProblemStages.{problem_trail}

-- ---- units

pub no_units : HasUnits start
no_units = record { sum = refl; few = omega arith }

units_along : (next : DraftData → Kind) (d e : DraftData) (lines : List Line) → AreGoodLines next d lines e → HasUnits d → HasUnits e
units_along next d e [] good units = subst HasUnits good units
units_along next d e (line ∷ lines) good units = units_along next (step d line) e lines good.2 (units_step d line units good.1)

pub units_of : (lines : List Line) (end : DraftData) → AreGoodLines problem_kind start lines end → HasUnits end
units_of lines end good = units_along problem_kind start end lines good no_units

-- ---- after good lines

pub refused_after : (bytes rest : List ℕ) (lines : List Line) (end : DraftData) (f : Fault) → AreGoodLines problem_kind start lines end → flat_map line_text lines ++ rest ≡ bytes →
    (problem_kind end ≡ Kind.Nothing → 0 < length rest) → reader_at (problem_kind end) end rest ≡ Err f → HasNetworkRefusal bytes (refusal_of (length bytes) f)
refused_after bytes rest lines end f good text more stops = record {
  lines = lines;
  draft = end;
  good = good;
  rest = rest;
  text = text;
  fault = kind_fault (problem_kind end) end rest f (length (flat_map line_text lines)) (length bytes) (units_of lines end good) more stops (sym (length-append (flat_map line_text lines) rest) ∙ ap length text);
}

-- the title is wrong
pub title_refused : (bytes : List ℕ) (f : Fault) → literal_at network_title bytes ≡ Err f → HasNetworkRefusal bytes (refusal_of (length bytes) f)
title_refused bytes f stops = refused_after bytes bytes [] start f refl refl (λ none. absurd cc) stops

-- the lines after the title, which stand there after that of certificates too
under_title : (bytes tail others rest : List ℕ) → bytes ≡ network_title ++ tail → (title ++ others) ++ rest ≡ title ++ tail → (network_title ++ others) ++ rest ≡ bytes
under_title bytes tail others rest titled text =
    let same : others ++ rest ≡ tail = append_cancel_left title (others ++ rest) tail (sym (append_assoc title others rest) ∙ text) in
    append_assoc network_title others rest ∙ ap (λ t. network_title ++ t) same ∙ sym titled

-- a line before the last demand is wrong
pub line_refused : (bytes tail : List ℕ) (f : Fault) → bytes ≡ network_title ++ tail → StopsInProblem (title ++ tail) f → HasNetworkRefusal bytes (refusal_of (length bytes) f)
line_refused bytes tail f titled h =
    let t = problem_trail h.draft h.kept h.unclaimed in
    refused_after bytes h.rest (Line.NetworkTitle ∷ t.lines) t.end f t.good (under_title bytes tail (flat_map line_text t.lines) h.rest titled (ap (λ x. x ++ h.rest) t.text ∙ h.text)) (λ none. absurd (t.some none))
    (t.same h.rest ∙ left_reader h.draft h.rest h.left h.unclaimed ∙ h.stops)

-- ---- after the last demand

pub rows_of : (d : DraftData) → IsProblemWhole d → HasRows d
rows_of d whole = subst (λ s. IsAtStage s d) whole.rows whole.kept.rows

pub arcs_whole : (d : DraftData) → IsProblemWhole d → length d.arcs ≡ d.arc_count
arcs_whole d whole =
    let rows = rows_of d whole in
    let some : d.destination < d.nodes = rows.destination in
    let demand : length d.demand ≡ d.nodes = whole.demand in
    let low = rows.order.arcs in
    let high = arcs_full d rows (omega arith) in
    omega arith

end_kind : (d : DraftData) → IsProblemWhole d → problem_kind (problem_end d) ≡ Kind.End
end_kind d whole =
    let arcs = arcs_whole d whole in
    let demand : length d.demand ≡ d.nodes = whole.demand in
    rw (le-ltb (length d.arcs) d.arc_count (omega arith), le-ltb (length d.demand) d.nodes (omega arith)) refl

-- the lines up to the last demand, and then the last line
pub end_good : (d : DraftData) → IsProblemWhole d → AreGoodLines problem_kind start (Line.NetworkTitle ∷ (problem_list d ++ Line.End ∷ [])) (step (problem_end d) Line.End)
end_good d whole =
    go_on problem_kind start (problem_end d) (step (problem_end d) Line.End) (Line.NetworkTitle ∷ problem_list d) (Line.End ∷ []) (rows_good d whole.kept.sizes (rows_of d whole))
    (subst (λ kind. IsOf kind Line.End) (sym (end_kind d whole)) refl, refl, refl)

-- the lines so far are those of the list
text_is : (d : DraftData) (rest tail : List ℕ) → IsProblemWhole d → text_so_far d ++ rest ≡ title ++ tail → (title ++ flat_map line_text (problem_list d)) ++ rest ≡ title ++ tail
text_is d rest tail whole text = ap (λ t. t ++ rest) (rows_text d whole.unclaimed ∙ ap (λ s. text_before s d) (sym whole.rows)) ∙ text

pub end_refused : (bytes tail rest : List ℕ) (d : DraftData) (f : Fault) → bytes ≡ network_title ++ tail → IsProblemWhole d → text_so_far d ++ rest ≡ title ++ tail → StopsAtEnd rest f → HasNetworkRefusal bytes (refusal_of (length bytes) f)
end_refused bytes tail rest d f titled whole text (inl stops) =
    refused_after bytes rest (Line.NetworkTitle ∷ problem_list d) (problem_end d) f (rows_good d whole.kept.sizes (rows_of d whole))
    (under_title bytes tail (flat_map line_text (problem_list d)) rest titled (text_is d rest tail whole text)) (λ none. absurd (let kind = sym (end_kind d whole) ∙ none in cc))
    (ap (λ kind. reader_at kind (problem_end d) rest) (end_kind d whole) ∙ stops)
end_refused bytes tail rest d f titled whole text (inr h) =
    let all : flat_map line_text (problem_list d ++ Line.End ∷ []) ≡ flat_map line_text (problem_list d) ++ last_line = flat_map-append line_text (problem_list d) (Line.End ∷ []) ∙ ap (λ t. flat_map line_text (problem_list d) ++ t) (append-nil last_line) in
    let over : (title ++ flat_map line_text (problem_list d ++ Line.End ∷ [])) ++ h.more ≡ title ++ tail =
    ap (λ t. (title ++ t) ++ h.more) all ∙ regroup title (flat_map line_text (problem_list d)) last_line h.more ∙ ap (λ t. (title ++ flat_map line_text (problem_list d)) ++ t) (sym (literal_taken last_line rest h.more h.text)) ∙ text_is d rest tail whole text in
    refused_after bytes h.more (Line.NetworkTitle ∷ (problem_list d ++ Line.End ∷ [])) (step (problem_end d) Line.End) f (end_good d whole)
    (under_title bytes tail (flat_map line_text (problem_list d ++ Line.End ∷ [])) h.more titled over) (λ none. h.some) (ap (λ g. Err g) (sym h.says))
  where
    regroup : (t l e m : List ℕ) → (t ++ (l ++ e)) ++ m ≡ (t ++ l) ++ (e ++ m)
    regroup t l e m = simp append_assoc refl

-- ---- the text of a problem

pub spelled : (d : DraftData) → IsProblemWhole d → network_title ++ (flat_map line_text (problem_list d) ++ last_line) ≡ network_spelling (problem_so_far d)
spelled d whole =
    ap (λ t. network_title ++ ((number_line (codes "nodes") d.nodes ++ (number_line (codes "arcs") d.arc_count ++ (number_line (codes "k") d.k ++ (number_line (codes "destination") d.destination ++ t)))) ++ last_line)) (rows_parts d)
    ∙ regroup network_title (number_line (codes "nodes") d.nodes) (number_line (codes "arcs") d.arc_count) (number_line (codes "k") d.k) (number_line (codes "destination") d.destination) (flat_map arc_line d.arcs) (flat_map (number_line (codes "g")) d.demand) last_line
    ∙ ap (λ n. network_title ++ number_line (codes "nodes") d.nodes ++ number_line (codes "arcs") n ++ number_line (codes "k") d.k ++ number_line (codes "destination") d.destination ++ flat_map arc_line d.arcs
    ++ flat_map (number_line (codes "g")) d.demand ++ last_line) (sym (arcs_whole d whole))
  where
    regroup : (t n a k d x g e : List ℕ) → t ++ ((n ++ (a ++ (k ++ (d ++ (x ++ g))))) ++ e) ≡ t ++ n ++ a ++ k ++ d ++ x ++ g ++ e
    regroup t n a k d x g e = simp append_assoc refl

-- a text whose lines are all read is spelled so
pub text_read : (bytes tail rest : List ℕ) (d : DraftData) → bytes ≡ network_title ++ tail → IsProblemWhole d → text_so_far d ++ rest ≡ title ++ tail → rest ≡ last_line → bytes ≡ network_spelling (problem_so_far d)
text_read bytes tail rest d titled whole text last =
    sym (under_title bytes tail (flat_map line_text (problem_list d)) rest titled (text_is d rest tail whole text)) ∙ append_assoc network_title (flat_map line_text (problem_list d)) rest
    ∙ ap (λ t. network_title ++ (flat_map line_text (problem_list d) ++ t)) last ∙ spelled d whole
