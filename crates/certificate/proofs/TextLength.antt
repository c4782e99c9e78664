-- The lines of a certificate are few and short: their bytes are counted in 64 bits.
use Rattle.std.proofs.Common.{◌≡◌, ℕ, zero, suc, ◌+◌, ◌*◌, ◌/◌, ◌%◌, ◌≤◌, Bool, true, false, cond, List, [], ◌∷◌, ◌++◌, length, Option, None, Some, arith, length-append}
use Rattle.std.specs.Prelude.{codes, ◌==◌}
use Rattle.std.specs.Fmt.{digits, digits_onto, digit_glyph, decimal}
use Rattle.std.specs.List.{flat_map}
use Rattle.definitions.specs.declared.limits.TheConstants.{NODE_LIMIT, ARC_LIMIT}
use Rattle.definitions.specs.declared.arc.NetArc.{NetArc}
use Rattle.definitions.specs.Decimal.{numeral, number_line}
use Rattle.certificate.specs.declared.stage.Stage.{Stage}
use Rattle.certificate.specs.declared.stage.Stage.TheVariants as stage
use Rattle.certificate.specs.Spelling.{title, last_line, weight_text, arc_line}
use Rattle.certificate.specs.Draft.{DraftData, text_so_far, text_before, up_to_nodes, up_to_arcs, up_to_k, up_to_rows}
use Rattle.certificate.specs.Kept.{HasSizes, HasRows, IsAtStage, IsKept}

-- no more bytes than so many
abbrev pub IsWithin : ℕ → List ℕ → Type 0
IsWithin most bytes = length bytes ≤ most

both : (a b : ℕ) (xs ys : List ℕ) → IsWithin a xs → IsWithin b ys → IsWithin (a + b) (xs ++ ys)
both a b xs ys h k = let e = length-append xs ys in omega arith

-- a numeral has at most 64 digits
onto_few : (k base : ℕ) (upper : Bool) (n : ℕ) (acc : List ℕ) → length (digits_onto k base upper n acc) ≤ k + length acc
onto_few zero base upper n acc = omega arith
onto_few (suc k) base upper n acc = step (n / base == 0) (onto_few k base upper (n / base) (digit_glyph upper (n % base) ∷ acc))
  where
    step : (t : Bool) → length (digits_onto k base upper (n / base) (digit_glyph upper (n % base) ∷ acc)) ≤ k + length (digit_glyph upper (n % base) ∷ acc) →
        length (cond t (digit_glyph upper (n % base) ∷ acc) (digits_onto k base upper (n / base) (digit_glyph upper (n % base) ∷ acc))) ≤ suc k + length acc
    step true h = omega arith
    step false h = omega arith

numeral_few : (n : ℕ) → IsWithin 64 (decimal n)
unfolding digits
numeral_few n = onto_few 64 10 false n []

pub line_few : (word : List ℕ) (w : ℕ) → IsWithin w word → (n : ℕ) → IsWithin (w + 1 + 64 + 1) (number_line word n)
line_few word w short n =
    both (w + 1 + 64) 1 (word ++ codes " " ++ numeral n) (10 ∷ [])
    (both (w + 1) 64 (word ++ codes " ") (numeral n) (both w 1 word (codes " ") short (omega arith)) (numeral_few n)) (omega arith)

weight_few : (w : Option ℕ) → IsWithin 64 (weight_text w)
weight_few None = omega arith
weight_few (Some n) = numeral_few n

pub arc_few : (arc : NetArc) → IsWithin 262 (arc_line arc)
arc_few arc =
    let whole = parts (codes "a ") (numeral arc.tail) (codes " ") (numeral arc.head) (numeral arc.cost) (weight_text arc.weight) (10 ∷ []) in
    let tail = numeral_few arc.tail in
    let head = numeral_few arc.head in
    let cost = numeral_few arc.cost in
    let weight = weight_few arc.weight in
    omega arith
  where
    parts : (a t s h c w n : List ℕ) →
        length (a ++ t ++ s ++ h ++ s ++ c ++ s ++ w ++ n) ≡ length a + length t + length s + length h + length s + length c + length s + length w + length n
    parts a t s h c w n = simp length-append

-- the rows of a kind
pub rows_few : {X : Type 0} (f : X → List ℕ) → ((x : X) → IsWithin 262 (f x)) → (xs : List X) → length (flat_map f xs) ≤ 262 * length xs
rows_few f h [] = omega arith
rows_few f h (x ∷ xs) =
    let e = length-append (f x) (flat_map f xs) in
    let one : length (f x) ≤ 262 = h x in
    let others : length (flat_map f xs) ≤ 262 * length xs = rows_few f h xs in
    omega arith

kind_few : (word : List ℕ) → IsWithin 1 word → (ns : List ℕ) → length (flat_map (number_line word) ns) ≤ 262 * length ns
kind_few word short ns = rows_few (number_line word) (λ n. let h : IsWithin 67 (number_line word n) = line_few word 1 short n in omega arith) ns

nodes_few : (d : DraftData) → IsWithin 96 (up_to_nodes d)
nodes_few d = both 25 71 title (number_line (codes "nodes") d.nodes) (omega arith) (line_few (codes "nodes") 5 (omega arith) d.nodes)

arcs_few : (d : DraftData) → IsWithin 166 (up_to_arcs d)
arcs_few d = both 96 70 (up_to_nodes d) (number_line (codes "arcs") d.arc_count) (nodes_few d) (line_few (codes "arcs") 4 (omega arith) d.arc_count)

k_few : (d : DraftData) → IsWithin 233 (up_to_k d)
k_few d = both 166 67 (up_to_arcs d) (number_line (codes "k") d.k) (arcs_few d) (line_few (codes "k") 1 (omega arith) d.k)

-- far more bytes than there can be
abbrev pub MOST : ℕ
MOST = 10000000000

rows_within : (d : DraftData) → HasSizes d → HasRows d → IsWithin 9999999000 (up_to_rows d)
rows_within d sizes rows =
    let arcs : length d.arcs ≤ ARC_LIMIT = omega (arith, rows.order.arcs, sizes.arcs) in
    let demand : length d.demand ≤ NODE_LIMIT = omega (arith, rows.order.demand, sizes.nodes) in
    let labels : length d.labels ≤ NODE_LIMIT = omega (arith, rows.order.labels, sizes.nodes) in
    let volumes : length d.volumes ≤ ARC_LIMIT = omega (arith, rows.order.volumes, sizes.arcs) in
    let waits : length d.waits ≤ NODE_LIMIT = omega (arith, rows.order.waits, sizes.nodes) in
    let h : IsWithin 310 (up_to_k d ++ number_line (codes "destination") d.destination) =
    both 233 77 (up_to_k d) (number_line (codes "destination") d.destination) (k_few d) (line_few (codes "destination") 11 (omega arith) d.destination) in
    let a = rows_few arc_line arc_few d.arcs in
    let g = kind_few (codes "g") (omega arith) d.demand in
    let u = kind_few (codes "u") (omega arith) d.labels in
    let v = kind_few (codes "v") (omega arith) d.volumes in
    let q = kind_few (codes "q") (omega arith) d.waits in
    let whole = parts (up_to_k d ++ number_line (codes "destination") d.destination) (flat_map arc_line d.arcs) (flat_map (number_line (codes "g")) d.demand) (flat_map (number_line (codes "u")) d.labels) (flat_map (number_line (codes "v")) d.volumes) (flat_map (number_line (codes "q")) d.waits) in
    omega arith
  where
    parts : (h a g u v q : List ℕ) → length (h ++ a ++ g ++ u ++ v ++ q) ≡ length h + length a + length g + length u + length v + length q
    parts h a g u v q = simp length-append

before_few : (s : Stage) (d : DraftData) → HasSizes d → IsAtStage s d → IsWithin MOST (text_before s d)
before_few stage.Title d sizes rows = omega arith
before_few stage.Nodes d sizes rows = omega arith
before_few stage.Arcs d sizes rows = let h = nodes_few d in omega arith
before_few stage.K d sizes rows = let h = arcs_few d in omega arith
before_few stage.Destination d sizes rows = let h = k_few d in omega arith
before_few stage.Rows d sizes rows = let h = rows_within d sizes rows in omega arith
before_few stage.Done d sizes whole = let h : IsWithin 9999999004 (up_to_rows d ++ last_line) = both 9999999000 4 (up_to_rows d) last_line (rows_within d sizes whole.rows) (omega arith) in omega arith

pub text_few : (d : DraftData) → IsKept d → length (text_so_far d) ≤ MOST
text_few d kept = before_few d.stage d kept.sizes kept.rows
