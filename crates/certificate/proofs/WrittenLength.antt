-- The texts that are written are short: their bytes are counted in 64 bits.
use Rattle.std.proofs.Common.{◌≡◌, append_assoc, subst, ℕ, ◌+◌, ◌*◌, ◌≤◌, List, ◌++◌, length, arith, length-append}
use Rattle.std.specs.Prelude.{codes}
use Rattle.std.specs.List.{flat_map}
use Rattle.definitions.specs.declared.limits.TheConstants.{NODE_LIMIT, ARC_LIMIT}
use Rattle.definitions.specs.declared.arc.NetArc.{NetArc}
use Rattle.definitions.specs.Decimal.{number_line}
use Rattle.certificate.specs.Spelling.{Certificate, title, last_line, arc_line, spelling}
use Rattle.certificate.specs.NetworkText.{ProblemData, network_title, network_spelling}
use Rattle.certificate.proofs.TextLength.{line_few, arc_few, rows_few}

-- two texts of at most so many bytes each
join : (a b c : ℕ) (xs ys : List ℕ) → a + b ≤ c → length xs ≤ a → length ys ≤ b → length (xs ++ ys) ≤ c
join a b c xs ys fits h k = let e = length-append xs ys in omega arith

-- the rows of a word of one letter
number_rows : (word : List ℕ) → length word ≤ 1 → (numbers : List ℕ) → length (flat_map (number_line word) numbers) ≤ 262 * length numbers
number_rows word short numbers = rows_few (number_line word) (λ n. let few = line_few word 1 short n in omega arith) numbers

-- a number line of the header
header_line : (word : List ℕ) → length word ≤ 16 → (n : ℕ) → length (number_line word n) ≤ 100
header_line word short n = let few = line_few word 16 short n in omega arith

arc_rows : (arcs : List NetArc) → length arcs ≤ ARC_LIMIT → length (flat_map arc_line arcs) ≤ 1100000000
arc_rows arcs within = let few = rows_few arc_line arc_few arcs in omega arith

node_rows : (word : List ℕ) → length word ≤ 1 → (numbers : List ℕ) → length numbers ≤ NODE_LIMIT → length (flat_map (number_line word) numbers) ≤ 300000000
node_rows word short numbers within = let few = number_rows word short numbers in omega arith

volume_rows : (numbers : List ℕ) → length numbers ≤ ARC_LIMIT → length (flat_map (number_line (codes "v")) numbers) ≤ 1100000000
volume_rows numbers within = let few = number_rows (codes "v") (omega arith) numbers in omega arith

-- the lines of a problem, and what follows
abbrev pub text_with : List ℕ → ℕ → ℕ → ℕ → ℕ → List NetArc → List ℕ → List ℕ → List ℕ
text_with first nodes count k destination arcs demand last =
    first ++ (number_line (codes "nodes") nodes ++ (number_line (codes "arcs") count ++ (number_line (codes "k") k
    ++ (number_line (codes "destination") destination ++ (flat_map arc_line arcs ++ (flat_map (number_line (codes "g")) demand ++ last))))))

problem_few : (most : ℕ) (first last : List ℕ) (nodes count k destination : ℕ) (arcs : List NetArc) (demand : List ℕ) → length first ≤ 100 →
    length last ≤ most → length arcs ≤ ARC_LIMIT → length demand ≤ NODE_LIMIT →
    length (text_with first nodes count k destination arcs demand last) ≤ 1400000500 + most
problem_few most first last nodes count k destination arcs demand first_short last_short arcs_within demand_within =
    join 100 (1400000400 + most) _ first _ (omega arith) first_short
    (join 100 (1400000300 + most) _ (number_line (codes "nodes") nodes) _ (omega arith) (header_line (codes "nodes") (omega arith) nodes)
    (join 100 (1400000200 + most) _ (number_line (codes "arcs") count) _ (omega arith) (header_line (codes "arcs") (omega arith) count)
    (join 100 (1400000100 + most) _ (number_line (codes "k") k) _ (omega arith) (header_line (codes "k") (omega arith) k)
    (join 100 (1400000000 + most) _ (number_line (codes "destination") destination) _ (omega arith) (header_line (codes "destination") (omega arith) destination)
    (join 1100000000 (300000000 + most) _ (flat_map arc_line arcs) _ (omega arith) (arc_rows arcs arcs_within)
    (join 300000000 most _ (flat_map (number_line (codes "g")) demand) last (omega arith) (node_rows (codes "g") (omega arith) demand demand_within) last_short))))))

-- a network text
abbrev pub network_text : ℕ → ℕ → ℕ → ℕ → List NetArc → List ℕ → List ℕ
network_text nodes count k destination arcs demand = text_with network_title nodes count k destination arcs demand last_line

pub network_few : (nodes count k destination : ℕ) (arcs : List NetArc) (demand : List ℕ) → length arcs ≤ ARC_LIMIT → length demand ≤ NODE_LIMIT →
    length (network_text nodes count k destination arcs demand) ≤ 18446744073709551615
network_few nodes count k destination arcs demand arcs_within demand_within =
    let few = problem_few 100 network_title last_line nodes count k destination arcs demand (omega arith) (omega arith) arcs_within demand_within in
    omega arith

-- the lines of a claim
abbrev pub claim_text : List ℕ → List ℕ → List ℕ → List ℕ
claim_text labels volumes waits =
    flat_map (number_line (codes "u")) labels ++ (flat_map (number_line (codes "v")) volumes ++ (flat_map (number_line (codes "q")) waits ++ last_line))

claim_few : (labels volumes waits : List ℕ) → length labels ≤ NODE_LIMIT → length volumes ≤ ARC_LIMIT → length waits ≤ NODE_LIMIT →
    length (claim_text labels volumes waits) ≤ 2000000000
claim_few labels volumes waits labels_within volumes_within waits_within =
    join 300000000 1500000000 2000000000 (flat_map (number_line (codes "u")) labels) _ (omega arith) (node_rows (codes "u") (omega arith) labels labels_within)
    (join 1100000000 400000000 1500000000 (flat_map (number_line (codes "v")) volumes) _ (omega arith) (volume_rows volumes volumes_within)
    (join 300000000 100 400000000 (flat_map (number_line (codes "q")) waits) last_line (omega arith) (node_rows (codes "q") (omega arith) waits waits_within) (omega arith)))

-- a certificate
abbrev pub certificate_text : ℕ → ℕ → ℕ → ℕ → List NetArc → List ℕ → List ℕ → List ℕ → List ℕ → List ℕ
certificate_text nodes count k destination arcs demand labels volumes waits =
    text_with title nodes count k destination arcs demand (claim_text labels volumes waits)

-- the sizes of a certificate
pub record HasSizesWithin (arcs : List NetArc) (demand labels volumes waits : List ℕ) : Type 0 where
  pub arcs_within : length arcs ≤ ARC_LIMIT
  pub demand_within : length demand ≤ NODE_LIMIT
  pub labels_within : length labels ≤ NODE_LIMIT
  pub volumes_within : length volumes ≤ ARC_LIMIT
  pub waits_within : length waits ≤ NODE_LIMIT

pub certificate_few : (nodes count k destination : ℕ) (arcs : List NetArc) (demand labels volumes waits : List ℕ) → HasSizesWithin arcs demand labels volumes waits →
    length (certificate_text nodes count k destination arcs demand labels volumes waits) ≤ 18446744073709551615
certificate_few nodes count k destination arcs demand labels volumes waits sizes =
    let claim = claim_few labels volumes waits sizes.labels_within sizes.volumes_within sizes.waits_within in
    let few = problem_few 2000000000 title (claim_text labels volumes waits) nodes count k destination arcs demand (omega arith) claim
    sizes.arcs_within sizes.demand_within in
    omega arith

-- what holds of four numbers holds of those that are the same
pub same_numbers : (P : ℕ → ℕ → ℕ → ℕ → Type 0) (a b c d e f g h : ℕ) → a ≡ e → b ≡ f → c ≡ g → d ≡ h → P a b c d → P e f g h
same_numbers P a b c d e f g h first second third fourth holds =
    subst (P e f g) fourth (subst (λ x. P e f x d) third (subst (λ x. P e x c d) second (subst (λ x. P x b c d) first holds)))

-- the same texts, however their lines are joined
joined_8 : (a b c d e f g h : List ℕ) → a ++ (b ++ (c ++ (d ++ (e ++ (f ++ (g ++ h)))))) ≡ a ++ b ++ c ++ d ++ e ++ f ++ g ++ h
joined_8 a b c d e f g h = simp append_assoc

pub network_spelled : (p : ProblemData) →
    network_text p.network.nodes (length p.network.arcs) p.network.k p.destination p.network.arcs p.demand ≡ network_spelling p
network_spelled p =
    joined_8 network_title (number_line (codes "nodes") p.network.nodes) (number_line (codes "arcs") (length p.network.arcs))
    (number_line (codes "k") p.network.k) (number_line (codes "destination") p.destination) (flat_map arc_line p.network.arcs)
    (flat_map (number_line (codes "g")) p.demand) last_line

joined_11 : (a b c d e f g h i j k : List ℕ) → a ++ (b ++ (c ++ (d ++ (e ++ (f ++ (g ++ (h ++ (i ++ (j ++ k))))))))) ≡ a ++ b ++ c ++ d ++ e ++ f ++ g ++ h ++ i ++ j ++ k
joined_11 a b c d e f g h i j k = simp append_assoc

pub certificate_spelled : (c : Certificate) →
    certificate_text c.nodes (length c.arcs) c.k c.destination c.arcs c.demand c.labels c.volumes c.waits ≡ spelling c
certificate_spelled c =
    joined_11 title (number_line (codes "nodes") c.nodes) (number_line (codes "arcs") (length c.arcs)) (number_line (codes "k") c.k)
    (number_line (codes "destination") c.destination) (flat_map arc_line c.arcs) (flat_map (number_line (codes "g")) c.demand)
    (flat_map (number_line (codes "u")) c.labels) (flat_map (number_line (codes "v")) c.volumes) (flat_map (number_line (codes "q")) c.waits) last_line
