-- Lines so far are filled up to a text of the form, with zeros.
use Rattle.std.proofs.Common.{◌≡◌, ℕ, ◌+◌, ◌-◌, ◌<◌, ◌≤◌, List, [], ◌++◌, length, length-append, refl, sym, ap, subst, ◌∙◌, append_assoc, arith, All, ◌⊎◌, inl, inr}
use Rattle.std.specs.Prelude.{codes, slice_index, replicate}
use Rattle.std.specs.List.{flat_map}
use Rattle.std.proofs.lemmas.Bool.{cases_lt}
use Rattle.std.proofs.lemmas.List.{append-nil, nil_from_length, length-replicate, get_or-replicate, get_or_past, get_or_append_left, get_or-append_right}
use Rattle.std.proofs.lemmas.List.Elements.{All-append, All-replicate}
use Rattle.std.proofs.lemmas.Grind.{flat_map-append}
use Rattle.definitions.specs.Decimal.{number_line}
use Rattle.definitions.specs.Network.{no_arc}
use Rattle.certificate.specs.Spelling.{Certificate, title, last_line, arc_line, spelling}
use Rattle.certificate.specs.Draft.{DraftData, up_to_k, up_to_rows}
use Rattle.certificate.specs.Grammar.{IsShort}
use Rattle.certificate.specs.Form.{IsShortArc, IsOfForm, BeginsText}
use Rattle.certificate.proofs.FrontHeader.{from_waits, from_volumes, from_labels, from_demand, from_rows, text_is_parts, rows_and, rows_are_parts}
use Rattle.certificate.proofs.FrontRows.{IsFull, labels_and, volumes_and, waits_and, demand_and}
use Rattle.certificate.proofs.FormRows.{IsLaid}

-- ---- fronts

-- bytes begin with bytes
pub record IsFrontOf (front whole : List ℕ) : Type 0 where
  pub more : List ℕ
  pub is : front ++ more ≡ whole

pub front_after : (before front whole : List ℕ) → IsFrontOf front whole → IsFrontOf (before ++ front) (before ++ whole)
front_after before front whole f = record { more = f.more; is = append_assoc before front f.more ∙ ap (λ t. before ++ t) f.is }

pub front_then : (a b c : List ℕ) → IsFrontOf a b → IsFrontOf b c → IsFrontOf a c
front_then a b c f g = record { more = f.more ++ g.more; is = sym (append_assoc a f.more g.more) ∙ ap (λ t. t ++ g.more) f.is ∙ g.is }

-- ---- lists that are filled up

-- up to so many of them
abbrev pub filled : {A : Type 0} → ℕ → A → List A → List A
filled n x xs = xs ++ replicate (n - length xs) x

filled_length : {A : Type 0} (n : ℕ) (x : A) (xs : List A) → length xs ≤ n → length (filled n x xs) ≡ n
filled_length n x xs few =
    let long = length-append xs (replicate (n - length xs) x) in
    let more = length-replicate (n - length xs) x in
    omega arith

filled_all : {A : Type 0} (P : A → Type 0) (n : ℕ) (x : A) (xs : List A) → All P xs → P x → All P (filled n x xs)
filled_all P n x xs all p = All-append P xs (replicate (n - length xs) x) all (All-replicate P (n - length xs) x p)

zeros : (n i : ℕ) → slice_index (replicate n 0) i ≡ 0
zeros n i = elim (cases_lt i n) [ inl lt ↦ get_or-replicate n i 0 0 lt | inr ge ↦ get_or_past (replicate n 0) i 0 (let long : length (replicate {A = ℕ} n 0) ≡ n = length-replicate n 0 in omega arith) ]

filled_zero : (n : ℕ) (xs : List ℕ) (at : ℕ) → slice_index xs at ≡ 0 → slice_index (filled n 0 xs) at ≡ 0
filled_zero n xs at none = elim (cases_lt at (length xs)) [
  | inl lt ↦ get_or_append_left xs (replicate (n - length xs) 0) 0 at lt ∙ none
  | inr ge ↦ get_or-append_right xs (replicate (n - length xs) 0) (length xs) at 0 refl ge ∙ zeros (n - length xs) (at - length xs)
]

-- where a list is not full, nothing comes after it
filled_front : {A : Type 0} (text : A → List ℕ) (n : ℕ) (x : A) (xs : List A) (rest all : List ℕ) → (length xs < n → rest ≡ []) → IsFrontOf rest all → IsFrontOf (flat_map text xs ++ rest) (flat_map text (filled n x xs) ++ all)
filled_front text n x xs rest all ends front = elim (cases_lt (length xs) n) [
  | inl lt ↦ (
      let added : List ℕ = flat_map text (replicate (n - length xs) x) in
      let none : rest ≡ [] = ends lt in
      record {
        more = added ++ all;
        is = ap (λ t. (flat_map text xs ++ t) ++ (added ++ all)) none ∙ ap (λ t. t ++ (added ++ all)) (append-nil (flat_map text xs)) ∙ sym (append_assoc (flat_map text xs) added all)
            ∙ ap (λ t. t ++ all) (sym (flat_map-append text xs (replicate (n - length xs) x)));
      })
  | inr ge ↦ (
      let none : n - length xs ≡ 0 = omega arith in
      let same : filled n x xs ≡ xs = ap (λ m. xs ++ replicate m x) none ∙ append-nil xs in
      subst (λ ys. IsFrontOf (flat_map text xs ++ rest) (flat_map text ys ++ all)) (sym same) (front_after (flat_map text xs) rest all front))
]

-- ---- a draft that is filled up

abbrev pub filled_up : DraftData → Certificate
filled_up d =
    record {
      nodes = d.nodes;
      k = d.k;
      destination = d.destination;
      arcs = filled d.arc_count no_arc d.arcs;
      demand = filled d.nodes 0 d.demand;
      labels = filled d.nodes 0 d.labels;
      volumes = filled d.arc_count 0 d.volumes;
      waits = filled d.nodes 0 d.waits;
    }

filled_form : (d : DraftData) → IsLaid d → IsOfForm (filled_up d)
filled_form d laid =
    let arcs = filled_length d.arc_count no_arc d.arcs laid.arcs in
    let zero : IsShort 0 = omega arith in
    let none : IsShortArc no_arc = record { tail = omega arith; head = omega arith; cost = omega arith; weight = tt } in
    record {
      nodes = laid.nodes;
      arc_count = subst IsShort (sym arcs) laid.arc_count;
      k = laid.k;
      destination = laid.destination;
      arcs = filled_all IsShortArc d.arc_count no_arc d.arcs laid.short_arcs none;
      demand = filled_all IsShort d.nodes 0 d.demand laid.short_demand zero;
      labels = filled_all IsShort d.nodes 0 d.labels laid.short_labels zero;
      volumes = filled_all IsShort d.arc_count 0 d.volumes laid.short_volumes zero;
      waits = filled_all IsShort d.nodes 0 d.waits laid.short_waits zero;
      demand_per_node = filled_length d.nodes 0 d.demand laid.demand;
      label_per_node = filled_length d.nodes 0 d.labels laid.labels;
      volume_per_arc = filled_length d.arc_count 0 d.volumes laid.volumes ∙ sym arcs;
      wait_per_node = filled_length d.nodes 0 d.waits laid.waits;
      no_demand_at_destination = filled_zero d.nodes d.demand d.destination laid.no_demand;
    }

none_of : (n : ℕ) → (0 < n → ⊥) → n ≡ 0
none_of n never = elim (cases_lt 0 n) [ inl lt ↦ absurd (never lt) | inr ge ↦ omega arith ]

empty : {A : Type 0} (text : A → List ℕ) (xs : List A) (rest : List ℕ) → length xs ≡ 0 → rest ≡ [] → flat_map text xs ++ rest ≡ []
empty text xs rest zero none = ap (λ ys. flat_map text ys ++ rest) (nil_from_length xs zero) ∙ none

filled_text : (d : DraftData) → IsLaid d → spelling (filled_up d) ≡ (up_to_k d ++ number_line (codes "destination") d.destination) ++ from_rows (filled_up d)
filled_text d laid =
    text_is_parts (filled_up d)
    ∙ ap (λ m. title ++ (number_line (codes "nodes") d.nodes ++ (number_line (codes "arcs") m ++ (number_line (codes "k") d.k ++ (number_line (codes "destination") d.destination ++ from_rows (filled_up d)))))) (filled_length d.arc_count no_arc d.arcs laid.arcs)
    ∙ regroup title (number_line (codes "nodes") d.nodes) (number_line (codes "arcs") d.arc_count) (number_line (codes "k") d.k) (number_line (codes "destination") d.destination) (from_rows (filled_up d))
  where
    regroup : (t n a k d r : List ℕ) → t ++ (n ++ (a ++ (k ++ (d ++ r)))) ≡ ((((t ++ n) ++ a) ++ k) ++ d) ++ r
    regroup t n a k d r = simp append_assoc refl

-- what comes after the rows, where they are full, is the front of the last line
filled_begins : (d : DraftData) (tail : List ℕ) → IsLaid d → (tail ≡ []) ⊎ IsFull d → IsFrontOf tail last_line → IsFrontOf (up_to_rows d ++ tail) (spelling (filled_up d))
filled_begins d tail laid last front =
    let head : List ℕ = up_to_k d ++ number_line (codes "destination") d.destination in
    let c : Certificate = filled_up d in
    let rows : IsFrontOf (head ++ rows_and d tail) (head ++ from_rows c) = front_after head (rows_and d tail) (from_rows c) arcs in
    record { more = rows.more; is = ap (λ t. t ++ rows.more) (rows_are_parts d tail) ∙ rows.is ∙ sym (filled_text d laid) }
  where
    no_tail : (IsFull d → ⊥) → tail ≡ []
    no_tail part = elim last [ inl none ↦ none | inr full ↦ absurd (part full) ]

    no_waits : length d.waits ≡ 0 → (IsFull d → ⊥) → waits_and d tail ≡ []
    no_waits q part = empty (number_line (codes "q")) d.waits tail q (no_tail part)

    no_volumes : length d.volumes + length d.waits ≡ 0 → (IsFull d → ⊥) → volumes_and d tail ≡ []
    no_volumes v part = empty (number_line (codes "v")) d.volumes (waits_and d tail) (omega arith) (no_waits (omega arith) part)

    no_labels : length d.labels + length d.volumes + length d.waits ≡ 0 → (IsFull d → ⊥) → labels_and d tail ≡ []
    no_labels u part = empty (number_line (codes "u")) d.labels (volumes_and d tail) (omega arith) (no_volumes (omega arith) part)

    no_demand : length d.demand + length d.labels + length d.volumes + length d.waits ≡ 0 → (IsFull d → ⊥) → demand_and d tail ≡ []
    no_demand g part = empty (number_line (codes "g")) d.demand (labels_and d tail) (omega arith) (no_labels (omega arith) part)

    waits : IsFrontOf (waits_and d tail) (from_waits (filled_up d))
    waits = filled_front (number_line (codes "q")) d.nodes 0 d.waits tail last_line (λ lt. no_tail (λ full. let all = full.waits in omega arith)) front

    volumes : IsFrontOf (volumes_and d tail) (from_volumes (filled_up d))
    volumes = filled_front (number_line (codes "v")) d.arc_count 0 d.volumes (waits_and d tail) (from_waits (filled_up d))
        (λ lt. no_waits (none_of (length d.waits) (λ some. let whole = laid.volumes_full some in omega arith)) (λ full. let all = full.volumes in omega arith)) waits

    labels : IsFrontOf (labels_and d tail) (from_labels (filled_up d))
    labels = filled_front (number_line (codes "u")) d.nodes 0 d.labels (volumes_and d tail) (from_volumes (filled_up d))
        (λ lt. no_volumes (none_of (length d.volumes + length d.waits) (λ some. let whole = laid.labels_full some in omega arith)) (λ full. let all = full.labels in omega arith)) volumes

    demand : IsFrontOf (demand_and d tail) (from_demand (filled_up d))
    demand = filled_front (number_line (codes "g")) d.nodes 0 d.demand (labels_and d tail) (from_labels (filled_up d))
        (λ lt. no_labels (none_of (length d.labels + length d.volumes + length d.waits) (λ some. let whole = laid.demand_full some in omega arith)) (λ full. let all = full.demand in omega arith)) labels

    arcs : IsFrontOf (rows_and d tail) (from_rows (filled_up d))
    arcs = filled_front arc_line d.arc_count no_arc d.arcs (demand_and d tail) (from_demand (filled_up d))
        (λ lt. no_demand (none_of (length d.demand + length d.labels + length d.volumes + length d.waits) (λ some. let whole = laid.arcs_full some in omega arith)) (λ full. let all = full.arcs in omega arith)) demand

-- ---- what begins a text

-- bytes that begin lines in their order, with short numbers
pub record HasFilling (bytes : List ℕ) : Type 0 where
  pub draft : DraftData
  pub tail : List ℕ
  pub laid : IsLaid draft
  pub last : (tail ≡ []) ⊎ IsFull draft
  pub end : IsFrontOf tail last_line
  pub front : IsFrontOf bytes (up_to_rows draft ++ tail)

pub begins_text : (bytes : List ℕ) → HasFilling bytes → BeginsText bytes
begins_text bytes f =
    let whole = front_then bytes (up_to_rows f.draft ++ f.tail) (spelling (filled_up f.draft)) f.front (filled_begins f.draft f.tail f.laid f.last f.end) in
    record { certificate = filled_up f.draft; form = filled_form f.draft f.laid; rest = whole.more; text = whole.is }
