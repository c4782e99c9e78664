-- Skims that are filled in one by one, in the order of the labels.
use Rattle.std.proofs.Common.{◌≡◌, ◌≢◌, ℕ, zero, suc, ◌+◌, ◌<◌, ◌≤◌, Bool, true, false, cond, List, length, set, Option, None, Some, is_some, unwrap_or, refl, sym, ◌∙◌, ap, arith, inl, inr, ◌⊎◌, get_or, subst}
use Rattle.std.specs.Option.{option_map_or}
use Rattle.std.proofs.lemmas.List.{get_or-set_same, get_or-set_other, length-set, get_or_past}
use Rattle.std.proofs.lemmas.Bool.{cases_lt, cases_Bool, false≢true}
use Rattle.std.proofs.lemmas.Bool.Decides.{eqb_tells}
use Rattle.definitions.specs.declared.choice.Choice.{Choice}
use Rattle.definitions.specs.declared.choice.Choice.TheVariants.{Stop, Walk, Wait}
use Rattle.definitions.specs.Network.{IsWellFormed, cost_of}
use Rattle.definitions.specs.Reach.{IsReach, is_reached}
use Rattle.definitions.specs.Labels.{SolvesLabels, IsOrder, StandsBefore}
use Rattle.definitions.specs.Choice.{choice_at}
use Rattle.definitions.proofs.ChoiceLemmas.{IsChosen, walks, waits, chosen}
use Rattle.network.specs.declared.kinds.ArcKind.{ArcKind}
use Rattle.network.specs.declared.kinds.ArcKind.TheVariants as arc
use Rattle.network.specs.Cities.{CityData, arc_kind_of}
use Rattle.skims.specs.declared.part.Part.{Part}
use Rattle.skims.specs.declared.part.Part.TheVariants as parts
use Rattle.skims.specs.declared.skim.Skim.{Skim}
use Rattle.skims.specs.Parts.{Terms, part_by_choice, SolvesPartAt}
use Rattle.skims.specs.Totals.{over_parts, AddUp, IsNearLabel}
use Rattle.skims.specs.Skims.{AreSkims, AreNearLabels, is_of_part, part_in, part_of, skim_at, terms_of}
use Rattle.skims.specs.Filling.{AreWithinLabels, IsFilledTo, IsSkimFor}
use Rattle.skims.proofs.PartLemmas.{same_by_choice}
use Rattle.skims.proofs.TotalLemmas.{four_same, within_at, totals_within, IsSetOrNothing}
use Rattle.skims.proofs.NearLemmas.{parts_are_near}

-- ---- what belongs to the parts of a city

one_of_four : (kind : ArcKind) (cost : ℕ) → over_parts (λ part. cond (is_of_part part kind) cost 0) ≡ cost
one_of_four arc.Access cost = omega arith
one_of_four arc.Egress cost = omega arith
one_of_four arc.Walk cost = omega arith
one_of_four arc.BoardFirst cost = omega arith
one_of_four arc.BoardLater cost = omega arith
one_of_four arc.Ride cost = omega arith
one_of_four arc.Dwell cost = omega arith
one_of_four arc.Alight cost = omega arith

pub terms_add_up : (city : CityData) → AddUp city.net (terms_of city)
terms_add_up city = record {
  arcs = λ number. one_of_four (arc_kind_of city number) (cost_of city.net number);
  waits = omega arith;
}

-- one of four is at most all
pub one_within : (amount : Part → ℕ) (part : Part) → amount part ≤ over_parts amount
one_within amount parts.Walk = omega arith
one_within amount parts.Wait = omega arith
one_within amount parts.Ride = omega arith
one_within amount parts.Board = omega arith

-- a part that follows from parts within the labels is within the label
pub part_within : (city : CityData) (goal : ℕ) (reached : List Bool) (labels : List ℕ) (rows : List (Option Skim)) → IsWellFormed city.net → SolvesLabels city.net goal reached labels →
    AreWithinLabels city labels rows → (node : ℕ) → node < city.net.nodes → (part : Part) →
    part_by_choice city.net reached labels (terms_of city part) (part_in rows part) node (choice_at city.net goal reached labels node) ≤ get_or labels node 0
part_within city goal reached labels rows sound solved within node lt part =
    let amount : Part → ℕ = λ p. part_by_choice city.net reached labels (terms_of city p) (part_in rows p) node (choice_at city.net goal reached labels node) in
    let all : over_parts amount ≤ get_or labels node 0 = within_at city.net goal reached labels (terms_of city) (part_in rows) sound solved (terms_add_up city) node lt
    (λ j there less. within j there) (choice_at city.net goal reached labels node) (chosen city.net goal reached labels node) in
    let one : amount part ≤ over_parts amount = one_within amount part in
    omega arith

-- ---- the order

found_or_not : (order : List ℕ) (node end : ℕ) → ((place : ℕ) × (place < end) × (get_or order place 0 ≡ node)) ⊎ ((place : ℕ) → place < end → get_or order place 0 ≢ node)
found_or_not order node zero = inr (λ place lt. absurd (omega arith))
found_or_not order node (suc end) = elim (found_or_not order node end) [
  | inl w ↦ inl (w.0, (let l = w.1 in omega arith), w.2)
  | inr none ↦ elim (eqb_tells (get_or order end 0) node) [
    | inl w ↦ inl (end, omega arith, w.1)
    | inr w ↦ inr (λ place lt. elim (cases_lt place end) [
      | inl less ↦ none place less
      | inr past ↦ (let at : place ≡ end = omega arith in subst (λ p. get_or order p 0 ≢ node) (sym at) w.1)
    ])
  ]
]

-- a marked node is one of the marks
marked_below : (reached : List Bool) (node : ℕ) → is_reached reached node ≡ true → node < length reached
marked_below reached node h = elim (cases_lt node (length reached)) [
  | inl lt ↦ lt
  | inr past ↦ absurd (false≢true (sym (get_or_past reached node false past) ∙ h))
]

pub order_below : (reached : List Bool) (labels order : List ℕ) (nodes place : ℕ) → length reached ≡ nodes → IsOrder reached labels order → place < length order → get_or order place 0 < nodes
order_below reached labels order nodes place long ordered lt =
    let below = marked_below reached (get_or order place 0) (ordered.reaching place lt) in
    omega arith

-- ---- what is filled in

-- a skim's part is what is in the rows
part_is : (rows : List (Option Skim)) (node : ℕ) (skim : Skim) → skim_at rows node ≡ Some skim → (part : Part) → part_in rows part node ≡ part_of part skim
part_is rows node skim at part = ap (λ found. option_map_or (part_of part) found 0) at

no_part : (rows : List (Option Skim)) (node : ℕ) → skim_at rows node ≡ None → (part : Part) → part_in rows part node ≡ 0
no_part rows node at part = ap (λ found. option_map_or (part_of part) found 0) at

-- a node before the place solves its equations
solved_at : (city : CityData) (goal : ℕ) (reached : List Bool) (labels order : List ℕ) (end : ℕ) (rows : List (Option Skim)) → IsFilledTo city goal reached labels order end rows →
    (place node : ℕ) → place < end → get_or order place 0 ≡ node → (part : Part) → SolvesPartAt city.net goal reached labels (terms_of city part) (part_in rows part) node
solved_at city goal reached labels order end rows filled place node lt at part =
    let one = filled.done place lt in
    subst (λ n. SolvesPartAt city.net goal reached labels (terms_of city part) (part_in rows part) n) at
    (part_is rows (get_or order place 0) one.0 one.1 part ∙ one.2.parts part)

pub filled_within : (city : CityData) (goal : ℕ) (reached : List Bool) (labels order : List ℕ) (end : ℕ) (rows : List (Option Skim)) → IsWellFormed city.net → SolvesLabels city.net goal reached labels →
    IsFilledTo city goal reached labels order end rows → AreWithinLabels city labels rows
filled_within city goal reached labels order end rows sound solved filled =
    totals_within city.net goal reached labels (terms_of city) (part_in rows) sound solved (terms_add_up city) set_or_nothing
  where
    set_or_nothing : (j : ℕ) → j < city.net.nodes → IsSetOrNothing city.net goal reached labels (terms_of city) (part_in rows) j
    set_or_nothing j there = elim (found_or_not order j end) [
      | inl w ↦ inl (λ part. solved_at city goal reached labels order end rows filled w.0 j w.1 w.2 part)
      | inr none ↦ inr (four_same (λ part. part_in rows part j) (λ part. 0) (no_part rows j (filled.rest j none)))
    ]

-- what follows for a node stays, where only a node is filled in whose label is no lower
same_after : (city : CityData) (goal : ℕ) (reached : List Bool) (labels : List ℕ) (rows : List (Option Skim)) → IsWellFormed city.net → (new : ℕ) (row : Option Skim) (node : ℕ) →
    get_or labels node 0 ≤ get_or labels new 0 → (skim : Skim) → IsSkimFor city goal reached labels rows node skim → IsSkimFor city goal reached labels (set rows new row) node skim
same_after city goal reached labels rows sound new row node le skim h = record {
  label = h.label;
  parts = λ part. h.parts part ∙ same_by_choice city.net goal reached labels sound (terms_of city part) (part_in rows part) (part_in (set rows new row) part) node
      (λ j there less.
      let apart : j ≢ new = λ e. (let same : get_or labels j 0 ≡ get_or labels new 0 = ap (λ n. get_or labels n 0) e in absurd (omega arith)) in
      sym (ap (λ found. option_map_or (part_of part) found 0) (get_or-set_other rows new j row None apart)))
      (choice_at city.net goal reached labels node) (chosen city.net goal reached labels node);
}

before_le : (labels : List ℕ) (one other : ℕ) → StandsBefore labels one other → get_or labels one 0 ≤ get_or labels other 0
before_le labels one other h = elim h [ inl less ↦ omega arith | inr w ↦ (let e = w.0 in omega arith) ]

before_apart : (labels : List ℕ) (one other : ℕ) → StandsBefore labels one other → one ≢ other
before_apart labels one other h e =
    let same : get_or labels one 0 ≡ get_or labels other 0 = ap (λ n. get_or labels n 0) e in
    elim h [ inl less ↦ absurd (omega arith) | inr w ↦ (let lt = w.1 in absurd (omega arith)) ]

pub next_filled : (city : CityData) (goal : ℕ) (reached : List Bool) (labels order : List ℕ) (place : ℕ) (rows : List (Option Skim)) (skim : Skim) → IsWellFormed city.net →
    length reached ≡ city.net.nodes → IsOrder reached labels order → place < length order → IsFilledTo city goal reached labels order place rows →
    IsSkimFor city goal reached labels rows (get_or order place 0) skim → IsFilledTo city goal reached labels order (place + 1) (set rows (get_or order place 0) (Some skim))
next_filled city goal reached labels order place rows skim sound long ordered lt filled follows =
    let new : ℕ = get_or order place 0 in
    let below : new < city.net.nodes = order_below reached labels order city.net.nodes place long ordered lt in
    let inside : new < length rows = (let e = filled.row_per_node in omega arith) in
    record {
      row_per_node = length-set rows new (Some skim) ∙ filled.row_per_node;
      done = λ at less. elim (cases_lt at place) [
        | inl earlier ↦ (
            let before : StandsBefore labels (get_or order at 0) new = ordered.sorted at place earlier lt in
            let one = filled.done at earlier in (
              one.0,
              get_or-set_other rows new (get_or order at 0) (Some skim) None (before_apart labels (get_or order at 0) new before) ∙ one.1,
              same_after city goal reached labels rows sound new (Some skim) (get_or order at 0) (before_le labels (get_or order at 0) new before) one.0 one.2,
            ))
        | inr last ↦ (
            let e : at ≡ place = omega arith in
            let here : get_or order at 0 ≡ new = ap (λ p. get_or order p 0) e in (
              skim,
              ap (λ n. get_or (set rows new (Some skim)) n None) here ∙ get_or-set_same rows new (Some skim) None inside,
              subst (λ n. IsSkimFor city goal reached labels (set rows new (Some skim)) n skim) (sym here)
                  (same_after city goal reached labels rows sound new (Some skim) new (omega arith) skim follows),
            ))
      ];
      rest = λ node none.
          let apart : node ≢ new = λ e. none place (omega arith) (sym e) in
          get_or-set_other rows new node (Some skim) None apart ∙ filled.rest node (λ at less. none at (omega arith));
    }

-- ---- all are filled in

-- a node that does not reach has nothing
nothing_by : (city : CityData) (goal : ℕ) (reached : List Bool) (labels : List ℕ) (terms : Terms) (value : ℕ → ℕ) (node : ℕ) → is_reached reached node ≡ false →
    (c : Choice) → IsChosen city.net goal reached labels node c → part_by_choice city.net reached labels terms value node c ≡ 0
nothing_by city goal reached labels terms value node off Stop h = refl
nothing_by city goal reached labels terms value node off (Walk b) (walks _ away on below from tight) = absurd (false≢true (sym off ∙ on))
nothing_by city goal reached labels terms value node off (Wait _ _) (waits away on slack) = absurd (false≢true (sym off ∙ on))

some_is : (found : Option Skim) (skim : Skim) → found ≡ Some skim → is_some found ≡ true
some_is found skim e = ap is_some e

pub all_filled : (city : CityData) (goal : ℕ) (reached : List Bool) (labels order : List ℕ) (rows : List (Option Skim)) → IsReach city.net goal reached → IsOrder reached labels order →
    IsFilledTo city goal reached labels order (length order) rows → AreSkims city goal reached labels rows
all_filled city goal reached labels order rows reach ordered filled = record {
  reaching = λ node lt. elim (found_or_not order node (length order)) [
    | inl w ↦ (
        let one = filled.done w.0 w.1 in
        let there : is_some (skim_at rows node) ≡ true = ap (λ n. is_some (skim_at rows n)) (sym w.2) ∙ ap is_some one.1 in
        let on : is_reached reached node ≡ true = ap (is_reached reached) (sym w.2) ∙ ordered.reaching w.0 w.1 in
        (λ yes. (reach.exact node lt).0 on, λ goes. there))
    | inr none ↦ (
        let gone : is_some (skim_at rows node) ≡ false = ap is_some (filled.rest node none) in (
          λ yes. absurd (false≢true (sym gone ∙ yes)),
          λ goes. absurd (
              let at = ordered.all node ((reach.exact node lt).1 goes) in
              none at.0 at.1 at.2),
        ))
  ];
  labelled = λ node skim lt at. elim (found_or_not order node (length order)) [
    | inl w ↦ (
        let one = filled.done w.0 w.1 in
        let here : skim_at rows node ≡ Some one.0 = ap (skim_at rows) (sym w.2) ∙ one.1 in
        let same : skim ≡ one.0 = ap (λ found. unwrap_or found skim) (sym at ∙ here) in
        ap (λ s. s.label) same ∙ one.2.label ∙ ap (λ n. get_or labels n 0) w.2)
    | inr none ↦ absurd (false≢true (sym (ap is_some (filled.rest node none)) ∙ ap is_some at))
  ];
  parts = λ part node lt. elim (found_or_not order node (length order)) [
    | inl w ↦ solved_at city goal reached labels order (length order) rows filled w.0 node w.1 w.2 part
    | inr none ↦ (
        let off : is_reached reached node ≡ false = elim (cases_Bool (is_reached reached node)) [
          | inl on ↦ absurd (let at = ordered.all node on in none at.0 at.1 at.2)
          | inr gone ↦ gone
        ] in
        no_part rows node (filled.rest node none) part
        ∙ sym (nothing_by city goal reached labels (terms_of city part) (part_in rows part) node off (choice_at city.net goal reached labels node) (chosen city.net goal reached labels node)))
  ];
}

pub skims_near : (city : CityData) (goal : ℕ) (reached : List Bool) (labels : List ℕ) (rows : List (Option Skim)) → IsWellFormed city.net → IsReach city.net goal reached →
    SolvesLabels city.net goal reached labels → AreSkims city goal reached labels rows → AreNearLabels city goal reached labels rows
skims_near city goal reached labels rows sound reach solved skims = record {
  each = λ node skim lt at.
      let on : is_reached reached node ≡ true = (reach.exact node lt).1 ((skims.reaching node lt).0 (ap is_some at)) in
      subst (λ total. IsNearLabel city.net goal reached labels node total)
      (four_same (λ part. part_in rows part node) (λ part. part_of part skim) (part_is rows node skim at))
      (parts_are_near city.net goal reached labels (terms_of city) (part_in rows) sound solved (terms_add_up city) skims.parts node lt on);
}
