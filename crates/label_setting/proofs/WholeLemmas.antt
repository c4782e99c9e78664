-- From a reset state to the labels.
use Rattle.std.proofs.Common.{◌≡◌, ℕ, ◌+◌, ◌-◌, ◌<◌, ◌≤◌, ◌&&◌, Bool, true, false, cond, List, [], ◌∷◌, ◌++◌, length, get_or, set, take, refl, sym, ◌∙◌, ap, arith, inl, inr}
use Rattle.std.specs.Bool.{nat_lt}
use Rattle.std.proofs.lemmas.Bool.{cases_lt, cases_Bool, false≢true}
use Rattle.std.proofs.lemmas.List.{get_or_past, get_or-take, length-take-le, length-set}
use Rattle.definitions.specs.Network.{NetworkData, IsWellFormed, IsWithinLimits}
use Rattle.definitions.specs.Reach.{is_reached, IsReach}
use Rattle.definitions.specs.Labels.{SolvesLabels, IsOrder}
use Rattle.label_setting.specs.declared.settling.Settling.{Settling}
use Rattle.label_setting.specs.Queue.{queued, IsEmpty}
use Rattle.label_setting.specs.Partway.{seen_to}
use Rattle.label_setting.specs.Settling.{Settles, IsToSpread, IsMadeFor, label_in, mark_in, number_in, weight_in, total_in, order_in}
use Rattle.label_setting.specs.Changes.{IsSettledBy, IsReset, IsFarthest}
use Rattle.label_setting.proofs.ChangeLemmas.{SetAt, set_list}
use Rattle.label_setting.proofs.SeenLemmas.{seen_as, seen_first}
use Rattle.label_setting.proofs.StartLemmas.{begins, sums_begin, room_begin, ordered_begin}
use Rattle.label_setting.proofs.EndLemmas.{reach, solved}
use Rattle.label_setting.proofs.TallyLemmas.{room_within}
use Rattle.label_setting.proofs.StepLemmas.{stands_as}

and_false : (b : Bool) → (b && false) ≡ false
and_false true = refl
and_false false = refl

-- the destination is settled first
pub start_step : (net : NetworkData) (r : ℕ) → r < net.nodes → (old new : Settling) → IsMadeFor net old → IsReset old → IsSettledBy net r 0 old new → IsToSpread net r r 0 new
start_step net r lt old new made clean e =
    let v : List ℕ = set old.labels.items r 0 in
    let m : List Bool = set old.reached.items r true in
    let ll = made.labels in let ml = made.reached in
    let label : SetAt (label_in old) (λ j. get_or v j 0) r 0 = set_list old.labels.items r 0 0 (omega arith) in
    let marked : SetAt (mark_in old) (is_reached m) r true = set_list old.reached.items r true false (omega arith) in
    let mark : SetAt (λ _. false) (is_reached m) r true = record { at = marked.at; others = λ j ne. marked.others j ne ∙ clean.reached j } in
    let first : (a : ℕ) → false ≡ seen_to net (is_reached m) r 0 a = λ a. sym (and_false (nat_lt a (length net.arcs))) ∙ seen_first net (λ _. false) (is_reached m) r refl mark a in
    let none : order_in old ≡ [] = ap (λ n. take n old.order.items) clean.settled in
    let order : order_in new ≡ r ∷ [] = e.order ∙ ap (λ o. o ++ r ∷ []) none in
    let count : new.settled ≡ 1 = let s = clean.settled in let f = e.settled in omega arith in (
      (λ _. false),
      length net.arcs + r,
      record {
        there = lt;
        marked = ap (λ b. is_reached b r) e.reached ∙ mark.at;
        labelled = ap (λ l. get_or l r 0) e.labels ∙ label.at;
        stands = stands_as net r (λ b. seen_to net (is_reached b) r 0) (λ _. false) 0 (length net.arcs + r) new.labels.items v new.reached.items m (order_in new) (r ∷ []) new.settled 1
            new.weights.items old.weights.items new.totals.items old.totals.items new.queue old.queue e.labels e.reached order count e.weights e.totals e.queue
            (record {
              partway = seen_as net r (λ j. get_or v j 0) (is_reached m) (λ _. false) (seen_to net (is_reached m) r 0) (λ _. false) (queued old.queue) 0 (length net.arcs + r) first
                  (begins net r (λ j. get_or v j 0) (is_reached m) (queued old.queue) label.at mark clean.queue);
              sums = sums_begin net (λ j. get_or v j 0) (is_reached m) (weight_in old) (total_in old) clean.weights clean.totals;
              room = room_begin net r (λ j. get_or v j 0) (is_reached m) (queued old.queue) lt label.at mark clean.queue;
              ordered = ordered_begin net r (λ j. get_or v j 0) (is_reached m) lt mark;
              labels_long = length-set old.labels.items r 0 ∙ ll;
              marks_long = length-set old.reached.items r true ∙ ml;
              weights_long = made.weights;
              totals_long = made.totals;
              queue_long = made.queue;
            });
      },
    )

-- a mark is within the marks
within_marks : (marks : List Bool) (i : ℕ) → is_reached marks i ≡ true → i < length marks
within_marks marks i is = elim (cases_lt i (length marks)) [ inl low ↦ low | inr high ↦ absurd (let e : is_reached marks i ≡ false = get_or_past marks i false high in false≢true (sym e ∙ is)) ]

-- where the last node of the order is
pub record Last (net : NetworkData) (state : Settling) : Type 0 where
  pub some : 0 < state.settled
  pub within : state.settled ≤ net.nodes
  pub count : length (order_in state) ≡ state.settled - 1 + 1
  pub at : get_or (order_in state) (state.settled - 1) 0 ≡ get_or state.order.items (state.settled - 1) 0
  pub node : get_or state.order.items (state.settled - 1) 0 < net.nodes

pub last_of : (net : NetworkData) (r : ℕ) → r < net.nodes → (state : Settling) → IsMadeFor net state → Settles net r state → Last net state
last_of net r lt state made h =
    let k = h.3.ordered.all r lt h.3.partway.goal in
    let short = k.1 in
    let within : state.settled ≤ net.nodes = room_within net (label_in state) (mark_in state) (number_in state) state.settled h.3.room in
    let ol = made.order in
    let long : length (order_in state) ≡ state.settled = length-take-le state.settled state.order.items (omega arith) in
    let some : 0 < state.settled = omega arith in
    let at : get_or (order_in state) (state.settled - 1) 0 ≡ get_or state.order.items (state.settled - 1) 0 = get_or-take state.settled state.order.items (state.settled - 1) 0 (omega arith) in
    record { some = some; within = within; count = omega arith; at = at; node = rw at at ((h.3.ordered.inside (state.settled - 1) (omega arith)).0) }

-- what the workspace has in the end, and the labels with those of the nodes that do not reach
pub record Finish (net : NetworkData) (r : ℕ) (reached : List Bool) (u order : List ℕ) : Type 0 where
  pub reach : IsReach net r reached
  pub solution : SolvesLabels net r reached u
  pub ordered : IsOrder reached u order
  pub within : (i : ℕ) → i < net.nodes → get_or u i 0 ≤ 9223372036854775807

pub finish : (net : NetworkData) (r : ℕ) → IsWellFormed net → IsWithinLimits net → (state : Settling) → Settles net r state → IsEmpty state.queue → (far : ℕ) → IsFarthest state far → (v : List ℕ) → length v ≡ net.nodes →
    ((i : ℕ) → i < net.nodes → get_or v i 0 ≡ cond (mark_in state i) (label_in state i) far) →
    Finish net r state.reached.items v (order_in state)
finish net r sound small state h empty far_label found v vlen is =
    let last : ℕ = found.0 in
    let long : length (order_in state) ≡ last + 1 = found.1 in
    let stands = h.3 in
    let o : List ℕ = order_in state in
    let u : ℕ → ℕ = label_in state in
    let ord = stands.ordered in
    let ml = stands.marks_long in
    let far = ord.inside last (omega arith) in
    let same : (i : ℕ) → mark_in state i ≡ true → get_or v i 0 ≡ u i = λ i on. let w = within_marks state.reached.items i on in rw on at (is i (omega arith)) in
    let other : (i : ℕ) → i < net.nodes → mark_in state i ≡ false → get_or v i 0 ≡ u (get_or o last 0) = λ i lt off. (rw off at (is i lt)) ∙ found.2 in
    let most : (i : ℕ) → i < net.nodes → mark_in state i ≡ true → u i ≤ u (get_or o last 0) = λ i lt on.
    let k = ord.all i lt on in
    let e : u (get_or o k.0 0) ≡ u i = ap u k.2 in
    let short = k.1 in
    elim (cases_lt k.0 last) [
      | inl low ↦ elim (ord.sorted k.0 last low (omega arith)) [ inl less ↦ omega arith | inr at ↦ (let f = at.0 in omega arith) ]
      | inr high ↦ (let f : k.0 ≡ last = omega arith in let g : u (get_or o k.0 0) ≡ u (get_or o last 0) = ap (λ n. u (get_or o n 0)) f in omega arith)
    ] in
    record {
      reach = reach net r u state.reached.items h.0 (queued state.queue) h.1 h.2 sound stands.partway empty ml;
      solution = solved net r u state.reached.items h.0 (queued state.queue) h.1 h.2 sound stands.partway v (get_or o last 0) vlen same other far.0 far.1 most;
      ordered = record {
        reaching = λ k short. (ord.inside k short).1;
        all = λ i on. let w = within_marks state.reached.items i on in ord.all i (omega arith) on;
        sorted = λ j k less short.
            let kin = ord.inside k short in let jin = ord.inside j (omega arith) in
            rw (same (get_or o j 0) jin.1, same (get_or o k 0) kin.1) (ord.sorted j k less short);
      };
      within = λ i lt.
          let nodes : net.nodes ≤ 1048576 = small.nodes in
          let settled = room_within net (label_in state) (mark_in state) (number_in state) state.settled stands.room in
          elim (cases_Bool (mark_in state i)) [
            | inl on ↦ (let e = same i on in let b = stands.room.nodes i lt on in omega arith)
            | inr off ↦ (let e = other i lt off in let b = stands.room.nodes (get_or o last 0) far.0 far.1 in omega arith)
          ];
    }
