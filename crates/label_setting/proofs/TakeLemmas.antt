-- What is first in the queue is taken, over whole states.
use Rattle.std.proofs.Common.{◌≡◌, ◌≢◌, ℕ, ◌+◌, ◌-◌, ◌/◌, ◌<◌, ◌≤◌, Bool, true, false, List, [], ◌∷◌, ◌++◌, length, get_or, set, Option, None, Some, refl, sym, ◌∙◌, ap, arith}
use Rattle.std.proofs.lemmas.List.{get_or-set_other}
use Rattle.definitions.specs.Network.{NetworkData, IsWellFormed, IsWithinLimits, tail_of, head_of}
use Rattle.definitions.specs.Reach.{is_reached}
use Rattle.label_setting.specs.declared.queue.Taken.{Taken}
use Rattle.label_setting.specs.declared.settling.Settling.{Settling}
use Rattle.label_setting.specs.Queue.{queued, IsFirst}
use Rattle.label_setting.specs.Partway.{Room, left, all_seen, seen_to}
use Rattle.label_setting.specs.Settling.{Settles, IsToSpread, label_in, mark_in, number_in, order_in}
use Rattle.label_setting.specs.Changes.{IsSettledBy, IsQueuedAs, IsJoinedBy, IsSpreadFrom, JoinFits, lowered, weight_with, total_with}
use Rattle.label_setting.proofs.ChangeLemmas.{SetAt, set_list, after_level, before_level, within_by}
use Rattle.label_setting.proofs.TallyLemmas.{room_within, room_settle}
use Rattle.label_setting.proofs.OrderLemmas.{left_settle}
use Rattle.label_setting.proofs.FitLemmas.{joining, join_fits, join_at}
use Rattle.label_setting.proofs.MoveLemmas.{node_move, skip_move, join_move}
use Rattle.label_setting.proofs.StepLemmas.{stands_as}

-- a state with another queue
abbrev pub with_queue : Settling → List (Option ℕ) → Settling
with_queue state q = record { labels = state.labels; reached = state.reached; order = state.order; settled = state.settled; weights = state.weights; totals = state.totals; bounds = state.bounds; queue = q }

-- how much is left to do
abbrev pub left_in : NetworkData → Settling → ℕ
left_in net state = left net (mark_in state) (number_in state)

-- labels go on, and less is left
abbrev pub Goes : NetworkData → ℕ → Settling → Settling → Type 0
Goes net r old new = Settles net r new × (left_in net new < left_in net old)

left_as : (net : NetworkData) (m2 m : List Bool) (q2 q : List (Option ℕ)) (x : ℕ) → m2 ≡ m → q2 ≡ q → left net (is_reached m) (queued q) < x → left net (is_reached m2) (queued q2) < x
left_as net m2 m q2 q x e1 e2 h = rw (e1, e2) h

-- ---- a node

-- it is in the network, there is room for it, and its label fits
pub record NodeFits (net : NetworkData) (t : Taken) (state : Settling) : Type 0 where
  pub there : t.item - length net.arcs < net.nodes
  pub item : t.item ≡ length net.arcs + (t.item - length net.arcs)
  pub room : state.settled < net.nodes
  pub label : t.number < 9223372036854775808

pub node_fits : (net : NetworkData) (r : ℕ) → IsWithinLimits net → (old : Settling) (t : Taken) → IsFirst old.queue t → length net.arcs ≤ t.item → Settles net r old → NodeFits net t old
node_fits net r small old t first ge h =
    let st = h.3 in
    let i : ℕ = t.item - length net.arcs in
    let y : ℕ = t.number in
    let item : t.item ≡ length net.arcs + i = omega arith in
    let inside = first.inside in
    let ql = st.queue_long in let ll = st.labels_long in let ml = st.marks_long in
    let lt : i < net.nodes = omega arith in
    let there : queued old.queue (length net.arcs + i) ≡ Some y = ap (queued old.queue) (sym item) ∙ first.held in
    let opened : mark_in old i ≡ false = (st.partway.nodes i y lt there).0 in
    let more : Room net (λ j. get_or (set old.labels.items i y) j 0) (is_reached (set old.reached.items i true)) (queued (set old.queue (length net.arcs + i) None)) (old.settled + 1) =
    room_settle net (label_in old) (mark_in old) (number_in old) old.settled st.room i y lt opened (length net.arcs + i) there
    (λ j. get_or (set old.labels.items i y) j 0) (is_reached (set old.reached.items i true)) (queued (set old.queue (length net.arcs + i) None))
    (set_list old.labels.items i y 0 (omega arith)) (set_list old.reached.items i true false (omega arith)) (set_list old.queue (length net.arcs + i) None None (omega arith)) in
    let within = room_within net (λ j. get_or (set old.labels.items i y) j 0) (is_reached (set old.reached.items i true)) (queued (set old.queue (length net.arcs + i) None)) (old.settled + 1) more in
    let number = st.room.items (length net.arcs + i) y there in
    let nodes : net.nodes ≤ 1048576 = small.nodes in
    record { there = lt; item = item; room = omega arith; label = omega arith }

-- it is settled
pub node_step : (net : NetworkData) (r : ℕ) (old new : Settling) (q : List (Option ℕ)) (t : Taken) → IsFirst old.queue t → q ≡ set old.queue t.item None →
    (i : ℕ) → t.item ≡ length net.arcs + i → i < net.nodes → Settles net r old → IsSettledBy net i t.number (with_queue old q) new → IsToSpread net r i t.number new
node_step net r old new q t first cut i item lt h e =
    let st = h.3 in
    let ll = st.labels_long in let ml = st.marks_long in
    let label : SetAt (label_in old) (λ j. get_or (set old.labels.items i t.number) j 0) i t.number = set_list old.labels.items i t.number 0 (omega arith) in
    let mark : SetAt (mark_in old) (is_reached (set old.reached.items i true)) i true = set_list old.reached.items i true false (omega arith) in (
      h.0,
      length net.arcs + i,
      record {
        there = lt;
        marked = ap (λ m. is_reached m i) e.reached ∙ mark.at;
        labelled = ap (λ l. get_or l i 0) e.labels ∙ label.at;
        stands = stands_as net r (λ m. seen_to net (is_reached m) i 0) h.0 t.number (length net.arcs + i) new.labels.items (set old.labels.items i t.number) new.reached.items (set old.reached.items i true)
            (order_in new) (order_in old ++ i ∷ []) new.settled (old.settled + 1) new.weights.items old.weights.items new.totals.items old.totals.items new.queue (set old.queue t.item None)
            e.labels e.reached e.order e.settled e.weights e.totals (e.queue ∙ cut)
            (node_move net r h.0 h.1 h.2 old.labels.items old.reached.items (order_in old) old.settled old.weights.items old.totals.items old.queue st t first i item lt);
      },
    )

-- and with the arcs into it less is left
pub node_left : (net : NetworkData) (r : ℕ) (old marked new : Settling) (q : List (Option ℕ)) (t : Taken) → IsFirst old.queue t → q ≡ set old.queue t.item None →
    (i : ℕ) → t.item ≡ length net.arcs + i → i < net.nodes → Settles net r old → IsSettledBy net i t.number (with_queue old q) marked → IsSpreadFrom net i marked new → left_in net new < left_in net old
node_left net r old marked new q t first cut i item lt h e f =
    let st = h.3 in
    let ml = st.marks_long in
    let mark : SetAt (mark_in old) (is_reached (set old.reached.items i true)) i true = set_list old.reached.items i true false (omega arith) in
    let opened : mark_in old i ≡ false = (st.partway.nodes i t.number lt (ap (queued old.queue) (sym item) ∙ first.held)).0 in
    let marks : new.reached.items ≡ set old.reached.items i true = f.marks ∙ e.reached in
    let same : (a : ℕ) → a < length net.arcs → head_of net a ≢ i → number_in new a ≡ number_in old a = λ a alt ne.
    f.others a alt ne ∙ ap (λ b. queued b a) (e.queue ∙ cut) ∙ get_or-set_other old.queue t.item a None None (omega arith) in
    left_as net new.reached.items (set old.reached.items i true) new.queue new.queue (left_in net old) marks refl
    (left_settle net (mark_in old) (is_reached (set old.reached.items i true)) (number_in old) (number_in new) i lt opened mark same)

-- ---- an arc

-- its tail is settled
pub skip_step : (net : NetworkData) (r : ℕ) (old new : Settling) (q : List (Option ℕ)) (t : Taken) → IsFirst old.queue t → q ≡ set old.queue t.item None →
    t.item < length net.arcs → mark_in old (tail_of net t.item) ≡ true → Settles net r old → IsQueuedAs q (with_queue old q) new → Goes net r old new
skip_step net r old new q t first cut lt tail h e =
    let m = skip_move net r h.0 h.1 h.2 old.labels.items old.reached.items (order_in old) old.settled old.weights.items old.totals.items old.queue h.3 t first lt tail in (
      (
        h.0,
        t.number,
        t.item,
        stands_as net r (λ b. all_seen net (is_reached b)) h.0 t.number t.item new.labels.items old.labels.items new.reached.items old.reached.items (order_in new) (order_in old) new.settled old.settled
            new.weights.items old.weights.items new.totals.items old.totals.items new.queue (set old.queue t.item None) e.labels e.reached e.order e.settled e.weights e.totals (e.queue ∙ cut) m.0,
      ),
      left_as net new.reached.items old.reached.items new.queue (set old.queue t.item None) (left_in net old) e.reached (e.queue ∙ cut) m.1,
    )

-- its tail is open: its numbers fit
pub join_step_fits : (net : NetworkData) (r : ℕ) → IsWellFormed net → IsWithinLimits net → (old : Settling) (q : List (Option ℕ)) (t : Taken) → IsFirst old.queue t →
    t.item < length net.arcs → mark_in old (tail_of net t.item) ≡ false → Settles net r old → JoinFits net t.item t.number (with_queue old q)
join_step_fits net r sound small old q t first lt tail h =
    let st = h.3 in
    let a : ℕ = t.item in
    let y : ℕ = t.number in
    let node : ℕ = length net.arcs + tail_of net a in
    let arc = st.partway.arcs a y lt first.held in
    let g : ℕ = weight_with net a old in
    let x : ℕ = total_with net a y old in
    let j = joining net r sound small (all_seen net (mark_in old)) h.0 h.1 h.2 old.labels.items old.reached.items (order_in old) old.settled old.weights.items old.totals.items old.queue st a y
    (after_level h.1 h.2 y a (st.partway.later a y first.held)) lt arc.0 arc.2 (sym arc.3) (st.partway.heads a arc.1).1 tail
    (within_by (number_in old node) y (λ z is. before_level y a z node (first.first node z is))) g x refl refl in
    let f = join_fits net (label_in old) (mark_in old) h.0 (number_in old node) a y old.settled g x
    (λ k. get_or (set old.weights.items (tail_of net a) g) k 0) (λ k. get_or (set old.totals.items (tail_of net a) x) k 0) small j
    (room_within net (label_in old) (mark_in old) (number_in old) old.settled st.room) in
    record { weight = f.weight; positive = f.positive; total = f.total; label = f.label }

-- and it joins
pub join_step : (net : NetworkData) (r : ℕ) → IsWellFormed net → IsWithinLimits net → (old new : Settling) (q : List (Option ℕ)) (t : Taken) → IsFirst old.queue t → q ≡ set old.queue t.item None →
    t.item < length net.arcs → mark_in old (tail_of net t.item) ≡ false → Settles net r old → IsJoinedBy net t.item t.number (with_queue old q) new → Goes net r old new
join_step net r sound small old new q t first cut lt tail h e =
    let g : ℕ = weight_with net t.item old in
    let x : ℕ = total_with net t.item t.number old in
    let node : ℕ = length net.arcs + tail_of net t.item in
    let m = join_move net r sound small h.0 h.1 h.2 old.labels.items old.reached.items (order_in old) old.settled old.weights.items old.totals.items old.queue h.3 t first lt tail g x refl refl in
    let queue : new.queue ≡ lowered (set old.queue t.item None) node ((net.k + x) / g) = e.queue ∙ ap (λ b. lowered b node ((net.k + x) / g)) cut in (
      (
        join_at h.0 t.item,
        t.number,
        t.item,
        stands_as net r (λ b. all_seen net (is_reached b)) (join_at h.0 t.item) t.number t.item new.labels.items old.labels.items new.reached.items old.reached.items (order_in new) (order_in old) new.settled old.settled
            new.weights.items (set old.weights.items (tail_of net t.item) g) new.totals.items (set old.totals.items (tail_of net t.item) x) new.queue (lowered (set old.queue t.item None) node ((net.k + x) / g))
            e.labels e.reached e.order e.settled e.weights e.totals queue m.0,
      ),
      left_as net new.reached.items old.reached.items new.queue (lowered (set old.queue t.item None) node ((net.k + x) / g)) (left_in net old) e.reached queue m.1,
    )

-- with the same queue it is the same state
pub same_settles : (net : NetworkData) (r : ℕ) (old : Settling) (q : List (Option ℕ)) → q ≡ old.queue → Settles net r old → Settles net r (with_queue old q)
same_settles net r old q e h = (h.0, h.1, h.2, rw e h.3)
