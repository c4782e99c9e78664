-- The steps over whole states.
use Rattle.std.proofs.Common.{◌≡◌, ◌≢◌, ℕ, ◌+◌, ◌-◌, ◌<◌, ◌≤◌, ◌==◌, Bool, true, false, List, ◌∷◌, length, get_or, set, Option, None, Some, refl, sym, ◌∙◌, ap, arith, inl, inr}
use Rattle.std.specs.List.{filter, range_with_len}
use Rattle.std.proofs.lemmas.Bool.{cases_eq, cases_Bool, eqb-true, eqb-false}
use Rattle.std.proofs.lemmas.List.{get_or-set_other}
use Rattle.definitions.specs.Network.{NetworkData, IsWellFormed, IsWithinLimits, tail_of, head_of, cost_of, is_boarding}
use Rattle.definitions.specs.Reach.{is_reached}
use Rattle.label_setting.specs.declared.settling.Settling.{Settling}
use Rattle.label_setting.specs.Queue.{queued}
use Rattle.label_setting.specs.Partway.{seen_to}
use Rattle.label_setting.specs.Settling.{Stands, StandsIn, Spreads, label_in, mark_in, number_in, order_in}
use Rattle.label_setting.specs.Changes.{IsQueuedAs, IsJoinedBy, IsOffered, IsSpreadFrom, JoinFits, item_of, lowered, is_by, weight_with, total_with, label_with}
use Rattle.label_setting.proofs.SeenLemmas.{seen_as, seen_jump, first_pass}
use Rattle.label_setting.proofs.TallyLemmas.{room_within}
use Rattle.label_setting.proofs.FitLemmas.{join_fits, join_at}
use Rattle.label_setting.proofs.SpreadLemmas.{IsInto, pass_move, bound_move, enqueue_move, now_joining, now_move}

pub stands_as : (net : NetworkData) (r : ℕ) (seen : List Bool → ℕ → Bool) (joins : ℕ → Bool) (level last : ℕ) (l2 l : List ℕ) (m2 m : List Bool) (o2 o : List ℕ) (n2 n : ℕ) (f2 f w2 w : List ℕ) (q2 q : List (Option ℕ)) →
    l2 ≡ l → m2 ≡ m → o2 ≡ o → n2 ≡ n → f2 ≡ f → w2 ≡ w → q2 ≡ q →
    Stands net r (seen m) joins level last l m o n f w q → Stands net r (seen m2) joins level last l2 m2 o2 n2 f2 w2 q2
stands_as net r seen joins level last l2 l m2 m o2 o n2 n f2 f w2 w q2 q e1 e2 e3 e4 e5 e6 e7 h = rw (e1, e2, e3, e4, e5, e6, e7) h

-- the rest of a state where only the queue changes
pub queued_as : (net : NetworkData) (r : ℕ) (seen : List Bool → ℕ → Bool) (joins : ℕ → Bool) (level last : ℕ) (old new : Settling) (q : List (Option ℕ)) → IsQueuedAs q old new →
    Stands net r (seen old.reached.items) joins level last old.labels.items old.reached.items (order_in old) old.settled old.weights.items old.totals.items q →
    StandsIn net r (seen new.reached.items) joins level last new
queued_as net r seen joins level last old new q e h =
    stands_as net r seen joins level last new.labels.items old.labels.items new.reached.items old.reached.items (order_in new) (order_in old) new.settled old.settled
    new.weights.items old.weights.items new.totals.items old.totals.items new.queue q e.labels e.reached e.order e.settled e.weights e.totals e.queue h

-- and where an arc joins
pub joined_as : (net : NetworkData) (r : ℕ) (seen : List Bool → ℕ → Bool) (joins : ℕ → Bool) (level last : ℕ) (old new : Settling) (a t : ℕ) → IsJoinedBy net a t old new →
    Stands net r (seen old.reached.items) joins level last old.labels.items old.reached.items (order_in old) old.settled
    (set old.weights.items (tail_of net a) (weight_with net a old)) (set old.totals.items (tail_of net a) (total_with net a t old)) (lowered old.queue (length net.arcs + tail_of net a) (label_with net a t old)) →
    StandsIn net r (seen new.reached.items) joins level last new
joined_as net r seen joins level last old new a t e h =
    stands_as net r seen joins level last new.labels.items old.labels.items new.reached.items old.reached.items (order_in new) (order_in old) new.settled old.settled
    new.weights.items (set old.weights.items (tail_of net a) (weight_with net a old)) new.totals.items (set old.totals.items (tail_of net a) (total_with net a t old))
    new.queue (lowered old.queue (length net.arcs + tail_of net a) (label_with net a t old)) e.labels e.reached e.order e.settled e.weights e.totals e.queue h

-- ---- the arcs into a node

-- the arcs into a node were looked at up to a number, and these are left
pub record SoFar (net : NetworkData) (r i level : ℕ) (rest : List ℕ) (state : Settling) : Type 0 where
  pub end : ℕ
  pub joins : ℕ → Bool
  pub last : ℕ
  pub within : end ≤ length net.arcs
  pub rest_is : rest ≡ filter (λ a. head_of net a == i) (range_with_len end (length net.arcs - end))
  pub spreads : Spreads net r i level end joins last state

into_of : (net : NetworkData) (r i level k last : ℕ) (joins : ℕ → Bool) (state : Settling) → Spreads net r i level k joins last state → k < length net.arcs → head_of net k ≡ i →
    IsInto net state.labels.items state.reached.items i level k
into_of net r i level k last joins state h lt head = record { node = h.there; marked = h.marked; labelled = h.labelled; arc = lt; head = head }

-- the next arc is at hand
pub record AtNext (net : NetworkData) (r i level a : ℕ) (rest : List ℕ) (state : Settling) : Type 0 where
  pub joins : ℕ → Bool
  pub last : ℕ
  pub there : a < length net.arcs
  pub head : head_of net a ≡ i
  pub rest_is : rest ≡ filter (λ b. head_of net b == i) (range_with_len (a + 1) (length net.arcs - (a + 1)))
  pub spreads : Spreads net r i level a joins last state

pub at_next : (net : NetworkData) (r i level a : ℕ) (rest : List ℕ) (state : Settling) → SoFar net r i level (a ∷ rest) state → AtNext net r i level a rest state
at_next net r i level a rest state h =
    let first = first_pass (λ b. head_of net b == i) h.end (length net.arcs - h.end) a rest (sym h.rest_is) in
    let within = h.within in let from = first.from in let short = first.short in
    let m : h.end + (length net.arcs - h.end) - (a + 1) ≡ length net.arcs - (a + 1) = omega arith in
    let s = h.spreads in
    let st = s.stands in
    record {
      joins = h.joins;
      last = h.last;
      there = omega arith;
      head = eqb-true (head_of net a) i first.passes;
      rest_is = rw m at first.rest_is;
      spreads = record {
        there = s.there;
        marked = s.marked;
        labelled = s.labelled;
        stands = record {
          partway = seen_as net r (label_in state) (mark_in state) (seen_to net (mark_in state) i h.end) (seen_to net (mark_in state) i a) h.joins (number_in state) level h.last
              (seen_jump net (mark_in state) i h.end a first.from (λ b low high. eqb-false (head_of net b) i (first.none b low high))) st.partway;
          sums = st.sums;
          room = st.room;
          ordered = st.ordered;
          labels_long = st.labels_long;
          marks_long = st.marks_long;
          weights_long = st.weights_long;
          totals_long = st.totals_long;
          queue_long = st.queue_long;
        };
      };
    }

-- the numbers of an arc that joins at once fit
pub now_fits : (net : NetworkData) (r i level a : ℕ) (rest : List ℕ) (old : Settling) → IsWellFormed net → IsWithinLimits net → AtNext net r i level a rest old →
    mark_in old (tail_of net a) ≡ false → is_boarding net a ≡ true → is_by (number_in old (item_of net (tail_of net a))) (level + cost_of net a) ≡ false → cost_of net a ≡ 1 →
    JoinFits net a (level + 1) old
now_fits net r i level a rest old sound small h opened boards ahead one =
    let st = h.spreads.stands in
    let here : is_by (number_in old (item_of net (tail_of net a))) (level + 1) ≡ false = rw one at ahead in
    let j = now_joining net r sound small h.joins level h.last old.labels.items old.reached.items (order_in old) old.settled old.weights.items old.totals.items old.queue i a st
    (into_of net r i level a h.last h.joins old h.spreads h.there h.head) boards opened one here (weight_with net a old) (total_with net a (level + 1) old) refl refl in
    let f = join_fits net (label_in old) (mark_in old) h.joins (number_in old (item_of net (tail_of net a))) a (level + 1) old.settled (weight_with net a old) (total_with net a (level + 1) old)
    (λ k. get_or (set old.weights.items (tail_of net a) (weight_with net a old)) k 0) (λ k. get_or (set old.totals.items (tail_of net a) (total_with net a (level + 1) old)) k 0) small j
    (room_within net (label_in old) (mark_in old) (number_in old) old.settled st.room) in
    record { weight = f.weight; positive = f.positive; total = f.total; label = f.label }

-- what is left after an arc was looked at
pub record Goes_on (net : NetworkData) (r i level : ℕ) (rest : List ℕ) (old new : Settling) : Type 0 where
  pub so_far : SoFar net r i level rest new
  pub spread : IsSpreadFrom net i old new

goes_on : (net : NetworkData) (r i level a last : ℕ) (rest : List ℕ) (joins : ℕ → Bool) (old new : Settling) → (labelled : get_or old.labels.items i 0 ≡ level) → i < net.nodes → mark_in old i ≡ true →
    new.labels.items ≡ old.labels.items → new.reached.items ≡ old.reached.items → ((b : ℕ) → b < length net.arcs → head_of net b ≢ i → number_in new b ≡ number_in old b) →
    a < length net.arcs → rest ≡ filter (λ b. head_of net b == i) (range_with_len (a + 1) (length net.arcs - (a + 1))) →
    StandsIn net r (seen_to net (is_reached new.reached.items) i (a + 1)) joins level last new → Goes_on net r i level rest old new
goes_on net r i level a last rest joins old new labelled ilt marked labels marks others lt rest_is stands = record {
  so_far = record {
    end = a + 1;
    joins = joins;
    last = last;
    within = omega arith;
    rest_is = rest_is;
    spreads = record { there = ilt; marked = ap (λ m. is_reached m i) marks ∙ marked; labelled = ap (λ l. get_or l i 0) labels ∙ labelled; stands = stands };
  };
  spread = record { marks = marks; others = others };
}

pub offer_step : (net : NetworkData) (r i level a : ℕ) (rest : List ℕ) (old new : Settling) → IsWellFormed net → IsWithinLimits net → AtNext net r i level a rest old → IsOffered net a level old new →
    Goes_on net r i level rest old new
offer_step net r i level a rest old new sound small h offered =
    let s = h.spreads in
    let st = s.stands in
    let into = into_of net r i level a h.last h.joins old s h.there h.head in
    let seen : List Bool → ℕ → Bool = λ m. seen_to net (is_reached m) i (a + 1) in
    let node : ℕ = length net.arcs + tail_of net a in
    let alt = h.there in
    -- an arc keeps its number as a node's changes
    let apart : (o : Option ℕ) (b : ℕ) → b < length net.arcs → queued (set old.queue node o) b ≡ queued old.queue b = λ o b blt. get_or-set_other old.queue node b o None (omega arith) in
    elim (cases_Bool (mark_in old (tail_of net a))) [
      | inl closed ↦ (
          let e = offered.settled closed in
          goes_on net r i level a h.last rest h.joins old new s.labelled s.there s.marked e.labels e.reached (λ b blt ne. ap (λ q. queued q b) e.queue) h.there h.rest_is
          (queued_as net r seen h.joins level h.last old new old.queue e
          (pass_move net r sound h.joins level h.last old.labels.items old.reached.items (order_in old) old.settled old.weights.items old.totals.items old.queue i a st into (λ opened. absurd (both (mark_in old (tail_of net a)) closed opened)))))
      | inr opened ↦ elim (cases_Bool (is_boarding net a)) [
        | inr free ↦ (
            let e = offered.free opened free in
            goes_on net r i level a h.last rest h.joins old new s.labelled s.there s.marked e.labels e.reached (λ b blt ne. ap (λ q. queued q b) e.queue ∙ apart _ b blt) h.there h.rest_is
            (queued_as net r seen h.joins level h.last old new (lowered old.queue node (level + cost_of net a)) e
            (bound_move net r sound small h.joins level h.last old.labels.items old.reached.items (order_in old) old.settled old.weights.items old.totals.items old.queue i a st into opened free)))
        | inl boards ↦ elim (cases_Bool (is_by (number_in old node) (level + cost_of net a))) [
          | inl by ↦ (
              let e = offered.aside opened boards by in
              goes_on net r i level a h.last rest h.joins old new s.labelled s.there s.marked e.labels e.reached (λ b blt ne. ap (λ q. queued q b) e.queue) h.there h.rest_is
              (queued_as net r seen h.joins level h.last old new old.queue e
              (pass_move net r sound h.joins level h.last old.labels.items old.reached.items (order_in old) old.settled old.weights.items old.totals.items old.queue i a st into (λ o. (boards, by)))))
          | inr ahead ↦ elim (cases_eq (cost_of net a) 1) [
            | inl one ↦ (
                let e = offered.at_once opened boards ahead one in
                goes_on net r i level a h.last rest (join_at h.joins a) old new s.labelled s.there s.marked e.labels e.reached (λ b blt ne. ap (λ q. queued q b) e.queue ∙ apart _ b blt) h.there h.rest_is
                (joined_as net r seen (join_at h.joins a) level h.last old new a (level + 1) e
                (now_move net r sound small h.joins level h.last old.labels.items old.reached.items (order_in old) old.settled old.weights.items old.totals.items old.queue i a st into boards opened one (rw one at ahead)
                (weight_with net a old) (total_with net a (level + 1) old) refl refl)))
            | inr more ↦ (
                let e = offered.later opened boards ahead more in
                goes_on net r i level a h.last rest h.joins old new s.labelled s.there s.marked e.labels e.reached
                (λ b blt ne. ap (λ q. queued q b) e.queue ∙ get_or-set_other old.queue a b (Some (level + cost_of net a)) None (λ f. ne (ap (head_of net) f ∙ h.head))) h.there h.rest_is
                (queued_as net r seen h.joins level h.last old new (set old.queue a (Some (level + cost_of net a))) e
                (enqueue_move net r sound small h.joins level h.last old.labels.items old.reached.items (order_in old) old.settled old.weights.items old.totals.items old.queue i a st into boards)))
          ]
        ]
      ]
    ]
  where
    both : (b : Bool) → b ≡ true → b ≡ false → ⊥
    both true e f = absurd cc
    both false e f = absurd cc
