-- The steps over lists: an arc into a node that was just settled is looked at.
use Rattle.std.proofs.Common.{◌≡◌, ℕ, ◌+◌, ◌*◌, ◌/◌, ◌<◌, ◌≤◌, Bool, true, false, List, length, get_or, set, Option, None, Some, refl, ◌∙◌, ap, arith, inr}
use Rattle.std.proofs.lemmas.Bool.{false≢true}
use Rattle.std.proofs.lemmas.List.{length-set}
use Rattle.std.proofs.lemmas.Bool.{leb-true, leb-false}
use Rattle.definitions.specs.Network.{NetworkData, IsWellFormed, IsWithinLimits, tail_of, head_of, cost_of, weight_of, is_boarding}
use Rattle.definitions.specs.Reach.{is_reached}
use Rattle.label_setting.specs.Queue.{queued, lesser_of}
use Rattle.label_setting.specs.Partway.{leads, Within, seen_to}
use Rattle.label_setting.specs.Settling.{Stands}
use Rattle.label_setting.specs.Changes.{is_by, lowered}
use Rattle.label_setting.proofs.ChangeLemmas.{SetAt, set_list}
use Rattle.label_setting.proofs.SeeLemmas.{IsSeen, pass, enqueue, bound, not_joined}
use Rattle.label_setting.proofs.JoinLemmas.{join_now}
use Rattle.label_setting.proofs.TallyLemmas.{room_put, lesser_le}
use Rattle.label_setting.proofs.SeenLemmas.{seen_now, seen_not}
use Rattle.label_setting.proofs.FitLemmas.{Joining, joining, join_at}

-- a node that was settled last, and an arc into it
pub record IsInto (net : NetworkData) (labels : List ℕ) (marks : List Bool) (i level k : ℕ) : Type 0 where
  pub node : i < net.nodes
  pub marked : is_reached marks i ≡ true
  pub labelled : get_or labels i 0 ≡ level
  pub arc : k < length net.arcs
  pub head : head_of net k ≡ i

pub see : (net : NetworkData) (labels : List ℕ) (marks : List Bool) (i level k : ℕ) → IsInto net labels marks i level k →
    IsSeen net (λ j. get_or labels j 0) (is_reached marks) (seen_to net (is_reached marks) i k) (seen_to net (is_reached marks) i (k + 1)) level k
see net labels marks i level k into = record {
  there = into.arc;
  head = ap (is_reached marks) into.head ∙ into.marked;
  label = ap (λ j. get_or labels j 0) into.head ∙ into.labelled;
  now = seen_now net (is_reached marks) i k into.arc into.head into.marked;
  unseen = seen_not net (is_reached marks) i k into.head;
}

pub lead : (net : NetworkData) (labels : List ℕ) (marks : List Bool) (i level k : ℕ) → IsInto net labels marks i level k → leads net (λ j. get_or labels j 0) k ≡ level + cost_of net k
lead net labels marks i level k into = ap (λ x. x + cost_of net k) (ap (λ j. get_or labels j 0) into.head ∙ into.labelled)

-- a number no higher than a time, or none
pub by_some : (o : Option ℕ) (t : ℕ) → is_by o t ≡ true → (y : ℕ) × (o ≡ Some y) × (y ≤ t)
by_some None t e = absurd (false≢true e)
by_some (Some y) t e = (y, refl, leb-true y t e)

pub not_by : (o : Option ℕ) (t : ℕ) → is_by o t ≡ false → Within o t
not_by None t e = tt
not_by (Some y) t e = let l = leb-false y t e in omega arith

-- its tail is settled, or has a number no higher than what the arc leads to
pub pass_move : (net : NetworkData) (r : ℕ) → IsWellFormed net → (joins : ℕ → Bool) (level last : ℕ) (labels : List ℕ) (marks : List Bool) (order : List ℕ) (n : ℕ) (f w : List ℕ) (q : List (Option ℕ)) (i k : ℕ) →
    Stands net r (seen_to net (is_reached marks) i k) joins level last labels marks order n f w q → IsInto net labels marks i level k →
    (is_reached marks (tail_of net k) ≡ false → (is_boarding net k ≡ true) × (is_by (queued q (length net.arcs + tail_of net k)) (level + cost_of net k) ≡ true)) →
    Stands net r (seen_to net (is_reached marks) i (k + 1)) joins level last labels marks order n f w q
pass_move net r sound joins level last labels marks order n f w q i k h into aside = record {
  partway = pass net r (λ j. get_or labels j 0) (is_reached marks) (seen_to net (is_reached marks) i k) joins (seen_to net (is_reached marks) i (k + 1)) (queued q) level last k sound h.partway
      (see net labels marks i level k into)
      (λ opened. let a = aside opened in
      let b = by_some (queued q (length net.arcs + tail_of net k)) (level + cost_of net k) a.1 in
      let e = lead net labels marks i level k into in
      let le = b.2 in
      (a.0, inr (b.0, b.1, omega arith)));
  sums = h.sums;
  room = h.room;
  ordered = h.ordered;
  labels_long = h.labels_long;
  marks_long = h.marks_long;
  weights_long = h.weights_long;
  totals_long = h.totals_long;
  queue_long = h.queue_long;
}

-- a free arc whose tail is open
pub bound_move : (net : NetworkData) (r : ℕ) → IsWellFormed net → IsWithinLimits net → (joins : ℕ → Bool) (level last : ℕ) (labels : List ℕ) (marks : List Bool) (order : List ℕ) (n : ℕ) (f w : List ℕ) (q : List (Option ℕ)) (i k : ℕ) →
    Stands net r (seen_to net (is_reached marks) i k) joins level last labels marks order n f w q → IsInto net labels marks i level k →
    is_reached marks (tail_of net k) ≡ false → is_boarding net k ≡ false →
    Stands net r (seen_to net (is_reached marks) i (k + 1)) joins level last labels marks order n f w (lowered q (length net.arcs + tail_of net k) (level + cost_of net k))
bound_move net r sound small joins level last labels marks order n f w q i k h into opened free =
    let u : ℕ → ℕ = λ j. get_or labels j 0 in
    let s : ℕ → Bool = is_reached marks in
    let x : ℕ = length net.arcs + tail_of net k in
    let v : ℕ = lesser_of (queued q x) (level + cost_of net k) in
    let tail_lt = sound.tails k into.arc in
    let ql = h.queue_long in
    let e = lead net labels marks i level k into in
    let put : SetAt (queued q) (queued (set q x (Some v))) x (Some v) = set_list q x (Some v) None (omega arith) in
    let put_lead : SetAt (queued q) (queued (set q x (Some v))) x (Some (lesser_of (queued q x) (leads net u k))) = record { at = rw e put.at; others = put.others } in
    let near = h.room.nodes i into.node into.marked in
    let label = into.labelled in
    let cost : cost_of net k ≤ 1000000000 = small.costs k into.arc in
    record {
      partway = bound net r u s (seen_to net s i k) joins (seen_to net s i (k + 1)) (queued q) (queued (set q x (Some v))) level last k sound h.partway (see net labels marks i level k into) opened free put_lead;
      sums = h.sums;
      room = room_put net u s (queued q) n h.room (queued (set q x (Some v))) x v put (let l = lesser_le (queued q x) (level + cost_of net k) in omega arith);
      ordered = h.ordered;
      labels_long = h.labels_long;
      marks_long = h.marks_long;
      weights_long = h.weights_long;
      totals_long = h.totals_long;
      queue_long = length-set q x (Some v) ∙ ql;
    }

-- a boarding arc that goes into the queue
pub enqueue_move : (net : NetworkData) (r : ℕ) → IsWellFormed net → IsWithinLimits net → (joins : ℕ → Bool) (level last : ℕ) (labels : List ℕ) (marks : List Bool) (order : List ℕ) (n : ℕ) (f w : List ℕ) (q : List (Option ℕ)) (i k : ℕ) →
    Stands net r (seen_to net (is_reached marks) i k) joins level last labels marks order n f w q → IsInto net labels marks i level k → is_boarding net k ≡ true →
    Stands net r (seen_to net (is_reached marks) i (k + 1)) joins level last labels marks order n f w (set q k (Some (level + cost_of net k)))
enqueue_move net r sound small joins level last labels marks order n f w q i k h into boards =
    let u : ℕ → ℕ = λ j. get_or labels j 0 in
    let s : ℕ → Bool = is_reached marks in
    let ql = h.queue_long in
    let here = into.arc in
    let e = lead net labels marks i level k into in
    let p : List (Option ℕ) = set q k (Some (level + cost_of net k)) in
    let put : SetAt (queued q) (queued p) k (Some (level + cost_of net k)) = set_list q k (Some (level + cost_of net k)) None (omega arith) in
    let put_lead : SetAt (queued q) (queued p) k (Some (leads net u k)) = record { at = rw e put.at; others = put.others } in
    let near = h.room.nodes i into.node into.marked in
    let label = into.labelled in
    let cost : cost_of net k ≤ 1000000000 = small.costs k into.arc in
    record {
      partway = enqueue net r u s (seen_to net s i k) joins (seen_to net s i (k + 1)) (queued q) (queued p) level last k sound h.partway (see net labels marks i level k into) boards put_lead;
      sums = h.sums;
      room = room_put net u s (queued q) n h.room (queued p) k (level + cost_of net k) put (omega arith);
      ordered = h.ordered;
      labels_long = h.labels_long;
      marks_long = h.marks_long;
      weights_long = h.weights_long;
      totals_long = h.totals_long;
      queue_long = length-set q k (Some (level + cost_of net k)) ∙ ql;
    }

-- the numbers of an arc of one tick that joins at once
pub now_joining : (net : NetworkData) (r : ℕ) → IsWellFormed net → IsWithinLimits net → (joins : ℕ → Bool) (level last : ℕ) (labels : List ℕ) (marks : List Bool) (order : List ℕ) (n : ℕ) (f w : List ℕ) (q : List (Option ℕ)) (i k : ℕ) →
    Stands net r (seen_to net (is_reached marks) i k) joins level last labels marks order n f w q → IsInto net labels marks i level k → is_boarding net k ≡ true →
    is_reached marks (tail_of net k) ≡ false → cost_of net k ≡ 1 → is_by (queued q (length net.arcs + tail_of net k)) (level + 1) ≡ false →
    (g x : ℕ) → g ≡ get_or f (tail_of net k) 0 + weight_of net k → x ≡ get_or w (tail_of net k) 0 + weight_of net k * (level + 1) →
    Joining net (λ j. get_or labels j 0) (is_reached marks) joins (queued q (length net.arcs + tail_of net k)) k (level + 1) n g x
    (λ j. get_or (set f (tail_of net k) g) j 0) (λ j. get_or (set w (tail_of net k) x) j 0)
now_joining net r sound small joins level last labels marks order n f w q i k h into boards opened one ahead g x weight_is total_is =
    let s : ℕ → Bool = is_reached marks in
    let seen = see net labels marks i level k into in
    let e = lead net labels marks i level k into in
    joining net r sound small (seen_to net s i k) joins level last labels marks order n f w q h k (level + 1) (omega arith) into.arc boards
    (not_joined net (λ j. get_or labels j 0) s (seen_to net s i k) joins (seen_to net s i (k + 1)) level k seen h.partway.joined)
    (omega arith) seen.head opened (not_by (queued q (length net.arcs + tail_of net k)) (level + 1) ahead) g x weight_is total_is

-- a boarding arc of one tick whose tail is open joins at once
pub now_move : (net : NetworkData) (r : ℕ) → IsWellFormed net → IsWithinLimits net → (joins : ℕ → Bool) (level last : ℕ) (labels : List ℕ) (marks : List Bool) (order : List ℕ) (n : ℕ) (f w : List ℕ) (q : List (Option ℕ)) (i k : ℕ) →
    Stands net r (seen_to net (is_reached marks) i k) joins level last labels marks order n f w q → IsInto net labels marks i level k → is_boarding net k ≡ true →
    is_reached marks (tail_of net k) ≡ false → cost_of net k ≡ 1 → is_by (queued q (length net.arcs + tail_of net k)) (level + 1) ≡ false →
    (g x : ℕ) → g ≡ get_or f (tail_of net k) 0 + weight_of net k → x ≡ get_or w (tail_of net k) 0 + weight_of net k * (level + 1) →
    Stands net r (seen_to net (is_reached marks) i (k + 1)) (join_at joins k) level last labels marks order n (set f (tail_of net k) g) (set w (tail_of net k) x)
    (lowered q (length net.arcs + tail_of net k) ((net.k + x) / g))
now_move net r sound small joins level last labels marks order n f w q i k h into boards opened one ahead g x weight_is total_is =
    let u : ℕ → ℕ = λ j. get_or labels j 0 in
    let s : ℕ → Bool = is_reached marks in
    let node : ℕ = length net.arcs + tail_of net k in
    let z : ℕ = lesser_of (queued q node) ((net.k + x) / g) in
    let p : List (Option ℕ) = set q node (Some z) in
    let tail_lt = sound.tails k into.arc in
    let ql = h.queue_long in
    let put : SetAt (queued q) (queued p) node (Some z) = set_list q node (Some z) None (omega arith) in
    let j = now_joining net r sound small joins level last labels marks order n f w q i k h into boards opened one ahead g x weight_is total_is in
    let most = j.label in
    record {
      partway = join_now net r u s (seen_to net s i k) joins (seen_to net s i (k + 1)) (join_at joins k) (queued q) (queued p) level last k g x sound h.partway (see net labels marks i level k into) put j.arc;
      sums = j.sums;
      room = room_put net u s (queued q) n h.room (queued p) node z put (let l = lesser_le (queued q node) ((net.k + x) / g) in omega arith);
      ordered = h.ordered;
      labels_long = h.labels_long;
      marks_long = h.marks_long;
      weights_long = length-set f (tail_of net k) g ∙ h.weights_long;
      totals_long = length-set w (tail_of net k) x ∙ h.totals_long;
      queue_long = length-set q node (Some z) ∙ ql;
    }
