-- The steps over lists: what is taken is settled, passed or joined, and the arcs into a node are looked at.
use Rattle.std.proofs.Common.{◌≡◌, ◌≢◌, ℕ, ◌+◌, ◌*◌, ◌/◌, ◌<◌, ◌≤◌, Bool, true, false, List, [], ◌∷◌, ◌++◌, length, get_or, set, Option, None, Some, sym, ◌∙◌, ap, arith}
use Rattle.std.proofs.lemmas.List.{length-set}
use Rattle.definitions.specs.Network.{NetworkData, IsWellFormed, IsWithinLimits, tail_of, head_of, cost_of, weight_of}
use Rattle.definitions.specs.Reach.{is_reached}
use Rattle.label_setting.specs.declared.queue.Taken.{Taken}
use Rattle.label_setting.specs.Queue.{queued, lesser_of, IsFirst}
use Rattle.label_setting.specs.Partway.{Before, seen_to, all_seen, stride, left}
use Rattle.label_setting.specs.Settling.{Stands}
use Rattle.label_setting.specs.Changes.{lowered}
use Rattle.label_setting.proofs.ChangeLemmas.{SetAt, set_list, apart, after_level, before_level, within_by}
use Rattle.label_setting.proofs.SettleLemmas.{settle}
use Rattle.label_setting.proofs.JoinLemmas.{skip, join}
use Rattle.label_setting.proofs.TallyLemmas.{sums_kept, room_put, room_cut, room_settle, lesser_le}
use Rattle.label_setting.proofs.OrderLemmas.{ordered_settle, left_join}
use Rattle.label_setting.proofs.SeenLemmas.{seen_as, seen_first}
use Rattle.label_setting.proofs.FitLemmas.{joining, join_at}

-- ---- what is first in the queue is taken

-- a node: it is settled, and none of the arcs into it was seen yet
pub node_move : (net : NetworkData) (r : ℕ) (joins : ℕ → Bool) (level last : ℕ) (labels : List ℕ) (marks : List Bool) (order : List ℕ) (n : ℕ) (f w : List ℕ) (q : List (Option ℕ)) →
    Stands net r (all_seen net (is_reached marks)) joins level last labels marks order n f w q → (t : Taken) → IsFirst q t → (i : ℕ) → t.item ≡ length net.arcs + i → i < net.nodes →
    Stands net r (seen_to net (is_reached (set marks i true)) i 0) joins t.number (length net.arcs + i) (set labels i t.number) (set marks i true) (order ++ i ∷ []) (n + 1) f w (set q t.item None)
node_move net r joins level last labels marks order n f w q h t first i item lt =
    let u : ℕ → ℕ = λ j. get_or labels j 0 in
    let s : ℕ → Bool = is_reached marks in
    let v : ℕ → ℕ = λ j. get_or (set labels i t.number) j 0 in
    let m : ℕ → Bool = is_reached (set marks i true) in
    let y : ℕ = t.number in
    let p : ℕ → Option ℕ = queued (set q t.item None) in
    let there : queued q (length net.arcs + i) ≡ Some y = ap (queued q) (sym item) ∙ first.held in
    let ll = h.labels_long in let ml = h.marks_long in
    let label : SetAt u v i y = set_list labels i y 0 (omega arith) in
    let mark : SetAt s m i true = set_list marks i true false (omega arith) in
    let cut : SetAt (queued q) p (length net.arcs + i) None = rw (← item) (set_list q t.item None None first.inside) in
    let before : (x z : ℕ) → queued q x ≡ Some z → Before y (length net.arcs + i) z x = rw (← item) first.first in
    let opened : s i ≡ false = (h.partway.nodes i y lt there).0 in
    record {
      partway = seen_as net r v m (all_seen net s) (seen_to net m i 0) joins p y (length net.arcs + i) (seen_first net s m i opened mark)
          (settle net r u s (all_seen net s) joins (queued q) level last h.partway i y lt there before v m p label mark cut);
      sums = sums_kept net u s joins (λ j. get_or f j 0) (λ j. get_or w j 0) h.sums v m
          (λ j o. sym (mark.others j (λ e. apart m i j mark.at o (sym e))) ∙ o)
          (λ b blt on. ap (λ x. x + cost_of net b) (label.others (head_of net b) (apart s (head_of net b) i (h.partway.heads b (h.partway.joined b on)).1 opened)));
      room = room_settle net u s (queued q) n h.room i y lt opened (length net.arcs + i) there v m p label mark cut;
      ordered = ordered_settle net r u s (all_seen net s) joins (queued q) level last h.partway order h.ordered i y lt there v m label mark;
      labels_long = length-set labels i y ∙ ll;
      marks_long = length-set marks i true ∙ ml;
      weights_long = h.weights_long;
      totals_long = h.totals_long;
      queue_long = length-set q t.item None ∙ h.queue_long;
    }

-- an arc whose tail is settled
pub skip_move : (net : NetworkData) (r : ℕ) (joins : ℕ → Bool) (level last : ℕ) (labels : List ℕ) (marks : List Bool) (order : List ℕ) (n : ℕ) (f w : List ℕ) (q : List (Option ℕ)) →
    Stands net r (all_seen net (is_reached marks)) joins level last labels marks order n f w q → (t : Taken) → IsFirst q t → t.item < length net.arcs → is_reached marks (tail_of net t.item) ≡ true →
    Stands net r (all_seen net (is_reached marks)) joins t.number t.item labels marks order n f w (set q t.item None)
    × (left net (is_reached marks) (queued (set q t.item None)) < left net (is_reached marks) (queued q))
skip_move net r joins level last labels marks order n f w q h t first lt tail =
    let u : ℕ → ℕ = λ j. get_or labels j 0 in
    let s : ℕ → Bool = is_reached marks in
    let p : ℕ → Option ℕ = queued (set q t.item None) in
    let cut : SetAt (queued q) p t.item None = set_list q t.item None None first.inside in
    let arc = h.partway.arcs t.item t.number lt first.held in (
      record {
        partway = skip net r u s (all_seen net s) joins (queued q) p level last h.partway t.item t.number lt first.held first.first tail cut;
        sums = h.sums;
        room = room_cut net u s (queued q) n h.room p t.item cut;
        ordered = h.ordered;
        labels_long = h.labels_long;
        marks_long = h.marks_long;
        weights_long = h.weights_long;
        totals_long = h.totals_long;
        queue_long = length-set q t.item None ∙ h.queue_long;
      },
      left_join net s (queued q) p t.item t.number lt (h.partway.heads t.item arc.1).1 first.held cut.at (λ b blt ne. cut.others b ne),
    )

-- an arc whose tail is open: it joins
pub join_move : (net : NetworkData) (r : ℕ) → IsWellFormed net → IsWithinLimits net → (joins : ℕ → Bool) (level last : ℕ) (labels : List ℕ) (marks : List Bool) (order : List ℕ) (n : ℕ) (f w : List ℕ) (q : List (Option ℕ)) →
    Stands net r (all_seen net (is_reached marks)) joins level last labels marks order n f w q → (t : Taken) → IsFirst q t → t.item < length net.arcs → is_reached marks (tail_of net t.item) ≡ false →
    (g x : ℕ) → g ≡ get_or f (tail_of net t.item) 0 + weight_of net t.item → x ≡ get_or w (tail_of net t.item) 0 + weight_of net t.item * t.number →
    Stands net r (all_seen net (is_reached marks)) (join_at joins t.item) t.number t.item labels marks order n (set f (tail_of net t.item) g) (set w (tail_of net t.item) x)
    (lowered (set q t.item None) (length net.arcs + tail_of net t.item) ((net.k + x) / g))
    × (left net (is_reached marks) (queued (lowered (set q t.item None) (length net.arcs + tail_of net t.item) ((net.k + x) / g))) < left net (is_reached marks) (queued q))
join_move net r sound small joins level last labels marks order n f w q h t first lt tail g x weight_is total_is =
    let u : ℕ → ℕ = λ j. get_or labels j 0 in
    let s : ℕ → Bool = is_reached marks in
    let a : ℕ = t.item in
    let y : ℕ = t.number in
    let i : ℕ = tail_of net a in
    let d : List (Option ℕ) = set q a None in
    let node : ℕ = length net.arcs + i in
    let z : ℕ = lesser_of (queued d node) ((net.k + x) / g) in
    let p : List (Option ℕ) = set d node (Some z) in
    let tail_lt : i < net.nodes = sound.tails a lt in
    let ql = h.queue_long in
    let dl : length d ≡ length q = length-set q a None in
    let cut : SetAt (queued q) (queued d) a None = set_list q a None None first.inside in
    let put : SetAt (queued d) (queued p) node (Some z) = set_list d node (Some z) None (omega arith) in
    let arc = h.partway.arcs a y lt first.held in
    let gone : queued p a ≡ None = put.others a (λ e. omega arith) ∙ cut.at in
    let others : (b : ℕ) → b < length net.arcs → b ≢ a → queued p b ≡ queued q b = λ b blt ne. put.others b (λ e. omega arith) ∙ cut.others b ne in
    let j = joining net r sound small (all_seen net s) joins level last labels marks order n f w q h a y (after_level level last y a (h.partway.later a y first.held)) lt arc.0 arc.2 (sym arc.3) (h.partway.heads a arc.1).1 tail
    (within_by (queued q node) y (λ z is. before_level y a z node (first.first node z is))) g x weight_is total_is in
    let wait = j.label in
    let bounded : z ≤ n * stride = let l = lesser_le (queued d node) ((net.k + x) / g) in omega arith in (
      record {
        partway = join net r u s (all_seen net s) joins (join_at joins a) (queued q) (queued d) (queued p) level last a y g x sound h.partway first.held first.first cut put j.arc;
        sums = j.sums;
        room = room_put net u s (queued d) n (room_cut net u s (queued q) n h.room (queued d) a cut) (queued p) node z put bounded;
        ordered = h.ordered;
        labels_long = h.labels_long;
        marks_long = h.marks_long;
        weights_long = length-set f i g ∙ h.weights_long;
        totals_long = length-set w i x ∙ h.totals_long;
        queue_long = length-set d node (Some z) ∙ dl ∙ h.queue_long;
      },
      left_join net s (queued q) (queued p) a y lt (h.partway.heads a arc.1).1 first.held gone others,
    )
