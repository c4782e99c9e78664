-- The arcs into a node, looked at one after another.
use Rattle.std.proofs.Common.{◌≡◌, ◌≢◌, ℕ, ◌+◌, ◌-◌, ◌<◌, ◌≤◌, ◌==◌, List, [], length, map, get_or, drop, refl, sym, ◌∙◌, ap, arith}
use Rattle.std.proofs.lemmas.Bool.{eqb-false}
use Rattle.std.proofs.lemmas.List.{drop_more, length-map, get_or-map}
use Rattle.definitions.specs.declared.arc.NetArc.{NetArc}
use Rattle.definitions.specs.Network.{NetworkData, head_of, in_arcs}
use Rattle.lp_model.specs.declared.entering.Entering.{Entering}
use Rattle.lp_model.specs.Entered.{entering_in}
use Rattle.label_setting.specs.declared.settling.Settling.{Settling}
use Rattle.label_setting.specs.Partway.{seen_to, all_seen}
use Rattle.label_setting.specs.Settling.{Settles, IsToSpread, label_in, mark_in, number_in}
use Rattle.label_setting.specs.Changes.{IsSpreadFrom}
use Rattle.label_setting.proofs.SeenLemmas.{seen_as, seen_jump, seen_last, none_pass}
use Rattle.label_setting.proofs.StepLemmas.{SoFar, AtNext, at_next}

pub begin_of : (net : NetworkData) (r i level : ℕ) (state : Settling) → IsToSpread net r i level state → SoFar net r i level (in_arcs net i) state
begin_of net r i level state h =
    let all : length net.arcs - 0 ≡ length net.arcs = omega arith in
    record { end = 0; joins = h.0; last = h.1; within = omega arith; rest_is = rw all refl; spreads = h.2 }

pub next_of : (net : NetworkData) (r i level : ℕ) (items : List ℕ) (place : ℕ) (state : Settling) → place < length items → SoFar net r i level (drop place items) state →
    AtNext net r i level (get_or items place 0) (drop (place + 1) items) state
next_of net r i level items place state lt h = at_next net r i level (get_or items place 0) (drop (place + 1) items) state (rw (drop_more items place 0 lt) at h)

pub end_of : (net : NetworkData) (r i level : ℕ) (state : Settling) → SoFar net r i level [] state → Settles net r state
end_of net r i level state h =
    let s = h.spreads in
    let st = s.stands in
    let within = h.within in
    let none : (b : ℕ) → h.end ≤ b → b < length net.arcs → head_of net b ≢ i = λ b low high.
    eqb-false (head_of net b) i (none_pass (λ a. head_of net a == i) h.end (length net.arcs - h.end) (sym h.rest_is) b low (omega arith)) in (
      h.joins,
      level,
      h.last,
      record {
        partway = seen_as net r (label_in state) (mark_in state) (seen_to net (mark_in state) i h.end) (all_seen net (mark_in state)) h.joins (number_in state) level h.last
            (λ a. seen_jump net (mark_in state) i h.end (length net.arcs) h.within none a ∙ seen_last net (mark_in state) i a) st.partway;
        sums = st.sums;
        room = st.room;
        ordered = st.ordered;
        labels_long = st.labels_long;
        marks_long = st.marks_long;
        weights_long = st.weights_long;
        totals_long = st.totals_long;
        queue_long = st.queue_long;
      },
    )

pub spread_on : (net : NetworkData) (i : ℕ) (first old new : Settling) → IsSpreadFrom net i first old → IsSpreadFrom net i old new → IsSpreadFrom net i first new
spread_on net i first old new a b = record { marks = b.marks ∙ a.marks; others = λ c lt ne. b.others c lt ne ∙ a.others c lt ne }

-- as many arcs as numbers, and each has its number
pub entering_each : (arcs : List NetArc) (items : List Entering) (numbers : List ℕ) → items ≡ map (entering_in arcs) numbers → length items ≡ length numbers
entering_each arcs items numbers e = ap length e ∙ length-map numbers (entering_in arcs)

pub entering_at : (arcs : List NetArc) (items : List Entering) (numbers : List ℕ) (place : ℕ) (d : Entering) → items ≡ map (entering_in arcs) numbers → place < length items → (get_or items place d).arc ≡ get_or numbers place 0
entering_at arcs items numbers place d e lt =
    let each = entering_each arcs items numbers e in
    ap (λ l. (get_or l place d).arc) e ∙ ap (λ t. t.arc) (get_or-map (entering_in arcs) numbers place 0 d (omega arith))
