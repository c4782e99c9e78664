-- The lines of a network text so far, as good lines that follow one another.
use Rattle.std.proofs.Common.{◌≡◌, ℕ, ◌<◌, ◌==◌, Bool, true, false, cond, List, [], ◌∷◌, ◌++◌, length, refl, sym, ap, subst, ◌∙◌, append_assoc, arith}
use Rattle.std.specs.Prelude.{codes, map, nat_lt}
use Rattle.std.specs.List.{flat_map}
use Rattle.std.proofs.lemmas.Bool.{lt-ltb, lt-leb}
use Rattle.std.proofs.lemmas.List.{append-nil}
use Rattle.std.proofs.lemmas.Grind.{flat_map-append}
use Rattle.definitions.specs.Decimal.{number_line}
use Rattle.certificate.specs.declared.refused.Limit.TheVariants as limit
use Rattle.certificate.specs.declared.stage.Stage.{Stage}
use Rattle.certificate.specs.declared.stage.Stage.TheVariants as stage
use Rattle.certificate.specs.Spelling.{title, arc_line}
use Rattle.certificate.specs.Draft.{DraftData, up_to_rows}
use Rattle.certificate.specs.NextLine.{line_at}
use Rattle.certificate.specs.Kept.{HasSizes, HasRows}
use Rattle.certificate.specs.Grammar.{Line, line_text, Kind, kind_at, IsShort, HasNumber, IsOf}
use Rattle.certificate.specs.GoodLines.{start, step, AreGoodLines}
use Rattle.certificate.specs.NetworkRefusals.{problem_kind_at, problem_kind}
use Rattle.certificate.specs.ProblemDraft.{IsWithinText, IsUnclaimed, HasDemandLeft}
use Rattle.certificate.proofs.Advancing.{in_range}
use Rattle.certificate.proofs.KindReaders.{reader_at, line_is}
use Rattle.certificate.proofs.Trails.{Runs, go_on, row_texts}
use Rattle.certificate.proofs.TrailRows.{with_rows, arcs_run, demand_run}

-- ---- what may come next in both texts

-- a line of a problem, but for the title and the last line
abbrev pub IsInProblem : Line → Type 0
IsInProblem Line.Title = ⊥
IsInProblem Line.NetworkTitle = ⊥
IsInProblem (Line.Nodes n) = Unit {0}
IsInProblem (Line.Arcs n) = Unit {0}
IsInProblem (Line.K n) = Unit {0}
IsInProblem (Line.Destination n) = Unit {0}
IsInProblem (Line.Arc arc) = Unit {0}
IsInProblem (Line.Demand n) = Unit {0}
IsInProblem (Line.Label n) = ⊥
IsInProblem (Line.Volume n) = ⊥
IsInProblem (Line.Wait n) = ⊥
IsInProblem Line.End = ⊥

-- a line after the last demand of a certificate is none
claimed : (label volume wait : Bool) (line : Line) → IsInProblem line → IsOf (cond label Kind.Label (cond volume Kind.Volume (cond wait Kind.Wait Kind.End))) line → ⊥
claimed true volume wait line within of = subst IsInProblem of.is within
claimed false true wait line within of = subst IsInProblem of.is within
claimed false false true line within of = subst IsInProblem of.is within
claimed false false false line within of = subst IsInProblem of within

row_next : (arc demand : Bool) (kind after : Kind) (line : Line) → (IsOf after line → ⊥) → IsOf (cond arc Kind.Arc (cond demand kind after)) line → IsOf (cond arc Kind.Arc (cond demand kind Kind.End)) line
row_next true demand kind after line none of = of
row_next false true kind after line none of = of
row_next false false kind after line none of = absurd (none of)

next_at : (s : Stage) (d : DraftData) (line : Line) → IsInProblem line → IsOf (kind_at s d) line → IsOf (problem_kind_at s d) line
next_at stage.Title d line within of = absurd (subst IsInProblem of within)
next_at stage.Nodes d line within of = of
next_at stage.Arcs d line within of = of
next_at stage.K d line within of = of
next_at stage.Destination d line within of = of
next_at stage.Rows d line within of =
    row_next (nat_lt (length d.arcs) d.arc_count) (nat_lt (length d.demand) d.nodes) (cond (length d.demand == d.destination) Kind.NoDemand Kind.Demand) _ line
    (claimed (nat_lt (length d.labels) d.nodes) (nat_lt (length d.volumes) d.arc_count) (nat_lt (length d.waits) d.nodes) line within) of
next_at stage.Done d line within of = of

-- so such lines of a certificate are those of a network text
same_lines : {A : Type 0} (make : A → Line) → ((x : A) → IsInProblem (make x)) → (xs : List A) (a b : DraftData) → Runs a (map make xs) b → AreGoodLines problem_kind a (map make xs) b
same_lines make within [] a b runs = runs
same_lines make within (x ∷ xs) a b runs = (next_at a.stage a (make x) (within x) runs.0, runs.1, same_lines make within xs (step a (make x)) b runs.2)

-- where some demand is not read, the next line is that of a certificate
left_row : (arc : Bool) (kind after : Kind) (demand : Bool) → demand ≡ true → cond arc Kind.Arc (cond demand kind after) ≡ cond arc Kind.Arc (cond demand kind Kind.End)
left_row arc kind after demand e = rw e refl

left_kind : (s : Stage) (d : DraftData) → (s ≡ stage.Rows → length d.demand < d.nodes) → (s ≡ stage.Title → ⊥) → kind_at s d ≡ problem_kind_at s d
left_kind stage.Title d left titled = absurd (titled refl)
left_kind stage.Nodes d left titled = refl
left_kind stage.Arcs d left titled = refl
left_kind stage.K d left titled = refl
left_kind stage.Destination d left titled = refl
left_kind stage.Rows d left titled = left_row (nat_lt (length d.arcs) d.arc_count) (cond (length d.demand == d.destination) Kind.NoDemand Kind.Demand) _ (nat_lt (length d.demand) d.nodes) (lt-ltb (length d.demand) d.nodes (left refl))
left_kind stage.Done d left titled = refl

pub left_reader : (d : DraftData) (bytes : List ℕ) → HasDemandLeft d → IsUnclaimed d → reader_at (problem_kind d) d bytes ≡ line_at d bytes
left_reader d bytes left unclaimed =
    ap (λ kind. reader_at kind d bytes) (sym (left_kind d.stage d left (λ e. subst IsWithinText e unclaimed.stage))) ∙ sym (line_is d.stage d bytes)

-- ---- the lines

number_of : (make : ℕ → Line) (n : ℕ) → IsShort n → HasNumber make (make n)
number_of make n short = record { number = n; short = short; is = refl }

-- the lines after the title, to the last row so far
abbrev pub problem_list : DraftData → List Line
problem_list d = Line.Nodes d.nodes ∷ Line.Arcs d.arc_count ∷ Line.K d.k ∷ Line.Destination d.destination ∷ (map Line.Arc d.arcs ++ map Line.Demand d.demand)

-- the draft at its rows, without labels, volumes and waits
abbrev pub problem_end : DraftData → DraftData
problem_end d = with_rows d d.arcs d.demand [] [] []

pub rows_good : (d : DraftData) → HasSizes d → HasRows d → AreGoodLines problem_kind start (Line.NetworkTitle ∷ problem_list d) (problem_end d)
rows_good d sizes rows =
    let nodes = sizes.nodes in
    let arcs = sizes.arcs in
    let k = sizes.k in
    let some : d.destination < d.nodes = rows.destination in (
      refl,
      refl,
      (
        number_of Line.Nodes d.nodes (omega arith),
        in_range limit.Nodes d.nodes nodes,
        (
          number_of Line.Arcs d.arc_count (omega arith),
          in_range limit.Arcs d.arc_count arcs,
          (
            number_of Line.K d.k (omega arith),
            in_range limit.K d.k k,
            (
              number_of Line.Destination d.destination (omega arith),
              rw (lt-leb d.nodes d.destination some) refl,
              go_on problem_kind (with_rows d [] [] [] [] []) (with_rows d d.arcs [] [] [] []) (problem_end d) (map Line.Arc d.arcs) (map Line.Demand d.demand)
                  (same_lines Line.Arc (λ x. tt) d.arcs (with_rows d [] [] [] [] []) (with_rows d d.arcs [] [] [] []) (arcs_run d sizes rows))
                  (same_lines Line.Demand (λ x. tt) d.demand (with_rows d d.arcs [] [] [] []) (problem_end d) (demand_run d sizes rows)),
            ),
          ),
        ),
      ),
    )

-- their text
pub rows_parts : (d : DraftData) → flat_map line_text (map Line.Arc d.arcs ++ map Line.Demand d.demand) ≡ flat_map arc_line d.arcs ++ flat_map (number_line (codes "g")) d.demand
rows_parts d =
    flat_map-append line_text (map Line.Arc d.arcs) (map Line.Demand d.demand) ∙ ap (λ t. t ++ flat_map line_text (map Line.Demand d.demand)) (row_texts Line.Arc arc_line (λ x. refl) d.arcs)
    ∙ ap (λ t. flat_map arc_line d.arcs ++ t) (row_texts Line.Demand (number_line (codes "g")) (λ x. refl) d.demand)

pub rows_text : (d : DraftData) → IsUnclaimed d → title ++ flat_map line_text (problem_list d) ≡ up_to_rows d
rows_text d unclaimed =
    ap (λ t. title ++ (number_line (codes "nodes") d.nodes ++ (number_line (codes "arcs") d.arc_count ++ (number_line (codes "k") d.k ++ (number_line (codes "destination") d.destination ++ t))))) (rows_parts d)
    ∙ regroup title (number_line (codes "nodes") d.nodes) (number_line (codes "arcs") d.arc_count) (number_line (codes "k") d.k) (number_line (codes "destination") d.destination) (flat_map arc_line d.arcs) (flat_map (number_line (codes "g")) d.demand)
    ∙ none _ _ _ _ (ap (flat_map (number_line (codes "u"))) unclaimed.labels) (ap (flat_map (number_line (codes "v"))) unclaimed.volumes) (ap (flat_map (number_line (codes "q"))) unclaimed.waits)
  where
    regroup : (t n a k d x g : List ℕ) → t ++ (n ++ (a ++ (k ++ (d ++ (x ++ g))))) ≡ (((((t ++ n) ++ a) ++ k) ++ d) ++ x) ++ g
    regroup t n a k d x g = simp append_assoc refl

    none : (s u v q : List ℕ) → u ≡ [] → v ≡ [] → q ≡ [] → s ≡ ((s ++ u) ++ v) ++ q
    none s u v q x y z =
        sym (ap (λ t. ((s ++ t) ++ v) ++ q) x ∙ ap (λ t. ((s ++ []) ++ t) ++ q) y ∙ ap (λ t. ((s ++ []) ++ []) ++ t) z ∙ append-nil ((s ++ []) ++ []) ∙ append-nil (s ++ []) ∙ append-nil s)
