-- Sums of volumes over the arcs of a kind.
use Rattle.std.proofs.Common.{◌≡◌, ℕ, ◌+◌, Bool, cond, List, length, Some, sym, ap, ◌∙◌}
use Rattle.std.specs.List.{sum_by, slice_get, slice_index, range_with_len}
use Rattle.std.proofs.lemmas.Option.{get_or_from_slice_get}
use Rattle.definitions.proofs.Sums.{sum_by-filter, sum_more}
use Rattle.network.specs.Cities.{arc_kind_of}
use Rattle.line_report.specs.Volumes.{volume_where}
use Rattle.network.specs.declared.kinds.ArcKind.{ArcKind}
use Rattle.network.specs.declared.kinds.ArcKind.TheVariants as arc
use Rattle.network.specs.Cities.{CityData}

-- the volume of an arc, where what it stands for passes
abbrev pub volume_at : CityData → (ArcKind → Bool) → List ℕ → ℕ → ℕ
volume_at city test volumes number = cond (test (arc_kind_of city number)) (slice_index volumes number) 0

-- one arc more
pub one_more : (city : CityData) (test : ArcKind → Bool) (volumes : List ℕ) (number : ℕ) (kind : ArcKind) (counts : Bool) (total part : ℕ) →
    slice_get city.arcs number ≡ Some kind → counts ≡ test kind → part ≡ cond counts (slice_index volumes number) 0 →
    total ≡ sum_by (volume_at city test volumes) (range_with_len 0 number) →
    total + part ≡ sum_by (volume_at city test volumes) (range_with_len 0 (number + 1))
one_more city test volumes number kind counts total part there counted is_part so_far =
    ap (λ t. t + part) so_far
    ∙ ap (λ p. sum_by (volume_at city test volumes) (range_with_len 0 number) + p)
    (is_part ∙ ap (λ b. cond b (slice_index volumes number) 0) (counted ∙ ap test (sym (get_or_from_slice_get city.arcs number kind arc.Walk there))))
    ∙ sym (sum_more (volume_at city test volumes) number)

-- all arcs
pub all_arcs : (city : CityData) (test : ArcKind → Bool) (volumes : List ℕ) (end total : ℕ) → end ≡ length city.net.arcs →
    total ≡ sum_by (volume_at city test volumes) (range_with_len 0 end) → total ≡ volume_where city test volumes
all_arcs city test volumes end total at_end so_far =
    so_far
    ∙ ap (λ n. sum_by (volume_at city test volumes) (range_with_len 0 n)) at_end
    ∙ sym (sum_by-filter (slice_index volumes) (λ number. test (arc_kind_of city number)) (range_with_len 0 (length city.net.arcs)))
