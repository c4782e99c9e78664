use Rattle.std.proofs.Common.{◌≡◌, ℕ, ◌-◌, ◌++◌, map, length, arith, subst}
use Rattle.std.specs.Prelude.{filter}
use Rattle.std.specs.List.{range_with_len}
use Rattle.network.specs.Boardings.{boarding_at, is_boarded}
use Rattle.network.specs.Sources.{kept_line}
use Rattle.network.proofs.ArcListLemmas.{passing-next}
use Rattle.network.proofs.boardings.add_line.Goals as goal

pub loop-place-preserved : goal.loop-place-preserved
loop-place-preserved c =
    passing-next (boarding_at c.args.town.now c.args.line) (is_boarded c.args.town.now c.args.line) c.loop-place.place c.args.list.now.items c.loop-place.list.items c.add_place.new.list.items
    c.loop-place.invariant c.in_ok-add_place.ensures.added

pub returns-clause-added : goal.returns-clause-added
returns-clause-added c =
    let e : c.loop-place.place ≡ length (kept_line c.args.town.now c.args.line).places - 1 = omega arith in
    subst (λ (n : ℕ). c.loop-place.list.items ≡ c.args.list.now.items ++ map (boarding_at c.args.town.now c.args.line) (filter (is_boarded c.args.town.now c.args.line) (range_with_len 0 n))) e c.loop-place.invariant
