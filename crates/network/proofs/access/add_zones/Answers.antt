use Rattle.std.proofs.Common.{◌≡◌, ℕ, ◌<◌, arith, subst}
use Rattle.std.specs.Prelude.{flat_map}
use Rattle.std.specs.List.{range_with_len}
use Rattle.std.proofs.lemmas.Result.{err_from_is_err_and}
use Rattle.network.specs.Adding.{Adds}
use Rattle.network.specs.Arcs.{access_arcs}
use Rattle.network.specs.ArcParts.{zone_part}
use Rattle.network.specs.Sources.{zone_count}
use Rattle.network.proofs.AddingLemmas.{adds-next, adds-none, fails-next}
use Rattle.network.proofs.access.add_zones.Goals as goal

pub loop-zone-init : goal.loop-zone-init
loop-zone-init c = adds-none c.args.arcs.now

pub returns-in_err-add_access-clause-refused : goal.returns-in_err-add_access-clause-refused
unfolding zone_part
returns-in_err-add_access-clause-refused c =
    let p = err_from_is_err_and c.from_residual.result c.from_residual.ensures.1 in
    let lt : c.loop-zone.zone < zone_count c.args.town.now = omega arith in
    rw (p.1, p.2) (fails-next (access_arcs c.args.town.now) c.loop-zone.zone (zone_count c.args.town.now) c.args.arcs.now c.loop-zone.arcs c.in_err-add_access.field-0.0 lt c.loop-zone.invariant c.in_err-add_access.ensures.refused)

pub loop-zone-preserved : goal.loop-zone-preserved
loop-zone-preserved c = adds-next (access_arcs c.args.town.now) c.loop-zone.zone c.args.arcs.now c.loop-zone.arcs c.add_access.new.arcs c.loop-zone.invariant c.in_ok-add_access.ensures.added

pub returns-clause-added : goal.returns-clause-added
unfolding zone_part
returns-clause-added c =
    let e : c.loop-zone.zone ≡ zone_count c.args.town.now = omega arith in
    subst (λ (n : ℕ). Adds c.args.arcs.now c.loop-zone.arcs (flat_map (access_arcs c.args.town.now) (range_with_len 0 n))) e c.loop-zone.invariant
