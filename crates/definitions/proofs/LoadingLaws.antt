-- The laws of splits, volumes and waits.
use Rattle.std.proofs.Common.{◌<◌, refl, sym, ◌∙◌, arith, inl, inr, get_or}
use Rattle.std.proofs.lemmas.List.{ext_get_or}
use Rattle.definitions.specs.Network.{tail_of}
use Rattle.definitions.specs.SplitLaws.{SharesSumToUnits, SharesAreNearEven, NoWeightGetsNothing}
use Rattle.definitions.specs.VolumeLaws.{VolumesAreAPlan, VolumesLeadLower, VolumesAreOne, LeastWaitsAreOne}
use Rattle.definitions.proofs.RankLemmas.{rising_from}
use Rattle.definitions.proofs.SplitLemmas.{shares_sum, shares_near, no_weight}
use Rattle.definitions.proofs.VolumeLemmas.{conserves, carries, one_solution}

pub shares_sum_to_units : SharesSumToUnits
shares_sum_to_units units weight numbers rising some = shares_sum units weight 0 numbers (rising_from 0 numbers (λ i lt. omega arith) rising) some

pub shares_are_near_even : SharesAreNearEven
shares_are_near_even units number weight numbers some = shares_near units weight numbers number some

pub no_weight_gets_nothing : NoWeightGetsNothing
no_weight_gets_nothing units number weight numbers some none = no_weight units weight numbers number some none

pub volumes_are_a_plan : VolumesAreAPlan
volumes_are_a_plan net destination reached labels demand volumes waits sound solved carried solves least = record {
  flow_per_arc = solves.volume_per_arc;
  wait_per_node = least.wait_per_node;
  conserved = λ node lt away. let c = conserves net destination reached labels demand volumes solved solves carried node lt away in omega arith;
  waited_for = λ arc lt boards. least.enough (tail_of net arc) (sound.tails arc lt) arc lt refl boards;
}

pub volumes_lead_lower : VolumesLeadLower
volumes_lead_lower net destination reached labels demand volumes sound solves arc lt some = elim (carries net destination reached labels demand volumes solves arc lt) [
  | inl none ↦ absurd (omega arith)
  | inr on ↦ (let fast = on.fast in let dear = sound.costs arc lt in omega arith)
]

pub volumes_are_one : VolumesAreOne
volumes_are_one net destination reached labels demand volumes others sound long one other =
    one_solution net destination reached labels demand volumes others sound long one other

pub least_waits_are_one : LeastWaitsAreOne
least_waits_are_one net volumes waits others one other = ext_get_or 0 waits others (one.wait_per_node ∙ sym other.wait_per_node) (λ node lt.
    let inside : node < net.nodes = let l = one.wait_per_node in omega arith in
    let down = one.least node (get_or others node 0) inside (other.enough node inside) in
    let up = other.least node (get_or waits node 0) inside (one.enough node inside) in
    omega arith)
