use Rattle.std.proofs.Common.{◌≡◌, ◌*◌, ◌<◌, ◌≤◌, ℕ, None, length, get_or, take}
use Rattle.std.specs.Prelude.{All, unwrap_or}
use Rattle.headways.specs.TripWeights.{bands_of, weight_of_bands}
use Rattle.headways.proofs.weights.weights_of_bands.Given as goal

abbrev pub invariant-loop-band : goal.invariant-loop-band
invariant-loop-band l = record {
  long : length l.sums.items ≡ l.trips;
  each : (trip : ℕ) → trip < l.trips → get_or l.sums.items trip None ≡ weight_of_bands l.period (bands_of (take l.band-index l.bands) trip);
  light : All (λ sum. unwrap_or sum 0 ≤ 172800000 * l.band-index) l.sums.items;
}
