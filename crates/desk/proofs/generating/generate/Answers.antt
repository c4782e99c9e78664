use Rattle.std.proofs.Common.{◌≡◌, ◌≤◌, ℕ, List, length, subst, sym}
use Rattle.definitions.specs.declared.limits.TheConstants.{FILE_LIMIT}
use Rattle.desk.proofs.ShortLemmas.{all_short}
use Rattle.desk.proofs.generating.generate.Goals as goal

-- equal texts are equally short
along : {made text : List ℕ} → made ≡ text → length text ≤ FILE_LIMIT → length made ≤ FILE_LIMIT
along is short = subst (λ t. length t ≤ FILE_LIMIT) (sym is) short

pub returns-clause-short : goal.returns-clause-short
returns-clause-short c =
    let short = all_short c.args.words.now c.requires.range in
    record {
      stops = along c.in_ok-stops.ensures.text short.stops;
      routes = along c.in_ok-routes.ensures.text short.routes;
      calendar_dates = along c.in_ok-calendar_dates.ensures.text short.calendar_dates;
      trips = along c.in_ok-trips.ensures.text short.trips;
      stop_times = along c.in_ok-lines.ensures.stop_times short.stop_times;
      frequencies = along c.in_ok-lines.ensures.frequencies short.frequencies;
    }
