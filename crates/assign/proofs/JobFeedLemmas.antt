-- The files of a feed make one feed: each row of its calendars fixes its dates by year, month and day.
use Rattle.std.proofs.Common.{◌≡◌, ℕ, List, [], ◌∷◌, Option, Some, refl, sym, ap₂, ◌∙◌}
use Rattle.std.proofs.Props.{props}
use Rattle.std.specs.Int.{IsInRange}
use Rattle.std.specs.List.{AllZip}
use mathlib.Core.HLevel.{is_prop→PathP}
use Rattle.jiff_core.specs.Calendar.{IsYear, days_in_month}
use Rattle.jiff_core.specs.declared.civil.date.Date.{Date}
use Rattle.gtfs_rows.specs.Fields.{ymd_of}
use Rattle.gtfs_rows.specs.declared.timetable.Exception.{Exception}
use Rattle.gtfs_rows.specs.declared.timetable.Week.{Week}
use Rattle.feed_reader.specs.Calendars.{IsExceptionOf, IsWeekOf}
use Rattle.feed_reader.specs.Faults.{Fields}
use Rattle.feed_reader.specs.Feed.{exception_rows, services_in, week_rows}
use Rattle.assign.specs.JobLaws.{OneFeed}

-- a year, a month and a day are those of one date: each fact that a date keeps of them has one proof
one_date : (a b : Date) → ymd_of a ≡ ymd_of b → a ≡ b
one_date a b e =
    λ i. record {
      year = (e i).0;
      month = (e i).1;
      day = (e i).2;
      year_in = is_prop→PathP (λ j. IsYear (e j).0) (λ j. hlevel props) a.year_in b.year_in i;
      month_in = is_prop→PathP (λ j. IsInRange 1 12 (e j).1) (λ j. hlevel props) a.month_in b.month_in i;
      day_in = is_prop→PathP (λ j. IsInRange 1 (days_in_month (e j).0 (e j).1) (e j).2) (λ j. hlevel props) a.day_in b.day_in i;
    }

-- what two options hold that are one
held : {X : Type 0} → (given : Option X) (a b : X) → given ≡ Some a → given ≡ Some b → a ≡ b
held given a b h g = cc (h, g)

-- a row is of one week at most
one_week : (services : List (List ℕ)) (row : Fields) (a b : Week) → IsWeekOf services row a → IsWeekOf services row b → a ≡ b
one_week services row a b h g =
    let service : a.service ≡ b.service = held _ a.service b.service h.service g.service in
    let days : a.days ≡ b.days = h.days ∙ sym g.days in
    let first : a.first ≡ b.first = one_date a.first b.first (held _ (ymd_of a.first) (ymd_of b.first) h.first g.first) in
    let last : a.last ≡ b.last = one_date a.last b.last (held _ (ymd_of a.last) (ymd_of b.last) h.last g.last) in
    λ i. record { service = service i; days = days i; first = first i; last = last i }

-- a row is of one exception at most
one_exception : (services : List (List ℕ)) (row : Fields) (a b : Exception) → IsExceptionOf services row a → IsExceptionOf services row b → a ≡ b
one_exception services row a b h g =
    let service : a.service ≡ b.service = held _ a.service b.service h.service g.service in
    let date : a.date ≡ b.date = one_date a.date b.date (held _ (ymd_of a.date) (ymd_of b.date) h.date g.date) in
    let adds : a.adds ≡ b.adds = h.adds ∙ sym g.adds in
    λ i. record { service = service i; date = date i; adds = adds i }

-- a relation that fixes its second side fixes a list of them
pub one_list : {X Y : Type 0} → (R : X → Y → Type 0) → ((x : X) (a b : Y) → R x a → R x b → a ≡ b) → (xs : List X) (some others : List Y) → AllZip R xs some → AllZip R xs others → some ≡ others
one_list R one [] [] [] h g = refl
one_list R one [] [] (b ∷ others) h g = absurd g
one_list R one [] (a ∷ some) others h g = absurd h
one_list R one (x ∷ xs) [] others h g = absurd h
one_list R one (x ∷ xs) (a ∷ some) [] h g = absurd g
one_list R one (x ∷ xs) (a ∷ some) (b ∷ others) h g = ap₂ (λ y ys. y ∷ ys) (one x a b h.0 g.0) (one_list R one xs some others h.1 g.1)

-- files make one feed at most
pub one_feed : OneFeed
one_feed files a b h g =
    let stops : a.stops ≡ b.stops = h.stops ∙ sym g.stops in
    let routes : a.routes ≡ b.routes = h.routes ∙ sym g.routes in
    let services : a.services ≡ b.services = h.services ∙ sym g.services in
    let trips : a.trips ≡ b.trips = h.trips ∙ sym g.trips in
    let calls : a.calls ≡ b.calls = h.calls ∙ sym g.calls in
    let bands : a.bands ≡ b.bands = h.bands ∙ sym g.bands in
    let weeks : a.weeks ≡ b.weeks = one_list (IsWeekOf (services_in files)) (one_week (services_in files)) (week_rows files) a.weeks b.weeks h.weeks g.weeks in
    let exceptions : a.exceptions ≡ b.exceptions = one_list (IsExceptionOf (services_in files)) (one_exception (services_in files)) (exception_rows files) a.exceptions b.exceptions h.exceptions g.exceptions in
    let transfers : a.transfers ≡ b.transfers = h.transfers ∙ sym g.transfers in
    let trips_aside : a.aside.trips ≡ b.aside.trips = h.trips_aside ∙ sym g.trips_aside in
    let transfers_aside : a.aside.transfers ≡ b.aside.transfers = h.transfers_aside ∙ sym g.transfers_aside in
    λ i. record {
      stops = stops i;
      routes = routes i;
      services = services i;
      trips = trips i;
      calls = calls i;
      bands = bands i;
      weeks = weeks i;
      exceptions = exceptions i;
      transfers = transfers i;
      aside = record { trips = trips_aside i; transfers = transfers_aside i };
    }
