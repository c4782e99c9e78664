-- Values of the definitions that were worked out by hand.
use Rattle.std.proofs.Common.{◌≡◌, ℕ, [], ◌∷◌, Bool, true, false, refl, pos}
use Rattle.std.specs.Prelude.{codes}
use Rattle.jiff_core.specs.Calendar.{days_from_civil, day_count, days_of_years, days_of_months, weekday_number}
use Rattle.gtfs_rows.specs.declared.timetable.Band.{Band}
use Rattle.service_period.specs.declared.bad_period.BadPeriod.TheVariants as bad
use Rattle.service_period.specs.Periods.{PeriodData, is_window, period_faults}
use Rattle.service_period.specs.Services.{day_number, has_weekday, is_day_within}
use Rattle.service_period.specs.Weights.{band_weight_of, departures, shared_seconds, trip_weight_of}

no-fault : period_faults (codes "20250602") (codes "07:00:00") (codes "08:00:00") ≡ []
no-fault = refl

both-faults : period_faults (codes "20250229") (codes "08:00:00") (codes "07:00:00") ≡ bad.Date ∷ bad.Window ∷ []
both-faults = refl

-- two days and no second more, and also past midnight
two-days : is_window 0 172800 ≡ true
two-days = refl

too-long : is_window 0 172801 ≡ false
too-long = refl

empty-window : is_window 25200 25200 ≡ false
empty-window = refl

-- a window of ten seconds, from 10 to 19
ten : PeriodData
ten = record { date = (pos 2025, 6, 2); from = 10; to = 20 }

-- a band of a trip
every : ℕ → Bool → ℕ → ℕ → Band
every headway exact begins ends = record { trip = 0; begins = begins; ends = ends; headway = headway; exact = exact }

trip-edges : (trip_weight_of ten 9 ≡ 0) × (trip_weight_of ten 10 ≡ 1000) × (trip_weight_of ten 19 ≡ 1000) × (trip_weight_of ten 20 ≡ 0)
unfolding ten
trip-edges = (refl, refl, refl, refl)

-- ten seconds by three, and the departures at 10, 13, 16 and 19
whole-window : (band_weight_of ten (every 3 false 10 20) ≡ 3333) × (band_weight_of ten (every 3 true 10 20) ≡ 4000)
unfolding ten every shared_seconds departures
whole-window = (refl, refl)

-- the seconds 10 to 14, and of the departures at 5, 7, 9, 11 and 13 two
front-of-window : (band_weight_of ten (every 2 false 5 15) ≡ 2500) × (band_weight_of ten (every 2 true 5 15) ≡ 2000)
unfolding ten every shared_seconds departures
front-of-window = (refl, refl)

-- a band that ends as the window begins
before-window : (band_weight_of ten (every 1 false 0 10) ≡ 0) × (band_weight_of ten (every 1 true 0 10) ≡ 0)
unfolding ten every shared_seconds departures
before-window = (refl, refl)

-- a headway longer than the band: a part of a departure, or the one at its beginning
long-headway : (band_weight_of ten (every 40 false 12 16) ≡ 100) × (band_weight_of ten (every 40 true 12 16) ≡ 1000)
unfolding ten every shared_seconds departures
long-headway = (refl, refl)

-- 2 June 2025 is a Monday, and 7 June a Saturday
monday : (day_number (pos 2025, 6, 2) ≡ pos 20241) × (weekday_number (pos 20241) ≡ 0)
unfolding days_from_civil day_count days_of_years days_of_months weekday_number
monday = (refl, refl)

saturday : (day_number (pos 2025, 6, 7) ≡ pos 20246) × (weekday_number (pos 20246) ≡ 5)
unfolding days_from_civil day_count days_of_years days_of_months weekday_number
saturday = (refl, refl)

-- Monday to Friday are 1 + 2 + 4 + 8 + 16
workdays : (has_weekday 31 0 ≡ true) × (has_weekday 31 4 ≡ true) × (has_weekday 31 5 ≡ false) × (has_weekday 31 6 ≡ false)
workdays = (refl, refl, refl, refl)

-- both ends of a week are days of it, and the days beside them are not
week-ends : (is_day_within (pos 20241) (pos 20243) 127 (pos 20240) ≡ false) × (is_day_within (pos 20241) (pos 20243) 127 (pos 20241) ≡ true)
    × (is_day_within (pos 20241) (pos 20243) 127 (pos 20243) ≡ true) × (is_day_within (pos 20241) (pos 20243) 127 (pos 20244) ≡ false)
unfolding weekday_number
week-ends = (refl, refl, refl, refl)
