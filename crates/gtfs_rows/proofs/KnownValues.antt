-- Values of the definitions that were worked out by hand.
use Rattle.std.proofs.Common.{◌≡◌, Some, None, refl, true, false, pos}
use Rattle.std.specs.Prelude.{codes}
use Rattle.gtfs_rows.specs.Fields.{clock_of, date_of, trips_of, whole_of}

whole-zeros : whole_of (codes "007") ≡ Some 7
whole-zeros = refl

whole-long : whole_of (codes "1234567890123456789") ≡ None
whole-long = refl

clock-early : clock_of (codes "6:05:09") ≡ Some 21909
clock-early = refl

clock-midnight : clock_of (codes "24:00:00") ≡ Some 86400
clock-midnight = refl

clock-sixty : clock_of (codes "06:60:00") ≡ None
clock-sixty = refl

clock-without-seconds : clock_of (codes "06:05") ≡ None
clock-without-seconds = refl

date-leap : date_of (codes "20240229") ≡ Some (pos 2024, 2, 29)
date-leap = refl

date-none : date_of (codes "20250229") ≡ None
date-none = refl

date-year-0 : date_of (codes "00000101") ≡ None
date-year-0 = refl

trips-whole : trips_of (codes "12") ≡ Some (record { units = 12000000; dropped = false })
trips-whole = refl

trips-seventh : trips_of (codes "0.0000105") ≡ Some (record { units = 10; dropped = true })
trips-seventh = refl

trips-seventh-0 : trips_of (codes "0.0000100") ≡ Some (record { units = 10; dropped = false })
trips-seventh-0 = refl

trips-no-front : trips_of (codes ".5") ≡ None
trips-no-front = refl

trips-no-digits : trips_of (codes "12.") ≡ None
trips-no-digits = refl

trips-two-points : trips_of (codes "1.2.3") ≡ None
trips-two-points = refl
