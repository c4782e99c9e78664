-- Numbers of trips without a point.
use Rattle.std.proofs.Common.{◌≡◌, ◌*◌, ◌+◌, ℕ, List, true, false, Some, ap, arith}
use Rattle.std.specs.List.{list_any}
use Rattle.std.specs.Str.Parse.{digits_value}
use Rattle.gtfs_rows.specs.Fields.{before_point, is_number, is_point, number_in, trips_of}
use Rattle.gtfs_rows.proofs.DigitLemmas.{number_is}
use Rattle.gtfs_rows.proofs.PartLemmas.{behind-none}

pub no-point : (field front : List ℕ) (n : ℕ) → list_any is_point field ≡ false → front ≡ before_point field → Some n ≡ number_in 12 front
    → Some (record { units = n * 1000000; dropped = false }) ≡ trips_of field
no-point field front n none before number =
    let is = number_is front n 12 number in
    let good : is_number 12 (before_point field) ≡ true = rw before at is.0 in
    let value : n ≡ digits_value 10 (before_point field) = rw before at is.1 in
    let units : n * 1000000 ≡ digits_value 10 (before_point field) * 1000000 + 0 = omega arith in
    rw (good, none, behind-none is_point field none) (ap (λ (u : ℕ). Some (record { units = u; dropped = false })) units)
