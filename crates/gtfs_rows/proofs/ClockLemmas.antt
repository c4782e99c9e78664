-- Fields that are no times.
use Rattle.std.proofs.Common.{◌≡◌, ℕ, List, false, Some, None, refl}
use Rattle.std.specs.Prelude.{Option}
use Rattle.std.specs.List.{list_any}
use Rattle.gtfs_rows.specs.Fields.{before_colon, behind_colon, number_in, clock_of, is_colon, seconds_of, sixty_of}
use Rattle.gtfs_rows.proofs.PartLemmas.{behind-none}

no-minutes : (hours seconds : Option ℕ) → None ≡ seconds_of hours None seconds
no-minutes None seconds = refl
no-minutes (Some h) seconds = refl

no-seconds : (hours minutes : Option ℕ) → None ≡ seconds_of hours minutes None
no-seconds None minutes = refl
no-seconds (Some h) None = refl
no-seconds (Some h) (Some m) = refl

pub no-colon : (field : List ℕ) → list_any is_colon field ≡ false → None ≡ clock_of field
no-colon field none = rw (behind-none is_colon field none) (no-minutes (number_in 3 (before_colon field)) None)

pub no-second-colon : (field : List ℕ) → list_any is_colon (behind_colon field) ≡ false → None ≡ clock_of field
no-second-colon field none = rw (behind-none is_colon (behind_colon field) none) (no-seconds (number_in 3 (before_colon field)) (sixty_of (before_colon (behind_colon field))))
