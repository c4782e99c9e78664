-- What stops the lines of a problem.
use Rattle.std.proofs.Common.{◌≡◌, List, ℕ, ◌++◌, Result, Ok, Err, IfErr, refl, ◌⊎◌, inl, inr}
use Rattle.std.specs.Prelude.{◌≢◌}
use Rattle.certificate.specs.declared.fault.Fault.{Fault}
use Rattle.certificate.specs.declared.fault.Fault.TheVariants as fault
use Rattle.certificate.specs.Bytes.{Gives}
use Rattle.certificate.specs.Draft.{DraftData, text_so_far}
use Rattle.certificate.specs.NextLine.{line_at}
use Rattle.certificate.specs.Kept.{IsKept}
use Rattle.certificate.specs.ProblemDraft.{IsUnclaimed, HasDemandLeft, StopsInProblem}

pub line_stops : {X : Type 0} (view : X → List ℕ) (r : Result X Fault) (d : DraftData) (bytes : List ℕ) → IsKept d → IsUnclaimed d → HasDemandLeft d → (r ≢ Err fault.NoMemory → Gives view r (line_at d bytes)) →
    IfErr r (λ f. (f ≡ fault.NoMemory) ⊎ StopsInProblem (text_so_far d ++ bytes) f)
line_stops view (Ok x) d bytes kept unclaimed left read = tt
line_stops view (Err fault.NoMemory) d bytes kept unclaimed left read = inl refl
line_stops view (Err (fault.Stop n)) d bytes kept unclaimed left read = inr (record { draft = d; kept = kept; unclaimed = unclaimed; left = left; rest = bytes; text = refl; stops = read (λ e. cc) })
line_stops view (Err (fault.Range l n)) d bytes kept unclaimed left read = inr (record { draft = d; kept = kept; unclaimed = unclaimed; left = left; rest = bytes; text = refl; stops = read (λ e. cc) })
line_stops view (Err (fault.Arc g)) d bytes kept unclaimed left read = inr (record { draft = d; kept = kept; unclaimed = unclaimed; left = left; rest = bytes; text = refl; stops = read (λ e. cc) })
