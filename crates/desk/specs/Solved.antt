-- What `solve` makes of a network text: the certificate with the labels, volumes and waits of its problem.
-- After Spiess and Florian 1989. Here: docs/FORMATS.md.
use Rattle.std.specs.Prelude.{◌≡◌, ℕ, ◌+◌, ◌≤◌, Bool, List, Option}
use Rattle.definitions.specs.Reach.{IsReach}
use Rattle.definitions.specs.Labels.{SolvesLabels}
use Rattle.definitions.specs.Volumes.{SolvesVolumes, AreLeastWaits, IsCarried}
use Rattle.loading.specs.Loads.{IsFirstUnreachable}
use Rattle.desk_io.specs.Told.{Appends}
use Rattle.certificate.specs.declared.refused.Refused.{Refused as RefusedText}
use Rattle.certificate.specs.Spelling.{Certificate, certificate_of, spelling}
use Rattle.certificate.specs.NetworkText.{ProblemData}
use Rattle.certificate.specs.NetworkRefusals.{HasProblem, HasNetworkRefusal}
use Rattle.certificate.specs.Valid.{verdict_of}
use Rattle.desk.specs.declared.command.Command.{Command}
use Rattle.desk.specs.Read.{Files, IsRead}

-- the labels of a problem's destination, the volumes that follow from them for its demand, all of which reaches, and their least waits
pub record IsSolution (problem : ProblemData) (labels volumes waits : List ℕ) : Type 0 where
  pub reached : List Bool
  pub reach : IsReach problem.network problem.destination reached
  pub solves_labels : SolvesLabels problem.network problem.destination reached labels
  pub carried : IsCarried problem.network problem.destination reached problem.demand
  pub solves_volumes : SolvesVolumes problem.network problem.destination reached labels problem.demand volumes
  pub least_waits : AreLeastWaits problem.network volumes waits

-- the certificate of a problem with these labels, volumes and waits
abbrev pub certificate_with : ProblemData → List ℕ → List ℕ → List ℕ → Certificate
certificate_with problem labels volumes waits = certificate_of problem.network problem.destination problem.demand labels volumes waits

-- the command's file is the text of this problem
pub record IsPosed (files : Files) (command : Option Command) (problem : ProblemData) : Type 0 where
  pub bytes : List ℕ
  pub read : IsRead files command bytes
  pub text : HasProblem bytes problem

-- the certificate is that of the problem of the command's file, with its labels, volumes and waits
pub record IsSolved (files : Files) (command : Option Command) (certificate : Certificate) : Type 0 where
  pub problem : ProblemData
  pub posed : IsPosed files command problem
  pub solution : IsSolution problem certificate.labels certificate.volumes certificate.waits
  pub is : certificate ≡ certificate_with problem certificate.labels certificate.volumes certificate.waits

-- the node is the least one with demand from which no way leads to the destination, in the problem of the command's file
pub record IsUnreachableNode (files : Files) (command : Option Command) (node : ℕ) : Type 0 where
  pub problem : ProblemData
  pub posed : IsPosed files command problem
  pub first : IsFirstUnreachable problem.network problem.destination problem.demand node

-- the command's file is no network text, and is refused so
pub record IsRefusedNetwork (files : Files) (command : Option Command) (fault : RefusedText) : Type 0 where
  pub bytes : List ℕ
  pub read : IsRead files command bytes
  pub with : HasNetworkRefusal bytes fault
  pub no_problem : (problem : ProblemData) → HasProblem bytes problem → ⊥

-- the cost of the certificate exceeds its bound by at most its slack, all as `check` prints them
abbrev pub IsWithinSlack : Certificate → Type 0
IsWithinSlack certificate = (verdict_of certificate).cost ≤ (verdict_of certificate).bound + (verdict_of certificate).slack

-- the certificate of the problem of the command's file was appended, and this holds of it
pub record PrintsCertificate (files : Files) (command : Option Command) (Holds : Certificate → Type 0) (old new : Option (List ℕ)) : Type 0 where
  pub certificate : Certificate
  pub solved : IsSolved files command certificate
  pub holds : Holds certificate
  pub appended : Appends old new (spelling certificate)
