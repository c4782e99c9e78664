-- Laws of jobs, over their definitions alone: the files of a feed make one feed, and a job has one outcome at most.
use Rattle.std.specs.Prelude.{◌≡◌, ◌++◌, ℕ, List}
use Rattle.feed_reader.specs.Feed.{FeedData, FilesData, IsFeedOf}
use Rattle.assign.specs.JobFaults.{HasUnreachedPair, IsFaultless, IsFirstOf}
use Rattle.assign.specs.Jobs.{JobData}
use Rattle.assign.specs.Printed.{BeginsPrintOf, IsPrintOf}
use Rattle.assign.specs.declared.job_fault.JobFault.{JobFault}

-- files make one feed at most
abbrev pub OneFeed : Type 0
OneFeed = (files : FilesData) (feed other : FeedData) → IsFeedOf files feed → IsFeedOf files other → feed ≡ other

-- a job prints one text at most
abbrev pub OnePrint : Type 0
OnePrint = (job : JobData) (bytes others : List ℕ) → IsPrintOf job bytes → IsPrintOf job others → bytes ≡ others

-- what begins the print of a job are its first bytes
abbrev pub PrintIsBegun : Type 0
PrintIsBegun = (job : JobData) (begun bytes : List ℕ) → BeginsPrintOf job begun → IsPrintOf job bytes → (rest : List ℕ) × (bytes ≡ begun ++ rest)

-- the print of a job begins it
abbrev pub WholeBegins : Type 0
WholeBegins = (job : JobData) (bytes : List ℕ) → IsPrintOf job bytes → BeginsPrintOf job bytes

-- a job that prints, or begins to, is faultless
abbrev pub PrintIsFaultless : Type 0
PrintIsFaultless = (job : JobData) (bytes : List ℕ) → BeginsPrintOf job bytes → IsFaultless job

-- a job has one first fault at most
abbrev pub OneFault : Type 0
OneFault = (job : JobData) (answer other : JobFault) → IsFirstOf job answer → IsFirstOf job other → answer ≡ other

-- a job has one first pair at most that does not reach
abbrev pub OneUnreachable : Type 0
OneUnreachable = (job : JobData) (origin destination from to : List ℕ) →
    HasUnreachedPair job origin destination → HasUnreachedPair job from to → (origin ≡ from) × (destination ≡ to)

-- a job is not two of these: faultless, with a first fault, with a pair that does not reach
pub record NeverBoth (job : JobData) : Type 0 where
  pub faultless_or_fault : (answer : JobFault) → IsFaultless job → ¬ IsFirstOf job answer
  pub faultless_or_unreachable : (origin destination : List ℕ) → IsFaultless job → ¬ HasUnreachedPair job origin destination
  pub fault_or_unreachable : (answer : JobFault) (origin destination : List ℕ) → IsFirstOf job answer → ¬ HasUnreachedPair job origin destination
