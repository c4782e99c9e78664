-- One file of a feed beside those that were read before it.
use Rattle.std.specs.Prelude.{◌++◌, ℕ, List, Option, Some, None}
use Rattle.feed_reader.specs.declared.fetch_fault.FetchFault.{FetchFault}
use Rattle.feed_reader.specs.Feed.{FilesData}
use Rattle.feed_reader.specs.Fetched.{file_faults, sum_faults}
use Rattle.feed_reader.specs.Places.{bytes_in, with_file}

-- the files, with the body at a place where there is one
abbrev pub with_body : FilesData → ℕ → Option (List ℕ) → FilesData
with_body files place None = files
with_body files place (Some body) = with_file files place body

-- the limits that are passed with a body at a place
abbrev pub body_faults : ℕ → ℕ → FilesData → ℕ → Option (List ℕ) → List FetchFault
body_faults file_most files_most files place body = file_faults file_most body ++ sum_faults files_most (bytes_in (with_body files place body))
