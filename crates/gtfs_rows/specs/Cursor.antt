-- What a reader of records has left.
use Rattle.std.specs.Prelude.{◌≡◌, ◌+◌, ℕ, List, length, Option, Some, unwrap_or, []}
use Rattle.std.specs.Borrow.{Bor}
use Rattle.std.specs.List.{AllByRecursion}
use Rattle.csv.specs.Reading.{Ready, default_config, records_from, source_of}
use Rattle.csv.specs.Records.{AllText}
use Rattle.csv.specs.declared.parser.State.{State}
use Rattle.csv.specs.declared.reader.Reader.{Reader}
use Rattle.csv.specs.declared.reader.Trim.TheVariants as trim

-- each field of each record is text
abbrev pub AllTexts : List (List (List ℕ)) → Type 0
AllTexts records = AllByRecursion AllText records

-- the records of a text from a state on
unfoldable pub rest_of : State → List ℕ → List (List (List ℕ))
rest_of state bytes = records_from default_config (length bytes + 2) state bytes

-- the bytes that a reader has left
abbrev pub unread : Reader (Bor (List ℕ)) → Option (List ℕ)
unread reader = source_of (λ slice. Some slice.now) reader

-- the records that a reader has left
abbrev pub left_of : Reader (Bor (List ℕ)) → List (List (List ℕ))
left_of reader = rest_of reader.state (unwrap_or (unread reader) [])

-- a reader that reads with the crate's defaults and has not failed
pub record IsReading (reader : Reader (Bor (List ℕ))) : Type 0 where
  pub trim : reader.trim ≡ trim.None
  pub ready : Ready reader
  pub config : reader.config ≡ default_config
  pub known : (bytes : List ℕ) × (unread reader ≡ Some bytes)
