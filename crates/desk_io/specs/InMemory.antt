-- What the objects in memory show to contracts.
use Rattle.std.specs.Prelude.{ℕ, ◌+◌, ◌-◌, ◌==◌, ◌||◌, ◌&&◌, min, not, List, length, Bool, true, false, if◌then◌else◌, Option, None, Some}
use Rattle.std.specs.List.{list_any}
use Rattle.definitions.specs.Causes.{last_count}
use Rattle.desk_io.specs.declared.outside.Begin.{Begin}
use Rattle.desk_io.specs.declared.outside.Begin.TheVariants as begin

-- the calls made so far, how many of them failed, and the numbers of those to fail, counted from 0
pub record Calls : Type 0 where
  pub made : ℕ
  pub faults : ℕ
  pub failing : List ℕ

-- no call was made yet
abbrev pub no_calls : List ℕ → Calls
no_calls failing = record { made = 0; faults = 0; failing = failing }

-- a count raised by one, which stays at its last value
abbrev pub raised_count : ℕ → ℕ
raised_count count = min (count + 1) last_count

-- whether the next call is one that is to fail
abbrev pub next_fails : Calls → Bool
next_fails calls = list_any (λ number. number == calls.made) calls.failing

-- the calls after one more, which failed or not
abbrev pub with_call : Calls → Bool → Calls
with_call calls failed = record {
  made = raised_count calls.made;
  faults = if failed then raised_count calls.faults else calls.faults;
  failing = calls.failing;
}

-- a source: the bytes left, and how many of them one call gives at most
pub record SourceState : Type 0 where
  pub left : List ℕ
  pub step : ℕ
  pub calls : Calls

-- a sink: the bytes written, how many it takes in all, and how many in one call at most
pub record SinkState : Type 0 where
  pub written : List ℕ
  pub room : ℕ
  pub step : ℕ
  pub calls : Calls

-- a folder: its files as pairs of a path and bytes, and the source of the file that was begun, without bytes where none was
pub record FolderState : Type 0 where
  pub files : List (List ℕ × List ℕ)
  pub left : List ℕ
  pub step : ℕ
  pub calls : Calls

-- how many bytes the sink takes from now on
abbrev pub room_left : SinkState → ℕ
room_left sink = sink.room - length sink.written

-- whether a write of the piece fails: it is to fail, or the piece finds no room
abbrev pub write_fails : SinkState → List ℕ → Bool
write_fails sink piece = next_fails sink.calls || ((room_left sink == 0) && not (length piece == 0))

-- what becomes of a begin, by whether it fails and the file that it finds
abbrev pub begin_of : Bool → Option (List ℕ) → Begin
begin_of true file = begin.Failed
begin_of false (Some bytes) = begin.Found
begin_of false None = begin.Missing
