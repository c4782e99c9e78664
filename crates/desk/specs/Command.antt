-- The command that the words of the program give, as `clap` reads them: one level of commands, whose
-- options take one value each. Here: docs/FORMATS.md.
use Rattle.std.specs.Prelude.{◌≡◌, ◌&&◌, ℕ, Bool, true, false, List, [], ◌∷◌, Option, None, Some, codes, is_none, is_some, nat_le, option_map, option_and_then, if◌then◌else◌}
use Rattle.std.specs.Str.{bytes_eq}
use Rattle.clap.specs.Words.{App, Kinds, Row, fault_of, first_of, new_app, new_rule, subcommand_of, with_rule, with_subcommand}
use Rattle.gtfs_rows.specs.Fields.{whole_of}
use Rattle.assign.specs.declared.print.Print.{Print}
use Rattle.assign.specs.declared.print.Print.TheVariants as print
use Rattle.desk.specs.declared.command.AssignWords.{AssignWords}
use Rattle.desk.specs.declared.command.Command.{Command}
use Rattle.desk.specs.declared.command.Command.TheVariants.{Assign, Check, Solve, Gen}
use Rattle.desk.specs.declared.gen_words.GenWords.{GenWords}
use Rattle.desk.specs.Generable.{IsGenerable}

-- ---- the program

-- a command with one more word in its place
abbrev pub with_place : App → List ℕ → App
with_place app name = with_rule app (record (new_rule name) { required = true })

-- a command with one more option, which takes one value
abbrev pub with_option : App → List ℕ → Bool → App
with_option app name required = with_rule app (record (new_rule name) { long = Some name; required = required })

-- `NAME FILE`
abbrev pub file_app : List ℕ → App
file_app name = with_place (new_app name) (codes "file")

-- `gen SEED STOPS LINES ZONES`
abbrev pub gen_app : App
gen_app = with_place (with_place (with_place (with_place (new_app (codes "gen"))
    (codes "seed")) (codes "stops")) (codes "lines")) (codes "zones")

-- `assign FOLDER --date D --from T --to T`
abbrev pub period_app : App
period_app = with_option (with_option (with_option (with_place (new_app (codes "assign")) (codes "folder"))
    (codes "date") true) (codes "from") true) (codes "to") true

-- .. `--zones PATH --demand PATH [--walks PATH] [--scenario PATH]`
abbrev pub tables_app : App
tables_app = with_option (with_option (with_option (with_option period_app
    (codes "zones") true) (codes "demand") true) (codes "walks") false) (codes "scenario") false

-- .. `[--print P] [--to-zone ID]`
abbrev pub assign_app : App
assign_app = with_option (with_option tables_app (codes "print") false) (codes "to-zone") false

-- the program, which wants a command, and whose words are without its own name
abbrev pub bare_app : App
bare_app = record (new_app (codes "desk")) { top = record (new_app (codes "desk")).top { no_binary_name = true; subcommand_required = true } }

-- the program with the commands that assign a demand
abbrev pub assigning_app : App
assigning_app = with_subcommand (with_subcommand bare_app assign_app.top) gen_app.top

-- the program with its commands
abbrev pub desk_app : App
desk_app = with_subcommand (with_subcommand assigning_app (file_app (codes "check")).top) (file_app (codes "solve")).top

-- ---- what `assign` prints

-- what a word of `--print` asks for
abbrev pub print_named : List ℕ → Option Print
print_named word = if bytes_eq word (codes "summary") then Some print.Summary
    else if bytes_eq word (codes "lines") then Some print.Lines
    else if bytes_eq word (codes "stops") then Some print.Stops
    else if bytes_eq word (codes "segments") then Some print.Segments
    else if bytes_eq word (codes "skims") then Some print.Skims
    else if bytes_eq word (codes "certificate") then Some print.Certificate
    else None

-- what is printed: without a word of `--print` the summary
abbrev pub print_of : Option (List ℕ) → Option Print
print_of None = Some print.Summary
print_of (Some word) = print_named word

-- whether a zone may be asked for, or not: the certificate needs one, the skims may have one, and the others have none
abbrev pub agrees : Print → Option (List ℕ) → Bool
agrees print.Summary asked = is_none asked
agrees print.Lines asked = is_none asked
agrees print.Stops asked = is_none asked
agrees print.Segments asked = is_none asked
agrees print.Skims asked = true
agrees print.Certificate asked = is_some asked
agrees print.All asked = is_none asked

-- what is printed and the zone that is asked for, where they agree
abbrev pub printing_with : Option Print → Option (List ℕ) → Option (Print × Option (List ℕ))
printing_with None asked = None
printing_with (Some printed) asked = if agrees printed asked then Some (printed, asked) else None

-- what is printed and the zone that is asked for, of what was read
abbrev pub printing_in : List Row → Option (Print × Option (List ℕ))
printing_in rows = printing_with (print_of (first_of (codes "print") rows)) (first_of (codes "to-zone") rows)

-- ---- the values of the commands

-- the values of `assign` of what is printed with a zone, of a folder, a date, two times and two paths, and of the paths of walks and of a scenario
abbrev pub assign_with : Option (Print × Option (List ℕ)) → Option (List ℕ) → Option (List ℕ) → Option (List ℕ) → Option (List ℕ) → Option (List ℕ)
    → Option (List ℕ) → Option (List ℕ) → Option (List ℕ) → Option AssignWords
assign_with (Some printing) (Some folder) (Some date) (Some from) (Some to) (Some zones) (Some demand) walks scenario = Some (record {
  folder = folder;
  date = date;
  from = from;
  to = to;
  zones = zones;
  demand = demand;
  walks = walks;
  scenario = scenario;
  print = printing.0;
  to_zone = printing.1;
})
assign_with printing folder date from to zones demand walks scenario = None

-- the values of `assign` of what was read
abbrev pub assign_in : List Row → Option AssignWords
assign_in rows = assign_with (printing_in rows)
    (first_of (codes "folder") rows) (first_of (codes "date") rows) (first_of (codes "from") rows) (first_of (codes "to") rows)
    (first_of (codes "zones") rows) (first_of (codes "demand") rows) (first_of (codes "walks") rows) (first_of (codes "scenario") rows)

-- the number of a word, from the first to the second of two numbers
abbrev pub size_of : ℕ → ℕ → Option ℕ → Option ℕ
size_of least most None = None
size_of least most (Some number) = if nat_le least number && nat_le number most then Some number else None

-- the number of a word that was read
abbrev pub number_in : List ℕ → List Row → Option ℕ
number_in name rows = option_and_then whole_of (first_of name rows)

-- the values of `gen` of a seed and three sizes
abbrev pub gen_with : Option ℕ → Option ℕ → Option ℕ → Option ℕ → Option GenWords
gen_with (Some seed) (Some stops) (Some lines) (Some zones) = Some (record { seed = seed; stops = stops; lines = lines; zones = zones })
gen_with seed stops lines zones = None

-- the values of `gen` of what was read
abbrev pub gen_in : List Row → Option GenWords
gen_in rows = gen_with (number_in (codes "seed") rows)
    (size_of 8 5000 (number_in (codes "stops") rows))
    (size_of 2 500 (number_in (codes "lines") rows))
    (size_of 2 1000 (number_in (codes "zones") rows))

-- ---- the command

-- the command of a name and of what was read behind it
abbrev pub command_in : List ℕ → List Row → Option Command
command_in name rows = if bytes_eq name (codes "assign") then option_map Assign (assign_in rows)
    else if bytes_eq name (codes "check") then option_map Check (first_of (codes "file") rows)
    else if bytes_eq name (codes "solve") then option_map Solve (first_of (codes "file") rows)
    else if bytes_eq name (codes "gen") then option_map Gen (gen_in rows)
    else None

-- the command that was read, where no fault was found
abbrev pub command_with : Kinds → Option (List ℕ × List Row) → Option Command
command_with [] read = option_and_then (λ pair. command_in pair.0 pair.1) read
command_with (fault ∷ faults) read = None

-- the command of the words, None where they are refused
abbrev pub command_of : List (List ℕ) → Option Command
command_of words = command_with (fault_of desk_app words) (subcommand_of desk_app words)

-- the values of a command agree: what is printed and the zone of it, and the sizes of a city with their limits
abbrev pub ValuesAgree : Command → Type 0
ValuesAgree (Assign words) = agrees words.print words.to_zone ≡ true
ValuesAgree (Check path) = Unit {0}
ValuesAgree (Solve path) = Unit {0}
ValuesAgree (Gen words) = IsGenerable words

-- the path of the file that `check` or `solve` reads
abbrev pub file_of : Option Command → Option (List ℕ)
file_of None = None
file_of (Some (Check path)) = Some path
file_of (Some (Solve path)) = Some path
file_of (Some (Assign words)) = None
file_of (Some (Gen words)) = None
