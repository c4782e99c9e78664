use Rattle.std.proofs.Common.{rules, refl, ◌≡◌, ◌≢◌, ◌∙◌, [], ◌∷◌, ℕ, List, Option, None, ap, map}
use Rattle.clap.specs.Words.{Kinds, Row, fault_of, subcommand_of}
use Rattle.desk.specs.Command.{command_of, command_with, desk_app}
use Rattle.desk.proofs.known_words.command_of.Goals as goal

-- where there is a fault, there is no command
no_command : (faults : Kinds) (read : Option (List ℕ × List Row)) → faults ≢ [] → command_with faults read ≡ None
no_command [] read some = absurd (some refl)
no_command (fault ∷ faults) read some = refl

-- texts with a fault are words without a command
refused : (words texts : List (List ℕ)) → texts ≡ words → fault_of desk_app texts ≢ [] → command_of words ≡ None
refused words texts same some = rw (← same) (no_command (fault_of desk_app texts) (subcommand_of desk_app texts) some)

pub returns-in_err-matches-clause-words : goal.returns-in_err-matches-clause-words
returns-in_err-matches-clause-words c = λ gave.
    refused c.args.words.now (map (λ text. text.now) c.as_slice.result.now)
    (ap (map (λ text. text.now)) c.as_slice.ensures.value ∙ c.in_ok-texts.ensures.texts)
    (c.in_err-matches.ensures.words (search rules))
