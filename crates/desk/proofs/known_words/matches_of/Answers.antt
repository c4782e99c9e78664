use Rattle.std.proofs.Common.{ap, refl, sym, true, ◌≡◌, ◌∙◌, inl, inr, [], map}
use Rattle.clap.specs.Words.{IsAmong, Kinds, fault_of, is_simple, is_simple_and_free, subcommand_of}
use Rattle.clap.specs.declared.error.kind.ErrorKind.{ErrorKind}
use Rattle.desk.specs.Command.{desk_app}
use Rattle.desk.proofs.known_words.matches_of.Goals as goal

-- the stated words of `clap` tell each fault of the program, and each value
desk_free : is_simple_and_free desk_app ≡ true
desk_free = refl

desk_simple : is_simple desk_app ≡ true
desk_simple = refl

-- no kind is among none
among_none : (kind : ErrorKind) (kinds : Kinds) → kinds ≡ [] → IsAmong kind kinds → ⊥
among_none kind kinds none among = rw none at among

pub returns-in-Ok-clause-taken : goal.returns-in-Ok-clause-taken
returns-in-Ok-clause-taken c =
    ap (λ app. fault_of app (map (λ word. word.now) c.args.words.now)) (sym c.in_ok-desk.ensures.app)
    ∙ c.in-Ok.ensures.kinds (ap is_simple_and_free c.in_ok-desk.ensures.app ∙ desk_free)

pub returns-in-Ok-clause-matches : goal.returns-in-Ok-clause-matches
returns-in-Ok-clause-matches c =
    (c.in-Ok.ensures.matches (ap is_simple c.in_ok-desk.ensures.app ∙ desk_simple)).1
    ∙ ap (λ app. subcommand_of app (map (λ word. word.now) c.args.words.now)) c.in_ok-desk.ensures.app

pub returns-clause-words : goal.returns-clause-words
returns-clause-words c = λ _ none. elim (c.in-Err.ensures.kinds (ap is_simple_and_free c.in_ok-desk.ensures.app ∙ desk_free)) [
  | inl oom ↦ absurd (c.in_default.not-OutOfMemory (c.kind.ensures ∙ oom))
  | inr among ↦ among_none _ _ (ap (λ app. fault_of app (map (λ word. word.now) c.args.words.now)) c.in_ok-desk.ensures.app ∙ none) among
]
