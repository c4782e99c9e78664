-- Each kind of line is read exactly.
use Rattle.std.proofs.Common.{◌≡◌, ℕ, List, [], ◌∷◌, ◌++◌, length, Result, Ok, Err, refl, sym, ap, ◌∙◌, append_assoc, arith}
use Rattle.std.specs.Prelude.{codes}
use Rattle.std.specs.Fmt.{decimal}
use Rattle.std.proofs.lemmas.Fmt.{decimal_digit}
use Rattle.std.proofs.lemmas.List.{append-nil}
use Rattle.definitions.specs.Decimal.{line_end, number_line}
use Rattle.certificate.specs.declared.fault.Fault.{Fault}
use Rattle.certificate.specs.declared.fault.Fault.TheVariants as fault
use Rattle.certificate.specs.Bytes.{◌>>=◌, byte_at, literal_at, number_at}
use Rattle.certificate.specs.Lines.{word_at}
use Rattle.certificate.specs.Spelling.{title, last_line}
use Rattle.certificate.specs.NetworkText.{network_title}
use Rattle.certificate.specs.Grammar.{Line, line_text, Kind, IsShort, HasNumber, IsOf}
use Rattle.certificate.proofs.Exact.{IsExact, same_text, value_exact, after_byte, after_literal}
use Rattle.certificate.proofs.ExactNext.{next_exact}
use Rattle.certificate.proofs.ExactNumbers.{number_exact}
use Rattle.certificate.proofs.ExactArcs.{arc_shape, arc_shape_exact}

-- ---- lines of a word and a number

pub word_exact : (word : List ℕ) → IsExact (word_at word) (number_line word) IsShort
unfolding word_at
word_exact word =
    same_text (word_at word) (λ n. word ++ 32 ∷ (decimal n ++ 10 ∷ [])) (number_line word) IsShort (λ n short. regroup word (32 ∷ []) (decimal n) (10 ∷ []))
    (after_literal word (λ b. byte_at 32 b >>= number_at 10) (λ n. 32 ∷ (decimal n ++ 10 ∷ [])) IsShort
    (after_byte 32 (number_at 10) (λ n. decimal n ++ 10 ∷ []) IsShort (number_exact 10 refl)))
  where
    regroup : (a b c d : List ℕ) → a ++ (b ++ (c ++ d)) ≡ ((a ++ b) ++ c) ++ d
    regroup a b c d = simp append_assoc

-- a line of a number
abbrev pub number_shape : (ℕ → Line) → List ℕ → List ℕ → Result (Line × List ℕ) Fault
number_shape make word bytes = word_at word bytes >>= λ p. Ok (make p.0, p.1)

number_shape_exact : (make : ℕ → Line) (word : List ℕ) → ((n : ℕ) → line_text (make n) ≡ number_line word n) → IsExact (number_shape make word) line_text (HasNumber make)
number_shape_exact make word texts =
    next_exact (word_at word) (number_line word) IsShort (λ n bytes. Ok (make n, bytes)) (λ n y. []) (λ n y. y ≡ make n) line_text (HasNumber make)
    (record {
      makes = λ n y short same. (append-nil (number_line word n) ∙ sym (texts n) ∙ ap line_text (sym same), record { number = n; short = short; is = same });
      made = λ y h. (h.number, h.short, h.is);
    })
    (word_exact word) (λ n short. value_exact (make n))

-- ---- lines without a number

-- a line that has just one text
abbrev pub literal_shape : Line → List ℕ → List ℕ → Result (Line × List ℕ) Fault
literal_shape line text bytes = literal_at text bytes >>= λ rest. Ok (line, rest)

literal_shape_exact : (line : Line) (text : List ℕ) → text ≡ line_text line → IsExact (literal_shape line text) line_text (λ y. y ≡ line)
literal_shape_exact line text texts =
    same_text (literal_shape line text) (λ y. text ++ []) line_text (λ y. y ≡ line) (λ y same. append-nil text ∙ texts ∙ ap line_text (sym same))
    (after_literal text (λ rest. Ok (line, rest)) (λ y. []) (λ y. y ≡ line) (value_exact line))

-- ---- all kinds

-- the reading of a line of a kind, whatever its numbers
abbrev pub shape_at : Kind → List ℕ → Result (Line × List ℕ) Fault
shape_at Kind.Title = literal_shape Line.Title title
shape_at Kind.NetworkTitle = literal_shape Line.NetworkTitle network_title
shape_at Kind.Nodes = number_shape Line.Nodes (codes "nodes")
shape_at Kind.Arcs = number_shape Line.Arcs (codes "arcs")
shape_at Kind.K = number_shape Line.K (codes "k")
shape_at Kind.Destination = number_shape Line.Destination (codes "destination")
shape_at Kind.Arc = arc_shape
shape_at Kind.Demand = number_shape Line.Demand (codes "g")
shape_at Kind.NoDemand = literal_shape (Line.Demand 0) (codes "g 0" ++ line_end)
shape_at Kind.Label = number_shape Line.Label (codes "u")
shape_at Kind.Volume = number_shape Line.Volume (codes "v")
shape_at Kind.Wait = number_shape Line.Wait (codes "q")
shape_at Kind.End = literal_shape Line.End last_line
shape_at Kind.Nothing = λ bytes. Err (fault.Stop (length bytes))

pub shape_exact : (kind : Kind) → (kind ≡ Kind.Nothing → ⊥) → IsExact (shape_at kind) line_text (IsOf kind)
shape_exact Kind.Title some = literal_shape_exact Line.Title title refl
shape_exact Kind.NetworkTitle some = literal_shape_exact Line.NetworkTitle network_title refl
shape_exact Kind.Nodes some = number_shape_exact Line.Nodes (codes "nodes") (λ n. refl)
shape_exact Kind.Arcs some = number_shape_exact Line.Arcs (codes "arcs") (λ n. refl)
shape_exact Kind.K some = number_shape_exact Line.K (codes "k") (λ n. refl)
shape_exact Kind.Destination some = number_shape_exact Line.Destination (codes "destination") (λ n. refl)
shape_exact Kind.Arc some = arc_shape_exact
shape_exact Kind.Demand some = number_shape_exact Line.Demand (codes "g") (λ n. refl)
shape_exact Kind.NoDemand some =
    literal_shape_exact (Line.Demand 0) (codes "g 0" ++ line_end)
    (let zero_is : decimal 0 ≡ 48 ∷ [] = decimal_digit 0 (omega arith) in ap (λ ds. codes "g" ++ codes " " ++ ds ++ line_end) (sym zero_is))
shape_exact Kind.Label some = number_shape_exact Line.Label (codes "u") (λ n. refl)
shape_exact Kind.Volume some = number_shape_exact Line.Volume (codes "v") (λ n. refl)
shape_exact Kind.Wait some = number_shape_exact Line.Wait (codes "q") (λ n. refl)
shape_exact Kind.End some = literal_shape_exact Line.End last_line refl
shape_exact Kind.Nothing some = absurd (some refl)
