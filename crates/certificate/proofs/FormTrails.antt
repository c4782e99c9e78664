-- Lines that may follow one another, whatever their numbers, and the line that comes next in a text of the form.
use Rattle.std.proofs.Common.{◌≡◌, ℕ, List, [], ◌∷◌, ◌++◌, length, length-append, refl, sym, ap, subst, ◌∙◌, append_assoc, arith, ◌⊎◌, inl, inr}
use Rattle.std.specs.Prelude.{map}
use Rattle.std.specs.List.{flat_map}
use Rattle.std.proofs.lemmas.List.{append-nil}
use Rattle.certificate.specs.declared.stage.Stage.TheVariants as stage
use Rattle.certificate.specs.GoodLines.{step}
use Rattle.certificate.specs.Draft.{DraftData}
use Rattle.certificate.specs.Grammar.{Line, line_text, kind_at, IsOf, IsNext}
use Rattle.certificate.specs.LineFaults.{IsWithinLine, BeginsNoLine}
use Rattle.certificate.proofs.Readers.{done, ok_is}
use Rattle.certificate.proofs.ExactLines.{shape_at, shape_exact}
use Rattle.certificate.proofs.LineStops.{some_kind}

-- ---- lines that follow one another

-- from one draft to another, each line may come next
abbrev pub Goes : DraftData → List Line → DraftData → Type 0
Goes d [] e = d ≡ e
Goes d (line ∷ lines) e = IsNext d line × Goes (step d line) lines e

pub go_on : (a b c : DraftData) (ls ms : List Line) → Goes a ls b → Goes b ms c → Goes a (ls ++ ms) c
go_on a b c [] ms r s = subst (λ d. Goes d ms c) (sym r) s
go_on a b c (l ∷ ls) ms r s = (r.0, go_on (step a l) b c ls ms r.1 s)

-- a line that may come next makes another draft
pub record Leads (d : DraftData) (line : Line) (e : DraftData) : Type 0 where
  pub next : IsNext d line
  pub is : step d line ≡ e

-- rows of one kind
pub go_rows : {A : Type 0} (make : A → Line) (set : List A → DraftData) (before todo : List A) →
    ((so_far : List A) (x : A) (others : List A) → before ++ todo ≡ so_far ++ x ∷ others → Leads (set so_far) (make x) (set (so_far ++ x ∷ []))) →
    Goes (set before) (map make todo) (set (before ++ todo))
go_rows make set before [] h = ap set (sym (append-nil before))
go_rows make set before (x ∷ todo) h =
    let f = h before x todo refl in
    let whole = append_assoc before (x ∷ []) todo in
    let rest = go_rows make set (before ++ x ∷ []) todo (λ so_far y others e. h so_far y others (sym whole ∙ e)) in
    let on : Goes (set (before ++ x ∷ [])) (map make todo) (set (before ++ x ∷ todo)) = subst (λ xs. Goes (set (before ++ x ∷ [])) (map make todo) (set xs)) whole rest in
    (f.next, subst (λ d. Goes d (map make todo) (set (before ++ x ∷ todo))) (sym f.is) on)

-- ---- the line that comes next

-- the first of the lines is known from the bytes
record SameLine (l m : Line) (r s : List ℕ) : Type 0 where
  line : l ≡ m
  rest : r ≡ s

pub none_after_end : (d : DraftData) (l : Line) → d.stage ≡ stage.Done → IsNext d l → ⊥
none_after_end d l last next = subst (λ t. IsOf (kind_at t d) l) last next

first_line : (d : DraftData) (l m : Line) (r s : List ℕ) → IsNext d l → IsNext d m → line_text l ++ r ≡ line_text m ++ s → SameLine l m r s
first_line d l m r s nl nm e = elim (some_kind d.stage d) [
  | inl last ↦ absurd (none_after_end d l last nl)
  | inr some ↦ (
      let exact = shape_exact (kind_at d.stage d) some in
      let both : done {A = Line × List ℕ} (l, r) ≡ done (m, s) = sym (exact.again l r nl) ∙ ap (shape_at (kind_at d.stage d)) e ∙ exact.again m s nm in
      let same = ok_is {A = Line × List ℕ} (l, r) (m, s) both in
      record { line = ap (λ (p : Line × List ℕ). p.0) same; rest = ap (λ (p : Line × List ℕ). p.1) same })
]

-- the bytes go on with a line that may come next
pub record Continues (d : DraftData) (rest : List ℕ) : Type 0 where
  pub line : Line
  pub next : IsNext d line
  pub more : List ℕ
  pub bytes : rest ≡ line_text line ++ more

-- where lines begin those up to the last, one comes next, or nothing
pub continues : (a d e : DraftData) (ls ms : List Line) (rest : List ℕ) → Goes a ls d → Goes a ms e → e.stage ≡ stage.Done → flat_map line_text ls ++ rest ≡ flat_map line_text ms → Continues d rest ⊎ (rest ≡ [])
continues a d e [] [] rest r s last text = inr text
continues a d e [] (m ∷ ms) rest r s last text = inl (record { line = m; next = subst (λ x. IsNext x m) r s.0; more = flat_map line_text ms; bytes = text })
continues a d e (l ∷ ls) [] rest r s last text = absurd (none_after_end a l (ap (λ (x : DraftData). x.stage) s ∙ last) r.0)
continues a d e (l ∷ ls) (m ∷ ms) rest r s last text =
    let same = first_line a l m (flat_map line_text ls ++ rest) (flat_map line_text ms) r.0 s.0 (sym (append_assoc (line_text l) (flat_map line_text ls) rest) ∙ text) in
    let other : Goes (step a l) ms e = subst (λ line. Goes (step a line) ms e) (sym same.line) s.1 in
    continues (step a l) d e ls ms rest r.1 other last same.rest

-- ---- a byte with which no line begins

-- the second of two lists begins with the first, and what is left after each
pub record IsLonger (a c b d : List ℕ) : Type 0 where
  pub more : List ℕ
  pub front : c ≡ a ++ more
  pub rest : b ≡ more ++ d

-- of two fronts of a list one begins with the other
pub parted : (a b c d : List ℕ) → a ++ b ≡ c ++ d → IsLonger a c b d ⊎ IsLonger c a d b
parted [] b c d e = inl (record { more = c; front = refl; rest = e })
parted (x ∷ a) b [] d e = inr (record { more = x ∷ a; front = refl; rest = sym e })
parted (x ∷ a) b (y ∷ c) d e =
    let head : x ≡ y = cc in
    let tail : a ++ b ≡ c ++ d = cc in
    elim (parted a b c d tail) [
      | inl l ↦ inl (record { more = l.more; front = ap (λ z. z ∷ c) (sym head) ∙ ap (λ t. x ∷ t) l.front; rest = l.rest })
      | inr l ↦ inr (record { more = l.more; front = ap (λ z. z ∷ a) head ∙ ap (λ t. y ∷ t) l.front; rest = l.rest })
    ]

-- a proper front of a line does not go past a line
past : (d : DraftData) (line : Line) (before z : List ℕ) → IsNext d line → IsWithinLine (kind_at d.stage d) before → before ≡ line_text line ++ z → ⊥
past d line before z next within e =
    let whole : line_text line ++ (z ++ within.rest) ≡ line_text within.line ++ [] = sym (append_assoc (line_text line) z within.rest) ∙ ap (λ t. t ++ within.rest) (sym e) ∙ within.text ∙ sym (append-nil (line_text within.line)) in
    let same = first_line d line within.line (z ++ within.rest) [] next within.next whole in
    let none : length (z ++ within.rest) ≡ 0 = ap length same.rest in
    let long = length-append z within.rest in
    let more = within.more in
    omega arith

-- so where the bytes go on with a line, each byte more than those within it begins a line
pub wrong_byte : (d : DraftData) (before : List ℕ) (byte : ℕ) (after : List ℕ) → Continues d (before ++ byte ∷ after) → IsWithinLine (kind_at d.stage d) before → BeginsNoLine (kind_at d.stage d) (before ++ byte ∷ []) → ⊥
wrong_byte d before byte after c within none = elim (parted before (byte ∷ after) (line_text c.line) c.more c.bytes) [
  | inl l ↦ longer l.more l.front l.rest
  | inr l ↦ past d c.line before l.more c.next within l.front
]
  where
    longer : (z : List ℕ) → line_text c.line ≡ before ++ z → byte ∷ after ≡ z ++ c.more → ⊥
    longer [] front rest = past d c.line before [] c.next within (sym (append-nil before) ∙ sym front ∙ sym (append-nil (line_text c.line)))
    longer (b ∷ z) front rest =
        let same : b ≡ byte = cc in
        none c.line c.next z (append_assoc before (byte ∷ []) z ∙ ap (λ x. before ++ x ∷ z) (sym same) ∙ sym front)
