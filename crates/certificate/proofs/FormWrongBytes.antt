-- With a wrong byte no text of the form begins, and with any byte after the last line none does.
use Rattle.std.proofs.Common.{◌≡◌, ℕ, List, [], ◌∷◌, ◌++◌, length, length-append, refl, sym, ap, ◌∙◌, append_assoc, arith, ◌⊎◌, inl, inr}
use Rattle.certificate.specs.declared.stage.Stage.TheVariants as stage
use Rattle.certificate.specs.Spelling.{spelling}
use Rattle.certificate.specs.GoodLines.{start}
use Rattle.certificate.specs.Draft.{DraftData, text_so_far}
use Rattle.certificate.specs.Kept.{IsKept}
use Rattle.certificate.specs.Grammar.{kind_at}
use Rattle.certificate.specs.LineFaults.{IsWithinLine, BeginsNoLine}
use Rattle.certificate.specs.Form.{IsOfForm, BeginsNoText}
use Rattle.certificate.specs.Spelling.{Certificate}
use Rattle.certificate.proofs.FormTrails.{Continues, continues, none_after_end, wrong_byte}
use Rattle.certificate.proofs.FormLines.{form_lines}
use Rattle.certificate.proofs.FormPaths.{path_of}

-- where a text of the form has the lines so far, a line that may come next comes next, or nothing
line_follows : (d : DraftData) (c : Certificate) (rest : List ℕ) → IsKept d → IsOfForm c → text_so_far d ++ rest ≡ spelling c → Continues d rest ⊎ (rest ≡ [])
line_follows d c rest kept form text =
    let path = path_of d kept in
    let all = form_lines c form in
    elim (continues start path.end all.end path.lines all.lines rest path.goes all.goes all.done (ap (λ t. t ++ rest) path.text ∙ text ∙ sym all.is)) [
      | inl next ↦ inl (record { line = next.line; next = path.next next.line next.next; more = next.more; bytes = next.bytes })
      | inr none ↦ inr none
    ]

regroup : (a b c d : List ℕ) → (a ++ (b ++ c)) ++ d ≡ a ++ (b ++ (c ++ d))
regroup a b c d = simp append_assoc refl

pub wrong_byte_leaves : (d : DraftData) (before : List ℕ) (byte : ℕ) → IsKept d → IsWithinLine (kind_at d.stage d) before → BeginsNoLine (kind_at d.stage d) (before ++ byte ∷ []) → BeginsNoText (text_so_far d ++ (before ++ byte ∷ []))
wrong_byte_leaves d before byte kept within none begins =
    elim (line_follows d begins.certificate (before ++ byte ∷ begins.rest) kept begins.form (sym (regroup (text_so_far d) before (byte ∷ []) begins.rest) ∙ begins.text)) [
      | inl next ↦ wrong_byte d before byte begins.rest next within none
      | inr ended ↦ (let zero : length (before ++ byte ∷ begins.rest) ≡ 0 = ap length ended in let long = length-append before (byte ∷ begins.rest) in omega arith)
    ]

pub nothing_after_end : (d : DraftData) (byte : ℕ) → IsKept d → d.stage ≡ stage.Done → BeginsNoText (text_so_far d ++ byte ∷ [])
nothing_after_end d byte kept last begins =
    elim (line_follows d begins.certificate (byte ∷ begins.rest) kept begins.form (sym (append_assoc (text_so_far d) (byte ∷ []) begins.rest) ∙ begins.text)) [
      | inl next ↦ none_after_end d next.line last next.next
      | inr ended ↦ (let zero : length (byte ∷ begins.rest) ≡ 0 = ap length ended in omega arith)
    ]
