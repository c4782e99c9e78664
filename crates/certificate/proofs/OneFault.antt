-- One text has one faulty line.
use Rattle.std.proofs.Common.{◌≡◌, ℕ, List, ◌++◌, length, Err, refl, sym, ap, ◌∙◌, arith}
use Rattle.certificate.specs.declared.fault.Fault.{Fault}
use Rattle.certificate.specs.declared.fault.Fault.TheVariants as fault
use Rattle.certificate.specs.declared.refused.Refused.{Refused}
use Rattle.certificate.specs.declared.refused.Refused.TheVariants as refused
use Rattle.certificate.specs.Draft.{DraftData, text_so_far}
use Rattle.certificate.specs.NextLine.{line_at}
use Rattle.certificate.specs.Kept.{IsKept}
use Rattle.certificate.specs.Stops.{refusal_of}
use Rattle.certificate.specs.Refusals.{HasFaultyLine}
use Rattle.certificate.proofs.Trails.{one_stop}
use Rattle.certificate.proofs.FaultsRead.{stops_at}
use Rattle.certificate.specs.GoodLines.{start}
use Rattle.certificate.proofs.DraftTrail.{HasTrail, trail_at}

-- the bytes are good lines and then the front of a line, which is not ended
pub record IsUnended (bytes : List ℕ) : Type 0 where
  pub draft : DraftData
  pub kept : IsKept draft
  pub part : List ℕ
  pub text : text_so_far draft ++ part ≡ bytes
  pub stops : line_at draft part ≡ Err (fault.Stop 0)

-- the reading of one text stops with one fault
pub one_fault : (a b : DraftData) (r s : List ℕ) (f g : Fault) → IsKept a → IsKept b → text_so_far a ++ r ≡ text_so_far b ++ s → line_at a r ≡ Err f → line_at b s ≡ Err g → f ≡ g
one_fault a b r s f g ka kb e x y =
    let ta : HasTrail a = trail_at a.stage a refl ka.sizes ka.rows in
    let tb : HasTrail b = trail_at b.stage b refl kb.sizes kb.rows in
    one_stop start ta.end tb.end ta.lines tb.lines r s f g (record { sum = refl; few = omega arith }) ta.runs tb.runs
    (ap (λ t. t ++ r) ta.text ∙ e ∙ ap (λ t. t ++ s) (sym tb.text)) (ta.same r ∙ x) (tb.same s ∙ y)

-- so it has one refusal for a line
pub one_line : (bytes : List ℕ) (a b : Refused) → HasFaultyLine bytes a → HasFaultyLine bytes b → a ≡ b
one_line bytes a b h k =
    let x = stops_at bytes a h in
    let y = stops_at bytes b k in
    let same : x.fault ≡ y.fault = one_fault x.draft y.draft x.rest y.rest x.fault y.fault x.kept y.kept (x.text ∙ sym y.text) x.stops y.stops in
    x.says ∙ ap (refusal_of (length bytes)) same ∙ sym y.says

-- where the last line is not ended, that the bytes end is their only fault
pub only_end : (bytes : List ℕ) (answer : Refused) → IsUnended bytes → HasFaultyLine bytes answer → answer ≡ refused.Grammar (length bytes)
only_end bytes answer u h =
    let x = stops_at bytes answer h in
    let same : x.fault ≡ fault.Stop 0 = one_fault x.draft u.draft x.rest u.part x.fault (fault.Stop 0) x.kept u.kept (x.text ∙ sym u.text) x.stops u.stops in
    x.says ∙ ap (refusal_of (length bytes)) same ∙ ap refused.Grammar (omega arith)
