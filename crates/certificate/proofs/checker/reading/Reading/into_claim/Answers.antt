use Rattle.std.proofs.Common.{◌≡◌, true, false, ◌≤◌, length, refl, sym, ap, ◌∙◌, arith, length-append, inr}
use Rattle.certificate.specs.declared.fault.Fault.TheVariants as fault
use Rattle.certificate.specs.declared.refused.Refused.TheVariants as refused
use Rattle.certificate.specs.declared.stage.Stage.TheVariants as stage
use Rattle.certificate.specs.Draft.{text_so_far, certificate_of}
use Rattle.certificate.specs.CheckerFields.{bytes_of}
use Rattle.certificate.proofs.TextLength.{MOST, text_few}
use Rattle.certificate.proofs.FedLemmas.{part_few, done_part}
use Rattle.certificate.proofs.Verdicts.{text_is}
use Rattle.certificate.proofs.checker.reading.Reading.into_claim.Goals as goal

pub overflow_add-result : goal.overflow_add-result
overflow_add-result c =
    let few : length (text_so_far c.args.self.draft) ≤ MOST = text_few c.args.self.draft c.requires.reading.counted.kept in
    let short : length c.args.self.part.items ≤ 118 = part_few c.args.self.draft c.args.self.part.items c.requires.reading.stops in
    let before = c.requires.reading.counted.before in
    omega (arith, c.len.ensures.value)

pub returns-then-not-is_done-clause-refused : goal.returns-then-not-is_done-clause-refused
returns-then-not-is_done-clause-refused c = inr (record {
  draft = c.args.self.draft;
  kept = c.requires.reading.counted.kept;
  rest = c.args.self.part.items;
  text = refl;
  more = λ done. absurd (let is = c.is_done.ensures.value.1 done in let not = c.if-not-is_done.true in let no : true ≡ false = sym is ∙ not in cc);
  fault = fault.Stop 0;
  stops = c.requires.reading.stops;
  says = ap refused.Grammar (let before = c.requires.reading.counted.before in let parts = length-append (text_so_far c.args.self.draft) c.args.self.part.items in omega (arith, c.len.ensures.value));
})

pub returns-clause-text : goal.returns-clause-text
returns-clause-text c =
    let done : c.args.self.draft.stage ≡ stage.Done = c.is_done.ensures.value.0 c.if-not-is_done.false in
    text_is c.into_claim.result (bytes_of c.args.self) (text_so_far c.args.self.draft) c.args.self.part.items (certificate_of c.args.self.draft) refl
    (done_part c.args.self.draft c.args.self.part.items done c.requires.reading.stops) c.into_claim.ensures.text c.into_claim.ensures.certificate
