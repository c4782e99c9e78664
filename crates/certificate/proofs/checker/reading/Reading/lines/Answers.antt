use Rattle.std.proofs.Common.{◌≡◌, ◌+◌, ◌≤◌, ◌++◌, length, sym, ap, ◌∙◌, arith, length-append}
use Rattle.std.proofs.lemmas.List.{append-nil}
use Rattle.arrayvec.specs.ArrayVec.{array_vec_len}
use Rattle.certificate.specs.Draft.{text_so_far}
use Rattle.certificate.specs.NextLine.{line_at}
use Rattle.certificate.specs.CheckerFields.{bytes_of}
use Rattle.certificate.proofs.TextLength.{MOST, text_few}
use Rattle.certificate.proofs.FedLemmas.{place_if, refused_if, part_few}
use Rattle.certificate.proofs.checker.reading.Reading.lines.Goals as goal

pub refusal-requires : goal.refusal-requires
refusal-requires c = record {
  place = λ left e. place_if (text_so_far c.args.self.now.draft ++ c.args.bytes.now) c.in-Err.fault (c.args.self.now.before + length c.args.bytes.now) left
      (ap (λ n. n + length c.args.bytes.now) c.requires.before ∙ sym (length-append (text_so_far c.args.self.now.draft) c.args.bytes.now)) c.in-Err.ensures.fault e;
}

pub returns-in-Err-clause-refused : goal.returns-in-Err-clause-refused
returns-in-Err-clause-refused c =
    let same : bytes_of c.args.self.now ≡ text_so_far c.args.self.now.draft = ap (λ p. text_so_far c.args.self.now.draft ++ p) c.requires.whole ∙ append-nil (text_so_far c.args.self.now.draft) in
    rw same
    (refused_if (text_so_far c.args.self.now.draft ++ c.args.bytes.now) c.in-Err.fault c.refusal.result (c.args.self.now.before + length c.args.bytes.now)
    (ap (λ n. n + length c.args.bytes.now) c.requires.before ∙ sym (length-append (text_so_far c.args.self.now.draft) c.args.bytes.now)) c.in-Err.ensures.fault c.refusal.ensures.value)

pub overflow_add-self : goal.overflow_add-self
overflow_add-self c =
    let few : length (text_so_far c.lines.new.self) ≤ MOST = text_few c.lines.new.self c.in-Ok.ensures.kept in
    let text = ap length c.in-Ok.ensures.text in
    let a = length-append (text_so_far c.lines.new.self) c.in-Ok.part.now in
    let b = length-append (text_so_far c.args.self.now.draft) c.args.bytes.now in
    let low : length c.in-Ok.part.now ≤ length c.args.bytes.now = c.in-Ok.ensures.within in
    let before = c.requires.before in
    omega arith

pub append-requires : goal.append-requires
append-requires c =
    let few : length c.in-Ok.part.now ≤ 118 = part_few c.lines.new.self c.in-Ok.part.now c.in-Ok.ensures.unended in
    let none : array_vec_len c.args.self.now.part ≡ 0 = ap length c.requires.whole in
    omega arith

pub returns-clause-reading : goal.returns-clause-reading
returns-clause-reading c =
    let text = ap length c.in-Ok.ensures.text in
    let a = length-append (text_so_far c.lines.new.self) c.in-Ok.part.now in
    let b = length-append (text_so_far c.args.self.now.draft) c.args.bytes.now in
    let low : length c.in-Ok.part.now ≤ length c.args.bytes.now = c.in-Ok.ensures.within in
    let before = c.requires.before in
    record {
      counted = record { kept = c.in-Ok.ensures.kept; before = omega arith };
      stops = ap (line_at c.lines.new.self) (c.append.ensures.items ∙ ap (λ p. p ++ c.in-Ok.part.now) c.requires.whole) ∙ c.in-Ok.ensures.unended;
    }

pub returns-clause-bytes : goal.returns-clause-bytes
returns-clause-bytes c =
    ap (λ p. text_so_far c.lines.new.self ++ p) (c.append.ensures.items ∙ ap (λ p. p ++ c.in-Ok.part.now) c.requires.whole) ∙ c.in-Ok.ensures.text
    ∙ ap (λ p. p ++ c.args.bytes.now) (sym (append-nil (text_so_far c.args.self.now.draft)) ∙ ap (λ p. text_so_far c.args.self.now.draft ++ p) (sym c.requires.whole))
