use Rattle.std.proofs.Common.{◌+◌, ◌-◌, ◌≤◌, ◌++◌, length, take, drop, Ok, sym, ap, subst, ◌∙◌, arith, append_assoc, length-append}
use Rattle.certificate.specs.Draft.{text_so_far, Took}
use Rattle.certificate.specs.NextLine.{line_at}
use Rattle.certificate.proofs.TextLength.{text_few}
use Rattle.certificate.proofs.FedLemmas.{place_if, refused_if, refused_on, part_few, ends_after}
use Rattle.certificate.proofs.PartLemmas.{window_text, front_all, left_of_piece}
use Rattle.certificate.proofs.checker.reading.Reading.complete.Goals as goal

pub returns-in-Ok-None-clause-bytes : goal.returns-in-Ok-None-clause-bytes
returns-in-Ok-None-clause-bytes c = λ is.
    let unended = c.next_line.ensures.unended (c.in-Ok-None.is ∙ ap Ok c.in-Ok-None.field-0-is) in
    let window = c.as_slice.ensures.value ∙ c.append.ensures.items in
    let few = part_few c.args.self.now.draft c.as_slice.result.now unended.0 in
    let all = front_all c.args.self.now.part.items c.split_at.result.0.now c.args.piece.now c.remaining_capacity-room.result c.min.result c.min.ensures c.split_at.ensures.front c.split_at.ensures.front_len
    c.remaining_capacity-room.ensures (subst (λ xs. length xs ≤ 118) window few) in
    ap (λ d. text_so_far d ++ c.append.new.part.items) unended.1
    ∙ ap (λ xs. text_so_far c.args.self.now.draft ++ xs) (c.append.ensures.items ∙ ap (λ xs. c.args.self.now.part.items ++ xs) all)
    ∙ sym (append_assoc (text_so_far c.args.self.now.draft) c.args.self.now.part.items c.args.piece.now)

pub refusal-requires : goal.refusal-requires
refusal-requires c =
    let count = length-append (text_so_far c.args.self.now.draft) c.as_slice.result.now in
    let same = ap length c.as_slice.ensures.value in
    let before = c.requires.reading.counted.before in
    record {
      place = λ left e. place_if (text_so_far c.args.self.now.draft ++ c.as_slice.result.now) c.in-Err.fault (c.args.self.now.before + c.len.result) left (omega (arith, c.len.ensures.value)) c.in-Err.ensures.fault e;
    }

pub returns-in-Err-clause-refused : goal.returns-in-Err-clause-refused
returns-in-Err-clause-refused c =
    let count = length-append (text_so_far c.args.self.now.draft) c.as_slice.result.now in
    let same = ap length c.as_slice.ensures.value in
    let before = c.requires.reading.counted.before in
    refused_on (text_so_far c.args.self.now.draft ++ c.as_slice.result.now) (drop c.min.result c.args.piece.now) ((text_so_far c.args.self.now.draft ++ c.args.self.now.part.items) ++ c.args.piece.now) c.refusal.result
    (window_text (text_so_far c.args.self.now.draft) c.args.self.now.part.items c.split_at.result.0.now c.args.piece.now c.as_slice.result.now c.min.result (c.as_slice.ensures.value ∙ c.append.ensures.items) c.split_at.ensures.front)
    (refused_if (text_so_far c.args.self.now.draft ++ c.as_slice.result.now) c.in-Err.fault c.refusal.result (c.args.self.now.before + c.len.result) (omega (arith, c.len.ensures.value)) c.in-Err.ensures.fault c.refusal.ensures.value)

pub overflow_add-self : goal.overflow_add-self
overflow_add-self c =
    let few = text_few c.args.self.now.draft c.requires.reading.counted.kept in
    let before = c.requires.reading.counted.before in
    let fits : c.len-2.result ≤ 160 = c.len-2.ensures.fits in
    omega arith

pub overflow_sub-result : goal.overflow_sub-result
overflow_sub-result c =
    let read = rw c.in-Ok-Some.field-0-is at c.in-Ok-Some.ensures.read in
    ends_after c.args.self.now.draft c.args.self.now.part.items c.split_at.result.0.now c.in-Ok-Some.rest.now c.requires.reading.stops
    (ap (line_at c.args.self.now.draft) (sym (c.as_slice.ensures.value ∙ c.append.ensures.items)) ∙ read)

pub returns-clause-some : goal.returns-clause-some
returns-clause-some c =
    let read = rw c.in-Ok-Some.field-0-is at c.in-Ok-Some.ensures.read in
    let low = ends_after c.args.self.now.draft c.args.self.now.part.items c.split_at.result.0.now c.in-Ok-Some.rest.now c.requires.reading.stops
    (ap (line_at c.args.self.now.draft) (sym (c.as_slice.ensures.value ∙ c.append.ensures.items)) ∙ read) in
    let took : Took c.args.self.now.draft c.as_slice.result.now c.next_line.new.self c.in-Ok-Some.rest.now = rw c.in-Ok-Some.field-0-is at c.in-Ok-Some.ensures.took in
    let window = c.as_slice.ensures.value ∙ c.append.ensures.items in
    let a = length-append (text_so_far c.args.self.now.draft) c.as_slice.result.now in
    let b = length-append (text_so_far c.next_line.new.self) c.in-Ok-Some.rest.now in
    let same = ap length c.as_slice.ensures.value in
    let text = ap length took.text in
    let shorter = took.shorter in
    let before = c.requires.reading.counted.before in (
      ap (λ xs. (text_so_far c.next_line.new.self ++ xs) ++ take (length c.args.piece.now - (length c.split_at.result.0.now - length c.in-Ok-Some.rest.now)) (drop (length c.split_at.result.0.now - length c.in-Ok-Some.rest.now) c.args.piece.now)) c.clear.ensures
          ∙ left_of_piece (text_so_far c.args.self.now.draft) (text_so_far c.next_line.new.self) c.args.self.now.part.items c.split_at.result.0.now c.args.piece.now c.as_slice.result.now c.in-Ok-Some.rest.now c.min.result
          window c.split_at.ensures.front c.split_at.ensures.front_len (let m = c.min.ensures in omega arith) took.text low,
      omega (arith, c.len-2.ensures.value),
      c.clear.ensures,
    )
