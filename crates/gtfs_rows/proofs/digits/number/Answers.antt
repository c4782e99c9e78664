use Rattle.std.proofs.Common.{take, arith, get_or}
use Rattle.std.proofs.lemmas.Str.Parse.{digits_value_short}
use Rattle.std.proofs.lemmas.Int.Digits.{digits_more, digits_value_more}
use Rattle.std.proofs.lemmas.List.{length-take}
use Rattle.gtfs_rows.proofs.DigitLemmas.{own, no_digit, number_small, value_of_digit, all_taken}
use Rattle.gtfs_rows.proofs.digits.number.Goals as goal

pub returns-then-not-is_ascii_digit-clause-value : goal.returns-then-not-is_ascii_digit-clause-value
returns-then-not-is_ascii_digit-clause-value c = no_digit c.args.most c.args.field.now c.loop-byte.byte-index c.loop-byte-test.true c.if-not-is_ascii_digit.ensures.cases

pub overflow_mul-number : goal.overflow_mul-number
overflow_mul-number c =
    let inv = c.loop-byte.invariant in
    let room = length-take c.loop-byte.byte-index c.args.field.now in
    let test = c.loop-byte-test.true in
    let short = digits_value_short own (take c.loop-byte.byte-index c.args.field.now) 17 (own.from _ inv.digits) (omega arith) in
    omega arith

pub overflow_add-number : goal.overflow_add-number
overflow_add-number c =
    let inv = c.loop-byte.invariant in
    let room = length-take c.loop-byte.byte-index c.args.field.now in
    let test = c.loop-byte-test.true in
    let digit = c.if-not-is_ascii_digit.ensures.cases in
    let short = digits_value_short own (take c.loop-byte.byte-index c.args.field.now) 17 (own.from _ inv.digits) (omega arith) in
    omega arith

pub loop-byte-preserved : goal.loop-byte-preserved
loop-byte-preserved c =
    let inv = c.loop-byte.invariant in
    let test = c.loop-byte-test.true in
    let more = digits_value_more 10 c.args.field.now c.loop-byte.byte-index test in
    let digit = value_of_digit (get_or c.args.field.now c.loop-byte.byte-index 0) c.if-not-is_ascii_digit.ensures.cases.0 c.if-not-is_ascii_digit.ensures.cases.1 in
    record {
      digits = digits_more 10 c.args.field.now c.loop-byte.byte-index test inv.digits c.if-not-is_ascii_digit.ensures.bound;
      value = omega arith;
      some = inv.some;
      short = inv.short;
      most = inv.most;
    }

pub returns-clause-value : goal.returns-clause-value
returns-clause-value c =
    let inv = c.loop-byte.invariant in
    let end = c.loop-byte-test.false in
    all_taken c.args.most c.args.field.now c.loop-byte.byte-index c.loop-byte.number inv.some inv.short end inv.digits inv.value

pub returns-clause-within : goal.returns-clause-within
returns-clause-within c =
    let inv = c.loop-byte.invariant in
    let end = c.loop-byte-test.false in
    number_small c.args.field.now c.loop-byte.number c.args.most (all_taken c.args.most c.args.field.now c.loop-byte.byte-index c.loop-byte.number inv.some inv.short end inv.digits inv.value)
