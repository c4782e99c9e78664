use Rattle.std.proofs.Common.{◌≡◌, ◌++◌, ◌+◌, ◌-◌, ◌*◌, ◌^◌, arith}
use Rattle.std.specs.Prelude.{codes, slice_index}
use Rattle.std.specs.Char.{digit_value}
use Rattle.std.proofs.lemmas.Nat.{pow-add}
use Rattle.std.proofs.lemmas.Int.Digits.{digits_value_more}
use Rattle.std.proofs.lemmas.List.{length-append}
use Rattle.gtfs_rows.proofs.DigitLemmas.{value_of_digit}
use Rattle.gtfs_rows.proofs.decimals.millionths.Goals as goal

pub loop-place-preserved : goal.loop-place-preserved
loop-place-preserved c =
    let inv = c.loop-place.invariant in
    let test = c.loop-place-test.true in
    let long = length-append c.args.decimals.now (codes "000000") in
    let more = digits_value_more 10 (c.args.decimals.now ++ codes "000000") c.loop-place.place (omega arith) in
    let at = c.decimal_at.ensures.value in
    let bounds = c.decimal_at.ensures.digit in
    let digit = value_of_digit c.decimal_at.result bounds.0 bounds.1 in
    let here : digit_value (slice_index (c.args.decimals.now ++ codes "000000") c.loop-place.place) ≡ c.decimal_at.result - 48 = rw (← at) digit in
    let from = c.from.ensures in
    let power : 10 ^ (c.loop-place.place + 1) ≡ 10 ^ c.loop-place.place * 10 = pow-add 10 c.loop-place.place 1 in
    record {
      value = omega arith;
      within = omega arith;
    }
