use Rattle.std.proofs.Common.{ℕ, Bool, arith}
use Rattle.std.proofs.Common.{eq-eqb}
use Rattle.std.specs.Prelude.{◌==◌}
use Rattle.gtfs_rows.proofs.PartLemmas.{before-at, behind-at, before-none, passes-at, none-passes}
use Rattle.gtfs_rows.proofs.parts.parted.Goals as goal

pub returns-then-byte-separator-clause-before : goal.returns-then-byte-separator-clause-before
returns-then-byte-separator-clause-before c =
    let is : ℕ → Bool = λ byte. byte == c.args.separator in
    before-at is c.args.field.now c.loop-place.place c.loop-place-test.true c.loop-place.invariant (eq-eqb _ _ c.if-byte-separator.true)

pub returns-then-byte-separator-clause-behind : goal.returns-then-byte-separator-clause-behind
returns-then-byte-separator-clause-behind c =
    let is : ℕ → Bool = λ byte. byte == c.args.separator in
    let here = eq-eqb _ _ c.if-byte-separator.true in (
      passes-at is c.args.field.now c.loop-place.place c.loop-place-test.true here,
      behind-at is c.args.field.now c.loop-place.place c.loop-place-test.true c.loop-place.invariant here,
    )

pub returns-clause-before : goal.returns-clause-before
returns-clause-before c =
    let is : ℕ → Bool = λ byte. byte == c.args.separator in
    before-none is c.args.field.now (λ k h. c.loop-place.invariant k (omega arith))

pub returns-clause-behind : goal.returns-clause-behind
returns-clause-behind c =
    let is : ℕ → Bool = λ byte. byte == c.args.separator in
    none-passes is c.args.field.now (λ k h. c.loop-place.invariant k (omega arith))
