-- Two trips are of one line exactly where their keys are equal.
use Rattle.std.proofs.Common.{◌≡◌, ℕ, ◌+◌, ◌*◌, ◌<◌, Bool, true, false, List, [], ◌∷◌, refl, sym, ap, ◌∙◌, arith}
use Rattle.std.specs.Prelude.{◌==◌, ◌&&◌, map}
use Rattle.std.specs.Bool.{beq}
use Rattle.std.specs.Cmp.Lexicographic.{pointwise}
use Rattle.std.specs.Str.{bytes_eq}
use Rattle.std.proofs.lemmas.Bool.Decides.{nat_tests}
use Rattle.feed_reader.specs.declared.timetable.Call.{Call}
use Rattle.feed_reader.specs.Feed.{FeedData}
use Rattle.headways.specs.Lines.{is_alike, is_same_place, place_of, route_of}
use Rattle.headways.specs.Numbering.{bit, code_of, key_of}
use Rattle.headways.specs.TripWeights.{calls_of}

four-fold : (a b j k : ℕ) → j < 4 → k < 4 → (4 * a + j == 4 * b + k) ≡ ((a == b) && (j == k))
four-fold a b j k hj hk = grind (arith, nat_tests)

-- two numbers of flags are equal where the flags are
flags : (p q r s : Bool) → (2 * bit p + bit q == 2 * bit r + bit s) ≡ (beq p r && beq q s)
flags true true true true = refl
flags true true true false = refl
flags true true false true = refl
flags true true false false = refl
flags true false true true = refl
flags true false true false = refl
flags true false false true = refl
flags true false false false = refl
flags false true true true = refl
flags false true true false = refl
flags false true false true = refl
flags false true false false = refl
flags false false true true = refl
flags false false true false = refl
flags false false false true = refl
flags false false false false = refl

bit-few : (p : Bool) → bit p < 2
bit-few true = omega arith
bit-few false = omega arith

same-code : (one other : Call) → (code_of one == code_of other) ≡ is_same_place (place_of one) (place_of other)
same-code one other =
    let p = bit-few one.pickup in
    let q = bit-few one.drop in
    let r = bit-few other.pickup in
    let s = bit-few other.drop in
    let left : code_of one ≡ 4 * one.stop + (2 * bit one.pickup + bit one.drop) = omega arith in
    let right : code_of other ≡ 4 * other.stop + (2 * bit other.pickup + bit other.drop) = omega arith in
    rw (left, right)
    (four-fold one.stop other.stop (2 * bit one.pickup + bit one.drop) (2 * bit other.pickup + bit other.drop) (omega arith) (omega arith)
    ∙ ap (λ (b : Bool). (one.stop == other.stop) && b) (flags one.pickup one.drop other.pickup other.drop))

same-codes : (ones others : List Call) → pointwise (λ a b. a == b) (map code_of ones) (map code_of others) ≡ pointwise is_same_place (map place_of ones) (map place_of others)
same-codes [] [] = refl
same-codes [] (c ∷ cs) = refl
same-codes (c ∷ cs) [] = refl
same-codes (c ∷ cs) (d ∷ ds) = rw (same-code c d, same-codes cs ds) refl

pub same-key : (feed : FeedData) (one other : ℕ) → is_alike feed one other ≡ bytes_eq (key_of feed one) (key_of feed other)
same-key feed one other = ap (λ (b : Bool). (route_of feed one == route_of feed other) && b) (sym (same-codes (calls_of feed one) (calls_of feed other)))
