use Rattle.std.proofs.Common.{◌≡◌, ℕ, ◌*◌, ◌%◌, ◌==◌, ◌&&◌, ◌||◌, nat_lt, get_or, arith, rules, is_lt, nat_cmp, List, length, sym, ◌∙◌}
use Rattle.std.specs.Ordering.{ordering_then}
use Rattle.std.specs.declared.cmp.Reverse.{Reverse}
use Rattle.std.proofs.lemmas.Fn.{always_returns_same}
use Rattle.std.proofs.lemmas.Bool.Decides.{nat_tests}
use Rattle.definitions.specs.Split.{comes_before}
use Rattle.loading.proofs.CutLemmas.{IsCut, cut_from, front_within, front_apart, shares_given}
use Rattle.loading.proofs.splitting.give_left.Goals as goal

-- what a place's key is
abbrev key_of : (ℕ → ℕ) → ℕ → Reverse ℕ × ℕ
key_of rest place = (record { 0 = rest place }, place)

-- the order of the keys is the order of the places
by_key : (r s a b : ℕ) → is_lt (ordering_then (nat_cmp s r) (nat_cmp a b)) ≡ (nat_lt s r || (r == s && nat_lt a b))
by_key r s a b = grind (arith, nat_tests)

by_place : (rest : ℕ → ℕ) (one other : ℕ) → is_lt (ordering_then (nat_cmp (rest other) (rest one)) (nat_cmp one other)) ≡ comes_before rest one other
by_place rest one other = by_key (rest one) (rest other) one other

pub give_each-requires : goal.give_each-requires
give_each-requires c =
    let front : List ℕ = c.select_nth_unstable_by_key-first.result.0.now in
    let x : ℕ = c.select_nth_unstable_by_key-first.result.1.now in
    let back : List ℕ = c.select_nth_unstable_by_key-first.result.2.now in
    let rest : ℕ → ℕ = λ a. c.args.units * get_or c.args.weights.now a 0 % c.args.all in
    let part = c.select_nth_unstable_by_key-first.ensures.partitioned (key_of rest) (always_returns_same _ _ _ (λ a r q k. search rules)) in
    let cut : IsCut rest (length c.args.weights.now) front x back =
    cut_from rest (length c.args.weights.now) c.args.scratch.now front x back c.requires.numbers c.select_nth_unstable_by_key-first.ensures.permutation
    ((λ k d lt. sym (by_place rest x (get_or front k d)) ∙ part.0 k d lt), (λ k d lt. sym (by_place rest (get_or back k d) x) ∙ part.1 k d lt)) in
    record {
      there = λ k d lt. let within = front_within rest (length c.args.weights.now) front x back cut k d lt in omega arith;
      apart = front_apart rest (length c.args.weights.now) front x back cut;
      within = c.requires.within;
    }

pub returns : goal.returns
returns c =
    let front : List ℕ = c.select_nth_unstable_by_key-first.result.0.now in
    let x : ℕ = c.select_nth_unstable_by_key-first.result.1.now in
    let back : List ℕ = c.select_nth_unstable_by_key-first.result.2.now in
    let rest : ℕ → ℕ = λ a. c.args.units * get_or c.args.weights.now a 0 % c.args.all in
    let part = c.select_nth_unstable_by_key-first.ensures.partitioned (key_of rest) (always_returns_same _ _ _ (λ a r q k. search rules)) in
    let cut : IsCut rest (length c.args.weights.now) front x back =
    cut_from rest (length c.args.weights.now) c.args.scratch.now front x back c.requires.numbers c.select_nth_unstable_by_key-first.ensures.permutation
    ((λ k d lt. sym (by_place rest x (get_or front k d)) ∙ part.0 k d lt), (λ k d lt. sym (by_place rest (get_or back k d) x) ∙ part.1 k d lt)) in
    record {
      shares = λ a lt. shares_given c.args.units c.args.all c.args.left c.args.weights.now c.args.out.now c.give_each.new.out front x back
          (record { total = c.requires.all; some = c.requires.positive; long = c.requires.out_per_weight; whole = c.requires.wholes })
          c.requires.left c.select_nth_unstable_by_key-first.ensures.front_len cut c.give_each.ensures.given c.give_each.ensures.kept a (omega arith);
    }
