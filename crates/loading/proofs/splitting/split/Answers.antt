use Rattle.std.proofs.Common.{arith}
use Rattle.loading.proofs.ShareLemmas.{AreWhole, within_units, left_few, none_left, shares_give_all, nothing_without}
use Rattle.loading.proofs.splitting.split.Goals as goal

pub left_of-left-requires : goal.left_of-left-requires
left_of-left-requires c = record {
  within = within_units c.args.units c.total_of-all.result c.args.weights.now c.give_whole.new.out
      (record { total = c.total_of-all.ensures.value; some = omega arith; long = omega arith; whole = c.give_whole.ensures.wholes });
}

pub give_left-requires-clause-few : goal.give_left-requires-clause-few
give_left-requires-clause-few c =
    let few = left_few c.args.units c.total_of-all.result c.args.weights.now c.give_whole.new.out
    (record { total = c.total_of-all.ensures.value; some = omega arith; long = omega arith; whole = c.give_whole.ensures.wholes }) in
    omega arith

pub returns-then-left-gt0-clause-all_given : goal.returns-then-left-gt0-clause-all_given
returns-then-left-gt0-clause-all_given c = shares_give_all c.args.units c.args.weights.now c.give_left.new.out c.requires.positive (omega arith) c.give_left.ensures.shares

pub returns-then-left-gt0-clause-no_weight : goal.returns-then-left-gt0-clause-no_weight
returns-then-left-gt0-clause-no_weight c = nothing_without c.args.units c.args.weights.now c.give_left.new.out c.requires.positive c.give_left.ensures.shares

pub returns-else-left-gt0 : goal.returns-else-left-gt0
returns-else-left-gt0 c =
    let whole : AreWhole c.args.units c.total_of-all.result c.args.weights.now c.give_whole.new.out =
    record { total = c.total_of-all.ensures.value; some = omega arith; long = omega arith; whole = c.give_whole.ensures.wholes } in
    let shares = none_left c.args.units c.total_of-all.result c.args.weights.now c.give_whole.new.out whole (omega arith) in
    record {
      shares = shares;
      all_given = shares_give_all c.args.units c.args.weights.now c.give_whole.new.out c.requires.positive (omega arith) shares;
      no_weight = nothing_without c.args.units c.args.weights.now c.give_whole.new.out c.requires.positive shares;
    }
