use Rattle.desk.proofs.FeedLemmas.{piece_fed}
use Rattle.desk.proofs.feeding.feed.Goals as goal

pub returns-in-Err-clause-fed : goal.returns-in-Err-clause-fed
returns-in-Err-clause-fed c =
    piece_fed c.args.checker.now c.feed.new.self c.args.piece.now c.feed.result c.feed.ensures.ok c.feed.ensures.bytes c.feed.ensures.noted c.feed.ensures.refused c.feed.ensures.same
