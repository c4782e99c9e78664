use Rattle.std.proofs.lemmas.Result.{err_from_is_err_and}
use Rattle.feed_reader.specs.FileFaults.{of_lists, of_routes, of_stops}
use Rattle.feed_reader.proofs.ReadingLemmas.{file-parts, second-part}
use Rattle.feed_reader.proofs.feed.Feed.read.Goals as goal

pub returns-in_err-routes-clause-refused : goal.returns-in_err-routes-clause-refused
returns-in_err-routes-clause-refused c =
    let p = err_from_is_err_and c.from_residual-in_err-routes.result c.from_residual-in_err-routes.ensures.1 in
    rw (p.1, p.2, file-parts c.args.files.now) (second-part (of_stops c.args.files.now) (of_routes c.args.files.now) (of_lists c.args.files.now) _ c.in_ok-stops.ensures.faultless c.in_err-routes.ensures.refused)
