use Rattle.feed_reader.proofs.FetchLemmas.{HasFetched}
use Rattle.feed_reader.proofs.fetching.fetch_within.Given as goal

abbrev pub invariant-loop-place : goal.invariant-loop-place
invariant-loop-place g l = HasFetched (g.D.Folder.files l.fn.folder) (g.D.Folder.files l.folder) (g.D.Counted.count l.fn.folder) (g.D.Counted.count l.folder) l.root l.file_limit l.files_limit l.place l.files
