use Rattle.std.proofs.Common.{◌≡◌, arith}
use Rattle.feed_reader.specs.Fetched.{IsFirstFault, feed_files, range_faults}
use Rattle.feed_reader.proofs.FetchLemmas.{all-fetched, fetched-more, handed_on, unfetched}
use Rattle.feed_reader.proofs.fetching.fetch_within.Goals as goal

pub returns-in_err-fetch_file-clause-refused : goal.returns-in_err-fetch_file-clause-refused
returns-in_err-fetch_file-clause-refused g c =
    handed_on (IsFirstFault (g.D.Folder.files c.args.folder.now) (λ told. range_faults c.args.file_limit c.args.files_limit (feed_files told c.args.root.now))
    (g.D.Counted.count c.args.folder.now) (g.D.Counted.count c.fetch_file.new.folder))
    c.from_residual.result c.in_err-fetch_file.field-0.0
    (unfetched (g.D.Folder.files c.args.folder.now) (g.D.Folder.files c.loop-place.folder) (g.D.Counted.count c.args.folder.now) (g.D.Counted.count c.loop-place.folder)
    (g.D.Counted.count c.fetch_file.new.folder) c.args.root.now c.args.file_limit c.args.files_limit c.loop-place.place c.loop-place.files c.loop-place-test.true
    c.loop-place.invariant c.fetch_file.ensures.count c.in_err-fetch_file.field-0.0 c.in_err-fetch_file.ensures.refused)
    c.from_residual.ensures.1

pub loop-place-preserved : goal.loop-place-preserved
loop-place-preserved g c =
    fetched-more (g.D.Folder.files c.args.folder.now) (g.D.Folder.files c.loop-place.folder) (g.D.Folder.files c.fetch_file.new.folder) (g.D.Counted.count c.args.folder.now)
    (g.D.Counted.count c.loop-place.folder) (g.D.Counted.count c.fetch_file.new.folder) c.args.root.now c.args.file_limit c.args.files_limit c.loop-place.place
    c.loop-place.files c.fetch_file.new.files c.loop-place-test.true c.loop-place.invariant c.in_ok-fetch_file.ensures.files c.in_ok-fetch_file.ensures.faultless
    c.in_ok-fetch_file.ensures.within c.fetch_file.ensures.count c.fetch_file.ensures.kept

pub returns-clause-faultless : goal.returns-clause-faultless
returns-clause-faultless g c =
    let end : c.loop-place.place ≡ 8 = (let low = c.loop-place-test.false in let high = c.loop-place.auto.place-end in omega arith) in
    all-fetched (g.D.Folder.files c.args.folder.now) c.args.root.now c.args.file_limit c.args.files_limit c.loop-place.place end c.loop-place.invariant.faults
