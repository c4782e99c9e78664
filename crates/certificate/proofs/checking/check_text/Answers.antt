use Rattle.certificate.specs.Fed.{bytes_so_far}
use Rattle.certificate.proofs.FedLemmas.{handed_on}
use Rattle.certificate.proofs.ForGood.{first_refused, first_only}
use Rattle.certificate.proofs.OneRefusal.{refused_only}
use Rattle.certificate.proofs.checking.check_text.Goals as goal

pub returns-in_err-feed-clause-refused : goal.returns-in_err-feed-clause-refused
returns-in_err-feed-clause-refused c =
    handed_on c.from_residual.result c.args.bytes.now c.in_err-feed.field-0.0
    (first_refused (bytes_so_far c.new-checker.result) c.args.bytes.now c.in_err-feed.field-0.0 c.new-checker.ensures.bytes (c.in_err-feed.ensures.refused c.new-checker.ensures.fresh)) c.from_residual.ensures.1

pub returns-in_err-feed-clause-only : goal.returns-in_err-feed-clause-only
returns-in_err-feed-clause-only c =
    first_only c.from_residual.result (bytes_so_far c.new-checker.result) c.args.bytes.now c.in_err-feed.field-0.0 c.new-checker.ensures.bytes (c.in_err-feed.ensures.refused c.new-checker.ensures.fresh) c.from_residual.ensures.1

pub returns-in_err-feed-clause-refused_only : goal.returns-in_err-feed-clause-refused_only
returns-in_err-feed-clause-refused_only c =
    refused_only c.from_residual.result c.args.bytes.now c.in_err-feed.field-0.0
    (first_refused (bytes_so_far c.new-checker.result) c.args.bytes.now c.in_err-feed.field-0.0 c.new-checker.ensures.bytes (c.in_err-feed.ensures.refused c.new-checker.ensures.fresh)) c.from_residual.ensures.1
