use Rattle.std.proofs.Common.{◌≡◌, ◌+◌, min, ap, arith}
use Rattle.desk_io.proofs.GatheringLemmas.{stops_alone}
use Rattle.desk_io.proofs.gathered.Gathered.send.Goals as goal

-- the fault counts what was sent before it too
pub returns-in-Err-clause-err : goal.returns-in-Err-clause-err
returns-in-Err-clause-err g c =
    let same : c.self.inside.sent ≡ c.args.self.now.sent = ap (λ f. f.sent) c.self.view_is in
    let added : c.saturating_add.result ≡ min (c.self.inside.sent + c.in-Err.fault.sent) 18446744073709551615 = c.saturating_add.ensures in
    stops_alone _ _ c.args.self.now c.args.text.now c.in-Err.fault.sent _ c.requires.empty c.in-Err.ensures.sent (λ within. omega (arith, within)) c.in-Err.ensures.err
