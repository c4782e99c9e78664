use Rattle.std.proofs.Common.{◌≡◌, ◌+◌, ◌∙◌, min, ap, arith}
use Rattle.desk_io.proofs.GatheringLemmas.{stops_waiting}
use Rattle.desk_io.proofs.gathered.Gathered.flush.Goals as goal

-- the fault counts what was sent before it too
pub returns-in-Err-clause-err : goal.returns-in-Err-clause-err
returns-in-Err-clause-err g c =
    let same : c.self.inside.sent ≡ c.args.self.now.sent = ap (λ f. f.sent) c.self.view_is in
    let added : c.saturating_add.result ≡ min (c.self.inside.sent + c.in-Err.fault.sent) 18446744073709551615 = c.saturating_add.ensures in
    let waits : c.as_slice.result.now ≡ c.args.self.now.waiting = c.as_slice.ensures.value ∙ ap (λ f. f.waiting) c.self.view_is in
    stops_waiting _ _ c.args.self.now c.in-Err.fault.sent _ (rw (← waits) c.in-Err.ensures.sent) (λ within. omega (arith, within)) (rw (← waits) c.in-Err.ensures.err)
