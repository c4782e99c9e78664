use Rattle.std.proofs.Common.{None, subst}
use Rattle.assign.specs.declared.print.Print.TheVariants as print
use Rattle.assign.specs.Printed.{PrintsTotals}
use Rattle.desk.specs.Assigned.{job_with}
use Rattle.desk.specs.Ends.{EndsJob}
use Rattle.desk.proofs.CityLemmas.{city_period, city_period_fine}
use Rattle.desk.proofs.generated_city.print_city.Goals as goal

pub returns-in-Ok-clause-ends : goal.returns-in-Ok-clause-ends
returns-in-Ok-clause-ends g c =
    subst (λ time. EndsJob (job_with c.args.inputs.now time print.Summary None)
    (record { old_count = g.O.Counted.count c.args.out.now; new_count = g.O.Counted.count c.print_job.new.out; old = g.O.Sink.written c.args.out.now; new = g.O.Sink.written c.print_job.new.out }) c.print_job.result)
    (city_period c.in-Ok.period c.in-Ok.ensures.period) c.print_job.ensures.ends

pub returns-in-Ok-clause-totals : goal.returns-in-Ok-clause-totals
returns-in-Ok-clause-totals g c done =
    subst (λ time. PrintsTotals (job_with c.args.inputs.now time print.Summary None) (g.O.Sink.written c.args.out.now) (g.O.Sink.written c.print_job.new.out))
    (city_period c.in-Ok.period c.in-Ok.ensures.period) (c.print_job.ensures.totals done)

pub returns-in-Err-clause-ends : goal.returns-in-Err-clause-ends
returns-in-Err-clause-ends g c = absurd (city_period_fine c.in-Err.bad c.in-Err.ensures.refused)
