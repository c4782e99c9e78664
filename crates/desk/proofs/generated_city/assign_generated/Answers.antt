use Rattle.std.proofs.Common.{subst}
use Rattle.assign.specs.Printed.{PrintsTotals}
use Rattle.desk.specs.Ends.{EndsJob}
use Rattle.desk.specs.Generated.{files_of}
use Rattle.desk.proofs.CityLemmas.{city_job}
use Rattle.desk.proofs.generated_city.assign_generated.Goals as goal

pub returns-in-Ok-clause-ends : goal.returns-in-Ok-clause-ends
returns-in-Ok-clause-ends g c =
    subst (λ job. EndsJob job
    (record { old_count = g.O.Counted.count c.args.out.now; new_count = g.O.Counted.count c.print_city.new.out; old = g.O.Sink.written c.args.out.now; new = g.O.Sink.written c.print_city.new.out }) c.print_city.result)
    (city_job c.args.words.now c.inputs_of.result (files_of c.in-Ok.made) c.inputs_of.ensures.value c.in-Ok.ensures.value) c.print_city.ensures.ends

pub returns-in-Ok-clause-totals : goal.returns-in-Ok-clause-totals
returns-in-Ok-clause-totals g c done =
    subst (λ job. PrintsTotals job (g.O.Sink.written c.args.out.now) (g.O.Sink.written c.print_city.new.out))
    (city_job c.args.words.now c.inputs_of.result (files_of c.in-Ok.made) c.inputs_of.ensures.value c.in-Ok.ensures.value) (c.print_city.ensures.totals done)
