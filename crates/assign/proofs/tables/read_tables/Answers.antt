use Rattle.std.proofs.lemmas.Result.{err_from_is_err_and}
use Rattle.assign.specs.JobFaults.{faults_of_demand, faults_of_scenario, faults_of_walks, faults_of_zones}
use Rattle.assign.specs.JobViews.{job_of}
use Rattle.assign.proofs.JobFaultLemmas.{second_of_four, third_of_four}
use Rattle.assign.proofs.tables.read_tables.Goals as goal

pub returns-in_err-walks-clause-refused : goal.returns-in_err-walks-clause-refused
returns-in_err-walks-clause-refused c =
    let p = err_from_is_err_and c.from_residual-in_err-walks.result c.from_residual-in_err-walks.ensures.1 in
    let job = job_of c.args.job.now in
    let feed = c.args.feed.now in
    rw (p.1, p.2) (second_of_four (faults_of_zones job feed) (faults_of_walks job feed) (faults_of_demand job feed) (faults_of_scenario job feed) c.in_err-walks.field-0.0
    c.in_ok-zones.ensures.faultless c.in_err-walks.ensures.refused)

pub returns-in_err-demand-clause-refused : goal.returns-in_err-demand-clause-refused
returns-in_err-demand-clause-refused c =
    let p = err_from_is_err_and c.from_residual-in_err-demand.result c.from_residual-in_err-demand.ensures.1 in
    let job = job_of c.args.job.now in
    let feed = c.args.feed.now in
    rw (p.1, p.2) (third_of_four (faults_of_zones job feed) (faults_of_walks job feed) (faults_of_demand job feed) (faults_of_scenario job feed) c.in_err-demand.field-0.0
    c.in_ok-zones.ensures.faultless c.in_ok-walks.ensures.faultless c.in_err-demand.ensures.refused)
