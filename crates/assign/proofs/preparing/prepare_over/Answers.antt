use Rattle.std.proofs.Common.{refl}
use Rattle.std.proofs.lemmas.Result.{err_from_is_err_and}
use Rattle.assign.specs.JobFaults.{faults_of_lines, faults_of_network, faults_of_tables, faults_of_zone}
use Rattle.assign.specs.JobViews.{job_of}
use Rattle.assign.proofs.JobFaultLemmas.{first_of_four, second_of_four, third_of_four}
use Rattle.assign.proofs.JobLemmas.{prepared_over}
use Rattle.assign.proofs.preparing.prepare_over.Goals as goal

pub returns-in_err-tables-clause-refused : goal.returns-in_err-tables-clause-refused
returns-in_err-tables-clause-refused c =
    let p = err_from_is_err_and c.from_residual.result c.from_residual.ensures.1 in
    let job = job_of c.args.job.now in
    let feed = c.args.feed in
    rw (p.1, p.2) (first_of_four (faults_of_tables job feed) (faults_of_zone job feed) (faults_of_lines job feed) (faults_of_network job feed) c.in_err-tables.field-0.0
    c.in_err-tables.ensures.refused)

pub returns-clause-prepared : goal.returns-clause-prepared
returns-clause-prepared c =
    prepared_over (job_of c.args.job.now) c.args.feed (record {
      feed = c.args.feed;
      lines = c.in_ok-lines.lines;
      tables = c.in_ok-tables.tables;
      city = c.in_ok-city.city;
      counts = c.counts_of-counts.result;
      zone = c.in_ok-zone.zone;
    }) refl c.in_ok-lines.ensures.lines c.in_ok-tables.ensures.tables c.in_ok-city.ensures.city c.counts_of-counts.ensures.counts c.in_ok-city.ensures.stands c.in_ok-zone.ensures.zone
    c.in_ok-zone.ensures.there c.in_ok-zone.ensures.asked

pub returns-in_err-zone-clause-refused : goal.returns-in_err-zone-clause-refused
returns-in_err-zone-clause-refused c =
    let p = err_from_is_err_and c.from_residual-in_err-zone.result c.from_residual-in_err-zone.ensures.1 in
    let job = job_of c.args.job.now in
    let feed = c.args.feed in
    rw (p.1, p.2) (second_of_four (faults_of_tables job feed) (faults_of_zone job feed) (faults_of_lines job feed) (faults_of_network job feed) c.in_err-zone.field-0.0
    c.in_ok-tables.ensures.faultless c.in_err-zone.ensures.refused)

pub returns-in_err-lines-clause-refused : goal.returns-in_err-lines-clause-refused
returns-in_err-lines-clause-refused c =
    let p = err_from_is_err_and c.from_residual-in_err-lines.result c.from_residual-in_err-lines.ensures.1 in
    let job = job_of c.args.job.now in
    let feed = c.args.feed in
    rw (p.1, p.2) (third_of_four (faults_of_tables job feed) (faults_of_zone job feed) (faults_of_lines job feed) (faults_of_network job feed) c.in_err-lines.field-0.0
    c.in_ok-tables.ensures.faultless c.in_ok-zone.ensures.faultless c.in_err-lines.ensures.refused)
