use Rattle.assign.proofs.JobFeedLemmas.{one_feed}
use Rattle.assign.proofs.JobLawLemmas.{never_both, one_fault, one_print, one_unreachable, print_is_begun, print_is_faultless, whole_begins}
use Rattle.assign.proofs.job_laws.one_outcome.Goals as goal

pub returns : goal.returns
returns c = record {
  one_feed = one_feed;
  one_print = one_print c.one_parts.ensures.parts_are_one;
  whole_begins = whole_begins;
  print_is_begun = print_is_begun c.one_parts.ensures.parts_are_one;
  print_is_faultless = print_is_faultless;
  one_fault = one_fault;
  one_unreachable = one_unreachable;
  never_both = never_both;
}
