use Rattle.skims.proofs.space.tests.built.Goals as goal

pub build-requires-clause-sources : goal.build-requires-clause-sources
build-requires-clause-sources c = record {
  lines = c.in_ok-lines.ensures.laws;
  zones = c.in_ok-zones.ensures.few;
  links = c.in_ok-zones.ensures.links;
  walks = c.no_walks-walks.ensures.among;
  scenario = c.in_ok-scenario.ensures.size;
}
