use Rattle.assign.proofs.tests.city.city_of.Goals as goal

pub build-requires-clause-sources : goal.build-requires-clause-sources
build-requires-clause-sources c = record {
  lines = c.in_ok-lines.ensures.laws;
  zones = c.requires.few;
  links = c.requires.links;
  walks = c.no_walks-walks.ensures.among;
  scenario = c.in_ok-scenario.ensures.size;
}
