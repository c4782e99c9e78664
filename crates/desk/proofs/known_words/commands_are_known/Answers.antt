use Rattle.std.proofs.Common.{refl}
use Rattle.clap.proofs.OnLiterals.{clap_on_literals}
use Rattle.desk.specs.KnownCommands.{KnowsAssign, KnowsCommands}
use Rattle.desk.proofs.known_words.commands_are_known.Goals as goal

-- each is read by the stated words of `clap`
assign_known : KnowsAssign
unfolding clap_on_literals
assign_known = record {
  summary = refl;
  tables = refl;
  lines = refl;
  skims = refl;
  skims_to_zone = refl;
  certificate = refl;
  certificate_of_no_zone = refl;
  lines_to_zone = refl;
  no_print = refl;
  no_period = refl;
  twice = refl;
}

all_known : KnowsCommands
unfolding clap_on_literals
all_known = record {
  assign = assign_known;
  check = refl;
  solve = refl;
  gen = refl;
  gen_of_few_stops = refl;
  gen_of_many_zones = refl;
  none = refl;
  help = refl;
}

pub returns : goal.returns
returns c = record { known = all_known }
