use Rattle.std.proofs.lemmas.Result.{IfOk-weaker}
use Rattle.clap.proofs.SimpleLemmas.{plain_fields}
use Rattle.desk.proofs.known_words.with_command.Goals as goal

pub returns : goal.returns
returns c = record {
  app = IfOk-weaker c.subcommand.result _ _ (λ app adds. adds.shape (plain_fields c.args.command c.requires.plain).globals) c.subcommand.ensures;
}
