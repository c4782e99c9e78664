use Rattle.definitions.proofs.LabelLemmas.{labels_dual}
use Rattle.definitions.proofs.labels.labels_are_dual.Goals as goal

pub returns : goal.returns
returns c = record { labels_are_dual = labels_dual }
