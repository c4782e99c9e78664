use Rattle.definitions.proofs.LabelLemmas.{reach_unique, labels_unique}
use Rattle.definitions.proofs.labels.labels_are_unique.Goals as goal

pub returns : goal.returns
returns c = record { reach_is_unique = reach_unique; labels_are_unique = labels_unique }
