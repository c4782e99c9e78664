use Rattle.std.proofs.Common.{◌≡◌, ◌<◌, arith}
use Rattle.std.proofs.lemmas.List.{get_or_read}
use Rattle.assign.specs.Marks.{found_at}
use Rattle.assign.proofs.HubLemmas.{found_there}
use Rattle.assign.proofs.MarkLemmas.{found_within}
use Rattle.assign.proofs.marking.Marking.found_node.Goals as goal

pub index-requires : goal.index-requires
index-requires c =
    let within = found_within c.args.net.now c.args.self.now c.requires.places c.requires.found in
    let size = c.requires.places.place_per_node in
    let lt = c.requires.place in
    omega arith

pub returns : goal.returns
returns c =
    let within = found_within c.args.net.now c.args.self.now c.requires.places c.requires.found in
    let size = c.requires.places.place_per_node in
    let lt : c.args.place < c.args.self.now.count = c.requires.place in
    let node : c.index.result.now ≡ found_at c.args.self.now c.args.place =
    get_or_read c.args.self.now.found.items c.args.place c.index.result.now (omega arith) c.index.ensures 0 in
    let there = found_there c.args.net.now c.args.self.now c.args.place c.requires.places c.requires.found lt in
    record { there = omega arith }
