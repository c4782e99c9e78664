use Rattle.std.proofs.Common.{arith}
use Rattle.line_report.proofs.TableLemmas.{leave_within, nodes_are}
use Rattle.line_report.proofs.table.Table.has_nodes.Goals as goal

pub returns : goal.returns
returns c = record {
  within = leave_within c.args.self.now c.city-city.result.now c.args.kept c.args.place c.rules.ensures.rules c.city-city.ensures.value c.rules-2.ensures.rules c.requires.kept c.requires.place;
  few =
      let nodes = nodes_are c.city-city.result.now c.args.self.now.city c.net.result.now c.nodes-nodes.result c.city-city.ensures.value c.net.ensures.value c.nodes-nodes.ensures.value in
      omega arith;
}
