use Rattle.assign.proofs.HubLemmas.{reaches_through}
use Rattle.assign.proofs.MarkLemmas.{marked_there}
use Rattle.assign.proofs.ways.Ways.take_hub.Goals as goal

pub returns : goal.returns
returns c = record {
  ways = record {
    to_hub = c.find.ensures.places;
    from_hub = c.find_from.ensures.places;
    to_goal = c.requires.ways.to_goal;
    joined = λ origin goal to from. reaches_through c.args.net.now goal c.args.hub origin
        ((c.find.ensures.reach.exact origin (marked_there c.args.net.now c.find.new.self origin c.find.ensures.places to)).0 to)
        (c.find_from.ensures.reached goal from);
  };
}
