use Rattle.std.proofs.Common.{◌≡◌, ℕ, Some, ap, ◌∙◌}
use Rattle.std.specs.Prelude.{slice_get}
use Rattle.std.proofs.lemmas.Result.{IfOk-weaker}
use Rattle.network.specs.declared.kinds.NodeKind.{NodeKind}
use Rattle.network.specs.Cities.{CityData, city_of}
use Rattle.network.specs.Nodes.{number_of}
use Rattle.network.specs.Sources.{Sources, sources_with}
use Rattle.network.specs.Standing.{IsCityOf}
use Rattle.network.proofs.CityLemmas.{made_numbered}
use Rattle.network.proofs.StandingLemmas.{made_stands}
use Rattle.network.proofs.building.build.Goals as goal

pub returns-clause-numbered : goal.returns-clause-numbered
returns-clause-numbered g c =
    let sources : Sources = sources_with c.args.feed.now c.args.lines.now.lines c.args.zones.now c.args.walks.now c.args.scenario.now in
    let is : c.new-given.result ≡ sources = c.new-given.ensures.value in
    IfOk-weaker c.city_of.result (λ (city : CityData). city ≡ city_of c.new-given.result c.args.k)
    (λ (city : CityData). (place : ℕ) (kind : NodeKind) → slice_get city.nodes place ≡ Some kind → number_of sources kind ≡ place)
    (λ city made. made_numbered sources c.args.k city (made ∙ ap (λ (s : Sources). city_of s c.args.k) is)) c.city_of.ensures.city

pub returns-clause-stands : goal.returns-clause-stands
returns-clause-stands g c =
    let sources : Sources = sources_with c.args.feed.now c.args.lines.now.lines c.args.zones.now c.args.walks.now c.args.scenario.now in
    let is : c.new-given.result ≡ sources = c.new-given.ensures.value in
    IfOk-weaker c.city_of.result (λ (city : CityData). city ≡ city_of c.new-given.result c.args.k)
    (λ (city : CityData). IsCityOf city c.args.feed.now c.args.lines.now.lines)
    (λ city made. made_stands sources c.args.k city c.requires.sources (made ∙ ap (λ (s : Sources). city_of s c.args.k) is)) c.city_of.ensures.city
