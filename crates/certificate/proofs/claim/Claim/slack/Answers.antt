use Rattle.std.proofs.Common.{◌≡◌, ap, ◌∙◌, subst}
use Rattle.std.specs.Prelude.{◌==◌, sum, if◌then◌else◌}
use Rattle.definitions.specs.Totals.{boarding_stops, longest_wait, slack_of}
use Rattle.certificate.specs.Spelling.{Certificate, network_of}
use Rattle.certificate.specs.Claims.{certificate_of_claim}
use Rattle.certificate.specs.Valid.{verdict_of}
use Rattle.certificate.proofs.claim.Claim.slack.Goals as goal

pub returns : goal.returns
returns c =
    let units : c.self.inside.units ≡ sum c.self.inside.demand.items = c.self.invariant.units in
    let destinations : c.destinations_of-destinations.result ≡ (if sum c.self.inside.demand.items == 0 then 0 else 1) =
    c.destinations_of-destinations.ensures.value ∙ ap (λ u. if u == 0 then 0 else 1) units in
    record {
      value =
          subst (λ (d : Certificate). c.slack.result ≡ (verdict_of d).slack) c.self.view_is
          (c.slack.ensures.value
          ∙ ap (λ b. slack_of b c.self.inside.units c.longest_wait.result c.destinations_of-destinations.result) c.boarding_stops.ensures.value
          ∙ ap (λ u. slack_of (boarding_stops (network_of (certificate_of_claim c.self.inside))) u c.longest_wait.result c.destinations_of-destinations.result) units
          ∙ ap (λ h. slack_of (boarding_stops (network_of (certificate_of_claim c.self.inside))) (sum c.self.inside.demand.items) h c.destinations_of-destinations.result) c.longest_wait.ensures.value
          ∙ ap (slack_of (boarding_stops (network_of (certificate_of_claim c.self.inside))) (sum c.self.inside.demand.items) (longest_wait (network_of (certificate_of_claim c.self.inside)))) destinations);
    }
