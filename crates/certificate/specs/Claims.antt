-- The certificate of a claim.
use Rattle.std.specs.Prelude.{◌≡◌, sum}
use Rattle.certificate.specs.declared.claim.Claim.TheInside.{Inside}
use Rattle.certificate.specs.Spelling.{Certificate}
use Rattle.certificate.specs.Valid.{HasGoodLines}

-- the certificate of a claim's fields
abbrev pub certificate_of_claim : Inside → Certificate
certificate_of_claim a =
    record {
      nodes = a.network.nodes;
      k = a.network.k;
      destination = a.destination;
      arcs = a.network.arcs;
      demand = a.demand.items;
      labels = a.labels.items;
      volumes = a.volumes.items;
      waits = a.waits.items;
    }

-- the lines are good, and the units are added up
pub record IsClaim (a : Inside) : Type 0 where
  pub lines : HasGoodLines (certificate_of_claim a)
  pub units : a.units ≡ sum a.demand.items
