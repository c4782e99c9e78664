-- Values worked out by hand, which the definitions give: the certificate of one line, and that of the four stops of Spiess and Florian 1989.
use Rattle.std.proofs.Common.{◌≡◌, ℕ, zero, suc, ◌<◌, ◌≤◌, [], ◌∷◌, refl, arith, lit≤, lit<}
use Rattle.std.specs.Prelude.{codes, All}
use Rattle.std.specs.Fmt.{digits}
use Rattle.definitions.specs.Network.{IsWithinLimits, IsGrouped, cost_of, weight_of}
use Rattle.definitions.proofs.KnownValues.{one_line, one_line_demand, one_line_flows, one_line_waits, one_line_labels, one_line-well_formed, one_line-plan, one_line-dual}
use Rattle.definitions.proofs.FourStops.{four_stops, four_stops_demand, four_stops_flows, four_stops_waits, four_stops_labels}
use Rattle.certificate.specs.Spelling.{Certificate, spelling}
use Rattle.certificate.specs.Valid.{HasGoodLines, IsValid, verdict_of}

-- ---- one line

abbrev one_line_certificate : Certificate
one_line_certificate =
    record {
      nodes = 2;
      k = 1800000000;
      destination = 1;
      arcs = one_line.arcs;
      demand = one_line_demand;
      labels = one_line_labels;
      volumes = one_line_flows;
      waits = one_line_waits;
    }

-- the text of 126 bytes
one_line-text : spelling one_line_certificate ≡ codes "assignment-certificate 1\nnodes 2\narcs 1\nk 1800000000\ndestination 1\na 0 1 60000 7000\ng 1\ng 0\nu 317142\nu 0\nv 1\nq 257143\nq 0\nend\n"
unfolding digits
one_line-text = refl

one_line-verdict : verdict_of one_line_certificate ≡ record { units = 1; cost = 317143; bound = 317142; slack = 514287 }
one_line-verdict = refl

one_line-within : IsWithinLimits one_line
one_line-within =
    record {
      nodes = lit≤ tt;
      arcs = lit≤ tt;
      k = lit≤ tt;
      costs = costs;
      weights = weights;
    }
  where
    costs : (arc : ℕ) → arc < 1 → cost_of one_line arc ≤ 1000000000
    costs zero lt = lit≤ tt
    costs (suc arc) lt = absurd (omega arith)

    weights : (arc : ℕ) → arc < 1 → weight_of one_line arc ≤ 4294967295
    weights zero lt = lit≤ tt
    weights (suc arc) lt = absurd (omega arith)

one_line-grouped : IsGrouped one_line
one_line-grouped zero zero le lt = lit≤ tt
one_line-grouped (suc one) zero le lt = absurd (omega arith)
one_line-grouped one (suc later) le lt = absurd (omega arith)

one : (limit x : ℕ) → x ≤ limit → All (λ n. n ≤ limit) (x ∷ [])
one limit x within zero d lt = within
one limit x within (suc k) d lt = absurd (omega arith)

two : (limit x y : ℕ) → x ≤ limit → y ≤ limit → All (λ n. n ≤ limit) (x ∷ y ∷ [])
two limit x y first second zero d lt = first
two limit x y first second (suc zero) d lt = second
two limit x y first second (suc (suc k)) d lt = absurd (omega arith)

one_line-lines : HasGoodLines one_line_certificate
one_line-lines =
    record {
      network = record { well_formed = one_line-well_formed; within = one_line-within; grouped = one_line-grouped };
      destination = lit< tt;
      demand_per_node = refl;
      no_demand_at_destination = refl;
      units = lit≤ tt;
      label_per_node = refl;
      labels = two 9223372036854775807 317142 0 (lit≤ tt) (lit≤ tt);
      volume_per_arc = refl;
      volumes = one 1000000000000000 1 (lit≤ tt);
      wait_per_node = refl;
      waits = two 1000000000000000000000000000 257143 0 (lit≤ tt) (lit≤ tt);
    }

one_line-valid : IsValid one_line_certificate
one_line-valid = record { lines = one_line-lines; plan = one_line-plan; dual = one_line-dual }

-- ---- four stops

abbrev four_stops_certificate : Certificate
four_stops_certificate =
    record {
      nodes = 6;
      k = 2520;
      destination = 3;
      arcs = four_stops.arcs;
      demand = four_stops_demand;
      labels = four_stops_labels;
      volumes = four_stops_flows;
      waits = four_stops_waits;
    }

four_stops-verdict : verdict_of four_stops_certificate ≡ record { units = 12; cost = 27972; bound = 27972; slack = 7596 }
four_stops-verdict = refl
