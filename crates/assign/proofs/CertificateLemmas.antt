-- The certificate of a visit is valid, and shows its cost and its bound.
use Rattle.std.proofs.Common.{◌≡◌, ℕ, ◌<◌, ◌≤◌, List, Option, Some, length, take, refl, sum, arith}
use Rattle.std.proofs.lemmas.List.Elements.{All-weaker}
use Rattle.certificate.specs.Spelling.{spelling}
use Rattle.certificate.specs.Valid.{IsValid, verdict_of}
use Rattle.definitions.specs.declared.limits.TheConstants.{VOLUME_LIMIT}
use Rattle.definitions.specs.Network.{IsNetwork}
use Rattle.definitions.proofs.LabelLemmas.{labels_dual}
use Rattle.definitions.proofs.LoadingLaws.{volumes_are_a_plan}
use Rattle.demand.specs.declared.tables.Pair.{Pair}
use Rattle.desk_io.specs.Told.{Appends}
use Rattle.network.specs.Cities.{CityData}
use Rattle.assign.specs.Printed.{AppendsPart, AppendsSome, PrintsCertificateFrom}
use Rattle.assign.specs.Prints.{IsCertificateAsked, IsCertificateTo, IsValidFor, PrintData, certificate_in}
use Rattle.assign.specs.Rooms.{IsFilled, visit_in}
use Rattle.assign.specs.Visits.{IsVisitOf, Visit}
use Rattle.assign.specs.declared.room.Room.{Room}

-- what fills a room for a destination has a valid certificate
pub room_valid : (city : CityData) (destination : ℕ) (room : Room) → IsNetwork city.net → IsFilled city.net destination room → IsValid (certificate_in city (visit_in destination room))
room_valid city destination room rules filled =
    let loaded = filled.loaded in
    let units = filled.units_within in
    record {
      lines = record {
        network = rules;
        destination = filled.there;
        demand_per_node = loaded.carried.demand_per_node;
        no_demand_at_destination = loaded.carried.none_at_destination;
        units = units;
        label_per_node = loaded.solves_labels.label_per_node;
        labels = filled.labels_within;
        volume_per_arc = loaded.solves_volumes.volume_per_arc;
        volumes =
            All-weaker (λ volume. volume ≤ sum room.demand.items) (λ volume. volume ≤ VOLUME_LIMIT) (λ volume within. omega (arith, units)) room.loads.volumes filled.volumes_within;
        wait_per_node = loaded.least_waits.wait_per_node;
        waits = filled.waits_within;
      };
      plan =
          volumes_are_a_plan city.net destination room.labels.reached room.labels.labels room.demand.items room.loads.volumes room.loads.waits
          loaded.well_formed loaded.solves_labels loaded.carried loaded.solves_volumes loaded.least_waits;
      dual = labels_dual city.net destination room.labels.reached room.labels.labels loaded.well_formed filled.reach loaded.solves_labels;
    }

-- the text of the certificate of a visit
pub written_certificate : (city : CityData) (pairs : List Pair) (zone : ℕ) (visit : Visit) (old new : Option (List ℕ)) → IsVisitOf city pairs zone visit →
    Appends old new (spelling (certificate_in city visit)) → AppendsSome (IsCertificateTo city pairs zone) old new
written_certificate city pairs zone visit old new is appended = record {
  bytes = spelling (certificate_in city visit);
  holds = record { visit = visit; is_visit = is; is_text = refl };
  appended = appended;
}

-- where it is valid, it shows the cost and the bound of the visit
pub written_valid : (city : CityData) (pairs : List Pair) (zone : ℕ) (visit : Visit) (old new : Option (List ℕ)) → IsVisitOf city pairs zone visit → IsValid (certificate_in city visit) →
    Appends old new (spelling (certificate_in city visit)) → AppendsSome (IsValidFor city pairs zone) old new
written_valid city pairs zone visit old new is valid appended = record {
  bytes = spelling (certificate_in city visit);
  holds = record {
    visit = visit;
    is_visit = is;
    is_text = refl;
    verdict = verdict_of (certificate_in city visit);
    shown = record { certificate = certificate_in city visit; text = refl; valid = valid; shown = refl };
    units = refl;
    cost = refl;
    bound = refl;
  };
  appended = appended;
}

pub cut_certificate : (city : CityData) (pairs : List Pair) (zone sent : ℕ) (visit : Visit) (old new : Option (List ℕ)) → IsVisitOf city pairs zone visit →
    sent < length (spelling (certificate_in city visit)) → Appends old new (take sent (spelling (certificate_in city visit))) → AppendsPart (IsCertificateTo city pairs zone) sent old new
cut_certificate city pairs zone sent visit old new is fewer appended = record {
  bytes = spelling (certificate_in city visit);
  holds = record { visit = visit; is_visit = is; is_text = refl };
  fewer = fewer;
  appended = appended;
}

-- ---- the zone that is asked for

pub asked_certificate : (source : PrintData) (asked : Option ℕ) (zone : ℕ) (old new : Option (List ℕ)) → asked ≡ Some zone → AppendsSome (IsCertificateTo source.city source.pairs zone) old new →
    AppendsSome (IsCertificateAsked source asked) old new
asked_certificate source asked zone old new is h = record {
  bytes = h.bytes;
  holds = record { zone = zone; is_asked = is; is_certificate = h.holds };
  appended = h.appended;
}

pub asked_part : (source : PrintData) (asked : Option ℕ) (zone sent : ℕ) (old new : Option (List ℕ)) → asked ≡ Some zone → AppendsPart (IsCertificateTo source.city source.pairs zone) sent old new →
    AppendsPart (IsCertificateAsked source asked) sent old new
asked_part source asked zone sent old new is h = record {
  bytes = h.bytes;
  holds = record { zone = zone; is_asked = is; is_certificate = h.holds };
  fewer = h.fewer;
  appended = h.appended;
}

pub asked_valid : (source : PrintData) (asked : Option ℕ) (zone : ℕ) (old new : Option (List ℕ)) → asked ≡ Some zone → AppendsSome (IsValidFor source.city source.pairs zone) old new →
    PrintsCertificateFrom source asked old new
asked_valid source asked zone old new is h = record {
  zone = zone;
  is_asked = is;
  bytes = h.bytes;
  is_valid = h.holds;
  appended = h.appended;
}
