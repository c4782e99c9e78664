-- The tables of a generated city: zones and demand. Here: docs/FORMATS.md.
use Rattle.std.specs.Prelude.{ℕ, zero, suc, List, [], ◌∷◌, ◌++◌, ◌+◌, ◌-◌, ◌*◌, ◌==◌, codes, filter, length, not, if◌then◌else◌}
use Rattle.std.specs.List.{flat_map, range_with_len}
use Rattle.definitions.specs.Decimal.{numeral}
use Rattle.desk.specs.declared.gen_words.GenWords.{GenWords}
use Rattle.desk.specs.Draws.{draw}
use Rattle.desk.specs.GeneratedLines.{draws_before_line}
use Rattle.desk.specs.Rows.{id, row_text, sheet_text}

-- ---- zones

-- the draws before those of a zone: all of the lines, and four of each zone before it
abbrev pub draws_before_zone : GenWords → ℕ → ℕ
draws_before_zone words zone = draws_before_line words.lines + 4 * zone

-- a link of a zone: the stop that is drawn behind so many draws, and the walking seconds that are drawn next
abbrev pub link_row : GenWords → ℕ → ℕ → List ℕ
link_row words zone before = row_text
    (id (codes "z") zone
    ∷ id (codes "s") (draw words.seed before words.stops)
    ∷ numeral (60 + draw words.seed (before + 1) 540)
    ∷ [])

-- the two links of a zone
abbrev pub zone_rows : GenWords → ℕ → List ℕ
zone_rows words zone = link_row words zone (draws_before_zone words zone) ++ link_row words zone (draws_before_zone words zone + 2)

-- the first zones
abbrev pub zone_sheet : GenWords → ℕ → List ℕ
zone_sheet words zones = sheet_text (codes "zone_id,stop_id,walk_secs") (zone_rows words) zones

-- ---- demand: pairs of an origin and another zone, by origin and then by destination

-- the zones other than the origin, of so many
abbrev pub others : ℕ → ℕ → List ℕ
others origin count = filter (λ zone. not (zone == origin)) (range_with_len 0 count)

-- how many pairs stand before that of an origin and a destination: those of the origins before, and those with the destinations before
abbrev pub pairs_before : ℕ → ℕ → ℕ → ℕ
pairs_before zones origin destination = origin * (zones - 1) + length (others origin destination)

-- the draws before those of a pair, by how many pairs stand before it: those of the zones, one for each of the pairs, and one more for each with trips
unfoldable pub draws_before_pair : GenWords → ℕ → ℕ
draws_before_pair words zero = draws_before_zone words words.zones
draws_before_pair words (suc pairs) = draws_before_pair words pairs + (if draw words.seed (draws_before_pair words pairs) 5 == 0 then 2 else 1)

-- the row of a pair with so many draws before it: the next draw, of five, is 0 where it has trips, and then one more says how many
abbrev pub trips_rows : GenWords → ℕ → ℕ → ℕ → List ℕ
trips_rows words origin destination before =
    if draw words.seed before 5 == 0
    then row_text (id (codes "z") origin ∷ id (codes "z") destination ∷ numeral (1 + draw words.seed (before + 1) 50) ∷ [])
    else []

-- the row of a pair, where it has trips
abbrev pub pair_rows : GenWords → ℕ → ℕ → List ℕ
pair_rows words origin destination = trips_rows words origin destination (draws_before_pair words (pairs_before words.zones origin destination))

-- the rows of the pairs of an origin
abbrev pub pairs_from : GenWords → ℕ → List ℕ
pairs_from words origin = flat_map (pair_rows words origin) (others origin words.zones)

-- the demand from the first zones
abbrev pub demand_sheet : GenWords → ℕ → List ℕ
demand_sheet words origins = sheet_text (codes "origin,destination,trips") (pairs_from words) origins
