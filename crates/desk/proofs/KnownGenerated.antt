-- Values of a small city, worked out by a Python program of forty lines from docs/FORMATS.md alone: the seed 6, with 8 stops, 3 lines and 3 zones.
use Rattle.std.proofs.Common.{◌≡◌, ℕ, ◌+◌, ◌/◌, ◌%◌, ◌<◌, ◌≤◌, List, [], ◌∷◌, ◌++◌, codes, refl, ap, ◌∙◌, arith}
use Rattle.std.proofs.lemmas.Fmt.{decimal_digit, decimal_step}
use Rattle.definitions.specs.Decimal.{line_end, numeral}
use Rattle.desk.specs.declared.gen_words.GenWords.{GenWords}
use Rattle.desk.specs.declared.generating.ways.Way.TheVariants.{Backwards, Forwards, Round}
use Rattle.desk.specs.Draws.{draw, state_after}
use Rattle.desk.specs.GeneratedLines.{call_time, calls, gap_of, headway_of, stop_at, way_of}
use Rattle.desk.specs.GeneratedTables.{draws_before_pair, draws_before_zone, others, pairs_before}
use Rattle.desk.specs.Generated.{stops_text}
use Rattle.desk.specs.Rows.{clock_text}

abbrev pub six : GenWords
six = record { seed = 6; stops = 8; lines = 3; zones = 3 }

-- ---- the lines: 0 and 1 call at all stops, and 2 goes round from s4 on, by seven stops a call: at s4, s3, s2

first_way : way_of six 0 ≡ Forwards
first_way = refl

second_way : way_of six 1 ≡ Backwards
second_way = refl

third_way : way_of six 2 ≡ Round 4 7
unfolding state_after
third_way = refl

first_gap : gap_of six 0 ≡ 131
unfolding state_after
first_gap = refl

first_headway : headway_of six 0 ≡ 902
unfolding state_after
first_headway = refl

second_gap : gap_of six 1 ≡ 153
unfolding state_after
second_gap = refl

third_gap : gap_of six 2 ≡ 66
unfolding state_after
third_gap = refl

third_headway : headway_of six 2 ≡ 636
unfolding state_after
third_headway = refl

last_backwards : stop_at 8 Backwards 7 ≡ 0
last_backwards = refl

second_round : stop_at 8 (Round 4 7) 1 ≡ 3
second_round = refl

calls_round : calls 8 (Round 4 7) ≡ 12
calls_round = refl

second_time : call_time 131 1 ≡ 21731
second_time = refl

-- ---- the zones: the second link of z2 leads to s3, and takes 61 seconds

third_zone : draws_before_zone six 2 ≡ 16
third_zone = refl

link_stop : draw 6 18 8 ≡ 3
unfolding state_after
link_stop = refl

link_seconds : 60 + draw 6 19 540 ≡ 61
unfolding state_after
link_seconds = refl

-- ---- the demand: of the six pairs, z1 to z0 has 25 trips and z2 to z1 has 27

other_zones : others 1 3 ≡ 0 ∷ 2 ∷ []
other_zones = refl

last_pair : pairs_before 3 2 1 ≡ 5
last_pair = refl

before_first_pair : draws_before_pair six 0 ≡ 20
unfolding draws_before_pair
before_first_pair = refl

before_trips : draws_before_pair six 2 ≡ 22
unfolding draws_before_pair state_after
before_trips = refl

behind_trips : draws_before_pair six 3 ≡ 24
unfolding draws_before_pair state_after
behind_trips = refl

before_last_pair : draws_before_pair six 5 ≡ 26
unfolding draws_before_pair state_after
before_last_pair = refl

has_no_trips : draw 6 24 5 ≡ 2
unfolding state_after
has_no_trips = refl

last_trips : 1 + draw 6 27 50 ≡ 27
unfolding state_after
last_trips = refl

-- ---- texts

two_digits_are : (n : ℕ) → 10 ≤ n → n < 100 → numeral n ≡ (48 + n / 10) ∷ (48 + n % 10) ∷ []
two_digits_are n least most = decimal_step n least (omega arith) ∙ ap (λ front. front ++ (48 + n % 10) ∷ []) (decimal_digit (n / 10) (omega arith))

second_clock : clock_text 21731 ≡ codes "06:02:11"
unfolding clock_text
second_clock =
    ap (λ hours. 48 ∷ (hours ++ codes ":" ++ (48 ∷ numeral 2) ++ codes ":" ++ numeral 11)) (decimal_digit 6 (omega arith))
    ∙ ap (λ minutes. codes "06:" ++ (48 ∷ minutes) ++ codes ":" ++ numeral 11) (decimal_digit 2 (omega arith))
    ∙ ap (λ seconds. codes "06:02:" ++ seconds) (two_digits_are 11 (omega arith) (omega arith))

two_stops : stops_text 2 ≡ codes "stop_id" ++ line_end ++ codes "s0" ++ line_end ++ codes "s1" ++ line_end
two_stops =
    ap (λ first. codes "stop_id" ++ line_end ++ ((((115 ∷ first) ++ []) ++ line_end) ++ ((((115 ∷ numeral 1) ++ []) ++ line_end) ++ []))) (decimal_digit 0 (omega arith))
    ∙ ap (λ second. codes "stop_id" ++ line_end ++ (codes "s0" ++ line_end ++ ((((115 ∷ second) ++ []) ++ line_end) ++ []))) (decimal_digit 1 (omega arith))
