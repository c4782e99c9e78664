-- The files of a city are shorter than a file may be.
use Rattle.std.proofs.Common.{◌≡◌, ℕ, zero, suc, Bool, true, false, cond, nat_lt, ◌+◌, ◌*◌, ◌/◌, ◌%◌, ◌<◌, ◌≤◌, List, [], ◌∷◌, ◌++◌, codes, length, refl, ap, sym, ◌∙◌, arith, length-append}
use Rattle.std.proofs.Math.Nat.{mod-lt}
use Rattle.std.proofs.lemmas.Fmt.{length-decimal-le}
use Rattle.std.specs.List.{flat_map, range_with_len}
use Rattle.definitions.specs.Decimal.{line_end, numeral}
use Rattle.desk.specs.declared.gen_words.GenWords.{GenWords}
use Rattle.desk.specs.declared.generating.ways.Way.{Way}
use Rattle.desk.specs.declared.generating.ways.Way.TheVariants.{Forwards, Backwards, Round}
use Rattle.desk.specs.GeneratedLines.{call_time, calls, gap_of, headway_of, stop_at, way_of}
use Rattle.desk.specs.Generable.{IsGenerable}
use Rattle.desk.specs.Generated.{AreShort, band_row, call_of, calls_text, generated}
use Rattle.desk.specs.Rows.{clock_text, id, row_text, sheet_text, two_digits}
use Rattle.desk.proofs.RowLemmas.{rows_more}

-- ---- pieces

-- a number below a hundred thousand has at most five digits
pub short_numeral : (n : ℕ) → n < 100000 → length (numeral n) ≤ 5
short_numeral n below = length-decimal-le 5 n (omega arith) below (omega arith)

-- at most one nought stands before it
nought : (b : Bool) → length (cond b (codes "0") (codes "")) ≤ 1
nought true = omega arith
nought false = omega arith

-- and then at most six
pub short_two_digits : (n : ℕ) → n < 100000 → length (two_digits n) ≤ 6
short_two_digits n below = omega (arith, length-append (cond (nat_lt n 10) (codes "0") (codes "")) (numeral n), nought (nat_lt n 10), short_numeral n below)

-- the clock of a day or more
pub short_clock : (seconds : ℕ) → seconds < 1000000 → length (clock_text seconds) ≤ 20
unfolding clock_text
short_clock seconds below =
    let hours = short_two_digits (seconds / 3600) (omega arith) in
    let minutes = short_two_digits (seconds / 60 % 60) (omega arith) in
    let rest = short_two_digits (seconds % 60) (omega arith) in
    joined (two_digits (seconds / 3600)) (two_digits (seconds / 60 % 60)) (two_digits (seconds % 60)) hours minutes rest
  where
    joined : (a b c : List ℕ) → length a ≤ 6 → length b ≤ 6 → length c ≤ 6 → length (a ++ codes ":" ++ b ++ codes ":" ++ c) ≤ 20
    joined a b c p q r = simp length-append (omega arith)

-- ---- rows

-- the length of a row of one field
pub one_length : (a : List ℕ) → length (row_text (a ∷ [])) ≡ length a + 1
one_length a = simp length-append (omega arith)

-- the length of a row of three fields
pub three_length : (a b c : List ℕ) → length (row_text (a ∷ b ∷ c ∷ [])) ≡ length a + length b + length c + 3
three_length a b c = simp length-append (omega arith)

-- the length of a row of four fields
pub four_length : (a b c d : List ℕ) → length (row_text (a ∷ b ∷ c ∷ d ∷ [])) ≡ length a + length b + length c + length d + 4
four_length a b c d = simp length-append (omega arith)

-- the length of a row of five fields
pub five_length : (a b c d e : List ℕ) → length (row_text (a ∷ b ∷ c ∷ d ∷ e ∷ [])) ≡ length a + length b + length c + length d + length e + 5
five_length a b c d e = simp length-append (omega arith)

-- the rows of things, each of at most so many bytes
pub rows_short : (rows : ℕ → List ℕ) (most n : ℕ) → ((i : ℕ) → i < n → length (rows i) ≤ most) → length (flat_map rows (range_with_len 0 n)) ≤ n * most
rows_short rows most zero each = omega arith
rows_short rows most (suc n) each =
    let e : suc n ≡ n + 1 = omega arith in
    let one : length (flat_map rows (range_with_len 0 (suc n))) ≡ length (flat_map rows (range_with_len 0 n)) + length (rows n) =
    ap (λ m. length (flat_map rows (range_with_len 0 m))) e
    ∙ ap length (sym (rows_more [] rows n refl refl))
    ∙ length-append (flat_map rows (range_with_len 0 n)) (rows n) in
    let before = rows_short rows most n (λ i below. each i (omega arith)) in
    let here = each n (omega arith) in
    omega arith

-- a sheet of such rows
pub sheet_short : (names : List ℕ) (rows : ℕ → List ℕ) (most n : ℕ) → ((i : ℕ) → i < n → length (rows i) ≤ most) → length (sheet_text names rows n) ≤ length names + 1 + n * most
sheet_short names rows most n each =
    omega (arith, length-append (names ++ line_end) (flat_map rows (range_with_len 0 n)), length-append names line_end, rows_short rows most n each)

-- ---- the lines

-- no way has more calls than there may be stops
pub calls_within : (stops : ℕ) (way : Way) → stops ≤ 5000 → calls stops way ≤ 5000
calls_within stops Forwards within = within
calls_within stops Backwards within = within
calls_within stops (Round first step) within = omega arith

-- each call is at a stop
pub stop_within : (stops : ℕ) (way : Way) (call : ℕ) → 0 < stops → call < calls stops way → stop_at stops way call < stops
stop_within stops Forwards call some below = below
stop_within stops Backwards call some below = omega arith
stop_within stops (Round first step) call some below = mod-lt (first + call * step) some

-- a call
pub call_short : (words : GenWords) → IsGenerable words → (line : ℕ) → line < words.lines → (call : ℕ) → call < calls words.stops (way_of words line) → length (call_of words line call) ≤ 62
call_short words range line of call below =
    let few = calls_within words.stops (way_of words line) range.most_stops in
    let stop = stop_within words.stops (way_of words line) call (omega arith) below in
    let product : call * gap_of words line ≤ 5000 * 180 = grind arith in
    let time = short_clock (call_time (gap_of words line) call) (omega arith) in
    omega (
      arith,
      five_length (id (codes "t") line) (clock_text (call_time (gap_of words line) call)) (clock_text (call_time (gap_of words line) call))
          (id (codes "s") (stop_at words.stops (way_of words line) call)) (numeral (call + 1)),
      short_numeral line (omega arith),
      time,
      short_numeral (stop_at words.stops (way_of words line) call) (omega arith),
      short_numeral (call + 1) (omega arith),
    )

-- the calls of a line
pub calls_short : (words : GenWords) → IsGenerable words → (line : ℕ) → line < words.lines → length (calls_text words line) ≤ 310000
calls_short words range line of =
    let few = calls_within words.stops (way_of words line) range.most_stops in
    omega (arith, rows_short (call_of words line) 62 (calls words.stops (way_of words line)) (call_short words range line of))

-- how often a line runs
pub band_short : (words : GenWords) → IsGenerable words → (line : ℕ) → line < words.lines → length (band_row line (headway_of words line)) ≤ 31
band_short words range line of =
    omega (
      arith,
      four_length (id (codes "t") line) (codes "06:00:00") (codes "22:00:00") (numeral (headway_of words line)),
      short_numeral line (omega arith),
      short_numeral (headway_of words line) (omega arith),
    )

-- a trip
pub trip_short : (line : ℕ) → line < 500 → length (row_text (id (codes "r") line ∷ codes "all" ∷ id (codes "t") line ∷ [])) ≤ 18
trip_short line of = omega (arith, three_length (id (codes "r") line) (codes "all") (id (codes "t") line), short_numeral line (omega arith))

-- ---- the files

-- each file of the feed
pub all_short : (words : GenWords) → IsGenerable words → AreShort (generated words)
all_short words range = record {
  stops = omega (
    arith,
    sheet_short (codes "stop_id") (λ stop. row_text (id (codes "s") stop ∷ [])) 7 words.stops
        (λ stop of. omega (arith, one_length (id (codes "s") stop), short_numeral stop (omega arith))),
  );
  routes = omega (
    arith,
    sheet_short (codes "route_id") (λ line. row_text (id (codes "r") line ∷ [])) 7 words.lines
        (λ line of. omega (arith, one_length (id (codes "r") line), short_numeral line (omega arith))),
  );
  calendar_dates = omega arith;
  trips = omega (
    arith,
    sheet_short (codes "route_id,service_id,trip_id") (λ line. row_text (id (codes "r") line ∷ codes "all" ∷ id (codes "t") line ∷ [])) 18 words.lines
        (λ line of. trip_short line (omega arith)),
  );
  stop_times = omega (arith, sheet_short (codes "trip_id,arrival_time,departure_time,stop_id,stop_sequence") (calls_text words) 310000 words.lines (calls_short words range));
  frequencies = omega (arith, sheet_short (codes "trip_id,start_time,end_time,headway_secs") (λ line. band_row line (headway_of words line)) 31 words.lines (band_short words range));
}
