-- The text of a table, page by page.
use Rattle.std.proofs.Common.{◌≡◌, ℕ, zero, suc, ◌+◌, ◌-◌, ◌<◌, ◌≤◌, List, [], ◌∷◌, ◌++◌, Option, None, Some, length, refl, take, sym, ap, subst, ◌∙◌, append_assoc, append-nil, length-append, map, take_all, arith, zero-add}
use Rattle.std.specs.Prelude.{flat_map}
use Rattle.std.specs.List.{range_with_len}
use Rattle.std.proofs.lemmas.Grind.{flat_map-append}
use Rattle.std.proofs.lemmas.List.{map-append, take-append-le}
use Rattle.csv.specs.Writing.{default_writer, row_text}
use Rattle.definitions.proofs.Spans.{range_split}
use Rattle.definitions.proofs.Sums.{range_more}
use Rattle.desk_io.specs.Told.{Appends}
use Rattle.desk_io.proofs.ToldLemmas.{appends_then}
use Rattle.line_report.specs.Sending.{AppendsFront, IsSent, CutsShort}
use Rattle.line_report.specs.Tables.{Row, TableData, line_header, lines_text, rows_of_line, rows_of_segments, rows_of_stop, rows_text, segment_header, segments_text, stop_header, stops_text, table_text}
use Rattle.line_report.proofs.PlaceLemmas.{places_more}

-- the text of rows and more rows
pub rows_then : (rows more : List Row) → rows_text (rows ++ more) ≡ rows_text rows ++ rows_text more
rows_then rows more = flat_map-append (row_text default_writer) rows more

-- the rows of one group more
pub group_more : (rows : ℕ → List Row) (from step : ℕ) (before after : List ℕ) → before ≡ rows_text (flat_map rows (range_with_len from step)) →
    after ≡ before ++ rows_text (rows (from + step)) → after ≡ rows_text (flat_map rows (range_with_len from (step + 1)))
group_more rows from step before after so_far added =
    added
    ∙ ap (λ t. t ++ rows_text (rows (from + step))) so_far
    ∙ sym (rows_then (flat_map rows (range_with_len from step)) (rows (from + step)))
    ∙ ap rows_text (sym (ap (flat_map rows) (range_more from step)
    ∙ flat_map-append rows (range_with_len from step) ((from + step) ∷ [])
    ∙ ap (λ last. flat_map rows (range_with_len from step) ++ last) (append-nil (rows (from + step)))))

-- one row more
pub row_more : (row : ℕ → Row) (n : ℕ) (first before after : List ℕ) → before ≡ first ++ rows_text (map row (range_with_len 0 n)) → after ≡ before ++ rows_text (row n ∷ []) →
    after ≡ first ++ rows_text (map row (range_with_len 0 (n + 1)))
row_more row n first before after so_far added =
    added
    ∙ ap (λ t. t ++ rows_text (row n ∷ [])) so_far
    ∙ append_assoc first (rows_text (map row (range_with_len 0 n))) (rows_text (row n ∷ []))
    ∙ ap (λ t. first ++ t) (sym (rows_then (map row (range_with_len 0 n)) (row n ∷ []))
    ∙ ap rows_text (sym (ap (map row) (places_more n) ∙ map-append row (range_with_len 0 n) (n ∷ []))))

-- the rows of a page behind those of the groups before it
pub table_more : (header : Row) (rows : ℕ → List Row) (from count : ℕ) →
    table_text header rows (from + count) ≡ table_text header rows from ++ rows_text (flat_map rows (range_with_len from count))
table_more header rows from count =
    let z : 0 + from ≡ from = zero-add from in
    let numbers : range_with_len 0 (from + count) ≡ range_with_len 0 from ++ range_with_len from count =
    range_split 0 from count ∙ ap (λ s. range_with_len 0 from ++ range_with_len s count) z in
    ap (λ ns. rows_text (header ∷ flat_map rows ns)) numbers
    ∙ ap (λ more. rows_text (header ∷ more)) (flat_map-append rows (range_with_len 0 from) (range_with_len from count))
    ∙ rows_then (header ∷ flat_map rows (range_with_len 0 from)) (flat_map rows (range_with_len from count))

-- one more piece was sent
pub sent_more : (first mid last : Option (List ℕ)) (front piece : List ℕ) (before sent : ℕ) → IsSent first mid front before → Appends mid last piece → sent ≡ before + length piece →
    IsSent first last (front ++ piece) sent
sent_more first mid last front piece before sent so_far appended counted = record {
  all = let is = so_far.all in omega (arith, length-append front piece);
  appended = appends_then first mid last front piece so_far.appended appended;
}

-- a piece that was cut short cuts the whole text short
pub whole_stops : (first mid last : Option (List ℕ)) (front piece rest whole : List ℕ) (before sent : ℕ) → whole ≡ front ++ piece ++ rest →
    IsSent first mid front before → CutsShort mid last before piece sent → (sent < length whole) × Appends first last (take sent whole)
whole_stops first mid last front piece rest whole before sent is so_far stop =
    let all = so_far.all in
    let count = stop.count in
    let short = stop.within in
    let counted : sent ≡ length front + count = let e = stop.all in omega arith in
    let size = ap length is in
    let bytes : take sent whole ≡ front ++ take count piece =
    ap (λ text. take sent text) is ∙ cut front piece rest count sent counted (omega arith) in (
      omega (arith, length-append (front ++ piece) rest, length-append front piece),
      subst (Appends first last) (sym bytes) (appends_then first mid last front (take count piece) so_far.appended stop.appended),
    )
  where
    -- the first elements of a list behind a front
    cut : (front piece rest : List ℕ) (count n : ℕ) → n ≡ length front + count → count ≤ length piece → take n (front ++ piece ++ rest) ≡ front ++ take count piece
    cut [] piece rest count n e le = let z : n ≡ count = omega arith in rw z (take-append-le count piece rest le)
    cut (x ∷ front) piece rest count zero e le = absurd (omega arith)
    cut (x ∷ front) piece rest count (suc n) e le = ap (λ xs. x ∷ xs) (cut front piece rest count n (omega arith) le)

-- where memory runs out, the front of the text was written
pub front_of : (first last : Option (List ℕ)) (front rest whole : List ℕ) (sent : ℕ) → whole ≡ front ++ rest → IsSent first last front sent → AppendsFront first last whole
front_of first last front rest whole sent is so_far = record {
  count = length front;
  within = let size = ap length is in omega (arith, length-append front rest);
  appended =
      let bytes : take (length front) whole ≡ front =
      ap (take (length front)) is ∙ take-append-le (length front) front rest (omega arith) ∙ take_all (length front) front (omega arith) in
      subst (Appends first last) (sym bytes) so_far.appended;
}

-- ---- the pieces of a table

-- nothing was sent yet
nothing_sent : (old : Option (List ℕ)) → IsSent old old [] 0
nothing_sent old = record { all = refl; appended = same old }
  where
    same : (o : Option (List ℕ)) → Appends o o []
    same None = refl
    same (Some bytes) = ap Some (sym (append-nil bytes))

-- its header was sent
pub header_sent : (old new : Option (List ℕ)) (header : Row) (rows : ℕ → List Row) (piece : List ℕ) (sent : ℕ) → piece ≡ rows_text (header ∷ []) → Appends old new piece →
    sent ≡ 0 + length piece → IsSent old new (table_text header rows 0) sent
header_sent old new header rows piece sent is appended counted =
    subst (λ text. IsSent old new text sent) is (sent_more old old new [] piece 0 sent (nothing_sent old) appended counted)

-- it was cut short
pub header_stops : (old new : Option (List ℕ)) (header : Row) (rows : ℕ → List Row) (groups : ℕ) (piece : List ℕ) (sent : ℕ) → piece ≡ rows_text (header ∷ []) →
    CutsShort old new 0 piece sent → (sent < length (table_text header rows groups)) × Appends old new (take sent (table_text header rows groups))
header_stops old new header rows groups piece sent is stop =
    let more = flat_map rows (range_with_len 0 groups) in
    whole_stops old old new [] piece (rows_text more) (table_text header rows groups) 0 sent (rows_then (header ∷ []) more ∙ ap (λ t. t ++ rows_text more) (sym is)) (nothing_sent old) stop

-- a page behind the pages before it was sent
pub page_sent : (first mid last : Option (List ℕ)) (header : Row) (rows : ℕ → List Row) (from count : ℕ) (piece : List ℕ) (before sent : ℕ) →
    piece ≡ rows_text (flat_map rows (range_with_len from count)) → IsSent first mid (table_text header rows from) before → Appends mid last piece → sent ≡ before + length piece →
    IsSent first last (table_text header rows (from + count)) sent
page_sent first mid last header rows from count piece before sent is so_far appended counted =
    subst (λ text. IsSent first last text sent) (ap (λ t. table_text header rows from ++ t) is ∙ sym (table_more header rows from count))
    (sent_more first mid last (table_text header rows from) piece before sent so_far appended counted)

-- it was cut short
pub page_stops : (first mid last : Option (List ℕ)) (header : Row) (rows : ℕ → List Row) (from count groups : ℕ) (piece : List ℕ) (before sent : ℕ) → from + count ≤ groups →
    piece ≡ rows_text (flat_map rows (range_with_len from count)) → IsSent first mid (table_text header rows from) before → CutsShort mid last before piece sent →
    (sent < length (table_text header rows groups)) × Appends first last (take sent (table_text header rows groups))
page_stops first mid last header rows from count groups piece before sent within is so_far stop =
    let left = groups - (from + count) in
    let all : groups ≡ from + count + left = omega arith in
    let rest = rows_text (flat_map rows (range_with_len (from + count) left)) in
    whole_stops first mid last (table_text header rows from) piece rest (table_text header rows groups) before sent
    (ap (table_text header rows) all
    ∙ table_more header rows (from + count) left
    ∙ ap (λ front. front ++ rest) (table_more header rows from count ∙ ap (λ t. table_text header rows from ++ t) (sym is)))
    so_far stop

-- the pages that were sent are a front of the table
pub pages_front : (first last : Option (List ℕ)) (header : Row) (rows : ℕ → List Row) (from groups sent : ℕ) → from ≤ groups → IsSent first last (table_text header rows from) sent →
    AppendsFront first last (table_text header rows groups)
pages_front first last header rows from groups sent within so_far =
    let left = groups - from in
    let all : groups ≡ from + left = omega arith in
    front_of first last (table_text header rows from) (rows_text (flat_map rows (range_with_len from left))) (table_text header rows groups) sent
    (ap (table_text header rows) all ∙ table_more header rows from left) so_far

-- what is written is the table of lines, of stops, of segments
pub lines_are : (header : Row) (table whole : TableData) → header ≡ line_header → table ≡ whole → table_text header (rows_of_line table) (length table.city.kept) ≡ lines_text whole
lines_are header table whole named is = ap (λ h. table_text h (rows_of_line table) (length table.city.kept)) named ∙ ap lines_text is

pub stops_are : (header : Row) (table whole : TableData) → header ≡ stop_header → table ≡ whole → table_text header (rows_of_stop table) (length table.feed.stops) ≡ stops_text whole
stops_are header table whole named is = ap (λ h. table_text h (rows_of_stop table) (length table.feed.stops)) named ∙ ap stops_text is

pub segments_are : (header : Row) (table whole : TableData) → header ≡ segment_header → table ≡ whole →
    table_text header (rows_of_segments table) (length table.city.kept) ≡ segments_text whole
segments_are header table whole named is = ap (λ h. table_text h (rows_of_segments table) (length table.city.kept)) named ∙ ap segments_text is
