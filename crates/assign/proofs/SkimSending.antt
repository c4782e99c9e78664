-- The table of skims is sent zone by zone.
use Rattle.std.proofs.Common.{◌≡◌, ℕ, zero, suc, ◌+◌, ◌<◌, ◌≤◌, List, [], ◌∷◌, ◌++◌, Option, length, take, refl, sym, ap, subst, ◌∙◌, length-append, arith, zero-add}
use Rattle.std.specs.List.{AllZip, flat_map, range_with_len}
use Rattle.std.proofs.lemmas.Grind.{flat_map-append}
use Rattle.std.proofs.lemmas.List.{append-nil, length-take-le, take-append-le, take_all}
use Rattle.std.proofs.lemmas.List.FromFn.{length-range_with_len}
use Rattle.definitions.proofs.Spans.{range_split}
use Rattle.desk_io.specs.Told.{Appends}
use Rattle.desk_io.proofs.ToldLemmas.{appends_then}
use Rattle.line_report.specs.Sending.{CutsShort}
use Rattle.line_report.specs.Tables.{Row, rows_text}
use Rattle.network.specs.Cities.{CityData}
use Rattle.assign.specs.Printed.{AppendsFrontOf, AppendsPart, AppendsSome}
use Rattle.assign.specs.SkimSteps.{BeginsSkims, IsSentPartly, IsSentTo, IsSentToSome, IsTextTo, parts_text}
use Rattle.assign.specs.SkimTables.{AreRowsTo, IsSkimTable, skim_header}
use Rattle.assign.proofs.SkimLemmas.{text_then}
use Rattle.assign.proofs.ZoneLemmas.{zip_more}

-- ---- zones

-- the first of some zones from one on
first_zones : (from done count : ℕ) → done ≤ count → take done (range_with_len from count) ≡ range_with_len from done
first_zones from zero count within = refl
first_zones from (suc done) zero within = absurd (omega arith)
first_zones from (suc done) (suc count) within = ap (λ zones. from ∷ zones) (first_zones (from + 1) done count (omega arith))

-- one more
next_zone : (from done : ℕ) → range_with_len from (done + 1) ≡ range_with_len from done ++ (from + done) ∷ []
next_zone from done = range_split from done 1

-- ---- texts

-- the text of one more part
one_part : (parts : List (List Row)) (rows : List Row) → parts_text (parts ++ rows ∷ []) ≡ parts_text parts ++ rows_text rows
one_part parts rows =
    ap (λ (all : List Row). rows_text all) (flat_map-append (λ (part : List Row). part) parts (rows ∷ []))
    ∙ text_then (flat_map (λ part. part) parts) (rows ++ [])
    ∙ ap (λ (last : List Row). parts_text parts ++ rows_text last) (append-nil rows)

-- the text of a header and of parts
header_then : (parts : List (List Row)) → rows_text (skim_header ∷ flat_map (λ rows. rows) parts) ≡ rows_text (skim_header ∷ []) ++ parts_text parts
header_then parts = text_then (skim_header ∷ []) (flat_map (λ rows. rows) parts)

-- the first bytes of a text behind a front
cut_text : (front text : List ℕ) (count n : ℕ) → n ≡ length front + count → take n (front ++ text) ≡ front ++ take count text
cut_text [] text count n e = let z : n ≡ count = omega arith in rw z refl
cut_text (x ∷ front) text count zero e = absurd (omega arith)
cut_text (x ∷ front) text count (suc n) e = ap (λ xs. x ∷ xs) (cut_text front text count n (omega arith))

-- ---- zone by zone

-- nothing was sent yet
pub none_sent : (city : CityData) (names : List (List ℕ)) (from before : ℕ) (old : Option (List ℕ)) → Appends old old [] → IsSentTo city names (range_with_len from 0) before before old old
none_sent city names from before old appended = record { parts = []; each = tt; all = omega arith; appended = appended }

-- one more zone was sent
pub zone_sent : (city : CityData) (names : List (List ℕ)) (from done before mid sent : ℕ) (old one new : Option (List ℕ)) (page : List ℕ) →
    IsSentTo city names (range_with_len from done) before mid old one → IsTextTo city names (from + done) page → sent ≡ mid + length page → Appends one new page →
    IsSentTo city names (range_with_len from (done + 1)) before sent old new
zone_sent city names from done before mid sent old one new page so_far text counted appended =
    let parts : List (List Row) = so_far.parts ++ text.rows ∷ [] in
    let bytes : parts_text parts ≡ parts_text so_far.parts ++ page = one_part so_far.parts text.rows ∙ ap (λ (last : List ℕ). parts_text so_far.parts ++ last) (sym text.is_text) in
    record {
      parts = parts;
      each =
          subst (λ (zones : List ℕ). AllZip (AreRowsTo city names) zones parts) (sym (next_zone from done))
          (zip_more (AreRowsTo city names) (range_with_len from done) so_far.parts (from + done) text.rows so_far.each text.to_zone);
      all = let first = so_far.all in let size = ap length bytes in omega (arith, length-append (parts_text so_far.parts) page);
      appended = subst (Appends old new) (sym bytes) (appends_then old one new (parts_text so_far.parts) page so_far.appended appended);
    }

-- a zone was sent in part
pub zone_cut : (city : CityData) (names : List (List ℕ)) (from done count before mid sent : ℕ) (old one new : Option (List ℕ)) (page : List ℕ) → done < count →
    IsSentTo city names (range_with_len from done) before mid old one → IsTextTo city names (from + done) page → CutsShort one new mid page sent →
    IsSentPartly city names (range_with_len from count) before sent old new
zone_cut city names from done count before mid sent old one new page within so_far text cut =
    let parts : List (List Row) = so_far.parts ++ text.rows ∷ [] in
    let front : List ℕ = parts_text so_far.parts in
    let bytes : parts_text parts ≡ front ++ page = one_part so_far.parts text.rows ∙ ap (λ (last : List ℕ). front ++ last) (sym text.is_text) in
    let size = ap length bytes in
    let short = cut.within in
    let begun : take (length front + cut.count) (parts_text parts) ≡ front ++ take cut.count page =
    ap (take (length front + cut.count)) bytes ∙ cut_text front page cut.count (length front + cut.count) refl in
    record {
      zones_begun = done + 1;
      parts = parts;
      each =
          subst (λ (zones : List ℕ). AllZip (AreRowsTo city names) zones parts) (sym (first_zones from (done + 1) count (omega arith) ∙ next_zone from done))
          (zip_more (AreRowsTo city names) (range_with_len from done) so_far.parts (from + done) text.rows so_far.each text.to_zone);
      count = length front + cut.count;
      fewer = omega (arith, length-append front page);
      all = let first = so_far.all in let last = cut.all in omega arith;
      appended = subst (Appends old new) (sym begun) (appends_then old one new front (take cut.count page) so_far.appended cut.appended);
    }

-- where memory runs out, some first zones were sent
pub zones_sent : (city : CityData) (names : List (List ℕ)) (from done count before mid : ℕ) (old new : Option (List ℕ)) → done ≤ count →
    IsSentTo city names (range_with_len from done) before mid old new → IsSentToSome city names (range_with_len from count) old new
zones_sent city names from done count before mid old new within so_far = record {
  zones_done = done;
  parts = so_far.parts;
  each = subst (λ (zones : List ℕ). AllZip (AreRowsTo city names) zones so_far.parts) (sym (first_zones from done count within)) so_far.each;
  appended = so_far.appended;
}

-- ---- behind the header

-- all zones
pub table_sent : (city : CityData) (names : List (List ℕ)) (zones : List ℕ) (before sent : ℕ) (old one new : Option (List ℕ)) (header : List ℕ) → length names ≤ city.net.nodes →
    header ≡ rows_text (skim_header ∷ []) → Appends old one header → IsSentTo city names zones before sent one new → AppendsSome (IsSkimTable city names zones) old new
table_sent city names zones before sent old one new header each is first last = record {
  bytes = rows_text (skim_header ∷ flat_map (λ rows. rows) last.parts);
  holds = record { origin_each = each; parts = last.parts; each = last.each; is_text = refl };
  appended =
      subst (Appends old new) (sym (header_then last.parts ∙ ap (λ (front : List ℕ). front ++ parts_text last.parts) (sym is)))
      (appends_then old one new header (parts_text last.parts) first last.appended);
}

-- a part of the header
pub header_cut : (city : CityData) (names : List (List ℕ)) (zones : List ℕ) (sent : ℕ) (old new : Option (List ℕ)) (header : List ℕ) → length names ≤ city.net.nodes →
    header ≡ rows_text (skim_header ∷ []) → CutsShort old new 0 header sent → AppendsPart (BeginsSkims city names zones) sent old new
header_cut city names zones sent old new header each is cut =
    let all = cut.all in
    let count : cut.count ≡ sent = omega arith in
    record {
      bytes = rows_text (skim_header ∷ []);
      holds = record { count = 0; is_table = record { origin_each = each; parts = []; each = tt; is_text = refl } };
      fewer = subst (λ (text : List ℕ). sent < length text) is (subst (λ (n : ℕ). n < length header) count cut.within);
      appended =
          subst (λ (text : List ℕ). Appends old new (take sent text)) is
          (subst (λ (n : ℕ). Appends old new (take n header)) count cut.appended);
    }

-- a part of the zones
pub table_cut : (city : CityData) (names : List (List ℕ)) (zones : List ℕ) (before sent : ℕ) (old one new : Option (List ℕ)) (header : List ℕ) → length names ≤ city.net.nodes →
    header ≡ rows_text (skim_header ∷ []) → before ≡ length header → Appends old one header → IsSentPartly city names zones before sent one new →
    AppendsPart (BeginsSkims city names zones) sent old new
table_cut city names zones before sent old one new header each is counted first last =
    let bytes : rows_text (skim_header ∷ flat_map (λ rows. rows) last.parts) ≡ header ++ parts_text last.parts =
    header_then last.parts ∙ ap (λ (front : List ℕ). front ++ parts_text last.parts) (sym is) in
    let size = ap length bytes in
    let all = last.all in
    let fewer = last.fewer in
    let begun : take sent (rows_text (skim_header ∷ flat_map (λ rows. rows) last.parts)) ≡ header ++ take last.count (parts_text last.parts) =
    ap (take sent) bytes ∙ cut_text header (parts_text last.parts) last.count sent (omega arith) in
    record {
      bytes = rows_text (skim_header ∷ flat_map (λ rows. rows) last.parts);
      holds = record { count = last.zones_begun; is_table = record { origin_each = each; parts = last.parts; each = last.each; is_text = refl } };
      fewer = omega (arith, length-append header (parts_text last.parts));
      appended = subst (Appends old new) (sym begun) (appends_then old one new header (take last.count (parts_text last.parts)) first last.appended);
    }

-- some first zones
pub table_front : (city : CityData) (names : List (List ℕ)) (zones : List ℕ) (old one new : Option (List ℕ)) (header : List ℕ) → length names ≤ city.net.nodes →
    header ≡ rows_text (skim_header ∷ []) → Appends old one header → IsSentToSome city names zones one new → AppendsFrontOf (BeginsSkims city names zones) old new
table_front city names zones old one new header each is first last =
    let text : List ℕ = rows_text (skim_header ∷ flat_map (λ rows. rows) last.parts) in
    let bytes : text ≡ header ++ parts_text last.parts = header_then last.parts ∙ ap (λ (front : List ℕ). front ++ parts_text last.parts) (sym is) in
    record {
      bytes = text;
      holds = record { count = last.zones_done; is_table = record { origin_each = each; parts = last.parts; each = last.each; is_text = refl } };
      count = length text;
      within = omega arith;
      appended =
          subst (Appends old new) (sym (take_all (length text) text (omega arith) ∙ bytes)) (appends_then old one new header (parts_text last.parts) first last.appended);
    }
