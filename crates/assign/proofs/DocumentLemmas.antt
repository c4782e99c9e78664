-- Texts that are written one after the other.
use Rattle.std.proofs.Common.{◌≡◌, ℕ, zero, suc, ◌+◌, ◌<◌, ◌≤◌, List, [], ◌∷◌, ◌++◌, Option, Some, length, take, refl, sym, ap, subst, ◌∙◌, append_assoc, length-append, arith}
use Rattle.std.proofs.lemmas.List.{append-nil, length-take-le, take-append-le}
use Rattle.desk_io.specs.Told.{Appends}
use Rattle.desk_io.proofs.ToldLemmas.{appends_then}
use Rattle.assign.specs.Reports.{IsCutShort}

-- four texts
pub four_texts : (old one two three new : Option (List ℕ)) (a b c d : List ℕ) → Appends old one a → Appends one two b → Appends two three c → Appends three new d →
    Appends old new (a ++ b ++ c ++ d)
four_texts old one two three new a b c d h i j k =
    appends_then old three new (a ++ b ++ c) d (appends_then old two three (a ++ b) c (appends_then old one two a b h i) j) k

-- the first bytes of a piece behind a front, and not all of them
cut_front : (front piece rest : List ℕ) (count n : ℕ) → n ≡ length front + count → count ≤ length piece → take n (front ++ piece ++ rest) ≡ front ++ take count piece
cut_front [] piece rest count n e le = let z : n ≡ count = omega arith in rw z (take-append-le count piece rest le)
cut_front (x ∷ front) piece rest count zero e le = absurd (omega arith)
cut_front (x ∷ front) piece rest count (suc n) e le = ap (λ xs. x ∷ xs) (cut_front front piece rest count n (omega arith) le)

-- a text is cut short where a piece of it is
pub cut_behind : (old mid new : Option (List ℕ)) (front piece rest whole : List ℕ) (sent : ℕ) → whole ≡ front ++ piece ++ rest → Appends old mid front → sent < length piece →
    Appends mid new (take sent piece) → IsCutShort whole old new
cut_behind old mid new front piece rest whole sent is first fewer last =
    let size = ap length is in
    let bytes : take (length front + sent) whole ≡ front ++ take sent piece = ap (take (length front + sent)) is ∙ cut_front front piece rest sent (length front + sent) refl (omega arith) in
    record {
      count = length front + sent;
      fewer = omega (arith, length-append (front ++ piece) rest, length-append front piece);
      appended = subst (Appends old new) (sym bytes) (appends_then old mid new front (take sent piece) first last);
    }

-- four texts are cut short where one of them is, behind those before it
pub cut_first : (old new : Option (List ℕ)) (a b c d : List ℕ) (sent : ℕ) → sent < length a → Appends old new (take sent a) → IsCutShort (a ++ b ++ c ++ d) old new
cut_first old new a b c d sent fewer appended =
    let one = length-append a b in
    let two = length-append (a ++ b) c in
    let three = length-append (a ++ b ++ c) d in
    let bytes : take sent (a ++ b ++ c ++ d) ≡ take sent a =
    take-append-le sent (a ++ b ++ c) d (omega arith) ∙ take-append-le sent (a ++ b) c (omega arith) ∙ take-append-le sent a b (omega arith) in
    record {
      count = sent;
      fewer = omega arith;
      appended = subst (Appends old new) (sym bytes) appended;
    }

pub cut_second : (old one new : Option (List ℕ)) (a b c d : List ℕ) (sent : ℕ) → Appends old one a → sent < length b → Appends one new (take sent b) → IsCutShort (a ++ b ++ c ++ d) old new
cut_second old one new a b c d sent first fewer last = cut_behind old one new a b (c ++ d) (a ++ b ++ c ++ d) sent (append_assoc (a ++ b) c d) first fewer last

pub cut_third : (old one two new : Option (List ℕ)) (a b c d : List ℕ) (sent : ℕ) → Appends old one a → Appends one two b → sent < length c → Appends two new (take sent c) →
    IsCutShort (a ++ b ++ c ++ d) old new
cut_third old one two new a b c d sent first second fewer last = cut_behind old two new (a ++ b) c d (a ++ b ++ c ++ d) sent refl (appends_then old one two a b first second) fewer last

pub cut_fourth : (old one two three new : Option (List ℕ)) (a b c d : List ℕ) (sent : ℕ) → Appends old one a → Appends one two b → Appends two three c → sent < length d → Appends three new (take sent d) →
    IsCutShort (a ++ b ++ c ++ d) old new
cut_fourth old one two three new a b c d sent first second third fewer last =
    cut_behind old three new (a ++ b ++ c) d [] (a ++ b ++ c ++ d) sent (sym (append-nil (a ++ b ++ c ++ d)))
    (appends_then old two three (a ++ b) c (appends_then old one two a b first second) third) fewer last

-- a text in memory that was cut short at so many bytes is longer
pub longer_text : (whole text : List ℕ) (limit : ℕ) → IsCutShort whole (Some []) (Some text) → length text ≡ limit → limit < length whole
longer_text whole text limit cut full =
    let appended = cut.appended in
    let same : text ≡ take cut.count whole = cc appended in
    let size = ap length same in
    let fewer = cut.fewer in
    omega (arith, length-take-le cut.count whole (omega arith))
