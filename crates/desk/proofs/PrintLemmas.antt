-- Texts that are printed piece by piece.
use Rattle.std.proofs.Common.{◌≡◌, ℕ, zero, suc, ◌+◌, ◌<◌, ◌≤◌, List, [], ◌∷◌, ◌++◌, Option, refl, ap, subst, ◌∙◌, append_assoc, arith, length, take, drop, get_or, length-append}
use Rattle.std.proofs.Math.Seq.{take-append-add}
use Rattle.std.proofs.lemmas.List.{take-append-le}
use Rattle.std.specs.List.{flat_map}
use Rattle.definitions.specs.Causes.{Rose}
use Rattle.desk_io.specs.Told.{Appends}
use Rattle.desk_io.proofs.ToldLemmas.{appends_then}
use Rattle.desk.specs.Printing.{Prints}

-- a count that does not fall, and then rose, rose
rose_after : (old mid new : ℕ) → old ≤ mid → mid ≤ new → Rose mid new → Rose old new
rose_after old mid new first second rose same =
    let still : new ≡ mid = omega arith in
    let last = rose still in
    omega arith

-- a front was appended whole, and the piece behind it in part
prints_part : (old mid new : Option (List ℕ)) (old_count mid_count new_count : ℕ) (front piece back : List ℕ) →
    Appends old mid front → old_count ≤ mid_count → Rose mid_count new_count → Prints mid_count new_count mid new piece →
    Prints old_count new_count old new (front ++ (piece ++ back))
prints_part old mid new old_count mid_count new_count front piece back whole kept rose part =
    let same : take (length front + part.sent) (front ++ (piece ++ back)) ≡ front ++ take part.sent piece =
    take-append-add front (piece ++ back) part.sent ∙ ap (λ xs. front ++ xs) (take-append-le part.sent piece back part.within) in
    let within : part.sent ≤ length piece = part.within in
    let later : mid_count ≤ new_count = part.count in
    record {
      sent = length front + part.sent;
      within = omega (arith, length-append front (piece ++ back), length-append piece back);
      appended = rw same (appends_then old mid new front (take part.sent piece) whole part.appended);
      cause = λ _. rose_after old_count mid_count new_count kept later rose;
      count = omega arith;
    }

-- the text of a list, split at one of its items
split_at : {X : Type 0} (text : X → List ℕ) (xs : List X) (i : ℕ) (d : X) → i < length xs →
    flat_map text (take i xs) ++ (text (get_or xs i d) ++ flat_map text (drop (suc i) xs)) ≡ flat_map text xs
split_at text [] i d lt = absurd (omega arith)
split_at text (x ∷ xs) zero d lt = refl
split_at text (x ∷ xs) (suc i) d lt =
    append_assoc (text x) (flat_map text (take i xs)) (text (get_or xs i d) ++ flat_map text (drop (suc i) xs))
    ∙ ap (λ rest. text x ++ rest) (split_at text xs i d (omega arith))

-- the texts before one item were appended whole, and that item's in part
pub prints_until : {X : Type 0} (text : X → List ℕ) (xs : List X) (i : ℕ) (d : X) (old mid new : Option (List ℕ)) (old_count mid_count new_count : ℕ) → i < length xs →
    Appends old mid (flat_map text (take i xs)) → old_count ≤ mid_count → Rose mid_count new_count → Prints mid_count new_count mid new (text (get_or xs i d)) →
    Prints old_count new_count old new (flat_map text xs)
prints_until text xs i d old mid new old_count mid_count new_count lt whole kept rose part =
    subst (Prints old_count new_count old new) (split_at text xs i d lt)
    (prints_part old mid new old_count mid_count new_count (flat_map text (take i xs)) (text (get_or xs i d)) (flat_map text (drop (suc i) xs)) whole kept rose part)
