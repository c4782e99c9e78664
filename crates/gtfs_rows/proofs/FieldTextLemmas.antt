-- Fields of a text, trimmed and picked, are text.
use Rattle.std.proofs.Common.{◌≡◌, ◌<◌, inl, inr, ℕ, zero, suc, true, List, [], ◌∷◌, ◌++◌, map, get_or, Option, Some, None, arith}
use Rattle.std.specs.Prelude.{◌==◌, reverse, IsUtf8}
use Rattle.std.proofs.lemmas.Bool.{cases_Bool}
use Rattle.std.proofs.lemmas.Str.{IsUtf8-nil}
use Rattle.std.proofs.lemmas.List.{reverse-append, reverse-reverse}
use Rattle.csv.specs.Records.{AllText}
use Rattle.gtfs_rows.specs.Records.{drop_blanks, is_blank, trimmed}
use Rattle.gtfs_rows.specs.Sheets.{field_in}
use Rattle.gtfs_rows.specs.Cursor.{AllTexts}
use Rattle.gtfs_rows.proofs.TextLemmas.{cut-ascii, is-small}

blank-small : (b : ℕ) → is_blank b ≡ true → b < 128
blank-small b e = elim (cases_Bool (b == 32)) [ inl h ↦ is-small b 32 (omega arith) h | inr h ↦ is-small b 9 (omega arith) (rw h at e) ]

-- a trimmed text is text
blanks-text : (f : List ℕ) → IsUtf8 f → IsUtf8 (drop_blanks f)
unfolding drop_blanks
blanks-text [] u = u
blanks-text (b ∷ bs) u = elim (cases_Bool (is_blank b)) [
  | inl e ↦ rw e (blanks-text bs (cut-ascii [] b bs (blank-small b e) u).1)
  | inr e ↦ rw e u
]

back-text : (r : List ℕ) → IsUtf8 (reverse r) → IsUtf8 (reverse (drop_blanks r))
unfolding drop_blanks
back-text [] u = u
back-text (b ∷ bs) u = elim (cases_Bool (is_blank b)) [
  | inl e ↦ let back : IsUtf8 (reverse bs ++ b ∷ []) = rw (reverse-append (b ∷ []) bs) at u in rw e (back-text bs (cut-ascii (reverse bs) b [] (blank-small b e) back).0)
  | inr e ↦ rw e u
]

pub trimmed-text : (f : List ℕ) → IsUtf8 f → IsUtf8 (trimmed f)
trimmed-text f u = back-text (reverse (drop_blanks f)) (rw (reverse-reverse (drop_blanks f)) (blanks-text f u))

-- lists of texts
pub text-at : (fs : List (List ℕ)) (i : ℕ) → AllText fs → IsUtf8 (get_or fs i [])
unfolding AllText
text-at [] i h = IsUtf8-nil
text-at (f ∷ fs) zero h = h.0
text-at (f ∷ fs) (suc i) h = text-at fs i h.1

text-append : (xs ys : List (List ℕ)) → AllText xs → AllText ys → AllText (xs ++ ys)
unfolding AllText
text-append [] ys h g = g
text-append (x ∷ xs) ys h g = (h.0, text-append xs ys h.1 g)

text-trimmed : (fs : List (List ℕ)) → AllText fs → AllText (map trimmed fs)
unfolding AllText
text-trimmed [] h = tt
text-trimmed (f ∷ fs) h = (trimmed-text f h.0, text-trimmed fs h.1)

text-field : (fs : List (List ℕ)) (at : Option ℕ) → AllText fs → IsUtf8 (field_in fs at)
text-field fs None h = IsUtf8-nil
text-field fs (Some i) h = text-at fs i h

text-picked : (fs : List (List ℕ)) (columns : List (Option ℕ)) → AllText fs → AllText (map (field_in fs) columns)
unfolding AllText
text-picked fs [] h = tt
text-picked fs (c ∷ cs) h = (text-field fs c h, text-picked fs cs h)

pub text-push : (fields : List (List ℕ)) (columns : List (Option ℕ)) (r : List (List ℕ)) → AllText fields → AllText r → AllText (fields ++ map (field_in (map trimmed r)) columns)
text-push fields columns r h g = text-append fields _ h (text-picked (map trimmed r) columns (text-trimmed r g))

pub texts-first : (left left2 : List (List (List ℕ))) (r : List (List ℕ)) → left ≡ r ∷ left2 → AllTexts left → AllText r × AllTexts left2
texts-first left left2 r e h = rw e at h
