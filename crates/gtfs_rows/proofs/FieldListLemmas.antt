-- The fields of one buffer.
use Rattle.std.proofs.Common.{◌≡◌, ℕ, zero, suc, ◌<◌, ◌≤◌, ◌+◌, ◌-◌, List, [], ◌∷◌, ◌++◌, length, take, drop, get_or, refl, sym, ap, ◌∙◌, arith}
use Rattle.std.proofs.lemmas.List.{length-append}
use Rattle.csv.specs.Records.{Rising, cut_from, last_end, prev}
use Rattle.gtfs_rows.specs.Cuts.{IsFlat}
use Rattle.csv.proofs.RecordFacts.{cut-length, cut-more, cut-end, rising-end, rising-more, field-bounds, last-append, prev-first, prev-next}

pub part : (s : ℕ) (ends bytes : List ℕ) (i : ℕ) → i < length ends
    → get_or (cut_from s ends bytes) i [] ≡ take (get_or ends i 0 - prev s ends i) (drop (prev s ends i) bytes)
unfolding cut_from prev
part s [] bytes i lt = absurd (omega arith)
part s (e ∷ es) bytes zero lt = refl
part s (e ∷ es) bytes (suc i) lt = part e es bytes i (omega arith)

pub flat-nil : IsFlat [] []
unfolding Rising last_end
flat-nil = record { rising = omega arith; whole = refl }

pub flat-push : (ends bytes field : List ℕ) → IsFlat ends bytes → IsFlat (ends ++ (length (bytes ++ field) ∷ [])) (bytes ++ field)
flat-push ends bytes field h =
    let size = length-append bytes field in
    let more = rising-more 0 ends (length bytes) (length (bytes ++ field)) h.rising (omega arith) in
    record { rising = rising-end 0 ends (length (bytes ++ field)) more; whole = last-append 0 ends (length (bytes ++ field)) }

pub cut-push : (ends bytes field : List ℕ) → IsFlat ends bytes
    → cut_from 0 (ends ++ (length (bytes ++ field) ∷ [])) (bytes ++ field) ≡ cut_from 0 ends bytes ++ (field ∷ [])
cut-push ends bytes field h =
    let size = length-append bytes field in
    let more = rising-more 0 ends (length bytes) (length (bytes ++ field)) h.rising (omega arith) in
    let last : drop (last_end 0 ends) (bytes ++ field) ≡ field = rw h.whole (drop-length-append bytes field) in
    cut-end 0 ends (bytes ++ field) more ∙ rw (cut-more 0 ends bytes field h.rising, last) refl
  where
    drop-length-append : (xs ys : List ℕ) → drop (length xs) (xs ++ ys) ≡ ys
    drop-length-append [] ys = refl
    drop-length-append (x ∷ xs) ys = drop-length-append xs ys

-- where a field starts
pub start-first : (ends : List ℕ) (i start : ℕ) → i ≡ 0 → start ≡ 0 → start ≡ prev 0 ends i
start-first ends i start e s = rw (e, s) (sym (prev-first ends))

pub start-later : (ends : List ℕ) (i start : ℕ) → ¬ (i ≡ 0) → i < length ends → start ≡ get_or ends (i - 1) 0 → start ≡ prev 0 ends i
start-later ends i start some lt e =
    let back : i - 1 + 1 ≡ i = omega arith in
    let next = prev-next 0 ends (i - 1) 0 (omega arith) in
    let at : prev 0 ends i ≡ get_or ends (i - 1) 0 = rw back at next in
    e ∙ sym at

pub index-fits : (ends bytes : List ℕ) (fields : List (List ℕ)) (i : ℕ) → cut_from 0 ends bytes ≡ fields → i < length fields → i < length ends
index-fits ends bytes fields i is lt = let size = cut-length 0 ends bytes in let same : length (cut_from 0 ends bytes) ≡ length fields = ap length is in omega arith

-- the bounds of a field
pub bounds-at : (ends bytes : List ℕ) (i start end : ℕ) → IsFlat ends bytes → i < length ends → start ≡ prev 0 ends i → end ≡ get_or ends i 0
    → (start ≤ end) × (end ≤ length bytes)
bounds-at ends bytes i start end flat lt s e =
    let b = field-bounds 0 ends (length bytes) i flat.rising lt in
    rw (s, e) b

pub part-at : (ends bytes : List ℕ) (fields : List (List ℕ)) (i start end : ℕ) → cut_from 0 ends bytes ≡ fields → i < length ends → start ≡ prev 0 ends i → end ≡ get_or ends i 0
    → take (end - start) (drop start bytes) ≡ get_or fields i []
part-at ends bytes fields i start end is lt s e = rw (s, e, ← is) (sym (part 0 ends bytes i lt))

pub pushed : (ends ends2 bytes bytes2 field : List ℕ) → IsFlat ends bytes → bytes2 ≡ bytes ++ field → ends2 ≡ ends ++ (length bytes2 ∷ []) → IsFlat ends2 bytes2
pushed ends ends2 bytes bytes2 field h eb ee = rw (ee, eb) (flat-push ends bytes field h)

pub pushed-cut : (ends ends2 bytes bytes2 field : List ℕ) (fields : List (List ℕ)) → IsFlat ends bytes → cut_from 0 ends bytes ≡ fields → bytes2 ≡ bytes ++ field → ends2 ≡ ends ++ (length bytes2 ∷ [])
    → cut_from 0 ends2 bytes2 ≡ fields ++ (field ∷ [])
pushed-cut ends ends2 bytes bytes2 field fields h is eb ee = rw (ee, eb, ← is) (cut-push ends bytes field h)
