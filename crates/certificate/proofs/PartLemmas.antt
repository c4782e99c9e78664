-- A line that began in an earlier piece: its part with the front of the next piece behind it.
use Rattle.std.proofs.Common.{◌≡◌, ℕ, ◌+◌, ◌-◌, ◌≤◌, List, [], ◌++◌, length, take, drop, sym, ap, ◌∙◌, append_assoc, arith, length-append, length-drop, min}
use Rattle.std.proofs.lemmas.List.{append-nil, take-append-drop}
use Rattle.std.proofs.Math.Seq.{drop-append-add, drop-append_seam, take_all}

-- what is left at the end of bytes
left_is : (us xs vs ys : List ℕ) → us ++ xs ≡ vs ++ ys → length ys ≤ length xs → drop (length xs - length ys) xs ≡ ys
left_is us xs vs ys e low =
    let a = length-append us xs in
    let b = length-append vs ys in
    let l = ap length e in
    let at : length us + (length xs - length ys) ≡ length vs = omega arith in
    sym (drop-append-add us xs (length xs - length ys)) ∙ ap (λ n. drop n (us ++ xs)) at ∙ ap (drop (length vs)) e ∙ drop-append_seam vs ys

-- the piece follows its front
pub window_text : (text part front piece window : List ℕ) (mid : ℕ) → window ≡ part ++ front → front ≡ take mid piece → (text ++ window) ++ drop mid piece ≡ (text ++ part) ++ piece
window_text text part front piece window mid w f =
    ap (λ xs. (text ++ xs) ++ drop mid piece) (w ∙ ap (λ xs. part ++ xs) f)
    ∙ regroup text part (take mid piece) (drop mid piece)
    ∙ ap (λ xs. (text ++ part) ++ xs) (take-append-drop mid piece)
  where
    regroup : (a b c d : List ℕ) → (a ++ (b ++ c)) ++ d ≡ (a ++ b) ++ (c ++ d)
    regroup a b c d = simp append_assoc

-- where there is room left, the front is the piece
pub front_all : (part front piece : List ℕ) (room mid : ℕ) → mid ≡ min (length piece) room → front ≡ take mid piece → length front ≡ mid → room + length part ≡ 160 → length (part ++ front) ≤ 118 → front ≡ piece
front_all part front piece room mid m f l r few =
    let parts = length-append part front in
    f ∙ take_all mid piece (omega arith)

-- what is left of the piece after the line
pub left_of_piece : (text after part front piece window rest : List ℕ) (mid : ℕ) → window ≡ part ++ front → front ≡ take mid piece → length front ≡ mid → mid ≤ length piece →
    text ++ window ≡ after ++ rest → length rest ≤ length front →
    (after ++ []) ++ take (length piece - (length front - length rest)) (drop (length front - length rest) piece) ≡ (text ++ part) ++ piece
left_of_piece text after part front piece window rest mid w f l within took low =
    let whole : (text ++ part) ++ piece ≡ after ++ (rest ++ drop mid piece) =
    sym (window_text text part front piece window mid w f) ∙ ap (λ xs. xs ++ drop mid piece) took ∙ append_assoc after rest (drop mid piece) in
    let behind = length-append rest (drop mid piece) in
    let dropped = length-drop mid piece in
    let at : length piece - length (rest ++ drop mid piece) ≡ length front - length rest = omega arith in
    let left : drop (length piece - length (rest ++ drop mid piece)) piece ≡ rest ++ drop mid piece = left_is (text ++ part) piece after (rest ++ drop mid piece) whole (omega arith) in
    let count = length-drop (length front - length rest) piece in
    ap (λ xs. xs ++ take (length piece - (length front - length rest)) (drop (length front - length rest) piece)) (append-nil after)
    ∙ ap (λ xs. after ++ xs) (take_all (length piece - (length front - length rest)) (drop (length front - length rest) piece) (omega arith) ∙ ap (λ n. drop n piece) (sym at) ∙ left)
    ∙ sym whole
