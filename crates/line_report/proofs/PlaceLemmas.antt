-- One place more of a line.
use Rattle.std.proofs.Common.{◌≡◌, ℕ, ◌+◌, ◌∷◌, [], ◌++◌, map, sym, ap, ◌∙◌, zero-add}
use Rattle.std.specs.Prelude.{max}
use Rattle.std.specs.List.{range_with_len, sum_by}
use Rattle.std.proofs.lemmas.List.{map-append}
use Rattle.std.proofs.lemmas.List.Sums.{fold_push}
use Rattle.definitions.proofs.Sums.{range_more, sum_more}
use Rattle.line_report.specs.Passengers.{greatest_of}

-- the numbers up to one more
pub places_more : (n : ℕ) → range_with_len 0 (n + 1) ≡ range_with_len 0 n ++ n ∷ []
places_more n = range_more 0 n ∙ ap (λ k. range_with_len 0 n ++ k ∷ []) (zero-add n)

-- their sum
pub next_sum : (f : ℕ → ℕ) (n total part : ℕ) → total ≡ sum_by f (range_with_len 0 n) → part ≡ f n → total + part ≡ sum_by f (range_with_len 0 (n + 1))
next_sum f n total part so_far is = ap (λ t. t + part) so_far ∙ ap (λ p. sum_by f (range_with_len 0 n) + p) is ∙ sym (sum_more f n)

-- the greatest of them
pub next_greatest : (f : ℕ → ℕ) (n most part : ℕ) → most ≡ greatest_of (map f (range_with_len 0 n)) → part ≡ f n → max most part ≡ greatest_of (map f (range_with_len 0 (n + 1)))
next_greatest f n most part so_far is =
    ap (λ m. max m part) so_far
    ∙ ap (λ p. max (greatest_of (map f (range_with_len 0 n))) p) is
    ∙ sym (ap (λ ns. greatest_of (map f ns)) (places_more n)
    ∙ ap greatest_of (map-append f (range_with_len 0 n) (n ∷ []))
    ∙ fold_push max 0 (map f (range_with_len 0 n)) (f n))
