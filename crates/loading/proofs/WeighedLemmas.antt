-- A split over the weights of a span's places.
use Rattle.std.proofs.Common.{◌≡◌, ℕ, ◌+◌, ◌<◌, Bool, cond, List, length, sum, sum_by, get_or, ◌∙◌, ap, arith}
use Rattle.std.specs.List.{filter, range_with_len}
use Rattle.definitions.specs.Split.{share}
use Rattle.definitions.proofs.Sums.{range_same}
use Rattle.definitions.proofs.SpanSplitLemmas.{weighed, weighed_sum, share_among, share_same}
use Rattle.loading.proofs.ShareLemmas.{by_places}

-- what a list of weights sums to
weights_sum : (p : ℕ → Bool) (w : ℕ → ℕ) (s n : ℕ) (ws : List ℕ) → length ws ≡ n → ((k : ℕ) → k < length ws → get_or ws k 0 ≡ weighed p w s k) →
    sum_by (λ k. get_or ws k 0) (range_with_len 0 n) ≡ sum_by w (filter p (range_with_len s n))
weights_sum p w s n ws long are = range_same (λ k. get_or ws k 0) (weighed p w s) 0 n (λ k low high. are k (omega arith)) ∙ weighed_sum p w s n

pub weighed_some : (p : ℕ → Bool) (w : ℕ → ℕ) (s n : ℕ) (ws : List ℕ) → length ws ≡ n → ((k : ℕ) → k < length ws → get_or ws k 0 ≡ weighed p w s k) →
    0 < sum_by w (filter p (range_with_len s n)) → 0 < sum ws
weighed_some p w s n ws long are some = rw (← by_places ws, long, weights_sum p w s n ws long are) some

pub weighed_shares : (p : ℕ → Bool) (w : ℕ → ℕ) (s n : ℕ) (ws : List ℕ) (units : ℕ) → length ws ≡ n → ((k : ℕ) → k < length ws → get_or ws k 0 ≡ weighed p w s k) →
    0 < sum_by w (filter p (range_with_len s n)) → (k : ℕ) → k < n →
    share units (λ j. get_or ws j 0) (range_with_len 0 (length ws)) k ≡ cond (p (s + k)) (share units w (filter p (range_with_len s n)) (s + k)) 0
weighed_shares p w s n ws units long are some k lt =
    ap (λ m. share units (λ j. get_or ws j 0) (range_with_len 0 m) k) long
    ∙ share_same units (λ j. get_or ws j 0) (weighed p w s) n (λ j less. are j (omega arith)) k lt
    ∙ share_among units p w s n k lt some
