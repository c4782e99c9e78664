-- Elements of a list and its sum.
use Rattle.std.proofs.Common.{ℕ, ◌<◌, ◌≤◌, List, length, sum, get_or}
use Rattle.std.proofs.lemmas.List.Sums.{get_or-le-sum_by}

-- an element is within the sum
pub element_within : (xs : List ℕ) (i : ℕ) → i < length xs → get_or xs i 0 ≤ sum xs
element_within xs i lt = get_or-le-sum_by (λ x. x) xs i 0 lt
