-- Nodes that are added one after the other.
use Rattle.std.proofs.Common.{◌≡◌, ℕ, ◌+◌, List, [], ◌∷◌, ◌++◌, ap, ◌∙◌, sym, arith}
use Rattle.std.specs.Prelude.{flat_map, map}
use Rattle.std.specs.List.{range_with_len}
use Rattle.std.proofs.lemmas.List.{append_assoc, flat_map_more, map_push}
use Rattle.definitions.proofs.Sums.{range_more}

range_next : (n : ℕ) → range_with_len 0 (n + 1) ≡ range_with_len 0 n ++ n ∷ []
range_next n = range_more 0 n ∙ (let z : 0 + n ≡ n = omega arith in ap (λ k. range_with_len 0 n ++ k ∷ []) z)

-- the nodes of one number more
pub lists_more : {A : Type 0} (f : ℕ → List A) (before : List A) (n : ℕ) → before ++ flat_map f (range_with_len 0 n) ++ f n ≡ before ++ flat_map f (range_with_len 0 (n + 1))
lists_more f before n = flat_map_more f before (range_with_len 0 n) n ∙ ap (λ ns. before ++ flat_map f ns) (sym (range_next n))

-- the two nodes of one number more
pub pair_more : {A : Type 0} (f : ℕ → List A) (before : List A) (n : ℕ) (one other : A) → f n ≡ one ∷ other ∷ [] →
    before ++ flat_map f (range_with_len 0 n) ++ one ∷ [] ++ other ∷ [] ≡ before ++ flat_map f (range_with_len 0 (n + 1))
pair_more f before n one other e =
    append_assoc (before ++ flat_map f (range_with_len 0 n)) (one ∷ []) (other ∷ [])
    ∙ ap (λ two. before ++ flat_map f (range_with_len 0 n) ++ two) (sym e)
    ∙ lists_more f before n

-- the node of one number more
pub one_more : {A : Type 0} (f : ℕ → A) (before : List A) (n : ℕ) → before ++ map f (range_with_len 0 n) ++ f n ∷ [] ≡ before ++ map f (range_with_len 0 (n + 1))
one_more f before n =
    append_assoc before (map f (range_with_len 0 n)) (f n ∷ [])
    ∙ ap (λ more. before ++ more) (sym (map_push f (range_with_len 0 n) n) ∙ ap (map f) (sym (range_next n)))
