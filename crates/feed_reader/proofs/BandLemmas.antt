-- The faults of a row of frequencies.txt, in parts.
use Rattle.std.proofs.Common.{◌≡◌, ℕ, ◌<◌, ◌≤◌, Bool, true, false, List, [], ◌∷◌, ◌++◌, ◌⊎◌, refl, sym, ap, ◌∙◌, inl, inr, arith, append_assoc, subst}
use Rattle.std.specs.Prelude.{◌==◌, ◌||◌, nat_lt, codes}
use Rattle.std.proofs.lemmas.Bool.Decides.{nat_tests}
use Rattle.feed_reader.specs.declared.fault.FeedFault.{FeedFault}
use Rattle.feed_reader.specs.declared.fault.FeedFault.TheVariants as fault
use Rattle.feed_reader.specs.BandRows.{band_field_faults, band_trip_faults, band_value_faults, clock_faults, exact_faults, headway_faults}
use Rattle.feed_reader.specs.Columns.{frequencies_file}
use Rattle.feed_reader.specs.Faults.{Fields, IsFirstFault, fault_if, place_in, row_at}
use Rattle.feed_reader.specs.Frequencies.{HEADWAY_LIMIT, band_faults, begin_field, begin_of, end_field, end_of, headway_field, headway_of}
use Rattle.feed_reader.proofs.FaultLemmas.{behind, both-none, in-front}

-- four parts
pub first-of-four : (a b c d : List FeedFault) (e : FeedFault) → IsFirstFault a e → IsFirstFault (a ++ b ++ c ++ d) e
first-of-four a b c d e h = in-front (a ++ b ++ c) d e (in-front (a ++ b) c e (in-front a b e h))

pub second-of-four : (a b c d : List FeedFault) (e : FeedFault) → a ≡ [] → IsFirstFault b e → IsFirstFault (a ++ b ++ c ++ d) e
second-of-four a b c d e x h = in-front (a ++ b ++ c) d e (in-front (a ++ b) c e (behind a b e x h))

pub third-of-four : (a b c d : List FeedFault) (e : FeedFault) → a ≡ [] → b ≡ [] → IsFirstFault c e → IsFirstFault (a ++ b ++ c ++ d) e
third-of-four a b c d e x y h = in-front (a ++ b ++ c) d e (behind (a ++ b) c e (both-none a b x y) h)

-- the values of a row: a bad headway, then an end before the beginning
pub value-first : (h k : ℕ) (x y : FeedFault) (late : Bool) (e : FeedFault) → h ≡ k → (k ≡ 0) ⊎ (1000000 < k) → IsFirstFault (x ∷ []) e
    → IsFirstFault (fault_if ((h == 0) || nat_lt 1000000 h) x ++ fault_if late y) e
value-first h k x y late e same (inl bad) found = let t : ((h == 0) || nat_lt 1000000 h) ≡ true = rw (same, bad) refl in rw t found
value-first h k x y late e same (inr bad) found = let t : ((h == 0) || nat_lt 1000000 h) ≡ true = grind (arith, nat_tests) in rw t found

good : (h k : ℕ) → h ≡ k → 1 ≤ k → k ≤ 1000000 → ((h == 0) || nat_lt 1000000 h) ≡ false
good h k same some most = grind (arith, nat_tests)

pub value-second : (h k ends begins last first : ℕ) (x y : FeedFault) (e : FeedFault) → h ≡ k → 1 ≤ k → k ≤ 1000000 → ends ≡ last → begins ≡ first → last < first → IsFirstFault (y ∷ []) e
    → IsFirstFault (fault_if ((h == 0) || nat_lt 1000000 h) x ++ fault_if (nat_lt ends begins) y) e
value-second h k ends begins last first x y e same some most a b late found =
    let t = good h k same some most in
    let l : nat_lt ends begins ≡ true = grind (arith, nat_tests) in
    rw (t, l) found

pub value-none : (h k ends begins last first : ℕ) (x y : FeedFault) → h ≡ k → 1 ≤ k → k ≤ 1000000 → ends ≡ last → begins ≡ first → first ≤ last
    → fault_if ((h == 0) || nat_lt 1000000 h) x ++ fault_if (nat_lt ends begins) y ≡ []
value-none h k ends begins last first x y same some most a b right =
    let t = good h k same some most in
    let l : nat_lt ends begins ≡ false = grind (arith, nat_tests) in
    rw (t, l) refl

-- seven parts as one, four and two
seven-parts : (a b c d e f g : List FeedFault) → a ++ b ++ c ++ d ++ e ++ f ++ g ≡ a ++ (b ++ c ++ d ++ e) ++ (f ++ g)
seven-parts a b c d e f g =
    let two : a ++ b ++ c ≡ a ++ (b ++ c) = append_assoc a b c in
    let three : a ++ b ++ c ++ d ≡ a ++ (b ++ c ++ d) = ap (λ (l : List FeedFault). l ++ d) two ∙ append_assoc a (b ++ c) d in
    let four : a ++ b ++ c ++ d ++ e ≡ a ++ (b ++ c ++ d ++ e) = ap (λ (l : List FeedFault). l ++ e) three ∙ append_assoc a (b ++ c ++ d) e in
    append_assoc (a ++ b ++ c ++ d ++ e) f g ∙ ap (λ (l : List FeedFault). l ++ (f ++ g)) four

band-parts : (trips : List (List ℕ)) (rows : List Fields) (number : ℕ) → band_faults trips rows number ≡ band_trip_faults trips rows number ++ band_field_faults rows number ++ band_value_faults rows number
band-parts trips rows number = seven-parts (band_trip_faults trips rows number) (clock_faults number (codes "start_time") (begin_field (row_at rows number)))
    (clock_faults number (codes "end_time") (end_field (row_at rows number))) (headway_faults rows number) (exact_faults rows number)
    (fault_if ((headway_of (row_at rows number) == 0) || nat_lt HEADWAY_LIMIT (headway_of (row_at rows number))) (fault.BadHeadway (place_in frequencies_file number (codes "headway_secs") (headway_field (row_at rows number)))))
    (fault_if (nat_lt (end_of (row_at rows number)) (begin_of (row_at rows number))) (fault.BadHeadway (place_in frequencies_file number (codes "end_time") (end_field (row_at rows number)))))

pub band-first : (trips : List (List ℕ)) (rows : List Fields) (number : ℕ) (e : FeedFault) → IsFirstFault (band_trip_faults trips rows number) e → IsFirstFault (band_faults trips rows number) e
band-first trips rows number e h = subst (λ (faults : List FeedFault). IsFirstFault faults e) (sym (band-parts trips rows number))
    (in-front (band_trip_faults trips rows number ++ band_field_faults rows number) (band_value_faults rows number) e (in-front (band_trip_faults trips rows number) (band_field_faults rows number) e h))

pub band-second : (trips : List (List ℕ)) (rows : List Fields) (number : ℕ) (e : FeedFault) → band_trip_faults trips rows number ≡ [] → IsFirstFault (band_field_faults rows number) e → IsFirstFault (band_faults trips rows number) e
band-second trips rows number e a h = subst (λ (faults : List FeedFault). IsFirstFault faults e) (sym (band-parts trips rows number))
    (in-front (band_trip_faults trips rows number ++ band_field_faults rows number) (band_value_faults rows number) e (behind (band_trip_faults trips rows number) (band_field_faults rows number) e a h))

pub band-third : (trips : List (List ℕ)) (rows : List Fields) (number : ℕ) (e : FeedFault) → band_trip_faults trips rows number ≡ [] → band_field_faults rows number ≡ [] → IsFirstFault (band_value_faults rows number) e
    → IsFirstFault (band_faults trips rows number) e
band-third trips rows number e a b h = subst (λ (faults : List FeedFault). IsFirstFault faults e) (sym (band-parts trips rows number))
    (behind (band_trip_faults trips rows number ++ band_field_faults rows number) (band_value_faults rows number) e (both-none (band_trip_faults trips rows number) (band_field_faults rows number) a b) h)

pub band-good : (trips : List (List ℕ)) (rows : List Fields) (number : ℕ) → band_trip_faults trips rows number ≡ [] → band_field_faults rows number ≡ [] → band_value_faults rows number ≡ [] → band_faults trips rows number ≡ []
band-good trips rows number a b d = band-parts trips rows number
    ∙ both-none (band_trip_faults trips rows number ++ band_field_faults rows number) (band_value_faults rows number) (both-none (band_trip_faults trips rows number) (band_field_faults rows number) a b) d
