-- Counts of seconds as quotients and differences.
use Rattle.std.proofs.Common.{◌≡◌, ℕ, zero, suc, ◌+◌, ◌-◌, ◌*◌, ◌/◌, ◌%◌, ◌<◌, ◌≤◌, min, max, cond, ◌∙◌, add-zero, zero-add, add_comm, inl, inr, arith}
use Rattle.std.specs.Prelude.{◌==◌, count_by}
use Rattle.std.specs.Int.{div_ceil}
use Rattle.std.specs.List.{range_with_len}
use Rattle.std.proofs.Math.Arith.{digits_div, digits_mod}
use Rattle.std.proofs.Math.Nat.{div-add-mod', mod-lt, suc-mul}
use Rattle.std.proofs.lemmas.Bool.{cases_Bool, cases_lt}
use Rattle.std.proofs.lemmas.Bool.Decides.{nat_tests}
use Rattle.std.proofs.lemmas.List.FromFn.{length-range_with_len}
use Rattle.std.proofs.lemmas.List.Sums.{count_by-le-length, sum_by-cons}
use Rattle.gtfs_rows.specs.declared.timetable.Band.{Band}
use Rattle.service_period.specs.Periods.{PeriodData}
use Rattle.service_period.specs.Weights.{departures, is_between, is_departure, seconds_between, shared_seconds}

-- one more second at the front of two spans of seconds
shared-step : (begins ends from end : ℕ) → from < end
    → cond (is_between begins ends from) 1 0 + (min ends end - max begins (from + 1)) ≡ min ends end - max begins from
shared-step begins ends from end before = grind (arith, nat_tests)

-- the seconds of a span that lie in another
shared-count : (begins ends from n : ℕ)
    → count_by (is_between begins ends) (range_with_len from n) ≡ min ends (from + n) - max begins from
shared-count begins ends from zero = omega arith
shared-count begins ends from (suc n) =
    let same : from + 1 + n ≡ from + suc n = omega arith in
    let rest : count_by (is_between begins ends) (range_with_len (from + 1) n) ≡ min ends (from + suc n) - max begins (from + 1) =
    rw same at (shared-count begins ends (from + 1) n) in
    let step = shared-step begins ends from (from + suc n) (omega arith) in
    let more = sum_by-cons (λ s. cond (is_between begins ends s) 1 0) from (range_with_len (from + 1) n) in
    omega (arith, rest, step, more)

-- a number is one more multiple and the rest
ceil-same : (q r h : ℕ) → r + 1 < h → q + min 1 r + cond (r == 0) 1 0 ≡ (q * h + (r + 1)) / h + min 1 ((q * h + (r + 1)) % h)
ceil-same q r h small =
    let here : min 1 r + cond (r == 0) 1 0 ≡ min 1 (r + 1) = grind (arith, nat_tests) in
    rw (digits_div q small, digits_mod q small) (omega (arith, here))

ceil-next : (q r h : ℕ) → 0 < h → q + min 1 r + cond (r == 0) 1 0 ≡ (suc q * h + 0) / h + min 1 ((suc q * h + 0) % h)
ceil-next q r h some =
    let here : min 1 r + cond (r == 0) 1 0 ≡ 1 = grind (arith, nat_tests) in
    rw (digits_div (suc q) some, digits_mod (suc q) some) (omega (arith, here))

-- one more number counts once more where it is a multiple
ceil-step : (k h : ℕ) → 0 < h → div_ceil k h + cond (k % h == 0) 1 0 ≡ div_ceil (k + 1) h
ceil-step k h some =
    let whole = div-add-mod' k h in
    let small = mod-lt k some in
    elim (cases_lt (k % h + 1) h) [
      | inl less ↦
          let same : k / h * h + (k % h + 1) ≡ k + 1 = omega (arith, whole) in
          rw same at (ceil-same (k / h) (k % h) h less)
      | inr full ↦
          let more = suc-mul (k / h) h in
          let same : suc (k / h) * h + 0 ≡ k + 1 = omega (arith, whole, small, more) in
          rw same at (ceil-next (k / h) (k % h) h some)
    ]

-- one more second counts where a trip departs then
departure-step : (band : Band) (second : ℕ) → 0 < band.headway
    → cond (is_departure band second) 1 0 + div_ceil (min second band.ends - band.begins) band.headway
    ≡ div_ceil (min (second + 1) band.ends - band.begins) band.headway
departure-step band second some = elim (cases_Bool (is_between band.begins band.ends second)) [
  | inl inside ↦
      let bounds : (band.begins ≤ second) × (second < band.ends) = grind (arith, nat_tests) in
      let before : min second band.ends - band.begins ≡ second - band.begins = omega arith in
      let after : min (second + 1) band.ends - band.begins ≡ second - band.begins + 1 = omega arith in
      let step = ceil-step (second - band.begins) band.headway some in
      rw (inside, before, after) (add_comm (cond ((second - band.begins) % band.headway == 0) 1 0) (div_ceil (second - band.begins) band.headway) ∙ step)
  | inr outside ↦
      let same : min (second + 1) band.ends - band.begins ≡ min second band.ends - band.begins = grind (arith, nat_tests) in
      rw (outside, same) (zero-add (div_ceil (min second band.ends - band.begins) band.headway))
]

-- the departures of a span of seconds are those before its end without those before its beginning
departure-count : (band : Band) (from n : ℕ) → 0 < band.headway
    → count_by (is_departure band) (range_with_len from n) + div_ceil (min from band.ends - band.begins) band.headway
    ≡ div_ceil (min (from + n) band.ends - band.begins) band.headway
departure-count band from zero some = rw (add-zero from) (zero-add (div_ceil (min from band.ends - band.begins) band.headway))
departure-count band from (suc n) some =
    let same : from + 1 + n ≡ from + suc n = omega arith in
    let rest = rw same at (departure-count band (from + 1) n some) in
    let step = departure-step band from some in
    let more = sum_by-cons (λ s. cond (is_departure band s) 1 0) from (range_with_len (from + 1) n) in
    omega (arith, rest, step, more)

pub shared-is : (period : PeriodData) (band : Band) → period.from < period.to
    → shared_seconds period band ≡ min band.ends period.to - max band.begins period.from
unfolding shared_seconds
shared-is period band forward =
    let end : period.from + (period.to - period.from) ≡ period.to = omega arith in
    rw end at (shared-count band.begins band.ends period.from (period.to - period.from))

pub departures-is : (period : PeriodData) (band : Band) → 0 < band.headway → period.from < period.to
    → departures period band + div_ceil (min period.from band.ends - band.begins) band.headway
    ≡ div_ceil (min period.to band.ends - band.begins) band.headway
unfolding departures
departures-is period band some forward =
    let end : period.from + (period.to - period.from) ≡ period.to = omega arith in
    rw end at (departure-count band period.from (period.to - period.from) some)

-- there is a departure in each second of the window at most
pub departures-within : (period : PeriodData) (band : Band) → departures period band ≤ period.to - period.from
unfolding departures
departures-within period band =
    rw (length-range_with_len period.from (period.to - period.from)) at (count_by-le-length (is_departure band) (seconds_between period.from period.to))
