-- Steps over the rows of the calendars.
use Rattle.std.proofs.Common.{◌≡◌, ℕ, zero, suc, ◌+◌, ◌<◌, ◌≤◌, ◌^◌, Bool, true, false, not, List, [], ◌∷◌, ◌++◌, Option, Some, None, length, take, map, refl, sym, ap, ◌∙◌, arith, append_assoc, subst}
use Rattle.std.specs.Prelude.{ℤ, if◌then◌else◌, flat_map, sum_by, is_none, slice_index_or, codes}
use Rattle.std.specs.List.{AllZip, range_with_len}
use Rattle.std.specs.Str.{bytes_eq}
use Rattle.std.proofs.lemmas.List.{map-id}
use Rattle.std.proofs.lemmas.List.FromFn.{map-range_with_len_more}
use Rattle.std.proofs.lemmas.List.Sums.{sum_by_push}
use Rattle.jiff_core.specs.declared.civil.date.Date.{Date}
use Rattle.gtfs_rows.specs.Fields.{date_of, ymd_of}
use Rattle.gtfs_rows.specs.declared.timetable.Week.{Week}
use Rattle.gtfs_rows.specs.declared.timetable.Exception.{Exception}
use Rattle.feed_reader.specs.declared.fault.FeedFault.{FeedFault}
use Rattle.feed_reader.specs.declared.fault.FeedFault.TheVariants as fault
use Rattle.feed_reader.specs.CalendarParts.{service_faults, week_field_faults}
use Rattle.feed_reader.specs.Calendars.{IsExceptionOf, IsWeekOf, date_faults, day_faults, day_field, day_names, is_flag, service_id, week_faults}
use Rattle.feed_reader.specs.Columns.{calendar_file}
use Rattle.feed_reader.specs.Faults.{Fields, IsFirstFault, bad_field, fault_if, field, is_empty, place_in, row_at}
use Rattle.feed_reader.specs.Ids.{stood_before}
use Rattle.feed_reader.specs.Numbered.{noted}
use Rattle.feed_reader.specs.ServiceNotes.{all_noted}
use Rattle.feed_reader.proofs.FaultLemmas.{behind, both-none, first-of-rows, in-front}
use Rattle.feed_reader.proofs.RowLemmas.{zip-more}
use Rattle.feed_reader.proofs.ServiceLemmas.{number-all-noted, number-noted}

-- what holds of each pair by one relation, by another
pub zip-each : {A B : Type 0} (R S : A → B → Type 0) (xs : List A) (ys : List B) → ((x : A) (y : B) → R x y → S x y) → AllZip R xs ys → AllZip S xs ys
zip-each R S [] [] step all = all
zip-each R S [] (y ∷ ys) step all = absurd all
zip-each R S (x ∷ xs) [] step all = absurd all
zip-each R S (x ∷ xs) (y ∷ ys) step all = (step x y all.0, zip-each R S xs ys step all.1)

week-noted : (services : List (List ℕ)) (id : List ℕ) (row : Fields) (week : Week) → IsWeekOf services row week → IsWeekOf (noted services id) row week
week-noted services id row week h = record { service = number-noted services id (service_id row) week.service h.service; days = h.days; first = h.first; last = h.last }

exception-noted : (services : List (List ℕ)) (id : List ℕ) (row : Fields) (exception : Exception) → IsExceptionOf services row exception → IsExceptionOf (noted services id) row exception
exception-noted services id row exception h = record { service = number-noted services id (service_id row) exception.service h.service; date = h.date; adds = h.adds }

-- weeks and exceptions stay those of their rows, with one more service noted
pub weeks-noted : (services : List (List ℕ)) (id : List ℕ) (rows : List Fields) (weeks : List Week) → AllZip (IsWeekOf services) rows weeks → AllZip (IsWeekOf (noted services id)) rows weeks
weeks-noted services id rows weeks all = zip-each (IsWeekOf services) (IsWeekOf (noted services id)) rows weeks (week-noted services id) all

pub exceptions-noted : (services : List (List ℕ)) (id : List ℕ) (rows : List Fields) (exceptions : List Exception) → AllZip (IsExceptionOf services) rows exceptions → AllZip (IsExceptionOf (noted services id)) rows exceptions
exceptions-noted services id rows exceptions all = zip-each (IsExceptionOf services) (IsExceptionOf (noted services id)) rows exceptions (exception-noted services id) all

week-stays : (services more : List (List ℕ)) (row : Fields) (week : Week) → IsWeekOf services row week → IsWeekOf (all_noted services more) row week
week-stays services more row week h = record { service = number-all-noted services more (service_id row) week.service h.service; days = h.days; first = h.first; last = h.last }

exception-stays : (services more : List (List ℕ)) (row : Fields) (exception : Exception) → IsExceptionOf services row exception → IsExceptionOf (all_noted services more) row exception
exception-stays services more row exception h = record { service = number-all-noted services more (service_id row) exception.service h.service; date = h.date; adds = h.adds }

-- and with the services of later files noted
pub weeks-stay : (services more : List (List ℕ)) (rows : List Fields) (weeks : List Week) → AllZip (IsWeekOf services) rows weeks → AllZip (IsWeekOf (all_noted services more)) rows weeks
weeks-stay services more rows weeks all = zip-each (IsWeekOf services) (IsWeekOf (all_noted services more)) rows weeks (week-stays services more) all

pub exceptions-stay : (services more : List (List ℕ)) (rows : List Fields) (exceptions : List Exception) → AllZip (IsExceptionOf services) rows exceptions → AllZip (IsExceptionOf (all_noted services more)) rows exceptions
exceptions-stay services more rows exceptions all = zip-each (IsExceptionOf services) (IsExceptionOf (all_noted services more)) rows exceptions (exception-stays services more) all

-- a date that was read, and one that was not
pub date-found : (bytes shown : List ℕ) (d : Date) → shown ≡ bytes → Some (ymd_of d) ≡ date_of shown → date_of bytes ≡ Some (ymd_of d)
date-found bytes shown d same is = ap date_of (sym same) ∙ sym is

pub date-good : (file : List ℕ) (number : ℕ) (column bytes : List ℕ) (d : Date) → date_of bytes ≡ Some (ymd_of d) → date_faults file number column bytes ≡ []
date-good file number column bytes d is = ap (λ (found : Option (ℤ × ℕ × ℕ)). fault_if (is_none found) (bad_field (place_in file number column bytes))) is

pub date-bad : (file : List ℕ) (number : ℕ) (column bytes shown : List ℕ) (e : FeedFault) → shown ≡ bytes → None ≡ date_of shown → IsFirstFault (bad_field (place_in file number column shown) ∷ []) e
    → IsFirstFault (date_faults file number column bytes) e
date-bad file number column bytes shown e same is h =
    let none : None ≡ date_of bytes = is ∙ ap date_of same in
    let here : IsFirstFault (bad_field (place_in file number column bytes) ∷ []) e = subst (λ (text : List ℕ). IsFirstFault (bad_field (place_in file number column text) ∷ []) e) same h in
    subst (λ (found : Option (ℤ × ℕ × ℕ)). IsFirstFault (fault_if (is_none found) (bad_field (place_in file number column bytes))) e) none here

-- a day that is no flag
pub day-bad : (number day : ℕ) (row : Fields) (name bytes : List ℕ) (e : FeedFault) → bytes ≡ day_field row day → name ≡ slice_index_or day_names day []
    → bytes_eq bytes (codes "1") ≡ false → bytes_eq bytes (codes "0") ≡ false → IsFirstFault (bad_field (place_in calendar_file number name bytes) ∷ []) e → IsFirstFault (day_faults number row day) e
day-bad number day row name bytes e same named a b h =
    let no : is_flag bytes ≡ false = rw (a, b) refl in
    let flag : is_flag (day_field row day) ≡ false = ap is_flag (sym same) ∙ no in
    let here : IsFirstFault (bad_field (place_in calendar_file number name (day_field row day)) ∷ []) e = subst (λ (text : List ℕ). IsFirstFault (bad_field (place_in calendar_file number name text) ∷ []) e) same h in
    let there : IsFirstFault (bad_field (place_in calendar_file number (slice_index_or day_names day []) (day_field row day)) ∷ []) e
    = subst (λ (text : List ℕ). IsFirstFault (bad_field (place_in calendar_file number text (day_field row day)) ∷ []) e) named here in
    subst (λ (is : Bool). IsFirstFault (fault_if (not is) (bad_field (place_in calendar_file number (slice_index_or day_names day []) (day_field row day)))) e) (sym flag) there

-- what a day counts at most, and that the days so far fit with it
pub counts-within : (b : Bool) (n counts : ℕ) → counts ≡ (if b then n else 0) → counts ≤ n
counts-within true n counts is = omega (arith, is)
counts-within false n counts is = omega (arith, is)

pub days-fit : (day days counts : ℕ) → day < 7 → days < 2 ^ day → counts ≤ 2 ^ day → (days + counts < 2 ^ (day + 1)) × (days + counts < 256)
days-fit zero days counts lt a b = (omega (arith, a, b), omega (arith, a, b))
days-fit (suc zero) days counts lt a b = (omega (arith, a, b), omega (arith, a, b))
days-fit (suc (suc zero)) days counts lt a b = (omega (arith, a, b), omega (arith, a, b))
days-fit (suc (suc (suc zero))) days counts lt a b = (omega (arith, a, b), omega (arith, a, b))
days-fit (suc (suc (suc (suc zero)))) days counts lt a b = (omega (arith, a, b), omega (arith, a, b))
days-fit (suc (suc (suc (suc (suc zero))))) days counts lt a b = (omega (arith, a, b), omega (arith, a, b))
days-fit (suc (suc (suc (suc (suc (suc zero)))))) days counts lt a b = (omega (arith, a, b), omega (arith, a, b))
days-fit (suc (suc (suc (suc (suc (suc (suc n))))))) days counts lt a b = absurd (omega (arith, lt))

-- the sum over the days, with one more
pub days-more : (f : ℕ → ℕ) (day old counts : ℕ) → old ≡ sum_by f (range_with_len 0 day) → counts ≡ f day → old + counts ≡ sum_by f (range_with_len 0 (day + 1))
days-more f day old counts before now =
    let longer = map-range_with_len_more (λ (n : ℕ). n) 0 day day (omega arith) in
    let more : range_with_len 0 (day + 1) ≡ range_with_len 0 day ++ day ∷ [] = sym (map-id (range_with_len 0 (day + 1))) ∙ longer ∙ ap (λ (xs : List ℕ). xs ++ day ∷ []) (map-id (range_with_len 0 day)) in
    sym (ap (sum_by f) more ∙ sum_by_push f (range_with_len 0 day) day ∙ rw (← before, ← now) refl)

-- three parts of the faults of a row
pub second-of-three : (a b c : List FeedFault) (e : FeedFault) → a ≡ [] → IsFirstFault b e → IsFirstFault (a ++ b ++ c) e
second-of-three a b c e none h = in-front (a ++ b) c e (behind a b e none h)

pub third-of-three : (a b c : List FeedFault) (e : FeedFault) → a ≡ [] → b ≡ [] → IsFirstFault c e → IsFirstFault (a ++ b ++ c) e
third-of-three a b c e none nor h = behind (a ++ b) c e (both-none a b none nor) h

-- five parts as two and three
five-parts : (a b c d e : List FeedFault) → a ++ b ++ c ++ d ++ e ≡ (a ++ b) ++ (c ++ d ++ e)
five-parts a b c d e = append_assoc (a ++ b ++ c) d e ∙ append_assoc (a ++ b) c (d ++ e) ∙ ap (λ (rest : List FeedFault). (a ++ b) ++ rest) (sym (append_assoc c d e))

pub week-parts : (rows : List Fields) (number : ℕ) → week_faults rows number ≡ service_faults rows number ++ week_field_faults rows number
week-parts rows number = five-parts (fault_if (is_empty (service_id (row_at rows number))) (bad_field (place_in calendar_file number (codes "service_id") (service_id (row_at rows number)))))
    (fault_if (stood_before (map service_id rows) number) (fault.DoubleId (place_in calendar_file number (codes "service_id") (service_id (row_at rows number)))))
    (flat_map (day_faults number (row_at rows number)) (range_with_len 0 7)) (date_faults calendar_file number (codes "start_date") (field (row_at rows number) 8))
    (date_faults calendar_file number (codes "end_date") (field (row_at rows number) 9))

-- the first fault of a row of calendar.txt: that of its service, else that of its other fields
pub week-front : (rows : List Fields) (number : ℕ) (e : FeedFault) → IsFirstFault (service_faults rows number) e → IsFirstFault (week_faults rows number) e
week-front rows number e h = subst (λ (faults : List FeedFault). IsFirstFault faults e) (sym (week-parts rows number)) (in-front (service_faults rows number) (week_field_faults rows number) e h)

pub week-back : (rows : List Fields) (number : ℕ) (e : FeedFault) → service_faults rows number ≡ [] → IsFirstFault (week_field_faults rows number) e → IsFirstFault (week_faults rows number) e
week-back rows number e none h = subst (λ (faults : List FeedFault). IsFirstFault faults e) (sym (week-parts rows number)) (behind (service_faults rows number) (week_field_faults rows number) e none h)

pub week-good : (rows : List Fields) (number : ℕ) → service_faults rows number ≡ [] → week_field_faults rows number ≡ [] → week_faults rows number ≡ []
week-good rows number a b = week-parts rows number ∙ both-none (service_faults rows number) (week_field_faults rows number) a b

-- the first fault of the seven days
pub first-day : (faults : ℕ → List FeedFault) (day : ℕ) (e : FeedFault) → day < 7 → flat_map faults (range_with_len 0 day) ≡ [] → IsFirstFault (faults day) e → IsFirstFault (flat_map faults (range_with_len 0 7)) e
first-day faults day e lt none h = first-of-rows faults ([] ∷ ([] ∷ ([] ∷ ([] ∷ ([] ∷ ([] ∷ ([] ∷ []))))))) day e lt none h

-- one more week, and one more exception
pub weeks-more : (rows : List Fields) (row : ℕ) (old new : List (List ℕ)) (weeks more : List Week) (week : Week) → row < length rows → AllZip (IsWeekOf old) (take row rows) weeks
    → new ≡ noted old (service_id (row_at rows row)) → IsWeekOf new (row_at rows row) week → more ≡ weeks ++ week ∷ [] → AllZip (IsWeekOf new) (take (row + 1) rows) more
weeks-more rows row old new weeks more week lt all grown one is =
    let stay : AllZip (IsWeekOf new) (take row rows) weeks = subst (λ (services : List (List ℕ)). AllZip (IsWeekOf services) (take row rows) weeks) (sym grown) (weeks-noted old (service_id (row_at rows row)) (take row rows) weeks all) in
    subst (λ (list : List Week). AllZip (IsWeekOf new) (take (row + 1) rows) list) (sym is) (zip-more (IsWeekOf new) rows row [] weeks week lt stay one)

pub exceptions-more : (rows : List Fields) (row : ℕ) (old new : List (List ℕ)) (exceptions more : List Exception) (exception : Exception) → row < length rows → AllZip (IsExceptionOf old) (take row rows) exceptions
    → new ≡ noted old (service_id (row_at rows row)) → IsExceptionOf new (row_at rows row) exception → more ≡ exceptions ++ exception ∷ [] → AllZip (IsExceptionOf new) (take (row + 1) rows) more
exceptions-more rows row old new exceptions more exception lt all grown one is =
    let stay : AllZip (IsExceptionOf new) (take row rows) exceptions = subst (λ (services : List (List ℕ)). AllZip (IsExceptionOf services) (take row rows) exceptions) (sym grown) (exceptions-noted old (service_id (row_at rows row)) (take row rows) exceptions all) in
    subst (λ (list : List Exception). AllZip (IsExceptionOf new) (take (row + 1) rows) list) (sym is) (zip-more (IsExceptionOf new) rows row [] exceptions exception lt stay one)
