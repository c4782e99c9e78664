-- The services of the three files in turn are the services by first appearance.
use Rattle.std.proofs.Common.{◌≡◌, ℕ, List, [], ◌++◌, refl, sym, ◌∙◌}
use Rattle.std.specs.List.{AllZip}
use Rattle.gtfs_rows.specs.declared.timetable.Week.{Week}
use Rattle.gtfs_rows.specs.declared.timetable.Exception.{Exception}
use Rattle.feed_reader.specs.Calendars.{IsExceptionOf, IsWeekOf}
use Rattle.feed_reader.specs.Faults.{Fields}
use Rattle.feed_reader.specs.Ids.{first_ids}
use Rattle.feed_reader.specs.ServiceNotes.{all_noted}
use Rattle.feed_reader.proofs.CalendarLemmas.{exceptions-stay, weeks-stay}
use Rattle.feed_reader.proofs.ServiceLemmas.{firsts-noted, noted-append}

pub services-are : (weeks exceptions trips first second third last : List (List ℕ)) → first ≡ [] → second ≡ all_noted first weeks → third ≡ all_noted second exceptions → last ≡ all_noted third trips
    → last ≡ first_ids (weeks ++ exceptions ++ trips)
services-are weeks exceptions trips first second third last a b c d =
    rw (d, c, b, a) (sym (firsts-noted (weeks ++ exceptions ++ trips) ∙ noted-append [] (weeks ++ exceptions) trips ∙ rw (noted-append [] weeks exceptions) refl))

-- the weeks and the exceptions stay those of the services that follow
pub weeks-last : (exceptions trips second third last : List (List ℕ)) (rows : List Fields) (weeks : List Week) → third ≡ all_noted second exceptions → last ≡ all_noted third trips
    → AllZip (IsWeekOf second) rows weeks → AllZip (IsWeekOf last) rows weeks
weeks-last exceptions trips second third last rows weeks c d all = rw (d, c) (weeks-stay (all_noted second exceptions) trips rows weeks (weeks-stay second exceptions rows weeks all))

pub exceptions-last : (trips third last : List (List ℕ)) (rows : List Fields) (exceptions : List Exception) → last ≡ all_noted third trips
    → AllZip (IsExceptionOf third) rows exceptions → AllZip (IsExceptionOf last) rows exceptions
exceptions-last trips third last rows exceptions d all = rw d (exceptions-stay third trips rows exceptions all)
