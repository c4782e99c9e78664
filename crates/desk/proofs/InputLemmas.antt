-- Files that are read one after the other, and the first fault among theirs.
use Rattle.std.proofs.Common.{◌≡◌, ℕ, ◌≤◌, ◌++◌, List, [], ◌∷◌, Option, None, Some, Result, Ok, Err, refl, sym, ap, subst, ◌∙◌, arith}
use Rattle.std.specs.Prelude.{IfErr, IfSome, flat_map, slice_get}
use Rattle.std.specs.List.{Contains}
use Rattle.std.specs.Option.{option_to_list}
use Rattle.std.specs.Result.{IsErrAnd}
use Rattle.std.proofs.lemmas.List.{append-nil}
use Rattle.std.proofs.lemmas.Grind.{flat_map-append}
use Rattle.std.proofs.lemmas.List.Elements.{Contains-append_left, Contains-append_right}
use Rattle.feed_reader.specs.Fetched.{Told}
use Rattle.desk.specs.declared.command.AssignWords.{AssignWords}
use Rattle.desk.specs.declared.status.UsageFault.TheVariants.{Words, Date, Window, NoFile}
use Rattle.desk.specs.declared.status.Cause.{Cause}
use Rattle.desk.specs.declared.status.Cause.TheVariants.{Done, Usage, Feed, Demand, Scenario, Unreachable, Range, ReadFault, WriteFault, NoMemory, Refused}
use Rattle.desk.specs.InputFaults.{EndsReading, HasInputFault, IsUnread, feed_file_faults, input_faults, path_faults, table_paths}
use Rattle.desk.specs.Inputs.{IsFile, IsFileWhere}
use Rattle.desk.specs.Read.{Files, Reads}
use Rattle.desk.proofs.InputFaultLemmas.{file_faultless, unread_ends}

-- the first fault of a front is that of the whole
first_front : (front rest : List Cause) (cause : Cause) → slice_get front 0 ≡ Some cause → slice_get (front ++ rest) 0 ≡ Some cause
first_front [] rest cause h = absurd (cc h)
first_front (first ∷ others) rest cause h = h

-- why a part was not read, of which the faults are a front of those of the whole, is why the whole was not read
pub front_ends : (old mid : Files) (old_count mid_count new_count : ℕ) (whole front rest : Told → List Cause) (all paths : List (List ℕ)) (cause : Cause) →
    IfSome old (λ told. whole told ≡ front told ++ rest told) → ((path : List ℕ) → Contains paths path → Contains all path) → mid ≡ old → old_count ≤ mid_count → mid_count ≤ new_count →
    EndsReading (record { files = mid; old_count = mid_count; new_count = new_count }) front paths cause → EndsReading (record { files = old; old_count = old_count; new_count = new_count }) whole all cause
front_ends old mid old_count mid_count new_count whole front rest all paths cause left among kept low high = of_cause cause
  where
    in_whole : (o : Files) (answer : Cause) → IfSome o (λ told. whole told ≡ front told ++ rest told) → IfSome o (λ told. slice_get (front told) 0 ≡ Some answer) → IfSome o (λ told. slice_get (whole told) 0 ≡ Some answer)
    in_whole None answer e p = tt
    in_whole (Some told) answer e p = ap (λ faults. slice_get faults 0) e ∙ first_front (front told) (rest told) answer p

    here : (answer : Cause) → IfSome mid (λ told. slice_get (front told) 0 ≡ Some answer) → IfSome old (λ told. slice_get (whole told) 0 ≡ Some answer)
    here answer p = in_whole old answer left (subst (λ o. IfSome o (λ told. slice_get (front told) 0 ≡ Some answer)) kept p)

    of_cause : (c : Cause) → EndsReading (record { files = mid; old_count = mid_count; new_count = new_count }) front paths c → EndsReading (record { files = old; old_count = old_count; new_count = new_count }) whole all c
    of_cause Done h = absurd h
    of_cause (Usage Words) h = absurd h
    of_cause (Usage Date) h = absurd h
    of_cause (Usage Window) h = absurd h
    of_cause (Usage (NoFile path)) h = (among path h.0, here (Usage (NoFile path)) h.1)
    of_cause (Feed found) h = absurd h
    of_cause (Demand found) h = absurd h
    of_cause (Scenario found) h = absurd h
    of_cause (Unreachable unreached) h = absurd h
    of_cause (Range name count) h = (h.0, here (Range name count) h.1)
    of_cause ReadFault rose = λ same. (let one : new_count ≡ mid_count = omega arith in let last = rose one in omega arith)
    of_cause (WriteFault sent) h = absurd h
    of_cause NoMemory h = tt
    of_cause (Refused found) h = absurd h

-- the feed and some tables were read, and the tables at these paths are left
pub record HasReadTo (old mid : Files) (old_count mid_count : ℕ) (words : AssignWords) (paths : List (List ℕ)) : Type 0 where
  pub left : IfSome old (λ told. input_faults told words ≡ flat_map (path_faults told) paths)
  pub among : (path : List ℕ) → Contains paths path → Contains (table_paths words) path
  pub count : old_count ≤ mid_count
  pub kept : mid ≡ old

-- the feed was read
pub feed_read : (old new : Files) (old_count new_count : ℕ) (words : AssignWords) (name : List ℕ) → name ≡ words.folder → IfSome old (λ told. feed_file_faults told name ≡ []) → old_count ≤ new_count → new ≡ old →
    HasReadTo old new old_count new_count words (table_paths words)
feed_read old new old_count new_count words name is none low kept = record {
  left = of_folder old (subst (λ folder. IfSome old (λ told. feed_file_faults told folder ≡ [])) is none);
  among = λ path h. h;
  count = low;
  kept = kept;
}
  where
    of_folder : (o : Files) → IfSome o (λ told. feed_file_faults told words.folder ≡ []) → IfSome o (λ told. input_faults told words ≡ flat_map (path_faults told) (table_paths words))
    of_folder None e = tt
    of_folder (Some told) e = ap (λ front. front ++ flat_map (path_faults told) (table_paths words)) e

-- the feed was not read
pub feed_stops : (files : Files) (old_count new_count : ℕ) (words : AssignWords) (name : List ℕ) (cause : Cause) → name ≡ words.folder → old_count ≤ new_count →
    EndsReading (record { files = files; old_count = old_count; new_count = new_count }) (λ told. feed_file_faults told name) [] cause →
    HasInputFault (record { files = files; old_count = old_count; new_count = new_count }) words cause
feed_stops files old_count new_count words name cause is low h =
    front_ends files files old_count old_count new_count (λ told. input_faults told words) (λ told. feed_file_faults told name) (λ told. flat_map (path_faults told) (table_paths words))
    (table_paths words) [] cause (whole files) (λ path none. absurd (let low = none.1 in omega arith)) refl (omega arith) low h
  where
    whole : (o : Files) → IfSome o (λ told. input_faults told words ≡ feed_file_faults told name ++ flat_map (path_faults told) (table_paths words))
    whole None = tt
    whole (Some told) = ap (λ folder. feed_file_faults told folder ++ flat_map (path_faults told) (table_paths words)) (sym is)

-- the next tables were read, none of which has a fault
pub tables_read : (old mid new : Files) (old_count mid_count new_count : ℕ) (words : AssignWords) (paths rest : List (List ℕ)) → HasReadTo old mid old_count mid_count words (paths ++ rest) →
    IfSome mid (λ told. flat_map (path_faults told) paths ≡ []) → mid_count ≤ new_count → new ≡ mid → HasReadTo old new old_count new_count words rest
tables_read old mid new old_count mid_count new_count words paths rest h none more kept = record {
  left = of_folder old h.left (subst (λ o. IfSome o (λ told. flat_map (path_faults told) paths ≡ [])) h.kept none);
  among = λ path there. h.among path (Contains-append_right paths rest path there);
  count = (let low = h.count in omega arith);
  kept = kept ∙ h.kept;
}
  where
    of_folder : (o : Files) → IfSome o (λ told. input_faults told words ≡ flat_map (path_faults told) (paths ++ rest)) → IfSome o (λ told. flat_map (path_faults told) paths ≡ []) →
        IfSome o (λ told. input_faults told words ≡ flat_map (path_faults told) rest)
    of_folder None e p = tt
    of_folder (Some told) e p = e ∙ flat_map-append (path_faults told) paths rest ∙ ap (λ front. front ++ flat_map (path_faults told) rest) p

-- the next tables were not read
pub tables_stop : (old mid : Files) (old_count mid_count new_count : ℕ) (words : AssignWords) (paths rest : List (List ℕ)) (cause : Cause) → HasReadTo old mid old_count mid_count words (paths ++ rest) →
    mid_count ≤ new_count → EndsReading (record { files = mid; old_count = mid_count; new_count = new_count }) (λ told. flat_map (path_faults told) paths) paths cause →
    HasInputFault (record { files = old; old_count = old_count; new_count = new_count }) words cause
tables_stop old mid old_count mid_count new_count words paths rest cause h more ends =
    front_ends old mid old_count mid_count new_count (λ told. input_faults told words) (λ told. flat_map (path_faults told) paths) (λ told. flat_map (path_faults told) rest)
    (table_paths words) paths cause (of_folder old h.left) (λ path there. h.among path (Contains-append_left paths rest path there)) h.kept h.count more ends
  where
    of_folder : (o : Files) → IfSome o (λ told. input_faults told words ≡ flat_map (path_faults told) (paths ++ rest)) →
        IfSome o (λ told. input_faults told words ≡ flat_map (path_faults told) paths ++ flat_map (path_faults told) rest)
    of_folder None e = tt
    of_folder (Some told) e = e ∙ flat_map-append (path_faults told) paths rest

-- ---- the table of a path, and that of a path which need not be given

-- a table that was read has no fault
pub file_none : (files : Files) (path bytes : List ℕ) → IsFile files path bytes → IfSome files (λ told. flat_map (path_faults told) (path ∷ []) ≡ [])
file_none files path bytes h = of_folder files (file_faultless files path bytes h)
  where
    of_folder : (o : Files) → IfSome o (λ told. path_faults told path ≡ []) → IfSome o (λ told. flat_map (path_faults told) (path ∷ []) ≡ [])
    of_folder None p = tt
    of_folder (Some told) p = ap (λ front. front ++ []) p

-- the same, where a path need not be given
pub file_where_none : (files : Files) (path bytes : Option (List ℕ)) → IsFileWhere files path bytes → IfSome files (λ told. flat_map (path_faults told) (option_to_list path) ≡ [])
file_where_none None path bytes h = tt
file_where_none (Some told) None bytes h = refl
file_where_none (Some told) (Some path) None h = absurd h
file_where_none (Some told) (Some path) (Some bytes) h = file_none (Some told) path bytes h

-- why a table was not read
pub file_ends : (reads : Reads) (path : List ℕ) (cause : Cause) → reads.old_count ≤ reads.new_count → IsUnread reads path cause → EndsReading reads (λ told. flat_map (path_faults told) (path ∷ [])) (path ∷ []) cause
file_ends reads path cause low h =
    front_ends reads.files reads.files reads.old_count reads.old_count reads.new_count (λ told. flat_map (path_faults told) (path ∷ [])) (λ told. path_faults told path) (λ told. [])
    (path ∷ []) (path ∷ []) cause (whole reads.files) (λ p there. there) refl (omega arith) low (unread_ends reads path cause h)
  where
    whole : (o : Files) → IfSome o (λ told. flat_map (path_faults told) (path ∷ []) ≡ path_faults told path ++ [])
    whole None = tt
    whole (Some told) = refl

-- why the table of a path that need not be given was not read
pub file_where_ends : (reads : Reads) (given : Option (List ℕ)) (path name : List ℕ) (cause : Cause) → given ≡ Some path → name ≡ path → reads.old_count ≤ reads.new_count → IsUnread reads name cause →
    EndsReading reads (λ told. flat_map (path_faults told) (option_to_list given)) (option_to_list given) cause
file_where_ends reads given path name cause is same low h =
    subst (λ paths. EndsReading reads (λ told. flat_map (path_faults told) paths) paths cause) (sym (ap option_to_list is ∙ ap (λ p. p ∷ []) (sym same))) (file_ends reads name cause low h)

-- the next table was read
pub table_read : (old mid new : Files) (old_count mid_count new_count : ℕ) (words : AssignWords) (path name bytes : List ℕ) (rest : List (List ℕ)) → HasReadTo old mid old_count mid_count words (path ∷ rest) →
    name ≡ path → IsFile mid name bytes → mid_count ≤ new_count → new ≡ mid → HasReadTo old new old_count new_count words rest
table_read old mid new old_count mid_count new_count words path name bytes rest h is file more kept =
    tables_read old mid new old_count mid_count new_count words (path ∷ []) rest h (file_none mid path bytes (subst (λ p. IsFile mid p bytes) is file)) more kept

-- the next table was not read
pub table_stops : (old mid : Files) (old_count mid_count new_count : ℕ) (words : AssignWords) (path name : List ℕ) (rest : List (List ℕ)) (cause : Cause) → HasReadTo old mid old_count mid_count words (path ∷ rest) →
    name ≡ path → mid_count ≤ new_count → IsUnread (record { files = mid; old_count = mid_count; new_count = new_count }) name cause →
    HasInputFault (record { files = old; old_count = old_count; new_count = new_count }) words cause
table_stops old mid old_count mid_count new_count words path name rest cause h is more unread =
    tables_stop old mid old_count mid_count new_count words (path ∷ []) rest cause h more
    (file_ends (record { files = mid; old_count = mid_count; new_count = new_count }) path cause more (subst (λ p. IsUnread (record { files = mid; old_count = mid_count; new_count = new_count }) p cause) is unread))

-- behind the last paths there are no others
pub last_paths : (old mid : Files) (old_count mid_count : ℕ) (words : AssignWords) (paths : List (List ℕ)) → HasReadTo old mid old_count mid_count words paths → HasReadTo old mid old_count mid_count words (paths ++ [])
last_paths old mid old_count mid_count words paths h = subst (HasReadTo old mid old_count mid_count words) (sym (append-nil paths)) h

-- a file of a folder that tells the same as before
pub file_before : (old mid : Files) (path name bytes : List ℕ) → mid ≡ old → name ≡ path → IsFile mid name bytes → IsFile old path bytes
file_before old mid path name bytes kept is h = subst (λ p. IsFile old p bytes) is (subst (λ files. IsFile files name bytes) kept h)

-- the same, where a path need not be given
pub file_where_before : (old mid : Files) (path bytes : Option (List ℕ)) → mid ≡ old → IsFileWhere mid path bytes → IsFileWhere old path bytes
file_where_before old mid path bytes kept h = subst (λ files. IsFileWhere files path bytes) kept h

-- an answer that is handed on
pub handed_on : {A : Type 0} (P : Cause → Type 0) (result : Result A Cause) (cause : Cause) → P cause → IsErrAnd result (λ answer. answer ≡ cause) → IfErr result P
handed_on P (Ok value) cause h is = tt
handed_on P (Err answer) cause h is = subst P (sym is) h
