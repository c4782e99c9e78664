-- Why the feed, or one file, was not read, as the first of the faults.
use Rattle.std.proofs.Common.{◌≡◌, ℕ, ◌+◌, ◌<◌, ◌≤◌, List, [], ◌∷◌, Option, None, Some, sym, ap, subst, ◌∙◌, arith, length}
use Rattle.std.specs.Prelude.{IfSome, IsSome, map, slice_get, if◌then◌else◌}
use Rattle.std.proofs.lemmas.Bool.{le-ltb, lt-ltb}
use Rattle.definitions.specs.declared.limits.TheConstants.{FILE_LIMIT}
use Rattle.desk_io.specs.Told.{file_at}
use Rattle.feed_reader.specs.declared.fetch_fault.TheConstants.{FILES_LIMIT}
use Rattle.feed_reader.specs.declared.fetch_fault.FetchFault.{FetchFault}
use Rattle.feed_reader.specs.declared.fetch_fault.FetchFault.TheVariants as fetch
use Rattle.feed_reader.specs.declared.fetch_fault.FetchLimit.{FetchLimit}
use Rattle.feed_reader.specs.declared.fetch_fault.FetchLimit.TheVariants as fetch_limit
use Rattle.feed_reader.specs.Fetched.{IsFirstFault as IsFirstFetch, feed_files, range_faults}
use Rattle.desk.specs.declared.status.Limit.{Limit}
use Rattle.desk.specs.declared.status.Limit.TheVariants as limit
use Rattle.desk.specs.declared.status.UsageFault.TheVariants.{Words, Date, Window, NoFile}
use Rattle.desk.specs.declared.status.Cause.{Cause}
use Rattle.desk.specs.declared.status.Cause.TheVariants.{Done, Usage, Feed, Demand, Scenario, Unreachable, Range, ReadFault, WriteFault, NoMemory, Refused}
use Rattle.desk.specs.InputFaults.{EndsReading, IsLimitOfFiles, IsUnread, found_faults, feed_file_faults, from_fetch, limit_of_files, path_faults}
use Rattle.desk.specs.Inputs.{IsFile}
use Rattle.desk.specs.Read.{Files, Reads}
use Rattle.desk.proofs.FileLemmas.{whole_file}

-- ---- the feed

-- the first fault of the feed is the first of its causes
first_mapped : (faults : List FetchFault) (fault : FetchFault) → slice_get faults 0 ≡ Some fault → slice_get (map from_fetch faults) 0 ≡ Some (from_fetch fault)
first_mapped [] fault h = absurd (cc h)
first_mapped (first ∷ rest) fault h = (let same : first ≡ fault = cc h in ap (λ f. Some (from_fetch f)) same)

-- a limit of the files of a feed is one of files
of_files : (name : FetchLimit) → IsLimitOfFiles (limit_of_files name)
of_files fetch_limit.File = tt
of_files fetch_limit.Files = tt

-- the fault of the feed as a cause
pub feed_ends : (reads : Reads) (folder : List ℕ) (fault : FetchFault) →
    IsFirstFetch reads.files (λ told. range_faults FILE_LIMIT FILES_LIMIT (feed_files told folder)) reads.old_count reads.new_count fault →
    EndsReading reads (λ told. feed_file_faults told folder) [] (from_fetch fault)
feed_ends reads folder fetch.ReadFault h = h
feed_ends reads folder fetch.NoMemory h = tt
feed_ends reads folder (fetch.Range name count) h = (of_files name, of_folder reads.files h)
  where
    of_folder : (o : Files) → IfSome o (λ told. slice_get (range_faults FILE_LIMIT FILES_LIMIT (feed_files told folder)) 0 ≡ Some (fetch.Range name count)) →
        IfSome o (λ told. slice_get (feed_file_faults told folder) 0 ≡ Some (Range (limit_of_files name) count))
    of_folder None p = tt
    of_folder (Some told) p = first_mapped (range_faults FILE_LIMIT FILES_LIMIT (feed_files told folder)) (fetch.Range name count) p

-- ---- a table

-- what was read of the file that was begun is the file
pub file_is_read : (files : Files) (left : Option (List ℕ)) (path bytes body : List ℕ) →
    IfSome files (λ told. IsSome (file_at told path)) → IfSome files (λ told. left ≡ file_at told path) → IfSome left (λ told. bytes ≡ told) → length bytes ≤ FILE_LIMIT → body ≡ bytes → IsFile files path body
file_is_read files left path bytes body found begun read within same = subst (IsFile files path) (sym same) (record {
  file = whole_file files left path bytes found begun read;
  within = within;
})

-- a file that was read has no fault
pub file_faultless : (files : Files) (path bytes : List ℕ) → IsFile files path bytes → IfSome files (λ told. path_faults told path ≡ [])
file_faultless None path bytes h = tt
file_faultless (Some told) path bytes h = ap (found_faults path) h.file ∙ ap (λ test. if test then Range limit.File (FILE_LIMIT + 1) ∷ [] else []) (le-ltb FILE_LIMIT (length bytes) h.within)

-- a file that is not there is the first fault of its path
missing_first : (o : Files) (path name : List ℕ) → name ≡ path → IfSome o (λ told. file_at told path ≡ None) →
    IfSome o (λ told. slice_get (path_faults told path) 0 ≡ Some (Usage (NoFile name)))
missing_first None path name is none = tt
missing_first (Some told) path name is none = ap (λ found. slice_get (found_faults path found) 0) none ∙ ap (λ p. Some (Usage (NoFile p))) (sym is)

-- a file that is too long is the first fault of its path
long_first : (o : Files) (path : List ℕ) (name : Limit) (count : ℕ) → name ≡ limit.File → count ≡ FILE_LIMIT + 1 →
    IfSome o (λ told. (bytes : List ℕ) × (file_at told path ≡ Some bytes) × (FILE_LIMIT < length bytes)) →
    IfSome o (λ told. slice_get (path_faults told path) 0 ≡ Some (Range name count))
long_first None path name count is one_past long = tt
long_first (Some told) path name count is one_past long =
    ap (λ found. slice_get (found_faults path found) 0) long.1
    ∙ ap (λ test. slice_get (if test then Range limit.File (FILE_LIMIT + 1) ∷ [] else []) 0) (lt-ltb FILE_LIMIT (length long.0) long.2)
    ∙ ap (λ l. Some (Range l (FILE_LIMIT + 1))) (sym is) ∙ ap (λ c. Some (Range name c)) (sym one_past)

-- why it was not read is its first fault
pub unread_ends : (reads : Reads) (path : List ℕ) (cause : Cause) → IsUnread reads path cause → EndsReading reads (λ told. path_faults told path) (path ∷ []) cause
unread_ends reads path Done h = absurd h
unread_ends reads path (Usage Words) h = absurd h
unread_ends reads path (Usage Date) h = absurd h
unread_ends reads path (Usage Window) h = absurd h
unread_ends reads path (Usage (NoFile name)) h = ((0, omega arith, sym h.0), missing_first reads.files path name h.0 h.1)
unread_ends reads path (Feed found) h = absurd h
unread_ends reads path (Demand found) h = absurd h
unread_ends reads path (Scenario found) h = absurd h
unread_ends reads path (Unreachable unreached) h = absurd h
unread_ends reads path (Range name count) h = (subst IsLimitOfFiles (sym h.0) tt, long_first reads.files path name count h.0 h.1 h.2)
unread_ends reads path ReadFault h = h
unread_ends reads path (WriteFault sent) h = absurd h
unread_ends reads path NoMemory h = tt
unread_ends reads path (Refused found) h = absurd h
