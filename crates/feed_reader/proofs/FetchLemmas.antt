-- The files of a feed that were fetched before a place.
use Rattle.std.proofs.Common.{◌≡◌, ◌<◌, ◌≤◌, ◌+◌, ◌-◌, ◌++◌, ℕ, zero, suc, List, [], ◌∷◌, Option, Some, None, Result, Ok, Err, refl, sym, ap, ◌∙◌, arith, subst}
use Rattle.std.specs.Prelude.{IfErr, IfSome, flat_map, nat_lt, slice_get, if◌then◌else◌}
use Rattle.std.specs.List.{range_with_len}
use Rattle.std.specs.Result.{IsErrAnd}
use Rattle.feed_reader.specs.declared.fetch_fault.FetchFault.{FetchFault}
use Rattle.feed_reader.specs.declared.fetch_fault.FetchFault.TheVariants as fault
use Rattle.feed_reader.specs.Bodies.{body_faults, with_body}
use Rattle.feed_reader.specs.Feed.{FilesData}
use Rattle.feed_reader.specs.Fetched.{IsFirstFault, Told, body_of, bytes_up_to, feed_files, file_faults, limit_faults, range_faults, sum_faults}
use Rattle.feed_reader.specs.Places.{bytes_in, file_at, files_with, name_at}

-- a body, where its place is before another
abbrev pub before : ℕ → ℕ → Option (List ℕ) → Option (List ℕ)
before mine place body = if nat_lt mine place then body else None

-- the files before a place
abbrev pub files_before : FilesData → ℕ → FilesData
files_before files place = record {
  stops = before 0 place files.stops;
  routes = before 1 place files.routes;
  calendar = before 2 place files.calendar;
  calendar_dates = before 3 place files.calendar_dates;
  trips = before 4 place files.trips;
  stop_times = before 5 place files.stop_times;
  frequencies = before 6 place files.frequencies;
  transfers = before 7 place files.transfers;
}

-- the faults from a place on
abbrev pub faults_from : ℕ → ℕ → FilesData → ℕ → List FetchFault
faults_from file_most files_most files place = flat_map (limit_faults file_most files_most files) (range_with_len place (8 - place))

-- a fact about each place holds of these eight
each-place : (P : ℕ → Type 0) → P 0 → P 1 → P 2 → P 3 → P 4 → P 5 → P 6 → P 7 → (place : ℕ) → place < 8 → P place
each-place P a b c d e f g h zero lt = a
each-place P a b c d e f g h (suc zero) lt = b
each-place P a b c d e f g h (suc (suc zero)) lt = c
each-place P a b c d e f g h (suc (suc (suc zero))) lt = d
each-place P a b c d e f g h (suc (suc (suc (suc zero)))) lt = e
each-place P a b c d e f g h (suc (suc (suc (suc (suc zero))))) lt = f
each-place P a b c d e f g h (suc (suc (suc (suc (suc (suc zero)))))) lt = g
each-place P a b c d e f g h (suc (suc (suc (suc (suc (suc (suc zero))))))) lt = h
each-place P a b c d e f g h (suc (suc (suc (suc (suc (suc (suc (suc n)))))))) lt = absurd (omega arith)

-- what the folder has at a place
body-at : (told : Told) (root : List ℕ) (place : ℕ) → place < 8 → body_of told root (name_at place) ≡ file_at (feed_files told root) place
body-at told root = each-place (λ place. body_of told root (name_at place) ≡ file_at (feed_files told root) place) refl refl refl refl refl refl refl refl

-- the files before the next place have one more, or as many where there is none
abbrev IsOneMore : FilesData → ℕ → Type 0
IsOneMore files place = files_before files (place + 1) ≡ with_body (files_before files place) place (file_at files place)

one-more-0 : (a b c d e f g h : Option (List ℕ)) → IsOneMore (files_with a b c d e f g h) 0
one-more-0 None b c d e f g h = refl
one-more-0 (Some x) b c d e f g h = refl

one-more-1 : (a b c d e f g h : Option (List ℕ)) → IsOneMore (files_with a b c d e f g h) 1
one-more-1 a None c d e f g h = refl
one-more-1 a (Some x) c d e f g h = refl

one-more-2 : (a b c d e f g h : Option (List ℕ)) → IsOneMore (files_with a b c d e f g h) 2
one-more-2 a b None d e f g h = refl
one-more-2 a b (Some x) d e f g h = refl

one-more-3 : (a b c d e f g h : Option (List ℕ)) → IsOneMore (files_with a b c d e f g h) 3
one-more-3 a b c None e f g h = refl
one-more-3 a b c (Some x) e f g h = refl

one-more-4 : (a b c d e f g h : Option (List ℕ)) → IsOneMore (files_with a b c d e f g h) 4
one-more-4 a b c d None f g h = refl
one-more-4 a b c d (Some x) f g h = refl

one-more-5 : (a b c d e f g h : Option (List ℕ)) → IsOneMore (files_with a b c d e f g h) 5
one-more-5 a b c d e None g h = refl
one-more-5 a b c d e (Some x) g h = refl

one-more-6 : (a b c d e f g h : Option (List ℕ)) → IsOneMore (files_with a b c d e f g h) 6
one-more-6 a b c d e f None h = refl
one-more-6 a b c d e f (Some x) h = refl

one-more-7 : (a b c d e f g h : Option (List ℕ)) → IsOneMore (files_with a b c d e f g h) 7
one-more-7 a b c d e f g None = refl
one-more-7 a b c d e f g (Some x) = refl

one-more : (files : FilesData) (place : ℕ) → place < 8 → IsOneMore files place
one-more files = each-place (IsOneMore files)
    (one-more-0 files.stops files.routes files.calendar files.calendar_dates files.trips files.stop_times files.frequencies files.transfers)
    (one-more-1 files.stops files.routes files.calendar files.calendar_dates files.trips files.stop_times files.frequencies files.transfers)
    (one-more-2 files.stops files.routes files.calendar files.calendar_dates files.trips files.stop_times files.frequencies files.transfers)
    (one-more-3 files.stops files.routes files.calendar files.calendar_dates files.trips files.stop_times files.frequencies files.transfers)
    (one-more-4 files.stops files.routes files.calendar files.calendar_dates files.trips files.stop_times files.frequencies files.transfers)
    (one-more-5 files.stops files.routes files.calendar files.calendar_dates files.trips files.stop_times files.frequencies files.transfers)
    (one-more-6 files.stops files.routes files.calendar files.calendar_dates files.trips files.stop_times files.frequencies files.transfers)
    (one-more-7 files.stops files.routes files.calendar files.calendar_dates files.trips files.stop_times files.frequencies files.transfers)

-- the limits that are passed at a place, with what was read before it
abbrev IsJudged : ℕ → ℕ → FilesData → ℕ → Type 0
IsJudged file_most files_most files place =
    limit_faults file_most files_most files place ≡ body_faults file_most files_most (files_before files place) place (file_at files place)

summed : (files : FilesData) (place : ℕ) → place < 8 → bytes_up_to files place ≡ bytes_in (files_before files (place + 1))
summed files = each-place (λ place. bytes_up_to files place ≡ bytes_in (files_before files (place + 1)))
    (omega arith) (omega arith) (omega arith) (omega arith) (omega arith) (omega arith) (omega arith) (omega arith)

judged : (file_most files_most : ℕ) (files : FilesData) (place : ℕ) → place < 8 → IsJudged file_most files_most files place
judged file_most files_most files place lt =
    ap (λ sum. file_faults file_most (file_at files place) ++ sum_faults files_most sum) (summed files place lt ∙ ap bytes_in (one-more files place lt))

-- the faults from a place on are those at the place and those from the next on
cut : (file_most files_most : ℕ) (files : FilesData) (place : ℕ) → place < 8
    → faults_from file_most files_most files place ≡ limit_faults file_most files_most files place ++ faults_from file_most files_most files (place + 1)
cut file_most files_most files = each-place
    (λ place. faults_from file_most files_most files place ≡ limit_faults file_most files_most files place ++ faults_from file_most files_most files (place + 1))
    refl refl refl refl refl refl refl refl

-- the first fault of a front is that of the whole
first-front : (front rest : List FetchFault) (e : FetchFault) → slice_get front 0 ≡ Some e → slice_get (front ++ rest) 0 ≡ Some e
first-front [] rest e h = absurd (cc h)
first-front (f ∷ fs) rest e h = h

-- what a loop over the places keeps, where these were told and counted as it began
pub record HasFetched (old_told new_told : Option Told) (old_count new_count : ℕ) (root : List ℕ) (file_most files_most place : ℕ) (fetched : FilesData) : Type 0 where
  pub files : IfSome old_told (λ told. fetched ≡ files_before (feed_files told root) place)
  pub faults : IfSome old_told (λ told. range_faults file_most files_most (feed_files told root) ≡ faults_from file_most files_most (feed_files told root) place)
  pub within : bytes_in fetched ≤ files_most
  pub count : old_count ≤ new_count
  pub kept : new_told ≡ old_told

-- the limits that are passed at a place, of a folder
at-place : (file_most files_most : ℕ) (told : Told) (root : List ℕ) (place : ℕ) (files : FilesData) → place < 8 → files ≡ files_before (feed_files told root) place
    → limit_faults file_most files_most (feed_files told root) place ≡ body_faults file_most files_most files place (body_of told root (name_at place))
at-place file_most files_most told root place files lt e = judged file_most files_most (feed_files told root) place lt
    ∙ ap (λ f. body_faults file_most files_most f place (file_at (feed_files told root) place)) (sym e)
    ∙ ap (λ body. body_faults file_most files_most files place body) (sym (body-at told root place lt))

-- one more place
pub fetched-more : (old mid new : Option Told) (old_count mid_count new_count : ℕ) (root : List ℕ) (file_most files_most place : ℕ) (files next : FilesData) → place < 8
    → HasFetched old mid old_count mid_count root file_most files_most place files
    → IfSome mid (λ told. next ≡ with_body files place (body_of told root (name_at place)))
    → IfSome mid (λ told. body_faults file_most files_most files place (body_of told root (name_at place)) ≡ [])
    → bytes_in next ≤ files_most → mid_count ≤ new_count → new ≡ mid
    → HasFetched old new old_count new_count root file_most files_most (place + 1) next
fetched-more old mid new old_count mid_count new_count root file_most files_most place files next lt h put none within more kept = record {
  files = put-in old h.files (subst (λ o. IfSome o (λ told. next ≡ with_body files place (body_of told root (name_at place)))) h.kept put);
  faults = passed old h.files h.faults (subst (λ o. IfSome o (λ told. body_faults file_most files_most files place (body_of told root (name_at place)) ≡ [])) h.kept none);
  within = within;
  count = (let low = h.count in omega arith);
  kept = kept ∙ h.kept;
}
  where
    put-in : (o : Option Told) → IfSome o (λ told. files ≡ files_before (feed_files told root) place) → IfSome o (λ told. next ≡ with_body files place (body_of told root (name_at place)))
        → IfSome o (λ told. next ≡ files_before (feed_files told root) (place + 1))
    put-in None e p = tt
    put-in (Some told) e p = p ∙ ap (λ f. with_body f place (body_of told root (name_at place))) e
        ∙ ap (λ body. with_body (files_before (feed_files told root) place) place body) (body-at told root place lt) ∙ sym (one-more (feed_files told root) place lt)

    passed : (o : Option Told) → IfSome o (λ told. files ≡ files_before (feed_files told root) place)
        → IfSome o (λ told. range_faults file_most files_most (feed_files told root) ≡ faults_from file_most files_most (feed_files told root) place)
        → IfSome o (λ told. body_faults file_most files_most files place (body_of told root (name_at place)) ≡ [])
        → IfSome o (λ told. range_faults file_most files_most (feed_files told root) ≡ faults_from file_most files_most (feed_files told root) (place + 1))
    passed None e f p = tt
    passed (Some told) e f p = f ∙ cut file_most files_most (feed_files told root) place lt
        ∙ ap (λ front. front ++ faults_from file_most files_most (feed_files told root) (place + 1)) (at-place file_most files_most told root place files lt e ∙ p)

-- a file is not fetched: the first fault of its place is the first of all
pub unfetched : (old mid : Option Told) (old_count mid_count new_count : ℕ) (root : List ℕ) (file_most files_most place : ℕ) (files : FilesData) → place < 8
    → HasFetched old mid old_count mid_count root file_most files_most place files → mid_count ≤ new_count → (e : FetchFault)
    → IsFirstFault mid (λ told. body_faults file_most files_most files place (body_of told root (name_at place))) mid_count new_count e
    → IsFirstFault old (λ told. range_faults file_most files_most (feed_files told root)) old_count new_count e
unfetched old mid old_count mid_count new_count root file_most files_most place files lt h more fault.ReadFault rose = λ same. (let low = h.count in let one : new_count ≡ mid_count = omega arith in let last = rose one in omega arith)
unfetched old mid old_count mid_count new_count root file_most files_most place files lt h more fault.NoMemory first = tt
unfetched old mid old_count mid_count new_count root file_most files_most place files lt h more (fault.Range limit count) first =
    of-folder old h.files h.faults (subst (λ o. IfSome o (λ told. slice_get (body_faults file_most files_most files place (body_of told root (name_at place))) 0 ≡ Some (fault.Range limit count))) h.kept first)
  where
    of-folder : (o : Option Told) → IfSome o (λ told. files ≡ files_before (feed_files told root) place)
        → IfSome o (λ told. range_faults file_most files_most (feed_files told root) ≡ faults_from file_most files_most (feed_files told root) place)
        → IfSome o (λ told. slice_get (body_faults file_most files_most files place (body_of told root (name_at place))) 0 ≡ Some (fault.Range limit count))
        → IfSome o (λ told. slice_get (range_faults file_most files_most (feed_files told root)) 0 ≡ Some (fault.Range limit count))
    of-folder None e f p = tt
    of-folder (Some told) e f p =
        ap (λ faults. slice_get faults 0) (f ∙ cut file_most files_most (feed_files told root) place lt)
        ∙ first-front (limit_faults file_most files_most (feed_files told root) place) (faults_from file_most files_most (feed_files told root) (place + 1)) (fault.Range limit count)
        (ap (λ faults. slice_get faults 0) (at-place file_most files_most told root place files lt e) ∙ p)

-- behind the last place there is no fault
pub all-fetched : (old : Option Told) (root : List ℕ) (file_most files_most place : ℕ) → place ≡ 8
    → IfSome old (λ told. range_faults file_most files_most (feed_files told root) ≡ faults_from file_most files_most (feed_files told root) place)
    → IfSome old (λ told. range_faults file_most files_most (feed_files told root) ≡ [])
all-fetched None root file_most files_most place end h = tt
all-fetched (Some told) root file_most files_most place end h = h ∙ ap (faults_from file_most files_most (feed_files told root)) end

-- an answer that is handed on
pub handed_on : {A : Type 0} (P : FetchFault → Type 0) (result : Result A FetchFault) (e : FetchFault) → P e → IsErrAnd result (λ answer. answer ≡ e) → IfErr result P
handed_on P (Ok value) e h is = tt
handed_on P (Err answer) e h is = subst P (sym is) h
