-- What was begun and read is the file of the path.
use Rattle.std.proofs.Common.{◌≡◌, ℕ, ◌<◌, ◌≤◌, List, [], ◌⊎◌, inl, inr, false, Option, None, Some, Result, Ok, Err, refl, sym, ap, subst, ◌∙◌, arith}
use Rattle.std.specs.Prelude.{IfSome, IsSome, IfErr, ◌≢◌, is_some, length}
use Rattle.std.proofs.lemmas.List.{append-nil}
use Rattle.definitions.specs.declared.limits.TheConstants.{FILE_LIMIT}
use Rattle.desk_io.specs.Told.{file_at}
use Rattle.certificate.specs.declared.checking.Verdict.{Verdict}
use Rattle.certificate.specs.declared.refused.Refused.{Refused}
use Rattle.certificate.specs.declared.refused.Refused.TheVariants as refused
use Rattle.certificate.specs.Fed.{CheckerData, bytes_so_far, IsRefusedForGood}
use Rattle.certificate.specs.Refusals.{IsRefusedWith, HasFaultyLine}
use Rattle.certificate.specs.Valid.{IsNoCertificate, IsOnly, NoPlanIsCheaperIn}
use Rattle.desk.specs.declared.status.Cause.{Cause}
use Rattle.desk.specs.declared.status.Cause.TheVariants.{Done, Usage, Feed, Demand, Scenario, Range, ReadFault, WriteFault, NoMemory, Refused as RefusedCause, Unreachable}
use Rattle.desk.specs.declared.command.Command.TheVariants.{Check}
use Rattle.desk.specs.Ends.{Unchecked}
use Rattle.desk.specs.Fed.{HasRead, IsFed, Unfed}
use Rattle.desk.specs.Read.{Files, Reads, IsRead}
use Rattle.desk.specs.When.{IsChecked, IsRefusedCertificate}

-- the whole file was read
pub whole_file : (files : Files) (left : Option (List ℕ)) (path bytes : List ℕ) →
    IfSome files (λ told. IsSome (file_at told path)) → IfSome files (λ told. left ≡ file_at told path) → IfSome left (λ told. bytes ≡ told) →
    IfSome files (λ told. file_at told path ≡ Some bytes)
whole_file None left path bytes found begun read = tt
whole_file (Some told) None path bytes found begun read = absurd (let e : is_some (file_at told path) ≡ false = ap is_some (sym begun) in cc)
whole_file (Some told) (Some rest) path bytes found begun read = sym begun ∙ ap (λ b. Some b) (sym read)

-- the file is longer than the limit
pub long_file : (files : Files) (left : Option (List ℕ)) (path : List ℕ) (limit : ℕ) →
    IfSome files (λ told. IsSome (file_at told path)) → IfSome files (λ told. left ≡ file_at told path) → IfSome left (λ told. limit < length told) →
    IfSome files (λ told. (bytes : List ℕ) × (file_at told path ≡ Some bytes) × (limit < length bytes))
long_file None left path limit found begun long = tt
long_file (Some told) None path limit found begun long = absurd (let e : is_some (file_at told path) ≡ false = ap is_some (sym begun) in cc)
long_file (Some told) (Some rest) path limit found begun long = (rest, sym begun, long)

-- ---- the command's file

-- it was read
file_read : (files : Files) (left : Option (List ℕ)) (path : List ℕ) (checker : CheckerData) →
    IfSome files (λ told. IsSome (file_at told path)) → IfSome files (λ told. left ≡ file_at told path) → (fed : IsFed left checker) → IsRead files (Some (Check path)) fed.bytes
file_read files left path checker found begun fed = record {
  path = path;
  is = refl;
  file = whole_file files left path fed.bytes found begun fed.told;
  within = fed.within;
}

-- a checker that gives a verdict has not refused
fresh_of : (refused : Option Refused) (result : Result Verdict Refused) (verdict : Verdict) → result ≡ Ok verdict → ((answer : Refused) → refused ≡ Some answer → result ≡ Err answer) → refused ≡ None
fresh_of None result verdict is same = refl
fresh_of (Some answer) result verdict is same = absurd (let e = sym is ∙ same answer refl in cc)

-- it was read, and has this verdict
pub file_checked : (files : Files) (left : Option (List ℕ)) (path : List ℕ) (checker : CheckerData) (result : Result Verdict Refused) (verdict : Verdict) →
    IfSome files (λ told. IsSome (file_at told path)) → IfSome files (λ told. left ≡ file_at told path) → IsFed left checker → result ≡ Ok verdict →
    ((answer : Refused) → checker.refused ≡ Some answer → result ≡ Err answer) → NoPlanIsCheaperIn (bytes_so_far checker) verdict → IsChecked files (Some (Check path)) verdict
file_checked files left path checker result verdict found begun fed is same lower = record {
  bytes = fed.bytes;
  read = file_read files left path checker found begun fed;
  no_plan_is_cheaper = subst (λ bytes. NoPlanIsCheaperIn bytes verdict) (fed.read.fed (fresh_of checker.refused result verdict is same)) lower;
}

-- why a text is refused, and that it is no certificate
record IsBad (bytes : List ℕ) (answer : Refused) : Type 0 where
  with : IsRefusedWith bytes answer
  invalid : IsNoCertificate bytes

-- what a checker refuses at the end of the bytes that it has read
bad_text : (checker : CheckerData) (bytes : List ℕ) (result : Result Verdict Refused) (answer : Refused) → HasRead checker bytes → result ≡ Err answer → answer ≢ refused.NoMemory →
    ((said : Refused) → checker.refused ≡ Some said → result ≡ Err said) → (checker.refused ≡ None → IfErr result (IsRefusedWith (bytes_so_far checker))) → (checker.refused ≡ None → IsOnly (bytes_so_far checker) result) → IsBad bytes answer
bad_text checker bytes result answer h is not_memory same why only = by checker.refused refl
  where
    certain : (answer ≡ refused.NoMemory) ⊎ IsRefusedForGood bytes answer → IsBad bytes answer
    certain (inl memory) = absurd (not_memory memory)
    certain (inr g) = record {
      with = inr (inl (subst (λ xs. HasFaultyLine xs answer) (append-nil bytes) (g.line [])));
      invalid = subst IsNoCertificate (append-nil bytes) (g.invalid []);
    }

    by : (o : Option Refused) → checker.refused ≡ o → IsBad bytes answer
    by None e = record {
      with = subst (λ xs. IsRefusedWith xs answer) (h.fed e) (subst (λ r. IfErr r (IsRefusedWith (bytes_so_far checker))) is (why e));
      invalid = λ c valid text. not_memory (subst (λ r. IsOnly (bytes_so_far checker) r) is (only e) c valid (h.fed e ∙ text));
    }
    by (Some said) e = (let one : said ≡ answer = (let both = sym (same said e) ∙ is in cc) in certain (subst (λ r. (r ≡ refused.NoMemory) ⊎ IsRefusedForGood bytes r) one (h.refused said e)))

-- it was read, and refused
pub file_refused : (files : Files) (left : Option (List ℕ)) (path : List ℕ) (checker : CheckerData) (result : Result Verdict Refused) (answer : Refused) →
    IfSome files (λ told. IsSome (file_at told path)) → IfSome files (λ told. left ≡ file_at told path) → IsFed left checker → result ≡ Err answer → answer ≢ refused.NoMemory →
    ((said : Refused) → checker.refused ≡ Some said → result ≡ Err said) → (checker.refused ≡ None → IfErr result (IsRefusedWith (bytes_so_far checker))) → (checker.refused ≡ None → IsOnly (bytes_so_far checker) result) →
    IsRefusedCertificate files (Some (Check path)) answer
file_refused files left path checker result answer found begun fed is not_memory same why only =
    let bad : IsBad fed.bytes answer = bad_text checker fed.bytes result answer fed.read is not_memory same why only in
    record {
      bytes = fed.bytes;
      read = file_read files left path checker found begun fed;
      with = bad.with;
      not_for_memory = not_memory;
      invalid = bad.invalid;
    }

-- why it was not read to its end
pub file_unread : (reads : Reads) (left : Option (List ℕ)) (path : List ℕ) (mid : ℕ) (cause : Cause) →
    IfSome reads.files (λ told. IsSome (file_at told path)) → IfSome reads.files (λ told. left ≡ file_at told path) → reads.old_count ≤ mid → mid ≤ reads.new_count → Unfed left mid reads.new_count cause → Unchecked reads path cause
file_unread reads left path mid Done found begun low high h = h
file_unread reads left path mid (Usage fault) found begun low high h = absurd h
file_unread reads left path mid (Feed fault) found begun low high h = absurd h
file_unread reads left path mid (Demand fault) found begun low high h = absurd h
file_unread reads left path mid (Scenario fault) found begun low high h = absurd h
file_unread reads left path mid (Range limit count) found begun low high h = (h.0, h.1, long_file reads.files left path FILE_LIMIT found begun h.2)
file_unread reads left path mid ReadFault found begun low high h = λ same. (let one : reads.new_count ≡ mid = omega arith in let last = h one in omega arith)
file_unread reads left path mid (WriteFault sent) found begun low high h = h
file_unread reads left path mid NoMemory found begun low high h = tt
file_unread reads left path mid (Unreachable unreached) found begun low high h = absurd h
file_unread reads left path mid (RefusedCause fault) found begun low high h = absurd h
