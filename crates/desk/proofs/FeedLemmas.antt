-- Bytes that are taken from a source and fed to a checker.
use Rattle.std.proofs.Common.{◌≡◌, ℕ, ◌+◌, List, ◌++◌, ◌⊎◌, inl, inr, length, Option, None, Some, Result, Ok, Err, refl, sym, ap, subst, ◌∙◌, append_assoc, arith, length-append}
use Rattle.std.specs.Prelude.{OnOk, IfErr}
use Rattle.definitions.specs.declared.limits.TheConstants.{FILE_LIMIT}
use Rattle.desk_io.specs.Told.{Takes}
use Rattle.certificate.specs.declared.refused.Refused.{Refused}
use Rattle.certificate.specs.declared.refused.Refused.TheVariants as refused
use Rattle.certificate.specs.Refusals.{HasFaultyLine}
use Rattle.certificate.specs.Valid.{IsNoCertificate}
use Rattle.certificate.specs.Fed.{CheckerData, bytes_so_far, IsRefusedForGood}
use Rattle.desk.specs.Fed.{HasRead, Feeds}

-- ---- what a checker has read

-- a refusal stands, whatever is read on
longer : (bytes piece : List ℕ) (answer : Refused) → IsRefusedForGood bytes answer → IsRefusedForGood (bytes ++ piece) answer
longer bytes piece answer h = record {
  line = λ more. subst (λ xs. HasFaultyLine xs answer) (sym (append_assoc bytes piece more)) (h.line (piece ++ more));
  invalid = λ more. subst IsNoCertificate (sym (append_assoc bytes piece more)) (h.invalid (piece ++ more));
}

-- the piece was read
piece_read : (old new : CheckerData) (piece : List ℕ) → (old.refused ≡ None) × (new.refused ≡ None) → bytes_so_far new ≡ bytes_so_far old ++ piece → Feeds old piece new
piece_read old new piece fresh grown bytes h = record {
  fed = λ f. grown ∙ ap (λ xs. xs ++ piece) (h.fed fresh.0);
  refused = λ answer is. absurd (let no : None ≡ Some answer = sym fresh.1 ∙ is in cc);
}

-- the piece was refused, or refused again
piece_refused : (old new : CheckerData) (piece : List ℕ) (said : Refused) → new.refused ≡ Some said →
    (old.refused ≡ None → (said ≡ refused.NoMemory) ⊎ IsRefusedForGood (bytes_so_far old ++ piece) said) → ((answer : Refused) → old.refused ≡ Some answer → said ≡ answer) → Feeds old piece new
piece_refused old new piece said noted first again bytes h = record {
  fed = λ fresh. absurd (let no : None ≡ Some said = sym fresh ∙ noted in cc);
  refused = λ answer is. (let same : said ≡ answer = (let e : Some said ≡ Some answer = sym noted ∙ is in cc) in subst (λ r. (r ≡ refused.NoMemory) ⊎ IsRefusedForGood (bytes ++ piece) r) same (by old.refused refl));
}
  where
    stays : (answer : Refused) → (answer ≡ refused.NoMemory) ⊎ IsRefusedForGood bytes answer → (answer ≡ refused.NoMemory) ⊎ IsRefusedForGood (bytes ++ piece) answer
    stays answer (inl memory) = inl memory
    stays answer (inr g) = inr (longer bytes piece answer g)

    by : (o : Option Refused) → old.refused ≡ o → (said ≡ refused.NoMemory) ⊎ IsRefusedForGood (bytes ++ piece) said
    by None e = subst (λ xs. (said ≡ refused.NoMemory) ⊎ IsRefusedForGood (xs ++ piece) said) (h.fed e) (first e)
    by (Some answer) e = subst (λ r. (r ≡ refused.NoMemory) ⊎ IsRefusedForGood (bytes ++ piece) r) (sym (again answer e)) (stays answer (h.refused answer e))

-- so either way
pub piece_fed : (old new : CheckerData) (piece : List ℕ) (r : Result (Unit {0}) Refused) → OnOk r ((old.refused ≡ None) × (new.refused ≡ None)) → OnOk r (bytes_so_far new ≡ bytes_so_far old ++ piece) →
    IfErr r (λ said. new.refused ≡ Some said) → (old.refused ≡ None → IfErr r (λ said. (said ≡ refused.NoMemory) ⊎ IsRefusedForGood (bytes_so_far old ++ piece) said)) →
    ((answer : Refused) → old.refused ≡ Some answer → (r ≡ Err answer) × (new ≡ old)) → Feeds old piece new
piece_fed old new piece (Ok u) fresh grown noted first again = piece_read old new piece fresh grown
piece_fed old new piece (Err said) fresh grown noted first again =
    piece_refused old new piece said noted first (λ answer is. (let e = (again answer is).0 in cc))

-- ---- what is taken from a source

-- some bytes were taken, and the checker has read them
pub record HasTaken (old new : Option (List ℕ)) (room : ℕ) (checker : CheckerData) : Type 0 where
  pub bytes : List ℕ
  pub taken : Takes old new bytes
  pub count : length bytes + room ≡ FILE_LIMIT
  pub read : HasRead checker bytes

-- what is taken in two pieces is taken as one
takes_then : (old mid new : Option (List ℕ)) (front back : List ℕ) → Takes old mid front → Takes mid new back → Takes old new (front ++ back)
takes_then old mid None front back first second = rw (first, second) refl
takes_then old mid (Some bytes) front back first second = rw (first, second) (ap Some (sym (append_assoc front back bytes)))

-- a piece more
pub piece_taken : (old mid new : Option (List ℕ)) (room left : ℕ) (before after : CheckerData) (piece : List ℕ) → HasTaken old mid room before → Takes mid new piece → length piece + left ≡ room →
    Feeds before piece after → HasTaken old new left after
piece_taken old mid new room left before after piece h taken count feeds = record {
  bytes = h.bytes ++ piece;
  taken = takes_then old mid new h.bytes piece h.taken taken;
  count = let n = length-append h.bytes piece in let c = h.count in omega arith;
  read = feeds h.bytes h.read;
}
