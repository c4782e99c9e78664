-- Bytes that are taken or appended in several pieces.
use Rattle.std.proofs.Common.{◌≡◌, ℕ, ◌≤◌, ◌-◌, ◌+◌, List, ◌++◌, Option, None, Some, refl, sym, ap, append_assoc, take, drop, length, length-append}
use Rattle.std.proofs.lemmas.List.{take_rest}
use Rattle.std.proofs.Math.Seq.{take-add, drop-append_seam}
use Rattle.std.specs.Option.{option_map}
use Rattle.desk_io.specs.Told.{Appends, Takes, TakesAtMost}

-- what is appended in two pieces is appended as one
pub appends_then : (old mid new : Option (List ℕ)) (front back : List ℕ)
    → Appends old mid front → Appends mid new back → Appends old new (front ++ back)
appends_then None mid new front back first second = rw (second, first) refl
appends_then (Some bytes) mid new front back first second = rw (second, first) (ap Some (append_assoc bytes front back))

-- what is taken in two pieces is taken as one
pub takes_then : (old mid new : Option (List ℕ)) (front back : List ℕ)
    → Takes old mid front → Takes mid new back → Takes old new (front ++ back)
takes_then old mid None front back first second = rw (first, second) refl
takes_then old mid (Some bytes) front back first second = rw (first, second) (ap Some (sym (append_assoc front back bytes)))

-- what is left once so many bytes are taken
pub left_of_takes : (old new : Option (List ℕ)) (bytes : List ℕ) (n : ℕ)
    → Takes old new bytes → length bytes ≡ n → new ≡ option_map (drop n) old
left_of_takes old None bytes n takes long = rw takes refl
left_of_takes old (Some rest) bytes n takes long = rw (takes, ← long) (ap Some (sym (drop-append_seam bytes rest)))

-- two pieces that are taken are no more than so many bytes
pub takes_at_most : (old mid new : Option (List ℕ)) (front back : List ℕ) (most : ℕ) → Takes old mid front → Takes mid new back
    → length front + length back ≤ most → TakesAtMost old new most
takes_at_most old mid new front back most first second within =
    (front ++ back, rw length-append within, takes_then old mid new front back first second)

-- the next piece of the bytes, of which the first so many were appended
pub appends_more : (old mid new : Option (List ℕ)) (bytes : List ℕ) (sent n : ℕ) → sent ≤ length bytes
    → Appends old mid (take sent bytes) → Appends mid new (take n (take (length bytes - sent) (drop sent bytes)))
    → Appends old new (take (sent + n) bytes)
appends_more old mid new bytes sent n within first second =
    let next : Appends mid new (take n (drop sent bytes)) = rw (take_rest bytes sent) at second in
    rw (take-add sent n bytes) (appends_then old mid new (take sent bytes) (take n (drop sent bytes)) first next)
