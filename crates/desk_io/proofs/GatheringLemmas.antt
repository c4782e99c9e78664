-- Texts that are given one after the other, and what is sent of them.
use Rattle.std.proofs.Common.{◌≡◌, ℕ, ◌<◌, ◌≤◌, ◌+◌, List, [], ◌++◌, Option, None, Some, refl, sym, ap, subst, ◌∙◌, append_assoc, append-nil, arith, take, drop, length, length-append, take_all}
use Rattle.std.proofs.lemmas.List.{take-append-le, drop-append-le, drop-drop, length-drop}
use Rattle.std.proofs.Math.Seq.{take-add}
use Rattle.desk_io.specs.Told.{Appends}
use Rattle.desk_io.specs.Gathering.{Gathering, Sends, Stops, GoesUp, nothing_gathered}
use Rattle.desk_io.proofs.ToldLemmas.{appends_then}

-- what waits of two texts, and a third
rest_on : (xs a b : List ℕ) (n : ℕ) → n ≤ length (xs ++ a) → drop n (xs ++ a) ++ b ≡ drop n (xs ++ (a ++ b))
rest_on xs a b n le = sym (drop-append-le n (xs ++ a) b le) ∙ ap (drop n) (append_assoc xs a b)

-- the first bytes of two texts are those of three
first_on : (xs a b : List ℕ) (n : ℕ) → n ≤ length (xs ++ a) → take n (xs ++ a) ≡ take n (xs ++ (a ++ b))
first_on xs a b n le = sym (take-append-le n (xs ++ a) b le) ∙ ap (take n) (append_assoc xs a b)

-- what is sent in two goes is sent in one
appends_on : (first mid last : Option (List ℕ)) (xs a ys b : List ℕ) (n m : ℕ) → n ≤ length (xs ++ a) → ys ≡ drop n (xs ++ a) →
    Appends first mid (take n (xs ++ a)) → Appends mid last (take m (ys ++ b)) → Appends first last (take (n + m) (xs ++ (a ++ b)))
appends_on first mid last xs a ys b n m le rest sent then =
    let front : Appends first mid (take n (xs ++ (a ++ b))) = subst (Appends first mid) (first_on xs a b n le) sent in
    let back : Appends mid last (take m (drop n (xs ++ (a ++ b)))) =
    subst (λ zs. Appends mid last (take m zs)) (ap (λ zs. zs ++ b) rest ∙ rest_on xs a b n le) then in
    rw (take-add n m (xs ++ (a ++ b))) (appends_then first mid last (take n (xs ++ (a ++ b))) (take m (drop n (xs ++ (a ++ b)))) front back)

-- how many bytes there are of what waits and a text
length_on : (xs a ys b : List ℕ) (n : ℕ) → n ≤ length (xs ++ a) → ys ≡ drop n (xs ++ a) → n + length (ys ++ b) ≡ length (xs ++ (a ++ b))
length_on xs a ys b n le rest =
    let counted : length ys ≡ length (drop n (xs ++ a)) = ap length rest in
    omega (arith, counted, length-drop n (xs ++ a), length-append ys b, length-append xs a, length-append xs (a ++ b), length-append a b)

-- a count that goes up in two goes
goes_up_then : (old n mid m new : ℕ) → GoesUp old n mid → GoesUp mid m new → GoesUp old (n + m) new
goes_up_then old n mid m new one two within =
    let first : mid ≡ old + n = one (omega arith) in
    let second : new ≡ mid + m = two (omega arith) in
    omega arith

-- two texts that are given one after the other are given as one
pub sends_then : (first mid last : Option (List ℕ)) (f g h : Gathering) (a b : List ℕ) →
    Sends first f mid g a → Sends mid g last h b → Sends first f last h (a ++ b)
sends_then first mid last f g h a b one two =
    let n = one.count in
    let m = two.count in
    let long : n + length (g.waiting ++ b) ≡ length (f.waiting ++ (a ++ b)) = length_on f.waiting a g.waiting b n one.within one.waiting in
    let below : m ≤ length (g.waiting ++ b) = two.within in
    record {
      count = n + m;
      within = omega arith;
      sent = goes_up_then f.sent n g.sent m h.sent one.sent two.sent;
      appended = appends_on first mid last f.waiting a g.waiting b n m one.within one.waiting one.appended two.appended;
      waiting = two.waiting ∙ ap (λ zs. drop m (zs ++ b)) one.waiting ∙ ap (drop m) (rest_on f.waiting a b n one.within) ∙ drop-drop m n (f.waiting ++ (a ++ b));
    }

-- a write that failed after a text was given
pub stops_then : (first mid last : Option (List ℕ)) (f g : Gathering) (a b : List ℕ) (sent : ℕ) →
    Sends first f mid g a → Stops mid g last b sent → Stops first f last (a ++ b) sent
stops_then first mid last f g a b sent one two =
    let n = one.count in
    let m = two.count in
    let long : n + length (g.waiting ++ b) ≡ length (f.waiting ++ (a ++ b)) = length_on f.waiting a g.waiting b n one.within one.waiting in
    let below : m < length (g.waiting ++ b) = two.within in
    record {
      count = n + m;
      within = omega arith;
      all = goes_up_then f.sent n g.sent m sent one.sent two.all;
      appended = appends_on first mid last f.waiting a g.waiting b n m one.within one.waiting one.appended two.appended;
    }

-- a write that failed before the rest of a text was given
pub stops_within : (first last : Option (List ℕ)) (f : Gathering) (a b : List ℕ) (sent : ℕ) → Stops first f last a sent → Stops first f last (a ++ b) sent
stops_within first last f a b sent stop =
    let n = stop.count in
    let below : n < length (f.waiting ++ a) = stop.within in
    record {
      count = n;
      within = omega (arith, length-append f.waiting a, length-append f.waiting (a ++ b), length-append a b);
      all = stop.all;
      appended = subst (Appends first last) (first_on f.waiting a b n (omega arith)) stop.appended;
    }

-- nothing more is told
appends_nothing : (told : Option (List ℕ)) → Appends told told []
appends_nothing None = refl
appends_nothing (Some bytes) = ap Some (sym (append-nil bytes))

-- a text that waits
pub sends_none : (told : Option (List ℕ)) (f g : Gathering) (a : List ℕ) → g.sent ≡ f.sent → g.waiting ≡ f.waiting ++ a → Sends told f told g a
sends_none told f g a sent waiting = record { count = 0; within = omega arith; sent = λ _. omega arith; appended = appends_nothing told; waiting = waiting }

-- a write that failed where nothing waited
pub stops_alone : (first last : Option (List ℕ)) (f : Gathering) (text : List ℕ) (count sent : ℕ) → f.waiting ≡ [] → count < length text →
    GoesUp f.sent count sent → Appends first last (take count text) → Stops first f last text sent
stops_alone first last f text count sent none within all appended =
    let whole : f.waiting ++ text ≡ text = ap (λ xs. xs ++ text) none in
    record { count = count; within = rw whole within; all = all; appended = rw whole appended }

-- a write of what waited that failed
pub stops_waiting : (first last : Option (List ℕ)) (f : Gathering) (count sent : ℕ) → count < length f.waiting →
    GoesUp f.sent count sent → Appends first last (take count f.waiting) → Stops first f last [] sent
stops_waiting first last f count sent within all appended =
    record { count = count; within = rw (append-nil f.waiting) within; all = all; appended = rw (append-nil f.waiting) appended }

-- all was sent where nothing waits any more
all_of : (count : ℕ) (text : List ℕ) → [] ≡ drop count text → take count text ≡ text
all_of count text none =
    let short : length text ≤ count = let left = ap length none in omega (arith, left, length-drop count text) in
    take_all count text short

pub sends_all : (first last : Option (List ℕ)) (f : Gathering) (text : List ℕ) → Sends first nothing_gathered last f text → f.waiting ≡ [] →
    Appends first last text
sends_all first last f text sends empty = subst (Appends first last) (all_of sends.count text (sym empty ∙ sends.waiting)) sends.appended

-- what a fault says, where the text is no longer than a usize counts
pub stops_at : (first last : Option (List ℕ)) (text : List ℕ) (sent : ℕ) → length text ≤ 18446744073709551615 →
    Stops first nothing_gathered last text sent → (sent < length text) × Appends first last (take sent text)
stops_at first last text sent within stop =
    let below : stop.count < length text = stop.within in
    let counted : sent ≡ 0 + stop.count = stop.all (omega arith) in
    let same : sent ≡ stop.count = omega arith in
    (rw same below, rw same stop.appended)

-- the same of a fault while the last bytes were sent
pub stops_at_end : (first mid last : Option (List ℕ)) (f : Gathering) (text : List ℕ) (sent : ℕ) → length text ≤ 18446744073709551615 →
    Sends first nothing_gathered mid f text → Stops mid f last [] sent → (sent < length text) × Appends first last (take sent text)
stops_at_end first mid last f text sent within sends stop =
    stops_at first last text sent within
    (subst (λ whole. Stops first nothing_gathered last whole sent) (append-nil text) (stops_then first mid last nothing_gathered f text [] sent sends stop))

-- all was sent at the end
pub sends_all_at_end : (first mid last : Option (List ℕ)) (f g : Gathering) (text : List ℕ) →
    Sends first nothing_gathered mid f text → Sends mid f last g [] → g.waiting ≡ [] → Appends first last text
sends_all_at_end first mid last f g text sends flushed empty =
    sends_all first last g text
    (subst (Sends first nothing_gathered last g) (append-nil text) (sends_then first mid last nothing_gathered f g text [] sends flushed)) empty
