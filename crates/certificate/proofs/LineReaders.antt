-- A reader of a line, when bytes are added behind what it reads; and how far it reads.
use Rattle.std.proofs.Common.{◌≡◌, ℕ, zero, suc, ◌+◌, ◌≤◌, Bool, true, false, cond, List, [], ◌∷◌, ◌++◌, length, Result, Ok, Err, refl, sym, ap, subst, arith, length-append}
use Rattle.std.specs.Prelude.{◌==◌}
use Rattle.certificate.specs.declared.fault.Fault.{Fault}
use Rattle.certificate.specs.declared.fault.Fault.TheVariants as fault
use Rattle.certificate.specs.Bytes.{◌>>=◌, byte_at, literal_at}

-- where the bytes stand that are left, and what more bytes make of it
pub record Shape (A : Type 0) : Type 0 where
  pub rest : A → List ℕ
  pub onto : A → List ℕ → A

-- bytes alone
abbrev pub plain : Shape (List ℕ)
plain = record { rest = λ bytes. bytes; onto = λ bytes more. bytes ++ more }

-- a value and bytes
abbrev pub pair : {V : Type 0} → Shape (V × List ℕ)
pair = record { rest = λ p. p.1; onto = λ p more. (p.0, p.1 ++ more) }

-- a fault in so many bytes stands within the first `most` of them
abbrev pub IsNear : ℕ → ℕ → Fault → Type 0
IsNear most count (fault.Stop left) = (left ≤ count) × (count ≤ left + most)
IsNear most count (fault.Range limit number) = Unit {0}
IsNear most count (fault.Arc inner) = Unit {0}
IsNear most count fault.NoMemory = Unit {0}

-- of so many bytes no more than `most` are taken
abbrev pub Takes : {B : Type 0} → Shape B → ℕ → ℕ → Result B Fault → Type 0
Takes t most count (Ok y) = (length (t.rest y) ≤ count) × (count ≤ length (t.rest y) + most)
Takes t most count (Err e) = IsNear most count e

-- a fault stays with more bytes, and its place too; where the bytes ended, a line takes all of them
abbrev pub Stays : {B : Type 0} → Shape B → List ℕ → Fault → Result B Fault → Type 0
Stays t more (fault.Stop zero) long = (y : _) → long ≡ Ok y → length (t.rest y) ≤ length more
Stays t more (fault.Stop (suc n)) long = long ≡ Err (fault.Stop (suc n + length more))
Stays t more (fault.Range limit number) long = long ≡ Err (fault.Range limit number)
Stays t more (fault.Arc inner) long = long ≡ Err (fault.Arc inner)
Stays t more fault.NoMemory long = long ≡ Err fault.NoMemory

-- so does what is read
abbrev pub Lasts : {B : Type 0} → Shape B → List ℕ → Result B Fault → Result B Fault → Type 0
Lasts t more (Ok y) long = long ≡ Ok (t.onto y more)
Lasts t more (Err e) long = Stays t more e long

-- a reader that takes no more than `most` bytes
pub record IsReader {A B : Type 0} (s : Shape A) (t : Shape B) (most : ℕ) (f : A → Result B Fault) : Type 0 where
  pub takes : (x : A) → Takes t most (length (s.rest x)) (f x)
  pub lasts : (x : A) (more : List ℕ) → Lasts t more (f x) (f (s.onto x more))

-- ---- one reader after the other

near_then : (a b m n : ℕ) (e : Fault) → n ≤ m → m ≤ n + a → IsNear b n e → IsNear (a + b) m e
near_then a b m n (fault.Stop left) low high h = (omega arith, omega arith)
near_then a b m n (fault.Range limit number) low high h = tt
near_then a b m n (fault.Arc inner) low high h = tt
near_then a b m n fault.NoMemory low high h = tt

pub takes_then : {C : Type 0} (u : Shape C) (a b m n : ℕ) (r : Result C Fault) → n ≤ m → m ≤ n + a → Takes u b n r → Takes u (a + b) m r
takes_then u a b m n (Ok z) low high h = (omega arith, omega arith)
takes_then u a b m n (Err e) low high h = near_then a b m n e low high h

near_more : (a b n : ℕ) (e : Fault) → IsNear a n e → IsNear (a + b) n e
near_more a b n (fault.Stop left) h = (omega arith, omega arith)
near_more a b n (fault.Range limit number) h = tt
near_more a b n (fault.Arc inner) h = tt
near_more a b n fault.NoMemory h = tt

takes_both : {B C : Type 0} (t : Shape B) (u : Shape C) (a b n : ℕ) (r : Result B Fault) (g : B → Result C Fault) →
    Takes t a n r → ((y : B) → Takes u b (length (t.rest y)) (g y)) → Takes u (a + b) n (r >>= g)
takes_both t u a b n (Ok y) g h k = takes_then u a b n (length (t.rest y)) (g y) h.0 h.1 (k y)
takes_both t u a b n (Err e) g h k = near_more a b n e h

-- where the first reader ended too early, the second takes no less
ended_both : {B C : Type 0} (t : Shape B) (u : Shape C) (b : ℕ) (more : List ℕ) (r : Result B Fault) (g : B → Result C Fault) →
    ((y : B) → r ≡ Ok y → length (t.rest y) ≤ length more) → ((y : B) → Takes u b (length (t.rest y)) (g y)) → (z : C) → (r >>= g) ≡ Ok z → length (u.rest z) ≤ length more
ended_both t u b more (Ok y) g h k z e =
    let low : length (t.rest y) ≤ length more = h y refl in
    let takes : Takes u b (length (t.rest y)) (Ok z) = subst (λ r. Takes u b (length (t.rest y)) r) e (k y) in
    omega (arith, takes.0)
ended_both t u b more (Err d) g h k z e = absurd cc

bind_err : {B C : Type 0} (r : Result B Fault) (g : B → Result C Fault) (e : Fault) → r ≡ Err e → (r >>= g) ≡ Err e
bind_err r g e h = ap (λ x. x >>= g) h

lasts_both : {B C : Type 0} (t : Shape B) (u : Shape C) (b : ℕ) (more : List ℕ) (r long : Result B Fault) (g : B → Result C Fault) →
    Lasts t more r long → IsReader t u b g → Lasts u more (r >>= g) (long >>= g)
lasts_both t u b more (Ok y) long g h k = subst (λ x. Lasts u more (g y) (x >>= g)) (sym h) (k.lasts y more)
lasts_both t u b more (Err (fault.Stop zero)) long g h k = ended_both t u b more long g h k.takes
lasts_both t u b more (Err (fault.Stop (suc n))) long g h k = bind_err long g _ h
lasts_both t u b more (Err (fault.Range limit number)) long g h k = bind_err long g _ h
lasts_both t u b more (Err (fault.Arc inner)) long g h k = bind_err long g _ h
lasts_both t u b more (Err fault.NoMemory) long g h k = bind_err long g _ h

pub then_reader : {A B C : Type 0} (s : Shape A) (t : Shape B) (u : Shape C) (a b : ℕ) (f : A → Result B Fault) (g : B → Result C Fault) →
    IsReader s t a f → IsReader t u b g → IsReader s u (a + b) (λ x. f x >>= g)
then_reader s t u a b f g F G = record {
  takes = λ x. takes_both t u a b (length (s.rest x)) (f x) g (F.takes x) G.takes;
  lasts = λ x more. lasts_both t u b more (f x) (f (s.onto x more)) g (F.lasts x more) G;
}

-- ---- bytes

byte_takes : (c : ℕ) (b : ℕ) (bs : List ℕ) (t : Bool) → Takes plain 1 (length (b ∷ bs)) (cond t (Ok bs) (Err (fault.Stop (length (b ∷ bs)))))
byte_takes c b bs true = (omega arith, omega arith)
byte_takes c b bs false = (omega arith, omega arith)

byte_lasts : (b : ℕ) (bs more : List ℕ) (t : Bool) → Lasts plain more (cond t (Ok bs) (Err (fault.Stop (length (b ∷ bs))))) (cond t (Ok (bs ++ more)) (Err (fault.Stop (length (b ∷ bs ++ more)))))
byte_lasts b bs more true = refl
byte_lasts b bs more false = ap (λ n. Err (fault.Stop n)) (let h = length-append bs more in omega arith)

byte_end : (c : ℕ) (bs y : List ℕ) → byte_at c bs ≡ Ok y → length y ≤ length bs
byte_end c [] y e = absurd cc
byte_end c (b ∷ bs) y e = (subst (λ r. Takes plain 1 (length (b ∷ bs)) r) e (byte_takes c b bs (b == c))).0

pub byte_reader : (c : ℕ) → IsReader plain plain 1 (byte_at c)
byte_reader c = record { takes = takes; lasts = lasts }
  where
    takes : (x : List ℕ) → Takes plain 1 (length x) (byte_at c x)
    takes [] = (omega arith, omega arith)
    takes (b ∷ bs) = byte_takes c b bs (b == c)

    lasts : (x more : List ℕ) → Lasts plain more (byte_at c x) (byte_at c (x ++ more))
    lasts [] more = λ y e. byte_end c more y e
    lasts (b ∷ bs) more = byte_lasts b bs more (b == c)

-- ---- smaller and chosen readers

-- a reader may take fewer bytes than it is said to
near_within : (a b n : ℕ) (e : Fault) → a ≤ b → IsNear a n e → IsNear b n e
near_within a b n (fault.Stop left) few h = (omega arith, omega arith)
near_within a b n (fault.Range limit number) few h = tt
near_within a b n (fault.Arc inner) few h = tt
near_within a b n fault.NoMemory few h = tt

pub takes_within : {B : Type 0} (t : Shape B) (a b n : ℕ) (r : Result B Fault) → a ≤ b → Takes t a n r → Takes t b n r
takes_within t a b n (Ok y) few h = (omega arith, omega arith)
takes_within t a b n (Err e) few h = near_within a b n e few h

pub within : {A B : Type 0} (s : Shape A) (t : Shape B) (a b : ℕ) (f : A → Result B Fault) → a ≤ b → IsReader s t a f → IsReader s t b f
within s t a b f few h = record { takes = λ x. takes_within t a b (length (s.rest x)) (f x) few (h.takes x); lasts = h.lasts }

-- one of two readers, whatever is read
pub either : {A B : Type 0} (s : Shape A) (t : Shape B) (b : ℕ) (f g : A → Result B Fault) (c : Bool) → IsReader s t b f → IsReader s t b g → IsReader s t b (λ x. cond c (f x) (g x))
either s t b f g true F G = F
either s t b f g false F G = G

pub literal_reader : (text : List ℕ) → IsReader plain plain (length text) (literal_at text)
literal_reader [] = record { takes = λ x. (omega arith, omega arith); lasts = λ x more. refl }
literal_reader (c ∷ cs) =
    within plain plain (1 + length cs) (length (c ∷ cs)) (literal_at (c ∷ cs)) (omega arith) (then_reader plain plain plain 1 (length cs) (byte_at c) (literal_at cs) (byte_reader c) (literal_reader cs))
