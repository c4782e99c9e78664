-- A reading that did not stop: what each of its steps gave.
use Rattle.std.proofs.Common.{◌≡◌, Bool, true, false, cond, Result, Ok, Err, Option, None, Some, refl, ◌⊎◌, inl, inr}
use Rattle.lp_model.specs.declared.fault.NetFault.{NetFault}
use Rattle.certificate.specs.declared.fault.Fault.{Fault}
use Rattle.certificate.specs.Bytes.{◌>>=◌}
use Rattle.certificate.specs.Lines.{unless}

-- the value of a step, and what the next made of it
pub bind_ok : {A B : Type 0} (r : Result A Fault) (f : A → Result B Fault) (y : B) → (r >>= f) ≡ Ok y → (x : A) × (r ≡ Ok x) × (f x ≡ Ok y)
bind_ok (Ok x) f y e = (x, refl, e)
bind_ok (Err d) f y e = absurd cc

-- a value that is read
abbrev pub done : {A : Type 0} → A → Result A Fault
done x = Ok x

-- a fault that stops
abbrev pub failed : {A : Type 0} → Fault → Result A Fault
failed f = Err f

-- one value is read
pub ok_is : {A : Type 0} (x y : A) → done x ≡ done y → x ≡ y
ok_is x y e = cc

-- a test that held
pub held : {A : Type 0} (b : Bool) (d : Fault) (x y : A) → cond b (Ok x) (Err d) ≡ Ok y → (b ≡ true) × (x ≡ y)
held true d x y e = (refl, cc)
held false d x y e = absurd cc

-- a test that chose
pub chosen : {A : Type 0} (b : Bool) (x y z : A) → cond b x y ≡ z → ((b ≡ true) × (x ≡ z)) ⊎ ((b ≡ false) × (y ≡ z))
chosen true x y z e = inl (refl, e)
chosen false x y z e = inr (refl, e)

-- no fault stood
pub unless_ok : {A : Type 0} (f : Option NetFault) (x y : A) → unless f x ≡ Ok y → x ≡ y
unless_ok None x y e = ok_is x y e
unless_ok (Some f) x y e = absurd cc
