-- No line's reading wants memory.
use Rattle.std.proofs.Common.{◌≡◌, ℕ, ◌+◌, ◌-◌, Bool, true, false, cond, List, [], ◌∷◌, ◌++◌, length, Option, None, Some, Result, Ok, Err, ap}
use Rattle.std.specs.Prelude.{codes, slice_get, nat_le, nat_lt, ◌==◌}
use Rattle.definitions.specs.declared.arc.NetArc.{NetArc}
use Rattle.definitions.specs.declared.limits.TheConstants.{UNIT_LIMIT, COST_LIMIT, WEIGHT_LIMIT}
use Rattle.definitions.specs.Decimal.{line_end}
use Rattle.lp_model.specs.declared.fault.NetFault.{NetFault}
use Rattle.lp_model.specs.declared.fault.NetFault.TheVariants as net_fault
use Rattle.lp_model.specs.Faults.{arc_faults, weight_faults, fault_if, tail_before}
use Rattle.lp_model.specs.Wide.{arc_of_wide}
use Rattle.certificate.specs.declared.refused.Limit.{Limit}
use Rattle.certificate.specs.declared.refused.Limit.TheVariants as limit
use Rattle.certificate.specs.declared.fault.Fault.{Fault}
use Rattle.certificate.specs.declared.fault.Fault.TheVariants as fault
use Rattle.certificate.specs.Bytes.{◌>>=◌, Gives, is_digit, digits_on, digits_at, byte_at, literal_at, number_at}
use Rattle.certificate.specs.Limits.{greatest}
use Rattle.certificate.specs.Lines.{word_at, number_line_at, destination_line_at, demand_line_at, weight_at, wide_arc_at, unless, arc_line_at}
use Rattle.certificate.specs.Spelling.{last_line}
use Rattle.certificate.specs.Draft.{DraftData, network_so_far}
use Rattle.certificate.specs.NextLine.{rest_of, row_at}

-- a reading that wants no memory
abbrev Never : {A : Type 0} → Result A Fault → Type 0
Never read = read ≡ Err fault.NoMemory → ⊥

-- what a function returned wants none either
pub gives_never : {X Y : Type 0} (view : X → Y) (r : Result X Fault) (read : Result Y Fault) → Gives view r read → Never read → r ≡ Err fault.NoMemory → ⊥
gives_never view (Ok x) read g never e = cc
gives_never view (Err d) read g never e = never (cc)

bind_never : {A B : Type 0} (r : Result A Fault) (f : A → Result B Fault) → Never r → ((x : A) → Never (f x)) → Never (r >>= f)
bind_never (Ok x) f a b e = b x e
bind_never (Err d) f a b e = a (let k : d ≡ fault.NoMemory = cc in ap (λ g. Err g) k)

test_never : {A : Type 0} (b : Bool) (r s : Result A Fault) → Never r → Never s → Never (cond b r s)
test_never true r s a b e = a e
test_never false r s a b e = b e

ok_never : {A : Type 0} (x : A) → Never (Ok x)
ok_never x e = cc

byte_never : (c : ℕ) (bs : List ℕ) → Never (byte_at c bs)
byte_never c [] e = cc
byte_never c (b ∷ bs) e = test_never (b == c) (Ok bs) (Err (fault.Stop (length (b ∷ bs)))) (ok_never bs) (λ e. cc) e

pub literal_never : (text bs : List ℕ) → Never (literal_at text bs)
literal_never [] bs e = cc
literal_never (c ∷ cs) bs e = bind_never (byte_at c bs) (literal_at cs) (byte_never c bs) (literal_never cs) e

digits_never : (bs : List ℕ) → Never (digits_at bs)
digits_never [] e = cc
digits_never (b ∷ bs) e =
    test_never (b == 48) (Ok (0, bs)) (cond (is_digit b) (Ok (digits_on (b - 48) bs)) (Err (fault.Stop (length (b ∷ bs))))) (ok_never (0, bs))
    (test_never (is_digit b) (Ok (digits_on (b - 48) bs)) (Err (fault.Stop (length (b ∷ bs)))) (ok_never (digits_on (b - 48) bs)) (λ e. cc)) e

number_never : (end : ℕ) (bs : List ℕ) → Never (number_at end bs)
unfolding number_at
number_never end bs =
    bind_never (digits_at bs) (λ n. byte_at end n.1 >>= λ rest. Ok (n.0, rest)) (digits_never bs)
    (λ n. bind_never (byte_at end n.1) (λ rest. Ok (n.0, rest)) (byte_never end n.1) (λ rest. ok_never (n.0, rest)))

word_never : (word bs : List ℕ) → Never (word_at word bs)
unfolding word_at
word_never word bs =
    bind_never (literal_at word bs) (λ b. byte_at 32 b >>= number_at 10) (literal_never word bs)
    (λ b. bind_never (byte_at 32 b) (number_at 10) (byte_never 32 b) (number_never 10))

rest_never : {A : Type 0} (read : Result (A × List ℕ) Fault) → Never read → Never (rest_of read)
rest_never read n = bind_never read (λ x. Ok x.1) n (λ x. ok_never x.1)

pub number_line_never : (word : List ℕ) (limit : Limit) (bs : List ℕ) → Never (rest_of (number_line_at word limit bs))
number_line_never word limit bs =
    rest_never (number_line_at word limit bs) (bind_never (word_at word bs) (λ n. cond (nat_le n.0 (greatest limit)) (Ok n) (Err (fault.Range limit n.0))) (word_never word bs)
    (λ n. test_never (nat_le n.0 (greatest limit)) (Ok n) (Err (fault.Range limit n.0)) (ok_never n) (λ e. cc)))

pub destination_never : (nodes : ℕ) (bs : List ℕ) → Never (rest_of (destination_line_at nodes bs))
destination_never nodes bs =
    rest_never (destination_line_at nodes bs)
    (bind_never (word_at (codes "destination") bs) (λ n. cond (nat_lt n.0 nodes) (Ok n) (Err (fault.Arc (net_fault.NodeOutside None n.0)))) (word_never (codes "destination") bs)
    (λ n. test_never (nat_lt n.0 nodes) (Ok n) (Err (fault.Arc (net_fault.NodeOutside None n.0))) (ok_never n) (λ e. cc)))

demand_never : (here : Bool) (units : ℕ) (bs : List ℕ) → Never (demand_line_at here units bs)
demand_never true units bs e = bind_never (literal_at (codes "g 0" ++ line_end) bs) (λ rest. Ok (0, rest)) (literal_never (codes "g 0" ++ line_end) bs) (λ rest. ok_never (0, rest)) e
demand_never false units bs e =
    bind_never (word_at (codes "g") bs) (λ n. cond (nat_le (units + n.0) UNIT_LIMIT) (Ok n) (Err (fault.Range limit.Units (units + n.0)))) (word_never (codes "g") bs)
    (λ n. test_never (nat_le (units + n.0) UNIT_LIMIT) (Ok n) (Err (fault.Range limit.Units (units + n.0))) (ok_never n) (λ e. cc)) e

-- ---- arcs

-- no fault in a list is one of memory, at its front
abbrev IsClean : List NetFault → Type 0
IsClean fs = slice_get fs 0 ≡ Some net_fault.NoMemory → ⊥

clean_both : (fs gs : List NetFault) → IsClean fs → IsClean gs → IsClean (fs ++ gs)
clean_both [] gs a b e = b e
clean_both (f ∷ fs) gs a b e = a e

clean_if : (b : Bool) (f : NetFault) → (f ≡ net_fault.NoMemory → ⊥) → IsClean (fault_if b f)
clean_if true f n e = n (cc)
clean_if false f n e = cc

weight_clean : (number : ℕ) (w : Option ℕ) → IsClean (weight_faults number w)
weight_clean number None e = cc
weight_clean number (Some w) e =
    clean_both (fault_if (w == 0) (net_fault.ZeroWeight number)) _ (clean_if (w == 0) (net_fault.ZeroWeight number) (λ e. cc)) (clean_if (nat_lt WEIGHT_LIMIT w) _ (λ e. cc)) e

arc_clean : (nodes before number : ℕ) (arc : NetArc) → IsClean (arc_faults nodes before number arc)
arc_clean nodes before number arc =
    clean_both _ (fault_if (nat_lt arc.tail before) (net_fault.NotGrouped number))
    (clean_both _ (weight_faults number arc.weight)
    (clean_both _ _ (clean_both _ _ (clean_both _ _ (clean_if (nat_le nodes arc.tail) _ (λ e. cc)) (clean_if (nat_le nodes arc.head) _ (λ e. cc))) (clean_if (arc.cost == 0) _ (λ e. cc))) (clean_if (nat_lt COST_LIMIT arc.cost) _ (λ e. cc)))
    (weight_clean number arc.weight))
    (clean_if (nat_lt arc.tail before) (net_fault.NotGrouped number) (λ e. cc))

unless_never : {A : Type 0} (f : Option NetFault) (x : A) → (f ≡ Some net_fault.NoMemory → ⊥) → Never (unless f x)
unless_never None x n e = cc
unless_never (Some (net_fault.Range l c)) x n e = cc
unless_never (Some (net_fault.NodeOutside a m)) x n e = cc
unless_never (Some (net_fault.ZeroCost a)) x n e = cc
unless_never (Some (net_fault.ZeroWeight a)) x n e = cc
unless_never (Some (net_fault.NotGrouped a)) x n e = cc
unless_never (Some net_fault.NoMemory) x n e = n cc

weight_never : (bs : List ℕ) → Never (weight_at bs)
unfolding weight_at
weight_never [] e = cc
weight_never (b ∷ bs) e =
    test_never (b == 45) (byte_at 10 bs >>= λ rest. Ok (None, rest)) (number_at 10 (b ∷ bs) >>= λ n. Ok (Some n.0, n.1))
    (bind_never (byte_at 10 bs) (λ rest. Ok (None, rest)) (byte_never 10 bs) (λ rest. ok_never (None, rest)))
    (bind_never (number_at 10 (b ∷ bs)) (λ n. Ok (Some n.0, n.1)) (number_never 10 (b ∷ bs)) (λ n. ok_never (Some n.0, n.1))) e

wide_never : (bs : List ℕ) → Never (wide_arc_at bs)
unfolding wide_arc_at
wide_never bs =
    bind_never (literal_at (codes "a ") bs) _ (literal_never (codes "a ") bs)
    (λ l. bind_never (number_at 32 l) _ (number_never 32 l)
    (λ t. bind_never (number_at 32 t.1) _ (number_never 32 t.1)
    (λ h. bind_never (number_at 32 h.1) _ (number_never 32 h.1)
    (λ c. bind_never (weight_at c.1) _ (weight_never c.1) (λ w. ok_never _)))))

arc_line_never : (nodes before number : ℕ) (bs : List ℕ) → Never (arc_line_at nodes before number bs)
arc_line_never nodes before number bs =
    bind_never (wide_arc_at bs) (λ wide. unless (slice_get (arc_faults nodes before number (arc_of_wide wide.0)) 0) (arc_of_wide wide.0, wide.1)) (wide_never bs)
    (λ wide. unless_never (slice_get (arc_faults nodes before number (arc_of_wide wide.0)) 0) (arc_of_wide wide.0, wide.1) (arc_clean nodes before number (arc_of_wide wide.0)))

-- ---- rows

pub row_never : (d : DraftData) (bs : List ℕ) → Never (row_at d bs)
row_never d bs =
    test_never (nat_lt (length d.arcs) d.arc_count) _ _ (rest_never _ (arc_line_never d.nodes (tail_before (network_so_far d) (length d.arcs)) (length d.arcs) bs))
    (test_never (nat_lt (length d.demand) d.nodes) _ _ (rest_never _ (demand_never (length d.demand == d.destination) d.units bs))
    (test_never (nat_lt (length d.labels) d.nodes) _ _ (number_line_never (codes "u") limit.Label bs)
    (test_never (nat_lt (length d.volumes) d.arc_count) _ _ (number_line_never (codes "v") limit.Volume bs)
    (test_never (nat_lt (length d.waits) d.nodes) _ _ (number_line_never (codes "q") limit.Wait bs) (literal_never last_line bs)))))
