-- Each line is read by a reader: it takes few bytes, and what it reads stays when bytes are added behind it.
use Rattle.std.proofs.Common.{◌≡◌, ℕ, ◌+◌, ◌≤◌, Bool, true, false, cond, List, [], ◌∷◌, ◌++◌, length, Option, None, Some, Result, Ok, Err, refl, ap, subst, arith, length-append}
use Rattle.std.specs.Prelude.{codes, slice_get, nat_le, nat_lt, ◌==◌}
use Rattle.definitions.specs.declared.limits.TheConstants.{UNIT_LIMIT}
use Rattle.definitions.specs.Decimal.{line_end}
use Rattle.lp_model.specs.declared.fault.NetFault.{NetFault}
use Rattle.lp_model.specs.declared.fault.NetFault.TheVariants as net_fault
use Rattle.lp_model.specs.declared.wide_arc.WideArc.{WideArc}
use Rattle.lp_model.specs.Faults.{arc_faults, tail_before}
use Rattle.lp_model.specs.Wide.{arc_of_wide}
use Rattle.certificate.specs.declared.refused.Limit.{Limit}
use Rattle.certificate.specs.declared.refused.Limit.TheVariants as limit
use Rattle.certificate.specs.declared.stage.Stage.{Stage}
use Rattle.certificate.specs.declared.stage.Stage.TheVariants as stage
use Rattle.certificate.specs.declared.fault.Fault.{Fault}
use Rattle.certificate.specs.declared.fault.Fault.TheVariants as fault
use Rattle.certificate.specs.Bytes.{◌>>=◌, byte_at, literal_at, number_at}
use Rattle.certificate.specs.Limits.{greatest}
use Rattle.certificate.specs.Lines.{word_at, number_line_at, destination_line_at, demand_line_at, weight_at, wide_arc_at, unless, arc_line_at, fault_of}
use Rattle.certificate.specs.Spelling.{title, last_line}
use Rattle.certificate.specs.Draft.{DraftData, network_so_far}
use Rattle.certificate.specs.NextLine.{rest_of, row_at, line_of, line_at}
use Rattle.certificate.proofs.LineReaders.{Shape, plain, pair, IsNear, Takes, Stays, Lasts, IsReader, takes_then, takes_within, then_reader, byte_reader, within, either, literal_reader}
use Rattle.certificate.proofs.NumberReaders.{last_reader, number_reader}

-- a fault that has no place
record IsPlaceless (V : Type 0) (e : Fault) : Type 0 where
  near : (most count : ℕ) → IsNear most count e
  stays : (more : List ℕ) → Stays (pair {V = V}) more e (Err e)

range_placeless : (V : Type 0) (limit : Limit) (number : ℕ) → IsPlaceless V (fault.Range limit number)
range_placeless V limit number = record { near = λ most count. tt; stays = λ more. refl }

arc_placeless : (V : Type 0) (inner : NetFault) → IsPlaceless V (fault.Arc inner)
arc_placeless V inner = record { near = λ most count. tt; stays = λ more. refl }

-- a value and the bytes after it, where the value passes a test
tested_reader : {V : Type 0} (c : V → Bool) (e : V → Fault) → ((v : V) → IsPlaceless V (e v)) → IsReader pair pair 0 (λ (n : V × List ℕ). cond (c n.0) (Ok n) (Err (e n.0)))
tested_reader {V} c e none = record {
  takes = λ n. tested (c n.0) n;
  lasts = λ n more. kept (c n.0) n more;
}
  where
    tested : (t : Bool) (n : V × List ℕ) → Takes pair 0 (length n.1) (cond t (Ok n) (Err (e n.0)))
    tested true n = (omega arith, omega arith)
    tested false n = (none n.0).near 0 (length n.1)

    kept : (t : Bool) (n : V × List ℕ) (more : List ℕ) → Lasts pair more (cond t (Ok n) (Err (e n.0))) (cond t (Ok (n.0, n.1 ++ more)) (Err (e n.0)))
    kept true n more = refl
    kept false n more = (none n.0).stays more

-- a value made of the one that is read
made_reader : {V W : Type 0} (f : V → W) → IsReader pair pair 0 (λ (n : V × List ℕ). Ok (f n.0, n.1))
made_reader f = record { takes = λ n. (omega arith, omega arith); lasts = λ n more. refl }

-- a reader of the bytes after a value
after_reader : {V B : Type 0} (t : Shape B) (b : ℕ) (f : List ℕ → Result B Fault) → IsReader plain t b f → IsReader (pair {V = V}) t b (λ n. f n.1)
after_reader t b f F = record { takes = λ n. F.takes n.1; lasts = λ n more. F.lasts n.1 more }

word_reader : (word : List ℕ) → IsReader plain pair (length word + 30) (word_at word)
unfolding word_at
word_reader word =
    then_reader plain plain pair (length word) 30 (literal_at word) (λ b. byte_at 32 b >>= number_at 10) (literal_reader word)
    (then_reader plain plain pair 1 29 (byte_at 32) (number_at 10) (byte_reader 32) (number_reader 10))

number_line_reader : (word : List ℕ) (limit : Limit) → IsReader plain pair (length word + 30 + 0) (number_line_at word limit)
number_line_reader word limit =
    then_reader plain pair pair (length word + 30) 0 (word_at word) (λ n. cond (nat_le n.0 (greatest limit)) (Ok n) (Err (fault.Range limit n.0))) (word_reader word)
    (tested_reader (λ n. nat_le n (greatest limit)) (λ n. fault.Range limit n) (λ n. range_placeless ℕ limit n))

destination_reader : (nodes : ℕ) → IsReader plain pair 41 (destination_line_at nodes)
destination_reader nodes =
    then_reader plain pair pair 41 0 (word_at (codes "destination")) (λ n. cond (nat_lt n.0 nodes) (Ok n) (Err (fault.Arc (net_fault.NodeOutside None n.0)))) (word_reader (codes "destination"))
    (tested_reader (λ n. nat_lt n nodes) (λ n. fault.Arc (net_fault.NodeOutside None n)) (λ n. arc_placeless ℕ (net_fault.NodeOutside None n)))

demand_reader : (here : Bool) (units : ℕ) → IsReader plain pair 31 (demand_line_at here units)
demand_reader here units = either plain pair 31 _ _ here
    (within plain pair 4 31 (λ bytes. literal_at (codes "g 0" ++ line_end) bytes >>= λ rest. Ok (0, rest)) (omega arith)
    (then_reader plain plain pair 4 0 (literal_at (codes "g 0" ++ line_end)) (λ rest. Ok (0, rest)) (literal_reader (codes "g 0" ++ line_end)) (last_reader 0)))
    (then_reader plain pair pair 31 0 (word_at (codes "g")) (λ n. cond (nat_le (units + n.0) UNIT_LIMIT) (Ok n) (Err (fault.Range limit.Units (units + n.0)))) (word_reader (codes "g"))
    (tested_reader (λ n. nat_le (units + n) UNIT_LIMIT) (λ n. fault.Range limit.Units (units + n)) (λ n. range_placeless ℕ limit.Units (units + n))))

-- ---- arcs

-- a reader of the bytes after each value
each_reader : {V B : Type 0} (t : Shape B) (b : ℕ) (f : V → List ℕ → Result B Fault) → ((v : V) → IsReader plain t b (f v)) → IsReader (pair {V = V}) t b (λ n. f n.0 n.1)
each_reader t b f F = record { takes = λ n. (F n.0).takes n.1; lasts = λ n more. (F n.0).lasts n.1 more }

-- `-` or a number, whatever the test of the first byte says
abbrev weight_by : Bool → ℕ → List ℕ → Result (Option ℕ × List ℕ) Fault
weight_by t b bs = cond t (byte_at 10 bs >>= λ rest. Ok (None, rest)) (number_at 10 (b ∷ bs) >>= λ n. Ok (Some n.0, n.1))

free_reader : IsReader plain (pair {V = Option ℕ}) 1 (λ bs. byte_at 10 bs >>= λ rest. Ok (None, rest))
free_reader = then_reader plain plain pair 1 0 (byte_at 10) (λ rest. Ok (None, rest)) (byte_reader 10) (record { takes = λ x. (omega arith, omega arith); lasts = λ x more. refl })

some_reader : IsReader plain (pair {V = Option ℕ}) 29 (λ bs. number_at 10 bs >>= λ n. Ok (Some n.0, n.1))
some_reader = then_reader plain pair pair 29 0 (number_at 10) (λ n. Ok (Some n.0, n.1)) (number_reader 10) (made_reader (λ n. Some n))

weight_takes_by : (t : Bool) (b : ℕ) (bs : List ℕ) → Takes pair 29 (length (b ∷ bs)) (weight_by t b bs)
weight_takes_by true b bs =
    takes_within pair 2 29 (length (b ∷ bs)) (byte_at 10 bs >>= λ rest. Ok (None, rest)) (omega arith)
    (takes_then pair 1 1 (length (b ∷ bs)) (length bs) (byte_at 10 bs >>= λ rest. Ok (None, rest)) (omega arith) (omega arith) (free_reader.takes bs))
weight_takes_by false b bs = some_reader.takes (b ∷ bs)

weight_lasts_by : (t : Bool) (b : ℕ) (bs more : List ℕ) → Lasts pair more (weight_by t b bs) (weight_by t b (bs ++ more))
weight_lasts_by true b bs more = free_reader.lasts bs more
weight_lasts_by false b bs more = some_reader.lasts (b ∷ bs) more

weight_takes : (bytes : List ℕ) → Takes pair 29 (length bytes) (weight_at bytes)
unfolding weight_at
weight_takes [] = (omega arith, omega arith)
weight_takes (b ∷ bs) = weight_takes_by (b == 45) b bs

weight_ended : (more : List ℕ) (y : Option ℕ × List ℕ) → weight_at more ≡ Ok y → length y.1 ≤ length more
weight_ended more y e = (subst (λ r. Takes pair 29 (length more) r) e (weight_takes more)).0

weight_lasts : (bytes more : List ℕ) → Lasts pair more (weight_at bytes) (weight_at (bytes ++ more))
unfolding weight_at
weight_lasts [] more = λ y e. weight_ended more y e
weight_lasts (b ∷ bs) more = weight_lasts_by (b == 45) b bs more

weight_reader : IsReader plain pair 29 weight_at
weight_reader = record { takes = weight_takes; lasts = weight_lasts }

-- the rest of an arc's line after each of its numbers
abbrev after_cost : ℕ → ℕ → ℕ → List ℕ → Result (WideArc × List ℕ) Fault
after_cost tail head cost rest = weight_at rest >>= λ w. Ok (record { tail = tail; head = head; cost = cost; weight = w.0 }, w.1)

abbrev after_head : ℕ → ℕ → List ℕ → Result (WideArc × List ℕ) Fault
after_head tail head rest = number_at 32 rest >>= λ cost. after_cost tail head cost.0 cost.1

abbrev after_tail : ℕ → List ℕ → Result (WideArc × List ℕ) Fault
after_tail tail rest = number_at 32 rest >>= λ head. after_head tail head.0 head.1

after_cost_reader : (tail head cost : ℕ) → IsReader plain pair 29 (after_cost tail head cost)
after_cost_reader tail head cost =
    then_reader plain pair pair 29 0 weight_at (λ w. Ok (record { tail = tail; head = head; cost = cost; weight = w.0 }, w.1)) weight_reader
    (made_reader (λ w. record { tail = tail; head = head; cost = cost; weight = w }))

after_head_reader : (tail head : ℕ) → IsReader plain pair 58 (after_head tail head)
after_head_reader tail head = then_reader plain pair pair 29 29 (number_at 32) (λ cost. after_cost tail head cost.0 cost.1) (number_reader 32) (each_reader pair 29 (after_cost tail head) (after_cost_reader tail head))

after_tail_reader : (tail : ℕ) → IsReader plain pair 87 (after_tail tail)
after_tail_reader tail = then_reader plain pair pair 29 58 (number_at 32) (λ head. after_head tail head.0 head.1) (number_reader 32) (each_reader pair 58 (after_head tail) (after_head_reader tail))

wide_reader : IsReader plain pair 118 wide_arc_at
unfolding wide_arc_at
wide_reader =
    then_reader plain plain pair 2 116 (literal_at (codes "a ")) (λ rest. number_at 32 rest >>= λ tail. after_tail tail.0 tail.1) (literal_reader (codes "a "))
    (then_reader plain pair pair 29 87 (number_at 32) (λ tail. after_tail tail.0 tail.1) (number_reader 32) (each_reader pair 87 after_tail after_tail_reader))

fault_placeless : (V : Type 0) (f : NetFault) → IsPlaceless V (fault_of f)
fault_placeless V (net_fault.Range limit count) = record { near = λ most count. tt; stays = λ more. refl }
fault_placeless V (net_fault.NodeOutside arc node) = record { near = λ most count. tt; stays = λ more. refl }
fault_placeless V (net_fault.ZeroCost arc) = record { near = λ most count. tt; stays = λ more. refl }
fault_placeless V (net_fault.ZeroWeight arc) = record { near = λ most count. tt; stays = λ more. refl }
fault_placeless V (net_fault.NotGrouped arc) = record { near = λ most count. tt; stays = λ more. refl }
fault_placeless V net_fault.NoMemory = record { near = λ most count. tt; stays = λ more. refl }

unless_reader : {V W : Type 0} (o : V → Option NetFault) (f : V → W) → IsReader pair pair 0 (λ (n : V × List ℕ). unless (o n.0) (f n.0, n.1))
unless_reader {V} {W} o f = record {
  takes = λ n. takes (o n.0) (f n.0) n.1;
  lasts = λ n more. lasts (o n.0) (f n.0) n.1 more;
}
  where
    takes : (fault : Option NetFault) (w : W) (bs : List ℕ) → Takes pair 0 (length bs) (unless fault (w, bs))
    takes None w bs = (omega arith, omega arith)
    takes (Some f) w bs = (fault_placeless W f).near 0 (length bs)

    lasts : (fault : Option NetFault) (w : W) (bs more : List ℕ) → Lasts pair more (unless fault (w, bs)) (unless fault (w, bs ++ more))
    lasts None w bs more = refl
    lasts (Some f) w bs more = (fault_placeless W f).stays more

arc_reader : (nodes before number : ℕ) → IsReader plain pair 118 (arc_line_at nodes before number)
arc_reader nodes before number =
    then_reader plain pair pair 118 0 wide_arc_at (λ wide. unless (slice_get (arc_faults nodes before number (arc_of_wide wide.0)) 0) (arc_of_wide wide.0, wide.1)) wide_reader
    (unless_reader (λ wide. slice_get (arc_faults nodes before number (arc_of_wide wide)) 0) arc_of_wide)

-- ---- the next line

-- a reader whose value is left out
rest_reader : {V : Type 0} (b : ℕ) (f : List ℕ → Result (V × List ℕ) Fault) → b ≤ 118 → IsReader plain pair b f → IsReader plain plain 118 (λ bytes. rest_of (f bytes))
rest_reader b f few F =
    within plain plain (b + 0) 118 (λ bytes. rest_of (f bytes)) (omega arith)
    (then_reader plain pair plain b 0 f (λ x. Ok x.1) F (record { takes = λ x. (omega arith, omega arith); lasts = λ x more. refl }))

row_reader : (d : DraftData) → IsReader plain plain 118 (row_at d)
row_reader d =
    either plain plain 118 _ _ (nat_lt (length d.arcs) d.arc_count) (rest_reader 118 _ (omega arith) (arc_reader d.nodes (tail_before (network_so_far d) (length d.arcs)) (length d.arcs)))
    (either plain plain 118 _ _ (nat_lt (length d.demand) d.nodes) (rest_reader 31 _ (omega arith) (demand_reader (length d.demand == d.destination) d.units))
    (either plain plain 118 _ _ (nat_lt (length d.labels) d.nodes) (rest_reader 31 _ (omega arith) (number_line_reader (codes "u") limit.Label))
    (either plain plain 118 _ _ (nat_lt (length d.volumes) d.arc_count) (rest_reader 31 _ (omega arith) (number_line_reader (codes "v") limit.Volume))
    (either plain plain 118 _ _ (nat_lt (length d.waits) d.nodes) (rest_reader 31 _ (omega arith) (number_line_reader (codes "q") limit.Wait))
    (within plain plain 4 118 (literal_at last_line) (omega arith) (literal_reader last_line))))))

-- after the last line each byte is wrong
done_reader : IsReader plain (plain) 118 (λ bytes. Err (fault.Stop (length bytes)))
done_reader = record { takes = λ x. (omega arith, omega arith); lasts = lasts }
  where
    lasts : (x more : List ℕ) → Lasts plain more (Err (fault.Stop (length x))) (Err (fault.Stop (length (x ++ more))))
    lasts [] more = λ y e. absurd cc
    lasts (b ∷ bs) more = ap (λ n. Err (fault.Stop n)) (let h = length-append bs more in omega arith)

line_of_reader : (s : Stage) (d : DraftData) → IsReader plain plain 118 (line_of s d)
line_of_reader stage.Title d = within plain plain 25 118 (literal_at title) (omega arith) (literal_reader title)
line_of_reader stage.Nodes d = rest_reader 35 _ (omega arith) (number_line_reader (codes "nodes") limit.Nodes)
line_of_reader stage.Arcs d = rest_reader 34 _ (omega arith) (number_line_reader (codes "arcs") limit.Arcs)
line_of_reader stage.K d = rest_reader 31 _ (omega arith) (number_line_reader (codes "k") limit.K)
line_of_reader stage.Destination d = rest_reader 41 _ (omega arith) (destination_reader d.nodes)
line_of_reader stage.Rows d = row_reader d
line_of_reader stage.Done d = done_reader

pub line_reader : (d : DraftData) → IsReader plain plain 118 (line_at d)
line_reader d = line_of_reader d.stage d
