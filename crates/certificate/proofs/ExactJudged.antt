-- A line whose shape is right is judged by its numbers.
use Rattle.std.proofs.Common.{◌≡◌, ℕ, ◌+◌, ◌<◌, ◌≤◌, Bool, true, false, cond, List, [], ◌∷◌, ◌++◌, length, None, Some, Result, Ok, Err, refl, sym, ap, subst, ◌∙◌, arith, ◌⊎◌, inl, inr}
use Rattle.std.specs.Prelude.{codes, slice_get, nat_lt, nat_le, map, sum}
use Rattle.std.proofs.lemmas.Bool.{le-ltb, lt-ltb}
use Rattle.std.proofs.lemmas.Bool.Decides.{leb_tells}
use Rattle.definitions.specs.declared.arc.NetArc.{NetArc}
use Rattle.definitions.specs.declared.limits.TheConstants.{UNIT_LIMIT}
use Rattle.definitions.specs.Decimal.{line_end}
use Rattle.lp_model.specs.declared.fault.NetFault.{NetFault}
use Rattle.lp_model.specs.declared.fault.NetFault.TheVariants as net_fault
use Rattle.lp_model.specs.Faults.{arc_faults, tail_before}
use Rattle.lp_model.specs.Wide.{arc_of_wide}
use Rattle.certificate.specs.declared.refused.Limit.{Limit}
use Rattle.certificate.specs.declared.refused.Limit.TheVariants as limit
use Rattle.certificate.specs.declared.refused.Refused.{Refused}
use Rattle.certificate.specs.declared.refused.Refused.TheVariants as refused
use Rattle.certificate.specs.declared.fault.Fault.{Fault}
use Rattle.certificate.specs.declared.fault.Fault.TheVariants as fault
use Rattle.certificate.specs.Bytes.{◌>>=◌, literal_at}
use Rattle.certificate.specs.Limits.{greatest}
use Rattle.certificate.specs.Lines.{word_at, wide_arc_at, unless, fault_of}
use Rattle.certificate.specs.Spelling.{title, last_line}
use Rattle.certificate.specs.NetworkText.{network_title}
use Rattle.certificate.specs.Draft.{DraftData, network_so_far}
use Rattle.certificate.specs.Grammar.{Line, Kind}
use Rattle.certificate.specs.LineFaults.{refused_if, range_faults, arc_refusal, line_faults}
use Rattle.certificate.specs.Stops.{refusal_of}
use Rattle.certificate.proofs.Readers.{bind_ok, done, failed, ok_is}
use Rattle.certificate.proofs.Exact.{bind_err}
use Rattle.certificate.proofs.ExactArcs.{arc_shape}
use Rattle.certificate.proofs.ExactLines.{number_shape, literal_shape, shape_at}
use Rattle.certificate.proofs.KindReaders.{reader_at}

-- ---- what is judged

-- the fault is the first of these
abbrev pub IsSaid : Fault → List Refused → Type 0
IsSaid f faults = (size : ℕ) → slice_get faults 0 ≡ Some (refusal_of size f)

-- a line's numbers are right and it is read, or its first fault is answered
abbrev pub Judged : DraftData → Line → List ℕ → Result (List ℕ) Fault → Type 0
Judged d line rest result = ((line_faults d line ≡ []) × (result ≡ Ok rest)) ⊎ ((f : Fault) × (result ≡ Err f) × IsSaid f (line_faults d line))

-- a line of right shape is judged, and another stops its reading as it stops that of its shape
pub record IsJudged (d : DraftData) (shape : List ℕ → Result (Line × List ℕ) Fault) (reader : List ℕ → Result (List ℕ) Fault) : Type 0 where
  pub right : (bytes : List ℕ) (line : Line) (rest : List ℕ) → shape bytes ≡ Ok (line, rest) → Judged d line rest (reader bytes)
  pub wrong : (bytes : List ℕ) (f : Fault) → shape bytes ≡ Err f → reader bytes ≡ Err f

-- a step that was done
step : {A B C : Type 0} (r : Result A Fault) (k : A → Result B Fault) (g : B → Result C Fault) (x : A) → r ≡ Ok x → ((r >>= k) >>= g) ≡ (k x >>= g)
step {A} r k g x e = ap (λ (t : Result A Fault). (t >>= k) >>= g) e

-- lines without a number
literal_judged : (d : DraftData) (line : Line) (text : List ℕ) (reader : List ℕ → Result (List ℕ) Fault) → line_faults d line ≡ [] →
    ((bytes : List ℕ) → reader bytes ≡ literal_at text bytes) → IsJudged d (literal_shape line text) reader
literal_judged d line text reader none same = record {
  right = λ bytes y rest e.
      let b = bind_ok (literal_at text bytes) (λ r. done (line, r)) (y, rest) e in
      subst (λ (p : Line × List ℕ). Judged d p.0 p.1 (reader bytes)) (ok_is (line, b.0) (y, rest) b.2) (inl (none, same bytes ∙ b.1));
  wrong = λ bytes f e. elim (bind_err (literal_at text bytes) (λ r. done (line, r)) f e) [
    | inl w ↦ same bytes ∙ w
    | inr w ↦ absurd (let k : done (line, w.0) ≡ Err f = w.2 in cc)
  ];
}

-- a test finds the faults of a line
pub record Agrees (test : Bool) (f : Fault) (faults : List Refused) : Type 0 where
  pub right : test ≡ true → faults ≡ []
  pub wrong : test ≡ false → IsSaid f faults

-- a reading whose number is tested
abbrev tested : List ℕ → (ℕ → Bool) → (ℕ → Fault) → List ℕ → Result (List ℕ) Fault
tested word test fault bytes = (word_at word bytes >>= λ n. cond (test n.0) (Ok n) (Err (fault n.0))) >>= λ x. Ok x.1

number_judged : (d : DraftData) (make : ℕ → Line) (word : List ℕ) (test : ℕ → Bool) (f : ℕ → Fault) → ((n : ℕ) → Agrees (test n) (f n) (line_faults d (make n))) →
    IsJudged d (number_shape make word) (tested word test f)
number_judged d make word test f agrees = record {
  right = λ bytes line rest e.
      let b = bind_ok (word_at word bytes) (λ p. done (make p.0, p.1)) (line, rest) e in
      let opened : tested word test f bytes ≡ (cond (test b.0.0) (Ok b.0) (Err (f b.0.0)) >>= λ x. Ok x.1) = step (word_at word bytes) _ (λ x. done x.1) b.0 b.1 in
      subst (λ (p : Line × List ℕ). Judged d p.0 p.1 (tested word test f bytes)) (ok_is (make b.0.0, b.0.1) (line, rest) b.2)
      (subst (Judged d (make b.0.0) b.0.1) (sym opened) (judged b.0 (test b.0.0) (agrees b.0.0)));
  wrong = λ bytes g e. elim (bind_err (word_at word bytes) (λ p. done (make p.0, p.1)) g e) [
    | inl w ↦ rw w refl
    | inr w ↦ absurd (let k : done (make w.0.0, w.0.1) ≡ Err g = w.2 in cc)
  ];
}
  where
    judged : (p : ℕ × List ℕ) (t : Bool) → Agrees t (f p.0) (line_faults d (make p.0)) → Judged d (make p.0) p.1 (cond t (Ok p) (Err (f p.0)) >>= λ x. Ok x.1)
    judged p true a = inl (a.right refl, refl)
    judged p false a = inr (f p.0, refl, a.wrong refl)

-- a number within a limit
range_agrees : (limit : Limit) (g n : ℕ) → greatest limit ≡ g → Agrees (nat_le n g) (fault.Range limit n) (range_faults limit n)
range_agrees limit g n is = elim (leb_tells n g) [
  | inl w ↦ record { right = λ e. (let low : n ≤ greatest limit = subst (λ m. n ≤ m) (sym is) w.1 in rw (le-ltb (greatest limit) n low) refl); wrong = λ e. absurd (let k : nat_le n g ≡ true = w.0 in cc) }
  | inr w ↦ record { right = λ e. absurd (let k : nat_le n g ≡ false = w.0 in cc); wrong = λ e size. (let high : greatest limit < n = subst (λ m. m < n) (sym is) (let past = w.1 in omega arith) in rw (lt-ltb (greatest limit) n high) refl) }
]

-- a node of the network
node_agrees : (nodes n : ℕ) → Agrees (nat_lt n nodes) (fault.Arc (net_fault.NodeOutside None n)) (refused_if (nat_le nodes n) (refused.Arc (net_fault.NodeOutside None n)))
node_agrees nodes n = elim (leb_tells nodes n) [
  | inl w ↦ record {
    right = λ e. absurd (let k : nat_lt n nodes ≡ false = le-ltb n nodes w.1 in cc);
    wrong = λ e size. (let k : nat_le nodes n ≡ true = w.0 in rw k refl);
  }
  | inr w ↦ record {
    right = λ e. (let k : nat_le nodes n ≡ false = w.0 in rw k refl);
    wrong = λ e. absurd (let past = w.1 in let k : nat_lt n nodes ≡ true = lt-ltb n nodes (omega arith) in cc);
  }
]

-- ---- arcs

says : (size : ℕ) (f : NetFault) → Some (arc_refusal f) ≡ Some (refusal_of size (fault_of f))
says size (net_fault.Range l c) = refl
says size (net_fault.NodeOutside a n) = refl
says size (net_fault.ZeroCost a) = refl
says size (net_fault.ZeroWeight a) = refl
says size (net_fault.NotGrouped a) = refl
says size net_fault.NoMemory = refl

abbrev with_rest : NetArc → List ℕ → NetArc × List ℕ
with_rest arc rest = (arc, rest)

arc_judged : (d : DraftData) → IsJudged d arc_shape (reader_at Kind.Arc d)
arc_judged d = record {
  right = λ bytes line rest e.
      let b = bind_ok (wide_arc_at bytes) (λ a. done (Line.Arc (arc_of_wide a.0), a.1)) (line, rest) e in
      let opened : reader_at Kind.Arc d bytes ≡ (unless (slice_get (faults (arc_of_wide b.0.0)) 0) (with_rest (arc_of_wide b.0.0) b.0.1) >>= λ x. Ok x.1) = step (wide_arc_at bytes) _ (λ x. done x.1) b.0 b.1 in
      subst (λ (p : Line × List ℕ). Judged d p.0 p.1 (reader_at Kind.Arc d bytes)) (ok_is (Line.Arc (arc_of_wide b.0.0), b.0.1) (line, rest) b.2)
      (subst (Judged d (Line.Arc (arc_of_wide b.0.0)) b.0.1) (sym opened) (judged (arc_of_wide b.0.0) b.0.1 (faults (arc_of_wide b.0.0)) refl));
  wrong = λ bytes g e. elim (bind_err (wide_arc_at bytes) (λ a. done (Line.Arc (arc_of_wide a.0), a.1)) g e) [
    | inl w ↦ rw w refl
    | inr w ↦ absurd (let k : done (Line.Arc (arc_of_wide w.0.0), w.0.1) ≡ Err g = w.2 in cc)
  ];
}
  where
    faults : NetArc → List NetFault
    faults arc = arc_faults d.nodes (tail_before (network_so_far d) (length d.arcs)) (length d.arcs) arc

    judged : (arc : NetArc) (rest : List ℕ) (fs : List NetFault) → faults arc ≡ fs → Judged d (Line.Arc arc) rest (unless (slice_get fs 0) (with_rest arc rest) >>= λ x. Ok x.1)
    judged arc rest [] e = inl (ap (map arc_refusal) e, refl)
    judged arc rest (f ∷ fs) e = inr (fault_of f, refl, λ size. ap (λ gs. slice_get (map arc_refusal gs) 0) e ∙ says size f)

-- ---- all kinds

abbrev no_units : List ℕ → ℕ × List ℕ
no_units rest = (0, rest)

-- the units are added up, and few
pub record HasUnits (d : DraftData) : Type 0 where
  pub sum : d.units ≡ sum d.demand
  pub few : d.units ≤ UNIT_LIMIT

pub kind_judged : (kind : Kind) (d : DraftData) → HasUnits d → IsJudged d (shape_at kind) (reader_at kind d)
kind_judged Kind.Title d u = literal_judged d Line.Title title (reader_at Kind.Title d) refl (λ bytes. refl)
kind_judged Kind.NetworkTitle d u = literal_judged d Line.NetworkTitle network_title (reader_at Kind.NetworkTitle d) refl (λ bytes. refl)
kind_judged Kind.Nodes d u = number_judged d Line.Nodes (codes "nodes") (λ n. nat_le n (greatest limit.Nodes)) (fault.Range limit.Nodes) (λ n. range_agrees limit.Nodes _ n refl)
kind_judged Kind.Arcs d u = number_judged d Line.Arcs (codes "arcs") (λ n. nat_le n (greatest limit.Arcs)) (fault.Range limit.Arcs) (λ n. range_agrees limit.Arcs _ n refl)
kind_judged Kind.K d u = number_judged d Line.K (codes "k") (λ n. nat_le n (greatest limit.K)) (fault.Range limit.K) (λ n. range_agrees limit.K _ n refl)
kind_judged Kind.Destination d u = number_judged d Line.Destination (codes "destination") (λ n. nat_lt n d.nodes) (λ n. fault.Arc (net_fault.NodeOutside None n)) (λ n. node_agrees d.nodes n)
kind_judged Kind.Arc d u = arc_judged d
kind_judged Kind.Demand d u =
    number_judged d Line.Demand (codes "g") (λ n. nat_le (d.units + n) UNIT_LIMIT) (λ n. fault.Range limit.Units (d.units + n))
    (λ n. subst (λ m. Agrees (nat_le (d.units + n) UNIT_LIMIT) (fault.Range limit.Units (d.units + n)) (range_faults limit.Units (m + n))) u.sum (range_agrees limit.Units UNIT_LIMIT (d.units + n) refl))
kind_judged Kind.NoDemand d u =
    literal_judged d (Line.Demand 0) (codes "g 0" ++ line_end) (reader_at Kind.NoDemand d)
    (let low : sum d.demand + 0 ≤ UNIT_LIMIT = (let s : d.units ≡ sum d.demand = u.sum in let few : d.units ≤ UNIT_LIMIT = u.few in omega arith) in rw (le-ltb UNIT_LIMIT (sum d.demand + 0) low) refl)
    (λ bytes. again (literal_at (codes "g 0" ++ line_end) bytes))
  where
    again : (r : Result (List ℕ) Fault) → ((r >>= λ rest. done (no_units rest)) >>= λ x. Ok x.1) ≡ r
    again (Ok rest) = refl
    again (Err f) = refl
kind_judged Kind.Label d u = number_judged d Line.Label (codes "u") (λ n. nat_le n (greatest limit.Label)) (fault.Range limit.Label) (λ n. range_agrees limit.Label _ n refl)
kind_judged Kind.Volume d u = number_judged d Line.Volume (codes "v") (λ n. nat_le n (greatest limit.Volume)) (fault.Range limit.Volume) (λ n. range_agrees limit.Volume _ n refl)
kind_judged Kind.Wait d u = number_judged d Line.Wait (codes "q") (λ n. nat_le n (greatest limit.Wait)) (fault.Range limit.Wait) (λ n. range_agrees limit.Wait _ n refl)
kind_judged Kind.End d u = literal_judged d Line.End last_line (reader_at Kind.End d) refl (λ bytes. refl)
kind_judged Kind.Nothing d u = record { right = λ bytes line rest e. absurd cc; wrong = λ bytes f e. (let k : f ≡ fault.Stop (length bytes) = cc in ap (failed {A = List ℕ}) (sym k)) }
