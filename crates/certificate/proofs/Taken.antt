-- What a reader takes from the front of bytes is the text of what it gives.
use Rattle.std.proofs.Common.{◌≡◌, ℕ, ◌+◌, Bool, true, false, cond, List, [], ◌∷◌, ◌++◌, length, Option, None, Some, Ok, Err, refl, sym, ap, subst, ◌∙◌, append_assoc, arith, inl, inr}
use Rattle.std.specs.Bool.{nat_le, nat_lt, ◌==◌}
use Rattle.std.specs.Prelude.{codes, slice_get}
use Rattle.std.specs.Fmt.{decimal}
use Rattle.std.proofs.lemmas.Fmt.{decimal_digit}
use Rattle.std.proofs.lemmas.Bool.{eqb-true}
use Rattle.definitions.specs.declared.arc.NetArc.{NetArc}
use Rattle.definitions.specs.declared.limits.TheConstants.{UNIT_LIMIT}
use Rattle.definitions.specs.Decimal.{line_end, number_line}
use Rattle.lp_model.specs.declared.fault.NetFault.TheVariants as net_fault
use Rattle.lp_model.specs.declared.wide_arc.WideArc.{WideArc}
use Rattle.lp_model.specs.Faults.{arc_faults}
use Rattle.lp_model.specs.Wide.{arc_of_wide}
use Rattle.certificate.specs.declared.refused.Limit.{Limit}
use Rattle.certificate.specs.declared.refused.Limit.TheVariants as limit
use Rattle.certificate.specs.declared.fault.Fault.TheVariants as fault
use Rattle.certificate.specs.Bytes.{◌>>=◌, digits_at, byte_at, literal_at, number_at}
use Rattle.certificate.specs.Limits.{greatest}
use Rattle.certificate.specs.Lines.{word_at, number_line_at, destination_line_at, demand_line_at, weight_at, wide_arc_at, unless, arc_line_at}
use Rattle.certificate.specs.Spelling.{weight_text, arc_line}
use Rattle.certificate.proofs.Readers.{bind_ok, done, ok_is, held, chosen, unless_ok}
use Rattle.certificate.proofs.Digits.{digits_taken}

pub byte_taken : (c : ℕ) (bs rest : List ℕ) → byte_at c bs ≡ Ok rest → bs ≡ c ∷ rest
byte_taken c [] rest e = absurd cc
byte_taken c (b ∷ bs) rest e =
    let h = held (b == c) (fault.Stop (length (b ∷ bs))) bs rest e in
    ap (λ x. x ∷ bs) (eqb-true b c h.0) ∙ ap (λ xs. c ∷ xs) h.1

pub literal_taken : (text bs rest : List ℕ) → literal_at text bs ≡ Ok rest → bs ≡ text ++ rest
literal_taken [] bs rest e = ok_is bs rest e
literal_taken (c ∷ cs) bs rest e =
    let b = bind_ok (byte_at c bs) (literal_at cs) rest e in
    byte_taken c bs b.0 b.1 ∙ ap (λ xs. c ∷ xs) (literal_taken cs b.0 rest b.2)

number_taken : (end : ℕ) (bytes : List ℕ) (p : ℕ × List ℕ) → number_at end bytes ≡ Ok p → bytes ≡ decimal p.0 ++ end ∷ p.1
unfolding number_at
number_taken end bytes p e =
    let d = bind_ok (digits_at bytes) (λ q. byte_at end q.1 >>= λ r. Ok (q.0, r)) p e in
    let b = bind_ok (byte_at end d.0.1) (λ r. done (d.0.0, r)) p d.2 in
    let whole : bytes ≡ decimal d.0.0 ++ end ∷ b.0 = (digits_taken bytes d.0 d.1).parts ∙ ap (λ bs. decimal d.0.0 ++ bs) (byte_taken end d.0.1 b.0 b.1) in
    subst (λ (q : ℕ × List ℕ). bytes ≡ decimal q.0 ++ end ∷ q.1) (ok_is (d.0.0, b.0) p b.2) whole

-- ---- lines of a word and a number

word_taken : (word bytes : List ℕ) (p : ℕ × List ℕ) → word_at word bytes ≡ Ok p → bytes ≡ number_line word p.0 ++ p.1
unfolding word_at
word_taken word bytes p e =
    let l = bind_ok (literal_at word bytes) (λ b. byte_at 32 b >>= number_at 10) p e in
    let b = bind_ok (byte_at 32 l.0) (number_at 10) p l.2 in
    literal_taken word bytes l.0 l.1
    ∙ ap (λ bs. word ++ bs) (byte_taken 32 l.0 b.0 b.1 ∙ ap (λ bs. 32 ∷ bs) (number_taken 10 b.0 p b.2))
    ∙ regroup word (32 ∷ []) (decimal p.0) (10 ∷ []) p.1
  where
    regroup : (a b c d e : List ℕ) → a ++ (b ++ (c ++ (d ++ e))) ≡ (((a ++ b) ++ c) ++ d) ++ e
    regroup a b c d e = simp append_assoc

pub number_line_taken : (word : List ℕ) (limit : Limit) (bytes : List ℕ) (p : ℕ × List ℕ) → number_line_at word limit bytes ≡ Ok p → bytes ≡ number_line word p.0 ++ p.1
number_line_taken word limit bytes p e =
    let w = bind_ok (word_at word bytes) (λ n. cond (nat_le n.0 (greatest limit)) (Ok n) (Err (fault.Range limit n.0))) p e in
    let h = held (nat_le w.0.0 (greatest limit)) (fault.Range limit w.0.0) w.0 p w.2 in
    word_taken word bytes p (w.1 ∙ ap done h.1)

pub destination_line_taken : (nodes : ℕ) (bytes : List ℕ) (p : ℕ × List ℕ) → destination_line_at nodes bytes ≡ Ok p → bytes ≡ number_line (codes "destination") p.0 ++ p.1
destination_line_taken nodes bytes p e =
    let w = bind_ok (word_at (codes "destination") bytes) (λ n. cond (nat_lt n.0 nodes) (Ok n) (Err (fault.Arc (net_fault.NodeOutside None n.0)))) p e in
    let h = held (nat_lt w.0.0 nodes) (fault.Arc (net_fault.NodeOutside None w.0.0)) w.0 p w.2 in
    word_taken (codes "destination") bytes p (w.1 ∙ ap done h.1)

-- what a demand line takes
pub record DemandTaken (is_destination : Bool) (bytes : List ℕ) (p : ℕ × List ℕ) : Type 0 where
  pub parts : bytes ≡ number_line (codes "g") p.0 ++ p.1
  pub none : is_destination ≡ true → p.0 ≡ 0

pub demand_line_taken : (is_destination : Bool) (units : ℕ) (bytes : List ℕ) (p : ℕ × List ℕ) → demand_line_at is_destination units bytes ≡ Ok p → DemandTaken is_destination bytes p
demand_line_taken true units bytes p e =
    let l = bind_ok (literal_at (codes "g 0" ++ line_end) bytes) (λ rest. done (0, rest)) p e in
    let zero_is : decimal 0 ≡ 48 ∷ [] = decimal_digit 0 (omega arith) in
    let line_is : codes "g 0" ++ line_end ≡ number_line (codes "g") 0 = ap (λ ds. codes "g" ++ codes " " ++ ds ++ line_end) (sym zero_is) in
    let taken : DemandTaken true bytes (0, l.0) = record { parts = literal_taken (codes "g 0" ++ line_end) bytes l.0 l.1 ∙ ap (λ xs. xs ++ l.0) line_is; none = λ h. refl } in
    subst (DemandTaken true bytes) (ok_is (0, l.0) p l.2) taken
demand_line_taken false units bytes p e =
    let w = bind_ok (word_at (codes "g") bytes) (λ n. cond (nat_le (units + n.0) UNIT_LIMIT) (Ok n) (Err (fault.Range limit.Units (units + n.0)))) p e in
    let h = held (nat_le (units + w.0.0) UNIT_LIMIT) (fault.Range limit.Units (units + w.0.0)) w.0 p w.2 in
    record { parts = word_taken (codes "g") bytes p (w.1 ∙ ap done h.1); none = λ other. absurd cc }

-- ---- arcs

abbrev unweighted : List ℕ → Option ℕ × List ℕ
unweighted rest = (None, rest)

weight_taken : (bytes : List ℕ) (p : Option ℕ × List ℕ) → weight_at bytes ≡ Ok p → bytes ≡ weight_text p.0 ++ 10 ∷ p.1
unfolding weight_at
weight_taken [] p e = absurd cc
weight_taken (b ∷ bs) p e = elim (chosen (b == 45) (byte_at 10 bs >>= λ rest. Ok (None, rest)) (number_at 10 (b ∷ bs) >>= λ n. Ok (Some n.0, n.1)) (Ok p) e) [
  | inl w ↦ (let r = bind_ok (byte_at 10 bs) (λ rest. done (unweighted rest)) p w.1 in
      let whole : b ∷ bs ≡ weight_text None ++ 10 ∷ r.0 = ap (λ c. c ∷ bs) (eqb-true b 45 w.0) ∙ ap (λ xs. 45 ∷ xs) (byte_taken 10 bs r.0 r.1) in
      subst (λ (x : Option ℕ × List ℕ). b ∷ bs ≡ weight_text x.0 ++ 10 ∷ x.1) (ok_is (None, r.0) p r.2) whole)
  | inr w ↦ (let r = bind_ok (number_at 10 (b ∷ bs)) (λ n. done (Some n.0, n.1)) p w.1 in
      let whole : b ∷ bs ≡ weight_text (Some r.0.0) ++ 10 ∷ r.0.1 = number_taken 10 (b ∷ bs) r.0 r.1 in
      subst (λ (x : Option ℕ × List ℕ). b ∷ bs ≡ weight_text x.0 ++ 10 ∷ x.1) (ok_is (Some r.0.0, r.0.1) p r.2) whole)
]

wide_arc_taken : (bytes : List ℕ) (p : WideArc × List ℕ) → wide_arc_at bytes ≡ Ok p → bytes ≡ arc_line (arc_of_wide p.0) ++ p.1
unfolding wide_arc_at
wide_arc_taken bytes p e =
    let l = bind_ok (literal_at (codes "a ") bytes) _ p e in
    let t = bind_ok (number_at 32 l.0) _ p l.2 in
    let h = bind_ok (number_at 32 t.0.1) _ p t.2 in
    let c = bind_ok (number_at 32 h.0.1) _ p h.2 in
    let w = bind_ok (weight_at c.0.1) _ p c.2 in
    let wide : WideArc = record { tail = t.0.0; head = h.0.0; cost = c.0.0; weight = w.0.0 } in
    let whole : bytes ≡ arc_line (arc_of_wide wide) ++ w.0.1 =
    literal_taken (codes "a ") bytes l.0 l.1
    ∙ ap (λ bs. codes "a " ++ bs) (number_taken 32 l.0 t.0 t.1 ∙ ap (λ bs. decimal t.0.0 ++ 32 ∷ bs) (number_taken 32 t.0.1 h.0 h.1 ∙ ap (λ bs. decimal h.0.0 ++ 32 ∷ bs) (number_taken 32 h.0.1 c.0 c.1 ∙ ap (λ bs. decimal c.0.0 ++ 32 ∷ bs) (weight_taken c.0.1 w.0 w.1))))
    ∙ regroup (codes "a ") (decimal t.0.0) (decimal h.0.0) (decimal c.0.0) (weight_text w.0.0) (32 ∷ []) (10 ∷ []) w.0.1 in
    subst (λ (x : WideArc × List ℕ). bytes ≡ arc_line (arc_of_wide x.0) ++ x.1) (ok_is (wide, w.0.1) p w.2) whole
  where
    regroup : (a b c d e s n f : List ℕ) → a ++ (b ++ (s ++ (c ++ (s ++ (d ++ (s ++ (e ++ (n ++ f)))))))) ≡ ((((((((a ++ b) ++ s) ++ c) ++ s) ++ d) ++ s) ++ e) ++ n) ++ f
    regroup a b c d e s n f = simp append_assoc

pub arc_line_taken : (nodes before number : ℕ) (bytes : List ℕ) (p : NetArc × List ℕ) → arc_line_at nodes before number bytes ≡ Ok p → bytes ≡ arc_line p.0 ++ p.1
arc_line_taken nodes before number bytes p e =
    let w = bind_ok (wide_arc_at bytes) (λ wide. unless (slice_get (arc_faults nodes before number (arc_of_wide wide.0)) 0) (arc_of_wide wide.0, wide.1)) p e in
    let same = unless_ok (slice_get (arc_faults nodes before number (arc_of_wide w.0.0)) 0) (arc_of_wide w.0.0, w.0.1) p w.2 in
    subst (λ (x : NetArc × List ℕ). bytes ≡ arc_line x.0 ++ x.1) same (wide_arc_taken bytes w.0 w.1)
