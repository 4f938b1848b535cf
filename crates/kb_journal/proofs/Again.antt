-- The compacted list leads to the state that it was made from.
use Rattle.std.proofs.Common.{◌≡◌, ℕ, ◌+◌, ◌^◌, ◌<◌, ◌≤◌, Bool, true, ◌&&◌, eqb, ltb, leb, List, [], ◌∷◌, ◌++◌, length, map, refl, sym, ap, subst, arith, append_assoc, append-nil, length-append}
use Rattle.std.proofs.lemmas.Bool.Decides.{nat_tests}
use Rattle.kb_ops.specs.declared.rows.Op.{Op as Operation}
use Rattle.kb_ops.specs.Grammar.{IsOp}
use Rattle.kb_journal.specs.declared.entries.Entry.TheVariants.{Op, Head}
use Rattle.kb_journal.specs.State.{State, Leads, empty, takes_device, queued_text, compacted}
use Rattle.kb_journal.proofs.Good.{IsGood, Follows}

-- a state with another queue
abbrev with_queue : State → List Operation → State
with_queue s queue = record { known = s.known; hash = s.hash; base = s.base; mark = s.mark; queue = queue }

all_three : (a b c : Bool) → a ≡ true → b ≡ true → c ≡ true → (a && (b && c)) ≡ true
all_three a b c x y z = rw (x, y, z) refl

same_device : (a b c : ℕ) → eqb a b ≡ true → eqb c b ≡ true → eqb a c ≡ true
same_device a b c x y = grind (arith, nat_tests)

-- an operation within the queue
record Within (seq : ℕ) (front : List Operation) (o : Operation) : Type 0 where
  is : IsOp o
  next : o.seq ≡ seq + length front + 1
  takes : takes_device front o.device ≡ true

follows_at : (seq : ℕ) (front : List Operation) (o : Operation) (rest : List Operation) → Follows seq (front ++ o ∷ rest) → Within seq front o
follows_at seq [] o rest f = record { is = f.0; next = omega (arith, f.1); takes = refl }
follows_at seq (p ∷ []) o rest f = record { is = f.3.0; next = omega (arith, f.3.1); takes = same_device o.device o.device p.device (grind (arith, nat_tests)) f.2 }
follows_at seq (p ∷ q ∷ front) o rest f =
    let below = follows_at (seq + 1) (q ∷ front) o rest f.3 in
    record { is = below.is; next = omega (arith, below.next); takes = same_device o.device q.device p.device below.takes f.2 }

ops_lead : (s : State) (front rest : List Operation) → Follows s.base (front ++ rest) → s.base + length (front ++ rest) < 2 ^ 32 → length (front ++ rest) ≤ 4096 → Leads (with_queue s front) (map queued_text rest) (with_queue s (front ++ rest))
ops_lead s front [] f last few = ap (λ (q : List Operation). with_queue s q) (sym (append-nil front))
ops_lead s front (o ∷ rest) f last few =
    let regroup : (front ++ o ∷ []) ++ rest ≡ front ++ o ∷ rest = simp append_assoc in
    let at = follows_at s.base front o rest f in
    let next : eqb o.seq (s.base + length front + 1) ≡ true = let e = at.next in grind (arith, nat_tests) in
    let room : ltb (length front) 4096 ≡ true = let e = length-append front (o ∷ rest) in grind (arith, nat_tests) in (
      with_queue s (front ++ o ∷ []),
      record { entry = Op o; is = at.is; spelled = refl; allowed = all_three (eqb o.seq (s.base + length front + 1)) (ltb (length front) 4096) (takes_device front o.device) next room at.takes; after = refl },
      subst (λ (q : List Operation). Leads (with_queue s (front ++ o ∷ [])) (map queued_text rest) (with_queue s q)) regroup
          (ops_lead s (front ++ o ∷ []) rest (subst (λ (q : List Operation). Follows s.base q) (sym regroup) f) (rw regroup last) (rw regroup few)),
    )

pub compacted_leads : (s : State) → IsGood s → Leads empty (compacted s) s
compacted_leads s g =
    let low : leb 0 s.known ≡ true = grind (arith, nat_tests) in
    let low_base : leb 0 s.base ≡ true = grind (arith, nat_tests) in (
      with_queue s [],
      record { entry = Head s.known s.hash s.base s.mark; is = (record { fits = g.known; size = g.hash }, omega (arith, g.last)); spelled = refl; allowed = all_three true (leb 0 s.known) (leb 0 s.base) refl low low_base; after = refl },
      ops_lead s [] s.queue g.queue g.last g.few,
    )
