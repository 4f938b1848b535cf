-- What holds of every state that payloads lead to.
use Rattle.std.proofs.Common.{◌≡◌, ℕ, ◌+◌, ◌^◌, ◌<◌, ◌≤◌, Bool, true, false, ◌&&◌, not, eqb, ltb, leb, List, [], ◌∷◌, ◌++◌, length, drop, zero, suc, refl, subst, arith, length-append}
use Rattle.std.proofs.lemmas.Bool.Decides.{nat_tests}
use Rattle.std.proofs.lemmas.Bool.{eqb-true, ltb-true, leb-true}
use Rattle.std.proofs.lemmas.List.{length-drop}
use Rattle.kb_ops.specs.declared.rows.Op.{Op as Operation}
use Rattle.kb_ops.specs.Grammar.{IsOp}
use Rattle.kb_journal.specs.declared.entries.Entry.{Entry}
use Rattle.kb_journal.specs.declared.entries.Entry.TheVariants.{Op, Landed, Branched, Merged, Head}
use Rattle.kb_journal.specs.Entries.{IsEntry}
use Rattle.kb_journal.specs.State.{State, Steps, Leads, empty, allows, done, takes_device}

-- operations that follow one another from a seq on, by one device
abbrev pub Follows : ℕ → List Operation → Type 0
Follows seq [] = Unit {0}
Follows seq (o ∷ queue) = IsOp o × (o.seq ≡ seq + 1) × (takes_device queue o.device ≡ true) × Follows (seq + 1) queue

pub record IsGood (s : State) : Type 0 where
  pub known : s.known < 2 ^ 32
  pub hash : length s.hash ≡ 32
  pub last : s.base + length s.queue < 2 ^ 32
  pub few : length s.queue ≤ 4096
  pub queue : Follows s.base s.queue

pub both : (a b : Bool) → (a && b) ≡ true → (a ≡ true) × (b ≡ true)
both true b e = (refl, e)
both false b e = absurd cc

takes_next : (queue : List Operation) (a b : ℕ) → eqb a b ≡ true → takes_device queue b ≡ true → takes_device queue a ≡ true
takes_next [] a b same takes = refl
takes_next (o ∷ queue) a b same takes = grind (arith, nat_tests)

takes_last : (queue : List Operation) (o : Operation) (d : ℕ) → takes_device queue d ≡ true → eqb o.device d ≡ true → takes_device (queue ++ o ∷ []) d ≡ true
takes_last [] o d takes same = grind (arith, nat_tests)
takes_last (p ∷ queue) o d takes same = takes

pub follows_push : (seq : ℕ) (queue : List Operation) (o : Operation) → Follows seq queue → IsOp o → o.seq ≡ seq + length queue + 1 → takes_device queue o.device ≡ true → Follows seq (queue ++ o ∷ [])
follows_push seq [] o f is next takes = (is, omega arith, refl, tt)
follows_push seq (p ∷ queue) o f is next takes =
    (f.0, f.1, takes_last queue o p.device f.2 takes, follows_push (seq + 1) queue o f.3 is (omega arith) (takes_next queue o.device p.device takes f.2))

pub follows_drop : (seq n : ℕ) (queue : List Operation) → n ≤ length queue → Follows seq queue → Follows (seq + n) (drop n queue)
follows_drop seq zero queue le f = subst (λ (k : ℕ). Follows k queue) (let e : seq ≡ seq + 0 = omega arith in e) f
follows_drop seq (suc n) [] le f = absurd (omega arith)
follows_drop seq (suc n) (p ∷ queue) le f = subst (λ (k : ℕ). Follows k (drop n queue)) (let e : seq + 1 + n ≡ seq + suc n = omega arith in e) (follows_drop (seq + 1) n queue (omega arith) f.3)

pub good_empty : IsGood empty
good_empty = record { known = omega arith; hash = refl; last = omega arith; few = omega arith; queue = tt }

pub good_done : (s : State) (e : Entry) → IsGood s → IsEntry e → allows s e ≡ true → IsGood (done s e)
good_done s (Op o) g is may =
    let a = both (eqb o.seq (s.base + length s.queue + 1)) (ltb (length s.queue) 4096 && takes_device s.queue o.device) may in
    let b = both (ltb (length s.queue) 4096) (takes_device s.queue o.device) a.1 in
    let next : o.seq ≡ s.base + length s.queue + 1 = eqb-true _ _ a.0 in
    let few : length s.queue < 4096 = ltb-true _ _ b.0 in
    let grown : length (s.queue ++ o ∷ []) ≡ length s.queue + 1 = omega (arith, length-append s.queue (o ∷ [])) in
    record { known = g.known; hash = g.hash; last = omega (arith, grown, next, is.seq); few = omega (arith, grown, few); queue = follows_push s.base s.queue o g.queue is next b.1 }
good_done s (Landed number hash) g is may =
    let a = both (ltb 0 (length s.queue)) (not s.mark && eqb number (s.known + 1)) may in
    let some : 0 < length s.queue = ltb-true _ _ a.0 in
    record { known = is.fits; hash = is.size; last = omega (arith, length-drop 1 s.queue, g.last, some); few = omega (arith, length-drop 1 s.queue, g.few); queue = follows_drop s.base 1 s.queue (omega arith) g.queue }
good_done s Branched g is may = record { known = g.known; hash = g.hash; last = g.last; few = g.few; queue = g.queue }
good_done s (Merged number hash count) g is may =
    let a = both (ltb 0 count) (leb count (length s.queue) && ltb s.known number) may in
    let b = both (leb count (length s.queue)) (ltb s.known number) a.1 in
    let le : count ≤ length s.queue = leb-true _ _ b.0 in
    record { known = is.0.fits; hash = is.0.size; last = omega (arith, length-drop count s.queue, g.last, le); few = omega (arith, length-drop count s.queue, g.few); queue = follows_drop s.base count s.queue le g.queue }
good_done s (Head number hash seq mark) g is may = record { known = is.0.fits; hash = is.0.size; last = omega (arith, is.1); few = omega arith; queue = tt }

pub good_step : (s t : State) (p : List ℕ) → IsGood s → Steps s p t → IsGood t
good_step s t p g a = subst (λ (m : State). IsGood m) a.after (good_done s a.entry g a.is a.allowed)

pub good_leads : (s t : State) (ps : List (List ℕ)) → IsGood s → Leads s ps t → IsGood t
good_leads s t [] g a = subst (λ (m : State). IsGood m) a g
good_leads s t (p ∷ ps) g a = good_leads a.0 t ps (good_step s a.0 p g a.1) a.2
