-- What an opening goes on with is what the machine goes on with.
use Rattle.std.proofs.Common.{◌≡◌, ℕ, suc, ◌+◌, ◌<◌, ◌≤◌, ◌==◌, true, false, cond, List, [], ◌∷◌, length, drop, Option, Some, None, inl, inr, refl, sym, ap, subst, ◌∙◌, arith}
use Rattle.std.specs.Prelude.{nat_le}
use Rattle.std.proofs.lemmas.Bool.Decides.{nat_tests}
use Rattle.kb_ops.specs.declared.rows.Op.{Op}
use Rattle.kb_ops.specs.Trees.{FitAll}
use Rattle.kb_keys.specs.declared.policy.Role.{Role}
use Rattle.kb_journal.specs.State.{State}
use Rattle.kb_snap.specs.Chains.{Chain, tree_at}
use Rattle.kb_snap.specs.Members.{roles_at}
use Rattle.kb_device.specs.Journals.{Journal, plain, taken_over, caught_up}
use Rattle.kb_device.specs.Foreign.{Later, Unknown, Others, Apart, Unfit}
use Rattle.std.specs.Prelude.{is_some}
use Rattle.std.proofs.lemmas.List.{length-reverse}
use Rattle.kb_folder.specs.Chains.{Names, Back, role_in}
use Rattle.kb_folder.specs.Held.{is_member}
use Rattle.kb_folder.specs.Goes.{HasChain}
use Rattle.kb_device.proofs.Pasts.{clash}
use Rattle.kb_folder.specs.Puts.{Held}
use Rattle.kb_device.specs.declared.opening.Taking.{Taking}
use Rattle.kb_device.specs.Heads.{Read, ReadStands}
use Rattle.kb_device.specs.Pulling.{headed}
use Rattle.kb_device.specs.Opening.{IsApart, taken_by, caught_by, Takes, MayTake, Meets, count_of, number_of, target_of, StartStands}

pub known_is : (s : State) (taking : Option Taking) → (taken_by s taking).known ≡ number_of s.known taking
known_is s None = refl
known_is s (Some t) = refl

pub queue_is : (s : State) (taking : Option Taking) → (taken_by s taking).queue ≡ drop (count_of taking) s.queue
queue_is s None = refl
queue_is s (Some t) = refl

-- the machine's journal where nothing waits, and where something does
empty_up : (c : Chain) (k : Journal) → k.queue ≡ [] → caught_up c k ≡ record k { known = length c }
empty_up c k e = ap (λ b. cond b (record k { known = length c }) k) (let z : length k.queue ≡ 0 = ap length e in let yes : (length k.queue == 0) ≡ true = grind (arith, nat_tests, z) in yes)

full_up : (c : Chain) (k : Journal) (op : Op) (ops : List Op) → k.queue ≡ op ∷ ops → caught_up c k ≡ k
full_up c k op ops e = ap (λ b. cond b (record k { known = length c }) k) (let z : length k.queue ≡ suc (length ops) = ap length e in let not : (length k.queue == 0) ≡ false = grind (arith, nat_tests, z) in not)

pub kept_up : (t : State) (r : Read) → nat_le r.number t.known ≡ true → caught_by t r ≡ t
kept_up t r low = ap (λ b. cond b t (headed t r)) low

pub head_up : (t : State) (r : Read) → nat_le r.number t.known ≡ false → caught_by t r ≡ headed t r
head_up t r below = ap (λ b. cond b t (headed t r)) below

-- the journal that the machine resumes with, and the number that is known there
resumes : (t : State) (r : Read) (c : Chain) → t.known ≤ length c → r.number ≡ target_of t.known t.queue (length c) → (plain (caught_by t r) ≡ caught_up c (plain t)) × (r.number ≡ (caught_up c (plain t)).known)
resumes t r c within number = by t.queue refl number where
  by : (q : List Op) → t.queue ≡ q → r.number ≡ target_of t.known q (length c) → (plain (caught_by t r) ≡ caught_up c (plain t)) × (r.number ≡ (caught_up c (plain t)).known)
  by [] e n =
      let up = empty_up c (plain t) e in
      let base : t.base + length t.queue ≡ t.base = (let z : length t.queue ≡ 0 = ap length e in omega (arith, z)) in (
        elim (nat_le r.number t.known) as (λ b. nat_le r.number t.known ≡ b → plain (caught_by t r) ≡ caught_up c (plain t)) [
          | true ↦ λ y. (let le : r.number ≤ t.known = grind (arith, nat_tests, y) in let same : t.known ≡ length c = omega (arith, le, n, within) in ap plain (kept_up t r y) ∙ (λ i. record (plain t) { known = same i }) ∙ sym up)
          | false ↦ λ y. ap plain (head_up t r y) ∙ (λ i. record { known = n i; base = base i; mark = t.mark; queue = sym e i }) ∙ sym up
        ] refl,
        n ∙ sym (ap (λ (k : Journal). k.known) up),
      )
  by (op ∷ ops) e n =
      let up = full_up c (plain t) op ops e in
      let yes : nat_le r.number t.known ≡ true = grind (arith, nat_tests, n) in
      (ap plain (kept_up t r yes) ∙ sym up, n ∙ sym (ap (λ (k : Journal). k.known) up))

-- what is left fits where the machine has it so, and the other way round
fit_both : (c : Chain) (q : List Op) (known number : ℕ) → number ≡ target_of known q (length c) → (FitAll q (tree_at c number) → FitAll q (tree_at c known)) × (FitAll q (tree_at c known) → FitAll q (tree_at c number))
fit_both c [] known number e = (λ h. tt, λ h. tt)
fit_both c (op ∷ ops) known number e = (subst (λ n. FitAll (op ∷ ops) (tree_at c n)) e, subst (λ n. FitAll (op ∷ ops) (tree_at c n)) (sym e))

module _ (f : Held) (d : ℕ) (c : Chain) (s : State) (taking : Option Taking) (takes : Takes f d c s taking) (m : Meets f d c s) (number : ℕ) (number_is : number ≡ target_of (number_of s.known taking) (drop (count_of taking) s.queue) (length c)) where
  known_over : (taken_over d c (plain s)).known ≡ number_of s.known taking
  known_over = sym (ap (λ (k : Journal). k.known) takes.same) ∙ known_is s taking

  queue_over : (taken_over d c (plain s)).queue ≡ drop (count_of taking) s.queue
  queue_over = sym (ap (λ (k : Journal). k.queue) takes.same) ∙ queue_is s taking

  -- what is left doesn't fit
  pub unfit_apart : (FitAll (drop (count_of taking) s.queue) (tree_at c number) → ⊥) → IsApart f d c s
  unfit_apart unfit = inl (Unfit (λ h. unfit ((fit_both c (drop (count_of taking) s.queue) (number_of s.known taking) number number_is).1 (subst (λ n. FitAll (drop (count_of taking) s.queue) (tree_at c n)) known_over (subst (λ q. FitAll q (tree_at c (taken_over d c (plain s)).known)) queue_over h)))))

  pub not_apart : FitAll (drop (count_of taking) s.queue) (tree_at c number) → IsApart f d c s → ⊥
  not_apart fit (inr other) = other m.hash
  not_apart fit (inl (Later more)) = (let le = m.within in absurd (omega (arith, more, le)))
  not_apart fit (inl (Unknown zero_is some)) = (let low = m.started some in absurd (omega (arith, low, zero_is)))
  not_apart fit (inl (Others other)) = other m.own
  not_apart fit (inl (Apart apart)) = apart m.queue
  not_apart fit (inl (Unfit unfit)) = unfit (subst (λ q. FitAll q (tree_at c (taken_over d c (plain s)).known)) (sym queue_over) (subst (λ n. FitAll (drop (count_of taking) s.queue) (tree_at c n)) (sym known_over) ((fit_both c (drop (count_of taking) s.queue) (number_of s.known taking) number number_is).0 fit)))

  pub start_stands : (sealed : List ℕ → List ℕ → List ℕ) (hashed : List ℕ → List ℕ) (seed : List ℕ) (r : Read) (role : Option Role) → r.number ≡ number → ReadStands sealed hashed seed f c r → role ≡ roles_at c number d → FitAll (drop (count_of taking) s.queue) r.tree
      → StartStands sealed hashed seed f d c s taking r role
  start_stands sealed hashed seed r role same stands role_is fit =
      let go = resumes (taken_by s taking) r c takes.within (same ∙ number_is ∙ (λ i. target_of (sym (known_is s taking) i) (sym (queue_is s taking) i) (length c))) in
      record {
        ours = not_apart (subst (λ n. FitAll (drop (count_of taking) s.queue) (tree_at c n)) same (subst (FitAll (drop (count_of taking) s.queue)) stands.tree fit));
        takes = takes;
        resumes = go.0 ∙ ap (caught_up c) takes.same;
        number = go.1 ∙ ap (λ (k : Journal). (caught_up c k).known) takes.same;
        stands = stands;
        role_is = role_is ∙ ap (λ n. roles_at c n d) (sym same);
      }

-- a member's folder has a revision
pub some_chain : (sealed signed : List ℕ → List ℕ → List ℕ) (hashed : List ℕ → List ℕ) (seed : List ℕ) (names : Names) (f : Held) (c : Chain) (d : ℕ) → HasChain sealed signed hashed seed names f c → is_member f d ≡ true → 1 ≤ length c
some_chain sealed signed hashed seed names f c d has member = (let size = ap length has.turned in let turned = length-reverse has.back in let some = by has.back refl in omega (arith, size, turned, some)) where
  by : (b : Back) → has.back ≡ b → 1 ≤ length has.back
  by [] e = absurd (clash (sym member ∙ ap is_some (has.stands.policy.roles d ∙ ap (λ l. role_in l d) e)))
  by (x ∷ b) e = (let n = ap length e in omega (arith, n))

-- the number that is known then is one
pub some_number : (s : State) (len most : ℕ) (taking : Option Taking) (number : ℕ) → 1 ≤ len → (0 < length s.queue → 0 < s.known) → MayTake s.known most s.queue taking → number ≡ target_of (number_of s.known taking) (drop (count_of taking) s.queue) len → 1 ≤ number
some_number s len most taking number some started may e = by taking refl (drop (count_of taking) s.queue) refl e where
  by : (t : Option Taking) → taking ≡ t → (q : List Op) → drop (count_of taking) s.queue ≡ q → number ≡ target_of (number_of s.known taking) q len → 1 ≤ number
  by t is [] q e = omega (arith, e, some)
  by None is (op ∷ ops) q e =
      let all : s.queue ≡ op ∷ ops = ap (λ o. drop (count_of o) s.queue) (sym is) ∙ q in
      let long = ap length all in
      let low = started (let l : 0 < length s.queue = (let m : length (op ∷ ops) ≡ suc (length ops) = refl in omega (arith, long, m)) in l) in
      let known = ap (number_of s.known) is in
      omega (arith, e, known, low)
  by (Some t) is (op ∷ ops) q e = (let low = (may.later t is).0 in let known = ap (number_of s.known) is in omega (arith, e, known, low))
