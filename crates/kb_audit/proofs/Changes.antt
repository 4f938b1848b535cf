-- What one revision more changes of members, keys and seqs.
use Rattle.std.proofs.Common.{◌≡◌, ℕ, suc, ◌+◌, ◌≤◌, Bool, true, false, cond, List, [], ◌∷◌, ◌++◌, length, Option, Some, None, refl, sym, ap, ◌∙◌, arith, append-nil, length-append}
use Rattle.std.specs.Prelude.{nat_eq}
use Rattle.std.proofs.lemmas.Bool.{eqb-true}
use Rattle.std.proofs.lemmas.Bool.Decides.{nat_tests}
use Rattle.kb_ops.specs.declared.rows.Op.{Op}
use Rattle.kb_keys.specs.declared.policy.Role.{Role}
use Rattle.kb_keys.specs.declared.policy.Role.TheVariants.{Writer}
use Rattle.kb_keys.specs.Policies.{role_at, role_after}
use Rattle.kb_chain.specs.declared.revisions.Revision.{Revision}
use Rattle.kb_chain.specs.Checks.{Roles}
use Rattle.kb_snap.specs.Chains.{Deed, ops_in}
use Rattle.kb_snap.specs.Chains.Deed.{Founded, Stepped, Merged, Rekeyed}
use Rattle.kb_snap.specs.Lawful.{CountsFrom}
use Rattle.kb_snap.specs.Members.{generation_by}
use Rattle.kb_folder.specs.Chains.{Plain, Back, Place, ops_of}
use Rattle.kb_folder.specs.Stands.{HaveSeqs, kind_of, bundle_for}
use Rattle.kb_folder.specs.Puts.{RolesAfter, generation_with, seq_after}
use Rattle.kb_folder.proofs.KindCases.{by_step, by_rule}
use Rattle.kb_folder.proofs.Behind.{FitsBehind}
use Rattle.kb_folder.proofs.Turning.{role_by}

-- ---- members

pub roles_next : (sealed : List ℕ → List ℕ → List ℕ) (seed : List ℕ) (w : ℕ) (deed : Deed) (ps : List Place) (old new : Roles) (before : ℕ → Option Role) → RolesAfter (bundle_for sealed seed w deed ps) old new → ((d : ℕ) → role_at old d ≡ before d) → (d : ℕ) → role_at new d ≡ role_by w deed d (before d)
roles_next sealed seed w Founded ps old new before a h d = a d ∙ ap (cond (nat_eq d w) (Some Writer)) (h d)
roles_next sealed seed w (Stepped ops) ps old new before a h d = ap (λ (rs : Roles). role_at rs d) a ∙ h d
roles_next sealed seed w (Merged base rule ops) ps old new before a h d = ap (λ (rs : Roles). role_at rs d) a ∙ h d
roles_next sealed seed w (Rekeyed act who) ps old new before a h d = a d ∙ ap (cond (nat_eq d who) (role_after act)) (h d)

pub generation_next : (sealed : List ℕ → List ℕ → List ℕ) (seed : List ℕ) (w : ℕ) (deed : Deed) (ps : List Place) (g : ℕ) → generation_with (bundle_for sealed seed w deed ps) g ≡ generation_by deed g
generation_next sealed seed w Founded ps g = refl
generation_next sealed seed w (Stepped ops) ps g = refl
generation_next sealed seed w (Merged base rule ops) ps g = refl
generation_next sealed seed w (Rekeyed act who) ps g = refl

-- ---- seqs

eq_other : (a b : ℕ) → nat_eq a b ≡ nat_eq b a
eq_other a b = grind (arith, nat_tests)

last_is : (first last n : ℕ) (ops : List Op) → HaveSeqs first last ops → CountsFrom (n + 1) ops → (ops ≡ [] → ⊥) → last ≡ n + length ops
last_is first last n [] h k some = absurd (some refl)
last_is first last n (op ∷ ops) h k some = let a = h.0.0 in let b = k.0 in let e = h.1 in omega (arith, a, b, e)

landed : (r : Revision) (w d old : ℕ) (before ops : List Op) → r.writer ≡ w → length before ≡ old → (nat_eq w d ≡ true → r.last ≡ old + length ops) → cond (nat_eq d r.writer) r.last old ≡ length (before ++ cond (nat_eq w d) ops [])
landed r w d old before ops same len last =
    ap (λ b. cond b r.last old) (eq_other d r.writer ∙ ap (λ k. nat_eq k d) same)
    ∙ elim (nat_eq w d) as (λ b. nat_eq w d ≡ b → cond b r.last old ≡ length (before ++ cond b ops [])) [
      | true ↦ λ e. last e ∙ ap (λ k. k + length ops) (sym len) ∙ sym (length-append before ops)
      | false ↦ λ e. sym len ∙ ap length (sym (append-nil before))
    ] refl

stayed : (w d old : ℕ) (before : List Op) → length before ≡ old → old ≡ length (before ++ cond (nat_eq w d) [] [])
stayed w d old before len = elim (nat_eq w d) as (λ b. old ≡ length (before ++ cond b [] [])) [ true ↦ sym len ∙ ap length (sym (append-nil before)) | false ↦ sym len ∙ ap length (sym (append-nil before)) ]

-- the last seq of a device is the number of its operations
pub last_next : (registered : ℕ) (c : Back) (x : Plain) (r : Revision) (deed : Deed) → r.writer ≡ x.writer → HaveSeqs r.first r.last (ops_in deed) → FitsBehind registered c x.moment deed → CountsFrom (length (ops_of x.writer c) + 1) (ops_in deed)
    → (last : ℕ → ℕ) → ((d : ℕ) → last d ≡ length (ops_of d c)) → (d : ℕ) → seq_after (kind_of deed) r d (last d) ≡ length (ops_of d c ++ cond (nat_eq x.writer d) (ops_in deed) [])
last_next registered c x r Founded w h fits k last is d = stayed x.writer d (last d) (ops_of d c) (sym (is d))
last_next registered c x r (Rekeyed act who) w h fits k last is d = stayed x.writer d (last d) (ops_of d c) (sym (is d))
last_next registered c x r (Stepped ops) w h fits k last is d =
    let to = landed r x.writer d (last d) (ops_of d c) ops w (sym (is d)) (λ e.
    last_is r.first r.last (length (ops_of x.writer c)) ops h k (some_step registered c x.moment ops fits) ∙ ap (λ n. n + length ops) (ap (λ q. length (ops_of q c)) (eqb-true x.writer d e) ∙ sym (is d)))
    in
    by_step (λ z. seq_after z r d (last d) ≡ length (ops_of d c ++ cond (nat_eq x.writer d) ops [])) ops to to
  where
    some_step : (registered : ℕ) (c : Back) (m : ℕ) (ops : List Op) → FitsBehind registered c m (Stepped ops) → ops ≡ [] → ⊥
    some_step registered [] m ops f e = absurd f
    some_step registered (y ∷ c) m ops f e = let none : length ops ≡ 0 = ap length e in let some = f.0 in absurd (omega (arith, none, some))
last_next registered c x r (Merged base rule ops) w h fits k last is d =
    let to = landed r x.writer d (last d) (ops_of d c) ops w (sym (is d)) (λ e.
    last_is r.first r.last (length (ops_of x.writer c)) ops h k (some_merge registered c x.moment base rule ops fits) ∙ ap (λ n. n + length ops) (ap (λ q. length (ops_of q c)) (eqb-true x.writer d e) ∙ sym (is d)))
    in
    by_rule (λ z. seq_after z r d (last d) ≡ length (ops_of d c ++ cond (nat_eq x.writer d) ops [])) rule to to
  where
    some_merge : (registered : ℕ) (c : Back) (m base rule : ℕ) (ops : List Op) → FitsBehind registered c m (Merged base rule ops) → ops ≡ [] → ⊥
    some_merge registered [] m base rule ops f e = absurd f
    some_merge registered (y ∷ c) m base rule ops f e = let none : length ops ≡ 0 = ap length e in let some = f.2 in absurd (omega (arith, none, some))
