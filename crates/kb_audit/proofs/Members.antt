-- Who may write, and which changes of the members may be made.
use Rattle.std.proofs.Common.{◌≡◌, ◌≢◌, ℕ, ◌+◌, ◌≤◌, ◌<◌, Bool, true, false, cond, List, [], ◌∷◌, length, Option, Some, None, refl, sym, ap, subst, ◌∙◌, arith}
use Rattle.std.specs.Prelude.{◌&&◌, nat_eq, nat_le, reverse, IsSome}
use Rattle.std.proofs.lemmas.List.{length-reverse}
use Rattle.std.proofs.lemmas.Bool.{eqb-true, eq-eqb}
use Rattle.std.proofs.lemmas.Bool.Decides.{nat_tests}
use Rattle.kb_keys.specs.declared.policy.Role.{Role}
use Rattle.kb_keys.specs.declared.policy.Role.TheVariants.{Writer, Reader}
use Rattle.kb_keys.specs.declared.policy.Action.{Action}
use Rattle.kb_keys.specs.declared.policy.Action.TheVariants as action
use Rattle.kb_keys.specs.Members.{is_writer}
use Rattle.kb_chain.specs.Checks.{is_writer as is_writing}
use Rattle.kb_keys.specs.Policies.{role_at, role_after}
use Rattle.kb_snap.specs.Chains.{Deed}
use Rattle.kb_snap.specs.Chains.Deed.{Founded, Stepped, Merged, Rekeyed}
use Rattle.kb_snap.specs.Members.{FitsAction}
use Rattle.kb_folder.specs.Chains.{Plain, Back, role_in, IsAllowed, Suits, Follows}
use Rattle.kb_folder.specs.Reading.{IsChain}
use Rattle.kb_folder.proofs.Behind.{MayWrite, IsRekey, FitsBehind, fits_behind, may_of, may_follow, allowed_of}
use Rattle.kb_folder.proofs.Turning.{role_by, role_next}
use Rattle.kb_folder.proofs.Verdicts.{first_of, second_of}
use Rattle.kb_audit.specs.Facts.{HasWriter, MayDo}

-- ---- members are registered

module _ (registered : ℕ) (top : registered ≤ 32) where
  one_of : (d who : ℕ) (role before : Option Role) → (1 ≤ who) × (who ≤ registered) → (IsSome before → (1 ≤ d) × (d ≤ registered)) → IsSome (cond (nat_eq d who) role before) → (1 ≤ d) × (d ≤ registered)
  one_of d who role before within older = elim (nat_eq d who) as (λ b. nat_eq d who ≡ b → IsSome (cond b role before) → (1 ≤ d) × (d ≤ registered)) [
    | true ↦ λ e h. let same : d ≡ who = eqb-true d who e in let low = within.0 in let high = within.1 in (omega (arith, same, low), omega (arith, same, high))
    | false ↦ λ e h. older h
  ] refl

  few_by : (c : Back) (w m : ℕ) (deed : Deed) → FitsBehind registered c m deed → MayWrite registered c w → (d : ℕ) → (IsSome (role_in c d) → (1 ≤ d) × (d ≤ registered)) → IsSome (role_by w deed d (role_in c d)) → (1 ≤ d) × (d ≤ registered)
  few_by [] w m Founded f a d older some = one_of d w (Some Writer) None a older some
  few_by [] w m (Stepped ops) f a d older some = older some
  few_by [] w m (Merged base rule ops) f a d older some = older some
  few_by [] w m (Rekeyed act who) f a d older some = absurd f
  few_by (y ∷ c) w m Founded f a d older some = absurd f
  few_by (y ∷ c) w m (Stepped ops) f a d older some = older some
  few_by (y ∷ c) w m (Merged base rule ops) f a d older some = older some
  few_by (y ∷ c) w m (Rekeyed action.Found who) f a d older some = absurd f
  few_by (y ∷ c) w m (Rekeyed action.GrantWriter who) f a d older some = one_of d who _ (role_in (y ∷ c) d) (f.0, f.1) older some
  few_by (y ∷ c) w m (Rekeyed action.GrantReader who) f a d older some = one_of d who _ (role_in (y ∷ c) d) (f.0, f.1) older some
  few_by (y ∷ c) w m (Rekeyed action.Revoke who) f a d older some = gone (nat_eq d who) some
    where
      gone : (b : Bool) → IsSome (cond b (role_after action.Revoke) (role_in (y ∷ c) d)) → (1 ≤ d) × (d ≤ registered)
      gone true h = cc
      gone false h = older h

  wider : (d : ℕ) → (1 ≤ d) × (d ≤ registered) → (1 ≤ d) × (d ≤ 32)
  wider d h = let high = h.1 in (h.0, omega (arith, high, top))

  pub members_registered : (c : Back) → IsChain registered c → (d : ℕ) → IsSome (role_in c d) → (1 ≤ d) × (d ≤ registered)
  members_registered [] h d some = cc
  members_registered (x ∷ c) h d some =
      few_by c x.writer x.moment x.deed (fits_behind registered c x (λ q older. wider q (members_registered c h.0 q older)) h.1) (may_follow registered c x h.1) d (members_registered c h.0 d)
      (subst (λ (o : Option Role). IsSome o) (role_next x c d) some)

  pub members_few : (c : Back) → IsChain registered c → (d : ℕ) → IsSome (role_in c d) → (1 ≤ d) × (d ≤ 32)
  members_few c h d some = wider d (members_registered c h d some)

  -- who may write is registered
  writer_within : (c : Back) → IsChain registered c → (w : ℕ) → MayWrite registered c w → (1 ≤ w) × (w ≤ registered)
  writer_within [] chain w h = h
  writer_within (y ∷ c) chain w h = members_registered (y ∷ c) chain w (subst (λ (o : Option Role). IsSome o) (sym h) refl)

  pub writer_from : (c : Back) → IsChain registered c → (w : ℕ) → MayWrite registered c w → HasWriter registered c w
  writer_from c chain w h = let within = writer_within c chain w h in (allowed_of registered c w h, within.0, within.1)

pub may_from : (registered : ℕ) (c : Back) (w : ℕ) → HasWriter registered c w → MayWrite registered c w
may_from registered c w h = may_of registered c w h.0 (h.1, h.2)

-- ---- the test of the writer

le_is : (a b : ℕ) → nat_le a b ≡ true → a ≤ b
le_is a b h = grind (arith, nat_tests)

is_le : (a b : ℕ) → a ≤ b → nat_le a b ≡ true
is_le a b h = grind (arith, nat_tests)

both : (a b : Bool) → a ≡ true → b ≡ true → (a && b) ≡ true
both true true p q = refl
both true false p q = cc
both false b p q = cc

writer_told : (o : Option Role) → is_writing o ≡ true → o ≡ Some Writer
writer_told (Some Writer) h = refl
writer_told (Some Reader) h = cc
writer_told None h = cc

module _ (registered : ℕ) (policy : List (Option Role) × ℕ) where
  pub allowed_told : (c : Back) (w len : ℕ) → len ≡ length c → ((d : ℕ) → role_at policy.0 d ≡ role_in c d) → cond (nat_eq len 0) (nat_le 1 w && nat_le w registered) (is_writing (role_at policy.0 w)) ≡ true → MayWrite registered c w
  allowed_told [] w len e roles h =
      let k = ap (λ b. cond b (nat_le 1 w && nat_le w registered) (is_writing (role_at policy.0 w))) (sym (eq-eqb len 0 e)) ∙ h in
      (le_is 1 w (first_of (nat_le 1 w) (nat_le w registered) k), le_is w registered (second_of (nat_le 1 w) (nat_le w registered) k))
  allowed_told (x ∷ c) w len e roles h =
      let some : nat_eq len 0 ≡ false = grind (arith, nat_tests, e) in
      let k = ap (λ b. cond b (nat_le 1 w && nat_le w registered) (is_writing (role_at policy.0 w))) (sym some) ∙ h in
      sym (roles w) ∙ writer_told (role_at policy.0 w) k

  pub allowed_back : (c : Back) (w len : ℕ) → len ≡ length c → ((d : ℕ) → role_at policy.0 d ≡ role_in c d) → MayWrite registered c w → cond (nat_eq len 0) (nat_le 1 w && nat_le w registered) (is_writing (role_at policy.0 w)) ≡ true
  allowed_back [] w len e roles h = ap (λ b. cond b (nat_le 1 w && nat_le w registered) (is_writing (role_at policy.0 w))) (eq-eqb len 0 e) ∙ both (nat_le 1 w) (nat_le w registered) (is_le 1 w h.0) (is_le w registered h.1)
  allowed_back (x ∷ c) w len e roles h =
      let some : nat_eq len 0 ≡ false = grind (arith, nat_tests, e) in
      ap (λ b. cond b (nat_le 1 w && nat_le w registered) (is_writing (role_at policy.0 w))) some ∙ ap is_writing (roles w ∙ h)

-- ---- changes of the members

pub not_none : (c : Back) → c ≢ [] → reverse c ≢ []
not_none [] h = absurd (h refl)
not_none (y ∷ c) h = λ e. let size : length (reverse (y ∷ c)) ≡ length (y ∷ c) = length-reverse (y ∷ c) in let none : length (reverse (y ∷ c)) ≡ 0 = ap length e in absurd (omega (arith, size, none))

action_told : (registered : ℕ) (c : Back) (a : Action) (who : ℕ) → IsRekey registered c a who → FitsAction (reverse c) a who
action_told registered c action.Found who h = absurd h
action_told registered c action.GrantWriter who h = h.2
action_told registered c action.GrantReader who h = h.2
action_told registered c action.Revoke who h = (h.0, (λ last. let other = h.1 in other.1.0 (last.alone other.0 (ap is_writer other.1.1))), (let left = h.2 in omega (arith, left)))

suits_action : (registered : ℕ) (c : Back) (w : ℕ) (a : Action) (who : ℕ) → IsRekey registered c a who → Suits registered c w (Rekeyed a who)
suits_action registered c w action.Found who h = tt
suits_action registered c w action.GrantWriter who h = (h.0, h.1)
suits_action registered c w action.GrantReader who h = (h.0, h.1)
suits_action registered c w action.Revoke who h = tt

pub rekey_told : (registered : ℕ) (c : Back) (w : ℕ) (a : Action) (who : ℕ) → c ≢ [] → IsRekey registered c a who → MayDo registered c w (Rekeyed a who)
rekey_told registered c w a who some h = (some, action_told registered c a who h, suits_action registered c w a who h)

-- what a writer may do to the members
pub rekey_from : (registered : ℕ) (c : Back) (w : ℕ) (a : Action) (who : ℕ) → ((d : ℕ) → IsSome (role_in c d) → (1 ≤ d) × (d ≤ 32)) → IsAllowed c w → MayDo registered c w (Rekeyed a who) → IsRekey registered c a who
rekey_from registered [] w a who few allowed may = absurd (may.0 refl)
rekey_from registered (y ∷ c) w a who few allowed may = fits_behind registered (y ∷ c) (record { writer = w; name = []; moment = 0; deed = Rekeyed a who }) few (record {
  allowed = allowed;
  own = tt;
  counts = tt;
  fits = (not_none (y ∷ c) may.0, may.1);
  suits = may.2;
})
