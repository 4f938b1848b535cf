-- A change of a member as the plain machine's step.
use Rattle.std.proofs.Common.{◌≡◌, ℕ, ◌+◌, ◌≤◌, true, false, List, [], ◌∷◌, ◌++◌, length, None, IsSome, Result, Ok, Err, inl, inr, refl, sym, ap, subst, ◌∙◌, arith}
use Rattle.std.specs.Prelude.{reverse}
use Rattle.std.specs.FinMap.{get}
use Rattle.std.proofs.lemmas.List.{length-reverse}
use Rattle.kb_blocks.specs.Stores as stores
use Rattle.kb_keys.specs.declared.policy.Action.{Action}
use Rattle.kb_keys.specs.declared.policy.Action.TheVariants as action
use Rattle.kb_snap.specs.Chains.{Chain, most_revisions}
use Rattle.kb_snap.specs.Members.{roles_of, FitsAction}
use Rattle.kb_keys.specs.Members.{is_writer, IsLastWriter}
use Rattle.kb_snap.specs.Answers as says
use Rattle.kb_snap.specs.Rekeys.{RekeyStep, RekeyRefuses}
use Rattle.kb_folder.specs.Chains.{Plain, Back, Names, role_in, generation_in}
use Rattle.kb_folder.specs.Puts.{Held}
use Rattle.kb_folder.specs.Goes.{Grows, HasChain}
use Rattle.kb_folder.proofs.Turning.{turned}
use Rattle.kb_rekey.specs.declared.rekeying.RekeyFault.{RekeyFault}
use Rattle.kb_rekey.specs.declared.rekeying.RekeyFault.TheVariants as rekey
use Rattle.kb_rekey.specs.Rekeying.{rekeyed_by, IsGrant, IsRevoke, Rekeys, RekeyMeans}

-- the machine's refusals, action by action
not_writer : (b : Back) (by : ℕ) (a : Action) (who : ℕ) → is_writer (role_in b by) ≡ false → RekeyRefuses (reverse b) by a who says.RekeyFault.NotWriter
not_writer b by action.Found who h = h
not_writer b by action.GrantWriter who h = h
not_writer b by action.GrantReader who h = h
not_writer b by action.Revoke who h = h

known : (b : Back) (by : ℕ) (a : Action) (who : ℕ) → (is_writer (role_in b by) ≡ true) × IsGrant a × IsSome (role_in b who) → RekeyRefuses (reverse b) by a who says.RekeyFault.Known
known b by action.Found who h = absurd h.1
known b by action.GrantWriter who h = (h.0, h.2)
known b by action.GrantReader who h = (h.0, h.2)
known b by action.Revoke who h = absurd h.1

not_member : (b : Back) (by : ℕ) (a : Action) (who : ℕ) → (is_writer (role_in b by) ≡ true) × IsRevoke a × (role_in b who ≡ None) → RekeyRefuses (reverse b) by a who says.RekeyFault.NotMember
not_member b by action.Found who h = absurd h.1
not_member b by action.GrantWriter who h = absurd h.1
not_member b by action.GrantReader who h = absurd h.1
not_member b by action.Revoke who h = (h.0, h.2)

last_writer : (b : Back) (by : ℕ) (a : Action) (who : ℕ) → (is_writer (role_in b by) ≡ true) × IsRevoke a × IsLastWriter (role_in b) who → RekeyRefuses (reverse b) by a who says.RekeyFault.LastWriter
last_writer b by action.Found who h = absurd h.1
last_writer b by action.GrantWriter who h = absurd h.1
last_writer b by action.GrantReader who h = absurd h.1
last_writer b by action.Revoke who h = (h.0, h.2)

no_key : (b : Back) (by : ℕ) (a : Action) (who : ℕ) → (is_writer (role_in b by) ≡ true) × IsRevoke a × IsSome (role_in b who) × ¬ IsLastWriter (role_in b) who × (64 ≤ generation_in b) → RekeyRefuses (reverse b) by a who says.RekeyFault.GenEnd
no_key b by action.Found who h = absurd h.1
no_key b by action.GrantWriter who h = absurd h.1
no_key b by action.GrantReader who h = absurd h.1
no_key b by action.Revoke who h = (h.0, h.2, h.3, h.4)

full : (b : Back) (by : ℕ) (a : Action) (who : ℕ) → (is_writer (role_in b by) ≡ true) × FitsAction (reverse b) a who × (most_revisions ≤ length (reverse b)) → RekeyRefuses (reverse b) by a who says.RekeyFault.ChainEnd
full b by action.Found who h = h
full b by action.GrantWriter who h = h
full b by action.GrantReader who h = h
full b by action.Revoke who h = h

module _ (sealed signed : List ℕ → List ℕ → List ℕ) (hashed : List ℕ → List ℕ) (seed : List ℕ) (names : Names) (old new : Held) (c : Chain) (by : ℕ) (a : Action) (who moment : ℕ) (has : HasChain sealed signed hashed seed names old c) where
  abbrev x : Plain
  x = rekeyed_by names by moment a who

  abbrev b : Back
  b = has.back

  size : length c ≡ length b
  size = ap length has.turned ∙ length-reverse b

  -- the machine goes on by this answer
  abbrev Led : Result ℕ says.RekeyFault → Type 0
  Led answer = (c' : Chain) × RekeyStep c x by a who answer c' × Grows old new × HasChain sealed signed hashed seed names new c'

  stays : (m : says.RekeyFault) → new ≡ old → RekeyRefuses (reverse b) by a who m → Led (Err m)
  stays m same h = (
    c,
    (subst (λ (l : Chain). RekeyRefuses l by a who m) (sym has.turned) h, refl),
    inl same,
    subst (λ (f : Held). HasChain sealed signed hashed seed names f c) (sym same) has,
  )

  pub goes : (result : Result ℕ RekeyFault) (answer : Result ℕ says.RekeyFault) → Rekeys sealed signed hashed seed by a who moment old new result → RekeyMeans result answer → Led answer
  goes (Ok n) answer r is =
      let h = r.answer names b has.stands in
      let room = h.2 in let limit = has.limit in let len = size in
      subst Led (sym is) (
        c ++ x ∷ [],
        (ap (λ (l : Chain). is_writer (roles_of l by)) has.turned ∙ h.0, subst (λ (l : Chain). FitsAction l a who) (sym has.turned) h.1, omega (arith, room, limit, len), h.3 ∙ ap (λ k. k + 1) (sym size), refl),
        inr (record { bytes = r.changes.bytes; revisions = r.changes.revisions; blocks = λ id t at. ap (λ (m : stores.Blocks). get m id) r.changes.blocks ∙ at; registered = r.changes.registered }),
        record { back = x ∷ b; turned = ap (λ l. l ++ x ∷ []) has.turned ∙ sym (turned x b); stands = r.stands names b has.stands; limit = r.changes.limit ∙ has.limit },
      )
  goes (Err rekey.NotWriter) answer r is = subst Led (sym is) (stays says.RekeyFault.NotWriter r.changes (not_writer b by a who (r.answer names b has.stands)))
  goes (Err rekey.Known) answer r is = subst Led (sym is) (stays says.RekeyFault.Known r.changes (known b by a who (r.answer names b has.stands)))
  goes (Err rekey.NotMember) answer r is = subst Led (sym is) (stays says.RekeyFault.NotMember r.changes (not_member b by a who (r.answer names b has.stands)))
  goes (Err rekey.LastWriter) answer r is = subst Led (sym is) (stays says.RekeyFault.LastWriter r.changes (last_writer b by a who (r.answer names b has.stands)))
  goes (Err rekey.GenEnd) answer r is = subst Led (sym is) (stays says.RekeyFault.GenEnd r.changes (no_key b by a who (r.answer names b has.stands)))
  goes (Err rekey.ChainEnd) answer r is =
      let h = r.answer names b has.stands in
      let end = h.2 in let limit = has.limit in let len = length-reverse b in
      subst Led (sym is) (stays says.RekeyFault.ChainEnd r.changes (full b by a who (h.0, h.1, omega (arith, end, limit, len))))
  goes (Err rekey.Memory) answer r is = absurd is
