-- What keys a change of a member leaves.
use Rattle.std.proofs.Common.{◌≡◌, ℕ, ◌+◌, ◌≤◌, Bool, true, false, cond, List, [], ◌∷◌, map, Option, Some, None, refl, sym, ap, subst, ◌∙◌, arith}
use Rattle.std.specs.Prelude.{◌&&◌, ◌||◌, nat_eq, nat_le, nat_lt, IsSome, is_some}
use Rattle.std.specs.List.{range_with_len}
use Rattle.std.specs.FinMap.{get}
use Rattle.std.proofs.lemmas.Bool.{eqb-true, eq-eqb}
use Rattle.std.proofs.lemmas.Bool.Decides.{nat_tests}
use Rattle.kb_keys.specs.declared.policy.Role.{Role}
use Rattle.kb_keys.specs.declared.policy.Role.TheVariants.{Writer}
use Rattle.kb_keys.specs.declared.policy.Action.{Action}
use Rattle.kb_keys.specs.declared.policy.Action.TheVariants as action
use Rattle.kb_keys.specs.declared.entries.Entry.{Entry}
use Rattle.kb_keys.specs.Policies.{role_after, generation_after}
use Rattle.kb_keys.specs.Halves.{half_at}
use Rattle.kb_keys.specs.Secrets.{folder_key, server_half}
use Rattle.kb_keys.specs.Laws.{HasKey}
use Rattle.kb_folder.specs.Chains.{Back, Names, places_of, role_in, generation_in}
use Rattle.kb_folder.specs.Stands.{Revisions, Stands}
use Rattle.kb_folder.specs.Reading.{is_among}
use Rattle.kb_folder.specs.Puts.{Held}
use Rattle.kb_folder.specs.Lands.{FolderStands}
use Rattle.kb_folder.proofs.Turning.{role_next, gen_next, places_next}
use Rattle.kb_folder.proofs.Halves.{among_granted, among_kept}
use Rattle.kb_folder.proofs.Given.{gives}
use Rattle.kb_rekey.specs.Founding.{founded_by}
use Rattle.kb_rekey.specs.Rekeying.{rekeyed_by, IsGrant}
use Rattle.kb_rekey.specs.Having.{GetsKey, Began, Granted, Revoked}
use Rattle.kb_rekey.proofs.Filled.{spelled_places}
use Rattle.kb_rekey.proofs.GoesOn.{few_members}

both : (a b : Bool) → a ≡ true → b ≡ true → (a && b) ≡ true
both true true p q = refl
both true false p q = cc
both false b p q = cc

not_same : (a b : ℕ) → (a ≡ b → ⊥) → nat_eq a b ≡ false
not_same a b f = elim (nat_eq a b) as (λ z. nat_eq a b ≡ z → nat_eq a b ≡ false) [ true ↦ λ e. absurd (f (eqb-true a b e)) | false ↦ λ e. e ] refl

grant_keeps : (a : Action) (g : ℕ) → IsGrant a → generation_after a g ≡ g
grant_keeps action.Found g h = absurd h
grant_keeps action.GrantWriter g h = refl
grant_keeps action.GrantReader g h = refl
grant_keeps action.Revoke g h = absurd h

grant_some : (a : Action) → IsGrant a → is_some (role_after a) ≡ true
grant_some action.Found h = absurd h
grant_some action.GrantWriter h = refl
grant_some action.GrantReader h = refl
grant_some action.Revoke h = absurd h

within_test : (i g : ℕ) → 1 ≤ i → i ≤ g → (nat_le 1 i && nat_le i g) ≡ true
within_test i g low high = grind (arith, nat_tests)

range_test : (i g : ℕ) → 1 ≤ i → i ≤ g → (nat_le 1 i && nat_lt i (1 + g)) ≡ true
range_test i g low high = grind (arith, nat_tests)

older_test : (i g : ℕ) → i ≤ g → (nat_le 1 i && nat_le i (g + 1)) ≡ (nat_le 1 i && nat_le i g)
older_test i g le = grind (arith, nat_tests)

module _ (sealed signed : List ℕ → List ℕ → List ℕ) (hashed : List ℕ → List ℕ) (seed : List ℕ) (names : Names) (old new : Held) (c : Back) (by moment : ℕ) (a : Action) (who : ℕ)
    (before : FolderStands sealed signed hashed seed names old c) (after : FolderStands sealed signed hashed seed names new (rekeyed_by names by moment a who ∷ c)) where
  role_of : (d : ℕ) → role_in (rekeyed_by names by moment a who ∷ c) d ≡ cond (nat_eq d who) (role_after a) (role_in c d)
  role_of d = role_next (rekeyed_by names by moment a who) c d

  generation_of : generation_in (rekeyed_by names by moment a who ∷ c) ≡ generation_after a (generation_in c)
  generation_of = gen_next (rekeyed_by names by moment a who) c

  own_role : role_in (rekeyed_by names by moment a who ∷ c) who ≡ role_after a
  own_role = role_of who ∙ ap (λ b. cond b (role_after a) (role_in c who)) (eq-eqb who who refl)

  other_role : (d : ℕ) → (d ≡ who → ⊥) → role_in (rekeyed_by names by moment a who ∷ c) d ≡ role_in c d
  other_role d off = role_of d ∙ ap (λ b. cond b (role_after a) (role_in c d)) (not_same d who off)

  -- a member's half of a generation up to the last
  half_is : (d g : ℕ) → is_some (role_in (rekeyed_by names by moment a who ∷ c) d) ≡ true → 1 ≤ g → g ≤ generation_in (rekeyed_by names by moment a who ∷ c) → half_at new.halves d g ≡ Some (server_half seed d g)
  half_is d g some low high =
      after.halves d g ∙ ap (λ b. cond (b && (nat_le 1 g && nat_le g (generation_in (rekeyed_by names by moment a who ∷ c)))) (Some (server_half seed d g)) None) some
      ∙ ap (λ b. cond b (Some (server_half seed d g)) None) (within_test g (generation_in (rekeyed_by names by moment a who ∷ c)) low high)

  -- where a place is among those of the last revision, its key is got
  gets : (d g : ℕ) → is_among d g (places_of (rekeyed_by names by moment a who ∷ c)) ≡ true → half_at new.halves d g ≡ Some (server_half seed d g) → GetsKey sealed seed new d g
  gets d g among half = of new.revisions refl after.stands
    where
      of : (bs : Revisions) → new.revisions ≡ bs → Stands sealed signed hashed seed names new.state.registered (get new.blocks) bs (rekeyed_by names by moment a who ∷ c) → GetsKey sealed seed new d g
      of [] e h = absurd h
      of (t ∷ bs) e h =
          let p = spelled_places sealed signed seed names bs c t (rekeyed_by names by moment a who) h.1.spells in
          record {
            revision = p.revision;
            older = bs;
            last = e ∙ ap (λ z. z ∷ bs) p.spelled;
            is = p.is;
            entry = subst (λ (es : List Entry). HasKey sealed seed d g (folder_key seed g) es) (sym p.entries) (gives sealed seed (places_of (rekeyed_by names by moment a who ∷ c)) d g among);
            half = half;
          }

pub began : (sealed signed : List ℕ → List ℕ → List ℕ) (hashed : List ℕ → List ℕ) (seed : List ℕ) (names : Names) (new : Held) (by moment : ℕ) → FolderStands sealed signed hashed seed names new (founded_by names by moment ∷ []) → Began sealed signed hashed seed new names by moment
began sealed signed hashed seed names new by moment after = record {
  role = own;
  generation = one;
  key = key new.revisions refl after.stands;
  others = λ d off. (
    other d off,
    λ g. after.halves d g ∙ ap (λ (o : Option Role). cond (is_some o && (nat_le 1 g && nat_le g (generation_in (founded_by names by moment ∷ [])))) (Some (server_half seed d g)) None) (other d off),
  );
}
  where
    role_of : (d : ℕ) → role_in (founded_by names by moment ∷ []) d ≡ cond (nat_eq d by) (Some Writer) None
    role_of d = role_next (founded_by names by moment) [] d

    own : role_in (founded_by names by moment ∷ []) by ≡ Some Writer
    own = role_of by ∙ ap (λ b. cond b (Some Writer) None) (eq-eqb by by refl)

    other : (d : ℕ) → (d ≡ by → ⊥) → role_in (founded_by names by moment ∷ []) d ≡ None
    other d off = role_of d ∙ ap (λ b. cond b (Some Writer) None) (not_same d by off)

    one : generation_in (founded_by names by moment ∷ []) ≡ 1
    one = gen_next (founded_by names by moment) []

    half : half_at new.halves by 1 ≡ Some (server_half seed by 1)
    half = after.halves by 1 ∙ (λ i. cond (is_some (own i) && (nat_le 1 1 && nat_le 1 (one i))) (Some (server_half seed by 1)) None)

    among : is_among by 1 (places_of (founded_by names by moment ∷ [])) ≡ true
    among = ap (λ b. b && true || false) (eq-eqb by by refl)

    key : (bs : Revisions) → new.revisions ≡ bs → Stands sealed signed hashed seed names new.state.registered (get new.blocks) bs (founded_by names by moment ∷ []) → GetsKey sealed seed new by 1
    key [] e h = absurd h
    key (t ∷ bs) e h =
        let p = spelled_places sealed signed seed names bs [] t (founded_by names by moment) h.1.spells in
        record {
          revision = p.revision;
          older = bs;
          last = e ∙ ap (λ z. z ∷ bs) p.spelled;
          is = p.is;
          entry = subst (λ (es : List Entry). HasKey sealed seed by 1 (folder_key seed 1) es) (sym p.entries) (gives sealed seed (places_of (founded_by names by moment ∷ [])) by 1 among);
          half = half;
        }

pub granted : (sealed signed : List ℕ → List ℕ → List ℕ) (hashed : List ℕ → List ℕ) (seed : List ℕ) (names : Names) (old new : Held) (c : Back) (by moment : ℕ) (a : Action) (who : ℕ) → IsGrant a → FolderStands sealed signed hashed seed names old c
    → FolderStands sealed signed hashed seed names new (rekeyed_by names by moment a who ∷ c) → Granted sealed signed hashed seed old new c names by moment a who
granted sealed signed hashed seed names old new c by moment a who is before after = record {
  role = own_role sealed signed hashed seed names old new c by moment a who before after;
  generation = same;
  keys = λ g low high. gets sealed signed hashed seed names old new c by moment a who before after who g (among g low high) (half_is sealed signed hashed seed names old new c by moment a who before after who g some low (subst (λ n. g ≤ n) (sym same) high));
  others = λ d off. (
    other_role sealed signed hashed seed names old new c by moment a who before after d off,
    λ g. after.halves d g ∙ (λ i. cond (is_some (other_role sealed signed hashed seed names old new c by moment a who before after d off i) && (nat_le 1 g && nat_le g (same i))) (Some (server_half seed d g)) None) ∙ sym (before.halves d g),
  );
}
  where
    same : generation_in (rekeyed_by names by moment a who ∷ c) ≡ generation_in c
    same = generation_of sealed signed hashed seed names old new c by moment a who before after ∙ grant_keeps a (generation_in c) is

    some : is_some (role_in (rekeyed_by names by moment a who ∷ c) who) ≡ true
    some = ap (λ (o : Option Role). is_some o) (own_role sealed signed hashed seed names old new c by moment a who before after) ∙ grant_some a is

    places : (a : Action) → IsGrant a → places_of (rekeyed_by names by moment a who ∷ c) ≡ map (λ i. (who, i)) (range_with_len 1 (generation_in c))
    places action.Found h = absurd h
    places action.GrantWriter h = places_next (rekeyed_by names by moment action.GrantWriter who) c
    places action.GrantReader h = places_next (rekeyed_by names by moment action.GrantReader who) c
    places action.Revoke h = absurd h

    among : (g : ℕ) → 1 ≤ g → g ≤ generation_in c → is_among who g (places_of (rekeyed_by names by moment a who ∷ c)) ≡ true
    among g low high =
        ap (is_among who g) (places a is) ∙ among_granted who g who 1 (generation_in c)
        ∙ both (nat_eq who who) (nat_le 1 g && nat_lt g (1 + generation_in c)) (eq-eqb who who refl) (range_test g (generation_in c) low high)

pub revoked : (sealed signed : List ℕ → List ℕ → List ℕ) (hashed : List ℕ → List ℕ) (seed : List ℕ) (names : Names) (old new : Held) (c : Back) (by moment who : ℕ) → FolderStands sealed signed hashed seed names old c
    → FolderStands sealed signed hashed seed names new (rekeyed_by names by moment action.Revoke who ∷ c) → Revoked sealed signed hashed seed old new c names by moment who
revoked sealed signed hashed seed names old new c by moment who before after = record {
  role = own;
  generation = next;
  halves = λ g. after.halves who g ∙ ap (λ (o : Option Role). cond (is_some o && (nat_le 1 g && nat_le g (generation_in (rekeyed_by names by moment action.Revoke who ∷ c)))) (Some (server_half seed who g)) None) own;
  keys = λ d off some. gets sealed signed hashed seed names old new c by moment action.Revoke who before after d (generation_in c + 1) (among d off some)
      (half_is sealed signed hashed seed names old new c by moment action.Revoke who before after d (generation_in c + 1) (ap (λ (o : Option Role). is_some o) (others d off) ∙ some) (omega arith) (subst (λ n. generation_in c + 1 ≤ n) (sym next) (omega arith)));
  others = λ d off. (
    others d off,
    λ g le. after.halves d g ∙ (λ i. cond (is_some (others d off i) && (nat_le 1 g && nat_le g (next i))) (Some (server_half seed d g)) None)
        ∙ ap (λ b. cond (is_some (role_in c d) && b) (Some (server_half seed d g)) None) (older_test g (generation_in c) le) ∙ sym (before.halves d g),
  );
}
  where
    own : role_in (rekeyed_by names by moment action.Revoke who ∷ c) who ≡ None
    own = own_role sealed signed hashed seed names old new c by moment action.Revoke who before after

    others : (d : ℕ) → (d ≡ who → ⊥) → role_in (rekeyed_by names by moment action.Revoke who ∷ c) d ≡ role_in c d
    others d off = other_role sealed signed hashed seed names old new c by moment action.Revoke who before after d off

    next : generation_in (rekeyed_by names by moment action.Revoke who ∷ c) ≡ generation_in c + 1
    next = generation_of sealed signed hashed seed names old new c by moment action.Revoke who before after

    in_range : (d : ℕ) → (1 ≤ d) × (d ≤ 32) → (nat_le 1 d && nat_lt d (1 + 32)) ≡ true
    in_range d h = let low = h.0 in let high = h.1 in grind (arith, nat_tests)

    among : (d : ℕ) → (d ≡ who → ⊥) → IsSome (role_in c d) → is_among d (generation_in c + 1) (places_of (rekeyed_by names by moment action.Revoke who ∷ c)) ≡ true
    among d off some =
        let stays : is_some (cond (nat_eq d who) None (role_in c d)) ≡ true = ap (λ b. is_some (cond b None (role_in c d))) (not_same d who off) ∙ some in
        ap (is_among d (generation_in c + 1)) (places_next (rekeyed_by names by moment action.Revoke who) c)
        ∙ among_kept d (generation_in c + 1) (generation_in c + 1) (λ q. is_some (cond (nat_eq q who) None (role_in c q))) 1 32
        ∙ both (nat_eq (generation_in c + 1) (generation_in c + 1)) _ (eq-eqb (generation_in c + 1) (generation_in c + 1) refl)
        (both (is_some (cond (nat_eq d who) None (role_in c d))) _ stays (in_range d (few_members sealed signed hashed seed names old c before d some)))
