-- The halves meet the tests exactly where they are those of the members.
use Rattle.std.proofs.Common.{◌≡◌, ℕ, ◌+◌, ◌≤◌, Bool, true, false, cond, List, [], ◌∷◌, Option, Some, None, refl, sym, ap, subst, ◌∙◌, arith}
use Rattle.std.specs.Prelude.{IsSome, is_some, nat_le, nat_eq, ◌&&◌}
use Rattle.std.specs.List.{AllByRecursion, find}
use Rattle.std.specs.Option.{option_map}
use Rattle.std.proofs.lemmas.Bool.{eqb-true, eq-eqb}
use Rattle.std.proofs.lemmas.Bool.Decides.{nat_tests}
use Rattle.kb_keys.specs.declared.policy.Role.{Role}
use Rattle.kb_keys.specs.declared.halves.Half.{Half}
use Rattle.kb_keys.specs.Halves.{half_at, is_half}
use Rattle.kb_keys.specs.Policies.{role_at}
use Rattle.kb_keys.specs.Secrets.{server_half}
use Rattle.kb_folder.specs.Chains.{Back, role_in, generation_in}
use Rattle.kb_folder.specs.Stands.{HalvesStand, PolicyStands}
use Rattle.kb_folder.proofs.Verdicts.{first_of, second_of}
use Rattle.kb_audit.specs.Halving.{Policy, IsDue, HasAll, HasDue, HaveAll, HalvesMeet}

le_is : (a b : ℕ) → nat_le a b ≡ true → a ≤ b
le_is a b h = grind (arith, nat_tests)

is_le : (a b : ℕ) → a ≤ b → nat_le a b ≡ true
is_le a b h = grind (arith, nat_tests)

both : (a b : Bool) → a ≡ true → b ≡ true → (a && b) ≡ true
both true true p q = refl
both true false p q = cc
both false b p q = cc

module _ (seed : List ℕ) (c : Back) (policy : Policy) (halves : List Half) (stands : PolicyStands c policy) (few : (d : ℕ) → IsSome (role_in c d) → (1 ≤ d) × (d ≤ 32)) where
  abbrev due : ℕ → ℕ → Bool
  due d g = is_some (role_in c d) && (nat_le 1 g && nat_le g (generation_in c))

  abbrev Due : Half → Type 0
  Due h = IsDue seed policy halves h.device h.generation

  is_due : (d g : ℕ) → IsDue seed policy halves d g → due d g ≡ true
  is_due d g h =
      both (is_some (role_in c d)) _ (subst (λ (o : Option Role). IsSome o) (stands.roles d) h.member)
      (both (nat_le 1 g) (nat_le g (generation_in c)) (is_le 1 g h.low) (is_le g (generation_in c) (subst (λ n. g ≤ n) stands.generation h.high)))

  due_is : (d g : ℕ) → due d g ≡ true → half_at halves d g ≡ Some (server_half seed d g) → IsDue seed policy halves d g
  due_is d g h at =
      let r = second_of (is_some (role_in c d)) (nat_le 1 g && nat_le g (generation_in c)) h in
      record {
        member = subst (λ (o : Option Role). IsSome o) (sym (stands.roles d)) (first_of (is_some (role_in c d)) (nat_le 1 g && nat_le g (generation_in c)) h);
        low = le_is 1 g (first_of (nat_le 1 g) (nat_le g (generation_in c)) r);
        high = subst (λ n. g ≤ n) (sym stands.generation) (le_is g (generation_in c) (second_of (nat_le 1 g) (nat_le g (generation_in c)) r));
        half = at;
      }

  -- where one of the list is of a device and a generation, that place is due
  place_due : (hs : List Half) (d g : ℕ) (v : List ℕ) → AllByRecursion Due hs → half_at hs d g ≡ Some v → IsDue seed policy halves d g
  place_due [] d g v all at = cc
  place_due (h ∷ hs) d g v all at = elim (is_half d g h) as (λ b. is_half d g h ≡ b → option_map (λ (z : Half). z.half) (cond b (Some h) (find (is_half d g) hs)) ≡ Some v → IsDue seed policy halves d g) [
    | true ↦ λ e k.
        let a : h.device ≡ d = eqb-true h.device d (first_of (nat_eq h.device d) (nat_eq h.generation g) e) in
        let b : h.generation ≡ g = eqb-true h.generation g (second_of (nat_eq h.device d) (nat_eq h.generation g) e) in
        subst (λ n. IsDue seed policy halves d n) b (subst (λ n. IsDue seed policy halves n h.generation) a all.0)
    | false ↦ λ e k. place_due hs d g v all.1 k
  ] refl at

  pub meets_stand : HalvesMeet seed policy halves → HalvesStand seed c halves
  meets_stand m d g = by (half_at halves d g) refl
    where
      missing : (d g : ℕ) → half_at halves d g ≡ None → due d g ≡ true → ⊥
      missing d g none h =
          let r = second_of (is_some (role_in c d)) (nat_le 1 g && nat_le g (generation_in c)) h in
          let member : IsSome (role_in c d) = first_of (is_some (role_in c d)) (nat_le 1 g && nat_le g (generation_in c)) h in
          let within = few d member in
          let there : IsSome (half_at halves d g) = m.1 d within.0 within.1 (subst (λ (o : Option Role). IsSome o) (sym (stands.roles d)) member) g
          (le_is 1 g (first_of (nat_le 1 g) (nat_le g (generation_in c)) r)) (subst (λ n. g ≤ n) (sym stands.generation) (le_is g (generation_in c) (second_of (nat_le 1 g) (nat_le g (generation_in c)) r))) in
          let bad : false ≡ true = ap (λ (o : Option (List ℕ)). is_some o) (sym none) ∙ there in
          cc

      by : (o : Option (List ℕ)) → half_at halves d g ≡ o → half_at halves d g ≡ cond (due d g) (Some (server_half seed d g)) None
      by (Some v) at = let it = place_due halves d g v m.0 at in it.half ∙ ap (λ b. cond b (Some (server_half seed d g)) None) (sym (is_due d g it))
      by None at = at ∙ elim (due d g) as (λ b. due d g ≡ b → None ≡ cond b (Some (server_half seed d g)) None) [ true ↦ λ e. absurd (missing d g at e) | false ↦ λ e. refl ] refl

  some_at : (b : Bool) (v w : List ℕ) → Some v ≡ cond b (Some w) None → (b ≡ true) × (v ≡ w)
  some_at true v w e = (refl, cc)
  some_at false v w e = cc

  -- the first of the list for this place is there
  there : (hs : List Half) (h : Half) → is_some (half_at (h ∷ hs) h.device h.generation) ≡ true
  there hs h = ap (λ b. is_some (option_map (λ (z : Half). z.half) (cond b (Some h) (find (is_half h.device h.generation) hs)))) (both (nat_eq h.device h.device) (nat_eq h.generation h.generation) (eq-eqb h.device h.device refl) (eq-eqb h.generation h.generation refl))

  more : (x h : Half) (hs : List Half) → is_some (half_at hs h.device h.generation) ≡ true → is_some (half_at (x ∷ hs) h.device h.generation) ≡ true
  more x h hs e = elim (is_half h.device h.generation x) as (λ b. is_some (option_map (λ (z : Half). z.half) (cond b (Some x) (find (is_half h.device h.generation) hs))) ≡ true) [ true ↦ refl | false ↦ e ]

  value_of : (o : Option (List ℕ)) → is_some o ≡ true → (v : List ℕ) × (o ≡ Some v)
  value_of (Some v) e = (v, refl)
  value_of None e = cc

  pub stand_meets : HalvesStand seed c halves → HalvesMeet seed policy halves
  stand_meets s = (all halves (λ h k. k), λ i low high member g one top. is_there i g member one top)
    where
      one_due : (d g : ℕ) → is_some (half_at halves d g) ≡ true → IsDue seed policy halves d g
      one_due d g e =
          let v = value_of (half_at halves d g) e in
          let k = some_at (due d g) v.0 (server_half seed d g) (sym v.1 ∙ s d g) in
          due_is d g k.0 (v.1 ∙ ap (λ w. Some w) k.1)

      all : (hs : List Half) → ((h : Half) → is_some (half_at hs h.device h.generation) ≡ true → is_some (half_at halves h.device h.generation) ≡ true) → AllByRecursion Due hs
      all [] into = tt
      all (x ∷ hs) into = (one_due x.device x.generation (into x (there hs x)), all hs (λ h e. into h (more x h hs e)))

      is_there : (d g : ℕ) → IsSome (role_at policy.0 d) → 1 ≤ g → g ≤ policy.1 → IsSome (half_at halves d g)
      is_there d g member one top =
          let h : due d g ≡ true = both (is_some (role_in c d)) _ (subst (λ (o : Option Role). IsSome o) (stands.roles d) member) (both (nat_le 1 g) (nat_le g (generation_in c)) (is_le 1 g one) (is_le g (generation_in c) (subst (λ n. g ≤ n) stands.generation top))) in
          ap (λ (o : Option (List ℕ)). is_some o) (s d g ∙ ap (λ b. cond b (Some (server_half seed d g)) None) h)
