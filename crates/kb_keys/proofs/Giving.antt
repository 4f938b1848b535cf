-- What is found among entries that were made.
use Rattle.std.proofs.Common.{◌≡◌, ℕ, ◌<◌, true, false, cond, List, [], ◌∷◌, ◌++◌, map, Some, None, refl, ap, sym, subst, ◌∙◌, arith}
use Rattle.std.specs.Prelude.{nat_eq, ◌&&◌, ◌||◌}
use Rattle.std.specs.List.{find, list_any}
use Rattle.std.specs.Option.{option_map, unwrap_or}
use Rattle.std.specs.Ordering.{nat_cmp, is_eq}
use Rattle.std.proofs.lemmas.Bool.{eqb-true, eq-eqb}
use Rattle.std.proofs.lemmas.Bool.Decides.{nat_tests}
use Rattle.kb_keys.specs.declared.entries.Entry.{Entry}
use Rattle.kb_keys.specs.Secrets.{folder_key}
use Rattle.kb_keys.specs.Bundles.{is_entry, sealed_at, last_generation, made_entry}
use Rattle.kb_keys.specs.Rings.{Keys, key_at}
use Rattle.kb_keys.specs.Laws.{HasKey, RotatedGive, AddedGive}

later : (d g : ℕ) (e : Entry) → e.generation < g → is_entry d g e ≡ false
later d g e lt = grind (arith, nat_tests)

same_test : (g q : ℕ) → is_eq (nat_cmp g q) ≡ nat_eq q g
same_test g q = grind (arith, nat_tests)

some_is : (x y : List ℕ) → Some x ≡ Some y → x ≡ y
some_is x y e = ap (λ o. unwrap_or o x) e

-- no entry of an older generation is found
behind : (d g : ℕ) (old new : List Entry) → last_generation old < g → find (is_entry d g) (old ++ new) ≡ find (is_entry d g) new
behind d g [] new lt = refl
behind d g (e ∷ es) new lt =
    ap (λ b. cond b (Some e) (find (is_entry d g) (es ++ new))) (later d g e (omega arith)) ∙ behind d g es new (omega arith)

-- where nothing is found, what was put behind is looked through
behind_none : (d g : ℕ) (old new : List Entry) → sealed_at d g old ≡ None → sealed_at d g (old ++ new) ≡ sealed_at d g new
behind_none d g [] new none = refl
behind_none d g (e ∷ es) new none =
    elim (is_entry d g e) as (λ b. option_map (λ (x : Entry). x.sealed) (cond b (Some e) (find (is_entry d g) es)) ≡ None → option_map (λ (x : Entry). x.sealed) (cond b (Some e) (find (is_entry d g) (es ++ new))) ≡ sealed_at d g new) [
      | true ↦ λ h. cc
      | false ↦ λ h. behind_none d g es new h
    ] none

module _ (sealed : List ℕ → List ℕ → List ℕ) (seed : List ℕ) where
  of_members : (members : List ℕ) (d g : ℕ) (key : List ℕ) → list_any (nat_eq d) members ≡ true → HasKey sealed seed d g key (map (λ m. made_entry sealed seed m g key) members)
  of_members [] d g key none = cc
  of_members (m ∷ ms) d g key some =
      let same : nat_eq g g ≡ true = eq-eqb g g refl in
      elim (nat_eq d m) as (λ b. nat_eq d m ≡ b → (b || list_any (nat_eq d) ms) ≡ true → HasKey sealed seed d g key (map (λ m. made_entry sealed seed m g key) (m ∷ ms))) [
        | true ↦ λ e h.
            let at : d ≡ m = eqb-true d m e in
            let hit : is_entry d g (made_entry sealed seed m g key) ≡ true = ap (λ b. b && nat_eq g g) (eq-eqb m d (sym at)) ∙ same in
            ap (λ b. option_map (λ (x : Entry). x.sealed) (cond b (Some (made_entry sealed seed m g key)) (find (is_entry d g) (map (λ m. made_entry sealed seed m g key) ms)))) hit
            ∙ ap (λ n. Some (made_entry sealed seed n g key).sealed) (sym at)
        | false ↦ λ e h.
            let off : is_entry d g (made_entry sealed seed m g key) ≡ false = grind (arith, nat_tests) in
            ap (λ b. option_map (λ (x : Entry). x.sealed) (cond b (Some (made_entry sealed seed m g key)) (find (is_entry d g) (map (λ m. made_entry sealed seed m g key) ms)))) off
            ∙ of_members ms d g key h
      ] refl some

  of_ring : (ring : Keys) (d g : ℕ) (key : List ℕ) → key_at ring g ≡ Some key → HasKey sealed seed d g key (map (λ k. made_entry sealed seed d k.0 k.1) ring)
  of_ring [] d g key none = cc
  of_ring (k ∷ ks) d g key h =
      let made : List Entry = map (λ (k : ℕ × List ℕ). made_entry sealed seed d k.0 k.1) ks in
      elim (nat_eq k.0 g) as (λ b. nat_eq k.0 g ≡ b → HasKey sealed seed d g key (map (λ k. made_entry sealed seed d k.0 k.1) (k ∷ ks))) [
        | true ↦ λ e.
            let at : k.0 ≡ g = eqb-true k.0 g e in
            let is : k.1 ≡ key = some_is k.1 key (sym (ap (λ b. cond b (Some k.1) (key_at ks g)) (same_test g k.0 ∙ e)) ∙ h) in
            let hit : is_entry d g (made_entry sealed seed d k.0 k.1) ≡ true = ap (λ b. b && nat_eq k.0 g) (eq-eqb d d refl) ∙ e in
            ap (λ b. option_map (λ (x : Entry). x.sealed) (cond b (Some (made_entry sealed seed d k.0 k.1)) (find (is_entry d g) made))) hit
            ∙ ap (λ n. Some (made_entry sealed seed d n k.1).sealed) at
            ∙ ap (λ t. Some (made_entry sealed seed d g t).sealed) is
        | false ↦ λ e.
            let off : is_entry d g (made_entry sealed seed d k.0 k.1) ≡ false = ap (λ b. b && nat_eq k.0 g) (eq-eqb d d refl) ∙ e in
            ap (λ b. option_map (λ (x : Entry). x.sealed) (cond b (Some (made_entry sealed seed d k.0 k.1)) (find (is_entry d g) made))) off
            ∙ of_ring ks d g key (sym (ap (λ b. cond b (Some k.1) (key_at ks g)) (same_test g k.0 ∙ e)) ∙ h)
      ] refl

pub rotated_give : (sealed : List ℕ → List ℕ → List ℕ) → RotatedGive sealed
rotated_give sealed seed members old new d g r some =
    let made : List Entry = map (λ m. made_entry sealed seed m g (folder_key seed g)) members in
    let newer : last_generation old < g = omega (arith, r.1) in
    subst (HasKey sealed seed d g (folder_key seed g)) (sym r.2)
    (ap (option_map (λ (x : Entry). x.sealed)) (behind d g old made newer) ∙ of_members sealed seed members d g (folder_key seed g) some)

pub added_give : (sealed : List ℕ → List ℕ → List ℕ) → AddedGive sealed
added_give sealed seed ring old d g key none at =
    behind_none d g old (map (λ k. made_entry sealed seed d k.0 k.1) ring) none ∙ of_ring sealed seed ring d g key at
