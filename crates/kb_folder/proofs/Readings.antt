-- What a member reads.
use Rattle.std.proofs.Common.{◌≡◌, ℕ, zero, suc, ◌+◌, ◌<◌, ◌≤◌, Bool, true, false, cond, List, [], ◌∷◌, ◌++◌, length, map, Option, Some, None, refl, sym, ap, subst, ◌∙◌, arith}
use Rattle.std.specs.Prelude.{◌&&◌, ◌||◌, nat_le, nat_lt, nat_eq, reverse, slice_get, IsSome, is_some}
use Rattle.std.specs.List.{range_with_len}
use Rattle.std.proofs.lemmas.List.{reverse-append, length-reverse}
use Rattle.std.proofs.lemmas.List.Folds.{list_any-append}
use Rattle.std.proofs.lemmas.Bool.{eqb-true, eq-eqb}
use Rattle.std.proofs.lemmas.Bool.Decides.{nat_tests}
use Rattle.kb_ops.specs.Trees.{Tree}
use Rattle.kb_keys.specs.declared.policy.Role.{Role}
use Rattle.kb_keys.specs.declared.policy.Role.TheVariants.{Writer}
use Rattle.kb_keys.specs.declared.policy.Action.TheVariants as action
use Rattle.kb_keys.specs.Rings as rings
use Rattle.kb_keys.specs.Rings.{key_at}
use Rattle.kb_keys.specs.Policies.{role_after}
use Rattle.kb_keys.specs.Secrets.{folder_key}
use Rattle.kb_blocks.specs.declared.pointer.Ptr.{Ptr}
use Rattle.kb_files.specs.Opens.{Blocks, Opens}
use Rattle.kb_snap.specs.Holds.{HoldsTree}
use Rattle.kb_snap.proofs.Kept.{row_within}
use Rattle.kb_snap.specs.Chains.{Deed}
use Rattle.kb_snap.specs.Members.{generation_by}
use Rattle.kb_folder.specs.Chains.{Back, Names, Place, places_of, places_by, members, role_in, generation_in}
use Rattle.kb_folder.proofs.Behind.{MayWrite, FitsBehind, fits_behind, may_follow}
use Rattle.kb_folder.proofs.Turning.{role_by, role_next, gen_next, gen_at_next, places_next, older_tree}
use Rattle.kb_snap.specs.Chains.Deed.{Founded, Stepped, Merged, Rekeyed}
use Rattle.kb_folder.specs.Stands.{Stands, keys_to}
use Rattle.kb_folder.specs.Reading.{IsChain, generation_at, places_behind, is_among, RingHas, StandsAt}
use Rattle.kb_folder.proofs.Halves.{among_granted, among_kept, first_of, second_of}

-- ---- rings

le_is : (a b : ℕ) → nat_le a b ≡ true → a ≤ b
le_is a b h = grind (arith, nat_tests)

ring_key : (seed : List ℕ) (g : ℕ) (ring : rings.Keys) → RingHas seed g ring → (i : ℕ) (k : List ℕ) → keys_to seed g i ≡ Some k → key_at ring i ≡ Some k
ring_key seed g ring has i k = elim (nat_le 1 i && nat_le i g) as (λ b. (nat_le 1 i && nat_le i g) ≡ b → cond b (Some (folder_key seed i)) None ≡ Some k → key_at ring i ≡ Some k) [
  | true ↦ λ e h. has i (le_is 1 i (first_of (nat_le 1 i) (nat_le i g) e)) (le_is i g (second_of (nat_le 1 i) (nat_le i g) e)) ∙ h
  | false ↦ λ e h. cc
] refl

-- What is held by blocks of these generations is held under a ring that has their keys.
pub ring_holds : (sealed : List ℕ → List ℕ → List ℕ) (hashed : List ℕ → List ℕ) (seed : List ℕ) (g : ℕ) (ring : rings.Keys) → RingHas seed g ring → (blocks : Blocks) (p : Ptr) (m : ℕ) (t : Tree)
    → HoldsTree (Opens sealed hashed blocks (keys_to seed g)) p m t → HoldsTree (Opens sealed hashed blocks (key_at ring)) p m t
ring_holds sealed hashed seed g ring has blocks p m t h = record {
  formed = h.formed;
  timed = h.timed;
  held = row_within (Opens sealed hashed blocks (keys_to seed g)) (Opens sealed hashed blocks (key_at ring)) (λ q text o. record { key = o.key; known = ring_key seed g ring has q.generation o.key o.known; stored = o.stored; hash = o.hash }) _ _ _ h.held;
}

-- ---- the keys of a member

module _ (registered : ℕ) (top : registered ≤ 32) where
  one_of : (d who : ℕ) (role before : Option Role) → (1 ≤ who) × (who ≤ registered) → (IsSome before → (1 ≤ d) × (d ≤ 32)) → IsSome (cond (nat_eq d who) role before) → (1 ≤ d) × (d ≤ 32)
  one_of d who role before within older = elim (nat_eq d who) as (λ b. nat_eq d who ≡ b → IsSome (cond b role before) → (1 ≤ d) × (d ≤ 32)) [
    | true ↦ λ e h. let same : d ≡ who = eqb-true d who e in let low = within.0 in let high = within.1 in (omega (arith, same, low), omega (arith, same, high, top))
    | false ↦ λ e h. older h
  ] refl

  few_by : (c : Back) (w m : ℕ) (deed : Deed) → FitsBehind registered c m deed → MayWrite registered c w → (d : ℕ) → (IsSome (role_in c d) → (1 ≤ d) × (d ≤ 32)) → IsSome (role_by w deed d (role_in c d)) → (1 ≤ d) × (d ≤ 32)
  few_by [] w m Founded f a d older some = one_of d w (Some Writer) None a older some
  few_by [] w m (Stepped ops) f a d older some = older some
  few_by [] w m (Merged base rule ops) f a d older some = older some
  few_by [] w m (Rekeyed act who) f a d older some = absurd f
  few_by (y ∷ c) w m Founded f a d older some = absurd f
  few_by (y ∷ c) w m (Stepped ops) f a d older some = older some
  few_by (y ∷ c) w m (Merged base rule ops) f a d older some = older some
  few_by (y ∷ c) w m (Rekeyed action.Found who) f a d older some = absurd f
  few_by (y ∷ c) w m (Rekeyed action.GrantWriter who) f a d older some = one_of d who _ (role_in (y ∷ c) d) (f.0, f.1) older some
  few_by (y ∷ c) w m (Rekeyed action.GrantReader who) f a d older some = one_of d who _ (role_in (y ∷ c) d) (f.0, f.1) older some
  few_by (y ∷ c) w m (Rekeyed action.Revoke who) f a d older some = gone (nat_eq d who) some
    where
      gone : (b : Bool) → IsSome (cond b (role_after action.Revoke) (role_in (y ∷ c) d)) → (1 ≤ d) × (d ≤ 32)
      gone true h = cc
      gone false h = older h

  members_few : (c : Back) → IsChain registered c → (d : ℕ) → IsSome (role_in c d) → (1 ≤ d) × (d ≤ 32)
  members_few [] h d some = cc
  members_few (x ∷ c) h d some = few_by c x.writer x.moment x.deed (fits_behind registered c x (members_few c h.0) h.1) (may_follow registered c x h.1) d (members_few c h.0 d) (subst (λ (o : Option Role). IsSome o) (role_next x c d) some)

  no_or : (a b : Bool) → a ≡ true → (a || b) ≡ true
  no_or true b e = refl
  no_or false b e = cc

  or_so : (a b : Bool) → b ≡ true → (a || b) ≡ true
  or_so true b e = refl
  or_so false b e = e

  all_three : (a b e : Bool) → a ≡ true → b ≡ true → e ≡ true → (a && (b && e)) ≡ true
  all_three true true true p q r = refl
  all_three true true false p q r = cc
  all_three true false e p q r = cc
  all_three false b e p q r = cc

  both : (a b : Bool) → a ≡ true → b ≡ true → (a && b) ≡ true
  both true true p q = refl
  both true false p q = cc
  both false b p q = cc

  -- a founder's place
  at_first : (w d g : ℕ) → IsSome (cond (nat_eq d w) (Some Writer) (let none : Option Role = None in none)) → 0 < g → g ≤ 1 → is_among d g ((w, 1) ∷ []) ≡ true
  at_first w d g some low high = elim (nat_eq d w) as (λ b. nat_eq d w ≡ b → IsSome (cond b (Some Writer) (let none : Option Role = None in none)) → is_among d g ((w, 1) ∷ []) ≡ true) [
    | true ↦ λ e h. no_or (nat_eq w d && nat_eq 1 g) false (both (nat_eq w d) (nat_eq 1 g) (eq-eqb w d (sym (eqb-true d w e))) (eq-eqb 1 g (omega (arith, low, high))))
    | false ↦ λ e h. cc
  ] refl some

  -- a granted device has a place at each generation
  at_grant : (d g who last : ℕ) → nat_eq d who ≡ true → 0 < g → g ≤ last → is_among d g (map (λ i. (who, i)) (range_with_len 1 last)) ≡ true
  at_grant d g who last e low high =
      let same : who ≡ d = sym (eqb-true d who e) in
      among_granted d g who 1 last ∙ all_three (nat_eq who d) (nat_le 1 g) (nat_lt g (1 + last)) (eq-eqb who d same) (grind (arith, nat_tests)) (grind (arith, nat_tests))

  -- one that remains has a place at the new generation
  at_revocation : (d g who last : ℕ) (before : ℕ → Option Role) → nat_eq d who ≡ false → IsSome (before d) → (1 ≤ d) × (d ≤ 32) → last + 1 ≡ g
      → is_among d g (map (λ m. (m, last + 1)) (members (λ q. cond (nat_eq q who) None (before q)))) ≡ true
  at_revocation d g who last before other some few now =
      let low = few.0 in let high = few.1 in
      among_kept d g (last + 1) (λ q. is_some (cond (nat_eq q who) None (before q))) 1 32
      ∙ both (nat_eq (last + 1) g) (is_some (cond (nat_eq d who) None (before d)) && (nat_le 1 d && nat_lt d (1 + 32))) (eq-eqb (last + 1) g now)
      (all_three (is_some (cond (nat_eq d who) None (before d))) (nat_le 1 d) (nat_lt d (1 + 32)) (ap (λ b. is_some (cond b None (before d))) other ∙ some) (grind (arith, nat_tests)) (grind (arith, nat_tests)))

  -- a member after the last revision has its place there, or had it before
  placed : (c : Back) → IsChain registered c → (w m : ℕ) (deed : Deed) → FitsBehind registered c m deed → (n d g : ℕ) → IsSome (role_by w deed d (role_in c d)) → 0 < g → generation_at n c < g → g ≤ generation_by deed (generation_in c)
      → (IsSome (role_in c d) → g ≤ generation_in c → is_among d g (places_behind n c) ≡ true)
      → (is_among d g (places_behind n c) || is_among d g (places_by (λ q. role_by w deed q (role_in c q)) (generation_by deed (generation_in c)) w deed)) ≡ true
  placed [] ch w m Founded f n d g some pos low high older = or_so (is_among d g (places_behind n [])) _ (at_first w d g some pos high)
  placed (y ∷ c) ch w m Founded f n d g some pos low high older = absurd f
  placed c ch w m (Stepped ops) f n d g some pos low high older = no_or (is_among d g (places_behind n c)) _ (older some high)
  placed c ch w m (Merged base rule ops) f n d g some pos low high older = no_or (is_among d g (places_behind n c)) _ (older some high)
  placed [] ch w m (Rekeyed a who) f n d g some pos low high older = absurd f
  placed (y ∷ c) ch w m (Rekeyed action.Found who) f n d g some pos low high older = absurd f
  placed (y ∷ c) ch w m (Rekeyed action.GrantWriter who) f n d g some pos low high older =
      elim (nat_eq d who) as (λ b. nat_eq d who ≡ b → IsSome (cond b (Some Writer) (role_in (y ∷ c) d)) → (is_among d g (places_behind n (y ∷ c)) || is_among d g (map (λ i. (who, i)) (range_with_len 1 (generation_in (y ∷ c))))) ≡ true) [
        | true ↦ λ e h. or_so (is_among d g (places_behind n (y ∷ c))) _ (at_grant d g who (generation_in (y ∷ c)) e pos high)
        | false ↦ λ e h. no_or (is_among d g (places_behind n (y ∷ c))) _ (older h high)
      ] refl some
  placed (y ∷ c) ch w m (Rekeyed action.GrantReader who) f n d g some pos low high older =
      elim (nat_eq d who) as (λ b. nat_eq d who ≡ b → IsSome (cond b (role_after action.GrantReader) (role_in (y ∷ c) d)) → (is_among d g (places_behind n (y ∷ c)) || is_among d g (map (λ i. (who, i)) (range_with_len 1 (generation_in (y ∷ c))))) ≡ true) [
        | true ↦ λ e h. or_so (is_among d g (places_behind n (y ∷ c))) _ (at_grant d g who (generation_in (y ∷ c)) e pos high)
        | false ↦ λ e h. no_or (is_among d g (places_behind n (y ∷ c))) _ (older h high)
      ] refl some
  placed (y ∷ c) ch w m (Rekeyed action.Revoke who) f n d g some pos low high older =
      elim (nat_eq d who) as (λ b. nat_eq d who ≡ b → IsSome (cond b None (role_in (y ∷ c) d)) → (is_among d g (places_behind n (y ∷ c)) || is_among d g (map (λ m. (m, generation_in (y ∷ c) + 1)) (members (λ q. cond (nat_eq q who) None (role_in (y ∷ c) q))))) ≡ true) [
        | true ↦ λ e h. cc
        | false ↦ λ e h. elim (nat_le g (generation_in (y ∷ c))) as (λ b. nat_le g (generation_in (y ∷ c)) ≡ b → (is_among d g (places_behind n (y ∷ c)) || is_among d g (map (λ m. (m, generation_in (y ∷ c) + 1)) (members (λ q. cond (nat_eq q who) None (role_in (y ∷ c) q))))) ≡ true) [
          | true ↦ λ k. no_or (is_among d g (places_behind n (y ∷ c))) _ (older h (le_is g (generation_in (y ∷ c)) k))
          | false ↦ λ k. or_so (is_among d g (places_behind n (y ∷ c))) _ (at_revocation d g who (generation_in (y ∷ c)) (role_in (y ∷ c)) e h (members_few (y ∷ c) ch d h) (newest g (generation_in (y ∷ c)) k high))
        ] refl
      ] refl some
    where
      newest : (g last : ℕ) → nat_le g last ≡ false → g ≤ last + 1 → last + 1 ≡ g
      newest g last k h = let above : last < g = grind (arith, nat_tests) in omega (arith, above, h)

  -- A member after the chain has a place at each generation that came behind the first n revisions.
  pub covered : (c : Back) → IsChain registered c → (n d g : ℕ) → IsSome (role_in c d) → 0 < g → generation_at n c < g → g ≤ generation_in c → is_among d g (places_behind n c) ≡ true
  covered [] ch n d g some pos low high = cc
  covered (x ∷ c) ch n d g some pos low high = elim (nat_le n (length c)) as (λ b. cond b (generation_at n c) (generation_in (x ∷ c)) < g → is_among d g (cond b (places_behind n c ++ places_of (x ∷ c)) []) ≡ true) [
    | true ↦ λ l. list_any-append (λ (p : Place). nat_eq p.0 d && nat_eq p.1 g) (places_behind n c) (places_of (x ∷ c))
        ∙ ap (λ ps. is_among d g (places_behind n c) || is_among d g ps) (places_next x c)
        ∙ placed c ch.0 x.writer x.moment x.deed (fits_behind registered c x (members_few c ch.0) ch.1) n d g (subst (λ (o : Option Role). IsSome o) (role_next x c d) some) pos l (subst (λ k. g ≤ k) (gen_next x c) high) (λ s h. covered c ch.0 n d g s pos l h)
    | false ↦ λ l. absurd (omega (arith, l, high))
  ] (subst (λ k. k < g) (gen_at_next n x c) low)

-- ---- one revision

pub chain_of : (sealed signed : List ℕ → List ℕ → List ℕ) (hashed : List ℕ → List ℕ) (seed : List ℕ) (names : Names) (registered : ℕ) (blocks : Blocks) (bs : List (List ℕ)) (c : Back) → Stands sealed signed hashed seed names registered blocks bs c → IsChain registered c
chain_of sealed signed hashed seed names registered blocks [] [] h = tt
chain_of sealed signed hashed seed names registered blocks [] (x ∷ c) h = absurd h
chain_of sealed signed hashed seed names registered blocks (b ∷ bs) [] h = absurd h
chain_of sealed signed hashed seed names registered blocks (b ∷ bs) (x ∷ c) h = (chain_of sealed signed hashed seed names registered blocks bs c h.0, h.2)

get_front : (xs ys : List (List ℕ)) (r : ℕ) → r < length xs → slice_get (xs ++ ys) r ≡ slice_get xs r
get_front [] ys r h = absurd (omega arith)
get_front (x ∷ xs) ys zero h = refl
get_front (x ∷ xs) ys (suc r) h = get_front xs ys r (omega arith)

get_last : (xs : List (List ℕ)) (y : List ℕ) (r : ℕ) → r ≡ length xs → slice_get (xs ++ y ∷ []) r ≡ Some y
get_last [] y zero h = refl
get_last [] y (suc r) h = absurd (omega (arith, h))
get_last (x ∷ xs) y zero h = absurd (omega (arith, h))
get_last (x ∷ xs) y (suc r) h = get_last xs y r (omega (arith, h))

module _ (sealed signed : List ℕ → List ℕ → List ℕ) (hashed : List ℕ → List ℕ) (seed : List ℕ) (names : Names) (registered : ℕ) (blocks : Blocks) where
  -- each of the revisions stands by its own bytes
  pub stands_at : (bs : List (List ℕ)) (c : Back) → Stands sealed signed hashed seed names registered blocks bs c → (r : ℕ) → r < length bs → StandsAt sealed signed hashed seed names registered blocks bs c r
  stands_at [] [] h r low = absurd (omega arith)
  stands_at [] (x ∷ c) h r low = absurd h
  stands_at (b ∷ bs) [] h r low = absurd h
  stands_at (b ∷ bs) (x ∷ c) h r low = elim (nat_lt r (length bs)) as (λ z. nat_lt r (length bs) ≡ z → StandsAt sealed signed hashed seed names registered blocks (b ∷ bs) (x ∷ c) r) [
    | true ↦ λ e. further (stands_at bs c h.0 r (lt_is r (length bs) e)) (lt_is r (length bs) e)
    | false ↦ λ e.
        let here : r ≡ length bs = grind (arith, nat_tests, low) in
        let size : length bs ≡ length c = lengths bs c h.0 in
        record { bytes = b; plain = x; older_bytes = bs; older = c; there = ap (λ l. slice_get l r) (reverse-append (b ∷ []) bs) ∙ get_last (reverse bs) b r (here ∙ sym (length-reverse bs)); front = h; size = sym size ∙ sym here; trees = λ k le. refl }
  ] refl
    where
      lt_is : (a b : ℕ) → nat_lt a b ≡ true → a < b
      lt_is a b h = grind (arith, nat_tests)

      lengths : (bs : List (List ℕ)) (c : Back) → Stands sealed signed hashed seed names registered blocks bs c → length bs ≡ length c
      lengths [] [] h = refl
      lengths [] (x ∷ c) h = absurd h
      lengths (b ∷ bs) [] h = absurd h
      lengths (b ∷ bs) (x ∷ c) h = ap suc (lengths bs c h.0)

      further : StandsAt sealed signed hashed seed names registered blocks bs c r → r < length bs → StandsAt sealed signed hashed seed names registered blocks (b ∷ bs) (x ∷ c) r
      further s lt = record {
        bytes = s.bytes;
        plain = s.plain;
        older_bytes = s.older_bytes;
        older = s.older;
        there = ap (λ l. slice_get l r) (reverse-append (b ∷ []) bs) ∙ get_front (reverse bs) (b ∷ []) r (subst (λ n. r < n) (sym (length-reverse bs)) lt) ∙ s.there;
        front = s.front;
        size = s.size;
        trees = λ k le. older_tree x c k (let size = lengths bs c h.0 in omega (arith, size, lt, le)) ∙ s.trees k le;
      }
