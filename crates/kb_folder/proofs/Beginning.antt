-- A new folder, and one with one device more.
use Rattle.std.proofs.Common.{◌≡◌, ◌≢◌, ℕ, zero, suc, ◌+◌, ◌-◌, ◌<◌, ◌≤◌, true, false, cond, List, [], ◌∷◌, ◌++◌, length, replicate, Option, Some, None, refl, sym, ap, ◌∙◌, arith, length-append}
use Rattle.std.specs.Prelude.{nat_eq, slice_get, slice_index, IsSome}
use Rattle.std.specs.FinMap.{get, empty}
use Rattle.std.proofs.lemmas.Bool.{eqb-true}
use Rattle.std.proofs.lemmas.Bool.Decides.{nat_tests}
use Rattle.kb_keys.specs.declared.policy.Role.{Role}
use Rattle.kb_keys.specs.declared.halves.Half.{Half}
use Rattle.kb_keys.specs.Policies.{role_at}
use Rattle.kb_blocks.specs.Stores.{Blocks}
use Rattle.kb_chain.specs.Revisions.{no_hash}
use Rattle.kb_chain.specs.Checks.{Roles}
use Rattle.kb_keys.specs.Secrets.{device_secret}
use Rattle.kb_folder.specs.Chains.{Back, Names}
use Rattle.kb_folder.specs.Puts.{Held, IsSound, secret_at}
use Rattle.kb_folder.specs.Held.{empty_folder, registered_with}
use Rattle.kb_folder.specs.Lands.{FolderStands}
use Rattle.kb_folder.proofs.Registering.{registering}

no_role : (n d : ℕ) → role_at (replicate n None) d ≡ None
no_role zero zero = refl
no_role zero (suc d) = refl
no_role (suc n) zero = refl
no_role (suc n) (suc d) = no_role n d

no_seq : (n d : ℕ) → slice_index (replicate n 0) d ≡ 0
no_seq zero zero = refl
no_seq zero (suc d) = refl
no_seq (suc n) zero = refl
no_seq (suc n) (suc d) = no_seq n d

get_front : (xs ys : List (List ℕ)) (r : ℕ) → r < length xs → slice_get (xs ++ ys) r ≡ slice_get xs r
get_front [] ys r h = absurd (omega arith)
get_front (x ∷ xs) ys zero h = refl
get_front (x ∷ xs) ys (suc r) h = get_front xs ys r (omega arith)

get_last : (xs : List (List ℕ)) (y : List ℕ) (r : ℕ) → r ≡ length xs → slice_get (xs ++ y ∷ []) r ≡ Some y
get_last [] y zero h = refl
get_last [] y (suc r) h = absurd (omega (arith, h))
get_last (x ∷ xs) y zero h = absurd (omega (arith, h))
get_last (x ∷ xs) y (suc r) h = get_last xs y r (omega (arith, h))

none_is : (o : Option Role) → o ≡ None → IsSome o → ⊥
none_is None e some = cc
none_is (Some x) e some = cc

secret_in : (ss : List (List ℕ)) (d : ℕ) → secret_at ss (suc d) ≡ slice_get ss (suc d - 1)
secret_in ss d = let some : nat_eq (suc d) 0 ≡ false = grind (arith, nat_tests) in ap (λ b. cond b None (slice_get ss (suc d - 1))) some

pub empty_sound : (limit : ℕ) (revisions : List (List ℕ)) (blocks : Blocks) (halves : List Half) (secrets : List (List ℕ)) (policy : Roles × ℕ) → revisions ≡ [] → blocks ≡ empty → secrets ≡ [] → policy ≡ (replicate 33 None, 0) → 1 ≤ limit → limit ≤ 1000000
    → IsSound (record { revisions = revisions; blocks = blocks; halves = halves; secrets = secrets; state = record { length = 0; head = no_hash; policy = policy; registered = 0; last = replicate 33 0 }; limit = limit })
empty_sound limit revisions blocks halves secrets policy none bare nobody alone some few = record {
  limit = few;
  some = some;
  bare = λ e. bare;
  within = omega arith;
  counted = ap length none;
  registered = sym (ap length nobody);
  few = omega arith;
  members = λ d some. absurd (none_is (role_at policy.0 d) (ap (λ (p : Roles × ℕ). role_at p.0 d) alone ∙ no_role 33 d) some);
  generation = let h : policy.1 ≡ 0 = ap (λ (p : Roles × ℕ). p.1) alone in omega (arith, h);
  begins = λ e. ap (λ (p : Roles × ℕ). p.1) alone;
  last = λ d. let h = no_seq 33 d in omega (arith, h);
}

module _ (sealed signed : List ℕ → List ℕ → List ℕ) (hashed : List ℕ → List ℕ) (seed : List ℕ) (names : Names) where
  pub empty_stands : (limit : ℕ) → 1 ≤ limit → limit ≤ 1000000 → FolderStands sealed signed hashed seed names (empty_folder limit) []
  empty_stands limit some few = record {
    sound = empty_sound limit [] empty [] [] (replicate 33 None, 0) refl refl refl refl some few;
    stands = tt;
    head = refl;
    policy = record { roles = λ d. no_role 33 d; generation = refl };
    last = λ d. no_seq 33 d;
    halves = λ d g. refl;
    secrets = λ d low high. absurd (omega (arith, low, high));
  }

  secret_more : (secrets : List (List ℕ)) (n : ℕ) → n ≡ length secrets → ((d : ℕ) → 1 ≤ d → d ≤ n → secret_at secrets d ≡ Some (device_secret seed d)) → (d : ℕ) → 1 ≤ d → d ≤ n + 1 → secret_at (secrets ++ device_secret seed (n + 1) ∷ []) d ≡ Some (device_secret seed d)
  secret_more secrets n size old zero low high = absurd (omega (arith, low))
  secret_more secrets n size old (suc d) low high = secret_in (secrets ++ device_secret seed (n + 1) ∷ []) d ∙ elim (nat_eq d n) as (λ b. nat_eq d n ≡ b → slice_get (secrets ++ device_secret seed (n + 1) ∷ []) (suc d - 1) ≡ Some (device_secret seed (suc d))) [
    | true ↦ λ e.
        let same : d ≡ n = eqb-true d n e in
        let at : suc d - 1 ≡ length secrets = omega (arith, same, size) in
        let next : n + 1 ≡ suc d = omega (arith, same) in
        get_last secrets (device_secret seed (n + 1)) (suc d - 1) at ∙ ap (λ k. Some (device_secret seed k)) next
    | false ↦ λ e.
        let below : suc d - 1 < length secrets = below_is d n (length secrets) size high e in
        get_front secrets (device_secret seed (n + 1) ∷ []) (suc d - 1) below ∙ sym (secret_in secrets d) ∙ old (suc d) low (omega (arith, below, size))
  ] refl
    where
      below_is : (d n len : ℕ) → n ≡ len → suc d ≤ n + 1 → nat_eq d n ≡ false → suc d - 1 < len
      below_is d n len s h e = let off : d ≢ n = grind (arith, nat_tests) in omega (arith, off, h, s)

  pub registers : (f : Held) (c : Back) → FolderStands sealed signed hashed seed names f c → f.state.registered + 1 ≤ 32 → FolderStands sealed signed hashed seed names (registered_with f (device_secret seed (f.state.registered + 1))) c
  registers f c stands few = record {
    sound = record {
      limit = stands.sound.limit;
      some = stands.sound.some;
      bare = stands.sound.bare;
      within = stands.sound.within;
      counted = stands.sound.counted;
      registered = ap (λ n. n + 1) stands.sound.registered ∙ sym (length-append f.secrets (device_secret seed (f.state.registered + 1) ∷ []));
      few = few;
      members = λ d some. let h = stands.sound.members d some in let high = h.1 in (h.0, omega (arith, high));
      generation = stands.sound.generation;
      begins = stands.sound.begins;
      last = stands.sound.last;
    };
    stands = registering sealed signed hashed seed names f.state.registered (f.state.registered + 1) (get f.blocks) f.revisions c (omega arith) stands.stands;
    head = stands.head;
    policy = record { roles = stands.policy.roles; generation = stands.policy.generation };
    last = stands.last;
    halves = stands.halves;
    secrets = secret_more f.secrets f.state.registered stands.sound.registered stands.secrets;
  }
