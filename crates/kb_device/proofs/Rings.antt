-- Rings that have the folder keys up to a generation.
use Rattle.std.proofs.Common.{◌≡◌, ℕ, ◌+◌, ◌≤◌, ◌<◌, Bool, true, false, cond, List, Some, None, refl, sym, ap, ◌∙◌, arith}
use Rattle.std.specs.Prelude.{◌&&◌, nat_le, nat_eq, min, is_some}
use Rattle.std.proofs.lemmas.Bool.{eqb-true}
use Rattle.std.proofs.lemmas.Bool.Decides.{nat_tests}
use Rattle.kb_keys.specs.Rings.{Keys, key_at, AddsKey}
use Rattle.kb_keys.specs.Secrets.{folder_key}
use Rattle.kb_folder.specs.Stands.{keys_to}
use Rattle.kb_device.specs.Stands.{RingStands}
use Rattle.kb_device.proofs.Step.{key_now}
use Rattle.kb_device.specs.Heads.{Read}
use Rattle.kb_device.specs.Pulling.{IsReadable, is_readable}
use Rattle.kb_device.specs.Filling.{key_with}

-- a generation is among these, or not
pub in_range : (i g : ℕ) → 1 ≤ i → i ≤ g → (nat_le 1 i && nat_le i g) ≡ true
in_range i g low high = grind (arith, nat_tests, low, high)

pub none_there : (seed : List ℕ) (i : ℕ) → keys_to seed 0 i ≡ None
none_there seed i = ap (λ b. cond b (Some (folder_key seed i)) None) (let no : (nat_le 1 i && nat_le i 0) ≡ false = grind (arith, nat_tests) in no)

same_le : (g i : ℕ) → nat_eq g (i + 1) ≡ false → nat_le g i ≡ nat_le g (i + 1)
same_le g i e = grind (arith, nat_tests, e)

-- the key of the next generation is added
pub key_more : (seed : List ℕ) (i generation : ℕ) (key : List ℕ) (ring old new : Keys) → RingStands seed generation ring → i + 1 ≤ generation → Some key ≡ key_at ring (i + 1) → RingStands seed i old → AddsKey old new (i + 1) key → RingStands seed (i + 1) new
key_more seed i generation key ring old new stands within is h adds g =
    adds.keys g ∙ elim (nat_eq g (i + 1)) as (λ b. nat_eq g (i + 1) ≡ b → cond b (Some key) (key_at old g) ≡ keys_to seed (i + 1) g) [
      | true ↦ λ e.
          let same : g ≡ i + 1 = eqb-true g (i + 1) e in
          let key_is : Some key ≡ Some (folder_key seed (i + 1)) = is ∙ stands (i + 1) ∙ ap (λ b. cond b (Some (folder_key seed (i + 1))) None) (in_range (i + 1) generation (omega arith) within) in
          key_is ∙ ap (λ n. Some (folder_key seed n)) (sym same) ∙ sym (ap (λ b. cond b (Some (folder_key seed g)) None) (in_range g (i + 1) (omega (arith, same)) (omega (arith, same))))
      | false ↦ λ e. h g ∙ ap (λ b. cond b (Some (folder_key seed g)) None) (ap (λ b. nat_le 1 g && b) (same_le g i e))
    ] refl

pub no_key_more : (seed : List ℕ) (i generation : ℕ) (ring : Keys) → RingStands seed generation ring → i + 1 ≤ generation → None ≡ key_at ring (i + 1) → ⊥
no_key_more seed i generation ring stands within is =
    let bad : None ≡ Some (folder_key seed (i + 1)) = is ∙ stands (i + 1) ∙ ap (λ b. cond b (Some (folder_key seed (i + 1))) None) (in_range (i + 1) generation (omega arith) within) in
    cc

-- the ring is filled
pub whole_ring : (seed : List ℕ) (generation most : ℕ) (among : ℕ → Bool) → ((i : ℕ) → 0 < i → generation < i → i ≤ most → among i ≡ true) → (i : ℕ) → key_with seed most (among i) i (keys_to seed (min most generation) i) ≡ keys_to seed most i
whole_ring seed generation most among covered i = elim (nat_le 1 i && nat_le i most) as (λ b. (nat_le 1 i && nat_le i most) ≡ b → cond (among i && b) (Some (folder_key seed i)) (keys_to seed (min most generation) i) ≡ cond b (Some (folder_key seed i)) None) [
  | true ↦ λ e. inside (among i) refl (low e) (high e)
  | false ↦ λ e. outside (among i) e
] refl
  where
    low : (nat_le 1 i && nat_le i most) ≡ true → 1 ≤ i
    low e = grind (arith, nat_tests, e)

    high : (nat_le 1 i && nat_le i most) ≡ true → i ≤ most
    high e = grind (arith, nat_tests, e)

    inside : (a : Bool) → among i ≡ a → 1 ≤ i → i ≤ most → cond (a && true) (Some (folder_key seed i)) (keys_to seed (min most generation) i) ≡ Some (folder_key seed i)
    inside true e l h = refl
    inside false e l h = ap (λ b. cond b (Some (folder_key seed i)) None) (elim (nat_le i generation) as (λ b. nat_le i generation ≡ b → (nat_le 1 i && nat_le i (min most generation)) ≡ true) [
      | true ↦ λ z. (let le : i ≤ generation = grind (arith, nat_tests, z) in in_range i (min most generation) l (omega (arith, le, h)))
      | false ↦ λ z. (let gt : generation < i = grind (arith, nat_tests, z) in let bad : false ≡ true = sym e ∙ covered i (omega (arith, l)) gt h in cc)
    ] refl)

    outside : (a : Bool) → (nat_le 1 i && nat_le i most) ≡ false → cond (a && false) (Some (folder_key seed i)) (keys_to seed (min most generation) i) ≡ None
    outside true e = none e
      where
        none : (nat_le 1 i && nat_le i most) ≡ false → keys_to seed (min most generation) i ≡ None
        none e = ap (λ b. cond b (Some (folder_key seed i)) None) (let no : (nat_le 1 i && nat_le i (min most generation)) ≡ false = grind (arith, nat_tests, e) in no)
    outside false e = ap (λ b. cond b (Some (folder_key seed i)) None) (let no : (nat_le 1 i && nat_le i (min most generation)) ≡ false = grind (arith, nat_tests, e) in no)

-- ---- what can be kept

all_so : (a b c d e : Bool) → a ≡ true → b ≡ true → c ≡ true → d ≡ true → e ≡ true → (a && (b && (c && (d && e)))) ≡ true
all_so true true true true e p q r s t = t
all_so true true true false e p q r s t = cc
all_so true true false d e p q r s t = cc
all_so true false c d e p q r s t = cc
all_so false b c d e p q r s t = cc

le_test : (a b : ℕ) → a ≤ b → nat_le a b ≡ true
le_test a b h = grind (arith, nat_tests, h)

pub readable_is : (seed : List ℕ) (known : ℕ) (r : Read) → known ≤ r.number → 1 ≤ r.number → 1 ≤ r.generation → r.generation ≤ 64 → RingStands seed r.generation r.ring → is_readable known r ≡ true
readable_is seed known r a b c d ring =
    all_so (nat_le known r.number) (nat_le 1 r.number) (nat_le 1 r.generation) (nat_le r.generation 64) (is_some (key_at r.ring r.generation)) (le_test known r.number a) (le_test 1 r.number b) (le_test 1 r.generation c) (le_test r.generation 64 d)
    (ap is_some (ring r.generation ∙ key_now seed r.generation c))

test_le : (a b : ℕ) → nat_le a b ≡ true → a ≤ b
test_le a b h = grind (arith, nat_tests, h)

one_so : (a b : Bool) → (a && b) ≡ true → a ≡ true
one_so true b h = refl
one_so false b h = cc

rest_so : (a b : Bool) → (a && b) ≡ true → b ≡ true
rest_so true b h = h
rest_so false b h = cc

pub is_known : (known : ℕ) (r : Read) → is_readable known r ≡ true → known ≤ r.number
is_known known r h = test_le known r.number (one_so (nat_le known r.number) _ h)

pub can_keep : (known : ℕ) (r : Read) → is_readable known r ≡ true → IsReadable r
can_keep known r h =
    let k = rest_so (nat_le known r.number) _ h in
    let l = rest_so (nat_le 1 r.number) _ k in
    let m = rest_so (nat_le 1 r.generation) _ l in
    record {
      some = test_le 1 r.number (one_so (nat_le 1 r.number) _ k);
      first = test_le 1 r.generation (one_so (nat_le 1 r.generation) _ l);
      last = test_le r.generation 64 (one_so (nat_le r.generation 64) _ m);
      keyed = rest_so (nat_le r.generation 64) _ m;
    }
