-- The keys that entries give a device.
use Rattle.std.proofs.Common.{◌≡◌, ℕ, zero, suc, ◌+◌, ◌≤◌, ◌<◌, Bool, true, false, cond, List, [], ◌∷◌, ◌++◌, length, take, Option, Some, Result, Ok, Err, refl, sym, ap, subst, ◌∙◌, arith}
use Rattle.std.specs.Prelude.{◌&&◌, ◌||◌, nat_le, nat_eq, slice_get, slice_index_or}
use Rattle.std.proofs.lemmas.Bool.Decides.{nat_tests}
use Rattle.std.proofs.lemmas.List.{length-map, take_all}
use Rattle.std.proofs.lemmas.List.Folds.{list_any-append}
use Rattle.kb_seal.specs.Laws.{length-hmac}
use Rattle.kb_keys.specs.declared.entries.Entry.{Entry}
use Rattle.kb_keys.specs.Bundles.{made_entry}
use Rattle.kb_keys.specs.Halves.{half_at}
use Rattle.kb_keys.specs.Rings.{Keys, key_at}
use Rattle.kb_keys.specs.Secrets.{device_secret, folder_key, server_half, xored}
use Rattle.kb_folder.specs.Chains.{Place}
use Rattle.kb_folder.specs.Stands.{entries_for}
use Rattle.kb_folder.specs.Reading.{is_among}
use Rattle.kb_folder.specs.Puts.{Held}
use Rattle.kb_device.specs.Filling.{is_wanted, IsServed, IfRead, key_with, HasKeysOf}
use Rattle.kb_device.specs.declared.reading.ReadFault.{ReadFault}
use Rattle.kb_device.specs.declared.reading.ReadFault.TheVariants.{BadFolder, Memory}

pub wanted_is : (d most : ℕ) (e : Entry) → is_wanted d most e ≡ true → (e.device ≡ d) × (1 ≤ e.generation) × (e.generation ≤ most)
wanted_is d most e h = (device, low, high) where
  first : (a b : Bool) → (a && b) ≡ true → a ≡ true
  first true b h = refl
  first false b h = cc

  second : (a b : Bool) → (a && b) ≡ true → b ≡ true
  second true b h = h
  second false b h = cc

  rest : (nat_le 1 e.generation && nat_le e.generation most) ≡ true
  rest = second (nat_eq e.device d) (nat_le 1 e.generation && nat_le e.generation most) h

  device : e.device ≡ d
  device = let t = first (nat_eq e.device d) (nat_le 1 e.generation && nat_le e.generation most) h in grind (arith, nat_tests, t)

  low : 1 ≤ e.generation
  low = let t = first (nat_le 1 e.generation) (nat_le e.generation most) rest in grind (arith, nat_tests, t)

  high : e.generation ≤ most
  high = let t = second (nat_le 1 e.generation) (nat_le e.generation most) rest in grind (arith, nat_tests, t)

pub length-key : (seed : List ℕ) (g : ℕ) → length (folder_key seed g) ≡ 32
length-key seed g = length-hmac seed _

-- the sealed text of an entry for the device, under its secret and the half that the folder keeps
pub sealed_is : (sealed : List ℕ → List ℕ → List ℕ) (seed : List ℕ) (f : Held) (d most : ℕ) (secret half : List ℕ) (e : Entry) → is_wanted d most e ≡ true → IsServed seed f d secret most → half_at f.halves d e.generation ≡ Some half
    → e ≡ made_entry sealed seed e.device e.generation (folder_key seed e.generation) → e.sealed ≡ sealed secret (xored (folder_key seed e.generation) half)
sealed_is sealed seed f d most secret half e wanted served told made =
    let w = wanted_is d most e wanted in
    let same : Some half ≡ Some (server_half seed d e.generation) = sym told ∙ served.halves e.generation w.1 w.2 in
    let half_is : server_half seed d e.generation ≡ half = cc in
    ap (λ (x : Entry). x.sealed) made
    ∙ (λ i. sealed (device_secret seed (w.0 i)) (xored (folder_key seed e.generation) (server_half seed (w.0 i) e.generation)))
    ∙ (λ i. sealed (sym served.secret_is i) (xored (folder_key seed e.generation) (half_is i)))

-- ---- one after another

with_both : (seed : List ℕ) (most g : ℕ) (a b : Bool) (old : Option (List ℕ)) → key_with seed most b g (key_with seed most a g old) ≡ key_with seed most (a || b) g old
with_both seed most g true true old = same (nat_le 1 g && nat_le g most) where
  same : (z : Bool) → cond z (Some (folder_key seed g)) (cond z (Some (folder_key seed g)) old) ≡ cond z (Some (folder_key seed g)) old
  same true = refl
  same false = refl
with_both seed most g true false old = refl
with_both seed most g false b old = refl

pub keys_append : (seed : List ℕ) (d most : ℕ) (ps qs : List Place) (a b c : Keys) → HasKeysOf seed d most ps a b → HasKeysOf seed d most qs b c → HasKeysOf seed d most (ps ++ qs) a c
keys_append seed d most ps qs a b c h k g =
    k g ∙ ap (key_with seed most (is_among d g qs) g) (h g) ∙ with_both seed most g (is_among d g ps) (is_among d g qs) (key_at a g)
    ∙ ap (λ z. key_with seed most z g (key_at a g)) (sym (list_any-append (λ (p : Place). nat_eq p.0 d && nat_eq p.1 g) ps qs))

take_next : {A : Type 0} (xs : List A) (i : ℕ) (x : A) → slice_get xs i ≡ Some x → take (i + 1) xs ≡ take i xs ++ x ∷ []
take_next xs i x at = ap (λ n. take n xs) (let e : i + 1 ≡ suc i = omega arith in e) ∙ next xs i at where
  next : {A : Type 0} (xs : List A) (i : ℕ) {x : A} → slice_get xs i ≡ Some x → take (suc i) xs ≡ take i xs ++ x ∷ []
  next [] i at = cc
  next (y ∷ xs) zero {x} at = let e : y ≡ x = cc in ap (λ z. z ∷ []) e
  next (y ∷ xs) (suc i) at = ap (λ l. y ∷ l) (next xs i at)

-- the item at a place of entries that were made
pub item_made : (sealed : List ℕ → List ℕ → List ℕ) (seed : List ℕ) (es : List Entry) (ps : List Place) (i : ℕ) (z : Entry) → es ≡ entries_for sealed seed ps → i < length es
    → (p : Place) × (slice_get ps i ≡ Some p) × (slice_index_or es i z ≡ made_entry sealed seed p.0 p.1 (folder_key seed p.1))
item_made sealed seed es ps i z is lt =
    let f = found ps i (subst (λ l. i < length l) is lt) in
    (f.0, f.1, ap (λ l. slice_index_or l i z) is ∙ f.2)
  where
    found : (ps : List Place) (i : ℕ) → i < length (entries_for sealed seed ps) → (p : Place) × (slice_get ps i ≡ Some p) × (slice_index_or (entries_for sealed seed ps) i z ≡ made_entry sealed seed p.0 p.1 (folder_key seed p.1))
    found [] i lt = absurd (omega arith)
    found (p ∷ ps) zero lt = (p, refl, refl)
    found (p ∷ ps) (suc i) lt = found ps i (omega arith)

pub keys_next : (seed : List ℕ) (d most : ℕ) (ps : List Place) (i : ℕ) (p : Place) (a b c : Keys) → slice_get ps i ≡ Some p → HasKeysOf seed d most (take i ps) a b → HasKeysOf seed d most (p ∷ []) b c → HasKeysOf seed d most (take (i + 1) ps) a c
keys_next seed d most ps i p a b c at h k = subst (λ l. HasKeysOf seed d most l a c) (sym (take_next ps i p at)) (keys_append seed d most (take i ps) (p ∷ []) a b c h k)

pub keys_whole : (sealed : List ℕ → List ℕ → List ℕ) (seed : List ℕ) (d most : ℕ) (es : List Entry) (ps : List Place) (i : ℕ) (a b : Keys) → es ≡ entries_for sealed seed ps → length es ≤ i → HasKeysOf seed d most (take i ps) a b → HasKeysOf seed d most ps a b
keys_whole sealed seed d most es ps i a b is le h =
    subst (λ l. HasKeysOf seed d most l a b) (take_all i ps (let e = ap length is ∙ length-map ps (λ p. made_entry sealed seed p.0 p.1 (folder_key seed p.1)) in omega (arith, e, le))) h

-- a refusal that comes only for want of memory is one for want of memory
pub refused : {X Y : Type 0} (fault : ReadFault) (P : X → Type 0) (Q : Y → Type 0) → (let r : Result X ReadFault = Err fault in IfRead r P) → (let r : Result Y ReadFault = Err fault in IfRead r Q)
refused Memory P Q h = tt
refused BadFolder P Q h = absurd h

pub mapped : {X : Type 0} (r : Result X ReadFault) (P Q : X → Type 0) → ((x : X) → P x → Q x) → IfRead r P → IfRead r Q
mapped (Ok x) P Q f h = f x h
mapped (Err Memory) P Q f h = tt
mapped (Err BadFolder) P Q f h = absurd h

-- a refusal that comes only for want of memory is no other
pub no_bad : {X : Type 0} (fault : ReadFault) (P : X → Type 0) → fault ≡ BadFolder → (let r : Result X ReadFault = Err fault in IfRead r P) → ⊥
no_bad Memory P is h = cc
no_bad BadFolder P is h = h
