-- The last revision of a folder, as a member reads it.
use Rattle.std.proofs.Common.{◌≡◌, ℕ, zero, suc, ◌+◌, ◌-◌, ◌<◌, ◌≤◌, true, cond, List, [], ◌∷◌, length, drop, Some, None, refl, sym, ap, subst, ◌∙◌, arith}
use Rattle.std.specs.Prelude.{◌&&◌, min, is_some, reverse, slice_get, slice_index_or}
use Rattle.std.specs.FinMap.{get}
use Rattle.std.proofs.lemmas.List.{reverse-append, length-reverse, take_all}
use Rattle.sha2.specs.Sha256.{sha256}
use Rattle.kb_ops.specs.Trees.{Tree, look}
use Rattle.kb_keys.specs.Rings.{Keys}
use Rattle.kb_keys.specs.Policies.{role_at}
use Rattle.kb_keys.specs.Secrets.{device_secret, server_half}
use Rattle.kb_files.specs.Opens.{Opens}
use Rattle.kb_snap.specs.Pointers.{Kept, AllHold}
use Rattle.kb_snap.specs.Chains as plain
use Rattle.kb_snap.specs.Chains.{Chain}
use Rattle.kb_snap.specs.Members.{generation_at, generation_from, roles_of}
use Rattle.kb_folder.specs.Chains.{Back, Names, tree_at, role_in, generation_in}
use Rattle.kb_folder.specs.Stands.{Revisions, head_of, keys_to}
use Rattle.kb_folder.specs.Puts.{Held}
use Rattle.kb_folder.specs.Held.{is_member}
use Rattle.kb_folder.specs.Reading.{is_among, places_behind}
use Rattle.kb_folder.specs.Goes.{HasChain}
use Rattle.kb_folder.proofs.Readings.{covered, chain_of}
use Rattle.kb_device.specs.Caches.{Cache, known_in}
use Rattle.kb_device.specs.Remembering.{hash_at}
use Rattle.kb_device.specs.Stands.{RingStands}
use Rattle.kb_device.specs.Heads.{Read, ReadStands}
use Rattle.kb_device.specs.Filling.{IsServed, HasKeysOf, key_with}
use Rattle.kb_device.proofs.Longer.{chain_length}
use Rattle.kb_device.proofs.Placed.{IsPlaced, get_last, lent_placed}
use Rattle.kb_device.proofs.Rings.{in_range, whole_ring}

-- the hash of the last of some revisions
last_hash : (bs : Revisions) (r n : ℕ) (b : List ℕ) → slice_get (reverse bs) r ≡ Some b → r + 1 ≡ length bs → n ≡ length bs → sha256 b ≡ hash_at bs n
last_hash [] r n b at e f = absurd (omega (arith, e))
last_hash (x ∷ bs) r n b at e f =
    let here : r ≡ length (reverse bs) = (let l = length-reverse bs in omega (arith, e, l)) in
    let same : Some b ≡ Some x = sym at ∙ ap (λ l. slice_get l r) (reverse-append (x ∷ []) bs) ∙ get_last (reverse bs) x r here in
    let is : b ≡ x = cc in
    ap sha256 is ∙ sym (ap (λ k. head_of (drop k (x ∷ bs))) (let none : suc (length bs) - n ≡ 0 = omega (arith, f) in none))

module _ (sealed signed : List ℕ → List ℕ → List ℕ) (hashed : List ℕ → List ℕ) (seed : List ℕ) (names : Names) (f : Held) (c : Chain) (known d : ℕ) (secret : List ℕ) (generation : ℕ)
    (has : HasChain sealed signed hashed seed names f c) (secret_is : secret ≡ device_secret seed d) (member : is_member f d ≡ true) (within : known ≤ length c) where
  abbrev back : Back
  back = has.back

  abbrev most : ℕ
  most = f.state.policy.1

  most_is : most ≡ generation_in back
  most_is = has.stands.policy.generation

  size : length c ≡ length back
  size = ap length has.turned ∙ length-reverse has.back

  pub within_back : known ≤ length back
  within_back = let e = size in omega (arith, e, within)

  role_is : is_some (role_in back d) ≡ true
  role_is = ap is_some (sym (has.stands.policy.roles d)) ∙ member

  pub served : IsServed seed f d secret most
  served = record {
    secret_is = secret_is;
    member = member;
    halves = λ g low high. has.stands.halves d g ∙ (λ i. cond (role_is i && in_range g (generation_in back) low (subst (λ n. g ≤ n) most_is high) i) (Some (server_half seed d g)) None);
  }

  pub ring_after : generation ≡ generation_at c known → (old new : Keys) → RingStands seed (min most generation) old → HasKeysOf seed d most (places_behind known back) old new → RingStands seed most new
  ring_after gen_is old new stands filled = λ i.
      filled i ∙ ap (key_with seed most (is_among d i (places_behind known back)) i) (stands i)
      ∙ whole_ring seed generation most (λ j. is_among d j (places_behind known back)) covers i
    where
      covers : (j : ℕ) → 0 < j → generation < j → j ≤ most → is_among d j (places_behind known back) ≡ true
      covers j low gt high = covered f.state.registered has.stands.sound.few back (chain_of sealed signed hashed seed names f.state.registered (get f.blocks) f.revisions back has.stands.stands) known d j role_is low
          (subst (λ n. n < j) (gen_is ∙ ap (λ l. generation_at l known) has.turned) gt) (subst (λ n. j ≤ n) most_is high)

  module _ (lent : List (List ℕ)) (is : lent ≡ drop known (reverse f.revisions)) (i : ℕ) (last : i + 1 ≡ length lent) (item : List ℕ) (at : slice_index_or lent i item ≡ item) where
    found : (p : IsPlaced sealed signed hashed seed names f.state.registered (get f.blocks) f.revisions back (known + i)) × (p.bytes ≡ item)
    found = lent_placed sealed signed hashed seed names f back has.stands known within_back lent is i item (omega (arith, last)) at

    pub there : IsPlaced sealed signed hashed seed names f.state.registered (get f.blocks) f.revisions back (known + i)
    there = found.0

    pub there_is : there.bytes ≡ item
    unfolding there
    there_is = found.1

    place_is : known + i + 1 ≡ length back
    place_is =
        let count = ap length is in
        let cut = dropped (reverse f.revisions) known in
        let rev = length-reverse f.revisions in
        let len = chain_length sealed signed hashed seed names f c has in
        let e = size in
        let w = within in
        omega (arith, count, cut, rev, len, e, w, last)
      where
        dropped : (l : List (List ℕ)) (k : ℕ) → length (drop k l) ≡ length l - k
        dropped [] k = let none : 0 ≡ 0 - k = omega arith in ap length (nothing k) ∙ none
          where
            nothing : (k : ℕ) → drop k (let none : List (List ℕ) = [] in none) ≡ []
            nothing zero = refl
            nothing (suc k) = refl
        dropped (x ∷ l) zero = omega arith
        dropped (x ∷ l) (suc k) = dropped l k ∙ (let e : length l - k ≡ suc (length l) - suc k = omega arith in e)

    whole : back ≡ there.plain ∷ there.older
    whole = sym (ap (λ n. drop n back) (let e = place_is in let none : length back - (known + i + 1) ≡ 0 = omega (arith, e) in none)) ∙ there.is

    pub ring_there : (ring : Keys) → RingStands seed most ring → RingStands seed (generation_in (there.plain ∷ there.older)) ring
    ring_there ring h = subst (λ n. RingStands seed n ring) (most_is ∙ ap generation_in whole) h

    pub generation_there : (1 ≤ most) × (most ≤ 64)
    generation_there =
        let e : there.written.spells.revision.generation ≡ most = there.written.spells.generation ∙ ap generation_in (sym whole) ∙ sym most_is in
        let g = there.written.spells.is.rules.generation in
        (subst (λ n. 1 ≤ n) e g.0, subst (λ n. n ≤ 64) e g.1)

    -- what was read of it
    pub head_stands : (number : ℕ) (tree : Tree) (kept : Kept) (cache : Cache) (ring : Keys) → number ≡ f.state.length → RingStands seed most ring → tree ≡ tree_at (there.plain ∷ there.older) (length (there.plain ∷ there.older))
        → AllHold (Opens sealed hashed (known_in cache (get f.blocks)) (keys_to seed (generation_in (there.plain ∷ there.older)))) (look tree) kept
        → (let r : Read = record { number = number; hash = sha256 item; tree = tree; kept = kept; cache = cache; ring = ring; generation = most } in ReadStands sealed hashed seed f c r) × (number ≡ length c)
    head_stands number tree kept cache ring number_is stands tree_is held =
        let len = chain_length sealed signed hashed seed names f c has in
        let counted = has.stands.sound.counted in
        let place = place_is in
        let e = size in
        let number_c : number ≡ length c = number_is ∙ sym counted ∙ sym len in
        let tree_c : tree ≡ plain.tree_at c number =
        tree_is ∙ (λ i. tree_at (sym whole i) (length (sym whole i))) ∙ (λ i. plain.tree_at (sym has.turned i) (sym size i)) ∙ ap (plain.tree_at c) (sym number_c) in (
          record {
            some = omega (arith, number_c, e, place);
            tree = tree_c;
            remembers = record {
              within = omega (arith, number_c);
              hash_is = ap sha256 (sym there_is) ∙ last_hash f.revisions (known + i) number there.bytes there.there (omega (arith, place, e, len)) (number_is ∙ sym counted);
              generation_is = most_is ∙ ap (generation_from 0) (sym has.turned) ∙ ap (generation_from 0) (sym (take_all number c (omega (arith, number_c))));
              held = subst (λ t. AllHold (Opens sealed hashed (known_in cache (get f.blocks)) (keys_to seed most)) (look t) kept) tree_c
                  (subst (λ n. AllHold (Opens sealed hashed (known_in cache (get f.blocks)) (keys_to seed n)) (look tree) kept) (sym (most_is ∙ ap generation_in whole)) held);
            };
            ring = stands;
          },
          number_c,
        )

  pub role_there : role_at f.state.policy.0 d ≡ roles_of c d
  role_there = has.stands.policy.roles d ∙ ap (λ l. roles_of l d) (sym has.turned)
