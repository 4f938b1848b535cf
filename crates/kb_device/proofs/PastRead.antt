-- A revision of a folder that a member reads.
use Rattle.std.proofs.Common.{◌≡◌, ℕ, ◌+◌, ◌-◌, ◌<◌, ◌≤◌, true, cond, List, [], ◌∷◌, length, drop, Option, Some, None, refl, sym, ap, subst, ◌∙◌, arith}
use Rattle.std.specs.Prelude.{◌&&◌, min, is_some, reverse}
use Rattle.std.specs.FinMap.{get}
use Rattle.std.proofs.lemmas.List.{length-reverse}
use Rattle.sha2.specs.Sha256.{sha256}
use Rattle.kb_ops.specs.Trees.{Tree, look}
use Rattle.kb_keys.specs.declared.policy.Role.{Role}
use Rattle.kb_keys.specs.Rings.{Keys, key_at}
use Rattle.kb_keys.specs.Secrets.{device_secret, server_half}
use Rattle.kb_files.specs.Opens.{Opens}
use Rattle.kb_snap.specs.Pointers.{Kept, AllHold}
use Rattle.kb_chain.specs.declared.revisions.Revision.{Revision}
use Rattle.kb_snap.specs.Chains as plain
use Rattle.kb_snap.specs.Chains.{Chain}
use Rattle.kb_snap.specs.Members.{generation_at, roles_at}
use Rattle.kb_device.specs.Caches.{Cache, known_in}
use Rattle.kb_device.specs.Disks as front
use Rattle.kb_folder.specs.Chains.{Names, Back, tree_at, role_in, generation_in}
use Rattle.kb_folder.specs.Stands.{keys_to}
use Rattle.kb_folder.specs.Puts.{Held}
use Rattle.kb_folder.specs.Held.{is_member}
use Rattle.kb_folder.specs.Reading.{is_among, places_behind}
use Rattle.kb_folder.specs.Goes.{HasChain}
use Rattle.kb_folder.proofs.Readings.{covered, chain_of}
use Rattle.kb_device.specs.Stands.{RingStands, hashes_of}
use Rattle.kb_device.specs.Heads.{Read, ReadStands}
use Rattle.kb_device.specs.Filling.{IsServed, HasKeysOf, key_with}
use Rattle.kb_device.specs.Pulling.{is_readable}
use Rattle.kb_device.proofs.Longer.{chain_length}
use Rattle.kb_device.proofs.Hashes.{same_hash}
use Rattle.kb_device.proofs.Placed.{IsPlaced}
use Rattle.kb_device.proofs.Rings.{in_range, whole_ring, none_there, readable_is}
use Rattle.kb_device.proofs.Fronts.{hash_there, tree_there, generation_there, role_there, low_generation}

module _ (sealed signed : List ℕ → List ℕ → List ℕ) (hashed : List ℕ → List ℕ) (seed : List ℕ) (names : Names) (f : Held) (c : Chain) (d : ℕ) (secret : List ℕ)
    (has : HasChain sealed signed hashed seed names f c) (secret_is : secret ≡ device_secret seed d) (member : is_member f d ≡ true)
    (r : ℕ) (p : IsPlaced sealed signed hashed seed names f.state.registered (get f.blocks) f.revisions has.back r) (read : Revision) (read_is : read ≡ p.written.spells.revision) where
  abbrev back : Back
  back = has.back

  abbrev g : ℕ
  g = generation_in (p.plain ∷ p.older)

  pub generation_is : read.generation ≡ g
  generation_is = ap (λ (r : Revision). r.generation) read_is ∙ p.written.spells.generation

  pub ranged : (1 ≤ read.generation) × (read.generation ≤ 64)
  ranged =
      let e : read.generation ≡ p.written.spells.revision.generation = ap (λ (r : Revision). r.generation) read_is in
      let s = p.written.spells.is.rules.generation in
      (subst (λ n. 1 ≤ n) (sym e) s.0, subst (λ n. n ≤ 64) (sym e) s.1)

  low : read.generation ≤ generation_in back
  low = subst (λ n. n ≤ generation_in back) (sym generation_is) (low_generation back p.plain p.older r p.is p.size)

  role_is : is_some (role_in back d) ≡ true
  role_is = ap is_some (sym (has.stands.policy.roles d)) ∙ member

  pub served : IsServed seed f d secret read.generation
  served = record {
    secret_is = secret_is;
    member = member;
    halves = λ i from to. has.stands.halves d i ∙ (λ j. cond (role_is j && in_range i (generation_in back) from (let le = low in omega (arith, le, to)) j) (Some (server_half seed d i)) None);
  }

  -- a ring that had no key
  pub ring_is : (new : Keys) → (let none : Keys = [] in HasKeysOf seed d read.generation (places_behind 0 back) none new) → RingStands seed read.generation new
  ring_is new filled = λ i.
      filled i ∙ ap (key_with seed read.generation (is_among d i (places_behind 0 back)) i) (let none : Keys = [] in let was : key_at none i ≡ None = refl in was ∙ sym (none_there seed i) ∙ ap (λ n. keys_to seed n i) (let e : 0 ≡ min read.generation 0 = omega arith in e))
      ∙ whole_ring seed 0 read.generation (λ j. is_among d j (places_behind 0 back)) covers i
    where
      covers : (j : ℕ) → 0 < j → 0 < j → j ≤ read.generation → is_among d j (places_behind 0 back) ≡ true
      covers j from above to = covered f.state.registered has.stands.sound.few back (chain_of sealed signed hashed seed names f.state.registered (get f.blocks) f.revisions back has.stands.stands) 0 d j role_is from from (let le = low in omega (arith, le, to))

  pub ring_there : (ring : Keys) → RingStands seed read.generation ring → RingStands seed g ring
  ring_there ring h = subst (λ n. RingStands seed n ring) generation_is h

  pub role_is_there : (role : Option Role) (number : ℕ) → number ≡ r + 1 → role ≡ role_in (drop (length back - number) back) d → role ≡ roles_at c number d
  role_is_there role number e is =
      is ∙ ap (λ n. role_in (drop (length back - n) back) d) e ∙ ap (λ l. role_in l d) p.is ∙ sym (role_there back p.plain p.older r p.is p.size d)
      ∙ (λ i. roles_at (sym has.turned i) (sym e i) d)

  -- what was read of it
  module _ (number : ℕ) (e : number ≡ r + 1) (item : List ℕ) (item_is : p.bytes ≡ item) (lt : r < length back) (tree : Tree) (kept : Kept) (cache : Cache) (ring : Keys) (stands : RingStands seed read.generation ring)
      (tree_is : tree ≡ tree_at (p.plain ∷ p.older) (length (p.plain ∷ p.older))) (held : AllHold (Opens sealed hashed (known_in cache (get f.blocks)) (keys_to seed (generation_in (p.plain ∷ p.older)))) (look tree) kept) where
    tree_c : tree ≡ plain.tree_at c number
    tree_c = tree_is ∙ sym (tree_there back p.plain p.older r p.is p.size) ∙ (λ i. plain.tree_at (sym has.turned i) (sym e i))

    size : length c ≡ length back
    size = ap length has.turned ∙ length-reverse back

    within : number ≤ length c
    within = let s = size in omega (arith, e, lt, s)

    pub read_stands : (let x : Read = record { number = number; hash = sha256 item; tree = tree; kept = kept; cache = cache; ring = ring; generation = read.generation } in ReadStands sealed hashed seed f c x)
    read_stands = record {
      some = omega (arith, e);
      tree = tree_c;
      remembers = record {
        within = within;
        hash_is = ap sha256 (sym item_is) ∙ hash_there sealed signed hashed seed names f back has.stands (reverse f.revisions) refl r p ∙ sym (ap (front.hash_at (hashes_of f.revisions)) e)
            ∙ sym (same_hash f.revisions number (let len = chain_length sealed signed hashed seed names f c has in let w = within in omega (arith, len, w)));
        generation_is = generation_is ∙ sym (generation_there back p.plain p.older r p.is p.size) ∙ (λ i. generation_at (sym has.turned i) (sym e i));
        held = subst (λ t. AllHold (Opens sealed hashed (known_in cache (get f.blocks)) (keys_to seed read.generation)) (look t) kept) tree_c
            (subst (λ n. AllHold (Opens sealed hashed (known_in cache (get f.blocks)) (keys_to seed n)) (look tree) kept) (sym generation_is) held);
      };
      ring = stands;
    }

    pub readable : (let x : Read = record { number = number; hash = sha256 item; tree = tree; kept = kept; cache = cache; ring = ring; generation = read.generation } in is_readable 0 x ≡ true)
    readable = (let x : Read = record { number = number; hash = sha256 item; tree = tree; kept = kept; cache = cache; ring = ring; generation = read.generation } in readable_is seed 0 x (omega (arith, e)) (omega (arith, e)) ranged.0 ranged.1 stands)
