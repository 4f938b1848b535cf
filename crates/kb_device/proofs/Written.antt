-- What the bytes of a revision give.
use Rattle.std.proofs.Common.{◌≡◌, ℕ, ◌≤◌, List, ◌∷◌, length, Some, None, sym, ap, subst, ◌∙◌}
use Rattle.kb_ops.specs.Trees.{Tree, look}
use Rattle.kb_keys.specs.Rings.{Keys, key_at}
use Rattle.kb_keys.specs.Secrets.{folder_key}
use Rattle.kb_files.specs.Opens.{Blocks, Opens}
use Rattle.kb_snap.specs.Holds.{HoldsTree}
use Rattle.kb_snap.specs.Pointers.{Kept, AllHold}
use Rattle.kb_snap.proofs.Kept.{row_within}
use Rattle.kb_chain.specs.declared.revisions.Revision.{Revision}
use Rattle.kb_chain.specs.declared.privates.Private.{Private}
use Rattle.kb_chain.specs.Privates.{private_text, IsPrivate}
use Rattle.kb_folder.specs.Chains.{Plain, Back, Names, tree_at, generation_in}
use Rattle.kb_folder.specs.Stands.{Revisions, IsWritten, keys_to}
use Rattle.kb_device.proofs.Step.{key_now}
use Rattle.kb_device.specs.Caches.{Cache, known_in}
use Rattle.kb_device.specs.Stands.{RingStands}

module _ (sealed signed : List ℕ → List ℕ → List ℕ) (hashed : List ℕ → List ℕ) (seed : List ℕ) (names : Names) (blocks : Blocks) (bs : Revisions) (c : Back) (bytes : List ℕ) (x : Plain) (w : IsWritten sealed signed hashed seed names blocks bs c bytes x)
    (ring : Keys) (stands : RingStands seed (generation_in (x ∷ c)) ring) (read : Revision) (read_is : read ≡ w.spells.revision) where
  abbrev g : ℕ
  g = generation_in (x ∷ c)

  generation_is : read.generation ≡ g
  generation_is = ap (λ (r : Revision). r.generation) read_is ∙ w.spells.generation

  low : 1 ≤ read.generation
  low = subst (λ (r : Revision). 1 ≤ r.generation) (sym read_is) w.spells.is.rules.generation.0

  -- its key is in the ring
  pub key_there : key_at ring read.generation ≡ Some (folder_key seed read.generation)
  key_there = stands read.generation ∙ ap (λ n. keys_to seed n read.generation) (sym generation_is) ∙ key_now seed read.generation low

  pub no_key : None ≡ key_at ring read.generation → ⊥
  no_key e = let bad : None ≡ Some (folder_key seed read.generation) = e ∙ key_there in cc

  pub is_private : IsPrivate read.kind w.spells.private
  is_private = subst (λ (r : Revision). IsPrivate r.kind w.spells.private) (sym read_is) w.spells.is_private

  -- its private part opens under the key that is there
  pub opens : (key : List ℕ) → Some key ≡ key_at ring read.generation → read.private ≡ sealed key (private_text read.kind w.spells.private)
  opens key is =
      let same : Some key ≡ Some (folder_key seed read.generation) = is ∙ key_there in
      let key_is : key ≡ folder_key seed read.generation = cc in
      subst (λ k. read.private ≡ sealed k (private_text read.kind w.spells.private)) (sym key_is)
      (subst (λ (r : Revision). r.private ≡ sealed (folder_key seed r.generation) (private_text r.kind w.spells.private)) (sym read_is) w.spells.opens)

  same_keys : (i : ℕ) → keys_to seed w.spells.revision.generation i ≡ key_at ring i
  same_keys i = ap (λ n. keys_to seed n i) w.spells.generation ∙ sym (stands i)

  -- its tree is held under the ring
  pub held_there : (private : Private) → private ≡ w.spells.private → HoldsTree (Opens sealed hashed blocks (key_at ring)) private.root private.mtime (tree_at (x ∷ c) (length (x ∷ c)))
  held_there private is =
      let h = w.held in
      subst (λ (p : Private). HoldsTree (Opens sealed hashed blocks (key_at ring)) p.root p.mtime (tree_at (x ∷ c) (length (x ∷ c)))) (sym is) (record {
        formed = h.formed;
        timed = h.timed;
        held = row_within (Opens sealed hashed blocks (keys_to seed w.spells.revision.generation)) (Opens sealed hashed blocks (key_at ring)) (λ q text o. record { key = o.key; known = sym (same_keys q.generation) ∙ o.known; stored = o.stored; hash = o.hash }) _ _ _ h.held;
      })

  pub all_known : (t : Tree) (kept : Kept) (cache : Cache) → AllHold (Opens sealed hashed (known_in cache blocks) (key_at ring)) (look t) kept → AllHold (Opens sealed hashed (known_in cache blocks) (keys_to seed g)) (look t) kept
  all_known t kept cache h = λ q p at.
      row_within (Opens sealed hashed (known_in cache blocks) (key_at ring)) (Opens sealed hashed (known_in cache blocks) (keys_to seed g)) (λ q text o. record { key = o.key; known = sym (stands q.generation) ∙ o.known; stored = o.stored; hash = o.hash }) (look t) q p (h q p at)
