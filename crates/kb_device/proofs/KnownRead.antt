-- The known revision, as it is read again.
use Rattle.std.proofs.Common.{◌≡◌, ℕ, suc, ◌+◌, ◌-◌, ◌≤◌, ◌<◌, List, ◌∷◌, ◌++◌, length, take, drop, sym, ap, subst, ◌∙◌, arith}
use Rattle.std.specs.Prelude.{reverse, slice_index_or}
use Rattle.std.specs.FinMap.{get}
use Rattle.std.proofs.lemmas.List.{length-reverse, length-drop, reverse-append, take-append-drop, take-append-le, take_all}
use Rattle.kb_snap.specs.Chains as plain
use Rattle.kb_snap.specs.Chains.{Chain}
use Rattle.kb_snap.specs.Members.{generation_at, generation_from}
use Rattle.kb_snap.proofs.Chains.{tree_longer}
use Rattle.kb_folder.specs.Chains.{Back, Names, tree_at, generation_in}
use Rattle.kb_folder.specs.Stands.{IsWritten}
use Rattle.kb_folder.specs.Puts.{Held}
use Rattle.kb_folder.specs.Goes.{HasChain}
use Rattle.kb_keys.specs.Rings.{Keys}
use Rattle.kb_device.specs.Stands.{RingStands}
use Rattle.kb_device.proofs.Longer.{chain_length}
use Rattle.kb_device.proofs.Placed.{IsPlaced, lent_placed}

module _ (sealed signed : List ℕ → List ℕ → List ℕ) (hashed : List ℕ → List ℕ) (seed : List ℕ) (names : Names) (f : Held) (c : Chain) (known : ℕ) (has : HasChain sealed signed hashed seed names f c) (low : 1 ≤ known) (within : known ≤ length c)
    (lent : List (List ℕ)) (is : lent ≡ drop (known - 1) (reverse f.revisions)) where
  size : length c ≡ length has.back
  size = ap length has.turned ∙ length-reverse has.back

  -- it is lent
  pub some_lent : 0 < length lent
  some_lent =
      let count = ap length is ∙ length-drop (known - 1) (reverse f.revisions) in
      let rev = length-reverse f.revisions in
      let len = chain_length sealed signed hashed seed names f c has in
      omega (arith, count, rev, len, low, within)

  module _ (item : List ℕ) (at : slice_index_or lent 0 item ≡ item) where
    abbrev r : ℕ
    r = known - 1 + 0

    found : (p : IsPlaced sealed signed hashed seed names f.state.registered (get f.blocks) f.revisions has.back r) × (p.bytes ≡ item)
    found = lent_placed sealed signed hashed seed names f has.back has.stands (known - 1) (let e = size in omega (arith, e, within)) lent is 0 item some_lent at

    pub there : IsPlaced sealed signed hashed seed names f.state.registered (get f.blocks) f.revisions has.back r
    there = found.0

    pub there_is : there.bytes ≡ item
    unfolding there
    there_is = found.1

    abbrev behind : Back
    behind = there.plain ∷ there.older

    long : length behind ≡ known
    long = ap suc there.size ∙ (let e : suc (known - 1 + 0) ≡ known = omega (arith, low) in e)

    front_long : length (reverse behind) ≡ known
    front_long = length-reverse behind ∙ long

    abbrev rest : Chain
    rest = reverse (take (length has.back - (r + 1)) has.back)

    split : c ≡ reverse behind ++ rest
    split =
        let k : ℕ = length has.back - (r + 1) in
        has.turned ∙ ap reverse (sym (take-append-drop k has.back) ∙ ap (λ l. take k has.back ++ l) there.is) ∙ reverse-append (take k has.back) behind

    pub tree_there : tree_at behind (length behind) ≡ plain.tree_at c known
    tree_there =
        ap (plain.tree_at (reverse behind)) long
        ∙ sym (tree_longer (reverse behind) rest known (let e = front_long in omega (arith, e)))
        ∙ ap (λ l. plain.tree_at l known) (sym split)

    generation_there : generation_at c known ≡ generation_in behind
    generation_there =
        ap (λ l. generation_from 0 (take known l)) split
        ∙ ap (generation_from 0) (take-append-le known (reverse behind) rest (let e = front_long in omega (arith, e)) ∙ take_all known (reverse behind) (let e = front_long in omega (arith, e)))

    pub ring_known : (ring : Keys) → RingStands seed (generation_at c known) ring → RingStands seed (generation_in behind) ring
    ring_known ring h = subst (λ n. RingStands seed n ring) generation_there h

    pub written_there : IsWritten sealed signed hashed seed names (get f.blocks) there.older_bytes there.older item there.plain
    written_there = subst (λ b. IsWritten sealed signed hashed seed names (get f.blocks) there.older_bytes there.older b there.plain) there_is there.written
