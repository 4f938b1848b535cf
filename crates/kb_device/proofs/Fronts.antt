-- A revision of a folder at its place, what came before it and what came behind it.
use Rattle.std.proofs.Common.{◌≡◌, ℕ, zero, suc, ◌+◌, ◌-◌, ◌<◌, ◌≤◌, List, [], ◌∷◌, ◌++◌, length, map, take, drop, Some, sym, ap, subst, ◌∙◌, arith, append_assoc}
use Rattle.std.specs.Prelude.{reverse, slice_get, slice_index_or}
use Rattle.std.specs.FinMap.{get}
use Rattle.std.proofs.lemmas.List.{reverse-append, length-reverse}
use Rattle.sha2.specs.Sha256.{sha256}
use Rattle.kb_keys.specs.declared.policy.Action.TheVariants as action
use Rattle.kb_snap.specs.Chains as plain
use Rattle.kb_snap.specs.Chains.{Chain}
use Rattle.kb_snap.specs.Chains.Deed.{Founded, Stepped, Merged, Rekeyed}
use Rattle.kb_snap.specs.Members.{roles_at, roles_of, generation_at, generation_from, generation_by}
use Rattle.kb_device.specs.Disks as front
use Rattle.kb_snap.proofs.Lists.{take_front, drop_front, cut}
use Rattle.kb_snap.proofs.Chains.{tree_longer}
use Rattle.kb_folder.specs.Chains.{Plain, Back, Names, tree_at, role_in, generation_in}
use Rattle.kb_folder.specs.Puts.{Held}
use Rattle.kb_folder.specs.Lands.{FolderStands}
use Rattle.kb_folder.proofs.Standing.{stands_length}
use Rattle.kb_folder.proofs.Turning.{gen_next}
use Rattle.kb_device.specs.Stands.{hashes_of}
use Rattle.kb_device.proofs.Placed.{IsPlaced, placed, lent_item}

-- ---- generations never fall

more_by : (deed : plain.Deed) (g : ℕ) → g ≤ generation_by deed g
more_by Founded g = omega arith
more_by (Stepped ops) g = omega arith
more_by (Merged base rule ops) g = omega arith
more_by (Rekeyed action.Found who) g = omega arith
more_by (Rekeyed action.GrantWriter who) g = omega arith
more_by (Rekeyed action.GrantReader who) g = omega arith
more_by (Rekeyed action.Revoke who) g = omega arith

pub older_generation : (k : ℕ) (c : Back) → generation_in (drop k c) ≤ generation_in c
older_generation zero c = omega arith
older_generation (suc k) [] = omega arith
older_generation (suc k) (x ∷ c) = let e = gen_next x c in let m = more_by x.deed (generation_in c) in let h = older_generation k c in omega (arith, e, m, h)

-- ---- a place

there_hash : (l : List (List ℕ)) (r : ℕ) (b : List ℕ) → slice_get l r ≡ Some b → slice_index_or (map sha256 l) r [] ≡ sha256 b
there_hash [] r b at = cc
there_hash (x ∷ l) zero b at = (let e : x ≡ b = cc in ap sha256 e)
there_hash (x ∷ l) (suc r) b at = there_hash l r b at

module _ (c : Back) (x : Plain) (older : Back) (r : ℕ) (is : drop (length c - (r + 1)) c ≡ x ∷ older) (size : length older ≡ r) where
  -- the revisions behind it
  abbrev pub later : Chain
  later = reverse (take (length c - (r + 1)) c)

  pub split : reverse c ≡ reverse (x ∷ older) ++ later
  split = ap reverse (cut (length c - (r + 1)) c) ∙ ap (λ l. reverse (take (length c - (r + 1)) c ++ l)) is ∙ reverse-append (take (length c - (r + 1)) c) (x ∷ older)

  pub split_one : reverse c ≡ reverse older ++ x ∷ later
  split_one = split ∙ ap (λ l. l ++ later) (reverse-append (x ∷ []) older) ∙ append_assoc (reverse older) (x ∷ []) later

  length_one : length (reverse (x ∷ older)) ≡ r + 1
  length_one = length-reverse (x ∷ older) ∙ (let e : suc (length older) ≡ r + 1 = omega (arith, size) in e)

  pub taken_front : take (r + 1) (reverse c) ≡ reverse (x ∷ older)
  taken_front = ap (take (r + 1)) split ∙ take_front (reverse (x ∷ older)) later (r + 1) length_one

  pub dropped_front : drop r (reverse c) ≡ x ∷ drop (r + 1) (reverse c)
  dropped_front =
      ap (drop r) split_one ∙ drop_front (reverse older) (x ∷ later) r (length-reverse older ∙ size)
      ∙ ap (λ l. x ∷ l) (sym (ap (drop (r + 1)) split ∙ drop_front (reverse (x ∷ older)) later (r + 1) length_one))

  pub tree_there : plain.tree_at (reverse c) (r + 1) ≡ tree_at (x ∷ older) (length (x ∷ older))
  tree_there =
      ap (λ l. plain.tree_at l (r + 1)) split ∙ tree_longer (reverse (x ∷ older)) later (r + 1) (let e = length_one in omega (arith, e))
      ∙ ap (plain.tree_at (reverse (x ∷ older))) (let e : r + 1 ≡ suc (length older) = omega (arith, size) in e)

  pub generation_there : generation_at (reverse c) (r + 1) ≡ generation_in (x ∷ older)
  generation_there = ap (generation_from 0) taken_front

  pub role_there : (d : ℕ) → roles_at (reverse c) (r + 1) d ≡ role_in (x ∷ older) d
  role_there d = ap (λ l. roles_of l d) taken_front

  pub low_generation : generation_in (x ∷ older) ≤ generation_in c
  low_generation = subst (λ l. generation_in l ≤ generation_in c) is (older_generation (length c - (r + 1)) c)

module _ (sealed signed : List ℕ → List ℕ → List ℕ) (hashed : List ℕ → List ℕ) (seed : List ℕ) (names : Names) (f : Held) (c : Back) (stands : FolderStands sealed signed hashed seed names f c) (lent : List (List ℕ)) (is : lent ≡ reverse f.revisions) where
  pub lent_length : length lent ≡ length c
  lent_length = ap length is ∙ length-reverse f.revisions ∙ stands_length sealed signed hashed seed names f.state.registered (get f.blocks) f.revisions c stands.stands

  -- what was lent at a place is the revision there
  pub whole_placed : (i : ℕ) (item : List ℕ) → i < length lent → slice_index_or lent i item ≡ item → (p : IsPlaced sealed signed hashed seed names f.state.registered (get f.blocks) f.revisions c i) × (p.bytes ≡ item)
  whole_placed i item lt at =
      let size = ap length is ∙ length-reverse f.revisions in
      let p = placed sealed signed hashed seed names f.state.registered (get f.blocks) f.revisions c stands.stands i (omega (arith, size, lt)) in
      let there = lent_item (reverse f.revisions) 0 i item (subst (λ l. i < length l) is lt) (subst (λ l. slice_index_or l i item ≡ item) is at) in
      let same : Some p.bytes ≡ Some item = sym p.there ∙ ap (slice_get (reverse f.revisions)) (let e : i ≡ 0 + i = omega arith in e) ∙ there in
      (p, (let e : p.bytes ≡ item = cc in e))

  pub hash_there : (i : ℕ) (p : IsPlaced sealed signed hashed seed names f.state.registered (get f.blocks) f.revisions c i) → sha256 p.bytes ≡ front.hash_at (hashes_of f.revisions) (i + 1)
  hash_there i p = sym (ap (front.hash_at (hashes_of f.revisions)) (let e : i + 1 ≡ suc i = omega arith in e) ∙ there_hash (reverse f.revisions) i p.bytes p.there)
