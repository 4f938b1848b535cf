-- From the facts of one revision to what is known of one more.
use Rattle.std.proofs.Common.{◌≡◌, ◌≢◌, ℕ, zero, suc, ◌+◌, ◌-◌, ◌≤◌, ◌<◌, Bool, true, false, cond, List, [], ◌∷◌, ◌++◌, length, get_or, Option, Some, None, Result, Ok, Err, inl, inr, refl, sym, ap, subst, ◌∙◌, arith}
use Rattle.std.specs.Prelude.{◌⊎◌, reverse, slice_get, slice_index, nat_eq, nat_le, ◌&&◌, IsSome}
use Rattle.std.proofs.lemmas.List.{length-reverse}
use Rattle.std.proofs.lemmas.Bool.{eqb-true, eq-eqb}
use Rattle.std.proofs.lemmas.Bool.Decides.{nat_tests}
use Rattle.kb_ops.specs.declared.rows.Op.{Op}
use Rattle.kb_ops.specs.Trees.{Tree, FitAll, fold_ops}
use Rattle.kb_keys.specs.declared.policy.Role.{Role}
use Rattle.kb_keys.specs.declared.policy.Action.{Action}
use Rattle.kb_keys.specs.declared.policy.Action.TheVariants as action
use Rattle.kb_keys.specs.Rings as rings
use Rattle.kb_keys.specs.Rings.{key_at, AddsKey}
use Rattle.kb_keys.specs.Secrets.{folder_key}
use Rattle.kb_blocks.specs.declared.pointer.Ptr.{Ptr}
use Rattle.kb_files.specs.Opens.{Blocks, Opens}
use Rattle.kb_snap.specs.Holds.{HoldsTree}
use Rattle.kb_snap.proofs.Kept.{row_within}
use Rattle.kb_rules.specs.declared.stamp.Stamp.{Stamp}
use Rattle.kb_rules.specs.Meet.{Meet}
use Rattle.kb_chain.specs.declared.revisions.RevisionKind.{RevisionKind}
use Rattle.kb_chain.specs.declared.revisions.RevisionKind.TheVariants.{Found, Step, Steps, Merge, Join, Rekey}
use Rattle.kb_chain.specs.declared.bundles.BundlePart.{BundlePart}
use Rattle.kb_chain.specs.declared.revisions.Revision.{Revision}
use Rattle.kb_chain.specs.declared.privates.Private.{Private}
use Rattle.kb_chain.specs.declared.states.ChainState.{ChainState}
use Rattle.kb_chain.specs.Revisions.{IsRevision, IsBundleOf, revision_text}
use Rattle.kb_chain.specs.Privates.{IsPrivate, IsBaseOf}
use Rattle.kb_snap.specs.Chains.{Deed, merged_tree, newest, tree_in, trees_of, done_on, stamp_of, seq_of_last, ops_in}
use Rattle.kb_snap.specs.Chains as plain
use Rattle.kb_snap.specs.Chains.Deed.{Founded, Stepped, Merged, Rekeyed}
use Rattle.kb_snap.specs.Members.{generation_by}
use Rattle.kb_snap.specs.Lawful.{AreFew}
use Rattle.kb_snap.proofs.Chains.{tree_next, newest_is}
use Rattle.kb_snap.proofs.MadeIds.{last_counts}
use Rattle.kb_folder.specs.Chains.{Plain, Back, Names, tree_at, role_in, generation_in, places_of, ops_of, Follows}
use Rattle.kb_folder.specs.Stands.{Revisions, Stands, Spells, HaveSeqs, HoldsAfter, PolicyStands, keys_to, kind_of, bundle_for, head_of}
use Rattle.kb_folder.specs.Puts.{StateAfter, RolesAfter, generation_with, seq_after}
use Rattle.kb_folder.specs.Reading.{IsChain}
use Rattle.kb_folder.proofs.Behind.{fits_behind}
use Rattle.kb_folder.proofs.Turning.{turned, ops_next, role_next, gen_next, places_next, older_tree}
use Rattle.kb_audit.proofs.Changes.{roles_next, generation_next, last_next}
use Rattle.kb_folder.proofs.Readings.{chain_of}
use Rattle.kb_audit.proofs.Members.{members_few}
use Rattle.kb_audit.specs.declared.faults.AuditWhy.{AuditWhy}
use Rattle.kb_audit.specs.declared.faults.AuditWhy.TheVariants as why
use Rattle.kb_audit.specs.declared.faults.Bad.{Bad}
use Rattle.kb_audit.specs.declared.faults.Bad.TheVariants as bad
use Rattle.kb_audit.specs.declared.knowing.Root.{Root}
use Rattle.kb_audit.specs.Facts.{base_or, deed_by, plain_by, plain_of, HasForm, IsBelow, IsOwn, IsPrivateOf, HasPrivate, HasOperation, HasRoom, HasBlocks, IsGood}
use Rattle.kb_audit.specs.Audits.{Knows, IsOpen, Lacks, IsBad}
use Rattle.kb_audit.specs.Stepping.{StepsOn, MergesOn, MergesBy, AreHeld, Advances, stamp_by}
use Rattle.kb_audit.specs.Taking.{RingIs}

-- ---- keys

le_more : (i g h : ℕ) → g ≤ h → (nat_le 1 i && nat_le i g) ≡ true → (nat_le 1 i && nat_le i h) ≡ true
le_more i g h le e = grind (arith, nat_tests)

keys_more : (seed : List ℕ) (g h i : ℕ) (k : List ℕ) → g ≤ h → keys_to seed g i ≡ Some k → keys_to seed h i ≡ Some k
keys_more seed g h i k le = elim (nat_le 1 i && nat_le i g) as (λ b. (nat_le 1 i && nat_le i g) ≡ b → cond b (Some (folder_key seed i)) None ≡ Some k → keys_to seed h i ≡ Some k) [
  | true ↦ λ e is. ap (λ b. cond b (Some (folder_key seed i)) None) (le_more i g h le e) ∙ is
  | false ↦ λ e is. cc
] refl

at_new : (i g : ℕ) → i ≡ g → 1 ≤ g → (nat_le 1 i && nat_le i g) ≡ true
at_new i g e low = grind (arith, nat_tests)

below_new : (i g h : ℕ) → (h ≡ g) ⊎ (h ≡ g + 1) → nat_eq i h ≡ false → (nat_le 1 i && nat_le i g) ≡ (nat_le 1 i && nat_le i h)
below_new i g h (inl e) ne = ap (λ n. nat_le 1 i && nat_le i n) (sym e)
below_new i g h (inr e) ne = grind (arith, nat_tests)

-- with the key of the same generation or the next, the ring has those of this one
pub ring_next : (seed : List ℕ) (g h : ℕ) (old new : rings.Keys) → (h ≡ g) ⊎ (h ≡ g + 1) → 1 ≤ h → RingIs seed g old → AddsKey old new h (folder_key seed h) → RingIs seed h new
ring_next seed g h old new step low is adds i = adds.keys i ∙ elim (nat_eq i h) as (λ b. nat_eq i h ≡ b → cond b (Some (folder_key seed h)) (key_at old i) ≡ keys_to seed h i) [
  | true ↦ λ e. let same : i ≡ h = eqb-true i h e in
      sym (ap (λ b. cond b (Some (folder_key seed i)) None) (at_new i h same low) ∙ ap (λ n. Some (folder_key seed n)) same)
  | false ↦ λ e. is i ∙ ap (λ b. cond b (Some (folder_key seed i)) None) (below_new i g h step e)
] refl

pub generation_steps : (g : ℕ) (deed : Deed) → (generation_by deed g ≡ g) ⊎ (generation_by deed g ≡ g + 1)
generation_steps g Founded = inr refl
generation_steps g (Stepped ops) = inl refl
generation_steps g (Merged base rule ops) = inl refl
generation_steps g (Rekeyed action.Found who) = inr refl
generation_steps g (Rekeyed action.GrantWriter who) = inl refl
generation_steps g (Rekeyed action.GrantReader who) = inl refl
generation_steps g (Rekeyed action.Revoke who) = inr refl

module _ (sealed : List ℕ → List ℕ → List ℕ) (hashed : List ℕ → List ℕ) (blocks : Blocks) where
  held_on : (seed : List ℕ) (g h : ℕ) (old new : rings.Keys) → g ≤ h → RingIs seed g old → RingIs seed h new → (p : Ptr) (m : ℕ) (t : Tree) → HoldsTree (Opens sealed hashed blocks (key_at old)) p m t → HoldsTree (Opens sealed hashed blocks (key_at new)) p m t
  held_on seed g h old new le is is_new p m t held = record {
    formed = held.formed;
    timed = held.timed;
    held = row_within (Opens sealed hashed blocks (key_at old)) (Opens sealed hashed blocks (key_at new))
        (λ q text o. record { key = o.key; known = is_new q.generation ∙ keys_more seed g h q.generation o.key le (sym (is q.generation) ∙ o.known); stored = o.stored; hash = o.hash }) _ _ _ held.held;
  }

  -- the trees are held under the next ring too
  pub roots_on : (seed : List ℕ) (g h : ℕ) (old new : rings.Keys) → (h ≡ g) ⊎ (h ≡ g + 1) → RingIs seed g old → RingIs seed h new → (c : Back) (roots : List Root) → AreHeld sealed hashed blocks old c roots → AreHeld sealed hashed blocks new c roots
  roots_on seed g h old new step is is_new c roots a = record { size = a.size; each = λ i root at. held_on seed g h old new (most step) is is_new root.ptr root.mtime (tree_at c (i + 1)) (a.each i root at) }
    where
      most : (h ≡ g) ⊎ (h ≡ g + 1) → g ≤ h
      most (inl e) = omega (arith, e)
      most (inr e) = omega (arith, e)

  got : (xs : List Root) (x y : Root) (i n : ℕ) → n ≡ length xs → slice_get (xs ++ x ∷ []) i ≡ Some y → (slice_get xs i ≡ Some y) ⊎ ((i ≡ n) × (x ≡ y))
  got [] x y zero n e h = inr (sym e, cc)
  got [] x y (suc i) n e h = cc
  got (z ∷ xs) x y zero n e h = inl h
  got (z ∷ xs) x y (suc i) n e h = elim (got xs x y i (length xs) refl h) [ inl at ↦ inl at | inr last ↦ inr ((let l = last.0 in omega (arith, l, e)), last.1) ]

  within : (xs : List Root) (i : ℕ) (x : Root) → slice_get xs i ≡ Some x → i < length xs
  within [] i x h = cc
  within (z ∷ xs) zero x h = omega arith
  within (z ∷ xs) (suc i) x h = let l = within xs i x h in omega (arith, l)

  -- one root more, which holds the tree after the new revision
  pub roots_next : (ring : rings.Keys) (c : Back) (x : Plain) (roots : List Root) (root : Root) → AreHeld sealed hashed blocks ring c roots → HoldsTree (Opens sealed hashed blocks (key_at ring)) root.ptr root.mtime (tree_at (x ∷ c) (length c + 1)) → AreHeld sealed hashed blocks ring (x ∷ c) (roots ++ root ∷ [])
  roots_next ring c x roots root a held = record {
    size = one_more roots ∙ ap suc a.size;
    each = λ i y at. elim (got roots root y i (length roots) refl at) [
      | inl old ↦ (let lt = within roots i y old in let size = a.size in subst (λ t. HoldsTree (Opens sealed hashed blocks (key_at ring)) y.ptr y.mtime t) (sym (older_tree x c (i + 1) (omega (arith, lt, size)))) (a.each i y old))
      | inr new ↦ subst (λ n. HoldsTree (Opens sealed hashed blocks (key_at ring)) y.ptr y.mtime (tree_at (x ∷ c) (n + 1))) (sym (new.0 ∙ a.size)) (subst (λ (z : Root). HoldsTree (Opens sealed hashed blocks (key_at ring)) z.ptr z.mtime (tree_at (x ∷ c) (length c + 1))) new.1 held)
    ];
  }
    where
      one_more : (xs : List Root) → length (xs ++ root ∷ []) ≡ suc (length xs)
      one_more [] = refl
      one_more (z ∷ xs) = ap suc (one_more xs)

-- ---- trees

pub last_seq_is : (first last : ℕ) (ops : List Op) → HaveSeqs first last ops → seq_of_last ops ≡ last
last_seq_is first last [] h = sym h.1
last_seq_is first last (op ∷ ops) h = let e = last_counts first (op ∷ ops) (omega arith) h.0 in let f = h.1 in omega (arith, e, f)

there_at : (xs : List Root) (i : ℕ) → i < length xs → (x : Root) × (slice_get xs i ≡ Some x)
there_at [] i lt = absurd (omega arith)
there_at (z ∷ xs) zero lt = (z, refl)
there_at (z ∷ xs) (suc i) lt = there_at xs i (omega arith)

module _ (sealed : List ℕ → List ℕ → List ℕ) (hashed : List ℕ → List ℕ) (blocks : Blocks) (names : Names) (ring : rings.Keys) (roots : List Root) (c : Back) (held : AreHeld sealed hashed blocks ring c roots) (r : Revision) (p : Private) (own : IsOwn r p) (n : r.number ≡ length c + 1) (old new : Tree) (is : old ≡ tree_at c (length c)) where
  abbrev x : Plain
  x = plain_of names r p

  last_tree : newest (trees_of (reverse c)) ≡ old
  last_tree = newest_is (reverse c) ∙ ap (plain.tree_at (reverse c)) (length-reverse c) ∙ sym is

  stamps : (rule : ℕ) → stamp_by sealed hashed blocks names ring roots r p rule ≡ stamp_of x rule p.ops
  stamps rule = λ i. record { device = r.writer; name = names r.writer; last = sym (last_seq_is r.first r.last p.ops own.seqs) i; moment = r.moment; rule = rule }

  -- the root of the revision that a merge branched from holds its tree
  base_held : (base : ℕ) → 1 ≤ base → base + 1 ≤ r.number → (root : Root) × (slice_get roots (base - 1) ≡ Some root) × HoldsTree (Opens sealed hashed blocks (key_at ring)) root.ptr root.mtime (tree_at c base)
  base_held base low high =
      let size = held.size in
      let at = there_at roots (base - 1) (omega (arith, low, high, n, size)) in
      (at.0, at.1, subst (λ k. HoldsTree (Opens sealed hashed blocks (key_at ring)) at.0.ptr at.0.mtime (tree_at c k)) (let e : (base - 1) + 1 ≡ base = omega (arith, low) in e) (held.each (base - 1) at.0 at.1))

  abbrev Done : Deed → Type 0
  Done deed = HasOperation c x deed × HasRoom c deed × (new ≡ done_on (trees_of (reverse c)) x deed)

  merge_by : (rule base : ℕ) → 1 ≤ base → base + 1 ≤ r.number → MergesBy sealed hashed blocks names ring roots r p rule (Some base) old new (Ok tt) → Done (Merged base rule p.ops)
  merge_by rule base from low a =
      let t = tree_at c base in
      let u = fold_ops p.ops t in
      let root = base_held base from low in
      let m = a root.0 root.1 t root.2 in (
        (m.0, subst (Meet t (tree_at c (length c)) u) (stamps rule) (subst (λ (z : Tree). Meet t z u (stamp_by sealed hashed blocks names ring roots r p rule)) is m.1)),
        subst (λ (z : Tree). AreFew z u) is m.2,
        m.3 ∙ (λ i. merged_tree t (sym last_tree i) u (stamps rule i)),
      )

  done_by : (kind : RevisionKind) (part : Option BundlePart) (base : Option ℕ) → IsBundleOf kind part → IsBaseOf kind base → IsBelow base r.number → Advances sealed hashed blocks names ring roots r p kind base old new (Ok tt) → Done (deed_by kind part (base_or base) p.ops)
  done_by Found part base b e low a = (tt, tt, a.1 ∙ sym last_tree)
  done_by Step part base b e low a = (subst (FitAll p.ops) is a.0, tt, a.1 ∙ ap (fold_ops p.ops) (sym last_tree))
  done_by Steps part base b e low a = (subst (FitAll p.ops) is a.0, tt, a.1 ∙ ap (fold_ops p.ops) (sym last_tree))
  done_by Merge part None b e low a = absurd e
  done_by Merge part (Some base) b e low a = merge_by 1 base e.0 low a
  done_by Join part None b e low a = absurd e
  done_by Join part (Some base) b e low a = merge_by 2 base e.0 low a
  done_by Rekey None base b e low a = absurd b
  done_by Rekey (Some part) base b e low a = (tt, tt, a.1 ∙ sym last_tree)

  not_ok : (w : AuditWhy) → (let o : Result (Unit {0}) Bad = Err (bad.Is w) in o ≡ Ok tt) → ⊥
  not_ok w h = cc

  unmerged_by : (rule base : ℕ) (w : AuditWhy) → 1 ≤ base → base + 1 ≤ r.number → MergesBy sealed hashed blocks names ring roots r p rule (Some base) old new (Err (bad.Is w)) → (w ≡ why.Operation) × (HasOperation c x (Merged base rule p.ops) → ⊥)
  unmerged_by rule base w from low a =
      let t = tree_at c base in
      let u = fold_ops p.ops t in
      let root = base_held base from low in
      let m = a root.0 root.1 t root.2 in
      (m.0, λ fit. m.1 (fit.0, subst (λ (z : Tree). Meet t z u (stamp_by sealed hashed blocks names ring roots r p rule)) (sym is) (subst (Meet t (tree_at c (length c)) u) (sym (stamps rule)) fit.1)))

  -- where it is refused the operations don't fit
  undone_by : (kind : RevisionKind) (part : Option BundlePart) (base : Option ℕ) (w : AuditWhy) → IsBundleOf kind part → IsBaseOf kind base → IsBelow base r.number → Advances sealed hashed blocks names ring roots r p kind base old new (Err (bad.Is w)) → (w ≡ why.Operation) × (HasOperation c x (deed_by kind part (base_or base) p.ops) → ⊥)
  undone_by Found part base w b e low a = absurd (not_ok w a.0)
  undone_by Step part base w b e low a = (a.0, λ fit. a.1 (subst (FitAll p.ops) (sym is) fit))
  undone_by Steps part base w b e low a = (a.0, λ fit. a.1 (subst (FitAll p.ops) (sym is) fit))
  undone_by Merge part None w b e low a = absurd e
  undone_by Merge part (Some base) w b e low a = unmerged_by 1 base w e.0 low a
  undone_by Join part None w b e low a = absurd e
  undone_by Join part (Some base) w b e low a = unmerged_by 2 base w e.0 low a
  undone_by Rekey part base w b e low a = absurd (not_ok w a.0)

  tree_pushed : tree_at (x ∷ c) (length c + 1) ≡ done_on (trees_of (reverse c)) x x.deed
  tree_pushed = ap (λ l. plain.tree_at l (length c + 1)) (turned x c) ∙ ap (λ k. plain.tree_at (reverse c ++ x ∷ []) (k + 1)) (sym (length-reverse c)) ∙ tree_next (reverse c) x

  pub advanced : IsBundleOf r.kind r.bundle → IsBaseOf r.kind p.base → Advances sealed hashed blocks names ring roots r p r.kind p.base old new (Ok tt) → HasOperation c x x.deed × HasRoom c x.deed × (new ≡ tree_at (x ∷ c) (length c + 1))
  advanced b e a = let d = done_by r.kind r.bundle p.base b e own.base a in (d.0, d.1, d.2 ∙ sym tree_pushed)

  pub not_advanced : (w : AuditWhy) → IsBundleOf r.kind r.bundle → IsBaseOf r.kind p.base → Advances sealed hashed blocks names ring roots r p r.kind p.base old new (Err (bad.Is w)) → (w ≡ why.Operation) × (HasOperation c x x.deed → ⊥)
  not_advanced w b e a = undone_by r.kind r.bundle p.base w b e own.base a

-- ---- what is known of the chain

module _ (sealed signed : List ℕ → List ℕ → List ℕ) (seed : List ℕ) (names : Names) (registered : ℕ) (bs : Revisions) (c : Back) (b : List ℕ) (x : Plain) (s : Spells sealed signed seed names bs c b x) (f : Follows registered c x) (few : (d : ℕ) → IsSome (role_in c d) → (1 ≤ d) × (d ≤ 32)) where
  pub knows_next : (old new : ChainState) → Knows registered bs c old → StateAfter s.revision b old new → Knows registered (b ∷ bs) (x ∷ c) new
  knows_next old new k after = record {
    length_is = after.length ∙ ap (λ n. n + 1) k.length_is ∙ (let e : length c + 1 ≡ suc (length c) = omega arith in e);
    head = after.head;
    policy = record {
      roles = λ d. roles_next sealed seed x.writer x.deed (places_of (x ∷ c)) old.policy.0 new.policy.0 (role_in c) (subst (λ (o : Option BundlePart). RolesAfter o old.policy.0 new.policy.0) s.bundle after.roles) k.policy.roles d ∙ sym (role_next x c d);
      generation = after.generation ∙ ap (λ (o : Option BundlePart). generation_with o old.policy.1) s.bundle ∙ generation_next sealed seed x.writer x.deed (places_of (x ∷ c)) old.policy.1 ∙ ap (generation_by x.deed) k.policy.generation ∙ sym (gen_next x c);
    };
    last = λ d. after.last d ∙ ap (λ (z : RevisionKind). seq_after z s.revision d (slice_index old.last d)) s.kind
        ∙ last_next registered c x s.revision x.deed s.writer s.seqs (fits_behind registered c x few f) f.counts (slice_index old.last) k.last d ∙ ap length (sym (ops_next d x c));
    registered_is = after.registered ∙ k.registered_is;
  }
