-- What each step of taking a revision tells.
use Rattle.std.proofs.Common.{◌≡◌, ◌≢◌, ℕ, suc, ◌+◌, ◌≤◌, ◌<◌, Bool, true, false, List, [], ◌∷◌, ◌++◌, length, Option, Some, None, Result, Ok, Err, inl, inr, refl, sym, ap, subst, ◌∙◌, arith}
use Rattle.std.specs.Prelude.{◌⊎◌, IsSome}
use Rattle.sha2.specs.Sha256.{sha256}
use Rattle.kb_name.specs.Names.{is_device_name}
use Rattle.kb_ops.specs.Trees.{Tree}
use Rattle.kb_keys.specs.declared.policy.Role.{Role}
use Rattle.kb_keys.specs.declared.policy.Action.{Action}
use Rattle.kb_keys.specs.declared.policy.Action.TheVariants as action
use Rattle.kb_keys.specs.Policies.{generation_after}
use Rattle.kb_keys.specs.Rings as rings
use Rattle.kb_keys.specs.Rings.{key_at, AddsKey}
use Rattle.kb_keys.specs.Secrets.{device_secret, folder_key}
use Rattle.kb_files.specs.Opens.{Blocks, Opens}
use Rattle.kb_snap.specs.Holds.{HoldsTree}
use Rattle.kb_chain.specs.declared.revisions.RevisionKind.{RevisionKind}
use Rattle.kb_chain.specs.declared.revisions.RevisionKind.TheVariants.{Found, Step, Steps, Merge, Join, Rekey}
use Rattle.kb_chain.specs.declared.bundles.BundlePart.{BundlePart}
use Rattle.kb_chain.specs.declared.revisions.Revision.{Revision}
use Rattle.kb_chain.specs.declared.privates.Private.{Private}
use Rattle.kb_chain.specs.declared.states.ChainState.{ChainState}
use Rattle.kb_chain.specs.Revisions.{IsRevision, IsBundleOf, AreSeqs, revision_text}
use Rattle.kb_chain.specs.Privates.{IsBaseOf, IsCountOf}
use Rattle.kb_snap.specs.Members.{generation_by}
use Rattle.kb_folder.specs.Chains.{Plain, Back, Names, Place, tree_at, role_in, generation_in, Follows}
use Rattle.kb_folder.specs.Stands.{Revisions, Stands, IsWritten, Spells, HoldsAfter, bundle_for, keys_to}
use Rattle.kb_folder.specs.Puts.{StateAfter, CanApply}
use Rattle.kb_folder.specs.Reading.{IsChain}
use Rattle.kb_folder.proofs.Readings.{chain_of}
use Rattle.kb_folder.proofs.Behind.{IsRekey}
use Rattle.kb_audit.proofs.Members.{members_few, rekey_from}
use Rattle.kb_folder.proofs.Turning.{gen_next}
use Rattle.kb_audit.specs.declared.faults.AuditWhy.{AuditWhy}
use Rattle.kb_audit.specs.declared.faults.AuditWhy.TheVariants as why
use Rattle.kb_audit.specs.declared.faults.Bad.{Bad}
use Rattle.kb_audit.specs.declared.faults.Bad.TheVariants as bad
use Rattle.kb_audit.specs.declared.knowing.Root.{Root}
use Rattle.kb_audit.specs.declared.knowing.Known.{Known}
use Rattle.kb_audit.specs.Facts.{base_or, outline_of, plain_of, told_by, HasWriter, MayDo, HasForm, HasFit, IsPrivateOf, IsBelow, HasPrivate, HasOperation, HasRoom, HasBlocks, IsGood, deed_by}
use Rattle.kb_audit.specs.Audits.{Knows, IsOpen, Lacks, IsBad}
use Rattle.kb_audit.specs.Reading.{IsRead, Fails, FailsEntries, ReadsRevision}
use Rattle.kb_audit.specs.Opening.{OpensTo}
use Rattle.kb_audit.specs.Stepping.{AreHeld, Advances}
use Rattle.kb_audit.specs.Taking.{RingIs, KnowsAll, IsKnown, Goes, IsRefused, Takes}
use Rattle.kb_audit.proofs.Equal.{stands_from, spells_from, same_generation, few_ops}
use Rattle.kb_audit.proofs.Deciding.{judged_ok, judged_err, made_lacks}
use Rattle.kb_audit.proofs.Going.{ring_next, generation_steps, roots_on, roots_next, advanced, not_advanced, knows_next}

device_or : ℕ → Option BundlePart → ℕ
device_or d None = d
device_or d (Some q) = q.device

-- what a revision changes of the members can be changed
module _ (sealed : List ℕ → List ℕ → List ℕ) (seed : List ℕ) (registered : ℕ) (top : registered ≤ 32) (c : Back) (w g : ℕ) (few : (d : ℕ) → IsSome (role_in c d) → (1 ≤ d) × (d ≤ 32)) (writes : HasWriter registered c w) where
  rekey_apply : (a : Action) (who : ℕ) → IsRekey registered c a who → (0 < who) × (who ≤ 32)
  rekey_apply action.Found who h = absurd h
  rekey_apply action.GrantWriter who h = let low = h.0 in let high = h.1 in (omega (arith, low), omega (arith, high, top))
  rekey_apply action.GrantReader who h = let low = h.0 in let high = h.1 in (omega (arith, low), omega (arith, high, top))
  rekey_apply action.Revoke who h = let it = few who h.0 in let low = it.0 in (omega (arith, low), it.1)

  apply_by : (kind : RevisionKind) (part : Option BundlePart) (ps : List Place) → IsBundleOf kind part → MayDo registered c w (deed_by kind part 0 []) → part ≡ bundle_for sealed seed w (deed_by kind part 0 []) ps → generation_by (deed_by kind part 0 []) g ≤ 64 → CanApply part g
  unfolding device_or
  apply_by kind None ps i m e n = tt
  apply_by Step (Some p) ps i m e n = absurd i
  apply_by Steps (Some p) ps i m e n = absurd i
  apply_by Merge (Some p) ps i m e n = absurd i
  apply_by Join (Some p) ps i m e n = absurd i
  apply_by Found (Some p) ps i m e n =
      let own : p.device ≡ w = ap (device_or w) e in
      let low = writes.1 in let high = writes.2 in
      (omega (arith, own, low), omega (arith, own, high, top), subst (λ (a : Action). generation_after a g ≤ 64) (sym i) n)
  apply_by Rekey (Some p) ps i m e n = let h = rekey_apply p.action p.device (rekey_from registered c w p.action p.device few writes.0 m) in (h.0, h.1, n)

module _ (sealed signed : List ℕ → List ℕ → List ℕ) (hashed : List ℕ → List ℕ) (seed : List ℕ) (names : Names) (registered : ℕ) (blocks : Blocks) (top : registered ≤ 32) (bs : Revisions) (c : Back) (k : Known)
    (known : KnowsAll sealed signed hashed seed names registered blocks bs c k) where
  is_chain : IsChain registered c
  is_chain = chain_of sealed signed hashed seed names registered blocks bs c known.stands

  few : (d : ℕ) → IsSome (role_in c d) → (1 ≤ d) × (d ≤ 32)
  few = members_few registered top c is_chain

  -- ---- the bytes

  lacking : (w : AuditWhy) (b : List ℕ) (f : HasForm b) → Lacks sealed signed hashed seed names registered blocks w bs c f.revision → IsBad sealed signed hashed seed names registered blocks w bs c b
  lacking why.Form b f h = absurd h
  lacking why.Number b f h = (f, h)
  lacking why.Previous b f h = (f, h)
  lacking why.Writer b f h = (f, h)
  lacking why.Signature b f h = (f, h)
  lacking why.Seq b f h = (f, h)
  lacking why.Fit b f h = (f, h)
  lacking why.Private b f h = (f, h)
  lacking why.Operation b f h = (f, h)
  lacking why.Blocks b f h = (f, h)
  lacking why.Halves b f h = absurd h

  pub read_bad : (b : List ℕ) (e : Bad) → ReadsRevision sealed signed seed k.state b (Err e) → IsRefused sealed signed hashed seed names registered blocks bs c b e
  read_bad b bad.Memory h = tt
  read_bad b (bad.Is w) (inl none) = subst (λ v. IsBad sealed signed hashed seed names registered blocks v bs c b) (sym none.0) (λ f. none.1 f.revision f.is f.spelled)
  read_bad b (bad.Is w) (inr (inl f)) = lacking w b (record { revision = f.revision; is = f.is; spelled = f.spelled }) (judged_err sealed signed hashed seed names registered blocks bs c k.state f.revision known.chain f.is top is_chain w f.failed)
  read_bad b (bad.Is w) (inr (inr f)) = subst (λ v. IsBad sealed signed hashed seed names registered blocks v bs c b) (sym f.fit)
      (record { revision = f.revision; is = f.is; spelled = f.spelled }, made_lacks sealed signed hashed seed names registered blocks bs c k.state f.revision known.chain f.is top is_chain f.passed f.not_made)

  module _ (b : List ℕ) (r : Revision) (read : IsRead sealed signed seed k.state b r) where
    abbrev form : HasForm b
    form = record { revision = r; is = read.is; spelled = read.spelled }

    open_facts : IsOpen sealed signed hashed seed names registered blocks bs c r
    open_facts = judged_ok sealed signed hashed seed names registered blocks bs c k.state r known.chain read.is top is_chain read.passed read.made

    pub writer_within : (1 ≤ r.writer) × (r.writer ≤ registered)
    writer_within = (open_facts.writer.1, open_facts.writer.2)

    pub writer_small : r.writer < 33
    writer_small = let h = writer_within.1 in omega (arith, h, top)

    pub can_apply : CanApply r.bundle k.state.policy.1
    can_apply =
        subst (CanApply r.bundle) (sym known.chain.policy.generation)
        (apply_by sealed seed registered top c r.writer (generation_in c) few open_facts.writer r.kind r.bundle _ read.is.rules.bundle open_facts.fit.may open_facts.fit.bundle
        (subst (λ g. g ≤ 64) (open_facts.fit.generation ∙ gen_next (outline_of names r) c) read.is.rules.generation.1))

    -- ---- the private part

    pub private_bad : (e : Bad) → OpensTo sealed seed r (Err e) → IsRefused sealed signed hashed seed names registered blocks bs c b e
    private_bad bad.Memory h = tt
    private_bad (bad.Is w) h = subst (λ v. IsBad sealed signed hashed seed names registered blocks v bs c b) (sym h.0) (form, (open_facts, h.1))

    module _ (p : Private) (of : IsPrivateOf sealed seed r p) (ring : rings.Keys) (adds : AddsKey k.ring ring r.generation (folder_key seed r.generation)) where
      abbrev has : HasPrivate sealed seed r
      has = record { part = p; of = of }

      steps : (r.generation ≡ generation_in c) ⊎ (r.generation ≡ generation_in c + 1)
      steps = elim (generation_steps (generation_in c) (outline_of names r).deed) [
        | inl e ↦ inl (open_facts.fit.generation ∙ gen_next (outline_of names r) c ∙ e)
        | inr e ↦ inr (open_facts.fit.generation ∙ gen_next (outline_of names r) c ∙ e)
      ]

      new_ring : RingIs seed r.generation ring
      new_ring = ring_next seed (generation_in c) r.generation k.ring ring steps read.is.rules.generation.0 known.ring adds

      new_roots : AreHeld sealed hashed blocks ring c k.roots.items
      new_roots = roots_on sealed hashed blocks seed (generation_in c) r.generation k.ring ring steps known.ring new_ring c k.roots.items known.roots

      pub base_below : IsBelow p.base (length k.roots.items + 1)
      base_below = by p.base of.own.base
        where
          by : (o : Option ℕ) → IsBelow o r.number → IsBelow o (length k.roots.items + 1)
          by None h = tt
          by (Some base) h = let n = open_facts.number in let size = known.roots.size in omega (arith, h, n, size)

      -- the private part has at most as many operations as a merge
      pub ops_few : length p.ops ≤ 4096
      ops_few = by r.kind read.is.rules.seqs of.is.count
        where
          by : (kind : RevisionKind) → AreSeqs kind r.first r.last → IsCountOf kind (length p.ops) → length p.ops ≤ 4096
          by Found s n = omega (arith, n)
          by Step s n = omega (arith, n)
          by Steps s n = let few = few_ops 32 r.first r.last p.ops s.2 of.own.seqs in omega (arith, few)
          by Merge s n = few_ops 4096 r.first r.last p.ops s.2 of.own.seqs
          by Join s n = few_ops 4096 r.first r.last p.ops s.2 of.own.seqs
          by Rekey s n = omega (arith, n)

      pub advance_bad : (tree : Tree) (e : Bad) → Advances sealed hashed blocks names ring k.roots.items r p r.kind p.base k.table.tree tree (Err e) → IsRefused sealed signed hashed seed names registered blocks bs c b e
      advance_bad tree bad.Memory h = tt
      advance_bad tree (bad.Is w) h =
          let no = not_advanced sealed hashed blocks names ring k.roots.items c new_roots r p of.own open_facts.number k.table.tree tree known.tree w read.is.rules.bundle of.is.base h in
          subst (λ v. IsBad sealed signed hashed seed names registered blocks v bs c b) (sym no.0) (form, (open_facts, has, no.1))

      module _ (tree : Tree) (on : Advances sealed hashed blocks names ring k.roots.items r p r.kind p.base k.table.tree tree (Ok tt)) where
        done : HasOperation c (plain_of names r p) (plain_of names r p).deed × HasRoom c (plain_of names r p).deed × (tree ≡ tree_at (plain_of names r p ∷ c) (length c + 1))
        done = advanced sealed hashed blocks names ring k.roots.items c new_roots r p of.own open_facts.number k.table.tree tree known.tree read.is.rules.bundle of.is.base on

        -- the ring has the keys that the revision's blocks may have
        keys_are : key_at ring ≡ keys_to seed r.generation
        keys_are = λ i q. new_ring q i

        ends : length c + 1 ≡ length (plain_of names r p ∷ c)
        ends = let e : length c + 1 ≡ suc (length c) = omega arith in e

        after : tree ≡ tree_at (plain_of names r p ∷ c) (length (plain_of names r p ∷ c))
        after = done.2 ∙ ap (tree_at (plain_of names r p ∷ c)) ends

        abbrev Held : Tree → Type 0
        Held t = HoldsTree (Opens sealed hashed blocks (key_at ring)) p.root p.mtime t

        blocks_from : Held tree → HasBlocks sealed signed hashed seed names registered blocks c r p
        blocks_from h = subst (λ keys. HoldsTree (Opens sealed hashed blocks keys) p.root p.mtime (tree_at (plain_of names r p ∷ c) (length (plain_of names r p ∷ c)))) keys_are (subst Held after h)

        blocks_back : HasBlocks sealed signed hashed seed names registered blocks c r p → Held tree
        blocks_back h = subst Held (sym after) (subst (λ keys. HoldsTree (Opens sealed hashed blocks keys) p.root p.mtime (tree_at (plain_of names r p ∷ c) (length (plain_of names r p ∷ c)))) (sym keys_are) h)

        pub blocks_bad : (Held tree → ⊥) → IsBad sealed signed hashed seed names registered blocks why.Blocks bs c b
        blocks_bad none = (form, (open_facts, has, done.0, λ h. none (blocks_back h)))

        abbrev good : Held tree → IsGood sealed signed hashed seed names registered blocks bs c b
        good h = record {
          form = form;
          number = open_facts.number;
          previous = open_facts.previous;
          writer = open_facts.writer;
          signature = open_facts.signature;
          seq = open_facts.seq;
          fit = open_facts.fit;
          private = has;
          operation = done.0;
          room = done.1;
          held = blocks_from h;
        }

        pub goes : ((d : ℕ) → 1 ≤ d → d ≤ registered → is_device_name (names d) ≡ true) → Held tree → (new : Known) → StateAfter r b k.state new.state → new.table.tree ≡ tree → new.ring ≡ ring → new.roots.items ≡ k.roots.items ++ record { ptr = p.root; mtime = p.mtime } ∷ []
            → Takes sealed signed hashed seed names registered blocks bs c b new (Ok tt)
        goes named h new state table same_ring roots =
            let made = stands_from sealed signed hashed seed names registered blocks named bs c b (good h) in
            let x = plain_of names r p in
            record {
              plain = x;
              knows = record {
                stands = (known.stands, made.0, made.1);
                chain = knows_next sealed signed seed names registered bs c b x (spells_from sealed signed hashed seed names registered blocks bs c b (good h)) made.1 few k.state new.state known.chain state;
                tree = table ∙ after;
                ring = subst (λ (l : rings.Keys). RingIs seed (generation_in (x ∷ c)) l) (sym same_ring) (subst (λ g. RingIs seed g ring) (open_facts.fit.generation ∙ sym (same_generation names r (base_or p.base) p.ops c)) new_ring);
                roots = subst (λ (l : rings.Keys). AreHeld sealed hashed blocks l (x ∷ c) new.roots.items) (sym same_ring)
                    (subst (AreHeld sealed hashed blocks ring (x ∷ c)) (sym roots) (roots_next sealed hashed blocks ring c x k.roots.items (record { ptr = p.root; mtime = p.mtime }) new_roots (subst Held done.2 h)));
              };
            }
