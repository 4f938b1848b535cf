-- The request that resolves a branch is for the machine's merge.
use Rattle.std.proofs.Common.{◌≡◌, ℕ, ◌+◌, ◌≤◌, ◌<◌, List, [], ◌∷◌, length, refl, sym, ap, subst, ◌∙◌, arith}
use Rattle.std.specs.Prelude.{reverse}
use Rattle.std.specs.FinMap.{get}
use Rattle.std.proofs.lemmas.List.{length-reverse}
use Rattle.kb_ops.specs.declared.rows.Op.{Op}
use Rattle.kb_ops.specs.Trees.{Tree, look, fold_ops}
use Rattle.kb_keys.specs.Secrets.{device_secret, folder_key}
use Rattle.kb_files.specs.Opens.{Opens}
use Rattle.kb_files.proofs.Vaults.{opens_kept}
use Rattle.kb_snap.specs.Holds.{HoldsTree}
use Rattle.kb_snap.specs.Pointers.{Kept}
use Rattle.kb_snap.proofs.Kept.{row_within}
use Rattle.kb_snap.specs.Chains as plain
use Rattle.kb_snap.specs.Chains.{Chain}
use Rattle.kb_snap.proofs.Chains.{newest_is}
use Rattle.kb_chain.specs.declared.states.FolderRequest.{FolderRequest}
use Rattle.kb_chain.specs.Revisions.{signed_text, with_signature}
use Rattle.kb_folder.specs.Chains.{Plain, Back, Names, IsAllowed, tree_at}
use Rattle.kb_folder.specs.Stands.{HaveSeqs, keys_to}
use Rattle.kb_snap.specs.Lawful.{CountsFrom}
use Rattle.kb_folder.specs.Puts.{Held}
use Rattle.kb_folder.specs.Lands.{Extends}
use Rattle.kb_folder.specs.Goes.{HasChain, IsFor}
use Rattle.kb_folder.proofs.Turning.{gen_next}
use Rattle.kb_folder.proofs.Standing.{stands_length}
use Rattle.kb_folder.proofs.Determinate.{once}
use Rattle.kb_device.specs.Merging.{Branch, merge_private, merge_revision, merge_plain, merge_ask, IsMergeRequest, IsMerging}
use Rattle.kb_device.proofs.Step.{key_now, tree_then}

module _ (sealed signed : List ℕ → List ℕ → List ℕ) (hashed : List ℕ → List ℕ) (one_plain : (k p q : List ℕ) → sealed k p ≡ sealed k q → p ≡ q) (seed : List ℕ) (names : Names) (f : Held)
    (generation number : ℕ) (head : List ℕ) (b : Branch) (t : Tree) (left : Kept) (request : FolderRequest)
    (made : IsMergeRequest sealed signed hashed (device_secret seed b.device) (folder_key seed generation) generation number head b t left request) where
  abbrev x : Plain
  x = merge_plain (names b.device) b

  have : (ops : List Op) → 0 < length ops → CountsFrom b.first ops → b.first + length ops ≡ b.last + 1 → HaveSeqs b.first b.last ops
  have [] some counts last = absurd (omega (arith, some))
  have (op ∷ ops) some counts last = (counts, last)

  extends : (back : Back) → IsAllowed back b.device → number ≡ length back + 1 → IsMerging sealed hashed seed f (reverse back) generation head (names b.device) b t left → Extends sealed signed hashed seed names f back request x
  extends back allowed next known = record {
    follows = record {
      allowed = allowed;
      own = known.own;
      counts = subst (λ n. CountsFrom n b.ops) known.first known.counts;
      fits = known.fits;
      suits = known.few;
    };
    spells = record {
      revision = with_signature (merge_revision sealed (folder_key seed generation) generation number head b made.root made.mtime) (signed (device_secret seed b.device) (signed_text (merge_revision sealed (folder_key seed generation) generation number head b made.root made.mtime)));
      is = made.is;
      spelled = made.spelled;
      number = next;
      previous = known.head_is;
      kind = refl;
      writer = refl;
      name = refl;
      moment = refl;
      generation = known.generation_is ∙ sym (gen_next x back);
      seqs = have b.ops known.fits.some known.counts known.last;
      bundle = refl;
      signature = refl;
      private = merge_private made.root made.mtime b.base b.ops;
      is_private = made.is_private;
      opens = refl;
      base = refl;
      ops = refl;
    };
    held = λ blocks kept stored.
        let tree : t ≡ tree_at (x ∷ back) (length (x ∷ back)) = known.tree ∙ ap (λ u. plain.merged_tree (plain.tree_at (reverse back) b.base) u (fold_ops b.ops (plain.tree_at (reverse back) b.base)) (plain.stamp_of x 1 b.ops)) (sym (newest_is (reverse back))) ∙ sym (tree_then x back) in
        subst (λ (u : Tree). HoldsTree (Opens sealed hashed blocks (keys_to seed generation)) made.root made.mtime u) tree (record {
          formed = made.formed;
          timed = made.timed;
          held = made.held blocks (keys_to seed generation) (key_now seed generation made.is.rules.generation.0) stored
              (λ q p at. row_within (Opens sealed hashed (get f.blocks) (keys_to seed generation)) (Opens sealed hashed blocks (keys_to seed generation)) (opens_kept sealed hashed (get f.blocks) blocks (keys_to seed generation) kept) (look t) q p (known.held q p at));
        });
    halves = made.halves;
  }

  pub for_merge : (c : Chain) → HasChain sealed signed hashed seed names f c → (1 ≤ b.device) × (b.device ≤ f.state.registered) → number ≤ length c + 1 → (number ≡ length c + 1 → IsMerging sealed hashed seed f c generation head (names b.device) b t left)
      → IsFor sealed signed hashed seed names f request (merge_ask number (names b.device) b)
  for_merge c has registered most known =
      let size : length f.revisions ≡ length has.back = stands_length sealed signed hashed seed names f.state.registered (get f.blocks) f.revisions has.back has.stands.stands in
      let long : length c ≡ length has.back = ap length has.turned ∙ length-reverse has.back in
      record {
        within = omega (arith, size, long, most);
        own = λ back stands.
            let same : has.back ≡ back = once sealed signed hashed one_plain seed names f.state.registered (get f.blocks) f.revisions has.back back has.stands.stands stands.stands in
            record {
              revision = with_signature (merge_revision sealed (folder_key seed generation) generation number head b made.root made.mtime) (signed (device_secret seed b.device) (signed_text (merge_revision sealed (folder_key seed generation) generation number head b made.root made.mtime)));
              is = made.is;
              spelled = made.spelled;
              writer = refl;
              number_is = refl;
              registered = registered;
              signature = refl;
              extends = λ allowed next.
                  let end : number ≡ length c + 1 = next ∙ ap (λ (e : Back). length e + 1) (sym same) ∙ ap (λ k. k + 1) (sym long) in
                  extends back allowed next (subst (λ (l : Chain). IsMerging sealed hashed seed f l generation head (names b.device) b t left) (has.turned ∙ ap reverse same) (known end));
            };
      }
