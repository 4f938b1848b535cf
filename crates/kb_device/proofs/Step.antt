-- The request that lands one operation is for the machine's ask.
use Rattle.std.proofs.Common.{◌≡◌, ℕ, suc, ◌+◌, ◌≤◌, true, cond, List, [], ◌∷◌, ◌++◌, length, Option, Some, None, refl, sym, ap, subst, ◌∙◌, arith}
use Rattle.std.specs.Prelude.{◌&&◌, nat_le, reverse}
use Rattle.std.specs.FinMap.{get}
use Rattle.std.proofs.lemmas.Bool.Decides.{nat_tests}
use Rattle.std.proofs.lemmas.List.{length-reverse}
use Rattle.kb_ops.specs.declared.rows.Op.{Op}
use Rattle.kb_ops.specs.Trees.{Tree, look, fold_ops}
use Rattle.kb_keys.specs.Secrets.{device_secret, folder_key}
use Rattle.kb_files.specs.Opens.{Opens}
use Rattle.kb_snap.specs.Holds.{HoldsTree}
use Rattle.kb_snap.specs.Pointers.{Kept}
use Rattle.kb_snap.specs.Chains as plain
use Rattle.kb_snap.specs.Chains.{Chain}
use Rattle.kb_snap.proofs.Chains.{tree_next, newest_is}
use Rattle.kb_chain.specs.declared.states.FolderRequest.{FolderRequest}
use Rattle.kb_chain.specs.Revisions.{signed_text, with_signature}
use Rattle.kb_folder.specs.Chains.{Plain, Back, Names, IsAllowed, tree_at}
use Rattle.kb_folder.specs.Stands.{keys_to}
use Rattle.kb_folder.specs.Puts.{Held}
use Rattle.kb_folder.specs.Lands.{Extends}
use Rattle.kb_folder.specs.Goes.{HasChain, IsFor}
use Rattle.kb_folder.proofs.Turning.{turned, gen_next}
use Rattle.kb_folder.proofs.Standing.{stands_length}
use Rattle.kb_folder.proofs.Determinate.{once}
use Rattle.kb_device.specs.Caches.{Cache}
use Rattle.kb_device.specs.declared.patching.OldFile.{OldFile}
use Rattle.kb_device.specs.Stepping.{step_private, step_revision, step_ask, IsStepRequest, IsKnown}

pub key_now : (seed : List ℕ) (g : ℕ) → 1 ≤ g → keys_to seed g g ≡ Some (folder_key seed g)
key_now seed g low = let now : (nat_le 1 g && nat_le g g) ≡ true = grind (arith, nat_tests, low) in ap (λ b. cond b (Some (folder_key seed g)) None) now

-- the tree after the operation
pub tree_then : (x : Plain) (back : Back) → tree_at (x ∷ back) (length (x ∷ back)) ≡ plain.done_on (plain.trees_of (reverse back)) x x.deed
tree_then x back =
    let size : suc (length back) ≡ length (reverse back) + 1 = (let e = length-reverse back in omega (arith, e)) in
    ap (λ l. plain.tree_at l (suc (length back))) (turned x back) ∙ ap (plain.tree_at (reverse back ++ x ∷ [])) size ∙ tree_next (reverse back) x

module _ (sealed signed : List ℕ → List ℕ → List ℕ) (hashed : List ℕ → List ℕ) (one_plain : (k p q : List ℕ) → sealed k p ≡ sealed k q → p ≡ q) (seed : List ℕ) (names : Names) (f : Held)
    (generation number : ℕ) (head : List ℕ) (op : Op) (t : Tree) (left : Kept) (cache : Cache) (old : Option OldFile) (request : FolderRequest)
    (made : IsStepRequest sealed signed hashed (device_secret seed op.device) (folder_key seed generation) generation number head op t left cache (keys_to seed generation) old request) where
  abbrev x : Plain
  x = (step_ask number (names op.device) op).revision

  extends : (back : Back) → IsAllowed back op.device → number ≡ length back + 1 → IsKnown sealed hashed seed f (reverse back) generation head op t left cache old → Extends sealed signed hashed seed names f back request x
  extends back allowed next known = record {
    follows = record {
      allowed = allowed;
      own = (refl, tt);
      counts = (known.seq, tt);
      fits = (omega arith, known.fits, refl, omega arith);
      suits = (λ e. known.some (ap reverse e));
    };
    spells = record {
      revision = with_signature (step_revision sealed (folder_key seed generation) generation number head op made.root made.mtime) (signed (device_secret seed op.device) (signed_text (step_revision sealed (folder_key seed generation) generation number head op made.root made.mtime)));
      is = made.is;
      spelled = made.spelled;
      number = next;
      previous = known.head_is;
      kind = refl;
      writer = refl;
      name = refl;
      moment = refl;
      generation = known.generation_is ∙ sym (gen_next x back);
      seqs = ((refl, tt), refl);
      bundle = refl;
      signature = refl;
      private = step_private made.root made.mtime op;
      is_private = made.is_private;
      opens = refl;
      base = refl;
      ops = refl;
    };
    held = λ blocks kept stored.
        let tree : t ≡ tree_at (x ∷ back) (length (x ∷ back)) = known.tree ∙ ap (fold_ops (op ∷ [])) (sym (newest_is (reverse back))) ∙ sym (tree_then x back) in
        subst (λ (u : Tree). HoldsTree (Opens sealed hashed blocks (keys_to seed generation)) made.root made.mtime u) tree (record {
          formed = made.formed;
          timed = made.timed;
          held = made.held known.few known.cached known.grounds blocks (keys_to seed generation) (λ id b at. kept id b (known.within id b at)) (λ g key at. at) stored;
        });
    halves = made.halves;
  }

  pub for : (c : Chain) → HasChain sealed signed hashed seed names f c → (1 ≤ op.device) × (op.device ≤ f.state.registered) → number ≤ length c + 1 → (number ≡ length c + 1 → IsKnown sealed hashed seed f c generation head op t left cache old)
      → IsFor sealed signed hashed seed names f request (step_ask number (names op.device) op)
  for c has registered most known =
      let size : length f.revisions ≡ length has.back = stands_length sealed signed hashed seed names f.state.registered (get f.blocks) f.revisions has.back has.stands.stands in
      let long : length c ≡ length has.back = ap length has.turned ∙ length-reverse has.back in
      record {
        within = omega (arith, size, long, most);
        own = λ back stands.
            let same : has.back ≡ back = once sealed signed hashed one_plain seed names f.state.registered (get f.blocks) f.revisions has.back back has.stands.stands stands.stands in
            record {
              revision = with_signature (step_revision sealed (folder_key seed generation) generation number head op made.root made.mtime) (signed (device_secret seed op.device) (signed_text (step_revision sealed (folder_key seed generation) generation number head op made.root made.mtime)));
              is = made.is;
              spelled = made.spelled;
              writer = refl;
              number_is = refl;
              registered = registered;
              signature = refl;
              extends = λ allowed next.
                  let end : number ≡ length c + 1 = next ∙ ap (λ (b : Back). length b + 1) (sym same) ∙ ap (λ k. k + 1) (sym long) in
                  extends back allowed next (subst (λ (l : Chain). IsKnown sealed hashed seed f l generation head op t left cache old) (has.turned ∙ ap reverse same) (known end));
            };
      }
