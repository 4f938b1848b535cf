-- What a device keeps of its known revision is so while the folder grows, and is enough for a request.
use Rattle.std.proofs.Common.{◌≡◌, ℕ, suc, ◌+◌, ◌-◌, ◌≤◌, List, [], ◌∷◌, ◌++◌, length, drop, Some, Ok, inl, inr, sym, ap, subst, ◌∙◌, arith, length-append}
use Rattle.std.specs.FinMap.{get}
use Rattle.std.proofs.lemmas.List.{length-reverse, take-append-le, take_all}
use Rattle.kb_name.specs.declared.ids.NodeId.{NodeId}
use Rattle.kb_ops.specs.declared.rows.Op.{Op}
use Rattle.kb_ops.specs.Trees.{Tree, look, fold_ops, Fits, new_id}
use Rattle.std.specs.List.{AllByRecursion}
use Rattle.sha2.specs.Sha256.{sha256}
use Rattle.kb_keys.specs.Secrets.{folder_key}
use Rattle.kb_files.specs.Opens.{Opens}
use Rattle.kb_files.proofs.Kept.{all_stored}
use Rattle.kb_snap.specs.Builds.{OnceAllStored}
use Rattle.kb_chain.specs.declared.states.FolderRequest.{FolderRequest}
use Rattle.kb_device.proofs.Step.{key_now}
use Rattle.kb_snap.specs.Holds.{Holds}
use Rattle.kb_snap.specs.Pointers.{Kept, AllHold}
use Rattle.kb_snap.specs.Chains.{Chain, tree_at}
use Rattle.kb_snap.specs.Members.{generation_from, generation_of}
use Rattle.kb_snap.proofs.Chains.{tree_longer}
use Rattle.kb_folder.specs.Chains.{Plain, Names}
use Rattle.kb_folder.specs.Stands.{Revisions, head_of, keys_to}
use Rattle.kb_folder.specs.Puts.{Held, Puts}
use Rattle.kb_folder.specs.Goes.{HasChain, Grows}
use Rattle.kb_folder.proofs.Standing.{stands_length}
use Rattle.kb_ranges.specs.Patches.{StaysIn}
use Rattle.kb_device.specs.Caches.{Cache, known_in, Takes}
use Rattle.kb_device.specs.Left.{left_of}
use Rattle.kb_device.specs.Knowing.{KnowsFolder}
use Rattle.kb_device.specs.Remembering.{hash_at, Remembers}
use Rattle.kb_device.proofs.Touched.{left_holds}
use Rattle.kb_device.proofs.Shared.{known_there, known_longer, known_taken, takes_all, known_all, all_within}

hash_longer : (b : List ℕ) (bs : Revisions) (known : ℕ) → known ≤ length bs → hash_at (b ∷ bs) known ≡ hash_at bs known
hash_longer b bs known le = ap (λ n. head_of (drop n (b ∷ bs))) (let e : suc (length bs) - known ≡ suc (length bs - known) = omega (arith, le) in e)

hash_last : (bs : Revisions) (known : ℕ) → known ≡ length bs → hash_at bs known ≡ head_of bs
hash_last bs known e = ap (λ n. head_of (drop n bs)) (let none : length bs - known ≡ 0 = omega (arith, e) in none)

module _ (sealed signed : List ℕ → List ℕ → List ℕ) (hashed : List ℕ → List ℕ) (seed : List ℕ) (names : Names) where
  size : (f : Held) (c : Chain) → HasChain sealed signed hashed seed names f c → length c ≡ length f.revisions
  size f c has = ap length has.turned ∙ length-reverse has.back ∙ sym (stands_length sealed signed hashed seed names f.state.registered (get f.blocks) f.revisions has.back has.stands.stands)

  module _ (f new : Held) (c more : Chain) (known : ℕ) (hash : List ℕ) (generation : ℕ) (kept : Kept) (cache : Cache) (has : HasChain sealed signed hashed seed names f c) (old : Remembers sealed hashed seed f c known hash generation kept cache) where
    -- whatever keeps the hash and the blocks
    stays : hash_at new.revisions known ≡ hash_at f.revisions known → ((id b : List ℕ) → get f.blocks id ≡ Some b → get new.blocks id ≡ Some b) → Remembers sealed hashed seed new (c ++ more) known hash generation kept cache
    stays same blocks = record {
      within = more_than c more known old.within;
      hash_is = old.hash_is ∙ sym same;
      generation_is = old.generation_is ∙ ap (generation_from 0) (sym (take-append-le known c more old.within));
      held = subst (λ (t : Tree). AllHold (Opens sealed hashed (known_in cache (get new.blocks)) (keys_to seed generation)) (look t) kept) (sym (tree_longer c more known old.within))
          (all_within sealed hashed (known_in cache (get f.blocks)) (known_in cache (get new.blocks)) (keys_to seed generation) (look (tree_at c known)) kept (known_longer cache (get f.blocks) (get new.blocks) blocks) old.held);
    }
      where
        more_than : (c more : Chain) (known : ℕ) → known ≤ length c → known ≤ length (c ++ more)
        more_than c more known le = let e = length-append c more in omega (arith, e, le)

    pub longer : Grows f new → Remembers sealed hashed seed new (c ++ more) known hash generation kept cache
    longer (inl e) = stays (ap (λ (g : Held). hash_at g.revisions known) e) (λ id b at. ap (λ (g : Held). get g.blocks id) e ∙ at)
    longer (inr p) = stays (ap (λ bs. hash_at bs known) p.revisions ∙ hash_longer p.bytes f.revisions known (let le = old.within in let e = size f c has in omega (arith, le, e))) p.blocks

  pub gives : (f : Held) (c : Chain) (known : ℕ) (hash : List ℕ) (generation : ℕ) (kept left : Kept) (cache : Cache) (op : Op) → HasChain sealed signed hashed seed names f c → Remembers sealed hashed seed f c known hash generation kept cache → known ≡ length c
      → Fits op (tree_at c known) → ((q : NodeId) → get left q ≡ left_of (tree_at c known) op.change q (get kept q)) → KnowsFolder sealed hashed seed f c generation hash (fold_ops (op ∷ []) (tree_at c known)) left
  gives f c known hash generation kept left cache op has old last fits is = record {
    head_is = old.hash_is ∙ hash_last f.revisions known (last ∙ size f c has);
    generation_is = old.generation_is ∙ ap (generation_from 0) (take_all known c (omega (arith, last)));
    held = left_holds (Opens sealed hashed (get f.blocks) (keys_to seed generation)) (tree_at c known) (new_id op) op.moment op.change kept left fits is
        (all_within sealed hashed (known_in cache (get f.blocks)) (get f.blocks) (keys_to seed generation) (look (tree_at c known)) kept (known_there cache (get f.blocks)) old.held);
  }

  pub taken : (f new : Held) (c : Chain) (x : Plain) (request : FolderRequest) (n generation : ℕ) (t : Tree) (left pointers : Kept) (was cache : Cache) → HasChain sealed signed hashed seed names f c → Puts signed hashed f request new (Ok n)
      → t ≡ tree_at (c ++ x ∷ []) (length c + 1) → generation ≡ generation_of (c ++ x ∷ []) → 1 ≤ generation → Takes hashed was request.blocks cache → AllHold (Opens sealed hashed (known_in was (get f.blocks)) (keys_to seed generation)) (look t) left
      → OnceAllStored hashed sealed generation (folder_key seed generation) request.blocks (λ vault. AllHold vault (look t) left → AllHold vault (look t) pointers)
      → Remembers sealed hashed seed new (c ++ x ∷ []) (length c + 1) (sha256 request.revision) generation pointers cache
  taken f new c x request n generation t left pointers was cache has added tree generation_is some takes held once =
      let longer : length (c ++ x ∷ []) ≡ length c + 1 = length-append c (x ∷ []) in
      let old = size f c has in
      let here : length c + 1 ≡ length (request.revision ∷ f.revisions) = omega (arith, old) in
      let stored : AllByRecursion (λ b. get new.blocks (hashed b) ≡ Some b) request.blocks = subst (λ m. AllByRecursion (λ b. get m (hashed b) ≡ Some b) request.blocks) (sym added.blocks) (all_stored hashed f.blocks [] request.blocks added.free) in
      let both : StaysIn (known_in was (get f.blocks)) (known_in cache (get new.blocks)) = λ id b at. known_longer cache (get f.blocks) (get new.blocks) added.kept id b (known_taken hashed was cache request.blocks (get f.blocks) takes id b at) in
      let all = once (known_in cache (get new.blocks)) (keys_to seed generation) (key_now seed generation some) (known_all hashed cache (get new.blocks) request.blocks (takes_all hashed was cache request.blocks takes) stored)
      (all_within sealed hashed (known_in was (get f.blocks)) (known_in cache (get new.blocks)) (keys_to seed generation) (look t) left both held) in
      record {
        within = omega (arith, longer);
        hash_is = sym (ap (λ bs. hash_at bs (length c + 1)) added.revisions ∙ hash_last (request.revision ∷ f.revisions) (length c + 1) here);
        generation_is = generation_is ∙ sym (ap (generation_from 0) (take_all (length c + 1) (c ++ x ∷ []) (omega (arith, longer))));
        held = λ q p at. subst (λ (u : Tree). Holds (Opens sealed hashed (known_in cache (get new.blocks)) (keys_to seed generation)) (look u) q p) tree (all q p at);
      }
