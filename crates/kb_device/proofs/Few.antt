-- A pick makes few blocks of a file that was written.
use Rattle.std.proofs.Common.{◌≡◌, ◌⊎◌, ℕ, ◌+◌, ◌*◌, ◌/◌, ◌≤◌, true, false, List, [], ◌∷◌, length, take, Option, Some, None, IsSome, is_some, Result, Ok, Err, IfOk, inl, inr, refl, sym, ap, subst, ◌∙◌}
use Rattle.std.specs.FinMap.{get}
use Rattle.kb_name.specs.declared.ids.NodeId.{NodeId}
use Rattle.kb_name.specs.Nodes.{root}
use Rattle.kb_ops.specs.declared.rows.Row.{Row}
use Rattle.kb_ops.specs.declared.rows.Op.{Op}
use Rattle.kb_ops.specs.declared.rows.Change.{Change}
use Rattle.kb_ops.specs.declared.rows.Change.TheVariants.{Sync}
use Rattle.kb_ops.specs.Trees.{Tree, look, apply, fold_ops}
use Rattle.kb_ops.specs.Find.{find_from}
use Rattle.kb_blocks.specs.Stores as stores
use Rattle.kb_keys.specs.Rings.{key_at}
use Rattle.kb_files.specs.Opens.{Opens, Keys}
use Rattle.kb_files.specs.Files.{IsFileOf}
use Rattle.kb_snap.specs.Chains.{Chain}
use Rattle.kb_snap.specs.Pointers.{Kept}
use Rattle.kb_ranges.specs.Patches.{StaysIn, FewBlocks, FileHeld}
use Rattle.kb_folder.specs.Chains.{Names}
use Rattle.kb_folder.specs.Stands.{keys_to}
use Rattle.kb_folder.specs.Puts.{Held}
use Rattle.kb_device.specs.Journals.{Journal, plain}
use Rattle.kb_device.specs.Parts.{Part, IsOpenAt}
use Rattle.kb_device.specs.Caches.{Cache, known_in}
use Rattle.kb_device.specs.Counting.{reach, IsPlainWrite, TakesFew}
use Rattle.kb_device.specs.Patching.{MakesFew, StepMakes, IsOldOf, HasSize}
use Rattle.kb_device.specs.Inside.{Inside, IsRunning, PointsBeside, HasDone}
use Rattle.kb_device.specs.Picking.{Picks, PickDoes, GoesAhead}
use Rattle.kb_device.specs.Few.{PicksFew}
use Rattle.kb_device.specs.Stands.{Member, DeviceStands, SessionStands, RingStands}
use Rattle.kb_device.specs.declared.answers.PickFault.{PickFault}
use Rattle.kb_device.specs.declared.answers.Picked.{Picked}
use Rattle.kb_device.specs.declared.patching.OldFile.{OldFile}
use Rattle.kb_device.proofs.Running.{goes_beside}
use Rattle.kb_device.proofs.Shared.{known_cached}
use Rattle.kb_device.proofs.Picks.{inside_at, sized_of, done_base, grounds_of}

some_there : (o : Option OldFile) → IsSome o → (old : OldFile) × (o ≡ Some old)
some_there None h = let bad : false ≡ true = h in cc
some_there (Some old) h = (old, refl)

same_op : (op other : Op) (rest more : List Op) → op ∷ rest ≡ other ∷ more → op ≡ other
same_op op other rest more e = cc

row_one : (r row : Row) → Some r ≡ Some row → r ≡ row
row_one r row e = cc

cached : (cache : Cache) → IsSome cache → (m : stores.Blocks) × (cache ≡ Some m)
cached None has = let bad : false ≡ true = has in cc
cached (Some m) has = (m, refl)

same_inside : (u s : Inside) → Some u ≡ Some s → u ≡ s
same_inside u s e = cc

-- the journal that an open part has is one
one_journal : (j k : Journal) → j ∷ [] ≡ k ∷ [] → j ≡ k
one_journal j k e = cc

module _ (sealed : List ℕ → List ℕ → List ℕ) (hashed : List ℕ → List ℕ) (few_law : TakesFew sealed hashed) where
  -- by plain values: a step that patched the old file from a cache
  made_few : (m : stores.Blocks) (ring : Keys) (generation : ℕ) (t : Tree) (left : Kept) (node : NodeId) (offset : ℕ) (bytes : List ℕ) (long : ℕ) (old : OldFile) (blocks : List (List ℕ)) (pointers : Kept)
      → (cache : Cache) (change : Change) (written : Option OldFile) → cache ≡ Some m → change ≡ Sync node offset bytes long → written ≡ Some old → StepMakes sealed hashed cache ring generation t left change written blocks pointers
      → MakesFew sealed hashed (get m) ring generation t left node old.ptr old.size offset bytes long blocks pointers
  made_few m ring generation t left node offset bytes long old blocks pointers cache change written has is there makes =
      subst (λ (o : Option OldFile). StepMakes sealed hashed (Some m) ring generation t left (Sync node offset bytes long) o blocks pointers) there
      (subst (λ (x : Change). StepMakes sealed hashed (Some m) ring generation t left x written blocks pointers) is
      (subst (λ (x : Cache). StepMakes sealed hashed x ring generation t left change written blocks pointers) has makes))

module _ (sealed signed : List ℕ → List ℕ → List ℕ) (hashed : List ℕ → List ℕ) (few_law : TakesFew sealed hashed) (seed : List ℕ) (names : Names) where
  picked_few : (v : Member) (secret : List ℕ) (s t : Inside) → v.inside ≡ Some s → IsRunning s → (picked : Picked) → Picks sealed signed hashed secret s picked t → PicksFew sealed signed hashed seed names v picked
  picked_few v secret s t was running picked picks d f c p j op rest node offset bytes long row path u at has stands opened first is there found plain_write = by (cached s.cache (subst (λ (x : Inside). IsSome x.cache) (same_inside u s (sym at ∙ was)) has)) where
    g : GoesAhead s t
    g = picks.ahead

    h : SessionStands sealed signed hashed seed names f c s p
    h = inside_at sealed signed hashed seed names d f c v p s was stands

    journal : j ≡ plain s.journal
    journal = one_journal j (plain s.journal) (sym opened.journal_is ∙ h.at.journal_is)

    same : g.op ≡ op
    same = same_op g.op op g.rest rest (sym g.queue ∙ sym (ap (λ (x : Journal). x.queue) journal) ∙ first)

    change : g.op.change ≡ Sync node offset bytes long
    change = ap (λ (o : Op). o.change) same ∙ is

    base : t.base ≡ apply op p.base
    base = done_base g.op g.rest p.base s.ahead t.ahead s.base t.base s.kept picks.left s.written t.written picks.leaves (h.base ∙ ap (λ l. fold_ops (take s.ahead l) p.base) g.queue) ∙ ap (λ (o : Op). apply o p.base) same

    beside : PointsBeside t.base (Sync node offset bytes long) picks.left t.written
    beside = subst (λ (x : Change). PointsBeside t.base x picks.left t.written) change (goes_beside s t running g picks.left picks.leaves)

    kept : (old : OldFile) × (t.written ≡ Some old)
    kept = some_there t.written beside.1

    old : OldFile
    old = kept.0

    sized : HasSize p.base (Sync node offset bytes long) old
    sized = subst (λ (x : Change). HasSize p.base x old) change (sized_of sealed signed hashed seed names f c p s t picks.left h g picks.leaves old kept.1)

    size : length row.bytes ≡ old.size
    size = ap (λ (r : Row). length r.bytes) (row_one row sized.0 (sym there ∙ sized.1.0)) ∙ sized.1.1

    generation : t.generation ≡ s.generation
    generation = ap (λ (x : Inside). x.generation) picks.session

    ring : t.ring ≡ s.ring
    ring = ap (λ (x : Inside). x.ring) picks.session

    keys : key_at t.ring ≡ keys_to seed t.generation
    keys = λ i. λ n. (ap (λ r. key_at r n) ring ∙ h.ring n ∙ ap (λ k. keys_to seed k n) (sym generation)) i

    over : IsOldOf (Opens sealed hashed (known_in s.cache (get f.blocks)) (key_at t.ring)) t.base (Sync node offset bytes long) old
    over = subst (λ (k : Keys). IsOldOf (Opens sealed hashed (known_in s.cache (get f.blocks)) k) t.base (Sync node offset bytes long) old) (sym keys)
        (subst (λ (x : Change). IsOldOf (Opens sealed hashed (known_in s.cache (get f.blocks)) (keys_to seed t.generation)) t.base x old) change ((grounds_of sealed signed hashed seed names f c p s t picks.left h g picks.leaves generation).file old kept.1))

    few : FewBlocks
    few = (known_in s.cache (get f.blocks), over.was)

    held : (m : stores.Blocks) → s.cache ≡ Some m → FileHeld sealed hashed (get m) (key_at t.ring) old.size old.ptr few
    held m has = (subst (λ (x : Cache). StaysIn (known_in x (get f.blocks)) (get m)) (sym has) (known_cached (Some m) (get f.blocks)), over.file)

    by : (m : stores.Blocks) × (s.cache ≡ Some m) → length picked.request.blocks ≤ 3 * (reach (length row.bytes) offset bytes long / 4096 + 2) + length path
    by (m, is_there) = subst (λ n. length picked.request.blocks ≤ 3 * (reach n offset bytes long / 4096 + 2) + length path) (sym size)
        (few_law (get m) (key_at t.ring) t.generation t.base picks.left node old offset bytes long picked.request.blocks picks.aloft.kept path few picks.made.made.formed
        (made_few sealed hashed few_law m (key_at t.ring) t.generation t.base picks.left node offset bytes long old picked.request.blocks picks.aloft.kept s.cache g.op.change t.written is_there change kept.1 picks.made.few)
        beside.0 (subst (λ (u : Tree). find_from u root path ≡ Ok node) (sym base) found) (held m is_there) (subst (λ n. IsPlainWrite n offset bytes long) size plain_write))

  pub pick_is_few : (v : Member) (secret : List ℕ) (s t : Inside) → v.inside ≡ Some s → IsRunning s → (r : Result Picked PickFault) → PickDoes sealed signed hashed secret s t r → IfOk r (PicksFew sealed signed hashed seed names v)
  pick_is_few v secret s t was running (Ok picked) picks = picked_few v secret s t was running picked picks
  pick_is_few v secret s t was running (Err fault) does = tt
