-- Blocks that were copied, and what they hold.
use Rattle.std.proofs.Common.{◌≡◌, ℕ, ◌+◌, ◌<◌, take, get_or, suc, true, false, cond, List, [], ◌∷◌, length, Option, Some, None, is_some, Result, Ok, Err, OnOk, inl, inr, refl, sym, ap, subst, ◌∙◌}
use Rattle.std.specs.List.{AllByRecursion}
use Rattle.std.proofs.lemmas.List.{take_more}
use Rattle.std.specs.FinMap.{get, insert, empty, get-insert, get-empty}
use Rattle.std.specs.Cmp.{eq_by_cmp_equiv}
use Rattle.std.proofs.lemmas.Cmp.{nat_list_cmp_total}
use Rattle.kb_blocks.proofs.Puts.{at_insert}
use Rattle.kb_name.specs.declared.ids.NodeId.{NodeId}
use Rattle.kb_ops.specs.declared.values.Kind.{Kind}
use Rattle.kb_ops.specs.declared.values.Kind.TheVariants.{Dir, File, Link}
use Rattle.kb_ops.specs.declared.rows.Row.{Row}
use Rattle.kb_ops.specs.Rows.{Look}
use Rattle.kb_ops.specs.Trees.{Tree, look, IsWellFormed}
use Rattle.kb_ops.specs.Lists.{tree_of, rises}
use Rattle.kb_ops.proofs.Walks.{row_cases}
use Rattle.kb_blocks.specs.Entries.{id_cmp}
use Rattle.kb_blocks.specs.Stores as stores
use Rattle.kb_blocks.specs.declared.pointer.Ptr.{Ptr}
use Rattle.kb_blocks.specs.declared.store.PutFault.{PutFault}
use Rattle.kb_blocks.specs.declared.store.PutFault.TheVariants as put
use Rattle.kb_files.specs.Files.{Vault, InOrder, HoldsAt, HoldsFile, AreFit, level_of, span, index_text}
use Rattle.kb_files.specs.Opens.{Blocks, Keys, Opens}
use Rattle.kb_files.proofs.Kept.{IsWithin, holds_kept}
use Rattle.kb_files.proofs.Orders.{holds_index}
use Rattle.kb_files.proofs.ReadParts.{IsSingle, index_held}
use Rattle.kb_files.proofs.Vaults.{opens_kept}
use Rattle.kb_dirs.specs.declared.entries.Entry.{Entry}
use Rattle.kb_snap.specs.Holds.{IsOneOf, AreChildren, Holds, HoldsKind, HoldsEach}
use Rattle.kb_snap.specs.Pointers.{Kept, AllHold}
use Rattle.kb_snap.proofs.Forms.{each_holds}
use Rattle.kb_snap.proofs.Kept.{row_within, file_within}
use Rattle.kb_ranges.specs.Patches.{StaysIn}
use Rattle.kb_device.specs.Caches.{Cache, known_in, Copies, IsCopied, FileCopied, KindCopied, RowCopied, Caches, told}
use Rattle.kb_device.specs.declared.caching.CopyFault.{CopyFault}
use Rattle.kb_device.proofs.MergedPointers.{all_next, of_tree}
use Rattle.kb_device.proofs.Shared.{known_both}

-- ---- one block

put_back : (store old : stores.Blocks) (x bytes : List ℕ) → get store x ≡ Some bytes → StaysIn (get old) (get store) → StaysIn (get (insert old x bytes)) (get store)
put_back store old x bytes there within q v = at_insert old x bytes q (λ o. o ≡ Some v → get store q ≡ Some v) (λ same e. ap (get store) same ∙ there ∙ e) (λ e. within q v e)

put_here : (old : stores.Blocks) (x bytes : List ℕ) → get (insert old x bytes) x ≡ Some bytes
put_here old x bytes = get-insert nat_list_cmp_total old x bytes x ∙ ap (λ c. cond c (Some bytes) (get old x)) ((eq_by_cmp_equiv nat_list_cmp_total).refl x)

-- a block that was put
module _ (hashed : List ℕ → List ℕ) (store old new : stores.Blocks) (id bytes : List ℕ) (there : get store id ≡ Some bytes) (own : id ≡ hashed bytes) where
  put_there : (r : Result (List ℕ) PutFault) → stores.Puts hashed old new bytes r → stores.Keeps old new → StaysIn (get old) (get store) → StaysIn (get new) (get store)
  put_there (Ok x) puts keeps within q v at = put_back store old x bytes (ap (get store) (puts.0 ∙ sym own) ∙ there) within q v (ap (λ (m : stores.Blocks). get m q) (sym puts.2) ∙ at)
  put_there (Err (put.Collision at_id)) puts keeps within q v at = within q v (ap (λ (m : stores.Blocks). get m q) (sym puts.2) ∙ at)
  put_there (Err put.Memory) puts keeps within q v at = within q v (ap (λ (m : stores.Blocks). get m q) (sym puts) ∙ at)

  pub put_copies : (r : Result (List ℕ) PutFault) → stores.Puts hashed old new bytes r → stores.Keeps old new → Copies (get store) (get old) (get new)
  put_copies r puts keeps = record { stays = λ q v at. keeps q v at; from = put_there r puts keeps }

  pub put_copied : (r : Result (List ℕ) PutFault) (a : Result (Unit {0}) CopyFault) → a ≡ told r → stores.Puts hashed old new bytes r → OnOk a ((b : List ℕ) → get store id ≡ Some b → get new id ≡ Some b)
  put_copied r a is puts = subst (λ x. OnOk x ((b : List ℕ) → get store id ≡ Some b → get new id ≡ Some b)) (sym is) (by r puts) where
    by : (r : Result (List ℕ) PutFault) → stores.Puts hashed old new bytes r → OnOk (told r) ((b : List ℕ) → get store id ≡ Some b → get new id ≡ Some b)
    by (Ok x) p = λ b at. ap (λ (m : stores.Blocks). get m id) p.2 ∙ ap (get (insert old x bytes)) (own ∙ sym p.0) ∙ put_here old x bytes ∙ sym there ∙ at
    by (Err (put.Collision at_id)) p = tt
    by (Err put.Memory) p = tt

-- ---- a file's blocks

-- the block of a pointer
abbrev pub BlockCopied : Blocks → Blocks → List ℕ → Type 0
BlockCopied store cache id = (b : List ℕ) → store id ≡ Some b → cache id ≡ Some b

module _ (sealed : List ℕ → List ℕ → List ℕ) (hashed : List ℕ → List ℕ) (store : Blocks) (ring : Keys) where
  pub opens_copied : (cache : Blocks) (p : Ptr) → BlockCopied store cache p.id → (text : List ℕ) → Opens sealed hashed store ring p text → Opens sealed hashed cache ring p text
  opens_copied cache p copied text x = record { key = x.key; known = x.known; stored = copied _ x.stored; hash = x.hash }

  pub leaf_copied : (cache : Blocks) (level : ℕ) (p : Ptr) → level ≡ 0 → BlockCopied store cache p.id → IsCopied (Opens sealed hashed store ring) (Opens sealed hashed cache ring) level p
  leaf_copied cache level p e copied = subst (λ n. IsCopied (Opens sealed hashed store ring) (Opens sealed hashed cache ring) n p) (sym e) (λ bytes h. opens_copied cache p copied _ h)

  order_copied : (cache : Blocks) (n size : ℕ) (ps : List Ptr) (bytes : List ℕ) → AllByRecursion (IsCopied (Opens sealed hashed store ring) (Opens sealed hashed cache ring) n) ps
      → InOrder (HoldsAt (Opens sealed hashed store ring) n) size ps bytes → InOrder (HoldsAt (Opens sealed hashed cache ring) n) size ps bytes
  order_copied cache n size [] bytes all h = h
  order_copied cache n size (p ∷ ps) bytes all h = (h.0, all.0 _ h.1, order_copied cache n size ps _ all.1 h.2)

  pub index_copied : IsSingle (Opens sealed hashed store ring) → (cache : Blocks) (level n : ℕ) (p : Ptr) (ps : List Ptr) → level ≡ suc n → BlockCopied store cache p.id → AreFit ps → Opens sealed hashed store ring p (index_text level ps)
      → AllByRecursion (IsCopied (Opens sealed hashed store ring) (Opens sealed hashed cache ring) n) ps → IsCopied (Opens sealed hashed store ring) (Opens sealed hashed cache ring) level p
  index_copied one cache level n p ps e copied fit text all bytes h =
      holds_index (Opens sealed hashed cache ring) level n p ps bytes (index_text level ps) e fit refl (opens_copied cache p copied _ text)
      (order_copied cache n (span n) ps bytes all (index_held (Opens sealed hashed store ring) one level n e p ps fit text bytes h))

  -- copies that grow
  pub block_more : (old new : Blocks) (id : List ℕ) → StaysIn old new → BlockCopied store old id → BlockCopied store new id
  block_more old new id stays copied b at = stays id b (copied b at)

  pub copied_more : (old new : Blocks) (level : ℕ) (p : Ptr) → StaysIn old new → IsCopied (Opens sealed hashed store ring) (Opens sealed hashed old ring) level p → IsCopied (Opens sealed hashed store ring) (Opens sealed hashed new ring) level p
  copied_more old new level p stays copied bytes h = holds_kept (Opens sealed hashed old ring) (Opens sealed hashed new ring) (opens_kept sealed hashed old new ring stays) level p bytes (copied bytes h)

  pub all_more : (old new : Blocks) (level : ℕ) (ps : List Ptr) → StaysIn old new → AllByRecursion (IsCopied (Opens sealed hashed store ring) (Opens sealed hashed old ring) level) ps → AllByRecursion (IsCopied (Opens sealed hashed store ring) (Opens sealed hashed new ring) level) ps
  all_more old new level [] stays all = tt
  all_more old new level (p ∷ ps) stays all = (copied_more old new level p stays all.0, all_more old new level ps stays all.1)

  pub file_copied : (cache : Blocks) (size level : ℕ) (p : Ptr) → level ≡ level_of size → IsCopied (Opens sealed hashed store ring) (Opens sealed hashed cache ring) level p → FileCopied (Opens sealed hashed store ring) (Opens sealed hashed cache ring) size p
  file_copied cache size level p e copied bytes long h = record {
    small = h.small;
    held = subst (λ n. HoldsAt (Opens sealed hashed cache ring) n p bytes) (e ∙ ap level_of (sym long)) (copied bytes (subst (λ n. HoldsAt (Opens sealed hashed store ring) n p bytes) (sym (e ∙ ap level_of (sym long))) h.held));
  }

  -- ---- rows

  pub dir_copied : (cache : Blocks) (p : Ptr) → BlockCopied store cache p.id → (bytes : List ℕ) → KindCopied (Opens sealed hashed store ring) (Opens sealed hashed cache ring) Dir bytes p
  dir_copied cache p copied bytes es h = (h.0, opens_copied cache p copied _ h.1)

  kind_more : (old new : Blocks) (k : Kind) (bytes : List ℕ) (p : Ptr) → StaysIn old new → KindCopied (Opens sealed hashed store ring) (Opens sealed hashed old ring) k bytes p → KindCopied (Opens sealed hashed store ring) (Opens sealed hashed new ring) k bytes p
  kind_more old new Dir bytes p stays copied = λ es h. let d = copied es h in (d.0, opens_kept sealed hashed old new ring stays p _ d.1)
  kind_more old new File bytes p stays copied = λ b long h. file_within (Opens sealed hashed old ring) (Opens sealed hashed new ring) (opens_kept sealed hashed old new ring stays) p b (copied b long h)
  kind_more old new Link bytes p stays copied = λ b long h. file_within (Opens sealed hashed old ring) (Opens sealed hashed new ring) (opens_kept sealed hashed old new ring stays) p b (copied b long h)

  pub rows_more : (old new : Blocks) (kept : Kept) (rows : List Row) → StaysIn old new → AllByRecursion (RowCopied (Opens sealed hashed store ring) (Opens sealed hashed old ring) kept) rows → AllByRecursion (RowCopied (Opens sealed hashed store ring) (Opens sealed hashed new ring) kept) rows
  rows_more old new kept [] stays all = tt
  rows_more old new kept (r ∷ rows) stays all = (λ p at. kind_more old new r.kind r.bytes p stays (all.0 p at), rows_more old new kept rows stays all.1)

  kind_held : (cache : Blocks) (l : Look) (at : NodeId → Option Ptr) (k : Kind) (r : Row) (p : Ptr) → KindCopied (Opens sealed hashed store ring) (Opens sealed hashed cache ring) k r.bytes p → HoldsKind (Opens sealed hashed store ring) l at k r p → HoldsKind (Opens sealed hashed cache ring) l at k r p
  kind_held cache l at Dir r p copied h = (h.0, (copied h.0 h.1.0, h.1.1))
  kind_held cache l at File r p copied h = copied r.bytes refl h
  kind_held cache l at Link r p copied h = copied r.bytes refl h

  -- the tree, row by row
  pub tree_copied : (cache : Blocks) (kept : Kept) (rows : List Row) (t : Tree) → rises rows ≡ true → tree_of rows ≡ t → AllByRecursion (RowCopied (Opens sealed hashed store ring) (Opens sealed hashed cache ring) kept) rows
      → (p : Ptr) → HoldsEach (Opens sealed hashed store ring) (look t) p (get kept) → HoldsEach (Opens sealed hashed cache ring) (look t) p (get kept)
  tree_copied cache kept rows t rise is all p h = record {
    top = h.top;
    each = λ q r there.
        let e = h.each q r there in
        let row = of_tree (RowCopied (Opens sealed hashed store ring) (Opens sealed hashed cache ring) kept) rows t rise is all q r there in
        (e.0, (e.1.0, kind_held cache (look t) (get kept) r.kind r e.0 (row.1 e.0 (ap (get kept) row.0 ∙ e.1.0)) e.1.1));
  }

  -- and as a whole
  pub each_known : (cache : Cache) (t : Tree) (kept : Kept) (p : Ptr) → IsWellFormed t → HoldsEach (Opens sealed hashed (known_in cache store) ring) (look t) p (get kept) → ((q : NodeId) → is_some (get kept q) ≡ is_some (look t q))
      → AllHold (Opens sealed hashed (known_in cache store) ring) (look t) kept
  each_known cache t kept p formed h all q x at = elim (row_cases (look t) q) as (λ _. Holds (Opens sealed hashed (known_in cache store) ring) (look t) q x) [
    | inl (r, is) ↦ each_holds (Opens sealed hashed (known_in cache store) ring) t formed (get kept) h.each q r x is at
    | inr none ↦ absurd (let no : true ≡ false = sym (ap is_some at) ∙ all q ∙ ap is_some none in cc)
  ]

  each_within : (few more : Blocks) (l : Look) (p : Ptr) (at : NodeId → Option Ptr) → StaysIn few more → HoldsEach (Opens sealed hashed few ring) l p at → HoldsEach (Opens sealed hashed more ring) l p at
  each_within few more l p at stays h = record {
    top = h.top;
    each = λ q r there. let e = h.each q r there in (e.0, (e.1.0, by r.kind r e.0 e.1.1));
  }
    where
      by : (k : Kind) (r : Row) (x : Ptr) → HoldsKind (Opens sealed hashed few ring) l at k r x → HoldsKind (Opens sealed hashed more ring) l at k r x
      by Dir r x d = (d.0, ((d.1.0.0, opens_kept sealed hashed few more ring stays x _ d.1.0.1), d.1.1))
      by File r x f = file_within (Opens sealed hashed few ring) (Opens sealed hashed more ring) (opens_kept sealed hashed few more ring stays) x r.bytes f
      by Link r x f = file_within (Opens sealed hashed few ring) (Opens sealed hashed more ring) (opens_kept sealed hashed few more ring stays) x r.bytes f

  pub caches_some : (m : stores.Blocks) (t : Tree) (kept : Kept) → IsWellFormed t → StaysIn (get m) store → ((p : Ptr) → HoldsEach (Opens sealed hashed store ring) (look t) p (get kept) → HoldsEach (Opens sealed hashed (get m) ring) (look t) p (get kept))
      → Caches sealed hashed store ring t kept (Some m)
  caches_some m t kept formed from each p h all =
      each_known (Some m) t kept p formed (each_within (get m) (known_in (Some m) store) (look t) p (get kept) (known_both m store (get m) (λ id b at. at) from) (each p h)) all

  pub caches_none : (t : Tree) (kept : Kept) → IsWellFormed t → Caches sealed hashed store ring t kept None
  caches_none t kept formed p h all = each_known None t kept p formed h all

-- ---- answers

pub copies_more : (store first old new : Blocks) → Copies store first old → Copies store old new → Copies store first new
copies_more store first old new a b = record { stays = λ q v at. b.stays q v (a.stays q v at); from = λ within. b.from (a.from within) }

pub on_file : (sealed : List ℕ → List ℕ → List ℕ) (hashed : List ℕ → List ℕ) (store : Blocks) (ring : Keys) (cache : Blocks) (size level : ℕ) (p : Ptr) → level ≡ level_of size → (r : Result (Unit {0}) CopyFault)
    → OnOk r (IsCopied (Opens sealed hashed store ring) (Opens sealed hashed cache ring) level p) → OnOk r (FileCopied (Opens sealed hashed store ring) (Opens sealed hashed cache ring) size p)
on_file sealed hashed store ring cache size level p e (Ok x) copied = file_copied sealed hashed store ring cache size level p e copied
on_file sealed hashed store ring cache size level p e (Err f) copied = tt

pub on_dir : (sealed : List ℕ → List ℕ → List ℕ) (hashed : List ℕ → List ℕ) (store : Blocks) (ring : Keys) (cache : Blocks) (bytes : List ℕ) (p : Ptr) (r : Result (Unit {0}) CopyFault)
    → OnOk r (BlockCopied store cache p.id) → OnOk r (KindCopied (Opens sealed hashed store ring) (Opens sealed hashed cache ring) Dir bytes p)
on_dir sealed hashed store ring cache bytes p (Ok x) copied = dir_copied sealed hashed store ring cache p copied bytes
on_dir sealed hashed store ring cache bytes p (Err f) copied = tt

pub on_kept : (store cache : Vault) (kept : Kept) (r : Row) (ptr : Ptr) (a : Result (Unit {0}) CopyFault) → get kept r.id ≡ Some ptr → OnOk a (KindCopied store cache r.kind r.bytes ptr) → OnOk a (RowCopied store cache kept r)
on_kept store cache kept r ptr (Ok x) at copied = λ p is. subst (KindCopied store cache r.kind r.bytes) (let e : Some ptr ≡ Some p = sym at ∙ is in let same : ptr ≡ p = cc in same) copied
on_kept store cache kept r ptr (Err f) at copied = tt

-- a new store has no block of another's
pub none_from : (store : Blocks) (m : stores.Blocks) → m ≡ empty → StaysIn (get m) store
none_from store m e q v at = absurd (let no : None ≡ Some v = sym (get-empty id_cmp q) ∙ ap (λ (n : stores.Blocks). get n q) (sym e) ∙ at in cc)

-- one more of a list
pub all_at : {A : Type 0} (P : A → Type 0) (xs : List A) (i : ℕ) (d : A) → i < length xs → AllByRecursion P (take i xs) → P (get_or xs i d) → AllByRecursion P (take (i + 1) xs)
all_at P xs i d lt all h = subst (AllByRecursion P) (sym (take_more xs i d lt)) (all_next P (take i xs) (get_or xs i d) all h)
