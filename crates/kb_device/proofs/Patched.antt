-- The blocks of a tree whose file was written.
use Rattle.std.proofs.Common.{◌≡◌, ◌≤◌, ◌≢◌, IsSome, length, refl, ℕ, zero, suc, Bool, true, false, ◌||◌, cond, List, [], ◌∷◌, ◌++◌, map, Option, Some, None, sym, subst, ap, ◌∙◌, inl, inr, Vec, Global}
use Rattle.std.specs.Option.{option_map_or}
use Rattle.std.specs.List.{AllByRecursion}
use Rattle.kb_name.specs.declared.ids.NodeId.{NodeId}
use Rattle.kb_name.specs.Nodes.{root, same_node}
use Rattle.kb_ops.specs.declared.rows.Row.{Row}
use Rattle.kb_ops.specs.Plan.{is_below}
use Rattle.kb_ops.specs.Rows.{Look, meets}
use Rattle.kb_ops.specs.Trees.{Tree, look}
use Rattle.kb_ops.proofs.Nodes.{node_cases, node_self}
use Rattle.kb_blocks.specs.declared.pointer.Ptr.{Ptr}
use Rattle.kb_files.specs.Opens.{Blocks, Keys, Opens}
use Rattle.kb_files.specs.Files.{HoldsFile, level_of}
use Rattle.kb_files.specs.Counts.{touched}
use Rattle.kb_files.proofs.Kept.{made_stored}
use Rattle.kb_snap.specs.Holds.{Holds}
use Rattle.kb_snap.specs.Pointers.{Kept, AllHold}
use Rattle.std.specs.FinMap.{get, insert, len}
use Rattle.std.proofs.lemmas.List.{length-map}
use Rattle.kb_snap.specs.Builds.{OnceAllStored, IsMade}
use Rattle.kb_snap.proofs.Sealing.{set_here, set_other}
use Rattle.kb_ranges.specs.Patches.{FewBlocks, Covers, FileHeld, PatchesFile}
use Rattle.kb_snap.proofs.Sets.{opens_more, set_holds}
use Rattle.kb_device.specs.Left.{AreOf}
use Rattle.kb_device.specs.Caches.{Cache}
use Rattle.kb_device.specs.Patching.{BuildsWritten, MakesFew, BuildsStep, MakesRest, StepMakes}
use Rattle.kb_device.specs.declared.patching.OldFile.{OldFile}
use Rattle.kb_ops.specs.declared.rows.Change.{Change}
use Rattle.kb_ops.specs.declared.rows.Change.TheVariants.{Create, Remove, Rename, Sync, Exec, Touch}
use Rattle.kb_blocks.specs.Stores as stores
use Rattle.kb_snap.proofs.Kept.{row_within}

all_front : {X : Type 0} (P : X → Type 0) (xs ys : List X) → AllByRecursion P (xs ++ ys) → AllByRecursion P xs
all_front P [] ys a = tt
all_front P (x ∷ xs) ys a = (a.0, all_front P xs ys a.1)

all_behind : {X : Type 0} (P : X → Type 0) (xs ys : List X) → AllByRecursion P (xs ++ ys) → AllByRecursion P ys
all_behind P [] ys a = a
all_behind P (x ∷ xs) ys a = all_behind P xs ys a.1

-- the new file's pointer, for whatever blocks of the store hold the old one
abbrev pub Patched : (List ℕ → List ℕ) → (List ℕ → List ℕ → List ℕ) → Blocks → Keys → ℕ → Ptr → ℕ → List ℕ → ℕ → Ptr → List (Vec ℕ Global) → Type 0
Patched hashed sealed store ring size ptr offset bytes long p made = (few : FewBlocks) → FileHeld sealed hashed store ring size ptr few → PatchesFile hashed sealed few.0 ring size offset bytes long p made few.1

pub builds_written : (sealed : List ℕ → List ℕ → List ℕ) (hashed : List ℕ → List ℕ) (store : Blocks) (ring : Keys) (generation : ℕ) (key : List ℕ) → ring generation ≡ Some key → (t : Tree) (left pointers : Kept) (node : NodeId) (ptr x p : Ptr) (size offset : ℕ) (bytes : List ℕ) (long : ℕ) (made : List (Vec ℕ Global)) (more all : List (List ℕ))
    → Patched hashed sealed store ring size ptr offset bytes long x made
    → OnceAllStored hashed sealed generation key more (λ vault. AllHold vault (look t) (insert left node x) → Holds vault (look t) root p) → OnceAllStored hashed sealed generation key more (λ vault. AllHold vault (look t) (insert left node x) → AllHold vault (look t) pointers)
    → all ≡ map (λ (b : Vec ℕ Global). b.items) made ++ more → BuildsWritten sealed hashed store ring t left node ptr size offset bytes long p all pointers
builds_written sealed hashed store ring generation key has t left pointers node ptr x p size offset bytes long made more all patched tree rows whole few w blocks keys stays known stored =
    let P : List ℕ → Type 0 = λ b. blocks (hashed b) ≡ Some b in
    let both = subst (AllByRecursion P) whole stored in
    let front = made_stored hashed blocks made (all_front P (map (λ (b : Vec ℕ Global). b.items) made) more both) in
    let behind = all_behind P (map (λ (b : Vec ℕ Global). b.items) made) more both in
    let vault = Opens sealed hashed blocks keys in
    let file = (patched few (w.stays, w.file)).holds blocks keys (record { stays = stays; known = known; stored = front }) in
    let held : AllHold vault (look t) (insert left node x) =
    set_holds (Opens sealed hashed few.0 ring) vault (opens_more sealed hashed few.0 blocks ring keys stays known) (look t) left node x w.row w.rows w.there w.no_dir (subst (HoldsFile vault x) (sym w.written) file) in (
      tree blocks keys (known generation key has) behind held,
      rows blocks keys (known generation key has) behind held,
    )

pub makes_few : (sealed : List ℕ → List ℕ → List ℕ) (hashed : List ℕ → List ℕ) (store : Blocks) (ring : Keys) (generation : ℕ) (key : List ℕ) → ring generation ≡ Some key → (t : Tree) (left pointers : Kept) (node : NodeId) (ptr x : Ptr) (size offset : ℕ) (bytes : List ℕ) (long : ℕ) (made : List (Vec ℕ Global)) (more all : List (List ℕ))
    → Patched hashed sealed store ring size ptr offset bytes long x made → IsMade sealed hashed key generation t (insert left node x) pointers more
    → all ≡ map (λ (b : Vec ℕ Global). b.items) made ++ more → MakesFew sealed hashed store ring generation t left node ptr size offset bytes long all pointers
makes_few sealed hashed store ring generation key has t left pointers node ptr x size offset bytes long made more all patched is whole = record {
  key = key;
  known = has;
  set = insert left node x;
  front = map (λ (b : Vec ℕ Global). b.items) made;
  rest = more;
  whole = whole;
  made = is;
  others = λ q ne. set_other left node x q ne;
  few = λ few held. (
    subst IsSome (sym (set_here left node x)) refl,
    λ from to covers. subst (λ n. n ≤ touched (level_of long) from to) (sym (length-map made (λ (b : Vec ℕ Global). b.items))) ((patched few held).count from to covers),
  );
}

-- where no blocks of the store hold the old file, all rows without a pointer are built
pub makes_whole : (sealed : List ℕ → List ℕ → List ℕ) (hashed : List ℕ → List ℕ) (store : Blocks) (ring : Keys) (generation : ℕ) (key : List ℕ) → ring generation ≡ Some key → (t : Tree) (left pointers : Kept) (node : NodeId) (ptr : Ptr) (size offset : ℕ) (bytes : List ℕ) (long : ℕ) (all : List (List ℕ))
    → ((few : FewBlocks) → FileHeld sealed hashed store ring size ptr few → ⊥) → IsMade sealed hashed key generation t left pointers all → MakesFew sealed hashed store ring generation t left node ptr size offset bytes long all pointers
makes_whole sealed hashed store ring generation key has t left pointers node ptr size offset bytes long all refused is = record {
  key = key;
  known = has;
  set = left;
  front = [];
  rest = all;
  whole = refl;
  made = is;
  others = λ q ne. refl;
  few = λ few held. absurd (refused few held);
}

-- ---- the pointers that stay

meets_self : (at : Look) (node : NodeId) (n : ℕ) → meets at node n node ≡ true
meets_self at node zero = node_self node
meets_self at node (suc n) = ap (λ b. b || option_map_or (λ (r : Row). meets at node n r.parent) (at node) false) (node_self node)

dropped : (b : Bool) (o : Option Ptr) (p : Ptr) → b ≡ true → cond b None o ≡ Some p → ⊥
dropped true o p is at = cc
dropped false o p is at = cc

kept : (b : Bool) (o : Option Ptr) (p : Ptr) → cond b None o ≡ Some p → o ≡ Some p
kept true o p at = cc
kept false o p at = at

-- a pointer that was set and forgotten with those above it leaves the others
pub beside_still : (t : Tree) (old set new : Kept) (node : NodeId) (x : Ptr) → set ≡ insert old node x → ((q : NodeId) → get new q ≡ cond (is_below t q node) None (get set q)) → (q : NodeId) → is_below t q node ≡ false → get new q ≡ get old q
beside_still t old set new node x is left q beside = elim (node_cases q node) as (λ _. get new q ≡ get old q) [
  | inl same ↦ absurd (let no : true ≡ false = sym (ap (λ k. meets (look t) k (len t) node) same ∙ meets_self (look t) node (len t)) ∙ beside in cc)
  | inr other ↦ left q ∙ ap (λ b. cond b None (get set q)) beside ∙ ap (λ (m : Kept). get m q) is ∙ set_other old node x q other
]

-- a pointer that was set, and forgotten with those above it
pub still : (t : Tree) (old set new : Kept) (node : NodeId) (x : Ptr) → set ≡ insert old node x → ((q : NodeId) → get new q ≡ cond (is_below t q node) None (get set q)) → AreOf new old
still t old set new node x is left q p at = elim (node_cases q node) as (λ _. get old q ≡ Some p) [
  | inl same ↦ absurd (dropped (is_below t q node) (get set q) p (ap (λ k. meets (look t) k (len t) node) same ∙ meets_self (look t) node (len t)) (sym (left q) ∙ at))
  | inr other ↦ sym (set_other old node x q other) ∙ ap (λ (m : Kept). get m q) (sym is) ∙ kept (is_below t q node) (get set q) p (sym (left q) ∙ at)
]

-- ---- an operation

pub builds_rest : (sealed : List ℕ → List ℕ → List ℕ) (hashed : List ℕ → List ℕ) (cache : Cache) (ring : Keys) (generation : ℕ) (key : List ℕ) → ring generation ≡ Some key → (t : Tree) (left : Kept) (change : Change) (old : Option OldFile) (p : Ptr) (all : List (List ℕ)) (pointers : Kept)
    → OnceAllStored hashed sealed generation key all (λ vault. AllHold vault (look t) left → Holds vault (look t) root p) → OnceAllStored hashed sealed generation key all (λ vault. AllHold vault (look t) left → AllHold vault (look t) pointers)
    → BuildsStep sealed hashed cache ring t left change old p all pointers
builds_rest sealed hashed cache ring generation key has t left change old p all pointers tree rows few within grounds blocks keys stays known stored =
    let vault = Opens sealed hashed blocks keys in
    let held : AllHold vault (look t) left = λ q x at. row_within (Opens sealed hashed few ring) vault (opens_more sealed hashed few blocks ring keys stays known) (look t) q x (grounds.rows q x at) in (
      tree blocks keys (known generation key has) stored held,
      rows blocks keys (known generation key has) stored held,
    )

-- a write of a file whose blocks the cache has
pub builds_over : (sealed : List ℕ → List ℕ → List ℕ) (hashed : List ℕ → List ℕ) (m : stores.Blocks) (ring : Keys) (t : Tree) (left : Kept) (node : NodeId) (offset : ℕ) (bytes : List ℕ) (long : ℕ) (old : OldFile) (p : Ptr) (all : List (List ℕ)) (pointers : Kept)
    → BuildsWritten sealed hashed (get m) ring t left node old.ptr old.size offset bytes long p all pointers → BuildsStep sealed hashed (Some m) ring t left (Sync node offset bytes long) (Some old) p all pointers
builds_over sealed hashed m ring t left node offset bytes long old p all pointers built few within grounds =
    let over = grounds.file old refl in
    built (few, over.was) (record { stays = within; rows = grounds.rows; file = over.file; row = over.row; there = over.there; no_dir = over.no_dir; written = over.written })

-- so it is of an operation that is such a write
pub builds_as : (sealed : List ℕ → List ℕ → List ℕ) (hashed : List ℕ → List ℕ) (cache : Cache) (m : stores.Blocks) (ring : Keys) (t : Tree) (left : Kept) (change : Change) (was : Option OldFile) (node : NodeId) (offset : ℕ) (bytes lent : List ℕ) (long : ℕ) (old : OldFile) (p : Ptr) (all : List (List ℕ)) (pointers : Kept)
    → cache ≡ Some m → was ≡ Some old → change ≡ Sync node offset bytes long → lent ≡ bytes → BuildsWritten sealed hashed (get m) ring t left node old.ptr old.size offset lent long p all pointers → BuildsStep sealed hashed cache ring t left change was p all pointers
builds_as sealed hashed cache m ring t left change was node offset bytes lent long old p all pointers cached there is same built =
    subst (λ (c : Cache). BuildsStep sealed hashed c ring t left change was p all pointers) (sym cached)
    (subst (λ (o : Option OldFile). BuildsStep sealed hashed (Some m) ring t left change o p all pointers) (sym there)
    (subst (λ x. BuildsStep sealed hashed (Some m) ring t left x (Some old) p all pointers) (sym is)
    (builds_over sealed hashed m ring t left node offset bytes long old p all pointers (subst (λ b. BuildsWritten sealed hashed (get m) ring t left node old.ptr old.size offset b long p all pointers) same built))))

-- of an operation that writes no file, the rows without a pointer are built
pub makes_rest : (sealed : List ℕ → List ℕ → List ℕ) (hashed : List ℕ → List ℕ) (cache : Cache) (ring : Keys) (generation : ℕ) (t : Tree) (left : Kept) (change : Change) (old : Option OldFile) (all : List (List ℕ)) (pointers : Kept)
    → ((node : NodeId) (offset : ℕ) (bytes : List ℕ) (long : ℕ) → change ≡ Sync node offset bytes long → ⊥) → MakesRest sealed hashed ring generation t left all pointers → StepMakes sealed hashed cache ring generation t left change old all pointers
makes_rest sealed hashed None ring generation t left change old all pointers other rest = rest
makes_rest sealed hashed (Some m) ring generation t left change None all pointers other rest = rest
makes_rest sealed hashed (Some m) ring generation t left (Create parent name kind bytes) (Some old) all pointers other rest = rest
makes_rest sealed hashed (Some m) ring generation t left (Remove node) (Some old) all pointers other rest = rest
makes_rest sealed hashed (Some m) ring generation t left (Rename node parent name replaced) (Some old) all pointers other rest = rest
makes_rest sealed hashed (Some m) ring generation t left (Sync node offset bytes long) (Some old) all pointers other rest = absurd (other node offset bytes long refl)
makes_rest sealed hashed (Some m) ring generation t left (Exec node on) (Some old) all pointers other rest = rest
makes_rest sealed hashed (Some m) ring generation t left (Touch node mtime) (Some old) all pointers other rest = rest
