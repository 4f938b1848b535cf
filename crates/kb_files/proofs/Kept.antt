-- More blocks keep what a pointer holds, and blocks that were put are stored.
use Rattle.std.proofs.Common.{◌≡◌, ℕ, zero, suc, List, [], ◌∷◌, ◌++◌, Some, length, map, subst, sym, append_assoc, Vec, Global}
use Rattle.std.specs.List.{AllByRecursion}
use Rattle.std.specs.FinMap.{get}
use Rattle.kb_blocks.specs.Stores.{AllFree, stored}
use Rattle.kb_blocks.specs.Stores as stores
use Rattle.kb_blocks.proofs.Puts.{stored_has}
use Rattle.kb_blocks.specs.declared.pointer.Ptr.{Ptr}
use Rattle.kb_files.specs.Opens.{Blocks, Keys, Opens}
use Rattle.kb_files.specs.Files.{Vault, InOrder, HoldsAt, HoldsFile, level_of, span}
use Rattle.kb_files.specs.Splits.{Stored}
use Rattle.kb_files.proofs.Vaults.{opens_kept}

abbrev pub IsWithin : Vault → Vault → Type 0
IsWithin few more = (p : Ptr) (text : List ℕ) → few p text → more p text

pub in_order_kept : (few more : Vault) → IsWithin few more → (size : ℕ) (ps : List Ptr) (bytes : List ℕ) → InOrder few size ps bytes → InOrder more size ps bytes
in_order_kept few more within size [] bytes h = h
in_order_kept few more within size (p ∷ ps) bytes h = (h.0, within p _ h.1, in_order_kept few more within size ps _ h.2)

pub holds_kept : (few more : Vault) → IsWithin few more → (n : ℕ) → IsWithin (HoldsAt few n) (HoldsAt more n)
holds_kept few more within zero p bytes h = within p _ h
holds_kept few more within (suc n) p bytes h = (h.0, h.1, within p _ h.2, in_order_kept (HoldsAt few n) (HoldsAt more n) (holds_kept few more within n) (span n) h.0 bytes h.3)

-- a file stays while blocks are added
pub file_kept : (sealed : List ℕ → List ℕ → List ℕ) (hashed : List ℕ → List ℕ) (old new : Blocks) (keys : Keys) → ((q b : List ℕ) → old q ≡ Some b → new q ≡ Some b)
    → (p : Ptr) (bytes : List ℕ) → HoldsFile (Opens sealed hashed old keys) p bytes → HoldsFile (Opens sealed hashed new keys) p bytes
file_kept sealed hashed old new keys kept p bytes h = record {
  small = h.small;
  held = holds_kept (Opens sealed hashed old keys) (Opens sealed hashed new keys) (opens_kept sealed hashed old new keys kept) (level_of (length bytes)) p bytes h.held;
}

-- all blocks that were put stand under their hashes
pub all_stored : (hashed : List ℕ → List ℕ) (m : stores.Blocks) (before bs : List (List ℕ)) → AllFree hashed m (before ++ bs) → AllByRecursion (λ b. get (stored hashed m (before ++ bs)) (hashed b) ≡ Some b) bs
all_stored hashed m before [] free = tt
all_stored hashed m before (b ∷ bs) free =
    let e = append_assoc before (b ∷ []) bs in (
      stored_has hashed m before bs b free,
      subst (λ l. AllByRecursion (λ c. get (stored hashed m l) (hashed c) ≡ Some c) bs) e (all_stored hashed m (before ++ b ∷ []) bs (subst (AllFree hashed m) (sym e) free)),
    )

pub made_stored : (hashed : List ℕ → List ℕ) (blocks : Blocks) (made : List (Vec ℕ Global)) → AllByRecursion (λ b. blocks (hashed b) ≡ Some b) (map (λ b. b.items) made) → Stored hashed blocks made
made_stored hashed blocks [] h = tt
made_stored hashed blocks (b ∷ made) h = (h.0, made_stored hashed blocks made h.1)
