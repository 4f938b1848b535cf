use Rattle.std.proofs.Common.{◌≡◌, ◌+◌, ◌*◌, ◌<◌, ◌≤◌, length, drop}
use Rattle.std.specs.List.{AllByRecursion}
use Rattle.std.specs.FinMap.{get}
use Rattle.kb_keys.specs.Rings.{key_at}
use Rattle.kb_ops.specs.Trees.{patched}
use Rattle.kb_files.specs.Opens.{Opens}
use Rattle.kb_files.specs.Files.{HoldsAt, IsFit}
use Rattle.kb_files.specs.Splits.{Keeps}
use Rattle.kb_ranges.specs.Patches.{FewBlocks, PartHeld}
use Rattle.kb_ranges.proofs.Left.{Left}
use Rattle.kb_ranges.proofs.Numbers.{Numbers, Counted}
use Rattle.kb_ranges.proofs.Refusing.{Ahead}
use Rattle.kb_ranges.proofs.patching.+patch_at.Given as goal

abbrev pub decreases-patch_at : goal.decreases-patch_at
decreases-patch_at g l = l.level

abbrev pub invariant-parts : goal.invariant-parts
invariant-parts g l = record {
  numbers : Numbers l.level l.fn.part.level l.old_left l.start (length l.rest) l.left;
  patches : (few : FewBlocks)
      → PartHeld g.S.Sealer.sealed g.H.BlockHash.hashed (get l.store) (key_at l.keys) l.fn.part few
      → Left g.H.BlockHash.hashed g.S.Sealer.sealed few.0 (key_at l.keys) l.made.items (HoldsAt (Opens g.S.Sealer.sealed g.H.BlockHash.hashed few.0 (key_at l.keys)) l.lower) l.below l.each (drop (length l.new.items) l.ptrs.items) l.new.items l.old_left l.start l.rest l.left (patched few.1 l.offset l.bytes l.size)
      × Counted l.below l.fn.part.size l.offset (length l.bytes) l.size (length l.fn.made.items) l.old_left l.start (length l.rest) l.left (length l.made.items);
  ahead : Ahead (Opens g.S.Sealer.sealed g.H.BlockHash.hashed (get l.store) (key_at l.keys)) (get l.store) l.lower l.each l.ptrs.items l.fn.part.size l.offset (length l.bytes) l.size (length l.new.items) l.old_left l.start (length l.rest) l.left;
  kept : Keeps g.H.BlockHash.hashed l.fn.made.items l.made.items;
  fit : AllByRecursion IsFit l.new.items;
  few : length l.new.items ≤ 64;
  begun : length l.new.items ≡ 0 → l.left ≡ l.size;
  count : 0 < l.left → length l.new.items * l.each + l.left ≡ l.size;
}

abbrev pub decreases-parts : goal.decreases-parts
decreases-parts g l = l.left
