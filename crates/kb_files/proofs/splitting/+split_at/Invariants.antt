use Rattle.kb_files.specs.Counts.{touched}
use Rattle.std.proofs.Common.{◌≡◌, ◌++◌, ◌*◌, ◌+◌, ◌<◌, ◌≤◌, List, length}
use Rattle.std.specs.List.{AllByRecursion}
use Rattle.kb_files.specs.Files.{InOrder, HoldsAt, IsFit}
use Rattle.kb_files.specs.Splits.{OnceStored, Keeps}
use Rattle.kb_blocks.specs.declared.pointer.Ptr.{Ptr}
use Rattle.kb_files.proofs.splitting.+split_at.Given as goal

abbrev pub decreases-split_at : goal.decreases-split_at
decreases-split_at g l = l.level

abbrev pub invariant-parts : goal.invariant-parts
invariant-parts g l = record {
  holds : OnceStored g.H.BlockHash.hashed g.S.Sealer.sealed l.generation l.key l.made.items (λ vault. (tail : List Ptr) → InOrder (HoldsAt vault l.below) l.size tail l.rest → InOrder (HoldsAt vault l.below) l.size (l.ptrs.items ++ tail) l.bytes);
  kept : Keeps g.H.BlockHash.hashed l.fn.made.items l.made.items;
  fit : AllByRecursion IsFit l.ptrs.items;
  few : length l.ptrs.items ≤ 64;
  begun : length l.ptrs.items ≡ 0 → length l.rest ≡ length l.bytes;
  count : 0 < length l.rest → length l.ptrs.items * l.size + length l.rest ≡ length l.bytes;
  made : length l.made.items + touched l.below 0 (length l.rest) ≡ length l.fn.made.items + touched l.below 0 (length l.bytes);
}

abbrev pub decreases-parts : goal.decreases-parts
decreases-parts g l = length l.rest
