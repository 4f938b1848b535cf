use Rattle.std.proofs.Common.{◌≡◌, ◌≤◌, length, map, take, vec_len, vec_capacity}
use Rattle.kb_blocks.specs.Stores.{stored, AllFree, undone}
use Rattle.kb_blocks.proofs.store.Store.put_all.Given as goal

abbrev pub invariant-loop-i : goal.invariant-loop-i
invariant-loop-i g l = record {
  room : (vec_len l.added ≤ l.i) × (vec_capacity l.added ≡ length l.blocks);
  free : AllFree g.H.BlockHash.hashed l.fn.self (map (λ b. b.items) (take l.i l.blocks));
  held : l.self ≡ stored g.H.BlockHash.hashed l.fn.self (map (λ b. b.items) (take l.i l.blocks));
  back : undone l.added.items l.self ≡ l.fn.self;
}
