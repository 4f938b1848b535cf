use Rattle.std.proofs.Common.{◌≡◌, vec_len}
use Rattle.kb_blocks.specs.Stores.{undone}
use Rattle.kb_blocks.proofs.store.Store.undo.Given as goal

abbrev pub invariant-loop-id : goal.invariant-loop-id
invariant-loop-id g l = undone l.ids.items l.self ≡ undone l.initial.ids.items l.initial.self

abbrev pub decreases-loop-id : goal.decreases-loop-id
decreases-loop-id g l = vec_len l.ids
