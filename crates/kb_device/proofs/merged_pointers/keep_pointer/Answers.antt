use Rattle.std.proofs.Common.{sym, ◌∙◌}
use Rattle.kb_device.proofs.MergedPointers.{set_done}
use Rattle.kb_device.proofs.merged_pointers.keep_pointer.Goals as goal

pub returns-in-Some : goal.returns-in-Some
returns-in-Some c = set_done c.set.result c.args.left.now c.set.new.self c.args.kept.now c.args.id c.in-Some.ptr (sym c.get.ensures ∙ c.in-Some.is) c.set.ensures.ok
