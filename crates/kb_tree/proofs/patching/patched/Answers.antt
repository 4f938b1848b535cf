use Rattle.std.proofs.Common.{◌-◌, ◌++◌, length, take, ap, ◌∙◌}
use Rattle.std.specs.Prelude.{replicate}
use Rattle.kb_tree.proofs.Bytes.{given_back}
use Rattle.kb_tree.proofs.patching.patched.Goals as goal

pub returns : goal.returns
returns c =
    given_back c.args.old.items c.args.size c.args.offset c.args.bytes.now c.requires.within c.resize.new.bytes.items c.deref_mut.result.now c.overwrite.new.items c.resize.new.bytes.len
    c.resize.new.bytes.ok.0
    (c.resize.ensures ∙ ap (λ l. take c.args.size l ++ replicate (c.args.size - length l) 0) c.with_room-new.ensures.items)
    c.deref_mut.ensures.value c.overwrite.ensures
