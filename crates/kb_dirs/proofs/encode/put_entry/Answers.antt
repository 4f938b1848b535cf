use Rattle.kb_wire.specs.Fields.{u32_text, u64_text}
use Rattle.kb_ops.specs.Grammar.{node_text, name_text, kind_text, flag_text}
use Rattle.kb_ops.proofs.Appends.{in_turn}
use Rattle.kb_files.specs.Files.{pointer}
use Rattle.kb_dirs.proofs.encode.put_entry.Goals as goal

pub returns-clause-text : goal.returns-clause-text
returns-clause-text c =
    let e = c.args.entry.now in
    in_turn _ _ _ (name_text e.name) _ c.in_ok-put_name.ensures
    (in_turn _ _ _ (node_text e.id) _ c.in_ok-put_node.ensures.text
    (in_turn _ _ _ (kind_text e.kind) _ c.in_ok-put_kind.ensures
    (in_turn _ _ _ (flag_text e.exec) _ c.in_ok-put_flag.ensures
    (in_turn _ _ _ (u64_text e.mtime) _ c.in_ok-put_moment.ensures.text
    (in_turn _ _ _ (u32_text e.size) (pointer e.ptr) c.in_ok-u32.ensures.ok c.in_ok-put_ptr.ensures.text)))))
