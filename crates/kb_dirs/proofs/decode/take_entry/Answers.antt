use Rattle.std.proofs.Common.{sym, ◌∙◌}
use Rattle.kb_dirs.specs.declared.entries.Entry.{Entry}
use Rattle.kb_dirs.specs.Dirs.{entry_text, IsEntry}
use Rattle.kb_dirs.proofs.ReadParts.{passed, no_id, no_kind, no_exec, no_mtime, no_size, no_ptr, not_plain, read_whole}
use Rattle.kb_dirs.proofs.decode.take_entry.Goals as goal

pub returns-in_err-id : goal.returns-in_err-id
returns-in_err-id c = passed {Y = Entry} (λ e. e) entry_text IsEntry _ _ _ _ c.from_residual-in_err-id.ensures.1
    (no_id c.args.reader.now c.take_name.new.reader c.in_ok-name.name c.in_ok-name.ensures.1 c.in_err-id.field-0.0 c.in_err-id.ensures)

pub returns-in_err-kind : goal.returns-in_err-kind
returns-in_err-kind c = passed {Y = Entry} (λ e. e) entry_text IsEntry _ _ _ _ c.from_residual-in_err-kind.ensures.1
    (no_kind c.args.reader.now c.take_name.new.reader c.take_node.new.reader c.in_ok-name.name c.in_ok-id.id c.in_ok-name.ensures.1 c.in_ok-id.ensures.0 c.in_ok-id.ensures.1 c.in_err-kind.field-0.0 c.in_err-kind.ensures)

pub returns-in_err-exec : goal.returns-in_err-exec
returns-in_err-exec c = passed {Y = Entry} (λ e. e) entry_text IsEntry _ _ _ _ c.from_residual-in_err-exec.ensures.1
    (no_exec c.args.reader.now c.take_name.new.reader c.take_node.new.reader c.take_kind.new.reader c.in_ok-name.name c.in_ok-id.id c.in_ok-kind.kind c.in_ok-name.ensures.1 c.in_ok-id.ensures.0 c.in_ok-id.ensures.1 c.in_ok-kind.ensures.1 c.in_err-exec.field-0.0 c.in_err-exec.ensures)

pub returns-in_err-mtime : goal.returns-in_err-mtime
returns-in_err-mtime c = passed {Y = Entry} (λ e. e) entry_text IsEntry _ _ _ _ c.from_residual-in_err-mtime.ensures.1
    (no_mtime c.args.reader.now c.take_name.new.reader c.take_node.new.reader c.take_kind.new.reader c.take_flag.new.reader c.in_ok-name.name c.in_ok-id.id c.in_ok-kind.kind c.in_ok-exec.exec c.in_ok-name.ensures.1 c.in_ok-id.ensures.0 c.in_ok-id.ensures.1 c.in_ok-kind.ensures.1 c.in_ok-exec.ensures.1 c.in_err-mtime.field-0.0 c.in_err-mtime.ensures)

pub returns-in_err-size : goal.returns-in_err-size
returns-in_err-size c = passed {Y = Entry} (λ e. e) entry_text IsEntry _ _ _ _ c.from_residual-in_err-size.ensures.1
    (no_size c.args.reader.now c.take_name.new.reader c.take_node.new.reader c.take_kind.new.reader c.take_flag.new.reader c.take_moment.new.reader c.in_ok-name.name c.in_ok-id.id c.in_ok-kind.kind c.in_ok-exec.exec c.in_ok-mtime.mtime
    c.in_ok-name.ensures.1 c.in_ok-id.ensures.0 c.in_ok-id.ensures.1 c.in_ok-kind.ensures.1 c.in_ok-exec.ensures.1 c.in_ok-mtime.ensures.0 c.in_ok-mtime.ensures.1 c.in_err-size.field-0.0 c.in_err-size.ensures)

pub returns-in_err-ptr : goal.returns-in_err-ptr
returns-in_err-ptr c = passed {Y = Entry} (λ e. e) entry_text IsEntry _ _ _ _ c.from_residual-in_err-ptr.ensures.1
    (no_ptr c.args.reader.now c.take_name.new.reader c.take_node.new.reader c.take_kind.new.reader c.take_flag.new.reader c.take_moment.new.reader c.take_u32.new.reader c.in_ok-name.name c.in_ok-id.id c.in_ok-kind.kind c.in_ok-exec.exec c.in_ok-mtime.mtime c.in_ok-size.size
    c.in_ok-name.ensures.1 c.in_ok-id.ensures.0 c.in_ok-id.ensures.1 c.in_ok-kind.ensures.1 c.in_ok-exec.ensures.1 c.in_ok-mtime.ensures.0 c.in_ok-mtime.ensures.1 c.in_ok-size.ensures.0 c.in_ok-size.ensures.1 c.in_err-ptr.field-0.0 c.in_err-ptr.ensures)

pub returns-then-not-is_plain : goal.returns-then-not-is_plain
returns-then-not-is_plain c = not_plain c.args.reader.now c.take_name.new.reader c.take_node.new.reader c.take_kind.new.reader c.take_flag.new.reader c.take_moment.new.reader c.take_u32.new.reader c.in_ok-name.name c.in_ok-id.id c.in_ok-kind.kind c.in_ok-exec.exec c.in_ok-mtime.mtime c.in_ok-size.size
    c.in_ok-name.ensures.1 c.in_ok-id.ensures.0 c.in_ok-id.ensures.1 c.in_ok-kind.ensures.1 c.in_ok-exec.ensures.1 c.in_ok-mtime.ensures.0 c.in_ok-mtime.ensures.1 c.in_ok-size.ensures.0 c.in_ok-size.ensures.1 (sym c.is_plain.ensures ∙ c.if-not-is_plain.true)

pub returns : goal.returns
returns c =
    let e : Entry = record { name = c.in_ok-name.name; id = c.in_ok-id.id; kind = c.in_ok-kind.kind; exec = c.in_ok-exec.exec; mtime = c.in_ok-mtime.mtime; size = c.in_ok-size.size; ptr = c.in_ok-ptr.ptr } in (
      record { node = c.in_ok-id.ensures.0; timed = c.in_ok-mtime.ensures.0; sized = c.in_ok-size.ensures.0; fit = c.in_ok-ptr.ensures.0; proper = record { named = c.in_ok-name.ensures.0; plain = sym c.is_plain.ensures ∙ c.if-not-is_plain.false } },
      read_whole c.args.reader.now c.take_name.new.reader c.take_node.new.reader c.take_kind.new.reader c.take_flag.new.reader c.take_moment.new.reader c.take_u32.new.reader c.take_ptr.new.reader e
          c.in_ok-name.ensures.1 c.in_ok-id.ensures.1 c.in_ok-kind.ensures.1 c.in_ok-exec.ensures.1 c.in_ok-mtime.ensures.1 c.in_ok-size.ensures.1 c.in_ok-ptr.ensures.1,
    )
