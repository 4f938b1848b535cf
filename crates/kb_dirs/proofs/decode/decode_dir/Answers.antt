use Rattle.std.proofs.Common.{◌<◌, length, sym, subst, ◌∙◌, arith}
use Rattle.kb_dirs.specs.Dirs.{dir_text, AreEntries}
use Rattle.kb_dirs.specs.Parses.{Refused}
use Rattle.kb_dirs.proofs.Once.{passed_dir, more_behind}
use Rattle.kb_dirs.proofs.decode.decode_dir.Goals as goal

pub returns-in_err-entries : goal.returns-in_err-entries
returns-in_err-entries c = passed_dir _ _ _ c.from_residual.ensures.1
    (subst (λ t. Refused dir_text AreEntries t c.in_err-entries.field-0.0) c.new-reader.ensures c.in_err-entries.ensures)

pub returns-then-left-gt0 : goal.returns-then-left-gt0
returns-then-left-gt0 c =
    let more : 0 < length c.take_dir.new.reader = omega arith in
    more_behind c.args.text.now c.take_dir.new.reader c.in_ok-entries.entries.items c.in_ok-entries.ensures.0 (sym c.new-reader.ensures ∙ c.in_ok-entries.ensures.1) more
