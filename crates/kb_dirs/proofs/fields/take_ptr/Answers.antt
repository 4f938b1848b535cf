use Rattle.std.proofs.Common.{◌<◌, ◌^◌}
use Rattle.kb_wire.specs.Fields.{u32_text}
use Rattle.kb_blocks.specs.declared.pointer.Ptr.{Ptr}
use Rattle.kb_files.specs.Files.{pointer, IsFit}
use Rattle.kb_dirs.proofs.ReadParts.{passed, refused_by, behind_id}
use Rattle.kb_dirs.proofs.fields.take_ptr.Goals as goal

pub returns-in_err-generation : goal.returns-in_err-generation
returns-in_err-generation c = passed {Y = Ptr} (λ p. p) pointer IsFit _ _ _ _ c.from_residual-in_err-generation.ensures.1
    (refused_by pointer IsFit c.args.reader.now u32_text (λ n. n < 2 ^ 32) c.take_hash.new.reader
    (λ p rest fit e. (p.generation, rest, fit.generation, behind_id c.args.reader.now c.in_ok-id.id c.take_hash.new.reader p rest fit c.in_ok-id.ensures.0 c.in_ok-id.ensures.1 e)) c.in_err-generation.field-0.0 c.in_err-generation.ensures)
