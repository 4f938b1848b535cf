use Rattle.std.proofs.Common.{◌≤◌, ◌<◌, ◌+◌, length, arith}
use Rattle.std.proofs.lemmas.Grind.{common_steps}
use Rattle.kb_top.proofs.InputsRead.{all_read, cut_read, ended}
use Rattle.kb_top.specs.declared.input.TheConstants.{SCRIPT_LIMIT}
use Rattle.kb_top.proofs.input.read_all.Goals as goal

pub returns-in-Ok-eq0-clause-bytes : goal.returns-in-Ok-eq0-clause-bytes
returns-in-Ok-eq0-clause-bytes g c =
    let room : 0 < length c.read.new.into = grind (arith, common_steps) in
    let few : length c.pieces.bytes.items ≤ SCRIPT_LIMIT + 1 = omega (arith, c.pieces.bytes.ok.0) in
    let e = ended (g.S.Source.left c.pieces.source) (g.S.Source.left c.read.new.self) c.in-Ok-eq0.field-0 c.read.new.into c.in-Ok-eq0.field-0-test room c.in-Ok-eq0.ensures.bytes in
    all_read _ (g.S.Source.left c.pieces.source) (g.S.Source.left c.read.new.self) c.pieces.bytes.items c.pieces.invariant.1 e.0 e.1 few

pub returns-clause-bytes : goal.returns-clause-bytes
returns-clause-bytes g c =
    cut_read _ (g.S.Source.left c.pieces.source) c.pieces.bytes.items c.pieces.invariant.1 (omega (arith, c.pieces.bytes.ok.0))
