use Rattle.std.proofs.Common.{refl}
use Rattle.kb_name.proofs.Escaping.{escaped_is}
use Rattle.kb_lines.proofs.pieces.escaped.Goals as goal

pub returns : goal.returns
returns c = rw c.percent_encode.ensures.text (escaped_is _ refl c.args.bytes.now)
