use Rattle.std.proofs.Common.{append_assoc}
use Rattle.kb_lines.proofs.rendering.push_queue.Goals as goal

pub returns : goal.returns
returns c = simp append_assoc (rw (c.escaped-device.ensures, c.bytes.ensures.value) at c.write.ensures.bytes)
