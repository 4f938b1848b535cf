use Rattle.std.proofs.Common.{◌≤◌, min, length, sym, subst}
use Rattle.kb_ranges.proofs.Writes.{patched_over}
use Rattle.kb_ranges.proofs.parts.left_of.Goals as goal

pub returns-then-min-bytes-clause-tells : goal.returns-then-min-bytes-clause-tells
returns-then-min-bytes-clause-tells g c old h =
    let least : min (length old) c.args.size ≤ length c.args.bytes.now = subst (λ n. min n c.args.size ≤ length c.args.bytes.now) (sym h.0) (subst (λ n. n ≤ length c.args.bytes.now) c.min.ensures c.if-min-bytes.true) in
    patched_over old c.new.result.items c.args.offset c.args.bytes.now c.args.size c.new.ensures.items c.if-offset-eq0.true least
