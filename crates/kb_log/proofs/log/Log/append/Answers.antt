use Rattle.std.proofs.Common.{◌+◌, ◌-◌, ◌≤◌, length, arith, inl}
use Rattle.std.proofs.lemmas.Result.{err_from_is_err_and}
use Rattle.kb_log.specs.LogList.{used_of, area_size}
use Rattle.kb_log.proofs.Seen.{size_seen, used_seen, used_within, images_seen}
use Rattle.kb_log.proofs.log.Log.append.Goals as goal

pub overflow_sub-free : goal.overflow_sub-free
overflow_sub-free g c =
    omega (arith, used_within g.D.Disk.content g.D.Disk.dirty _ _ _ _ c.self.view_is c.self.invariant c.requires.open)

pub returns-then-need-free-clause-every : goal.returns-then-need-free-clause-every
returns-then-need-free-clause-every g c = λ image may.
    inl (images_seen g.D.Disk.content g.D.Disk.dirty _ _ _ _ c.self.view_is c.self.invariant c.requires.open image may)

pub returns-in_err-append-clause-full : goal.returns-in_err-append-clause-full
returns-in_err-append-clause-full g c =
    let size = size_seen g.D.Disk.content g.D.Disk.dirty _ _ _ _ c.self.view_is c.self.invariant c.requires.open in
    let used = used_seen g.D.Disk.content g.D.Disk.dirty _ _ _ _ c.self.view_is c.self.invariant c.requires.open in
    let fits : 5 + length c.args.payload.now ≤ area_size (length (g.D.Disk.content c.args.self.now.disk)) - used_of c.args.self.now.payloads = omega (arith, size, used) in
    let p = err_from_is_err_and c.from_residual.result c.from_residual.ensures.1 in
    rw (p.1, p.2) fits
