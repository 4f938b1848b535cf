use Rattle.std.proofs.Common.{◌+◌, ◌-◌, take, drop, get_or, ap, arith, rules}
use Rattle.kb_log.specs.LogList.{used_of}
use Rattle.kb_log.specs.Pieces.{pieces}
use Rattle.kb_log.proofs.Fill.{ends_within, ends_at, pieces_at, used_cons, still_used}
use Rattle.kb_log.proofs.text.fill.Goals as goal

pub slice_bounds-put_record-end : goal.slice_bounds-put_record-end
slice_bounds-put_record-end c =
    let ends = c.args.ends.now in
    let bytes = c.args.bytes.now in
    let k = c.loop-end.end-index in
    let are = ends_at c.loop-end.from k bytes ends c.loop-end-test.true c.loop-end.invariant.are in
    let above = are.0 in
    let within = ends_within (get_or ends k 0) bytes (drop (k + 1) ends) are.1 in
    search rules

pub put_record-requires-clause-room : goal.put_record-requires-clause-room
put_record-requires-clause-room c =
    let i = c.loop-end.invariant in
    let ends = c.args.ends.now in
    let bytes = c.args.bytes.now in
    let k = c.loop-end.end-index in
    let from = c.loop-end.from in
    let to = get_or ends k 0 in
    let p = take (to - from) (drop from bytes) in
    let rest = pieces to bytes (drop (k + 1) ends) in
    let next = pieces_at from k bytes ends c.loop-end-test.true in
    omega (arith, still_used c.loop-end.text.items (pieces from bytes (drop k ends)) (pieces 0 bytes ends) i.so_far, ap used_of next, used_cons p rest, i.room, c.requires.room)

pub put-requires : goal.put-requires
put-requires c =
    let i = c.loop-end.invariant in
    let rest = pieces c.loop-end.from c.args.bytes.now (drop c.loop-end.end-index c.args.ends.now) in
    omega (arith, still_used c.loop-end.text.items rest (pieces 0 c.args.bytes.now c.args.ends.now) i.so_far, i.room, c.requires.room)
