use Rattle.std.proofs.Common.{◌≡◌, ◌+◌, length, arith}
use Rattle.kb_journal.proofs.Pushed.{pushed_ends, pushed_pieces}
use Rattle.kb_journal.proofs.pieces.add.Goals as goal

pub returns-clause-are : goal.returns-clause-are
returns-clause-are c =
    let is : c.len.result ≡ length c.args.bytes.now.items + length c.args.payload.now = omega (arith, c.len.ensures, c.put.ensures.len) in
    pushed_ends _ _ c.args.payload.now _ _ c.len.result c.put.ensures.items c.put_end.ensures.items is c.requires.are

pub returns-clause-pieces : goal.returns-clause-pieces
returns-clause-pieces c =
    let is : c.len.result ≡ length c.args.bytes.now.items + length c.args.payload.now = omega (arith, c.len.ensures, c.put.ensures.len) in
    pushed_pieces _ _ c.args.payload.now _ _ c.len.result c.put.ensures.items c.put_end.ensures.items is c.requires.are
