use Rattle.kb_ranges.proofs.Writes.{grown}
use Rattle.kb_ranges.proofs.writing.patched.Goals as goal

pub returns : goal.returns
returns c =
    grown c.args.old.now c.args.bytes.now c.args.offset c.args.size _ c.first.result.now _ _ _ c.requires
    c.in_ok-new.ensures.items c.first.ensures c.in_ok-extend_from_slice.ensures.items c.in_ok-push_zeros.ensures c.put_at.ensures
