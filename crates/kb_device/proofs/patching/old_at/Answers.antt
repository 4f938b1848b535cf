use Rattle.std.proofs.Common.{◌≡◌, Some, length, sym, ap, subst, ◌∙◌}
use Rattle.kb_device.specs.Patching.{IsOldAt}
use Rattle.kb_device.specs.declared.patching.OldFile.{OldFile}
use Rattle.kb_device.proofs.patching.old_at.Goals as goal

pub returns-clause-is : goal.returns-clause-is
returns-clause-is c old is =
    let this : OldFile = record { ptr = c.in-Some.ptr; size = length c.as_slice.result.now } in
    subst (IsOldAt c.args.table.now.tree c.args.pointers.now c.args.node) (let e : Some this ≡ Some old = is in let same : this ≡ old = cc in same) (record {
      pointed = sym c.in-Some.ensures;
      row = c.in-Some-get.row.now;
      there = sym c.in-Some-get.ensures.found;
      sized = ap length (sym c.as_slice.ensures);
    })
