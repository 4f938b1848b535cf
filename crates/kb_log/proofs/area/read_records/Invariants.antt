use Rattle.std.proofs.Common.{◌≡◌, ◌≤◌, ◌-◌, ℕ, None, take, drop}
use Rattle.std.specs.Prelude.{vec_capacity}
use Rattle.kb_log.specs.LogList.{list_of}
use Rattle.kb_log.proofs.area.read_records.Given as goal

abbrev pub invariant-loop-most : goal.invariant-loop-most
invariant-loop-most g l = record {
  within : l.most ≤ l.size;
  none : list_of (take l.most (drop l.start (g.D.Disk.content l.fn.disk))) ≡ None;
  room : vec_capacity l.fn.text ≤ vec_capacity l.text;
  content : g.D.Disk.content l.disk ≡ g.D.Disk.content l.fn.disk;
  dirty : (place : ℕ) → g.D.Disk.dirty l.disk place ≡ g.D.Disk.dirty l.fn.disk place;
  left : g.D.Disk.left l.disk ≡ g.D.Disk.left l.fn.disk;
  later : g.D.Disk.faults l.fn.disk ≤ g.D.Disk.faults l.disk;
}

abbrev pub decreases-loop-most : goal.decreases-loop-most
decreases-loop-most g l = l.size - l.most
