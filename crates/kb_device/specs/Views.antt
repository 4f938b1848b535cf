-- Devices of the program as plain values.
use Rattle.std.specs.Option.{option_map}
use Rattle.kb_edge.specs.declared.disk.Disk.{Ghosts}
use Rattle.kb_device.specs.Inside.{Aloft, Plan, Inside}
use Rattle.kb_device.specs.Stands.{Platter}
use Rattle.kb_device.specs.Heads.{Read}
use Rattle.kb_device.specs.declared.head.Head.{Head}
use Rattle.kb_device.specs.declared.head.Goal.{Goal}
use Rattle.kb_device.specs.declared.session.Flight.{Flight}
use Rattle.kb_device.specs.declared.session.Session.{Session}

abbrev pub aloft_of : Flight → Aloft
aloft_of a = record { flight = record { first = a.first; count = a.count; number = a.number }; kept = a.pointers }

abbrev pub plan_of : {H : Type 0} → Goal H → Plan
plan_of g = record { number = g.number; hash = g.hash; merged = g.merged.tree; kept = g.pointers; cache = g.cache; ring = g.ring; generation = g.generation; base = g.base.tree; ops = g.done.ops.items; plain = g.done.plain }

abbrev pub inside : {D H : Type 0} → Session D H → Inside
inside s = record { journal = s.journal.state; base = s.base.tree; ahead = s.ahead; shown = s.shown.tree; kept = s.pointers; cache = s.cache; written = s.written; ring = s.ring; generation = s.generation; role = s.role; aloft = option_map aloft_of s.aloft; plan = option_map plan_of s.plan }

abbrev pub platter : {D : Type 0} → Ghosts D → D → Platter
platter disks disk = record { content = disks.content disk; dirty = disks.dirty disk; left = disks.left disk }

abbrev pub read_of : {H : Type 0} → Head H → Read
read_of h = record { number = h.number; hash = h.hash; tree = h.base.tree; kept = h.pointers; cache = h.cache; ring = h.ring; generation = h.generation }
