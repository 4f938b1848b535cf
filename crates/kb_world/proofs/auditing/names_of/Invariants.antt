use Rattle.std.proofs.Common.{◌≡◌, map, take}
use Rattle.kb_world.proofs.auditing.names_of.Given as goal

abbrev pub invariant-devices : goal.invariant-devices
invariant-devices g l = l.names.items ≡ map (λ x. x.name) (take l.declared-index l.devices)
