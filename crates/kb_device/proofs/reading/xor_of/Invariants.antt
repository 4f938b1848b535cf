use Rattle.std.proofs.Common.{◌≡◌, ◌++◌, take, drop, length}
use Rattle.kb_keys.specs.Secrets.{xored}
use Rattle.kb_device.proofs.reading.xor_of.Given as goal

abbrev pub invariant-bytes : goal.invariant-bytes
invariant-bytes l = record {
  size : length l.out ≡ 32;
  so_far : take l.i l.out ++ xored (drop l.i l.text) (drop l.i l.mask) ≡ xored l.text l.mask;
}
