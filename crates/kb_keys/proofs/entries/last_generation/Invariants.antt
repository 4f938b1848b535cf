use Rattle.std.proofs.Common.{◌≡◌, drop, max}
use Rattle.kb_keys.specs.Bundles.{last_generation}
use Rattle.kb_keys.proofs.entries.last_generation.Given as goal

abbrev pub invariant-entries : goal.invariant-entries
invariant-entries l = max l.last (last_generation (drop l.entry-index l.entries)) ≡ last_generation l.entries
