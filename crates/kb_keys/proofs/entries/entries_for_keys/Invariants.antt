use Rattle.std.proofs.Common.{◌≡◌, ◌++◌, map}
use Rattle.kb_keys.specs.Bundles.{made_entry}
use Rattle.kb_keys.proofs.entries.entries_for_keys.Given as goal

abbrev pub invariant-keys : goal.invariant-keys
invariant-keys g l = l.made.items ++ map (λ k. made_entry g.S.Sealer.sealed l.secrets l.device k.0 k.1) l.generation-iterator ≡ map (λ k. made_entry g.S.Sealer.sealed l.secrets l.device k.0 k.1) l.keys.entries
