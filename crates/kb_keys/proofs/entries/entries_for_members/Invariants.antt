use Rattle.std.proofs.Common.{◌≡◌, take, map}
use Rattle.kb_keys.specs.Bundles.{made_entry}
use Rattle.kb_keys.proofs.entries.entries_for_members.Given as goal

abbrev pub invariant-members : goal.invariant-members
invariant-members g l = l.made.items ≡ map (λ d. made_entry g.S.Sealer.sealed l.secrets d l.generation l.key) (take l.device-index l.members)
