use Rattle.std.proofs.Common.{◌≡◌, ℕ, List, take}
use Rattle.kb_folder.specs.Chains.{Place}
use Rattle.kb_folder.specs.Stands.{entries_for}
use Rattle.kb_folder.specs.Held.{held}
use Rattle.kb_device.specs.Filling.{IsServed, HasKeysOf}
use Rattle.kb_device.proofs.reading.add_entries.Given as goal

abbrev pub invariant-entries : goal.invariant-entries
invariant-entries g l = (seed : List ℕ) (ps : List Place) → IsServed seed (held l.folder) l.d l.secret l.most → l.entries ≡ entries_for g.S.Sealer.sealed seed ps → HasKeysOf seed l.d l.most (take l.entry-index ps) l.initial.ring l.ring
