use Rattle.std.proofs.Common.{◌≡◌, ◌∷◌, ℕ, List, length, take}
use Rattle.kb_lines.specs.declared.lines.Line.TheVariants as line
use Rattle.kb_snap.specs.Chains.{Chain}
use Rattle.kb_snap.specs.Members.{generation_of}
use Rattle.kb_folder.specs.Chains.{Names}
use Rattle.kb_folder.specs.Held.{held}
use Rattle.kb_folder.specs.Goes.{HasChain}
use Rattle.kb_world.specs.Listing.{AreNamed}
use Rattle.kb_world.specs.Printed.{revision_lines}
use Rattle.kb_world.proofs.listing.chain_lines.Given as goal

abbrev pub invariant-loop-bytes : goal.invariant-loop-bytes
invariant-loop-bytes g l = (seed : List ℕ) (names : Names) (c : Chain) → HasChain g.S.Sealer.sealed g.S.Sealer.signed g.H.BlockHash.hashed seed names (held l.folder) c → AreNamed names l.devices
    → l.lines.items ≡ line.Chain (length c) (generation_of c) ∷ revision_lines names 1 (take l.bytes-index c)
