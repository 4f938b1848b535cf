-- What is asked of a chain alone: the tree of a revision, and which revisions a reclamation keeps.
use Rattle.std.specs.Prelude.{◌≡◌, ◌⊎◌, ℕ, ◌+◌, ◌-◌, ◌≤◌, ◌<◌, [], ◌∷◌, ◌++◌, length, true, false, Result, Ok, Err}
use Rattle.kb_ops.specs.Trees.{Tree}
use Rattle.kb_snap.specs.Chains.{tree_at, Chain}
use Rattle.kb_snap.specs.Members.{IsStranger, roles_of}
use Rattle.kb_snap.specs.Answers.{ReclaimFault, PastFault}
use Rattle.kb_keys.specs.Members.{is_writer}
use Rattle.kb_snap.specs.Answers as answers

-- the tree of a revision, whether or not the device is open
abbrev pub PastStep : Chain → ℕ → ℕ → Result Tree PastFault → Type 0
PastStep c d r (Ok t) = ¬ IsStranger c d × (r ≤ length c) × (t ≡ tree_at c r)
PastStep c d r (Err answers.PastFault.NotMember) = IsStranger c d
PastStep c d r (Err (answers.NoRevision len)) = ¬ IsStranger c d × (length c < r) × (len ≡ length c)

-- a reclamation of the blocks that no revision from this one on reaches: of the plain machine it changes nothing
abbrev pub ReclaimStep : Chain → ℕ → ℕ → Result (Unit {0}) ReclaimFault → Type 0
ReclaimStep c by from (Ok done) = (is_writer (roles_of c by) ≡ true) × (from ≤ length c)
ReclaimStep c by from (Err answers.ReclaimFault.NotWriter) = is_writer (roles_of c by) ≡ false
ReclaimStep c by from (Err (answers.ReclaimFault.Past len)) = (is_writer (roles_of c by) ≡ true) × (length c < from) × (len ≡ length c)
