-- Each acknowledged operation stands once and in order in the chain and then in the journal.
use Rattle.std.specs.Prelude.{◌≡◌, ℕ, ◌+◌, ◌-◌, ◌≤◌, ◌<◌, List, ◌++◌, length, take, drop, All}
use Rattle.kb_ops.specs.declared.rows.Op.{Op}
use Rattle.kb_snap.specs.Chains.{Chain, ops_of}
use Rattle.kb_device.specs.Journals.{Journal, last_seq}
use Rattle.kb_device.specs.Parts.{Part, acknowledged_at}
use Rattle.kb_snap.specs.Lawful.{CountsFrom}

-- The operations in the chain have the seqs from 1 on, and those in the queue the ones behind its base. Where some stand
-- in both, the queue begins with them, and without these the queue goes on where the chain ends. Together they are
-- what was acknowledged.
pub record Owns (landed acknowledged : List Op) (j : Journal) : Type 0 where
  pub landed_count : CountsFrom 1 landed
  pub queue_counts : CountsFrom (j.base + 1) j.queue
  pub begins : j.base ≤ length landed
  pub ends : length landed ≤ last_seq j
  pub twice : take (length landed - j.base) j.queue ≡ drop j.base landed
  pub once : landed ++ drop (length landed - j.base) j.queue ≡ acknowledged

-- so it is whichever journal an opening finds; the operation whose call was stopped counts where that has it
pub record IsOwned (d : ℕ) (c : Chain) (p : Part) : Type 0 where
  pub some : 0 < length p.may
  pub owns : All (λ j. Owns (ops_of d c) (acknowledged_at p j) j) p.may
