-- A device of a state goes on meeting the chain as others' revisions follow.
use Rattle.std.proofs.Common.{◌≡◌, ℕ, ◌≤◌, [], ◌∷◌, ◌++◌, ◌∙◌}
use Rattle.kb_snap.specs.Chains.{Revision, Chain, ops_by}
use Rattle.kb_world.specs.Machine.{Member}
use Rattle.kb_world.specs.Good.{MemberMeets}
use Rattle.kb_device.proofs.PartSteps.{acknowledges_longer}
use Rattle.kb_device.proofs.PartLonger.{part_longer, waiting_longer}

-- the device with what a state keeps of it
module _ (d : ℕ) (c : Chain) (x : Revision) (other : ops_by d x ≡ []) where
  pub member_longer : (m : Member) → MemberMeets d c m → MemberMeets d (c ++ x ∷ []) m
  member_longer m h = record {
    name = h.name;
    batch = h.batch;
    part = part_longer d c x other m.part h.part;
    acknowledged = acknowledges_longer d c x m.part h.part h.acknowledged;
    waiting = waiting_longer d c x other m.name m.part m.waiting h.part h.waiting;
  }
