-- How the head becomes known.
use Rattle.std.specs.Prelude.{◌≡◌, ◌⊎◌, ℕ, ◌≤◌, ◌<◌, ◌&&◌, nat_le, is_some, drop, reverse, Bool, true, false, List, [], length, Option, Some, None, Result, Ok, Err, IsSome}
use Rattle.kb_keys.specs.declared.policy.Role.{Role}
use Rattle.kb_keys.specs.Rings.{key_at}
use Rattle.kb_journal.specs.State.{State, last_seq, done}
use Rattle.kb_journal.specs.declared.entries.Entry.TheVariants as entry
use Rattle.kb_snap.specs.Chains.{Chain, ops_of}
use Rattle.kb_device.specs.Answers as says
use Rattle.kb_device.specs.Parts.{Part, PullStep}
use Rattle.kb_device.specs.Meets.{PartMeets}
use Rattle.kb_folder.specs.Chains.{Names}
use Rattle.kb_folder.specs.Puts.{Held}
use Rattle.kb_folder.specs.Goes.{HasChain}
use Rattle.kb_folder.specs.Held.{is_member}
use Rattle.kb_keys.specs.Secrets.{device_secret}
use Rattle.kb_snap.specs.Members.{generation_at, roles_of}
use Rattle.kb_device.specs.declared.answers.PullFault.{PullFault}
use Rattle.kb_device.specs.declared.answers.PullFault.TheVariants as fault
use Rattle.kb_device.specs.Noting.{Writes, Stops}
use Rattle.kb_device.specs.Inside.{Inside}
use Rattle.kb_device.specs.Stands.{Platter, Member, RingStands, DeviceStands}
use Rattle.kb_device.specs.Fresh.{IdsEndAt}
use Rattle.kb_device.specs.Heads.{Read, ReadStands}

-- the journal once this revision is known
abbrev pub headed : State → Read → State
headed j r = done j (entry.Head r.number r.hash (last_seq j) j.mark)

-- a session that knows it, and has no queue
abbrev pub with_head : Inside → Read → Option Role → Inside
with_head s r role = record s { journal = headed s.journal r; base = r.tree; ahead = 0; shown = r.tree; kept = r.kept; cache = r.cache; written = None; ring = r.ring; generation = r.generation; role = role }

-- what was read can be kept
pub record IsReadable (r : Read) : Type 0 where
  pub some : 1 ≤ r.number
  pub first : 1 ≤ r.generation
  pub last : r.generation ≤ 64
  pub keyed : IsSome (key_at r.ring r.generation)

-- it can be, behind the known one
abbrev pub is_readable : ℕ → Read → Bool
is_readable known r = nat_le known r.number && (nat_le 1 r.number && (nat_le 1 r.generation && (nat_le r.generation 64 && is_some (key_at r.ring r.generation))))

-- A pull from a folder, as the machine's.
abbrev pub PullGoes : (List ℕ → List ℕ → List ℕ) → (List ℕ → List ℕ → List ℕ) → (List ℕ → List ℕ) → List ℕ → Names → ℕ → Held → Member → Member → Result ℕ says.PullFault → Type 0
PullGoes sealed signed hashed seed names d f old new answer = (c : Chain) (p : Part) → PartMeets d c p → HasChain sealed signed hashed seed names f c → DeviceStands sealed signed hashed seed names d f c old p
    → (q : Part) × PullStep d c p answer q × DeviceStands sealed signed hashed seed names d f c new q

-- ---- what a pull does to a session

module _ (sealed signed : List ℕ → List ℕ → List ℕ) (hashed : List ℕ → List ℕ) (f : Held) (d : ℕ) (secret : List ℕ) (s : Inside) where
  -- where the folder has a chain, and the session is one of its device, this is so
  abbrev pub InChain : (List ℕ → Chain → Type 0) → Type 0
  InChain P = (seed : List ℕ) (names : Names) (c : Chain) → HasChain sealed signed hashed seed names f c → secret ≡ device_secret seed d → s.generation ≡ generation_at c s.journal.known → RingStands seed s.generation s.ring → s.journal.known ≤ length c → length (ops_of d c) ≤ last_seq s.journal → P seed c

  -- the revision that was read is the chain's last
  abbrev pub IsHead : Read → Option Role → Type 0
  IsHead r role = InChain (λ seed c. ReadStands sealed hashed seed f c r × (r.number ≡ length c) × (role ≡ roles_of c d))

  -- the device is a member, and has no queue
  pub record MayPull : Type 0 where
    pub member : is_member f d ≡ true
    pub flushed : s.journal.queue ≡ []

  module _ (was : Platter) (new : Inside) (now : Platter) where
    pub record Pulls (n : ℕ) : Type 0 where
      pub may : MayPull
      pub read : Read
      pub role : Option Role
      pub head : IsHead read role
      pub fresh : IdsEndAt d (last_seq s.journal) read.tree
      pub n_is : n ≡ read.number
      pub session : new ≡ with_head s read role
      pub disk : Writes (headed s.journal read) was now

    pub record PullStops : Type 0 where
      pub may : MayPull
      pub read : Read
      pub role : Option Role
      pub head : IsHead read role
      pub disk : Stops s.journal (headed s.journal read) was now

    -- nothing changed
    pub record Same : Type 0 where
      pub session : new ≡ s
      pub disk : now ≡ was

    abbrev pub PullDoes : Result ℕ PullFault → Type 0
    PullDoes (Ok n) = Pulls n ⊎ (Same × MayPull × (drop s.journal.known (reverse f.revisions) ≡ []) × (n ≡ s.journal.known))
    PullDoes (Err fault.Closed) = ⊥
    PullDoes (Err fault.NotMember) = Same × (is_member f d ≡ false)
    PullDoes (Err fault.Unflushed) = Same × (is_member f d ≡ true) × (0 < length s.journal.queue)
    PullDoes (Err (fault.BadFolder number)) = Same × MayPull × InChain (λ seed c. ⊥)
    PullDoes (Err fault.Memory) = Same
    PullDoes (Err fault.Stopped) = PullStops

-- this holds of the pull, unless the disk stopped
abbrev pub UnlessStopped : Result ℕ PullFault → Type 0 → Type 0
UnlessStopped (Err fault.Stopped) P = Unit {0}
UnlessStopped r P = P

abbrev pub is_stopped : Result ℕ PullFault → Bool
is_stopped (Err fault.Stopped) = true
is_stopped r = false

-- ---- the machine's pull

-- the device after it, whose session has ended where the disk stopped
abbrev pub member_after : Member → Inside → Platter → Result ℕ PullFault → Member
member_after v t disk (Err fault.Stopped) = record v { disk = disk; inside = None }
member_after v t disk r = record v { disk = disk; inside = Some t }

module _ (sealed signed : List ℕ → List ℕ → List ℕ) (hashed : List ℕ → List ℕ) (seed : List ℕ) (names : Names) (f : Held) (old new : Member) where
  -- What a pull that gives this answer is in the machine. That the folder is bad never comes.
  abbrev pub PullAnswers : Result ℕ PullFault → Type 0
  PullAnswers (Ok n) = PullGoes sealed signed hashed seed names old.number f old new (Ok n)
  PullAnswers (Err fault.Closed) = PullGoes sealed signed hashed seed names old.number f old new (Err says.PullFault.Closed)
  PullAnswers (Err fault.NotMember) = PullGoes sealed signed hashed seed names old.number f old new (Err says.PullFault.NotMember)
  PullAnswers (Err fault.Unflushed) = PullGoes sealed signed hashed seed names old.number f old new (Err says.PullFault.Unflushed)
  PullAnswers (Err (fault.BadFolder number)) = (c : Chain) (p : Part) → PartMeets old.number c p → HasChain sealed signed hashed seed names f c → DeviceStands sealed signed hashed seed names old.number f c old p → ⊥
  PullAnswers (Err fault.Memory) = (c : Chain) (p : Part) → DeviceStands sealed signed hashed seed names old.number f c old p → DeviceStands sealed signed hashed seed names old.number f c new p
  PullAnswers (Err fault.Stopped) = PullGoes sealed signed hashed seed names old.number f old new (Err says.PullFault.Stopped)
