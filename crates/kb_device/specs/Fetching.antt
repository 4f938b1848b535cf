-- What a branch is to be merged into.
use Rattle.std.specs.Prelude.{◌≡◌, ℕ, Bool, true, false, List, length, Some, Result, Ok, Err}
use Rattle.kb_snap.specs.Chains.{Chain}
use Rattle.kb_device.specs.Answers as says
use Rattle.kb_device.specs.Parts.{Part, FetchStep}
use Rattle.kb_device.specs.Meets.{PartMeets}
use Rattle.kb_ops.specs.declared.rows.Op.{Op}
use Rattle.kb_ops.specs.Trees.{Tree}
use Rattle.kb_folder.specs.Chains.{Names}
use Rattle.kb_folder.specs.Puts.{Held}
use Rattle.kb_folder.specs.Goes.{HasChain}
use Rattle.kb_folder.specs.Held.{is_member}
use Rattle.kb_device.specs.declared.fetched.FetchFault.{FetchFault}
use Rattle.kb_device.specs.declared.fetched.FetchFault.TheVariants as fault
use Rattle.kb_device.specs.Inside.{Plan, Inside}
use Rattle.kb_device.specs.Heads.{Read}
use Rattle.kb_device.specs.Pulling.{InChain}
use Rattle.kb_device.specs.Stands.{PlanStands, Member, DeviceStands}

-- the plan of a head that was read, of the tree of the known revision, and of what was done between
abbrev pub plan_from : Read → Tree → List Op → Bool → Plan
plan_from r base ops plain = record { number = r.number; hash = r.hash; merged = r.tree; kept = r.kept; cache = r.cache; ring = r.ring; generation = r.generation; base = base; ops = ops; plain = plain }

-- a session with this plan
abbrev pub with_plan : Inside → Plan → Inside
with_plan s x = record s { plan = Some x }

module _ (sealed signed : List ℕ → List ℕ → List ℕ) (hashed : List ℕ → List ℕ) (f : Held) (d : ℕ) (secret : List ℕ) (s t : Inside) where
  -- a member that has a branch keeps what the folder's head and the known revision are
  pub record Fetches (n : ℕ) : Type 0 where
    pub member : is_member f d ≡ true
    pub marked : s.journal.mark ≡ true
    pub plan : Plan
    pub head : InChain sealed signed hashed f d secret s (λ seed c. PlanStands sealed hashed seed f c s.journal.known plan × (plan.number ≡ length c))
    pub n_is : n ≡ plan.number
    pub session : t ≡ with_plan s plan

  -- what a fetch does that gives this answer
  abbrev pub FetchDoes : Result ℕ FetchFault → Type 0
  FetchDoes (Ok n) = Fetches n
  FetchDoes (Err fault.Closed) = ⊥
  FetchDoes (Err fault.NotMember) = (t ≡ s) × (is_member f d ≡ false)
  FetchDoes (Err fault.NoBranch) = (t ≡ s) × (is_member f d ≡ true) × (s.journal.mark ≡ false)
  FetchDoes (Err (fault.BadFolder number)) = (t ≡ s) × (is_member f d ≡ true) × InChain sealed signed hashed f d secret s (λ seed c. ⊥)
  FetchDoes (Err fault.Memory) = t ≡ s

module _ (sealed signed : List ℕ → List ℕ → List ℕ) (hashed : List ℕ → List ℕ) (seed : List ℕ) (names : Names) (f : Held) (old new : Member) where
  -- a fetch from a folder, as the machine's
  abbrev pub FetchGoes : Result ℕ says.FetchFault → Type 0
  FetchGoes answer = (c : Chain) (p : Part) → PartMeets old.number c p → HasChain sealed signed hashed seed names f c → DeviceStands sealed signed hashed seed names old.number f c old p
      → (q : Part) × FetchStep old.number c p answer q × DeviceStands sealed signed hashed seed names old.number f c new q

  -- What a fetch that gives this answer is in the machine. That the folder is bad never comes.
  abbrev pub FetchAnswers : Result ℕ FetchFault → Type 0
  FetchAnswers (Ok n) = FetchGoes (Ok n)
  FetchAnswers (Err fault.Closed) = FetchGoes (Err says.FetchFault.Closed)
  FetchAnswers (Err fault.NotMember) = FetchGoes (Err says.FetchFault.NotMember)
  FetchAnswers (Err fault.NoBranch) = FetchGoes (Err says.NoBranch)
  FetchAnswers (Err (fault.BadFolder number)) = (c : Chain) (p : Part) → PartMeets old.number c p → HasChain sealed signed hashed seed names f c → DeviceStands sealed signed hashed seed names old.number f c old p → ⊥
  FetchAnswers (Err fault.Memory) = (c : Chain) (p : Part) → DeviceStands sealed signed hashed seed names old.number f c old p → DeviceStands sealed signed hashed seed names old.number f c new p
