-- How a branch is resolved over a link.
use Rattle.std.specs.Prelude.{◌≡◌, ◌⊎◌, ℕ, ◌+◌, ◌≤◌, ◌<◌, ◌&&◌, nat_le, nat_lt, is_some, IsSome, Bool, true, false, List, length, Option, Some, None, Result, Ok, Err}
use Rattle.sha2.specs.Sha256.{sha256}
use Rattle.kb_edge.specs.declared.link.Side.{Side}
use Rattle.kb_edge.specs.declared.link.Side.TheVariants.{Request, Reply}
use Rattle.kb_ops.specs.Trees.{Tree, look}
use Rattle.kb_keys.specs.declared.policy.Role.{Role}
use Rattle.kb_keys.specs.Policies.{role_at}
use Rattle.kb_keys.specs.Rings.{key_at}
use Rattle.kb_snap.specs.Pointers.{Kept, AllHold}
use Rattle.kb_snap.specs.Builds.{OnceAllStored}
use Rattle.kb_journal.specs.State.{State, done}
use Rattle.kb_journal.specs.declared.entries.Entry.TheVariants as entry
use Rattle.kb_chain.specs.declared.states.FolderRequest.{FolderRequest}
use Rattle.kb_chain.specs.declared.states.PutRefusal.{PutRefusal}
use Rattle.kb_chain.specs.declared.states.PutRefusal.TheVariants as why
use Rattle.kb_rules.specs.declared.stamp.Stamp.{Stamp}
use Rattle.kb_rules.specs.declared.report.Report.{Report}
use Rattle.kb_rules.specs.Merge.{report}
use Rattle.kb_snap.specs.Chains.{merged_tree, stamp_of}
use Rattle.kb_device.specs.Caches.{Cache, Takes}
use Rattle.kb_device.specs.Journals.{plain}
use Rattle.kb_device.specs.Left.{LeavesSame}
use Rattle.kb_device.specs.Links.{Spares, Carries, Loses, Answers}
use Rattle.kb_folder.specs.Puts.{Held}
use Rattle.kb_device.specs.Merging.{merge_plain, IsMergeRequest}
use Rattle.kb_device.specs.SettlesFor.{branch_at}
use Rattle.kb_device.specs.declared.settled.SettleFault.{SettleFault}
use Rattle.kb_device.specs.declared.settled.SettleFault.TheVariants as fault
use Rattle.kb_device.specs.Inside.{Plan, Inside}
use Rattle.kb_device.specs.Noting.{Writes, Stops}
use Rattle.kb_device.specs.Stands.{Platter}

-- the journal once its whole queue is merged in the revision with this number and hash
abbrev pub resolved : State → ℕ → List ℕ → State
resolved j number hash = done j (entry.Merged number hash (length j.queue))

-- the plan whose cache has taken more blocks
abbrev pub grown : Plan → Cache → Plan
grown x cache = record x { cache = cache }

-- the session then: its tree is the merged one, with these pointers, and it has what the plan has
abbrev pub with_merge : Inside → Plan → Tree → Kept → List ℕ → Option Role → Inside
with_merge s x t pointers hash role = record {
  journal = resolved s.journal (x.number + 1) hash;
  base = t;
  ahead = 0;
  shown = t;
  kept = pointers;
  cache = x.cache;
  written = None;
  ring = x.ring;
  generation = x.generation;
  role = role;
  aloft = None;
  plan = None;
}

-- who merges the branch of a session: the device with this number and name, at this moment, by the first rule
abbrev pub stamp_in : ℕ → List ℕ → ℕ → Inside → Stamp
stamp_in d name moment s = stamp_of (merge_plain name (branch_at d moment (plain s.journal))) 1 s.journal.queue

-- the tree is the rules' merge of the plan
abbrev pub IsMergeOf : ℕ → List ℕ → ℕ → Inside → Plan → Tree → Type 0
IsMergeOf d name moment s x t = t ≡ merged_tree x.base x.merged s.shown (stamp_in d name moment s)

-- what that merge does
abbrev pub report_of : ℕ → List ℕ → ℕ → Inside → Plan → Report
report_of d name moment s x = report x.base x.merged s.shown (stamp_in d name moment s)

-- A request of the branch as the revision behind the plan's, whose tree is this one, over pointers of the plan's tree that the merge leaves; once its blocks are stored, the pointers hold rows of it.
pub record IsAsked (sealed signed : List ℕ → List ℕ → List ℕ) (hashed : List ℕ → List ℕ) (d : ℕ) (secret : List ℕ) (moment : ℕ) (s : Inside) (x : Plan) (t : Tree) (request : FolderRequest) (pointers : Kept) : Type 0 where
  pub key : List ℕ
  pub keyed : key_at x.ring x.generation ≡ Some key
  pub left : Kept
  pub leaves : LeavesSame x.merged t x.kept left
  pub made : IsMergeRequest sealed signed hashed secret key x.generation (x.number + 1) x.hash (branch_at d moment (plain s.journal)) t left request
  pub holds : OnceAllStored hashed sealed x.generation key request.blocks (λ vault. AllHold vault (look t) left → AllHold vault (look t) pointers)

module _ (sealed signed : List ℕ → List ℕ → List ℕ) (hashed : List ℕ → List ℕ) (f g : Held) (d : ℕ) (secret : List ℕ) (moment : ℕ) (tree : Tree) (s : Inside) (was : Platter) (t : Inside) (now : Platter) where
  -- the merge of the plan was put, with this answer, and the plan's cache took its blocks before
  pub record Asks (answer : Result ℕ PutRefusal) : Type 0 where
    pub plan : Plan
    pub planned : s.plan ≡ Some plan
    pub request : FolderRequest
    pub pointers : Kept
    pub asked : IsAsked sealed signed hashed d secret moment s plan tree request pointers
    pub cache : Cache
    pub takes : Takes hashed plan.cache request.blocks cache
    pub put : Answers signed hashed f request g answer

  -- it landed, and is noted
  pub record Settles (n : ℕ) : Type 0 where
    pub number : ℕ
    pub asks : Asks (Ok number)
    pub n_is : n ≡ asks.plan.number + 1
    pub session : t ≡ with_merge s (grown asks.plan asks.cache) tree asks.pointers (sha256 asks.request.revision) (role_at g.state.policy.0 d)
    pub disk : Writes (resolved s.journal n (sha256 asks.request.revision)) was now

  -- it landed, and the disk stopped
  pub record SettleBreaks : Type 0 where
    pub number : ℕ
    pub asks : Asks (Ok number)
    pub disk : Stops s.journal (resolved s.journal (asks.plan.number + 1) (sha256 asks.request.revision)) was now

  -- the folder refused it, and the plan is dropped
  pub record Drops (refusal : PutRefusal) : Type 0 where
    pub asks : Asks (Err refusal)
    pub session : t ≡ record s { plan = None }
    pub disk : now ≡ was

  -- the request was lost, and nothing was put
  pub record RequestLost : Type 0 where
    pub plan : Plan
    pub planned : s.plan ≡ Some plan
    pub folder : g ≡ f
    pub disk : now ≡ was

  -- the folder's reply was lost, and nothing is noted
  pub record ReplyLost : Type 0 where
    pub answer : Result ℕ PutRefusal
    pub asks : Asks answer
    pub disk : now ≡ was

  -- nothing changed
  pub record Stays : Type 0 where
    pub folder : g ≡ f
    pub session : t ≡ s
    pub disk : now ≡ was

  -- nothing changed, but that the plan's cache took some blocks
  pub record Fills : Type 0 where
    pub folder : g ≡ f
    pub plan : Plan
    pub planned : s.plan ≡ Some plan
    pub made : List (List ℕ)
    pub cache : Cache
    pub takes : Takes hashed plan.cache made cache
    pub session : t ≡ record s { plan = Some (grown plan cache) }
    pub disk : now ≡ was

  -- What a settle does that gives this answer, also to the side of its link that is armed, where the link tells that.
  abbrev pub SettleDoes : Option (Option Side) → Option (Option Side) → Result ℕ SettleFault → Type 0
  SettleDoes armed armed' (Ok n) = Settles n × Carries armed armed'
  SettleDoes armed armed' (Err fault.Closed) = ⊥
  SettleDoes armed armed' (Err fault.NoPlan) = Stays × (s.plan ≡ None) × (armed' ≡ armed)
  SettleDoes armed armed' (Err fault.Memory) = (Stays ⊎ Fills) × Spares armed armed'
  SettleDoes armed armed' (Err fault.LinkFault) = (RequestLost × Loses Request armed armed') ⊎ (ReplyLost × Loses Reply armed armed')
  SettleDoes armed armed' (Err (fault.ByPut refusal)) = Drops refusal × Carries armed armed'
  SettleDoes armed armed' (Err fault.Stopped) = SettleBreaks × Carries armed armed'

-- this holds of the settle, unless it ends the session
abbrev pub UnlessEnded : Result ℕ SettleFault → Type 0 → Type 0
UnlessEnded (Err fault.LinkFault) P = Unit {0}
UnlessEnded (Err fault.Stopped) P = Unit {0}
UnlessEnded r P = P

-- The plan can be put: it isn't behind the known revision, its key is there, and the branch has so many operations at most.
pub record CanSettle (s : Inside) (x : Plan) : Type 0 where
  pub some : 1 ≤ length s.journal.queue
  pub few : length s.journal.queue ≤ 4096
  pub from : 1 ≤ x.number
  pub behind : s.journal.known ≤ x.number
  pub next : x.number < 4294967295
  pub first : 1 ≤ x.generation
  pub last : x.generation ≤ 64
  pub keyed : IsSome (key_at x.ring x.generation)

-- the session has this plan, which can be put
abbrev pub can_settle : Inside → Plan → Bool
can_settle s x = nat_le 1 (length s.journal.queue) && (nat_le (length s.journal.queue) 4096 && (nat_le 1 x.number && (nat_le s.journal.known x.number && (nat_lt x.number 4294967295 && (nat_le 1 x.generation && (nat_le x.generation 64 && is_some (key_at x.ring x.generation)))))))

-- the settle ends the session: the link lost something, or the disk stopped
abbrev pub ends : Result ℕ SettleFault → Bool
ends (Err fault.LinkFault) = true
ends (Err fault.Stopped) = true
ends r = false
