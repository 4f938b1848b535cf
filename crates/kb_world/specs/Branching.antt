-- What a declared device's fetches and settles do.
use Rattle.std.specs.Prelude.{◌≡◌, ℕ, ◌≤◌, Bool, true, false, List, length, Option, Some, None, Result, Ok, Err}
use Rattle.kb_edge.specs.declared.disk.Disk.{Ghosts}
use Rattle.kb_edge.specs.declared.link.Side.{Side}
use Rattle.kb_seal.specs.declared.sealer.Sealer.{Ghosts as Seals}
use Rattle.kb_blocks.specs.declared.hashing.BlockHash.{Ghosts as Hashes}
use Rattle.kb_name.specs.Moments.{last_second}
use Rattle.kb_ops.specs.Trees.{Tree}
use Rattle.kb_rules.specs.declared.stamp.Stamp.{Stamp}
use Rattle.kb_rules.specs.declared.report.Report.{Report}
use Rattle.kb_rules.specs.Meet.{Meet}
use Rattle.kb_rules.specs.Merge.{splits, merge, report}
use Rattle.kb_resolver.specs.Branches.{Lead}
use Rattle.kb_journal.specs.State.{last_seq}
use Rattle.kb_chain.specs.declared.states.PutRefusal.{PutRefusal}
use Rattle.kb_chain.specs.declared.states.PutRefusal.TheVariants as why
use Rattle.kb_snap.specs.Answers.{PutFault}
use Rattle.kb_snap.specs.Chains.{Chain, tree_at}
use Rattle.kb_snap.specs.Lawful.{IsLawful, AreFew}
use Rattle.kb_folder.specs.Chains.{Names}
use Rattle.kb_folder.specs.Puts.{Held}
use Rattle.kb_folder.specs.Goes.{HasChain, Grows, Means}
use Rattle.kb_device.specs.Answers as says
use Rattle.kb_device.specs.Journals.{Journal}
use Rattle.kb_device.specs.Inside.{Plan, Inside}
use Rattle.kb_device.specs.Parts.{Part, HasPlan, FetchStep, SettleStep, tree_shown}
use Rattle.kb_device.specs.declared.fetched.FetchFault.{FetchFault}
use Rattle.kb_device.specs.declared.fetched.FetchFault.TheVariants as fetch
use Rattle.kb_device.specs.declared.settled.SettleFault.{SettleFault}
use Rattle.kb_device.specs.declared.settled.SettleFault.TheVariants as settle
use Rattle.kb_lines.specs.declared.lines.Line.{Line}
use Rattle.kb_lines.specs.declared.lines.Line.TheVariants as line
use Rattle.kb_world.specs.Statements.{ByFetch}
use Rattle.kb_device.specs.Links.{LinkAfter}
use Rattle.kb_world.specs.Machine.{Member, Does, went}
use Rattle.kb_world.specs.Good.{MemberMeets}
use Rattle.kb_world.specs.Standing.{DeclaredStands}
use Rattle.kb_world.specs.declared.declared.Declared.{Declared}
use Rattle.kb_world.specs.declared.branches.Resolution.{Resolution}

-- ---- fetches

-- the machine's answer; a folder that has a chain is never bad
abbrev pub told_fetch : Result ℕ FetchFault → Result ℕ says.FetchFault
told_fetch (Ok n) = Ok n
told_fetch (Err fetch.Closed) = Err says.FetchFault.Closed
told_fetch (Err fetch.NotMember) = Err says.FetchFault.NotMember
told_fetch (Err fetch.NoBranch) = Err says.NoBranch
told_fetch (Err (fetch.BadFolder number)) = Err says.FetchFault.Closed
told_fetch (Err fetch.Memory) = Err says.FetchFault.Closed

-- memory did not run out
abbrev pub IsFetched : Result ℕ FetchFault → Type 0
IsFetched (Err fetch.Memory) = ⊥
IsFetched answer = Unit {0}

-- and the folder isn't bad
abbrev pub IsFetch : Result ℕ FetchFault → Type 0
IsFetch (Err fetch.Memory) = ⊥
IsFetch (Err (fetch.BadFolder number)) = ⊥
IsFetch answer = Unit {0}

-- want of memory changes nothing
abbrev pub FetchTurns : Result ℕ FetchFault → ℕ → Chain → Member → Member → Type 0
FetchTurns (Err fetch.Memory) d c m n = n ≡ m
FetchTurns (Err (fetch.BadFolder number)) d c m n = ⊥
FetchTurns answer d c m n = Does (FetchStep d c m.part) ByFetch (ByFetch (told_fetch answer)) m n

-- ---- merges

-- The branch of a session of the device with this number can be merged: the three trees meet, few files are split, and the operations of
-- each side lead from the common tree to its own, those of the merged side where they are plain.
pub record IsMergeable (d : ℕ) (s : Inside) (x : Plan) : Type 0 where
  pub meet : (stamp : Stamp) → stamp.device ≡ d → stamp.last ≡ last_seq s.journal → Meet x.base x.merged s.shown stamp
  pub few : length (splits x.base x.merged s.shown) ≤ 65535
  pub our_leads : Lead s.journal.queue x.base s.shown
  pub merged_leads : x.plain ≡ true → Lead x.ops x.base x.merged

-- whatever was fetched
abbrev pub MayMerge : ℕ → Option Inside → Type 0
MayMerge d inside = (s : Inside) (x : Plan) → inside ≡ Some s → s.plan ≡ Some x → IsMergeable d s x

-- who merges the branch of a session, and when
abbrev pub stamp_at : ℕ → List ℕ → ℕ → Inside → Stamp
stamp_at d name moment s = record { device = d; name = name; last = last_seq s.journal; moment = moment; rule = 1 }

-- the table is the rules' merge of what was fetched, and the report tells what it did
pub record IsResolved (d : ℕ) (name : List ℕ) (moment : ℕ) (s : Inside) (x : Plan) (table : Tree) (did : Report) : Type 0 where
  pub planned : s.plan ≡ Some x
  pub table_is : table ≡ merge x.base x.merged s.shown (stamp_at d name moment s)
  pub did_is : did ≡ report x.base x.merged s.shown (stamp_at d name moment s)

-- the merge of a device's branch, where there is one
abbrev pub Resolved : ℕ → List ℕ → ℕ → Option Inside → Result Resolution SettleFault → Type 0
Resolved d name moment inside (Ok made) = (s : Inside) × (x : Plan) × (inside ≡ Some s) × IsResolved d name moment s x made.table.tree made.report
Resolved d name moment inside (Err settle.Closed) = inside ≡ None
Resolved d name moment inside (Err settle.NoPlan) = (s : Inside) × (inside ≡ Some s) × (s.plan ≡ None)
Resolved d name moment inside (Err settle.Memory) = Unit {0}
Resolved d name moment inside (Err fault) = ⊥

-- ---- settles

-- the machine's answer
abbrev pub IsSettling : Result (ℕ × Report) SettleFault → Result (ℕ × Report) says.SettleFault → Type 0
IsSettling (Ok merged) answer = answer ≡ Ok merged
IsSettling (Err settle.Closed) answer = answer ≡ Err says.SettleFault.Closed
IsSettling (Err settle.NoPlan) answer = answer ≡ Err says.NoPlan
IsSettling (Err settle.Memory) answer = ⊥
IsSettling (Err settle.LinkFault) answer = (lost : Option (Result ℕ PutFault)) × (answer ≡ Err (says.SettleFault.LinkFault lost))
IsSettling (Err (settle.ByPut refusal)) answer = (fault : PutFault) × (let r : Result ℕ PutRefusal = Err refusal in Means r (Err fault)) × (answer ≡ Err (says.SettleFault.ByPut fault))
IsSettling (Err settle.Stopped) answer = answer ≡ Err says.SettleFault.Stopped

-- memory did not run out
abbrev pub IsSettled : Result (ℕ × Report) SettleFault → Type 0
IsSettled (Err settle.Memory) = ⊥
IsSettled (Err (settle.ByPut why.Memory)) = ⊥
IsSettled answer = Unit {0}

-- it did
abbrev pub LacksSettle : Result (ℕ × Report) SettleFault → Type 0
LacksSettle (Err settle.Memory) = Unit {0}
LacksSettle (Err (settle.ByPut why.Memory)) = Unit {0}
LacksSettle answer = ⊥

-- the device settles over its link, at this moment and by the first rule
pub record SettledBy (moment d : ℕ) (c : Chain) (told : Result (ℕ × Report) says.SettleFault) (m n : Member) (c' : Chain) : Type 0 where
  pub part : Part
  pub step : SettleStep d (record { name = m.name; moment = moment; rule = 1 }) c m.part told c' part
  pub link : Option Side
  pub after : LinkAfter m.link told link
  pub member : n ≡ record (went m part) { link = link }

-- want of memory changes nothing
abbrev pub SettleSteps : ℕ → Result (ℕ × Report) SettleFault → ℕ → Chain → Member → Member → Chain → Type 0
SettleSteps moment (Err settle.Memory) d c m n c' = (n ≡ m) × (c' ≡ c)
SettleSteps moment answer d c m n c' = (told : Result (ℕ × Report) says.SettleFault) × IsSettling answer told × SettledBy moment d c told m n c'

-- whatever was fetched, there are few rows
abbrev pub HasFewRows : Chain → Part → Type 0
HasFewRows c p = (j : Journal) (r : ℕ) → HasPlan p j r → AreFew (tree_at c r) (tree_shown p j)

module _ {D S H : Type 0} {disks : Ghosts D} {sealers : Seals S} {hashes : Hashes H} where
  abbrev pub SettleTurns : ℕ → Held → Held → Declared D S H disks sealers hashes → Declared D S H disks sealers hashes → Result (ℕ × Report) SettleFault → Type 0
  SettleTurns moment f f' old new answer = (seed : List ℕ) (names : Names) (d : ℕ) (c : Chain) (m : Member) → moment ≤ last_second → IsLawful c → MemberMeets d c m → HasFewRows c m.part → HasChain sealers.sealed sealers.signed hashes.hashed seed names f c
      → DeclaredStands seed names d f c old m → (n : Member) × (c' : Chain) × SettleSteps moment answer d c m n c' × HasChain sealers.sealed sealers.signed hashes.hashed seed names f' c' × Grows f f' × DeclaredStands seed names d f' c' new n

-- ---- lines

-- the line of a fetch that was not refused
abbrev pub is_fetched : Line → Bool
is_fetched (line.Fetched name n) = true
is_fetched l = false
