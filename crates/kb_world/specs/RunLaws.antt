-- What holds of every run of the plain machine.
use Rattle.std.specs.Prelude.{◌≡◌, ℕ, Bool, ◌-◌, ◌≤◌, ◌<◌, true, false, List, [], ◌∷◌, ◌++◌, length, All, Option, Some, Result, Err, slice_get, Contains, IsSome}
use Rattle.kb_name.specs.Names.{is_device_name}
use Rattle.kb_name.specs.Moments.{last_second}
use Rattle.kb_rules.specs.declared.stamp.Stamp.{Stamp}
use Rattle.kb_rules.specs.Meet.{Meet}
use Rattle.kb_keys.specs.declared.policy.Action.{Action}
use Rattle.kb_keys.specs.declared.policy.Action.TheVariants as action
use Rattle.kb_snap.specs.Members.{roles_of}
use Rattle.kb_snap.specs.Chains.{tree_at}
use Rattle.kb_snap.specs.Answers.{PutFault}
use Rattle.kb_device.specs.Answers as answers
use Rattle.kb_snap.specs.Answers as folder_says
use Rattle.kb_device.specs.Journals.{Journal, last_seq}
use Rattle.kb_device.specs.Parts.{IsOpenAt, tree_shown, last_acknowledged}
use Rattle.kb_snap.specs.Lawful.{IsRule}
use Rattle.kb_device.specs.Foreign.{IsForeign}
use Rattle.kb_device.specs.Owned.{IsOwned}
use Rattle.kb_world.specs.Statements.{Turn, Statement, Reply, ByCall, ByLand, ByNote, ByPull, BySettle, ByOpen, Act, SetSeed, Declare, DoFound, DoRekey, SetMoment, SetRule, See, ListChain, AuditChain, On}
use Rattle.kb_world.specs.Statements as statements
use Rattle.kb_world.specs.Machine.{most_devices, IsDiskSize, IsBatch, Member, State, new_state, ActStep, Run}
use Rattle.kb_world.specs.Good.{IsGood}
use Rattle.kb_device.specs.PartLaws.{HasOneBeyond, IsSpelled, ReturnMeets}

-- every run comes to a state in which the chain is lawful and each device meets it
abbrev pub RunsAreGood : Type 0
RunsAreGood = (statements : List Statement) (each : List (List Reply)) (t : State) → Run new_state statements each t → IsGood t

-- the device with this number in a state
pub record IsDevice (s : State) (d : ℕ) (m : Member) : Type 0 where
  pub numbered : 1 ≤ d
  pub found : slice_get s.members (d - 1) ≡ Some m

-- each device's acknowledged operations stand once and in order in the chain and then in its journal
abbrev pub GoodIsOwned : Type 0
GoodIsOwned = (s : State) (d : ℕ) (m : Member) → IsGood s → IsDevice s d m → IsOwned d s.chain m.part

-- all members are declared devices
abbrev pub MembersAreDeclared : Type 0
MembersAreDeclared = (s : State) (d : ℕ) → IsGood s → IsSome (roles_of s.chain d) → (1 ≤ d) × (d ≤ length s.members)

-- an open device whose queue is empty shows the tree of its known revision, so two that know one revision show one tree
abbrev pub ShowsKnown : Type 0
ShowsKnown = (s : State) (d : ℕ) (m : Member) (j : Journal) → IsGood s → IsDevice s d m → IsOpenAt m.part j → j.queue ≡ [] → tree_shown m.part j ≡ tree_at s.chain j.known

abbrev pub EqualsShowEqual : Type 0
EqualsShowEqual = (s : State) (d e : ℕ) (m n : Member) (j k : Journal) → IsGood s → IsDevice s d m → IsDevice s e n → IsOpenAt m.part j → IsOpenAt n.part k
    → j.queue ≡ [] → k.queue ≡ [] → j.known ≡ k.known → tree_shown m.part j ≡ tree_shown n.part k

-- the branch of an open device can be merged into each revision from the known one on, by this device
abbrev pub BranchesMeet : Type 0
BranchesMeet = (s : State) (d : ℕ) (m : Member) (j : Journal) (r : ℕ) (stamp : Stamp) → IsGood s → IsDevice s d m → IsOpenAt m.part j → j.mark ≡ true → r ≤ length s.chain
    → stamp.device ≡ d → stamp.last ≡ last_seq j → Meet (tree_at s.chain j.known) (tree_at s.chain r) (tree_shown m.part j) stamp

abbrev pub OneBeyond : Type 0
OneBeyond = (s : State) (d : ℕ) (m : Member) (j : Journal) → IsGood s → IsDevice s d m → Contains m.part.may j → HasOneBeyond d s.chain j

abbrev pub QueuesAreSpelled : Type 0
QueuesAreSpelled = (s : State) (d : ℕ) (m : Member) (j : Journal) → IsGood s → IsDevice s d m → Contains m.part.may j → IsSpelled m.part.area j

-- no journal that an opening may find is foreign
abbrev pub NoneForeign : Type 0
NoneForeign = (s : State) (d : ℕ) (m : Member) (j : Journal) → IsGood s → IsDevice s d m → Contains m.part.may j → IsForeign d s.chain j → ⊥

-- ---- backups

-- what the shelf keeps of a device goes no further than what was acknowledged
abbrev pub ShelvesAreOld : Type 0
ShelvesAreOld = (s : State) (d : ℕ) (m : Member) (kept : Journal) → IsGood s → IsDevice s d m → m.part.shelved ≡ Some kept → last_seq kept ≤ last_acknowledged m.part

abbrev pub ReturnsMeet : Type 0
ReturnsMeet = (s : State) (d : ℕ) (m : Member) (kept : Journal) → IsGood s → IsDevice s d m → m.part.shelved ≡ Some kept → last_acknowledged m.part ≤ last_seq kept → ReturnMeets d s.chain m.part kept

-- ---- stops

-- the part arms no disk
abbrev pub ArmsNot : Act → Type 0
ArmsNot (On d (statements.Fuse steps)) = ⊥
ArmsNot act = Unit {0}

-- the statement arms no disk
abbrev pub ArmsNone : Statement → Type 0
ArmsNone (statements.Do act) = ArmsNot act
ArmsNone s = Unit {0}

-- the reply doesn't tell that a disk stopped
abbrev pub TellsNoStop : Reply → Type 0
TellsNoStop (ByCall (Err answers.CallFault.Stopped)) = ⊥
TellsNoStop (ByNote (Err answers.NoteFault.Stopped)) = ⊥
TellsNoStop (ByPull (Err answers.PullFault.Stopped)) = ⊥
TellsNoStop (BySettle (Err answers.SettleFault.Stopped)) = ⊥
TellsNoStop (ByOpen (Err answers.OpenFault.Stopped)) = ⊥
TellsNoStop reply = Unit {0}

abbrev pub UnfusedRunsOn : Type 0
UnfusedRunsOn = (statements : List Statement) (each : List (List Reply)) (t : State) → All ArmsNone statements → Run new_state statements each t → All (All TellsNoStop) each

-- ---- links

-- the part arms no link
abbrev pub LosesNot : Act → Type 0
LosesNot (On d (statements.Lose side)) = ⊥
LosesNot act = Unit {0}

-- the statement arms no link
abbrev pub LosesNone : Statement → Type 0
LosesNone (statements.Do act) = LosesNot act
LosesNone s = Unit {0}

-- the reply doesn't tell that a link lost a put
abbrev pub TellsNoLoss : Reply → Type 0
TellsNoLoss (ByLand (Err (statements.LinkFault lost))) = ⊥
TellsNoLoss (BySettle (Err (answers.SettleFault.LinkFault lost))) = ⊥
TellsNoLoss reply = Unit {0}

abbrev pub UnlostRunsOn : Type 0
UnlostRunsOn = (statements : List Statement) (each : List (List Reply)) (t : State) → All LosesNone statements → Run new_state statements each t → All (All TellsNoLoss) each

-- ---- stops and collisions

-- the put wasn't refused since blocks of one hash differ
abbrev pub is_apart : PutFault → Bool
is_apart (folder_says.Collision id) = false
is_apart fault = true

-- nor was what the folder answered in a reply that was lost
abbrev pub hides_apart : Option (Result ℕ PutFault) → Bool
hides_apart (Some (Err fault)) = is_apart fault
hides_apart lost = true

-- the reply tells neither that a disk stopped nor that blocks of one hash differ
abbrev pub is_plain : Reply → Bool
is_plain (ByCall (Err answers.CallFault.Stopped)) = false
is_plain (ByNote (Err answers.NoteFault.Stopped)) = false
is_plain (ByPull (Err answers.PullFault.Stopped)) = false
is_plain (BySettle (Err answers.SettleFault.Stopped)) = false
is_plain (ByOpen (Err answers.OpenFault.Stopped)) = false
is_plain (ByLand (Err (statements.LinkFault lost))) = hides_apart lost
is_plain (BySettle (Err (answers.SettleFault.LinkFault lost))) = hides_apart lost
is_plain (ByLand (Err (statements.ByFolder fault))) = is_apart fault
is_plain (BySettle (Err (answers.SettleFault.ByPut fault))) = is_apart fault
is_plain reply = true

abbrev pub IsPlain : Reply → Type 0
IsPlain reply = is_plain reply ≡ true

-- the reply doesn't tell that blocks of one hash differ
abbrev pub TellsApart : Reply → Type 0
TellsApart (ByLand (Err (statements.LinkFault lost))) = hides_apart lost ≡ true
TellsApart (BySettle (Err (answers.SettleFault.LinkFault lost))) = hides_apart lost ≡ true
TellsApart (ByLand (Err (statements.ByFolder fault))) = is_apart fault ≡ true
TellsApart (BySettle (Err (answers.SettleFault.ByPut fault))) = is_apart fault ≡ true
TellsApart reply = Unit {0}

-- ---- answers

-- a grant or a revocation
abbrev pub IsChange : Action → Type 0
IsChange action.Found = ⊥
IsChange a = Unit {0}

-- what a turn asks for: a batch and the size of a new disk are in their ranges
abbrev pub TurnAsks : Turn → Type 0
TurnAsks (statements.Batch most) = IsBatch most
TurnAsks (statements.Restore size) = IsDiskSize size
TurnAsks turn = Unit {0}

-- what a part asks for before it can be done: its device is declared, and the rules of scripts
abbrev pub IsAsked : State → Act → Type 0
IsAsked s (SetSeed seed) = Unit {0}
IsAsked s (Declare name size) = (length s.members < most_devices) × (is_device_name name ≡ true) × IsDiskSize size
IsAsked s (DoFound d) = ((m : Member) × IsDevice s d m) × (s.chain ≡ [])
IsAsked s (DoRekey by action who) = ((m : Member) × IsDevice s by m) × ((m : Member) × IsDevice s who m) × IsChange action
IsAsked s (SetMoment moment) = moment ≤ last_second
IsAsked s (SetRule rule) = IsRule rule
IsAsked s (See d view) = (m : Member) × IsDevice s d m
IsAsked s (On d turn) = (m : Member) × IsDevice s d m × TurnAsks turn
IsAsked s ListChain = Unit {0}
IsAsked s AuditChain = Unit {0}

-- each part has an answer in every state that a run comes to, and one that tells of no stop and of no collision
abbrev pub PartsAnswer : Type 0
PartsAnswer = (s : State) (act : Act) → IsGood s → IsAsked s act → (reply : Reply) × (t : State) × ActStep s act reply t × IsPlain reply
