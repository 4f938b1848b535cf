-- The replies of statements where no disk stops: there are such, and only one list of them.
use Rattle.std.specs.Prelude.{◌≡◌, ℕ, Bool, true, false, ◌+◌, ◌-◌, ◌≤◌, ◌<◌, List, [], ◌∷◌, ◌++◌, length, map, All, Contains, Some, None, Ok, slice_get, if◌then◌else◌}
use Rattle.std.specs.List.{list_all}
use Rattle.kb_name.specs.Names.{is_device_name}
use Rattle.kb_name.specs.Moments.{last_second}
use Rattle.kb_device.specs.Answers.{Status}
use Rattle.kb_snap.specs.Chains.{Chain, tree_at}
use Rattle.kb_snap.specs.Lawful.{IsRule, AreFew}
use Rattle.kb_device.specs.Journals.{Journal}
use Rattle.kb_device.specs.Parts.{Part, IsOpenAt, OpenStep, tree_shown}
use Rattle.kb_world.specs.Statements.{Statement, Reply, Turn, Act, SetSeed, Declare, DoFound, DoRekey, SetMoment, SetRule, See, On, ListChain, AuditChain}
use Rattle.kb_world.specs.Statements as statements
use Rattle.kb_world.specs.Machine.{most_devices, IsDiskSize, IsBatch, Member, State, new_state, ActStep, Progress, Steps, Run}
use Rattle.kb_world.specs.Good.{IsGood}
use Rattle.kb_world.specs.RunLaws.{IsDevice, IsChange, ArmsNone, is_plain, IsPlain, TellsApart}

-- These are replies of the statements, a list for each: the new machine gives them, and none tells that a disk stopped or
-- that blocks of one hash differ.
pub record AreReplies (statements : List Statement) (each : List (List Reply)) : Type 0 where
  pub state : State
  pub run : Run new_state statements each state
  pub plain : All (All IsPlain) each

-- ---- but for what is left of disks' steps

abbrev pub disarmed_part : Part → Part
disarmed_part p = record p { left = None }

abbrev pub disarmed_member : Member → Member
disarmed_member m = record m { part = disarmed_part m.part }

-- the state with no disk armed
abbrev pub disarmed : State → State
disarmed s = record s { members = map disarmed_member s.members }

-- the statements have no other replies, and come to one state, but for what is left of disks' steps
abbrev pub RepliesAreOne : Type 0
RepliesAreOne = (statements : List Statement) (each more : List (List Reply)) (a : AreReplies statements each) (b : AreReplies statements more) → (each ≡ more) × (disarmed a.state ≡ disarmed b.state)

-- ---- one part

-- an opening of each device finds one journal
abbrev pub HaveOne : State → Type 0
HaveOne s = (i : ℕ) (m : Member) → slice_get s.members i ≡ Some m → length m.part.may ≡ 1

-- so it is where no disk stopped
abbrev pub WholeHaveOne : Type 0
WholeHaveOne = (statements : List Statement) (each : List (List Reply)) (t : State) → Run new_state statements each t → All (All IsPlain) each → HaveOne t

-- the part is no opening, or its device has one journal
abbrev pub OpensOne : State → Act → Type 0
OpensOne s (On d statements.Open) = (m : Member) → slice_get s.members (d - 1) ≡ Some m → length m.part.may ≡ 1
OpensOne s act = Unit {0}

-- From each state a part has one reply, but for a stop and a collision, and leads to one state, but for what is left of
-- disks' steps.
abbrev pub PartsAreDetermined : Type 0
PartsAreDetermined = (s : State) (act : Act) (reply other : Reply) (t u : State) → IsGood s → OpensOne s act → ActStep s act reply t → IsPlain reply → ActStep s act other u → IsPlain other → (reply ≡ other) × (disarmed t ≡ disarmed u)

-- and every reply, also one that tells of a stop or a collision, leads to one state
abbrev pub RepliesTellAll : Type 0
RepliesTellAll = (s : State) (act : Act) (reply : Reply) (t u : State) → IsGood s → OpensOne s act → ActStep s act reply t → ActStep s act reply u → disarmed t ≡ disarmed u

-- an opening does what it would do if the journal that it finds were the only one
abbrev pub OpeningsChoose : Type 0
OpeningsChoose = (d : ℕ) (c : Chain) (p : Part) (status : Status) (q : Part) → OpenStep d c p (Ok status) q → (found : Journal) × Contains p.may found × OpenStep d c (record p { may = found ∷ [] }) (Ok status) q

-- where no statement arms a disk, no reply tells of a stop, and no state has a disk armed
abbrev pub UnfusedIsDisarmed : Type 0
UnfusedIsDisarmed = (statements : List Statement) (each : List (List Reply)) (t : State) → All ArmsNone statements → Run new_state statements each t → disarmed t ≡ t

-- so without a fuse and a collision the statements determine the replies and the state
abbrev pub RunsAreDetermined : Type 0
RunsAreDetermined = (statements : List Statement) (each more : List (List Reply)) (t u : State) → All ArmsNone statements → Run new_state statements each t → All (All TellsApart) each → Run new_state statements more u → All (All TellsApart) more → (each ≡ more) × (t ≡ u)

-- ---- runs that are cut off

-- the first statements were done, and the first parts of the one behind them, and these are the replies so far
abbrev pub Begun : State → List Statement → List (List Reply) → State → Type 0
Begun s statements [] t = t ≡ s
Begun s (statement ∷ statements) (replies ∷ []) t = Progress statement [] s replies t
Begun s (statement ∷ statements) (replies ∷ next ∷ each) t = (mid : State) × Steps s statement replies mid × Begun mid statements (next ∷ each) t
Begun s [] (replies ∷ each) t = ⊥

-- so it is of a run of all statements, and where want of memory ended the next statement between its parts
pub record RunBegins (first : List Statement) (each : List (List Reply)) (s : State) : Type 0 where
  pub whole : Begun new_state first each s
  pub more : (statement : Statement) (rest : List Statement) (replies : List Reply) (t : State) → Progress statement [] s replies t → Begun new_state (first ++ statement ∷ rest) (each ++ replies ∷ []) t

abbrev pub RunsBegin : Type 0
RunsBegin = (first : List Statement) (each : List (List Reply)) (s : State) → Run new_state first each s → RunBegins first each s

-- the replies before the first that tells of a stop or a collision
abbrev pub plain_in : List Reply → List Reply
plain_in [] = []
plain_in (reply ∷ replies) = if is_plain reply then reply ∷ plain_in replies else []

-- and so over all statements
abbrev pub plain_front : List (List Reply) → List (List Reply)
plain_front [] = []
plain_front (replies ∷ each) = plain_in replies ∷ (if list_all is_plain replies then plain_front each else [])

-- the replies stand first in all of them
abbrev pub Front : List (List Reply) → List (List Reply) → Type 0
Front [] all = Unit {0}
Front (replies ∷ []) (whole ∷ all) = (rest : List Reply) × (whole ≡ replies ++ rest)
Front (replies ∷ next ∷ each) (whole ∷ all) = (whole ≡ replies) × Front (next ∷ each) all
Front (replies ∷ each) [] = ⊥

-- what a run has replied wherever it is cut off, as by want of memory, are the first of the replies, up to a stop or a
-- collision
abbrev pub BegunIsFront : Type 0
BegunIsFront = (statements : List Statement) (all each : List (List Reply)) (t : State) → AreReplies statements all → Begun new_state statements each t → Front (plain_front each) all

-- ---- scripts

-- one of so many devices
abbrev pub IsOneOf : ℕ → ℕ → Type 0
IsOneOf n d = (1 ≤ d) × (d ≤ n)

-- a turn that may come before the folder is founded
abbrev pub IsEarly : Turn → Type 0
IsEarly (statements.Fuse steps) = Unit {0}
IsEarly turn = ⊥

-- the turn's number is in its range
abbrev pub IsInRange : Turn → Type 0
IsInRange (statements.Batch most) = IsBatch most
IsInRange (statements.Restore size) = IsDiskSize size
IsInRange turn = Unit {0}

-- the statement may stand where so many devices are declared, before the folder is founded (false) or after (true)
abbrev pub MayStand : ℕ → Bool → Statement → Type 0
MayStand n founded (statements.Do (SetSeed seed)) = Unit {0}
MayStand n founded (statements.Do (Declare name size)) = (n < most_devices) × (is_device_name name ≡ true) × IsDiskSize size
MayStand n founded (statements.Do (SetMoment moment)) = moment ≤ last_second
MayStand n false (statements.Do (DoFound d)) = IsOneOf n d
MayStand n true (statements.Do (DoFound d)) = ⊥
MayStand n true (statements.Do (SetRule rule)) = IsRule rule
MayStand n true (statements.Do (DoRekey by a who)) = IsOneOf n by × IsOneOf n who × IsChange a
MayStand n true (statements.Do (See d view)) = IsOneOf n d
MayStand n false (statements.Do (On d turn)) = IsOneOf n d × IsEarly turn × IsInRange turn
MayStand n true (statements.Do (On d turn)) = IsOneOf n d × IsInRange turn
MayStand n true (statements.Do ListChain) = Unit {0}
MayStand n true (statements.Do AuditChain) = Unit {0}
MayStand n true (statements.Flush d) = IsOneOf n d
MayStand n true (statements.Drain d) = IsOneOf n d
MayStand n true (statements.Resolve d) = IsOneOf n d
MayStand n false statement = ⊥

abbrev pub declared_by : ℕ → Statement → ℕ
declared_by n (statements.Do (Declare name size)) = n + 1
declared_by n statement = n

abbrev pub founded_by : Bool → Statement → Bool
founded_by founded (statements.Do (DoFound d)) = true
founded_by founded statement = founded

abbrev pub MayFollow : ℕ → Bool → List Statement → Type 0
MayFollow n founded [] = Unit {0}
MayFollow n founded (statement ∷ statements) = MayStand n founded statement × MayFollow (declared_by n statement) (founded_by founded statement) statements

-- at most 32 devices are declared, each before it is named, and the folder is founded once, before all that needs it
abbrev pub IsScript : List Statement → Type 0
IsScript statements = MayFollow 0 false statements

-- the rows of each revision's tree and of each open device's tree are so few that every conflicted name is a name
abbrev pub HasFew : State → Type 0
HasFew s = (d : ℕ) (m : Member) (j : Journal) (r : ℕ) → IsDevice s d m → IsOpenAt m.part j → r ≤ length s.chain → AreFew (tree_at s.chain r) (tree_shown m.part j)

-- so it is in every state of a run
abbrev pub FewRows : Type 0
FewRows = (s : State) → IsGood s → HasFew s

-- a script has replies without a stop and a collision, whether it arms disks or not
abbrev pub ScriptsHaveReplies : Type 0
ScriptsHaveReplies = (statements : List Statement) → IsScript statements → (each : List (List Reply)) × AreReplies statements each

-- ---- all of it

-- These are the replies of the statements. A run gives them; every other run without a stop and a collision gives the same
-- ones, and comes to the same state but for what is left of disks' steps; and every run, wherever it is cut off, gave the
-- first of them up to a stop or a collision.
pub record AreTheReplies (statements : List Statement) (all : List (List Reply)) : Type 0 where
  pub are : AreReplies statements all
  pub only : (each : List (List Reply)) (other : AreReplies statements each) → (each ≡ all) × (disarmed other.state ≡ disarmed are.state)
  pub begun : (each : List (List Reply)) (t : State) → Begun new_state statements each t → Front (plain_front each) all

-- each script has its replies
abbrev pub ScriptsAreAnswered : Type 0
ScriptsAreAnswered = (statements : List Statement) → IsScript statements → (all : List (List Reply)) × AreTheReplies statements all

-- and a run without a stop and a collision gives them
abbrev pub PlainRunsAnswer : Type 0
PlainRunsAnswer = (statements : List Statement) (each : List (List Reply)) → AreReplies statements each → AreTheReplies statements each
