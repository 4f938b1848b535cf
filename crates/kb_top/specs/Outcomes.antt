-- What a top call leaves, at each status.
use Rattle.std.specs.Prelude.{◌≡◌, ◌≤◌, ◌⊎◌, ℕ, false, List, [], ◌∷◌, ◌++◌, take, Option, Some, slice_get, codes, decimal, map, All, string_bytes}
use Rattle.std.specs.declared.string.String.{String}
use Rattle.std.specs.Io.KnownBytes.{Appends}
use Rattle.kb_edge.specs.Causes.{Rose}
use Rattle.kb_script.specs.declared.statements.Statement.{Statement}
use Rattle.kb_script.specs.declared.faults.ScriptFault.{ScriptFault}
use Rattle.kb_script.specs.Scripts.{IsScript}
use Rattle.kb_world.specs.Statements.{Reply}
use Rattle.kb_world.specs.Machine.{State, new_state, Run, Steps, Ends}
use Rattle.kb_world.specs.RunLaws.{ArmsNone, TellsNoStop, LosesNone, TellsNoLoss, IsPlain}
use Rattle.kb_folder.specs.Chains.{Names}
use Rattle.kb_world.specs.Spoken.{statement_of}
use Rattle.kb_gen.specs.Generated.{generated}
use Rattle.kb_top.specs.Summaries.{summary}
use Rattle.kb_top.specs.Inputs.{IsInput, HasFault, fault_text, TellsScript, TellsNoScript}
use Rattle.kb_top.specs.Replies.{names_in, plain, text_of_replies, text_of_each, AllOwned, AllAgree, IsAnswered}
use Rattle.kb_top.specs.declared.status.Status.{Status}
use Rattle.kb_top.specs.declared.status.Status.TheVariants.{Done, Usage, Script, ReadFault, WriteFault, Memory}

-- what is put where the words ask for nothing
abbrev pub usage_text : List ℕ
usage_text = codes "usage: kbfolder run | live | gen N" ++ 10 ∷ []

-- how a call ends that only tells that the bytes are no script
abbrev pub IsTold : Option (List ℕ) → Option (List ℕ) → List ℕ → Status → Type 0
IsTold before now text Script = Appends before now text
IsTold before now text WriteFault = (put : ℕ) × Appends before now (take put text)
IsTold before now text Memory = Appends before now []
IsTold before now text _ = ⊥

module _ {W : Type 0} (stands : Names → W → State → Type 0) (world : W) (before now : Option (List ℕ)) where
  -- These statements ran, the world stands for the run's last state, and the bytes written are these of that state and of
  -- the replies.
  pub record Ran (statements : List Statement) (written : State → List (List Reply) → List ℕ) : Type 0 where
    pub each : List (List Reply)
    pub state : State
    pub run : Run new_state (plain statements) each state
    pub stands_for : stands (names_in statements) world state
    pub owned : AllOwned state
    pub agree : AllAgree state
    pub unfused : All ArmsNone (plain statements) → All (All TellsNoStop) each
    pub unlost : All LosesNone (plain statements) → All (All TellsNoLoss) each
    pub answered : IsAnswered (plain statements) each
    pub same : All (All IsPlain) each → each ≡ answered.all
    pub bytes : Appends before now (written state each)

  -- The first statements ran, want of memory ended the next one, or its text, and the bytes written are these of the first
  -- statements and of their replies.
  pub record Ended (statements : List Statement) (written : List Statement → List (List Reply) → List ℕ) : Type 0 where
    pub count : ℕ
    pub statement : Statement
    pub next : slice_get statements count ≡ Some statement
    pub each : List (List Reply)
    pub middle : State
    pub run : Run new_state (plain (take count statements)) each middle
    pub state : State
    pub ended : Ends middle (statement_of statement) state
    pub stands_for : stands (names_in statements) world state
    pub owned : AllOwned state
    pub agree : AllAgree state
    pub unfused : All ArmsNone (plain statements) → All (All TellsNoStop) each
    pub unlost : All LosesNone (plain statements) → All (All TellsNoLoss) each
    pub answered : IsAnswered (plain statements) (each ++ ended.0 ∷ [])
    pub bytes : Appends before now (written (take count statements) each)

  -- all statements of a script ran, and put their lines, under the names that the statements declare
  abbrev pub RanWhole : List Statement → Type 0
  RanWhole statements = Ran statements (λ state each. text_of_each (names_in statements) statements each)

  -- the first ones ran, and put their lines
  abbrev pub RanSome : List Statement → Type 0
  RanSome statements = Ended statements (text_of_each (names_in statements))

  -- the first statements ran, and put their lines; the next one ran, and put a beginning of its lines
  pub record Cut (statements : List Statement) : Type 0 where
    pub count : ℕ
    pub statement : Statement
    pub next : slice_get statements count ≡ Some statement
    pub each : List (List Reply)
    pub middle : State
    pub run : Run new_state (plain (take count statements)) each middle
    pub replies : List Reply
    pub state : State
    pub step : Steps middle (statement_of statement) replies state
    pub stands_for : stands (names_in statements) world state
    pub owned : AllOwned state
    pub agree : AllAgree state
    pub unfused : All ArmsNone (plain statements) → All (All TellsNoStop) (each ++ replies ∷ [])
    pub unlost : All LosesNone (plain statements) → All (All TellsNoLoss) (each ++ replies ∷ [])
    pub answered : IsAnswered (plain statements) (each ++ replies ∷ [])
    pub put : ℕ
    pub bytes : Appends before now (text_of_each (names_in statements) (take count statements) each ++ take put (text_of_replies (names_in statements) statement replies))

  -- nothing ran, and these bytes were written
  pub record NothingRan (written : List ℕ) : Type 0 where
    pub stands_for : (names : Names) → stands names world new_state
    pub bytes : Appends before now written

  -- how a run over statements ends
  abbrev pub RunsTo : List Statement → Status → Type 0
  RunsTo statements Done = RanWhole statements
  RunsTo statements Memory = RanSome statements
  RunsTo statements WriteFault = Cut statements
  RunsTo statements _ = ⊥

  -- the source's bytes are a script, and its statements have this
  abbrev pub OfScript : Option (List ℕ) → (List Statement → Type 0) → Type 0
  OfScript source P = (bytes : List ℕ) × (statements : List Statement) × IsInput source bytes × IsScript false bytes statements × P statements

  -- the source's bytes are no script, and the text that says so has this
  abbrev pub OfNoScript : Option (List ℕ) → (List ℕ → Type 0) → Type 0
  OfNoScript source P = (bytes : List ℕ) × (fault : ScriptFault) × IsInput source bytes × HasFault bytes fault × P (fault_text fault)

  -- how a call that reads a script and runs it ends
  abbrev pub Headline : Option (List ℕ) → Status → Type 0
  Headline source Done = OfScript source RanWhole
  Headline source Memory = NothingRan [] ⊎ OfScript source RanSome
  Headline source WriteFault = OfNoScript source (λ text. (put : ℕ) × NothingRan (take put text)) ⊎ OfScript source Cut
  Headline source Script = OfNoScript source NothingRan
  Headline source ReadFault = NothingRan []
  Headline source Usage = ⊥

  -- how a call ends that runs the statements generated for a number, and puts their summary alone
  abbrev pub GenEnd : ℕ → Status → Type 0
  GenEnd number Done = Ran (generated number) (summary number)
  GenEnd number WriteFault = (put : ℕ) × Ran (generated number) (λ state each. take put (summary number state each))
  GenEnd number Memory = NothingRan [] ⊎ (Ended (generated number) (λ first each. []) ⊎ Ran (generated number) (λ state each. []))
  GenEnd number _ = ⊥

  -- how a call ends whose words ask for nothing
  abbrev pub UsageEnd : Status → Type 0
  UsageEnd Usage = NothingRan usage_text
  UsageEnd WriteFault = (put : ℕ) × NothingRan (take put usage_text)
  UsageEnd _ = ⊥

-- Where no count rises, a script is run to its end, and what is none is told, unless memory runs out.
pub record IsComplete (source : Option (List ℕ)) (read_before read_now put_before put_now : ℕ) (status : Status) : Type 0 where
  pub runs : ¬ Rose read_before read_now → ¬ Rose put_before put_now → TellsScript source → (status ≡ Done) ⊎ (status ≡ Memory)
  pub tells : ¬ Rose read_before read_now → ¬ Rose put_before put_now → TellsNoScript source → (status ≡ Script) ⊎ (status ≡ Memory)

-- where no count rises, the statements are run to their end, unless memory runs out
abbrev pub IsWhole : ℕ → ℕ → Status → Type 0
IsWhole put_before put_now status = ¬ Rose put_before put_now → (status ≡ Done) ⊎ (status ≡ Memory)

-- the words are the one word run
abbrev pub IsRun : {A : Type 0} → List (String A) → Type 0
IsRun words = map string_bytes words ≡ codes "run" ∷ []

-- the words are gen and this number, which is one from 1 to 1,000
pub record IsGen {A : Type 0} (words : List (String A)) (number : ℕ) : Type 0 where
  pub from : 1 ≤ number
  pub to : number ≤ 1000
  pub words_are : map string_bytes words ≡ codes "gen" ∷ decimal number ∷ []
