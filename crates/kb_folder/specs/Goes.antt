-- A put as the plain machine's step.
use Rattle.std.specs.Prelude.{◌≡◌, ◌≢◌, ◌⊎◌, ℕ, ◌+◌, ◌≤◌, List, ◌∷◌, length, reverse, Some, Result, Ok, Err}
use Rattle.std.specs.FinMap.{get}
use Rattle.kb_snap.specs.Chains.{Chain, most_revisions}
use Rattle.kb_snap.specs.Answers.{PutFault}
use Rattle.kb_snap.specs.Answers as says
use Rattle.kb_snap.specs.Puts.{Ask}
use Rattle.kb_snap.specs.Lawful.{IsLawful}
use Rattle.kb_snap.specs.PutForms.{PutGoes}
use Rattle.kb_snap.specs.PutForms as forms
use Rattle.kb_chain.specs.declared.states.FolderRequest.{FolderRequest}
use Rattle.kb_chain.specs.declared.states.PutRefusal.{PutRefusal}
use Rattle.kb_chain.specs.declared.states.PutRefusal.TheVariants as why
use Rattle.kb_folder.specs.Chains.{Back, Names}
use Rattle.kb_folder.specs.Puts.{Held, Puts}
use Rattle.kb_folder.specs.Lands.{FolderStands, IsRequestOf}

-- the machine's answer for the folder's. Want of memory has none, and a device's own request gets no other refusal
abbrev pub Means : Result ℕ PutRefusal → Result ℕ PutFault → Type 0
Means (Ok n) answer = answer ≡ Ok n
Means (Err why.NotWriter) answer = answer ≡ Err says.PutFault.NotWriter
Means (Err (why.Stale len head)) answer = answer ≡ Err (says.PutFault.Stale len)
Means (Err why.ChainEnd) answer = answer ≡ Err says.PutFault.ChainEnd
Means (Err (why.Collision id)) answer = answer ≡ Err (says.PutFault.Collision id)
Means (Err refusal) answer = ⊥

-- one revision stands behind the others, and all blocks are kept
pub record IsLonger (old new : Held) : Type 0 where
  pub bytes : List ℕ
  pub revisions : new.revisions ≡ bytes ∷ old.revisions
  pub blocks : (id b : List ℕ) → get old.blocks id ≡ Some b → get new.blocks id ≡ Some b
  pub registered : new.state.registered ≡ old.state.registered

-- the folder after a put
abbrev pub Grows : Held → Held → Type 0
Grows old new = (new ≡ old) ⊎ IsLonger old new

module _ (sealed signed : List ℕ → List ℕ → List ℕ) (hashed : List ℕ → List ℕ) (seed : List ℕ) (names : Names) where
  -- The folder has the machine's chain: its bytes stand for it from its end, and it takes as many revisions.
  pub record HasChain (f : Held) (c : Chain) : Type 0 where
    pub back : Back
    pub turned : c ≡ reverse back
    pub stands : FolderStands sealed signed hashed seed names f back
    pub limit : f.limit ≡ most_revisions

  -- The request is for this put at the folder, whose next revision or an earlier one it was made for.
  pub record IsFor (f : Held) (request : FolderRequest) (ask : Ask) : Type 0 where
    pub within : ask.number ≤ length f.revisions + 1
    pub own : (back : Back) → FolderStands sealed signed hashed seed names f back → IsRequestOf sealed signed hashed seed names f back request ask.revision ask.number

  -- A put goes as the machine's does.
  abbrev pub PutsGo : Type 0
  PutsGo = (f new : Held) (request : FolderRequest) (result : Result ℕ PutRefusal) (answer : Result ℕ PutFault) → Puts signed hashed f request new result → Means result answer
      → PutGoes Grows HasChain IsFor f new request answer

  -- and each answer has a meaning there
  abbrev pub PutsMean : Type 0
  PutsMean = (f new : Held) (c : Chain) (request : FolderRequest) (ask : Ask) (result : Result ℕ PutRefusal) → HasChain f c → IsFor f request ask → Puts signed hashed f request new result → result ≢ Err why.Memory
      → (answer : Result ℕ PutFault) × Means result answer

  -- A folder's chain is lawful.
  abbrev pub ChainIsLawful : Type 0
  ChainIsLawful = (f : Held) (c : Chain) → HasChain f c → IsLawful c

  -- A request stays one for its put whatever else is put.
  abbrev pub RequestsStay : Type 0
  RequestsStay = forms.RequestsStay Grows HasChain IsFor
