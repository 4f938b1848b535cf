-- How a put at a folder is to be stated, whatever stands for the plain chain: F are folders, Q the requests of puts.
use Rattle.std.specs.Prelude.{◌≡◌, ℕ, ◌+◌, ◌++◌, Result}
use Rattle.kb_snap.specs.Chains.{Chain}
use Rattle.kb_snap.specs.Answers.{PutFault}
use Rattle.kb_snap.specs.Lawful.{Extends, IsLawful}
use Rattle.kb_snap.specs.Puts.{Ask, PutStep}

-- Grows f f': the folder f went on to f' by one put, or is f'.
-- FolderStands f c: the folder f has the chain c.
-- RequestStands f q ask: the request q is for this put at the folder f.
module _ {F Q : Type 0} (Grows : F → F → Type 0) (FolderStands : F → Chain → Type 0) (RequestStands : F → Q → Ask → Type 0) where
  -- a put at the folder, of a request whose revision may come next where it is taken
  abbrev pub PutGoes : F → F → Q → Result ℕ PutFault → Type 0
  PutGoes old new request answer =
      (c : Chain) (ask : Ask) → IsLawful c → Extends c ask → FolderStands old c → RequestStands old request ask → (c' : Chain) × PutStep c ask answer c' × Grows old new × FolderStands new c'

  -- a request is for its put while the folder goes on
  abbrev pub RequestsStay : Type 0
  RequestsStay = (f f' : F) (c more : Chain) (q : Q) (ask : Ask) → Grows f f' → FolderStands f c → FolderStands f' (c ++ more) → RequestStands f q ask → RequestStands f' q ask
