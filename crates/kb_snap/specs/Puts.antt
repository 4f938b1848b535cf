-- How the folder takes a revision.
use Rattle.std.specs.Prelude.{◌≡◌, ◌≢◌, ◌≤◌, ◌<◌, ℕ, ◌+◌, true, false, [], ◌∷◌, ◌++◌, length, Option, None, Some, Result, Ok, Err}
use Rattle.kb_snap.specs.Chains.{Revision, Chain, most_revisions}
use Rattle.kb_snap.specs.Members.{is_allowed}
use Rattle.kb_snap.specs.Answers.{PutFault, NotWriter, Stale, ChainEnd, Collision}

-- a revision that is to be put, and the number that it was made for
pub record Ask : Type 0 where
  pub number : ℕ
  pub revision : Revision

-- its writer may write, and it was made for the next number
pub record IsNext (c : Chain) (ask : Ask) : Type 0 where
  pub allowed : is_allowed c ask.revision.writer ≡ true
  pub number : ask.number ≡ length c + 1

-- The folder may give this answer and go on to this chain. That blocks of one hash differ is a free choice here.
abbrev pub PutStep : Chain → Ask → Result ℕ PutFault → Chain → Type 0
PutStep c ask (Ok n) new = IsNext c ask × (length c < most_revisions) × (n ≡ ask.number) × (new ≡ c ++ ask.revision ∷ [])
PutStep c ask (Err NotWriter) new = (is_allowed c ask.revision.writer ≡ false) × (new ≡ c)
PutStep c ask (Err (Stale len)) new = (is_allowed c ask.revision.writer ≡ true) × (ask.number ≢ length c + 1) × (len ≡ length c) × (new ≡ c)
PutStep c ask (Err ChainEnd) new = IsNext c ask × (most_revisions ≤ length c) × (new ≡ c)
PutStep c ask (Err (Collision id)) new = IsNext c ask × (length c < most_revisions) × (new ≡ c)

-- a put over a link that loses the request, so that nothing is put, or the folder's answer
abbrev pub LostPut : Chain → Ask → Option (Result ℕ PutFault) → Chain → Type 0
LostPut c ask None new = new ≡ c
LostPut c ask (Some answer) new = PutStep c ask answer new
