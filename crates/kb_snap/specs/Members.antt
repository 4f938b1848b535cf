-- Who may write and read after each revision, and the generation of the folder's key.
use Rattle.std.specs.Prelude.{◌≡◌, ℕ, ◌<◌, ◌==◌, Bool, ◌||◌, [], ◌∷◌, length, take, if◌then◌else◌, None, IsSome, ◌+◌, ◌-◌, ◌≤◌, List, Some, slice_get}
use Rattle.kb_keys.specs.declared.policy.Action.{Action}
use Rattle.kb_keys.specs.declared.policy.Action.TheVariants.{Found, GrantWriter, GrantReader, Revoke}
use Rattle.kb_keys.specs.Policies.{generation_after}
use Rattle.kb_snap.specs.Chains.{Deed, Founded, Stepped, Merged, Rekeyed, Chain, Revision}
use Rattle.kb_keys.specs.Members.{IsLastWriter, Roles, given_role, is_writer, nobody}

abbrev pub roles_by : ℕ → Deed → Roles → Roles
roles_by writer Founded roles = given_role Found writer roles
roles_by writer (Stepped ops) roles = roles
roles_by writer (Merged base rule ops) roles = roles
roles_by writer (Rekeyed action d) roles = given_role action d roles

abbrev pub roles_after : Roles → Chain → Roles
roles_after roles [] = roles
roles_after roles (revision ∷ c) = roles_after (roles_by revision.writer revision.deed roles) c

-- the members after the first r revisions
abbrev pub roles_at : Chain → ℕ → Roles
roles_at c r = roles_after nobody (take r c)

-- the members after the last revision
abbrev pub roles_of : Chain → Roles
roles_of c = roles_after nobody c

-- the device is neither writer nor reader after the last revision
abbrev pub IsStranger : Chain → ℕ → Type 0
IsStranger c d = roles_of c d ≡ None

-- the device may make the next revision: it is a writer after the last one, or there is none yet
abbrev pub is_allowed : Chain → ℕ → Bool
is_allowed c d = length c == 0 || is_writer (roles_of c d)

abbrev pub generation_by : Deed → ℕ → ℕ
generation_by Founded g = generation_after Found g
generation_by (Stepped ops) g = g
generation_by (Merged base rule ops) g = g
generation_by (Rekeyed action d) g = generation_after action g

abbrev pub generation_from : ℕ → Chain → ℕ
generation_from g [] = g
generation_from g (revision ∷ c) = generation_from (generation_by revision.deed g) c

-- how many keys the folder has had by the last revision
abbrev pub generation_of : Chain → ℕ
generation_of c = generation_from 0 c

-- and by the r-th
abbrev pub generation_at : Chain → ℕ → ℕ
generation_at c r = generation_from 0 (take r c)

-- A change of the members fits: a grant is for a device that is no member, a revocation for a member that is not the
-- only writer, and there is a key left for it.
abbrev pub FitsAction : Chain → Action → ℕ → Type 0
FitsAction c Found who = ⊥
FitsAction c GrantWriter who = roles_of c who ≡ None
FitsAction c GrantReader who = roles_of c who ≡ None
FitsAction c Revoke who = IsSome (roles_of c who) × ¬ IsLastWriter (roles_of c) who × (generation_of c < 64)

-- the device whose role changes is one of so many
abbrev pub IsNamed : ℕ → Deed → Type 0
IsNamed n Founded = Unit {0}
IsNamed n (Stepped ops) = Unit {0}
IsNamed n (Merged base rule ops) = Unit {0}
IsNamed n (Rekeyed action who) = (1 ≤ who) × (who ≤ n)

-- the writer is one of the devices with these names, and has its own, and so is the device whose role changes
pub record IsDeclared (names : List (List ℕ)) (revision : Revision) : Type 0 where
  pub numbered : 1 ≤ revision.writer
  pub named : slice_get names (revision.writer - 1) ≡ Some revision.name
  pub who : IsNamed (length names) revision.deed
