-- The plain chain of a folder, and which revisions may follow it.
use Rattle.std.specs.Prelude.{◌≡◌, ◌≢◌, ℕ, ◌+◌, ◌≤◌, List, [], ◌∷◌, length, map, reverse, true, Option, is_some}
use Rattle.std.specs.List.{range_with_len, filter}
use Rattle.kb_ops.specs.declared.rows.Op.{Op}
use Rattle.kb_ops.specs.Trees.{Tree}
use Rattle.kb_keys.specs.declared.policy.Role.{Role}
use Rattle.kb_keys.specs.declared.policy.Action.TheVariants as action
use Rattle.kb_snap.specs.Chains as plain
use Rattle.kb_snap.specs.Chains.{Deed, Founded, Stepped, Merged, Rekeyed, Revision, ops_in}
use Rattle.kb_snap.specs.Members.{roles_of, generation_of, is_allowed}
use Rattle.kb_snap.specs.Lawful.{AreOf, CountsFrom, FitsDeed}

-- a plain revision, as the machine has it
abbrev pub Plain : Type 0
Plain = Revision

-- the names that devices are declared under, which their revisions have too
abbrev pub Names : Type 0
Names = ℕ → List ℕ

-- A chain from its end, the last revision first, as the folder's bytes are read back. What it says is what the machine's chain says, which is its reverse.
abbrev pub Back : Type 0
Back = List Plain

-- the operations of a device, in order
abbrev pub ops_of : ℕ → Back → List Op
ops_of d c = plain.ops_of d (reverse c)

-- the tree after the first r revisions
abbrev pub tree_at : Back → ℕ → Tree
tree_at c r = plain.tree_at (reverse c) r

-- the role of a device after the last revision, where it is a member
abbrev pub role_in : Back → ℕ → Option Role
role_in c d = roles_of (reverse c) d

-- how many keys the folder has had
abbrev pub generation_in : Back → ℕ
generation_in c = generation_of (reverse c)

-- the members by these roles, in order
abbrev pub members : (ℕ → Option Role) → List ℕ
members role = filter (λ d. is_some (role d)) (range_with_len 1 32)

-- a device and a generation
abbrev pub Place : Type 0
Place = ℕ × ℕ

-- A founding and a grant give a device the keys of all generations so far, and a revocation gives those who remain a new one.
abbrev pub places_by : (ℕ → Option Role) → ℕ → ℕ → Deed → List Place
places_by role g writer Founded = (writer, 1) ∷ []
places_by role g writer (Stepped ops) = []
places_by role g writer (Merged base rule ops) = []
places_by role g writer (Rekeyed action.Found who) = []
places_by role g writer (Rekeyed action.GrantWriter who) = map (λ i. (who, i)) (range_with_len 1 g)
places_by role g writer (Rekeyed action.GrantReader who) = map (λ i. (who, i)) (range_with_len 1 g)
places_by role g writer (Rekeyed action.Revoke who) = map (λ d. (d, g)) (members role)

-- the devices and generations that the last revision of the chain has keys for
abbrev pub places_of : Back → List Place
places_of [] = []
places_of (x ∷ c) = places_by (role_in (x ∷ c)) (generation_in (x ∷ c)) x.writer x.deed

-- ---- which revisions may follow

-- the device may make the next revision
abbrev pub IsAllowed : Back → ℕ → Type 0
IsAllowed c writer = is_allowed (reverse c) writer ≡ true

-- What a folder asks beyond the machine's rules: who founds it and who is granted are registered, a step isn't first, and a branch has at most so many operations.
abbrev pub Suits : ℕ → Back → ℕ → Deed → Type 0
Suits registered c writer Founded = (1 ≤ writer) × (writer ≤ registered)
Suits registered c writer (Stepped ops) = c ≢ []
Suits registered c writer (Merged base rule ops) = length ops ≤ 4096
Suits registered c writer (Rekeyed action.Found who) = Unit {0}
Suits registered c writer (Rekeyed action.GrantWriter who) = (1 ≤ who) × (who ≤ registered)
Suits registered c writer (Rekeyed action.GrantReader who) = (1 ≤ who) × (who ≤ registered)
Suits registered c writer (Rekeyed action.Revoke who) = Unit {0}

-- the revision may follow the chain, whether or not there is room
pub record Follows (registered : ℕ) (c : Back) (x : Plain) : Type 0 where
  pub allowed : IsAllowed c x.writer
  pub own : AreOf x.writer (ops_in x.deed)
  pub counts : CountsFrom (length (ops_of x.writer c) + 1) (ops_in x.deed)
  pub fits : FitsDeed (reverse c) x x.deed
  pub suits : Suits registered c x.writer x.deed
