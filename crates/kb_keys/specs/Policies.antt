-- The members and their roles.
use Rattle.std.specs.Prelude.{◌≡◌, ℕ, ◌+◌, nat_eq, List, Option, Some, None, if◌then◌else◌, slice_index_or}
use Rattle.kb_keys.specs.declared.policy.Role.{Role}
use Rattle.kb_keys.specs.declared.policy.Role.TheVariants.{Writer, Reader}
use Rattle.kb_keys.specs.declared.policy.Action.{Action}
use Rattle.kb_keys.specs.declared.policy.Action.TheVariants.{Found, GrantWriter, GrantReader, Revoke}

-- a device's role, where it is a member
abbrev pub role_at : List (Option Role) → ℕ → Option Role
role_at roles d = slice_index_or roles d None

-- the role that an action gives
abbrev pub role_after : Action → Option Role
role_after Found = Some Writer
role_after GrantWriter = Some Writer
role_after GrantReader = Some Reader
role_after Revoke = None

-- the device has the role that the action gives, and all others keep theirs
abbrev pub Applies : Action → ℕ → List (Option Role) → List (Option Role) → Type 0
Applies action d old new = (q : ℕ) → role_at new q ≡ (if nat_eq q d then role_after action else role_at old q)

-- a found folder and a revocation have a new key
abbrev pub generation_after : Action → ℕ → ℕ
generation_after Found g = g + 1
generation_after GrantWriter g = g
generation_after GrantReader g = g
generation_after Revoke g = g + 1
