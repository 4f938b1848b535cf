-- The roles of members.
use Rattle.std.specs.Prelude.{◌≡◌, ℕ, ◌<◌, ◌==◌, Bool, true, false, ◌||◌, [], ◌∷◌, if◌then◌else◌, Option, Some, None}
use Rattle.kb_keys.specs.declared.policy.Role.{Role}
use Rattle.kb_keys.specs.declared.policy.Role.TheVariants.{Writer, Reader}
use Rattle.kb_keys.specs.declared.policy.Action.{Action}
use Rattle.kb_keys.specs.Policies.{role_after}

-- the role of each device that is a member
abbrev pub Roles : Type 0
Roles = ℕ → Option Role

-- no member
abbrev pub nobody : Roles
nobody d = None

-- the action gives the device a role or takes it away, and all others keep theirs
abbrev pub given_role : Action → ℕ → Roles → Roles
given_role action d roles q = if q == d then role_after action else roles q

abbrev pub is_writer : Option Role → Bool
is_writer (Some Writer) = true
is_writer (Some Reader) = false
is_writer None = false

-- the only writer
pub record IsLastWriter (roles : Roles) (d : ℕ) : Type 0 where
  pub writes : is_writer (roles d) ≡ true
  pub alone : (q : ℕ) → is_writer (roles q) ≡ true → q ≡ d
