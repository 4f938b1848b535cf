-- What a device reads of earlier revisions.
use Rattle.std.specs.Prelude.{◌≡◌, ℕ, ◌+◌, ◌-◌, ◌<◌, ◌≤◌, nat_eq, if◌then◌else◌, [], length, Option, Some, None}
use Rattle.kb_keys.specs.declared.policy.Role.{Role}
use Rattle.kb_keys.specs.Policies.{role_after}
use Rattle.kb_chain.specs.declared.bundles.BundlePart.{BundlePart}
use Rattle.kb_snap.specs.Chains.{Revision, Chain, ops_by, first_own, seq_of_last}
use Rattle.kb_snap.specs.Lawful.{CountsFrom}
use Rattle.kb_device.specs.Foreign.{first_ops, seq_of_first}
use Rattle.kb_device.specs.declared.past.Own.{Own}

-- the role of a device that had this one, after what a revision says of the members
abbrev pub role_with : ℕ → Option BundlePart → Option Role → Option Role
role_with d None role = role
role_with d (Some part) role = if nat_eq d part.device then role_after part.action else role

-- the revision of this number has operations of the device, with these seqs
pub record HasOwn (d n : ℕ) (x : Revision) (own : Own) : Type 0 where
  pub number : own.number ≡ n
  pub some : 0 < length (ops_by d x)
  pub counts : CountsFrom own.first (ops_by d x)
  pub size : own.first + length (ops_by d x) ≡ own.last + 1

-- or it has none
abbrev pub IsOwnAt : ℕ → ℕ → Revision → Option Own → Type 0
IsOwnAt d n x None = ops_by d x ≡ []
IsOwnAt d n x (Some own) = HasOwn d n x own

-- of these revisions, which come behind the n-th, this is the first that has operations of the device
pub record IsFirst (d n : ℕ) (c : Chain) (own : Own) : Type 0 where
  pub first : first_own d n c ≡ Some (own.number, own.last + 1 - own.first)
  pub beyond : n < own.number
  pub within : own.number ≤ n + length c
  pub some : 0 < length (first_ops d c)
  pub begins : seq_of_first (first_ops d c) ≡ own.first
  pub ends : seq_of_last (first_ops d c) ≡ own.last
  pub ordered : own.first ≤ own.last

-- or none has
pub record HasNone (d n : ℕ) (c : Chain) : Type 0 where
  pub none : first_own d n c ≡ None
  pub empty : first_ops d c ≡ []

abbrev pub IsFirstOwn : ℕ → ℕ → Chain → Option Own → Type 0
IsFirstOwn d n c None = HasNone d n c
IsFirstOwn d n c (Some own) = IsFirst d n c own
