-- How the folder takes a change of its members.
use Rattle.std.specs.Prelude.{ℕ, ◌≡◌, ◌⊎◌, ◌+◌, ◌-◌, ◌≤◌, ◌<◌, [], ◌∷◌, ◌++◌, length, true, false, None, IsSome, Result, Ok, Err}
use Rattle.kb_keys.specs.declared.policy.Role.{Role}
use Rattle.kb_keys.specs.declared.policy.Role.TheVariants.{Writer, Reader}
use Rattle.kb_keys.specs.declared.policy.Action.{Action}
use Rattle.kb_keys.specs.declared.policy.Action.TheVariants as action
use Rattle.kb_snap.specs.Chains.{Revision, Chain, most_revisions}
use Rattle.kb_snap.specs.Members.{roles_of, generation_of, FitsAction}
use Rattle.kb_keys.specs.Members.{is_writer, IsLastWriter}
use Rattle.kb_snap.specs.Answers.{RekeyFault}
use Rattle.kb_snap.specs.Answers as answers

-- the action of a grant
abbrev pub grant_of : Role → Action
grant_of Writer = action.GrantWriter
grant_of Reader = action.GrantReader

-- why the members don't change, the first reason that applies
abbrev pub RekeyRefuses : Chain → ℕ → Action → ℕ → RekeyFault → Type 0
RekeyRefuses c by action who answers.RekeyFault.NotWriter = is_writer (roles_of c by) ≡ false
RekeyRefuses c by action.Revoke who answers.Known = ⊥
RekeyRefuses c by action who answers.Known = (is_writer (roles_of c by) ≡ true) × IsSome (roles_of c who)
RekeyRefuses c by action.Revoke who answers.RekeyFault.NotMember = (is_writer (roles_of c by) ≡ true) × (roles_of c who ≡ None)
RekeyRefuses c by action.Revoke who answers.LastWriter = (is_writer (roles_of c by) ≡ true) × IsLastWriter (roles_of c) who
RekeyRefuses c by action.Revoke who answers.GenEnd = (is_writer (roles_of c by) ≡ true) × IsSome (roles_of c who) × ¬ IsLastWriter (roles_of c) who × (64 ≤ generation_of c)
RekeyRefuses c by action who answers.RekeyFault.ChainEnd = (is_writer (roles_of c by) ≡ true) × FitsAction c action who × (most_revisions ≤ length c)
RekeyRefuses c by action who fault = ⊥

-- the chain is followed by this revision, or it stays
abbrev pub RekeyStep : Chain → Revision → ℕ → Action → ℕ → Result ℕ RekeyFault → Chain → Type 0
RekeyStep c revision by action who (Ok n) new = (is_writer (roles_of c by) ≡ true) × FitsAction c action who × (length c < most_revisions) × (n ≡ length c + 1) × (new ≡ c ++ revision ∷ [])
RekeyStep c revision by action who (Err fault) new = RekeyRefuses c by action who fault × (new ≡ c)
