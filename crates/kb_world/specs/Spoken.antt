-- What a script's statements are in the plain machine.
use Rattle.std.specs.Prelude.{ℕ}
use Rattle.kb_keys.specs.declared.policy.Action.TheVariants as action
use Rattle.kb_snap.specs.Rekeys.{grant_of}
use Rattle.kb_script.specs.declared.statements.Statement as script
use Rattle.kb_script.specs.declared.statements.Statement.TheVariants as said
use Rattle.kb_world.specs.Statements.{Statement, SetSeed, Declare, DoFound, DoRekey, SetMoment, See, On, ListChain, AuditChain, Do}
use Rattle.kb_world.specs.Statements as statements

abbrev pub statement_of : script.Statement → Statement
statement_of (said.Seed seed) = Do (SetSeed seed)
statement_of (said.Device name size) = Do (Declare name size)
statement_of (said.Found d) = Do (DoFound d)
statement_of (said.Grant by d role) = Do (DoRekey by (grant_of role) d)
statement_of (said.Revoke by d) = Do (DoRekey by action.Revoke d)
statement_of (said.At moment) = Do (SetMoment moment)
statement_of (said.Open d) = Do (On d statements.Open)
statement_of (said.Pick d) = Do (On d statements.Pick)
statement_of (said.Land d) = Do (On d statements.Land)
statement_of (said.Note d) = Do (On d statements.Note)
statement_of (said.Flush d) = statements.Flush d
statement_of (said.Drain d) = statements.Drain d
statement_of (said.Pull d) = Do (On d statements.Pull)
statement_of (said.Fetch d) = Do (On d statements.Fetch)
statement_of (said.Settle d) = Do (On d statements.Settle)
statement_of (said.Resolve d) = statements.Resolve d
statement_of (said.Status d) = Do (See d statements.Tell)
statement_of (said.Fuse d steps) = Do (On d (statements.Fuse steps))
statement_of (said.Lose d side) = Do (On d (statements.Lose side))
statement_of (said.Power d pick) = Do (On d statements.Power)
statement_of said.Folder = Do ListChain
statement_of said.Verify = Do AuditChain
statement_of (said.File d request) = Do (On d (statements.Call request))
statement_of (said.Look d show) = Do (See d (statements.Look show))

-- the device that does what a statement says, or 0
abbrev pub device_of : script.Statement → ℕ
device_of (said.Seed seed) = 0
device_of (said.Device name size) = 0
device_of (said.Found d) = d
device_of (said.Grant by d role) = by
device_of (said.Revoke by d) = by
device_of (said.At moment) = 0
device_of (said.Open d) = d
device_of (said.Pick d) = d
device_of (said.Land d) = d
device_of (said.Note d) = d
device_of (said.Flush d) = d
device_of (said.Drain d) = d
device_of (said.Pull d) = d
device_of (said.Fetch d) = d
device_of (said.Settle d) = d
device_of (said.Resolve d) = d
device_of (said.Status d) = d
device_of (said.Fuse d steps) = d
device_of (said.Lose d side) = d
device_of (said.Power d pick) = d
device_of said.Folder = 0
device_of said.Verify = 0
device_of (said.File d request) = d
device_of (said.Look d show) = d
