use Rattle.std.proofs.Common.{rules, ◌≡◌, [], ◌∷◌, Ok, Err, OnErr, OnOk, IfOk, length, refl, sym, subst}
use Rattle.kb_keys.specs.declared.policy.Action.TheVariants as action
use Rattle.kb_snap.specs.Rekeys.{grant_of}
use Rattle.kb_script.specs.declared.statements.Statement.TheVariants as said
use Rattle.kb_world.specs.Statements as statements
use Rattle.kb_world.proofs.Worlds.{on_err}
use Rattle.kb_world.proofs.Rounds.{one_part, one_silent, one_lacks, one_lacks_part, still, PickSays, LandSays, NoteSays}
use Rattle.kb_world.proofs.BranchWorlds.{FetchSays, SettleSays}
use Rattle.kb_world.proofs.Stepping.{stands_then, may_then, declared_then, along_ends, flush_does, drain_does, drain_ends, resolve_does, resolve_ends, folder_does, folder_ends}
use Rattle.kb_world.proofs.world.World.step.Goals as goal

pub returns-in_err-room-clause-step : goal.returns-in_err-room-clause-step
returns-in_err-room-clause-step g c = search rules

pub returns-in_err-room-clause-memory : goal.returns-in_err-room-clause-memory
returns-in_err-room-clause-memory g c = on_err c.from_residual.result (still c.args.self.now c.args.statement.now)

pub declare-requires-clause-stands : goal.declare-requires-clause-stands
declare-requires-clause-stands g c = (c.requires.0, c.requires.1, c.requires.2, (may_then c.args.self.now c.args.statement.now (said.Device c.in-Device.name c.in-Device.size) c.in-Device.is c.requires).0)

pub declare-requires-clause-sized : goal.declare-requires-clause-sized
declare-requires-clause-sized g c = (let may = may_then c.args.self.now c.args.statement.now (said.Device c.in-Device.name c.in-Device.size) c.in-Device.is c.requires in (may.2, may.3))

pub returns-in_err-declare-in-Device-clause-step : goal.returns-in_err-declare-in-Device-clause-step
returns-in_err-declare-in-Device-clause-step g c = search rules

pub returns-in_err-declare-in-Device-clause-memory : goal.returns-in_err-declare-in-Device-clause-memory
returns-in_err-declare-in-Device-clause-memory g c = on_err c.from_residual-in_err-declare-in-Device.result (one_lacks c.args.self.now c.declare.new.self c.args.statement.now (said.Device c.in-Device.name c.in-Device.size) c.in-Device.is (λ names s h may. c.in_err-declare-in-Device.ensures.memory names s h))

pub returns-in_ok-declare-in-Device-clause-step : goal.returns-in_ok-declare-in-Device-clause-step
returns-in_ok-declare-in-Device-clause-step g c = one_silent c.args.self.now c.declare.new.self c.args.statement.now (said.Device c.in-Device.name c.in-Device.size) c.in-Device.is (statements.Declare c.in-Device.name c.in-Device.size) c.in_ok-room.room.items refl c.in_ok-room.ensures.empty c.in_ok-declare-in-Device.ensures.step

pub found-requires : goal.found-requires
found-requires g c = (let may = may_then c.args.self.now c.args.statement.now (said.Found c.in-Found.device) c.in-Found.is c.requires in (c.requires.0, c.requires.1, c.requires.2, may.1, may.0))

pub returns-in_err-line-in-Found-clause-step : goal.returns-in_err-line-in-Found-clause-step
returns-in_err-line-in-Found-clause-step g c = search rules

pub returns-in_err-line-in-Found-clause-memory : goal.returns-in_err-line-in-Found-clause-memory
returns-in_err-line-in-Found-clause-memory g c = on_err c.from_residual-in_err-line-in-Found.result (one_lacks c.args.self.now c.found.new.self c.args.statement.now (said.Found c.in-Found.device) c.in-Found.is (λ names s h may. c.in_err-line-in-Found.ensures.memory names s h))

pub one_line-requires-clause-empty : goal.one_line-requires-clause-empty
one_line-requires-clause-empty g c = c.in_ok-room.ensures.empty

pub one_line-requires-clause-room : goal.one_line-requires-clause-room
one_line-requires-clause-room g c = c.in_ok-room.ensures.room

pub returns-in_ok-line-in-Found-clause-step : goal.returns-in_ok-line-in-Found-clause-step
returns-in_ok-line-in-Found-clause-step g c = one_part c.args.self.now c.found.new.self c.args.statement.now (said.Found c.in-Found.device) c.in-Found.is c.in-Found.device (statements.DoFound c.in-Found.device) (λ reply. Unit {0}) c.in_ok-line-in-Found.line c.one_line.result.items refl refl c.one_line.ensures c.in_ok-line-in-Found.ensures.step

pub grant-requires-clause-stands : goal.grant-requires-clause-stands
grant-requires-clause-stands g c = stands_then c.args.self.now c.args.statement.now (said.Grant c.in-Grant.by c.in-Grant.device c.in-Grant.role) c.in-Grant.is c.requires

pub grant-requires-clause-by : goal.grant-requires-clause-by
grant-requires-clause-by g c = declared_then c.args.self.now c.args.statement.now (said.Grant c.in-Grant.by c.in-Grant.device c.in-Grant.role) c.in-Grant.is c.requires c.in-Grant.by (λ may. may.0)

pub grant-requires-clause-declared : goal.grant-requires-clause-declared
grant-requires-clause-declared g c = declared_then c.args.self.now c.args.statement.now (said.Grant c.in-Grant.by c.in-Grant.device c.in-Grant.role) c.in-Grant.is c.requires c.in-Grant.device (λ may. may.1)

pub returns-in_err-line-in-Grant-clause-step : goal.returns-in_err-line-in-Grant-clause-step
returns-in_err-line-in-Grant-clause-step g c = search rules

pub returns-in_err-line-in-Grant-clause-memory : goal.returns-in_err-line-in-Grant-clause-memory
returns-in_err-line-in-Grant-clause-memory g c = on_err c.from_residual-in_err-line-in-Grant.result (one_lacks c.args.self.now c.grant.new.self c.args.statement.now (said.Grant c.in-Grant.by c.in-Grant.device c.in-Grant.role) c.in-Grant.is (λ names s h may. c.in_err-line-in-Grant.ensures.memory names s h))

pub one_line-requires-in-Grant-clause-empty : goal.one_line-requires-in-Grant-clause-empty
one_line-requires-in-Grant-clause-empty g c = c.in_ok-room.ensures.empty

pub one_line-requires-in-Grant-clause-room : goal.one_line-requires-in-Grant-clause-room
one_line-requires-in-Grant-clause-room g c = c.in_ok-room.ensures.room

pub returns-in_ok-line-in-Grant-clause-step : goal.returns-in_ok-line-in-Grant-clause-step
returns-in_ok-line-in-Grant-clause-step g c = one_part c.args.self.now c.grant.new.self c.args.statement.now (said.Grant c.in-Grant.by c.in-Grant.device c.in-Grant.role) c.in-Grant.is c.in-Grant.by (statements.DoRekey c.in-Grant.by (grant_of c.in-Grant.role) c.in-Grant.device) (λ reply. Unit {0}) c.in_ok-line-in-Grant.line c.one_line-in-Grant.result.items refl refl c.one_line-in-Grant.ensures (λ names s h may. c.in_ok-line-in-Grant.ensures.step names s h)

pub revoke-requires-clause-stands : goal.revoke-requires-clause-stands
revoke-requires-clause-stands g c = stands_then c.args.self.now c.args.statement.now (said.Revoke c.in-Revoke.by c.in-Revoke.device) c.in-Revoke.is c.requires

pub revoke-requires-clause-by : goal.revoke-requires-clause-by
revoke-requires-clause-by g c = declared_then c.args.self.now c.args.statement.now (said.Revoke c.in-Revoke.by c.in-Revoke.device) c.in-Revoke.is c.requires c.in-Revoke.by (λ may. may.0)

pub revoke-requires-clause-declared : goal.revoke-requires-clause-declared
revoke-requires-clause-declared g c = declared_then c.args.self.now c.args.statement.now (said.Revoke c.in-Revoke.by c.in-Revoke.device) c.in-Revoke.is c.requires c.in-Revoke.device (λ may. may.1)

pub returns-in_err-line-in-Revoke-clause-step : goal.returns-in_err-line-in-Revoke-clause-step
returns-in_err-line-in-Revoke-clause-step g c = search rules

pub returns-in_err-line-in-Revoke-clause-memory : goal.returns-in_err-line-in-Revoke-clause-memory
returns-in_err-line-in-Revoke-clause-memory g c = on_err c.from_residual-in_err-line-in-Revoke.result (one_lacks c.args.self.now c.revoke.new.self c.args.statement.now (said.Revoke c.in-Revoke.by c.in-Revoke.device) c.in-Revoke.is (λ names s h may. c.in_err-line-in-Revoke.ensures.memory names s h))

pub one_line-requires-in-Revoke-clause-empty : goal.one_line-requires-in-Revoke-clause-empty
one_line-requires-in-Revoke-clause-empty g c = c.in_ok-room.ensures.empty

pub one_line-requires-in-Revoke-clause-room : goal.one_line-requires-in-Revoke-clause-room
one_line-requires-in-Revoke-clause-room g c = c.in_ok-room.ensures.room

pub returns-in_ok-line-in-Revoke-clause-step : goal.returns-in_ok-line-in-Revoke-clause-step
returns-in_ok-line-in-Revoke-clause-step g c = one_part c.args.self.now c.revoke.new.self c.args.statement.now (said.Revoke c.in-Revoke.by c.in-Revoke.device) c.in-Revoke.is c.in-Revoke.by (statements.DoRekey c.in-Revoke.by action.Revoke c.in-Revoke.device) (λ reply. Unit {0}) c.in_ok-line-in-Revoke.line c.one_line-in-Revoke.result.items refl refl c.one_line-in-Revoke.ensures (λ names s h may. c.in_ok-line-in-Revoke.ensures.step names s h)

pub open-requires-clause-stands : goal.open-requires-clause-stands
open-requires-clause-stands g c = stands_then c.args.self.now c.args.statement.now (said.Open c.in-Open.device) c.in-Open.is c.requires

pub open-requires-clause-declared : goal.open-requires-clause-declared
open-requires-clause-declared g c = declared_then c.args.self.now c.args.statement.now (said.Open c.in-Open.device) c.in-Open.is c.requires c.in-Open.device (λ may. may)

pub returns-in_err-line-in-Open-clause-step : goal.returns-in_err-line-in-Open-clause-step
returns-in_err-line-in-Open-clause-step g c = search rules

pub returns-in_err-line-in-Open-clause-memory : goal.returns-in_err-line-in-Open-clause-memory
returns-in_err-line-in-Open-clause-memory g c = on_err c.from_residual-in_err-line-in-Open.result (one_lacks_part c.args.self.now c.open.new.self c.args.statement.now (said.Open c.in-Open.device) c.in-Open.is (statements.On c.in-Open.device statements.Open) refl c.in_err-line-in-Open.ensures.memory)

pub one_line-requires-in-Open-clause-empty : goal.one_line-requires-in-Open-clause-empty
one_line-requires-in-Open-clause-empty g c = c.in_ok-room.ensures.empty

pub one_line-requires-in-Open-clause-room : goal.one_line-requires-in-Open-clause-room
one_line-requires-in-Open-clause-room g c = c.in_ok-room.ensures.room

pub returns-in_ok-line-in-Open-clause-step : goal.returns-in_ok-line-in-Open-clause-step
returns-in_ok-line-in-Open-clause-step g c = one_part c.args.self.now c.open.new.self c.args.statement.now (said.Open c.in-Open.device) c.in-Open.is c.in-Open.device (statements.On c.in-Open.device statements.Open) (λ reply. Unit {0}) c.in_ok-line-in-Open.line c.one_line-in-Open.result.items refl refl c.one_line-in-Open.ensures (λ names s h may. c.in_ok-line-in-Open.ensures.step names s h)

pub pick-requires-clause-stands : goal.pick-requires-clause-stands
pick-requires-clause-stands g c = stands_then c.args.self.now c.args.statement.now (said.Pick c.in-Pick.device) c.in-Pick.is c.requires

pub pick-requires-clause-declared : goal.pick-requires-clause-declared
pick-requires-clause-declared g c = declared_then c.args.self.now c.args.statement.now (said.Pick c.in-Pick.device) c.in-Pick.is c.requires c.in-Pick.device (λ may. may)

pub returns-in_err-line-in-Pick-clause-step : goal.returns-in_err-line-in-Pick-clause-step
returns-in_err-line-in-Pick-clause-step g c = search rules

pub returns-in_err-line-in-Pick-clause-memory : goal.returns-in_err-line-in-Pick-clause-memory
returns-in_err-line-in-Pick-clause-memory g c = on_err c.from_residual-in_err-line-in-Pick.result (one_lacks c.args.self.now c.pick.new.self c.args.statement.now (said.Pick c.in-Pick.device) c.in-Pick.is (λ names s h may. c.in_err-line-in-Pick.ensures.memory names s h))

pub one_line-requires-in-Pick-clause-empty : goal.one_line-requires-in-Pick-clause-empty
one_line-requires-in-Pick-clause-empty g c = c.in_ok-room.ensures.empty

pub one_line-requires-in-Pick-clause-room : goal.one_line-requires-in-Pick-clause-room
one_line-requires-in-Pick-clause-room g c = c.in_ok-room.ensures.room

pub returns-in_ok-line-in-Pick-clause-step : goal.returns-in_ok-line-in-Pick-clause-step
returns-in_ok-line-in-Pick-clause-step g c = one_part c.args.self.now c.pick.new.self c.args.statement.now (said.Pick c.in-Pick.device) c.in-Pick.is c.in-Pick.device (statements.On c.in-Pick.device statements.Pick) (PickSays c.in_ok-line-in-Pick.line) c.in_ok-line-in-Pick.line c.one_line-in-Pick.result.items refl refl c.one_line-in-Pick.ensures (λ names s h may. c.in_ok-line-in-Pick.ensures.step names s h)

pub land-requires-clause-stands : goal.land-requires-clause-stands
land-requires-clause-stands g c = stands_then c.args.self.now c.args.statement.now (said.Land c.in-Land.device) c.in-Land.is c.requires

pub land-requires-clause-declared : goal.land-requires-clause-declared
land-requires-clause-declared g c = declared_then c.args.self.now c.args.statement.now (said.Land c.in-Land.device) c.in-Land.is c.requires c.in-Land.device (λ may. may)

pub returns-in_err-line-in-Land-clause-step : goal.returns-in_err-line-in-Land-clause-step
returns-in_err-line-in-Land-clause-step g c = search rules

pub returns-in_err-line-in-Land-clause-memory : goal.returns-in_err-line-in-Land-clause-memory
returns-in_err-line-in-Land-clause-memory g c = on_err c.from_residual-in_err-line-in-Land.result (one_lacks c.args.self.now c.land.new.self c.args.statement.now (said.Land c.in-Land.device) c.in-Land.is (λ names s h may. c.in_err-line-in-Land.ensures.memory names s h))

pub one_line-requires-in-Land-clause-empty : goal.one_line-requires-in-Land-clause-empty
one_line-requires-in-Land-clause-empty g c = c.in_ok-room.ensures.empty

pub one_line-requires-in-Land-clause-room : goal.one_line-requires-in-Land-clause-room
one_line-requires-in-Land-clause-room g c = c.in_ok-room.ensures.room

pub returns-in_ok-line-in-Land-clause-step : goal.returns-in_ok-line-in-Land-clause-step
returns-in_ok-line-in-Land-clause-step g c = one_part c.args.self.now c.land.new.self c.args.statement.now (said.Land c.in-Land.device) c.in-Land.is c.in-Land.device (statements.On c.in-Land.device statements.Land) (LandSays c.in_ok-line-in-Land.line) c.in_ok-line-in-Land.line c.one_line-in-Land.result.items refl refl c.one_line-in-Land.ensures (λ names s h may. c.in_ok-line-in-Land.ensures.step names s h)

pub note-requires-clause-stands : goal.note-requires-clause-stands
note-requires-clause-stands g c = stands_then c.args.self.now c.args.statement.now (said.Note c.in-Note.device) c.in-Note.is c.requires

pub note-requires-clause-declared : goal.note-requires-clause-declared
note-requires-clause-declared g c = declared_then c.args.self.now c.args.statement.now (said.Note c.in-Note.device) c.in-Note.is c.requires c.in-Note.device (λ may. may)

pub returns-in_err-line-in-Note-clause-step : goal.returns-in_err-line-in-Note-clause-step
returns-in_err-line-in-Note-clause-step g c = search rules

pub returns-in_err-line-in-Note-clause-memory : goal.returns-in_err-line-in-Note-clause-memory
returns-in_err-line-in-Note-clause-memory g c = on_err c.from_residual-in_err-line-in-Note.result (one_lacks c.args.self.now c.note.new.self c.args.statement.now (said.Note c.in-Note.device) c.in-Note.is (λ names s h may. c.in_err-line-in-Note.ensures.memory names s h))

pub one_line-requires-in-Note-clause-empty : goal.one_line-requires-in-Note-clause-empty
one_line-requires-in-Note-clause-empty g c = c.in_ok-room.ensures.empty

pub one_line-requires-in-Note-clause-room : goal.one_line-requires-in-Note-clause-room
one_line-requires-in-Note-clause-room g c = c.in_ok-room.ensures.room

pub returns-in_ok-line-in-Note-clause-step : goal.returns-in_ok-line-in-Note-clause-step
returns-in_ok-line-in-Note-clause-step g c = one_part c.args.self.now c.note.new.self c.args.statement.now (said.Note c.in-Note.device) c.in-Note.is c.in-Note.device (statements.On c.in-Note.device statements.Note) (NoteSays c.in_ok-line-in-Note.line) c.in_ok-line-in-Note.line c.one_line-in-Note.result.items refl refl c.one_line-in-Note.ensures (λ names s h may. c.in_ok-line-in-Note.ensures.step names s h)

pub pull-requires-clause-stands : goal.pull-requires-clause-stands
pull-requires-clause-stands g c = stands_then c.args.self.now c.args.statement.now (said.Pull c.in-Pull.device) c.in-Pull.is c.requires

pub pull-requires-clause-declared : goal.pull-requires-clause-declared
pull-requires-clause-declared g c = declared_then c.args.self.now c.args.statement.now (said.Pull c.in-Pull.device) c.in-Pull.is c.requires c.in-Pull.device (λ may. may)

pub returns-in_err-line-in-Pull-clause-step : goal.returns-in_err-line-in-Pull-clause-step
returns-in_err-line-in-Pull-clause-step g c = search rules

pub returns-in_err-line-in-Pull-clause-memory : goal.returns-in_err-line-in-Pull-clause-memory
returns-in_err-line-in-Pull-clause-memory g c = on_err c.from_residual-in_err-line-in-Pull.result (one_lacks c.args.self.now c.pull.new.self c.args.statement.now (said.Pull c.in-Pull.device) c.in-Pull.is (λ names s h may. c.in_err-line-in-Pull.ensures.memory names s h))

pub one_line-requires-in-Pull-clause-empty : goal.one_line-requires-in-Pull-clause-empty
one_line-requires-in-Pull-clause-empty g c = c.in_ok-room.ensures.empty

pub one_line-requires-in-Pull-clause-room : goal.one_line-requires-in-Pull-clause-room
one_line-requires-in-Pull-clause-room g c = c.in_ok-room.ensures.room

pub returns-in_ok-line-in-Pull-clause-step : goal.returns-in_ok-line-in-Pull-clause-step
returns-in_ok-line-in-Pull-clause-step g c = one_part c.args.self.now c.pull.new.self c.args.statement.now (said.Pull c.in-Pull.device) c.in-Pull.is c.in-Pull.device (statements.On c.in-Pull.device statements.Pull) (λ reply. Unit {0}) c.in_ok-line-in-Pull.line c.one_line-in-Pull.result.items refl refl c.one_line-in-Pull.ensures (λ names s h may. c.in_ok-line-in-Pull.ensures.step names s h)

pub fetch-requires-clause-stands : goal.fetch-requires-clause-stands
fetch-requires-clause-stands g c = stands_then c.args.self.now c.args.statement.now (said.Fetch c.in-Fetch.device) c.in-Fetch.is c.requires

pub fetch-requires-clause-declared : goal.fetch-requires-clause-declared
fetch-requires-clause-declared g c = declared_then c.args.self.now c.args.statement.now (said.Fetch c.in-Fetch.device) c.in-Fetch.is c.requires c.in-Fetch.device (λ may. may)

pub returns-in_err-line-in-Fetch-clause-step : goal.returns-in_err-line-in-Fetch-clause-step
returns-in_err-line-in-Fetch-clause-step g c = search rules

pub returns-in_err-line-in-Fetch-clause-memory : goal.returns-in_err-line-in-Fetch-clause-memory
returns-in_err-line-in-Fetch-clause-memory g c = on_err c.from_residual-in_err-line-in-Fetch.result (one_lacks c.args.self.now c.fetch.new.self c.args.statement.now (said.Fetch c.in-Fetch.device) c.in-Fetch.is (λ names s h may. c.in_err-line-in-Fetch.ensures.memory names s h))

pub one_line-requires-in-Fetch-clause-empty : goal.one_line-requires-in-Fetch-clause-empty
one_line-requires-in-Fetch-clause-empty g c = c.in_ok-room.ensures.empty

pub one_line-requires-in-Fetch-clause-room : goal.one_line-requires-in-Fetch-clause-room
one_line-requires-in-Fetch-clause-room g c = c.in_ok-room.ensures.room

pub returns-in_ok-line-in-Fetch-clause-step : goal.returns-in_ok-line-in-Fetch-clause-step
returns-in_ok-line-in-Fetch-clause-step g c = one_part c.args.self.now c.fetch.new.self c.args.statement.now (said.Fetch c.in-Fetch.device) c.in-Fetch.is c.in-Fetch.device (statements.On c.in-Fetch.device statements.Fetch) (FetchSays c.in_ok-line-in-Fetch.line) c.in_ok-line-in-Fetch.line c.one_line-in-Fetch.result.items refl refl c.one_line-in-Fetch.ensures (λ names s h may. c.in_ok-line-in-Fetch.ensures.step names s h)

pub settle-requires-clause-stands : goal.settle-requires-clause-stands
settle-requires-clause-stands g c = stands_then c.args.self.now c.args.statement.now (said.Settle c.in-Settle.device) c.in-Settle.is c.requires

pub settle-requires-clause-declared : goal.settle-requires-clause-declared
settle-requires-clause-declared g c = declared_then c.args.self.now c.args.statement.now (said.Settle c.in-Settle.device) c.in-Settle.is c.requires c.in-Settle.device (λ may. may)

pub returns-in_err-line-in-Settle-clause-step : goal.returns-in_err-line-in-Settle-clause-step
returns-in_err-line-in-Settle-clause-step g c = search rules

pub returns-in_err-line-in-Settle-clause-memory : goal.returns-in_err-line-in-Settle-clause-memory
returns-in_err-line-in-Settle-clause-memory g c = on_err c.from_residual-in_err-line-in-Settle.result (one_lacks c.args.self.now c.settle.new.self c.args.statement.now (said.Settle c.in-Settle.device) c.in-Settle.is (λ names s h may. c.in_err-line-in-Settle.ensures.memory names s h))

pub one_line-requires-in-Settle-clause-empty : goal.one_line-requires-in-Settle-clause-empty
one_line-requires-in-Settle-clause-empty g c = c.in_ok-room.ensures.empty

pub one_line-requires-in-Settle-clause-room : goal.one_line-requires-in-Settle-clause-room
one_line-requires-in-Settle-clause-room g c = c.in_ok-room.ensures.room

pub returns-in_ok-line-in-Settle-clause-step : goal.returns-in_ok-line-in-Settle-clause-step
returns-in_ok-line-in-Settle-clause-step g c = one_part c.args.self.now c.settle.new.self c.args.statement.now (said.Settle c.in-Settle.device) c.in-Settle.is c.in-Settle.device (statements.On c.in-Settle.device statements.Settle) SettleSays c.in_ok-line-in-Settle.line c.one_line-in-Settle.result.items refl refl c.one_line-in-Settle.ensures (λ names s h may. c.in_ok-line-in-Settle.ensures.step names s h)

pub cut-requires : goal.cut-requires
cut-requires g c = declared_then c.args.self.now c.args.statement.now (said.Power c.in-Power.device c.in-Power.pick) c.in-Power.is c.requires c.in-Power.device (λ may. may)

pub returns-in_err-line-in-Power-clause-step : goal.returns-in_err-line-in-Power-clause-step
returns-in_err-line-in-Power-clause-step g c = search rules

pub returns-in_err-line-in-Power-clause-memory : goal.returns-in_err-line-in-Power-clause-memory
returns-in_err-line-in-Power-clause-memory g c = on_err c.from_residual-in_err-line-in-Power.result (one_lacks c.args.self.now c.cut.new.self c.args.statement.now (said.Power c.in-Power.device c.in-Power.pick) c.in-Power.is (λ names s h may. c.in_err-line-in-Power.ensures.memory names s h))

pub one_line-requires-in-Power-clause-empty : goal.one_line-requires-in-Power-clause-empty
one_line-requires-in-Power-clause-empty g c = c.in_ok-room.ensures.empty

pub one_line-requires-in-Power-clause-room : goal.one_line-requires-in-Power-clause-room
one_line-requires-in-Power-clause-room g c = c.in_ok-room.ensures.room

pub returns-in_ok-line-in-Power-clause-step : goal.returns-in_ok-line-in-Power-clause-step
returns-in_ok-line-in-Power-clause-step g c = one_part c.args.self.now c.cut.new.self c.args.statement.now (said.Power c.in-Power.device c.in-Power.pick) c.in-Power.is c.in-Power.device (statements.On c.in-Power.device statements.Power) (λ reply. Unit {0}) c.in_ok-line-in-Power.line c.one_line-in-Power.result.items refl refl c.one_line-in-Power.ensures (λ names s h may. c.in_ok-line-in-Power.ensures.step names s h)

pub call-requires-clause-stands : goal.call-requires-clause-stands
call-requires-clause-stands g c = stands_then c.args.self.now c.args.statement.now (said.File c.in-File.device c.in-File.request) c.in-File.is c.requires

pub call-requires-clause-declared : goal.call-requires-clause-declared
call-requires-clause-declared g c = declared_then c.args.self.now c.args.statement.now (said.File c.in-File.device c.in-File.request) c.in-File.is c.requires c.in-File.device (λ may. may)

pub returns-in_err-line-in-File-clause-step : goal.returns-in_err-line-in-File-clause-step
returns-in_err-line-in-File-clause-step g c = search rules

pub returns-in_err-line-in-File-clause-memory : goal.returns-in_err-line-in-File-clause-memory
returns-in_err-line-in-File-clause-memory g c = on_err c.from_residual-in_err-line-in-File.result (one_lacks c.args.self.now c.call.new.self c.args.statement.now (said.File c.in-File.device c.in-File.request) c.in-File.is (λ names s h may. c.in_err-line-in-File.ensures.memory names s h))

pub one_line-requires-in-File-clause-empty : goal.one_line-requires-in-File-clause-empty
one_line-requires-in-File-clause-empty g c = c.in_ok-room.ensures.empty

pub one_line-requires-in-File-clause-room : goal.one_line-requires-in-File-clause-room
one_line-requires-in-File-clause-room g c = c.in_ok-room.ensures.room

pub returns-in_ok-line-in-File-clause-step : goal.returns-in_ok-line-in-File-clause-step
returns-in_ok-line-in-File-clause-step g c = one_part c.args.self.now c.call.new.self c.args.statement.now (said.File c.in-File.device c.in-File.request) c.in-File.is c.in-File.device (statements.On c.in-File.device (statements.Call c.in-File.request)) (λ reply. Unit {0}) c.in_ok-line-in-File.line c.one_line-in-File.result.items refl refl c.one_line-in-File.ensures (λ names s h may. c.in_ok-line-in-File.ensures.step names s h)

pub tell-requires : goal.tell-requires
tell-requires g c = declared_then c.args.self.now c.args.statement.now (said.Status c.in-Status.device) c.in-Status.is c.requires c.in-Status.device (λ may. may)

pub returns-in_err-line-in-Status-clause-step : goal.returns-in_err-line-in-Status-clause-step
returns-in_err-line-in-Status-clause-step g c = search rules

pub returns-in_err-line-in-Status-clause-memory : goal.returns-in_err-line-in-Status-clause-memory
returns-in_err-line-in-Status-clause-memory g c = on_err c.from_residual-in_err-line-in-Status.result (still c.args.self.now c.args.statement.now)

pub one_line-requires-in-Status-clause-empty : goal.one_line-requires-in-Status-clause-empty
one_line-requires-in-Status-clause-empty g c = c.in_ok-room.ensures.empty

pub one_line-requires-in-Status-clause-room : goal.one_line-requires-in-Status-clause-room
one_line-requires-in-Status-clause-room g c = c.in_ok-room.ensures.room

pub returns-in_ok-line-in-Status-clause-step : goal.returns-in_ok-line-in-Status-clause-step
returns-in_ok-line-in-Status-clause-step g c = one_part c.args.self.now c.args.self.now c.args.statement.now (said.Status c.in-Status.device) c.in-Status.is c.in-Status.device (statements.See c.in-Status.device statements.Tell) (λ reply. Unit {0}) c.in_ok-line-in-Status.line c.one_line-in-Status.result.items refl refl c.one_line-in-Status.ensures (λ names s h may. (s, c.in_ok-line-in-Status.ensures names s h, h))

pub look-requires : goal.look-requires
look-requires g c = declared_then c.args.self.now c.args.statement.now (said.Look c.in-Look.device c.in-Look.show) c.in-Look.is c.requires c.in-Look.device (λ may. may)

pub returns-in_err-line-in-Look-clause-step : goal.returns-in_err-line-in-Look-clause-step
returns-in_err-line-in-Look-clause-step g c = search rules

pub returns-in_err-line-in-Look-clause-memory : goal.returns-in_err-line-in-Look-clause-memory
returns-in_err-line-in-Look-clause-memory g c = on_err c.from_residual-in_err-line-in-Look.result (still c.args.self.now c.args.statement.now)

pub one_line-requires-in-Look-clause-empty : goal.one_line-requires-in-Look-clause-empty
one_line-requires-in-Look-clause-empty g c = c.in_ok-room.ensures.empty

pub one_line-requires-in-Look-clause-room : goal.one_line-requires-in-Look-clause-room
one_line-requires-in-Look-clause-room g c = c.in_ok-room.ensures.room

pub returns-in_ok-line-in-Look-clause-step : goal.returns-in_ok-line-in-Look-clause-step
returns-in_ok-line-in-Look-clause-step g c = one_part c.args.self.now c.args.self.now c.args.statement.now (said.Look c.in-Look.device c.in-Look.show) c.in-Look.is c.in-Look.device (statements.See c.in-Look.device (statements.Look c.in-Look.show)) (λ reply. Unit {0}) c.in_ok-line-in-Look.line c.one_line-in-Look.result.items refl refl c.one_line-in-Look.ensures (λ names s h may. (s, c.in_ok-line-in-Look.ensures names s h, h))

pub flush-requires-clause-stands : goal.flush-requires-clause-stands
flush-requires-clause-stands g c = stands_then c.args.self.now c.args.statement.now (said.Flush c.in-Flush.device) c.in-Flush.is c.requires

pub flush-requires-clause-declared : goal.flush-requires-clause-declared
flush-requires-clause-declared g c = declared_then c.args.self.now c.args.statement.now (said.Flush c.in-Flush.device) c.in-Flush.is c.requires c.in-Flush.device (λ may. may)

pub returns-in_err-flush-in-Flush-clause-step : goal.returns-in_err-flush-in-Flush-clause-step
returns-in_err-flush-in-Flush-clause-step g c = search rules

pub returns-in_err-flush-in-Flush-clause-memory : goal.returns-in_err-flush-in-Flush-clause-memory
returns-in_err-flush-in-Flush-clause-memory g c = on_err c.from_residual-in_err-flush-in-Flush.result (along_ends c.args.self.now c.flush.new.self c.args.statement.now (said.Flush c.in-Flush.device) c.in-Flush.is c.in_err-flush-in-Flush.ensures.memory)

pub returns-in_ok-flush-in-Flush-clause-step : goal.returns-in_ok-flush-in-Flush-clause-step
returns-in_ok-flush-in-Flush-clause-step g c = flush_does c.args.self.now c.flush.new.self c.args.statement.now c.in-Flush.device c.in-Flush.is c.in_ok-flush-in-Flush.field-0 c.in_ok-room.room.items c.flush.new.lines.items c.in_ok-room.ensures.empty c.in_ok-flush-in-Flush.ensures.step

pub resolve-requires-clause-stands : goal.resolve-requires-clause-stands
resolve-requires-clause-stands g c = stands_then c.args.self.now c.args.statement.now (said.Resolve c.in-Resolve.device) c.in-Resolve.is c.requires

pub resolve-requires-clause-declared : goal.resolve-requires-clause-declared
resolve-requires-clause-declared g c = declared_then c.args.self.now c.args.statement.now (said.Resolve c.in-Resolve.device) c.in-Resolve.is c.requires c.in-Resolve.device (λ may. may)

pub returns-in-Resolve-clause-step : goal.returns-in-Resolve-clause-step
returns-in-Resolve-clause-step g c = resolve_does c.args.self.now c.resolve.new.self c.args.statement.now c.in-Resolve.device c.in-Resolve.is c.resolve.result c.resolve.ensures.step

pub returns-in-Resolve-clause-memory : goal.returns-in-Resolve-clause-memory
returns-in-Resolve-clause-memory g c = resolve_ends c.args.self.now c.resolve.new.self c.args.statement.now c.in-Resolve.device c.in-Resolve.is c.resolve.result c.resolve.ensures.memory

pub drain-requires-clause-stands : goal.drain-requires-clause-stands
drain-requires-clause-stands g c = stands_then c.args.self.now c.args.statement.now (said.Drain c.in-Drain.device) c.in-Drain.is c.requires

pub drain-requires-clause-declared : goal.drain-requires-clause-declared
drain-requires-clause-declared g c = declared_then c.args.self.now c.args.statement.now (said.Drain c.in-Drain.device) c.in-Drain.is c.requires c.in-Drain.device (λ may. may)

pub returns-in-Drain-clause-step : goal.returns-in-Drain-clause-step
returns-in-Drain-clause-step g c = drain_does c.args.self.now c.drain.new.self c.args.statement.now c.in-Drain.device c.in-Drain.is c.drain.result c.drain.ensures.step

pub returns-in-Drain-clause-memory : goal.returns-in-Drain-clause-memory
returns-in-Drain-clause-memory g c = drain_ends c.args.self.now c.drain.new.self c.args.statement.now c.in-Drain.device c.in-Drain.is c.drain.result c.drain.ensures.memory

pub arm-requires-clause-stands : goal.arm-requires-clause-stands
arm-requires-clause-stands g c = stands_then c.args.self.now c.args.statement.now (said.Fuse c.in-Fuse.device c.in-Fuse.steps) c.in-Fuse.is c.requires

pub arm-requires-clause-declared : goal.arm-requires-clause-declared
arm-requires-clause-declared g c = declared_then c.args.self.now c.args.statement.now (said.Fuse c.in-Fuse.device c.in-Fuse.steps) c.in-Fuse.is c.requires c.in-Fuse.device (λ may. may)

pub lose-requires : goal.lose-requires
lose-requires g c = declared_then c.args.self.now c.args.statement.now (said.Lose c.in-Lose.device c.in-Lose.side) c.in-Lose.is c.requires c.in-Lose.device (λ may. may)

pub returns-in-Lose-clause-step : goal.returns-in-Lose-clause-step
returns-in-Lose-clause-step g c = one_silent c.args.self.now c.lose.new.self c.args.statement.now (said.Lose c.in-Lose.device c.in-Lose.side) c.in-Lose.is (statements.On c.in-Lose.device (statements.Lose c.in-Lose.side)) c.in_ok-room.room.items refl c.in_ok-room.ensures.empty (λ names s h may. c.lose.ensures names s h)

pub returns-in-Fuse-clause-step : goal.returns-in-Fuse-clause-step
returns-in-Fuse-clause-step g c = one_silent c.args.self.now c.arm.new.self c.args.statement.now (said.Fuse c.in-Fuse.device c.in-Fuse.steps) c.in-Fuse.is (statements.On c.in-Fuse.device (statements.Fuse c.in-Fuse.steps)) c.in_ok-room.room.items refl c.in_ok-room.ensures.empty (λ names s h may. c.arm.ensures names s h)

pub returns-in-Seed-clause-step : goal.returns-in-Seed-clause-step
returns-in-Seed-clause-step g c = one_silent c.args.self.now c.set_seed.new.self c.args.statement.now (said.Seed c.in-Seed.seed) c.in-Seed.is (statements.SetSeed c.in-Seed.seed) c.in_ok-room.room.items refl c.in_ok-room.ensures.empty c.set_seed.ensures

pub returns-in-At-clause-step : goal.returns-in-At-clause-step
returns-in-At-clause-step g c = one_silent c.args.self.now c.set_moment.new.self c.args.statement.now (said.At c.in-At.moment) c.in-At.is (statements.SetMoment c.in-At.moment) c.in_ok-room.room.items refl c.in_ok-room.ensures.empty c.set_moment.ensures

pub list-requires : goal.list-requires
list-requires g c = stands_then c.args.self.now c.args.statement.now said.Folder c.in-Folder.is c.requires

pub returns-in-Folder-clause-step : goal.returns-in-Folder-clause-step
returns-in-Folder-clause-step g c = folder_does c.args.self.now c.args.statement.now c.in-Folder.is c.list.result c.list.ensures

pub returns-in-Folder-clause-memory : goal.returns-in-Folder-clause-memory
returns-in-Folder-clause-memory g c = folder_ends c.args.self.now c.args.statement.now c.list.result

pub verify-requires : goal.verify-requires
verify-requires g c = stands_then c.args.self.now c.args.statement.now said.Verify c.in-Verify.is c.requires

pub returns-in_err-line-in-Verify-clause-step : goal.returns-in_err-line-in-Verify-clause-step
returns-in_err-line-in-Verify-clause-step g c = search rules

pub returns-in_err-line-in-Verify-clause-memory : goal.returns-in_err-line-in-Verify-clause-memory
returns-in_err-line-in-Verify-clause-memory g c = on_err c.from_residual-in_err-line-in-Verify.result (still c.args.self.now c.args.statement.now)

pub one_line-requires-in-Verify-clause-empty : goal.one_line-requires-in-Verify-clause-empty
one_line-requires-in-Verify-clause-empty g c = c.in_ok-room.ensures.empty

pub one_line-requires-in-Verify-clause-room : goal.one_line-requires-in-Verify-clause-room
one_line-requires-in-Verify-clause-room g c = c.in_ok-room.ensures.room

pub returns-in_ok-line-in-Verify-clause-step : goal.returns-in_ok-line-in-Verify-clause-step
returns-in_ok-line-in-Verify-clause-step g c = one_part c.args.self.now c.args.self.now c.args.statement.now said.Verify c.in-Verify.is 0 statements.AuditChain (λ reply. Unit {0}) c.in_ok-line-in-Verify.line c.one_line-in-Verify.result.items refl refl c.one_line-in-Verify.ensures (λ names s h may. (s, c.in_ok-line-in-Verify.ensures names s h, h))
