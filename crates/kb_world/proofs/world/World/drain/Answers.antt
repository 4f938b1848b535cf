use Rattle.std.proofs.Common.{◌≡◌, ◌∷◌, [], ◌-◌, ◌<◌, Some, None, Ok, Err, OnErr, length, refl, sym, ap, ◌∙◌, subst, arith}
use Rattle.std.specs.Prelude.{slice_get}
use Rattle.std.proofs.lemmas.Option.{slice_get_read}
use Rattle.kb_world.specs.Doing.{IsOneOf}
use Rattle.kb_world.proofs.Worlds.{on_err}
use Rattle.kb_world.proofs.Rounds.{draining_begins, draining_more, draining_done, draining_lacks, stands_after, world_within}
use Rattle.kb_world.proofs.world.World.drain.Goals as goal

pub flushes-init : goal.flushes-init
flushes-init g c = draining_begins c.args.self.now c.args.number c.new-lines.result.items c.requires.stands c.new-lines.ensures.items

pub flush-requires-clause-stands : goal.flush-requires-clause-stands
flush-requires-clause-stands g c = c.flushes.invariant.stands

pub flush-requires-clause-declared : goal.flush-requires-clause-declared
flush-requires-clause-declared g c = subst (λ n. IsOneOf n c.args.number) (sym c.flushes.invariant.count) c.requires.declared

pub returns-in_err-flush-clause-memory : goal.returns-in_err-flush-clause-memory
returns-in_err-flush-clause-memory g c = on_err c.from_residual.result (draining_lacks c.args.self.now c.flushes.self c.flush.new.self c.args.number c.flushes.lines.items c.flush.new.lines.items c.flushes.invariant c.in_err-flush.ensures.memory)

pub returns-then-not-branch-clause-step : goal.returns-then-not-branch-clause-step
returns-then-not-branch-clause-step g c = draining_done c.args.self.now c.flushes.self c.flush.new.self c.args.number c.flushes.lines.items c.flush.new.lines.items c.flushes.invariant c.in_ok-flush.field-0 c.if-not-branch.true c.in_ok-flush.ensures.step

pub flushes-preserved : goal.flushes-preserved
flushes-preserved g c = draining_more c.args.self.now c.flushes.self c.flush.new.self c.args.number c.flushes.lines.items c.flush.new.lines.items c.flushes.invariant c.in_ok-flush.field-0 c.if-not-branch.false c.in_ok-flush.ensures.step c.in_ok-flush.ensures.count

pub flushes-smaller : goal.flushes-smaller
flushes-smaller g c =
    let grows = c.in_ok-flush.ensures.grows c.if-not-branch.false in
    let within = world_within c.flush.new.self (stands_after c.flushes.self c.flush.new.self _ c.flushes.invariant.stands c.in_ok-flush.ensures.step) in
    omega (arith, grows, within)
