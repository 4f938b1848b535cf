use Rattle.std.proofs.Common.{◌≡◌, ◌∷◌, [], ◌-◌, ◌<◌, Some, None, Ok, Err, OnErr, length, refl, sym, ap, ◌∙◌, subst, arith}
use Rattle.std.specs.Prelude.{slice_get}
use Rattle.std.proofs.lemmas.Option.{slice_get_read}
use Rattle.std.specs.Prelude.{◌++◌, true, false}
use Rattle.kb_world.specs.Doing.{GoesOn, Flushes, is_picked, is_carried}
use Rattle.kb_world.proofs.Worlds.{on_err, stays_so}
use Rattle.kb_world.proofs.Rounds.{flush_lacks, flushed_one, flush_lacks_put, flush_lacks_note, flushed_two, flushed_three, flushed_grows, stands_after}
use Rattle.kb_world.proofs.world.World.flush.Goals as goal

pub returns-in_err-reserve-clause-memory : goal.returns-in_err-reserve-clause-memory
returns-in_err-reserve-clause-memory g c = on_err c.from_residual.result (flush_lacks c.args.self.now c.args.self.now c.args.number (stays_so c.args.self.now))

pub returns-in_err-first-clause-memory : goal.returns-in_err-first-clause-memory
returns-in_err-first-clause-memory g c = on_err c.from_residual-in_err-first.result (flush_lacks c.args.self.now c.pick.new.self c.args.number c.in_err-first.ensures.memory)

pub returns-then-not-picked-clause-step : goal.returns-then-not-picked-clause-step
returns-then-not-picked-clause-step g c =
    let none : is_picked c.in_ok-first.first ≡ false = sym c.is_picked-picked.ensures ∙ c.if-not-picked.true in
    flushed_one c.args.self.now c.pick.new.self c.args.number c.in_ok-first.first c.in_ok-first.ensures.step c.args.lines.now.items c.push_reserved.new.self.items (c.push_reserved.ensures.items ∙ ap (λ l. l ++ c.in_ok-first.first ∷ []) c.in_ok-reserve.ensures.items) none

pub land-requires-clause-stands : goal.land-requires-clause-stands
land-requires-clause-stands g c = stands_after c.args.self.now c.pick.new.self _ c.requires.stands c.in_ok-first.ensures.step

pub returns-in_err-second-clause-memory : goal.returns-in_err-second-clause-memory
returns-in_err-second-clause-memory g c = on_err c.from_residual-in_err-second.result (flush_lacks_put c.args.self.now c.pick.new.self c.args.number c.in_ok-first.first c.in_ok-first.ensures.step c.land.new.self c.in_err-second.ensures.memory)

pub returns-then-not-carried-clause-step : goal.returns-then-not-carried-clause-step
returns-then-not-carried-clause-step g c =
    let picked : is_picked c.in_ok-first.first ≡ true = sym c.is_picked-picked.ensures ∙ c.if-not-picked.false in
    let lost : is_carried c.in_ok-second.second ≡ false = sym c.is_carried-carried.ensures ∙ c.if-not-carried.true in
    flushed_two c.args.self.now c.pick.new.self c.args.number c.in_ok-first.first c.in_ok-first.ensures.step picked c.land.new.self c.in_ok-second.second c.in_ok-second.ensures.step c.args.lines.now.items c.push_reserved-2.new.self.items
    (c.push_reserved-2.ensures.items ∙ ap (λ l. l ++ c.in_ok-second.second ∷ []) (c.push_reserved.ensures.items ∙ ap (λ l. l ++ c.in_ok-first.first ∷ []) c.in_ok-reserve.ensures.items)) lost

pub note-requires-clause-stands : goal.note-requires-clause-stands
note-requires-clause-stands g c = stands_after c.pick.new.self c.land.new.self _ (stands_after c.args.self.now c.pick.new.self _ c.requires.stands c.in_ok-first.ensures.step) c.in_ok-second.ensures.step

pub returns-in_err-third-clause-memory : goal.returns-in_err-third-clause-memory
returns-in_err-third-clause-memory g c =
    let picked : is_picked c.in_ok-first.first ≡ true = sym c.is_picked-picked.ensures ∙ c.if-not-picked.false in
    on_err c.from_residual-in_err-third.result (flush_lacks_note c.args.self.now c.pick.new.self c.args.number c.in_ok-first.first c.in_ok-first.ensures.step picked c.land.new.self c.in_ok-second.second c.in_ok-second.ensures.step c.note.new.self c.in_err-third.ensures.memory)

pub returns-clause-step : goal.returns-clause-step
returns-clause-step g c =
    let picked : is_picked c.in_ok-first.first ≡ true = sym c.is_picked-picked.ensures ∙ c.if-not-picked.false in
    let carried : is_carried c.in_ok-second.second ≡ true = sym c.is_carried-carried.ensures ∙ c.if-not-carried.false in
    let lines = c.push_reserved-3.ensures.items ∙ ap (λ l. l ++ c.in_ok-third.third ∷ []) (c.push_reserved-2.ensures.items ∙ ap (λ l. l ++ c.in_ok-second.second ∷ []) (c.push_reserved.ensures.items ∙ ap (λ l. l ++ c.in_ok-first.first ∷ []) c.in_ok-reserve.ensures.items)) in
    subst (λ b. GoesOn c.args.self.now c.note.new.self (λ names s t. Flushes names c.args.number s b c.args.lines.now.items c.push_reserved-3.new.self.items t)) (sym c.is_noted-noted.ensures)
    (flushed_three c.args.self.now c.pick.new.self c.args.number c.in_ok-first.first c.in_ok-first.ensures.step picked c.land.new.self c.in_ok-second.second c.in_ok-second.ensures.step carried c.note.new.self c.in_ok-third.third c.in_ok-third.ensures.step c.args.lines.now.items c.push_reserved-3.new.self.items lines)

pub returns-clause-grows : goal.returns-clause-grows
returns-clause-grows g c = λ is.
    let picked : is_picked c.in_ok-first.first ≡ true = sym c.is_picked-picked.ensures ∙ c.if-not-picked.false in
    let carried : is_carried c.in_ok-second.second ≡ true = sym c.is_carried-carried.ensures ∙ c.if-not-carried.false in
    flushed_grows c.args.self.now c.pick.new.self c.args.number c.in_ok-first.first c.in_ok-first.ensures.step picked c.land.new.self c.in_ok-second.second c.in_ok-second.ensures.step carried c.note.new.self c.in_ok-third.third c.in_ok-third.ensures.step c.requires.stands (sym c.is_noted-noted.ensures ∙ is)
