use Rattle.std.proofs.Common.{◌≡◌, ◌∷◌, [], ◌++◌, true, false, Some, None, Ok, Err, OnErr, refl, sym, ap, ◌∙◌, subst}
use Rattle.kb_world.specs.Branching.{is_fetched}
use Rattle.kb_world.proofs.Worlds.{on_err, stays_so}
use Rattle.kb_world.proofs.Rounds.{stands_after}
use Rattle.kb_world.proofs.BranchWorlds.{resolve_lacks, resolve_lacks_settle, resolved_one, resolved_two}
use Rattle.kb_world.proofs.world.World.resolve.Goals as goal

pub returns-in_err-lines-clause-memory : goal.returns-in_err-lines-clause-memory
returns-in_err-lines-clause-memory g c = on_err c.from_residual.result (resolve_lacks c.args.self.now c.args.self.now c.args.number (stays_so c.args.self.now))

pub returns-in_err-first-clause-memory : goal.returns-in_err-first-clause-memory
returns-in_err-first-clause-memory g c = on_err c.from_residual-in_err-first.result (resolve_lacks c.args.self.now c.fetch.new.self c.args.number c.in_err-first.ensures.memory)

pub returns-then-not-fetched-clause-step : goal.returns-then-not-fetched-clause-step
returns-then-not-fetched-clause-step g c =
    let none : is_fetched c.in_ok-first.first ≡ false = sym c.is_fetched-fetched.ensures ∙ c.if-not-fetched.true in
    resolved_one c.args.self.now c.fetch.new.self c.args.number c.in_ok-first.first c.in_ok-first.ensures.step c.push_reserved.new.self.items (c.push_reserved.ensures.items ∙ ap (λ l. l ++ c.in_ok-first.first ∷ []) c.in_ok-lines.ensures.items) none

pub settle-requires-clause-stands : goal.settle-requires-clause-stands
settle-requires-clause-stands g c = stands_after c.args.self.now c.fetch.new.self _ c.requires.stands c.in_ok-first.ensures.step

pub returns-in_err-second-clause-memory : goal.returns-in_err-second-clause-memory
returns-in_err-second-clause-memory g c = on_err c.from_residual-in_err-second.result (resolve_lacks_settle c.args.self.now c.fetch.new.self c.args.number c.in_ok-first.first c.in_ok-first.ensures.step c.settle.new.self c.in_err-second.ensures.memory)

pub returns-clause-step : goal.returns-clause-step
returns-clause-step g c =
    let fetched : is_fetched c.in_ok-first.first ≡ true = sym c.is_fetched-fetched.ensures ∙ c.if-not-fetched.false in
    resolved_two c.args.self.now c.fetch.new.self c.args.number c.in_ok-first.first c.in_ok-first.ensures.step c.settle.new.self c.in_ok-second.second fetched c.in_ok-second.ensures.step c.push_reserved-2.new.self.items
    (c.push_reserved-2.ensures.items ∙ ap (λ l. l ++ c.in_ok-second.second ∷ []) (c.push_reserved.ensures.items ∙ ap (λ l. l ++ c.in_ok-first.first ∷ []) c.in_ok-lines.ensures.items))
