use Rattle.std.proofs.Common.{◌∙◌}
use Rattle.std.proofs.lemmas.Iterator.Adapters.{YieldsList-from_vec}
use Rattle.std.proofs.lemmas.Iterator.Consumers.{YieldsList-turn, YieldsList-so_far}
use Rattle.kb_journal.specs.Held.{state_of}
use Rattle.kb_journal.specs.State.{empty}
use Rattle.kb_journal.proofs.Folding.{taken, folded_more, folded_nowhere}
use Rattle.kb_journal.proofs.folds.fold.Goals as goal

pub loop-payload-preserved : goal.loop-payload-preserved
loop-payload-preserved c = folded_more empty (state_of c.loop-payload.held) (state_of c.step.new.self) c.loop-payload.yielded c.in-Some.payload c.loop-payload.invariant c.in-Ok.ensures.ok

pub returns-in-Err-clause-bad : goal.returns-in-Err-clause-bad
returns-in-Err-clause-bad c = λ is_bad s whole.
    let all = c.args.payloads.items in
    let gives = c.into_iter-payload-iterator.ensures.into_iter_gives in
    let road = YieldsList-from_vec {s = c.into_iter-payload-iterator.result} all gives.0 (gives.1 ∙ c.args.payloads.ok.0) in
    let front = YieldsList-so_far road c.loop-payload.yielded _ c.loop-payload.yielded_by in
    let here = YieldsList-turn road c.loop-payload.yielded _ c.loop-payload.yielded_by c.next.result c.next.new.self c.in-Some.payload c.in-Some.is c.next.ensures.steps in
    let split = taken all c.loop-payload.yielded c.in-Some.payload front here in
    folded_nowhere empty (state_of c.loop-payload.held) all c.loop-payload.yielded c.in-Some.payload split c.loop-payload.invariant (c.in-Err.ensures.bad cc) s whole
