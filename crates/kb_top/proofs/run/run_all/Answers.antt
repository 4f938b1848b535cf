use Rattle.std.proofs.Common.{◌≡◌, ◌≤◌, Some, refl, ap, ◌∙◌, subst, length, take, arith}
use Rattle.std.specs.Prelude.{slice_get}
use Rattle.std.proofs.lemmas.Option.{slice_get_read}
use Rattle.std.proofs.lemmas.List.{take_all}
use Rattle.std.specs.Io.KnownBytes.{Appends}
use Rattle.kb_lines.specs.LineTexts.{text_of_all}
use Rattle.kb_world.specs.Standing.{WorldStands}
use Rattle.kb_top.specs.Replies.{names_in, text_of_each}
use Rattle.kb_top.proofs.Runs.{none_ran, all_put, one_more, ended, ended_after, cut, may_be_done}
use Rattle.kb_top.proofs.run.run_all.Goals as goal

pub loop-statement-init : goal.loop-statement-init
loop-statement-init g c = none_ran WorldStands c.args.world.now (names_in c.args.statements.now) _ _ c.requires.new

pub step-requires : goal.step-requires
step-requires g c =
    let i = c.loop-statement.statement-index in
    let all = c.args.statements.now in
    let it = c.statement-item.result in
    let next : slice_get all i ≡ Some it = slice_get_read all (length all) i it refl c.loop-statement-test.true c.statement-item.is in
    let running = c.loop-statement.invariant in
    (names_in all, running.ran.state, running.ran.stands_for, may_be_done WorldStands c.loop-statement.world c.loop-statement.world all c.requires.fit i it next running.ran)

pub returns-in-Err-clause-runs : goal.returns-in-Err-clause-runs
returns-in-Err-clause-runs g c =
    let i = c.loop-statement.statement-index in
    let all = c.args.statements.now in
    let it = c.statement-item.result in
    let next : slice_get all i ≡ Some it = slice_get_read all (length all) i it refl c.loop-statement-test.true c.statement-item.is in
    let old = g.K.Sink.held c.args.sink.now in
    let held = g.K.Sink.held c.loop-statement.sink in
    let running = c.loop-statement.invariant in
    ended WorldStands c.loop-statement.world c.step.new.self all c.requires.fit i it next running.ran old held (text_of_each (names_in all)) running.bytes c.in-Err.ensures.memory

pub returns-in-Err-render-clause-runs : goal.returns-in-Err-render-clause-runs
returns-in-Err-render-clause-runs g c =
    let i = c.loop-statement.statement-index in
    let all = c.args.statements.now in
    let it = c.statement-item.result in
    let next : slice_get all i ≡ Some it = slice_get_read all (length all) i it refl c.loop-statement-test.true c.statement-item.is in
    let old = g.K.Sink.held c.args.sink.now in
    let held = g.K.Sink.held c.loop-statement.sink in
    let running = c.loop-statement.invariant in
    ended_after WorldStands c.loop-statement.world c.step.new.self all c.requires.fit i it next running.ran old held (text_of_each (names_in all)) running.bytes c.in-Ok.lines.items c.in-Ok.ensures.step

pub returns-in-Err-put-clause-runs : goal.returns-in-Err-put-clause-runs
returns-in-Err-put-clause-runs g c =
    let i = c.loop-statement.statement-index in
    let all = c.args.statements.now in
    let it = c.statement-item.result in
    let next : slice_get all i ≡ Some it = slice_get_read all (length all) i it refl c.loop-statement-test.true c.statement-item.is in
    let old = g.K.Sink.held c.args.sink.now in
    let held = g.K.Sink.held c.loop-statement.sink in
    let now = g.K.Sink.held c.put.new.self in
    let text : c.deref-in-loop-statement.result.now ≡ text_of_all c.in-Ok.lines.items = c.deref-in-loop-statement.ensures.value ∙ c.in-Ok-render.ensures ∙ ap text_of_all c.deref.ensures.value in
    let running = c.loop-statement.invariant in
    cut WorldStands c.loop-statement.world c.step.new.self all c.requires.fit i it next running.ran c.in-Ok.lines.items c.in-Ok.ensures.step old held now running.bytes c.in-Err-put.ensures.bytes.0 (subst (λ t. Appends held now (take c.in-Err-put.ensures.bytes.0 t)) text c.in-Err-put.ensures.bytes.1)

pub loop-statement-preserved : goal.loop-statement-preserved
loop-statement-preserved g c =
    let i = c.loop-statement.statement-index in
    let all = c.args.statements.now in
    let it = c.statement-item.result in
    let next : slice_get all i ≡ Some it = slice_get_read all (length all) i it refl c.loop-statement-test.true c.statement-item.is in
    let old = g.K.Sink.held c.args.sink.now in
    let held = g.K.Sink.held c.loop-statement.sink in
    let first = g.K.Sink.faults c.args.sink.now in
    let second = g.K.Sink.faults c.loop-statement.sink in
    let now = g.K.Sink.held c.put.new.self in
    let text : c.deref-in-loop-statement.result.now ≡ text_of_all c.in-Ok.lines.items = c.deref-in-loop-statement.ensures.value ∙ c.in-Ok-render.ensures ∙ ap text_of_all c.deref.ensures.value in
    one_more WorldStands c.loop-statement.world c.step.new.self old held now first second (g.K.Sink.faults c.put.new.self) all c.requires.fit i it next c.loop-statement.invariant
    c.in-Ok.lines.items c.in-Ok.ensures.step (subst (λ t. Appends held now t) text c.in-Ok-put.ensures.bytes) c.in-Ok-put.ensures.cause.later

pub returns-clause-runs : goal.returns-clause-runs
returns-clause-runs g c =
    let i = c.loop-statement.statement-index in
    let all = c.args.statements.now in
    let ended : length all ≤ i = omega (arith, c.loop-statement-test.false) in
    all_put WorldStands c.loop-statement.world (g.K.Sink.held c.args.sink.now) (g.K.Sink.held c.loop-statement.sink) (g.K.Sink.faults c.args.sink.now) (g.K.Sink.faults c.loop-statement.sink)
    all (take i all) (take_all i all ended) c.requires.fit c.loop-statement.invariant
