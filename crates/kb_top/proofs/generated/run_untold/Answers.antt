use Rattle.std.proofs.Common.{◌≡◌, ◌≤◌, Some, None, [], refl, ap, ◌∙◌, length, take, arith}
use Rattle.std.specs.Prelude.{slice_get}
use Rattle.std.specs.List.{fold}
use Rattle.std.proofs.lemmas.Option.{slice_get_read}
use Rattle.std.proofs.lemmas.List.{take_all}
use Rattle.kb_world.specs.Standing.{WorldStands}
use Rattle.kb_top.specs.Replies.{names_in}
use Rattle.kb_top.specs.Summaries.{names_told}
use Rattle.kb_top.proofs.Runs.{new_untold, one_untold, all_untold, ended, on_err, may_be_done}
use Rattle.kb_top.proofs.generated.run_untold.Goals as goal

pub loop-statement-init : goal.loop-statement-init
loop-statement-init g c = new_untold WorldStands c.args.world.now (names_in c.args.statements.now) c.requires.new

pub step-requires : goal.step-requires
step-requires g c =
    let i = c.loop-statement.statement-index in
    let all = c.args.statements.now in
    let it = c.statement-item.result in
    let next : slice_get all i ≡ Some it = slice_get_read all (length all) i it refl c.loop-statement-test.true c.statement-item.is in
    let ran = c.loop-statement.invariant.0 in
    (names_in all, ran.state, ran.stands_for, may_be_done WorldStands c.loop-statement.world c.loop-statement.world all c.requires.fit i it next ran)

pub returns-in_err-lines-clause-memory : goal.returns-in_err-lines-clause-memory
returns-in_err-lines-clause-memory g c =
    let i = c.loop-statement.statement-index in
    let all = c.args.statements.now in
    let it = c.statement-item.result in
    let next : slice_get all i ≡ Some it = slice_get_read all (length all) i it refl c.loop-statement-test.true c.statement-item.is in
    on_err _ _ (ended WorldStands c.loop-statement.world c.step.new.self all c.requires.fit i it next c.loop-statement.invariant.0 None None (λ first each. []) tt c.in_err-lines.ensures.memory)

pub loop-statement-preserved : goal.loop-statement-preserved
loop-statement-preserved g c =
    let i = c.loop-statement.statement-index in
    let all = c.args.statements.now in
    let it = c.statement-item.result in
    let next : slice_get all i ≡ Some it = slice_get_read all (length all) i it refl c.loop-statement-test.true c.statement-item.is in
    let so_far = c.loop-statement.invariant in
    one_untold WorldStands c.loop-statement.world c.step.new.self all c.requires.fit i it next so_far.0 c.in_ok-lines.lines.items c.in_ok-lines.ensures.step
    c.loop-statement.names so_far.1 c.names_told-names.result (c.names_told-names.ensures ∙ ap (fold names_told c.loop-statement.names) c.deref.ensures.value)

pub returns-clause-ran : goal.returns-clause-ran
returns-clause-ran g c =
    let i = c.loop-statement.statement-index in
    let all = c.args.statements.now in
    let ended : length all ≤ i = omega (arith, c.loop-statement-test.false) in
    all_untold WorldStands c.loop-statement.world all (take i all) (take_all i all ended) c.requires.fit c.loop-statement.invariant.0 c.loop-statement.names c.loop-statement.invariant.1
