use Rattle.std.proofs.Common.{◌≡◌, ◌∙◌, ◌++◌, ap, sym, refl, subst, inl, inr, None, [], take}
use Rattle.std.specs.Io.KnownBytes.{Appends}
use Rattle.kb_script.specs.Fit.{AllFit}
use Rattle.kb_gen.specs.Generated.{generated}
use Rattle.kb_world.specs.Standing.{WorldStands}
use Rattle.kb_top.specs.Outcomes.{Ran, Ended}
use Rattle.kb_top.specs.Replies.{names_in}
use Rattle.kb_top.specs.Summaries.{names_given}
use Rattle.kb_top.proofs.GenEnds.{gen_nothing, gen_ended, gen_untold, gen_put, gen_cut, laptop_declared}
use Rattle.kb_top.proofs.generated.run_gen.Goals as goal

pub returns-in-Err-clause-end : goal.returns-in-Err-clause-end
returns-in-Err-clause-end g c = gen_nothing c.args.number c.args.world.now (g.K.Sink.held c.args.sink.now) c.requires.new

pub returns-in-Err-run_untold-clause-end : goal.returns-in-Err-run_untold-clause-end
returns-in-Err-run_untold-clause-end g c =
    let same : c.deref.result.now ≡ generated c.args.number = c.deref.ensures.value ∙ c.in-Ok.ensures.value in
    gen_ended c.args.number c.run_untold.new.world (g.K.Sink.held c.args.sink.now)
    (subst (λ l. Ended WorldStands c.run_untold.new.world None None l (λ first each. [])) same c.in-Err-run_untold.ensures.memory)

pub summary-requires : goal.summary-requires
summary-requires g c =
    let n = c.args.number in
    let w = c.run_untold.new.world in
    let same : c.deref.result.now ≡ generated n = c.deref.ensures.value ∙ c.in-Ok.ensures.value in
    let untold = subst (λ l. (ran : Ran WorldStands w None None l (λ state each. [])) × (c.in-Ok-run_untold.names ≡ names_given ran.each)) same c.in-Ok-run_untold.ensures.ran in
    let ran = untold.0 in
    let names = names_in (generated n) in
    let fit : AllFit (generated n) = subst (λ l. AllFit l) c.in-Ok.ensures.value c.in-Ok.ensures.fit in
    record { stands = (names, ran.state, ran.stands_for); declared = laptop_declared names w ran.state n ran.each fit ran.stands_for ran.run }

pub returns-in-Err-summary-clause-end : goal.returns-in-Err-summary-clause-end
returns-in-Err-summary-clause-end g c =
    let n = c.args.number in
    let w = c.run_untold.new.world in
    let same : c.deref.result.now ≡ generated n = c.deref.ensures.value ∙ c.in-Ok.ensures.value in
    let untold = subst (λ l. (ran : Ran WorldStands w None None l (λ state each. [])) × (c.in-Ok-run_untold.names ≡ names_given ran.each)) same c.in-Ok-run_untold.ensures.ran in
    gen_untold n w c.summary.new.world c.in-Ok-run_untold.names untold c.summary.ensures.stays (g.K.Sink.held c.args.sink.now)

pub returns-in-Ok-put-clause-end : goal.returns-in-Ok-put-clause-end
returns-in-Ok-put-clause-end g c =
    let n = c.args.number in
    let w = c.run_untold.new.world in
    let old = g.K.Sink.held c.args.sink.now in
    let now = g.K.Sink.held c.put.new.self in
    let same : c.deref.result.now ≡ generated n = c.deref.ensures.value ∙ c.in-Ok.ensures.value in
    let untold = subst (λ l. (ran : Ran WorldStands w None None l (λ state each. [])) × (c.in-Ok-run_untold.names ≡ names_given ran.each)) same c.in-Ok-run_untold.ensures.ran in
    gen_put n w c.summary.new.world c.in-Ok-run_untold.names untold c.summary.ensures.stays old now c.as_bytes.result.now
    (λ under s h. c.as_bytes.ensures.value ∙ c.in-Ok-summary.ensures.text under s h)
    c.in-Ok-put.ensures.bytes

pub returns-clause-end : goal.returns-clause-end
returns-clause-end g c =
    let n = c.args.number in
    let w = c.run_untold.new.world in
    let old = g.K.Sink.held c.args.sink.now in
    let now = g.K.Sink.held c.put.new.self in
    let same : c.deref.result.now ≡ generated n = c.deref.ensures.value ∙ c.in-Ok.ensures.value in
    let untold = subst (λ l. (ran : Ran WorldStands w None None l (λ state each. [])) × (c.in-Ok-run_untold.names ≡ names_given ran.each)) same c.in-Ok-run_untold.ensures.ran in
    gen_cut n w c.summary.new.world c.in-Ok-run_untold.names untold c.summary.ensures.stays old now c.as_bytes.result.now
    (λ under s h. c.as_bytes.ensures.value ∙ c.in-Ok-summary.ensures.text under s h)
    c.in-Err-put.ensures.bytes.0 c.in-Err-put.ensures.bytes.1

pub returns-in-Err-clause-complete : goal.returns-in-Err-clause-complete
returns-in-Err-clause-complete g c = λ calm. inr refl

pub returns-in-Err-run_untold-clause-complete : goal.returns-in-Err-run_untold-clause-complete
returns-in-Err-run_untold-clause-complete g c = λ calm. inr refl

pub returns-in-Err-summary-clause-complete : goal.returns-in-Err-summary-clause-complete
returns-in-Err-summary-clause-complete g c = λ calm. inr refl

pub returns-in-Ok-put-clause-complete : goal.returns-in-Ok-put-clause-complete
returns-in-Ok-put-clause-complete g c = λ calm. inl refl

pub returns-clause-complete : goal.returns-clause-complete
returns-clause-complete g c = λ calm. absurd (calm c.in-Err-put.ensures.cause.failed)
