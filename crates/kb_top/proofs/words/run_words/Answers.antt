use Rattle.std.proofs.Common.{◌≡◌, ◌∙◌, sym, subst}
use Rattle.kb_world.specs.Standing.{WorldStands}
use Rattle.kb_top.specs.Outcomes.{GenEnd}
use Rattle.kb_top.proofs.GenEnds.{gen_not_read}
use Rattle.kb_top.proofs.Wording.{not_both, same_number}
use Rattle.kb_top.proofs.words.run_words.Goals as goal

pub returns-in-Run-clause-generated : goal.returns-in-Run-clause-generated
returns-in-Run-clause-generated g c = λ n gen. absurd (not_both c.args.words.now n c.in-Run.ensures gen)

pub returns-in-Run-clause-whole : goal.returns-in-Run-clause-whole
returns-in-Run-clause-whole g c = λ n gen. absurd (not_both c.args.words.now n c.in-Run.ensures gen)

pub returns-in-Run-clause-usage : goal.returns-in-Run-clause-usage
returns-in-Run-clause-usage g c = λ no other. absurd (no c.in-Run.ensures)

pub returns-in-Gen-clause-run : goal.returns-in-Gen-clause-run
returns-in-Gen-clause-run g c = λ run. absurd (not_both c.args.words.now c.in-Gen.number run c.in-Gen.ensures)

pub returns-in-Gen-clause-complete : goal.returns-in-Gen-clause-complete
returns-in-Gen-clause-complete g c = λ run. absurd (not_both c.args.words.now c.in-Gen.number run c.in-Gen.ensures)

pub returns-in-Gen-clause-generated : goal.returns-in-Gen-clause-generated
returns-in-Gen-clause-generated g c = λ n gen.
    subst (λ m. GenEnd WorldStands c.run_gen.new.world (g.K.Sink.held c.args.sink.now) (g.K.Sink.held c.run_gen.new.sink) m c.run_gen.result)
    (same_number c.args.words.now c.in-Gen.number n c.in-Gen.ensures gen) c.run_gen.ensures.end

pub returns-in-Gen-clause-usage : goal.returns-in-Gen-clause-usage
returns-in-Gen-clause-usage g c = λ no other. absurd (other c.in-Gen.number c.in-Gen.ensures)

pub returns-in-Gen-clause-read : goal.returns-in-Gen-clause-read
returns-in-Gen-clause-read g c =
    gen_not_read WorldStands c.run_gen.new.world (g.K.Sink.held c.args.sink.now) (g.K.Sink.held c.run_gen.new.sink) c.in-Gen.number c.run_gen.result _ c.run_gen.ensures.end

pub returns-in-Err-clause-run : goal.returns-in-Err-clause-run
returns-in-Err-clause-run g c = λ run. absurd (c.in-Nothing.ensures.0 run)

pub returns-in-Err-clause-usage : goal.returns-in-Err-clause-usage
returns-in-Err-clause-usage g c = λ no other. (c.in-Err.ensures.bytes.0, record { stands_for = c.requires; bytes = c.in-Err.ensures.bytes.1 })
