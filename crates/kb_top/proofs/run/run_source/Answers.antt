use Rattle.kb_world.specs.Standing.{WorldStands}
use Rattle.kb_top.proofs.Ends.{none_new, ended_new, tells_headline, ran_headline, told_not_read}
use Rattle.kb_top.proofs.run.run_source.Goals as goal

pub returns-in-Err-Memory-clause-headline : goal.returns-in-Err-Memory-clause-headline
returns-in-Err-Memory-clause-headline g c = ended_new c.args.world.now (g.K.Sink.held c.args.sink.now) c.requires (g.S.Source.left c.args.source.now)

pub returns-in-Err-clause-headline : goal.returns-in-Err-clause-headline
returns-in-Err-clause-headline g c =
    tells_headline c.args.world.now (g.K.Sink.held c.args.sink.now) (g.K.Sink.held c.refuse.new.sink) (g.S.Source.left c.args.source.now) c.in-Ok.bytes.items c.deref.result.now c.in-Err.fault c.refuse.result c.requires c.in-Ok.ensures.bytes
    c.deref.ensures.value c.in-Err.ensures.value c.refuse.ensures.told c.refuse.ensures.memory

pub returns-in-Err-clause-read : goal.returns-in-Err-clause-read
returns-in-Err-clause-read g c = told_not_read (g.K.Sink.held c.args.sink.now) (g.K.Sink.held c.refuse.new.sink) _ c.refuse.result _ c.refuse.ensures.told

pub returns-in-Err-Failed-clause-headline : goal.returns-in-Err-Failed-clause-headline
returns-in-Err-Failed-clause-headline g c = none_new c.args.world.now (g.K.Sink.held c.args.sink.now) c.requires

pub returns-clause-headline : goal.returns-clause-headline
returns-clause-headline g c =
    ran_headline WorldStands c.run_all.new.world (g.K.Sink.held c.args.sink.now) (g.K.Sink.held c.run_all.new.sink) (g.S.Source.left c.args.source.now) c.in-Ok.bytes.items c.deref.result.now c.in-Ok-parse.statements.items c.deref-in-Ok-parse.result.now c.run_all.result
    c.in-Ok.ensures.bytes c.deref.ensures.value c.deref-in-Ok-parse.ensures.value c.in-Ok-parse.ensures.value c.run_all.ensures.runs
