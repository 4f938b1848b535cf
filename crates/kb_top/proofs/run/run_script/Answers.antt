use Rattle.kb_world.specs.Standing.{WorldStands}
use Rattle.kb_top.proofs.Ends.{complete}
use Rattle.kb_top.proofs.run.run_script.Goals as goal

pub returns-clause-complete : goal.returns-clause-complete
returns-clause-complete g c =
    complete WorldStands c.run_source.new.world (g.K.Sink.held c.args.sink.now) (g.K.Sink.held c.run_source.new.sink) (g.S.Source.left c.args.source.now) _ _ _ _ c.run_source.result
    c.run_source.ensures.headline c.run_source.ensures.read c.run_source.ensures.write
