use Rattle.kb_folder.proofs.Readings.{chain_of}
use Rattle.kb_audit.proofs.Equal.{good_from, stands_from}
use Rattle.kb_audit.proofs.laws.facts_law.Goals as goal

pub returns-clause-good : goal.returns-clause-good
returns-clause-good g c seed names registered blocks bs chain b x top h =
    good_from g.S.Sealer.sealed g.S.Sealer.signed g.H.BlockHash.hashed seed names registered blocks top bs chain b x (chain_of g.S.Sealer.sealed g.S.Sealer.signed g.H.BlockHash.hashed seed names registered blocks bs chain h.0) h.1 h.2

pub returns-clause-stands : goal.returns-clause-stands
returns-clause-stands g c seed names registered blocks bs chain b named h good =
    let made = stands_from g.S.Sealer.sealed g.S.Sealer.signed g.H.BlockHash.hashed seed names registered blocks named bs chain b good in
    (h, made.0, made.1)
