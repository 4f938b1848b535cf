use Rattle.kb_rekey.proofs.Having.{began, granted, revoked}
use Rattle.kb_rekey.proofs.laws.members_law.Goals as goal

pub returns-clause-founds : goal.returns-clause-founds
returns-clause-founds g c = λ seed names new by moment after. began g.S.Sealer.sealed g.S.Sealer.signed g.H.BlockHash.hashed seed names new by moment after

pub returns-clause-grants : goal.returns-clause-grants
returns-clause-grants g c = λ seed names old new chain by moment a who is before after. granted g.S.Sealer.sealed g.S.Sealer.signed g.H.BlockHash.hashed seed names old new chain by moment a who is before after

pub returns-clause-revokes : goal.returns-clause-revokes
returns-clause-revokes g c = λ seed names old new chain by moment who before after. revoked g.S.Sealer.sealed g.S.Sealer.signed g.H.BlockHash.hashed seed names old new chain by moment who before after
