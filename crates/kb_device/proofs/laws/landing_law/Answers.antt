use Rattle.kb_device.proofs.Sent.{sent_lands, answers_stay}
use Rattle.kb_device.proofs.laws.landing_law.Goals as goal

pub returns-clause-lands : goal.returns-clause-lands
returns-clause-lands g c seed names = sent_lands g.S.Sealer.sealed g.S.Sealer.signed g.H.BlockHash.hashed seed names

pub returns-clause-stays : goal.returns-clause-stays
returns-clause-stays g c seed names = answers_stay g.S.Sealer.sealed g.S.Sealer.signed g.H.BlockHash.hashed seed names
