use Rattle.kb_device.proofs.Remember.{longer, gives, taken}
use Rattle.kb_device.proofs.step_requests.remember_law.Goals as goal

pub returns-clause-longer : goal.returns-clause-longer
returns-clause-longer g c seed names f new chain more known hash generation kept cache grows has old = longer g.S.Sealer.sealed g.S.Sealer.signed g.H.BlockHash.hashed seed names f new chain more known hash generation kept cache has old grows

pub returns-clause-gives : goal.returns-clause-gives
returns-clause-gives g c seed names f chain known hash generation kept left cache op has old last fits is = gives g.S.Sealer.sealed g.S.Sealer.signed g.H.BlockHash.hashed seed names f chain known hash generation kept left cache op has old last fits is

pub returns-clause-taken : goal.returns-clause-taken
returns-clause-taken g c seed names f new chain x request n generation t left pointers was cache has added tree generation_is some takes held once = taken g.S.Sealer.sealed g.S.Sealer.signed g.H.BlockHash.hashed seed names f new chain x request n generation t left pointers was cache has added tree generation_is some takes held once
