use Rattle.std.proofs.Common.{refl, sym, subst}
use Rattle.sha2.specs.Sha256.{sha256}
use Rattle.kb_seal.specs.Sealing.{seal_by_hmac, sign_by_hmac}
use Rattle.kb_snap.specs.Rekeys.{grant_of}
use Rattle.kb_folder.specs.Held.{held}
use Rattle.kb_rekey.specs.Rekeying.{IsStanding}
use Rattle.kb_world.proofs.Borrows.{if_ok, on_err}
use Rattle.kb_world.proofs.Rekeying.{folder_stands, is_registered, rekeys, rekey_lacks}
use Rattle.kb_world.proofs.world.World.grant.Goals as goal

pub grant-answer-requires-clause-standing : goal.grant-answer-requires-clause-standing
grant-answer-requires-clause-standing g c = subst (λ k. IsStanding seal_by_hmac sign_by_hmac sha256 k (held c.args.self.now.folder)) (sym c.new-secrets.ensures) (folder_stands c.args.self.now c.requires.stands)

pub grant-answer-requires-clause-registered : goal.grant-answer-requires-clause-registered
grant-answer-requires-clause-registered g c = is_registered c.args.self.now c.requires.stands c.args.device c.requires.declared

pub returns : goal.returns
returns g c = record {
  step = if_ok c.rekeyed_line.result _ _ _ (λ line is some. rekeys c.args.self.now _ c.args.by (grant_of c.args.role) c.args.device c.requires.by c.requires.declared refl refl refl c.longer_law.ensures c.machine_law.ensures.stay c.landing_law.ensures.stays c.rekey_law.ensures _ c.new-secrets.ensures c.grant-answer.result c.grant-answer.ensures line is some) c.rekeyed_line.ensures.line c.rekeyed_line.ensures.answer;
  memory = on_err c.rekeyed_line.result _ _ (λ lacks. rekey_lacks c.args.self.now _ c.args.by (grant_of c.args.role) c.args.device c.requires.by c.requires.declared refl refl refl c.longer_law.ensures c.machine_law.ensures.stay c.landing_law.ensures.stays c.rekey_law.ensures _ c.new-secrets.ensures c.grant-answer.result c.grant-answer.ensures lacks) c.rekeyed_line.ensures.memory;
}
