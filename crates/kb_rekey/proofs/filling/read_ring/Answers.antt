use Rattle.std.proofs.Common.{ℕ, map, Ok, Err, Vec, Global, sym, subst}
use Rattle.kb_keys.specs.Rings as rings
use Rattle.kb_folder.specs.Held.{held}
use Rattle.kb_rekey.specs.Filling.{IsRing}
use Rattle.kb_rekey.proofs.Filled.{stranger, filled, caused, room_for}
use Rattle.kb_rekey.proofs.filling.read_ring.Goals as goal

pub add_revisions-requires : goal.add_revisions-requires
add_revisions-requires g c = record { member = c.in-Ok.ensures.lent.0; room = room_for (held c.args.folder.now) c.args.from c.in-Ok.texts.now c.args.folder.now.sound c.ranges.from.fits c.in-Ok.ensures.lent.1 }

pub returns-in-Err-clause-fills : goal.returns-in-Err-clause-fills
returns-in-Err-clause-fills g c = stranger g.S.Sealer.sealed g.S.Sealer.signed g.H.BlockHash.hashed (held c.args.folder.now) c.args.d c.args.secret.now c.args.from c.args.ring.now c.in-Err.ensures.none

pub returns-in-Ok-add_revisions-clause-fills : goal.returns-in-Ok-add_revisions-clause-fills
returns-in-Ok-add_revisions-clause-fills g c = λ seed names chain gen stands same low high was.
    filled g.S.Sealer.sealed g.S.Sealer.signed g.H.BlockHash.hashed (held c.args.folder.now) c.args.d c.args.secret.now c.args.from (map (λ (b : Vec ℕ Global). b.items) c.in-Ok.texts.now) c.in-Ok-copy.filled c.add_revisions.new.ring c.in-Ok.ensures.lent.0 c.in-Ok.ensures.lent.1
    seed names chain gen stands same low high (subst (λ (r : rings.Keys). IsRing seed gen r) (sym c.in-Ok-copy.ensures) was) (Ok tt) c.in-Ok-add_revisions.ensures.adds

pub returns-in-Err-add_revisions-clause-cause : goal.returns-in-Err-add_revisions-clause-cause
returns-in-Err-add_revisions-clause-cause g c =
    caused g.S.Sealer.sealed (held c.args.folder.now) c.args.d c.args.secret.now c.args.from (map (λ (b : Vec ℕ Global). b.items) c.in-Ok.texts.now) c.in-Err-add_revisions.fault c.in-Ok.ensures.lent.0 c.in-Ok.ensures.lent.1 c.in-Err-add_revisions.ensures.blame

pub returns-in-Err-add_revisions-clause-fills : goal.returns-in-Err-add_revisions-clause-fills
returns-in-Err-add_revisions-clause-fills g c = λ seed names chain gen stands same low high was.
    filled g.S.Sealer.sealed g.S.Sealer.signed g.H.BlockHash.hashed (held c.args.folder.now) c.args.d c.args.secret.now c.args.from (map (λ (b : Vec ℕ Global). b.items) c.in-Ok.texts.now) c.in-Ok-copy.filled c.add_revisions.new.ring c.in-Ok.ensures.lent.0 c.in-Ok.ensures.lent.1
    seed names chain gen stands same low high (subst (λ (r : rings.Keys). IsRing seed gen r) (sym c.in-Ok-copy.ensures) was) (Err c.in-Err-add_revisions.fault) c.in-Err-add_revisions.ensures.adds
