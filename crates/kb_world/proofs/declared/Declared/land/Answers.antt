use Rattle.std.proofs.Common.{◌≡◌, true, false, Some, None, Ok, Err, refl, sym, ap, ◌∙◌, subst}
use Rattle.kb_folder.specs.Held.{held}
use Rattle.kb_snap.specs.Chains.{Chain}
use Rattle.kb_folder.specs.Goes.{HasChain, Grows}
use Rattle.kb_device.specs.Links.{PutsOver}
use Rattle.kb_device.specs.declared.answers.PutAnswer.{PutAnswer}
use Rattle.kb_device.proofs.Links.{memory_over}
use Rattle.kb_world.specs.Machine.{Member}
use Rattle.kb_world.specs.Turning.{LandSteps}
use Rattle.kb_world.specs.Standing.{DeclaredStands}
use Rattle.kb_world.proofs.Puts.{landing_of, puts_none, puts_lack, puts_request, loses_request}
use Rattle.sha2.specs.Sha256.{sha256}
use Rattle.kb_world.specs.declared.declared.Waiting.TheVariants as kept
use Rattle.kb_world.proofs.declared.Declared.land.Goals as goal

pub returns-in_default-clause-goes : goal.returns-in_default-clause-goes
returns-in_default-clause-goes g c seed names d chain m lawful meets has h = puts_none seed names (held c.args.folder.now) c.args.self.now d chain m has h c.in_default.not-Request

pub returns-then-has_lost-clause-goes : goal.returns-then-has_lost-clause-goes
returns-then-has_lost-clause-goes g c seed names d chain m lawful meets has h =
    let lost = subst (λ x. PutsOver g.S.Sealer.signed g.H.BlockHash.hashed (held c.args.folder.now) c.in-Request.request (held c.put_over.new.folder) (Some c.args.self.now.link.armed) (Some c.put_over.new.link.armed) (Err x)) (c.has_lost.ensures.lost c.if-has_lost.true) c.in-Err.ensures.does in
    let went = c.leave.ensures.goes seed names h.view h.is in
    loses_request seed names (held c.args.folder.now) (held c.put_over.new.folder) c.args.self.now (record { name = c.args.self.now.name; device = c.leave.new.self; waiting = kept.Nothing; link = c.put_over.new.link }) refl (c.machine_law.ensures.goes seed names) (c.machine_law.ensures.means seed names)
    (c.longer_law.ensures seed names) (c.machine_law.ensures.stay seed names) (c.landing_law.ensures.stays seed names) d chain m lawful meets has h c.in-Request.request c.in-Request.is went.0 went.1 (λ s is. absurd (let e : None ≡ Some s = sym c.leave.ensures.closed ∙ is in cc)) went.2 refl lost

pub returns-in-Err-clause-goes : goal.returns-in-Err-clause-goes
returns-in-Err-clause-goes g c seed names d chain m lawful meets has h =
    let over = memory_over g.S.Sealer.signed g.H.BlockHash.hashed (held c.args.folder.now) (held c.put_over.new.folder) c.in-Request.request (Some c.args.self.now.link.armed) (Some c.put_over.new.link.armed) c.in-Err.fault (c.has_lost.ensures.other c.if-has_lost.false) c.in-Err.ensures.does in
    puts_lack seed names (held c.args.folder.now) (held c.put_over.new.folder) c.args.self.now (record { name = c.args.self.now.name; device = c.args.self.now.device; waiting = c.args.self.now.waiting; link = c.put_over.new.link }) d chain m over.0 refl refl refl over.1 has h

pub returns-in-Ok-put-clause-goes : goal.returns-in-Ok-put-clause-goes
returns-in-Ok-put-clause-goes g c seed names d chain m lawful meets has h =
    let answer : PutAnswer = record { number = c.in-Ok.put; hash = c.hash_of-hash.result } in
    subst (λ r. (n : Member) × (e : Chain) × LandSteps (landing_of r) d chain m n e × HasChain g.S.Sealer.sealed g.S.Sealer.signed g.H.BlockHash.hashed seed names (held c.put_over.new.folder) e × Grows (held c.args.folder.now) (held c.put_over.new.folder) × DeclaredStands seed names d (held c.put_over.new.folder) e (record { name = c.args.self.now.name; device = c.args.self.now.device; waiting = kept.Answer answer; link = c.put_over.new.link }) n) c.in-Ok-put.is
    (puts_request seed names (held c.args.folder.now) (held c.put_over.new.folder) c.args.self.now (record { name = c.args.self.now.name; device = c.args.self.now.device; waiting = kept.Answer answer; link = c.put_over.new.link }) refl (c.machine_law.ensures.goes seed names) (c.machine_law.ensures.means seed names) (c.longer_law.ensures seed names) (c.machine_law.ensures.stay seed names) (c.landing_law.ensures.stays seed names)
    d chain m lawful meets has h c.in-Request.request c.in-Request.is (c.landing_law.ensures.lands seed names) answer c.in-Ok.ensures.does.0 c.in-Ok.ensures.does.1 (c.hash_of-hash.ensures ∙ ap sha256 c.as_slice.ensures) refl refl)

pub returns-in-Err-put-clause-goes : goal.returns-in-Err-put-clause-goes
returns-in-Err-put-clause-goes g c seed names d chain m lawful meets has h =
    let answer : PutAnswer = record { number = c.in-Ok.put; hash = c.hash_of-hash.result } in
    subst (λ r. (n : Member) × (e : Chain) × LandSteps (landing_of r) d chain m n e × HasChain g.S.Sealer.sealed g.S.Sealer.signed g.H.BlockHash.hashed seed names (held c.put_over.new.folder) e × Grows (held c.args.folder.now) (held c.put_over.new.folder) × DeclaredStands seed names d (held c.put_over.new.folder) e (record { name = c.args.self.now.name; device = c.args.self.now.device; waiting = kept.Answer answer; link = c.put_over.new.link }) n) c.in-Err-put.is
    (puts_request seed names (held c.args.folder.now) (held c.put_over.new.folder) c.args.self.now (record { name = c.args.self.now.name; device = c.args.self.now.device; waiting = kept.Answer answer; link = c.put_over.new.link }) refl (c.machine_law.ensures.goes seed names) (c.machine_law.ensures.means seed names) (c.longer_law.ensures seed names) (c.machine_law.ensures.stay seed names) (c.landing_law.ensures.stays seed names)
    d chain m lawful meets has h c.in-Request.request c.in-Request.is (c.landing_law.ensures.lands seed names) answer c.in-Ok.ensures.does.0 c.in-Ok.ensures.does.1 (c.hash_of-hash.ensures ∙ ap sha256 c.as_slice.ensures) refl refl)
