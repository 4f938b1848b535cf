use Rattle.std.proofs.Common.{refl, sym, ap, subst, ◌∙◌, arith}
use Rattle.std.specs.Option.{option_copied}
use Rattle.kb_keys.specs.Rings.{key_at}
use Rattle.kb_device.specs.Stepping.{IsStepRequest}
use Rattle.kb_device.proofs.Shared.{takes_of}
use Rattle.kb_device.proofs.session.Session.request.Goals as goal

pub returns-clause-takes : goal.returns-clause-takes
returns-clause-takes g c = takes_of g.H.BlockHash.hashed _ _ _ _ c.as_slice-blocks.ensures c.in-Ok-keep_blocks.ensures.takes

pub returns-clause-made : goal.returns-clause-made
returns-clause-made g c =
    let s = c.args.self.now in
    record {
      seq = refl;
      number = omega (arith, c.in-Some.ensures.1, c.known.ensures);
      flight = refl;
      key = c.in-Some-key.key.now;
      keyed = sym c.key.ensures ∙ ap option_copied c.in-Some-key.is;
      made = subst (λ h. IsStepRequest g.S.Sealer.sealed g.S.Sealer.signed g.H.BlockHash.hashed c.args.secret.now c.in-Some-key.key.now s.generation c.in-Some.number h c.args.op s.base.tree s.pointers s.cache (key_at s.ring) s.written c.in-Ok.made.request) c.known_hash-head.ensures c.in-Ok.ensures.step;
      pointers = c.in-Ok.ensures.pointers;
      all = c.in-Ok.ensures.all;
      few = c.in-Ok.ensures.few;
    }
