use Rattle.std.proofs.Common.{◌≡◌, ◌+◌, ◌∷◌, [], ◌++◌, length, refl, ap, sym, ◌∙◌, subst, arith}
use Rattle.std.specs.Prelude.{vec_len}
use Rattle.sha2.specs.Sha256.{sha256}
use Rattle.kb_seal.specs.Sealing.{seal_by_hmac, sign_by_hmac}
use Rattle.kb_keys.specs.Secrets.{device_secret}
use Rattle.kb_device.specs.Stands.{Platter}
use Rattle.kb_folder.specs.Held.{registered_with}
use Rattle.kb_world.specs.declared.declared.Waiting.TheVariants as kept
use Rattle.kb_world.proofs.Unchanged.{on_err, stays}
use Rattle.kb_world.proofs.Founding.{declares}
use Rattle.kb_world.proofs.world.World.declare.Goals as goal

pub returns-in_err-reserve-clause-memory : goal.returns-in_err-reserve-clause-memory
returns-in_err-reserve-clause-memory g c = on_err _ _ (stays c.args.self.now _ refl refl refl c.in_err-reserve.ensures.items)

pub returns-in_err-reserve-2-clause-memory : goal.returns-in_err-reserve-2-clause-memory
returns-in_err-reserve-2-clause-memory g c = on_err _ _ (stays c.args.self.now _ refl refl c.in_err-reserve-2.ensures.same c.in_ok-reserve.ensures.items)

pub returns-clause-step : goal.returns-clause-step
returns-clause-step g c names s stood may =
    let w = c.args.self.now in
    let len : vec_len w.devices ≡ length w.devices.items = w.devices.ok.0 in
    let behind : c.len.result + 1 ≡ length w.devices.items + 1 = (let a = c.len.ensures in let b = c.reserve.ensures.len in omega (arith, a, b, len)) in
    let secret : c.device-secret.result ≡ device_secret w.seed (c.len.result + 1) = c.device-secret.ensures ∙ (λ i. device_secret (c.new.ensures i) (c.len.result + 1)) in
    let stands = c.new-2.ensures.stands in
    let u = stands.0 in
    let is = stands.1 in
    declares w _ c.beginning_law.ensures.registers c.once_law.ensures (record { name = c.in_ok-shown.shown; device = c.new-2.result; waiting = kept.Nothing; link = c.new-3.result }) c.args.name.now c.args.size
    (c.push_reserved.ensures.items ∙ (λ i. c.in_ok-reserve.ensures.items i ++ record { name = c.in_ok-shown.shown; device = c.new-2.result; waiting = kept.Nothing; link = c.new-3.result } ∷ []))
    refl refl c.in_ok-shown.ensures.cases refl (ap (λ l. l.armed) c.new-3.ensures)
    (c.len.result + 1) behind
    (c.register_reserved.ensures ∙ (λ i. registered_with (c.in_ok-reserve-2.ensures.same i) (secret i)))
    c.new-2.ensures.runs u is
    (is.number ∙ c.new-2.ensures.number) (is.name ∙ c.new-2.ensures.name ∙ c.in_ok-name.ensures.cases) (is.secret ∙ c.new-2.ensures.secret ∙ secret)
    (ap (λ (p : Platter). p.content) stands.2 ∙ c.in_ok-disk.ensures.content) (λ place. ap (λ (p : Platter). p.dirty place) stands.2 ∙ c.in_ok-disk.ensures.clean place) (ap (λ (p : Platter). p.left) stands.2 ∙ c.in_ok-disk.ensures.left)
    stands.3
    names s stood may may.1

pub returns-in_err-disk-clause-memory : goal.returns-in_err-disk-clause-memory
returns-in_err-disk-clause-memory g c = on_err _ _ (stays c.args.self.now _ refl refl c.in_ok-reserve-2.ensures.same c.in_ok-reserve.ensures.items)
