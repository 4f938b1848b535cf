-- What waits for a device, as it goes on.
use Rattle.std.proofs.Common.{◌≡◌, ℕ, Bool, true, false, List, Some, None, Result, Ok, Err, refl, sym, ap, ◌∙◌, subst}
use Rattle.kb_snap.specs.Chains.{Chain}
use Rattle.kb_device.specs.Parts.{Part}
use Rattle.kb_device.specs.Waits.{Waiting, Nothing, Asked, Answered, waiting_if, WaitingMeets}
use Rattle.kb_world.specs.Machine.{Member}
use Rattle.kb_folder.specs.Chains.{Names}
use Rattle.kb_folder.specs.Puts.{Held}
use Rattle.kb_device.specs.Stands as inner
use Rattle.kb_device.specs.Serving.{WaitsOn}
use Rattle.kb_edge.specs.declared.disk.Disk.{Ghosts}
use Rattle.kb_seal.specs.declared.sealer.Sealer.{Ghosts as Seals}
use Rattle.kb_blocks.specs.declared.hashing.BlockHash.{Ghosts as Hashes}
use Rattle.kb_device.specs.Views.{platter}
use Rattle.kb_device.specs.Devices.{IsView}
use Rattle.kb_device.specs.Pulling.{UnlessStopped, is_stopped}
use Rattle.kb_device.specs.declared.device.Device.{Device}
use Rattle.kb_device.specs.declared.answers.PullFault.{PullFault}
use Rattle.kb_device.specs.declared.answers.PullFault.TheVariants as pull
use Rattle.kb_world.specs.Standing.{WaitsFor}
use Rattle.kb_world.specs.declared.declared.Waiting as waits
use Rattle.kb_world.specs.declared.declared.Waiting.TheVariants as kept

-- nothing waits where no session is open
pub nothing_if : (b : Bool) → waiting_if b Nothing ≡ Nothing
nothing_if true = refl
nothing_if false = refl

pub waiting_open : (d : ℕ) (c : Chain) (name : List ℕ) (p : Part) (w : Waiting) → WaitingMeets d c name p w → waiting_if p.is_open w ≡ w
waiting_open d c name p Nothing h = nothing_if p.is_open
waiting_open d c name p (Asked ask) h = ap (λ b. waiting_if b (Asked ask)) h.at.session
waiting_open d c name p (Answered answer) h = ap (λ b. waiting_if b (Answered answer)) h.at.session

pub waiting_closed : (d : ℕ) (c : Chain) (name : List ℕ) (p : Part) (w : Waiting) → WaitingMeets d c name p w → p.is_open ≡ false → w ≡ Nothing
waiting_closed d c name p w h closed = sym (waiting_open d c name p w h) ∙ ap (λ b. waiting_if b w) closed

module _ (sealed signed : List ℕ → List ℕ → List ℕ) (hashed : List ℕ → List ℕ) (seed : List ℕ) (names : Names) (f : Held) where
  pub waits_on : (v u : inner.Member) (k : waits.Waiting) (w : Waiting) → WaitsOn sealed hashed seed v u → WaitsFor sealed signed hashed seed names f v k w → WaitsFor sealed signed hashed seed names f u k w
  waits_on v u kept.Nothing Nothing on h = tt
  waits_on v u (kept.Request request) (Asked ask) on h = (h.0, on.sent f request h.1)
  waits_on v u (kept.Answer answer) (Answered put) on h = (h.0, on.answer f answer h.1)
  waits_on v u kept.Nothing (Asked ask) on h = absurd h
  waits_on v u kept.Nothing (Answered put) on h = absurd h
  waits_on v u (kept.Request request) Nothing on h = absurd h
  waits_on v u (kept.Request request) (Answered put) on h = absurd h
  waits_on v u (kept.Answer answer) Nothing on h = absurd h
  waits_on v u (kept.Answer answer) (Asked ask) on h = absurd h

  -- what isn't there waits for each device
  pub waits_none : (v u : inner.Member) (k : waits.Waiting) → WaitsFor sealed signed hashed seed names f v k Nothing → WaitsFor sealed signed hashed seed names f u k Nothing
  waits_none v u kept.Nothing h = tt
  waits_none v u (kept.Request request) h = absurd h
  waits_none v u (kept.Answer answer) h = absurd h

-- ---- devices as plain values

some_same : {X : Type 0} (x y : X) → Some x ≡ Some y → x ≡ y
some_same x y e = cc

-- a device is one plain value
pub view_once : {D S H : Type 0} {disks : Ghosts D} {sealers : Seals S} {hashes : Hashes H} (device : Device D S H disks sealers hashes) (u v : inner.Member) → IsView device u → IsView device v → u ≡ v
view_once {disks = disks} device u v a b =
    let disk : u.disk ≡ v.disk = a.disk ∙ ap (platter disks) (some_same a.held b.held (sym a.has ∙ b.has)) ∙ sym b.disk in
    λ i. record { number = (a.number ∙ sym b.number) i; name = (a.name ∙ sym b.name) i; secret = (a.secret ∙ sym b.secret) i; disk = disk i; inside = (a.inside_is ∙ sym b.inside_is) i }

pub going_waits : {P : Type 0} (r : Result ℕ PullFault) → is_stopped r ≡ false → UnlessStopped r P → P
going_waits (Ok n) e h = h
going_waits (Err pull.Closed) e h = h
going_waits (Err pull.NotMember) e h = h
going_waits (Err pull.Unflushed) e h = h
going_waits (Err (pull.BadFolder number)) e h = h
going_waits (Err pull.Memory) e h = h
going_waits (Err pull.Stopped) e h = cc
