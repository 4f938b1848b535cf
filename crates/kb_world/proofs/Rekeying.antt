-- A world whose members are changed goes on as the machine does.
use Rattle.std.proofs.Common.{◌≡◌, ℕ, ◌+◌, ◌-◌, ◌≤◌, List, [], ◌∷◌, ◌++◌, length, Some, Result, Ok, Err, refl, sym, ap, ◌∙◌, subst, arith}
use Rattle.std.specs.Prelude.{slice_get}
use Rattle.sha2.specs.Sha256.{sha256}
use Rattle.kb_edge.specs.declared.disk.Disk.{Ghosts}
use Rattle.kb_seal.specs.Sealing.{seal_by_hmac, sign_by_hmac}
use Rattle.kb_keys.specs.declared.policy.Action.{Action}
use Rattle.kb_lines.specs.declared.lines.Line.{Line}
use Rattle.kb_snap.specs.Answers as says
use Rattle.kb_snap.specs.Chains as plain
use Rattle.kb_snap.specs.Chains.{Chain}
use Rattle.kb_snap.specs.Rekeys.{RekeyStep}
use Rattle.kb_snap.proofs.Lists.{append_none, member_at}
use Rattle.kb_folder.specs.Chains.{Names}
use Rattle.kb_folder.specs.Puts.{Held}
use Rattle.kb_folder.specs.Held.{held}
use Rattle.kb_folder.specs.Goes.{HasChain, Grows, RequestsStay}
use Rattle.kb_rekey.specs.declared.rekeying.RekeyFault.{RekeyFault}
use Rattle.kb_rekey.specs.declared.rekeying.RekeyFault.TheVariants as rekey
use Rattle.kb_rekey.specs.Rekeying.{IsStanding as FolderIsStanding, Rekeys, RekeyMeans, RekeysGo, Changes, rekeyed_by}
use Rattle.kb_device.specs.Forms.{StandsLonger}
use Rattle.kb_device.specs.Answering.{AnswersStay}
use Rattle.kb_world.specs.Statements.{ByRekey, DoRekey}
use Rattle.kb_world.specs.Machine.{State, ActStep}
use Rattle.kb_world.specs.RunLaws.{IsDevice}
use Rattle.kb_world.specs.Printed.{rekeyed_line}
use Rattle.kb_world.specs.Told.{told_rekey, IsRekeyed}
use Rattle.kb_world.specs.Standing.{DeclaredStands, WorldStands, IsStanding, device_count}
use Rattle.kb_world.specs.Doing.{IsOneOf, Tells, GoesOn}
use Rattle.kb_world.specs.declared.declared.Declared.{Declared}
use Rattle.kb_world.specs.declared.world.World.{World}
use Rattle.kb_world.proofs.Machine.{act_keeps}
use Rattle.kb_world.proofs.GoodStates.{device_meets}
use Rattle.kb_world.proofs.Landing.{registered_kept}
use Rattle.kb_world.proofs.Puts.{Grew, declared_longer}
use Rattle.kb_world.proofs.Unchanged.{stays}

-- an answer but for want of memory is the machine's
means : (r : Result ℕ RekeyFault) → IsRekeyed r → RekeyMeans r (told_rekey r)
means (Ok n) some = refl
means (Err rekey.NotWriter) some = refl
means (Err rekey.Known) some = refl
means (Err rekey.NotMember) some = refl
means (Err rekey.LastWriter) some = refl
means (Err rekey.GenEnd) some = refl
means (Err rekey.ChainEnd) some = refl
means (Err rekey.Memory) some = some

grew : (c : Chain) (x : plain.Revision) (by : ℕ) (a : Action) (who : ℕ) (answer : Result ℕ says.RekeyFault) (c' : Chain) → RekeyStep c x by a who answer c' → Grew c c'
grew c x by a who (Ok n) c' step = (x ∷ [], step.4)
grew c x by a who (Err fault) c' step = ([], step.1 ∙ sym (append_none c))

module _ {M D : Type 0} {disks : Ghosts D} (w : World M D disks) (stands : IsStanding w) where
  -- the folder stands for a chain under the seed
  pub folder_stands : FolderIsStanding seal_by_hmac sign_by_hmac sha256 w.seed (held w.folder)
  folder_stands =
      let has : HasChain seal_by_hmac sign_by_hmac sha256 w.seed stands.0 (held w.folder) stands.1.chain = subst (λ k. HasChain seal_by_hmac sign_by_hmac sha256 k stands.0 (held w.folder) stands.1.chain) stands.2.seed stands.2.folder in
      record { names = stands.0; chain = has.back; stands = has.stands }

  -- who is declared is registered
  pub is_registered : (d : ℕ) → IsOneOf (device_count w) d → (1 ≤ d) × (d ≤ (held w.folder).state.registered)
  is_registered d one = (one.0, (let top = one.1 in let count = stands.2.count in let registered = stands.2.registered in omega (arith, top, count, registered)))

module _ {M D : Type 0} {disks : Ghosts D} (w v : World M D disks) (by : ℕ) (a : Action) (who : ℕ) (writer : IsOneOf (device_count w) by) (declared : IsOneOf (device_count w) who) (devices : v.devices.items ≡ w.devices.items) (seed : v.seed ≡ w.seed) (moment : v.moment ≡ w.moment)
    (longer : (seed : List ℕ) (names : Names) → StandsLonger seal_by_hmac sign_by_hmac sha256 seed names) (request_stays : (seed : List ℕ) (names : Names) → RequestsStay seal_by_hmac sign_by_hmac sha256 seed names) (answers_stay : (seed : List ℕ) (names : Names) → AnswersStay seal_by_hmac sign_by_hmac sha256 seed names)
    (go : (seed : List ℕ) (names : Names) → RekeysGo seal_by_hmac sign_by_hmac sha256 seed names)
    (k : List ℕ) (key : k ≡ w.seed) (r : Result ℕ RekeyFault) (did : Rekeys seal_by_hmac sign_by_hmac sha256 k by a who w.moment (held w.folder) (held v.folder) r) where
  -- the members change, or don't
  pub rekeys : (l : Line) → l ≡ rekeyed_line (told_rekey r) → IsRekeyed r → GoesOn w v (λ names s t. Tells names by s (DoRekey by a who) l (λ reply. Unit {0}) t)
  rekeys l is some names s h =
      let at = member_at s.members (by - 1) (let low = writer.0 in let high = writer.1 in let n = h.count in omega (arith, low, high, n)) in
      let m = at.0 in
      let there = member_at w.devices.items (by - 1) (let low = writer.0 in let high = writer.1 in omega (arith, low, high)) in
      let stood : DeclaredStands s.seed names (by - 1 + 1) (held w.folder) s.chain there.0 m = h.members (by - 1) there.0 m there.1 at.1 in
      let own : by - 1 + 1 ≡ by = (let low = writer.0 in omega (arith, low)) in
      let name : m.name ≡ names by = stood.named ∙ ap names own in
      let own_did : Rekeys seal_by_hmac sign_by_hmac sha256 s.seed by a who w.moment (held w.folder) (held v.folder) r = subst (λ q. Rekeys seal_by_hmac sign_by_hmac sha256 q by a who w.moment (held w.folder) (held v.folder) r) (key ∙ sym h.seed) did in
      let to = go s.seed names (held w.folder) (held v.folder) s.chain by a who w.moment r (told_rekey r) h.folder own_did (means r some) in
      let x : plain.Revision = record { writer = by; name = m.name; moment = s.moment; deed = plain.Rekeyed a who } in
      let same : rekeyed_by names by w.moment a who ≡ x = (λ i. record { writer = by; name = sym name i; moment = sym h.moment i; deed = plain.Rekeyed a who }) in
      let step : RekeyStep s.chain x by a who (told_rekey r) to.0 = subst (λ y. RekeyStep s.chain y by a who (told_rekey r) to.0) same to.1 in
      let more : Grew s.chain to.0 = grew s.chain x by a who (told_rekey r) to.0 step in
      let t : State = record s { chain = to.0 } in
      let act : ActStep s (DoRekey by a who) (ByRekey (told_rekey r)) t = record {
        member = m;
        numbered = writer.0;
        found = at.1;
        declared = (declared.0, (let high = declared.1 in let n = h.count in omega (arith, high, n)));
        answer = told_rekey r;
        chain = to.0;
        step = step;
        reply_is = refl;
        state = refl;
      } in (
        t,
        record { reply = ByRekey (told_rekey r); step = act; line_is = ap (λ q. q ∷ []) (sym is); so = tt },
        record {
          seed = h.seed ∙ sym seed;
          moment = h.moment ∙ sym moment;
          rule = h.rule;
          folder = to.3;
          fresh = λ none. absurd (let low = writer.0 in let high = writer.1 in let n = h.count in omega (arith, none, low, high, n));
          registered = registered_kept (held w.folder) (held v.folder) to.2 ∙ h.registered;
          count = ap length devices ∙ h.count;
          members = λ i z n b c. (
              let z_at : slice_get w.devices.items i ≡ Some z = ap (λ q. slice_get q i) (sym devices) ∙ b in
              let is : IsDevice s (i + 1) n = record { numbered = omega arith; found = ap (slice_get s.members) (let e : i + 1 - 1 ≡ i = omega arith in e) ∙ c } in
              declared_longer s.seed names (held w.folder) (held v.folder) s.chain to.0 more to.2 h.folder to.3 (longer s.seed names) (request_stays s.seed names) (answers_stay s.seed names) (i + 1) z n (device_meets s (i + 1) n h.good is) (h.members i z n z_at c));
          good = act_keeps s t h.good (DoRekey by a who) (ByRekey (told_rekey r)) act;
        },
      )

  -- want of memory changes nothing
  pub rekey_lacks : r ≡ Err rekey.Memory → GoesOn w v (λ names s t. t ≡ s)
  rekey_lacks is = stays w v seed moment (subst (λ q. Changes (held w.folder) (held v.folder) q) is did.changes) devices
