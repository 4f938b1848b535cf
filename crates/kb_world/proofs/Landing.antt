-- A world after a put of what waits for a device.
use Rattle.std.proofs.Common.{◌≡◌, ◌⊎◌, ℕ, ◌+◌, ◌-◌, ◌≤◌, List, [], ◌∷◌, ◌++◌, length, Option, Some, None, Result, Ok, Err, inl, inr, refl, sym, ap, ◌∙◌, subst, arith}
use Rattle.std.specs.Prelude.{slice_get, slice_set}
use Rattle.sha2.specs.Sha256.{sha256}
use Rattle.kb_edge.specs.declared.disk.Disk.{Ghosts}
use Rattle.kb_seal.specs.Sealing.{seal_by_hmac, sign_by_hmac}
use Rattle.kb_chain.specs.declared.states.PutRefusal.TheVariants as why
use Rattle.kb_lines.specs.declared.lines.Line.{Line}
use Rattle.kb_snap.specs.Answers.{PutFault}
use Rattle.kb_snap.specs.Chains.{Chain}
use Rattle.kb_snap.proofs.Lists.{append_none}
use Rattle.kb_world.specs.Statements.{LandFault, ByLand, On}
use Rattle.kb_world.specs.Statements as statements
use Rattle.kb_world.specs.Machine.{Member, State, ActStep, PutsAsk, LosesAsk, PutsNone, flush_stage, drain_stage, ToNote}
use Rattle.kb_world.specs.RunLaws.{IsDevice}
use Rattle.kb_world.proofs.Machine.{act_keeps}
use Rattle.kb_world.proofs.GoodStates.{device_meets}
use Rattle.kb_folder.specs.Chains.{Names}
use Rattle.kb_folder.specs.Puts.{Held}
use Rattle.kb_folder.specs.Held.{held}
use Rattle.kb_folder.specs.Goes.{Grows, RequestsStay}
use Rattle.kb_device.specs.Forms.{StandsLonger}
use Rattle.kb_device.specs.Answering.{AnswersStay}
use Rattle.kb_world.specs.Printed.{landed_line}
use Rattle.kb_world.specs.Turning.{IsLanding, IsLand, LandSteps, LandTurns}
use Rattle.kb_world.specs.Standing.{DeclaredStands, WorldStands}
use Rattle.kb_world.specs.Doing.{Tells, GoesOn, is_carried, stage_if}
use Rattle.kb_world.specs.declared.declared.Declared.{Declared}
use Rattle.kb_world.specs.declared.world.World.{World}
use Rattle.kb_world.specs.declared.replies.LandFault as code
use Rattle.kb_world.specs.declared.replies.LandFault.TheVariants as land
use Rattle.kb_world.proofs.Worlds.{same_set, stood, turned}
use Rattle.kb_world.proofs.Puts.{Grew, Landed, put_grew, lost_grew, declared_longer}

land_does : (r : Result ℕ code.LandFault) (d : ℕ) (c : Chain) (m n : Member) (c' : Chain) → IsLand r → LandSteps r d c m n c' → Landed r d c m n c'
land_does (Ok number) d c m n c' some h = h
land_does (Err land.NoFlight) d c m n c' some h = h
land_does (Err land.LinkFault) d c m n c' some h = h
land_does (Err (land.ByFolder why.BadRevision)) d c m n c' some h = h
land_does (Err (land.ByFolder why.NotWriter)) d c m n c' some h = h
land_does (Err (land.ByFolder why.BadSignature)) d c m n c' some h = h
land_does (Err (land.ByFolder (why.Stale len head))) d c m n c' some h = h
land_does (Err (land.ByFolder (why.SeqGap expected))) d c m n c' some h = h
land_does (Err (land.ByFolder why.BadFit)) d c m n c' some h = h
land_does (Err (land.ByFolder why.ChainEnd)) d c m n c' some h = h
land_does (Err (land.ByFolder (why.Collision id))) d c m n c' some h = h
land_does (Err (land.ByFolder why.Memory)) d c m n c' some h = absurd some

-- a note follows where the line tells that the link didn't lose the put
land_stage : (name : List ℕ) (told : Result ℕ LandFault) → flush_stage (Some (ByLand told)) ≡ stage_if (is_carried (landed_line name told)) ToNote
land_stage name (Ok n) = refl
land_stage name (Err statements.NoFlight) = refl
land_stage name (Err (statements.LinkFault lost)) = refl
land_stage name (Err (statements.ByFolder PutFault.NotWriter)) = refl
land_stage name (Err (statements.ByFolder (PutFault.Stale len))) = refl
land_stage name (Err (statements.ByFolder PutFault.ChainEnd)) = refl
land_stage name (Err (statements.ByFolder (PutFault.Collision id))) = refl

grown : (c c' : Chain) (told : Result ℕ LandFault) (m n : Member) → (PutsAsk c (ByLand told) m n c' ⊎ LosesAsk c (ByLand told) m n c') ⊎ ((c' ≡ c) × PutsNone (ByLand told) m n) → Grew c c'
grown c c' told m n (inl (inl p)) = put_grew c p.ask p.answer c' p.step
grown c c' told m n (inl (inr p)) = lost_grew c p.ask p.lost c' p.step
grown c c' told m n (inr none) = ([], none.0 ∙ sym (append_none c))

pub registered_kept : (f g : Held) → Grows f g → g.state.registered ≡ f.state.registered
registered_kept f g (inl e) = ap (λ (x : Held). x.state.registered) e
registered_kept f g (inr longer) = longer.registered

module _ {M D : Type 0} {disks : Ghosts D} (w v : World M D disks) (d : ℕ) (x y : Declared D _ _ disks _ _) (numbered : 1 ≤ d) (found : slice_get w.devices.items (d - 1) ≡ Some x) (devices : v.devices.items ≡ slice_set w.devices.items (d - 1) y)
    (seed : v.seed ≡ w.seed) (moment : v.moment ≡ w.moment)
    (longer : (seed : List ℕ) (names : Names) → StandsLonger seal_by_hmac sign_by_hmac sha256 seed names) (request_stays : (seed : List ℕ) (names : Names) → RequestsStay seal_by_hmac sign_by_hmac sha256 seed names) (answers_stay : (seed : List ℕ) (names : Names) → AnswersStay seal_by_hmac sign_by_hmac sha256 seed names)
    (r : Result ℕ code.LandFault) (goes : LandTurns (held w.folder) (held v.folder) x y r) where
  pub lands_device : (l : Line) → ((told : Result ℕ LandFault) → IsLanding r told → l ≡ landed_line x.name told) → IsLand r
      → GoesOn w v (λ names s t. Tells names d s (On d statements.Land) l (λ reply. (flush_stage (Some reply) ≡ stage_if (is_carried l) ToNote) × (drain_stage (Some reply) ≡ flush_stage (Some reply))) t)
  lands_device l is some = λ names s h.
      let a = stood w v names d x y numbered found devices seed moment s h in
      let to = goes s.seed names d s.chain a.m h.good.chain a.meets h.folder a.here in
      let n = to.0 in
      let c' = to.1 in
      let did = land_does r d s.chain a.m n c' some to.2 in
      let grew = grown s.chain c' did.0 a.m n did.2 in
      let t : State = record s { chain = c'; members = slice_set s.members (d - 1) n } in
      let act : ActStep s (On d statements.Land) (ByLand did.0) t = record {
        was = a.m;
        is = n;
        chain = c';
        numbered = numbered;
        found = a.is.found;
        step = did.2;
        state = refl;
      } in (
        t,
        record {
          reply = ByLand did.0;
          step = act;
          line_is = ap (λ k. landed_line k did.0 ∷ []) (sym a.here.name) ∙ ap (λ k. k ∷ []) (sym (is did.0 did.1));
          so = (land_stage x.name did.0 ∙ ap (λ k. stage_if (is_carried k) ToNote) (sym (is did.0 did.1)), refl);
        },
        turned w v names d x y numbered found devices seed moment s t n c' h (act_keeps s t h.good (On d statements.Land) (ByLand did.0) act) refl to.3 (registered_kept (held w.folder) (held v.folder) to.4) to.5
            (λ i z m z_at m_at stands. (
            let is_device : IsDevice s (i + 1) m = record { numbered = omega arith; found = ap (slice_get s.members) (let e : i + 1 - 1 ≡ i = omega arith in e) ∙ m_at } in
            declared_longer s.seed names (held w.folder) (held v.folder) s.chain c' grew to.4 h.folder to.3 (longer s.seed names) (request_stays s.seed names) (answers_stay s.seed names) (i + 1) z m (device_meets s (i + 1) m h.good is_device) stands)),
      )

  pub land_lacks : r ≡ Err (land.ByFolder why.Memory) → GoesOn w v (λ names s t. t ≡ s)
  land_lacks is = λ names s h.
      let a = stood w v names d x y numbered found devices seed moment s h in
      let to = goes s.seed names d s.chain a.m h.good.chain a.meets h.folder a.here in
      let n = to.0 in
      let c' = to.1 in
      let none : (n ≡ a.m) × (c' ≡ s.chain) = subst (λ k. LandSteps k d s.chain a.m n c') is to.2 in
      let grew : Grew s.chain c' = ([], none.1 ∙ sym (append_none s.chain)) in
      let set : slice_set s.members (d - 1) n ≡ s.members = ap (slice_set s.members (d - 1)) none.0 ∙ same_set s.members (d - 1) a.m a.is.found in (
        s,
        refl,
        turned w v names d x y numbered found devices seed moment s s n c' h h.good (λ i. record s { chain = sym none.1 i; members = sym set i }) to.3 (registered_kept (held w.folder) (held v.folder) to.4) to.5
            (λ i z m z_at m_at stands. (
            let is_device : IsDevice s (i + 1) m = record { numbered = omega arith; found = ap (slice_get s.members) (let e : i + 1 - 1 ≡ i = omega arith in e) ∙ m_at } in
            declared_longer s.seed names (held w.folder) (held v.folder) s.chain c' grew to.4 h.folder to.3 (longer s.seed names) (request_stays s.seed names) (answers_stay s.seed names) (i + 1) z m (device_meets s (i + 1) m h.good is_device) stands)),
      )
