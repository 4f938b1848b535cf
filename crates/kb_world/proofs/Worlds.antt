-- A world goes on as one of its devices does.
use Rattle.std.proofs.Common.{◌≡◌, ℕ, zero, suc, ◌+◌, ◌-◌, ◌≤◌, ◌<◌, List, [], ◌∷◌, ◌++◌, length, Some, Result, Ok, Err, OnErr, inl, inr, refl, sym, ap, ◌∙◌, subst, arith}
use Rattle.std.specs.Prelude.{slice_get, slice_set}
use Rattle.std.proofs.lemmas.List.{length-set}
use Rattle.sha2.specs.Sha256.{sha256}
use Rattle.kb_edge.specs.declared.disk.Disk.{Ghosts}
use Rattle.kb_seal.specs.Sealing.{seal_by_hmac, sign_by_hmac}
use Rattle.kb_snap.specs.Chains.{Chain}
use Rattle.kb_device.specs.Parts.{Lowered}
use Rattle.kb_world.specs.Statements.{Reply, Turn, On, Do}
use Rattle.kb_world.specs.Statements as statements
use Rattle.kb_world.specs.Machine.{Member, State, ActStep, TurnStep, Lacks}
use Rattle.kb_world.specs.Good.{MemberMeets, IsGood}
use Rattle.kb_world.specs.RunLaws.{IsDevice}
use Rattle.kb_snap.proofs.Lists.{get_there, member_at}
use Rattle.kb_world.proofs.GoodStates.{device_meets}
use Rattle.kb_world.proofs.Machine.{get_set, act_keeps, ends_keep}
use Rattle.kb_folder.specs.Chains.{Names}
use Rattle.kb_folder.specs.Puts.{Held}
use Rattle.kb_folder.specs.Held.{held}
use Rattle.kb_folder.specs.Goes.{HasChain}
use Rattle.std.specs.Option.{ForSome}
use Rattle.kb_device.specs.Devices.{Runs}
use Rattle.kb_world.specs.Standing.{DeclaredStands, WorldStands, IsStanding}
use Rattle.kb_world.specs.Turning.{Turned}
use Rattle.kb_world.specs.Doing.{GoesOn}
use Rattle.kb_world.specs.declared.declared.Declared.{Declared}
use Rattle.kb_world.specs.declared.world.World.{World}

-- an element that is put in its own place
pub same_set : {A : Type 0} (xs : List A) (i : ℕ) (x : A) → slice_get xs i ≡ Some x → slice_set xs i x ≡ xs
same_set [] i x e = cc
same_set (y ∷ xs) zero x e = let same : y ≡ x = cc in ap (λ z. z ∷ xs) (sym same)
same_set (y ∷ xs) (suc i) x e = ap (λ l. y ∷ l) (same_set xs i x e)

module _ {M D : Type 0} {disks : Ghosts D} (w v : World M D disks) (names : Names) (d : ℕ) (x y : Declared D _ _ disks _ _) (numbered : 1 ≤ d) (found : slice_get w.devices.items (d - 1) ≡ Some x) (devices : v.devices.items ≡ slice_set w.devices.items (d - 1) y)
    (seed : v.seed ≡ w.seed) (moment : v.moment ≡ w.moment) where
  -- the member that the device stands for
  pub record Stood (s : State) : Type 0 where
    pub m : Member
    pub is : IsDevice s d m
    pub meets : MemberMeets d s.chain m
    pub here : DeclaredStands s.seed names d (held w.folder) s.chain x m

  pub stood : (s : State) → WorldStands names w s → Stood s
  stood s h =
      let lt = get_there w.devices.items (d - 1) x found in
      let at = member_at s.members (d - 1) (let e = h.count in omega arith) in
      let is : IsDevice s d at.0 = record { numbered = numbered; found = at.1 } in
      let own : d - 1 + 1 ≡ d = omega arith in
      record {
        m = at.0;
        is = is;
        meets = device_meets s d at.0 h.good is;
        here = subst (λ k. DeclaredStands s.seed names k (held w.folder) s.chain x at.0) own (h.members (d - 1) x at.0 found at.1);
      }

  -- it goes on, and perhaps the folder
  pub turned : (s t : State) (n : Member) (c : Chain) → WorldStands names w s → IsGood t → t ≡ record s { chain = c; members = slice_set s.members (d - 1) n } → HasChain seal_by_hmac sign_by_hmac sha256 s.seed names (held v.folder) c
      → (held v.folder).state.registered ≡ (held w.folder).state.registered → DeclaredStands s.seed names d (held v.folder) c y n
      → ((i : ℕ) (z : Declared D _ _ disks _ _) (m : Member) → slice_get w.devices.items i ≡ Some z → slice_get s.members i ≡ Some m → DeclaredStands s.seed names (i + 1) (held w.folder) s.chain z m → DeclaredStands s.seed names (i + 1) (held v.folder) c z m) → WorldStands names v t
  turned s t n c h good state folder registered here others =
      let u : State = record s { chain = c; members = slice_set s.members (d - 1) n } in
      let good_u : IsGood u = subst IsGood state good in
      let many : length u.members ≡ length s.members = length-set s.members (d - 1) n in
      let some : d - 1 < length w.devices.items = get_there w.devices.items (d - 1) x found in
      subst (WorldStands names v) (sym state) (record {
        seed = h.seed ∙ sym seed;
        moment = h.moment ∙ sym moment;
        rule = h.rule;
        folder = folder;
        fresh = λ none. absurd (let e = h.count in omega (arith, none, many, some, e));
        registered = registered ∙ h.registered ∙ sym many;
        count = ap length devices ∙ length-set w.devices.items (d - 1) y ∙ h.count ∙ sym many;
        members = λ i z m at there. elim (get_set w.devices.items (d - 1) i y z (ap (λ l. slice_get l i) (sym devices) ∙ at)) [
          | inl a ↦ elim (get_set s.members (d - 1) i n m there) [
            | inl b ↦ (
                let own : d ≡ i + 1 = (let e = a.0 in omega arith) in
                subst (λ q. DeclaredStands s.seed names (i + 1) (held v.folder) c z q) (sym b.1) (subst (λ q. DeclaredStands s.seed names (i + 1) (held v.folder) c q n) (sym a.1) (subst (λ k. DeclaredStands s.seed names k (held v.folder) c y n) own here)))
            | inr b ↦ absurd (b.0 a.0)
          ]
          | inr a ↦ elim (get_set s.members (d - 1) i n m there) [
            | inl b ↦ absurd (a.0 b.0)
            | inr b ↦ others i z m a.1 b.1 (h.members i z m a.1 b.1)
          ]
        ];
        good = good_u;
      })

  module _ (folder : held v.folder ≡ held w.folder) where
    -- the folder stays
    alone : (s t : State) (n : Member) → WorldStands names w s → IsGood t → t ≡ record s { chain = s.chain; members = slice_set s.members (d - 1) n } → DeclaredStands s.seed names d (held w.folder) s.chain y n → WorldStands names v t
    alone s t n h good state here =
        turned s t n s.chain h good state (subst (λ f. HasChain seal_by_hmac sign_by_hmac sha256 s.seed names f s.chain) (sym folder) h.folder) (ap (λ (f : Held). f.state.registered) folder)
        (subst (λ f. DeclaredStands s.seed names d f s.chain y n) (sym folder) here)
        (λ i z m a b stands. subst (λ f. DeclaredStands s.seed names (i + 1) f s.chain z m) (sym folder) stands)

    module _ (P : ℕ → Chain → Member → Member → Type 0) (goes : Turned (held w.folder) x y P) where
      -- a turn
      pub takes_turn : (s : State) (turn : Turn) (reply : Reply) → WorldStands names w s → ((m n : Member) → P d s.chain m n → TurnStep s d turn reply m n s.chain) → (t : State) × ActStep s (On d turn) reply t × WorldStands names v t
      takes_turn s turn reply h step =
          let a = stood s h in
          let to = goes s.seed names d s.chain a.m h.good.chain a.meets h.folder a.here in
          let t : State = record s { chain = s.chain; members = slice_set s.members (d - 1) to.0 } in
          let act : ActStep s (On d turn) reply t = record { was = a.m; is = to.0; chain = s.chain; numbered = numbered; found = a.is.found; step = step a.m to.0 to.1; state = refl } in
          (t, act, alone s t to.0 h (act_keeps s t h.good (On d turn) reply act) refl to.2)

      -- nothing changes
      pub takes_none : (s : State) → WorldStands names w s → ((m n : Member) → P d s.chain m n → n ≡ m) → (t : State) × (t ≡ s) × WorldStands names v t
      takes_none s h none =
          let a = stood s h in
          let to = goes s.seed names d s.chain a.m h.good.chain a.meets h.folder a.here in
          let same : to.0 ≡ a.m = none a.m to.0 to.1 in
          let set : slice_set s.members (d - 1) to.0 ≡ s.members = ap (slice_set s.members (d - 1)) same ∙ same_set s.members (d - 1) a.m a.is.found in
          (s, refl, alone s s to.0 h h.good (ap (λ l. record s { chain = s.chain; members = l }) (sym set)) to.2)

      -- an opening that ended for want of memory
      pub takes_step : (s : State) → WorldStands names w s → ((m n : Member) → P d s.chain m n → Lowered m.part n.part × (n ≡ record m { part = n.part })) → (t : State) × Lacks (Some (On d statements.Open)) s t × WorldStands names v t
      takes_step s h lowers =
          let a = stood s h in
          let to = goes s.seed names d s.chain a.m h.good.chain a.meets h.folder a.here in
          let low = lowers a.m to.0 to.1 in
          let t : State = record s { chain = s.chain; members = slice_set s.members (d - 1) to.0 } in
          let lack : Lacks (Some (On d statements.Open)) s t = inr (d, refl, record { was = a.m; is = to.0; chain = s.chain; numbered = numbered; found = a.is.found; step = (refl, low.0, low.1); state = refl }) in
          (t, lack, alone s t to.0 h (ends_keep s (Do (On d statements.Open)) t ([], s, refl, lack) h.good) refl to.2)

-- a session of a declared device goes on
pub runs_at : {M D : Type 0} {disks : Ghosts D} (w : World M D disks) (d : ℕ) (x : Declared D _ _ disks _ _) → 1 ≤ d → slice_get w.devices.items (d - 1) ≡ Some x → IsStanding w → ForSome x.device.session (Runs x.device.number)
runs_at w d x numbered found stands =
    let names = stands.0 in
    let s = stands.1 in
    let h = stands.2 in
    let at = member_at s.members (d - 1) (let lt = get_there w.devices.items (d - 1) x found in let e = h.count in omega (arith, lt, e)) in
    (h.members (d - 1) x at.0 found at.1).runs

-- an answer that isn't want of memory owes nothing
pub on_err : {T E P : Type 0} (r : Result T E) → P → OnErr r P
on_err (Ok x) p = tt
on_err (Err e) p = p

pub stays_so : {M D : Type 0} {disks : Ghosts D} (w : World M D disks) → GoesOn w w (λ names s t. t ≡ s)
stays_so w = λ names s h. (s, refl, h)
