-- What changes a world but for its devices: the seed, the moment, a new device, and the founding.
use Rattle.std.proofs.Common.{◌≡◌, ℕ, zero, suc, ◌+◌, ◌-◌, ◌≤◌, true, List, [], ◌∷◌, ◌++◌, length, reverse, replicate, Some, None, Ok, inl, inr, refl, sym, ap, ◌∙◌, subst, arith, length-append}
use Rattle.std.specs.Prelude.{slice_get, All}
use Rattle.std.specs.Option.{ForSome}
use Rattle.std.proofs.lemmas.List.{length-map, length-reverse}
use Rattle.std.proofs.lemmas.List.Elements.{All-head}
use Rattle.sha2.specs.Sha256.{sha256}
use Rattle.kb_edge.specs.declared.disk.Disk.{Ghosts}
use Rattle.kb_log.specs.Steps.{IsClean}
use Rattle.kb_name.specs.Names.{is_device_name}
use Rattle.kb_seal.specs.Sealing.{seal_by_hmac, sign_by_hmac}
use Rattle.kb_keys.specs.Secrets.{device_secret}
use Rattle.kb_script.specs.declared.statements.Statement.TheVariants as said
use Rattle.kb_lines.specs.declared.lines.Line.{Line}
use Rattle.kb_lines.specs.declared.lines.Line.TheVariants as line
use Rattle.kb_blocks.specs.Entries.{id_cmp}
use Rattle.kb_blocks.specs.Stores.{Blocks as Stored}
use Rattle.std.specs.FinMap.{get, get-empty, empty as empty_blocks}
use Rattle.kb_snap.specs.Chains as plain
use Rattle.kb_snap.specs.Chains.{Chain, Founded, most_revisions}
use Rattle.kb_snap.specs.Members.{IsDeclared}
use Rattle.kb_device.specs.Waits.{Nothing}
use Rattle.kb_device.specs.Stands as inner
use Rattle.kb_device.specs.Stands.{DeviceStands}
use Rattle.kb_device.specs.Devices.{IsView, Runs}
use Rattle.kb_device.specs.Serving.{IsNew}
use Rattle.kb_device.specs.Parts.{new_part}
use Rattle.kb_world.specs.Statements.{Silent, ByRekey, SetSeed, Declare, DoFound, SetMoment}
use Rattle.kb_world.specs.Machine.{new_member, Member, State, new_state, ActStep}
use Rattle.kb_world.specs.Good.{names_of}
use Rattle.kb_world.proofs.Machine.{get_push, act_keeps, new_good}
use Rattle.kb_world.proofs.GoodStates.{device_meets}
use Rattle.kb_folder.specs.Chains.{Names, Back}
use Rattle.kb_files.specs.Opens.{Blocks}
use Rattle.kb_folder.specs.Stands.{Revisions, Stands}
use Rattle.kb_folder.specs.Lands.{FolderStands}
use Rattle.kb_folder.specs.Laws.{BeginsEmpty, RegistersOne, StandsOnce}
use Rattle.kb_folder.specs.Puts.{Held}
use Rattle.kb_folder.specs.Held.{held, empty_folder, registered_with}
use Rattle.kb_folder.specs.Goes.{HasChain, Grows, RequestsStay}
use Rattle.kb_device.specs.Forms.{StandsLonger}
use Rattle.kb_device.specs.Answering.{AnswersStay}
use Rattle.kb_snap.proofs.Lists.{get_there, member_at}
use Rattle.kb_world.specs.RunLaws.{IsDevice}
use Rattle.kb_world.proofs.Puts.{declared_longer}
use Rattle.kb_world.proofs.Registering.{chain_one, declared_one}
use Rattle.kb_rekey.specs.Founding.{Founds, founded_by, any_names}
use Rattle.kb_world.specs.Standing.{WaitsFor, DeclaredStands, WorldStands}
use Rattle.kb_world.specs.declared.declared.Waiting.TheVariants as kept
use Rattle.kb_world.specs.Doing.{IsOneOf, MayDo, Tells}
use Rattle.kb_world.specs.declared.declared.Declared.{Declared}
use Rattle.kb_world.specs.declared.world.World.{World}

-- a new folder has the chain of no revision
empty_chain : (begins : BeginsEmpty seal_by_hmac sign_by_hmac sha256) (seed : List ℕ) (names : Names) (f : Held) → f ≡ empty_folder most_revisions → HasChain seal_by_hmac sign_by_hmac sha256 seed names f []
empty_chain begins seed names f is = subst (λ g. HasChain seal_by_hmac sign_by_hmac sha256 seed names g []) (sym is)
    (record { back = []; turned = refl; stands = begins seed names most_revisions (omega arith) (omega arith); limit = refl })

-- where no device is declared, no revision is there
pub no_chain : (c : Chain) (names : List (List ℕ)) → length names ≡ 0 → All (IsDeclared names) c → c ≡ []
no_chain [] names none all = refl
no_chain (x ∷ c) names none all =
    let at = (All-head (IsDeclared names) x c all).named in
    absurd (nowhere names (x.writer - 1) x.name none at)
  where
    nowhere : (l : List (List ℕ)) (i : ℕ) (y : List ℕ) → length l ≡ 0 → slice_get l i ≡ Some y → ⊥
    nowhere [] i y none e = cc
    nowhere (z ∷ l) i y none e = absurd (omega (arith, none))

module _ {M D : Type 0} {disks : Ghosts D} (w v : World M D disks) (begins : BeginsEmpty seal_by_hmac sign_by_hmac sha256) where
  module _ (folder : held v.folder ≡ held w.folder) (devices : v.devices.items ≡ w.devices.items) where
    -- the seed is set before all devices
    pub seeds : (seed : List ℕ) → v.seed ≡ seed → v.moment ≡ w.moment → (names : Names) (s : State) → WorldStands names w s → MayDo names s (said.Seed seed) → (t : State) × ActStep s (SetSeed seed) Silent t × WorldStands names v t
    seeds seed seed_is moment names s h none =
        let t : State = record s { seed = seed } in
        let act : ActStep s (SetSeed seed) Silent t = (refl, refl) in
        let empty : s.chain ≡ [] = no_chain s.chain (names_of s.members) (length-map s.members _ ∙ none) h.good.declared in
        let bare : held v.folder ≡ empty_folder most_revisions = folder ∙ h.fresh none in (
          t,
          act,
          record {
            seed = sym seed_is;
            moment = h.moment ∙ sym moment;
            rule = h.rule;
            folder = subst (HasChain seal_by_hmac sign_by_hmac sha256 seed names (held v.folder)) (sym empty) (empty_chain begins seed names (held v.folder) bare);
            fresh = λ e. bare;
            registered = ap (λ (f : Held). f.state.registered) folder ∙ h.registered;
            count = ap length devices ∙ h.count;
            members = λ i x m at there. absurd (nobody s.members i m none there);
            good = act_keeps s t h.good (SetSeed seed) Silent act;
          },
        )
      where
        nobody : (l : List Member) (i : ℕ) (m : Member) → length l ≡ 0 → slice_get l i ≡ Some m → ⊥
        nobody [] i m none e = cc
        nobody (y ∷ l) i m none e = absurd (omega (arith, none))

-- a device is declared, behind those that are
module _ {M D : Type 0} {disks : Ghosts D} (w v : World M D disks) (registers : RegistersOne seal_by_hmac sign_by_hmac sha256) (once : StandsOnce seal_by_hmac sign_by_hmac sha256)
    (x : Declared D _ _ disks _ _) (name : List ℕ) (size : ℕ) (devices : v.devices.items ≡ w.devices.items ++ x ∷ []) (seed : v.seed ≡ w.seed) (moment : v.moment ≡ w.moment) (name_is : x.name ≡ name) (waiting : x.waiting ≡ kept.Nothing) (unarmed : x.link.armed ≡ None)
    (n : ℕ) (behind : n ≡ length w.devices.items + 1) (folder : held v.folder ≡ registered_with (held w.folder) (device_secret w.seed n)) (runs : ForSome x.device.session (Runs x.device.number))
    (u : inner.Member) (is : IsView x.device u) (own_number : u.number ≡ n) (own_name : u.name ≡ name) (own_secret : u.secret ≡ device_secret w.seed n) (zeros : u.disk.content ≡ replicate size 0) (clean : IsClean u.disk.dirty) (lasts : u.disk.left ≡ None)
    (stands : (seed : List ℕ) (names : Names) (f : Held) (c : Chain) (size : ℕ) → IsNew seed names f u size → DeviceStands seal_by_hmac sign_by_hmac sha256 seed names n f c u (new_part size)) where
  pub declares : (names : Names) (s : State) → WorldStands names w s → MayDo names s (said.Device name size) → is_device_name name ≡ true → (t : State) × ActStep s (Declare name size) Silent t × WorldStands names v t
  declares names s h may named =
      let member : Member = new_member name size in
      let t : State = record s { members = s.members ++ member ∷ [] } in
      let act : ActStep s (Declare name size) Silent t = (refl, may.0, named, record { from = may.2; to = may.3 }, refl) in
      let f : Held = held w.folder in
      let g : Held = registered_with f (device_secret s.seed (f.state.registered + 1)) in
      let behind_all : n ≡ length s.members + 1 = behind ∙ ap (λ k. k + 1) h.count in
      let number_is : n ≡ f.state.registered + 1 = behind_all ∙ ap (λ k. k + 1) (sym h.registered) in
      let same : held v.folder ≡ g = folder ∙ (λ i. registered_with f (device_secret (sym h.seed i) (number_is i))) in
      let room : f.state.registered + 1 ≤ 32 = (let few = may.0 in let r = h.registered in omega (arith, few, r)) in
      let more : length t.members ≡ length s.members + 1 = length-append s.members (member ∷ []) in
      let chain : HasChain seal_by_hmac sign_by_hmac sha256 s.seed names g s.chain = chain_one seal_by_hmac sign_by_hmac sha256 s.seed names f registers once room s.chain h.folder in
      let new : IsNew s.seed names g u size = record {
        named = own_name ∙ sym may.4 ∙ ap names (sym behind_all ∙ sym own_number);
        own = own_secret ∙ ap (λ k. device_secret k n) (sym h.seed) ∙ ap (device_secret s.seed) (sym own_number);
        registered = ((let k = own_number in let b = behind in omega (arith, k, b)), (let k = own_number in let b = number_is in omega (arith, k, b)));
        low = may.2;
        zeros = zeros;
        clean = clean;
        lasts = lasts;
      } in
      let here : DeclaredStands s.seed names (length s.members + 1) g s.chain x member = record {
        name = name_is ∙ sym may.4;
        named = sym may.4;
        view = u;
        is = is;
        runs = runs;
        part = subst (λ d. DeviceStands seal_by_hmac sign_by_hmac sha256 s.seed names d g s.chain u (new_part size)) behind_all (stands s.seed names g s.chain size new);
        waits = subst (λ k. WaitsFor seal_by_hmac sign_by_hmac sha256 s.seed names g u k Nothing) (sym waiting) tt;
        link = sym unarmed;
        batch = refl;
      } in (
        t,
        act,
        record {
          seed = h.seed ∙ sym seed;
          moment = h.moment ∙ sym moment;
          rule = h.rule;
          folder = subst (λ k. HasChain seal_by_hmac sign_by_hmac sha256 s.seed names k s.chain) (sym same) chain;
          fresh = λ none. absurd (omega (arith, none, more));
          registered = ap (λ (k : Held). k.state.registered) same ∙ ap (λ k. k + 1) h.registered ∙ sym more;
          count = ap length devices ∙ length-append w.devices.items (x ∷ []) ∙ ap (λ k. k + 1) h.count ∙ sym more;
          members = λ i z m at there. subst (λ k. DeclaredStands s.seed names (i + 1) k s.chain z m) (sym same) (
              elim (get_push w.devices.items x z i (ap (λ l. slice_get l i) (sym devices) ∙ at)) [
                | inl a ↦ elim (get_push s.members member m i there) [
                  | inl b ↦ subst (λ k. DeclaredStands s.seed names (k + 1) g s.chain z m) (sym b.0) (subst (λ q. DeclaredStands s.seed names (length s.members + 1) g s.chain z q) (sym b.1) (subst (λ q. DeclaredStands s.seed names (length s.members + 1) g s.chain q member) (sym a.1) here))
                  | inr b ↦ absurd (let lt = get_there s.members i m b in let k = h.count in let e = a.0 in omega (arith, lt, k, e))
                ]
                | inr a ↦ elim (get_push s.members member m i there) [
                  | inl b ↦ absurd (let lt = get_there w.devices.items i z a in let k = h.count in let e = b.0 in omega (arith, lt, k, e))
                  | inr b ↦ declared_one s.seed names f registers once room (i + 1) s.chain z m h.folder (h.members i z m a b)
                ]
              ]);
          good = act_keeps s t h.good (Declare name size) Silent act;
        },
      )

-- the moment is set
module _ {M D : Type 0} {disks : Ghosts D} (w v : World M D disks) (folder : held v.folder ≡ held w.folder) (devices : v.devices.items ≡ w.devices.items) where
  pub moves : (moment : ℕ) → v.moment ≡ moment → v.seed ≡ w.seed → (names : Names) (s : State) → WorldStands names w s → MayDo names s (said.At moment) → (t : State) × ActStep s (SetMoment moment) Silent t × WorldStands names v t
  moves moment moment_is seed names s h within =
      let t : State = record s { moment = moment } in
      let act : ActStep s (SetMoment moment) Silent t = (refl, within, refl) in (
        t,
        act,
        record {
          seed = h.seed ∙ sym seed;
          moment = sym moment_is;
          rule = h.rule;
          folder = subst (λ f. HasChain seal_by_hmac sign_by_hmac sha256 s.seed names f s.chain) (sym folder) h.folder;
          fresh = λ none. folder ∙ h.fresh none;
          registered = ap (λ (f : Held). f.state.registered) folder ∙ h.registered;
          count = ap length devices ∙ h.count;
          members = λ i x m at there. subst (λ f. DeclaredStands s.seed names (i + 1) f s.chain x m) (sym folder) (h.members i x m (ap (λ l. slice_get l i) (sym devices) ∙ at) there);
          good = act_keeps s t h.good (SetMoment moment) Silent act;
        },
      )

-- a new world
pub starts : {M D : Type 0} {disks : Ghosts D} (w : World M D disks) → BeginsEmpty seal_by_hmac sign_by_hmac sha256 → w.seed ≡ replicate 32 0 → w.moment ≡ 0 → w.devices.items ≡ [] → held w.folder ≡ empty_folder most_revisions → (names : Names) → WorldStands names w new_state
starts w begins seed moment none bare names = record {
  seed = sym seed;
  moment = sym moment;
  rule = refl;
  folder = empty_chain begins (replicate 32 0) names (held w.folder) bare;
  fresh = λ e. bare;
  registered = ap (λ (f : Held). f.state.registered) bare;
  count = ap length none;
  members = λ i x m at there. cc;
  good = new_good;
}

-- ---- the founding

-- a chain of no revision has no bytes, under whatever names
none_back : (back : Back) → [] ≡ reverse back → back ≡ []
none_back [] e = refl
none_back (x ∷ back) e = absurd (let n : 0 ≡ length (x ∷ back) = ap length e ∙ length-reverse (x ∷ back) in omega (arith, n))

pub renamed : (seed : List ℕ) (names other : Names) (f : Held) → HasChain seal_by_hmac sign_by_hmac sha256 seed names f [] → FolderStands seal_by_hmac sign_by_hmac sha256 seed other f []
renamed seed names other f has =
    let h : FolderStands seal_by_hmac sign_by_hmac sha256 seed names f [] = subst (FolderStands seal_by_hmac sign_by_hmac sha256 seed names f) (none_back has.back has.turned) has.stands in
    record { sound = h.sound; stands = bytes f.revisions h.stands; head = h.head; policy = h.policy; last = h.last; halves = h.halves; secrets = h.secrets }
  where
    bytes : (bs : Revisions) → Stands seal_by_hmac sign_by_hmac sha256 seed names f.state.registered (get f.blocks) bs [] → Stands seal_by_hmac sign_by_hmac sha256 seed other f.state.registered (get f.blocks) bs []
    bytes [] h = tt
    bytes (b ∷ bs) h = h

-- the folder may be founded
pub may_found : {M D : Type 0} {disks : Ghosts D} (w : World M D disks) (d : ℕ) (names : Names) (s : State) → WorldStands names w s → s.chain ≡ [] → IsOneOf (length s.members) d
    → FolderStands seal_by_hmac sign_by_hmac sha256 w.seed any_names (held w.folder) [] × ((1 ≤ d) × (d ≤ (held w.folder).state.registered))
may_found w d names s h none one = (
  renamed w.seed names any_names (held w.folder) (subst (λ k. HasChain seal_by_hmac sign_by_hmac sha256 k names (held w.folder) []) h.seed (subst (HasChain seal_by_hmac sign_by_hmac sha256 s.seed names (held w.folder)) none h.folder)),
  (one.0, (let n = h.registered in let m = one.1 in omega (arith, n, m))),
)

-- bytes of one revision
one_revision : (seed : List ℕ) (names : Names) (registered : ℕ) (blocks : Blocks) (bs : Revisions) (x : plain.Revision) → Stands seal_by_hmac sign_by_hmac sha256 seed names registered blocks bs (x ∷ []) → (b : List ℕ) × (bs ≡ b ∷ [])
one_revision seed names registered blocks [] x h = absurd h
one_revision seed names registered blocks (b ∷ []) x h = (b, refl)
one_revision seed names registered blocks (b ∷ a ∷ bs) x h = absurd h.0

no_revision : (seed : List ℕ) (names : Names) (registered : ℕ) (blocks : Blocks) (bs : Revisions) → Stands seal_by_hmac sign_by_hmac sha256 seed names registered blocks bs [] → bs ≡ []
no_revision seed names registered blocks [] h = refl
no_revision seed names registered blocks (b ∷ bs) h = absurd h

no_block : (blocks : Stored) → blocks ≡ empty_blocks → (id b : List ℕ) → get blocks id ≡ Some b → ⊥
no_block blocks bare id b at = let none : None ≡ Some b = sym (get-empty id_cmp id) ∙ ap (λ (m : Stored). get m id) (sym bare) ∙ at in cc

founding_grows : (seed : List ℕ) (names : Names) (f g : Held) (x : plain.Revision) → FolderStands seal_by_hmac sign_by_hmac sha256 seed names f [] → FolderStands seal_by_hmac sign_by_hmac sha256 seed names g (x ∷ []) → g.state.registered ≡ f.state.registered → Grows f g
founding_grows seed names f g x old new registered =
    let none : f.revisions ≡ [] = no_revision seed names f.state.registered (get f.blocks) f.revisions old.stands in
    let one = one_revision seed names g.state.registered (get g.blocks) g.revisions x new.stands in
    let empty : f.state.length ≡ 0 = sym old.sound.counted ∙ ap length none in
    inr (record {
      bytes = one.0;
      revisions = one.1 ∙ ap (λ l. one.0 ∷ l) (sym none);
      blocks = λ id b at. (let bare = old.sound.bare empty in absurd (no_block f.blocks bare id b at));
      registered = registered;
    })

module _ {M D : Type 0} {disks : Ghosts D} (w v : World M D disks) (d : ℕ) (number : ℕ) (devices : v.devices.items ≡ w.devices.items) (seed : v.seed ≡ w.seed) (moment : v.moment ≡ w.moment)
    (longer : (seed : List ℕ) (names : Names) → StandsLonger seal_by_hmac sign_by_hmac sha256 seed names) (request_stays : (seed : List ℕ) (names : Names) → RequestsStay seal_by_hmac sign_by_hmac sha256 seed names) (answers_stay : (seed : List ℕ) (names : Names) → AnswersStay seal_by_hmac sign_by_hmac sha256 seed names) where
  pub founds : (l : Line) → l ≡ line.FolderAt number → Founds seal_by_hmac sign_by_hmac sha256 w.seed d w.moment (held w.folder) (held v.folder) (Ok number)
      → (names : Names) (s : State) → WorldStands names w s → MayDo names s (said.Found d) → (t : State) × Tells names d s (DoFound d) l (λ reply. Unit {0}) t × WorldStands names v t
  founds l is founded names s h may =
      let none : s.chain ≡ [] = may.1 in
      let at = member_at s.members (d - 1) (let low = may.0.0 in let high = may.0.1 in omega arith) in
      let m = at.0 in
      let there = member_at w.devices.items (d - 1) (let low = may.0.0 in let high = may.0.1 in let n = h.count in omega arith) in
      let stood : DeclaredStands s.seed names (d - 1 + 1) (held w.folder) s.chain there.0 m = h.members (d - 1) there.0 m there.1 at.1 in
      let own : d - 1 + 1 ≡ d = (let low = may.0.0 in omega arith) in
      let name : m.name ≡ names d = stood.named ∙ ap names own in
      let x : plain.Revision = record { writer = d; name = m.name; moment = s.moment; deed = Founded } in
      let same : founded_by names d w.moment ≡ x = (λ i. record { writer = d; name = sym name i; moment = sym h.moment i; deed = Founded }) in
      let t : State = record s { chain = x ∷ [] } in
      let act : ActStep s (DoFound d) (ByRekey (Ok 1)) t = (refl, record { member = m; numbered = may.0.0; found = at.1; none = none; state = refl }) in
      let has : HasChain seal_by_hmac sign_by_hmac sha256 s.seed names (held w.folder) [] = subst (HasChain seal_by_hmac sign_by_hmac sha256 s.seed names (held w.folder)) none h.folder in
      let old : FolderStands seal_by_hmac sign_by_hmac sha256 s.seed names (held w.folder) [] = renamed s.seed names names (held w.folder) has in
      let new : FolderStands seal_by_hmac sign_by_hmac sha256 s.seed names (held v.folder) (x ∷ []) =
      subst (λ k. FolderStands seal_by_hmac sign_by_hmac sha256 k names (held v.folder) (x ∷ [])) (sym h.seed) (subst (λ y. FolderStands seal_by_hmac sign_by_hmac sha256 w.seed names (held v.folder) (y ∷ [])) same (founded.1 names)) in
      let folder : HasChain seal_by_hmac sign_by_hmac sha256 s.seed names (held v.folder) (x ∷ []) = record { back = x ∷ []; turned = refl; stands = new; limit = founded.2 ∙ h.folder.limit } in
      let grows = founding_grows s.seed names (held w.folder) (held v.folder) x old new founded.3 in (
        t,
        record { reply = ByRekey (Ok 1); step = act; line_is = ap (λ n. line.FolderAt n ∷ []) (sym founded.0) ∙ ap (λ k. k ∷ []) (sym is); so = tt },
        record {
          seed = h.seed ∙ sym seed;
          moment = h.moment ∙ sym moment;
          rule = h.rule;
          folder = folder;
          fresh = λ e. absurd (let low = may.0.0 in let high = may.0.1 in omega (arith, e, low, high));
          registered = founded.3 ∙ h.registered;
          count = ap length devices ∙ h.count;
          members = λ i z n a b. (
              let z_at : slice_get w.devices.items i ≡ Some z = ap (λ q. slice_get q i) (sym devices) ∙ a in
              let is : IsDevice s (i + 1) n = record { numbered = omega arith; found = ap (slice_get s.members) (let e : i + 1 - 1 ≡ i = omega arith in e) ∙ b } in
              declared_longer s.seed names (held w.folder) (held v.folder) s.chain (x ∷ []) (x ∷ [], ap (λ q. q ++ x ∷ []) (sym none)) grows h.folder folder (longer s.seed names) (request_stays s.seed names) (answers_stay s.seed names) (i + 1) z n (device_meets s (i + 1) n h.good is) (h.members i z n z_at b));
          good = act_keeps s t h.good (DoFound d) (ByRekey (Ok 1)) act;
        },
      )
