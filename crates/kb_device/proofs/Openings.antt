-- What an opening does is what the machine's opening does.
use Rattle.std.proofs.Common.{◌≡◌, ℕ, zero, suc, ◌<◌, ◌≤◌, true, false, List, [], ◌∷◌, ◌++◌, length, map, Option, None, Some, is_some, Ok, Err, inl, inr, refl, sym, ap, subst, ◌∙◌, arith}
use Rattle.std.specs.Prelude.{nat_le, IsSomeAnd, Contains}
use Rattle.std.specs.FinMap.{get}
use Rattle.std.proofs.lemmas.List.Elements.{Contains-append_left, Contains-append_right}
use Rattle.kb_edge.specs.Disk.{FallsBy}
use Rattle.kb_log.specs.LogList.{area_size}
use Rattle.kb_log.specs.Steps.{RanOut}
use Rattle.kb_ops.specs.Trees.{Tree, look, fold_ops}
use Rattle.kb_files.specs.Opens.{Opens}
use Rattle.kb_snap.specs.Pointers.{AllHold}
use Rattle.kb_keys.specs.Policies.{role_at}
use Rattle.kb_keys.specs.declared.policy.Role.{Role}
use Rattle.kb_journal.specs.State.{State, HasState}
use Rattle.kb_journal.proofs.OneState.{one_state}
use Rattle.kb_snap.specs.Chains.{Chain, tree_at}
use Rattle.kb_snap.specs.Members.{roles_of, roles_at, IsStranger}
use Rattle.kb_device.specs.Caches.{known_in}
use Rattle.kb_device.specs.Answers as says
use Rattle.kb_device.specs.Journals.{Journal, plain, taken_over, resumed}
use Rattle.kb_device.specs.Disks as front
use Rattle.kb_device.specs.Disks.{IsKept}
use Rattle.kb_snap.specs.Lawful.{IsLawful}
use Rattle.kb_device.specs.Parts.{Part, OpenStep, Lowered, opened, status_of}
use Rattle.kb_device.specs.Meets.{Meets, PartMeets}
use Rattle.kb_device.proofs.Foreign.{not_foreign}
use Rattle.kb_folder.specs.Chains.{Names}
use Rattle.kb_folder.specs.Stands.{keys_to}
use Rattle.kb_folder.specs.Puts.{Held}
use Rattle.kb_folder.specs.Held.{is_member}
use Rattle.kb_folder.specs.Goes.{HasChain}
use Rattle.kb_device.specs.Remembering.{Remembers}
use Rattle.kb_device.specs.Inside.{Inside, IsRunning}
use Rattle.kb_device.specs.Stands.{Platter, Member, hashes_of, DiskStands, SessionStands, DeviceStands}
use Rattle.kb_device.specs.Heads.{Read}
use Rattle.kb_device.specs.Telling.{told_status, status_in}
use Rattle.kb_device.specs.Opening.{IsApart, taken_by, caught_by, StartStands}
use Rattle.kb_device.specs.Opened.{started, Resumes, StopsResuming, IsUnwritten, StopsFinding, Begins, OpenFails, OpenAnswers}
use Rattle.kb_device.specs.declared.called.Status.{Status}
use Rattle.kb_device.specs.declared.answers.OpenFault.{OpenFault}
use Rattle.kb_device.specs.declared.answers.OpenFault.TheVariants as fault
use Rattle.kb_device.specs.declared.opening.Taking.{Taking}
use Rattle.kb_device.proofs.Hashes.{same_hash}
use Rattle.kb_device.proofs.Longer.{chain_length}
use Rattle.kb_device.proofs.Notings.{stands_with, stands_closed}
use Rattle.kb_device.proofs.Options.{none_of}
use Rattle.kb_device.proofs.Picks.{closed_at}
use Rattle.kb_device.proofs.Starts.{kept_up, head_up}

contains_map : {A B : Type 0} (g : A → B) (xs : List A) (x : A) → Contains xs x → Contains (map g xs) (g x)
contains_map g [] x (k, lt, e) = absurd (omega (arith, lt))
contains_map g (y ∷ xs) x (zero, lt, e) = (0, omega arith, ap g e)
contains_map g (y ∷ xs) x (suc k, lt, e) =
    let there = contains_map g xs x (k, (let l : k < length xs = omega (arith, lt) in l), e) in
    let lt' = there.1 in
    (suc there.0, omega (arith, lt'), there.2)

module _ (sealed signed : List ℕ → List ℕ → List ℕ) (hashed : List ℕ → List ℕ) (seed : List ℕ) (names : Names) (f : Held) (old : Member) (none : old.inside ≡ None) where
  abbrev d : ℕ
  d = old.number

  module _ (c : Chain) (p : Part) (lawful : IsLawful c) (part : PartMeets d c p) (has : HasChain sealed signed hashed seed names f c) (h : DeviceStands sealed signed hashed seed names d f c old p) where
    is_closed : p.is_open ≡ false
    is_closed = closed_at sealed signed hashed seed names d f c old p none h

    role_here : role_at f.state.policy.0 d ≡ roles_of c d
    role_here = has.stands.policy.roles d ∙ ap (λ l. roles_of l d) (sym has.turned)

    no_stranger : is_member f d ≡ true → ¬ IsStranger c d
    no_stranger member stranger = let bad : true ≡ false = sym member ∙ ap is_some (role_here ∙ stranger) in cc

    -- the disk's state is one of the part's journals, with its hash
    found_in : (s : State) → HasState s old.disk.content → Contains p.may (plain s) × (s.hash ≡ front.hash_at (hashes_of f.revisions) s.known)
    found_in s is =
        let k = h.disk.images old.disk.content (record { size = refl; kept = λ place clean. refl }) in
        let same : k.state ≡ s = one_state k.state s old.disk.content k.has is in
        subst (λ (x : State). Contains p.may (plain x) × (x.hash ≡ front.hash_at (hashes_of f.revisions) x.known)) same (k.one_of, k.hash)

    -- so it is never apart from the chain
    not_apart : (s : State) → HasState s old.disk.content → IsApart f d c s → ⊥
    not_apart s is (inl foreign) =
        let one = (found_in s is).0 in
        let meets : Meets d c (plain s) = subst (Meets d c) one.2 (part.may one.0 (plain s) one.1) in
        not_foreign d c (plain s) lawful meets foreign
    not_apart s is (inr other) = other (found_in s is).1

    -- ---- what the opening goes on with

    module _ (found : State) (is : HasState found old.disk.content) (taking : Option Taking) (r : Read) (role : Option Role) (g : StartStands sealed hashed seed f d c found taking r role) where
      abbrev taken : State
      taken = taken_by found taking

      abbrev after : State
      after = caught_by taken r

      known_is : after.known ≡ r.number
      known_is = ap (λ (j : Journal). j.known) g.resumes ∙ sym g.number

      read_hash : r.hash ≡ front.hash_at (hashes_of f.revisions) r.number
      read_hash = g.stands.remembers.hash_is ∙ same_hash f.revisions r.number (let le = g.stands.remembers.within in let e = chain_length sealed signed hashed seed names f c has in omega (arith, e, le))

      after_hash : after.hash ≡ front.hash_at (hashes_of f.revisions) after.known
      after_hash = elim (nat_le r.number taken.known) as (λ b. nat_le r.number taken.known ≡ b → after.hash ≡ front.hash_at (hashes_of f.revisions) after.known) [
        | true ↦ λ y. subst (λ (t : State). t.hash ≡ front.hash_at (hashes_of f.revisions) t.known) (sym (kept_up taken r y)) g.takes.hash
        | false ↦ λ y. subst (λ (t : State). t.hash ≡ front.hash_at (hashes_of f.revisions) t.known) (sym (head_up taken r y)) read_hash
      ] refl

      same_read : after.hash ≡ r.hash
      same_read = after_hash ∙ ap (front.hash_at (hashes_of f.revisions)) known_is ∙ sym read_hash

      after_kept : (may : List Journal) (image : List ℕ) → Contains may (resumed d c (plain found)) → HasState after image → IsKept (hashes_of f.revisions) may image
      after_kept may image one has = record { state = after; has = has; one_of = subst (Contains may) (sym g.resumes) one; hash = after_hash }

      taken_kept : (may : List Journal) (image : List ℕ) → Contains may (taken_over d c (plain found)) → HasState taken image → IsKept (hashes_of f.revisions) may image
      taken_kept may image one has = record { state = taken; has = has; one_of = subst (Contains may) (sym g.takes.same) one; hash = g.takes.hash }

      abbrev open_part : Option ℕ → Part
      open_part left = opened d c p (plain found) left

      session_stands : (left : Option ℕ) (shown : Tree) (s : Inside) → s ≡ started found taking r shown role → IsRunning s → SessionStands sealed signed hashed seed names f c s (open_part left)
      session_stands left shown s same running =
          let base : r.tree ≡ tree_at c (resumed d c (plain found)).known = g.stands.tree ∙ ap (tree_at c) g.number in
          let begun : IsRunning (started found taking r shown role) = subst IsRunning same running in
          subst (λ x. SessionStands sealed signed hashed seed names f c x (open_part left)) (sym same) (record {
            at = record { session = refl; journal_is = ap (λ k. k ∷ []) (sym g.resumes) };
            running = begun;
            base = base;
            shown = begun.shown ∙ ap (fold_ops after.queue) base;
            role = g.role_is ∙ ap (λ n. roles_at c n d) g.number;
            remembers = subst (λ n. Remembers sealed hashed seed f c n after.hash r.generation r.kept r.cache) (sym known_is) (subst (λ hash. Remembers sealed hashed seed f c r.number hash r.generation r.kept r.cache) (sym same_read) g.stands.remembers);
            held = subst (λ t. AllHold (Opens sealed hashed (known_in r.cache (get f.blocks)) (keys_to seed r.generation)) (look t) r.kept) (sym g.stands.tree) g.stands.remembers.held;
            written = λ op rest old queue one is. cc;
            ring = g.stands.ring;
            flight = refl;
            plan = refl;
            planned = λ x some. cc;
          })

      disk_stands : (now : Platter) → Resumes 9 after old.disk now → DiskStands f.revisions now (open_part now.left)
      disk_stands now w = record {
        images = λ image it. after_kept (resumed d c (plain found) ∷ []) image (0, omega arith, refl) (w.images image it);
        area = h.disk.area ∙ ap area_size (sym w.size);
        left = refl;
      }

    abbrev stopped : Part
    stopped = record p { may = p.may ++ (map (taken_over d c) p.may ++ map (resumed d c) p.may); left = Some 0 }

    in_old : (k : Journal) → Contains p.may k → Contains stopped.may k
    in_old k one = Contains-append_left p.may (map (taken_over d c) p.may ++ map (resumed d c) p.may) k one

    in_taken : (k : Journal) → Contains p.may k → Contains stopped.may (taken_over d c k)
    in_taken k one = Contains-append_right p.may (map (taken_over d c) p.may ++ map (resumed d c) p.may) (taken_over d c k) (Contains-append_left (map (taken_over d c) p.may) (map (resumed d c) p.may) (taken_over d c k) (contains_map (taken_over d c) p.may k one))

    in_resumed : (k : Journal) → Contains p.may k → Contains stopped.may (resumed d c k)
    in_resumed k one = Contains-append_right p.may (map (taken_over d c) p.may ++ map (resumed d c) p.may) (resumed d c k) (Contains-append_right (map (taken_over d c) p.may) (map (resumed d c) p.may) (resumed d c k) (contains_map (resumed d c) p.may k one))

    -- the disk stopped as the journal was opened
    finding_stands : (now : Platter) → StopsFinding old.disk now → DiskStands f.revisions now stopped
    finding_stands now s = record {
      images = λ image it. (let k = h.disk.images image (s.images image it) in record { state = k.state; has = k.has; one_of = in_old (plain k.state) k.one_of; hash = k.hash });
      area = h.disk.area ∙ ap (λ l. area_size (length l)) (sym s.content);
      left = sym s.ran_out.1;
    }

    -- or at a note
    resuming_stands : (now : Platter) (found : State) → HasState found old.disk.content → (taking : Option Taking) (r : Read) (role : Option Role) → StartStands sealed hashed seed f d c found taking r role
        → StopsResuming 9 found (taken_by found taking) (caught_by (taken_by found taking) r) old.disk now → DiskStands f.revisions now stopped
    resuming_stands now found is taking r role g s = record {
      images = λ image it. elim (s.images image it) [
        | inl has ↦ (let k = found_in found is in record { state = found; has = has; one_of = in_old (plain found) k.0; hash = k.1 })
        | inr (inl has) ↦ taken_kept found is taking r role g stopped.may image (in_taken (plain found) (found_in found is).0) has
        | inr (inr has) ↦ after_kept found is taking r role g stopped.may image (in_resumed (plain found) (found_in found is).0) has
      ];
      area = h.disk.area ∙ ap area_size (sym s.size);
      left = sym s.ran_out.1;
    }

    is_low : (k : ℕ) → k ≤ 9 → (l now : Option ℕ) → RanOut k l now → IsSomeAnd l (λ n. n < 9)
    is_low k le (Some n) now ran = (let lt = ran.0 in omega (arith, lt, le))
    is_low k le None now ran = absurd ran.0

    stops : (now : Platter) (k : ℕ) → k ≤ 9 → RanOut k old.disk.left now.left → is_member f d ≡ true → DiskStands f.revisions now stopped
        → (q : Part) × OpenStep d c p (Err says.OpenFault.Stopped) q × DeviceStands sealed signed hashed seed names d f c (record old { disk = now; inside = None }) q
    stops now k le ran member disk = (
      stopped,
      record { closed = is_closed; member = no_stranger member; low = subst (λ l. IsSomeAnd l (λ n. n < 9)) (sym h.disk.left) (is_low k le old.disk.left now.left ran); part = refl },
      stands_closed sealed signed hashed seed names d f c old p stopped now h disk is_closed,
    )

  -- ---- the answers

  module _ (now : Platter) where
    abbrev shut : Member
    shut = record old { disk = now; inside = None }

    lowers : (c : Chain) (p : Part) → DeviceStands sealed signed hashed seed names d f c old p → IsUnwritten old.disk now → (q : Part) × Lowered p q × DeviceStands sealed signed hashed seed names d f c shut q
    lowers c p h u =
        let q : Part = record p { left = now.left } in
        let closed = closed_at sealed signed hashed seed names d f c old p none h in (
          q,
          record { closed = closed; left = now.left; falls = subst (λ l. FallsBy 1 l now.left) (sym h.disk.left) u.left; part = refl },
          stands_closed sealed signed hashed seed names d f c old p q now h (record {
            images = λ image it. h.disk.images image (u.images image it);
            area = h.disk.area ∙ ap (λ l. area_size (length l)) (sym u.content);
            left = refl;
          }) closed,
        )

    pub open_fails : (why : OpenFault) → OpenFails sealed signed hashed f d old.secret old.disk now why → OpenAnswers sealed signed hashed seed names f old shut (Err why)
    open_fails fault.AlreadyOpen does = absurd does
    open_fails fault.NotMember does = λ c p lawful part has h. (
      p,
      (refl, is_closed c p lawful part has h, sym (role_here c p lawful part has h) ∙ none_of (role_at f.state.policy.0 d) does.1),
      stands_closed sealed signed hashed seed names d f c old p p now h (subst (λ (x : Platter). DiskStands f.revisions x p) (sym does.0) h.disk) (is_closed c p lawful part has h),
    )
    open_fails fault.Stopped (member, inl s) = λ c p lawful part has h. stops c p lawful part has h now 2 (omega arith) s.ran_out member (finding_stands c p lawful part has h now s)
    open_fails fault.Stopped (member, inr s) = λ c p lawful part has h.
        let g = s.so in
        stops c p lawful part has h now 9 (omega arith) g.disk_is.ran_out member (resuming_stands c p lawful part has h now s.found s.has g.taking g.read g.role (g.stands seed names c has h.secret) g.disk_is)
    open_fails fault.BadDisk does = λ c p lawful part has h. (let k = h.disk.images old.disk.content (record { size = refl; kept = λ place clean. refl }) in does.2 k.state k.has)
    open_fails (fault.Foreign known) does = λ c p lawful part has h. not_apart c p lawful part has h does.2.found does.2.has (does.2.so.1 seed names c has h.secret)
    open_fails (fault.BadFolder number) does = λ c p lawful part has h. does.2.so seed names c has h.secret
    open_fails fault.Memory does = λ c p h. lowers c p h does.1

    pub open_goes : (s : Inside) (status : Status) → is_member f d ≡ true → Begins sealed signed hashed f d old.secret old.disk now s → told_status status ≡ status_in s
        → OpenAnswers sealed signed hashed seed names f old (record old { disk = now; inside = Some s }) (Ok status)
    open_goes s status member b told = λ c p lawful part has h.
        let g = b.goes in
        let st = g.stands seed names c has h.secret in
        let q : Part = opened d c p (plain b.found) now.left in (
          q,
          record {
            closed = is_closed c p lawful part has h;
            member = no_stranger c p lawful part has h member;
            found = plain b.found;
            may = (found_in c p lawful part has h b.found b.has).0;
            status_is = told ∙ ap status_in b.session ∙ ap (status_of None) st.resumes;
            left = now.left;
            falls = subst (λ l. FallsBy 9 l now.left) (sym h.disk.left) g.disk_is.left;
            part = refl;
          },
          stands_with sealed signed hashed seed names d f c old p q now s h (disk_stands c p lawful part has h b.found b.has g.taking g.read g.role st now g.disk_is)
              (session_stands c p lawful part has h b.found b.has g.taking g.read g.role st now.left g.shown s b.session b.running),
        )
