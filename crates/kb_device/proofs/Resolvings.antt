-- What a settle over a link does is what the machine's settle does.
use Rattle.std.proofs.Common.{◌≡◌, ◌≢◌, ℕ, suc, ◌+◌, ◌<◌, ◌≤◌, true, false, List, [], ◌∷◌, ◌++◌, length, drop, take, Option, None, Some, Result, Ok, Err, inl, inr, refl, sym, ap, subst, ◌∙◌, arith, length-append}
use Rattle.std.specs.Prelude.{◌⊎◌, IsSomeAnd, Contains}
use Rattle.std.specs.Option.{option_map}
use Rattle.std.specs.FinMap.{get}
use Rattle.std.proofs.lemmas.List.{take_all}
use Rattle.sha2.specs.Sha256.{sha256}
use Rattle.kb_edge.specs.Disk.{FallsBy}
use Rattle.kb_edge.specs.declared.link.Side.{Side}
use Rattle.kb_edge.specs.declared.link.Side.TheVariants.{Request, Reply}
use Rattle.kb_log.specs.LogList.{area_size}
use Rattle.kb_name.specs.Names.{is_device_name}
use Rattle.kb_ops.specs.Trees.{Tree, look, fold_ops}
use Rattle.kb_rules.specs.declared.stamp.Stamp.{Stamp}
use Rattle.kb_rules.specs.declared.report.Report.{Report}
use Rattle.kb_rules.specs.Merge.{report}
use Rattle.kb_keys.specs.Policies.{role_at}
use Rattle.kb_keys.specs.Secrets.{device_secret, folder_key}
use Rattle.kb_files.specs.Opens.{Opens}
use Rattle.kb_snap.specs.Pointers.{AllHold}
use Rattle.kb_snap.specs.Builds.{OnceAllStored}
use Rattle.kb_journal.specs.State.{State, HasState, last_seq}
use Rattle.kb_snap.specs.Answers.{PutFault}
use Rattle.kb_snap.specs.Answers as folder_says
use Rattle.kb_snap.specs.Chains.{Revision, Chain, Merged, ops_of, tree_at, trees_of, merged_tree, stamp_of}
use Rattle.kb_snap.specs.Lawful.{IsLawful, Extends, AreFew, AreOf}
use Rattle.kb_snap.specs.Members.{roles_of, generation_from, generation_by, generation_of}
use Rattle.kb_snap.specs.Puts.{Ask, PutStep}
use Rattle.kb_snap.proofs.Chains.{tree_next, newest_is}
use Rattle.kb_chain.specs.declared.states.FolderRequest.{FolderRequest}
use Rattle.kb_chain.specs.declared.states.PutRefusal.{PutRefusal}
use Rattle.kb_chain.specs.declared.states.PutRefusal.TheVariants as why
use Rattle.kb_folder.specs.Chains.{Names}
use Rattle.kb_folder.specs.Stands.{Revisions, keys_to}
use Rattle.kb_folder.specs.Puts.{Held, Puts}
use Rattle.kb_folder.specs.Goes.{HasChain, IsFor, Grows, Means, PutsGo, PutsMean}
use Rattle.kb_folder.proofs.Goes.{lawful_chain}
use Rattle.kb_device.specs.Caches.{Cache, known_in, Takes}
use Rattle.kb_device.proofs.Shared.{known_there, known_taken, all_within}
use Rattle.kb_device.specs.Answers as says
use Rattle.kb_device.specs.Disks as front
use Rattle.kb_device.specs.Disks.{IsKept}
use Rattle.kb_device.specs.Fresh.{IdsEndAt, IsOwned}
use Rattle.kb_device.specs.Inside.{Plan, Inside, IsRunning}
use Rattle.kb_device.specs.Journals.{Journal, plain, taken}
use Rattle.kb_device.specs.Knowing.{KnowsFolder}
use Rattle.kb_device.specs.Links.{WhereTold, Carries, Loses, LinkAfter}
use Rattle.kb_device.specs.Meets.{Meets, SessionMeets, PartMeets}
use Rattle.kb_device.specs.Merging.{merge_plain, IsMergeRequest}
use Rattle.kb_device.specs.Noting.{Writes, Stops}
use Rattle.kb_device.specs.Parts.{Merger, IsMerger, Part, HasPlan, SettleStep, merge_ask, report_at, tree_shown, closed, ended}
use Rattle.kb_device.specs.Remembering.{Remembers}
use Rattle.kb_device.specs.Resolving.{merger_of, MaySettle, SettleGoes, Tells, SettleAnswers, StaysOwned}
use Rattle.kb_device.specs.Settling.{grown, resolved, with_merge, IsMergeOf, report_of, Asks, Settles, SettleBreaks, Drops, RequestLost, ReplyLost, Stays, Fills, SettleDoes, UnlessEnded, ends}
use Rattle.kb_device.specs.SettlesFor.{branch_at, SettlesAreFor}
use Rattle.kb_device.specs.Stands.{Platter, Member, PlanStands, hashes_of, DiskStands, SessionStands, DeviceStands}
use Rattle.kb_device.specs.declared.settled.SettleFault.{SettleFault}
use Rattle.kb_device.specs.declared.settled.SettleFault.TheVariants as fault
use Rattle.kb_device.proofs.Hashes.{same_hash, last_hash}
use Rattle.kb_device.proofs.Ids.{chain_ids, ids_more}
use Rattle.kb_device.proofs.Links.{told_same}
use Rattle.kb_device.proofs.Longer.{chain_length, hash_longer, closed_longer}
use Rattle.kb_device.proofs.MergedPointers.{left_hold}
use Rattle.kb_device.proofs.Notings.{stands_with, stands_closed}
use Rattle.kb_device.proofs.Owned.{landed_length}
use Rattle.kb_device.proofs.PartSteps.{at_session, at_journal}
use Rattle.kb_device.proofs.Picks.{inside_at, closed_at, ring_key, head_known}
use Rattle.kb_device.proofs.Puts.{settle_follows, settle_part}
use Rattle.kb_device.proofs.Remember.{taken as remembers_taken}

pub the_same : {A : Type 0} (x y : A) → Some x ≡ Some y → x ≡ y
the_same x y e = cc

-- what holds of two elements holds of them by other names
pub by_names : {A : Type 0} (P : A → A → Type 0) (s t u v : A) (o n : Option A) → o ≡ Some s → n ≡ Some t → o ≡ Some u → n ≡ Some v → P s t → P u v
by_names P s t u v o n os nt ou nv p =
    let a : s ≡ u = the_same s u (sym os ∙ ou) in
    let b : t ≡ v = the_same t v (sym nt ∙ nv) in
    subst (λ x. P x v) a (subst (λ y. P s y) b p)

-- a merge adds no key
merge_adds_none : (c : Chain) (g : ℕ) (y : Revision) → ((n : ℕ) → generation_by y.deed n ≡ n) → generation_from g (c ++ y ∷ []) ≡ generation_from g c
merge_adds_none [] g y none = none g
merge_adds_none (x ∷ c) g y none = merge_adds_none c (generation_by x.deed g) y none

-- a put that was refused leaves the chain
same_chain : (c : Chain) (ask : Ask) (refusal : PutFault) (c' : Chain) → PutStep c ask (Err refusal) c' → c' ≡ c
same_chain c ask folder_says.NotWriter c' step = step.1
same_chain c ask (folder_says.Stale len) c' step = step.3
same_chain c ask folder_says.ChainEnd c' step = step.2
same_chain c ask (folder_says.Collision id) c' step = step.2

-- what a refusal means is a refusal
refusal_of : (x : PutRefusal) (answer : Result ℕ PutFault) → (let r : Result ℕ PutRefusal = Err x in Means r answer) → (e : PutFault) × (answer ≡ Err e)
refusal_of why.NotWriter answer means = (folder_says.NotWriter, means)
refusal_of (why.Stale len head) answer means = (folder_says.Stale len, means)
refusal_of why.ChainEnd answer means = (folder_says.ChainEnd, means)
refusal_of (why.Collision id) answer means = (folder_says.Collision id, means)
refusal_of why.BadRevision answer means = absurd means
refusal_of why.BadSignature answer means = absurd means
refusal_of (why.SeqGap expected) answer means = absurd means
refusal_of why.BadFit answer means = absurd means
refusal_of why.Memory answer means = absurd means

drop_all : {A : Type 0} (xs : List A) → drop (length xs) xs ≡ []
drop_all [] = refl
drop_all (x ∷ xs) = drop_all xs

-- the device after it, whose session has ended where the link lost something or the disk stopped
abbrev member_of : Member → Inside → Platter → Result ℕ SettleFault → Member
member_of old t now (Err fault.LinkFault) = record old { disk = now; inside = None }
member_of old t now (Err fault.Stopped) = record old { disk = now; inside = None }
member_of old t now r = record old { disk = now; inside = Some t }

module _ (sealed signed : List ℕ → List ℕ → List ℕ) (hashed : List ℕ → List ℕ) (seed : List ℕ) (names : Names) (moment : ℕ) (f g : Held) (old : Member) (s : Inside) (was : old.inside ≡ Some s) (tree : Tree)
    (armed armed' : Option (Option Side)) (go : PutsGo sealed signed hashed seed names) (mean : PutsMean sealed signed hashed seed names) (law : SettlesAreFor sealed signed hashed seed names) where
  abbrev d : ℕ
  d = old.number

  abbrev by : Merger
  by = merger_of old moment

  -- the machine's settle with an answer of which this holds, after which the device is this one
  abbrev Gone : Chain → Part → (Result (ℕ × Report) says.SettleFault → Type 0) → Member → Type 0
  Gone c p Told new = (answer : Result (ℕ × Report) says.SettleFault) × (c' : Chain) × (q : Part) × Told answer × SettleStep d by c p answer c' q × Grows f g × HasChain sealed signed hashed seed names g c'
      × DeviceStands sealed signed hashed seed names d g c' new q × WhereTold armed armed' (λ was is. LinkAfter was answer is)

  module _ (c : Chain) (p : Part) (may : MaySettle sealed signed hashed seed names moment f old tree c p) where
    session : SessionStands sealed signed hashed seed names f c s p
    session = inside_at sealed signed hashed seed names d f c old p s was may.stands

    abbrev j : Journal
    j = plain s.journal

    ss : SessionMeets d c p j
    ss = at_session d c p j may.part session.at

    m : Meets d c j
    m = at_journal d c p j may.part session.at.journal_is

    module _ (t : Inside) (now : Platter) (answer : Result ℕ PutRefusal) (a : Asks sealed signed hashed f g d old.secret moment tree s old.disk t now answer) where
      abbrev x : Plan
      x = a.plan

      stands : PlanStands sealed hashed seed f c s.journal.known x
      stands = session.planned x a.planned

      plan_is : p.plan ≡ Some x.number
      plan_is = session.plan ∙ ap (option_map (λ (y : Plan). y.number)) a.planned

      has_plan : HasPlan p j x.number
      has_plan = record { at = session.at; plan_is = plan_is }

      few : AreFew (tree_at c x.number) (tree_shown p j)
      few = may.few j x.number has_plan

      low : 1 ≤ x.generation
      low = a.asked.made.is.rules.generation.0

      key_is : a.asked.key ≡ folder_key seed x.generation
      key_is = ring_key seed x.generation x.ring stands.ring low a.asked.key a.asked.keyed

      made : IsMergeRequest sealed signed hashed (device_secret seed d) (folder_key seed x.generation) x.generation (x.number + 1) x.hash (branch_at d moment j) tree a.asked.left a.request
      made = subst (λ k. IsMergeRequest sealed signed hashed (device_secret seed d) k x.generation (x.number + 1) x.hash (branch_at d moment j) tree a.asked.left a.request) key_is
          (subst (λ k. IsMergeRequest sealed signed hashed k a.asked.key x.generation (x.number + 1) x.hash (branch_at d moment j) tree a.asked.left a.request) may.stands.secret a.asked.made)

      abbrev stamp_with : List ℕ → Stamp
      stamp_with name = stamp_of (merge_plain name (branch_at d moment j)) 1 j.queue

      tree_is : tree ≡ merged_tree p.base (tree_at c x.number) (tree_shown p j) (stamp_with old.name)
      tree_is = may.merges s x was a.planned ∙ (λ i. merged_tree ((stands.base ∙ sym ss.base) i) (stands.merged i) (session.shown i) (stamp_with old.name))

      did_is : report_of d old.name moment s x ≡ report_at d by p c j x.number
      did_is = λ i. report ((stands.base ∙ sym ss.base) i) (stands.merged i) (session.shown i) (stamp_with old.name)

      -- the pointers that the merge leaves hold their rows in blocks that the plan's cache and the folder have
      left_held : AllHold (Opens sealed hashed (known_in x.cache (get f.blocks)) (keys_to seed x.generation)) (look tree) a.asked.left
      left_held = left_hold (Opens sealed hashed (known_in x.cache (get f.blocks)) (keys_to seed x.generation)) x.merged tree x.kept a.asked.left a.asked.leaves
          (subst (λ u. AllHold (Opens sealed hashed (known_in x.cache (get f.blocks)) (keys_to seed x.generation)) (look u) x.kept) (sym stands.merged) stands.remembers.held)

      knows : x.number ≡ length c → KnowsFolder sealed hashed seed f c x.generation x.hash tree a.asked.left
      knows end = record {
        head_is = stands.remembers.hash_is ∙ head_known f.revisions x.number (end ∙ chain_length sealed signed hashed seed names f c may.has);
        generation_is = stands.remembers.generation_is ∙ ap (generation_from 0) (take_all x.number c (omega (arith, end)));
        held = all_within sealed hashed (known_in x.cache (get f.blocks)) (get f.blocks) (keys_to seed x.generation) (look tree) a.asked.left (known_there x.cache (get f.blocks)) left_held;
      }

      abbrev ask : Ask
      ask = merge_ask d by j x.number

      is_for : IsFor sealed signed hashed seed names f a.request ask
      is_for = subst (λ n. IsFor sealed signed hashed seed names f a.request (merge_ask d (record { name = n; moment = moment; rule = 1 }) j x.number)) (sym may.stands.name)
          (law f c d moment x.number p j x.generation x.hash tree a.asked.left a.request may.has may.part has_plan (subst (λ n. is_device_name n ≡ true) may.stands.name may.merger.name) may.merger.moment may.stands.registered few
          (subst (λ n. tree ≡ merged_tree p.base (tree_at c x.number) (tree_shown p j) (stamp_with n)) may.stands.name tree_is) knows made)

      extends : Extends c ask
      extends next room = settle_follows d c by p j x.number may.part session.at plan_is next room may.lawful may.merger few

      went : (told : Result ℕ PutFault) → Means answer told → (c' : Chain) × PutStep c ask told c' × Grows f g × HasChain sealed signed hashed seed names g c'
      went told means = go f g a.request answer told a.put.0 means c ask may.lawful extends may.has is_for

    -- ---- it landed

    module _ (t : Inside) (now : Platter) (number : ℕ) (a : Asks sealed signed hashed f g d old.secret moment tree s old.disk t now (Ok number)) where
      abbrev n : ℕ
      n = a.plan.number + 1

      abbrev y : Revision
      y = (merge_ask d by j a.plan.number).revision

      abbrev longer : Chain
      longer = c ++ y ∷ []

      there : (c' : Chain) × PutStep c (merge_ask d by j a.plan.number) (Ok number) c' × Grows f g × HasChain sealed signed hashed seed names g c'
      there = went t now (Ok number) a (Ok number) refl

      number_is : number ≡ n
      number_is = there.1.2

      chain_is : there.0 ≡ longer
      chain_is = there.1.3

      step : PutStep c (merge_ask d by j a.plan.number) (Ok n) longer
      step = (there.1.0, there.1.1, refl, refl)

      has : HasChain sealed signed hashed seed names g longer
      has = subst (HasChain sealed signed hashed seed names g) chain_is there.3

      last : a.plan.number ≡ length c
      last = (let e = there.1.0.number in omega (arith, e))

      end : n ≡ length c + 1
      end = (let e = last in omega (arith, e))

      tree_now : tree ≡ tree_at longer n
      tree_now =
          tree_is t now (Ok number) a
          ∙ (λ i. merged_tree (ss.base i) ((ap (tree_at c) last ∙ sym (newest_is c)) i) (fold_ops j.queue (ss.base i)) (stamp_of y 1 j.queue))
          ∙ sym (tree_next c y)
          ∙ ap (tree_at longer) (sym end)

      generation_now : a.plan.generation ≡ generation_of longer
      generation_now =
          (stands t now (Ok number) a).remembers.generation_is ∙ ap (generation_from 0) (take_all a.plan.number c (let e = last in omega (arith, e)))
          ∙ sym (merge_adds_none c 0 y (λ k. refl))

      abbrev hash : List ℕ
      hash = sha256 a.request.revision

      remembers : Remembers sealed hashed seed g longer n hash a.plan.generation a.pointers a.cache
      remembers = subst (λ k. Remembers sealed hashed seed g longer k hash a.plan.generation a.pointers a.cache) (sym end)
          (remembers_taken sealed signed hashed seed names f g c y a.request number a.plan.generation tree a.asked.left a.pointers a.plan.cache a.cache may.has a.put.0 (tree_now ∙ ap (tree_at longer) end) generation_now (low t now (Ok number) a) a.takes
          (left_held t now (Ok number) a)
          (subst (λ k. OnceAllStored hashed sealed a.plan.generation k a.request.blocks (λ vault. AllHold vault (look tree) a.asked.left → AllHold vault (look tree) a.pointers)) (key_is t now (Ok number) a) a.asked.holds))

      bytes_is : g.revisions ≡ a.request.revision ∷ f.revisions
      bytes_is = a.put.0.revisions

      size : length c ≡ length f.revisions
      size = chain_length sealed signed hashed seed names f c may.has

      hash_now : hash ≡ front.hash_at (hashes_of g.revisions) n
      hash_now = sym (last_hash a.request.revision f.revisions) ∙ (λ i. front.hash_at (hashes_of (sym bytes_is i)) ((let e : suc (length f.revisions) ≡ n = (let l = last in let z = size in omega (arith, l, z)) in e) i))

      hash_was : s.journal.hash ≡ front.hash_at (hashes_of g.revisions) s.journal.known
      hash_was =
          let le : s.journal.known ≤ length f.revisions = (let w = m.within in let z = size in omega (arith, w, z)) in
          session.remembers.hash_is ∙ same_hash f.revisions s.journal.known le ∙ sym (ap (λ bs. front.hash_at (hashes_of bs) s.journal.known) bytes_is ∙ hash_longer a.request.revision f.revisions s.journal.known le)

      abbrev after : State
      after = resolved s.journal n hash

      registered : (1 ≤ d) × (d ≤ g.state.registered)
      registered = (may.stands.registered.0, grown there.2) where
        grown : Grows f g → d ≤ g.state.registered
        grown (inl e) = subst (λ (k : Held). d ≤ k.state.registered) (sym e) may.stands.registered.1
        grown (inr l) = subst (λ k. d ≤ k) (sym l.registered) may.stands.registered.1

      role_now : role_at g.state.policy.0 d ≡ roles_of longer d
      role_now = has.stands.policy.roles d ∙ ap (λ l. roles_of l d) (sym has.turned)

      abbrev settled_part : Option ℕ → Part
      settled_part left = record p { may = taken n (length j.queue) j ∷ []; plan = None; base = tree_at longer n; role = roles_of longer d; left = left }

      idle : s.aloft ≡ None
      idle = by_aloft s.aloft refl where
        by_aloft : (o : Option _) → s.aloft ≡ o → s.aloft ≡ None
        by_aloft None e = e
        by_aloft (Some x) e = (let marked = (ss.plan a.plan.number (plan_is t now (Ok number) a)).0 in let clear = (session.running.aloft x e).clear in let no : true ≡ false = sym marked ∙ clear in cc)

      settled_session : (left : Option ℕ) → IsRunning (with_merge s (grown a.plan a.cache) tree a.pointers hash (role_at g.state.policy.0 d)) → SessionStands sealed signed hashed seed names g longer (with_merge s (grown a.plan a.cache) tree a.pointers hash (role_at g.state.policy.0 d)) (settled_part left)
      settled_session left running = record {
        at = record { session = session.at.session; journal_is = refl };
        running = running;
        base = tree_now;
        shown = running.shown ∙ ap (fold_ops after.queue) tree_now;
        role = role_now;
        remembers = remembers;
        held = subst (λ u. AllHold (Opens sealed hashed (known_in a.cache (get g.blocks)) (keys_to seed a.plan.generation)) (look u) a.pointers) (sym tree_now) remembers.held;
        written = λ op rest old queue one is. cc;
        ring = (stands t now (Ok number) a).ring;
        flight = session.flight ∙ ap (option_map (λ (z : _). z.flight)) idle;
        plan = refl;
        planned = λ z is. cc;
      }

      disk_after : Writes after old.disk now → DiskStands g.revisions now (settled_part now.left)
      disk_after w = record {
        images = λ image it. record { state = after; has = w.images image it; one_of = (0, omega arith, refl); hash = hash_now };
        area = may.stands.disk.area ∙ ap area_size (sym w.size);
        left = refl;
      }

      abbrev broken : Part
      broken = record (ended p) { may = j ∷ taken n (length j.queue) j ∷ [] }

      disk_broken : Stops s.journal after old.disk now → DiskStands g.revisions now broken
      disk_broken w = record {
        images = λ image it. elim (w.images image it) [
          | inl is ↦ record { state = s.journal; has = is; one_of = (0, omega arith, refl); hash = hash_was }
          | inr is ↦ record { state = after; has = is; one_of = (1, omega arith, refl); hash = hash_now }
        ];
        area = may.stands.disk.area ∙ ap area_size (sym w.size);
        left = sym w.ran_out.1;
      }

      device_after : (q : Part) (u : Inside) → DiskStands g.revisions now q → SessionStands sealed signed hashed seed names g longer u q → DeviceStands sealed signed hashed seed names d g longer (record old { disk = now; inside = Some u }) q
      device_after q u disk inside = record { number = refl; name = may.stands.name; secret = may.stands.secret; registered = registered; disk = disk; session = inside }

      device_closed : (q : Part) → DiskStands g.revisions now q → q.is_open ≡ false → DeviceStands sealed signed hashed seed names d g longer (record old { disk = now; inside = None }) q
      device_closed q disk closed = record { number = refl; name = may.stands.name; secret = may.stands.secret; registered = registered; disk = disk; session = closed }

      pub settles_go : (role_is : t ≡ with_merge s (grown a.plan a.cache) tree a.pointers hash (role_at g.state.policy.0 d)) → Writes after old.disk now → IsRunning t → Carries armed armed'
          → Gone c p (Tells sealed signed hashed seed names moment f old tree g (record old { disk = now; inside = Some t }) armed armed' (Ok n)) (record old { disk = now; inside = Some t })
      settles_go same w running link = (
        Ok (n, report_at d by p c j a.plan.number),
        longer,
        settled_part now.left,
        (s, a.plan, was, a.planned, ap (λ did. Ok (n, did)) (sym (did_is t now (Ok number) a))),
        record { journal = j; plan = a.plan.number; planned = has_plan t now (Ok number) a; put = step; report = refl; left = now.left; falls = subst (λ l. FallsBy 4 l now.left) (sym may.stands.disk.left) w.left; part = refl },
        there.2,
        has,
        device_after (settled_part now.left) t (disk_after w) (subst (λ u. SessionStands sealed signed hashed seed names g longer u (settled_part now.left)) (sym same) (settled_session now.left (subst IsRunning same running))),
        link,
      )

      pub settle_breaks : Stops s.journal after old.disk now → Carries armed armed' → Gone c p (λ answer. answer ≡ Err says.SettleFault.Stopped) (record old { disk = now; inside = None })
      settle_breaks w link = (
        Err says.SettleFault.Stopped,
        longer,
        broken,
        refl,
        record { journal = j; plan = a.plan.number; planned = has_plan t now (Ok number) a; put = step; low = subst (λ l. IsSomeAnd l (λ k. k < 4)) (sym may.stands.disk.left) w.ran_out.0; part = refl },
        there.2,
        has,
        device_closed broken (disk_broken w) refl,
        link,
      )

      -- no id of the merge is a later one of the device
      pub merge_fresh : IdsEndAt d (last_seq s.journal) tree
      merge_fresh = subst (IdsEndAt d (last_seq s.journal)) (sym tree_now)
          (ids_more d (length (ops_of d longer)) (last_seq s.journal) (tree_at longer n) (low_ops (landed_length d longer (taken n (length j.queue) j) (after_meets)))
          (chain_ids d longer n may.stands.registered.0 lawful_longer (let e = end in let l = length-append c (y ∷ []) in omega (arith, e, l))))
        where
          part_after : PartMeets d longer (settled_part None)
          part_after = settle_part d c by p j a.plan.number may.part session.at (plan_is t now (Ok number) a) step.0 step.1 None

          after_meets : Meets d longer (taken n (length j.queue) j)
          after_meets = part_after.may 0 (taken n (length j.queue) j) (omega arith)

          low_ops : length (ops_of d longer) ≤ s.journal.base + length s.journal.queue + length (drop (length s.journal.queue) s.journal.queue) → length (ops_of d longer) ≤ last_seq s.journal
          low_ops le = (let none = ap length (drop_all s.journal.queue) in omega (arith, le, none))

          lawful_longer : IsLawful longer
          lawful_longer = lawful_chain sealed signed hashed seed names g longer has

    -- ---- nothing changed

    unchanged : (t : Inside) (now : Platter) → g ≡ f → t ≡ s → now ≡ old.disk → DeviceStands sealed signed hashed seed names d g c (record old { disk = now; inside = Some t }) p
    unchanged t now folder same disk =
        let h = may.stands in
        let here = stands_with sealed signed hashed seed names d f c old p p now t h (subst (λ (x : Platter). DiskStands f.revisions x p) (sym disk) h.disk) (subst (λ u. SessionStands sealed signed hashed seed names f c u p) (sym same) session) in
        subst (λ (k : Held). DeviceStands sealed signed hashed seed names d k c (record old { disk = now; inside = Some t }) p) (sym folder) here

    has_still : g ≡ f → HasChain sealed signed hashed seed names g c
    has_still folder = subst (λ (k : Held). HasChain sealed signed hashed seed names k c) (sym folder) may.has

    -- ---- the link lost it

    lost_stands : (now : Platter) → now ≡ old.disk → Grows f g → (c' : Chain) → DeviceStands sealed signed hashed seed names d g c' (record old { disk = now; inside = None }) (closed p)
    lost_stands now same grows c' = closed_longer sealed signed hashed seed names d f g c c p grows may.has may.part c' old now same may.stands

    pub request_goes : (t : Inside) (now : Platter) → RequestLost sealed signed hashed f g d old.secret moment tree s old.disk t now → Loses Request armed armed'
        → Gone c p (λ answer. (lost : Option (Result ℕ PutFault)) × (answer ≡ Err (says.LinkFault lost))) (record old { disk = now; inside = None })
    request_goes t now lost link = (
      Err (says.LinkFault None),
      c,
      closed p,
      (None, refl),
      record { journal = j; plan = lost.plan.number; planned = record { at = session.at; plan_is = session.plan ∙ ap (option_map (λ (z : Plan). z.number)) lost.planned }; put = refl; part = refl },
      inl lost.folder,
      has_still lost.folder,
      lost_stands now lost.disk (inl lost.folder) c,
      link,
    )

    pub reply_goes : (t : Inside) (now : Platter) → ReplyLost sealed signed hashed f g d old.secret moment tree s old.disk t now → Loses Reply armed armed'
        → Gone c p (λ answer. (lost : Option (Result ℕ PutFault)) × (answer ≡ Err (says.LinkFault lost))) (record old { disk = now; inside = None })
    reply_goes t now lost link =
        let a = lost.asks in
        let told = mean f g c a.request (merge_ask d by j a.plan.number) lost.answer may.has (is_for t now lost.answer a) a.put.0 a.put.1 in
        let there = went t now lost.answer a told.0 told.1 in (
          Err (says.LinkFault (Some told.0)),
          there.0,
          closed p,
          (Some told.0, refl),
          record { journal = j; plan = a.plan.number; planned = has_plan t now lost.answer a; put = there.1; part = refl },
          there.2,
          there.3,
          lost_stands now lost.disk there.2 there.0,
          link,
        )

    -- ---- it was refused

    pub drops_go : (t : Inside) (now : Platter) (refusal : PutRefusal) → Drops sealed signed hashed f g d old.secret moment tree s old.disk t now refusal → IsRunning t → Carries armed armed'
        → Gone c p (λ answer. (e : PutFault) × (let r : Result ℕ PutRefusal = Err refusal in Means r (Err e)) × (answer ≡ Err (says.SettleFault.ByPut e))) (record old { disk = now; inside = Some t })
    drops_go t now refusal does running link =
        let a = does.asks in
        let told = mean f g c a.request (merge_ask d by j a.plan.number) (Err refusal) may.has (is_for t now (Err refusal) a) a.put.0 a.put.1 in
        let e = refusal_of refusal told.0 told.1 in
        let means = subst (λ (o : Result ℕ PutFault). (let r : Result ℕ PutRefusal = Err refusal in Means r o)) e.1 told.1 in
        let there = went t now (Err refusal) a (Err e.0) means in
        let chain = same_chain c (merge_ask d by j a.plan.number) e.0 there.0 there.1 in
        let folder : g ≡ f = a.put.0.1 in
        let h = may.stands in
        let q : Part = record p { plan = None } in
        let begun : IsRunning (record s { plan = None }) = subst IsRunning does.session running in
        let here = stands_with sealed signed hashed seed names d f c old p q now t h (subst (λ (x : Platter). DiskStands f.revisions x q) (sym does.disk) (record { images = h.disk.images; area = h.disk.area; left = h.disk.left }))
        (subst (λ u. SessionStands sealed signed hashed seed names f c u q) (sym does.session) (record {
          at = record { session = session.at.session; journal_is = session.at.journal_is };
          running = begun;
          base = session.base;
          shown = session.shown;
          role = session.role;
          remembers = session.remembers;
          held = session.held;
          written = session.written;
          ring = session.ring;
          flight = session.flight;
          plan = refl;
          planned = λ z is. cc;
        })) in (
          Err (says.SettleFault.ByPut e.0),
          c,
          q,
          (e.0, means, refl),
          record { journal = j; plan = a.plan.number; planned = has_plan t now (Err refusal) a; put = subst (λ l. PutStep c (merge_ask d by j a.plan.number) (Err e.0) l) chain there.1; part = refl },
          inl folder,
          has_still folder,
          subst (λ (k : Held). DeviceStands sealed signed hashed seed names d k c (record old { disk = now; inside = Some t }) q) (sym folder) here,
          link,
        )

    pub no_plan_goes : (t : Inside) (now : Platter) → Stays sealed signed hashed f g d old.secret moment tree s old.disk t now → s.plan ≡ None → armed' ≡ armed → Gone c p (λ answer. answer ≡ Err says.NoPlan) (record old { disk = now; inside = Some t })
    no_plan_goes t now stays none same = (
      Err says.NoPlan,
      c,
      p,
      refl,
      (refl, refl, session.at.session, session.plan ∙ ap (option_map (λ (z : Plan). z.number)) none),
      inl stays.folder,
      has_still stays.folder,
      unchanged t now stays.folder stays.session stays.disk,
      told_same armed armed' same,
    )

  -- the plan's cache took some blocks
  filled_session : (f : Held) (c : Chain) (p : Part) (x : Plan) → s.plan ≡ Some x → (made : List (List ℕ)) (cache : Cache) → Takes hashed x.cache made cache → IsRunning (record s { plan = Some (grown x cache) }) → SessionStands sealed signed hashed seed names f c s p
      → SessionStands sealed signed hashed seed names f c (record s { plan = Some (grown x cache) }) p
  filled_session f c p x planned made cache takes running session =
      let y = session.planned x planned in
      let r = y.remembers in
      record {
        at = record { session = session.at.session; journal_is = session.at.journal_is };
        running = running;
        base = session.base;
        shown = session.shown;
        role = session.role;
        remembers = session.remembers;
        held = session.held;
        written = session.written;
        ring = session.ring;
        flight = session.flight;
        plan = session.plan ∙ ap (option_map (λ (z : Plan). z.number)) planned;
        planned = λ z is. subst (PlanStands sealed hashed seed f c s.journal.known) (let e : Some (grown x cache) ≡ Some z = is in let same : grown x cache ≡ z = cc in same) (record {
          merged = y.merged;
          remembers = record {
            within = r.within;
            hash_is = r.hash_is;
            generation_is = r.generation_is;
            held = all_within sealed hashed (known_in x.cache (get f.blocks)) (known_in cache (get f.blocks)) (keys_to seed x.generation) (look (tree_at c x.number)) x.kept (known_taken hashed x.cache cache made (get f.blocks) takes) r.held;
          };
          ring = y.ring;
          base = y.base;
          ops = y.ops;
          plain = y.plain;
        });
      }

  -- ---- the answers

  -- want of memory leaves what the device stands for
  stays_on : (t : Inside) (now : Platter) → Stays sealed signed hashed f g d old.secret moment tree s old.disk t now ⊎ Fills sealed signed hashed f g d old.secret moment tree s old.disk t now → IsRunning t
      → (g ≡ f) × ((c : Chain) (p : Part) → DeviceStands sealed signed hashed seed names d f c old p → DeviceStands sealed signed hashed seed names d f c (record old { disk = now; inside = Some t }) p)
  stays_on t now (inr does) running = (
    does.folder,
    λ c p h.
        let session = inside_at sealed signed hashed seed names d f c old p s was h in
        stands_with sealed signed hashed seed names d f c old p p now t h (subst (λ (x : Platter). DiskStands f.revisions x p) (sym does.disk) h.disk)
        (subst (λ u. SessionStands sealed signed hashed seed names f c u p) (sym does.session) (filled_session f c p does.plan does.planned does.made does.cache does.takes (subst IsRunning does.session running) session)),
  )
  stays_on t now (inl does) running = (
    does.folder,
    λ c p h.
        let session = inside_at sealed signed hashed seed names d f c old p s was h in
        stands_with sealed signed hashed seed names d f c old p p now t h (subst (λ (x : Platter). DiskStands f.revisions x p) (sym does.disk) h.disk) (subst (λ u. SessionStands sealed signed hashed seed names f c u p) (sym does.session) session),
  )

  pub settle_answers : (t : Inside) (now : Platter) (r : Result ℕ SettleFault) → SettleDoes sealed signed hashed f g d old.secret moment tree s old.disk t now armed armed' r → UnlessEnded r (IsRunning t)
      → SettleAnswers sealed signed hashed seed names moment f old tree g (member_of old t now r) armed armed' r
  settle_answers t now (Ok n) does running = λ c p may.
      let h = does.0 in
      let went = settles_go c p may t now h.number h.asks h.session (subst (λ k. Writes (resolved s.journal k (sha256 h.asks.request.revision)) old.disk now) h.n_is h.disk) running does.1 in
      let told = went.3 in
      (went.0, went.1, went.2, (told.0, told.1, told.2, told.3, told.4 ∙ ap (λ k. Ok (k, report_of d old.name moment told.0 told.1)) (sym h.n_is)), went.4, went.5, went.6, went.7, went.8)
  settle_answers t now (Err fault.Closed) does running = absurd does
  settle_answers t now (Err fault.NoPlan) does running = λ c p may. no_plan_goes c p may t now does.0 does.1 does.2
  settle_answers t now (Err fault.Memory) does running = (let there = stays_on t now does.0 running in (there.0, there.1, does.1))
  settle_answers t now (Err fault.LinkFault) (inl does) running = λ c p may. request_goes c p may t now does.0 does.1
  settle_answers t now (Err fault.LinkFault) (inr does) running = λ c p may. reply_goes c p may t now does.0 does.1
  settle_answers t now (Err (fault.ByPut refusal)) does running = λ c p may. drops_go c p may t now refusal does.0 running does.1
  settle_answers t now (Err fault.Stopped) does running = λ c p may. settle_breaks c p may t now does.0.number does.0.asks (subst (λ k. Stops s.journal (resolved s.journal (does.0.asks.plan.number + 1) k) old.disk now) refl does.0.disk) does.1

  -- where the session owned its queue, it still does
  pub settle_owned : (t : Inside) (now : Platter) (r : Result ℕ SettleFault) → SettleDoes sealed signed hashed f g d old.secret moment tree s old.disk t now armed armed' r → (c : Chain) (p : Part) → MaySettle sealed signed hashed seed names moment f old tree c p → IsOwned d s → UnlessEnded r (IsOwned d t)
  settle_owned t now (Ok n) does c p may owned =
      let gone = drop_all s.journal.queue in
      let none = ap length gone in
      let last : last_seq s.journal ≡ s.journal.base + length s.journal.queue + length (drop (length s.journal.queue) s.journal.queue) = omega (arith, none) in
      subst (IsOwned d) (sym does.0.session) (record {
        own = subst (AreOf d) (sym gone) tt;
        fresh = subst (λ k. IdsEndAt d k tree) last (merge_fresh c p may t now does.0.number does.0.asks);
      })
  settle_owned t now (Err fault.Closed) does c p may owned = absurd does
  settle_owned t now (Err fault.NoPlan) does c p may owned = subst (IsOwned d) (sym does.0.session) owned
  settle_owned t now (Err fault.Memory) does c p may owned = still does.0 where
    still : Stays sealed signed hashed f g d old.secret moment tree s old.disk t now ⊎ Fills sealed signed hashed f g d old.secret moment tree s old.disk t now → IsOwned d t
    still (inl h) = subst (IsOwned d) (sym h.session) owned
    still (inr h) = subst (IsOwned d) (sym h.session) (record { own = owned.own; fresh = owned.fresh })
  settle_owned t now (Err fault.LinkFault) does c p may owned = tt
  settle_owned t now (Err (fault.ByPut refusal)) does c p may owned = subst (IsOwned d) (sym does.0.session) (record { own = owned.own; fresh = owned.fresh })
  settle_owned t now (Err fault.Stopped) does c p may owned = tt

after_on : (old : Member) (t : Inside) (now : Platter) (r : Result ℕ SettleFault) → ends r ≡ false → member_of old t now r ≡ record old { disk = now; inside = Some t }
after_on old t now (Ok n) on = refl
after_on old t now (Err fault.Closed) on = refl
after_on old t now (Err fault.NoPlan) on = refl
after_on old t now (Err fault.Memory) on = refl
after_on old t now (Err fault.LinkFault) on = cc
after_on old t now (Err (fault.ByPut refusal)) on = refl
after_on old t now (Err fault.Stopped) on = cc

after_stop : (old : Member) (t : Inside) (now : Platter) (r : Result ℕ SettleFault) → ends r ≡ true → member_of old t now r ≡ record old { disk = now; inside = None }
after_stop old t now (Ok n) on = cc
after_stop old t now (Err fault.Closed) on = cc
after_stop old t now (Err fault.NoPlan) on = cc
after_stop old t now (Err fault.Memory) on = cc
after_stop old t now (Err fault.LinkFault) on = refl
after_stop old t now (Err (fault.ByPut refusal)) on = cc
after_stop old t now (Err fault.Stopped) on = refl

pub unless : (r : Result ℕ SettleFault) (P : Type 0) → ends r ≡ false → UnlessEnded r P → P
unless (Ok n) P on h = h
unless (Err fault.Closed) P on h = h
unless (Err fault.NoPlan) P on h = h
unless (Err fault.Memory) P on h = h
unless (Err fault.LinkFault) P on h = cc
unless (Err (fault.ByPut refusal)) P on h = h
unless (Err fault.Stopped) P on h = cc

module _ (sealed signed : List ℕ → List ℕ → List ℕ) (hashed : List ℕ → List ℕ) (seed : List ℕ) (names : Names) (moment : ℕ) (f g : Held) (old : Member) (tree : Tree) (armed armed' : Option (Option Side)) where
  pub closed_settle : g ≡ f → old.inside ≡ None → armed' ≡ armed → SettleAnswers sealed signed hashed seed names moment f old tree g old armed armed' (Err fault.Closed)
  closed_settle same none link = λ c p may. (
    Err says.SettleFault.Closed,
    c,
    p,
    refl,
    (refl, refl, closed_at sealed signed hashed seed names old.number f c old p none may.stands),
    inl same,
    subst (λ (k : Held). HasChain sealed signed hashed seed names k c) (sym same) may.has,
    subst (λ (k : Held). DeviceStands sealed signed hashed seed names old.number k c old p) (sym same) may.stands,
    told_same armed armed' link,
  )

  -- a settle of a session of the device with this number and secret, on this disk
  module _ (s t : Inside) (was : old.inside ≡ Some s) (d : ℕ) (secret : List ℕ) (disk now : Platter) (number_is : old.number ≡ d) (secret_is : old.secret ≡ secret) (disk_is : old.disk ≡ disk) (r : Result ℕ SettleFault)
      (does : SettleDoes sealed signed hashed f g d secret moment tree s disk t now armed armed' r) where
    did : SettleDoes sealed signed hashed f g old.number old.secret moment tree s old.disk t now armed armed' r
    did = subst (λ n. SettleDoes sealed signed hashed f g n old.secret moment tree s old.disk t now armed armed' r) (sym number_is) (subst (λ k. SettleDoes sealed signed hashed f g d k moment tree s old.disk t now armed armed' r) (sym secret_is)
        (subst (λ (x : Platter). SettleDoes sealed signed hashed f g d secret moment tree s x t now armed armed' r) (sym disk_is) does))

    module _ (go : PutsGo sealed signed hashed seed names) (mean : PutsMean sealed signed hashed seed names) (law : SettlesAreFor sealed signed hashed seed names) where
      gone : UnlessEnded r (IsRunning t) → SettleAnswers sealed signed hashed seed names moment f old tree g (member_of old t now r) armed armed' r
      gone running = settle_answers sealed signed hashed seed names moment f g old s was tree armed armed' go mean law t now r did running

      pub settles_on : UnlessEnded r (IsRunning t) → ends r ≡ false → SettleAnswers sealed signed hashed seed names moment f old tree g (record old { disk = now; inside = Some t }) armed armed' r
      settles_on running on = subst (λ (w : Member). SettleAnswers sealed signed hashed seed names moment f old tree g w armed armed' r) (after_on old t now r on) (gone running)

      pub settles_stop : UnlessEnded r (IsRunning t) → ends r ≡ true → SettleAnswers sealed signed hashed seed names moment f old tree g (record old { disk = now; inside = None }) armed armed' r
      settles_stop running on = subst (λ (w : Member). SettleAnswers sealed signed hashed seed names moment f old tree g w armed armed' r) (after_stop old t now r on) (gone running)

      pub settles_owned : (c : Chain) (p : Part) → MaySettle sealed signed hashed seed names moment f old tree c p → IsOwned d s → ends r ≡ false → IsOwned d t
      settles_owned c p may owned on = unless r (IsOwned d t) on (subst (λ n. UnlessEnded r (IsOwned n t)) number_is (settle_owned sealed signed hashed seed names moment f g old s was tree armed armed' go mean law t now r did c p may (subst (λ n. IsOwned n s) (sym number_is) owned)))
