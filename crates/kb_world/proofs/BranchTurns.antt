-- A declared device fetches, and resolves its branch.
use Rattle.std.proofs.Common.{◌≡◌, ◌⊎◌, ℕ, ◌+◌, ◌≤◌, ◌<◌, Bool, true, false, List, [], ◌∷◌, length, Option, Some, None, Result, Ok, Err, inl, inr, refl, sym, ap, ◌∙◌, subst, arith}
use Rattle.std.specs.Option.{option_map, ForSome}
use Rattle.kb_edge.specs.declared.disk.Disk.{Ghosts}
use Rattle.kb_seal.specs.declared.sealer.Sealer.{Ghosts as Seals}
use Rattle.kb_blocks.specs.declared.hashing.BlockHash.{Ghosts as Hashes}
use Rattle.kb_name.specs.Names.{is_device_name}
use Rattle.kb_name.specs.Moments.{last_second}
use Rattle.kb_ops.specs.Trees.{Tree}
use Rattle.kb_rules.specs.declared.stamp.Stamp.{Stamp}
use Rattle.kb_rules.specs.declared.report.Report.{Report}
use Rattle.kb_rules.specs.Meet.{Meet}
use Rattle.kb_rules.specs.Merge.{splits, merge, report}
use Rattle.kb_resolver.specs.Branches.{Lead}
use Rattle.kb_journal.specs.State.{last_seq}
use Rattle.kb_chain.specs.declared.states.PutRefusal.{PutRefusal}
use Rattle.kb_snap.specs.Answers.{PutFault}
use Rattle.kb_snap.specs.Chains.{Chain, merged_tree, seq_of_last}
use Rattle.kb_snap.specs.Lawful.{IsLawful}
use Rattle.kb_snap.proofs.MadeIds.{last_counts}
use Rattle.kb_folder.specs.Chains.{Names}
use Rattle.kb_folder.specs.Puts.{Held}
use Rattle.kb_folder.specs.Goes.{HasChain, Grows, Means}
use Rattle.kb_device.specs.Answers as says
use Rattle.kb_device.specs.Journals.{Journal, plain}
use Rattle.kb_device.specs.Meets.{Meets, SessionMeets, PartMeets, FlightMeets}
use Rattle.kb_device.specs.Waits.{Waiting, Nothing, Asked, Answered, waiting_if, WaitingMeets}
use Rattle.kb_device.specs.Parts.{Flight, Part, IsOpenAt, Merger, IsMerger, FetchStep, SettleStep}
use Rattle.kb_device.specs.Inside.{Plan, Inside}
use Rattle.kb_device.specs.Stands as inner
use Rattle.kb_device.specs.Stands.{DeviceStands, SessionStands}
use Rattle.kb_device.specs.Devices.{IsView, Runs}
use Rattle.kb_device.specs.Settling.{stamp_in, IsMergeOf, report_of}
use Rattle.kb_device.specs.Resolving.{merger_of, MaySettle, SettleGoes, SettleAnswers}
use Rattle.kb_device.specs.Fetching.{FetchGoes, FetchAnswers}
use Rattle.kb_device.specs.Lending.{Lends, LendsBranch}
use Rattle.kb_device.specs.Links.{LinkAfter}
use Rattle.kb_device.specs.Telling.{Tells}
use Rattle.kb_device.specs.declared.called.Status.{Status}
use Rattle.kb_device.specs.declared.lent.Branch.{Branch}
use Rattle.kb_device.specs.Serving.{WaitsOn}
use Rattle.kb_device.specs.declared.fetched.FetchFault.{FetchFault}
use Rattle.kb_device.specs.declared.fetched.FetchFault.TheVariants as fetch
use Rattle.kb_device.specs.declared.settled.SettleFault.{SettleFault}
use Rattle.kb_device.specs.declared.settled.SettleFault.TheVariants as settle
use Rattle.kb_device.proofs.PartSteps.{at_session, at_journal}
use Rattle.kb_device.proofs.Picks.{inside_at, closed_at}
use Rattle.kb_world.specs.Statements.{ByFetch}
use Rattle.kb_world.specs.Machine.{Member, Does, went}
use Rattle.kb_world.specs.Good.{MemberMeets}
use Rattle.kb_world.specs.Standing.{DeclaredStands, WaitsFor}
use Rattle.kb_world.specs.Branching.{FetchTurns, MayMerge, stamp_at, IsResolved, Resolved, IsSettling, SettledBy, SettleSteps, SettleTurns, HasFewRows}
use Rattle.kb_world.specs.declared.declared.Declared.{Declared}
use Rattle.kb_world.specs.declared.branches.Resolution.{Resolution}
use Rattle.kb_world.specs.declared.declared.Waiting as waits
use Rattle.kb_world.specs.declared.declared.Waiting.TheVariants as kept
use Rattle.kb_world.proofs.Waits.{waiting_open, waits_on}

-- a planned branch has no flight
unflown : (d : ℕ) (c : Chain) (j : Journal) (o : Option Flight) → j.mark ≡ true → FlightMeets d c j o → o ≡ None
unflown d c j None marked h = refl
unflown d c j (Some flight) marked h = absurd (let clash : true ≡ false = sym marked ∙ h.clear in cc)

-- so nothing waits
nothing_waits : (d : ℕ) (c : Chain) (name : List ℕ) (p : Part) (w : Waiting) → WaitingMeets d c name p w → p.flight ≡ None → w ≡ Nothing
nothing_waits d c name p Nothing h none = refl
nothing_waits d c name p (Asked ask) h none = absurd (let clash : Some h.flight ≡ None = sym h.flight_is ∙ none in cc)
nothing_waits d c name p (Answered answer) h none = absurd (let clash : Some h.flight ≡ None = sym h.flight_is ∙ none in cc)

session_of : (a b : Inside) → Some a ≡ Some b → a ≡ b
session_of a b e = cc

plan_once : (s : Inside) (x y : Plan) → s.plan ≡ Some x → s.plan ≡ Some y → x ≡ y
plan_once s x y one other = cc

merges_so : (b m u : Tree) (stamp : Stamp) → merge b m u stamp ≡ merged_tree b m u stamp
unfolding merged_tree
merges_so b m u stamp = refl

still_nothing : (b : Bool) (w : Waiting) → w ≡ Nothing → waiting_if b w ≡ Nothing
still_nothing true w none = none
still_nothing false w none = refl

-- what a settle answers, with the report of its merge
abbrev pub with_report : Report → Result ℕ SettleFault → Result (ℕ × Report) SettleFault
with_report did (Ok n) = Ok (n, did)
with_report did (Err fault) = Err fault

module _ {D S H : Type 0} {disks : Ghosts D} {sealers : Seals S} {hashes : Hashes H} (seed : List ℕ) (names : Names) (d : ℕ) (f g : Held) (c : Chain) (x y : Declared D S H disks sealers hashes) (m : Member) (moment : ℕ) (timed : moment ≤ last_second) (lawful : IsLawful c) (meets : MemberMeets d c m)
    (few : HasFewRows c m.part) (chain : HasChain sealers.sealed sealers.signed hashes.hashed seed names f c) (h : DeclaredStands seed names d f c x m) where
  abbrev v : inner.Member
  v = h.view

  abbrev by : Merger
  by = record { name = m.name; moment = moment; rule = 1 }

  -- the device went on to this member, at this chain, by this answer
  abbrev Goes : Result (ℕ × Report) SettleFault → Type 0
  Goes r = (n : Member) × (c' : Chain) × SettleSteps moment r d c m n c' × HasChain sealers.sealed sealers.signed hashes.hashed seed names g c' × Grows f g × DeclaredStands seed names d g c' y n

  number : v.number ≡ d
  number = h.part.number

  its_name : v.name ≡ m.name
  its_name = h.part.name ∙ sym h.named

  own_name : x.name ≡ v.name
  own_name = h.name ∙ sym h.part.name

  module _ (s : Inside) (p : Plan) (inside : v.inside ≡ Some s) (planned : s.plan ≡ Some p) where
    session : SessionStands sealers.sealed sealers.signed hashes.hashed seed names f c s m.part
    session = inside_at sealers.sealed sealers.signed hashes.hashed seed names d f c v m.part s inside h.part

    abbrev j : Journal
    j = plain s.journal

    ss : SessionMeets d c m.part j
    ss = at_session d c m.part j meets.part session.at

    mj : Meets d c j
    mj = at_journal d c m.part j meets.part session.at.journal_is

    marked : j.mark ≡ true
    marked = (ss.plan p.number (session.plan ∙ ap (option_map (λ (q : Plan). q.number)) planned)).0

    last_is : seq_of_last s.journal.queue ≡ last_seq s.journal
    last_is = let e = last_counts (j.base + 1) j.queue (mj.marked marked) mj.counts in omega (arith, e)

    nothing : m.waiting ≡ Nothing
    nothing = nothing_waits d c m.name m.part m.waiting meets.waiting (unflown d c j m.part.flight marked ss.flight)

    stamp_same : stamp_at d x.name moment s ≡ stamp_in v.number v.name moment s
    stamp_same = λ i. record { device = sym number i; name = own_name i; last = sym last_is i; moment = moment; rule = 1 }

    module _ (tree : Tree) (did : Report) (resolved : IsResolved d x.name moment s p tree did) where
      is_merge : IsMergeOf v.number v.name moment s p tree
      is_merge = resolved.table_is ∙ ap (merge p.base p.merged s.shown) stamp_same ∙ merges_so p.base p.merged s.shown (stamp_in v.number v.name moment s)

      did_so : did ≡ report_of v.number v.name moment s p
      did_so = resolved.did_is ∙ ap (report p.base p.merged s.shown) stamp_same

      pub may : MaySettle sealers.sealed sealers.signed hashes.hashed seed names moment f v tree c m.part
      may = record {
        lawful = lawful;
        part = subst (λ k. PartMeets k c m.part) (sym number) meets.part;
        has = chain;
        stands = subst (λ k. DeviceStands sealers.sealed sealers.signed hashes.hashed seed names k f c v m.part) (sym number) h.part;
        merger = record { name = subst (λ n. is_device_name n ≡ true) (sym its_name) meets.name; moment = timed; rule = (omega arith, omega arith) };
        few = few;
        merges = λ t q at is.
            let same : s ≡ t = session_of s t (sym inside ∙ at) in
            let once : p ≡ q = plan_once s p q planned (ap (λ (u : Inside). u.plan) same ∙ is) in
            subst (λ u. IsMergeOf v.number v.name moment u q tree) same (subst (λ o. IsMergeOf v.number v.name moment s o tree) once is_merge);
      }

      module _ (w : inner.Member) (is : IsView y.device w) (named : y.name ≡ x.name) (runs : ForSome y.device.session (Runs y.device.number)) (waiting : y.waiting ≡ x.waiting) where
        waits_so : (c' : Chain) (b : Bool) → WaitsFor sealers.sealed sealers.signed hashes.hashed seed names g w y.waiting (waiting_if b m.waiting)
        waits_so c' b = subst (λ k. WaitsFor sealers.sealed sealers.signed hashes.hashed seed names g w k (waiting_if b m.waiting)) (sym waiting)
            (subst (λ u. WaitsFor sealers.sealed sealers.signed hashes.hashed seed names g w x.waiting u) (sym (still_nothing b m.waiting nothing))
            (kept_nothing x.waiting (subst (λ u. WaitsFor sealers.sealed sealers.signed hashes.hashed seed names f v x.waiting u) nothing h.waits)))
          where
            kept_nothing : (k : waits.Waiting) → WaitsFor sealers.sealed sealers.signed hashes.hashed seed names f v k Nothing → WaitsFor sealers.sealed sealers.signed hashes.hashed seed names g w k Nothing
            kept_nothing kept.Nothing w_ = tt
            kept_nothing (kept.Request request) w_ = absurd w_
            kept_nothing (kept.Answer answer) w_ = absurd w_

        -- the machine's step
        went_by : (r : Result (ℕ × Report) SettleFault) (told : Result (ℕ × Report) says.SettleFault) (c' : Chain) (q : Part) → IsSettling r told → SettleStep v.number (merger_of v moment) c m.part told c' q → Grows f g → HasChain sealers.sealed sealers.signed hashes.hashed seed names g c'
            → DeviceStands sealers.sealed sealers.signed hashes.hashed seed names v.number g c' w q → LinkAfter x.link.armed told y.link.armed
            → (n : Member) × (e : Chain) × ((answer : Result (ℕ × Report) says.SettleFault) × IsSettling r answer × SettledBy moment d c answer m n e) × HasChain sealers.sealed sealers.signed hashes.hashed seed names g e × Grows f g × DeclaredStands seed names d g e y n
        went_by r told c' q settling step grows has stands after = (
          record (went m q) { link = y.link.armed },
          c',
          (
            told,
            settling,
            record {
              part = q;
              step = subst (λ n. SettleStep d (record { name = n; moment = moment; rule = 1 }) c m.part told c' q) its_name (subst (λ k. SettleStep k (merger_of v moment) c m.part told c' q) number step);
              link = y.link.armed;
              after = subst (λ k. LinkAfter k told y.link.armed) (sym h.link) after;
              member = refl;
            },
          ),
          has,
          grows,
          record {
            name = named ∙ h.name;
            named = h.named;
            view = w;
            is = is;
            runs = runs;
            part = subst (λ k. DeviceStands sealers.sealed sealers.signed hashes.hashed seed names k g c' w q) number stands;
            waits = waits_so c' q.is_open;
            link = refl;
            batch = h.batch;
          },
        )

        pub settles : (r : Result ℕ SettleFault) → SettleAnswers sealers.sealed sealers.signed hashes.hashed seed names moment f v tree g w (Some x.link.armed) (Some y.link.armed) r → Goes (with_report did r)
        settles (Ok n) goes =
            let to = goes c m.part may in
            let told = to.3 in
            let same : s ≡ told.0 = session_of s told.0 (sym inside ∙ told.2) in
            let once : p ≡ told.1 = plan_once s p told.1 planned (ap (λ (u : Inside). u.plan) same ∙ told.3) in
            let did_is : report_of v.number v.name moment told.0 told.1 ≡ did = (λ i. report_of v.number v.name moment (sym same i) (sym once i)) ∙ sym did_so in
            went_by (Ok (n, did)) to.0 to.1 to.2 (told.4 ∙ ap (λ k. Ok (n, k)) did_is) to.4 to.5 to.6 to.7 to.8
        settles (Err settle.Closed) goes = let to = goes c m.part may in went_by (Err settle.Closed) to.0 to.1 to.2 to.3 to.4 to.5 to.6 to.7 to.8
        settles (Err settle.NoPlan) goes = let to = goes c m.part may in went_by (Err settle.NoPlan) to.0 to.1 to.2 to.3 to.4 to.5 to.6 to.7 to.8
        settles (Err settle.LinkFault) goes = let to = goes c m.part may in went_by (Err settle.LinkFault) to.0 to.1 to.2 to.3 to.4 to.5 to.6 to.7 to.8
        settles (Err (settle.ByPut refusal)) goes = let to = goes c m.part may in went_by (Err (settle.ByPut refusal)) to.0 to.1 to.2 to.3 to.4 to.5 to.6 to.7 to.8
        settles (Err settle.Stopped) goes = let to = goes c m.part may in went_by (Err settle.Stopped) to.0 to.1 to.2 to.3 to.4 to.5 to.6 to.7 to.8
        settles (Err settle.Memory) goes =
            let stays = subst (λ k. (e : Chain) (q : Part) → DeviceStands sealers.sealed sealers.signed hashes.hashed seed names k f e v q → DeviceStands sealers.sealed sealers.signed hashes.hashed seed names k f e w q) number goes.1 in (
              m,
              c,
              (refl, refl),
              subst (λ (k : Held). HasChain sealers.sealed sealers.signed hashes.hashed seed names k c) (sym goes.0) chain,
              inl goes.0,
              record {
                name = named ∙ h.name;
                named = h.named;
                view = w;
                is = is;
                runs = runs;
                part = subst (λ (k : Held). DeviceStands sealers.sealed sealers.signed hashes.hashed seed names d k c w m.part) (sym goes.0) (stays c m.part h.part);
                waits = subst (λ u. WaitsFor sealers.sealed sealers.signed hashes.hashed seed names g w y.waiting u) (sym nothing) (waits_so c false);
                link = h.link ∙ sym goes.2;
                batch = h.batch;
              },
            )

  -- ---- nothing was fetched

  module _ (same : y ≡ x) (folder : g ≡ f) where
    here : (n : Member) → n.part ≡ m.part → n.waiting ≡ m.waiting → n.name ≡ m.name → n.link ≡ m.link → n.batch ≡ m.batch → DeclaredStands seed names d g c y n
    here n part waiting name link batch =
        subst (λ z. DeclaredStands seed names d g c z n) (sym same) (subst (λ (k : Held). DeclaredStands seed names d k c x n) (sym folder) (record {
          name = h.name;
          named = name ∙ h.named;
          view = v;
          is = h.is;
          runs = h.runs;
          part = subst (λ q. DeviceStands sealers.sealed sealers.signed hashes.hashed seed names d f c v q) (sym part) h.part;
          waits = subst (λ u. WaitsFor sealers.sealed sealers.signed hashes.hashed seed names f v x.waiting u) (sym waiting) h.waits;
          link = link ∙ h.link;
          batch = batch ∙ h.batch;
        }))

    has_still : HasChain sealers.sealed sealers.signed hashes.hashed seed names g c
    has_still = subst (λ (k : Held). HasChain sealers.sealed sealers.signed hashes.hashed seed names k c) (sym folder) chain

    refused : (told : Result (ℕ × Report) says.SettleFault) → SettleStep d by c m.part told c m.part → LinkAfter m.link told m.link → (r : Result (ℕ × Report) SettleFault) → IsSettling r told
        → (n : Member) × (e : Chain) × ((answer : Result (ℕ × Report) says.SettleFault) × IsSettling r answer × SettledBy moment d c answer m n e) × HasChain sealers.sealed sealers.signed hashes.hashed seed names g e × Grows f g × DeclaredStands seed names d g e y n
    refused told step after r settling =
        let n : Member = record (went m m.part) { link = m.link } in
        (n, c, (told, settling, record { part = m.part; step = step; link = m.link; after = after; member = refl }), has_still, inl folder, here n refl (waiting_open d c m.name m.part m.waiting meets.waiting) refl refl refl)

    pub unresolved : (fault : SettleFault) → (let r : Result Resolution SettleFault = Err fault in Resolved d x.name moment v.inside r) → Goes (Err fault)
    unresolved settle.Closed none = refused (Err says.SettleFault.Closed) (refl, refl, closed_at sealers.sealed sealers.signed hashes.hashed seed names d f c v m.part none h.part) refl (Err settle.Closed) refl
    unresolved settle.NoPlan none =
        let session = inside_at sealers.sealed sealers.signed hashes.hashed seed names d f c v m.part none.0 none.1 h.part in
        refused (Err says.NoPlan) (refl, refl, session.at.session, session.plan ∙ ap (option_map (λ (q : Plan). q.number)) none.2) refl (Err settle.NoPlan) refl
    unresolved settle.Memory none = (m, c, (refl, refl), has_still, inl folder, here m refl refl refl refl refl)
    unresolved settle.LinkFault none = absurd none
    unresolved (settle.ByPut refusal) none = absurd none
    unresolved settle.Stopped none = absurd none

-- ---- fetches

module _ {D S H : Type 0} {disks : Ghosts D} {sealers : Seals S} {hashes : Hashes H} (seed : List ℕ) (names : Names) (d : ℕ) (f : Held) (c : Chain) (x y : Declared D S H disks sealers hashes) (m : Member) (meets : MemberMeets d c m) (chain : HasChain sealers.sealed sealers.signed hashes.hashed seed names f c)
    (h : DeclaredStands seed names d f c x m) (named : y.name ≡ x.name) (runs : ForSome y.device.session (Runs y.device.number)) (waiting : y.waiting ≡ x.waiting) (linked : y.link ≡ x.link) (w : inner.Member) (is : IsView y.device w) (waits_ : WaitsOn sealers.sealed hashes.hashed seed h.view w) where
  abbrev WF : Waiting → Type 0
  WF u = WaitsFor sealers.sealed sealers.signed hashes.hashed seed names f w y.waiting u

  still : WF m.waiting
  still = subst (λ k. WaitsFor sealers.sealed sealers.signed hashes.hashed seed names f w k m.waiting) (sym waiting) (waits_on sealers.sealed sealers.signed hashes.hashed seed names f h.view w x.waiting m.waiting waits_ h.waits)

  on : (n : Member) → DeviceStands sealers.sealed sealers.signed hashes.hashed seed names d f c w n.part → WF n.waiting → n.name ≡ m.name → n.link ≡ m.link → n.batch ≡ m.batch → DeclaredStands seed names d f c y n
  on n part w_ name link batch = record { name = named ∙ h.name; named = name ∙ h.named; view = w; is = is; runs = runs; part = part; waits = w_; link = link ∙ h.link ∙ ap (λ l. l.armed) (sym linked); batch = batch ∙ h.batch }

  answered : (answer : Result ℕ says.FetchFault) → FetchGoes sealers.sealed sealers.signed hashes.hashed seed names f h.view w answer → ((q : Part) → FetchStep d c m.part answer q → q.is_open ≡ m.part.is_open)
      → (n : Member) × Does (FetchStep d c m.part) ByFetch (ByFetch answer) m n × DeclaredStands seed names d f c y n
  answered answer goes session =
      let at = subst (λ k. (e : Chain) (p : Part) → PartMeets k e p → HasChain sealers.sealed sealers.signed hashes.hashed seed names f e → DeviceStands sealers.sealed sealers.signed hashes.hashed seed names k f e h.view p → (q : Part) × FetchStep k e p answer q × DeviceStands sealers.sealed sealers.signed hashes.hashed seed names k f e w q) h.part.number goes in
      let to = at c m.part meets.part chain h.part in
      let n = went m to.0 in (
        n,
        record { answer = answer; part = to.0; step = to.1; reply_is = refl; member = refl },
        on n to.2 (subst (λ u. WF u) (sym (ap (λ b. waiting_if b m.waiting) (session to.0 to.1) ∙ waiting_open d c m.name m.part m.waiting meets.waiting)) still) refl refl refl,
      )

  pub fetches : (r : Result ℕ FetchFault) → FetchAnswers sealers.sealed sealers.signed hashes.hashed seed names f h.view w r → (n : Member) × FetchTurns r d c m n × DeclaredStands seed names d f c y n
  fetches (Ok number) goes = answered (Ok number) goes (λ q step. ap (λ (p : Part). p.is_open) step.part)
  fetches (Err fetch.Closed) goes = answered (Err says.FetchFault.Closed) goes (λ q step. ap (λ (p : Part). p.is_open) step.0)
  fetches (Err fetch.NotMember) goes = answered (Err says.FetchFault.NotMember) goes (λ q step. ap (λ (p : Part). p.is_open) step.0)
  fetches (Err fetch.NoBranch) goes = answered (Err says.NoBranch) goes (λ q step. ap (λ (p : Part). p.is_open) step.0)
  fetches (Err (fetch.BadFolder bad)) goes =
      absurd (subst (λ k. (e : Chain) (p : Part) → PartMeets k e p → HasChain sealers.sealed sealers.signed hashes.hashed seed names f e → DeviceStands sealers.sealed sealers.signed hashes.hashed seed names k f e h.view p → ⊥) h.part.number goes c m.part meets.part chain h.part)
  fetches (Err fetch.Memory) goes =
      (m, refl, on m (subst (λ k. (e : Chain) (p : Part) → DeviceStands sealers.sealed sealers.signed hashes.hashed seed names k f e h.view p → DeviceStands sealers.sealed sealers.signed hashes.hashed seed names k f e w p) h.part.number goes c m.part h.part) still refl refl refl)

-- ---- merges

-- what is lent of a session, with the last seq that is told
record Lent (inside : Option Inside) (status : Status) (b : Branch) : Type 0 where
  s : Inside
  x : Plan
  at : inside ≡ Some s
  lends : Lends s x b
  last : status.last ≡ last_seq s.journal

lent_at : (inside : Option Inside) (status : Status) (b : Branch) → Tells inside (Ok status) → LendsBranch inside (Some b) → Lent inside status b
lent_at inside status b tells lent =
    let here : (x : Plan) × Lends tells.0 x b = subst (λ o. LendsBranch o (Some b)) tells.1 lent in
    record { s = tells.0; x = here.0; at = tells.1; lends = here.1; last = ap (λ (t : says.Status). t.last) tells.2 }

pub resolve_meets : (d : ℕ) (inside : Option Inside) (status : Status) (b : Branch) (stamp : Stamp) → MayMerge d inside → Tells inside (Ok status) → LendsBranch inside (Some b) → stamp.device ≡ d → stamp.last ≡ status.last → Meet b.base.now.tree b.merged.now.tree b.ours.now.tree stamp
resolve_meets d inside status b stamp may tells lent device last =
    let l = lent_at inside status b tells lent in
    let meet : Meet l.x.base l.x.merged l.s.shown stamp = (may l.s l.x l.at l.lends.planned).meet stamp device (last ∙ l.last) in
    subst (λ t. Meet t b.merged.now.tree b.ours.now.tree stamp) (sym l.lends.base) (subst (λ t. Meet l.x.base t b.ours.now.tree stamp) (sym l.lends.merged) (subst (λ t. Meet l.x.base l.x.merged t stamp) (sym l.lends.ours) meet))

pub resolve_few : (d : ℕ) (inside : Option Inside) (status : Status) (b : Branch) → MayMerge d inside → Tells inside (Ok status) → LendsBranch inside (Some b) → length (splits b.base.now.tree b.merged.now.tree b.ours.now.tree) ≤ 65535
resolve_few d inside status b may tells lent =
    let l = lent_at inside status b tells lent in
    subst (λ xs. length xs ≤ 65535) (λ i. splits (sym l.lends.base i) (sym l.lends.merged i) (sym l.lends.ours i)) (may l.s l.x l.at l.lends.planned).few

pub resolve_ours : (d : ℕ) (inside : Option Inside) (status : Status) (b : Branch) → MayMerge d inside → Tells inside (Ok status) → LendsBranch inside (Some b) → Lead b.our_ops.now b.base.now.tree b.ours.now.tree
resolve_ours d inside status b may tells lent =
    let l = lent_at inside status b tells lent in
    subst (λ ops. Lead ops b.base.now.tree b.ours.now.tree) (sym l.lends.our_ops) (subst (λ t. Lead l.s.journal.queue t b.ours.now.tree) (sym l.lends.base) (subst (λ t. Lead l.s.journal.queue l.x.base t) (sym l.lends.ours) (may l.s l.x l.at l.lends.planned).our_leads))

pub resolve_merged : (d : ℕ) (inside : Option Inside) (status : Status) (b : Branch) → MayMerge d inside → Tells inside (Ok status) → LendsBranch inside (Some b) → b.plain ≡ true → Lead b.merged_ops.now b.base.now.tree b.merged.now.tree
resolve_merged d inside status b may tells lent plain =
    let l = lent_at inside status b tells lent in
    subst (λ ops. Lead ops b.base.now.tree b.merged.now.tree) (sym l.lends.merged_ops) (subst (λ t. Lead l.x.ops t b.merged.now.tree) (sym l.lends.base) (subst (λ t. Lead l.x.ops l.x.base t) (sym l.lends.merged) ((may l.s l.x l.at l.lends.planned).merged_leads (sym l.lends.plain ∙ plain))))

pub resolves : (d : ℕ) (name own : List ℕ) (moment : ℕ) (inside : Option Inside) (status : Status) (b : Branch) (made : Resolution) → Tells inside (Ok status) → LendsBranch inside (Some b) → own ≡ name
    → (let stamp : Stamp = record { device = d; name = own; last = status.last; moment = moment; rule = 1 } in (made.table.tree ≡ merge b.base.now.tree b.merged.now.tree b.ours.now.tree stamp) × (made.report ≡ report b.base.now.tree b.merged.now.tree b.ours.now.tree stamp))
    → Resolved d name moment inside (Ok made)
resolves d name own moment inside status b made tells lent named is =
    let l = lent_at inside status b tells lent in
    let stamp : (let from : Stamp = record { device = d; name = own; last = status.last; moment = moment; rule = 1 } in from ≡ stamp_at d name moment l.s) = (λ i. record { device = d; name = named i; last = l.last i; moment = moment; rule = 1 }) in (
      l.s,
      l.x,
      l.at,
      record {
        planned = l.lends.planned;
        table_is = is.0 ∙ (λ i. merge (l.lends.base i) (l.lends.merged i) (l.lends.ours i) (stamp i));
        did_is = is.1 ∙ (λ i. report (l.lends.base i) (l.lends.merged i) (l.lends.ours i) (stamp i));
      },
    )

-- nothing is lent of a session that has no plan
pub unplanned : (d : ℕ) (name : List ℕ) (moment : ℕ) (inside : Option Inside) (status : Status) → Tells inside (Ok status) → LendsBranch inside None → (let r : Result Resolution SettleFault = Err settle.NoPlan in Resolved d name moment inside r)
unplanned d name moment inside status tells lent = (tells.0, tells.1, subst (λ o. LendsBranch o None) tells.1 lent)
