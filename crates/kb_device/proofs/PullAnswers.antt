-- The answers of a pull, as the machine's.
use Rattle.std.proofs.Common.{◌≡◌, ℕ, true, false, List, length, Some, None, Result, Ok, Err, is_some, inl, inr, refl, sym, ap, subst, ◌∙◌, arith}
use Rattle.std.specs.Prelude.{reverse}
use Rattle.std.proofs.lemmas.List.{length-reverse, length-drop}
use Rattle.kb_keys.specs.Policies.{role_at}
use Rattle.kb_snap.specs.Chains.{Chain}
use Rattle.kb_snap.specs.Members.{roles_of, IsStranger}
use Rattle.kb_device.specs.Journals.{plain}
use Rattle.kb_device.specs.Meets.{PartMeets}
use Rattle.kb_device.specs.Parts.{Part, PullStep}
use Rattle.kb_device.proofs.Owned.{landed_length}
use Rattle.kb_device.proofs.PartSteps.{at_journal}
use Rattle.kb_folder.specs.Chains.{Names}
use Rattle.kb_folder.specs.Puts.{Held}
use Rattle.kb_folder.specs.Held.{is_member}
use Rattle.kb_folder.specs.Goes.{HasChain}
use Rattle.kb_device.specs.Inside.{Inside, IsRunning}
use Rattle.kb_device.specs.Stands.{Platter, Member, DiskStands, SessionStands, DeviceStands}
use Rattle.kb_device.specs.Heads.{ReadStands}
use Rattle.kb_device.specs.Pulling.{with_head, InChain, Same, PullDoes, UnlessStopped, PullAnswers, member_after, is_stopped}
use Rattle.kb_device.specs.declared.answers.PullFault.{PullFault}
use Rattle.kb_device.specs.declared.answers.PullFault.TheVariants as fault
use Rattle.kb_device.proofs.Options.{none_of}
use Rattle.kb_device.proofs.Longer.{chain_length}
use Rattle.kb_device.proofs.Notings.{stands_with}
use Rattle.kb_device.proofs.Picks.{inside_at, closed_at}
use Rattle.kb_device.proofs.Pullings.{pulls_go, pull_stops, pull_stays}

module _ (sealed signed : List ℕ → List ℕ → List ℕ) (hashed : List ℕ → List ℕ) (seed : List ℕ) (names : Names) (f : Held) (old : Member) (s t : Inside) (was : old.inside ≡ Some s) (now : Platter) where
  role_here : (c : Chain) → HasChain sealed signed hashed seed names f c → role_at f.state.policy.0 old.number ≡ roles_of c old.number
  role_here c has = has.stands.policy.roles old.number ∙ ap (λ l. roles_of l old.number) (sym has.turned)

  no_stranger : (c : Chain) → HasChain sealed signed hashed seed names f c → is_member f old.number ≡ true → ¬ IsStranger c old.number
  no_stranger c has member stranger = let bad : true ≡ false = sym member ∙ ap is_some (role_here c has ∙ stranger) in cc

  -- what is so in the device's chain
  in_chain : (P : List ℕ → Chain → Type 0) → InChain sealed signed hashed f old.number old.secret s P → (c : Chain) (p : Part) → PartMeets old.number c p → HasChain sealed signed hashed seed names f c → DeviceStands sealed signed hashed seed names old.number f c old p → P seed c
  in_chain P all c p part has h =
      let session = inside_at sealed signed hashed seed names old.number f c old p s was h in
      all seed names c has h.secret session.remembers.generation_is session.ring session.remembers.within (landed_length old.number c (plain s.journal) (at_journal old.number c p (plain s.journal) part session.at.journal_is))

  same : Same sealed signed hashed f old.number old.secret s old.disk t now → (c : Chain) (p : Part) → DeviceStands sealed signed hashed seed names old.number f c old p → DeviceStands sealed signed hashed seed names old.number f c (record old { disk = now; inside = Some t }) p
  same e c p h =
      let session = inside_at sealed signed hashed seed names old.number f c old p s was h in
      stands_with sealed signed hashed seed names old.number f c old p p now t h (subst (λ (x : Platter). DiskStands f.revisions x p) (sym e.disk) h.disk) (subst (λ x. SessionStands sealed signed hashed seed names f c x p) (sym e.session) session)

  pub pull_answers : (r : Result ℕ PullFault) → PullDoes sealed signed hashed f old.number old.secret s old.disk t now r → UnlessStopped r (IsRunning t) → PullAnswers sealed signed hashed seed names f old (member_after old t now r) r
  pull_answers (Ok n) (inl d) running = λ c p part has h.
      let head = in_chain (λ seed c. ReadStands sealed hashed seed f c d.read × (d.read.number ≡ length c) × (d.role ≡ roles_of c old.number)) d.head c p part has h in
      let go = pulls_go sealed signed hashed seed names f old s was d.may.flushed d.read c p part has h (no_stranger c has d.may.member) head.0 head.1 t now (d.session ∙ ap (with_head s d.read) head.2) d.disk running in
      subst (λ k. (q : Part) × PullStep old.number c p (Ok k) q × DeviceStands sealed signed hashed seed names old.number f c (record old { disk = now; inside = Some t }) q) (sym d.n_is) go
  pull_answers (Ok n) (inr d) running = λ c p part has h.
      let session = inside_at sealed signed hashed seed names old.number f c old p s was h in
      let m = (at_journal old.number c p (plain s.journal) part session.at.journal_is).within in
      let none = sym (length-drop s.journal.known (reverse f.revisions)) ∙ ap length d.2 in
      let rev = length-reverse f.revisions in
      let len = chain_length sealed signed hashed seed names f c has in
      let last : s.journal.known ≡ length c = omega (arith, m, none, rev, len) in
      let go = pull_stays sealed signed hashed seed names f old s was d.1.flushed c p part h (no_stranger c has d.1.member) last in
      subst (λ k. (q : Part) × PullStep old.number c p (Ok k) q × DeviceStands sealed signed hashed seed names old.number f c (record old { disk = now; inside = Some t }) q) (sym d.3) (go.0, go.1, same d.0 c go.0 go.2)
  pull_answers (Err fault.Closed) d running = absurd d
  pull_answers (Err fault.NotMember) d running = λ c p part has h.
      let session = inside_at sealed signed hashed seed names old.number f c old p s was h in
      (p, (refl, session.at.session, sym (role_here c has) ∙ none_of (role_at f.state.policy.0 old.number) d.1), same d.0 c p h)
  pull_answers (Err fault.Unflushed) d running = λ c p part has h.
      let session = inside_at sealed signed hashed seed names old.number f c old p s was h in
      (p, (refl, no_stranger c has d.1, (plain s.journal, session.at, d.2)), same d.0 c p h)
  pull_answers (Err (fault.BadFolder number)) d running = λ c p part has h. in_chain (λ seed c. ⊥) d.2 c p part has h
  pull_answers (Err fault.Memory) d running = λ c p h. same d c p h
  pull_answers (Err fault.Stopped) d running = λ c p part has h.
      let head = in_chain (λ seed c. ReadStands sealed hashed seed f c d.read × (d.read.number ≡ length c) × (d.role ≡ roles_of c old.number)) d.head c p part has h in
      pull_stops sealed signed hashed seed names f old s was d.may.flushed d.read c p part has h (no_stranger c has d.may.member) head.0 head.1 now d.disk

after_on : (v : Member) (t : Inside) (now : Platter) (r : Result ℕ PullFault) → is_stopped r ≡ false → member_after v t now r ≡ record v { disk = now; inside = Some t }
after_on v t now (Ok x) on = refl
after_on v t now (Err fault.Closed) on = refl
after_on v t now (Err fault.NotMember) on = refl
after_on v t now (Err fault.Unflushed) on = refl
after_on v t now (Err (fault.BadFolder n)) on = refl
after_on v t now (Err fault.Memory) on = refl
after_on v t now (Err fault.Stopped) on = cc

after_stop : (v : Member) (t : Inside) (now : Platter) (r : Result ℕ PullFault) → is_stopped r ≡ true → member_after v t now r ≡ record v { disk = now; inside = None }
after_stop v t now (Ok x) on = cc
after_stop v t now (Err fault.Closed) on = cc
after_stop v t now (Err fault.NotMember) on = cc
after_stop v t now (Err fault.Unflushed) on = cc
after_stop v t now (Err (fault.BadFolder n)) on = cc
after_stop v t now (Err fault.Memory) on = cc
after_stop v t now (Err fault.Stopped) on = refl

module _ (sealed signed : List ℕ → List ℕ → List ℕ) (hashed : List ℕ → List ℕ) (seed : List ℕ) (names : Names) (f : Held) (old : Member) where
  pub closed_pull : old.inside ≡ None → PullAnswers sealed signed hashed seed names f old old (Err fault.Closed)
  closed_pull none = λ c p part has h. (p, (refl, closed_at sealed signed hashed seed names old.number f c old p none h), h)

  -- a pull of a session of the device with this number and secret, on this disk
  module _ (s t : Inside) (was : old.inside ≡ Some s) (d : ℕ) (secret : List ℕ) (disk now : Platter) (number_is : old.number ≡ d) (secret_is : old.secret ≡ secret) (disk_is : old.disk ≡ disk) (r : Result ℕ PullFault)
      (does : PullDoes sealed signed hashed f d secret s disk t now r) (running : UnlessStopped r (IsRunning t)) where
    went : PullAnswers sealed signed hashed seed names f old (member_after old t now r) r
    went = pull_answers sealed signed hashed seed names f old s t was now r
        (subst (λ n. PullDoes sealed signed hashed f n old.secret s old.disk t now r) (sym number_is) (subst (λ k. PullDoes sealed signed hashed f d k s old.disk t now r) (sym secret_is) (subst (λ (x : Platter). PullDoes sealed signed hashed f d secret s x t now r) (sym disk_is) does))) running

    pub pulls_on : is_stopped r ≡ false → PullAnswers sealed signed hashed seed names f old (record old { disk = now; inside = Some t }) r
    pulls_on on = subst (λ (w : Member). PullAnswers sealed signed hashed seed names f old w r) (after_on old t now r on) went

    pub pulls_stop : is_stopped r ≡ true → PullAnswers sealed signed hashed seed names f old (record old { disk = now; inside = None }) r
    pulls_stop on = subst (λ (w : Member). PullAnswers sealed signed hashed seed names f old w r) (after_stop old t now r on) went
