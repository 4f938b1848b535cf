-- The answers of a pick, as the machine's.
use Rattle.std.proofs.Common.{◌≡◌, ℕ, List, Option, None, Some, Result, Ok, Err, inl, inr, refl, sym, ap, subst, ◌∙◌}
use Rattle.std.specs.Prelude.{IsSome}
use Rattle.std.specs.Option.{option_map}
use Rattle.kb_device.specs.Answers as says
use Rattle.kb_snap.specs.Chains.{Chain}
use Rattle.kb_device.specs.Journals.{plain}
use Rattle.kb_device.specs.Parts.{Part}
use Rattle.kb_folder.specs.Chains.{Names}
use Rattle.kb_folder.specs.Puts.{Held}
use Rattle.std.specs.FinMap.{get}
use Rattle.kb_folder.specs.Stands.{keys_to}
use Rattle.kb_keys.specs.Rings.{key_at}
use Rattle.kb_device.specs.Caches.{known_in}
use Rattle.kb_device.specs.Patching.{OnceAllAdded, Grounds}
use Rattle.kb_device.proofs.Shared.{known_cached, known_taken, takes_all}
use Rattle.kb_snap.specs.Pointers.{AllHold}
use Rattle.kb_ops.specs.Trees.{look}
use Rattle.kb_device.specs.PicksFor.{PicksAreFor}
use Rattle.kb_device.specs.Inside.{Aloft, Inside, IsRunning}
use Rattle.kb_device.specs.Stands.{Member, SessionStands, DeviceStands}
use Rattle.kb_device.specs.Picking.{Picks, PickDoes}
use Rattle.kb_device.specs.Noting.{IsRequestOf}
use Rattle.kb_device.specs.Answering.{PickAnswers, PickSends, PickRefuses}
use Rattle.kb_device.specs.declared.answers.Picked.{Picked}
use Rattle.kb_device.specs.declared.answers.PickFault.{PickFault}
use Rattle.kb_device.specs.declared.answers.PickFault.TheVariants as fault
use Rattle.kb_device.proofs.Picks.{inside_at, closed_at, grounds_of, with_session, picks_go, ahead_stays}

some_flight : {A B : Type 0} (f : A → B) (o : Option A) → IsSome o → IsSome (option_map f o)
some_flight f (Some x) h = refl
some_flight f None h = cc

some_is : {A : Type 0} (x y : A) → Some x ≡ Some y → x ≡ y
some_is x y e = cc

module _ (sealed signed : List ℕ → List ℕ → List ℕ) (hashed : List ℕ → List ℕ) (seed : List ℕ) (names : Names) where
  pub closed_pick : (old new : Member) → old.inside ≡ None → new ≡ old → PickRefuses sealed signed hashed seed names old new says.PickFault.Closed
  closed_pick old new none same f c p part has h = (p, (refl, closed_at sealed signed hashed seed names old.number f c old p none h), subst (λ (v : Member). DeviceStands sealed signed hashed seed names old.number f c v p) (sym same) h)

  module _ (old : Member) (s t : Inside) (was : old.inside ≡ Some s) where
    abbrev new : Member
    new = record old { inside = Some t }

    same : t ≡ s → (f : Held) (c : Chain) (p : Part) → DeviceStands sealed signed hashed seed names old.number f c old p → DeviceStands sealed signed hashed seed names old.number f c new p
    same e f c p h =
        let session = inside_at sealed signed hashed seed names old.number f c old p s was h in
        with_session sealed signed hashed seed names old.number f c old p p.flight t h (subst (λ x. SessionStands sealed signed hashed seed names f c x p) (sym e) session)

    sends : (picked : Picked) → Picks sealed signed hashed old.secret s picked t → IsRunning t → PickSends sealed signed hashed seed names old.number old new picked.request
    sends picked picks running f c p h = λ x a is flies.
        let session = inside_at sealed signed hashed seed names old.number f c old p s was h in
        let generation : t.generation ≡ s.generation = ap (λ (y : Inside). y.generation) picks.session in
        let ring_is : keys_to seed t.generation ≡ key_at t.ring = λ i n. sym (ap (λ (y : Inside). key_at y.ring n) picks.session ∙ session.ring n ∙ ap (λ k. keys_to seed k n) (sym generation)) i in
        let few = known_in s.cache (get f.blocks) in
        let grounds = subst (λ ring. Grounds sealed hashed few ring t.base picks.left picks.ahead.op.change t.written) ring_is (grounds_of sealed signed hashed seed names f c p s t picks.left session picks.ahead picks.leaves generation) in
        let there : IsRequestOf sealed hashed seed f picked.request t picks.aloft = record {
          few = few;
          within = known_taken hashed s.cache t.cache picked.request.blocks (get f.blocks) picks.takes;
          cached = takes_all hashed s.cache t.cache picked.request.blocks picks.takes;
          holds = subst (λ ring. OnceAllAdded hashed sealed few ring picked.request.blocks (λ vault. AllHold vault (look t.base) picks.aloft.kept)) (sym ring_is) (picks.made.pointers few (known_cached s.cache (get f.blocks)) grounds);
        } in
        let t_is : t ≡ x = some_is t x is in
        let aloft : picks.aloft ≡ a = some_is picks.aloft a (sym (ap (λ (y : Inside). y.aloft) picks.session) ∙ ap (λ (y : Inside). y.aloft) t_is ∙ flies) in
        subst (λ y. IsRequestOf sealed hashed seed f picked.request y a) t_is (subst (IsRequestOf sealed hashed seed f picked.request t) aloft there)

    pub pick_answers : (r : Result Picked PickFault) → PickDoes sealed signed hashed old.secret s t r → IsRunning t → PicksAreFor sealed signed hashed seed names → PickAnswers sealed signed hashed seed names old new r
    pick_answers (Ok picked) does running law = (picks_go sealed signed hashed seed names old s t was picked does running law, sends picked does running)
    pick_answers (Err fault.Closed) does running law = absurd does
    pick_answers (Err fault.InFlight) does running law = λ f c p part has h.
        let session = inside_at sealed signed hashed seed names old.number f c old p s was h in
        (p, (refl, session.at.session, subst IsSome (sym session.flight) (some_flight (λ (a : Aloft). a.flight) s.aloft does.1)), same does.0 f c p h)
    pick_answers (Err fault.Branched) does running law = λ f c p part has h.
        let session = inside_at sealed signed hashed seed names old.number f c old p s was h in
        (p, (refl, session.flight ∙ ap (option_map (λ (a : Aloft). a.flight)) does.1, (plain s.journal, session.at, does.2)), same does.0 f c p h)
    pick_answers (Err fault.Idle) does running law = λ f c p part has h.
        let session = inside_at sealed signed hashed seed names old.number f c old p s was h in
        (p, (refl, session.flight ∙ ap (option_map (λ (a : Aloft). a.flight)) does.1, (plain s.journal, session.at, does.2, does.3)), same does.0 f c p h)
    pick_answers (Err fault.Memory) (inl e) running law = λ f c p h. same e f c p h
    pick_answers (Err fault.Memory) (inr (ahead, e, cache)) running law = ahead_stays sealed signed hashed seed names old s t was running ahead e cache
