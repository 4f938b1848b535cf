-- A flight that is out stays so over a pick that is refused and over a pull.
use Rattle.std.proofs.Common.{◌≡◌, ℕ, ◌≤◌, true, false, List, [], length, Option, None, Some, Result, Ok, Err, OnErr, inl, inr, refl, sym, ap, subst, ◌∙◌, arith}
use Rattle.kb_ops.specs.Trees.{look}
use Rattle.std.specs.FinMap.{get}
use Rattle.kb_files.specs.Opens.{Opens}
use Rattle.kb_folder.specs.Stands.{keys_to}
use Rattle.kb_folder.specs.Puts.{Held}
use Rattle.kb_snap.specs.Pointers.{AllHold}
use Rattle.kb_ranges.specs.Patches.{StaysIn}
use Rattle.kb_device.specs.Caches.{Cache, known_in, HasAll}
use Rattle.kb_device.specs.Patching.{OnceAllAdded}
use Rattle.kb_ops.specs.Trees.{Tree}
use Rattle.kb_device.specs.Inside.{Aloft, Inside, IsRunning}
use Rattle.kb_device.specs.Stands.{Member, Platter}
use Rattle.kb_device.specs.Noting.{IsRequestOf, HasLanded}
use Rattle.kb_device.specs.Picking.{PickDoes, GoesAhead, with_flight}
use Rattle.kb_device.specs.Pulling.{PullDoes, UnlessStopped, is_stopped}
use Rattle.kb_device.specs.Serving.{WaitsOn}
use Rattle.kb_device.specs.declared.answers.Picked.{Picked}
use Rattle.kb_device.specs.declared.answers.PickFault.{PickFault}
use Rattle.kb_device.specs.declared.answers.PickFault.TheVariants as pick
use Rattle.kb_device.specs.declared.answers.PullFault.{PullFault}
use Rattle.kb_device.specs.declared.answers.PullFault.TheVariants as pull

some_once : {X : Type 0} (x y : X) → Some x ≡ Some y → x ≡ y
some_once x y e = cc

none_some : {X : Type 0} (o : Option X) (x : X) → o ≡ None → o ≡ Some x → ⊥
none_some o x none some = cc

module _ (sealed : List ℕ → List ℕ → List ℕ) (hashed : List ℕ → List ℕ) (seed : List ℕ) (old new : Member) (s t : Inside) (was : old.inside ≡ Some s) (now : new.inside ≡ Some t) where
  -- no flight is kept
  none_aloft : t.aloft ≡ None → WaitsOn sealed hashed seed old new
  none_aloft none = record {
    sent = λ f request h x a is flies. absurd (none_some t.aloft a none (ap (λ (z : Inside). z.aloft) (some_once t x (sym now ∙ is)) ∙ flies));
    answer = λ f answer h x a n is flies ok. absurd (none_some t.aloft a none (ap (λ (z : Inside). z.aloft) (some_once t x (sym now ∙ is)) ∙ flies));
  }

  -- what a flight's request speaks of is as it was
  still_aloft : t.generation ≡ s.generation → t.base ≡ s.base → t.cache ≡ s.cache → t.aloft ≡ s.aloft → WaitsOn sealed hashed seed old new
  still_aloft generation base cache aloft = record {
    sent = λ f request h x a is flies.
        let to : t ≡ x = some_once t x (sym now ∙ is) in
        let r = h s a was (sym aloft ∙ ap (λ (z : Inside). z.aloft) to ∙ flies) in
        let P : ℕ → Tree → Type 0 = λ g b. OnceAllAdded hashed sealed r.few (keys_to seed g) request.blocks (λ vault. AllHold vault (look b) a.kept) in
        let there : IsRequestOf sealed hashed seed f request t a = record {
          few = r.few;
          within = subst (λ (m : Cache). StaysIn r.few (known_in m (get f.blocks))) (sym cache) r.within;
          cached = subst (λ (m : Cache). HasAll hashed m request.blocks) (sym cache) r.cached;
          holds = subst (λ g. P g t.base) (sym generation) (subst (λ b. P s.generation b) (sym base) r.holds);
        } in
        subst (λ z. IsRequestOf sealed hashed seed f request z a) to there;
    answer = λ f answer h x a n is flies ok.
        let to : t ≡ x = some_once t x (sym now ∙ is) in
        let l = h s a n was (sym aloft ∙ ap (λ (z : Inside). z.aloft) to ∙ flies) ok in
        let P : Cache → ℕ → Tree → Type 0 = λ m g b. AllHold (Opens sealed hashed (known_in m (get f.blocks)) (keys_to seed g)) (look b) a.kept in
        let there : P t.cache t.generation t.base = subst (λ m. P m t.generation t.base) (sym cache) (subst (λ g. P s.cache g t.base) (sym generation) (subst (λ b. P s.cache s.generation b) (sym base) l.held)) in
        subst (λ z. HasLanded sealed hashed seed f z a answer.hash) to (record { hash_is = l.hash_is; held = there });
  }

  same_aloft : t ≡ s → WaitsOn sealed hashed seed old new
  same_aloft e = still_aloft (ap (λ (z : Inside). z.generation) e) (ap (λ (z : Inside). z.base) e) (ap (λ (z : Inside). z.cache) e) (ap (λ (z : Inside). z.aloft) e)

  -- the base table went ahead, which it has already where a flight is kept
  ahead_aloft : IsRunning s → GoesAhead s t → t ≡ with_flight s t s.aloft → t.cache ≡ s.cache → WaitsOn sealed hashed seed old new
  ahead_aloft running ahead e cache = by s.aloft refl where
    aloft : t.aloft ≡ s.aloft
    aloft = ap (λ (z : Inside). z.aloft) e

    by : (o : Option Aloft) → s.aloft ≡ o → WaitsOn sealed hashed seed old new
    by None none = none_aloft (aloft ∙ none)
    by (Some a) some =
        let one : s.ahead ≡ 1 = (running.aloft a some).ahead in
        elim ahead.done.does [
          | inl same ↦ still_aloft (ap (λ (z : Inside). z.generation) e) same.1 cache aloft
          | inr went ↦ absurd (let zero_ : s.ahead ≡ 0 = went.0 in omega arith)
        ]

  pub picks_wait : (signed : List ℕ → List ℕ → List ℕ) (secret : List ℕ) → IsRunning s → (r : Result Picked PickFault) → PickDoes sealed signed hashed secret s t r → OnErr r (WaitsOn sealed hashed seed old new)
  picks_wait signed secret running (Ok picked) does = tt
  picks_wait signed secret running (Err pick.Closed) does = absurd does
  picks_wait signed secret running (Err pick.InFlight) does = same_aloft does.0
  picks_wait signed secret running (Err pick.Branched) does = same_aloft does.0
  picks_wait signed secret running (Err pick.Idle) does = same_aloft does.0
  picks_wait signed secret running (Err pick.Memory) does = elim does [ inl e ↦ same_aloft e | inr ahead ↦ ahead_aloft running ahead.0 ahead.1 ahead.2 ]

  -- where nothing is queued, no flight is kept
  none_flies : IsRunning s → s.journal.queue ≡ [] → s.aloft ≡ None
  none_flies running flushed = by s.aloft refl where
    by : (o : Option Aloft) → s.aloft ≡ o → o ≡ None
    by None none = refl
    by (Some a) some = absurd (let one : s.ahead ≡ 1 = (running.aloft a some).ahead in let few = running.ahead in let empty : length s.journal.queue ≡ 0 = ap length flushed in omega arith)

  pub pulls_wait : (signed : List ℕ → List ℕ → List ℕ) (f : Held) (d : ℕ) (secret : List ℕ) (disk disk_now : Platter) → IsRunning s → (r : Result ℕ PullFault) → PullDoes sealed signed hashed f d secret s disk t disk_now r → UnlessStopped r (WaitsOn sealed hashed seed old new)
  pulls_wait signed f d secret disk disk_now running (Ok n) does = elim does [
    | inl pulled ↦ none_aloft (ap (λ (z : Inside). z.aloft) pulled.session ∙ none_flies running pulled.may.flushed)
    | inr stayed ↦ same_aloft stayed.0.session
  ]
  pulls_wait signed f d secret disk disk_now running (Err pull.Closed) does = absurd does
  pulls_wait signed f d secret disk disk_now running (Err pull.NotMember) does = same_aloft does.0.session
  pulls_wait signed f d secret disk disk_now running (Err pull.Unflushed) does = same_aloft does.0.session
  pulls_wait signed f d secret disk disk_now running (Err (pull.BadFolder number)) does = same_aloft does.0.session
  pulls_wait signed f d secret disk disk_now running (Err pull.Memory) does = same_aloft does.session
  pulls_wait signed f d secret disk disk_now running (Err pull.Stopped) does = tt

-- ---- clauses that hold of some answers

pub err_by : {T E P : Type 0} (r : Result T E) → ((e : E) → r ≡ Err e → P) → OnErr r P
err_by (Ok x) f = tt
err_by (Err e) f = f e refl

pub going_by : {P : Type 0} (r : Result ℕ PullFault) → P → UnlessStopped r P
going_by (Ok n) p = p
going_by (Err pull.Closed) p = p
going_by (Err pull.NotMember) p = p
going_by (Err pull.Unflushed) p = p
going_by (Err (pull.BadFolder number)) p = p
going_by (Err pull.Memory) p = p
going_by (Err pull.Stopped) p = tt

pub going : {P : Type 0} (r : Result ℕ PullFault) → is_stopped r ≡ false → UnlessStopped r P → P
going (Ok n) e h = h
going (Err pull.Closed) e h = h
going (Err pull.NotMember) e h = h
going (Err pull.Unflushed) e h = h
going (Err (pull.BadFolder number)) e h = h
going (Err pull.Memory) e h = h
going (Err pull.Stopped) e h = let bad : true ≡ false = e in cc

pub has_ended : (P : Type 0) (r : Result ℕ PullFault) → is_stopped r ≡ true → UnlessStopped r P
has_ended P (Ok n) e = let bad : false ≡ true = e in cc
has_ended P (Err pull.Closed) e = let bad : false ≡ true = e in cc
has_ended P (Err pull.NotMember) e = let bad : false ≡ true = e in cc
has_ended P (Err pull.Unflushed) e = let bad : false ≡ true = e in cc
has_ended P (Err (pull.BadFolder number)) e = let bad : false ≡ true = e in cc
has_ended P (Err pull.Memory) e = let bad : false ≡ true = e in cc
has_ended P (Err pull.Stopped) e = tt
