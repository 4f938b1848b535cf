-- What is taken over of a journal is what the machine takes over.
use Rattle.std.proofs.Common.{◌≡◌, ℕ, ◌+◌, ◌-◌, ◌<◌, ◌≤◌, Bool, true, false, List, length, map, drop, Result, Err, Option, Some, None, inl, inr, refl, sym, ap, subst, ◌∙◌, arith}
use Rattle.std.specs.Prelude.{◌&&◌, nat_le, nat_eq, reverse}
use Rattle.std.specs.Option.{option_map_or}
use Rattle.std.proofs.lemmas.Bool.{eqb-true}
use Rattle.std.proofs.lemmas.Bool.Decides.{nat_tests}
use Rattle.std.proofs.lemmas.List.{length-map, length-reverse}
use Rattle.sha2.specs.Sha256.{sha256}
use Rattle.kb_ops.specs.declared.rows.Op.{Op}
use Rattle.kb_journal.specs.State.{State}
use Rattle.kb_snap.specs.Chains.{Chain}
use Rattle.kb_device.specs.Journals.{plain, taken}
use Rattle.kb_snap.specs.Lawful.{AreOf}
use Rattle.kb_device.specs.Disks.{hash_at}
use Rattle.kb_device.specs.Foreign.{QueueMeets, Later, Unknown, Others}
use Rattle.kb_folder.specs.Puts.{Held}
use Rattle.kb_device.specs.declared.past.Own.{Own}
use Rattle.kb_device.specs.declared.opening.Taking.{Taking}
use Rattle.kb_device.specs.declared.opening.StartFault.{StartFault}
use Rattle.kb_device.specs.declared.opening.StartFault.TheVariants as start
use Rattle.kb_device.specs.Stands.{hashes_of}
use Rattle.kb_device.specs.Past.{IsFirstOwn}
use Rattle.kb_device.specs.Opening.{meets, IsSound, IsTakingOf, IsTakeable, IsStrange, IsApart, Takes, MayTake, Meets, IfStarted}

one : (a b : Bool) → (a && b) ≡ true → a ≡ true
one true b h = refl
one false b h = cc

rest : (a b : Bool) → (a && b) ≡ true → b ≡ true
rest true b h = h
rest false b h = cc

begins : (own : Own) (last base end : ℕ) → meets (Some own) last base end ≡ true → (own.first ≡ base + 1) × (own.last ≤ end)
begins own last base end test =
    let later = rest (nat_eq own.first (base + 1)) (nat_eq own.last last && nat_le last end) test in
    let same = eqb-true own.last last (one (nat_eq own.last last) _ later) in
    let within : last ≤ end = (let t = rest (nat_eq own.last last) (nat_le last end) later in grind (arith, nat_tests, t)) in
    (eqb-true own.first (base + 1) (one (nat_eq own.first (base + 1)) _ test), omega (arith, same, within))

pub takeable : (known len last base end : ℕ) (own : Option Own) → IsSound known len own → meets own last base end ≡ true → IsTakeable len base own
takeable known len last base end None sound test = tt
takeable known len last base end (Some own) sound test =
    let b = begins own last base end test in
    let first = b.0 in
    let low = sound.0 in
    let order = sound.2 in
    (omega (arith, low), sound.1, omega (arith, first, order))

pub may_take : (known len last base end : ℕ) (queue : List Op) (hashes : List (List ℕ)) (own : Option Own) (taking : Option Taking) → known ≤ len → base + length queue ≡ end → IsSound known len own → meets own last base end ≡ true → IsTakingOf hashes base own taking → MayTake known len queue taking
may_take known len last base end queue hashes None None within size sound test is = record { within = within; count = omega arith; later = λ t e. cc }
may_take known len last base end queue hashes None (Some t) within size sound test is = absurd is
may_take known len last base end queue hashes (Some own) None within size sound test is = absurd is
may_take known len last base end queue hashes (Some own) (Some t) within size sound test is =
    let b = begins own last base end test in
    let first = b.0 in
    let high = b.1 in
    let low = sound.0 in
    let bound = sound.1 in
    let order = sound.2 in
    let number = is.0 in
    let count = is.1 in
    record {
      within = omega (arith, number, bound);
      count = omega (arith, count, high, size);
      later = λ u e. (let same : t ≡ u = cc in subst (λ (v : Taking). (known < v.number) × (0 < v.count)) same (omega (arith, number, low), omega (arith, count, first, order)));
    }

module _ (f : Held) (d : ℕ) (c : Chain) (s : State) (lent : List (List ℕ)) (is : lent ≡ reverse f.revisions) (size : length f.revisions ≡ length c) where
  hashes_is : map sha256 lent ≡ hashes_of f.revisions
  hashes_is = ap (map sha256) is

  len_is : length (map sha256 lent) ≡ length c
  len_is = length-map lent sha256 ∙ ap length is ∙ length-reverse f.revisions ∙ size

  pub strange_is : IsStrange d (map sha256 lent) s.known s.hash s.queue → IsApart f d c s
  strange_is (inl later) = inl (Later (subst (λ n. n < s.known) len_is later))
  strange_is (inr (inl other)) = inr (λ e. other (e ∙ sym (ap (λ h. hash_at h s.known) hashes_is)))
  strange_is (inr (inr (inl none))) = inl (Unknown none.0 none.1)
  strange_is (inr (inr (inr others))) = inl (Others others)

  -- what the queue meets, where it isn't strange
  pub meets_all : (IsStrange d (map sha256 lent) s.known s.hash s.queue → ⊥) → (s.hash ≡ hash_at (map sha256 lent) s.known) → AreOf d s.queue → QueueMeets d c (plain s) → Meets f d c s
  meets_all ours hash own queue = record {
    within = low_or (λ more. ours (inl more));
    hash = hash ∙ ap (λ h. hash_at h s.known) hashes_is;
    started = λ some. above (λ none. ours (inr (inr (inl (none, some)))));
    own = own;
    queue = queue;
  }
    where
      low_or : (length (map sha256 lent) < s.known → ⊥) → s.known ≤ length c
      low_or never = elim (nat_le s.known (length c)) as (λ b. nat_le s.known (length c) ≡ b → s.known ≤ length c) [
        | true ↦ λ e. grind (arith, nat_tests, e)
        | false ↦ λ e. (let more : length c < s.known = grind (arith, nat_tests, e) in absurd (never (subst (λ n. n < s.known) (sym len_is) more)))
      ] refl

      above : (s.known ≡ 0 → ⊥) → 0 < s.known
      above never = elim (nat_eq s.known 0) as (λ b. nat_eq s.known 0 ≡ b → 0 < s.known) [
        | true ↦ λ e. absurd (never (eqb-true s.known 0 e))
        | false ↦ λ e. grind (arith, nat_tests, e)
      ] refl

  pub takes_of : (own : Option Own) (taking : Option Taking) (last : ℕ) → Meets f d c s → IsFirstOwn d s.known (drop s.known c) own → IsSound s.known (length c) own → meets own last s.base (s.base + length s.queue) ≡ true → IsTakingOf (map sha256 lent) s.base own taking → Takes f d c s taking
  takes_of None None last m h sound test t = record { same = sym (ap (λ o. option_map_or (λ (own : ℕ × ℕ). taken own.0 own.1 (plain s)) o (plain s)) h.none); within = m.within; hash = m.hash }
  takes_of None (Some t) last m h sound test is = absurd is
  takes_of (Some own) None last m h sound test is = absurd is
  takes_of (Some own) (Some t) last m h sound test is =
      let first = (begins own last s.base (s.base + length s.queue) test).0 in
      let count = is.1 in
      let order = sound.2 in
      let counted : t.count ≡ own.last + 1 - own.first = omega (arith, count, first, order) in
      record {
        same = (λ i. taken (is.0 i) (counted i) (plain s)) ∙ sym (ap (λ o. option_map_or (λ (own : ℕ × ℕ). taken own.0 own.1 (plain s)) o (plain s)) h.first);
        within = subst (λ n. n ≤ length c) (sym is.0) sound.1;
        hash = is.2 ∙ ap (λ h. hash_at h own.number) hashes_is ∙ ap (hash_at (hashes_of f.revisions)) (sym is.0);
      }

pub err_started : {X Y : Type 0} (fault : StartFault) (P : X → Type 0) (Q : Y → Type 0) (R S : Type 0) → (R → S) → (let x : Result X StartFault = Err fault in IfStarted x P R) → (let y : Result Y StartFault = Err fault in IfStarted y Q S)
err_started start.Foreign P Q R S h r = h r
err_started (start.BadFolder number) P Q R S h r = absurd r
err_started start.Memory P Q R S h r = tt
