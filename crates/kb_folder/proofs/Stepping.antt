-- A put answers what the plain folder may answer.
use Rattle.std.proofs.Common.{◌≡◌, ◌≢◌, ℕ, suc, ◌+◌, ◌<◌, ◌≤◌, Bool, true, false, cond, List, [], ◌∷◌, ◌++◌, length, Option, Some, None, Result, Ok, Err, inl, inr, refl, sym, ap, subst, ◌∙◌, arith}
use Rattle.std.specs.Prelude.{◌⊎◌, not, ◌&&◌, nat_le, nat_eq, IsSome}
use Rattle.std.specs.FinMap.{get}
use Rattle.std.specs.Str.{bytes_eq}
use Rattle.std.proofs.lemmas.Bool.{eqb-true, eq-eqb}
use Rattle.std.proofs.lemmas.Bool.Decides.{nat_tests}
use Rattle.std.proofs.lemmas.Slice.Eq.{bytes_eq-Decides}
use Rattle.kb_ops.specs.declared.rows.Op.{Op}
use Rattle.kb_keys.specs.declared.policy.Role.{Role}
use Rattle.kb_keys.specs.declared.policy.Role.TheVariants.{Writer, Reader}
use Rattle.kb_keys.specs.Secrets.{device_secret}
use Rattle.kb_keys.specs.Policies.{role_at}
use Rattle.kb_blocks.specs.Stores.{Collides}
use Rattle.kb_chain.specs.declared.revisions.Revision.{Revision}
use Rattle.kb_chain.specs.declared.states.FolderRequest.{FolderRequest}
use Rattle.kb_chain.specs.declared.states.PutRefusal.{PutRefusal}
use Rattle.kb_chain.specs.declared.states.PutRefusal.TheVariants as why
use Rattle.kb_chain.specs.Revisions.{revision_text, signed_text, IsRevision}
use Rattle.kb_chain.specs.Checks.{unless, may_write, is_writer, is_signed, is_next, goes_on, last_of, fits}
use Rattle.kb_chain.proofs.InTurn.{once_revision}
use Rattle.kb_snap.specs.Chains.{Deed, ops_in}
use Rattle.kb_snap.specs.Lawful.{CountsFrom}
use Rattle.kb_folder.proofs.KindCases.{by_step, by_rule}
use Rattle.kb_folder.specs.Chains.{Plain, Back, Names, ops_of, role_in, IsAllowed}
use Rattle.kb_folder.proofs.Behind.{MayWrite, FitsBehind, fits_behind, may_of, allowed_of}
use Rattle.kb_folder.proofs.Turning.{gen_next, places_next}
use Rattle.kb_snap.specs.Chains.Deed.{Founded, Stepped, Merged, Rekeyed}
use Rattle.kb_folder.specs.Stands.{HaveSeqs, kind_of, bundle_for}
use Rattle.kb_folder.specs.Puts.{Held, Judges, Puts, checked_in, secret_at}
use Rattle.kb_folder.specs.Lands.{FolderStands, Extends, IsRequestOf, FolderStep, chain_after, sent_for}
use Rattle.kb_folder.proofs.Verdicts.{passes, writer_few, first_of, second_of}
use Rattle.kb_folder.proofs.Standing.{lands, stands_length}
use Rattle.kb_folder.proofs.Fitting.{follows_fits}

refusal_in : PutRefusal → Result (Unit {0}) PutRefusal → PutRefusal
refusal_in e (Ok u) = e
refusal_in e (Err f) = f

-- a writer's own request is refused as no writer's, or as stale
only_two : (m b n g i : Bool) (stale gap e : PutRefusal) → (m ≡ true → b ≡ true) → (m ≡ true → n ≡ true → g ≡ true) → (m ≡ true → n ≡ true → i ≡ true)
    → unless m why.NotWriter (unless b why.BadSignature (unless n stale (unless g gap (unless i why.BadFit (Ok tt))))) ≡ Err e → ((m ≡ false) × (why.NotWriter ≡ e)) ⊎ ((m ≡ true) × (n ≡ false) × (stale ≡ e))
unfolding refusal_in
only_two false b n g i stale gap e hb hg hi h = inl (refl, ap (refusal_in e) h)
only_two true false n g i stale gap e hb hg hi h = let bad : false ≡ true = hb refl in cc
only_two true true false g i stale gap e hb hg hi h = inr (refl, refl, ap (refusal_in e) h)
only_two true true true false i stale gap e hb hg hi h = let bad : false ≡ true = hg refl refl in cc
only_two true true true true false stale gap e hb hg hi h = let bad : false ≡ true = hi refl refl in cc
only_two true true true true true stale gap e hb hg hi h = cc

le_is : (a b : ℕ) → nat_le a b ≡ true → a ≤ b
le_is a b h = grind (arith, nat_tests)

is_le : (a b : ℕ) → a ≤ b → nat_le a b ≡ true
is_le a b h = grind (arith, nat_tests)

both : (a b : Bool) → a ≡ true → b ≡ true → (a && b) ≡ true
both true true p q = refl
both true false p q = cc
both false b p q = cc

writer_told : (o : Option Role) → is_writer o ≡ true → o ≡ Some Writer
writer_told (Some Writer) h = refl
writer_told (Some Reader) h = cc
writer_told None h = cc

other_number : (n len : ℕ) → n ≡ suc len + 1 → not (nat_eq n 1) ≡ true
other_number n len e = grind (arith, nat_tests)

module _ (registered : ℕ) (policy : List (Option Role) × ℕ) where
  -- the test of the writer is D-allowedness over the chain
  allowed_told : (c : Back) (w len : ℕ) → len ≡ length c → ((d : ℕ) → role_at policy.0 d ≡ role_in c d) → cond (nat_eq len 0) (nat_le 1 w && nat_le w registered) (is_writer (role_at policy.0 w)) ≡ true → MayWrite registered c w
  allowed_told [] w len e roles h =
      let k = ap (λ b. cond b (nat_le 1 w && nat_le w registered) (is_writer (role_at policy.0 w))) (sym (eq-eqb len 0 e)) ∙ h in
      (le_is 1 w (first_of (nat_le 1 w) (nat_le w registered) k), le_is w registered (second_of (nat_le 1 w) (nat_le w registered) k))
  allowed_told (x ∷ c) w len e roles h =
      let some : nat_eq len 0 ≡ false = grind (arith, nat_tests, e) in
      let k = ap (λ b. cond b (nat_le 1 w && nat_le w registered) (is_writer (role_at policy.0 w))) (sym some) ∙ h in
      sym (roles w) ∙ writer_told (role_at policy.0 w) k

  allowed_back : (c : Back) (w len : ℕ) → len ≡ length c → ((d : ℕ) → role_at policy.0 d ≡ role_in c d) → MayWrite registered c w → cond (nat_eq len 0) (nat_le 1 w && nat_le w registered) (is_writer (role_at policy.0 w)) ≡ true
  allowed_back [] w len e roles h = ap (λ b. cond b (nat_le 1 w && nat_le w registered) (is_writer (role_at policy.0 w))) (eq-eqb len 0 e) ∙ both (nat_le 1 w) (nat_le w registered) (is_le 1 w h.0) (is_le w registered h.1)
  allowed_back (x ∷ c) w len e roles h =
      let some : nat_eq len 0 ≡ false = grind (arith, nat_tests, e) in
      ap (λ b. cond b (nat_le 1 w && nat_le w registered) (is_writer (role_at policy.0 w))) some ∙ ap is_writer (roles w ∙ h)

first_is : (first last n : ℕ) (ops : List Op) → HaveSeqs first last ops → CountsFrom (n + 1) ops → (ops ≡ [] → ⊥) → first ≡ n + 1
first_is first last n [] h k some = absurd (some refl)
first_is first last n (op ∷ ops) h k some = sym h.0.0 ∙ k.0

some_step : (registered : ℕ) (c : Back) (m : ℕ) (ops : List Op) → FitsBehind registered c m (Stepped ops) → ops ≡ [] → ⊥
some_step registered [] m ops f e = absurd f
some_step registered (y ∷ c) m ops f e = let none : length ops ≡ 0 = ap length e in let some = f.0 in absurd (omega (arith, none, some))

some_merge : (registered : ℕ) (c : Back) (m base rule : ℕ) (ops : List Op) → FitsBehind registered c m (Merged base rule ops) → ops ≡ [] → ⊥
some_merge registered [] m base rule ops f e = absurd f
some_merge registered (y ∷ c) m base rule ops f e = let none : length ops ≡ 0 = ap length e in let some = f.2 in absurd (omega (arith, none, some))

module _ (sealed signed : List ℕ → List ℕ → List ℕ) (hashed : List ℕ → List ℕ) (seed : List ℕ) (names : Names) (f new : Held) (c : Back) (request : FolderRequest) (x : Plain) (number : ℕ)
    (stands : FolderStands sealed signed hashed seed names f c) (own : IsRequestOf sealed signed hashed seed names f c request x number) where
  len_is : f.state.length ≡ length c
  len_is = sym stands.sound.counted ∙ stands_length sealed signed hashed seed names f.state.registered (get f.blocks) f.revisions c stands.stands

  allowed_in : may_write f.state own.revision.writer ≡ true → IsAllowed c x.writer
  allowed_in h = allowed_of f.state.registered c x.writer (allowed_told f.state.registered f.state.policy c x.writer f.state.length len_is stands.policy.roles (ap (may_write f.state) (sym own.writer) ∙ h))

  not_allowed : may_write f.state own.revision.writer ≡ false → IsAllowed c x.writer → ⊥
  not_allowed h a = let bad : true ≡ false = sym (allowed_back f.state.registered f.state.policy c x.writer f.state.length len_is stands.policy.roles (may_of f.state.registered c x.writer a own.registered)) ∙ ap (may_write f.state) (sym own.writer) ∙ h in cc

  signed_in : may_write f.state own.revision.writer ≡ true → is_signed signed own.revision (secret_at f.secrets own.revision.writer) ≡ true
  signed_in h =
      let within = writer_few f own.revision.writer stands.sound h in
      ap (is_signed signed own.revision) (stands.secrets own.revision.writer within.0 within.1)
      ∙ (bytes_eq-Decides own.revision.signature (signed (device_secret seed own.revision.writer) (signed_text own.revision))).1 (own.signature ∙ ap (λ w. signed (device_secret seed w) (signed_text own.revision)) (sym own.writer))

  same_as : (r : Revision) → IsRevision r → request.revision ≡ revision_text r → r ≡ own.revision
  same_as r is at = (once_revision r own.revision [] [] is own.is (ap (λ t. t ++ []) (sym at ∙ own.spelled))).0

  next_number : is_next f.state own.revision ≡ true → number ≡ length c + 1
  next_number h = sym own.number_is ∙ eqb-true own.revision.number (f.state.length + 1) (first_of _ _ h) ∙ ap (λ n. n + 1) len_is

  -- where the request extends the chain, it passes the further checks
  module _ (ext : Extends sealed signed hashed seed names f c request x) where
    spelled_as : ext.spells.revision ≡ own.revision
    spelled_as = same_as ext.spells.revision ext.spells.is ext.spells.spelled

    next_told : is_next f.state own.revision ≡ true
    next_told =
        let s = ext.spells in
        ap (is_next f.state) (sym spelled_as) ∙ both (nat_eq s.revision.number (f.state.length + 1)) (bytes_eq s.revision.previous f.state.head)
        (eq-eqb s.revision.number (f.state.length + 1) (s.number ∙ ap (λ n. n + 1) (sym len_is))) ((bytes_eq-Decides s.revision.previous f.state.head).1 (s.previous ∙ sym stands.head))

    seq_told : (deed : Deed) → FitsBehind f.state.registered c x.moment deed → HaveSeqs ext.spells.revision.first ext.spells.revision.last (ops_in deed) → CountsFrom (length (ops_of x.writer c) + 1) (ops_in deed) → goes_on f.state ext.spells.revision (kind_of deed) ≡ true
    seq_told Founded fit h n = refl
    seq_told (Rekeyed a who) fit h n = refl
    seq_told (Stepped ops) fit h n =
        let s = ext.spells in
        let goes = eq-eqb s.revision.first (last_of f.state.last s.revision.writer + 1) (first_is s.revision.first s.revision.last (length (ops_of x.writer c)) ops h n (some_step f.state.registered c x.moment ops fit) ∙ ap (λ n. n + 1) (ap (λ w. length (ops_of w c)) (sym s.writer) ∙ sym (stands.last s.revision.writer))) in
        by_step (λ z. goes_on f.state s.revision z ≡ true) ops goes goes
    seq_told (Merged base rule ops) fit h n =
        let s = ext.spells in
        let goes = eq-eqb s.revision.first (last_of f.state.last s.revision.writer + 1) (first_is s.revision.first s.revision.last (length (ops_of x.writer c)) ops h n (some_merge f.state.registered c x.moment base rule ops fit) ∙ ap (λ n. n + 1) (ap (λ w. length (ops_of w c)) (sym s.writer) ∙ sym (stands.last s.revision.writer))) in
        by_rule (λ z. goes_on f.state s.revision z ≡ true) rule goes goes

    few : (q : ℕ) → IsSome (role_in c q) → (1 ≤ q) × (q ≤ 32)
    few q some =
        let h = stands.sound.members q (subst (λ (o : Option Role). IsSome o) (sym (stands.policy.roles q)) some) in
        let top = stands.sound.few in let low = h.0 in let high = h.1 in
        (low, omega (arith, top, high))

    goes_told : goes_on f.state own.revision own.revision.kind ≡ true
    goes_told =
        let s = ext.spells in
        ap (λ (r : Revision). goes_on f.state r r.kind) (sym spelled_as) ∙ ap (goes_on f.state s.revision) s.kind
        ∙ seq_told x.deed (fits_behind f.state.registered c x few ext.follows) s.seqs ext.follows.counts

    fit_told : fits f.state own.revision request.halves ≡ true
    fit_told =
        let s = ext.spells in
        ap (λ (r : Revision). fits f.state r request.halves) (sym spelled_as)
        ∙ follows_fits sealed seed f.state s.revision c x.writer x.moment x.deed request.halves (fits_behind f.state.registered c x few ext.follows) stands.policy.roles stands.policy.generation few s.writer s.kind s.number (s.generation ∙ gen_next x c) (s.bundle ∙ ap (λ ps. bundle_for sealed seed x.writer x.deed ps) (places_next x c)) (ext.halves ∙ ap (sent_for seed) (places_next x c))

  refused : (e : PutRefusal) (r : Revision) → Judges signed hashed f request r (Err e) → ((may_write f.state own.revision.writer ≡ false) × (why.NotWriter ≡ e)) ⊎ ((may_write f.state own.revision.writer ≡ true) × (is_next f.state own.revision ≡ false) × (why.Stale f.state.length f.state.head ≡ e))
  refused e r judged =
      let same = same_as r judged.is judged.spelled in
      let verdict : checked_in signed hashed f request own.revision ≡ Err e = ap (checked_in signed hashed f request) (sym same) ∙ judged.verdict_is in
      only_two (may_write f.state own.revision.writer) (is_signed signed own.revision (secret_at f.secrets own.revision.writer)) (is_next f.state own.revision) (goes_on f.state own.revision own.revision.kind) (fits f.state own.revision request.halves) _ _ e
      signed_in (λ m n. goes_told (own.extends (allowed_in m) (next_number n))) (λ m n. fit_told (own.extends (allowed_in m) (next_number n))) verdict

  -- what passed is the next revision of a writer
  taken_as : (r : Revision) → Judges signed hashed f request r (Ok tt) → IsAllowed c x.writer × (number ≡ length c + 1)
  taken_as r judged =
      let same = same_as r judged.is judged.spelled in
      let passed = passes signed hashed f request r judged.verdict_is in
      (allowed_in (ap (λ (z : Revision). may_write f.state z.writer) (sym same) ∙ passed.may), next_number (ap (is_next f.state) (sym same) ∙ passed.next))

  no_writer : ((may_write f.state own.revision.writer ≡ false) × (why.NotWriter ≡ why.NotWriter)) ⊎ ((may_write f.state own.revision.writer ≡ true) × (is_next f.state own.revision ≡ false) × (why.Stale f.state.length f.state.head ≡ why.NotWriter)) → ¬ IsAllowed c x.writer
  no_writer (inl h) = not_allowed h.0
  no_writer (inr h) = let bad = h.2 in absurd (never f.state.length f.state.head bad)
    where
      never : (len : ℕ) (head : List ℕ) → why.Stale len head ≡ why.NotWriter → ⊥
      never len head e = cc

  neither : (e : PutRefusal) → (why.NotWriter ≡ e → ⊥) → ((len : ℕ) (head : List ℕ) → why.Stale len head ≡ e → ⊥) → ((may_write f.state own.revision.writer ≡ false) × (why.NotWriter ≡ e)) ⊎ ((may_write f.state own.revision.writer ≡ true) × (is_next f.state own.revision ≡ false) × (why.Stale f.state.length f.state.head ≡ e)) → ⊥
  neither e no_one none_stale (inl h) = no_one h.1
  neither e no_one none_stale (inr h) = none_stale f.state.length f.state.head h.2

  stale : (len : ℕ) (head : List ℕ) → ((may_write f.state own.revision.writer ≡ false) × (why.NotWriter ≡ why.Stale len head)) ⊎ ((may_write f.state own.revision.writer ≡ true) × (is_next f.state own.revision ≡ false) × (why.Stale f.state.length f.state.head ≡ why.Stale len head))
      → IsAllowed c x.writer × (number ≢ length c + 1) × (len ≡ length c)
  stale len head (inl h) = absurd (never h.1)
    where
      never : why.NotWriter ≡ why.Stale len head → ⊥
      never e = cc
  stale len head (inr h) = (allowed_in h.0, (λ e. let ok = next_told (own.extends (allowed_in h.0) e) in differ ok h.1), same_len h.2 ∙ len_is)
    where
      differ : is_next f.state own.revision ≡ true → is_next f.state own.revision ≡ false → ⊥
      differ p q = let bad : true ≡ false = sym p ∙ q in cc

      same_len : why.Stale f.state.length f.state.head ≡ why.Stale len head → len ≡ f.state.length
      same_len e = cc

  pub answers : (result : Result ℕ PutRefusal) → Puts signed hashed f request new result → result ≢ Err why.Memory
      → FolderStep f.limit c x.writer number (Collides hashed f.blocks request.blocks) result × FolderStands sealed signed hashed seed names new (chain_after c x result)
  answers (Ok n) p some =
      let t = taken_as p.revision p.judged in
      ((t.0, t.1, subst (λ k. k < f.limit) len_is p.room, p.number_is ∙ ap (λ k. k + 1) len_is ∙ sym t.1), lands sealed signed hashed seed names f new c request x n stands (own.extends t.0 t.1) p)
  answers (Err why.BadRevision) p some = absurd (p.0 own.revision own.is own.spelled)
  answers (Err why.NotWriter) p some = (no_writer (refused why.NotWriter p.0.0 p.0.1), stay p.1)
    where
      stay : new ≡ f → FolderStands sealed signed hashed seed names new c
      stay e = subst (λ (g : Held). FolderStands sealed signed hashed seed names g c) (sym e) stands
  answers (Err why.BadSignature) p some = absurd (neither why.BadSignature (λ e. cc) (λ len head e. cc) (refused why.BadSignature p.0.0 p.0.1))
  answers (Err (why.Stale len head)) p some = (stale len head (refused (why.Stale len head) p.0.0 p.0.1), subst (λ (g : Held). FolderStands sealed signed hashed seed names g c) (sym p.1) stands)
  answers (Err (why.SeqGap expected)) p some = absurd (neither (why.SeqGap expected) (λ e. cc) (λ len head e. cc) (refused (why.SeqGap expected) p.0.0 p.0.1))
  answers (Err why.BadFit) p some = absurd (neither why.BadFit (λ e. cc) (λ len head e. cc) (refused why.BadFit p.0.0 p.0.1))
  answers (Err why.ChainEnd) p some =
      let t = taken_as p.0.0.0 p.0.0.1 in
      ((t.0, t.1, subst (λ k. f.limit ≤ k) len_is p.0.1), subst (λ (g : Held). FolderStands sealed signed hashed seed names g c) (sym p.1) stands)
  answers (Err (why.Collision id)) p some =
      let t = taken_as p.0.0.0 p.0.0.1 in
      ((t.0, t.1, subst (λ k. k < f.limit) len_is p.0.1, p.0.2), subst (λ (g : Held). FolderStands sealed signed hashed seed names g c) (sym p.1) stands)
  answers (Err why.Memory) p some = absurd (some refl)
