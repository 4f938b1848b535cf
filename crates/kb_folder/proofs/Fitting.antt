-- A revision that extends the chain fits.
use Rattle.std.proofs.Common.{◌≡◌, ℕ, suc, ◌+◌, ◌-◌, ◌≤◌, Bool, true, false, cond, List, [], ◌∷◌, length, map, get_or, Option, Some, None, refl, sym, ap, subst, ◌∙◌, arith}
use Rattle.std.specs.Prelude.{not, ◌&&◌, nat_le, nat_eq, IsSome, is_some, is_none}
use Rattle.std.specs.List.{range_with_len, filter}
use Rattle.std.proofs.lemmas.Bool.{eqb-true, eq-eqb}
use Rattle.std.proofs.lemmas.Bool.Decides.{nat_tests}
use Rattle.std.proofs.lemmas.List.Folds.{list_any_at}
use Rattle.std.proofs.lemmas.List.FromFn.{length-range_with_len, get_or-range_with_len}
use Rattle.kb_keys.specs.declared.policy.Role.{Role}
use Rattle.kb_keys.specs.declared.policy.Role.TheVariants.{Writer}
use Rattle.kb_keys.specs.declared.policy.Action.TheVariants as action
use Rattle.kb_keys.specs.declared.halves.Half.{Half}
use Rattle.kb_keys.specs.declared.entries.Entry.{Entry}
use Rattle.kb_keys.specs.Policies.{role_at}
use Rattle.kb_chain.specs.declared.revisions.RevisionKind.{RevisionKind}
use Rattle.kb_chain.specs.declared.revisions.RevisionKind.TheVariants.{Found, Step, Steps, Merge, Join, Rekey}
use Rattle.kb_chain.specs.declared.bundles.BundlePart.{BundlePart}
use Rattle.kb_chain.specs.declared.revisions.Revision.{Revision}
use Rattle.kb_chain.specs.declared.states.ChainState.{ChainState}
use Rattle.kb_chain.specs.Checks.{Roles, is_writer, stays, writes_on, has_other_writer, are_at, granted, remaining, are_halves, entries_of, fits, fits_number, fits_part}
use Rattle.kb_snap.specs.Chains.{Deed}
use Rattle.kb_snap.specs.Members.{generation_by}
use Rattle.kb_folder.proofs.KindCases.{by_step, by_rule}
use Rattle.kb_folder.specs.Chains.{Back, Place, places_by, members, role_in, generation_in}
use Rattle.kb_folder.proofs.Behind.{HasOtherWriter, FitsBehind}
use Rattle.kb_folder.proofs.Turning.{role_by}
use Rattle.kb_snap.specs.Chains.Deed.{Founded, Stepped, Merged, Rekeyed}
use Rattle.kb_folder.specs.Stands.{step_kind, merge_kind, kind_of, entries_for, bundle_for}
use Rattle.kb_folder.specs.Lands.{sent_for}

both : (a b : Bool) → a ≡ true → b ≡ true → (a && b) ≡ true
both true true p q = refl
both true false p q = cc
both false b p q = cc

same : (n : ℕ) → nat_eq n n ≡ true
same n = eq-eqb n n refl

is_le : (a b : ℕ) → a ≤ b → nat_le a b ≡ true
is_le a b h = grind (arith, nat_tests)

other_number : (n len : ℕ) → n ≡ suc len + 1 → not (nat_eq n 1) ≡ true
other_number n len e = grind (arith, nat_tests)

module _ (sealed : List ℕ → List ℕ → List ℕ) (seed : List ℕ) where
  at_places : (ps : List Place) → are_at (entries_for sealed seed ps) ps ≡ true
  at_places [] = refl
  at_places (p ∷ ps) = both (nat_eq p.0 p.0 && nat_eq p.1 p.1) (are_at (entries_for sealed seed ps) ps) (both (nat_eq p.0 p.0) (nat_eq p.1 p.1) (same p.0) (same p.1)) (at_places ps)

  halves_fit : (ps : List Place) → are_halves (entries_for sealed seed ps) (sent_for seed ps) ≡ true
  halves_fit [] = refl
  halves_fit (p ∷ ps) = both (nat_eq p.0 p.0 && nat_eq p.1 p.1) (are_halves (entries_for sealed seed ps) (sent_for seed ps)) (both (nat_eq p.0 p.0) (nat_eq p.1 p.1) (same p.0) (same p.1)) (halves_fit ps)

none_is : (o : Option Role) → o ≡ None → is_none o ≡ true
none_is None e = refl
none_is (Some x) e = cc

pub filter_same : (p q : ℕ → Bool) → ((d : ℕ) → p d ≡ q d) → (xs : List ℕ) → filter p xs ≡ filter q xs
filter_same p q h [] = refl
filter_same p q h (x ∷ xs) = ap (λ b. cond b (x ∷ filter p xs) (filter p xs)) (h x) ∙ ap (λ ys. cond (q x) (x ∷ ys) ys) (filter_same p q h xs)

pub stays_is : (roles : Roles) (before : ℕ → Option Role) → ((d : ℕ) → role_at roles d ≡ before d) → (who d : ℕ) → stays roles who d ≡ is_some (cond (nat_eq d who) None (before d))
stays_is roles before h who d = elim (nat_eq d who) as (λ b. (not b && is_some (role_at roles d)) ≡ is_some (cond b None (before d))) [ true ↦ refl | false ↦ ap (λ (o : Option Role). is_some o) (h d) ]

pub other_writer : (roles : Roles) (c : Back) (who : ℕ) → ((d : ℕ) → role_at roles d ≡ role_in c d) → ((d : ℕ) → IsSome (role_in c d) → (1 ≤ d) × (d ≤ 32)) → HasOtherWriter c who → has_other_writer roles who ≡ true
other_writer roles c who h few w =
    let d = w.0 in
    let role : role_at roles d ≡ Some Writer = h d ∙ w.1.1 in
    let within = few d (subst (λ (o : Option Role). IsSome o) (sym w.1.1) refl) in
    let low = within.0 in let high = within.1 in
    let off : nat_eq d who ≡ false = not_same d who w.1.0 in
    let size : length (range_with_len 1 32) ≡ 32 = length-range_with_len 1 32 in
    let at : get_or (range_with_len 1 32) (d - 1) 0 ≡ d = get_or-range_with_len 1 32 (d - 1) 0 (omega (arith, low, high)) ∙ (let e : 1 + (d - 1) ≡ d = omega (arith, low) in e) in
    list_any_at (writes_on roles who) (range_with_len 1 32) (d - 1) 0 (omega (arith, low, high, size))
    (ap (writes_on roles who) at ∙ ap (λ b. not b && is_writer (role_at roles d)) off ∙ ap is_writer role)
  where
    not_same : (a b : ℕ) → (a ≡ b → ⊥) → nat_eq a b ≡ false
    not_same a b f = elim (nat_eq a b) as (λ z. nat_eq a b ≡ z → nat_eq a b ≡ false) [ true ↦ λ e. absurd (f (eqb-true a b e)) | false ↦ λ e. e ] refl

module _ (sealed : List ℕ → List ℕ → List ℕ) (seed : List ℕ) (s : ChainState) (r : Revision) where
  -- where the kind, the bundle and the halves are as they should be
  fits_with : (k : RevisionKind) (o : Option BundlePart) (halves : List Half) → r.kind ≡ k → r.bundle ≡ o → fits_number k r.number ≡ true → fits_part s r k o ≡ true → are_halves (entries_of o) halves ≡ true → fits s r halves ≡ true
  fits_with k o halves ek eo n p h =
      ap (λ (z : RevisionKind). fits_number z r.number && (fits_part s r z r.bundle && are_halves (entries_of r.bundle) halves)) ek
      ∙ ap (λ (z : Option BundlePart). fits_number k r.number && (fits_part s r k z && are_halves (entries_of z) halves)) eo
      ∙ both (fits_number k r.number) (fits_part s r k o && are_halves (entries_of o) halves) n (both (fits_part s r k o) (are_halves (entries_of o) halves) p h)

  grant_fits : (p : BundlePart) (who g : ℕ) → p.device ≡ who → p.entries ≡ entries_for sealed seed (granted who g) → r.generation ≡ g → s.policy.1 ≡ g → 1 ≤ who → who ≤ s.registered → is_none (role_at s.policy.0 who) ≡ true
      → (nat_eq r.generation s.policy.1 && (nat_le 1 p.device && (nat_le p.device s.registered && (is_none (role_at s.policy.0 p.device) && are_at p.entries (granted p.device s.policy.1))))) ≡ true
  grant_fits p who g pd pe rg sg low high none =
      both (nat_eq r.generation s.policy.1) _ (eq-eqb r.generation s.policy.1 (rg ∙ sym sg))
      (subst (λ d. (nat_le 1 d && (nat_le d s.registered && (is_none (role_at s.policy.0 d) && are_at p.entries (granted d s.policy.1)))) ≡ true) (sym pd)
      (both (nat_le 1 who) _ (is_le 1 who low) (both (nat_le who s.registered) _ (is_le who s.registered high) (both (is_none (role_at s.policy.0 who)) _ none
      (ap (λ (es : List Entry). are_at es (granted who s.policy.1)) pe ∙ ap (λ n. are_at (entries_for sealed seed (granted who g)) (granted who n)) sg ∙ at_places sealed seed (granted who g))))))

  -- what may follow the chain fits
  pub follows_fits : (c : Back) (w m : ℕ) (deed : Deed) (halves : List Half) → FitsBehind s.registered c m deed → ((d : ℕ) → role_at s.policy.0 d ≡ role_in c d) → s.policy.1 ≡ generation_in c → ((d : ℕ) → IsSome (role_in c d) → (1 ≤ d) × (d ≤ 32))
      → r.writer ≡ w → r.kind ≡ kind_of deed → r.number ≡ length c + 1 → r.generation ≡ generation_by deed (generation_in c)
      → r.bundle ≡ bundle_for sealed seed w deed (places_by (λ q. role_by w deed q (role_in c q)) (generation_by deed (generation_in c)) w deed)
      → halves ≡ sent_for seed (places_by (λ q. role_by w deed q (role_in c q)) (generation_by deed (generation_in c)) w deed) → fits s r halves ≡ true
  follows_fits [] w m Founded halves f roles sg few rw k n g b h =
      let ps : List Place = (w, 1) ∷ [] in
      fits_with Found _ halves k b (eq-eqb r.number 1 n)
      (both (nat_eq w r.writer) _ (eq-eqb w r.writer (sym rw)) (both (nat_eq r.generation 1) _ (eq-eqb r.generation 1 g) (ap (λ d. are_at (entries_for sealed seed ps) ((d, 1) ∷ [])) rw ∙ at_places sealed seed ps)))
      (ap (are_halves (entries_for sealed seed ps)) h ∙ halves_fit sealed seed ps)
  follows_fits (y ∷ c) w m Founded halves f roles sg few rw k n g b h = absurd f
  follows_fits [] w m (Stepped ops) halves f roles sg few rw k n g b h = absurd f
  follows_fits (y ∷ c) w m (Stepped ops) halves f roles sg few rw k n g b h = (let other = other_number r.number (length c) n in let same = eq-eqb r.generation s.policy.1 (g ∙ sym sg) in fits_with (step_kind ops) None halves k b (by_step (λ z. fits_number z r.number ≡ true) ops other other) (by_step (λ z. fits_part s r z None ≡ true) ops same same) (ap (are_halves []) h))
  follows_fits [] w m (Merged base rule ops) halves f roles sg few rw k n g b h = absurd f
  follows_fits (y ∷ c) w m (Merged base rule ops) halves f roles sg few rw k n g b h = (let other = other_number r.number (length c) n in let same = eq-eqb r.generation s.policy.1 (g ∙ sym sg) in fits_with (merge_kind rule) None halves k b (by_rule (λ z. fits_number z r.number ≡ true) rule other other) (by_rule (λ z. fits_part s r z None ≡ true) rule same same) (ap (are_halves []) h))
  follows_fits [] w m (Rekeyed a who) halves f roles sg few rw k n g b h = absurd f
  follows_fits (y ∷ c) w m (Rekeyed action.Found who) halves f roles sg few rw k n g b h = absurd f
  follows_fits (y ∷ c) w m (Rekeyed action.GrantWriter who) halves f roles sg few rw k n g b h =
      let ps = granted who (generation_in (y ∷ c)) in
      fits_with Rekey _ halves k b (other_number r.number (length c) n)
      (grant_fits (record { action = action.GrantWriter; device = who; entries = entries_for sealed seed ps }) who (generation_in (y ∷ c)) refl refl g sg f.0 f.1 (none_is (role_at s.policy.0 who) (roles who ∙ f.2)))
      (ap (are_halves (entries_for sealed seed ps)) h ∙ halves_fit sealed seed ps)
  follows_fits (y ∷ c) w m (Rekeyed action.GrantReader who) halves f roles sg few rw k n g b h =
      let ps = granted who (generation_in (y ∷ c)) in
      fits_with Rekey _ halves k b (other_number r.number (length c) n)
      (grant_fits (record { action = action.GrantReader; device = who; entries = entries_for sealed seed ps }) who (generation_in (y ∷ c)) refl refl g sg f.0 f.1 (none_is (role_at s.policy.0 who) (roles who ∙ f.2)))
      (ap (are_halves (entries_for sealed seed ps)) h ∙ halves_fit sealed seed ps)
  follows_fits (y ∷ c) w m (Rekeyed action.Revoke who) halves f roles sg few rw k n g b h =
      let last = generation_in (y ∷ c) in
      let ps : List Place = map (λ d. (d, last + 1)) (members (λ q. cond (nat_eq q who) None (role_in (y ∷ c) q))) in
      let left : remaining s.policy.0 who r.generation ≡ ps = ap (λ n. map (λ d. (d, n)) (filter (stays s.policy.0 who) (range_with_len 1 32))) g ∙ ap (map (λ d. (d, last + 1))) (filter_same (stays s.policy.0 who) _ (stays_is s.policy.0 (role_in (y ∷ c)) roles who) (range_with_len 1 32)) in
      fits_with Rekey _ halves k b (other_number r.number (length c) n)
      (both (nat_eq r.generation (s.policy.1 + 1)) _ (eq-eqb r.generation (s.policy.1 + 1) (g ∙ ap (λ n. n + 1) (sym sg)))
      (both (is_some (role_at s.policy.0 who)) _ (ap (λ (o : Option Role). is_some o) (roles who) ∙ f.0)
      (both (has_other_writer s.policy.0 who) _ (other_writer s.policy.0 (y ∷ c) who roles few f.1)
      (ap (are_at (entries_for sealed seed ps)) left ∙ at_places sealed seed ps))))
      (ap (are_halves (entries_for sealed seed ps)) h ∙ halves_fit sealed seed ps)
