-- What the tests before the private part tell of the facts.
use Rattle.std.proofs.Common.{◌≡◌, ◌≢◌, ℕ, suc, ◌+◌, ◌-◌, ◌≤◌, ◌<◌, Bool, true, false, cond, List, [], ◌∷◌, length, map, Option, Some, None, Result, Ok, Err, refl, sym, ap, subst, ◌∙◌, arith}
use Rattle.std.specs.Prelude.{not, ◌&&◌, nat_le, nat_eq, IsSome, is_some, is_none}
use Rattle.std.specs.List.{range_with_len, filter, list_any, Any, AllByRecursion}
use Rattle.std.specs.Str.{bytes_eq}
use Rattle.std.proofs.lemmas.Bool.{eqb-true, eq-eqb}
use Rattle.std.proofs.lemmas.Bool.Decides.{nat_tests}
use Rattle.std.proofs.lemmas.Slice.Eq.{bytes_eq-Decides}
use Rattle.std.proofs.lemmas.List.Folds.{Any-from_list_any}
use Rattle.kb_keys.specs.declared.policy.Role.{Role}
use Rattle.kb_keys.specs.declared.policy.Role.TheVariants.{Writer, Reader}
use Rattle.kb_keys.specs.declared.policy.Action.{Action}
use Rattle.kb_keys.specs.declared.policy.Action.TheVariants as action
use Rattle.kb_keys.specs.declared.entries.Entry.{Entry}
use Rattle.kb_keys.specs.Secrets.{device_secret, folder_key}
use Rattle.kb_keys.specs.Policies.{role_at}
use Rattle.kb_keys.specs.Bundles.{is_entry, made_entry}
use Rattle.kb_files.specs.Opens.{Blocks}
use Rattle.kb_chain.specs.declared.revisions.RevisionKind.{RevisionKind}
use Rattle.kb_chain.specs.declared.revisions.RevisionKind.TheVariants.{Found, Step, Steps, Merge, Join, Rekey}
use Rattle.kb_chain.specs.declared.bundles.BundlePart.{BundlePart}
use Rattle.kb_chain.specs.declared.revisions.Revision.{Revision}
use Rattle.kb_chain.specs.declared.states.ChainState.{ChainState}
use Rattle.kb_chain.specs.Revisions.{IsRevision, IsBundleOf, signed_text}
use Rattle.kb_chain.specs.Checks.{Roles, is_writer, stays, writes_on, has_other_writer, may_write, is_signed, goes_on, last_of, fits_number, fits_part, fits_grant, fits_revocation, fits_action, fits_founding, are_at, granted, remaining, entries_of}
use Rattle.kb_folder.specs.Chains.{Plain, Back, Names, Place, role_in, generation_in, members, places_by, places_of, ops_of, IsAllowed}
use Rattle.kb_folder.specs.Reading.{IsChain}
use Rattle.kb_folder.specs.Stands.{Revisions, PolicyStands, entries_for, bundle_for, head_of}
use Rattle.kb_folder.proofs.Verdicts.{first_of, second_of, is_some_told}
use Rattle.kb_folder.proofs.Fitting.{filter_same, stays_is, other_writer}
use Rattle.kb_folder.proofs.Behind.{HasOtherWriter, IsRekey}
use Rattle.kb_folder.proofs.Turning.{role_by, gen_next, places_next}
use Rattle.kb_audit.proofs.Members.{members_few, allowed_told, allowed_back, may_from, writer_from, rekey_told, rekey_from}
use Rattle.kb_snap.specs.Chains.{Deed}
use Rattle.kb_snap.specs.Chains.Deed.{Founded, Stepped, Merged, Rekeyed}
use Rattle.kb_snap.specs.Members.{generation_by}
use Rattle.kb_keys.specs.Policies.{generation_after}
use Rattle.kb_snap.proofs.Lists.{none_length}
use Rattle.kb_audit.proofs.Equal.{places_then}
use Rattle.kb_audit.specs.declared.faults.AuditWhy.{AuditWhy}
use Rattle.kb_audit.specs.declared.faults.AuditWhy.TheVariants as why
use Rattle.kb_audit.specs.Facts.{HasWriter, HasSeq, MayDo, HasFit, HasSignature, outline_of, deed_by, plain_by}
use Rattle.kb_audit.specs.Judged.{unless, judged, fits_members, IsMade, AreMade}
use Rattle.kb_audit.specs.Audits.{Knows, IsOpen, Lacks}

not_true : (b : Bool) → b ≡ false → b ≡ true → ⊥
not_true true e h = cc
not_true false e h = cc

le_is : (a b : ℕ) → nat_le a b ≡ true → a ≤ b
le_is a b h = grind (arith, nat_tests)

is_le : (a b : ℕ) → a ≤ b → nat_le a b ≡ true
is_le a b h = grind (arith, nat_tests)

both : (a b : Bool) → a ≡ true → b ≡ true → (a && b) ≡ true
both true true p q = refl
both true false p q = cc
both false b p q = cc

none_is : (o : Option Role) → o ≡ None → is_none o ≡ true
none_is None e = refl
none_is (Some x) e = cc

other_number : (n len : ℕ) → n ≡ suc len + 1 → not (nat_eq n 1) ≡ true
other_number n len e = grind (arith, nat_tests)

-- ---- entries

entry_is : (sealed : List ℕ → List ℕ → List ℕ) (seed : List ℕ) (d g : ℕ) (e : Entry) → is_entry d g e ≡ true → IsMade sealed seed e → e ≡ made_entry sealed seed d g (folder_key seed g)
entry_is sealed seed d g e h made =
    let a : e.device ≡ d = eqb-true e.device d (first_of (nat_eq e.device d) (nat_eq e.generation g) h) in
    let b : e.generation ≡ g = eqb-true e.generation g (second_of (nat_eq e.device d) (nat_eq e.generation g) h) in
    made ∙ (λ i. made_entry sealed seed (a i) (b i) (folder_key seed (b i)))

entries_are : (sealed : List ℕ → List ℕ → List ℕ) (seed : List ℕ) (es : List Entry) (ps : List Place) → are_at es ps ≡ true → AreMade sealed seed es → es ≡ entries_for sealed seed ps
entries_are sealed seed [] [] h made = refl
entries_are sealed seed [] (p ∷ ps) h made = cc
entries_are sealed seed (e ∷ es) [] h made = cc
entries_are sealed seed (e ∷ es) (p ∷ ps) h made =
    let first = entry_is sealed seed p.0 p.1 e (first_of (is_entry p.0 p.1 e) (are_at es ps) h) made.0 in
    let rest = entries_are sealed seed es ps (second_of (is_entry p.0 p.1 e) (are_at es ps) h) made.1 in
    λ i. first i ∷ rest i

at_places : (sealed : List ℕ → List ℕ → List ℕ) (seed : List ℕ) (ps : List Place) → are_at (entries_for sealed seed ps) ps ≡ true
at_places sealed seed [] = refl
at_places sealed seed (p ∷ ps) = both (nat_eq p.0 p.0 && nat_eq p.1 p.1) (are_at (entries_for sealed seed ps) ps) (both (nat_eq p.0 p.0) (nat_eq p.1 p.1) (eq-eqb p.0 p.0 refl) (eq-eqb p.1 p.1 refl)) (at_places sealed seed ps)

all_made : (sealed : List ℕ → List ℕ → List ℕ) (seed : List ℕ) (ps : List Place) → AreMade sealed seed (entries_for sealed seed ps)
all_made sealed seed [] = tt
all_made sealed seed (p ∷ ps) = (refl, all_made sealed seed ps)

abbrev part_or : BundlePart → Option BundlePart → BundlePart
part_or p None = p
part_or p (Some q) = q

abbrev why_or : AuditWhy → Result (Unit {0}) AuditWhy → AuditWhy
why_or w (Ok u) = w
why_or w (Err e) = e

-- ---- members and keys

-- a change of the members fits what is known of the chain
module _ (sealed : List ℕ → List ℕ → List ℕ) (seed : List ℕ) (names : Names) (registered : ℕ) (bs : Revisions) (c : Back) (s : ChainState) (r : Revision) (k : Knows registered bs c s) (is : IsRevision r) (n : r.number ≡ length c + 1) where
  none_before : r.number ≡ 1 → c ≡ []
  none_before e = none_length c (omega (arith, n, e))

  some_before : not (nat_eq r.number 1) ≡ true → c ≢ []
  some_before h e = let one : r.number ≡ 1 = n ∙ ap (λ l. length l + 1) e in let t : nat_eq r.number 1 ≡ true = eq-eqb r.number 1 one in not_true (not (nat_eq r.number 1)) (ap not t) h

  number_other : c ≢ [] → not (nat_eq r.number 1) ≡ true
  number_other some = by c some n
    where
      by : (l : Back) → l ≢ [] → r.number ≡ length l + 1 → not (nat_eq r.number 1) ≡ true
      by [] f e = absurd (f refl)
      by (y ∷ l) f e = other_number r.number (length l) e

  abbrev Made : BundlePart → Type 0
  Made p = AreMade sealed seed p.entries

  -- the entries are those of the places that follow
  abbrev Grown : Action → BundlePart → Type 0
  Grown a p = IsRekey registered c a p.device × (r.generation ≡ generation_after a (generation_in c)) × (p.entries ≡ entries_for sealed seed (places_then c r.writer (Rekeyed a p.device)))

  role_none : (o : Option Role) → is_none o ≡ true → o ≡ None
  role_none None h = refl
  role_none (Some x) h = cc

  granting : (p : BundlePart) → fits_grant s r p ≡ true → Made p → ((1 ≤ p.device) × (p.device ≤ registered) × (role_in c p.device ≡ None)) × (r.generation ≡ generation_in c) × (p.entries ≡ entries_for sealed seed (granted p.device (generation_in c)))
  granting p h made =
      let fifth : Bool = are_at p.entries (granted p.device s.policy.1) in
      let fourth : Bool = is_none (role_at s.policy.0 p.device) && fifth in
      let third : Bool = nat_le p.device s.registered && fourth in
      let h2 = second_of (nat_eq r.generation s.policy.1) (nat_le 1 p.device && third) h in
      let h3 = second_of (nat_le 1 p.device) third h2 in
      let h4 = second_of (nat_le p.device s.registered) fourth h3 in
      let top : p.device ≤ s.registered = le_is p.device s.registered (first_of (nat_le p.device s.registered) fourth h3) in (
        (le_is 1 p.device (first_of (nat_le 1 p.device) third h2), subst (λ m. p.device ≤ m) k.registered_is top, sym (k.policy.roles p.device) ∙ role_none (role_at s.policy.0 p.device) (first_of (is_none (role_at s.policy.0 p.device)) fifth h4)),
        eqb-true r.generation s.policy.1 (first_of (nat_eq r.generation s.policy.1) (nat_le 1 p.device && third) h) ∙ k.policy.generation,
        entries_are sealed seed p.entries (granted p.device s.policy.1) (second_of (is_none (role_at s.policy.0 p.device)) fifth h4) made ∙ ap (λ g. entries_for sealed seed (granted p.device g)) k.policy.generation,
      )

  left_are : (who g : ℕ) → remaining s.policy.0 who g ≡ map (λ d. (d, g)) (members (λ q. cond (nat_eq q who) None (role_in c q)))
  left_are who g = ap (map (λ d. (d, g))) (filter_same (stays s.policy.0 who) _ (stays_is s.policy.0 (role_in c) k.policy.roles who) (range_with_len 1 32))

  writer_is : (o : Option Role) → is_writer o ≡ true → o ≡ Some Writer
  writer_is (Some Writer) h = refl
  writer_is (Some Reader) h = cc
  writer_is None h = cc

  unequal : (a b : ℕ) → not (nat_eq a b) ≡ true → a ≢ b
  unequal a b h e = let t : nat_eq a b ≡ true = eq-eqb a b e in not_true (not (nat_eq a b)) (ap not t) h

  another : (who : ℕ) → has_other_writer s.policy.0 who ≡ true → HasOtherWriter c who
  another who h =
      let found = Any-from_list_any (writes_on s.policy.0 who) (range_with_len 1 32) h in
      let d = found.1 in
      let it = found.4 in
      (d, (unequal d who (first_of (not (nat_eq d who)) (is_writer (role_at s.policy.0 d)) it), sym (k.policy.roles d) ∙ writer_is (role_at s.policy.0 d) (second_of (not (nat_eq d who)) (is_writer (role_at s.policy.0 d)) it)))

  revoking : (p : BundlePart) → fits_revocation s r p ≡ true → Made p → Grown action.Revoke p
  revoking p h made =
      let fourth : Bool = are_at p.entries (remaining s.policy.0 p.device r.generation) in
      let third : Bool = has_other_writer s.policy.0 p.device && fourth in
      let h2 = second_of (nat_eq r.generation (s.policy.1 + 1)) (is_some (role_at s.policy.0 p.device) && third) h in
      let h3 = second_of (is_some (role_at s.policy.0 p.device)) third h2 in
      let gen : r.generation ≡ generation_in c + 1 = eqb-true r.generation (s.policy.1 + 1) (first_of (nat_eq r.generation (s.policy.1 + 1)) (is_some (role_at s.policy.0 p.device) && third) h) ∙ ap (λ g. g + 1) k.policy.generation in (
        (subst (λ (o : Option Role). IsSome o) (k.policy.roles p.device) (is_some_told (role_at s.policy.0 p.device) (first_of (is_some (role_at s.policy.0 p.device)) third h2)), another p.device (first_of (has_other_writer s.policy.0 p.device) fourth h3), subst (λ g. g ≤ 64) gen is.rules.generation.1),
        gen,
        entries_are sealed seed p.entries (remaining s.policy.0 p.device r.generation) (second_of (has_other_writer s.policy.0 p.device) fourth h3) made
            ∙ ap (entries_for sealed seed) (left_are p.device r.generation) ∙ ap (λ g. entries_for sealed seed (map (λ d. (d, g)) (members (λ q. cond (nat_eq q p.device) None (role_in c q))))) gen,
      )

  by_action : (p : BundlePart) (a : Action) → (elim a [ action.Found ↦ false | action.GrantWriter ↦ fits_grant s r p | action.GrantReader ↦ fits_grant s r p | action.Revoke ↦ fits_revocation s r p ]) ≡ true → Made p → Grown a p
  by_action p action.Found h made = cc
  by_action p action.GrantWriter h made = granting p h made
  by_action p action.GrantReader h made = granting p h made
  by_action p action.Revoke h made = revoking p h made

  -- the fact, kind by kind
  abbrev FitsKind : RevisionKind → Option BundlePart → Type 0
  FitsKind kind part = MayDo registered c r.writer (deed_by kind part 0 []) × (r.generation ≡ generation_by (deed_by kind part 0 []) (generation_in c)) × (part ≡ bundle_for sealed seed r.writer (deed_by kind part 0 []) (places_then c r.writer (deed_by kind part 0 [])))

  kind_fits : (kind : RevisionKind) (part : Option BundlePart) → IsBundleOf kind part → fits_number kind r.number ≡ true → fits_part s r kind part ≡ true → AreMade sealed seed (entries_of part) → FitsKind kind part
  kind_fits Found None b m f made = absurd b
  kind_fits Found (Some p) b m f made =
      let none : c ≡ [] = none_before (eqb-true r.number 1 m) in
      let rest : Bool = nat_eq r.generation 1 && are_at p.entries (granted r.writer 1) in
      let f2 = second_of (nat_eq p.device r.writer) rest f in
      let own : p.device ≡ r.writer = eqb-true p.device r.writer (first_of (nat_eq p.device r.writer) rest f) in
      let es = entries_are sealed seed p.entries ((r.writer, 1) ∷ []) (second_of (nat_eq r.generation 1) (are_at p.entries (granted r.writer 1)) f2) made in
      (none, eqb-true r.generation 1 (first_of (nat_eq r.generation 1) (are_at p.entries (granted r.writer 1)) f2) ∙ ap (λ l. generation_in l + 1) (sym none), λ i. Some (record { action = b i; device = own i; entries = es i }))
  kind_fits Step (Some p) b m f made = absurd b
  kind_fits Step None b m f made = (some_before m, eqb-true r.generation s.policy.1 f ∙ k.policy.generation, refl)
  kind_fits Steps (Some p) b m f made = absurd b
  kind_fits Steps None b m f made = (some_before m, eqb-true r.generation s.policy.1 f ∙ k.policy.generation, refl)
  kind_fits Merge (Some p) b m f made = absurd b
  kind_fits Merge None b m f made = (some_before m, eqb-true r.generation s.policy.1 f ∙ k.policy.generation, refl)
  kind_fits Join (Some p) b m f made = absurd b
  kind_fits Join None b m f made = (some_before m, eqb-true r.generation s.policy.1 f ∙ k.policy.generation, refl)
  kind_fits Rekey None b m f made = absurd b
  kind_fits Rekey (Some p) b m f made =
      let grown = by_action p p.action f made in
      (rekey_told registered c r.writer p.action p.device (some_before m) grown.0, grown.1, λ i. Some (record { action = p.action; device = p.device; entries = grown.2 i }))

  pub fit_from : fits_members s r ≡ true → AreMade sealed seed (entries_of r.bundle) → HasFit sealed seed names registered c r
  fit_from f made =
      let by = kind_fits r.kind r.bundle is.rules.bundle (first_of (fits_number r.kind r.number) (fits_part s r r.kind r.bundle) f) (second_of (fits_number r.kind r.number) (fits_part s r r.kind r.bundle) f) made in
      record { may = by.0; generation = by.1 ∙ sym (gen_next (outline_of names r) c); bundle = by.2 ∙ ap (bundle_for sealed seed r.writer (outline_of names r).deed) (sym (places_next (outline_of names r) c)) }

  -- ---- and back

  module _ (few : (d : ℕ) → IsSome (role_in c d) → (1 ≤ d) × (d ≤ 32)) (allowed : IsAllowed c r.writer) where
    granted_back : (p : BundlePart) → (1 ≤ p.device) × (p.device ≤ registered) × (role_in c p.device ≡ None) → r.generation ≡ generation_in c → p.entries ≡ entries_for sealed seed (granted p.device (generation_in c)) → fits_grant s r p ≡ true
    granted_back p h g e =
        both (nat_eq r.generation s.policy.1) _ (eq-eqb r.generation s.policy.1 (g ∙ sym k.policy.generation))
        (both (nat_le 1 p.device) _ (is_le 1 p.device h.0)
        (both (nat_le p.device s.registered) _ (is_le p.device s.registered (subst (λ m. p.device ≤ m) (sym k.registered_is) h.1))
        (both (is_none (role_at s.policy.0 p.device)) _ (none_is (role_at s.policy.0 p.device) (k.policy.roles p.device ∙ h.2))
        (ap (λ (es : List Entry). are_at es (granted p.device s.policy.1)) e ∙ ap (λ n. are_at (entries_for sealed seed (granted p.device (generation_in c))) (granted p.device n)) k.policy.generation ∙ at_places sealed seed (granted p.device (generation_in c))))))

    revoked_back : (p : BundlePart) → Grown action.Revoke p → fits_revocation s r p ≡ true
    revoked_back p h =
        let g = generation_in c + 1 in
        let ps : List Place = map (λ d. (d, g)) (members (λ q. cond (nat_eq q p.device) None (role_in c q))) in
        both (nat_eq r.generation (s.policy.1 + 1)) _ (eq-eqb r.generation (s.policy.1 + 1) (h.1 ∙ ap (λ n. n + 1) (sym k.policy.generation)))
        (both (is_some (role_at s.policy.0 p.device)) _ (ap (λ (o : Option Role). is_some o) (k.policy.roles p.device) ∙ h.0.0)
        (both (has_other_writer s.policy.0 p.device) _ (other_writer s.policy.0 c p.device k.policy.roles few h.0.1)
        (ap (λ (es : List Entry). are_at es (remaining s.policy.0 p.device r.generation)) h.2 ∙ ap (are_at (entries_for sealed seed ps)) (left_are p.device r.generation ∙ ap (λ n. map (λ d. (d, n)) (members (λ q. cond (nat_eq q p.device) None (role_in c q)))) h.1) ∙ at_places sealed seed ps)))

    action_back : (p : BundlePart) (a : Action) → Grown a p → (elim a [ action.Found ↦ false | action.GrantWriter ↦ fits_grant s r p | action.GrantReader ↦ fits_grant s r p | action.Revoke ↦ fits_revocation s r p ]) ≡ true
    action_back p action.Found h = absurd h.0
    action_back p action.GrantWriter h = granted_back p h.0 h.1 h.2
    action_back p action.GrantReader h = granted_back p h.0 h.1 h.2
    action_back p action.Revoke h = revoked_back p h

    kind_back : (kind : RevisionKind) (part : Option BundlePart) → IsBundleOf kind part → FitsKind kind part → (fits_number kind r.number ≡ true) × (fits_part s r kind part ≡ true) × AreMade sealed seed (entries_of part)
    kind_back Found None b h = absurd b
    kind_back Found (Some p) b h =
        let q = ap (part_or p) h.2 in
        let own : p.device ≡ r.writer = ap (λ (z : BundlePart). z.device) q in
        let es : p.entries ≡ entries_for sealed seed ((r.writer, 1) ∷ []) = ap (λ (z : BundlePart). z.entries) q in (
          eq-eqb r.number 1 (n ∙ ap (λ l. length l + 1) h.0),
          both (nat_eq p.device r.writer) _ (eq-eqb p.device r.writer own) (both (nat_eq r.generation 1) _ (eq-eqb r.generation 1 (h.1 ∙ ap (λ l. generation_in l + 1) h.0)) (ap (λ (es : List Entry). are_at es ((r.writer, 1) ∷ [])) es ∙ at_places sealed seed ((r.writer, 1) ∷ []))),
          subst (AreMade sealed seed) (sym es) (all_made sealed seed ((r.writer, 1) ∷ [])),
        )
    kind_back Step (Some p) b h = absurd b
    kind_back Step None b h = (number_other h.0, eq-eqb r.generation s.policy.1 (h.1 ∙ sym k.policy.generation), tt)
    kind_back Steps (Some p) b h = absurd b
    kind_back Steps None b h = (number_other h.0, eq-eqb r.generation s.policy.1 (h.1 ∙ sym k.policy.generation), tt)
    kind_back Merge (Some p) b h = absurd b
    kind_back Merge None b h = (number_other h.0, eq-eqb r.generation s.policy.1 (h.1 ∙ sym k.policy.generation), tt)
    kind_back Join (Some p) b h = absurd b
    kind_back Join None b h = (number_other h.0, eq-eqb r.generation s.policy.1 (h.1 ∙ sym k.policy.generation), tt)
    kind_back Rekey None b h = absurd b
    kind_back Rekey (Some p) b h =
        let es : p.entries ≡ entries_for sealed seed (places_then c r.writer (Rekeyed p.action p.device)) = ap (λ (z : BundlePart). z.entries) (ap (part_or p) h.2) in
        (number_other h.0.0, action_back p p.action (rekey_from registered c r.writer p.action p.device few allowed h.0, h.1, es), subst (AreMade sealed seed) (sym es) (all_made sealed seed (places_then c r.writer (Rekeyed p.action p.device))))

    pub fit_back : HasFit sealed seed names registered c r → (fits_members s r ≡ true) × AreMade sealed seed (entries_of r.bundle)
    fit_back h =
        let by = kind_back r.kind r.bundle is.rules.bundle (h.may, h.generation ∙ gen_next (outline_of names r) c, h.bundle ∙ ap (bundle_for sealed seed r.writer (outline_of names r).deed) (places_next (outline_of names r) c)) in
        (both (fits_number r.kind r.number) _ by.0 by.1, by.2)

-- ---- the tests in order

-- the first test that fails
first_failed : (P : AuditWhy → Type 0) (ok : Bool) (w e : AuditWhy) (rest : Result (Unit {0}) AuditWhy) → (ok ≡ false → P w) → (ok ≡ true → rest ≡ Err e → P e) → unless ok w rest ≡ Err e → P e
first_failed P true w e rest bad on h = on refl h
first_failed P false w e rest bad on h = subst P (ap (why_or w) h) (bad refl)

passed_one : (ok : Bool) (w : AuditWhy) (rest : Result (Unit {0}) AuditWhy) → unless ok w rest ≡ Ok tt → (ok ≡ true) × (rest ≡ Ok tt)
passed_one true w rest h = (refl, h)
passed_one false w rest h = cc

none_failed : (e : AuditWhy) → (let o : Result (Unit {0}) AuditWhy = Ok (tt {0}) in o ≡ Err e) → ⊥
none_failed e h = cc

module _ (sealed signed : List ℕ → List ℕ → List ℕ) (hashed : List ℕ → List ℕ) (seed : List ℕ) (names : Names) (registered : ℕ) (blocks : Blocks) (bs : Revisions) (c : Back) (s : ChainState) (r : Revision) (k : Knows registered bs c s) (is : IsRevision r)
    (top : registered ≤ 32) (chain : IsChain registered c) where
  few : (d : ℕ) → IsSome (role_in c d) → (1 ≤ d) × (d ≤ 32)
  few = members_few registered top c chain

  number_told : nat_eq r.number (s.length + 1) ≡ true → r.number ≡ length c + 1
  number_told h = eqb-true r.number (s.length + 1) h ∙ ap (λ n. n + 1) k.length_is

  number_back : r.number ≡ length c + 1 → nat_eq r.number (s.length + 1) ≡ true
  number_back e = eq-eqb r.number (s.length + 1) (e ∙ ap (λ n. n + 1) (sym k.length_is))

  previous_told : bytes_eq r.previous s.head ≡ true → r.previous ≡ head_of bs
  previous_told h = (bytes_eq-Decides r.previous s.head).0 h ∙ k.head

  previous_back : r.previous ≡ head_of bs → bytes_eq r.previous s.head ≡ true
  previous_back e = (bytes_eq-Decides r.previous s.head).1 (e ∙ sym k.head)

  writer_told : may_write s r.writer ≡ true → HasWriter registered c r.writer
  writer_told h = writer_from registered top c chain r.writer (allowed_told registered s.policy c r.writer s.length k.length_is k.policy.roles (ap (λ n. cond (nat_eq s.length 0) (nat_le 1 r.writer && nat_le r.writer n) (is_writer (role_at s.policy.0 r.writer))) (sym k.registered_is) ∙ h))

  writer_back : HasWriter registered c r.writer → may_write s r.writer ≡ true
  writer_back h = ap (λ n. cond (nat_eq s.length 0) (nat_le 1 r.writer && nat_le r.writer n) (is_writer (role_at s.policy.0 r.writer))) k.registered_is ∙ allowed_back registered s.policy c r.writer s.length k.length_is k.policy.roles (may_from registered c r.writer h)

  abbrev secret : List ℕ
  secret = device_secret seed r.writer

  signature_told : is_signed signed r (Some secret) ≡ true → HasSignature sealed signed hashed seed names registered blocks r
  signature_told h = (bytes_eq-Decides r.signature (signed secret (signed_text r))).0 h

  signature_back : HasSignature sealed signed hashed seed names registered blocks r → is_signed signed r (Some secret) ≡ true
  signature_back h = (bytes_eq-Decides r.signature (signed secret (signed_text r))).1 h

  seq_told : (kind : RevisionKind) → goes_on s r kind ≡ true → HasSeq c r kind
  seq_told Found h = tt
  seq_told Step h = eqb-true r.first (last_of s.last r.writer + 1) h ∙ ap (λ n. n + 1) (k.last r.writer)
  seq_told Steps h = eqb-true r.first (last_of s.last r.writer + 1) h ∙ ap (λ n. n + 1) (k.last r.writer)
  seq_told Join h = eqb-true r.first (last_of s.last r.writer + 1) h ∙ ap (λ n. n + 1) (k.last r.writer)
  seq_told Merge h = eqb-true r.first (last_of s.last r.writer + 1) h ∙ ap (λ n. n + 1) (k.last r.writer)
  seq_told Rekey h = tt

  seq_back : (kind : RevisionKind) → HasSeq c r kind → goes_on s r kind ≡ true
  seq_back Found h = refl
  seq_back Step h = eq-eqb r.first (last_of s.last r.writer + 1) (h ∙ ap (λ n. n + 1) (sym (k.last r.writer)))
  seq_back Steps h = eq-eqb r.first (last_of s.last r.writer + 1) (h ∙ ap (λ n. n + 1) (sym (k.last r.writer)))
  seq_back Join h = eq-eqb r.first (last_of s.last r.writer + 1) (h ∙ ap (λ n. n + 1) (sym (k.last r.writer)))
  seq_back Merge h = eq-eqb r.first (last_of s.last r.writer + 1) (h ∙ ap (λ n. n + 1) (sym (k.last r.writer)))
  seq_back Rekey h = refl

  -- a test that fails where the fact would pass it
  lacks : {P : Type 0} (b : Bool) → b ≡ false → (P → b ≡ true) → P → ⊥
  lacks b e back h = not_true b e (back h)

  -- where all passed and each entry is made, all these facts hold
  pub judged_ok : judged signed s r secret ≡ Ok tt → AreMade sealed seed (entries_of r.bundle) → IsOpen sealed signed hashed seed names registered blocks bs c r
  judged_ok h made =
      let a = passed_one (nat_eq r.number (s.length + 1)) why.Number _ h in
      let b = passed_one (bytes_eq r.previous s.head) why.Previous _ a.1 in
      let d = passed_one (may_write s r.writer) why.Writer _ b.1 in
      let e = passed_one (is_signed signed r (Some secret)) why.Signature _ d.1 in
      let f = passed_one (goes_on s r r.kind) why.Seq _ e.1 in
      let g = passed_one (fits_members s r) why.Fit _ f.1 in
      record {
        number = number_told a.0;
        previous = previous_told b.0;
        writer = writer_told d.0;
        signature = signature_told e.0;
        seq = seq_told r.kind f.0;
        fit = fit_from sealed seed names registered bs c s r k is (number_told a.0) g.0 made;
      }

  -- where an entry isn't made, Fit is the first that doesn't hold
  pub made_lacks : judged signed s r secret ≡ Ok tt → (AreMade sealed seed (entries_of r.bundle) → ⊥) → Lacks sealed signed hashed seed names registered blocks why.Fit bs c r
  made_lacks h none =
      let a = passed_one (nat_eq r.number (s.length + 1)) why.Number _ h in
      let b = passed_one (bytes_eq r.previous s.head) why.Previous _ a.1 in
      let d = passed_one (may_write s r.writer) why.Writer _ b.1 in
      let e = passed_one (is_signed signed r (Some secret)) why.Signature _ d.1 in
      let f = passed_one (goes_on s r r.kind) why.Seq _ e.1 in
      (number_told a.0, previous_told b.0, writer_told d.0, signature_told e.0, seq_told r.kind f.0, (λ fit. none (fit_back sealed seed names registered bs c s r k is (number_told a.0) few (writer_told d.0).0 fit).1))

  -- and where a test failed, the fact of the first is the first that doesn't hold
  pub judged_err : (w : AuditWhy) → judged signed s r secret ≡ Err w → Lacks sealed signed hashed seed names registered blocks w bs c r
  judged_err w h =
      let P : AuditWhy → Type 0 = λ v. Lacks sealed signed hashed seed names registered blocks v bs c r in
      first_failed P (nat_eq r.number (s.length + 1)) why.Number w _ (λ z. lacks (nat_eq r.number (s.length + 1)) z number_back)
      (λ a. first_failed P (bytes_eq r.previous s.head) why.Previous w _ (λ z. (number_told a, lacks (bytes_eq r.previous s.head) z previous_back))
      (λ b. first_failed P (may_write s r.writer) why.Writer w _ (λ z. (number_told a, previous_told b, lacks (may_write s r.writer) z writer_back))
      (λ d. first_failed P (is_signed signed r (Some secret)) why.Signature w _ (λ z. (number_told a, previous_told b, writer_told d, lacks (is_signed signed r (Some secret)) z signature_back))
      (λ e. first_failed P (goes_on s r r.kind) why.Seq w _ (λ z. (number_told a, previous_told b, writer_told d, signature_told e, lacks (goes_on s r r.kind) z (seq_back r.kind)))
      (λ f. first_failed P (fits_members s r) why.Fit w _ (λ z. (number_told a, previous_told b, writer_told d, signature_told e, seq_told r.kind f, lacks (fits_members s r) z (λ fit. (fit_back sealed seed names registered bs c s r k is (number_told a) few (writer_told d).0 fit).0)))
      (λ g none. absurd (none_failed w none))))))) h
