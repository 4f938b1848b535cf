-- What a folder stands for goes on with each put.
use Rattle.std.proofs.Common.{◌≡◌, ℕ, suc, ◌+◌, ◌≤◌, Bool, true, false, cond, List, [], ◌∷◌, ◌++◌, length, map, Option, Some, None, refl, sym, ap, subst, ◌∙◌, arith, append-nil, length-append}
use Rattle.std.specs.Prelude.{◌&&◌, ◌||◌, nat_le, nat_lt, nat_eq, slice_index, IsSome, is_some}
use Rattle.std.specs.List.{range_with_len, AllByRecursion}
use Rattle.std.specs.FinMap.{get}
use Rattle.std.proofs.lemmas.Bool.{eqb-true}
use Rattle.std.proofs.lemmas.Bool.Decides.{nat_tests}
use Rattle.kb_ops.specs.declared.rows.Op.{Op}
use Rattle.kb_keys.specs.declared.policy.Role.{Role}
use Rattle.kb_keys.specs.declared.policy.Role.TheVariants.{Writer}
use Rattle.kb_keys.specs.declared.policy.Action.TheVariants as action
use Rattle.kb_keys.specs.declared.halves.Half.{Half}
use Rattle.kb_keys.specs.Secrets.{server_half}
use Rattle.kb_keys.specs.Halves.{half_at}
use Rattle.kb_keys.specs.Policies.{role_at, role_after}
use Rattle.kb_files.specs.Opens.{Blocks, Opens}
use Rattle.kb_files.proofs.Vaults.{opens_kept}
use Rattle.kb_files.proofs.Kept.{all_stored}
use Rattle.kb_snap.proofs.Kept.{row_within}
use Rattle.kb_chain.specs.declared.revisions.RevisionKind.{RevisionKind}
use Rattle.kb_chain.specs.declared.bundles.BundlePart.{BundlePart}
use Rattle.kb_chain.specs.declared.revisions.Revision.{Revision}
use Rattle.kb_chain.specs.declared.privates.Private.{Private}
use Rattle.kb_chain.specs.declared.states.FolderRequest.{FolderRequest}
use Rattle.kb_chain.specs.Checks.{Roles}
use Rattle.kb_chain.proofs.InTurn.{once_revision}
use Rattle.kb_snap.specs.Chains.{Deed, ops_in}
use Rattle.kb_snap.specs.Lawful.{CountsFrom}
use Rattle.kb_snap.specs.Members.{generation_by}
use Rattle.kb_folder.proofs.KindCases.{by_step, by_rule}
use Rattle.kb_folder.specs.Chains.{Plain, Back, Names, Place, places_of, places_by, members, ops_of, role_in, generation_in}
use Rattle.kb_folder.proofs.Behind.{FitsBehind, fits_behind}
use Rattle.kb_folder.proofs.Turning.{role_by, ops_next, role_next, gen_next, places_next}
use Rattle.kb_snap.specs.Chains.Deed.{Founded, Stepped, Merged, Rekeyed}
use Rattle.kb_folder.specs.Stands.{Stands, Spells, HoldsAfter, HalvesStand, HaveSeqs, keys_to, kind_of, bundle_for, head_of}
use Rattle.kb_folder.specs.Puts.{Held, Adds, RolesAfter, generation_with, seq_after, half_with, half_left, StateAfter, secret_at}
use Rattle.kb_folder.specs.Lands.{FolderStands, Extends, sent_for}
use Rattle.kb_folder.proofs.Sound.{sound_added}
use Rattle.kb_folder.proofs.Halves.{with_sent, among_granted, among_kept}

-- ---- blocks are added

module _ (sealed signed : List ℕ → List ℕ → List ℕ) (hashed : List ℕ → List ℕ) (seed : List ℕ) (names : Names) where
  pub held_kept : (old new : Blocks) → ((id b : List ℕ) → old id ≡ Some b → new id ≡ Some b) → (c : Back) (g : ℕ) (p : Private) → HoldsAfter sealed hashed seed old c g p → HoldsAfter sealed hashed seed new c g p
  held_kept old new kept c g p h = record {
    formed = h.formed;
    timed = h.timed;
    held = row_within (Opens sealed hashed old (keys_to seed g)) (Opens sealed hashed new (keys_to seed g)) (opens_kept sealed hashed old new (keys_to seed g) kept) _ _ _ h.held;
  }

  pub stands_kept : (registered : ℕ) (old new : Blocks) → ((id b : List ℕ) → old id ≡ Some b → new id ≡ Some b) → (bs : List (List ℕ)) (c : Back) → Stands sealed signed hashed seed names registered old bs c → Stands sealed signed hashed seed names registered new bs c
  stands_kept registered old new kept [] [] h = tt
  stands_kept registered old new kept [] (x ∷ c) h = absurd h
  stands_kept registered old new kept (b ∷ bs) [] h = absurd h
  stands_kept registered old new kept (b ∷ bs) (x ∷ c) h = (stands_kept registered old new kept bs c h.0, record { spells = h.1.spells; held = held_kept old new kept (x ∷ c) h.1.spells.revision.generation h.1.spells.private h.1.held }, h.2)

  pub stands_length : (registered : ℕ) (blocks : Blocks) (bs : List (List ℕ)) (c : Back) → Stands sealed signed hashed seed names registered blocks bs c → length bs ≡ length c
  stands_length registered blocks [] [] h = refl
  stands_length registered blocks [] (x ∷ c) h = absurd h
  stands_length registered blocks (b ∷ bs) [] h = absurd h
  stands_length registered blocks (b ∷ bs) (x ∷ c) h = ap suc (stands_length registered blocks bs c h.0)

-- ---- members

roles_next : (sealed : List ℕ → List ℕ → List ℕ) (seed : List ℕ) (w : ℕ) (deed : Deed) (ps : List Place) (old new : Roles) (before : ℕ → Option Role) → RolesAfter (bundle_for sealed seed w deed ps) old new → ((d : ℕ) → role_at old d ≡ before d) → (d : ℕ) → role_at new d ≡ role_by w deed d (before d)
roles_next sealed seed w Founded ps old new before a h d = a d ∙ ap (cond (nat_eq d w) (Some Writer)) (h d)
roles_next sealed seed w (Stepped ops) ps old new before a h d = ap (λ (rs : Roles). role_at rs d) a ∙ h d
roles_next sealed seed w (Merged base rule ops) ps old new before a h d = ap (λ (rs : Roles). role_at rs d) a ∙ h d
roles_next sealed seed w (Rekeyed act who) ps old new before a h d = a d ∙ ap (cond (nat_eq d who) (role_after act)) (h d)

generation_next : (sealed : List ℕ → List ℕ → List ℕ) (seed : List ℕ) (w : ℕ) (deed : Deed) (ps : List Place) (g : ℕ) → generation_with (bundle_for sealed seed w deed ps) g ≡ generation_by deed g
generation_next sealed seed w Founded ps g = refl
generation_next sealed seed w (Stepped ops) ps g = refl
generation_next sealed seed w (Merged base rule ops) ps g = refl
generation_next sealed seed w (Rekeyed act who) ps g = refl

-- ---- seqs

eq_other : (a b : ℕ) → nat_eq a b ≡ nat_eq b a
eq_other a b = grind (arith, nat_tests)

last_is : (first last n : ℕ) (ops : List Op) → HaveSeqs first last ops → CountsFrom (n + 1) ops → (ops ≡ [] → ⊥) → last ≡ n + length ops
last_is first last n [] h k some = absurd (some refl)
last_is first last n (op ∷ ops) h k some = let a = h.0.0 in let b = k.0 in let e = h.1 in omega (arith, a, b, e)

landed : (r : Revision) (w d old : ℕ) (before ops : List Op) → r.writer ≡ w → length before ≡ old → (nat_eq w d ≡ true → r.last ≡ old + length ops) → cond (nat_eq d r.writer) r.last old ≡ length (before ++ cond (nat_eq w d) ops [])
landed r w d old before ops same len last =
    ap (λ b. cond b r.last old) (eq_other d r.writer ∙ ap (λ k. nat_eq k d) same)
    ∙ elim (nat_eq w d) as (λ b. nat_eq w d ≡ b → cond b r.last old ≡ length (before ++ cond b ops [])) [
      | true ↦ λ e. last e ∙ ap (λ k. k + length ops) (sym len) ∙ sym (length-append before ops)
      | false ↦ λ e. sym len ∙ ap length (sym (append-nil before))
    ] refl

stayed : (w d old : ℕ) (before : List Op) → length before ≡ old → old ≡ length (before ++ cond (nat_eq w d) [] [])
stayed w d old before len = elim (nat_eq w d) as (λ b. old ≡ length (before ++ cond b [] [])) [ true ↦ sym len ∙ ap length (sym (append-nil before)) | false ↦ sym len ∙ ap length (sym (append-nil before)) ]

-- the last seq of a device is the number of its operations
last_next : (registered : ℕ) (c : Back) (x : Plain) (r : Revision) (deed : Deed) → r.writer ≡ x.writer → HaveSeqs r.first r.last (ops_in deed) → FitsBehind registered c x.moment deed → CountsFrom (length (ops_of x.writer c) + 1) (ops_in deed)
    → (last : ℕ → ℕ) → ((d : ℕ) → last d ≡ length (ops_of d c)) → (d : ℕ) → seq_after (kind_of deed) r d (last d) ≡ length (ops_of d c ++ cond (nat_eq x.writer d) (ops_in deed) [])
last_next registered c x r Founded w h fits k last is d = stayed x.writer d (last d) (ops_of d c) (sym (is d))
last_next registered c x r (Rekeyed act who) w h fits k last is d = stayed x.writer d (last d) (ops_of d c) (sym (is d))
last_next registered c x r (Stepped ops) w h fits k last is d =
    let to = landed r x.writer d (last d) (ops_of d c) ops w (sym (is d)) (λ e.
    last_is r.first r.last (length (ops_of x.writer c)) ops h k (some_step registered c x.moment ops fits) ∙ ap (λ n. n + length ops) (ap (λ q. length (ops_of q c)) (eqb-true x.writer d e) ∙ sym (is d)))
    in
    by_step (λ z. seq_after z r d (last d) ≡ length (ops_of d c ++ cond (nat_eq x.writer d) ops [])) ops to to
  where
    some_step : (registered : ℕ) (c : Back) (m : ℕ) (ops : List Op) → FitsBehind registered c m (Stepped ops) → ops ≡ [] → ⊥
    some_step registered [] m ops f e = absurd f
    some_step registered (y ∷ c) m ops f e = let none : length ops ≡ 0 = ap length e in let some = f.0 in absurd (omega (arith, none, some))
last_next registered c x r (Merged base rule ops) w h fits k last is d =
    let to = landed r x.writer d (last d) (ops_of d c) ops w (sym (is d)) (λ e.
    last_is r.first r.last (length (ops_of x.writer c)) ops h k (some_merge registered c x.moment base rule ops fits) ∙ ap (λ n. n + length ops) (ap (λ q. length (ops_of q c)) (eqb-true x.writer d e) ∙ sym (is d)))
    in
    by_rule (λ z. seq_after z r d (last d) ≡ length (ops_of d c ++ cond (nat_eq x.writer d) ops [])) rule to to
  where
    some_merge : (registered : ℕ) (c : Back) (m base rule : ℕ) (ops : List Op) → FitsBehind registered c m (Merged base rule ops) → ops ≡ [] → ⊥
    some_merge registered [] m base rule ops f e = absurd f
    some_merge registered (y ∷ c) m base rule ops f e = let none : length ops ≡ 0 = ap length e in let some = f.2 in absurd (omega (arith, none, some))

-- ---- halves

-- the half that stands for a device and a generation
abbrev half_due : List ℕ → ℕ → ℕ → Option Role → ℕ → Option (List ℕ)
half_due seed d g role last = cond (is_some role && (nat_le 1 g && nat_le g last)) (Some (server_half seed d g)) None

founded_test : (w d g : ℕ) → ((nat_eq w d && nat_eq 1 g) || false) ≡ (nat_eq d w && (nat_le 1 g && nat_le g 1))
founded_test w d g = ap (λ b. (b && nat_eq 1 g) || false) (eq_other w d) ∙ elim (nat_eq d w) as (λ b. ((b && nat_eq 1 g) || false) ≡ (b && (nat_le 1 g && nat_le g 1))) [ true ↦ grind (arith, nat_tests) | false ↦ refl ]

role_founded : (b : Bool) (t : Bool) (x : List ℕ) → cond (b && t) (Some x) None ≡ cond (is_some (cond b (Some Writer) None) && t) (Some x) None
role_founded true t x = refl
role_founded false t x = refl

grant_cases : (here within known : Bool) (role : Role) (before : Option Role) (x : List ℕ) → known ≡ is_some before → cond (here && within) (Some x) (cond (known && within) (Some x) None) ≡ cond (is_some (cond here (Some role) before) && within) (Some x) None
grant_cases true true known role before x e = refl
grant_cases true false true role before x e = refl
grant_cases true false false role before x e = refl
grant_cases false within known role before x e = ap (λ k. cond (k && within) (Some x) None) e

range_to : (g last : ℕ) → (nat_le 1 g && nat_lt g (1 + last)) ≡ (nat_le 1 g && nat_le g last)
range_to g last = grind (arith, nat_tests)

granted_next : (seed : List ℕ) (d g who last : ℕ) (role : Role) (before : Option Role) (old : Option (List ℕ)) → old ≡ half_due seed d g before last
    → half_with (sent_for seed (map (λ i. (who, i)) (range_with_len 1 last))) d g old ≡ half_due seed d g (cond (nat_eq d who) (Some role) before) last
granted_next seed d g who last role before old h =
    with_sent seed d g (map (λ i. (who, i)) (range_with_len 1 last)) old
    ∙ ap (λ b. cond b (Some (server_half seed d g)) old) (among_granted d g who 1 last ∙ ap (λ b. b && (nat_le 1 g && nat_lt g (1 + last))) (eq_other who d) ∙ ap (λ b. nat_eq d who && b) (range_to g last))
    ∙ ap (cond (nat_eq d who && (nat_le 1 g && nat_le g last)) (Some (server_half seed d g))) h
    ∙ grant_cases (nat_eq d who) (nat_le 1 g && nat_le g last) (is_some before) role before (server_half seed d g) refl

-- a member is one of the first 32
remains : (role : Option Role) (d : ℕ) → (IsSome role → (1 ≤ d) × (d ≤ 32)) → (is_some role && (nat_le 1 d && nat_lt d (1 + 32))) ≡ is_some role
remains None d few = refl
remains (Some x) d few = let h = few refl in let low = h.0 in let high = h.1 in grind (arith, nat_tests)

newer_test : (g last : ℕ) → (nat_eq (last + 1) g || (nat_le 1 g && nat_le g last)) ≡ (nat_le 1 g && nat_le g (last + 1))
newer_test g last = grind (arith, nat_tests)

either : (a b m : Bool) (x : List ℕ) → cond (a && m) (Some x) (cond (m && b) (Some x) None) ≡ cond (m && (a || b)) (Some x) None
either true b true x = refl
either true b false x = refl
either false b m x = refl

-- those who remain have the new generation's half, and the revoked one has none
revoked_next : (seed : List ℕ) (d g who last : ℕ) (before : ℕ → Option Role) (old : Option (List ℕ)) → ((q : ℕ) → IsSome (before q) → (1 ≤ q) × (q ≤ 32)) → old ≡ half_due seed d g (before d) last
    → cond (nat_eq d who) None (half_with (sent_for seed (map (λ m. (m, last + 1)) (members (λ q. cond (nat_eq q who) None (before q))))) d g old) ≡ half_due seed d g (cond (nat_eq d who) None (before d)) (last + 1)
revoked_next seed d g who last before old few h =
    elim (nat_eq d who) as (λ b. nat_eq d who ≡ b → cond b None (half_with (sent_for seed ps) d g old) ≡ half_due seed d g (cond b None (before d)) (last + 1)) [
      | true ↦ λ e. refl
      | false ↦ λ e.
          with_sent seed d g ps old
          ∙ ap (λ b. cond b (Some (server_half seed d g)) old) (among_kept d g (last + 1) (λ q. is_some (cond (nat_eq q who) None (before q))) 1 32
          ∙ ap (λ b. nat_eq (last + 1) g && (is_some (cond b None (before d)) && (nat_le 1 d && nat_lt d (1 + 32)))) e
          ∙ ap (λ b. nat_eq (last + 1) g && b) (remains (before d) d (few d)))
          ∙ ap (cond (nat_eq (last + 1) g && is_some (before d)) (Some (server_half seed d g))) h
          ∙ either (nat_eq (last + 1) g) (nat_le 1 g && nat_le g last) (is_some (before d)) (server_half seed d g)
          ∙ ap (λ b. cond (is_some (before d) && b) (Some (server_half seed d g)) None) (newer_test g last)
    ] refl
  where
    ps : List Place
    ps = map (λ m. (m, last + 1)) (members (λ q. cond (nat_eq q who) None (before q)))

module _ (sealed : List ℕ → List ℕ → List ℕ) (seed : List ℕ) (registered : ℕ) where
  halves_next : (c : Back) (w m : ℕ) (deed : Deed) → FitsBehind registered c m deed → (old : List Half) → HalvesStand seed c old → ((q : ℕ) → IsSome (role_in c q) → (1 ≤ q) × (q ≤ 32))
      → (d g : ℕ) → half_left (bundle_for sealed seed w deed (places_by (λ q. role_by w deed q (role_in c q)) (generation_by deed (generation_in c)) w deed)) d
      (half_with (sent_for seed (places_by (λ q. role_by w deed q (role_in c q)) (generation_by deed (generation_in c)) w deed)) d g (half_at old d g))
      ≡ half_due seed d g (role_by w deed d (role_in c d)) (generation_by deed (generation_in c))
  halves_next [] w m Founded fits old h few d g =
      with_sent seed d g ((w, 1) ∷ []) (half_at old d g)
      ∙ ap (cond ((nat_eq w d && nat_eq 1 g) || false) (Some (server_half seed d g))) (h d g)
      ∙ ap (λ b. cond b (Some (server_half seed d g)) None) (founded_test w d g)
      ∙ role_founded (nat_eq d w) (nat_le 1 g && nat_le g 1) (server_half seed d g)
  halves_next (y ∷ c) w m Founded fits old h few d g = absurd fits
  halves_next c w m (Stepped ops) fits old h few d g = h d g
  halves_next c w m (Merged base rule ops) fits old h few d g = h d g
  halves_next [] w m (Rekeyed a who) fits old h few d g = absurd fits
  halves_next (y ∷ c) w m (Rekeyed action.Found who) fits old h few d g = absurd fits
  halves_next (y ∷ c) w m (Rekeyed action.GrantWriter who) fits old h few d g = granted_next seed d g who (generation_in (y ∷ c)) _ (role_in (y ∷ c) d) (half_at old d g) (h d g)
  halves_next (y ∷ c) w m (Rekeyed action.GrantReader who) fits old h few d g = granted_next seed d g who (generation_in (y ∷ c)) _ (role_in (y ∷ c) d) (half_at old d g) (h d g)
  halves_next (y ∷ c) w m (Rekeyed action.Revoke who) fits old h few d g = revoked_next seed d g who (generation_in (y ∷ c)) (role_in (y ∷ c)) (half_at old d g) few (h d g)

-- ---- the whole

module _ (sealed signed : List ℕ → List ℕ → List ℕ) (hashed : List ℕ → List ℕ) (seed : List ℕ) (names : Names) where
  -- a request that extends the chain, once it is taken, leads to the folder of the longer chain
  pub lands : (f new : Held) (c : Back) (request : FolderRequest) (x : Plain) (n : ℕ) → FolderStands sealed signed hashed seed names f c → Extends sealed signed hashed seed names f c request x → Adds signed hashed f request new n
      → FolderStands sealed signed hashed seed names new (x ∷ c)
  lands f new c request x n stands ext added = with_spells ext.spells (ext.held (get new.blocks) added.kept stored_all)
    where
      stored_all : AllByRecursion (λ b. get new.blocks (hashed b) ≡ Some b) request.blocks
      stored_all = subst (λ m. AllByRecursion (λ b. get m (hashed b) ≡ Some b) request.blocks) (sym added.blocks) (all_stored hashed f.blocks [] request.blocks added.free)

      with_state : (s : Spells sealed signed seed names f.revisions c request.revision x) → HoldsAfter sealed hashed seed (get new.blocks) (x ∷ c) s.revision.generation s.private → StateAfter s.revision request.revision f.state new.state
          → ((d g : ℕ) → half_at new.halves d g ≡ half_left s.revision.bundle d (half_with request.halves d g (half_at f.halves d g))) → FolderStands sealed signed hashed seed names new (x ∷ c)
      with_state s held state halves = record {
        sound = sound_added signed hashed f new request n stands.sound added;
        stands = subst (λ bs. Stands sealed signed hashed seed names new.state.registered (get new.blocks) bs (x ∷ c)) (sym added.revisions)
            (subst (λ k. Stands sealed signed hashed seed names k (get new.blocks) (request.revision ∷ f.revisions) (x ∷ c)) (sym state.registered)
            (stands_kept sealed signed hashed seed names f.state.registered (get f.blocks) (get new.blocks) added.kept f.revisions c stands.stands, record { spells = s; held = held }, ext.follows));
        head = state.head ∙ ap head_of (sym added.revisions);
        policy = record {
          roles = λ d. roles_next sealed seed x.writer x.deed (places_of (x ∷ c)) f.state.policy.0 new.state.policy.0 (role_in c) (subst (λ (o : Option BundlePart). RolesAfter o f.state.policy.0 new.state.policy.0) s.bundle state.roles) stands.policy.roles d ∙ sym (role_next x c d);
          generation = state.generation ∙ ap (λ (o : Option BundlePart). generation_with o f.state.policy.1) s.bundle ∙ generation_next sealed seed x.writer x.deed (places_of (x ∷ c)) f.state.policy.1 ∙ ap (generation_by x.deed) stands.policy.generation ∙ sym (gen_next x c);
        };
        last = λ d. state.last d ∙ ap (λ (k : RevisionKind). seq_after k s.revision d (slice_index f.state.last d)) s.kind
            ∙ last_next f.state.registered c x s.revision x.deed s.writer s.seqs (fits_behind f.state.registered c x few ext.follows) ext.follows.counts (slice_index f.state.last) stands.last d ∙ ap length (sym (ops_next d x c));
        halves = λ d g. halves d g ∙ ap (λ (o : Option BundlePart). half_left o d (half_with request.halves d g (half_at f.halves d g))) s.bundle
            ∙ ap (λ (hs : List Half). half_left (bundle_for sealed seed x.writer x.deed (places_of (x ∷ c))) d (half_with hs d g (half_at f.halves d g))) ext.halves
            ∙ ap (λ ps. half_left (bundle_for sealed seed x.writer x.deed ps) d (half_with (sent_for seed ps) d g (half_at f.halves d g))) (places_next x c)
            ∙ halves_next sealed seed f.state.registered c x.writer x.moment x.deed (fits_behind f.state.registered c x few ext.follows) f.halves stands.halves few d g
            ∙ sym (λ i. half_due seed d g (role_next x c d i) (gen_next x c i));
        secrets = λ d low high. ap (λ (ss : List (List ℕ)). secret_at ss d) added.secrets ∙ stands.secrets d low (subst (λ k. d ≤ k) state.registered high);
      }
        where
          few : (q : ℕ) → IsSome (role_in c q) → (1 ≤ q) × (q ≤ 32)
          few q some =
              let h = stands.sound.members q (subst (λ (o : Option Role). IsSome o) (sym (stands.policy.roles q)) some) in
              let top = stands.sound.few in let low = h.0 in let high = h.1 in
              (low, omega (arith, top, high))

      with_spells : (s : Spells sealed signed seed names f.revisions c request.revision x) → HoldsAfter sealed hashed seed (get new.blocks) (x ∷ c) s.revision.generation s.private → FolderStands sealed signed hashed seed names new (x ∷ c)
      with_spells s held =
          let same : added.revision ≡ s.revision = (once_revision added.revision s.revision [] [] added.judged.is s.is (ap (λ t. t ++ []) (sym added.judged.spelled ∙ s.spelled))).0 in
          with_state s held (subst (λ (r : Revision). StateAfter r request.revision f.state new.state) same added.state)
          (λ d g. added.halves d g ∙ ap (λ (r : Revision). half_left r.bundle d (half_with request.halves d g (half_at f.halves d g))) same)
