-- What a member reads from the bundles of a chain.
use Rattle.std.proofs.Common.{◌≡◌, ◌⊎◌, ℕ, zero, suc, ◌+◌, ◌<◌, ◌≤◌, Bool, true, false, cond, List, [], ◌∷◌, ◌++◌, length, map, drop, Option, Some, Result, Ok, Err, inl, inr, refl, sym, ap, subst, ◌∙◌, arith, length-append, get_or, Vec, Global}
use Rattle.std.specs.Prelude.{◌&&◌, ◌||◌, nat_eq, nat_le, nat_lt, reverse, is_some}
use Rattle.std.specs.List.{range_with_len}
use Rattle.std.proofs.lemmas.List.{drop-append-le, drop_all, drop_more, drop-map}
use Rattle.std.proofs.lemmas.List.Folds.{list_any-append}
use Rattle.std.proofs.lemmas.Bool.{eqb-true, eq-eqb}
use Rattle.std.proofs.lemmas.Bool.Decides.{nat_tests}
use Rattle.kb_keys.specs.declared.entries.Entry.{Entry}
use Rattle.kb_keys.specs.declared.halves.Half.{Half}
use Rattle.kb_keys.specs.declared.policy.Role.{Role}
use Rattle.kb_keys.specs.declared.policy.Action.TheVariants as action
use Rattle.kb_keys.specs.Halves.{half_at}
use Rattle.kb_keys.specs.Rings as rings
use Rattle.kb_keys.specs.Rings.{key_at}
use Rattle.kb_seal.specs.Laws.{length-hmac}
use Rattle.kb_keys.specs.Secrets.{device_secret, folder_key, server_half, xored}
use Rattle.kb_chain.specs.declared.revisions.Revision.{Revision}
use Rattle.kb_chain.specs.Revisions.{revision_text, IsRevision}
use Rattle.kb_chain.specs.Checks.{entries_of}
use Rattle.kb_chain.proofs.InTurn.{once_revision}
use Rattle.kb_snap.specs.Chains.{Deed, Founded, Stepped, Merged, Rekeyed}
use Rattle.kb_snap.specs.Members.{generation_by}
use Rattle.kb_snap.specs.Lawful.{FitsDeed}
use Rattle.kb_folder.specs.Chains.{Plain, Back, Place, places_of, places_by, role_in, generation_in, Follows}
use Rattle.kb_folder.specs.Stands.{entries_for}
use Rattle.kb_folder.specs.Reading.{IsChain, places_behind, is_among}
use Rattle.kb_folder.proofs.Turning.{role_by, gen_next, places_next}
use Rattle.kb_folder.proofs.Halves.{among_granted, among_kept, first_of, second_of}
use Rattle.kb_rekey.specs.declared.filling.GiveFault.{GiveFault}
use Rattle.kb_rekey.specs.declared.filling.GiveFault.TheVariants as give
use Rattle.kb_rekey.specs.Filling.{BlamesFault, Blames, Decoded, AddedKeys, AddedPlaces, IsSpoilt, HasSpoilt, IsBad, BadAmong, AreGood, key_with, HasPlaces, HasHalves, AllHavePlaces, key_after}

-- ---- entries

le_is : (a b : ℕ) → nat_le a b ≡ true → a ≤ b
le_is a b h = grind (arith, nat_tests)

twice : (a b : Bool) (x : List ℕ) (old : Option (List ℕ)) → cond b (Some x) (cond a (Some x) old) ≡ cond (a || b) (Some x) old
twice true true x old = refl
twice true false x old = refl
twice false b x old = refl

no_or : (a b : Bool) → a ≡ true → (a || b) ≡ true
no_or true b e = refl
no_or false b e = cc

or_so : (a b : Bool) → b ≡ true → (a || b) ≡ true
or_so true b e = refl
or_so false b e = e

module _ (sealed : List ℕ → List ℕ → List ℕ) (seed : List ℕ) (d : ℕ) where
  -- what the entries of places give
  pub with_places : (ps : List Place) (i : ℕ) (old : Option (List ℕ)) → key_with seed d (entries_for sealed seed ps) i old ≡ cond (is_among d i ps) (Some (folder_key seed i)) old
  with_places [] i old = refl
  with_places (p ∷ ps) i old = with_places ps i (cond (nat_eq p.0 d && nat_eq p.1 i) (Some (folder_key seed i)) old) ∙ twice (nat_eq p.0 d && nat_eq p.1 i) (is_among d i ps) (folder_key seed i) old

  -- the entries of places are good, where the halves are kept
  pub good_places : (halves : List Half) (ps : List Place) → HasHalves seed halves d ps → AreGood sealed seed halves d (entries_for sealed seed ps)
  good_places halves [] h = tt
  good_places halves (p ∷ ps) h = (
    λ e. (
      h p.1 (no_or (nat_eq p.0 d && nat_eq p.1 p.1) (is_among d p.1 ps) (both (nat_eq p.0 d) (nat_eq p.1 p.1) (eq-eqb p.0 d e) (eq-eqb p.1 p.1 refl))),
      ap (λ w. sealed (device_secret seed w) (xored (folder_key seed p.1) (server_half seed w p.1))) e,
    ),
    good_places halves ps (λ i a. h i (or_so (nat_eq p.0 d && nat_eq p.1 i) (is_among d i ps) a)),
  )
    where
      both : (a b : Bool) → a ≡ true → b ≡ true → (a && b) ≡ true
      both true true p q = refl
      both true false p q = cc
      both false b p q = cc

-- ---- a loop over entries

module _ (sealed : List ℕ → List ℕ → List ℕ) (seed : List ℕ) (halves : List Half) (d : ℕ) (es : List Entry) (k : ℕ) (x : Entry) (within : k < length es) where
  ahead : drop k es ≡ get_or es k x ∷ drop (k + 1) es
  ahead = drop_more es k x within

  pub good_next : AreGood sealed seed halves d (drop k es) → AreGood sealed seed halves d (drop (k + 1) es)
  good_next h = (subst (AreGood sealed seed halves d) ahead h).1

  pub good_here : AreGood sealed seed halves d (drop k es) → (get_or es k x).device ≡ d
      → (half_at halves (get_or es k x).device (get_or es k x).generation ≡ Some (server_half seed d (get_or es k x).generation)) × ((get_or es k x).sealed ≡ sealed (device_secret seed d) (xored (folder_key seed (get_or es k x).generation) (server_half seed d (get_or es k x).generation)))
  good_here h e = let both = (subst (AreGood sealed seed halves d) ahead h).0 e in (ap (λ w. half_at halves w (get_or es k x).generation) e ∙ both.0, both.1)

  -- another device's entry gives nothing
  pub other_next : ((get_or es k x).device ≡ d → ⊥) → (i : ℕ) (old : Option (List ℕ)) → key_with seed d (drop (k + 1) es) i old ≡ key_with seed d (drop k es) i old
  other_next off i old =
      sym (ap (λ l. key_with seed d l i old) ahead
      ∙ ap (λ b. key_with seed d (drop (k + 1) es) i (cond (b && nat_eq (get_or es k x).generation i) (Some (folder_key seed i)) old)) (not_same (get_or es k x).device d off))
    where
      not_same : (a b : ℕ) → (a ≡ b → ⊥) → nat_eq a b ≡ false
      not_same a b f = elim (nat_eq a b) as (λ z. nat_eq a b ≡ z → nat_eq a b ≡ false) [ true ↦ λ e. absurd (f (eqb-true a b e)) | false ↦ λ e. e ] refl

  -- the device's own gives its generation's key
  pub own_next : (get_or es k x).device ≡ d → (i : ℕ) (key : List ℕ) (old new : Option (List ℕ)) → key ≡ folder_key seed (get_or es k x).generation → new ≡ cond (nat_eq i (get_or es k x).generation) (Some key) old
      → key_with seed d (drop (k + 1) es) i new ≡ key_with seed d (drop k es) i old
  own_next on i key old new is put =
      sym (ap (λ l. key_with seed d l i old) ahead
      ∙ ap (λ b. key_with seed d (drop (k + 1) es) i (cond (b && nat_eq (get_or es k x).generation i) (Some (folder_key seed i)) old)) (eq-eqb (get_or es k x).device d on)
      ∙ ap (key_with seed d (drop (k + 1) es) i) (same i (get_or es k x).generation key old is ∙ sym put))
    where
      same : (i g : ℕ) (key : List ℕ) (old : Option (List ℕ)) → key ≡ folder_key seed g → cond (nat_eq g i) (Some (folder_key seed i)) old ≡ cond (nat_eq i g) (Some key) old
      same i g key old is = elim (nat_eq g i) as (λ b. nat_eq g i ≡ b → cond b (Some (folder_key seed i)) old ≡ cond (nat_eq i g) (Some key) old) [
        | true ↦ λ e. let at : g ≡ i = eqb-true g i e in ap (λ n. Some (folder_key seed n)) (sym at) ∙ ap (λ t. Some t) (sym is) ∙ sym (ap (λ b. cond b (Some key) old) (eq-eqb i g (sym at)))
        | false ↦ λ e. (let off : nat_eq i g ≡ false = grind (arith, nat_tests) in sym (ap (λ b. cond b (Some key) old) off))
      ] refl

  -- the keys so far, and those of the entries ahead
  abbrev pub Stage : ℕ → rings.Keys → rings.Keys → Type 0
  Stage n first now = AreGood sealed seed halves d (drop n es) × ((i : ℕ) → key_with seed d (drop n es) i (key_at now i) ≡ key_with seed d es i (key_at first i))

  pub own_step : (secret key : List ℕ) (first old new : rings.Keys) → secret ≡ device_secret seed d → (get_or es k x).device ≡ d
      → ((t half : List ℕ) → length t ≡ 32 → half_at halves (get_or es k x).device (get_or es k x).generation ≡ Some half → (get_or es k x).sealed ≡ sealed secret (xored t half) → key ≡ t)
      → rings.AddsKey old new (get_or es k x).generation key → Stage k first old → Stage (k + 1) first new
  own_step secret key first old new same own one added stage =
      let here = good_here stage.0 own in
      let g = (get_or es k x).generation in
      let is = one (folder_key seed g) (server_half seed d g) (length-hmac seed _) here.0 (here.1 ∙ ap (λ t. sealed t (xored (folder_key seed g) (server_half seed d g))) (sym same)) in
      (good_next stage.0, λ i. own_next own i key (key_at old i) (key_at new i) is (added.keys i) ∙ stage.1 i)

  pub other_step : (first now : rings.Keys) → ((get_or es k x).device ≡ d → ⊥) → Stage k first now → Stage (k + 1) first now
  other_step first now off stage = (good_next stage.0, λ i. other_next off i (key_at now i) ∙ stage.1 i)

-- an entry that gives no key
pub spoilt_at : (sealed : List ℕ → List ℕ → List ℕ) (secret : List ℕ) (halves : List Half) (d : ℕ) (es : List Entry) (k : ℕ) (x : Entry) → k < length es → (get_or es k x).device ≡ d → IsSpoilt sealed secret halves (get_or es k x) → HasSpoilt sealed secret halves d es
spoilt_at sealed secret halves d [] k x lt own bad = absurd (omega arith)
spoilt_at sealed secret halves d (e ∷ es) zero x lt own bad = inl (own, bad)
spoilt_at sealed secret halves d (e ∷ es) (suc k) x lt own bad = inr (spoilt_at sealed secret halves d es k x (omega arith) own bad)

-- a refusal has the cause of that which it passes on
pub blamed : {P Q : Type 0} (e : GiveFault) → (P → Q) → BlamesFault P e → BlamesFault Q e
blamed give.Bad f h = f h
blamed give.Memory f h = tt

-- ---- one revision

module _ (sealed : List ℕ → List ℕ → List ℕ) (secret : List ℕ) (halves : List Half) (d : ℕ) (bytes : List ℕ) where
  pub undecoded : (e : GiveFault) → Decoded bytes (Err e) → BlamesFault (IsBad sealed secret halves d bytes) e
  undecoded give.Bad h = inl h
  undecoded give.Memory h = tt

  pub undecoded_none : (seed : List ℕ) (ps : List Place) (old new : rings.Keys) (e : GiveFault) → Decoded bytes (Err e) → HasPlaces sealed seed bytes ps → AddedPlaces seed d ps old new (Err e)
  undecoded_none seed ps old new give.Bad h has = h has.revision has.is has.spelled
  undecoded_none seed ps old new give.Memory h has = tt

  pub spoilt_in : (r : Revision) (es : List Entry) (result : Result (Unit {0}) GiveFault) → IsRevision r → bytes ≡ revision_text r → es ≡ entries_of r.bundle → Blames (HasSpoilt sealed secret halves d es) result → Blames (IsBad sealed secret halves d bytes) result
  spoilt_in r es (Ok u) is at same h = tt
  spoilt_in r es (Err give.Bad) is at same h = inr (r, is, at, subst (HasSpoilt sealed secret halves d) same h)
  spoilt_in r es (Err give.Memory) is at same h = tt

  pub added_places : (seed : List ℕ) (ps : List Place) (r : Revision) (es : List Entry) (old new : rings.Keys) (result : Result (Unit {0}) GiveFault) → HasPlaces sealed seed bytes ps → HasHalves seed halves d ps → IsRevision r → bytes ≡ revision_text r → es ≡ entries_of r.bundle
      → (AreGood sealed seed halves d es → AddedKeys seed d es old new result) → AddedPlaces seed d ps old new result
  added_places seed ps r es old new result has kept is at same adds = by result (adds (subst (AreGood sealed seed halves d) (sym whole) (good_places sealed seed d halves ps kept)))
    where
      whole : es ≡ entries_for sealed seed ps
      whole = same ∙ ap (λ (x : Revision). entries_of x.bundle) (once_revision r has.revision [] [] is has.is (ap (λ t. t ++ []) (sym at ∙ has.spelled))).0 ∙ has.entries

      by : (result : Result (Unit {0}) GiveFault) → AddedKeys seed d es old new result → AddedPlaces seed d ps old new result
      by (Ok u) h = λ i. h i ∙ ap (λ l. key_with seed d l i (key_at old i)) whole ∙ with_places sealed seed d ps i (key_at old i)
      by (Err give.Bad) h = h
      by (Err give.Memory) h = tt

-- ---- a loop over revisions

drop_next : {X : Type 0} (xs ys : List X) (x : X) (k : ℕ) → drop k xs ≡ x ∷ ys → drop (k + 1) xs ≡ ys
drop_next [] ys x zero e = cc
drop_next [] ys x (suc k) e = cc
drop_next (z ∷ xs) ys x zero e = let same : xs ≡ ys = cc in same
drop_next (z ∷ xs) ys x (suc k) e = ap (λ n. drop n (z ∷ xs)) (let h : suc k + 1 ≡ suc (k + 1) = omega arith in h) ∙ drop_next xs ys x k e

pub texts_ahead : (xs : List (Vec ℕ Global)) (k : ℕ) (x : Vec ℕ Global) → k < length xs → x ≡ get_or xs k x → drop k (map (λ (v : Vec ℕ Global). v.items) xs) ≡ x.items ∷ drop (k + 1) (map (λ (v : Vec ℕ Global). v.items) xs)
texts_ahead xs k x lt is =
    drop-map (λ (v : Vec ℕ Global). v.items) k xs ∙ ap (map (λ (v : Vec ℕ Global). v.items)) (drop_more xs k x lt) ∙ ap (λ (v : Vec ℕ Global). v.items ∷ map (λ (v : Vec ℕ Global). v.items) (drop (k + 1) xs)) (sym is)
    ∙ ap (λ l. x.items ∷ l) (sym (drop-map (λ (v : Vec ℕ Global). v.items) (k + 1) xs))

module _ (sealed : List ℕ → List ℕ → List ℕ) (secret : List ℕ) (halves : List Half) (d : ℕ) where
  pub bad_behind : (from k : ℕ) (bs : List (List ℕ)) (n : ℕ) → BadAmong sealed secret halves d (from + k) (drop k bs) n → BadAmong sealed secret halves d from bs n
  bad_behind from zero bs n h = subst (λ m. BadAmong sealed secret halves d m bs n) (let e : from + 0 ≡ from = omega arith in e) h
  bad_behind from (suc k) [] n h = h
  bad_behind from (suc k) (b ∷ bs) n h = inr (bad_behind (from + 1) k bs n (subst (λ m. BadAmong sealed secret halves d m (drop k bs) n) (let e : from + suc k ≡ (from + 1) + k = omega arith in e) h))

  pub bad_here : (from k number : ℕ) (bs : List (List ℕ)) (b : List ℕ) → drop k bs ≡ b ∷ drop (k + 1) bs → number ≡ (from + k) + 1 → IsBad sealed secret halves d b → BadAmong sealed secret halves d from bs number
  bad_here from k number bs b ahead at bad = bad_behind from k bs number (subst (λ l. BadAmong sealed secret halves d (from + k) l number) (sym ahead) (inl (at, bad)))

  -- what a refusal of all of them tells
  pub blamed_one : (from k number : ℕ) (bs : List (List ℕ)) (b : List ℕ) → drop k bs ≡ b ∷ drop (k + 1) bs → number ≡ (from + k) + 1 → (u : Result (Unit {0}) GiveFault) → u ≡ Err give.Bad → Blames (IsBad sealed secret halves d b) u → BadAmong sealed secret halves d from bs number
  blamed_one from k number bs b ahead at (Ok u) e h = cc
  blamed_one from k number bs b ahead at (Err give.Bad) e h = bad_here from k number bs b ahead at h
  blamed_one from k number bs b ahead at (Err give.Memory) e h = cc

module _ (sealed : List ℕ → List ℕ → List ℕ) (seed : List ℕ) (halves : List Half) (d : ℕ) (bs : List (List ℕ)) (pss : List (List Place)) where
  -- the keys so far, and those of the revisions ahead
  abbrev pub StageAll : ℕ → rings.Keys → rings.Keys → Type 0
  StageAll n first now = AllHavePlaces sealed seed halves d (drop n bs) (drop n pss) × ((i : ℕ) → key_after seed d (drop n pss) i (key_at now i) ≡ key_after seed d pss i (key_at first i))

  module _ (k : ℕ) (b : List ℕ) (first old new : rings.Keys) (ahead : drop k bs ≡ b ∷ drop (k + 1) bs) (stage : StageAll k first old) where
    next_with : (qss : List (List Place)) → drop k pss ≡ qss → AllHavePlaces sealed seed halves d (b ∷ drop (k + 1) bs) qss → ((ps : List Place) → HasPlaces sealed seed b ps → HasHalves seed halves d ps → AddedPlaces seed d ps old new (Ok tt)) → StageAll (k + 1) first new
    next_with [] e all adds = absurd all
    next_with (ps ∷ qss) e all adds =
        let rest : drop (k + 1) pss ≡ qss = drop_next pss qss ps k e in (
          subst (AllHavePlaces sealed seed halves d (drop (k + 1) bs)) (sym rest) all.1,
          λ i. ap (λ l. key_after seed d l i (key_at new i)) rest ∙ ap (key_after seed d qss i) (adds ps all.0.0 all.0.1 i) ∙ sym (ap (λ l. key_after seed d l i (key_at old i)) e) ∙ stage.1 i,
        )

    here : AllHavePlaces sealed seed halves d (b ∷ drop (k + 1) bs) (drop k pss)
    here = subst (λ l. AllHavePlaces sealed seed halves d l (drop k pss)) ahead stage.0

    pub revision_step : ((ps : List Place) → HasPlaces sealed seed b ps → HasHalves seed halves d ps → AddedPlaces seed d ps old new (Ok tt)) → StageAll (k + 1) first new
    revision_step adds = next_with (drop k pss) refl here adds

    pub revision_fails : (u : Result (Unit {0}) GiveFault) → u ≡ Err give.Bad → ((ps : List Place) → HasPlaces sealed seed b ps → HasHalves seed halves d ps → AddedPlaces seed d ps old new u) → ⊥
    revision_fails u e adds = by (drop k pss) here
      where
        bad : (ps : List Place) (u : Result (Unit {0}) GiveFault) → u ≡ Err give.Bad → AddedPlaces seed d ps old new u → ⊥
        bad ps (Ok v) e h = cc
        bad ps (Err give.Bad) e h = h
        bad ps (Err give.Memory) e h = cc

        by : (qss : List (List Place)) → AllHavePlaces sealed seed halves d (b ∷ drop (k + 1) bs) qss → ⊥
        by [] all = all
        by (ps ∷ qss) all = bad ps u e (adds ps all.0.0 all.0.1)

-- ---- the places of a chain

-- of each revision, the first one first
abbrev pub places_in : Back → List (List Place)
places_in [] = []
places_in (x ∷ c) = places_in c ++ places_of (x ∷ c) ∷ []

abbrev pub joined : List (List Place) → List Place
joined [] = []
joined (ps ∷ pss) = ps ++ joined pss

append-none : (ps : List Place) → ps ++ [] ≡ ps
append-none [] = refl
append-none (p ∷ ps) = ap (λ qs. p ∷ qs) (append-none ps)

joined_push : (pss : List (List Place)) (ps : List Place) → joined (pss ++ ps ∷ []) ≡ joined pss ++ ps
joined_push [] ps = append-none ps
joined_push (qs ∷ pss) ps = ap (λ l. qs ++ l) (joined_push pss ps) ∙ sym (append-assoc qs (joined pss) ps)
  where
    append-assoc : (a b c : List Place) → (a ++ b) ++ c ≡ a ++ (b ++ c)
    append-assoc [] b c = refl
    append-assoc (p ∷ a) b c = ap (λ l. p ∷ l) (append-assoc a b c)

pub places_count : (c : Back) → length (places_in c) ≡ length c
places_count [] = refl
places_count (x ∷ c) = length-append (places_in c) (places_of (x ∷ c) ∷ []) ∙ (let e = places_count c in let h : length (places_in c) + 1 ≡ suc (length c) = omega (arith, e) in h)

behind_next : (n : ℕ) (x : Plain) (c : Back) → places_behind n c ≡ joined (drop n (places_in c)) → (b : Bool) → nat_le n (length c) ≡ b → cond b (places_behind n c ++ places_of (x ∷ c)) [] ≡ joined (drop n (places_in c ++ places_of (x ∷ c) ∷ []))
behind_next n x c older true e =
    let size : length (places_in c) ≡ length c = places_count c in
    ap (λ ps. ps ++ places_of (x ∷ c)) older ∙ sym (joined_push (drop n (places_in c)) (places_of (x ∷ c)))
    ∙ sym (ap joined (drop-append-le n (places_in c) (places_of (x ∷ c) ∷ []) (let le = le_is n (length c) e in omega (arith, le, size))))
behind_next n x c older false e =
    let size : length (places_in c) ≡ length c = places_count c in
    let more : length c < n = grind (arith, nat_tests) in
    let all = length-append (places_in c) (places_of (x ∷ c) ∷ []) in
    sym (ap joined (drop_all n (places_in c ++ places_of (x ∷ c) ∷ []) (omega (arith, more, all, size))))

-- those behind the first n are the places of the revisions behind
pub behind_is : (n : ℕ) (c : Back) → places_behind n c ≡ joined (drop n (places_in c))
behind_is zero [] = refl
behind_is (suc n) [] = refl
behind_is n (x ∷ c) = behind_next n x c (behind_is n c) (nat_le n (length c)) refl

-- the key after revisions is that of all their places
pub after_is : (seed : List ℕ) (d : ℕ) (pss : List (List Place)) (i : ℕ) (old : Option (List ℕ)) → key_after seed d pss i old ≡ cond (is_among d i (joined pss)) (Some (folder_key seed i)) old
after_is seed d [] i old = refl
after_is seed d (ps ∷ pss) i old =
    after_is seed d pss i (cond (is_among d i ps) (Some (folder_key seed i)) old)
    ∙ twice (is_among d i ps) (is_among d i (joined pss)) (folder_key seed i) old
    ∙ ap (λ b. cond b (Some (folder_key seed i)) old) (sym (list_any-append (λ (p : Place). nat_eq p.0 d && nat_eq p.1 i) ps (joined pss)))

-- ---- generations

grows : (deed : Deed) (g : ℕ) → g ≤ generation_by deed g
grows Founded g = omega arith
grows (Stepped ops) g = omega arith
grows (Merged base rule ops) g = omega arith
grows (Rekeyed action.Found who) g = omega arith
grows (Rekeyed action.GrantWriter who) g = omega arith
grows (Rekeyed action.GrantReader who) g = omega arith
grows (Rekeyed action.Revoke who) g = omega arith

pub generation_grows : (x : Plain) (c : Back) → generation_in c ≤ generation_in (x ∷ c)
generation_grows x c = subst (λ k. generation_in c ≤ k) (sym (gen_next x c)) (grows x.deed (generation_in c))

-- a place of the last revision is of a generation up to its own
placed : (registered : ℕ) (c : Back) (x : Plain) (role : ℕ → Option Role) (w : ℕ) (deed : Deed) → FitsDeed (reverse c) x deed → (d i : ℕ) → is_among d i (places_by role (generation_by deed (generation_in c)) w deed) ≡ true → (1 ≤ i) × (i ≤ generation_by deed (generation_in c))
placed registered c x role w Founded fits d i h = first (nat_eq w d) (nat_eq 1 i) refl h
  where
    first : (a b : Bool) → nat_eq 1 i ≡ b → ((a && b) || false) ≡ true → (1 ≤ i) × (i ≤ generation_in c + 1)
    first true true e k = let one : 1 ≡ i = eqb-true 1 i e in (omega (arith, one), omega (arith, one))
    first true false e k = cc
    first false b e k = cc
placed registered c x role w (Stepped ops) fits d i h = cc
placed registered c x role w (Merged base rule ops) fits d i h = cc
placed registered c x role w (Rekeyed action.Found who) fits d i h = absurd fits.1
placed registered c x role w (Rekeyed action.GrantWriter who) fits d i h = granted_within d i who (generation_in c) h
  where
    granted_within : (d i who last : ℕ) → is_among d i (map (λ k. (who, k)) (range_with_len 1 last)) ≡ true → (1 ≤ i) × (i ≤ last)
    granted_within d i who last h =
        let k = second_of (nat_eq who d) (nat_le 1 i && nat_lt i (1 + last)) (sym (among_granted d i who 1 last) ∙ h) in
        let low : nat_le 1 i ≡ true = first_of (nat_le 1 i) (nat_lt i (1 + last)) k in
        let high : nat_lt i (1 + last) ≡ true = second_of (nat_le 1 i) (nat_lt i (1 + last)) k in
        (grind (arith, nat_tests), grind (arith, nat_tests))
placed registered c x role w (Rekeyed action.GrantReader who) fits d i h = granted_within d i who (generation_in c) h
  where
    granted_within : (d i who last : ℕ) → is_among d i (map (λ k. (who, k)) (range_with_len 1 last)) ≡ true → (1 ≤ i) × (i ≤ last)
    granted_within d i who last h =
        let k = second_of (nat_eq who d) (nat_le 1 i && nat_lt i (1 + last)) (sym (among_granted d i who 1 last) ∙ h) in
        let low : nat_le 1 i ≡ true = first_of (nat_le 1 i) (nat_lt i (1 + last)) k in
        let high : nat_lt i (1 + last) ≡ true = second_of (nat_le 1 i) (nat_lt i (1 + last)) k in
        (grind (arith, nat_tests), grind (arith, nat_tests))
placed registered c x role w (Rekeyed action.Revoke who) fits d i h =
    let k = first_of (nat_eq (generation_in c + 1) i) _ (sym (among_kept d i (generation_in c + 1) (λ q. is_some (role q)) 1 32) ∙ h) in
    let at : generation_in c + 1 ≡ i = eqb-true (generation_in c + 1) i k in
    (omega (arith, at), omega (arith, at))

pub placed_last : (registered : ℕ) (c : Back) (x : Plain) → Follows registered c x → (d i : ℕ) → is_among d i (places_of (x ∷ c)) ≡ true → (1 ≤ i) × (i ≤ generation_in (x ∷ c))
placed_last registered c x f d i h =
    subst (λ g. (1 ≤ i) × (i ≤ g)) (sym (gen_next x c)) (placed registered c x (λ q. role_by x.writer x.deed q (role_in c q)) x.writer x.deed f.fits d i (ap (is_among d i) (sym (places_next x c)) ∙ h))

or_cases : (a b : Bool) → (a || b) ≡ true → (a ≡ true) ⊎ (b ≡ true)
or_cases true b h = inl refl
or_cases false b h = inr h

-- and so is one of any revision behind the first n
pub placed_behind : (registered : ℕ) (c : Back) → IsChain registered c → (n d i : ℕ) → is_among d i (places_behind n c) ≡ true → (1 ≤ i) × (i ≤ generation_in c)
placed_behind registered [] h n d i k = cc
placed_behind registered (x ∷ c) h n d i k = elim (nat_le n (length c)) as (λ b. is_among d i (cond b (places_behind n c ++ places_of (x ∷ c)) []) ≡ true → (1 ≤ i) × (i ≤ generation_in (x ∷ c))) [
  | true ↦ λ a. elim (or_cases (is_among d i (places_behind n c)) (is_among d i (places_of (x ∷ c))) (sym (list_any-append (λ (p : Place). nat_eq p.0 d && nat_eq p.1 i) (places_behind n c) (places_of (x ∷ c))) ∙ a)) [
    | inl older ↦ (let w = placed_behind registered c h.0 n d i older in let low = w.0 in let high = w.1 in let more = generation_grows x c in (low, omega (arith, high, more)))
    | inr last ↦ placed_last registered c x h.1 d i last
  ]
  | false ↦ λ a. cc
] k
