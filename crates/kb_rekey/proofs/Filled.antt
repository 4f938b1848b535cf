-- A ring that was filled from a folder that stands for a chain.
use Rattle.std.proofs.Common.{◌≡◌, ℕ, zero, suc, ◌+◌, ◌-◌, ◌<◌, ◌≤◌, ◌^◌, Bool, true, false, cond, List, [], ◌∷◌, ◌++◌, length, map, drop, Option, Some, None, Result, Ok, Err, inl, inr, refl, sym, ap, subst, ◌∙◌, arith, length-drop, Vec, Global}
use Rattle.std.specs.Prelude.{◌&&◌, nat_le, reverse, slice_get, IsSome, is_some}
use Rattle.std.specs.FinMap.{get}
use Rattle.std.proofs.lemmas.List.{reverse-append, length-reverse, length-map}
use Rattle.std.proofs.lemmas.Bool.Decides.{nat_tests}
use Rattle.kb_keys.specs.declared.halves.Half.{Half}
use Rattle.kb_keys.specs.declared.policy.Role.{Role}
use Rattle.kb_keys.specs.Halves.{half_at}
use Rattle.kb_keys.specs.Rings as rings
use Rattle.kb_keys.specs.Rings.{key_at}
use Rattle.kb_keys.specs.Secrets.{device_secret, folder_key, server_half}
use Rattle.kb_files.specs.Opens.{Blocks}
use Rattle.kb_chain.specs.declared.bundles.BundlePart.{BundlePart}
use Rattle.kb_chain.specs.Checks.{entries_of}
use Rattle.kb_snap.specs.Chains.{Deed, Founded, Stepped, Merged, Rekeyed}
use Rattle.kb_snap.specs.Members.{generation_by}
use Rattle.kb_folder.specs.Chains.{Plain, Back, Names, Place, places_of, places_by, role_in, generation_in}
use Rattle.kb_folder.specs.Stands.{Stands, Spells, keys_to, entries_for, bundle_for}
use Rattle.kb_folder.specs.Reading.{IsChain, generation_at, places_behind, is_among}
use Rattle.kb_folder.specs.Puts.{Held, IsSound}
use Rattle.kb_folder.specs.Held.{is_member}
use Rattle.kb_folder.specs.Lands.{FolderStands}
use Rattle.kb_folder.proofs.Turning.{role_by, places_next}
use Rattle.kb_folder.proofs.Halves.{first_of, second_of}
use Rattle.kb_folder.proofs.Readings.{covered, chain_of}
use Rattle.kb_rekey.specs.declared.filling.RingFault.{RingFault}
use Rattle.kb_rekey.specs.declared.filling.RingFault.TheVariants as ring
use Rattle.kb_rekey.specs.Filling.{IsRing, Filled, FillsRing, RingCause, IsBad, BadAmong, IsBadAt, HasPlaces, HasHalves, AllHavePlaces, AddedAll, BlamesOne}
use Rattle.kb_rekey.proofs.Rings.{places_in, behind_is, after_is, generation_grows, placed_last, placed_behind}

-- ---- the places that the bytes have

bundle_places : (sealed : List ℕ → List ℕ → List ℕ) (seed : List ℕ) (role : ℕ → Option Role) (g w : ℕ) (deed : Deed) → entries_of (bundle_for sealed seed w deed (places_by role g w deed)) ≡ entries_for sealed seed (places_by role g w deed)
bundle_places sealed seed role g w Founded = refl
bundle_places sealed seed role g w (Stepped ops) = refl
bundle_places sealed seed role g w (Merged base rule ops) = refl
bundle_places sealed seed role g w (Rekeyed a who) = refl

pub spelled_places : (sealed signed : List ℕ → List ℕ → List ℕ) (seed : List ℕ) (names : Names) (bs : List (List ℕ)) (c : Back) (b : List ℕ) (x : Plain) → Spells sealed signed seed names bs c b x → HasPlaces sealed seed b (places_of (x ∷ c))
spelled_places sealed signed seed names bs c b x s = record {
  revision = s.revision;
  is = s.is;
  spelled = s.spelled;
  entries = ap (λ (o : Option BundlePart). entries_of o) s.bundle
      ∙ subst (λ ps. entries_of (bundle_for sealed seed x.writer x.deed ps) ≡ entries_for sealed seed ps) (sym (places_next x c)) (bundle_places sealed seed (λ q. role_by x.writer x.deed q (role_in c q)) (generation_by x.deed (generation_in c)) x.writer x.deed);
}

module _ (sealed : List ℕ → List ℕ → List ℕ) (seed : List ℕ) (halves : List Half) (d : ℕ) where
  all_push : (bs : List (List ℕ)) (pss : List (List Place)) (b : List ℕ) (ps : List Place) → AllHavePlaces sealed seed halves d bs pss → HasPlaces sealed seed b ps → HasHalves seed halves d ps → AllHavePlaces sealed seed halves d (bs ++ b ∷ []) (pss ++ ps ∷ [])
  all_push [] [] b ps all has kept = ((has, kept), tt)
  all_push [] (qs ∷ pss) b ps all has kept = absurd all
  all_push (a ∷ bs) [] b ps all has kept = absurd all
  all_push (a ∷ bs) (qs ∷ pss) b ps all has kept = (all.0, all_push bs pss b ps all.1 has kept)

  all_drop : (n : ℕ) (bs : List (List ℕ)) (pss : List (List Place)) → AllHavePlaces sealed seed halves d bs pss → AllHavePlaces sealed seed halves d (drop n bs) (drop n pss)
  all_drop zero bs pss all = all
  all_drop (suc n) [] [] all = tt
  all_drop (suc n) [] (ps ∷ pss) all = absurd all
  all_drop (suc n) (b ∷ bs) [] all = absurd all
  all_drop (suc n) (b ∷ bs) (ps ∷ pss) all = all_drop n bs pss all.1

  module _ (signed : List ℕ → List ℕ → List ℕ) (hashed : List ℕ → List ℕ) (names : Names) (registered : ℕ) (blocks : Blocks) (top : ℕ) (due : (i : ℕ) → 1 ≤ i → i ≤ top → half_at halves d i ≡ Some (server_half seed d i)) where
    all_have : (bs : List (List ℕ)) (c : Back) → Stands sealed signed hashed seed names registered blocks bs c → generation_in c ≤ top → AllHavePlaces sealed seed halves d (reverse bs) (places_in c)
    all_have [] [] h le = tt
    all_have [] (x ∷ c) h le = absurd h
    all_have (b ∷ bs) [] h le = absurd h
    all_have (b ∷ bs) (x ∷ c) h le =
        subst (λ l. AllHavePlaces sealed seed halves d l (places_in c ++ places_of (x ∷ c) ∷ [])) (sym (reverse-append (b ∷ []) bs))
        (all_push (reverse bs) (places_in c) b (places_of (x ∷ c)) (all_have bs c h.0 (let more = generation_grows x c in omega (arith, more, le))) (spelled_places sealed signed seed names bs c b x h.1.spells)
        (λ i a. let w = placed_last registered c x h.2 d i a in due i w.0 (let high = w.1 in omega (arith, high, le))))

-- ---- the ring

le_is : (a b : ℕ) → nat_le a b ≡ true → a ≤ b
le_is a b h = grind (arith, nat_tests)

within_test : (i g : ℕ) → 1 ≤ i → i ≤ g → (nat_le 1 i && nat_le i g) ≡ true
within_test i g low high = grind (arith, nat_tests)

key_there : (seed : List ℕ) (g i : ℕ) → 1 ≤ i → i ≤ g → keys_to seed g i ≡ Some (folder_key seed i)
key_there seed g i low high = ap (λ b. cond b (Some (folder_key seed i)) None) (within_test i g low high)

outside : (i g top : ℕ) → g ≤ top → (nat_le 1 i && nat_le i top) ≡ false → (nat_le 1 i && nat_le i g) ≡ false
outside i g top le e = grind (arith, nat_tests)

later_test : (i g : ℕ) → nat_le i g ≡ false → g < i
later_test i g e = grind (arith, nat_tests)

-- the keys that there were, and those behind, are all
all_keys : (registered : ℕ) (c : Back) (from d g i : ℕ) (seed : List ℕ) → registered ≤ 32 → IsChain registered c → IsSome (role_in c d) → generation_at from c ≤ g → g ≤ generation_in c
    → cond (is_among d i (places_behind from c)) (Some (folder_key seed i)) (keys_to seed g i) ≡ keys_to seed (generation_in c) i
all_keys registered c from d g i seed few chain some low high = by (is_among d i (places_behind from c)) refl
  where
    by : (b : Bool) → is_among d i (places_behind from c) ≡ b → cond b (Some (folder_key seed i)) (keys_to seed g i) ≡ keys_to seed (generation_in c) i
    by true e = let w = placed_behind registered c chain from d i e in sym (key_there seed (generation_in c) i w.0 w.1)
    by false e = elim (nat_le 1 i && nat_le i (generation_in c)) as (λ b. (nat_le 1 i && nat_le i (generation_in c)) ≡ b → keys_to seed g i ≡ cond b (Some (folder_key seed i)) None) [
      | true ↦ λ t.
          let pos = le_is 1 i (first_of (nat_le 1 i) (nat_le i (generation_in c)) t) in
          let top = le_is i (generation_in c) (second_of (nat_le 1 i) (nat_le i (generation_in c)) t) in
          elim (nat_le i g) as (λ b. nat_le i g ≡ b → keys_to seed g i ≡ Some (folder_key seed i)) [
            | true ↦ λ at. key_there seed g i pos (le_is i g at)
            | false ↦ λ past. (let later = later_test i g past in let bad : false ≡ true = sym e ∙ covered registered few c chain from d i some (omega (arith, pos)) (omega (arith, low, later)) top in cc)
          ] refl
      | false ↦ λ t. ap (λ b. cond b (Some (folder_key seed i)) None) (outside i g (generation_in c) high t)
    ] refl

-- what the answer is then
abbrev pub FilledBy : List ℕ → Back → ℕ → rings.Keys → Result (Unit {0}) RingFault → Type 0
FilledBy seed c d new (Ok u) = Filled seed c d (Ok new)
FilledBy seed c d new (Err e) = Filled seed c d (Err e)

module _ (sealed signed : List ℕ → List ℕ → List ℕ) (hashed : List ℕ → List ℕ) (f : Held) (d : ℕ) (secret : List ℕ) where
  -- no stranger is a member
  pub stranger : (from : ℕ) (old : rings.Keys) → is_member f d ≡ false → FillsRing sealed signed hashed f d secret from old (Err ring.NotMember)
  stranger from old off seed names c g stands same low high was = none (role_in c d) (sym (ap (λ (o : Option Role). is_some o) (stands.policy.roles d)) ∙ off)
    where
      none : (o : Option Role) → is_some o ≡ false → o ≡ None
      none None e = refl
      none (Some role) e = cc

  -- what was read of a folder that stands for a chain
  module _ (from : ℕ) (texts : List (List ℕ)) (old new : rings.Keys) (member : is_member f d ≡ true) (read : texts ≡ drop from (reverse f.revisions)) (seed : List ℕ) (names : Names) (c : Back) (g : ℕ) (stands : FolderStands sealed signed hashed seed names f c) (same : secret ≡ device_secret seed d)
      (low : generation_at from c ≤ g) (high : g ≤ generation_in c) (was : IsRing seed g old) where
    some : IsSome (role_in c d)
    some = sym (ap (λ (o : Option Role). is_some o) (stands.policy.roles d)) ∙ member

    due : (i : ℕ) → 1 ≤ i → i ≤ generation_in c → half_at f.halves d i ≡ Some (server_half seed d i)
    due i low high = stands.halves d i ∙ ap (λ b. cond (b && (nat_le 1 i && nat_le i (generation_in c))) (Some (server_half seed d i)) None) some ∙ ap (λ b. cond b (Some (server_half seed d i)) None) (within_test i (generation_in c) low high)

    have : AllHavePlaces sealed seed f.halves d texts (drop from (places_in c))
    have =
        subst (λ l. AllHavePlaces sealed seed f.halves d l (drop from (places_in c))) (sym read)
        (all_drop sealed seed f.halves d from (reverse f.revisions) (places_in c) (all_have sealed seed f.halves d signed hashed names f.state.registered (get f.blocks) (generation_in c) due f.revisions c stands.stands (omega arith)))

    pub filled : (result : Result (Unit {0}) RingFault) → ((seed : List ℕ) (pss : List (List Place)) → secret ≡ device_secret seed d → AllHavePlaces sealed seed f.halves d texts pss → AddedAll seed d pss old new result) → FilledBy seed c d new result
    filled result adds = by result (adds seed (drop from (places_in c)) same have)
      where
        by : (r : Result (Unit {0}) RingFault) → AddedAll seed d (drop from (places_in c)) old new r → FilledBy seed c d new r
        by (Ok u) h = (
          some,
          λ i.
              h i ∙ after_is seed d (drop from (places_in c)) i (key_at old i) ∙ ap (λ ps. cond (is_among d i ps) (Some (folder_key seed i)) (key_at old i)) (sym (behind_is from c)) ∙ ap (cond (is_among d i (places_behind from c)) (Some (folder_key seed i))) (was i)
              ∙ all_keys f.state.registered c from d g i seed stands.sound.few (chain_of sealed signed hashed seed names f.state.registered (get f.blocks) f.revisions c stands.stands) some low high,
        )
        by (Err ring.NotMember) h = absurd h
        by (Err (ring.BadFolder number)) h = h
        by (Err ring.Memory) h = tt

-- ---- the cause

get_drop : (n : ℕ) (xs : List (List ℕ)) (j : ℕ) → slice_get (drop n xs) j ≡ slice_get xs (n + j)
get_drop zero xs j = ap (slice_get xs) (let e : j ≡ 0 + j = omega arith in e)
get_drop (suc n) [] j = refl
get_drop (suc n) (x ∷ xs) j = get_drop n xs j ∙ (let e : suc (n + j) ≡ suc n + j = omega arith in ap (slice_get (x ∷ xs)) e)

module _ (sealed : List ℕ → List ℕ → List ℕ) (secret : List ℕ) (halves : List Half) (d : ℕ) where
  place_of : (from : ℕ) (bs : List (List ℕ)) (number : ℕ) → BadAmong sealed secret halves d from bs number → (j : ℕ) × (number ≡ (from + j) + 1) × ((b : List ℕ) × (slice_get bs j ≡ Some b) × IsBad sealed secret halves d b)
  place_of from [] number h = absurd h
  place_of from (b ∷ bs) number (inl h) = (0, (let e = h.0 in omega (arith, e)), (b, refl, h.1))
  place_of from (b ∷ bs) number (inr h) = let p = place_of (from + 1) bs number h in (suc p.0, (let e = p.1 in omega (arith, e)), p.2)

pub bad_at : (sealed : List ℕ → List ℕ → List ℕ) (f : Held) (d : ℕ) (secret : List ℕ) (from number : ℕ) (texts : List (List ℕ)) → texts ≡ drop from (reverse f.revisions) → BadAmong sealed secret f.halves d from texts number → IsBadAt sealed f d secret from number
bad_at sealed f d secret from number texts read h =
    let p = place_of sealed secret f.halves d from texts number h in
    let e = p.1 in
    let at : number - 1 ≡ from + p.0 = omega (arith, e) in
    record {
      behind = omega (arith, e);
      bytes = p.2.0;
      there = ap (slice_get (reverse f.revisions)) at ∙ sym (get_drop from (reverse f.revisions) p.0) ∙ ap (λ l. slice_get l p.0) (sym read) ∙ p.2.1;
      bad = p.2.2;
    }

pub caused : (sealed : List ℕ → List ℕ → List ℕ) (f : Held) (d : ℕ) (secret : List ℕ) (from : ℕ) (texts : List (List ℕ)) (e : RingFault) → is_member f d ≡ true → texts ≡ drop from (reverse f.revisions) → BlamesOne (BadAmong sealed secret f.halves d from texts) (Err e) → RingCause sealed f d secret from (Err e)
caused sealed f d secret from texts ring.NotMember member read h = absurd h
caused sealed f d secret from texts (ring.BadFolder number) member read h = (member, bad_at sealed f d secret from number texts read h)
caused sealed f d secret from texts ring.Memory member read h = tt

-- ---- numbers

pub room_for : (f : Held) (from : ℕ) (texts : List (Vec ℕ Global)) → IsSound f → from < 2 ^ 32 → map (λ (b : Vec ℕ Global). b.items) texts ≡ drop from (reverse f.revisions) → from + length texts < 2 ^ 32
room_for f from texts sound small read =
    let size : length texts ≡ length f.revisions - from = sym (length-map texts (λ (b : Vec ℕ Global). b.items)) ∙ ap length read ∙ length-drop from (reverse f.revisions) ∙ ap (λ n. n - from) (length-reverse f.revisions) in
    let counted = sound.counted in let within = sound.within in let limit = sound.limit in
    omega (arith, size, counted, within, limit, small)

pub first_keys : (seed : List ℕ) → IsRing seed 0 []
first_keys seed i = sym (ap (λ b. cond b (Some (folder_key seed i)) None) (none i))
  where
    none : (i : ℕ) → (nat_le 1 i && nat_le i 0) ≡ false
    none i = grind (arith, nat_tests)
