-- A change of a member goes on as the plain folder does.
use Rattle.std.proofs.Common.{◌≡◌, ◌≢◌, ◌⊎◌, ℕ, zero, suc, ◌+◌, ◌<◌, ◌≤◌, ◌^◌, Bool, true, false, cond, List, [], ◌∷◌, ◌++◌, length, map, Option, Some, None, Result, Ok, Err, inl, inr, refl, sym, ap, subst, ◌∙◌, arith}
use Rattle.std.specs.Prelude.{◌&&◌, ◌||◌, not, nat_eq, nat_le, nat_lt, reverse, IsSome, is_some}
use Rattle.std.specs.List.{range_with_len, filter, list_any}
use Rattle.std.specs.FinMap.{get}
use Rattle.std.proofs.lemmas.List.{length-reverse, length-map}
use Rattle.std.proofs.lemmas.List.FromFn.{length-range_with_len}
use Rattle.std.proofs.lemmas.Bool.{eqb-true, eq-eqb}
use Rattle.std.proofs.lemmas.Bool.Decides.{nat_tests}
use Rattle.kb_ops.specs.Trees.{Tree}
use Rattle.kb_keys.specs.declared.policy.Role.{Role}
use Rattle.kb_keys.specs.declared.policy.Role.TheVariants.{Writer, Reader}
use Rattle.kb_keys.specs.declared.policy.Action.{Action}
use Rattle.kb_keys.specs.declared.policy.Action.TheVariants as action
use Rattle.kb_keys.specs.declared.entries.Entry.{Entry}
use Rattle.kb_keys.specs.declared.halves.Half.{Half}
use Rattle.kb_keys.specs.Policies.{role_at, role_after, generation_after}
use Rattle.kb_keys.specs.Secrets.{device_secret, folder_key, server_half}
use Rattle.kb_blocks.specs.Stores as stores
use Rattle.kb_blocks.specs.Stores.{Collides}
use Rattle.kb_files.specs.Opens.{Blocks, Opens}
use Rattle.kb_snap.specs.Holds.{HoldsTree}
use Rattle.kb_snap.proofs.Kept.{row_within}
use Rattle.kb_chain.specs.declared.revisions.RevisionKind.{RevisionKind}
use Rattle.kb_chain.specs.declared.revisions.RevisionKind.TheVariants.{Rekey}
use Rattle.kb_chain.specs.declared.revisions.Revision.{Revision}
use Rattle.kb_chain.specs.declared.privates.Private.{Private}
use Rattle.kb_chain.specs.declared.bundles.BundlePart.{BundlePart}
use Rattle.kb_chain.specs.declared.states.FolderRequest.{FolderRequest}
use Rattle.kb_chain.specs.declared.states.PutRefusal.{PutRefusal}
use Rattle.kb_chain.specs.declared.states.PutRefusal.TheVariants as why
use Rattle.kb_chain.specs.Revisions.{revision_text, are_rising}
use Rattle.kb_chain.specs.Privates.{private_text, IsPrivate}
use Rattle.kb_chain.specs.Checks as checks
use Rattle.kb_chain.specs.Checks.{granted, remaining, stays, writes_on, has_other_writer}
use Rattle.kb_chain.proofs.InTurn.{once_revision}
use Rattle.kb_chain.proofs.PrivateParts.{once_private}
use Rattle.kb_snap.specs.Chains as plain
use Rattle.kb_snap.specs.Chains.{Rekeyed}
use Rattle.kb_keys.specs.Members.{is_writer, IsLastWriter}
use Rattle.kb_snap.specs.Members.{FitsAction}
use Rattle.kb_snap.proofs.Chains.{newest_is, tree_next}
use Rattle.kb_folder.specs.Chains.{Plain, Back, Names, Place, places_of, places_by, members, tree_at, role_in, generation_in, IsAllowed, Suits}
use Rattle.kb_folder.specs.Stands.{Revisions, Stands, Spells, keys_to, head_of, entries_for}
use Rattle.kb_folder.specs.Puts.{Held, Puts}
use Rattle.kb_folder.specs.Lands.{FolderStands, Extends, IsRequestOf, FolderStep, sent_for}
use Rattle.kb_folder.proofs.Turning.{turned, gen_next, places_next}
use Rattle.kb_folder.proofs.Fitting.{filter_same, stays_is, other_writer}
use Rattle.kb_folder.proofs.Behind.{HasOtherWriter}
use Rattle.kb_folder.proofs.Standing.{stands_length}
use Rattle.kb_folder.proofs.Stepping.{answers}
use Rattle.kb_rekey.specs.declared.rekeying.RekeyFault.{RekeyFault}
use Rattle.kb_rekey.specs.declared.rekeying.RekeyFault.TheVariants as rekey
use Rattle.kb_rekey.specs.declared.rekeying.Last.{Last}
use Rattle.kb_rekey.specs.Rekeying.{rekeyed_by, RekeyAnswer, Rekeys, EndsWith, rekey_private, rekey_unsigned, signed_by, halves_of, IsRekeyRequest, MayChange, places_for, IsPlainAnswer, Answers}
use Rattle.kb_rekey.proofs.Last.{Written, last_written}
use Rattle.kb_rekey.proofs.MadeEntries.{member_entries}
use Rattle.kb_keys.specs.Bundles.{made_entry}

-- ---- writers

pub same_writer : (o : Option Role) → checks.is_writer o ≡ is_writer o
same_writer (Some Writer) = refl
same_writer (Some Reader) = refl
same_writer None = refl

pub writer_some : (o : Option Role) → checks.is_writer o ≡ true → IsSome o
writer_some (Some role) e = refl
writer_some None e = cc

some_none : (o : Option Role) → o ≡ None → IsSome o → ⊥
some_none None e h = cc
some_none (Some role) e h = cc

first_true : (a b : Bool) → (a && b) ≡ true → a ≡ true
first_true true b e = refl
first_true false b e = e

second_true : (a b : Bool) → (a && b) ≡ true → b ≡ true
second_true true b e = e
second_true false b e = cc

or_so : (a b : Bool) → b ≡ true → (a || b) ≡ true
or_so true b e = refl
or_so false b e = e

-- one that passes
some_passes : (p : ℕ → Bool) (xs : List ℕ) → list_any p xs ≡ true → (x : ℕ) × (p x ≡ true)
some_passes p [] h = cc
some_passes p (x ∷ xs) h = elim (p x) as (λ b. p x ≡ b → (b || list_any p xs) ≡ true → (y : ℕ) × (p y ≡ true)) [
  | true ↦ λ e k. (x, e)
  | false ↦ λ e k. some_passes p xs k
] refl h

not_same : (a b : ℕ) → not (nat_eq a b) ≡ true → a ≡ b → ⊥
not_same a b h e = let bad : not true ≡ true = subst (λ t. not t ≡ true) (eq-eqb a b e) h in cc

-- where another one writes, this one isn't the last writer
not_last : (roles : checks.Roles) (role : ℕ → Option Role) (who : ℕ) → ((d : ℕ) → role_at roles d ≡ role d) → has_other_writer roles who ≡ true → IsLastWriter role who → ⊥
not_last roles role who same h last =
    let one = some_passes (writes_on roles who) (range_with_len 1 32) h in
    let writes : is_writer (role one.0) ≡ true = ap is_writer (sym (same one.0)) ∙ sym (same_writer (role_at roles one.0)) ∙ second_true (not (nat_eq one.0 who)) (checks.is_writer (role_at roles one.0)) one.1 in
    not_same one.0 who (first_true (not (nat_eq one.0 who)) (checks.is_writer (role_at roles one.0)) one.1) (last.alone one.0 writes)

writer_told : (o : Option Role) → is_writer o ≡ true → o ≡ Some Writer
writer_told (Some Writer) h = refl
writer_told (Some Reader) h = cc
writer_told None h = cc

same_or_not : (a b : ℕ) → (a ≡ b) ⊎ (a ≢ b)
same_or_not a b = elim (nat_eq a b) as (λ z. nat_eq a b ≡ z → (a ≡ b) ⊎ (a ≢ b)) [ true ↦ λ e. inl (eqb-true a b e) | false ↦ λ e. inr (λ same. let bad : true ≡ false = sym (eq-eqb a b same) ∙ e in cc) ] refl

-- where no other one writes, this one is the last writer
pub is_last : (roles : checks.Roles) (c : Back) (by who : ℕ) → ((d : ℕ) → role_at roles d ≡ role_in c d) → ((d : ℕ) → IsSome (role_in c d) → (1 ≤ d) × (d ≤ 32)) → is_writer (role_in c by) ≡ true → has_other_writer roles who ≡ false → IsLastWriter (role_in c) who
is_last roles c by who same few writes none = record { writes = subst (λ d. is_writer (role_in c d) ≡ true) (alone by writes) writes; alone = alone }
  where
    alone : (q : ℕ) → is_writer (role_in c q) ≡ true → q ≡ who
    alone q w = elim (same_or_not q who) [
      | inl e ↦ e
      | inr off ↦ (let other : HasOtherWriter c who = (q, (off, writer_told (role_in c q) w)) in let bad : true ≡ false = sym (other_writer roles c who same few other) ∙ none in cc)
    ]

-- ---- entries in order

rise_grant : (sealed : List ℕ → List ℕ → List ℕ) (seed : List ℕ) (who a n : ℕ) → are_rising (entries_for sealed seed (map (λ i. (who, i)) (range_with_len a n))) ≡ true
rise_grant sealed seed who a zero = refl
rise_grant sealed seed who a (suc zero) = refl
rise_grant sealed seed who a (suc (suc n)) = ap (λ b. (b || (nat_eq a (a + 1) && nat_lt who who)) && are_rising (entries_for sealed seed (map (λ i. (who, i)) (range_with_len (a + 1) (suc n))))) (let h : nat_lt a (a + 1) ≡ true = grind (arith, nat_tests) in h) ∙ rise_grant sealed seed who (a + 1) (suc n)

-- behind an earlier device
rise_next : (sealed : List ℕ → List ℕ → List ℕ) (seed : List ℕ) (g d a : ℕ) (rest : List ℕ) (b : Bool) → d < a → are_rising (entries_for sealed seed (map (λ m. (m, g)) (a ∷ rest))) ≡ true → are_rising (entries_for sealed seed (map (λ m. (m, g)) (d ∷ rest))) ≡ true
    → are_rising (entries_for sealed seed (map (λ m. (m, g)) (d ∷ cond b (a ∷ rest) rest))) ≡ true
rise_next sealed seed g d a rest true lt with_it without = ap (λ t. t && are_rising (entries_for sealed seed (map (λ m. (m, g)) (a ∷ rest)))) (let h : (nat_lt g g || (nat_eq g g && nat_lt d a)) ≡ true = grind (arith, nat_tests) in h) ∙ with_it
rise_next sealed seed g d a rest false lt with_it without = without

rise_behind : (sealed : List ℕ → List ℕ → List ℕ) (seed : List ℕ) (g : ℕ) (p : ℕ → Bool) (d a n : ℕ) → d < a → are_rising (entries_for sealed seed (map (λ m. (m, g)) (d ∷ filter p (range_with_len a n)))) ≡ true
rise_behind sealed seed g p d a zero lt = refl
rise_behind sealed seed g p d a (suc n) lt = rise_next sealed seed g d a (filter p (range_with_len (a + 1) n)) (p a) lt (rise_behind sealed seed g p a (a + 1) n (omega arith)) (rise_behind sealed seed g p d (a + 1) n (omega arith))

rise_left : (sealed : List ℕ → List ℕ → List ℕ) (seed : List ℕ) (g : ℕ) (p : ℕ → Bool) (a n : ℕ) → are_rising (entries_for sealed seed (map (λ m. (m, g)) (filter p (range_with_len a n)))) ≡ true
rise_left sealed seed g p a zero = refl
rise_left sealed seed g p a (suc n) = elim (p a) as (λ b. are_rising (entries_for sealed seed (map (λ m. (m, g)) (cond b (a ∷ filter p (range_with_len (a + 1) n)) (filter p (range_with_len (a + 1) n))))) ≡ true) [
  | true ↦ rise_behind sealed seed g p a (a + 1) n (omega arith)
  | false ↦ rise_left sealed seed g p (a + 1) n
]

few_left : (p : ℕ → Bool) (xs : List ℕ) → length (filter p xs) ≤ length xs
few_left p [] = omega arith
few_left p (x ∷ xs) = elim (p x) as (λ b. length (cond b (x ∷ filter p xs) (filter p xs)) ≤ suc (length xs)) [ true ↦ (let h = few_left p xs in omega (arith, h)) | false ↦ (let h = few_left p xs in omega (arith, h)) ]

few_range : (a n : ℕ) → length (range_with_len a n) ≡ n
few_range a n = length-range_with_len a n

module _ (sealed : List ℕ → List ℕ → List ℕ) (seed : List ℕ) (f : Held) (who : ℕ) where
  pub rising_for : (a : Action) → MayChange f a who → are_rising (entries_for sealed seed (places_for f a who)) ≡ true
  rising_for action.Found may = absurd may
  rising_for action.GrantWriter may = rise_grant sealed seed who 1 f.state.policy.1
  rising_for action.GrantReader may = rise_grant sealed seed who 1 f.state.policy.1
  rising_for action.Revoke may = rise_left sealed seed (f.state.policy.1 + 1) (stays f.state.policy.0 who) 1 32

  few_granted : f.state.policy.1 ≤ 64 → length (entries_for sealed seed (granted who f.state.policy.1)) < 2 ^ 16
  few_granted most =
      let size : length (entries_for sealed seed (granted who f.state.policy.1)) ≡ f.state.policy.1 = length-map (granted who f.state.policy.1) _ ∙ length-map (range_with_len 1 f.state.policy.1) _ ∙ few_range 1 f.state.policy.1 in
      omega (arith, size, most)

  pub few_for : (a : Action) → MayChange f a who → f.state.policy.1 ≤ 64 → length (entries_for sealed seed (places_for f a who)) < 2 ^ 16
  few_for action.Found may most = absurd may
  few_for action.GrantWriter may most = few_granted most
  few_for action.GrantReader may most = few_granted most
  few_for action.Revoke may most =
      let left : List ℕ = filter (stays f.state.policy.0 who) (range_with_len 1 32) in
      let size : length (entries_for sealed seed (remaining f.state.policy.0 who (f.state.policy.1 + 1))) ≡ length left = length-map (remaining f.state.policy.0 who (f.state.policy.1 + 1)) _ ∙ length-map left _ in
      let low = few_left (stays f.state.policy.0 who) (range_with_len 1 32) in
      let all = few_range 1 32 in
      omega (arith, size, low, all)

-- ---- the tree that stays

-- the keys of a later generation are more
wider : (seed : List ℕ) (g h i : ℕ) (k : List ℕ) → g ≤ h → keys_to seed g i ≡ Some k → keys_to seed h i ≡ Some k
wider seed g h i k le = elim (nat_le 1 i && nat_le i g) as (λ b. (nat_le 1 i && nat_le i g) ≡ b → cond b (Some (folder_key seed i)) None ≡ Some k → keys_to seed h i ≡ Some k) [
  | true ↦ λ e at. ap (λ b. cond b (Some (folder_key seed i)) None) (let t : (nat_le 1 i && nat_le i h) ≡ true = grind (arith, nat_tests) in t) ∙ at
  | false ↦ λ e at. cc
] refl

tree_stays : (x : Plain) (c : Back) (a : Action) (who : ℕ) → x.deed ≡ Rekeyed a who → tree_at (x ∷ c) (length (x ∷ c)) ≡ tree_at c (length c)
tree_stays x c a who deed =
    let size : suc (length c) ≡ length (reverse c) + 1 = (let e = length-reverse c in omega (arith, e)) in
    ap (λ l. plain.tree_at l (suc (length c))) (turned x c) ∙ ap (plain.tree_at (reverse c ++ x ∷ [])) size ∙ tree_next (reverse c) x ∙ ap (plain.done_on (plain.trees_of (reverse c)) x) deed ∙ newest_is (reverse c) ∙ ap (plain.tree_at (reverse c)) (length-reverse c)

same_private : (sealed signed : List ℕ → List ℕ → List ℕ) (one_plain : (k p q : List ℕ) → sealed k p ≡ sealed k q → p ≡ q) (seed : List ℕ) (names : Names) (older : Revisions) (c : Back) (text : List ℕ) (x : Plain) (s : Spells sealed signed seed names older c text x) (last : Last) (bs : Revisions) (e : EndsWith sealed seed bs last)
    → text ≡ revision_text e.revision → s.private ≡ e.private
same_private sealed signed one_plain seed names older c text x s last bs e at =
    let r : s.revision ≡ e.revision = (once_revision s.revision e.revision [] [] s.is e.is (ap (λ z. z ++ []) (sym s.spelled ∙ at))).0 in
    let kind : s.revision.kind ≡ e.revision.kind = ap (λ (z : Revision). z.kind) r in
    let texts : private_text s.revision.kind s.private ≡ private_text e.revision.kind e.private = one_plain (folder_key seed s.revision.generation) _ _ (sym s.opens ∙ ap (λ (z : Revision). z.private) r ∙ e.opens ∙ ap (λ (z : Revision). sealed (folder_key seed z.generation) (private_text e.revision.kind e.private)) (sym r)) in
    (once_private s.revision.kind s.private e.private [] [] s.is_private (kept (sym kind) e.is_private) (ap (λ z. z ++ []) (texts ∙ ap (λ (k : RevisionKind). private_text k e.private) (sym kind)))).0
  where
    kept : {k l : RevisionKind} {p : Private} → k ≡ l → IsPrivate k p → IsPrivate l p
    kept {p = p} e h = subst (λ (k : RevisionKind). IsPrivate k p) e h

-- the halves of entries for places
sent_are : (sealed : List ℕ → List ℕ → List ℕ) (seed : List ℕ) (ps : List Place) → halves_of seed (entries_for sealed seed ps) ≡ sent_for seed ps
sent_are sealed seed [] = refl
sent_are sealed seed (p ∷ ps) = ap (λ (hs : List Half). (let h : Half = record { device = p.0; generation = p.1; half = server_half seed p.0 p.1 } in h) ∷ hs) (sent_are sealed seed ps)

-- ---- what was tested, and what was made of it

pub record Ready (sealed signed : List ℕ → List ℕ → List ℕ) (seed : List ℕ) (f : Held) (by moment : ℕ) (a : Action) (who : ℕ) (last : Last) (number generation : ℕ) (entries : List Entry) (request : FolderRequest) : Type 0 where
  pub writes : checks.is_writer (role_at f.state.policy.0 by) ≡ true
  pub may : MayChange f a who
  pub ends : EndsWith sealed seed f.revisions last
  pub number_is : number ≡ f.state.length + 1
  pub generation_is : generation ≡ generation_after a f.state.policy.1
  pub entries_are : entries ≡ entries_for sealed seed (places_for f a who)
  pub made : IsRekeyRequest sealed signed seed last number by moment generation a who entries request

none_first : (by : ℕ) (c : Back) → is_writer (role_in c by) ≡ true → c ≢ []
none_first by [] h e = cc
none_first by (x ∷ c) h e = cc

no_reverse : (c : Back) → c ≢ [] → reverse c ≢ []
no_reverse [] some e = some refl
no_reverse (x ∷ c) some e = let size : length (reverse (x ∷ c)) ≡ suc (length c) = length-reverse (x ∷ c) in let none : length (reverse (x ∷ c)) ≡ 0 = ap length e in absurd (omega (arith, size, none))

module _ (sealed signed : List ℕ → List ℕ → List ℕ) (hashed : List ℕ → List ℕ) (seed : List ℕ) (names : Names) (f : Held) (c : Back) (stands : FolderStands sealed signed hashed seed names f c) where
  pub few_members : (q : ℕ) → IsSome (role_in c q) → (1 ≤ q) × (q ≤ 32)
  few_members q some =
      let h = stands.sound.members q (subst (λ (o : Option Role). IsSome o) (sym (stands.policy.roles q)) some) in
      let top = stands.sound.few in let low = h.0 in let high = h.1 in
      (low, omega (arith, top, high))

  pub writes_in : (by : ℕ) (b : Bool) → checks.is_writer (role_at f.state.policy.0 by) ≡ b → is_writer (role_in c by) ≡ b
  writes_in by b h = ap is_writer (sym (stands.policy.roles by)) ∙ sym (same_writer (role_at f.state.policy.0 by)) ∙ h

  pub len_is : f.state.length ≡ length c
  len_is = sym stands.sound.counted ∙ stands_length sealed signed hashed seed names f.state.registered (get f.blocks) f.revisions c stands.stands

  pub fits_in : (a : Action) (who : ℕ) → MayChange f a who → FitsAction (reverse c) a who
  fits_in action.Found who may = may
  fits_in action.GrantWriter who may = sym (stands.policy.roles who) ∙ may.0
  fits_in action.GrantReader who may = sym (stands.policy.roles who) ∙ may.0
  fits_in action.Revoke who may = (
    subst (λ (o : Option Role). IsSome o) (stands.policy.roles who) may.0,
    not_last f.state.policy.0 (role_in c) who stands.policy.roles may.1,
    subst (λ g. g < 64) stands.policy.generation may.2,
  )

  suits_in : (a : Action) (by who : ℕ) → MayChange f a who → Suits f.state.registered c by (Rekeyed a who)
  suits_in action.Found by who may = tt
  suits_in action.GrantWriter by who may = (may.1, may.2)
  suits_in action.GrantReader by who may = (may.1, may.2)
  suits_in action.Revoke by who may = tt

  places_are : (a : Action) (by who : ℕ) → MayChange f a who → places_for f a who ≡ places_by (λ q. cond (nat_eq q who) (role_after a) (role_in c q)) (generation_after a (generation_in c)) by (Rekeyed a who)
  places_are action.Found by who may = absurd may
  places_are action.GrantWriter by who may = ap (granted who) stands.policy.generation
  places_are action.GrantReader by who may = ap (granted who) stands.policy.generation
  places_are action.Revoke by who may =
      ap (λ g. remaining f.state.policy.0 who (g + 1)) stands.policy.generation
      ∙ ap (map (λ d. (d, generation_in c + 1))) (filter_same (stays f.state.policy.0 who) _ (stays_is f.state.policy.0 (role_in c) stands.policy.roles who) (range_with_len 1 32))

  module _ (one_plain : (k p q : List ℕ) → sealed k p ≡ sealed k q → p ≡ q) (by moment : ℕ) (a : Action) (who : ℕ) (last : Last) (number generation : ℕ) (entries : List Entry) (request : FolderRequest) (r : Ready sealed signed seed f by moment a who last number generation entries request) where
    abbrev x : Plain
    x = rekeyed_by names by moment a who

    by_writes : is_writer (role_in c by) ≡ true
    by_writes = writes_in by true r.writes

    pub allowed : IsAllowed c by
    allowed = or_so (nat_eq (length (reverse c)) 0) (is_writer (role_in c by)) by_writes

    next : number ≡ length c + 1
    next = r.number_is ∙ ap (λ n. n + 1) len_is

    gen_is : generation ≡ generation_in (x ∷ c)
    gen_is = r.generation_is ∙ ap (generation_after a) stands.policy.generation ∙ sym (gen_next x c)

    all_places : places_for f a who ≡ places_of (x ∷ c)
    all_places = places_are a by who r.may ∙ sym (places_next x c)

    written : Written sealed signed hashed seed names f.state.registered (get f.blocks) (revision_text r.ends.revision) r.ends.older c
    written = last_written sealed signed hashed seed names f.state.registered (get f.blocks) (revision_text r.ends.revision) r.ends.older c (subst (λ bs. Stands sealed signed hashed seed names f.state.registered (get f.blocks) bs c) r.ends.revisions stands.stands)

    -- the pointer holds the tree that stays
    held_on : (blocks : Blocks) → ((id bytes : List ℕ) → get f.blocks id ≡ Some bytes → blocks id ≡ Some bytes) → HoldsTree (Opens sealed hashed blocks (keys_to seed generation)) last.root last.mtime (tree_at (x ∷ c) (length (x ∷ c)))
    held_on blocks kept =
        let w = written in
        let s = w.written.spells in
        let same : s.private ≡ r.ends.private = same_private sealed signed one_plain seed names r.ends.older w.before (revision_text r.ends.revision) w.plain s last f.revisions r.ends refl in
        let root : s.private.root ≡ last.root = ap (λ (p : Private). p.root) same ∙ r.ends.root in
        let mtime : s.private.mtime ≡ last.mtime = ap (λ (p : Private). p.mtime) same ∙ r.ends.mtime in
        let tree : tree_at (w.plain ∷ w.before) (length (w.plain ∷ w.before)) ≡ tree_at (x ∷ c) (length (x ∷ c)) = ap (λ (l : Back). tree_at l (length l)) (sym w.chain) ∙ sym (tree_stays x c a who refl) in
        let le : s.revision.generation ≤ generation = subst (λ g. s.revision.generation ≤ g) (sym r.generation_is) (later a f.state.policy.1 s.revision.generation (s.generation ∙ ap generation_in (sym w.chain) ∙ sym stands.policy.generation)) in
        let h = w.written.held in
        subst (λ p. HoldsTree (Opens sealed hashed blocks (keys_to seed generation)) p last.mtime (tree_at (x ∷ c) (length (x ∷ c)))) root
        (subst (λ m. HoldsTree (Opens sealed hashed blocks (keys_to seed generation)) s.private.root m (tree_at (x ∷ c) (length (x ∷ c)))) mtime
        (subst (λ (t : Tree). HoldsTree (Opens sealed hashed blocks (keys_to seed generation)) s.private.root s.private.mtime t) tree (record {
          formed = h.formed;
          timed = h.timed;
          held = row_within (Opens sealed hashed (get f.blocks) (keys_to seed s.revision.generation)) (Opens sealed hashed blocks (keys_to seed generation))
              (λ q text o. record { key = o.key; known = wider seed s.revision.generation generation q.generation o.key le o.known; stored = kept q.id _ o.stored; hash = o.hash }) _ _ _ h.held;
        })))
      where
        later : (a : Action) (g old : ℕ) → old ≡ g → old ≤ generation_after a g
        later action.Found g old e = omega (arith, e)
        later action.GrantWriter g old e = omega (arith, e)
        later action.GrantReader g old e = omega (arith, e)
        later action.Revoke g old e = omega (arith, e)

    extends : Extends sealed signed hashed seed names f c request x
    extends = record {
      follows = record {
        allowed = allowed;
        own = tt;
        counts = tt;
        fits = (no_reverse c (none_first by c by_writes), fits_in a who r.may);
        suits = suits_in a by who r.may;
      };
      spells = record {
        revision = signed_by signed (device_secret seed by) (rekey_unsigned number last.head by moment generation a who entries (sealed (folder_key seed generation) (private_text Rekey (rekey_private last.mtime last.root))));
        is = r.made.is;
        spelled = r.made.spelled;
        number = next;
        previous = r.ends.head ∙ ap head_of (sym r.ends.revisions);
        kind = refl;
        writer = refl;
        name = refl;
        moment = refl;
        generation = gen_is;
        seqs = (refl, refl);
        bundle = ap (λ (es : List Entry). Some (let b : BundlePart = record { action = a; device = who; entries = es } in b)) (r.entries_are ∙ ap (entries_for sealed seed) all_places);
        signature = refl;
        private = rekey_private last.mtime last.root;
        is_private = r.made.is_private;
        opens = refl;
        base = refl;
        ops = refl;
      };
      held = λ blocks kept stored. held_on blocks kept;
      halves = r.made.halves ∙ ap (halves_of seed) r.entries_are ∙ sent_are sealed seed (places_for f a who) ∙ ap (sent_for seed) all_places;
    }

    pub requested : IsRequestOf sealed signed hashed seed names f c request x number
    requested = record {
      revision = signed_by signed (device_secret seed by) (rekey_unsigned number last.head by moment generation a who entries (sealed (folder_key seed generation) (private_text Rekey (rekey_private last.mtime last.root))));
      is = r.made.is;
      spelled = r.made.spelled;
      writer = refl;
      number_is = refl;
      registered = stands.sound.members by (writer_some (role_at f.state.policy.0 by) r.writes);
      signature = refl;
      extends = λ may at. extends;
    }

    -- no block collides
    none_collides : (m : stores.Blocks) (blocks : List (List ℕ)) (id : List ℕ) → blocks ≡ [] → Collides hashed m blocks id → ⊥
    none_collides m [] id e h = h
    none_collides m (b ∷ bs) id e h = cc

    -- the put is taken, or the chain is full, or memory runs out
    pub plain_answer : (new : Held) (answer : Result ℕ PutRefusal) → Puts signed hashed f request new answer → IsPlainAnswer answer
    plain_answer new answer p = only answer p
      where
        step : (answer : Result ℕ PutRefusal) → Puts signed hashed f request new answer → answer ≢ Err why.Memory → FolderStep f.limit c by number (Collides hashed f.blocks request.blocks) answer
        step answer p some = (answers sealed signed hashed seed names f new c request x number stands requested answer p some).0

        only : (answer : Result ℕ PutRefusal) → Puts signed hashed f request new answer → IsPlainAnswer answer
        only (Ok n) p = tt
        only (Err why.Memory) p = tt
        only (Err why.ChainEnd) p = tt
        only (Err why.BadRevision) p = step (Err why.BadRevision) p (λ e. cc)
        only (Err why.NotWriter) p = step (Err why.NotWriter) p (λ e. cc) allowed
        only (Err why.BadSignature) p = step (Err why.BadSignature) p (λ e. cc)
        only (Err (why.Stale len head)) p = (step (Err (why.Stale len head)) p (λ e. cc)).1 next
        only (Err (why.SeqGap expected)) p = step (Err (why.SeqGap expected)) p (λ e. cc)
        only (Err why.BadFit) p = step (Err why.BadFit) p (λ e. cc)
        only (Err (why.Collision id)) p = none_collides f.blocks request.blocks id r.made.blocks (step (Err (why.Collision id)) p (λ e. cc)).3

    pub taken : (new : Held) (n : ℕ) → Puts signed hashed f request new (Ok n) → RekeyAnswer f.limit c by a who (Ok n) × FolderStands sealed signed hashed seed names new (x ∷ c)
    taken new n p =
        let to = answers sealed signed hashed seed names f new c request x number stands requested (Ok n) p (λ e. cc) in
        ((by_writes, fits_in a who r.may, to.0.2, to.0.3 ∙ next), to.1)

    pub full : (new : Held) → Puts signed hashed f request new (Err why.ChainEnd) → RekeyAnswer f.limit c by a who (Err rekey.ChainEnd)
    full new p =
        let to = answers sealed signed hashed seed names f new c request x number stands requested (Err why.ChainEnd) p (λ e. cc) in
        (by_writes, fits_in a who r.may, to.0.2)

-- ---- the whole

module _ (sealed signed : List ℕ → List ℕ → List ℕ) (hashed : List ℕ → List ℕ) (seed : List ℕ) (by : ℕ) (a : Action) (who moment : ℕ) where
  -- a refusal that changes nothing
  pub refused : (f : Held) (e : RekeyFault) → ((names : Names) (c : Back) → FolderStands sealed signed hashed seed names f c → RekeyAnswer f.limit c by a who (Err e)) → Rekeys sealed signed hashed seed by a who moment f f (Err e)
  refused f e why = record { changes = refl; answer = why; stands = λ names c s. s }

  pub rekeys : (one_plain : (k p q : List ℕ) → sealed k p ≡ sealed k q → p ≡ q) (f new : Held) (last : Last) (number generation : ℕ) (entries : List Entry) (request : FolderRequest) → Ready sealed signed seed f by moment a who last number generation entries request
      → (answer : Result ℕ PutRefusal) (told : Result ℕ RekeyFault) → Puts signed hashed f request new answer → Answers answer told → Rekeys sealed signed hashed seed by a who moment f new told
  rekeys one_plain f new last number generation entries request r (Ok n) told p t = subst (λ (o : Result ℕ RekeyFault). Rekeys sealed signed hashed seed by a who moment f new o) (sym t) (record {
    changes = record { bytes = request.revision; revisions = p.revisions; blocks = p.blocks ∙ ap (stores.stored hashed f.blocks) r.made.blocks; secrets = p.secrets; limit = p.limit; registered = p.state.registered };
    answer = λ names c s. (taken sealed signed hashed seed names f c s one_plain by moment a who last number generation entries request r new n p).0;
    stands = λ names c s. (taken sealed signed hashed seed names f c s one_plain by moment a who last number generation entries request r new n p).1;
  })
  rekeys one_plain f new last number generation entries request r (Err why.ChainEnd) told p t = subst (λ (o : Result ℕ RekeyFault). Rekeys sealed signed hashed seed by a who moment f new o) (sym t) (record {
    changes = p.1;
    answer = λ names c s. full sealed signed hashed seed names f c s one_plain by moment a who last number generation entries request r new p;
    stands = λ names c s. subst (λ (g : Held). FolderStands sealed signed hashed seed names g c) (sym p.1) s;
  })
  rekeys one_plain f new last number generation entries request r (Err why.Memory) told p t = subst (λ (o : Result ℕ RekeyFault). Rekeys sealed signed hashed seed by a who moment f new o) (sym t) (record {
    changes = p.1;
    answer = λ names c s. tt;
    stands = λ names c s. subst (λ (g : Held). FolderStands sealed signed hashed seed names g c) (sym p.1) s;
  })
  rekeys one_plain f new last number generation entries request r (Err why.BadRevision) told p t = absurd t
  rekeys one_plain f new last number generation entries request r (Err why.NotWriter) told p t = absurd t
  rekeys one_plain f new last number generation entries request r (Err why.BadSignature) told p t = absurd t
  rekeys one_plain f new last number generation entries request r (Err (why.Stale len head)) told p t = absurd t
  rekeys one_plain f new last number generation entries request r (Err (why.SeqGap expected)) told p t = absurd t
  rekeys one_plain f new last number generation entries request r (Err why.BadFit) told p t = absurd t
  rekeys one_plain f new last number generation entries request r (Err (why.Collision id)) told p t = absurd t

module _ (sealed signed : List ℕ → List ℕ → List ℕ) (hashed : List ℕ → List ℕ) (seed : List ℕ) (f : Held) (by who moment : ℕ) (writes : checks.is_writer (role_at f.state.policy.0 by) ≡ true) where
  pub last_refused : has_other_writer f.state.policy.0 who ≡ false → Rekeys sealed signed hashed seed by action.Revoke who moment f f (Err rekey.LastWriter)
  last_refused none = refused sealed signed hashed seed by action.Revoke who moment f rekey.LastWriter (λ names c s.
      let writer = writes_in sealed signed hashed seed names f c s by true writes in
      (writer, tt, is_last f.state.policy.0 c by who s.policy.roles (few_members sealed signed hashed seed names f c s) writer none))

  pub end_refused : IsSome (role_at f.state.policy.0 who) → has_other_writer f.state.policy.0 who ≡ true → 64 ≤ f.state.policy.1 → Rekeys sealed signed hashed seed by action.Revoke who moment f f (Err rekey.GenEnd)
  end_refused some other end = refused sealed signed hashed seed by action.Revoke who moment f rekey.GenEnd (λ names c s. (
    writes_in sealed signed hashed seed names f c s by true writes,
    tt,
    subst (λ (o : Option Role). IsSome o) (s.policy.roles who) some,
    not_last f.state.policy.0 (role_in c) who s.policy.roles other,
    subst (λ g. 64 ≤ g) s.policy.generation end,
  ))

-- ---- what the tests told

abbrev pub Policy : Type 0
Policy = List (Option Role) × ℕ

pub told_writer : (policy now : Policy) (by : ℕ) (o : Option Role) (b t : Bool) → now ≡ policy → o ≡ role_at now.0 by → b ≡ checks.is_writer o → b ≡ t → checks.is_writer (role_at policy.0 by) ≡ t
told_writer policy now by o b t same is test e = ap (λ (p : Policy). checks.is_writer (role_at p.0 by)) (sym same) ∙ ap checks.is_writer (sym is) ∙ sym test ∙ e

pub told_some : (policy now : Policy) (who : ℕ) (o : Option Role) (b : Bool) → now ≡ policy → o ≡ role_at now.0 who → is_some o ≡ not b → b ≡ false → IsSome (role_at policy.0 who)
told_some policy now who o b same is test e = ap (λ (p : Policy). is_some (role_at p.0 who)) (sym same) ∙ ap (λ (x : Option Role). is_some x) (sym is) ∙ test ∙ ap not e

pub told_other : (policy now : Policy) (who : ℕ) (b t : Bool) → now ≡ policy → b ≡ has_other_writer now.0 who → b ≡ t → has_other_writer policy.0 who ≡ t
told_other policy now who b t same test e = ap (λ (p : Policy). has_other_writer p.0 who) (sym same) ∙ sym test ∙ e

pub told_generation : (policy now : Policy) (g : ℕ) → now ≡ policy → g ≡ now.1 → g ≡ policy.1
told_generation policy now g same is = is ∙ ap (λ (p : Policy). p.1) same

pub revoke_entries : (sealed : List ℕ → List ℕ → List ℕ) (seed : List ℕ) (policy now : Policy) (who g : ℕ) (members ms : List ℕ) (es : List Entry) → es ≡ map (λ d. made_entry sealed seed d (g + 1) (folder_key seed (g + 1))) ms → ms ≡ members → members ≡ filter (stays now.0 who) (range_with_len 1 32) → now ≡ policy → g ≡ policy.1
    → es ≡ entries_for sealed seed (remaining policy.0 who (policy.1 + 1))
revoke_entries sealed seed policy now who g members ms es made slice left same is =
    made ∙ ap (map (λ d. made_entry sealed seed d (g + 1) (folder_key seed (g + 1)))) (slice ∙ left ∙ ap (λ (p : Policy). filter (stays p.0 who) (range_with_len 1 32)) same)
    ∙ member_entries sealed seed (g + 1) (filter (stays policy.0 who) (range_with_len 1 32)) ∙ ap (λ n. entries_for sealed seed (remaining policy.0 who (n + 1))) is
