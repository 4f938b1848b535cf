-- The revisions of a folder in order, each behind those before it.
use Rattle.std.proofs.Common.{◌≡◌, ◌⊎◌, ℕ, zero, suc, ◌+◌, ◌-◌, ◌<◌, ◌≤◌, true, false, cond, List, [], ◌∷◌, ◌++◌, length, drop, map, Option, Some, None, inl, inr, refl, sym, ap, subst, ◌∙◌, arith}
use Rattle.std.specs.Prelude.{nat_le, reverse, slice_get, slice_index_or}
use Rattle.std.proofs.lemmas.List.{reverse-append, length-reverse, length-drop}
use Rattle.std.proofs.lemmas.Bool.Decides.{nat_tests}
use Rattle.kb_keys.specs.Rings.{Keys}
use Rattle.kb_files.specs.Opens.{Blocks}
use Rattle.kb_keys.specs.declared.policy.Role.{Role}
use Rattle.kb_snap.specs.Chains.{Deed}
use Rattle.kb_snap.specs.Chains.Deed.{Founded, Stepped, Merged, Rekeyed}
use Rattle.kb_folder.specs.Chains.{Plain, Back, Names, Place, places_of, places_by}
use Rattle.kb_folder.specs.Stands.{Revisions, Stands, IsWritten, bundle_for}
use Rattle.kb_folder.specs.Reading.{places_behind}
use Rattle.std.specs.FinMap.{get}
use Rattle.kb_folder.specs.Puts.{Held}
use Rattle.kb_folder.specs.Lands.{FolderStands}
use Rattle.kb_folder.proofs.Standing.{stands_length}
use Rattle.kb_device.specs.Filling.{HasKeysOf}
use Rattle.kb_device.proofs.Keys.{keys_append}

get_front : (xs ys : List (List ℕ)) (r : ℕ) → r < length xs → slice_get (xs ++ ys) r ≡ slice_get xs r
get_front [] ys r h = absurd (omega arith)
get_front (x ∷ xs) ys zero h = refl
get_front (x ∷ xs) ys (suc r) h = get_front xs ys r (omega arith)

pub get_last : (xs : List (List ℕ)) (y : List ℕ) (r : ℕ) → r ≡ length xs → slice_get (xs ++ y ∷ []) r ≡ Some y
get_last [] y zero h = refl
get_last [] y (suc r) h = absurd (omega (arith, h))
get_last (x ∷ xs) y zero h = absurd (omega (arith, h))
get_last (x ∷ xs) y (suc r) h = get_last xs y r (omega (arith, h))

module _ (sealed signed : List ℕ → List ℕ → List ℕ) (hashed : List ℕ → List ℕ) (seed : List ℕ) (names : Names) (registered : ℕ) (blocks : Blocks) where
  -- the revision with number r + 1
  pub record IsPlaced (bs : Revisions) (c : Back) (r : ℕ) : Type 0 where
    pub bytes : List ℕ
    pub plain : Plain
    pub older_bytes : Revisions
    pub older : Back
    pub there : slice_get (reverse bs) r ≡ Some bytes
    pub written : IsWritten sealed signed hashed seed names blocks older_bytes older bytes plain
    pub size : length older ≡ r
    pub is : drop (length c - (r + 1)) c ≡ plain ∷ older
    pub was : drop (length c - r) c ≡ older

  lengths : (bs : Revisions) (c : Back) → Stands sealed signed hashed seed names registered blocks bs c → length bs ≡ length c
  lengths [] [] h = refl
  lengths [] (x ∷ c) h = absurd h
  lengths (b ∷ bs) [] h = absurd h
  lengths (b ∷ bs) (x ∷ c) h = ap suc (lengths bs c h.0)

  low_or_last : (r n : ℕ) → r < suc n → (r < n) ⊎ (r ≡ n)
  low_or_last r n lt = grind (arith, lt)

  pub placed : (bs : Revisions) (c : Back) → Stands sealed signed hashed seed names registered blocks bs c → (r : ℕ) → r < length bs → IsPlaced bs c r
  placed [] [] h r lt = absurd (omega arith)
  placed [] (x ∷ c) h r lt = absurd h
  placed (b ∷ bs) [] h r lt = absurd h
  placed (b ∷ bs) (x ∷ c) h r lt = elim (low_or_last r (length bs) lt) [
    | inl low ↦
        let p = placed bs c h.0 r low in
        let size = lengths bs c h.0 in
        record {
          bytes = p.bytes;
          plain = p.plain;
          older_bytes = p.older_bytes;
          older = p.older;
          there = ap (λ l. slice_get l r) (reverse-append (b ∷ []) bs) ∙ get_front (reverse bs) (b ∷ []) r (subst (λ n. r < n) (sym (length-reverse bs)) low) ∙ p.there;
          written = p.written;
          size = p.size;
          is = ap (λ n. drop n (x ∷ c)) (let e : suc (length c) - (r + 1) ≡ suc (length c - (r + 1)) = omega (arith, low, size) in e) ∙ p.is;
          was = ap (λ n. drop n (x ∷ c)) (let e : suc (length c) - r ≡ suc (length c - r) = omega (arith, low, size) in e) ∙ p.was;
        }
    | inr last ↦
        let size = lengths bs c h.0 in
        record {
          bytes = b;
          plain = x;
          older_bytes = bs;
          older = c;
          there = ap (λ l. slice_get l r) (reverse-append (b ∷ []) bs) ∙ get_last (reverse bs) b r (last ∙ sym (length-reverse bs));
          written = h.1;
          size = sym size ∙ sym last;
          is = ap (λ n. drop n (x ∷ c)) (let e : suc (length c) - (r + 1) ≡ 0 = omega (arith, last, size) in e);
          was = ap (λ n. drop n (x ∷ c)) (let e : suc (length c) - r ≡ 1 = omega (arith, last, size) in e);
        }
  ]

-- ---- the places of a longer front

none_behind : (n : ℕ) (c : Back) → length c ≤ n → places_behind n c ≡ []
none_behind n [] le = refl
none_behind n (x ∷ c) le = ap (λ b. cond b (places_behind n c ++ places_of (x ∷ c)) []) (let no : nat_le n (length c) ≡ false = grind (arith, nat_tests, le) in no)

pub begin_places : (n : ℕ) (c : Back) → n ≤ length c → places_behind n (drop (length c - (n + 0)) c) ≡ []
begin_places n c le = none_behind n (drop (length c - (n + 0)) c) (let e = length-drop (length c - (n + 0)) c in omega (arith, e, le))

pub next_places : (n : ℕ) (x : Plain) (c : Back) → n ≤ length c → places_behind n (x ∷ c) ≡ places_behind n c ++ places_of (x ∷ c)
next_places n x c le = ap (λ b. cond b (places_behind n c ++ places_of (x ∷ c)) []) (let yes : nat_le n (length c) ≡ true = grind (arith, nat_tests, le) in yes)

-- a revision without a bundle has no places
pub no_places : (sealed : List ℕ → List ℕ → List ℕ) (seed : List ℕ) (role : ℕ → Option Role) (g w : ℕ) (deed : Deed) → bundle_for sealed seed w deed (places_by role g w deed) ≡ None → places_by role g w deed ≡ []
no_places sealed seed role g w Founded e = cc
no_places sealed seed role g w (Stepped ops) e = refl
no_places sealed seed role g w (Merged base rule ops) e = refl
no_places sealed seed role g w (Rekeyed act who) e = cc

pub no_keys : (seed : List ℕ) (d most : ℕ) (ps : List Place) (a : Keys) → ps ≡ [] → HasKeysOf seed d most ps a a
no_keys seed d most ps a e = subst (λ l. HasKeysOf seed d most l a a) (sym e) (λ g. refl)

-- the item that was lent
pub lent_item : (all : List (List ℕ)) (known i : ℕ) (item : List ℕ) → i < length (drop known all) → slice_index_or (drop known all) i item ≡ item → slice_get all (known + i) ≡ Some item
lent_item all zero i item lt at = ap (slice_get all) (let e : 0 + i ≡ i = omega arith in e) ∙ here all i lt at where
  here : (all : List (List ℕ)) (i : ℕ) → i < length all → slice_index_or all i item ≡ item → slice_get all i ≡ Some item
  here [] i lt at = absurd (omega arith)
  here (x ∷ all) zero lt at = ap Some at
  here (x ∷ all) (suc i) lt at = here all i (omega arith) at
lent_item [] (suc known) i item lt at = absurd (omega arith)
lent_item (x ∷ all) (suc known) i item lt at = ap (slice_get (x ∷ all)) (let e : suc known + i ≡ suc (known + i) = omega arith in e) ∙ lent_item all known i item lt at

pub index_map : {A B : Type 0} (h : A → B) (xs : List A) (i : ℕ) (x : A) → slice_index_or (map h xs) i (h x) ≡ h (slice_index_or xs i x)
index_map h [] i x = refl
index_map h (y ∷ xs) zero x = refl
index_map h (y ∷ xs) (suc i) x = index_map h xs i x

module _ (sealed signed : List ℕ → List ℕ → List ℕ) (hashed : List ℕ → List ℕ) (seed : List ℕ) (names : Names) (f : Held) (c : Back) (stands : FolderStands sealed signed hashed seed names f c) (known : ℕ) (within : known ≤ length c)
    (lent : List (List ℕ)) (is : lent ≡ drop known (reverse f.revisions)) where
  count : length lent ≡ length c - known
  count =
      ap length is ∙ length-drop known (reverse f.revisions) ∙ ap (λ n. n - known) (length-reverse f.revisions)
      ∙ ap (λ n. n - known) (stands_length sealed signed hashed seed names f.state.registered (get f.blocks) f.revisions c stands.stands)

  size : length f.revisions ≡ length c
  size = stands_length sealed signed hashed seed names f.state.registered (get f.blocks) f.revisions c stands.stands

  -- what was lent at a place is the revision there
  pub lent_placed : (i : ℕ) (item : List ℕ) → i < length lent → slice_index_or lent i item ≡ item → (p : IsPlaced sealed signed hashed seed names f.state.registered (get f.blocks) f.revisions c (known + i)) × (p.bytes ≡ item)
  lent_placed i item lt at =
      let p = placed sealed signed hashed seed names f.state.registered (get f.blocks) f.revisions c stands.stands (known + i) (let e = count in let s = size in omega (arith, e, s, lt, within)) in
      let there = lent_item (reverse f.revisions) known i item (subst (λ l. i < length l) is lt) (subst (λ l. slice_index_or l i item ≡ item) is at) in
      let same : Some p.bytes ≡ Some item = sym p.there ∙ there in
      (p, (let e : p.bytes ≡ item = cc in e))

  pub fill_begin : (d most : ℕ) (a : Keys) → HasKeysOf seed d most (places_behind known (drop (length c - (known + 0)) c)) a a
  fill_begin d most a = no_keys seed d most (places_behind known (drop (length c - (known + 0)) c)) a (begin_places known c within)

  pub fill_next : (d most i : ℕ) (a b e : Keys) (p : IsPlaced sealed signed hashed seed names f.state.registered (get f.blocks) f.revisions c (known + i)) → HasKeysOf seed d most (places_behind known (drop (length c - (known + i)) c)) a b
      → HasKeysOf seed d most (places_of (p.plain ∷ p.older)) b e → HasKeysOf seed d most (places_behind known (drop (length c - (known + (i + 1))) c)) a e
  fill_next d most i a b e p h k =
      subst (λ n. HasKeysOf seed d most (places_behind known (drop (length c - n) c)) a e) (let same : known + i + 1 ≡ known + (i + 1) = omega arith in same)
      (subst (λ l. HasKeysOf seed d most (places_behind known l) a e) (sym p.is)
      (subst (λ ps. HasKeysOf seed d most ps a e) (sym (next_places known p.plain p.older (let s = p.size in omega (arith, s))))
      (keys_append seed d most (places_behind known p.older) (places_of (p.plain ∷ p.older)) a b e (subst (λ l. HasKeysOf seed d most (places_behind known l) a b) p.was h) k)))

  pub fill_end : (d most i : ℕ) (a b : Keys) → length lent ≤ i → HasKeysOf seed d most (places_behind known (drop (length c - (known + i)) c)) a b → HasKeysOf seed d most (places_behind known c) a b
  fill_end d most i a b le h = subst (λ n. HasKeysOf seed d most (places_behind known (drop n c)) a b) (let e = count in let none : length c - (known + i) ≡ 0 = omega (arith, e, le, within) in none) h
