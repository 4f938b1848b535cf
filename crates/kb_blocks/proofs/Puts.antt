-- What putting a block changes.
use Rattle.std.proofs.Common.{◌≡◌, ℕ, ◌+◌, Bool, List, [], ◌∷◌, ◌++◌, true, false, cond, inl, inr, refl, ap, sym, subst, ◌∙◌, Option, Some, None, Result, Ok, Err, length, get_or, map, take, drop, ◌<◌, append_assoc}
use Rattle.std.proofs.lemmas.List.{take_more, take-append-drop, map-append}
use Rattle.std.specs.declared.cmp.Ordering.{Ordering}
use Rattle.std.specs.declared.cmp.Ordering.TheVariants.{Less, Equal, Greater}
use Rattle.std.specs.Ordering.{is_eq, eq_by_cmp}
use Rattle.std.specs.FinMap.{get, insert, remove, get-insert, get-remove, same_map, IsAntisymmetric, slice_cmp-IsAntisymmetric, nat_cmp-IsAntisymmetric}
use Rattle.std.proofs.lemmas.Cmp.{nat_list_cmp_total}
use Rattle.std.specs.Cmp.{eq_by_cmp_equiv}
use Rattle.kb_blocks.specs.Entries.{id_cmp}
use Rattle.kb_blocks.specs.Stores.{Blocks, Keeps, IsTaken, IsFree, Adds, Puts, PutsAll, stored, AllFree, Collides, undone}
use Rattle.kb_blocks.specs.declared.store.PutFault.{PutFault}
use Rattle.kb_blocks.specs.declared.store.PutFault.TheVariants.{Collision, Memory}

pub exact_ids : IsAntisymmetric id_cmp
exact_ids = slice_cmp-IsAntisymmetric nat_cmp-IsAntisymmetric

equal : (r : Ordering) → is_eq r ≡ true → r ≡ Equal
equal Less e = cc
equal Equal e = refl
equal Greater e = cc

same_id : (q k : List ℕ) → eq_by_cmp id_cmp q k ≡ true → q ≡ k
same_id q k e = exact_ids q k (equal (id_cmp q k) e)

-- what an insert has at an id, by cases
pub at_insert : (m : Blocks) (k v q : List ℕ) (P : Option (List ℕ) → Type 0) → (q ≡ k → P (Some v)) → P (get m q) → P (get (insert m k v) q)
at_insert m k v q P here there = subst P (sym (get-insert nat_list_cmp_total m k v q)) (elim (eq_by_cmp id_cmp q k) as (λ b. eq_by_cmp id_cmp q k ≡ b → P (cond b (Some v) (get m q))) [
  | true ↦ λ e. here (same_id q k e)
  | false ↦ λ e. there
] refl)

pub insert_again : (m : Blocks) (k v : List ℕ) → get m k ≡ Some v → m ≡ insert m k v
insert_again m k v e = same_map nat_list_cmp_total exact_ids _ _ (λ q. at_insert m k v q (λ o. get m q ≡ o) (λ h. ap (get m) h ∙ e) refl)

pub insert_hashed : (hashed : List ℕ → List ℕ) (m : Blocks) (k v : List ℕ) → k ≡ hashed v → ((q b : List ℕ) → get m q ≡ Some b → q ≡ hashed b) → (q b : List ℕ) → get (insert m k v) q ≡ Some b → q ≡ hashed b
insert_hashed hashed m k v here there q b = at_insert m k v q (λ o. o ≡ Some b → q ≡ hashed b) (λ h e. let same : v ≡ b = cc in h ∙ here ∙ ap hashed same) (there q b)

-- what a removal has at an id, by cases
at_remove : (m : Blocks) (k q : List ℕ) (P : Option (List ℕ) → Type 0) → (q ≡ k → P None) → P (get m q) → P (get (remove m k) q)
at_remove m k q P here there = subst P (sym (get-remove nat_list_cmp_total m k q)) (elim (eq_by_cmp id_cmp q k) as (λ b. eq_by_cmp id_cmp q k ≡ b → P (cond b None (get m q))) [
  | true ↦ λ e. here (same_id q k e)
  | false ↦ λ e. there
] refl)

pub remove_hashed : (hashed : List ℕ → List ℕ) (m : Blocks) (k : List ℕ) → ((q b : List ℕ) → get m q ≡ Some b → q ≡ hashed b) → (q b : List ℕ) → get (remove m k) q ≡ Some b → q ≡ hashed b
remove_hashed hashed m k there q b = at_remove m k q (λ o. o ≡ Some b → q ≡ hashed b) (λ h e. cc) (there q b)

-- what was put under a free id is taken away again
remove_insert : (m : Blocks) (k v : List ℕ) → get m k ≡ None → remove (insert m k v) k ≡ m
remove_insert m k v none = same_map nat_list_cmp_total exact_ids _ _ (λ q.
    get-remove nat_list_cmp_total (insert m k v) k q ∙ ap (cond (eq_by_cmp id_cmp q k) None) (get-insert nat_list_cmp_total m k v q) ∙ back q (eq_by_cmp id_cmp q k) refl)
  where
    back : (q : List ℕ) (b : Bool) → eq_by_cmp id_cmp q k ≡ b → cond b None (cond b (Some v) (get m q)) ≡ get m q
    back q true e = sym (ap (get m) (same_id q k e) ∙ none)
    back q false e = refl

undone_snoc : (ids : List (List ℕ)) (id : List ℕ) (m : Blocks) → undone (ids ++ id ∷ []) m ≡ undone ids (remove m id)
undone_snoc [] id m = refl
undone_snoc (x ∷ ids) id m = ap (λ n. remove n x) (undone_snoc ids id m)

-- one block is taken away
pub undone_last : (ids more : List (List ℕ)) (id : List ℕ) (m n : Blocks) → more ≡ ids ++ id ∷ [] → n ≡ remove m id → undone ids n ≡ undone more m
undone_last ids more id m n is removed = ap (undone ids) removed ∙ sym (ap (λ l. undone l m) is ∙ undone_snoc ids id m)

-- one block was put under a free id
pub undone_more : (ids more : List (List ℕ)) (id bytes : List ℕ) (m n : Blocks) → more ≡ ids ++ id ∷ [] → get m id ≡ None → n ≡ insert m id bytes → undone more n ≡ undone ids m
undone_more ids more id bytes m n is none put = ap (λ l. undone l n) is ∙ undone_snoc ids id n ∙ ap (λ l. undone ids (remove l id)) put ∙ ap (undone ids) (remove_insert m id bytes none)

-- where a block was added or is there, its id was free
pub added : (b : Bool) (old new : Blocks) (id bytes : List ℕ) → Adds old new id bytes (Ok b) → IsFree (get old id) bytes × (new ≡ insert old id bytes)
added true old new id bytes h = (subst (λ o. IsFree o bytes) (sym h.0) tt, h.1)
added false old new id bytes h = (subst (λ o. IsFree o bytes) (sym h.0) refl, h.1 ∙ insert_again old id bytes h.0)

at_same : (m : Blocks) (k v : List ℕ) → get (insert m k v) k ≡ Some v
at_same m k v = get-insert nat_list_cmp_total m k v k ∙ ap (λ c. cond c (Some v) (get m k)) ((eq_by_cmp_equiv nat_list_cmp_total).refl k)

pub keeps_self : (m new : Blocks) → new ≡ m → Keeps m new
keeps_self m new same q b e = ap (λ n. get n q) same ∙ e

pub insert_keeps : (m new : Blocks) (k v : List ℕ) → IsFree (get m k) v → new ≡ insert m k v → Keeps m new
insert_keeps m new k v free put q b e = ap (λ n. get n q) put ∙ at_insert m k v q (λ o. o ≡ Some b) (λ h. let held : get m k ≡ Some b = ap (get m) (sym h) ∙ e in ap Some (sym (subst (λ o. IsFree o v) held free))) e

pub adds_keeps : (r : Result Bool PutFault) (old new : Blocks) (id bytes : List ℕ) → Adds old new id bytes r → Keeps old new
adds_keeps (Ok b) old new id bytes h = let a = added b old new id bytes h in insert_keeps old new id bytes a.0 a.1
adds_keeps (Err Memory) old new id bytes h = keeps_self old new h
adds_keeps (Err (Collision at)) old new id bytes h = keeps_self old new h.2

module _ (hashed : List ℕ → List ℕ) where
  pub stored_more : (m : Blocks) (bs : List (List ℕ)) (b : List ℕ) → stored hashed m (bs ++ b ∷ []) ≡ insert (stored hashed m bs) (hashed b) b
  stored_more m [] b = refl
  stored_more m (x ∷ bs) b = stored_more (insert m (hashed x) x) bs b

  pub free_more : (m : Blocks) (bs : List (List ℕ)) (b : List ℕ) → AllFree hashed m bs → IsFree (get (stored hashed m bs) (hashed b)) b → AllFree hashed m (bs ++ b ∷ [])
  free_more m [] b h f = (f, tt)
  free_more m (x ∷ bs) b h f = (h.0, free_more (insert m (hashed x) x) bs b h.1 f)

  -- what was there before the blocks were put still is
  pub stored_keeps : (m : Blocks) (bs : List (List ℕ)) → AllFree hashed m bs → Keeps m (stored hashed m bs)
  stored_keeps m [] h q b e = e
  stored_keeps m (x ∷ bs) h q b e = stored_keeps (insert m (hashed x) x) bs h.1 q b (insert_keeps m (insert m (hashed x) x) (hashed x) x h.0 refl q b e)

  -- each block that was put stands under its hash
  pub stored_has : (m : Blocks) (bs rest : List (List ℕ)) (b : List ℕ) → AllFree hashed m (bs ++ b ∷ rest) → get (stored hashed m (bs ++ b ∷ rest)) (hashed b) ≡ Some b
  stored_has m [] rest b h = stored_keeps (insert m (hashed b) b) rest h.1 (hashed b) b (at_same m (hashed b) b)
  stored_has m (x ∷ bs) rest b h = stored_has (insert m (hashed x) x) bs rest b h.1

  pub collides_after : (m : Blocks) (bs : List (List ℕ)) (b : List ℕ) (rest : List (List ℕ)) (id : List ℕ) → AllFree hashed m bs → id ≡ hashed b → IsTaken (get (stored hashed m bs) id) b → Collides hashed m (bs ++ b ∷ rest) id
  collides_after m [] b rest id h is t = inl (is, t)
  collides_after m (x ∷ bs) b rest id h is t = inr (h.0, collides_after (insert m (hashed x) x) bs b rest id h.1 is t)

module _ {X : Type 0} (f : X → List ℕ) where
  -- the blocks up to one more, and all of them
  pub one_more : (bs : List X) (i : ℕ) (x : X) → i < length bs → x ≡ get_or bs i x → map f (take (i + 1) bs) ≡ map f (take i bs) ++ f x ∷ []
  one_more bs i x h e = ap (map f) (take_more bs i x h) ∙ map-append f (take i bs) _ ∙ ap (λ y. map f (take i bs) ++ f y ∷ []) (sym e)

  pub one_between : (bs : List X) (i : ℕ) (x : X) → i < length bs → x ≡ get_or bs i x → map f bs ≡ map f (take i bs) ++ f x ∷ map f (drop (i + 1) bs)
  one_between bs i x h e =
      ap (map f) (sym (take-append-drop (i + 1) bs)) ∙ map-append f (take (i + 1) bs) _ ∙ ap (λ l. l ++ map f (drop (i + 1) bs)) (one_more bs i x h e) ∙ append_assoc (map f (take i bs)) (f x ∷ []) _

-- a block that is put after others, and one that is refused after others
module _ (hashed : List ℕ → List ℕ) where
  pub puts_next : {X : Type 0} (f : X → List ℕ) (bs : List X) (i : ℕ) (x : X) (first old new : Blocks) (id bytes : List ℕ) → i < length bs → x ≡ get_or bs i x → bytes ≡ f x
      → AllFree hashed first (map f (take i bs)) → old ≡ stored hashed first (map f (take i bs)) → Puts hashed old new bytes (Ok id)
      → AllFree hashed first (map f (take (i + 1) bs)) × (new ≡ stored hashed first (map f (take (i + 1) bs)))
  puts_next f bs i x first old new id bytes h e is free held put =
      let done = map f (take i bs) in
      let more = one_more f bs i x h e in
      let put' : (id ≡ hashed (f x)) × IsFree (get old id) (f x) × (new ≡ insert old id (f x)) = subst (λ b. (id ≡ hashed b) × IsFree (get old id) b × (new ≡ insert old id b)) is put in
      let free' : IsFree (get (stored hashed first done) (hashed (f x))) (f x) = subst (λ k. IsFree (get (stored hashed first done) k) (f x)) put'.0 (subst (λ m. IsFree (get m id) (f x)) held put'.1) in
      let new' : new ≡ stored hashed first (done ++ f x ∷ []) = put'.2 ∙ ap (λ m. insert m id (f x)) held ∙ ap (λ k. insert (stored hashed first done) k (f x)) put'.0 ∙ sym (stored_more hashed first done (f x)) in
      (subst (AllFree hashed first) (sym more) (free_more hashed first done (f x) free free'), new' ∙ ap (stored hashed first) (sym more))

  pub refused_after : {X : Type 0} (Y : Type 0) (f : X → List ℕ) (bs : List X) (i : ℕ) (x : X) (first old new back : Blocks) (bytes : List ℕ) (fault : PutFault) → i < length bs → x ≡ get_or bs i x → bytes ≡ f x
      → AllFree hashed first (map f (take i bs)) → old ≡ stored hashed first (map f (take i bs)) → Puts hashed old new bytes (Err fault) → back ≡ first → PutsAll hashed {X = Y} first back (map f bs) (Err fault)
  refused_after Y f bs i x first old new back bytes Memory h e is free held put same = same
  refused_after Y f bs i x first old new back bytes (Collision id) h e is free held put same =
      let done = map f (take i bs) in
      let taken : IsTaken (get (stored hashed first done) id) (f x) = subst (λ m. IsTaken (get m id) (f x)) held (subst (IsTaken (get old id)) is put.1) in
      (subst (λ l. Collides hashed first l id) (sym (one_between f bs i x h e)) (collides_after hashed first done (f x) _ id free (put.0 ∙ ap hashed is) taken), same)
