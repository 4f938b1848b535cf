-- Rows that are sealed, and what holds once their blocks are stored.
use Rattle.std.proofs.Common.{◌≡◌, ◌≢◌, ℕ, Bool, true, false, List, [], ◌∷◌, ◌++◌, length, map, cond, Option, Some, None, IsSome, is_some, refl, ap, sym, subst, ◌∙◌, inl, inr, Vec, Global, append_assoc, append-nil}
use mathlib.Core.Bool.{true≢false}
use Rattle.std.proofs.lemmas.List.{length-map, nil_from_length}
use Rattle.std.specs.Prelude.{MatchOption}
use Rattle.std.specs.List.{flat_map, AllByRecursion}
use Rattle.std.specs.FinMap.{get, insert, empty, get-insert, get-empty}
use Rattle.kb_name.specs.declared.ids.NodeId.{NodeId}
use Rattle.kb_name.specs.Nodes.{root, node_cmp}
use Rattle.kb_ops.specs.declared.values.Kind.{Kind}
use Rattle.kb_ops.specs.declared.values.Kind.TheVariants.{Dir, File, Link}
use Rattle.kb_ops.specs.declared.rows.Row.{Row}
use Rattle.kb_ops.specs.Rows.{Look}
use Rattle.kb_ops.specs.Trees.{Tree, look, IsWellFormed}
use Rattle.kb_ops.proofs.Nodes.{node_cases, node_self, node_other}
use Rattle.kb_ops.proofs.Looks.{nodes_total, tested}
use Rattle.kb_ops.proofs.TreeKept.{there}
use Rattle.kb_blocks.specs.declared.pointer.Ptr.{Ptr}
use Rattle.kb_files.specs.Files.{Vault}
use Rattle.kb_files.specs.Opens.{Opens}
use Rattle.kb_files.specs.Splits.{OnceStored}
use Rattle.kb_files.proofs.Kept.{made_stored}
use Rattle.kb_dirs.specs.declared.entries.Entry.{Entry}
use Rattle.kb_dirs.specs.Dirs.{HoldsDir, IsDirMade}
use Rattle.kb_snap.specs.Holds.{IsOneOf, AreChildren, Holds, HoldsKind}
use Rattle.kb_snap.specs.Holds.Holds.{leaf, dir}
use Rattle.kb_snap.specs.Orders.{AreApart, IsTopDown}
use Rattle.kb_snap.specs.Pointers.{Kept, AllHold}
use Rattle.kb_snap.specs.Builds.{ArePointed, IsSealed, AddsRow, Part, IsPart, IsMade, OnceAllStored, KeepsPointers}
use Rattle.kb_snap.proofs.HeldRows.{some_is, kind_cases}
use Rattle.kb_snap.proofs.Forms.{file_held}
use Rattle.kb_snap.proofs.Among.{one_front, one_back, one_split, all_one, one_all, all_append, all_front, all_back, apart_append, apart_behind}
use Rattle.kb_snap.proofs.TopDown.{all_listed, children_behind}

-- ---- a map after an id is set

pub set_here : (m : Kept) (q : NodeId) (p : Ptr) → get (insert m q p) q ≡ Some p
set_here m q p = get-insert nodes_total m q p q ∙ ap (λ b. cond b (Some p) (get m q)) (tested q q ∙ node_self q)

pub set_other : (m : Kept) (q : NodeId) (p : Ptr) (k : NodeId) → k ≢ q → get (insert m q p) k ≡ get m k
set_other m q p k ne = get-insert nodes_total m q p k ∙ ap (λ b. cond b (Some p) (get m k)) (tested k q ∙ node_other k q ne)

pub set_cases : (P : NodeId → Ptr → Type 0) (m : Kept) (q : NodeId) (p : Ptr) → P q p → ((k : NodeId) (x : Ptr) → get m k ≡ Some x → P k x) → (k : NodeId) (x : Ptr) → get (insert m q p) k ≡ Some x → P k x
set_cases P m q p here rest k x e = elim (node_cases k q) [
  | inl same ↦
      let ptr : p ≡ x = some_is p x (sym (set_here m q p) ∙ ap (get (insert m q p)) (sym same) ∙ e) in
      subst (P k) ptr (subst (λ z. P z p) (sym same) here)
  | inr ne ↦ rest k x (sym (set_other m q p k ne) ∙ e)
]

pub set_some : (m : Kept) (q : NodeId) (p : Ptr) (k : NodeId) → IsSome (get m k) → IsSome (get (insert m q p) k)
set_some m q p k h = elim (node_cases k q) [
  | inl same ↦ ap (λ z. is_some (get (insert m q p) z)) same ∙ ap is_some (set_here m q p)
  | inr ne ↦ ap is_some (set_other m q p k ne) ∙ h
]

-- ---- rows

abbrev pub Grows : (NodeId → Option Ptr) → (NodeId → Option Ptr) → Type 0
Grows at new = (q : NodeId) (p : Ptr) → at q ≡ Some p → new q ≡ Some p

pub kind_grows : (vault : Vault) (l : Look) (at new : NodeId → Option Ptr) → Grows at new → (k : Kind) (r : Row) (p : Ptr) → HoldsKind vault l at k r p → HoldsKind vault l new k r p
kind_grows vault l at new more Dir r p x = (x.0, (x.1.0, (x.1.1.0, λ e h. more e.id e.ptr (x.1.1.1 e h))))
kind_grows vault l at new more File r p x = x
kind_grows vault l at new more Link r p x = x

-- a row that is held over pointers that hold is held with all below it
pub row_holds : (vault : Vault) (l : Look) (m : Kept) (q : NodeId) (r : Row) (p : Ptr) → l q ≡ Some r → r.id ≡ q → AllHold vault l m → HoldsKind vault l (get m) r.kind r p → Holds vault l q p
row_holds vault l m q r p is id all x = elim (kind_cases r.kind) [
  | inl on_dir ↦
      let h = subst (λ k. HoldsKind vault l (get m) k r p) on_dir x in
      dir r is on_dir h.0 h.1.0 (subst (λ k. AreChildren l k h.0) id h.1.1.0) (λ e among. all e.id e.ptr (h.1.1.1 e among))
  | inr off_dir ↦ leaf r is off_dir (file_held vault l (get m) r.kind r p off_dir x)
]

-- ---- sealed rows

module _ (sealed : List ℕ → List ℕ → List ℕ) (hashed : List ℕ → List ℕ) (key : List ℕ) (generation : ℕ) where
  pub sealed_dir : (l : Look) (at : NodeId → Option Ptr) (q : NodeId) (r : Row) (p : Ptr) (blocks : List (Vec ℕ Global)) (es es' : List Entry) → l q ≡ Some r → r.id ≡ q → r.kind ≡ Dir → es' ≡ es → IsDirMade sealed hashed key generation es' p blocks
      → OnceStored hashed sealed generation key blocks (λ vault. HoldsDir vault p es') → AreChildren l q es → ((e : Entry) → IsOneOf e es → at e.id ≡ Some e.ptr) → IsSealed sealed hashed key generation l at q p blocks
  sealed_dir l at q r p blocks es es' is id on_dir same made once children pointed = record {
    row = r;
    there = is;
    holds = λ bs keys known stored. subst (λ k. HoldsKind (Opens sealed hashed bs keys) l at k r p) (sym on_dir)
        (es, (subst (HoldsDir (Opens sealed hashed bs keys) p) same (once bs keys known stored), (subst (λ k. AreChildren l k es) (sym id) children, pointed)));
    one = λ _. sym (length-map blocks (λ (b : Vec ℕ Global). b.items)) ∙ ap length made.block;
  }

  -- what was made so far
  pub record IsSoFar (t : Tree) (old new : Kept) (left : List NodeId) (blocks : List (Vec ℕ Global)) : Type 0 where
    pub done : List NodeId
    pub parts : List Part
    pub order : IsTopDown (look t) (left ++ done)
    pub have : (q : NodeId) → IsOneOf q done → IsSome (get new q)
    pub only : (q : NodeId) → IsSome (get new q) → IsOneOf q done
    pub stay : (q : NodeId) (p : Ptr) → IsOneOf q done → get old q ≡ Some p → get new q ≡ Some p
    pub whole : blocks ≡ flat_map (λ (p : Part). p.blocks) parts
    pub each : AllByRecursion (IsPart sealed hashed key generation (look t) old new) parts
    pub once : AreApart (map (λ (p : Part). p.node) parts)
    pub within : (q : NodeId) → IsOneOf q (map (λ (p : Part). p.node) parts) → IsOneOf q done
    pub fresh : (q : NodeId) → IsOneOf q done → get old q ≡ None → IsOneOf q (map (λ (p : Part). p.node) parts)
    pub holds : OnceStored hashed sealed generation key blocks (λ vault. AllHold vault (look t) old → AllHold vault (look t) new)

  no_pointer : (q : NodeId) → IsSome (get (empty {X = Ptr} {R = node_cmp}) q) → ⊥
  no_pointer q h = let e : false ≡ true = sym (ap is_some (get-empty node_cmp q)) ∙ h in cc

  pub so_far_first : (t : Tree) (old new : Kept) (ids : List NodeId) (blocks : List (Vec ℕ Global)) → new ≡ empty → blocks ≡ [] → IsTopDown (look t) ids → IsSoFar t old new ids blocks
  so_far_first t old new ids blocks e b top = subst (λ m. IsSoFar t old m ids blocks) (sym e) (subst (IsSoFar t old empty ids) (sym b) (record {
    done = [];
    parts = [];
    order = subst (IsTopDown (look t)) (sym (append-nil ids)) top;
    have = λ q h. absurd h;
    only = λ q h. absurd (no_pointer q h);
    stay = λ q p h. absurd h;
    whole = refl;
    each = tt;
    once = tt;
    within = λ q h. h;
    fresh = λ q h. absurd h;
    holds = λ bs keys known stored all q p is. absurd (no_pointer q (ap is_some is));
  }))

  -- the pointers keep the parts
  parts_grow : (l : Look) (old new more : Kept) → Grows (get new) (get more) → (p : Part) → IsPart sealed hashed key generation l old new p → IsPart sealed hashed key generation l old more p
  parts_grow l old new more grows p x = record {
    fresh = x.fresh;
    pointed = grows p.node p.ptr x.pointed;
    made = record {
      row = x.made.row;
      there = x.made.there;
      holds = λ bs keys known stored. kind_grows (Opens sealed hashed bs keys) l (get new) (get more) grows x.made.row.kind x.made.row p.ptr (x.made.holds bs keys known stored);
      one = x.made.one;
    };
  }

  module _ (t : Tree) (w : IsWellFormed t) (old new : Kept) (left rest : List NodeId) (q : NodeId) (blocks : List (Vec ℕ Global)) (popped : left ≡ rest ++ q ∷ []) (so : IsSoFar t old new left blocks) where
    order_now : IsTopDown (look t) (rest ++ q ∷ so.done)
    order_now = subst (IsTopDown (look t)) (ap (λ xs. xs ++ so.done) popped ∙ append_assoc rest (q ∷ []) so.done) so.order

    pub row_here : IsSome (look t q)
    row_here = (all_back (λ k. IsSome (look t k)) rest (q ∷ so.done) order_now.there).0

    pub below_pointed : ArePointed (look t) (get new) q
    below_pointed k r is off up = so.have k (children_behind (look t) rest q so.done order_now.above k r is off up)

    off_done : IsOneOf q so.done → ⊥
    off_done h = apart_behind rest q so.done order_now.apart h

    not_yet : get new q ≡ None
    not_yet = elim (get new q) as (λ o. get new q ≡ o → o ≡ None) [ Some p ↦ λ e. absurd (off_done (so.only q (ap is_some e))) | None ↦ λ e. refl ] refl

    grows : (p : Ptr) → Grows (get new) (get (insert new q p))
    grows p k x e = elim (node_cases k q) [
      | inl same ↦ let bad : None ≡ Some x = sym not_yet ∙ ap (get new) (sym same) ∙ e in cc
      | inr ne ↦ set_other new q p k ne ∙ e
    ]

    have_now : (p : Ptr) (k : NodeId) → IsOneOf k (q ∷ so.done) → IsSome (get (insert new q p) k)
    have_now p k h = elim h [
      | inl here ↦ ap (λ z. is_some (get (insert new q p) z)) here ∙ ap is_some (set_here new q p)
      | inr there ↦ set_some new q p k (so.have k there)
    ]

    only_now : (p : Ptr) (k : NodeId) → IsSome (get (insert new q p) k) → IsOneOf k (q ∷ so.done)
    only_now p k h = elim (node_cases k q) [ inl same ↦ inl same | inr ne ↦ inr (so.only k (ap is_some (sym (set_other new q p k ne)) ∙ h)) ]

    stay_now : (p : Ptr) → ((x : Ptr) → get old q ≡ Some x → p ≡ x) → (k : NodeId) (x : Ptr) → IsOneOf k (q ∷ so.done) → get old k ≡ Some x → get (insert new q p) k ≡ Some x
    stay_now p same k x h e = elim h [
      | inl here ↦ ap (get (insert new q p)) here ∙ set_here new q p ∙ ap (λ z. Some z) (same x (ap (get old) (sym here) ∙ e))
      | inr there ↦ grows p k x (so.stay k x there e)
    ]

    -- a row whose pointer was kept
    pub so_far_kept : (p : Ptr) (more : Kept) → get old q ≡ Some p → more ≡ insert new q p → IsSoFar t old more rest blocks
    so_far_kept p more is e = subst (λ m. IsSoFar t old m rest blocks) (sym e) (record {
      done = q ∷ so.done;
      parts = so.parts;
      order = order_now;
      have = have_now p;
      only = only_now p;
      stay = stay_now p (λ x h. some_is p x (sym is ∙ h));
      whole = so.whole;
      each = one_all (IsPart sealed hashed key generation (look t) old (insert new q p)) so.parts (λ x h. parts_grow (look t) old new (insert new q p) (grows p) x (all_one (IsPart sealed hashed key generation (look t) old new) so.parts so.each x h));
      once = so.once;
      within = λ k h. inr (so.within k h);
      fresh = λ k h none. elim h [
        | inl here ↦ let bad : Some p ≡ None = sym is ∙ ap (get old) (sym here) ∙ none in cc
        | inr there ↦ so.fresh k there none
      ];
      holds = λ bs keys known stored all. set_cases (Holds (Opens sealed hashed bs keys) (look t)) new q p (all q p is) (so.holds bs keys known stored all);
    })

    -- a row that was sealed
    pub so_far_made : (p : Ptr) (more : Kept) (blocks' : List (Vec ℕ Global)) → get old q ≡ None → more ≡ insert new q p → AddsRow sealed hashed key generation (look t) (get new) q p blocks blocks' → IsSoFar t old more rest blocks'
    so_far_made p more blocks' none e adds = subst (λ m. IsSoFar t old m rest blocks') (sym e) (subst (IsSoFar t old (insert new q p) rest) (sym adds.1.0) (record {
      done = q ∷ so.done;
      parts = so.parts ++ part ∷ [];
      order = order_now;
      have = have_now p;
      only = only_now p;
      stay = stay_now p (λ x h. let bad : None ≡ Some x = sym none ∙ h in cc);
      whole = ap (λ b. b ++ mine) so.whole ∙ flat_push so.parts part;
      each = all_append (IsPart sealed hashed key generation (look t) old (insert new q p)) so.parts (part ∷ [])
          (one_all (IsPart sealed hashed key generation (look t) old (insert new q p)) so.parts (λ x h. parts_grow (look t) old new (insert new q p) (grows p) x (all_one (IsPart sealed hashed key generation (look t) old new) so.parts so.each x h))) (
            record {
              fresh = none;
              pointed = set_here new q p;
              made = record {
                row = made.row;
                there = made.there;
                holds = λ bs keys known stored. kind_grows (Opens sealed hashed bs keys) (look t) (get new) (get (insert new q p)) (grows p) made.row.kind made.row p (made.holds bs keys known stored);
                one = made.one;
              };
            },
            tt,
          );
      once = subst AreApart (sym (nodes_push so.parts part)) (apart_append (map (λ (x : Part). x.node) so.parts) (q ∷ []) so.once (λ h. h, tt) (λ k l r. elim r [
        | inl here ↦ off_done (subst (λ z. IsOneOf z so.done) here (so.within k l))
        | inr never ↦ never
      ]));
      within = λ k h. elim (one_split k (map (λ (x : Part). x.node) so.parts) (q ∷ []) (subst (IsOneOf k) (nodes_push so.parts part) h)) [
        | inl l ↦ inr (so.within k l)
        | inr r ↦ elim r [ inl here ↦ inl here | inr never ↦ absurd never ]
      ];
      fresh = λ k h never. subst (IsOneOf k) (sym (nodes_push so.parts part)) (elim h [
        | inl here ↦ one_back k (map (λ (x : Part). x.node) so.parts) (q ∷ []) (inl here)
        | inr there ↦ one_front k (map (λ (x : Part). x.node) so.parts) (q ∷ []) (so.fresh k there never)
      ]);
      holds = λ bs keys known stored all.
          let before = so.holds bs keys known (all_front (λ (b : Vec ℕ Global). bs (hashed b.items) ≡ Some b.items) blocks mine stored) all in
          let here = made.holds bs keys known (all_back (λ (b : Vec ℕ Global). bs (hashed b.items) ≡ Some b.items) blocks mine stored) in
          set_cases (Holds (Opens sealed hashed bs keys) (look t)) new q p (row_holds (Opens sealed hashed bs keys) (look t) new q made.row p made.there (w.keyed q made.row made.there) before here) before;
    }))
      where
        mine : List (Vec ℕ Global)
        mine = adds.0

        made : IsSealed sealed hashed key generation (look t) (get new) q p adds.0
        made = adds.1.1

        part : Part
        part = record { node = q; ptr = p; blocks = adds.0 }

        flat_push : (xs : List Part) (x : Part) → flat_map (λ (p : Part). p.blocks) xs ++ x.blocks ≡ flat_map (λ (p : Part). p.blocks) (xs ++ x ∷ [])
        flat_push [] x = sym (append-nil x.blocks)
        flat_push (y ∷ xs) x = append_assoc y.blocks (flat_map (λ (p : Part). p.blocks) xs) x.blocks ∙ ap (λ b. y.blocks ++ b) (flat_push xs x)

        nodes_push : (xs : List Part) (x : Part) → map (λ (p : Part). p.node) (xs ++ x ∷ []) ≡ map (λ (p : Part). p.node) xs ++ x.node ∷ []
        nodes_push [] x = refl
        nodes_push (y ∷ xs) x = ap (λ b. y.node ∷ b) (nodes_push xs x)

  module _ (t : Tree) (w : IsWellFormed t) (old new : Kept) (left : List NodeId) (blocks : List (Vec ℕ Global)) (none : left ≡ []) (so : IsSoFar t old new left blocks) where
    order_all : IsTopDown (look t) so.done
    order_all = subst (λ xs. IsTopDown (look t) (xs ++ so.done)) none so.order

    listed : (q : NodeId) → IsSome (look t q) → IsOneOf q so.done
    listed q h = let r = there t q h in all_listed t w so.done order_all q r.0 r.1

    pub all_pointed : (q : NodeId) → is_some (get new q) ≡ is_some (look t q)
    all_pointed q = by (is_some (look t q)) refl
      where
        by : (b : Bool) → is_some (look t q) ≡ b → is_some (get new q) ≡ b
        by true e = so.have q (listed q e)
        by false e = elim (is_some (get new q)) as (λ b. is_some (get new q) ≡ b → b ≡ false) [
          | true ↦ λ f. absurd (true≢false (sym (all_one (λ k. IsSome (look t k)) so.done order_all.there q (so.only q f)) ∙ e))
          | false ↦ λ f. refl
        ] refl

    pub kept_all : (p : Ptr) → get new root ≡ Some p → KeepsPointers t old new p
    kept_all p e = record {
      all = all_pointed;
      stay = λ q x is has. so.stay q x (listed q is) has;
      top = e;
    }

    pub made_all : (listed_blocks : List (List ℕ)) → listed_blocks ≡ map (λ (b : Vec ℕ Global). b.items) blocks → IsMade sealed hashed key generation t old new listed_blocks
    made_all listed_blocks e = record {
      parts = so.parts;
      whole = e ∙ ap (map (λ (b : Vec ℕ Global). b.items)) so.whole;
      each = so.each;
      once = so.once;
      all = λ q r is never. so.fresh q (listed q (ap is_some is)) never;
    }

    pub holds_all : (listed_blocks : List (List ℕ)) → listed_blocks ≡ map (λ (b : Vec ℕ Global). b.items) blocks → OnceAllStored hashed sealed generation key listed_blocks (λ vault. AllHold vault (look t) old → AllHold vault (look t) new)
    holds_all listed_blocks e bs keys known stored = so.holds bs keys known (made_stored hashed bs blocks (subst (AllByRecursion (λ b. bs (hashed b) ≡ Some b)) e stored))

    pub root_pointed : IsSome (get new root)
    root_pointed = so.have root (subst (IsOneOf root) (sym order_all.first.1) (inl refl))

-- nothing was left to pop
pub emptied : {X : Type 0} (Q : X → Type 0) (o : Option X) (xs : List X) (n m : ℕ) → ((x : X) → o ≡ Some x → ⊥) → MatchOption o ((n ≡ 0) × (m ≡ 0)) Q → n ≡ length xs → xs ≡ []
emptied Q None xs n m h c e = nil_from_length xs (sym e ∙ c.0)
emptied Q (Some x) xs n m h c e = absurd (h x refl)
