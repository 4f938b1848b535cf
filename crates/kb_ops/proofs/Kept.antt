-- Each change that fits leaves a well formed tree.
use Rattle.std.proofs.Common.{◌≡◌, ◌≢◌, ℕ, zero, suc, ◌≤◌, true, false, List, length, ◌⊎◌, inl, inr, Option, Some, None, IsSome, IsSomeAnd, refl, sym, ap, subst, ◌∙◌}
use mathlib.Core.Bool.{true≢false}
use Rattle.std.specs.Option.{option_map_or, unwrap_or}
use Rattle.kb_name.specs.declared.ids.NodeId.{NodeId}
use Rattle.kb_ops.specs.declared.rows.Row.{Row}
use Rattle.kb_name.specs.Names.{is_name}
use Rattle.kb_name.specs.Nodes.{root}
use Rattle.kb_ops.specs.Rows.{Look, is_dir, is_dir_row, is_dir_kind, meets, IsPlain, IsTree, HasNoChild, FitsNew, FitsRemove, MakesWay, FitsRename}
use Rattle.kb_ops.proofs.Nodes.{node_self, node_cases}
use Rattle.kb_ops.proofs.Walks.{IsAtMost, meets_here, meets_step, meets_from, meets_next, meets_grows, meets_within, never_meets, row_cases}

-- new has o at k, and what old has elsewhere
pub record Sets (old new : Look) (k : NodeId) (o : Option Row) : Type 0 where
  pub here : new k ≡ o
  pub others : (q : NodeId) → q ≢ k → new q ≡ old q

pub some_and : {A : Type 0} (P : A → Type 0) (o : Option A) → IsSomeAnd o P → (x : A) × (o ≡ Some x) × P x
some_and P (Some x) h = (x, refl, h)
some_and P None h = absurd h

pub and_some : {A : Type 0} (P : A → Type 0) (o : Option A) (x : A) → o ≡ Some x → P x → IsSomeAnd o P
and_some {A} P o x e h = let F : Option A → Type 0 = λ o. IsSomeAnd o P in subst F (sym e) h

-- the row of a Dir
pub dir_at : (look : Look) (p : NodeId) → is_dir look p ≡ true → (r : Row) × (look p ≡ Some r) × (is_dir_row r ≡ true)
dir_at look p h = elim (row_cases look p) [
  | inl w ↦ (w.0, w.1, sym (ap (λ o. option_map_or is_dir_row o false) w.1) ∙ h)
  | inr none ↦ absurd (true≢false (sym h ∙ ap (λ o. option_map_or is_dir_row o false) none))
]

pub at_dir : (look : Look) (p : NodeId) (r : Row) → look p ≡ Some r → is_dir_row r ≡ true → is_dir look p ≡ true
at_dir look p r is h = ap (λ o. option_map_or is_dir_row o false) is ∙ h

-- what a look has after one is set
pub set_cases : (old new : Look) (k : NodeId) (row : Row) → Sets old new k (Some row) → (q : NodeId) (r : Row) → new q ≡ Some r
    → ((q ≡ k) × (r ≡ row)) ⊎ ((q ≢ k) × (old q ≡ Some r))
set_cases old new k row s q r h = elim (node_cases q k) [
  | inl e ↦ inl (e, ap (λ o. unwrap_or o row) (sym h ∙ ap new e ∙ s.here))
  | inr ne ↦ inr (ne, sym (s.others q ne) ∙ h)
]

module _ (old new : Look) (n m : ℕ) (row : Row) (t : IsTree n old) (fits : FitsNew old row)
    (s : Sets old new row.id (Some row)) (most : IsAtMost m new) where
  grows : (q : NodeId) (r : Row) → old q ≡ Some r → new q ≡ Some r
  grows q r h = elim (node_cases q row.id) [
    | inl e ↦ let none : old q ≡ None = ap old e ∙ fits.new in cc
    | inr ne ↦ s.others q ne ∙ h
  ]

  dir_grows : (p : NodeId) → is_dir old p ≡ true → is_dir new p ≡ true
  dir_grows p h = let w = dir_at old p h in at_dir new p w.0 (grows p w.0 w.1) w.2

  create_reaches : (q : NodeId) (r : Row) → new q ≡ Some r → meets new root m q ≡ true
  create_reaches q r h = elim (set_cases old new row.id row s q r h) [
    | inl at ↦
        let w = dir_at old row.parent fits.dir in
        let up = meets_grows old new root grows n row.parent (t.reaches row.parent w.0 w.1) in
        meets_within m new most root q (suc n) (meets_step new root q n row (ap new at.0 ∙ s.here) up)
    | inr at ↦ meets_within m new most root q n (meets_grows old new root grows n q (t.reaches q r at.1))
  ]

  pub kept_create : IsTree m new
  kept_create = record {
    keyed = λ q r h. elim (set_cases old new row.id row s q r h) [ inl at ↦ ap (λ (x : Row). x.id) at.1 ∙ sym at.0 | inr at ↦ t.keyed q r at.1 ];
    rooted = let w = some_and _ (old root) t.rooted in and_some _ (new root) w.0 (grows root w.0 w.1) w.2;
    parents = λ q r h off. elim (set_cases old new row.id row s q r h) [
      | inl at ↦ subst (λ (x : Row). is_dir new x.parent ≡ true) (sym at.1) (dir_grows row.parent fits.dir)
      | inr at ↦ dir_grows r.parent (t.parents q r at.1 off)
    ];
    named = λ q r h off. elim (set_cases old new row.id row s q r h) [
      | inl at ↦ subst (λ (x : Row). is_name x.name ≡ true) (sym at.1) fits.named
      | inr at ↦ t.named q r at.1 off
    ];
    places = λ p q a b ha hb pr qr same_parent same_name. elim (set_cases old new row.id row s p a ha) [
      | inl x ↦ elim (set_cases old new row.id row s q b hb) [
        | inl y ↦ x.0 ∙ sym y.0
        | inr y ↦ absurd (fits.free q b y.1 qr (sym same_parent ∙ ap (λ (z : Row). z.parent) x.1) (sym same_name ∙ ap (λ (z : Row). z.name) x.1))
      ]
      | inr x ↦ elim (set_cases old new row.id row s q b hb) [
        | inl y ↦ absurd (fits.free p a x.1 pr (same_parent ∙ ap (λ (z : Row). z.parent) y.1) (same_name ∙ ap (λ (z : Row). z.name) y.1))
        | inr y ↦ t.places p q a b x.1 y.1 pr qr same_parent same_name
      ]
    ];
    reaches = create_reaches;
    plain = λ q r h. elim (set_cases old new row.id row s q r h) [
      | inl at ↦ subst (λ (x : Row). IsPlain x.kind x.bytes x.exec) (sym at.1) fits.plain
      | inr at ↦ t.plain q r at.1
    ];
  }

-- a row that is dropped
pub drop_cases : (old new : Look) (k : NodeId) → Sets old new k None → (q : NodeId) (r : Row) → new q ≡ Some r → (q ≢ k) × (old q ≡ Some r)
drop_cases old new k s q r h = elim (node_cases q k) [
  | inl e ↦ let none : new q ≡ None = ap new e ∙ s.here in cc
  | inr ne ↦ (ne, sym (s.others q ne) ∙ h)
]

-- the parent of a row is another one, where a node has no child
other_parent : (old : Look) (n : ℕ) (t : IsTree n old) (k : NodeId) → k ≢ root → HasNoChild old k → (q : NodeId) (r : Row) → old q ≡ Some r → r.parent ≢ k
other_parent old n t k off none q r h = elim (node_cases q root) [
  | inl e ↦
      let w = some_and _ (old root) t.rooted in
      let same : r ≡ w.0 = ap (λ o. unwrap_or o r) (sym h ∙ ap old e ∙ w.1) in
      λ p. off (sym p ∙ ap (λ (x : Row). x.parent) same ∙ w.2.1)
  | inr ne ↦ none q r h ne
]

module _ (old new : Look) (n m : ℕ) (k : NodeId) (t : IsTree n old) (fits : FitsRemove old k) (s : Sets old new k None) (most : IsAtMost m new) where
  still : (q : NodeId) (r : Row) → q ≢ k → old q ≡ Some r → new q ≡ Some r
  still q r ne h = s.others q ne ∙ h

  -- a walk that starts elsewhere never comes to the node
  pub meets_still : (goal : NodeId) (i : ℕ) (q : NodeId) → q ≢ k → meets old goal i q ≡ true → meets new goal i q ≡ true
  meets_still goal zero q ne h = h
  meets_still goal (suc i) q ne h = elim (node_cases q goal) [
    | inl e ↦ subst (λ x. meets new goal (suc i) x ≡ true) (sym e) (meets_here new goal (suc i))
    | inr off ↦
        let w = meets_from old goal q i off h in
        meets_step new goal q i w.0 (still q w.0 ne w.1) (meets_still goal i w.0.parent (other_parent old n t k fits.not_root fits.childless q w.0 w.1) w.2)
  ]

  pub kept_remove : IsTree m new
  kept_remove = record {
    keyed = λ q r h. t.keyed q r (drop_cases old new k s q r h).1;
    rooted = let w = some_and _ (old root) t.rooted in and_some _ (new root) w.0 (still root w.0 (λ e. fits.not_root (sym e)) w.1) w.2;
    parents = λ q r h off.
        let d = drop_cases old new k s q r h in
        let w = dir_at old r.parent (t.parents q r d.1 off) in
        at_dir new r.parent w.0 (still r.parent w.0 (fits.childless q r d.1 off) w.1) w.2;
    named = λ q r h off. t.named q r (drop_cases old new k s q r h).1 off;
    places = λ p q a b ha hb. t.places p q a b (drop_cases old new k s p a ha).1 (drop_cases old new k s q b hb).1;
    reaches = λ q r h.
        let d = drop_cases old new k s q r h in
        meets_within m new most root q n (meets_still root n q d.0 (t.reaches q r d.1));
    plain = λ q r h. t.plain q r (drop_cases old new k s q r h).1;
  }

-- a row that keeps its place and kind
module _ (old new : Look) (n : ℕ) (was row : Row) (t : IsTree n old) (there : old row.id ≡ Some was)
    (same_parent : row.parent ≡ was.parent) (same_name : row.name ≡ was.name) (same_kind : row.kind ≡ was.kind) (plain : IsPlain row.kind row.bytes row.exec)
    (s : Sets old new row.id (Some row)) where
  -- at each id the same place and kind
  edit_cases : (q : NodeId) (r : Row) → new q ≡ Some r → (o : Row) × (old q ≡ Some o) × (r.parent ≡ o.parent) × (r.name ≡ o.name) × (r.kind ≡ o.kind)
  edit_cases q r h = elim (set_cases old new row.id row s q r h) [
    | inl at ↦ (was, ap old at.0 ∙ there, ap (λ (x : Row). x.parent) at.1 ∙ same_parent, ap (λ (x : Row). x.name) at.1 ∙ same_name, ap (λ (x : Row). x.kind) at.1 ∙ same_kind)
    | inr at ↦ (r, at.1, refl, refl, refl)
  ]

  edited : (q : NodeId) (o : Row) → old q ≡ Some o → (r : Row) × (new q ≡ Some r) × (r.parent ≡ o.parent) × (r.name ≡ o.name) × (r.kind ≡ o.kind)
  edited q o h = elim (node_cases q row.id) [
    | inl e ↦
        let same : was ≡ o = ap (λ x. unwrap_or x was) (sym there ∙ sym (ap old e) ∙ h) in
        (row, ap new e ∙ s.here, same_parent ∙ ap (λ (x : Row). x.parent) same, same_name ∙ ap (λ (x : Row). x.name) same, same_kind ∙ ap (λ (x : Row). x.kind) same)
    | inr ne ↦ (o, s.others q ne ∙ h, refl, refl, refl)
  ]

  edited_dir : (p : NodeId) → is_dir old p ≡ true → is_dir new p ≡ true
  edited_dir p h =
      let w = dir_at old p h in
      let e = edited p w.0 w.1 in
      at_dir new p e.0 e.1 (ap is_dir_kind e.4 ∙ w.2)

  edited_meets : (goal : NodeId) (i : ℕ) (q : NodeId) → meets old goal i q ≡ true → meets new goal i q ≡ true
  edited_meets goal zero q h = h
  edited_meets goal (suc i) q h = elim (node_cases q goal) [
    | inl e ↦ subst (λ x. meets new goal (suc i) x ≡ true) (sym e) (meets_here new goal (suc i))
    | inr off ↦
        let w = meets_from old goal q i off h in
        let e = edited q w.0 w.1 in
        meets_step new goal q i e.0 e.1 (subst (λ x. meets new goal i x ≡ true) (sym e.2) (edited_meets goal i w.0.parent w.2))
  ]

  pub kept_edit : IsTree n new
  kept_edit = record {
    keyed = λ q r h. elim (set_cases old new row.id row s q r h) [ inl at ↦ ap (λ (x : Row). x.id) at.1 ∙ sym at.0 | inr at ↦ t.keyed q r at.1 ];
    rooted =
        let w = some_and _ (old root) t.rooted in
        let e = edited root w.0 w.1 in
        and_some _ (new root) e.0 e.1 (e.4 ∙ w.2.0, e.2 ∙ w.2.1, e.3 ∙ w.2.2);
    parents = λ q r h off.
        let e = edit_cases q r h in
        subst (λ x. is_dir new x ≡ true) (sym e.2) (edited_dir e.0.parent (t.parents q e.0 e.1 off));
    named = λ q r h off. let e = edit_cases q r h in subst (λ x. is_name x ≡ true) (sym e.3) (t.named q e.0 e.1 off);
    places = λ p q a b ha hb pr qr same_p same_n.
        let x = edit_cases p a ha in
        let y = edit_cases q b hb in
        t.places p q x.0 y.0 x.1 y.1 pr qr (sym x.2 ∙ same_p ∙ y.2) (sym x.3 ∙ same_n ∙ y.3);
    reaches = λ q r h. let e = edit_cases q r h in edited_meets root n q (t.reaches q e.0 e.1);
    plain = λ q r h. elim (set_cases old new row.id row s q r h) [
      | inl at ↦ subst (λ (x : Row). IsPlain x.kind x.bytes x.exec) (sym at.1) plain
      | inr at ↦ t.plain q r at.1
    ];
  }

-- a row that moves to a place that is free
module _ (old new : Look) (n m : ℕ) (node parent : NodeId) (name : List ℕ) (was row : Row) (t : IsTree n old) (fits : FitsRename n old node parent name None)
    (bound : IsAtMost n old) (there : old node ≡ Some was) (is : row ≡ record was { parent = parent; name = name })
    (s : Sets old new node (Some row)) (most : IsAtMost m new) where
  moved_row : (q : NodeId) (o : Row) → old q ≡ Some o → (r : Row) × (new q ≡ Some r) × (r.kind ≡ o.kind)
  moved_row q o h = elim (node_cases q node) [
    | inl e ↦
        let same : was ≡ o = ap (λ x. unwrap_or x was) (sym there ∙ sym (ap old e) ∙ h) in
        (row, ap new e ∙ s.here, ap (λ (x : Row). x.kind) is ∙ ap (λ (x : Row). x.kind) same)
    | inr ne ↦ (o, s.others q ne ∙ h, refl)
  ]

  moved_dir : (p : NodeId) → is_dir old p ≡ true → is_dir new p ≡ true
  moved_dir p h =
      let w = dir_at old p h in
      let e = moved_row p w.0 w.1 in
      at_dir new p e.0 e.1 (ap is_dir_kind e.2 ∙ w.2)

  -- a walk that never meets the node stays
  aside : (goal : NodeId) (i : ℕ) (q : NodeId) → ((j : ℕ) → meets old node j q ≡ false) → meets old goal i q ≡ true → meets new goal i q ≡ true
  aside goal zero q never h = h
  aside goal (suc i) q never h = elim (node_cases q goal) [
    | inl e ↦ subst (λ x. meets new goal (suc i) x ≡ true) (sym e) (meets_here new goal (suc i))
    | inr off ↦
        let ne : q ≢ node = λ e. true≢false (sym (ap (meets old node 0) e ∙ node_self node) ∙ never 0) in
        let w = meets_from old goal q i off h in
        meets_step new goal q i w.0 (s.others q ne ∙ w.1) (aside goal i w.0.parent (λ j. sym (meets_next old node q j w.0 ne w.1) ∙ never (suc j)) w.2)
  ]

  from_parent : meets new root n parent ≡ true
  from_parent = let w = dir_at old parent fits.dir in aside root n parent (never_meets n old bound node parent fits.not_below) (t.reaches parent w.0 w.1)

  from_node : meets new root (suc n) node ≡ true
  from_node = meets_step new root node n row s.here (subst (λ (x : Row). meets new root n x.parent ≡ true) (sym is) from_parent)

  -- any other walk stays until it comes to the node
  onto : (i : ℕ) (q : NodeId) → meets old root i q ≡ true → (j : ℕ) × (meets new root j q ≡ true)
  onto zero q h = (zero, h)
  onto (suc i) q h = elim (node_cases q node) [
    | inl e ↦ (suc n, subst (λ x. meets new root (suc n) x ≡ true) (sym e) from_node)
    | inr ne ↦ elim (node_cases q root) [
      | inl e ↦ (zero, subst (λ x. meets new root zero x ≡ true) (sym e) (meets_here new root zero))
      | inr off ↦
          let w = meets_from old root q i off h in
          let up = onto i w.0.parent w.2 in
          (suc up.0, meets_step new root q up.0 w.0 (s.others q ne ∙ w.1) up.1)
    ]
  ]

  move_cases : (q : NodeId) (r : Row) → new q ≡ Some r → ((q ≡ node) × (r.parent ≡ parent) × (r.name ≡ name)) ⊎ ((q ≢ node) × (old q ≡ Some r))
  move_cases q r h = elim (set_cases old new node row s q r h) [
    | inl at ↦ inl (at.0, ap (λ (x : Row). x.parent) (at.1 ∙ is), ap (λ (x : Row). x.name) (at.1 ∙ is))
    | inr at ↦ inr at
  ]

  -- the row of the id before, in all else the same
  before : (q : NodeId) (r : Row) → new q ≡ Some r → (o : Row) × (old q ≡ Some o) × (r.id ≡ o.id) × (r.kind ≡ o.kind) × (r.bytes ≡ o.bytes) × (r.exec ≡ o.exec)
  before q r h = elim (set_cases old new node row s q r h) [
    | inl at ↦ let e = at.1 ∙ is in (was, ap old at.0 ∙ there, ap (λ (x : Row). x.id) e, ap (λ (x : Row). x.kind) e, ap (λ (x : Row). x.bytes) e, ap (λ (x : Row). x.exec) e)
    | inr at ↦ (r, at.1, refl, refl, refl, refl)
  ]

  pub kept_move : IsTree m new
  kept_move = record {
    keyed = λ q r h. let b = before q r h in b.2 ∙ t.keyed q b.0 b.1;
    rooted = let w = some_and _ (old root) t.rooted in and_some _ (new root) w.0 (s.others root (λ e. fits.not_root (sym e)) ∙ w.1) w.2;
    parents = λ q r h off. elim (move_cases q r h) [
      | inl at ↦ subst (λ x. is_dir new x ≡ true) (sym at.1) (moved_dir parent fits.dir)
      | inr at ↦ moved_dir r.parent (t.parents q r at.1 off)
    ];
    named = λ q r h off. elim (move_cases q r h) [
      | inl at ↦ subst (λ x. is_name x ≡ true) (sym at.2) fits.named
      | inr at ↦ t.named q r at.1 off
    ];
    places = λ p q a b ha hb pr qr same_parent same_name. elim (move_cases p a ha) [
      | inl x ↦ elim (move_cases q b hb) [
        | inl y ↦ x.0 ∙ sym y.0
        | inr y ↦ absurd (fits.place q b y.1 qr (sym same_parent ∙ x.1) (sym same_name ∙ x.2))
      ]
      | inr x ↦ elim (move_cases q b hb) [
        | inl y ↦ absurd (fits.place p a x.1 pr (same_parent ∙ y.1) (same_name ∙ y.2))
        | inr y ↦ t.places p q a b x.1 y.1 pr qr same_parent same_name
      ]
    ];
    reaches = λ q r h.
        let b = before q r h in
        let w = onto n q (t.reaches q b.0 b.1) in
        meets_within m new most root q w.0 w.1;
    plain = λ q r h.
        let b = before q r h in
        let p = t.plain q b.0 b.1 in
        record { small = subst (λ xs. length xs ≤ 16777216) (sym b.4) p.small; no_bytes = λ k. b.4 ∙ p.no_bytes (sym b.3 ∙ k); no_exec = λ k. b.5 ∙ p.no_exec (λ e. k (b.3 ∙ e)) };
  }

-- after the row that makes way is dropped, the place is free and the rest still fits
module _ (old mid : Look) (n k : ℕ) (node parent gone : NodeId) (name : List ℕ) (t : IsTree n old) (fits : FitsRename n old node parent name (Some gone))
    (bound : IsAtMost n old) (d : Sets old mid gone None) where
  way : MakesWay old node parent name gone
  way = fits.place

  stood : (r : Row) × (old gone ≡ Some r) × (r.parent ≡ parent) × (r.name ≡ name)
  stood = let w = some_and _ (old gone) way.stands in (w.0, w.1, w.2.0, w.2.1)

  parent_other : parent ≢ gone
  parent_other e = way.childless gone stood.0 stood.1 way.not_root (stood.2 ∙ e)

  pub fits_remove : FitsRemove old gone
  fits_remove = record {
    there = subst IsSome (sym stood.1) refl;
    not_root = way.not_root;
    childless = way.childless;
  }

  mid_in_old : (q : NodeId) (r : Row) → mid q ≡ Some r → old q ≡ Some r
  mid_in_old q r h = (drop_cases old mid gone d q r h).1

  pub fits_after_way : FitsRename k mid node parent name None
  fits_after_way = record {
    there = subst IsSome (sym (d.others node (λ e. way.other (sym e)))) fits.there;
    not_root = fits.not_root;
    dir = ap (λ o. option_map_or is_dir_row o false) (d.others parent parent_other) ∙ fits.dir;
    not_below = elim (meets mid node k parent) as (λ b. meets mid node k parent ≡ b → b ≡ false) [
      | true ↦ λ e. absurd (true≢false (sym (meets_within n old bound node parent k (meets_grows mid old node mid_in_old k parent e)) ∙ fits.not_below))
      | false ↦ λ e. refl
    ] refl;
    named = fits.named;
    place = λ q r h off same_parent same_name.
        let x = drop_cases old mid gone d q r h in
        x.0 (t.places q gone r stood.0 x.1 stood.1 off way.not_root (same_parent ∙ sym stood.2) (same_name ∙ sym stood.3));
  }
