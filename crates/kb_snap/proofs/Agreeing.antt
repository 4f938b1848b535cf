-- What is read so far agrees with each tree that the root's pointer holds.
use Rattle.std.proofs.Common.{◌≡◌, ◌≢◌, ℕ, true, false, List, [], ◌∷◌, ◌++◌, length, map, Some, None, IsSome, is_some, refl, ap, sym, subst, ◌∙◌, inl, inr}
use Rattle.std.specs.FinMap.{insert}
use Rattle.std.proofs.lemmas.List.{map-append}
use Rattle.kb_name.specs.declared.ids.NodeId.{NodeId}
use Rattle.kb_name.specs.Nodes.{root}
use Rattle.kb_ops.specs.declared.values.Kind.TheVariants.{Dir}
use Rattle.kb_ops.specs.declared.rows.Row.{Row}
use Rattle.kb_ops.specs.Rows.{is_dir_kind}
use Rattle.kb_ops.specs.Trees.{Tree, look, IsWellFormed}
use Rattle.kb_ops.proofs.Kept.{dir_at, set_cases}
use Rattle.kb_ops.proofs.Looks.{look-insert}
use Rattle.kb_ops.proofs.Walks.{row_cases}
use Rattle.kb_blocks.specs.declared.pointer.Ptr.{Ptr}
use Rattle.kb_files.specs.Files.{Vault, IsFileOf}
use Rattle.kb_files.proofs.ReadParts.{IsSingle}
use Rattle.kb_dirs.specs.declared.entries.Entry.{Entry}
use Rattle.kb_dirs.specs.Dirs.{HoldsDir, AreOrdered}
use Rattle.kb_dirs.proofs.Once.{one_dir}
use Rattle.kb_snap.specs.declared.loading.Waiting.{Waiting}
use Rattle.kb_snap.specs.Holds.{IsOneOf, IsEntryOf, IsChild, Holds, HoldsTree}
use Rattle.kb_snap.specs.Orders.{AreApart}
use Rattle.kb_snap.specs.Pointers.{Kept}
use Rattle.kb_snap.specs.Reads.{waits, stacked, row_of}
use Rattle.kb_snap.proofs.Among.{one_front, one_back, one_split, one_map, apart_append}
use Rattle.kb_snap.proofs.HeldRows.{some_is, as_file, as_dir, file_same, entry_row, behind_all, ahead, not_less}
use Rattle.kb_snap.proofs.Reading.{IsReading}
use Rattle.kb_snap.proofs.Stacks.{of_stacked}

abbrev pub ids_of : List Waiting → List NodeId
ids_of ws = map (λ (v : Waiting). v.entry.id) ws

-- the rows are the tree's, and what waits are other rows of it, each once, which their pointers hold
pub record Agrees (vault : Vault) (h t : Tree) (ws : List Waiting) : Type 0 where
  pub rows : (q : NodeId) (r : Row) → look t q ≡ Some r → look h q ≡ Some r
  pub children : (v : Waiting) → IsOneOf v ws → IsChild (look h) v.parent v.entry
  pub held : (v : Waiting) → IsOneOf v ws → Holds vault (look h) v.entry.id v.entry.ptr
  pub off : (v : Waiting) → IsOneOf v ws → look t v.entry.id ≡ None
  pub apart : AreApart (ids_of ws)

of_ids : (q : NodeId) (ws : List Waiting) → IsOneOf q (ids_of ws) → (v : Waiting) × (IsOneOf v ws × (q ≡ v.entry.id))
of_ids q [] h = absurd h
of_ids q (v ∷ ws) h = elim h [
  | inl here ↦ (v, (inl refl, here))
  | inr there ↦ let x = of_ids q ws there in (x.0, (inr x.1.0, x.1.1))
]

-- children of one directory with one id have one name
name_same : (h : Tree) (q : NodeId) (e f : Entry) → IsChild (look h) q e → IsChild (look h) q f → e.id ≡ f.id → e.name ≡ f.name
name_same h q e f a b same =
    let row : a.row ≡ b.row = some_is a.row b.row (sym a.there ∙ ap (look h) same ∙ b.there) in
    a.fields.name ∙ ap (λ (r : Row). r.name) row ∙ sym b.fields.name

stacked_apart : (h : Tree) (q : NodeId) (b : List ℕ) (es : List Entry) → AreOrdered es → ((e : Entry) → IsOneOf e es → IsChild (look h) q e) → AreApart (ids_of (stacked q b es))
stacked_apart h q b [] o all = tt
stacked_apart h q b (e ∷ es) o all =
    subst AreApart (sym (map-append (λ (v : Waiting). v.entry.id) (stacked q b es) (waits q b e ∷ [])))
    (apart_append (ids_of (stacked q b es)) (e.id ∷ []) (stacked_apart h q b es (behind_all e es o) (λ f x. all f (inr x))) (λ n. n, tt) (λ k l r. elim r [
      | inl here ↦
          let v = of_ids k (stacked q b es) l in
          let x = of_stacked q b es v.0 v.1.0 in
          let id : e.id ≡ x.0.id = sym here ∙ v.1.1 ∙ ap (λ (y : Waiting). y.entry.id) x.1.1 in
          not_less e.name x.0.name (name_same h q e x.0 (all e (inl refl)) (all x.0 (inr x.1.0)) id) (ahead e es o x.0 x.1.0)
      | inr never ↦ never
    ]))

apart_front : (xs ys : List NodeId) → AreApart (xs ++ ys) → AreApart xs
apart_front [] ys a = tt
apart_front (x ∷ xs) ys a = ((λ h. a.0 (one_front x xs ys h)), apart_front xs ys a.1)

apart_last : (xs : List NodeId) (q : NodeId) → AreApart (xs ++ q ∷ []) → IsOneOf q xs → ⊥
apart_last [] q a h = h
apart_last (x ∷ xs) q a h = elim h [
  | inl here ↦ a.0 (one_back x xs (q ∷ []) (inl (sym here)))
  | inr there ↦ apart_last xs q a.1 there
]

-- the first directory's entries wait
pub agrees_first : (vault : Vault) (one : IsSingle vault) (top : Ptr) (mtime : ℕ) (h t : Tree) (b : List ℕ) (es : List Entry) → HoldsDir vault top es → ((q : NodeId) (r : Row) → look t q ≡ Some r → (q ≡ root) × (look h q ≡ Some r)) → HoldsTree vault top mtime h → (r : Row) → look h root ≡ Some r → r.kind ≡ Dir
    → Agrees vault h t (stacked root b es)
agrees_first vault one top mtime h t b es held only x r is on_dir =
    let d = as_dir vault (look h) root top x.held r is on_dir in
    let same : d.es ≡ es = one_dir vault one top d.es es d.held held in
    let each = λ (e : Entry) (o : IsOneOf e es). subst (λ xs. IsOneOf e xs) (sym same) o in
    record {
      rows = λ q s there. (only q s there).1;
      children = λ v o. let y = of_stacked root b es v o in subst (λ (u : Waiting). IsChild (look h) u.parent u.entry) (sym y.1.1) (d.children.each y.0 (each y.0 y.1.0));
      held = λ v o. let y = of_stacked root b es v o in subst (λ (u : Waiting). Holds vault (look h) u.entry.id u.entry.ptr) (sym y.1.1) (d.below y.0 (each y.0 y.1.0));
      off = λ v o.
          let y = of_stacked root b es v o in
          let c = d.children.each y.0 (each y.0 y.1.0) in
          elim (row_cases (look t) v.entry.id) [
            | inl found ↦ absurd (c.not_root (ap (λ (u : Waiting). u.entry.id) (sym y.1.1) ∙ (only v.entry.id found.0 found.1).0))
            | inr none ↦ none
          ];
      apart = stacked_apart h root b es held.0.ordered (λ e o. d.children.each e (each e o));
    }

module _ (vault : Vault) (one : IsSingle vault) (top : Ptr) (mtime : ℕ) (h t : Tree) (at : Kept) (ws rest : List Waiting) (w : Waiting) (popped : ws ≡ rest ++ w ∷ []) (so : IsReading vault top mtime t at ws) (formed : IsWellFormed h) (a : Agrees vault h t ws) where
  in_front : (v : Waiting) → IsOneOf v rest → IsOneOf v ws
  in_front v o = subst (IsOneOf v) (sym popped) (one_front v rest (w ∷ []) o)

  at_last : IsOneOf w ws
  at_last = subst (IsOneOf w) (sym popped) (one_back w rest (w ∷ []) (inl refl))

  mine : IsChild (look h) w.parent w.entry
  mine = a.children w at_last

  held_here : Holds vault (look h) w.entry.id w.entry.ptr
  held_here = a.held w at_last

  -- an entry that waits isn't of a row that was read
  pub never_read : IsSome (look t w.entry.id) → ⊥
  never_read x = let bad : false ≡ true = sym (ap is_some (a.off w at_last)) ∙ x in cc

  -- where nothing is held at the entry's pointer, the tree isn't held
  pub is_file_there : is_dir_kind w.entry.kind ≡ false → (bytes : List ℕ) × IsFileOf vault w.entry.size w.entry.ptr bytes
  is_file_there off_dir =
      let kind = ap is_dir_kind (sym mine.fields.kind) ∙ off_dir in
      (mine.row.bytes, (sym mine.fields.size, as_file vault (look h) w.entry.id w.entry.ptr held_here mine.row mine.there kind))

  pub is_dir_there : w.entry.kind ≡ Dir → (es : List Entry) × HoldsDir vault w.entry.ptr es
  is_dir_there on_dir = let d = as_dir vault (look h) w.entry.id w.entry.ptr held_here mine.row mine.there (sym mine.fields.kind ∙ on_dir) in (d.es, d.held)

  parent_there : IsSome (look t w.parent)
  parent_there = let x = so.wait w at_last in ap is_some x.1.0

  parent_other : (q : NodeId) → IsSome (look t q) → q ≢ w.entry.id
  parent_other q x e = never_read (ap (λ k. is_some (look t k)) (sym e) ∙ x)

  rest_apart : AreApart (ids_of rest)
  rest_apart = apart_front (ids_of rest) (w.entry.id ∷ []) (subst AreApart (ap ids_of popped ∙ map-append (λ (v : Waiting). v.entry.id) rest (w ∷ [])) a.apart)

  rest_other : (v : Waiting) → IsOneOf v rest → v.entry.id ≢ w.entry.id
  rest_other v o e = apart_last (ids_of rest) w.entry.id (subst AreApart (ap ids_of popped ∙ map-append (λ (v : Waiting). v.entry.id) rest (w ∷ [])) a.apart)
      (subst (λ k. IsOneOf k (ids_of rest)) e (one_map (λ (v : Waiting). v.entry.id) v rest o))

  module _ (bytes : List ℕ) (same : row_of w bytes ≡ mine.row) where
    rows_more : (q : NodeId) (r : Row) → look (insert t w.entry.id (row_of w bytes)) q ≡ Some r → look h q ≡ Some r
    rows_more q r is = elim (set_cases (look t) (look (insert t w.entry.id (row_of w bytes))) w.entry.id (row_of w bytes) (look-insert t w.entry.id (row_of w bytes)) q r is) [
      | inl x ↦ ap (look h) x.0 ∙ mine.there ∙ ap (λ (y : Row). Some y) (sym same ∙ sym x.1)
      | inr x ↦ a.rows q r x.1
    ]

    off_more : (v : Waiting) → IsOneOf v rest → look (insert t w.entry.id (row_of w bytes)) v.entry.id ≡ None
    off_more v o = (look-insert t w.entry.id (row_of w bytes)).others v.entry.id (rest_other v o) ∙ a.off v (in_front v o)

  pub agrees_file : (bytes : List ℕ) → is_dir_kind w.entry.kind ≡ false → IsFileOf vault w.entry.size w.entry.ptr bytes → Agrees vault h (insert t w.entry.id (row_of w bytes)) rest
  agrees_file bytes off_dir file =
      let kind = ap is_dir_kind (sym mine.fields.kind) ∙ off_dir in
      let there = as_file vault (look h) w.entry.id w.entry.ptr held_here mine.row mine.there kind in
      let size : length bytes ≡ length mine.row.bytes = file.0 ∙ mine.fields.size in
      let equal : bytes ≡ mine.row.bytes = file_same vault one w.entry.ptr bytes mine.row.bytes size file.1 there in
      let own : IsEntryOf w.entry (row_of w bytes) = record { id = refl; name = refl; kind = refl; exec = refl; mtime = refl; size = sym file.0 } in
      let same : row_of w bytes ≡ mine.row = entry_row w.entry (row_of w bytes) mine.row own mine.fields (sym mine.below) equal in
      record {
        rows = rows_more bytes same;
        children = λ v o. a.children v (in_front v o);
        held = λ v o. a.held v (in_front v o);
        off = off_more bytes same;
        apart = rest_apart;
      }

  pub agrees_dir : (es : List Entry) → w.entry.kind ≡ Dir → HoldsDir vault w.entry.ptr es → Agrees vault h (insert t w.entry.id (row_of w [])) (rest ++ stacked w.entry.id w.entry.ptr.id es)
  agrees_dir es on_dir held =
      let q = w.entry.id in
      let b = w.entry.ptr.id in
      let kind = sym mine.fields.kind ∙ on_dir in
      let d = as_dir vault (look h) q w.entry.ptr held_here mine.row mine.there kind in
      let all : d.es ≡ es = one_dir vault one w.entry.ptr d.es es d.held held in
      let each = λ (e : Entry) (o : IsOneOf e es). subst (λ xs. IsOneOf e xs) (sym all) o in
      let none : mine.row.bytes ≡ [] = (formed.plain q mine.row mine.there).no_bytes kind in
      let own : IsEntryOf w.entry (row_of w []) = record { id = refl; name = refl; kind = refl; exec = refl; mtime = refl; size = mine.fields.size ∙ ap length none } in
      let same : row_of w [] ≡ mine.row = entry_row w.entry (row_of w []) mine.row own mine.fields (sym mine.below) (sym none) in
      -- a child of the new directory is in no row yet
      let later = λ (e : Entry) (o : IsOneOf e es) (r : Row) (is : look (insert t q (row_of w [])) e.id ≡ Some r).
      let c = d.children.each e (each e o) in
      elim (set_cases (look t) (look (insert t q (row_of w []))) q (row_of w []) (look-insert t q (row_of w [])) e.id r is) as (λ _. ⊥) [
        | inl x ↦
            let row : c.row ≡ mine.row = some_is c.row mine.row (sym c.there ∙ ap (look h) x.0 ∙ mine.there) in
            parent_other w.parent parent_there (sym mine.below ∙ ap (λ (y : Row). y.parent) (sym row) ∙ c.below)
        | inr x ↦
            let row : r ≡ c.row = some_is r c.row (sym (a.rows e.id r x.1) ∙ c.there) in
            let up = dir_at (look t) r.parent (so.formed.parents e.id r x.1 c.not_root) in
            parent_other r.parent (ap is_some up.1) (ap (λ (y : Row). y.parent) row ∙ c.below)
      ] in
      record {
        rows = rows_more [] same;
        children = λ v o. elim (one_split v rest (stacked q b es) o) [
          | inl l ↦ a.children v (in_front v l)
          | inr r ↦ let y = of_stacked q b es v r in subst (λ (u : Waiting). IsChild (look h) u.parent u.entry) (sym y.1.1) (d.children.each y.0 (each y.0 y.1.0))
        ];
        held = λ v o. elim (one_split v rest (stacked q b es) o) [
          | inl l ↦ a.held v (in_front v l)
          | inr r ↦ let y = of_stacked q b es v r in subst (λ (u : Waiting). Holds vault (look h) u.entry.id u.entry.ptr) (sym y.1.1) (d.below y.0 (each y.0 y.1.0))
        ];
        off = λ v o. elim (one_split v rest (stacked q b es) o) [
          | inl l ↦ off_more [] same v l
          | inr r ↦
              let y = of_stacked q b es v r in
              elim (row_cases (look (insert t q (row_of w []))) v.entry.id) [
                | inl found ↦ absurd (later y.0 y.1.0 found.0 (ap (λ (u : Waiting). look (insert t q (row_of w [])) u.entry.id) (sym y.1.1) ∙ found.1))
                | inr never ↦ never
              ]
        ];
        apart = subst AreApart (sym (map-append (λ (v : Waiting). v.entry.id) rest (stacked q b es)))
            (apart_append (ids_of rest) (ids_of (stacked q b es)) rest_apart (stacked_apart h q b es held.0.ordered (λ e o. d.children.each e (each e o))) (λ k l r.
            let v = of_ids k rest l in
            let u = of_ids k (stacked q b es) r in
            let y = of_stacked q b es u.0 u.1.0 in
            let c = d.children.each y.0 (each y.0 y.1.0) in
            let x = a.children v.0 (in_front v.0 v.1.0) in
            let id : v.0.entry.id ≡ y.0.id = sym v.1.1 ∙ u.1.1 ∙ ap (λ (z : Waiting). z.entry.id) y.1.1 in
            let row : x.row ≡ c.row = some_is x.row c.row (sym x.there ∙ ap (look h) id ∙ c.there) in
            let p = so.wait v.0 (in_front v.0 v.1.0) in
            parent_other v.0.parent (ap is_some p.1.0) (sym x.below ∙ ap (λ (z : Row). z.parent) row ∙ c.below)));
      }
