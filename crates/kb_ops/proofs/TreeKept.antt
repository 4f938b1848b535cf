-- Each operation that fits leaves a well formed tree, and so do all of a fold: for finite maps.
use Rattle.std.proofs.Common.{◌≡◌, ◌≢◌, ℕ, ◌+◌, ◌≤◌, Bool, true, List, [], ◌∷◌, length, lit≤, inl, inr, cond, Option, Some, None, IsSome, IsSomeAnd, is_some, refl, sym, ap, subst, ◌∙◌, arith}
use mathlib.Core.Bool.{true≢false}
use Rattle.std.proofs.lemmas.List.FromFn.{length-map-range_with_len}
use Rattle.std.specs.Option.{option_map_or, unwrap_or}
use Rattle.std.specs.FinMap.{insert, remove, len, len-insert}
use Rattle.kb_name.specs.declared.ids.NodeId.{NodeId}
use Rattle.kb_ops.specs.declared.values.Kind.{Kind}
use Rattle.kb_ops.specs.declared.values.Kind.TheVariants.{Dir, File}
use Rattle.kb_ops.specs.declared.rows.Row.{Row}
use Rattle.kb_ops.specs.declared.rows.Op.{Op}
use Rattle.kb_ops.specs.declared.rows.Change.{Change}
use Rattle.kb_ops.specs.declared.rows.Change.TheVariants.{Create, Remove, Rename, Sync, Exec, Touch}
use Rattle.kb_name.specs.Nodes.{root}
use Rattle.kb_ops.specs.Rows.{meets, IsTree, IsPlain, FitsNew, FitsReplace, FitsRemove, FitsRename}
use Rattle.kb_ops.specs.Trees.{Tree, look, IsWellFormed, edit, created, start, root_row, apply_change, apply, new_id, FitsChange, Fits, IsFileAt, fold_ops, FitAll, patched}
use Rattle.kb_ops.proofs.Nodes.{node_other, node_cases}
use Rattle.kb_ops.proofs.Walks.{row_cases, meets_here}
use Rattle.kb_ops.proofs.Lists.{row_of, look_of}
use Rattle.kb_ops.proofs.Kept.{Sets, some_and, kept_create, kept_remove, kept_edit, kept_move, fits_after_way, fits_remove}
use Rattle.kb_ops.proofs.Looks.{look-insert, look-remove, map_most, nodes_total, same_tree}

pub there : (t : Tree) (node : NodeId) → IsSome (look t node) → (r : Row) × (look t node ≡ Some r)
there t node h = elim (row_cases (look t) node) [ inl w ↦ w | inr none ↦ absurd (true≢false (sym h ∙ ap is_some none)) ]

edit_is : (t : Tree) (node : NodeId) (f : Row → Row) (r : Row) → look t node ≡ Some r → edit t node f ≡ insert t node (f r)
edit_is t node f r h = ap (λ o. option_map_or (λ x. insert t node (f x)) o t) h

-- a row that keeps its place and kind
set_kept : (t : Tree) (node : NodeId) (was row : Row) → IsWellFormed t → look t node ≡ Some was
    → row.id ≡ node → row.parent ≡ was.parent → row.name ≡ was.name → row.kind ≡ was.kind → IsPlain row.kind row.bytes row.exec → IsWellFormed (insert t node row)
set_kept t node was row w h at parent name kind plain =
    let new = insert t node row in
    let same_len : len new ≡ len t = len-insert nodes_total t node row ∙ ap (λ o. cond (is_some o) (len t) (len t + 1)) h in
    let s = subst (λ k. Sets (look t) (look new) k (Some row)) (sym at) (look-insert t node row) in
    subst (λ n. IsTree n (look new)) (sym same_len) (kept_edit (look t) (look new) (len t) was row w (ap (look t) at ∙ h) parent name kind plain s)

-- an edit that keeps id, place and kind
edit_kept : (t : Tree) (node : NodeId) (f : Row → Row) (r : Row) → IsWellFormed t → look t node ≡ Some r
    → (f r).id ≡ r.id → (f r).parent ≡ r.parent → (f r).name ≡ r.name → (f r).kind ≡ r.kind → IsPlain (f r).kind (f r).bytes (f r).exec → IsWellFormed (edit t node f)
edit_kept t node f r w h id parent name kind plain =
    subst IsWellFormed (sym (edit_is t node f r h)) (set_kept t node r (f r) w h (id ∙ w.keyed node r h) parent name kind plain)

move_kept : (t : Tree) (node parent : NodeId) (name : List ℕ) → IsWellFormed t → FitsRename (len t) (look t) node parent name None → IsWellFormed (edit t node (λ r. record r { parent = parent; name = name }))
move_kept t node parent name w fits =
    let r = there t node fits.there in
    let row : Row = record r.0 { parent = parent; name = name } in
    let new = insert t node row in
    subst IsWellFormed (sym (edit_is t node (λ r. record r { parent = parent; name = name }) r.0 r.1))
    (kept_move (look t) (look new) (len t) (len new) node parent name r.0 row w fits (map_most (len t) t refl) r.1 refl (look-insert t node row) (map_most (len new) new refl))

pub remove_kept : (t : Tree) (node : NodeId) → IsWellFormed t → FitsRemove (look t) node → IsWellFormed (remove t node)
remove_kept t node w fits = kept_remove (look t) (look (remove t node)) (len t) (len (remove t node)) node w fits (look-remove t node) (map_most (len (remove t node)) (remove t node) refl)

pub file_at : (t : Tree) (node : NodeId) → IsFileAt (look t) node → (r : Row) × (look t node ≡ Some r) × (r.kind ≡ File)
file_at t node h = let x = some_and _ (look t node) h in (x.0, x.1, x.2)

pub file_plain : (bytes : List ℕ) (exec : Bool) (kind : Kind) → length bytes ≤ 16777216 → kind ≡ File → IsPlain kind bytes exec
file_plain bytes exec kind small e = record { small = small; no_bytes = λ d. cc; no_exec = λ d. absurd (d e) }

pub length-patched : (old : List ℕ) (offset : ℕ) (bytes : List ℕ) (size : ℕ) → length (patched old offset bytes size) ≡ size
length-patched old offset bytes size = length-map-range_with_len _ 0 size

pub new_kept : (t : Tree) (row : Row) → IsWellFormed t → FitsNew (look t) row → IsWellFormed (insert t row.id row)
new_kept t row w fits =
    let new = insert t row.id row in
    kept_create (look t) (look new) (len t) (len new) row w fits (look-insert t row.id row) (map_most (len new) new refl)

-- to set a row twice is to set it the second time
insert_twice : (t : Tree) (k : NodeId) (r s : Row) → insert (insert t k r) k s ≡ insert t k s
insert_twice t k r s = same_tree _ _ (λ q. elim (node_cases q k) [
  | inl e ↦ subst (λ x. look (insert (insert t k r) k s) x ≡ look (insert t k s) x) (sym e) ((look-insert (insert t k r) k s).here ∙ sym (look-insert t k s).here)
  | inr ne ↦ (look-insert (insert t k r) k s).others q ne ∙ (look-insert t k r).others q ne ∙ sym ((look-insert t k s).others q ne)
])

pub replace_kept : (t : Tree) (was row : Row) → IsWellFormed t → FitsReplace (len t) (look t) was row → IsWellFormed (insert t row.id row)
replace_kept t was row w fits = elim fits.place [
  | inl same ↦ set_kept t row.id was row w fits.there refl same.0 same.1 fits.kind fits.plain
  | inr move ↦
      let between : Row = record was { parent = row.parent; name = row.name } in
      let mid = insert t row.id between in
      let kept = kept_move (look t) (look mid) (len t) (len mid) row.id row.parent row.name was between w move (map_most (len t) t refl) fits.there refl (look-insert t row.id between) (map_most (len mid) mid refl) in
      subst IsWellFormed (insert_twice t row.id between row)
      (set_kept mid row.id between row kept (look-insert t row.id between).here refl refl refl fits.kind fits.plain)
]

change_kept : (id : NodeId) (moment : ℕ) (change : Change) (t : Tree) → IsWellFormed t → FitsChange id moment change t → IsWellFormed (apply_change id moment change t)
change_kept id moment (Create parent name kind bytes) t w fits =
    new_kept t (created id moment parent name kind bytes) w fits
change_kept id moment (Remove node) t w fits = remove_kept t node w fits
change_kept id moment (Rename node parent name None) t w fits = move_kept t node parent name w fits
change_kept id moment (Rename node parent name (Some gone)) t w fits =
    let mid = remove t gone in
    move_kept mid node parent name
    (remove_kept t gone w (fits_remove (look t) (look mid) (len t) (len mid) node parent gone name w fits (map_most (len t) t refl) (look-remove t gone)))
    (fits_after_way (look t) (look mid) (len t) (len mid) node parent gone name w fits (map_most (len t) t refl) (look-remove t gone))
change_kept id moment (Sync node offset bytes size) t w fits =
    let r = file_at t node fits.0 in
    edit_kept t node (λ r. record r { bytes = patched r.bytes offset bytes size; mtime = moment }) r.0 w r.1 refl refl refl refl (file_plain _ _ _ (let e : length (patched r.0.bytes offset bytes size) ≡ size = length-patched r.0.bytes offset bytes size in omega (arith, e, fits.1.small)) r.2)
change_kept id moment (Exec node on) t w fits =
    let r = file_at t node fits in
    edit_kept t node (λ r. record r { exec = on }) r.0 w r.1 refl refl refl refl (file_plain _ _ _ (w.plain node r.0 r.1).small r.2)
change_kept id moment (Touch node mtime) t w fits =
    let r = there t node fits in
    edit_kept t node (λ r. record r { mtime = mtime }) r.0 w r.1 refl refl refl refl (w.plain node r.0 r.1)

pub apply_kept : (op : Op) (t : Tree) → IsWellFormed t → Fits op t → IsWellFormed (apply op t)
apply_kept op t w fits = change_kept (new_id op) op.moment op.change t w fits

pub fold_kept : (ops : List Op) (t : Tree) → IsWellFormed t → FitAll ops t → IsWellFormed (fold_ops ops t)
fold_kept [] t w fits = w
fold_kept (op ∷ ops) t w fits = fold_kept ops (apply op t) (apply_kept op t w fits.0) fits.1

-- the root alone is well formed
only_root : (q : NodeId) (r : Row) → look start q ≡ Some r → (q ≡ root) × (r ≡ root_row)
only_root q r h =
    let e : row_of (root_row ∷ []) q ≡ Some r = sym (look_of (root_row ∷ []) refl q) ∙ h in
    elim (node_cases q root) [
      | inl at ↦ (at, let first : row_of (root_row ∷ []) root ≡ Some root_row = refl in ap (λ o. unwrap_or o root_row) (sym e ∙ ap (row_of (root_row ∷ [])) at))
      | inr off ↦ absurd (no_some r (sym e ∙ ap (λ b. cond b (Some root_row) None) (node_other root q (λ p. off (sym p)))))
    ]
  where
    no_some : (x : Row) → Some x ≢ None
    no_some x p = cc

pub start_formed : IsWellFormed start
start_formed = record {
  keyed = λ q r h. let o = only_root q r h in ap (λ (x : Row). x.id) o.1 ∙ sym o.0;
  rooted = let F : Option Row → Type 0 = λ o. IsSomeAnd o (λ r. (r.kind ≡ Dir) × (r.parent ≡ root) × (r.name ≡ [])) in subst F (sym (look_of (root_row ∷ []) refl root)) (refl, refl, refl);
  parents = λ q r h off. absurd (off (only_root q r h).0);
  named = λ q r h off. absurd (off (only_root q r h).0);
  places = λ p q r s hr hs op oq. absurd (op (only_root p r hr).0);
  reaches = λ q r h. subst (λ x. meets (look start) root (len start) x ≡ true) (sym (only_root q r h).0) (meets_here (look start) root (len start));
  plain = λ q r h. subst (λ (x : Row). IsPlain x.kind x.bytes x.exec) (sym (only_root q r h).1) (record { small = lit≤ tt; no_bytes = λ _. refl; no_exec = λ _. refl });
}
