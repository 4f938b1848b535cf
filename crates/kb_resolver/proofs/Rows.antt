-- The rows of a view as a list, and the edits that make one list of rows of another.
use Rattle.std.proofs.Common.{◌≡◌, Bool, true, false, List, cond, Option, Some, None, is_some, inl, inr, refl, sym, ap, ◌∙◌}
use Rattle.std.specs.List.{filter_map}
use Rattle.std.specs.FinMap as map
use Rattle.kb_name.specs.declared.ids.NodeId.{NodeId}
use Rattle.kb_ops.specs.declared.rows.Row.{Row}
use Rattle.kb_ops.specs.Trees.{Tree, look, IsWellFormed}
use Rattle.kb_ops.specs.Lists.{rises, tree_of}
use Rattle.kb_ops.proofs.Looks.{same_tree}
use Rattle.kb_ops.proofs.Lists.{look_of, values_of}
use Rattle.kb_rules.specs.Merge.{put_ids, tree_at}
use Rattle.kb_rules.specs.Code.{ascend, ids_of, row_in}
use Rattle.kb_rules.specs.Ready.{is_in}
use Rattle.kb_rules.proofs.Basics.{bool_cases}
use Rattle.kb_rules.proofs.Ids.{keys_rise, in_keys, look_at, put_ids_in, put_ids_keeps}
use Rattle.kb_rules.proofs.Puts.{keys_of, ids_ascend}
use Rattle.kb_rules.proofs.TreeRows.{rows_rise, tree_rows}
use Rattle.kb_opchains.specs.Edits.{edited, edits_rise}
use Rattle.kb_actions.specs.Edits.{edits_in}
use Rattle.kb_actions.proofs.Ascend.{ascend_puts}
use Rattle.kb_actions.proofs.Editing.{edited_at, rise_all}

-- ---- the rows of a tree

some_or_none : (o : Option Row) → cond (is_some o) o None ≡ o
some_or_none None = refl
some_or_none (Some r) = refl

-- those at its ids
rows_of : Tree → List Row
rows_of t = filter_map (look t) (map.keys t)

rows_up : (t : Tree) → IsWellFormed t → rises (rows_of t) ≡ true
unfolding rows_of
rows_up t formed = rows_rise (look t) formed.keyed (map.keys t) (keys_rise t)

rows_tree : (t : Tree) → IsWellFormed t → tree_of (rows_of t) ≡ t
unfolding rows_of
rows_tree t formed =
    tree_rows (look t) formed.keyed (map.keys t) (keys_rise t)
    ∙ same_tree (tree_at (map.keys t) (look t)) t (λ q. look_at (look t) (map.keys t) q ∙ ap (λ b. cond b (look t q) None) (in_keys t q) ∙ some_or_none (look t q))

rows_values : (t : Tree) → IsWellFormed t → map.values t ≡ rows_of t
rows_values t formed = ap map.values (sym (rows_tree t formed)) ∙ values_of (rows_of t) (rows_up t formed)

pub values_up : (t : Tree) → IsWellFormed t → (rows : List Row) → rows ≡ map.values t → rises rows ≡ true
values_up t formed rows is = ap rises (is ∙ rows_values t formed) ∙ rows_up t formed

pub values_tree : (t : Tree) → IsWellFormed t → (rows : List Row) → rows ≡ map.values t → tree_of rows ≡ t
values_tree t formed rows is = ap tree_of (is ∙ rows_values t formed) ∙ rows_tree t formed

-- ---- edits between two lists of rows

-- an id that isn't listed has no row
unlisted : (rows : List Row) → rises rows ≡ true → (q : NodeId) → is_in q (ids_of rows) ≡ false → look (tree_of rows) q ≡ None
unlisted rows up q off = none (look (tree_of rows) q) (sym (in_keys (tree_of rows) q) ∙ ap (is_in q) (keys_of rows up) ∙ off)
  where
    none : (o : Option Row) → is_some o ≡ false → o ≡ None
    none None e = refl
    none (Some r) e = cc

-- and isn't among some of them
left_out : (a b : Bool) → (a ≡ true → b ≡ true) → b ≡ false → a ≡ false
left_out true b f e = (let no : true ≡ false = sym (f refl) ∙ e in cc)
left_out false b f e = refl

pub edits_make : (before after : List Row) → rises before ≡ true → rises after ≡ true → edited (tree_of before) (edits_in (row_in before) (row_in after) (put_ids (ids_of after) (ids_of before))) ≡ tree_of after
edits_make before after old new =
    let ids = put_ids (ids_of after) (ids_of before) in
    let up : ascend ids ≡ true = ascend_puts (ids_of after) (ids_of before) (ids_ascend before old) in
    same_tree _ _ (λ q.
    edited_at (tree_of before) (row_in before) (row_in after) ids up (λ k _. look_of before old k) q
    ∙ elim (bool_cases (is_in q ids)) [
      | inl is ↦ ap (λ b. cond b (row_in after q) (look (tree_of before) q)) is ∙ sym (look_of after new q)
      | inr off ↦
          ap (λ b. cond b (row_in after q) (look (tree_of before) q)) off
          ∙ unlisted before old q (left_out (is_in q (ids_of before)) (is_in q ids) (put_ids_keeps (ids_of after) (ids_of before) q) off)
          ∙ sym (unlisted after new q (left_out (is_in q (ids_of after)) (is_in q ids) (put_ids_in (ids_of after) (ids_of before) q) off))
    ])

pub edits_up : (before after : List Row) → rises before ≡ true → edits_rise (edits_in (row_in before) (row_in after) (put_ids (ids_of after) (ids_of before))) ≡ true
edits_up before after old = rise_all (row_in before) (row_in after) (put_ids (ids_of after) (ids_of before)) (ascend_puts (ids_of after) (ids_of before) (ids_ascend before old))
