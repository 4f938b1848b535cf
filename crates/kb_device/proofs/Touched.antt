-- The pointers that an operation leaves hold their rows after it.
use Rattle.std.proofs.Common.{◌≡◌, ◌≢◌, ℕ, suc, Bool, true, false, cond, List, [], ◌∷◌, Option, Some, None, inl, inr, refl, sym, ap, subst, ◌∙◌}
use Rattle.std.specs.Option.{option_map_or}
use Rattle.std.specs.FinMap.{get, insert, remove, len}
use Rattle.kb_name.specs.declared.ids.NodeId.{NodeId}
use Rattle.kb_ops.specs.declared.rows.Row.{Row}
use Rattle.kb_ops.specs.declared.rows.Change.{Change}
use Rattle.kb_ops.specs.declared.rows.Change.TheVariants.{Create, Remove, Rename, Sync, Exec, Touch}
use Rattle.kb_ops.specs.Rows.{Look, meets}
use Rattle.kb_ops.specs.Trees.{Tree, look, edit, created, patched, apply_change, FitsChange}
use Rattle.kb_ops.specs.Plan.{is_below}
use Rattle.kb_ops.proofs.Nodes.{node_cases}
use Rattle.kb_ops.proofs.Walks.{meets_step, meets_nowhere, never_meets}
use Rattle.kb_ops.proofs.Kept.{Sets}
use Rattle.kb_ops.proofs.Looks.{look-insert, look-remove, map_most}
use Rattle.kb_ops.proofs.TreeKept.{there, file_at}
use Rattle.kb_blocks.specs.declared.pointer.Ptr.{Ptr}
use Rattle.kb_files.specs.Files.{Vault}
use Rattle.kb_snap.specs.Holds.{IsOneOf, Holds}
use Rattle.kb_snap.specs.Holds.Holds.{leaf, dir}
use Rattle.kb_snap.specs.Laws.{IsUnder, IsClear}
use Rattle.kb_snap.specs.Pointers.{Kept, AllHold}
use Rattle.kb_snap.proofs.Found.{stay_held, clear_stays}
use Rattle.kb_device.specs.Left.{AreLeft, left_from, left_of}

no_row : (r : Row) (o : Option Row) → o ≡ None → o ≡ Some r → ⊥
no_row r o e h = let bad : None ≡ Some r = sym e ∙ h in cc

same_row : (x y : Row) → Some x ≡ Some y → x ≡ y
same_row x y e = cc

not_both : (b : Bool) → b ≡ false → b ≡ true → ⊥
not_both b e h = let bad : false ≡ true = sym e ∙ h in cc

module _ (t : Tree) where
  kept_from : (from q : NodeId) (o : Option Ptr) (p : Ptr) → left_from t from q o ≡ Some p → (is_below t q from ≡ false) × (o ≡ Some p)
  kept_from from q o p = elim (is_below t q from) as (λ b. is_below t q from ≡ b → cond b None o ≡ Some p → (is_below t q from ≡ false) × (o ≡ Some p)) [
    | true ↦ λ e h. cc
    | false ↦ λ e h. (e, h)
  ] refl

  off : (q k : NodeId) → is_below t q k ≡ false → IsUnder (look t) q k → ⊥
  off q k e u = not_both (meets (look t) q u.0 k) (never_meets (len t) (look t) (map_most (len t) t refl) q k e u.0) u.1

  above : (q k : NodeId) (r : Row) → look t k ≡ Some r → IsUnder (look t) q r.parent → IsUnder (look t) q k
  above q k r is u = (suc u.0, meets_step (look t) q k u.0 r is u.1)

  edited : (node : NodeId) (f : Row → Row) (r : Row) → look t node ≡ Some r → edit t node f ≡ insert t node (f r)
  edited node f r is = ap (λ (o : Option Row). option_map_or (λ r. insert t node (f r)) o t) is

  module _ (vault : Vault) (q : NodeId) (p : Ptr) where
    row_there : Holds vault (look t) q p → (r : Row) × (look t q ≡ Some r)
    row_there (leaf r is kind file) = (r, is)
    row_there (dir r is kind es held children below) = (r, is)

    -- one row changed
    one_changed : (new : Look) (k : NodeId) (o : Option Row) → Sets (look t) new k o → Holds vault (look t) q p → (IsUnder (look t) q k → ⊥) → ((r : Row) → o ≡ Some r → IsUnder (look t) q r.parent → ⊥) → Holds vault new q p
    one_changed new k o sets h before after = stay_held vault (look t) new q p (clear_stays (look t) new (k ∷ []) (λ x no. sets.others x (λ e. no (inl e))) q clear) h
      where
        clear : (x : NodeId) → IsOneOf x (k ∷ []) → IsClear (look t) new q x
        clear x (inl e) = subst (λ (y : NodeId). IsClear (look t) new q y) (sym e) (record { before = before; after = λ r is. after r (sym sets.here ∙ is) })
        clear x (inr none) = absurd none

    -- a row stays where it is
    edits : (node : NodeId) (f : Row → Row) → ((r : Row) → (f r).parent ≡ r.parent) → (r : Row) → look t node ≡ Some r → Holds vault (look t) q p → is_below t q node ≡ false → Holds vault (look (edit t node f)) q p
    edits node f stays r is h e = subst (λ (u : Tree). Holds vault (look u) q p) (sym (edited node f r is))
        (one_changed (look (insert t node (f r))) node (Some (f r)) (look-insert t node (f r)) h (off q node e)
        (λ s same u. off q node e (above q node r is (subst (IsUnder (look t) q) (ap (λ (x : Row). x.parent) (sym (same_row (f r) s same)) ∙ stays r) u))))

    -- a row goes elsewhere
    moves : (node parent : NodeId) (name : List ℕ) (r : Row) → look t node ≡ Some r → Holds vault (look t) q p → is_below t q node ≡ false → is_below t q parent ≡ false → Holds vault (look (edit t node (λ r. record r { parent = parent; name = name }))) q p
    moves node parent name r is h e e' = subst (λ (u : Tree). Holds vault (look u) q p) (sym (edited node (λ r. record r { parent = parent; name = name }) r is))
        (one_changed (look (insert t node (record r { parent = parent; name = name }))) node (Some (record r { parent = parent; name = name })) (look-insert t node (record r { parent = parent; name = name })) h (off q node e)
        (λ s same u. off q parent e' (subst (IsUnder (look t) q) (ap (λ (x : Row). x.parent) (sym (same_row (record r { parent = parent; name = name }) s same))) u)))

    -- and takes the place of another
    moves_onto : (node parent : NodeId) (name : List ℕ) (gone : NodeId) (r : Row) → gone ≢ node → look t node ≡ Some r → Holds vault (look t) q p → is_below t q node ≡ false → is_below t q parent ≡ false → is_below t q gone ≡ false
        → Holds vault (look (edit (remove t gone) node (λ r. record r { parent = parent; name = name }))) q p
    moves_onto node parent name gone r other is h e e' e'' =
        let row : Row = record r { parent = parent; name = name } in
        let removed = look-remove t gone in
        let left : look (remove t gone) node ≡ Some r = removed.others node (λ same. other (sym same)) ∙ is in
        let put = look-insert (remove t gone) node row in
        subst (λ (u : Tree). Holds vault (look u) q p) (sym (ap (λ (o : Option Row). option_map_or (λ r. insert (remove t gone) node (record r { parent = parent; name = name })) o (remove t gone)) left))
        (stay_held vault (look t) (look (insert (remove t gone) node row)) q p (clear_stays (look t) (look (insert (remove t gone) node row)) (node ∷ gone ∷ [])
        (λ x no. put.others x (λ same. no (inl same)) ∙ removed.others x (λ same. no (inr (inl same)))) q (clear row put.here (put.others gone other ∙ removed.here))) h)
      where
        clear : (row : Row) → look (insert (remove t gone) node (record r { parent = parent; name = name })) node ≡ Some (record r { parent = parent; name = name }) → look (insert (remove t gone) node (record r { parent = parent; name = name })) gone ≡ None
            → (x : NodeId) → IsOneOf x (node ∷ gone ∷ []) → IsClear (look t) (look (insert (remove t gone) node (record r { parent = parent; name = name }))) q x
        clear row here none x (inl same) = subst (λ (y : NodeId). IsClear (look t) (look (insert (remove t gone) node (record r { parent = parent; name = name }))) q y) (sym same) (record {
          before = off q node e;
          after = λ s is u. off q parent e' (subst (IsUnder (look t) q) (ap (λ (x : Row). x.parent) (sym (same_row (record r { parent = parent; name = name }) s (sym here ∙ is)))) u);
        })
        clear row here none x (inr (inl same)) = subst (λ (y : NodeId). IsClear (look t) (look (insert (remove t gone) node (record r { parent = parent; name = name }))) q y) (sym same) (record {
          before = off q gone e'';
          after = λ s is u. no_row s _ none is;
        })
        clear row here none x (inr (inr bad)) = absurd bad

    module _ (kept : Kept) (all : AllHold vault (look t) kept) where
      by_change : (id : NodeId) (moment : ℕ) (change : Change) → FitsChange id moment change t → left_of t change q (get kept q) ≡ Some p → Holds vault (look (apply_change id moment change t)) q p
      by_change id moment (Create parent name kind bytes) fits h =
          let k = kept_from parent q (get kept q) p h in
          let held = all q p k.1 in
          let row = created id moment parent name kind bytes in
          one_changed (look (insert t id row)) id (Some row) (look-insert t id row) held
          (λ u. elim (node_cases id q) [
            | inl same ↦ (let at = row_there held in no_row at.0 (look t q) (subst (λ (x : NodeId). look t x ≡ None) same fits.new) at.1)
            | inr ne ↦ not_both (meets (look t) q u.0 id) (meets_nowhere (look t) q id u.0 ne fits.new) u.1
          ])
          (λ s same u. off q parent k.0 (subst (IsUnder (look t) q) (ap (λ (x : Row). x.parent) (sym (same_row row s same))) u))
      by_change id moment (Remove node) fits h =
          let k = kept_from node q (get kept q) p h in
          one_changed (look (remove t node)) node None (look-remove t node) (all q p k.1) (off q node k.0) (λ s bad u. no_row s None refl bad)
      by_change id moment (Rename node parent name None) fits h =
          let a = kept_from parent q (left_from t node q (get kept q)) p h in
          let b = kept_from node q (get kept q) p a.1 in
          let r = there t node fits.there in
          moves node parent name r.0 r.1 (all q p b.1) b.0 a.0
      by_change id moment (Rename node parent name (Some gone)) fits h =
          let g = kept_from gone q (left_from t parent q (left_from t node q (get kept q))) p h in
          let a = kept_from parent q (left_from t node q (get kept q)) p g.1 in
          let b = kept_from node q (get kept q) p a.1 in
          let r = there t node fits.there in
          moves_onto node parent name gone r.0 fits.place.other r.1 (all q p b.1) b.0 a.0 g.0
      by_change id moment (Sync node offset bytes size) fits h =
          let k = kept_from node q (get kept q) p h in
          let r = file_at t node fits.0 in
          edits node (λ r. record r { bytes = patched r.bytes offset bytes size; mtime = moment }) (λ r. refl) r.0 r.1 (all q p k.1) k.0
      by_change id moment (Exec node on) fits h =
          let k = kept_from node q (get kept q) p h in
          let r = file_at t node fits in
          edits node (λ r. record r { exec = on }) (λ r. refl) r.0 r.1 (all q p k.1) k.0
      by_change id moment (Touch node mtime) fits h =
          let k = kept_from node q (get kept q) p h in
          let r = there t node fits in
          edits node (λ r. record r { mtime = mtime }) (λ r. refl) r.0 r.1 (all q p k.1) k.0

pub leaves_hold : (vault : Vault) (t : Tree) (id : NodeId) (moment : ℕ) (change : Change) (kept left : Kept) → FitsChange id moment change t → AreLeft t change kept left → AllHold vault (look t) kept → AllHold vault (look (apply_change id moment change t)) left
leaves_hold vault t id moment change kept left fits leaves all q p at = by_change t vault q p kept all id moment change fits (leaves q p at)

pub left_holds : (vault : Vault) (t : Tree) (id : NodeId) (moment : ℕ) (change : Change) (kept left : Kept) → FitsChange id moment change t → ((q : NodeId) → get left q ≡ left_of t change q (get kept q)) → AllHold vault (look t) kept → AllHold vault (look (apply_change id moment change t)) left
left_holds vault t id moment change kept left fits is all q p at = by_change t vault q p kept all id moment change fits (sym (is q) ∙ at)
