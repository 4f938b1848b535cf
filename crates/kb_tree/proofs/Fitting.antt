-- A change of a row where it stands fits its tree.
use Rattle.std.proofs.Common.{◌≡◌, ℕ, ◌≤◌, Bool, List, length, Option, Some, None, IsSome, inl, inr, refl, sym, ap, subst, ◌∙◌, arith}
use Rattle.std.specs.Prelude.{max, IfSome}
use Rattle.std.specs.FinMap as map
use Rattle.kb_name.specs.declared.ids.NodeId.{NodeId}
use Rattle.kb_ops.specs.declared.rows.Row.{Row}
use Rattle.kb_ops.specs.Rows.{IsPlain, FitsRename, FitsReplace}
use Rattle.kb_ops.specs.Trees.{Tree, look, patched, IsFileAt, IsWellFormed}
use Rattle.kb_ops.proofs.TreeKept.{there, file_at, file_plain, length-patched}
use Rattle.kb_tree.specs.Slots.{moved, with_exec, with_mtime, written}

-- the row that is there, and that it fits when it is changed
pub record Changes (t : Tree) (node : NodeId) (f : Row → Row) : Type 0 where
  pub was : Row
  pub found : look t node ≡ Some was
  pub fits : FitsReplace (map.len t) (look t) was (f was)

same_place : (t : Tree) (node : NodeId) (f : Row → Row) (r : Row) → IsWellFormed t → look t node ≡ Some r → (f r).id ≡ r.id → (f r).parent ≡ r.parent → (f r).name ≡ r.name → (f r).kind ≡ r.kind → IsPlain (f r).kind (f r).bytes (f r).exec → Changes t node f
same_place t node f r w found id parent name kind plain =
    record { was = r; found = found; fits = record { there = ap (look t) (id ∙ w.keyed node r found) ∙ found; kind = kind; plain = plain; place = inl (parent, name) } }

pub moves : (t : Tree) (node parent : NodeId) (name : List ℕ) → IsWellFormed t → FitsRename (map.len t) (look t) node parent name None → Changes t node (moved parent name)
moves t node parent name w fits =
    let r = there t node fits.there in
    let id : r.0.id ≡ node = w.keyed node r.0 r.1 in
    record { was = r.0; found = r.1; fits = record { there = ap (look t) id ∙ r.1; kind = refl; plain = w.plain node r.0 r.1; place = inr (subst (λ k. FitsRename (map.len t) (look t) k parent name None) (sym id) fits) } }

pub marks : (t : Tree) (node : NodeId) (on : Bool) → IsWellFormed t → IsFileAt (look t) node → Changes t node (with_exec on)
marks t node on w file =
    let r = file_at t node file in
    same_place t node (with_exec on) r.0 w r.1 refl refl refl refl (file_plain _ _ _ (w.plain node r.0 r.1).small r.2)

pub touches : (t : Tree) (node : NodeId) (mtime : ℕ) → IsWellFormed t → IsSome (look t node) → Changes t node (with_mtime mtime)
touches t node mtime w some =
    let r = there t node some in
    same_place t node (with_mtime mtime) r.0 w r.1 refl refl refl refl (w.plain node r.0 r.1)

pub writes : (t : Tree) (node : NodeId) (offset : ℕ) (bytes : List ℕ) (size mtime : ℕ) → IsWellFormed t → IsFileAt (look t) node → size ≤ 16777216 → Changes t node (written offset bytes size mtime)
writes t node offset bytes size mtime w file small =
    let r = file_at t node file in
    let few : length (patched r.0.bytes offset bytes size) ≤ 16777216 = (let e : length (patched r.0.bytes offset bytes size) ≡ size = length-patched r.0.bytes offset bytes size in omega (arith, e, small)) in
    same_place t node (written offset bytes size mtime) r.0 w r.1 refl refl refl refl (file_plain _ _ _ few r.2)

-- the row of a file that is written has room
pub has_room : (t : Tree) (node : NodeId) (size spare : ℕ) (was row : Row) → look t node ≡ Some was → row ≡ was → IfSome (look t node) (λ r. size ≤ max (length r.bytes) spare) → size ≤ max (length row.bytes) spare
has_room t node size spare was row found is h =
    let here : size ≤ max (length was.bytes) spare = subst (λ (o : Option Row). IfSome o (λ r. size ≤ max (length r.bytes) spare)) found h in
    subst (λ (r : Row). size ≤ max (length r.bytes) spare) (sym is) here
