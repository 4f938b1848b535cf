-- The child of a name is the row at the place, and there is none only where the place is free.
use Rattle.std.proofs.Common.{◌≡◌, ◌≢◌, ℕ, Bool, true, false, not, List, [], ◌∷◌, map, cond, Option, Some, None, ◌&&◌, refl, sym, ap, ◌∙◌}
use mathlib.Core.Bool.{true≢false}
use Rattle.std.specs.Prelude.{find, T}
use Rattle.std.specs.Option.{option_map, unwrap_or}
use Rattle.std.specs.Str.{bytes_eq}
use Rattle.std.specs.Cmp.{tied_itself}
use Rattle.std.specs.declared.cmp.Ordering.TheVariants.{Less, Equal}
use Rattle.std.specs.Ordering.{eq_by_cmp}
use Rattle.std.proofs.lemmas.Slice.Eq.{bytes_eq-Decides}
use Rattle.std.specs.FinMap as map
use Rattle.std.specs.FinMap.Entries as entries
use Rattle.kb_name.specs.declared.ids.NodeId.{NodeId}
use Rattle.kb_ops.specs.declared.rows.Row.{Row}
use Rattle.kb_name.specs.Nodes.{root, same_node, node_cmp}
use Rattle.kb_ops.specs.Rows.{IsFree}
use Rattle.kb_ops.specs.Trees.{Tree, look, IsWellFormed}
use Rattle.kb_ops.specs.Find.{stands_at, child}
use Rattle.kb_ops.proofs.Nodes.{node_is, node_self, node_other, apart, and_first, and_second}
use Rattle.kb_ops.proofs.Looks.{nodes_total, tested}
use Rattle.kb_ops.proofs.Lists.{less_is}

abbrev pub Entries : Type 0
Entries = List (NodeId × Row)

abbrev pub rows_in : Entries → List Row
rows_in es = map (λ (e : NodeId × Row). e.1) es

abbrev pub at_id : NodeId → Entries → Option Row
at_id q es = entries.find node_cmp q es

some_is : {A : Type 0} (x y : A) → Some x ≡ Some y → x ≡ y
some_is x y e = ap (λ o. unwrap_or o x) e

none_some : {A : Type 0} (x : A) → None ≢ Some x
none_some x e = cc

-- what no row passes, no row that is found passes
passes_none : (p : Row → Bool) (q : NodeId) (r : Row) (es : Entries) → at_id q es ≡ Some r → find p (rows_in es) ≡ None → p r ≡ false
passes_none p q r [] h n = absurd (none_some r h)
passes_none p q r (e ∷ es) h n =
    elim (p e.1) as (λ b. p e.1 ≡ b → cond b (Some e.1) (find p (rows_in es)) ≡ None → p r ≡ false) [
      | true ↦ λ y m. absurd (none_some e.1 (sym m))
      | false ↦ λ y m. elim (eq_by_cmp node_cmp q e.0) as (λ b. cond b (Some e.1) (at_id q es) ≡ Some r → p r ≡ false) [
        | true ↦ λ g. ap p (sym (some_is e.1 r g)) ∙ y
        | false ↦ λ g. passes_none p q r es g m
      ] h
    ] refl n

-- a key that is found among greater ones is another
above : (k q : NodeId) (r : Row) (es : Entries) → entries.below_all node_cmp k es ≡ true → at_id q es ≡ Some r → eq_by_cmp node_cmp q k ≡ false
above k q r [] up h = absurd (none_some r h)
above k q r (e ∷ es) up h =
    elim (eq_by_cmp node_cmp q e.0) as (λ b. eq_by_cmp node_cmp q e.0 ≡ b → cond b (Some e.1) (at_id q es) ≡ Some r → eq_by_cmp node_cmp q k ≡ false) [
      | true ↦ λ y g.
          let same : q ≡ e.0 = node_is q e.0 (sym (tested q e.0) ∙ y) in
          let less : node_cmp k e.0 ≡ Less = less_is _ (and_first _ _ up) in
          tested q k ∙ node_other q k (λ p. absurd (let tie : node_cmp k e.0 ≡ Equal = ap (node_cmp k) (sym same ∙ p) ∙ tied_itself nodes_total k in cc))
      | false ↦ λ y g. above k q r es (and_second _ _ up) g
    ] refl h

-- a row that passes is found by its key
pub passes_some : (p : Row → Bool) (r : Row) (es : Entries) → entries.is_sorted node_cmp es ≡ true → find p (rows_in es) ≡ Some r → (q : NodeId) × (at_id q es ≡ Some r) × (p r ≡ true)
passes_some p r [] up h = absurd (none_some r h)
passes_some p r (e ∷ es) up h =
    elim (p e.1) as (λ b. p e.1 ≡ b → cond b (Some e.1) (find p (rows_in es)) ≡ Some r → (q : NodeId) × (at_id q (e ∷ es) ≡ Some r) × (p r ≡ true)) [
      | true ↦ λ y g. (e.0, ap (λ b. cond b (Some e.1) (at_id e.0 es)) (tested e.0 e.0 ∙ node_self e.0) ∙ g, ap p (sym (some_is e.1 r g)) ∙ y)
      | false ↦ λ y g.
          let w = passes_some p r es (and_second _ _ up) g in
          (w.0, ap (λ b. cond b (Some e.1) (at_id w.0 es)) (above e.0 w.0 r es (and_first _ _ up) w.1) ∙ w.1, w.2)
    ] refl h

pub is_true : (b : Bool) → T b → b ≡ true
is_true true h = refl
is_true false h = absurd h

pub not_true : (b : Bool) → not b ≡ true → b ≡ false
not_true true h = absurd (true≢false (sym h))
not_true false h = refl

-- what stands at a place
pub record Stands (t : Tree) (parent : NodeId) (name : List ℕ) (q : NodeId) : Type 0 where
  pub row : Row
  pub found : look t q ≡ Some row
  pub not_root : q ≢ root
  pub parent_is : row.parent ≡ parent
  pub name_is : row.name ≡ name

pub child_stands : (t : Tree) → IsWellFormed t → (parent : NodeId) (name : List ℕ) (q : NodeId) → child t parent name ≡ Some q → Stands t parent name q
child_stands t w parent name q h =
    elim (find (stands_at parent name) (map.values t)) as (λ o. find (stands_at parent name) (map.values t) ≡ o → option_map (λ (r : Row). r.id) o ≡ Some q → Stands t parent name q) [
      | Some r ↦ λ e g.
          let x = passes_some (stands_at parent name) r (map.entries t) (is_true _ (map.entries_sorted t)) e in
          let found : look t x.0 ≡ Some r = map.get-entries t x.0 ∙ x.1 in
          let at : x.0 ≡ q = sym (w.keyed x.0 r found) ∙ some_is r.id q g in
          record {
            row = r;
            found = ap (look t) (sym at) ∙ found;
            not_root = apart q root (ap (λ k. same_node k root) (sym (some_is r.id q g)) ∙ not_true _ (and_first _ _ x.2));
            parent_is = node_is r.parent parent (and_first _ _ (and_second _ _ x.2));
            name_is = (bytes_eq-Decides r.name name).0 (and_second _ _ (and_second _ _ x.2));
          }
      | None ↦ λ e g. absurd (none_some q g)
    ] refl h

no_child : (t : Tree) (parent : NodeId) (name : List ℕ) → child t parent name ≡ None → find (stands_at parent name) (map.values t) ≡ None
no_child t parent name h = elim (find (stands_at parent name) (map.values t)) as (λ o. option_map (λ (r : Row). r.id) o ≡ None → o ≡ None) [ Some r ↦ λ g. absurd (none_some r.id (sym g)) | None ↦ λ g. refl ] h

-- a row stands at its own place
stands_itself : (q parent : NodeId) (name : List ℕ) (r : Row) → r.id ≡ q → q ≢ root → r.parent ≡ parent → r.name ≡ name → stands_at parent name r ≡ true
stands_itself q parent name r id off p n =
    ap (λ b. not b && (same_node r.parent parent && bytes_eq r.name name)) (ap (λ k. same_node k root) id ∙ node_other q root off)
    ∙ ap (λ b. b && bytes_eq r.name name) (ap (same_node r.parent) (sym p) ∙ node_self r.parent)
    ∙ (bytes_eq-Decides r.name name).1 n

pub no_child_free : (t : Tree) → IsWellFormed t → (parent : NodeId) (name : List ℕ) → child t parent name ≡ None → IsFree (look t) parent name
no_child_free t w parent name h = λ q r found off p n.
    true≢false (sym (stands_itself q parent name r (w.keyed q r found) off p n)
    ∙ passes_none (stands_at parent name) q r (map.entries t) (sym (map.get-entries t q) ∙ found) (no_child t parent name h))

-- the row at its place is the child of its name
pub child_is : (t : Tree) → IsWellFormed t → (q : NodeId) (r : Row) → look t q ≡ Some r → q ≢ root → child t r.parent r.name ≡ Some q
child_is t w q r found off =
    elim (child t r.parent r.name) as (λ o. child t r.parent r.name ≡ o → o ≡ Some q) [
      | Some k ↦ λ e. let s = child_stands t w r.parent r.name k e in ap (λ (x : NodeId). Some x) (w.places k q s.row r s.found found s.not_root off s.parent_is s.name_is)
      | None ↦ λ e. absurd (no_child_free t w r.parent r.name e q r found off refl refl)
    ] refl

-- the child is the row that stands there: so two tests that say so agree
pub child_by : (t : Tree) → IsWellFormed t → (parent : NodeId) (name : List ℕ) (q : NodeId) → Stands t parent name q → child t parent name ≡ Some q
child_by t w parent name q s = (λ i. child t (sym s.parent_is i) (sym s.name_is i)) ∙ child_is t w q s.row s.found s.not_root
