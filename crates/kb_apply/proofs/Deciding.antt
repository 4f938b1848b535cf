-- The tests decide whether an operation fits.
use Rattle.std.proofs.Common.{◌≡◌, ◌≢◌, ℕ, ◌≤◌, Bool, true, false, not, ◌&&◌, ◌||◌, List, [], ◌∷◌, length, cond, Option, Some, None, is_some, IsSomeAnd, refl, sym, ap, ◌∙◌, arith, nat_le, nat_eq}
use Rattle.std.specs.Prelude.{find, is_none}
use Rattle.std.specs.Bool.{Decides}
use Rattle.std.proofs.lemmas.Bool.Decides.{Decides-like, Decides-and, nat_tests}
use mathlib.Core.Bool.{true≢false, beq}
use Rattle.std.specs.Option.{option_map_or}
use Rattle.std.specs.List.{list_any}
use Rattle.std.specs.FinMap as map
use Rattle.kb_name.specs.declared.ids.NodeId.{NodeId}
use Rattle.kb_name.specs.Names.{is_name}
use Rattle.kb_name.specs.Nodes.{root, same_node}
use Rattle.kb_ops.specs.declared.values.Kind.{Kind}
use Rattle.kb_ops.specs.declared.values.Kind.TheVariants.{Dir, File, Link}
use Rattle.kb_ops.specs.declared.rows.Row.{Row}
use Rattle.kb_ops.specs.declared.rows.Change.{Change}
use Rattle.kb_ops.specs.declared.rows.Change.TheVariants.{Create, Remove, Rename, Sync, Exec, Touch}
use Rattle.kb_ops.specs.Rows.{is_dir, is_dir_kind, IsPlain, IsFree, HasNoChild, FitsNew, FitsRemove, MakesWay, FitsPlace, FitsRename}
use Rattle.kb_ops.specs.Trees.{Tree, look, created, IsWellFormed, IsFileAt, IsWrite, FitsChange}
use Rattle.kb_ops.specs.Find.{child}
use Rattle.kb_ops.specs.Plan.{has_child, is_below, is_file_kind, file_at}
use Rattle.kb_ops.proofs.Nodes.{node_is, node_self, node_other, apart, and_first, and_second}
use Rattle.kb_ops.proofs.Kept.{some_and, and_some}
use Rattle.kb_ops.proofs.Children.{Stands, child_stands, child_by, no_child_free, passes_some, is_true, not_true}
use Rattle.kb_ops.proofs.PlanFits.{childless}
use Rattle.kb_apply.specs.FitTests.{can_go, is_content, creates, is_child, makes_way, has_place, renames, is_write, change_fits}

-- ---- single tests

itself : (b : Bool) → Decides b (b ≡ true)
itself b = (λ h. h, λ h. h)

is_not : (b : Bool) → Decides (not b) (b ≡ false)
is_not true = (λ h. absurd (true≢false (sym h)), λ h. absurd (true≢false h))
is_not false = (λ h. refl, λ h. refl)

no_value : {A : Type 0} (o : Option A) → Decides (is_none o) (o ≡ None)
no_value (Some x) = (λ h. absurd (true≢false (sym h)), λ h. absurd (let e : Some x ≡ None = h in cc))
no_value None = (λ h. refl, λ h. refl)

others : (a b : NodeId) → Decides (not (same_node a b)) (a ≢ b)
others a b = (λ h. apart a b (not_true _ h), λ ne. ap (λ t. not t) (node_other a b ne))

at_most : (a b : ℕ) → Decides (nat_le a b) (a ≤ b)
at_most a b = (λ h. grind (arith, nat_tests), λ h. grind (arith, nat_tests))

like : (a b : Bool) → Decides (beq a b) (a ≡ b)
like true true = (λ h. refl, λ h. refl)
like true false = (λ h. absurd (true≢false (sym h)), λ h. absurd (true≢false h))
like false true = (λ h. absurd (true≢false (sym h)), λ h. absurd (true≢false (sym h)))
like false false = (λ h. refl, λ h. refl)

-- one test or, where another fails, a fact
where_not : (p q : Bool) (P Q : Type 0) → Decides p P → Decides q Q → Decides (not p || q) (P → Q)
where_not true q P Q d e = (λ h x. e.0 h, λ f. e.1 (f (d.0 refl)))
where_not false q P Q d e = (λ h x. absurd (true≢false (sym (d.1 x))), λ f. refl)

dir_kind : (k : Kind) → Decides (is_dir_kind k) (k ≡ Dir)
dir_kind Dir = (λ h. refl, λ h. refl)
dir_kind File = (λ h. absurd (true≢false (sym h)), λ h. absurd (let e : File ≡ Dir = h in cc))
dir_kind Link = (λ h. absurd (true≢false (sym h)), λ h. absurd (let e : Link ≡ Dir = h in cc))

zero_is : (n : ℕ) → Decides (nat_eq n 0) (n ≡ 0)
zero_is n = (λ h. grind (arith, nat_tests), λ h. grind (arith, nat_tests))

no_items : (xs : List ℕ) → Decides (nat_eq (length xs) 0) (xs ≡ [])
no_items [] = (λ h. refl, λ h. refl)
no_items (x ∷ xs) = (λ h. absurd (let none : length (x ∷ xs) ≡ 0 = (zero_is (length (x ∷ xs))).0 h in omega (arith, none)), λ h. absurd (let e : x ∷ xs ≡ [] = h in cc))

-- ---- tests of a tree

some_passes : (p : Row → Bool) (rows : List Row) → list_any p rows ≡ true → (r : Row) × (find p rows ≡ Some r)
some_passes p [] h = absurd (true≢false (sym h))
some_passes p (x ∷ rows) h = elim (p x) as (λ b. (b || list_any p rows) ≡ true → (r : Row) × (cond b (Some x) (find p rows) ≡ Some r)) [ true ↦ λ g. (x, refl) | false ↦ λ g. some_passes p rows g ] h

has_no_child : (t : Tree) (node : NodeId) → IsWellFormed t → HasNoChild (look t) node → has_child t node ≡ false
has_no_child t node w none = elim (has_child t node) as (λ b. has_child t node ≡ b → b ≡ false) [
  | true ↦ λ e.
      let p : Row → Bool = λ r. not (same_node r.id root) && same_node r.parent node in
      let s = some_passes p (map.values t) e in
      let x = passes_some p s.0 (map.entries t) (is_true _ (map.entries_sorted t)) s.1 in
      let found : look t x.0 ≡ Some s.0 = map.get-entries t x.0 ∙ x.1 in
      let off : x.0 ≢ root = apart x.0 root (ap (λ k. same_node k root) (sym (w.keyed x.0 s.0 found)) ∙ not_true _ (and_first _ _ x.2)) in
      absurd (none x.0 s.0 found off (node_is s.0.parent node (and_second _ _ x.2)))
  | false ↦ λ e. refl
] refl

no_children : (t : Tree) (node : NodeId) → IsWellFormed t → Decides (not (has_child t node)) (HasNoChild (look t) node)
no_children t node w = (λ h. childless t node w (not_true _ h), λ none. ap (λ b. not b) (has_no_child t node w none))

free_place : (t : Tree) (parent : NodeId) (name : List ℕ) → IsWellFormed t → Decides (is_none (child t parent name)) (IsFree (look t) parent name)
free_place t parent name w = (
  λ h. no_child_free t w parent name ((no_value (child t parent name)).0 h),
  λ free. elim (child t parent name) as (λ o. child t parent name ≡ o → is_none o ≡ true) [
    | Some q ↦ λ e. let s = child_stands t w parent name q e in absurd (free q s.row s.found s.not_root s.parent_is s.name_is)
    | None ↦ λ e. refl
  ] refl,
)

is_child_of : (t : Tree) (parent : NodeId) (name : List ℕ) (node : NodeId) → is_child t parent name node ≡ true → child t parent name ≡ Some node
is_child_of t parent name node h =
    elim (child t parent name) as (λ o. option_map_or (λ there. same_node there node) o false ≡ true → o ≡ Some node) [
      | Some q ↦ λ g. ap (λ (k : NodeId). Some k) (node_is q node g)
      | None ↦ λ g. absurd (true≢false (sym g))
    ] h

-- the row stands at the place, and isn't the root's
record IsAt (t : Tree) (parent : NodeId) (name : List ℕ) (node : NodeId) : Type 0 where
  stands : IsSomeAnd (look t node) (λ r. (r.parent ≡ parent) × (r.name ≡ name))
  not_root : node ≢ root

at_place : (t : Tree) (parent : NodeId) (name : List ℕ) (node : NodeId) → IsWellFormed t → Decides (is_child t parent name node) (IsAt t parent name node)
at_place t parent name node w = (
  λ h. let s = child_stands t w parent name node (is_child_of t parent name node h) in record { stands = and_some (λ (r : Row). (r.parent ≡ parent) × (r.name ≡ name)) (look t node) s.row s.found (s.parent_is, s.name_is); not_root = s.not_root },
  λ at.
      let s = some_and (λ (r : Row). (r.parent ≡ parent) × (r.name ≡ name)) (look t node) at.stands in
      let stands : Stands t parent name node = record { row = s.0; found = s.1; not_root = at.not_root; parent_is = s.2.0; name_is = s.2.1 } in
      ap (λ o. option_map_or (λ there. same_node there node) o false) (child_by t w parent name node stands) ∙ node_self node,
)

-- the row that is found, if it is a File's
file_in : (o : Option Row) → Decides (is_some (option_map_or (λ (r : Row). cond (is_file_kind r.kind) (Some r) None) o None)) (IsSomeAnd o (λ r. r.kind ≡ File))
file_in None = (λ h. absurd (true≢false (sym h)), λ h. absurd h)
file_in (Some r) = of_kind r.kind
  where
    of_kind : (k : Kind) → Decides (is_some (cond (is_file_kind k) (Some r) None)) (k ≡ File)
    of_kind Dir = (λ h. absurd (true≢false (sym h)), λ h. absurd (let e : Dir ≡ File = h in cc))
    of_kind File = (λ h. refl, λ h. refl)
    of_kind Link = (λ h. absurd (true≢false (sym h)), λ h. absurd (let e : Link ≡ File = h in cc))

file_there : (t : Tree) (node : NodeId) → Decides (is_some (file_at t node)) (IsFileAt (look t) node)
file_there t node = file_in (look t node)

-- ---- tests of a change

content : (kind : Kind) (bytes : List ℕ) → Decides (is_content kind bytes) (IsPlain kind bytes false)
content kind bytes = Decides-like (is_content kind bytes)
    (λ x. record { small = x.0; no_bytes = x.1; no_exec = λ _. refl })
    (λ p. (p.small, p.no_bytes))
    (Decides-and _ _ (at_most (length bytes) 16777216) (where_not (is_dir_kind kind) (nat_eq (length bytes) 0) (kind ≡ Dir) (bytes ≡ []) (dir_kind kind) (no_items bytes)))

new_row : (id : NodeId) (moment : ℕ) (t : Tree) (parent : NodeId) (name : List ℕ) (kind : Kind) (bytes : List ℕ) → IsWellFormed t → Decides (creates id t parent name kind bytes) (FitsNew (look t) (created id moment parent name kind bytes))
new_row id moment t parent name kind bytes w = Decides-like (creates id t parent name kind bytes)
    (λ x. record { new = x.0; dir = x.1.0; free = x.1.1.0; named = x.1.1.1.0; plain = x.1.1.1.1 })
    (λ f. (f.new, (f.dir, (f.free, (f.named, f.plain)))))
    (Decides-and _ _ (no_value (look t id)) (Decides-and _ _ (itself (is_dir (look t) parent)) (Decides-and _ _ (free_place t parent name w) (Decides-and _ _ (itself (is_name name)) (content kind bytes)))))

gone_row : (t : Tree) (node : NodeId) → IsWellFormed t → Decides (can_go t node) (FitsRemove (look t) node)
gone_row t node w = Decides-like (can_go t node)
    (λ x. record { there = x.0; not_root = x.1.0; childless = x.1.1 })
    (λ f. (f.there, (f.not_root, f.childless)))
    (Decides-and _ _ (itself (is_some (look t node))) (Decides-and _ _ (others node root) (no_children t node w)))

way_made : (t : Tree) (node parent : NodeId) (name : List ℕ) (gone : NodeId) → IsWellFormed t → Decides (makes_way t node parent name gone) (MakesWay (look t) node parent name gone)
way_made t node parent name gone w = Decides-like (makes_way t node parent name gone)
    (λ x. record { stands = x.0.stands; not_root = x.0.not_root; other = x.1.0; childless = x.1.1.0; alike = x.1.1.1 })
    (λ m. (record { stands = m.stands; not_root = m.not_root }, (m.other, (m.childless, m.alike))))
    (Decides-and _ _ (at_place t parent name gone w) (Decides-and _ _ (others gone node) (Decides-and _ _ (no_children t gone w) (like (is_dir (look t) gone) (is_dir (look t) node)))))

placed : (t : Tree) (node parent : NodeId) (name : List ℕ) (replaced : Option NodeId) → IsWellFormed t → Decides (has_place t node parent name replaced) (FitsPlace (look t) node parent name replaced)
placed t node parent name None w = free_place t parent name w
placed t node parent name (Some gone) w = way_made t node parent name gone w

moved_row : (t : Tree) (node parent : NodeId) (name : List ℕ) (replaced : Option NodeId) → IsWellFormed t → Decides (renames t node parent name replaced) (FitsRename (map.len t) (look t) node parent name replaced)
moved_row t node parent name replaced w = Decides-like (renames t node parent name replaced)
    (λ x. record { there = x.0; not_root = x.1.0; dir = x.1.1.0; not_below = x.1.1.1.0; named = x.1.1.1.1.0; place = x.1.1.1.1.1 })
    (λ f. (f.there, (f.not_root, (f.dir, (f.not_below, (f.named, f.place))))))
    (Decides-and _ _ (itself (is_some (look t node))) (Decides-and _ _ (others node root) (Decides-and _ _ (itself (is_dir (look t) parent)) (Decides-and _ _ (is_not (is_below t node parent)) (Decides-and _ _ (itself (is_name name)) (placed t node parent name replaced w))))))

write_in_range : (offset : ℕ) (bytes : List ℕ) (size : ℕ) → Decides (is_write offset bytes size) (IsWrite offset bytes size)
write_in_range offset bytes size = Decides-like (is_write offset bytes size)
    (λ x. record { few = x.0; within = x.1.0; small = x.1.1.0; plain = x.1.1.1 })
    (λ f. (f.few, (f.within, (f.small, f.plain))))
    (Decides-and _ _ (at_most (length bytes) 65536) (Decides-and _ _ (at_most _ size) (Decides-and _ _ (at_most size 16777216) (where_not (nat_eq (length bytes) 0) (nat_eq offset 0) (bytes ≡ []) (offset ≡ 0) (no_items bytes) (zero_is offset)))))

pub decided : (id : NodeId) (moment : ℕ) (change : Change) (t : Tree) → IsWellFormed t → Decides (change_fits id t change) (FitsChange id moment change t)
decided id moment (Create parent name kind bytes) t w = new_row id moment t parent name kind bytes w
decided id moment (Remove node) t w = gone_row t node w
decided id moment (Rename node parent name replaced) t w = moved_row t node parent name replaced w
decided id moment (Sync node offset bytes size) t w = Decides-and _ _ (file_there t node) (write_in_range offset bytes size)
decided id moment (Exec node on) t w = file_there t node
decided id moment (Touch node mtime) t w = itself (is_some (look t node))
