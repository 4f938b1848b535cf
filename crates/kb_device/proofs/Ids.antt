-- Which ids of a device stand in a tree.
use Rattle.std.proofs.Common.{◌≡◌, ◌⊎◌, ℕ, ◌≤◌, ◌<◌, ◌+◌, ◌-◌, Bool, true, false, ◌==◌, cond, List, [], ◌∷◌, ◌++◌, length, take, drop, max, Option, Some, None, IsSome, is_some, inl, inr, refl, sym, ap, subst, ◌∙◌, arith}
use Rattle.std.specs.Option.{option_map_or}
use Rattle.std.specs.FinMap.{insert, remove}
use Rattle.std.specs.Prelude.{slice_index_or as get_or}
use Rattle.std.proofs.lemmas.Grind.{take_at_read}
use Rattle.std.proofs.lemmas.Bool.Decides.{nat_tests}
use Rattle.kb_name.specs.declared.ids.NodeId.{NodeId}
use Rattle.kb_name.specs.Nodes.{same_node}
use Rattle.kb_ops.specs.declared.rows.Row.{Row}
use Rattle.kb_ops.specs.declared.rows.Op.{Op}
use Rattle.kb_ops.specs.declared.rows.Change.{Change}
use Rattle.kb_ops.specs.declared.rows.Change.TheVariants.{Create, Remove, Rename, Sync, Exec, Touch}
use Rattle.kb_ops.specs.Lists.{tree_of, rises}
use Rattle.kb_ops.specs.Trees.{Tree, look, edit, make_way, created, patched, apply_change, apply, new_id}
use Rattle.kb_ops.proofs.Lists.{row_of, look_of}
use Rattle.kb_ops.proofs.Looks.{look-insert, look-remove}
use Rattle.kb_ops.proofs.Nodes.{node_cases, node_other, node_self}
use Rattle.kb_ops.proofs.Walks.{row_cases}
use Rattle.kb_snap.specs.Chains.{Chain, ops_of, tree_at}
use Rattle.kb_snap.specs.Ids.{AreGiven}
use Rattle.kb_snap.specs.Lawful.{IsLawful}
use Rattle.kb_snap.proofs.Ids.{given_longer}
use Rattle.kb_snap.proofs.Lawful.{given_then}
use Rattle.kb_snap.proofs.Lists.{cut, get_there}
use Rattle.kb_device.specs.Fresh.{IdsEndAt, IsLastOf, with_row, last_in}

-- ---- what an operation brings in

there_is : {A : Type 0} (o : Option A) (x : A) → o ≡ Some x → IsSome o
there_is o x e = ap is_some e

inserted : (t : Tree) (node : NodeId) (r x : Row) (q : NodeId) → look (insert t node r) q ≡ Some x → (q ≡ node) ⊎ IsSome (look t q)
inserted t node r x q h = elim (node_cases q node) [
  | inl e ↦ inl e
  | inr ne ↦ inr (there_is (look t q) x (sym ((look-insert t node r).others q ne) ∙ h))
]

removed : (t : Tree) (node : NodeId) (x : Row) (q : NodeId) → look (remove t node) q ≡ Some x → look t q ≡ Some x
removed t node x q h = elim (node_cases q node) [
  | inl e ↦ (let none : look (remove t node) q ≡ None = ap (look (remove t node)) e ∙ (look-remove t node).here in let no : None ≡ Some x = sym none ∙ h in cc)
  | inr ne ↦ sym ((look-remove t node).others q ne) ∙ h
]

edited : (t : Tree) (node : NodeId) (f : Row → Row) (x : Row) (q : NodeId) → look (edit t node f) q ≡ Some x → IsSome (look t q)
edited t node f x q h = elim (row_cases (look t) node) [
  | inl (r, found) ↦ (
      let is : edit t node f ≡ insert t node (f r) = ap (λ o. option_map_or (λ y. insert t node (f y)) o t) found in
      elim (inserted t node (f r) x q (ap (λ u. look u q) (sym is) ∙ h)) [ inl e ↦ there_is (look t q) r (ap (look t) e ∙ found) | inr some ↦ some ])
  | inr none ↦ (
      let is : edit t node f ≡ t = ap (λ o. option_map_or (λ y. insert t node (f y)) o t) none in
      there_is (look t q) x (ap (λ u. look u q) (sym is) ∙ h))
]

way_made : (t : Tree) (gone : Option NodeId) (x : Row) (q : NodeId) → look (make_way t gone) q ≡ Some x → look t q ≡ Some x
way_made t None x q h = h
way_made t (Some node) x q h = removed t node x q h

some_of : {A : Type 0} (o : Option A) → IsSome o → (x : A) × (o ≡ Some x)
some_of (Some x) h = (x, refl)
some_of None h = cc

-- an operation brings in no id but its own
applied : (id : NodeId) (moment : ℕ) (change : Change) (t : Tree) (x : Row) (q : NodeId) → look (apply_change id moment change t) q ≡ Some x → (q ≡ id) ⊎ IsSome (look t q)
applied id moment (Create parent name kind bytes) t x q h = inserted t id (created id moment parent name kind bytes) x q h
applied id moment (Remove node) t x q h = inr (there_is (look t q) x (removed t node x q h))
applied id moment (Rename node parent name gone) t x q h =
    let mid = some_of (look (make_way t gone) q) (edited (make_way t gone) node (λ r. record r { parent = parent; name = name }) x q h) in
    inr (there_is (look t q) mid.0 (way_made t gone mid.0 q mid.1))
applied id moment (Sync node offset bytes size) t x q h = inr (edited t node (λ r. record r { bytes = patched r.bytes offset bytes size; mtime = moment }) x q h)
applied id moment (Exec node on) t x q h = inr (edited t node (λ r. record r { exec = on }) x q h)
applied id moment (Touch node mtime) t x q h = inr (edited t node (λ r. record r { mtime = mtime }) x q h)

-- an operation of a seq up to the last one
pub ids_apply : (d last : ℕ) (op : Op) (t : Tree) → IdsEndAt d last t → op.seq ≤ last → IdsEndAt d last (apply op t)
ids_apply d last op t below seq = λ q r h is. elim (applied (new_id op) op.moment op.change t r q h) [
  | inl e ↦ (let same : q.seq ≡ op.seq = ap (λ (n : NodeId). n.seq) e in omega (arith, same, seq))
  | inr some ↦ (let found = some_of (look t q) some in below q found.0 found.1 is)
]

pub ids_more : (d last more : ℕ) (t : Tree) → last ≤ more → IdsEndAt d last t → IdsEndAt d more t
ids_more d last more t le below = λ q r h is. (let low = below q r h is in omega (arith, low, le))

-- so the next id is new
pub next_is_new : (d last : ℕ) (t : Tree) → IdsEndAt d last t → look t (record { device = d; seq = last + 1; part = 0 }) ≡ None
next_is_new d last t below = elim (row_cases (look t) (record { device = d; seq = last + 1; part = 0 })) [
  | inl (r, found) ↦ (let low = below (record { device = d; seq = last + 1; part = 0 }) r found refl in absurd (omega (arith, low)))
  | inr none ↦ none
]

-- ---- the trees of a chain

pub chain_ids : (d : ℕ) (c : Chain) (r : ℕ) → 1 ≤ d → IsLawful c → r ≤ length c → IdsEndAt d (length (ops_of d c)) (tree_at c r)
chain_ids d c r some lawful le = λ q row found is.
    let given : AreGiven c (tree_at c r) = subst (λ l. AreGiven l (tree_at c r)) (sym (cut r c)) (given_longer (take r c) (drop r c) (tree_at c r) (given_then c lawful r le)) in
    elim (given q row found) [
      | inl at ↦ (let zero : q.device ≡ 0 = ap (λ (n : NodeId). n.device) at in absurd (omega (arith, zero, is, some)))
      | inr g ↦ (
          let lt = get_there (ops_of q.device c) (q.seq - 1) g.op g.at in
          let same : length (ops_of q.device c) ≡ length (ops_of d c) = ap (λ n. length (ops_of n c)) is in
          let low = g.seq in
          omega (arith, lt, same, low))
    ]

-- ---- the last seq in rows

le_max : (a b : ℕ) → (a ≤ max a b) × (b ≤ max a b)
le_max a b = (omega arith, omega arith)

max_le : (a b n : ℕ) → a ≤ n → b ≤ n → max a b ≤ n
max_le a b n h k = omega (arith, h, k)

last_here : (d : ℕ) (x : Row) (rows : List Row) → x.id.device ≡ d → last_in d (x ∷ rows) ≡ max x.id.seq (last_in d rows)
last_here d x rows is = ap (λ b. cond b (max x.id.seq (last_in d rows)) (last_in d rows)) (let yes : (d == x.id.device) ≡ true = grind (arith, nat_tests, is) in yes)

last_off : (d : ℕ) (x : Row) (rows : List Row) → (x.id.device ≡ d → ⊥) → last_in d (x ∷ rows) ≡ last_in d rows
last_off d x rows off = ap (λ b. cond b (max x.id.seq (last_in d rows)) (last_in d rows)) (by (d == x.id.device) refl) where
  by : (b : Bool) → (d == x.id.device) ≡ b → (d == x.id.device) ≡ false
  by true e = absurd (off (let same : x.id.device ≡ d = grind (arith, nat_tests, e) in same))
  by false e = e

pub last_grows : (d : ℕ) (x : Row) (rows : List Row) → last_in d rows ≤ last_in d (x ∷ rows)
last_grows d x rows = by (d == x.id.device) refl where
  by : (b : Bool) → (d == x.id.device) ≡ b → last_in d rows ≤ last_in d (x ∷ rows)
  by true e = (let here = ap (λ b. cond b (max x.id.seq (last_in d rows)) (last_in d rows)) e in let m = (le_max x.id.seq (last_in d rows)).1 in omega (arith, here, m))
  by false e = (let off = ap (λ b. cond b (max x.id.seq (last_in d rows)) (last_in d rows)) e in omega (arith, off))

rows_below : (d : ℕ) (rows : List Row) (q : NodeId) (r : Row) → row_of rows q ≡ Some r → q.device ≡ d → q.seq ≤ last_in d rows
rows_below d [] q r h is = cc
rows_below d (x ∷ rows) q r h is = elim (node_cases x.id q) [
  | inl e ↦ (
      let device : x.id.device ≡ d = ap (λ (n : NodeId). n.device) e ∙ is in
      let seq : x.id.seq ≡ q.seq = ap (λ (n : NodeId). n.seq) e in
      let here = last_here d x rows device in
      let m = (le_max x.id.seq (last_in d rows)).0 in
      omega (arith, here, m, seq))
  | inr ne ↦ (
      let rest : row_of rows q ≡ Some r = sym (ap (λ b. cond b (Some x) (row_of rows q)) (node_other x.id q ne)) ∙ h in
      let low = rows_below d rows q r rest is in
      let m = last_grows d x rows in
      omega (arith, low, m))
]

abbrev AllBelow : ℕ → ℕ → List Row → Type 0
AllBelow d n rows = (q : NodeId) (r : Row) → row_of rows q ≡ Some r → q.device ≡ d → q.seq ≤ n

rest_below : (d : ℕ) (x : Row) (rows : List Row) (n : ℕ) → AllBelow d n (x ∷ rows) → AllBelow d n rows
rest_below d x rows n all = λ q r h is. elim (node_cases x.id q) [
  | inl e ↦ all q x (ap (λ b. cond b (Some x) (row_of rows q)) (ap (λ p. same_node p q) e ∙ node_self q)) is
  | inr ne ↦ all q r (ap (λ b. cond b (Some x) (row_of rows q)) (node_other x.id q ne) ∙ h) is
]

least_step : (d : ℕ) (x : Row) (rows : List Row) (n : ℕ) → AllBelow d n (x ∷ rows) → last_in d rows ≤ n → last_in d (x ∷ rows) ≤ n
least_step d x rows n all rest = by (d == x.id.device) refl where
  by : (b : Bool) → (d == x.id.device) ≡ b → last_in d (x ∷ rows) ≤ n
  by true e =
      let here = ap (λ b. cond b (max x.id.seq (last_in d rows)) (last_in d rows)) e in
      let first = all x.id x (ap (λ b. cond b (Some x) (row_of rows x.id)) (node_self x.id)) (let same : x.id.device ≡ d = grind (arith, nat_tests, e) in same) in
      let m = max_le x.id.seq (last_in d rows) n first rest in
      omega (arith, here, m)
  by false e = (let off = ap (λ b. cond b (max x.id.seq (last_in d rows)) (last_in d rows)) e in omega (arith, off, rest))

rows_least : (d : ℕ) (rows : List Row) (n : ℕ) → AllBelow d n rows → last_in d rows ≤ n
rows_least d [] n all = omega arith
rows_least d (x ∷ rows) n all = least_step d x rows n all (rows_least d rows n (rest_below d x rows n all))

-- that of the rows of a tree
pub last_of : (d : ℕ) (rows : List Row) (t : Tree) → rises rows ≡ true → tree_of rows ≡ t → IsLastOf d t (last_in d rows)
last_of d rows t rise is = subst (λ t. IsLastOf d t (last_in d rows)) is (record {
  below = λ q r h own. rows_below d rows q r (sym (look_of rows rise q) ∙ h) own;
  least = λ n all. rows_least d rows n (λ q r h own. all q r (look_of rows rise q ∙ h) own);
})

turned : (d : ℕ) (x y : Row) (n : ℕ) → with_row d y (with_row d x n) ≡ with_row d x (with_row d y n)
turned d x y n = by (d == x.id.device) (d == y.id.device) where
  by : (a b : Bool) → cond b (max y.id.seq (cond a (max x.id.seq n) n)) (cond a (max x.id.seq n) n) ≡ cond a (max x.id.seq (cond b (max y.id.seq n) n)) (cond b (max y.id.seq n) n)
  by true true = omega arith
  by true false = refl
  by false true = refl
  by false false = refl

last_push : (d : ℕ) (rows : List Row) (x : Row) → last_in d (rows ++ x ∷ []) ≡ with_row d x (last_in d rows)
last_push d [] x = refl
last_push d (y ∷ rows) x = ap (with_row d y) (last_push d rows x) ∙ turned d x y (last_in d rows)

pub last_next : (d : ℕ) (rows : List Row) (i : ℕ) (x : Row) (n m : ℕ) → i < length rows → x ≡ get_or rows i x → n ≡ last_in d (take i rows) → m ≡ with_row d x n → m ≡ last_in d (take (i + 1) rows)
last_next d rows i x n m lt is at next = next ∙ ap (with_row d x) at ∙ sym (last_push d (take i rows) x) ∙ ap (last_in d) (sym ((take_at_read rows i x lt).1 ∙ ap (λ r. take i rows ++ r ∷ []) (sym is)))
