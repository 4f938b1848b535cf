-- Which ids stand in the trees of a chain.
use Rattle.std.proofs.Common.{◌≡◌, ◌≢◌, ◌⊎◌, ℕ, zero, suc, ◌≤◌, ◌<◌, ◌+◌, ◌-◌, ◌*◌, ◌^◌, cond, List, [], ◌∷◌, ◌++◌, slice_get, Option, Some, None, IsSome, inl, inr, refl, sym, ap, ◌∙◌, subst}
use Rattle.std.specs.Option.{option_map_or}
use Rattle.std.specs.FinMap.{insert, remove}
use Rattle.std.specs.FinMap as map
use Rattle.kb_name.specs.declared.ids.NodeId.{NodeId}
use Rattle.kb_name.specs.Nodes.{root}
use Rattle.kb_ops.specs.declared.values.Kind.{Kind}
use Rattle.kb_ops.specs.declared.values.Kind.TheVariants.{File}
use Rattle.kb_ops.specs.declared.rows.Row.{Row}
use Rattle.kb_ops.specs.declared.rows.Op.{Op}
use Rattle.kb_ops.specs.declared.rows.Change.{Change}
use Rattle.kb_ops.specs.declared.rows.Change.TheVariants.{Create, Remove, Rename, Sync, Exec, Touch}
use Rattle.kb_ops.specs.Trees.{Tree, look, start, root_row, edit, make_way, created, patched, apply_change, apply, new_id, fold_ops, Fits, FitAll}
use Rattle.kb_ops.proofs.Nodes.{node_cases, node_other}
use Rattle.kb_ops.proofs.Walks.{row_cases}
use Rattle.kb_ops.proofs.Looks.{look-insert, look-remove}
use Rattle.kb_ops.proofs.Lists.{look_of}
use Rattle.kb_ops.proofs.Changes.{kinds_stay}
use Rattle.kb_rules.specs.declared.stamp.Stamp.{Stamp}
use Rattle.kb_rules.specs.Merge.{copied, copy_id, three, conflicted, merge}
use Rattle.kb_rules.specs.Meet.{Meet}
use Rattle.kb_rules.proofs.Copies.{IsNaming, splits, ours, was, copied_is, can_name}
use Rattle.kb_rules.proofs.Formed.{result_was}
use Rattle.kb_rules.proofs.Joined.{standing_was}
use Rattle.kb_rules.proofs.Reaching.{seat_cases}
use Rattle.kb_rules.proofs.Lawful.{look-merge}
use Rattle.kb_snap.specs.Chains.{Chain, ops_of}
use Rattle.kb_snap.specs.Ids.{made_kind, IsMadeBy, IsGiven, AreGiven}
use Rattle.kb_snap.proofs.Chains.{ops_append}

-- ---- what an operation brings in

-- a row of the tree after a change is that of the new node, or one that was there
abbrev Old : Tree → NodeId → Type 0
Old t q = (was : Row) × (look t q ≡ Some was)

some_is : {A : Type 0} (x y : A) → Some x ≡ Some y → x ≡ y
some_is x y e = cc

there_is : {A : Type 0} (o : Option A) → IsSome o → (x : A) × (o ≡ Some x)
there_is (Some x) h = (x, refl)
there_is None h = cc

inserted : (t : Tree) (node : NodeId) (r x : Row) (q : NodeId) → look (insert t node r) q ≡ Some x → ((q ≡ node) × (r ≡ x)) ⊎ Old t q
inserted t node r x q h = elim (node_cases q node) [
  | inl e ↦ inl (e, some_is r x (sym (look-insert t node r).here ∙ ap (look (insert t node r)) (sym e) ∙ h))
  | inr ne ↦ inr (x, sym ((look-insert t node r).others q ne) ∙ h)
]

removed : (t : Tree) (node : NodeId) (x : Row) (q : NodeId) → look (remove t node) q ≡ Some x → Old t q
removed t node x q h = elim (node_cases q node) [
  | inl e ↦ (let none : look (remove t node) q ≡ None = ap (look (remove t node)) e ∙ (look-remove t node).here in let no : None ≡ Some x = sym none ∙ h in cc)
  | inr ne ↦ (x, sym ((look-remove t node).others q ne) ∙ h)
]

edited : (t : Tree) (node : NodeId) (f : Row → Row) (x : Row) (q : NodeId) → look (edit t node f) q ≡ Some x → Old t q
edited t node f x q h = elim (row_cases (look t) node) [
  | inl (r, found) ↦ (
      let is : edit t node f ≡ insert t node (f r) = ap (λ o. option_map_or (λ y. insert t node (f y)) o t) found in
      elim (inserted t node (f r) x q (ap (λ u. look u q) (sym is) ∙ h)) [ inl e ↦ (r, ap (look t) e.0 ∙ found) | inr some ↦ some ])
  | inr none ↦ (
      let is : edit t node f ≡ t = ap (λ o. option_map_or (λ y. insert t node (f y)) o t) none in
      (x, ap (λ u. look u q) (sym is) ∙ h))
]

way_made : (t : Tree) (gone : Option NodeId) (x : Row) (q : NodeId) → look (make_way t gone) q ≡ Some x → Old t q
way_made t None x q h = (x, h)
way_made t (Some node) x q h = removed t node x q h

applied : (id : NodeId) (moment : ℕ) (change : Change) (t : Tree) (x : Row) (q : NodeId) → look (apply_change id moment change t) q ≡ Some x → ((q ≡ id) × (made_kind change ≡ Some x.kind)) ⊎ Old t q
applied id moment (Create parent name kind bytes) t x q h = elim (inserted t id (created id moment parent name kind bytes) x q h) [ inl e ↦ inl (e.0, ap (λ (r : Row). Some r.kind) e.1) | inr old ↦ inr old ]
applied id moment (Remove node) t x q h = inr (removed t node x q h)
applied id moment (Rename node parent name gone) t x q h =
    let mid = edited (make_way t gone) node (λ r. record r { parent = parent; name = name }) x q h in
    inr (way_made t gone mid.0 q mid.1)
applied id moment (Sync node offset bytes size) t x q h = inr (edited t node (λ r. record r { bytes = patched r.bytes offset bytes size; mtime = moment }) x q h)
applied id moment (Exec node on) t x q h = inr (edited t node (λ r. record r { exec = on }) x q h)
applied id moment (Touch node mtime) t x q h = inr (edited t node (λ r. record r { mtime = mtime }) x q h)

-- where the row was there it has its kind still
pub applied_kind : (op : Op) (t : Tree) (x : Row) (q : NodeId) → Fits op t → look (apply op t) q ≡ Some x
    → ((q ≡ new_id op) × (made_kind op.change ≡ Some x.kind)) ⊎ ((o : Row) × (look t q ≡ Some o) × (x.kind ≡ o.kind))
applied_kind op t x q fits h = elim (applied (new_id op) op.moment op.change t x q h) [
  | inl new ↦ inl new
  | inr old ↦ inr (old.0, old.1, (kinds_stay op t q old.0 x fits old.1 h).1)
]

-- ---- chains

-- the operations of a chain stand in it at their seqs
abbrev pub AreIn : Chain → List Op → Type 0
AreIn c [] = Unit {0}
AreIn c (op ∷ ops) = ((1 ≤ op.seq) × (slice_get (ops_of op.device c) (op.seq - 1) ≡ Some op)) × AreIn c ops

get_longer : {A : Type 0} (xs ys : List A) (i : ℕ) (x : A) → slice_get xs i ≡ Some x → slice_get (xs ++ ys) i ≡ Some x
get_longer [] ys i x h = cc
get_longer (y ∷ xs) ys zero x h = h
get_longer (y ∷ xs) ys (suc i) x h = get_longer xs ys i x h

pub given_longer : (c more : Chain) (t : Tree) → AreGiven c t → AreGiven (c ++ more) t
given_longer c more t h q row found = elim (h q row found) [
  | inl is ↦ inl is
  | inr g ↦ inr (record {
    seq = g.seq;
    op = g.op;
    at = ap (λ l. slice_get l (q.seq - 1)) (ops_append q.device c more) ∙ get_longer (ops_of q.device c) (ops_of q.device more) (q.seq - 1) g.op g.at;
    made = g.made;
  })
]

pub given_start : (c : Chain) → AreGiven c start
given_start c q row h = elim (node_cases q root) [
  | inl at ↦ inl at
  | inr off ↦ (
      let none : look start q ≡ None = look_of (root_row ∷ []) refl q ∙ ap (λ b. cond b (Some root_row) None) (node_other root q (λ p. off (sym p))) in
      let no : None ≡ Some row = sym none ∙ h in cc)
]

given_op : (c : Chain) (op : Op) (t : Tree) → AreGiven c t → Fits op t → 1 ≤ op.seq → slice_get (ops_of op.device c) (op.seq - 1) ≡ Some op → AreGiven c (apply op t)
given_op c op t h fits seq at q row found = elim (applied_kind op t row q fits found) [
  | inl new ↦ inr (given new.0 new.1)
  | inr old ↦ elim (h q old.0 old.1) [
    | inl is ↦ inl is
    | inr g ↦ inr (record { seq = g.seq; op = g.op; at = g.at; made = subst (IsMadeBy g.op q.part) (sym old.2) g.made })
  ]
]
  where
    given : q ≡ new_id op → made_kind op.change ≡ Some row.kind → IsGiven c q row.kind
    given e k = subst (λ (n : NodeId). IsGiven c n row.kind) (sym e) (record { seq = seq; op = op; at = at; made = inl (refl, k) })

pub given_fold : (c : Chain) (ops : List Op) (t : Tree) → AreGiven c t → FitAll ops t → AreIn c ops → AreGiven c (fold_ops ops t)
given_fold c [] t h fits are = h
given_fold c (op ∷ ops) t h fits are = given_fold c ops (apply op t) (given_op c op t h fits.0 are.0.0 are.0.1) fits.1 are.1

-- ---- merges

module _ (c : Chain) (b m u : Tree) (stamp : Stamp) (meet : Meet b m u stamp) (naming : IsNaming (conflicted stamp)) (few : 4 * (map.len m + map.len u) < 2 ^ 63) where
  -- the ids of a merge are those of its trees and of copies
  pub given_merge : AreGiven c m → AreGiven c u → (op : Op) → 1 ≤ stamp.last → slice_get (ops_of stamp.device c) (stamp.last - 1) ≡ Some op → AreGiven c (merge b m u stamp)
  given_merge in_m in_u op some at q row h =
      let t = three b m u stamp in
      let ready = can_name b m u stamp meet naming few in
      let w = result_was (map.len m) (map.len u) t ready q row (sym (look-merge b m u stamp meet naming few q) ∙ h) in
      let s = standing_was t q w.0 w.1 in
      let kind : row.kind ≡ s.0.kind = ap (λ (z : Row). z.kind) w.3 ∙ w.4.kind ∙ ap (λ (z : Row). z.kind) s.2 in
      elim (seat_cases t q s.0 s.1) [
        | inl a ↦ of_ours q row s.0 kind a.1
        | inr a ↦ by_kind q row.kind s.0.kind kind (in_m q s.0 a.1)
      ]
    where
      by_kind : (q : NodeId) (a b : Kind) → a ≡ b → (q ≡ root) ⊎ IsGiven c q b → (q ≡ root) ⊎ IsGiven c q a
      by_kind q a b e h = subst (λ k. (q ≡ root) ⊎ IsGiven c q k) (sym e) h

      copy : (q : NodeId) (k : Kind) → q ≡ copy_id stamp q.part → q.part ≢ 0 → k ≡ File → IsGiven c q k
      copy q k e part file =
          let device : stamp.device ≡ q.device = ap (λ (n : NodeId). n.device) (sym e) in
          let seq : stamp.last ≡ q.seq = ap (λ (n : NodeId). n.seq) (sym e) in
          record {
            seq = subst (λ n. 1 ≤ n) seq some;
            op = op;
            at = (λ i. slice_get (ops_of (sym device i) c) (sym seq i - 1)) ∙ at;
            made = inr (part, file);
          }

      of_ours : (q : NodeId) (row s : Row) → row.kind ≡ s.kind → ours b m u stamp meet q ≡ Some s → (q ≡ root) ⊎ IsGiven c q row.kind
      of_ours q row s kind found =
          let o = was b m u stamp meet q s found in
          let same : row.kind ≡ o.row.kind = kind ∙ ap (λ (z : Row). z.kind) o.is in
          elim o.which [
            | inl copied ↦ (
                let is = copied_is stamp (splits b m u stamp meet) (look u) q o.id copied.0 in
                inr (copy q row.kind is.0 is.1 (same ∙ copied.1)))
            | inr plain ↦ by_kind q row.kind o.row.kind same (subst (λ n. (n ≡ root) ⊎ IsGiven c n o.row.kind) plain.2 (in_u o.id o.row o.found))
          ]
