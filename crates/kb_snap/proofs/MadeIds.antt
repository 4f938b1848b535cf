-- The ids that operations make, and what kind their nodes have.
use Rattle.std.proofs.Common.{◌≡◌, ◌⊎◌, ℕ, ◌+◌, ◌-◌, ◌≤◌, ◌<◌, List, [], ◌∷◌, length, Some, inl, inr, refl, sym, ap, ◌∙◌, arith, ◌≢◌, ◌++◌, slice_get, Option, None, IsSome, subst}
use Rattle.std.proofs.lemmas.Option.{slice_get_within}
use Rattle.kb_name.specs.declared.ids.NodeId.{NodeId}
use Rattle.kb_ops.specs.declared.values.Kind.{Kind}
use Rattle.kb_ops.specs.declared.rows.Row.{Row}
use Rattle.kb_ops.specs.declared.rows.Op.{Op}
use Rattle.kb_ops.specs.Trees.{Tree, look, apply, new_id, fold_ops, FitAll}
use Rattle.kb_snap.specs.Chains.{Chain, ops_of, seq_of_last}
use Rattle.kb_snap.specs.Lawful.{AreOf, CountsFrom}
use Rattle.kb_snap.specs.Ids.{made_kind, IsGiven, IsMadeBy}
use Rattle.kb_snap.proofs.Ids.{applied_kind}
use Rattle.kb_name.specs.Nodes.{root}
use Rattle.kb_ops.proofs.Kept.{some_and}
use Rattle.kb_rules.specs.Meet.{HaveOneKind}
use Rattle.kb_snap.proofs.Lawful.{IsFine}

-- one of the operations made the node
abbrev pub IsMadeIn : List Op → NodeId → Kind → Type 0
IsMadeIn [] q kind = ⊥
IsMadeIn (op ∷ ops) q kind = ((q ≡ new_id op) × (made_kind op.change ≡ Some kind)) ⊎ IsMadeIn ops q kind

pub record WasThere (t : Tree) (q : NodeId) (kind : Kind) : Type 0 where
  pub row : Row
  pub found : look t q ≡ Some row
  pub kind_is : kind ≡ row.kind

-- a row after operations is of a node that one of them made, or was there with its kind
pub fold_kind : (ops : List Op) (t : Tree) (q : NodeId) (row : Row) → FitAll ops t → look (fold_ops ops t) q ≡ Some row → IsMadeIn ops q row.kind ⊎ WasThere t q row.kind
fold_kind [] t q row fits found = inr (record { row = row; found = found; kind_is = refl })
fold_kind (op ∷ ops) t q row fits found = elim (fold_kind ops (apply op t) q row fits.1 found) [
  | inl made ↦ inl (inr made)
  | inr was ↦ elim (applied_kind op t was.row q fits.0 was.found) [
    | inl new ↦ inl (inl (new.0, new.1 ∙ ap Some (sym was.kind_is)))
    | inr old ↦ inr (record { row = old.0; found = old.1; kind_is = was.kind_is ∙ old.2 })
  ]
]

-- the ids that operations of a device with seqs from this one on make
pub record IsNew (d n count : ℕ) (q : NodeId) : Type 0 where
  pub device : q.device ≡ d
  pub from : n ≤ q.seq
  pub to : q.seq < n + count
  pub part : q.part ≡ 0

pub made_new : (d n : ℕ) (ops : List Op) (q : NodeId) (kind : Kind) → CountsFrom n ops → AreOf d ops → IsMadeIn ops q kind → IsNew d n (length ops) q
made_new d n [] q kind counts own made = absurd made
made_new d n (op ∷ ops) q kind counts own (inl made) =
    let seq : q.seq ≡ op.seq = ap (λ (k : NodeId). k.seq) made.0 in
    let s = counts.0 in
    record {
      device = ap (λ (k : NodeId). k.device) made.0 ∙ own.0;
      from = omega arith;
      to = omega arith;
      part = ap (λ (k : NodeId). k.part) made.0;
    }
made_new d n (op ∷ ops) q kind counts own (inr made) =
    let new = made_new d (n + 1) ops q kind counts.1 own.1 made in
    let a = new.from in
    let b = new.to in
    record { device = new.device; from = omega arith; to = omega arith; part = new.part }

-- an id that the chain gave has the seq of one of its operations
pub given_low : (c : Chain) (q : NodeId) (kind : Kind) → IsGiven c q kind → q.seq ≤ length (ops_of q.device c)
given_low c q kind g = (let lt : q.seq - 1 < length (ops_of q.device c) = slice_get_within (ops_of q.device c) (q.seq - 1) g.op g.at in let s = g.seq in omega arith)

-- the last operation of a queue has its last seq
pub last_counts : (n : ℕ) (ops : List Op) → 0 < length ops → CountsFrom n ops → seq_of_last ops + 1 ≡ n + length ops
last_counts n [] some counts = absurd (omega arith)
last_counts n (op ∷ ops) some counts = last n op ops counts where
  last : (n : ℕ) (op : Op) (ops : List Op) → CountsFrom n (op ∷ ops) → seq_of_last (op ∷ ops) + 1 ≡ n + length (op ∷ ops)
  last n op [] counts = (let s = counts.0 in omega arith)
  last n op (o ∷ ops) counts = (let e = last (n + 1) o ops counts.1 in omega arith)

some_same : {A : Type 0} (x y : A) (o : Option A) → o ≡ Some x → o ≡ Some y → x ≡ y
some_same x y o a b = cc

-- the operation and the part fix the kind
one_kind : (op : Op) (part : ℕ) (a b : Kind) → IsMadeBy op part a → IsMadeBy op part b → a ≡ b
one_kind op part a b (inl x) (inl y) = some_same a b (made_kind op.change) x.1 y.1
one_kind op part a b (inl x) (inr y) = absurd (y.0 x.0)
one_kind op part a b (inr x) (inl y) = absurd (x.0 y.0)
one_kind op part a b (inr x) (inr y) = x.1 ∙ sym y.1

given_kind : (c : Chain) (q : NodeId) (a b : Kind) → IsGiven c q a → IsGiven c q b → a ≡ b
given_kind c q a b x y =
    let same : x.op ≡ y.op = some_same x.op y.op (slice_get (ops_of q.device c) (q.seq - 1)) x.at y.at in
    one_kind y.op q.part a b (subst (λ op. IsMadeBy op q.part a) same x.made) y.made

-- two trees of a chain agree on kinds
pub fine_kinds : (c : Chain) (t u : Tree) → IsFine c t → IsFine c u → HaveOneKind (look t) (look u)
fine_kinds c t u ft fu q r s hr hs = elim (ft.given q r hr) [
  | inl is ↦ at_root is
  | inr x ↦ elim (fu.given q s hs) [ inl is ↦ at_root is | inr y ↦ given_kind c q r.kind s.kind x y ]
]
  where
    at_root : q ≡ root → r.kind ≡ s.kind
    at_root is =
        let a = some_and _ (look t root) ft.formed.rooted in
        let b = some_and _ (look u root) fu.formed.rooted in
        let ra : a.0 ≡ r = some_same a.0 r (look t root) a.1 (ap (look t) (sym is) ∙ hr) in
        let sb : b.0 ≡ s = some_same b.0 s (look u root) b.1 (ap (look u) (sym is) ∙ hs) in
        ap (λ (x : Row). x.kind) (sym ra) ∙ a.2.0 ∙ sym b.2.0 ∙ ap (λ (x : Row). x.kind) sb

pub there_is : {A : Type 0} (o : Option A) → IsSome o → (x : A) × (o ≡ Some x)
there_is (Some x) h = (x, refl)
there_is None h = cc

pub is_there : {A : Type 0} (o : Option A) (x : A) → o ≡ Some x → IsSome o
is_there o x e = subst IsSome (sym e) refl
