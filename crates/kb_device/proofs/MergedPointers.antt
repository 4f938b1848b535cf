-- The pointers that a merge leaves hold their rows of the merged tree.
use Rattle.std.proofs.Common.{◌≡◌, ◌⊎◌, ℕ, ◌+◌, ◌<◌, Bool, true, false, cond, List, [], ◌∷◌, ◌++◌, length, take, Some, None, IsSome, is_some, Result, Ok, Err, OnOk, inl, inr, refl, sym, ap, subst, ◌∙◌}
use mathlib.Core.Bool.{beq}
use borrow.Author.Tests.{eqb-true}
use Rattle.std.specs.Str.{bytes_eq}
use Rattle.std.specs.List.{AllByRecursion}
use Rattle.std.specs.FinMap.{get, insert, len, get-insert}
use Rattle.std.specs.Prelude.{slice_index_or as get_or}
use Rattle.std.proofs.lemmas.Grind.{take_at_read}
use Rattle.kb_name.specs.declared.ids.NodeId.{NodeId}
use Rattle.kb_name.specs.Nodes.{same_node}
use Rattle.kb_ops.specs.declared.values.Kind.{Kind}
use Rattle.kb_ops.specs.declared.rows.Row.{Row}
use Rattle.kb_ops.specs.Codes.{kind_number, kind_numbered, kind_again}
use Rattle.kb_ops.specs.Lists.{tree_of, rises}
use Rattle.kb_ops.specs.Plan.{is_below}
use Rattle.kb_ops.specs.Trees.{Tree, look}
use Rattle.kb_ops.proofs.Lists.{row_of, look_of}
use Rattle.kb_ops.proofs.Looks.{nodes_total, tested, map_most}
use Rattle.kb_ops.proofs.Nodes.{node_cases, node_is, node_self, node_other}
use Rattle.kb_ops.proofs.Walks.{row_cases, never_meets}
use Rattle.kb_rules.specs.Three.{same_kind, same_place, same_row}
use Rattle.kb_rules.proofs.Basics.{bytes_same, first_of_both, second_of_both}
use Rattle.kb_blocks.specs.declared.pointer.Ptr.{Ptr}
use Rattle.kb_files.specs.Files.{Vault}
use Rattle.kb_snap.specs.Laws.{IsUnder, IsClear, StaysUnder}
use Rattle.kb_snap.specs.Pointers.{Kept, AllHold}
use Rattle.kb_snap.proofs.Found.{stay_held}
use Rattle.kb_device.specs.Left.{AreOf, StaysBeside, IsStillThere, LeavesSame}

-- ---- rows that are alike are one

kind_is : (a b : Kind) → same_kind a b ≡ true → a ≡ b
kind_is a b h = sym (kind_again a) ∙ ap kind_numbered (eqb-true (kind_number a) (kind_number b) h) ∙ kind_again b

flag_is : (a b : Bool) → beq a b ≡ true → a ≡ b
flag_is true true h = refl
flag_is true false h = cc
flag_is false true h = cc
flag_is false false h = refl

pub row_is : (r s : Row) → same_row r s ≡ true → r ≡ s
row_is r s h =
    let id = node_is r.id s.id (first_of_both _ _ h) in
    let rest = second_of_both (same_node r.id s.id) _ h in
    let place = first_of_both (same_place r s) _ rest in
    let parent = node_is r.parent s.parent (first_of_both _ _ place) in
    let name = bytes_same r.name s.name (second_of_both (same_node r.parent s.parent) _ place) in
    let content = second_of_both (same_place r s) _ rest in
    let kind = kind_is r.kind s.kind (first_of_both _ _ content) in
    let more = second_of_both (same_kind r.kind s.kind) _ content in
    let bytes = bytes_same r.bytes s.bytes (first_of_both _ _ more) in
    let last = second_of_both (bytes_eq r.bytes s.bytes) _ more in
    let exec = flag_is r.exec s.exec (first_of_both _ _ last) in
    let mtime = eqb-true r.mtime s.mtime (second_of_both (beq r.exec s.exec) _ last) in
    λ i. record { id = id i; parent = parent i; name = name i; kind = kind i; bytes = bytes i; exec = exec i; mtime = mtime i }

-- ---- facts of all rows of a list

pub all_next : {A : Type 0} (P : A → Type 0) (xs : List A) (x : A) → AllByRecursion P xs → P x → AllByRecursion P (xs ++ x ∷ [])
all_next P [] x all h = (h, tt)
all_next P (y ∷ xs) x all h = (all.0, all_next P xs x all.1 h)

pub all_taken : {A : Type 0} (P : A → Type 0) (xs : List A) (i : ℕ) (x : A) → i < length xs → x ≡ get_or xs i x → AllByRecursion P (take i xs) → P x → AllByRecursion P (take (i + 1) xs)
all_taken P xs i x lt is all h = subst (AllByRecursion P) (sym ((take_at_read xs i x lt).1 ∙ ap (λ y. take i xs ++ y ∷ []) (sym is))) (all_next P (take i xs) x all h)

row_found : (P : Row → Type 0) (rows : List Row) → AllByRecursion P rows → (k : NodeId) (r : Row) → row_of rows k ≡ Some r → (r.id ≡ k) × P r
row_found P [] all k r h = cc
row_found P (x ∷ rows) all k r h = elim (node_cases x.id k) [
  | inl e ↦ (
      let here : row_of (x ∷ rows) k ≡ Some x = ap (λ b. cond b (Some x) (row_of rows k)) (ap (λ i. same_node i k) e ∙ node_self k) in
      let same : x ≡ r = (let is : Some x ≡ Some r = sym here ∙ h in cc) in
      (ap (λ (y : Row). y.id) (sym same) ∙ e, subst P same all.0))
  | inr other ↦ row_found P rows all.1 k r (sym (ap (λ b. cond b (Some x) (row_of rows k)) (node_other x.id k other)) ∙ h)
]

-- a fact of all rows of a tree
pub of_tree : (P : Row → Type 0) (rows : List Row) (t : Tree) → rises rows ≡ true → tree_of rows ≡ t → AllByRecursion P rows → (k : NodeId) (r : Row) → look t k ≡ Some r → (r.id ≡ k) × P r
of_tree P rows t rise is all k r h = row_found P rows all k r (sym (look_of rows rise k) ∙ ap (λ u. look u k) is ∙ h)

-- ---- rows that both trees have, and others

off : (t : Tree) (q k : NodeId) → is_below t q k ≡ false → IsUnder (look t) q k → ⊥
off t q k e u = (let no : true ≡ false = sym u.1 ∙ never_meets (len t) (look t) (map_most (len t) t refl) q k e u.0 in cc)

module _ (old new : Tree) (q : NodeId) (changed : (k : NodeId) (r : Row) → look new k ≡ Some r → (r.id ≡ k) × StaysBeside old q r) (gone : (k : NodeId) (r : Row) → look old k ≡ Some r → (r.id ≡ k) × IsStillThere old new q r) where
  of_new : (k : NodeId) (r : Row) → look new k ≡ Some r → r.id ≡ k → StaysBeside old q r → (look new k ≡ look old k) ⊎ IsClear (look old) (look new) q k
  of_new k r is here (inl same) = inl (is ∙ sym (subst (λ i. look old i ≡ Some r) here same))
  of_new k r is here (inr (before, after)) = inr (record {
    before = off old q k (subst (λ i. is_below old q i ≡ false) here before);
    after = λ s at under. off old q r.parent after (subst (λ (x : Row). IsUnder (look old) q x.parent) (let e : Some s ≡ Some r = sym at ∙ is in let same : s ≡ r = cc in same) under);
  })

  of_old : (k : NodeId) (r : Row) → look new k ≡ None → r.id ≡ k → IsStillThere old new q r → IsClear (look old) (look new) q k
  of_old k r none here (inl some) = absurd (let no : IsSome (look new k) = subst (λ i. IsSome (look new i)) here some in let bad : is_some (look new k) ≡ false = ap is_some none in let both : true ≡ false = sym no ∙ bad in cc)
  of_old k r none here (inr before) = record {
    before = off old q k (subst (λ i. is_below old q i ≡ false) here before);
    after = λ s at under. (let no : None ≡ Some s = sym none ∙ at in cc);
  }

  pub each_row : (k : NodeId) → (look new k ≡ look old k) ⊎ IsClear (look old) (look new) q k
  each_row k = elim (row_cases (look new) k) [
    | inl (r, is) ↦ of_new k r is (changed k r is).0 (changed k r is).1
    | inr none ↦ elim (row_cases (look old) k) [
      | inl (r, is) ↦ inr (of_old k r none (gone k r is).0 (gone k r is).1)
      | inr nowhere ↦ inl (none ∙ sym nowhere)
    ]
  ]

-- ---- what is left holds

stays_under : (old new : Tree) (q : NodeId) → ((k : NodeId) → (look new k ≡ look old k) ⊎ IsClear (look old) (look new) q k) → StaysUnder (look old) (look new) q
stays_under old new q each = record {
  rows = λ k under. elim (each k) [ inl same ↦ same | inr clear ↦ absurd (clear.before under) ];
  no_more = λ k r is there under. elim (each k) [ inl same ↦ sym same ∙ is | inr clear ↦ absurd (clear.after r is under) ];
}

pub left_hold : (vault : Vault) (old new : Tree) (kept left : Kept) → LeavesSame old new kept left → AllHold vault (look old) kept → AllHold vault (look new) left
left_hold vault old new kept left leaves all q p is =
    let l = leaves q p is in
    stay_held vault (look old) (look new) q p (stays_under old new q l.1) (all q p l.0)

-- ---- pointers that are kept once more

pub set_kept : (left kept : Kept) (id : NodeId) (ptr : Ptr) → AreOf left kept → get kept id ≡ Some ptr → AreOf (insert left id ptr) kept
set_kept left kept id ptr all at q p is = elim (node_cases q id) [
  | inl e ↦ (
      let here : get (insert left id ptr) q ≡ Some ptr = get-insert nodes_total left id ptr q ∙ ap (λ b. cond b (Some ptr) (get left q)) (tested q id ∙ ap (λ k. same_node k id) e ∙ node_self id) in
      ap (get kept) e ∙ at ∙ sym here ∙ is)
  | inr other ↦ all q p (sym (get-insert nodes_total left id ptr q ∙ ap (λ b. cond b (Some ptr) (get left q)) (tested q id ∙ node_other q id other)) ∙ is)
]

pub set_done : {A E : Type 0} (r : Result A E) (left new kept : Kept) (id : NodeId) (ptr : Ptr) → get kept id ≡ Some ptr → OnOk r (new ≡ insert left id ptr) → OnOk r (AreOf left kept → AreOf new kept)
set_done (Ok a) left new kept id ptr at is = λ all. subst (λ m. AreOf m kept) (sym is) (set_kept left kept id ptr all at)
set_done (Err e) left new kept id ptr at is = tt
