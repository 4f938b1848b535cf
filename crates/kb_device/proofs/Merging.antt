-- The trees of a branch can be merged: that of the known revision, that of a later one, and the one that is seen.
use Rattle.std.proofs.Common.{◌≡◌, ◌≢◌, ◌⊎◌, ℕ, ◌+◌, ◌-◌, ◌≤◌, ◌<◌, [], ◌∷◌, ◌++◌, length, drop, take, Some, None, inl, inr, sym, ap, ◌∙◌, subst, arith}
use Rattle.kb_name.specs.declared.ids.NodeId.{NodeId}
use Rattle.kb_ops.specs.declared.values.Kind.{Kind}
use Rattle.kb_ops.specs.declared.rows.Row.{Row}
use Rattle.kb_ops.specs.Trees.{Tree, look, fold_ops}
use Rattle.kb_ops.proofs.Walks.{row_cases}
use Rattle.kb_rules.specs.declared.stamp.Stamp.{Stamp}
use Rattle.kb_rules.specs.Merge.{copy_id}
use Rattle.kb_rules.specs.Meet.{Meet, HaveOneKind}
use Rattle.kb_snap.specs.Chains.{Chain, ops_of, tree_at}
use Rattle.kb_device.specs.Journals.{Journal, last_seq}
use Rattle.kb_snap.specs.Lawful.{IsLawful}
use Rattle.kb_snap.specs.Ids.{IsGiven}
use Rattle.kb_device.specs.Meets.{NoneOf, Meets}
use Rattle.kb_snap.proofs.Lists.{append_none, cut}
use Rattle.kb_snap.proofs.Chains.{ops_append}
use Rattle.kb_snap.proofs.Lawful.{IsFine, fine_trees}
use Rattle.kb_snap.proofs.MadeIds.{WasThere, fold_kind, IsNew, made_new, given_low, fine_kinds, is_there, there_is}
use Rattle.kb_device.proofs.Calls.{seen_formed}

module _ (d : ℕ) (c : Chain) (j : Journal) (lawful : IsLawful c) (h : Meets d c j) (none : NoneOf d (drop j.known c)) (some : 0 < length j.queue) (r : ℕ) (within : r ≤ length c)
    (stamp : Stamp) (device : stamp.device ≡ d) (last : stamp.last ≡ last_seq j) where
  abbrev B : Tree
  B = tree_at c j.known

  abbrev M : Tree
  M = tree_at c r

  abbrev U : Tree
  U = fold_ops j.queue B

  fb : IsFine c B
  fb = fine_trees c lawful j.known h.within

  fm : IsFine c M
  fm = fine_trees c lawful r within

  -- all operations of the device in the chain come before its queue
  all_before : length (ops_of d c) ≡ j.base
  all_before =
      ap (λ l. length (ops_of d l)) (cut j.known c) ∙ ap length (ops_append d (take j.known c) (drop j.known c) ∙ ap (λ l. ops_of d (take j.known c) ++ l) none ∙ append_none (ops_of d (take j.known c)))
      ∙ sym h.base

  -- no id that the chain gave is one of the queue's
  low : (q : NodeId) (kind : Kind) → q.device ≡ d → IsGiven c q kind → q.seq ≤ j.base
  low q kind is g = subst (λ n. q.seq ≤ n) (ap (λ k. length (ops_of k c)) is ∙ all_before) (given_low c q kind g)

  not_new : (t : Tree) → IsFine c t → (q : NodeId) (row : Row) → look t q ≡ Some row → IsNew d (j.base + 1) (length j.queue) q → ⊥
  not_new t f q row found new = elim (f.given q row found) [
    | inl is ↦ (let zero_is : q.seq ≡ 0 = ap (λ (k : NodeId). k.seq) is in let from = new.from in omega arith)
    | inr g ↦ (let le = low q row.kind new.device g in let from = new.from in omega arith)
  ]

  -- a row that is seen is that of a new node, or of one of the known revision
  seen : (q : NodeId) (row : Row) → look U q ≡ Some row → IsNew d (j.base + 1) (length j.queue) q ⊎ WasThere B q row.kind
  seen q row found = elim (fold_kind j.queue B q row h.fit found) [ inl made ↦ inl (made_new d (j.base + 1) j.queue q row.kind h.counts h.own made) | inr was ↦ inr was ]

  seen_kinds : (t : Tree) → IsFine c t → HaveOneKind (look t) (look U)
  seen_kinds t f q x y hx hy = elim (seen q y hy) [
    | inl new ↦ absurd (not_new t f q x hx new)
    | inr was ↦ fine_kinds c t B f fb q x was.row hx was.found ∙ sym was.kind_is
  ]

  copy_new : (k : ℕ) → k ≢ 0 → (t : Tree) → IsFine c t → look t (copy_id stamp k) ≡ None
  copy_new k positive t f = elim (row_cases (look t) (copy_id stamp k)) [
    | inr gone ↦ gone
    | inl there ↦ absurd (elim (f.given (copy_id stamp k) there.0 there.1) [
      | inl is ↦ (let zero_is : stamp.last ≡ 0 = ap (λ (n : NodeId). n.seq) is in omega arith)
      | inr g ↦ (let le : stamp.last ≤ j.base = low (copy_id stamp k) there.0.kind device g in omega arith)
    ])
  ]

  copy_unseen : (k : ℕ) → k ≢ 0 → look U (copy_id stamp k) ≡ None
  copy_unseen k positive = elim (row_cases (look U) (copy_id stamp k)) [
    | inr gone ↦ gone
    | inl there ↦ absurd (elim (seen (copy_id stamp k) there.0 there.1) [
      | inl new ↦ positive new.part
      | inr was ↦ (let gone : look B (copy_id stamp k) ≡ None = copy_new k positive B fb in let found = was.found in let no : None ≡ Some was.row = sym gone ∙ found in cc)
    ])
  ]

  pub branch_meets : Meet B M U stamp
  branch_meets = record {
    base = fb.formed;
    merged = fm.formed;
    ours = seen_formed d c j lawful h;
    merged_kinds = fine_kinds c B M fb fm;
    our_kinds = seen_kinds B fb;
    both_kinds = seen_kinds M fm;
    common = λ q in_m in_u.
        let m = there_is (look M q) in_m in
        let u = there_is (look U q) in_u in
        elim (seen q u.0 u.1) [ inl new ↦ absurd (not_new M fm q m.0 m.1 new) | inr was ↦ is_there (look B q) was.row was.found ];
    no_base_copies = λ k positive. copy_new k positive B fb;
    no_merged_copies = λ k positive. copy_new k positive M fm;
    no_our_copies = copy_unseen;
  }
