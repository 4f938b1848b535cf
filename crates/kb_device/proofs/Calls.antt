-- A planned operation fits the tree that is seen, since the chain and the queue gave no id of its seq.
use Rattle.std.proofs.Common.{◌≡◌, ◌⊎◌, ℕ, ◌+◌, ◌-◌, ◌≤◌, ◌<◌, [], ◌∷◌, length, Some, None, Ok, inl, inr, ap, ◌∙◌, arith}
use Rattle.kb_name.specs.declared.ids.NodeId.{NodeId}
use Rattle.kb_ops.specs.declared.rows.Row.{Row}
use Rattle.kb_ops.specs.declared.rows.Op.{Op}
use Rattle.kb_ops.specs.declared.requests.Request.{Request}
use Rattle.kb_ops.specs.declared.requests.Planned.TheVariants as planned
use Rattle.kb_ops.specs.Trees.{look, fold_ops, Fits, IsWellFormed}
use Rattle.kb_ops.specs.Plan.{plan_of}
use Rattle.kb_ops.proofs.Walks.{row_cases}
use Rattle.kb_ops.proofs.TreeKept.{fold_kept}
use Rattle.kb_ops.proofs.Changes.{planned_fits}
use Rattle.kb_ops.specs.Grammar.{IsProper}
use Rattle.kb_ops.proofs.Proper.{planned_proper}
use Rattle.kb_snap.specs.Chains.{Chain, ops_of, tree_at}
use Rattle.kb_device.specs.Journals.{Journal, last_seq}
use Rattle.kb_snap.specs.Lawful.{IsLawful}
use Rattle.kb_device.specs.Meets.{Meets}
use Rattle.kb_snap.proofs.Lawful.{fine_trees}
use Rattle.kb_device.proofs.Owned.{landed_length}
use Rattle.kb_snap.proofs.MadeIds.{fold_kind, given_low, made_new}

module _ (d : ℕ) (c : Chain) (j : Journal) (lawful : IsLawful c) (h : Meets d c j) where
  -- the tree that is seen is well formed
  pub seen_formed : IsWellFormed (fold_ops j.queue (tree_at c j.known))
  seen_formed = fold_kept j.queue (tree_at c j.known) (fine_trees c lawful j.known h.within).formed h.fit

  -- the next id is new in it
  next_new : look (fold_ops j.queue (tree_at c j.known)) (record { device = d; seq = last_seq j + 1; part = 0 }) ≡ None
  next_new = elim (row_cases (look (fold_ops j.queue (tree_at c j.known))) (record { device = d; seq = last_seq j + 1; part = 0 })) [
    | inr none ↦ none
    | inl there ↦ absurd (clash there.0 there.1)
  ]
    where
      clash : (row : Row) → look (fold_ops j.queue (tree_at c j.known)) (record { device = d; seq = last_seq j + 1; part = 0 }) ≡ Some row → ⊥
      clash row found =
          let q : NodeId = record { device = d; seq = last_seq j + 1; part = 0 } in
          elim (fold_kind j.queue (tree_at c j.known) q row h.fit found) [
            | inl made ↦ (let to = (made_new d (j.base + 1) j.queue q row.kind h.counts h.own made).to in omega arith)
            | inr was ↦ elim ((fine_trees c lawful j.known h.within).given q was.row was.found) [
              | inl is ↦ (let zero_is : last_seq j + 1 ≡ 0 = ap (λ (k : NodeId). k.seq) is in omega arith)
              | inr g ↦ (let low : last_seq j + 1 ≤ length (ops_of d c) = given_low c q was.row.kind g in let most = landed_length d c j h in omega arith)
            ]
          ]

  -- what a request comes to
  pub call_fits : 1 ≤ d → (request : Request) (moment : ℕ) (op : Op) → plan_of (fold_ops j.queue (tree_at c j.known)) request d (last_seq j + 1) moment ≡ Ok (planned.Made op)
      → Fits op (fold_ops j.queue (tree_at c j.known)) × (op.device ≡ d) × (op.seq ≡ last_seq j + 1) × IsProper op
  call_fits numbered request moment op plan =
      let p = planned_fits (fold_ops j.queue (tree_at c j.known)) request d (last_seq j + 1) moment op seen_formed next_new plan in
      (p.0, p.1, p.2, planned_proper (fold_ops j.queue (tree_at c j.known)) request d (last_seq j + 1) moment op seen_formed next_new numbered (omega arith) plan)
