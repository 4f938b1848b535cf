use Rattle.std.proofs.Common.{◌≡◌, ℕ, ◌+◌, ◌≤◌, List, ◌++◌, vec_len, All}
use Rattle.kb_turn.specs.declared.pass.Pass.{Pass}
use Rattle.kb_turn.specs.Views.{weight}
use Rattle.kb_turn.specs.Steps.{Leads}
use Rattle.kb_turn.specs.Passes.{total_of, view, IsPassOf}
use Rattle.kb_turn.proofs.turn.Turn.gather.Given as goal

abbrev pub invariant-loop-other : goal.invariant-loop-other
invariant-loop-other g l = record {
  pass : IsPassOf l.self l.pass;
  rest : All (IsPassOf l.self) l.passes.items;
  first : Leads g.T.Told.number_of (view l.initial.pass) (view l.pass);
  done : (ps : List (Pass g.row.T.Denot g.row.T-Entry.Denot g.T.Told)) × (l.initial.passes.items ≡ l.passes.items ++ ps) × All (λ p. Leads g.T.Told.number_of (view p) (view l.pass)) ps;
  share : (e : ℕ) → All (λ p. (view p).halvings ≤ e) l.initial.passes.items → (view l.initial.pass).halvings ≤ e → ((view l.pass).halvings ≤ e) × (weight e (view l.pass) + total_of e l.passes.items ≡ weight e (view l.initial.pass) + total_of e l.initial.passes.items);
}

abbrev pub decreases-loop-other : goal.decreases-loop-other
decreases-loop-other g l = vec_len l.passes
