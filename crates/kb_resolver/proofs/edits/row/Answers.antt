use Rattle.std.proofs.Common.{◌≡◌, ℕ, true, cond, List, Option, Some, None, slice_get, sym, ap, ◌∙◌}
use Rattle.std.specs.Option.{option_and_then}
use Rattle.kb_name.specs.declared.ids.NodeId.{NodeId}
use Rattle.kb_ops.specs.declared.rows.Row.{Row}
use Rattle.kb_ops.specs.Lists.{rises, place_of}
use Rattle.kb_ops.proofs.Lists.{row_of, row_is, if_at}
use Rattle.kb_resolver.proofs.edits.row.Goals as goal

at_place : (k : NodeId) (rows : List Row) (i : ℕ) (r : Option Row) → rises rows ≡ true → i ≡ place_of k rows → r ≡ slice_get rows i → option_and_then (if_at k) r ≡ row_of rows k
at_place k rows i r up place got = ap (option_and_then (if_at k)) (got ∙ ap (slice_get rows) place) ∙ sym (row_is k rows up)

pub returns-then-eq : goal.returns-then-eq
returns-then-eq c =
    sym (ap (λ b. cond b (Some c.in-Some.row.now) None) (sym c.eq.ensures ∙ c.if-eq.true))
    ∙ at_place c.args.id c.args.rows.now _ (Some c.in-Some.row.now) c.requires c.rows_before.ensures c.in-Some.ensures

pub returns-else-eq : goal.returns-else-eq
returns-else-eq c =
    sym (ap (λ b. cond b (Some c.in-Some.row.now) None) (sym c.eq.ensures ∙ c.if-eq.false))
    ∙ at_place c.args.id c.args.rows.now _ (Some c.in-Some.row.now) c.requires c.rows_before.ensures c.in-Some.ensures

pub returns-in-None : goal.returns-in-None
returns-in-None c = at_place c.args.id c.args.rows.now _ None c.requires c.rows_before.ensures c.in-None.ensures
