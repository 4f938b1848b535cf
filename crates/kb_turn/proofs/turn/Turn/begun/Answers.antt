use Rattle.std.proofs.Common.{ℕ, ◌+◌, ◌≡◌, sym, ap, ◌∙◌, subst, List, Option, [], ◌∷◌, length}
use Rattle.atomic_table.specs.Table.{opening}
use Rattle.kb_turn.specs.Views.{maker, newcomer}
use Rattle.kb_turn.specs.Rule.{Whole}
use Rattle.kb_turn.proofs.Whole.{opens}
use Rattle.kb_turn.proofs.turn.Turn.begun.Goals as goal

pub new-requires : goal.new-requires
new-requires g c = let told = g.T.Told.told in let n = g.T.Told.number_of in let first = told c.args.value in
    let F : List (Option g.row.T.Denot) → Type 0 = λ xs. Whole told n c.args.callers (opening (length first ∷ 0 ∷ []) xs (maker first c.args.callers)) in
    let G : g.row.T.Denot → Type 0 = λ x. Whole told n c.args.callers (opening (c.args.entries ∷ 0 ∷ []) c.in-Ok-alone.slots.items (maker (told x) c.args.callers)) in
    let H : ℕ → Type 0 = λ k. Whole told n c.args.callers (opening (k ∷ 0 ∷ []) c.in-Ok-alone.slots.items (maker first c.args.callers)) in
    subst G (sym c.of.ensures) (subst H c.requires.entries (subst F (sym c.in-Ok-alone.ensures.ok) (opens told n c.args.callers c.args.value c.requires.bare)))

pub returns-in-Ok-new-clause-passes : goal.returns-in-Ok-new-clause-passes
returns-in-Ok-new-clause-passes g c j d lt =
    let h = c.in-Ok-new.ensures.ok in
    let first : c.in-Ok-new.seat.me.0.seen ≡ g.T.Told.told c.args.value = ap (λ m. m.0.seen) h.4 ∙ ap g.T.Told.told c.of.ensures in
    let p = c.deal-passes.ensures.passes j d lt in
    (p.0, p.1 ∙ ap (λ (xs : List g.row.T-Entry.Denot). newcomer xs (j + 1)) first)
