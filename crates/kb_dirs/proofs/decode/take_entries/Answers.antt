use Rattle.std.proofs.Common.{◌<◌, ◌+◌, ◌++◌, ◌∷◌, [], length, ap, sym, subst, ◌∙◌, arith, length-append, Vec, Global}
use Rattle.std.specs.List.{AllByRecursion}
use Rattle.kb_dirs.specs.declared.entries.Entry.{Entry}
use Rattle.kb_dirs.specs.Dirs.{entries_text, IsEntry, AreOrdered}
use Rattle.kb_dirs.specs.Parses.{AreMany, is_above}
use Rattle.kb_dirs.proofs.Orders.{ordered_push, all_push}
use Rattle.kb_dirs.proofs.ReadParts.{passed}
use Rattle.kb_dirs.proofs.Once.{no_next, not_above, read_more}
use Rattle.kb_dirs.proofs.decode.take_entries.Goals as goal

pub returns-in_err-entry : goal.returns-in_err-entry
returns-in_err-entry c =
    let size = c.entries.invariant.size in
    let short : length c.entries.entries.items < c.args.count = omega (arith, size, c.entries-test.true) in
    passed {Y = Vec Entry Global} (λ es. es.items) entries_text (AreMany c.args.count) _ _ _ _ c.from_residual.ensures.1
    (no_next c.args.count c.entries.entries.items c.args.reader.now c.entries.reader c.entries.invariant.each short c.entries.invariant.read c.in_err-entry.field-0.0 c.in_err-entry.ensures)

pub returns-then-not-is_above : goal.returns-then-not-is_above
returns-then-not-is_above c =
    let size = c.entries.invariant.size in
    let short : length c.entries.entries.items < c.args.count = omega (arith, size, c.entries-test.true) in
    let e = c.in_ok-entry.entry in
    let never = sym (c.is_above.ensures ∙ ap (λ es. is_above es e.name) c.deref.ensures.value) ∙ c.if-not-is_above.true in
    not_above c.args.count c.entries.entries.items c.args.reader.now c.entries.reader c.take_entry.new.reader e c.entries.invariant.each short c.entries.invariant.read c.in_ok-entry.ensures.0 c.in_ok-entry.ensures.1 never

pub entries-preserved : goal.entries-preserved
entries-preserved c =
    let e = c.in_ok-entry.entry in
    let done = c.entries.entries.items in
    let items = c.in-Ok.ensures.items in
    let above = sym (c.is_above.ensures ∙ ap (λ es. is_above es e.name) c.deref.ensures.value) ∙ c.if-not-is_above.false in
    record {
      size = ap length items ∙ length-append done (e ∷ []) ∙ ap (λ n. n + 1) c.entries.invariant.size;
      each = subst (AllByRecursion IsEntry) (sym items) (all_push IsEntry done e c.entries.invariant.each c.in_ok-entry.ensures.0);
      ordered = subst AreOrdered (sym items) (ordered_push done e c.entries.invariant.ordered above);
      read = c.entries.invariant.read ∙ ap (λ t. entries_text done ++ t) c.in_ok-entry.ensures.1 ∙ read_more done e c.take_entry.new.reader ∙ ap (λ es. entries_text es ++ c.take_entry.new.reader) (sym items);
    }
