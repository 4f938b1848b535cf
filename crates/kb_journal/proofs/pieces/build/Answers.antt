use Rattle.std.proofs.Common.{[], ◌∷◌, ◌++◌, List, ℕ, length, get_or, take, ap, sym, ◌∙◌, arith}
use Rattle.kb_journal.specs.declared.entries.Entry.TheVariants.{Head}
use Rattle.kb_journal.specs.Entries.{entry_text}
use Rattle.std.specs.Prelude.{Vec}
use Rattle.std.specs.declared.alloc.Global.{Global}
use Rattle.kb_log.specs.LogList.{lists_of}
use Rattle.kb_journal.proofs.Built.{texts_fit, texts_at}
use Rattle.kb_journal.proofs.pieces.build.Goals as goal

pub loop-text-init : goal.loop-text-init
loop-text-init c =
    let b = c.begin.ensures in
    record { are = b.are; so_far = b.pieces; count = b.count; fits = omega (arith, b.len, texts_fit c.args.held.now.ops.items (lists_of c.args.held.now.texts.items) c.args.held.now.spelled); room = b.room; ends_room = b.ends_room }

pub add-requires-clause-room : goal.add-requires-clause-room
add-requires-clause-room c =
    let i = c.loop-text.invariant in
    let at = texts_at c.args.held.now.texts.items c.loop-text.text-index c.text-item.result (omega (arith, ap length c.as_slice-text-items.ensures)) (c.text-item.is ∙ ap (λ (l : List (Vec ℕ Global)). get_or l c.loop-text.text-index c.text-item.result) c.as_slice-text-items.ensures) in
    omega (arith, i.fits, i.room, at.0, c.requires.room, ap length c.deref.ensures.value)

pub add-requires-clause-small : goal.add-requires-clause-small
add-requires-clause-small c =
    let i = c.loop-text.invariant in
    let at = texts_at c.args.held.now.texts.items c.loop-text.text-index c.text-item.result (omega (arith, ap length c.as_slice-text-items.ensures)) (c.text-item.is ∙ ap (λ (l : List (Vec ℕ Global)). get_or l c.loop-text.text-index c.text-item.result) c.as_slice-text-items.ensures) in
    omega (arith, i.fits, at.0, c.requires.small, ap length c.deref.ensures.value)

pub loop-text-preserved : goal.loop-text-preserved
loop-text-preserved c =
    let i = c.loop-text.invariant in
    let a = c.add.ensures in
    let h = c.args.held.now in
    let head = entry_text (Head h.known h.hash h.base h.mark) in
    let at = texts_at h.texts.items c.loop-text.text-index c.text-item.result (omega (arith, ap length c.as_slice-text-items.ensures)) (c.text-item.is ∙ ap (λ (l : List (Vec ℕ Global)). get_or l c.loop-text.text-index c.text-item.result) c.as_slice-text-items.ensures) in
    record {
      are = a.are;
      so_far = a.pieces ∙ ap (λ (l : List (List ℕ)). l ++ c.deref.result.now ∷ []) i.so_far ∙ ap (λ (t : List ℕ). head ∷ (lists_of (take c.loop-text.text-index h.texts.items) ++ t ∷ [])) c.deref.ensures.value ∙ ap (λ (l : List (List ℕ)). head ∷ l) (sym at.1);
      count = omega (arith, a.count, i.count);
      fits = omega (arith, a.len, i.fits, at.0, ap length c.deref.ensures.value);
      room = omega (arith, a.room, i.room);
      ends_room = omega (arith, a.ends_room, i.ends_room);
    }
