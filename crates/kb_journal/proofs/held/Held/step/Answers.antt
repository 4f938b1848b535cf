use Rattle.std.proofs.Common.{◌≡◌, false, sym, ◌∙◌, rules}
use Rattle.kb_journal.specs.Held.{state_of}
use Rattle.kb_journal.specs.State.{allows}
use Rattle.kb_journal.proofs.Leading.{not_allowed}
use Rattle.kb_journal.proofs.held.Held.step.Goals as goal

pub returns-then-not-allows-clause-bad : goal.returns-then-not-allows-clause-bad
returns-then-not-allows-clause-bad c = λ _ t a.
    let entry = c.in-Ok.entry in
    let barred : allows (state_of c.args.self.now) entry ≡ false = search rules in
    not_allowed (state_of c.args.self.now) c.args.payload.items entry c.in-Ok.ensures.0 (sym c.deref.ensures.value ∙ c.in-Ok.ensures.1) barred t a
