use Rattle.std.proofs.Common.{◌≡◌, ◌++◌, ◌∷◌, [], ap, ◌∙◌}
use Rattle.std.specs.Prelude.{Vec}
use Rattle.std.specs.declared.alloc.Global.{Global}
use Rattle.kb_journal.specs.Held.{state_of}
use Rattle.kb_journal.specs.State.{queued_text}
use Rattle.kb_journal.proofs.Changed.{last_is, queue_leads, either_state}
use Rattle.kb_journal.proofs.ready.Ready.add.Goals as goal

pub write_change-requires-clause-leads : goal.write_change-requires-clause-leads
write_change-requires-clause-leads g c =
    let old = c.args.self.now.held in
    let all : c.as_slice.result.now ≡ old.texts.items ++ c.in-Ok.text ∷ [] = c.as_slice.ensures ∙ c.in-Ok-queue_copy.ensures.texts in
    let last : c.in-Some.payload.now ≡ c.in-Ok.text = last_is old.texts.items c.as_slice.result.now c.in-Ok.text c.in-Some.payload.now all c.in-Some.ensures.value in
    let spelled : c.deref.result.now ≡ queued_text c.args.op.now = c.deref.ensures.value ∙ ap (λ (v : Vec _ Global). v.items) last ∙ c.in-Ok.ensures.taken.0 in
    let t = c.in-Ok.ensures.taken.1 in
    queue_leads (state_of old) (state_of c.queue_copy.new.self) c.args.log.now.payloads c.args.op.now c.deref.result.now c.requires.ready.leads c.op_fits.ensures (c.requires.next t.seq) t.few c.requires.device spelled c.in-Ok-queue_copy.ensures.ok

pub returns-in-Ok-write_change-clause-every : goal.returns-in-Ok-write_change-clause-every
returns-in-Ok-write_change-clause-every g c = λ image may.
    either_state (state_of c.args.self.now.held) (state_of c.queue_copy.new.self) _ _ image c.args.log.now.payloads c.requires.ready.leads c.requires.ready.whole (may.size ∙ c.in-Ok-write_change.ensures.size) c.in-Ok-queue_copy.ensures.ok (c.in-Ok-write_change.ensures.every image may)

pub returns-in-Err-write_change-clause-every : goal.returns-in-Err-write_change-clause-every
returns-in-Err-write_change-clause-every g c = λ image may.
    either_state (state_of c.args.self.now.held) (state_of c.queue_copy.new.self) _ _ image c.args.log.now.payloads c.requires.ready.leads c.requires.ready.whole (may.size ∙ c.in-Err-write_change.ensures.size) c.in-Ok-queue_copy.ensures.ok (c.in-Err-write_change.ensures.every image may)
