use Rattle.std.proofs.Common.{◌∙◌, arith}
use Rattle.kb_journal.specs.Held.{state_of}
use Rattle.kb_journal.proofs.Compacting.{pieces_built, whole_fits, built_leads, built_used, built_state, built_either}
use Rattle.kb_journal.proofs.changes.write_change.Goals as goal

pub compact-requires-clause-need : goal.compact-requires-clause-need
compact-requires-clause-need g c =
    let s = state_of c.args.held.now in
    let is = pieces_built c.build.new.bytes.items c.build.new.ends.items c.deref.result.now c.deref-else-used-need.result.now s c.deref.ensures.value c.deref-else-used-need.ensures.value c.build.ensures.pieces in
    omega (arith, built_used s _ c.requires.leads _ is, whole_fits _ s c.requires.whole, c.area-area.ensures.value, c.area-area.ensures.bound)

pub returns-in-Ok-compact-clause-leads : goal.returns-in-Ok-compact-clause-leads
returns-in-Ok-compact-clause-leads g c =
    let s = state_of c.args.held.now in
    let is = pieces_built c.build.new.bytes.items c.build.new.ends.items c.deref.result.now c.deref-else-used-need.result.now s c.deref.ensures.value c.deref-else-used-need.ensures.value c.build.ensures.pieces in
    built_leads s _ c.requires.leads _ (c.in-Ok-compact.ensures.payloads ∙ is)

pub returns-in-Ok-compact-clause-durable : goal.returns-in-Ok-compact-clause-durable
returns-in-Ok-compact-clause-durable g c = λ image may.
    let s = state_of c.args.held.now in
    let is = pieces_built c.build.new.bytes.items c.build.new.ends.items c.deref.result.now c.deref-else-used-need.result.now s c.deref.ensures.value c.deref-else-used-need.ensures.value c.build.ensures.pieces in
    built_state s _ c.requires.leads _ image _ is (c.in-Ok-compact.ensures.durable image may) (may.size ∙ c.in-Ok-compact.ensures.size) c.requires.whole

pub returns-in-Ok-compact-clause-every : goal.returns-in-Ok-compact-clause-every
returns-in-Ok-compact-clause-every g c = λ image may.
    let s = state_of c.args.held.now in
    let is = pieces_built c.build.new.bytes.items c.build.new.ends.items c.deref.result.now c.deref-else-used-need.result.now s c.deref.ensures.value c.deref-else-used-need.ensures.value c.build.ensures.pieces in
    built_either s _ c.requires.leads _ image _ _ is (c.in-Ok-compact.ensures.every image may) (may.size ∙ c.in-Ok-compact.ensures.size) c.requires.whole

pub returns-in-Err-Stopped-compact-clause-every : goal.returns-in-Err-Stopped-compact-clause-every
returns-in-Err-Stopped-compact-clause-every g c = λ image may.
    let s = state_of c.args.held.now in
    let is = pieces_built c.build.new.bytes.items c.build.new.ends.items c.deref.result.now c.deref-else-used-need.result.now s c.deref.ensures.value c.deref-else-used-need.ensures.value c.build.ensures.pieces in
    built_either s _ c.requires.leads _ image _ _ is (c.in-Err-Stopped-compact.ensures.every image may) (may.size ∙ c.in-Err-Stopped-compact.ensures.size) c.requires.whole
