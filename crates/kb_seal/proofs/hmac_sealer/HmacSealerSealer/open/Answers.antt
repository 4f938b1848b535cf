use Rattle.std.proofs.Common.{ap, ◌∙◌, ◌++◌, sym, length, arith}
use Rattle.kb_seal.specs.Sealing.{tag_of, pad_at, masked}
use Rattle.kb_seal.specs.Laws.{length-seal}
use Rattle.kb_seal.proofs.Opening.{opens, again}
use Rattle.kb_seal.proofs.hmac_sealer.HmacSealerSealer.open.Goals as goal

pub returns-then-text-lt32-clause-refused : goal.returns-then-text-lt32-clause-refused
returns-then-text-lt32-clause-refused c _ plain e =
    let l = ap length e ∙ length-seal c.args.key.now plain in absurd (omega arith)

pub returns-then-is_same-clause-opened : goal.returns-then-is_same-clause-opened
returns-then-is_same-clause-opened c =
    let key = c.args.key.now in
    let tag = c.copy_from_slice.ensures.after ∙ c.split_at.ensures.front in
    let pad = pad_at key c.copy_from_slice.new.self in
    let text = c.mask_onto.ensures key c.states_of-states.ensures ∙ ap (λ s. s ++ masked pad 0 c.split_at.result.1.now) c.in-Ok.ensures.items ∙ ap (masked pad 0) c.split_at.ensures.back in
    let made = c.tag_of-again.ensures key c.states_of-states.ensures ∙ ap (tag_of key) c.as_slice.ensures.value in
    opens key c.args.text.now c.mask_onto.new.out.items c.copy_from_slice.new.self tag text (sym made ∙ c.is_same.ensures.0 c.if-is_same.true)

pub returns-else-is_same-clause-refused : goal.returns-else-is_same-clause-refused
returns-else-is_same-clause-refused c _ plain e =
    let key = c.args.key.now in
    let tag = c.copy_from_slice.ensures.after ∙ c.split_at.ensures.front in
    let pad = pad_at key c.copy_from_slice.new.self in
    let text = c.mask_onto.ensures key c.states_of-states.ensures ∙ ap (λ s. s ++ masked pad 0 c.split_at.result.1.now) c.in-Ok.ensures.items ∙ ap (masked pad 0) c.split_at.ensures.back in
    let made = c.tag_of-again.ensures key c.states_of-states.ensures ∙ ap (tag_of key) c.as_slice.ensures.value in
    let yes = c.is_same.ensures.1 (made ∙ again key c.args.text.now c.mask_onto.new.out.items c.copy_from_slice.new.self plain tag text e) in
    let no = c.if-is_same.false in
    cc
