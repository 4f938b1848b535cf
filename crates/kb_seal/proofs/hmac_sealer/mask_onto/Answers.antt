use Rattle.std.proofs.Common.{rules, ◌≡◌, ◌∷◌, [], ◌++◌, ℕ, List, ◌+◌, ◌<◌, length, take, ◌/◌, ◌%◌, ap, ◌∙◌, sym, arith, append_assoc}
use Rattle.std.specs.Prelude.{bit_xor}
use Rattle.std.proofs.Math.ListN.{get_or}
use Rattle.kb_seal.specs.Hmac.{hmac, AreStatesOf}
use Rattle.kb_seal.specs.Sealing.{pad_at, pad_block, masked}
use Rattle.kb_seal.proofs.Masks.{masked_next}
use Rattle.kb_seal.proofs.hmac_sealer.mask_onto.Goals as goal
use Rattle.kb_seal.proofs.hmac_sealer.mask_onto.Goals.{then-i-eq0, else-i-eq0}

pub bytes-preserved : goal.bytes-preserved
bytes-preserved c =
    let i = c.bytes.i in
    let text = c.args.text.now in
    let block : (key : List ℕ) → AreStatesOf key c.args.states.now → c.if-i-eq0.block ≡ pad_block key c.args.tag.now (c.bytes.i / 32)
    = λ key p. elim c.if-i-eq0.branch [
      | then-i-eq0 w ↦ w.block-is ∙ w.code_of-block.ensures key p ∙ ap (λ b. hmac key (2 ∷ (c.args.tag.now ++ b))) w.to_be_bytes.ensures
      | else-i-eq0 w ↦ let h : 0 < c.bytes.i % 32 = omega arith in w.block-is ∙ c.bytes.invariant.block key p h
    ] in
    record {
      text = λ key p.
          let n : c.bytes.i < length c.args.text.now = omega arith in
          let pad = pad_at key c.args.tag.now in
          c.push_reserved.ensures.items
          ∙ ap (λ o. o ++ bit_xor (get_or text i 0) (get_or c.if-i-eq0.block (i % 32) 0) ∷ []) (c.bytes.invariant.text key p)
          ∙ append_assoc c.args.out.now.items (masked pad 0 (take i text)) _
          ∙ ap (λ r. c.args.out.now.items ++ r) (ap (λ d. masked pad 0 (take i text) ++ bit_xor (get_or text i 0) (get_or d (i % 32) 0) ∷ []) (block key p) ∙ sym (masked_next pad i text n));
      block = λ key p h. let e : (c.bytes.i + 1) / 32 ≡ c.bytes.i / 32 = omega arith in block key p ∙ ap (pad_block key c.args.tag.now) (sym e);
      room = search rules;
    }
