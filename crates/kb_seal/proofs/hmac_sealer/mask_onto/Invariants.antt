use Rattle.std.proofs.Common.{◌≡◌, ℕ, List, ◌+◌, ◌++◌, ◌%◌, ◌/◌, ◌<◌, take, vec_len, vec_capacity}
use Rattle.kb_seal.specs.Hmac.{AreStatesOf}
use Rattle.kb_seal.specs.Sealing.{pad_at, pad_block, masked}
use Rattle.kb_seal.proofs.hmac_sealer.mask_onto.Given as goal

abbrev pub invariant-bytes : goal.invariant-bytes
invariant-bytes l = record {
  text : (key : List ℕ) → AreStatesOf key l.states → l.out.items ≡ l.fn.out.items ++ masked (pad_at key l.tag) 0 (take l.i l.text);
  block : (key : List ℕ) → AreStatesOf key l.states → 0 < l.i % 32 → l.block ≡ pad_block key l.tag (l.i / 32);
  room : (vec_len l.out ≡ vec_len l.fn.out + l.i) × (vec_capacity l.out ≡ vec_capacity l.fn.out);
}
