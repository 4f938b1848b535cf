use Rattle.std.proofs.Common.{◌≡◌, ◌-◌, ◌+◌, ◌++◌, ◌∷◌, [], suc, ap, sym, ◌∙◌, arith, append_assoc, take}
use Rattle.kb_files.specs.Files.{ptrs_of, ptr_at}
use Rattle.kb_files.proofs.index.ptrs_of.Goals as goal

pub ptrs-preserved : goal.ptrs-preserved
ptrs-preserved c =
    let n : c.args.count - c.ptrs._i ≡ suc (c.args.count - (c.ptrs._i + 1)) = omega arith in
    let left = c.split_at.ensures.back_len in
    let more = c.args.count - (c.ptrs._i + 1) in
    let here : c.ptr_at.result ≡ ptr_at (take 36 c.ptrs.rest.now) = c.ptr_at.ensures ∙ ap ptr_at c.split_at.ensures.front in
    record {
      size = omega arith;
      read = ap (λ ps. ps ++ ptrs_of more c.split_at.result.1.now) c.in_ok-push.ensures.items
          ∙ append_assoc c.ptrs.ptrs.items (c.ptr_at.result ∷ []) (ptrs_of more c.split_at.result.1.now)
          ∙ ap (λ p. c.ptrs.ptrs.items ++ (p ∷ ptrs_of more c.split_at.result.1.now)) here
          ∙ ap (λ b. c.ptrs.ptrs.items ++ (ptr_at (take 36 c.ptrs.rest.now) ∷ ptrs_of more b)) c.split_at.ensures.back
          ∙ ap (λ k. c.ptrs.ptrs.items ++ ptrs_of k c.ptrs.rest.now) (sym n) ∙ c.ptrs.invariant.read;
    }
