-- What was read is the input.
use Rattle.std.proofs.Common.{◌≡◌, ◌≤◌, ◌<◌, ℕ, ◌+◌, List, [], ◌++◌, length, take, Option, Some, None, sym, ap, ◌∙◌, append-nil, subst}
use Rattle.std.proofs.lemmas.List.{take_all, take_at}
use Rattle.std.specs.Io.KnownBytes.{Consumes, IsAtEnd}
use Rattle.kb_top.specs.Inputs.{IsInput}
use Rattle.kb_top.specs.declared.input.TheConstants.{SCRIPT_LIMIT}

-- at the end of the source
pub all_read : (first mid last : Option (List ℕ)) (bytes : List ℕ) → Consumes first mid bytes → Consumes mid last [] → IsAtEnd last → length bytes ≤ SCRIPT_LIMIT + 1 → IsInput first bytes
all_read None mid last bytes p q e few = tt
all_read (Some all) None last bytes p q e few = absurd p
all_read (Some all) (Some rest) None bytes p q e few = absurd q
all_read (Some all) (Some rest) (Some left) bytes p q e few =
    let same : all ≡ bytes = p ∙ ap (λ l. bytes ++ l) (q ∙ e) ∙ append-nil bytes in
    sym (take_all (SCRIPT_LIMIT + 1) bytes few) ∙ ap (take (SCRIPT_LIMIT + 1)) (sym same)

-- at one byte more than a script may have
pub cut_read : (first mid : Option (List ℕ)) (bytes : List ℕ) → Consumes first mid bytes → length bytes ≡ SCRIPT_LIMIT + 1 → IsInput first bytes
cut_read None mid bytes p n = tt
cut_read (Some all) None bytes p n = absurd p
cut_read (Some all) (Some rest) bytes p n = sym (ap (take (SCRIPT_LIMIT + 1)) p ∙ take_at bytes rest (SCRIPT_LIMIT + 1) n)

-- a read of no bytes, with room for some, is at the end
pub ended : (mid last : Option (List ℕ)) (n : ℕ) (buf : List ℕ) → n ≡ 0 → 0 < length buf → Consumes mid last (take n buf) × (n ≡ 0 → 0 < length buf → IsAtEnd last)
    → Consumes mid last [] × IsAtEnd last
ended mid last n buf none room h = (subst (λ k. Consumes mid last (take k buf)) none h.0, h.1 none room)
