-- No private part of a step or a merge is spelled by too many bytes for its field.
use Rattle.std.proofs.Common.{◌≡◌, ◌≤◌, ◌<◌, ◌+◌, ◌*◌, ◌^◌, ℕ, List, [], ◌∷◌, ◌++◌, length, Option, Some, None, arith, length-append, ap, ◌∙◌}
use Rattle.std.specs.List.{AllByRecursion}
use Rattle.kb_wire.specs.Fields.{u32_text}
use Rattle.kb_ops.specs.declared.rows.Op.{Op}
use Rattle.kb_ops.specs.Grammar.{op_text, IsOp}
use Rattle.kb_journal.proofs.Short.{op_short}
use Rattle.kb_blocks.specs.declared.pointer.Ptr.{Ptr}
use Rattle.kb_chain.specs.declared.revisions.RevisionKind.{RevisionKind}
use Rattle.kb_chain.specs.declared.revisions.RevisionKind.TheVariants.{Found, Step, Steps, Merge, Join, Rekey}
use Rattle.kb_chain.specs.declared.privates.Private.{Private}
use Rattle.kb_chain.specs.Privates.{ptr_text, ops_text, base_text, count_text, private_text, IsPtr, IsPrivate}

ops_short : (ops : List Op) → AllByRecursion IsOp ops → length (ops_text ops) ≤ 99999 * length ops
ops_short [] all = omega arith
ops_short (op ∷ ops) all = omega (arith, op_short op all.0.proper, ops_short ops all.1, length-append (op_text op) (ops_text ops))

base_size : (base : Option ℕ) → length (base_text base) ≤ 4
base_size None = omega arith
base_size (Some base) = omega arith

count_size : (kind : RevisionKind) (n : ℕ) → length (count_text kind n) ≤ 4
count_size Found n = omega arith
count_size Step n = omega arith
count_size Steps n = omega arith
count_size Merge n = omega arith
count_size Join n = omega arith
count_size Rekey n = omega arith

ptr_size : (p : Ptr) → IsPtr p → length (ptr_text p) ≡ 36
ptr_size p is = let id = is.id in omega (arith, id, length-append p.id (u32_text p.generation))

private_size : (kind : RevisionKind) (p : Private) → IsPrivate kind p → length p.ops ≤ 4096 → length (private_text kind p) ≤ 409595956
private_size kind p is few =
    let count = count_text kind (length p.ops) in
    omega (
      arith,
      few,
      ops_short p.ops is.ops,
      base_size p.base,
      count_size kind (length p.ops),
      ptr_size p.root is.root,
      length-append (ptr_text p.root) (base_text p.base ++ (count ++ ops_text p.ops)),
      length-append (base_text p.base) (count ++ ops_text p.ops),
      length-append count (ops_text p.ops),
    )

-- sealed, it has room in the revision's field
pub sealed_short : (sealed : List ℕ → List ℕ → List ℕ) → ((k t : List ℕ) → length (sealed k t) ≡ length t + 32) → (key bytes : List ℕ) (kind : RevisionKind) (p : Private) → IsPrivate kind p → length p.ops ≤ 4096 → bytes ≡ sealed key (private_text kind p) → length bytes < 2 ^ 32
sealed_short sealed longer key bytes kind p is few e =
    let size : length bytes ≡ length (private_text kind p) + 32 = ap length e ∙ longer key (private_text kind p) in
    let most = private_size kind p is few in
    omega (arith, size, most)
