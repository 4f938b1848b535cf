-- Three trees of the root alone can be merged.
use Rattle.std.proofs.Common.{◌≡◌, ◌≤◌, [], ◌∷◌, length, cond, Some, None, refl, sym, ap, ◌∙◌, arith}
use Rattle.kb_name.specs.declared.ids.NodeId.{NodeId}
use Rattle.kb_name.specs.Nodes.{root}
use Rattle.kb_ops.specs.Trees.{look, start, root_row}
use Rattle.kb_ops.proofs.Nodes.{node_other}
use Rattle.kb_ops.proofs.Lists.{look_of}
use Rattle.kb_ops.proofs.TreeKept.{start_formed}
use Rattle.kb_rules.specs.declared.stamp.Stamp.{Stamp}
use Rattle.kb_rules.specs.Merge.{copy_id, splits}
use Rattle.kb_rules.specs.Meet.{Meet, HaveOneKind, HasNoCopies}
use Rattle.kb_resolver.proofs.Split.{few_split}

one_kind : HaveOneKind (look start) (look start)
one_kind q r s at there = ap (λ x. x.kind) (let same : r ≡ s = (let e : Some r ≡ Some s = sym at ∙ there in cc) in same)

no_copies : (stamp : Stamp) → HasNoCopies stamp (look start)
no_copies stamp j some =
    look_of (root_row ∷ []) refl (copy_id stamp j)
    ∙ ap (λ b. cond b (Some root_row) None) (node_other root (copy_id stamp j) (λ same. some (sym (ap (λ (q : NodeId). q.part) same))))

pub roots_meet : (stamp : Stamp) → Meet start start start stamp
roots_meet stamp = record {
  base = start_formed;
  merged = start_formed;
  ours = start_formed;
  merged_kinds = one_kind;
  our_kinds = one_kind;
  both_kinds = one_kind;
  common = λ q m u. m;
  no_base_copies = no_copies stamp;
  no_merged_copies = no_copies stamp;
  no_our_copies = no_copies stamp;
}

pub roots_split_none : length (splits start start start) ≤ 65535
roots_split_none = let few = few_split [] start start in omega (arith, few)
