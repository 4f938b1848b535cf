-- The laws of lawful chains.
use Rattle.std.proofs.Common.{◌≡◌, ℕ, ◌+◌, ◌-◌, ◌∙◌}
use Rattle.kb_snap.specs.ChainLaws.{LawfulChains}
use Rattle.kb_snap.proofs.Lawful.{ordered, fine_trees, given_then, small_chain, few_keys, few_steps}

pub chain_laws : LawfulChains
chain_laws c h = record {
  counts = λ d. (ordered d c h).counts;
  own = λ d. (ordered d c h).own;
  small = small_chain c h;
  keys = few_keys c h;
  formed = λ r le. (fine_trees c h r le).formed;
  given = given_then c h;
  steps = few_steps c h;
}
