use Rattle.std.proofs.Common.{ap, sym, ◌∙◌, subst}
use Rattle.kb_ops.specs.Lists.{tree_of}
use Rattle.kb_ops.specs.Trees.{IsWellFormed}
use Rattle.kb_resolver.proofs.by_lists.Goals as goal

pub returns-clause-merge : goal.returns-clause-merge
returns-clause-merge c = c.in_ok-edits.ensures.edits ∙ ap tree_of c.deref.ensures.value ∙ c.in_ok-made.ensures.merge

pub returns-clause-formed : goal.returns-clause-formed
returns-clause-formed c = subst IsWellFormed (sym (c.in_ok-edits.ensures.edits ∙ ap tree_of c.deref.ensures.value ∙ c.in_ok-made.ensures.merge)) c.merge_laws.ensures.formed
