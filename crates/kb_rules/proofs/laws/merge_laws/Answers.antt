use Rattle.kb_ops.specs.Lists.{tree_of}
use Rattle.kb_rules.specs.Laws.{Laws}
use Rattle.kb_rules.proofs.Listed.{listed_laws}
use Rattle.kb_rules.proofs.laws.merge_laws.Goals as goal

pub returns-clause-merged_unchanged : goal.returns-clause-merged_unchanged
returns-clause-merged_unchanged c =
    let laws : Laws (tree_of c.args.base.now) (tree_of c.args.merged.now) (tree_of c.args.ours.now) c.args.stamp.now =
    listed_laws c.args.base.now c.args.merged.now c.args.ours.now c.args.stamp.now c.requires.merged c.requires.ours c.few.ensures c.few-2.ensures c.device.ensures c.moment.ensures c.requires.meet in
    laws.merged_unchanged

pub returns-clause-ours_unchanged : goal.returns-clause-ours_unchanged
returns-clause-ours_unchanged c =
    let laws : Laws (tree_of c.args.base.now) (tree_of c.args.merged.now) (tree_of c.args.ours.now) c.args.stamp.now =
    listed_laws c.args.base.now c.args.merged.now c.args.ours.now c.args.stamp.now c.requires.merged c.requires.ours c.few.ensures c.few-2.ensures c.device.ensures c.moment.ensures c.requires.meet in
    laws.ours_unchanged

pub returns-clause-keeps_ours : goal.returns-clause-keeps_ours
returns-clause-keeps_ours c =
    let laws : Laws (tree_of c.args.base.now) (tree_of c.args.merged.now) (tree_of c.args.ours.now) c.args.stamp.now =
    listed_laws c.args.base.now c.args.merged.now c.args.ours.now c.args.stamp.now c.requires.merged c.requires.ours c.few.ensures c.few-2.ensures c.device.ensures c.moment.ensures c.requires.meet in
    laws.keeps_ours

pub returns-clause-keeps_merged : goal.returns-clause-keeps_merged
returns-clause-keeps_merged c =
    let laws : Laws (tree_of c.args.base.now) (tree_of c.args.merged.now) (tree_of c.args.ours.now) c.args.stamp.now =
    listed_laws c.args.base.now c.args.merged.now c.args.ours.now c.args.stamp.now c.requires.merged c.requires.ours c.few.ensures c.few-2.ensures c.device.ensures c.moment.ensures c.requires.meet in
    laws.keeps_merged

pub returns-clause-formed : goal.returns-clause-formed
returns-clause-formed c =
    let laws : Laws (tree_of c.args.base.now) (tree_of c.args.merged.now) (tree_of c.args.ours.now) c.args.stamp.now =
    listed_laws c.args.base.now c.args.merged.now c.args.ours.now c.args.stamp.now c.requires.merged c.requires.ours c.few.ensures c.few-2.ensures c.device.ensures c.moment.ensures c.requires.meet in
    laws.formed
