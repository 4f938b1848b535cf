use Rattle.kb_ops.specs.Lists.{tree_of}
use Rattle.kb_rules.specs.Merge.{three}
use Rattle.kb_rules.specs.Meanings.{Meanings}
use Rattle.kb_rules.proofs.Listed.{listed_meanings}
use Rattle.kb_rules.proofs.laws.rule_laws.Goals as goal

pub returns-clause-places : goal.returns-clause-places
returns-clause-places c =
    let meanings : Meanings (three (tree_of c.args.base.now) (tree_of c.args.merged.now) (tree_of c.args.ours.now) c.args.stamp.now) =
    listed_meanings c.args.base.now c.args.merged.now c.args.ours.now c.args.stamp.now c.requires.merged c.requires.ours c.few.ensures c.few-2.ensures c.device.ensures c.moment.ensures c.requires.meet in
    meanings.places

pub returns-clause-kept : goal.returns-clause-kept
returns-clause-kept c =
    let meanings : Meanings (three (tree_of c.args.base.now) (tree_of c.args.merged.now) (tree_of c.args.ours.now) c.args.stamp.now) =
    listed_meanings c.args.base.now c.args.merged.now c.args.ours.now c.args.stamp.now c.requires.merged c.requires.ours c.few.ensures c.few-2.ensures c.device.ensures c.moment.ensures c.requires.meet in
    meanings.kept

pub returns-clause-joined : goal.returns-clause-joined
returns-clause-joined c =
    let meanings : Meanings (three (tree_of c.args.base.now) (tree_of c.args.merged.now) (tree_of c.args.ours.now) c.args.stamp.now) =
    listed_meanings c.args.base.now c.args.merged.now c.args.ours.now c.args.stamp.now c.requires.merged c.requires.ours c.few.ensures c.few-2.ensures c.device.ensures c.moment.ensures c.requires.meet in
    meanings.joined

pub returns-clause-names : goal.returns-clause-names
returns-clause-names c =
    let meanings : Meanings (three (tree_of c.args.base.now) (tree_of c.args.merged.now) (tree_of c.args.ours.now) c.args.stamp.now) =
    listed_meanings c.args.base.now c.args.merged.now c.args.ours.now c.args.stamp.now c.requires.merged c.requires.ours c.few.ensures c.few-2.ensures c.device.ensures c.moment.ensures c.requires.meet in
    meanings.names
