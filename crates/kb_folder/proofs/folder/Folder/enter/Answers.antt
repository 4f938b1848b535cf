use Rattle.std.proofs.Common.{ℕ, List, [], ◌∷◌, ◌++◌, refl, ap, subst, ◌∙◌, Vec, Global}
use Rattle.kb_folder.specs.Held.{held}
use Rattle.kb_folder.specs.Puts.{StateAfter}
use Rattle.kb_folder.proofs.Sound.{from_the_end, sound_grown}
use Rattle.kb_folder.proofs.Verdicts.{passes, can_apply, writer_room}
use Rattle.kb_folder.proofs.folder.Folder.enter.Goals as goal

pub go_on-requires-clause-apply : goal.go_on-requires-clause-apply
go_on-requires-clause-apply g c =
    let f = held c.args.self.now in
    let r = c.args.revision.now in
    can_apply g.S.Sealer.signed f c.args.request.now r c.args.self.now.sound c.requires.judged.is (passes g.S.Sealer.signed g.H.BlockHash.hashed f c.args.request.now r c.requires.judged.verdict_is)

pub go_on-requires-clause-writer : goal.go_on-requires-clause-writer
go_on-requires-clause-writer g c =
    let f = held c.args.self.now in
    let r = c.args.revision.now in
    writer_room g.S.Sealer.signed f c.args.request.now r c.args.self.now.sound c.requires.judged.is (passes g.S.Sealer.signed g.H.BlockHash.hashed f c.args.request.now r c.requires.judged.verdict_is)

pub invariant_of-self-2 : goal.invariant_of-self-2
invariant_of-self-2 g c =
    let f = held c.args.self.now in
    let kept = c.push_reserved.ensures.items ∙ ap (λ (xs : List (Vec ℕ Global)). xs ++ c.in-Ok.copy ∷ []) c.reserve.ensures.items in
    let longer = from_the_end c.args.self.now.revisions.items c.push_reserved.new.self.items c.in-Ok.copy c.args.request.now.revision kept (c.in-Ok.ensures.items ∙ c.as_slice-bytes.ensures) in
    let after = subst (λ t. StateAfter c.args.revision.now t c.args.self.now.state c.go_on.new.state) c.as_slice-bytes.ensures c.go_on.ensures in
    record { sound = sound_grown g.S.Sealer.signed g.H.BlockHash.hashed f _ c.args.request.now c.args.revision.now c.args.self.now.sound c.requires.judged c.requires.room longer after refl refl }
