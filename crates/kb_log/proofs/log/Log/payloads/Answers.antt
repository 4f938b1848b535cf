use Rattle.kb_log.proofs.Seen.{text_shown}
use Rattle.kb_log.proofs.log.Log.payloads.Goals as goal

pub payloads_in-requires : goal.payloads_in-requires
payloads_in-requires g c =
    text_shown g.D.Disk.content g.D.Disk.dirty _ _ _ _ c.self.view_is c.self.invariant c.requires _ c.deref.ensures.value
