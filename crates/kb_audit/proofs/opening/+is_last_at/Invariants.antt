use Rattle.std.proofs.Common.{length}
use Rattle.kb_audit.proofs.opening.+is_last_at.Given as goal

abbrev pub decreases-is_last_at : goal.decreases-is_last_at
decreases-is_last_at l = length l.rest.now
