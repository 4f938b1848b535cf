use Rattle.kb_files.specs.Opens.{Opens}
use Rattle.kb_ops.specs.Trees.{new_id}
use Rattle.kb_device.proofs.Touched.{left_holds}
use Rattle.kb_device.proofs.left_pointers.left_law.Goals as goal

pub returns : goal.returns
returns g c blocks keys t op kept left formed fits is all = left_holds (Opens g.S.Sealer.sealed g.H.BlockHash.hashed blocks keys) t (new_id op) op.moment op.change kept left fits is all
