use Rattle.kb_files.specs.Opens.{Opens}
use Rattle.kb_files.proofs.Vaults.{opens_same}
use Rattle.kb_dirs.proofs.Once.{one_dir}
use Rattle.kb_dirs.proofs.laws.one_directory_law.Goals as goal

pub returns : goal.returns
returns g c = λ blocks keys p es fs x y.
    one_dir (Opens g.S.Sealer.sealed g.H.BlockHash.hashed blocks keys) (opens_same g.S.Sealer.sealed g.H.BlockHash.hashed blocks keys g.met.S.Sealer.one_plain) p es fs x y
