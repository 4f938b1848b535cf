use Rattle.std.proofs.Common.{◌≡◌, length, ap, sym, subst}
use Rattle.kb_files.specs.Opens.{Opens}
use Rattle.kb_files.specs.Files.{HoldsAt, level_of}
use Rattle.kb_files.proofs.Vaults.{opens_same}
use Rattle.kb_files.proofs.ReadParts.{holds_same}
use Rattle.kb_files.proofs.laws.one_file_law.Goals as goal

pub returns : goal.returns
returns g c = λ blocks keys p a b size x y.
    let vault = Opens g.S.Sealer.sealed g.H.BlockHash.hashed blocks keys in
    let one = opens_same g.S.Sealer.sealed g.H.BlockHash.hashed blocks keys g.met.S.Sealer.one_plain in
    holds_same vault one (level_of (length b)) p a b size (subst (λ n. HoldsAt vault (level_of n) p a) size x.held) y.held
