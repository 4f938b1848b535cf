use Rattle.std.proofs.Common.{◌≡◌, ◌∷◌, List, ℕ, length, ap, arith, rules}
use Rattle.kb_journal.proofs.Cuts.{cut_two}
use Rattle.kb_journal.proofs.reading.read_landed.Goals as goal

pub returns : goal.returns
returns c =
    let size : length c.hash_at-hash.result ≡ 32 = search rules in
    (record { fits = c.number_at-number.ensures.fits; size = size }, ap (λ (l : List ℕ). 2 ∷ l) (cut_two c.args.bytes.now _ c.hash_at-hash.result (omega arith) c.number_at-number.ensures.value c.hash_at-hash.ensures))
