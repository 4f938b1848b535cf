use Rattle.std.proofs.Common.{◌≡◌, ◌∷◌, List, ℕ, length, ap, arith, rules}
use Rattle.kb_journal.proofs.Cuts.{cut_three}
use Rattle.kb_journal.proofs.reading.read_merged.Goals as goal

pub returns : goal.returns
returns c =
    let size : length c.hash_at-hash.result ≡ 32 = search rules in
    ((record { fits = c.number_at-number.ensures.fits; size = size }, c.number_at-count.ensures.fits), ap (λ (l : List ℕ). 4 ∷ l) (cut_three c.args.bytes.now _ c.hash_at-hash.result _ (omega arith) c.number_at-number.ensures.value c.hash_at-hash.ensures c.number_at-count.ensures.value))
