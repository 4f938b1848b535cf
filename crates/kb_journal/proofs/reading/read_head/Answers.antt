use Rattle.std.proofs.Common.{◌≡◌, ◌∷◌, List, ℕ, length, ap, arith, rules}
use Rattle.kb_journal.proofs.Cuts.{cut_four}
use Rattle.kb_journal.proofs.reading.read_head.Goals as goal

pub returns-in-Some : goal.returns-in-Some
returns-in-Some c =
    let size : length c.hash_at-hash.result ≡ 32 = search rules in
    ((record { fits = c.number_at-number.ensures.fits; size = size }, c.number_at-seq.ensures.fits), ap (λ (l : List ℕ). 5 ∷ l) (cut_four c.args.bytes.now _ c.hash_at-hash.result _ _ (omega arith) c.number_at-number.ensures.value c.hash_at-hash.ensures c.number_at-seq.ensures.value c.in-Some.ensures))
