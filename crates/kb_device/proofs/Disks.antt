-- What a disk keeps survives more revisions.
use Rattle.std.proofs.Common.{◌≡◌, ℕ, zero, suc, ◌≤◌, ◌<◌, List, [], ◌∷◌, ◌++◌, length, All, refl, sym, ◌∙◌, arith}
use Rattle.std.specs.Prelude.{slice_index_or}
use Rattle.std.proofs.lemmas.List.Elements.{All-contains}
use Rattle.kb_device.specs.Journals.{Journal, plain}
use Rattle.kb_device.specs.Disks.{hash_at, IsKept}

hash_longer : (hashes more : List (List ℕ)) (r : ℕ) → r ≤ length hashes → hash_at (hashes ++ more) r ≡ hash_at hashes r
hash_longer hashes more zero le = refl
hash_longer hashes more (suc r) le = front hashes r (omega arith) where
  front : (hashes : List (List ℕ)) (r : ℕ) → r < length hashes → slice_index_or (hashes ++ more) r [] ≡ slice_index_or hashes r []
  front [] r lt = absurd (omega arith)
  front (h ∷ hashes) zero lt = refl
  front (h ∷ hashes) (suc r) lt = front hashes r (omega arith)

pub kept_longer : (hashes more : List (List ℕ)) (may : List Journal) (image : List ℕ) → All (λ (j : Journal). j.known ≤ length hashes) may → IsKept hashes may image → IsKept (hashes ++ more) may image
kept_longer hashes more may image within h = record {
  state = h.state;
  has = h.has;
  one_of = h.one_of;
  hash = h.hash ∙ sym (hash_longer hashes more h.state.known (All-contains (λ (j : Journal). j.known ≤ length hashes) may (plain h.state) within h.one_of));
}
