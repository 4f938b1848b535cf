-- The hashes of a chain, counted from its start and from its end; and how many keys there were after a step.
use Rattle.std.proofs.Common.{◌≡◌, ◌⊎◌, ℕ, zero, suc, ◌+◌, ◌-◌, ◌≤◌, List, [], ◌∷◌, ◌++◌, length, take, drop, inl, inr, refl, sym, ap, ◌∙◌, arith}
use Rattle.std.specs.Prelude.{slice_index_or}
use Rattle.sha2.specs.Sha256.{sha256}
use Rattle.kb_snap.specs.Chains.{Stepped, Revision, Chain}
use Rattle.kb_snap.specs.Members.{generation_from, generation_by}
use Rattle.kb_device.specs.Disks as front
use Rattle.kb_ops.specs.declared.rows.Op.{Op}
use Rattle.kb_folder.specs.Stands.{Revisions, head_of}
use Rattle.kb_device.specs.Remembering.{hash_at}
use Rattle.kb_device.specs.Stands.{hashes_of}
use Rattle.kb_device.proofs.Longer.{hash_longer, hashes_push, length-hashes}

pub back_longer : (b : List ℕ) (bs : Revisions) (known : ℕ) → known ≤ length bs → hash_at (b ∷ bs) known ≡ hash_at bs known
back_longer b bs known le = ap (λ n. head_of (drop n (b ∷ bs))) (let e : suc (length bs) - known ≡ suc (length bs - known) = omega (arith, le) in e)

at_end : (hs : List (List ℕ)) (h : List ℕ) → slice_index_or (hs ++ h ∷ []) (length hs) [] ≡ h
at_end [] h = refl
at_end (x ∷ hs) h = at_end hs h

pub last_hash : (b : List ℕ) (bs : Revisions) → front.hash_at (hashes_of (b ∷ bs)) (suc (length bs)) ≡ sha256 b
last_hash b bs =
    ap (λ hs. front.hash_at hs (suc (length bs))) (hashes_push b bs)
    ∙ ap (λ n. front.hash_at (hashes_of bs ++ sha256 b ∷ []) (suc n)) (sym (length-hashes bs))
    ∙ at_end (hashes_of bs) (sha256 b)

pub last_back : (b : List ℕ) (bs : Revisions) → hash_at (b ∷ bs) (suc (length bs)) ≡ sha256 b
last_back b bs = ap (λ n. head_of (drop n (b ∷ bs))) (let none : suc (length bs) - suc (length bs) ≡ 0 = omega arith in none)

low_or_last : (k n : ℕ) → k ≤ suc n → (k ≤ n) ⊎ (k ≡ suc n)
low_or_last k n le = grind (arith, le)

pub same_hash : (bs : Revisions) (k : ℕ) → k ≤ length bs → hash_at bs k ≡ front.hash_at (hashes_of bs) k
same_hash [] k le = ap (λ n. head_of (drop n [])) (let none : 0 - k ≡ 0 = omega arith in none) ∙ ap (front.hash_at []) (let none : 0 ≡ k = omega (arith, le) in none)
same_hash (b ∷ bs) k le = elim (low_or_last k (length bs) le) [
  | inl low ↦ back_longer b bs k low ∙ same_hash bs k low ∙ sym (hash_longer b bs k low)
  | inr last ↦ ap (hash_at (b ∷ bs)) last ∙ last_back b bs ∙ sym (last_hash b bs) ∙ ap (front.hash_at (hashes_of (b ∷ bs))) (sym last)
]

-- ---- a step adds no key

first_of : (x y : Revision) (rest c : Chain) → y ∷ c ≡ x ∷ rest → y ≡ x
first_of x y rest c e = cc

step_keys : (c : Chain) (k g : ℕ) (x : Revision) (rest : Chain) (ops : List Op) → drop k c ≡ x ∷ rest → x.deed ≡ Stepped ops → generation_from g (take (suc k) c) ≡ generation_from g (take k c)
step_keys [] zero g x rest ops e deed = cc
step_keys [] (suc k) g x rest ops e deed = cc
step_keys (y ∷ c) zero g x rest ops e deed = ap (λ d. generation_by d g) (ap (λ (r : Revision). r.deed) (first_of x y rest c e) ∙ deed)
step_keys (y ∷ c) (suc k) g x rest ops e deed = step_keys c k (generation_by y.deed g) x rest ops e deed

pub step_generation : (c : Chain) (k : ℕ) (x : Revision) (rest : Chain) (ops : List Op) → drop k c ≡ x ∷ rest → x.deed ≡ Stepped ops → generation_from 0 (take (k + 1) c) ≡ generation_from 0 (take k c)
step_generation c k x rest ops e deed = ap (λ n. generation_from 0 (take n c)) (let same : k + 1 ≡ suc k = omega arith in same) ∙ step_keys c k 0 x rest ops e deed

pub step_within : (c : Chain) (k : ℕ) (x : Revision) (rest : Chain) → drop k c ≡ x ∷ rest → k + 1 ≤ length c
step_within [] zero x rest e = cc
step_within [] (suc k) x rest e = cc
step_within (y ∷ c) zero x rest e = omega arith
step_within (y ∷ c) (suc k) x rest e = let h = step_within c k x rest e in omega (arith, h)
