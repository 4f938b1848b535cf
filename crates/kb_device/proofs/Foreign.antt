-- A journal that meets a lawful chain is never foreign.
use Rattle.std.proofs.Common.{◌≡◌, ℕ, ◌+◌, ◌-◌, ◌≤◌, ◌<◌, List, [], ◌∷◌, ◌++◌, length, take, drop, inl, inr, refl, sym, ap, ◌∙◌, subst, arith, length-append}
use Rattle.std.proofs.lemmas.List.{length-take-le, take_all}
use Rattle.kb_ops.specs.declared.rows.Op.{Op}
use Rattle.kb_snap.specs.Chains.{Revision, Chain, ops_in, ops_by, ops_of, seq_of_last}
use Rattle.kb_device.specs.Journals.{Journal}
use Rattle.kb_snap.specs.Lawful.{CountsFrom, IsLawful}
use Rattle.kb_device.specs.Meets.{Beyond, Meets}
use Rattle.kb_device.specs.Foreign.{own_or, first_ops, seq_of_first, MeetsWithin, QueueMeets, IsForeign, Later, Unknown, Others, Apart, Unfit}
use Rattle.kb_snap.proofs.Lists.{append_none, cut}
use Rattle.kb_snap.proofs.Chains.{by_writer, no_own, ops_append, none_left, none_right}
use Rattle.kb_device.proofs.Puts.{base_all}
use Rattle.kb_snap.proofs.Lawful.{ordered}
use Rattle.kb_snap.proofs.Counts.{counts_take}
use Rattle.kb_device.proofs.Meets.{over_known}
use Rattle.kb_snap.proofs.MadeIds.{last_counts}
use Rattle.kb_device.proofs.Owned.{landed_length}

own_some : (ops rest : List Op) → 0 < length ops → own_or ops rest ≡ ops
own_some [] rest some = absurd (omega arith)
own_some (op ∷ ops) rest some = refl

-- the first revision of the device, behind others
first_at : (d : ℕ) (front : Chain) (x : Revision) (rest : Chain) → ops_of d front ≡ [] → 0 < length (ops_by d x) → first_ops d (front ++ x ∷ rest) ≡ ops_by d x
first_at d [] x rest e some = own_some (ops_by d x) (first_ops d rest) some
first_at d (y ∷ front) x rest e some =
    ap (λ ops. own_or ops (first_ops d (front ++ x ∷ rest))) (none_left (ops_by d y) (ops_of d front) e) ∙ first_at d front x rest (none_right (ops_by d y) (ops_of d front) e) some

-- seqs from 1 on end at their number
last_is : (n : ℕ) (ops : List Op) → 0 < length ops → CountsFrom n ops → seq_of_last ops ≡ n + length ops - 1
last_is n ops some counts = (let e = last_counts n ops some counts in omega arith)

last_all : (ops : List Op) → CountsFrom 1 ops → seq_of_last ops ≡ length ops
last_all [] counts = refl
last_all (op ∷ ops) counts = (let e = last_counts 1 (op ∷ ops) (let some : 0 < length (op ∷ ops) = omega arith in some) counts in omega arith)

first_is : (n : ℕ) (ops : List Op) → 0 < length ops → CountsFrom n ops → seq_of_first ops ≡ n
first_is n [] some counts = absurd (omega arith)
first_is n (op ∷ ops) some counts = counts.0

module _ (d : ℕ) (c : Chain) (j : Journal) (lawful : IsLawful c) (h : Meets d c j) where
  chain_last : seq_of_last (ops_of d c) ≡ length (ops_of d c)
  chain_last = last_all (ops_of d c) (ordered d c lawful).counts

  -- so many of the queue landed as the first revision beyond
  meets_first : (count : ℕ) → 0 < count → count ≤ length j.queue → first_ops d (drop j.known c) ≡ take count j.queue → ops_of d (drop j.known c) ≡ take count j.queue → MeetsWithin d c j
  meets_first count some few first all =
      let size = length-take-le count j.queue few in
      let long : 0 < length (take count j.queue) = omega arith in
      let counts = counts_take (j.base + 1) count j.queue h.counts in
      let whole : length (ops_of d c) ≡ j.base + count = whole_is count all size in
      let last = last_is (j.base + 1) (take count j.queue) long counts in
      let end = chain_last in
      record {
        some = subst (λ ops. 0 < length ops) (sym first) long;
        begins = ap seq_of_first first ∙ first_is (j.base + 1) (take count j.queue) long counts;
        reaches = ap seq_of_last first ∙ (let e : seq_of_last (take count j.queue) ≡ seq_of_last (ops_of d c) = omega arith in e);
        within = (let le = landed_length d c j h in omega arith);
      }
    where
      split : (c : Chain) → ops_of d c ≡ ops_of d (take j.known c) ++ ops_of d (drop j.known c)
      split c = ap (ops_of d) (cut j.known c) ∙ ops_append d (take j.known c) (drop j.known c)

      whole_is : (count : ℕ) → ops_of d (drop j.known c) ≡ take count j.queue → length (take count j.queue) ≡ count → length (ops_of d c) ≡ j.base + count
      whole_is count all size =
          ap length (split c) ∙ length-append (ops_of d (take j.known c)) (ops_of d (drop j.known c)) ∙ (λ i. sym h.base i + (ap length all ∙ size) i)

  pub queue_meets : QueueMeets d c j
  queue_meets = by_beyond h.beyond where
    by_beyond : Beyond d j.queue (drop j.known c) → QueueMeets d c j
    by_beyond (inl (inl none)) = inl (record {
      last = chain_last ∙ base_all d c j h none;
      none = no_own d j.known (drop j.known c) none;
    })
    by_beyond (inl (inr (count, s))) =
        let holds : ops_by d s.revision ≡ take count j.queue = by_writer d s.revision s.writer ∙ ap ops_in s.deed in
        let size = length-take-le count j.queue s.few in
        let some : 0 < length (ops_by d s.revision) = (let e = ap length holds in let more = s.some in omega arith) in
        inr (meets_first count s.some s.few (ap (first_ops d) s.split ∙ first_at d [] s.revision s.rest refl some ∙ holds)
        (ap (ops_of d) s.split ∙ (λ i. holds i ++ s.none i) ∙ append_none (take count j.queue)))
    by_beyond (inr s) =
        let n = length j.queue in
        let holds : ops_by d s.revision ≡ take n j.queue = by_writer d s.revision s.writer ∙ ap ops_in s.deed ∙ sym (take_all n j.queue (omega arith)) in
        let size = length-take-le n j.queue (omega arith) in
        let some : 0 < length (ops_by d s.revision) = (let e = ap length holds in let more = s.some in omega arith) in
        inr (meets_first n s.some (omega arith) (ap (first_ops d) s.split ∙ first_at d s.front s.revision s.rest s.before some ∙ holds)
        (ap (ops_of d) s.split ∙ ops_append d s.front (s.revision ∷ s.rest) ∙ (λ i. s.before i ++ (holds i ++ s.none i)) ∙ append_none (take n j.queue)))

  pub not_foreign : IsForeign d c j → ⊥
  not_foreign (Later more) = (let le = h.within in omega arith)
  not_foreign (Unknown zero_is some) = (let from = h.started some in omega arith)
  not_foreign (Others other) = other h.own
  not_foreign (Apart apart) = apart queue_meets
  not_foreign (Unfit unfit) = unfit (over_known d c j h).meets.fit
