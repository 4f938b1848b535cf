-- A device that meets a lawful chain keeps what it acknowledged.
use Rattle.std.proofs.Common.{◌≡◌, ℕ, ◌+◌, ◌-◌, ◌≤◌, List, [], ◌∷◌, ◌++◌, length, take, drop, inl, inr, refl, sym, ap, ◌∙◌, subst, arith, append_assoc, length-append}
use Rattle.std.proofs.lemmas.List.{take-append-drop, length-take-le, take_all}
use Rattle.std.proofs.lemmas.List.Elements.{All-weaker}
use Rattle.kb_ops.specs.declared.rows.Op.{Op}
use Rattle.kb_snap.specs.Chains.{Revision, Chain, ops_in, ops_by, ops_of, count_own, own_count}
use Rattle.kb_device.specs.Journals.{Journal, last_seq}
use Rattle.kb_device.specs.Parts.{Part, acknowledged_at}
use Rattle.kb_snap.specs.Lawful.{IsLawful}
use Rattle.kb_device.specs.Meets.{Beyond, Meets, held, PartMeets, Acknowledges}
use Rattle.kb_device.specs.Owned.{Owns, IsOwned}
use Rattle.kb_device.specs.PartLaws.{HasOneBeyond}
use Rattle.kb_snap.proofs.Lists.{append_none, drop_front, cut}
use Rattle.kb_snap.proofs.Chains.{ops_append, by_writer, none_left, none_right}
use Rattle.kb_snap.proofs.Lawful.{ordered}
use Rattle.kb_device.proofs.PartLonger.{all_both}

-- what stands beyond the known revision is the first of the queue
pub record Landed (d : ℕ) (c : Chain) (j : Journal) : Type 0 where
  pub count : ℕ
  pub few : count ≤ length j.queue
  pub ops : ops_of d c ≡ ops_of d (take j.known c) ++ take count j.queue

beyond_ops : (d : ℕ) (queue : List Op) (c : Chain) → Beyond d queue c → (count : ℕ) × (count ≤ length queue) × (ops_of d c ≡ take count queue)
beyond_ops d queue c (inl (inl none)) = (0, (omega arith), none)
beyond_ops d queue c (inl (inr (count, s))) =
    (count, s.few, ap (ops_of d) s.split ∙ (λ i. by_writer d s.revision s.writer i ++ s.none i) ∙ append_none (ops_in s.revision.deed) ∙ ap ops_in s.deed)
beyond_ops d queue c (inr s) = (
  length queue,
  (omega arith),
  ap (ops_of d) s.split ∙ ops_append d s.front (s.revision ∷ s.rest)
      ∙ (λ i. s.before i ++ (by_writer d s.revision s.writer i ++ s.none i)) ∙ append_none (ops_in s.revision.deed) ∙ ap ops_in s.deed ∙ sym (take_all (length queue) queue (omega arith)),
)

pub landed : (d : ℕ) (c : Chain) (j : Journal) → Meets d c j → Landed d c j
landed d c j h =
    let b = beyond_ops d j.queue (drop j.known c) h.beyond in
    record {
      count = b.0;
      few = b.1;
      ops = ap (ops_of d) (cut j.known c) ∙ ops_append d (take j.known c) (drop j.known c) ∙ ap (λ l. ops_of d (take j.known c) ++ l) b.2;
    }

-- so no operation of the device in the chain is a later one
pub landed_length : (d : ℕ) (c : Chain) (j : Journal) → Meets d c j → length (ops_of d c) ≤ last_seq j
landed_length d c j h =
    let l = landed d c j h in
    let e = ap length l.ops in
    let a = length-append (ops_of d (take j.known c)) (take l.count j.queue) in
    let b = length-take-le l.count j.queue l.few in
    let base = h.base in
    let few = l.few in
    omega arith

pub owns : (d : ℕ) (c : Chain) (j : Journal) (acknowledged : List Op) → IsLawful c → Meets d c j → held d c j ≡ acknowledged → Owns (ops_of d c) acknowledged j
owns d c j acknowledged lawful h is =
    let l = landed d c j h in
    let front = ops_of d (take j.known c) in
    let a = length-append front (take l.count j.queue) in
    let b = length-take-le l.count j.queue l.few in
    let all = ap length l.ops in
    let base = h.base in
    let few = l.few in
    let count : length (ops_of d c) - j.base ≡ l.count = omega arith in
    record {
      landed_count = (ordered d c lawful).counts;
      queue_counts = h.counts;
      begins = omega arith;
      ends = landed_length d c j h;
      twice = ap (λ n. take n j.queue) count ∙ sym (ap (drop j.base) l.ops ∙ drop_front front (take l.count j.queue) j.base (sym h.base));
      once = (λ i. l.ops i ++ drop (count i) j.queue) ∙ append_assoc front (take l.count j.queue) (drop l.count j.queue) ∙ ap (λ q. front ++ q) (take-append-drop l.count j.queue) ∙ is;
    }

pub is_owned : (d : ℕ) (c : Chain) (p : Part) → IsLawful c → PartMeets d c p → Acknowledges d c p → IsOwned d c p
is_owned d c p lawful h a = record {
  some = h.some;
  owns = All-weaker (λ j. Meets d c j × (held d c j ≡ acknowledged_at p j)) (λ j. Owns (ops_of d c) (acknowledged_at p j) j) (λ j m. owns d c j (acknowledged_at p j) lawful m.0 m.1) p.may
      (all_both (Meets d c) (λ j. held d c j ≡ acknowledged_at p j) p.may h.may a.held);
}

-- ---- what stands beyond the known revision

none_count : (d : ℕ) (c : Chain) → ops_of d c ≡ [] → own_count d c ≡ 0
none_count d [] e = refl
none_count d (x ∷ c) e = ap (λ ops. count_own ops (own_count d c)) (none_left (ops_by d x) (ops_of d c) e) ∙ none_count d c (none_right (ops_by d x) (ops_of d c) e)

some_count : (ops : List Op) (n : ℕ) → count_own ops n ≤ n + 1
some_count [] n = omega arith
some_count (op ∷ ops) n = omega arith

one_count : (d : ℕ) (front : Chain) (x : Revision) (rest : Chain) → ops_of d front ≡ [] → ops_of d rest ≡ [] → own_count d (front ++ x ∷ rest) ≤ 1
one_count d [] x rest before none = (let e = none_count d rest none in let le = some_count (ops_by d x) (own_count d rest) in omega arith)
one_count d (y ∷ front) x rest before none =
    subst (λ ops. count_own ops (own_count d (front ++ x ∷ rest)) ≤ 1) (sym (none_left (ops_by d y) (ops_of d front) before)) (one_count d front x rest (none_right (ops_by d y) (ops_of d front) before) none)

beyond_count : (d : ℕ) (queue : List Op) (c : Chain) → Beyond d queue c → own_count d c ≤ 1
beyond_count d queue c (inl (inl none)) = (let e = none_count d c none in omega arith)
beyond_count d queue c (inl (inr (count, s))) = subst (λ l. own_count d l ≤ 1) (sym s.split) (one_count d [] s.revision s.rest refl s.none)
beyond_count d queue c (inr s) = subst (λ l. own_count d l ≤ 1) (sym s.split) (one_count d s.front s.revision s.rest s.before s.none)

pub has_one : (d : ℕ) (c : Chain) (j : Journal) → Meets d c j → HasOneBeyond d c j
has_one d c j h = record {
  one = beyond_count d j.queue (drop j.known c) h.beyond;
  ops = sym (ap (drop j.base) (ap (ops_of d) (cut j.known c) ∙ ops_append d (take j.known c) (drop j.known c)) ∙ drop_front (ops_of d (take j.known c)) (ops_of d (drop j.known c)) j.base (sym h.base));
}
