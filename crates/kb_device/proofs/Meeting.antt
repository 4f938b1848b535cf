-- The test whether a chain and a queue meet is the machine's.
use Rattle.std.proofs.Common.{◌≡◌, ℕ, zero, suc, ◌+◌, ◌<◌, ◌≤◌, Bool, true, false, List, [], ◌∷◌, length, map, drop, Option, Some, None, Result, Err, inl, inr, refl, sym, ap, subst, ◌∙◌, arith}
use Rattle.std.specs.Prelude.{◌&&◌, nat_le, nat_eq}
use Rattle.std.proofs.lemmas.Bool.{eqb-true, eq-eqb}
use Rattle.std.proofs.lemmas.Bool.Decides.{nat_tests}
use Rattle.std.proofs.lemmas.List.{length-drop}
use Rattle.kb_ops.specs.declared.rows.Op.{Op}
use Rattle.kb_snap.specs.Chains.{Chain, ops_of, seq_of_last, first_own}
use Rattle.kb_device.specs.Journals.{Journal, last_seq}
use Rattle.kb_snap.specs.Lawful.{CountsFrom, IsLawful}
use Rattle.kb_device.specs.Foreign.{first_ops, QueueMeets}
use Rattle.kb_snap.proofs.MadeIds.{last_counts}
use Rattle.kb_snap.proofs.Lawful.{ordered}
use Rattle.kb_device.specs.declared.past.Own.{Own}
use Rattle.kb_device.specs.declared.reading.ReadFault.{ReadFault}
use Rattle.kb_device.specs.declared.reading.ReadFault.TheVariants as read
use Rattle.kb_device.specs.declared.opening.StartFault.{StartFault}
use Rattle.kb_device.specs.Filling.{IfRead}
use Rattle.kb_device.specs.Past.{IsFirstOwn}
use Rattle.kb_device.specs.Opening.{meets, IsSound, fault_of, IfStarted}

one : (a b : Bool) → (a && b) ≡ true → a ≡ true
one true b h = refl
one false b h = cc

rest : (a b : Bool) → (a && b) ≡ true → b ≡ true
rest true b h = h
rest false b h = cc

both : (a b : Bool) → a ≡ true → b ≡ true → (a && b) ≡ true
both true b e h = h
both false b e h = cc

last_all : (ops : List Op) → CountsFrom 1 ops → seq_of_last ops ≡ length ops
last_all [] counts = refl
last_all (op ∷ ops) counts = (let e = last_counts 1 (op ∷ ops) (let some : 0 < length (op ∷ ops) = omega arith in some) counts in omega arith)

pub chain_last : (d : ℕ) (c : Chain) → IsLawful c → seq_of_last (ops_of d c) ≡ length (ops_of d c)
chain_last d c lawful = last_all (ops_of d c) (ordered d c lawful).counts

-- no operation of the device in the chain is behind a queue that meets it
pub meets_low : (d : ℕ) (c : Chain) (j : Journal) → IsLawful c → QueueMeets d c j → length (ops_of d c) ≤ last_seq j
meets_low d c j lawful (inl m) = (let e = chain_last d c lawful in let l = m.last in omega (arith, e, l))
meets_low d c j lawful (inr m) = (let e = chain_last d c lawful in let l = m.within in omega (arith, e, l))

none_long : (ops : List Op) → ops ≡ [] → 0 < length ops → ⊥
none_long ops e some = let n = ap length e in absurd (omega (arith, n, some))

none_found : (d n : ℕ) (c : Chain) (x : ℕ × ℕ) → first_own d n c ≡ Some x → first_own d n c ≡ None → ⊥
none_found d n c x some none = let bad : Some x ≡ None = sym some ∙ none in cc

-- the test says that they meet
pub meets_so : (d : ℕ) (c : Chain) (j : Journal) (own : Option Own) (last : ℕ) → IsFirstOwn d j.known (drop j.known c) own → last ≡ seq_of_last (ops_of d c) → meets own last j.base (last_seq j) ≡ true → QueueMeets d c j
meets_so d c j None last h is test = inl (record { last = sym is ∙ eqb-true last j.base test; none = h.none })
meets_so d c j (Some own) last h is test =
    let later = rest (nat_eq own.first (j.base + 1)) (nat_eq own.last last && nat_le last (last_seq j)) test in
    let within : last ≤ last_seq j = (let t = rest (nat_eq own.last last) (nat_le last (last_seq j)) later in grind (arith, nat_tests, t)) in
    inr (record {
      some = h.some;
      begins = h.begins ∙ eqb-true own.first (j.base + 1) (one (nat_eq own.first (j.base + 1)) _ test);
      reaches = h.ends ∙ eqb-true own.last last (one (nat_eq own.last last) _ later) ∙ is;
      within = subst (λ n. n ≤ last_seq j) is within;
    })

-- and where they meet it does
pub so_meets : (d : ℕ) (c : Chain) (j : Journal) (own : Option Own) (last : ℕ) → IsFirstOwn d j.known (drop j.known c) own → last ≡ seq_of_last (ops_of d c) → QueueMeets d c j → meets own last j.base (last_seq j) ≡ true
so_meets d c j None last h is (inl m) = eq-eqb last j.base (is ∙ m.last)
so_meets d c j None last h is (inr m) = absurd (none_long (first_ops d (drop j.known c)) h.empty m.some)
so_meets d c j (Some own) last h is (inl m) = absurd (none_found d j.known (drop j.known c) _ h.first m.none)
so_meets d c j (Some own) last h is (inr m) =
    let within : last ≤ last_seq j = subst (λ n. n ≤ last_seq j) (sym is) m.within in
    both (nat_eq own.first (j.base + 1)) (nat_eq own.last last && nat_le last (last_seq j)) (eq-eqb own.first (j.base + 1) (sym h.begins ∙ m.begins))
    (both (nat_eq own.last last) (nat_le last (last_seq j)) (eq-eqb own.last last (sym h.ends ∙ m.reaches ∙ sym is)) (grind (arith, nat_tests, within)))

pub is_sound : (d known len : ℕ) (c : Chain) (own : Option Own) → known ≤ len → len ≡ length c → IsFirstOwn d known (drop known c) own → IsSound known len own
is_sound d known len c None le size h = tt
is_sound d known len c (Some own) le size h = (h.beyond, (let w = h.within in let l = length-drop known c in omega (arith, w, l, size, le)), h.ordered)

pub fault_started : {X Y : Type 0} (fault : ReadFault) (number : ℕ) (r : StartFault) (P : X → Type 0) (Q : Y → Type 0) (R : Type 0) → r ≡ fault_of fault number → (let x : Result X ReadFault = Err fault in IfRead x P) → (let y : Result Y StartFault = Err r in IfStarted y Q R)
fault_started {X} {Y} read.Memory number r P Q R e h = subst (λ (z : StartFault). let y : Result Y StartFault = Err z in IfStarted y Q R) (sym e) tt
fault_started read.BadFolder number r P Q R e h = absurd h

pub map_behind : {A B : Type 0} (h : A → B) (n : ℕ) (l : List A) → map h (drop n l) ≡ drop n (map h l)
map_behind h zero l = refl
map_behind h (suc n) [] = refl
map_behind h (suc n) (x ∷ l) = map_behind h n l
