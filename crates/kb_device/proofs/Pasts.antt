-- A device's role and its own revisions, as they are read one after another.
use Rattle.std.proofs.Common.{◌≡◌, ℕ, zero, suc, ◌+◌, ◌-◌, ◌<◌, ◌≤◌, true, false, List, [], ◌∷◌, length, drop, Option, Some, None, refl, sym, ap, subst, ◌∙◌, arith}
use Rattle.std.specs.Prelude.{reverse}
use Rattle.std.proofs.lemmas.List.{length-reverse}
use Rattle.kb_ops.specs.declared.rows.Op.{Op}
use Rattle.kb_keys.specs.declared.policy.Role.{Role}
use Rattle.kb_snap.specs.Chains as plain
use Rattle.kb_snap.specs.Chains.{Chain, ops_by, own_first, first_own, seq_of_last}
use Rattle.kb_snap.specs.Chains.Deed.{Founded, Stepped, Merged, Rekeyed}
use Rattle.kb_snap.specs.Lawful.{CountsFrom}
use Rattle.kb_device.specs.Foreign.{own_or, first_ops, seq_of_first}
use Rattle.kb_snap.proofs.MadeIds.{last_counts}
use Rattle.kb_folder.specs.Chains.{Plain, Back, Place, places_of, role_in}
use Rattle.kb_folder.specs.Stands.{bundle_for}
use Rattle.kb_folder.proofs.Turning.{role_by, role_next}
use Rattle.kb_device.specs.declared.past.Own.{Own}
use Rattle.kb_device.specs.Past.{role_with, HasOwn, IsFirst, HasNone, IsFirstOwn}

by_deed : (sealed : List ℕ → List ℕ → List ℕ) (seed : List ℕ) (d w : ℕ) (deed : plain.Deed) (ps : List Place) (role : Option Role) → role_with d (bundle_for sealed seed w deed ps) role ≡ role_by w deed d role
by_deed sealed seed d w Founded ps role = refl
by_deed sealed seed d w (Stepped ops) ps role = refl
by_deed sealed seed d w (Merged base rule ops) ps role = refl
by_deed sealed seed d w (Rekeyed a who) ps role = refl

pub role_step : (sealed : List ℕ → List ℕ → List ℕ) (seed : List ℕ) (x : Plain) (c : Back) (d : ℕ) (role : Option Role) → role ≡ role_in c d → role_with d (bundle_for sealed seed x.writer x.deed (places_of (x ∷ c))) role ≡ role_in (x ∷ c) d
role_step sealed seed x c d role is = by_deed sealed seed d x.writer x.deed (places_of (x ∷ c)) role ∙ ap (role_by x.writer x.deed d) is ∙ sym (role_next x c d)

none_left : (c : Back) → drop (length c) c ≡ []
none_left [] = refl
none_left (x ∷ c) = none_left c

pub role_begin : (c : Back) (d : ℕ) → None ≡ role_in (drop (length c - 0) c) d
role_begin c d = sym (ap (λ n. role_in (drop n c) d) (let e : length c - 0 ≡ length c = omega arith in e) ∙ ap (λ l. role_in l d) (none_left c))

-- ---- the first revision of the device

first_of : (ops rest : List Op) → 0 < length ops → own_or ops rest ≡ ops
first_of [] rest some = absurd (omega arith)
first_of (op ∷ ops) rest some = refl

own_of : (n : ℕ) (ops : List Op) (rest : Option (ℕ × ℕ)) → 0 < length ops → own_first n ops rest ≡ Some (n, length ops)
own_of n [] rest some = absurd (omega arith)
own_of n (op ∷ ops) rest some = refl

begin_is : (n : ℕ) (ops : List Op) → 0 < length ops → CountsFrom n ops → seq_of_first ops ≡ n
begin_is n [] some counts = absurd (omega arith)
begin_is n (op ∷ ops) some counts = counts.0

pub own_here : (d n : ℕ) (x : Plain) (rest : Chain) (own : Own) → HasOwn d (n + 1) x own → IsFirst d n (x ∷ rest) own
own_here d n x rest own h =
    let all : first_ops d (x ∷ rest) ≡ ops_by d x = first_of (ops_by d x) (first_ops d rest) h.some in
    let last = last_counts own.first (ops_by d x) h.some h.counts in
    let size = h.size in
    let some = h.some in
    let number = h.number in
    let count : length (ops_by d x) ≡ own.last + 1 - own.first = omega (arith, size) in
    record {
      first = own_of (n + 1) (ops_by d x) (first_own d (n + 1) rest) h.some ∙ (λ i. Some (sym number i, count i));
      beyond = omega (arith, number);
      within = (let more : length (x ∷ rest) ≡ suc (length rest) = refl in omega (arith, number, more));
      some = subst (λ l. 0 < length l) (sym all) h.some;
      begins = ap seq_of_first all ∙ begin_is own.first (ops_by d x) h.some h.counts;
      ends = ap seq_of_last all ∙ (let e : seq_of_last (ops_by d x) ≡ own.last = omega (arith, last, size) in e);
      ordered = omega (arith, size, some);
    }

pub own_skip : (d n : ℕ) (x : Plain) (rest : Chain) (o : Option Own) → ops_by d x ≡ [] → IsFirstOwn d (n + 1) rest o → IsFirstOwn d n (x ∷ rest) o
own_skip d n x rest None none h = record { none = ap (λ l. own_first (n + 1) l (first_own d (n + 1) rest)) none ∙ h.none; empty = ap (λ l. own_or l (first_ops d rest)) none ∙ h.empty }
own_skip d n x rest (Some own) none h =
    let all : first_ops d (x ∷ rest) ≡ first_ops d rest = ap (λ l. own_or l (first_ops d rest)) none in
    let beyond = h.beyond in
    let within = h.within in
    record {
      first = ap (λ l. own_first (n + 1) l (first_own d (n + 1) rest)) none ∙ h.first;
      beyond = omega (arith, beyond);
      within = (let more : length (x ∷ rest) ≡ suc (length rest) = refl in omega (arith, within, more));
      some = subst (λ l. 0 < length l) (sym all) h.some;
      begins = ap seq_of_first all ∙ h.begins;
      ends = ap seq_of_last all ∙ h.ends;
      ordered = h.ordered;
    }

nothing_left : {A : Type 0} (n : ℕ) (l : List A) → length l ≤ n → drop n l ≡ []
nothing_left zero [] le = refl
nothing_left zero (x ∷ l) le = absurd (omega (arith, le))
nothing_left (suc n) [] le = refl
nothing_left (suc n) (x ∷ l) le = nothing_left n l (omega (arith, le))

pub own_end : (d n : ℕ) (c : Back) → length c ≤ n → IsFirstOwn d n (drop n (reverse c)) None
own_end d n c le = subst (λ l. HasNone d n l) (sym (nothing_left n (reverse c) (let e = length-reverse c in omega (arith, e, le)))) (record { none = refl; empty = refl })

pub clash : true ≡ false → ⊥
clash e = cc
