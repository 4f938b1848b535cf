-- What stands at the places of a disk after a page was touched, kept, flagged or written.
use Rattle.std.proofs.Common.{◌≡◌, ◌≢◌, ◌≤◌, ◌<◌, ◌+◌, ◌-◌, ◌/◌, ◌%◌, ℕ, Bool, true, false, List, Some, None, Option, cond, eqb, ltb, length, replicate, get_or, refl, sym, ap, ◌∙◌, subst, arith, inl, inr}
use Rattle.std.specs.Prelude.{◌||◌, IsSome, is_some, slice_range}
use Rattle.std.specs.Borrow.{Bor}
use Rattle.std.specs.Option.{option_map}
use Rattle.std.proofs.lemmas.Bool.{cases_lt, false≢true, eq-eqb, eqb-true}
use Rattle.std.proofs.lemmas.Bool.Decides.{nat_tests, eqb_tells}
use Rattle.std.proofs.lemmas.List.{get_or_past, get_or-replicate, length-replicate}
use Rattle.kb_edge.specs.Disk.{within, overlay}
use Rattle.kb_memdisk.specs.Cells.{now_at, stable_at, dirty_at}
use Rattle.kb_memdisk.specs.Pages.{or_zeros, byte_or}
use Rattle.kb_memdisk.proofs.Overlaid.{slice_size, slice_at, overlay_here, overlay_before, overlay_behind}

zero_at : (k : ℕ) → get_or (replicate {A = ℕ} 512 0) k 0 ≡ 0
zero_at k = elim (cases_lt k 512) [
  | inl lt ↦ get_or-replicate {A = ℕ} 512 k 0 0 lt
  | inr le ↦ get_or_past (replicate {A = ℕ} 512 0) k 0 (omega (arith, le, length-replicate {A = ℕ} 512 0))
]

zeros_at : (page : Option (List ℕ)) (k : ℕ) → byte_or page k 0 ≡ get_or (or_zeros page) k 0
zeros_at None k = sym (zero_at k)
zeros_at (Some text) k = refl

-- whether a place is within a part, by cases
pub in_part : (at n place : ℕ) → at ≤ place → place < at + n → within at n place ≡ true
in_part at n place le lt = grind (arith, nat_tests)

pub not_before : (at n place : ℕ) → place < at → within at n place ≡ false
not_before at n place lt = grind (arith, nat_tests)

pub not_behind : (at n place : ℕ) → at + n ≤ place → within at n place ≡ false
not_behind at n place le = grind (arith, nat_tests)

module _ (f g : ℕ → Option (List ℕ)) (place : ℕ) (part : List ℕ)
    (put : (q : ℕ) → g q ≡ cond (eqb q (place / 512)) (Some (overlay (or_zeros (f (place / 512))) (place % 512) part)) (f q))
    (size : length (or_zeros (f (place / 512))) ≡ 512) (fits : place % 512 + length part ≤ 512) where
  f' : place % 512 + length part ≤ length (or_zeros (f (place / 512)))
  f' = omega (arith, size, fits)

  here : (other : ℕ) → other / 512 ≡ place / 512 → byte_or (g (other / 512)) (other % 512) 0 ≡ get_or (overlay (or_zeros (f (place / 512))) (place % 512) part) (other % 512) 0
  here other is =
      let page : g (place / 512) ≡ Some (overlay (or_zeros (f (place / 512))) (place % 512) part) = put (place / 512) ∙ by (eqb (place / 512) (place / 512)) (eq-eqb (place / 512) (place / 512) refl) in
      ap (λ q. byte_or (g q) (other % 512) 0) is ∙ ap (λ p. byte_or p (other % 512) 0) page
    where
      by : (b : Bool) → b ≡ true → cond b (Some (overlay (or_zeros (f (place / 512))) (place % 512) part)) (f (place / 512)) ≡ Some (overlay (or_zeros (f (place / 512))) (place % 512) part)
      by true e = refl
      by false e = absurd (false≢true e)

  there : (other : ℕ) → other / 512 ≢ place / 512 → g (other / 512) ≡ f (other / 512)
  there other apart = put (other / 512) ∙ by (eqb (other / 512) (place / 512)) (grind (arith, nat_tests))
    where
      by : (b : Bool) → b ≡ false → cond b (Some (overlay (or_zeros (f (place / 512))) (place % 512) part)) (f (other / 512)) ≡ f (other / 512)
      by false e = refl
      by true e = absurd (false≢true (sym e))

  -- what is written stands there, and all else stays
  pub byte_put : (other : ℕ) → byte_or (g (other / 512)) (other % 512) 0 ≡ cond (within place (length part) other) (get_or part (other - place) 0) (byte_or (f (other / 512)) (other % 512) 0)
  byte_put other =
      elim (eqb_tells (other / 512) (place / 512)) [
        | inl same ↦
            let is : other / 512 ≡ place / 512 = same.1 in
            let old : byte_or (f (other / 512)) (other % 512) 0 ≡ get_or (or_zeros (f (place / 512))) (other % 512) 0 = zeros_at (f (other / 512)) (other % 512) ∙ ap (λ p. get_or (or_zeros (f p)) (other % 512) 0) is in
            here other is ∙ elim (cases_lt other place) [
              | inl before ↦ rw (not_before place (length part) other before) (overlay_before (or_zeros (f (place / 512))) part (place % 512) f' (other % 512) (omega (arith, before, is)) ∙ sym old)
              | inr behind ↦ elim (cases_lt other (place + length part)) [
                | inl lt ↦ rw (in_part place (length part) other behind lt) (overlay_here (or_zeros (f (place / 512))) part (place % 512) f' (other % 512) (other - place) (omega (arith, behind, is)) (omega (arith, behind, lt)))
                | inr past ↦ rw (not_behind place (length part) other past) (overlay_behind (or_zeros (f (place / 512))) part (place % 512) f' (other % 512) (omega (arith, past, is)) ∙ sym old)
              ]
            ]
        | inr apart ↦
            ap (λ p. byte_or p (other % 512) 0) (there other apart.1) ∙ elim (cases_lt other place) [
              | inl before ↦ rw (not_before place (length part) other before) refl
              | inr behind ↦ rw (not_behind place (length part) other (omega (arith, behind, fits, apart.1))) refl
            ]
      ]

  pub now_put : (other : ℕ) → now_at g other ≡ cond (within place (length part) other) (get_or part (other - place) 0) (now_at f other)
  unfolding now_at
  now_put other = byte_put other

-- a touched page and one that was written then, as one step
pub both_steps : (f t g : ℕ → Option (List ℕ)) (page from : ℕ) (part : List ℕ)
    → ((q : ℕ) → t q ≡ cond (eqb q page) (Some (or_zeros (f page))) (f q))
    → ((q : ℕ) → g q ≡ cond (eqb q page) (option_map (λ text. overlay text from part) (t page)) (t q))
    → (q : ℕ) → g q ≡ cond (eqb q page) (Some (overlay (or_zeros (f page)) from part)) (f q)
both_steps f t g page from part touched put q = put q ∙ by (eqb q page) refl
  where
    at : t page ≡ Some (or_zeros (f page))
    at = touched page ∙ rw (eq-eqb page page refl) refl

    by : (b : Bool) → eqb q page ≡ b → cond b (option_map (λ text. overlay text from part) (t page)) (t q) ≡ cond b (Some (overlay (or_zeros (f page)) from part)) (f q)
    by true e = ap (option_map (λ text. overlay text from part)) at
    by false e = touched q ∙ rw e refl

-- flags that are set
pub dirty_put : (f g : ℕ → Option (List ℕ)) (place n : ℕ)
    → ((q : ℕ) → g q ≡ cond (eqb q (place / 512)) (Some (overlay (or_zeros (f (place / 512))) (place % 512) (replicate n 1))) (f q))
    → length (or_zeros (f (place / 512))) ≡ 512 → place % 512 + n ≤ 512
    → (other : ℕ) → dirty_at g other ≡ (dirty_at f other || within place n other)
unfolding dirty_at
dirty_put f g place n put size fits other =
    let len = length-replicate {A = ℕ} n 1 in
    let is : byte_or (g (other / 512)) (other % 512) 0 ≡ cond (within place n other) (get_or (replicate {A = ℕ} n 1) (other - place) 0) (byte_or (f (other / 512)) (other % 512) 0) =
    subst (λ k. byte_or (g (other / 512)) (other % 512) 0 ≡ cond (within place k other) (get_or (replicate {A = ℕ} n 1) (other - place) 0) (byte_or (f (other / 512)) (other % 512) 0)) len (byte_put f g place (replicate n 1) put size (omega (arith, len, fits)) other) in
    ap (ltb 0) is ∙ elim (cases_lt other place) [
      | inl before ↦ rw (not_before place n other before) (or_false (ltb 0 (byte_or (f (other / 512)) (other % 512) 0)))
      | inr behind ↦ elim (cases_lt other (place + n)) [
        | inl lt ↦ rw (in_part place n other behind lt, get_or-replicate {A = ℕ} n (other - place) 1 0 (omega (arith, behind, lt))) (or_true (ltb 0 (byte_or (f (other / 512)) (other % 512) 0)))
        | inr past ↦ rw (not_behind place n other past) (or_false (ltb 0 (byte_or (f (other / 512)) (other % 512) 0)))
      ]
    ]
  where
    or_false : (b : Bool) → b ≡ (b || false)
    or_false true = refl
    or_false false = refl

    or_true : (b : Bool) → true ≡ (b || true)
    or_true true = refl
    or_true false = refl

-- a page is kept as it is now, so what was there after the last sync is told as before
pub stable_kept : (n k k' : ℕ → Option (List ℕ)) (page : ℕ) (text : List ℕ) → k page ≡ None → ((q : ℕ) → k' q ≡ cond (eqb q page) (Some text) (k q)) → or_zeros (n page) ≡ text → (place : ℕ) → stable_at n k' place ≡ stable_at n k place
unfolding stable_at now_at
stable_kept n k k' page text none added is place = by (eqb (place / 512) page) refl
  where
    by : (b : Bool) → eqb (place / 512) page ≡ b → byte_or (k' (place / 512)) (place % 512) (byte_or (n (place / 512)) (place % 512) 0) ≡ byte_or (k (place / 512)) (place % 512) (byte_or (n (place / 512)) (place % 512) 0)
    by false e =
        let is' : k' (place / 512) ≡ k (place / 512) = added (place / 512) ∙ rw e refl in
        ap (λ p. byte_or p (place % 512) (byte_or (n (place / 512)) (place % 512) 0)) is'
    by true e =
        let same : place / 512 ≡ page = eqb-true (place / 512) page e in
        let is' : k' (place / 512) ≡ Some text = added (place / 512) ∙ rw e refl in
        ap (λ p. byte_or p (place % 512) (byte_or (n (place / 512)) (place % 512) 0)) is'
        ∙ (ap (λ t. get_or t (place % 512) 0) (sym is ∙ ap (λ p. or_zeros (n p)) (sym same))
        ∙ (sym (zeros_at (n (place / 512)) (place % 512))
        ∙ ap (λ p. byte_or p (place % 512) (byte_or (n (place / 512)) (place % 512) 0)) (sym (ap k same ∙ none))))

-- what is kept isn't told by what is there now
pub stable_put : (n n' k : ℕ → Option (List ℕ)) (place : ℕ) (part : List ℕ) → IsSome (k (place / 512)) → place % 512 + length part ≤ 512
    → ((other : ℕ) → now_at n' other ≡ cond (within place (length part) other) (get_or part (other - place) 0) (now_at n other))
    → (other : ℕ) → stable_at n' k other ≡ stable_at n k other
unfolding stable_at
stable_put n n' k place part some fits put other =
    elim (eqb_tells (other / 512) (place / 512)) [
      | inl same ↦ by (k (other / 512)) (subst (λ p. IsSome (k p)) (sym same.1) some)
      | inr apart ↦ ap (byte_or (k (other / 512)) (other % 512)) (put other ∙ elim (cases_lt other place) [
        | inl before ↦ rw (not_before place (length part) other before) refl
        | inr behind ↦ rw (not_behind place (length part) other (omega (arith, behind, fits, apart.1))) refl
      ])
    ]
  where
    by : (page : Option (List ℕ)) → IsSome page → byte_or page (other % 512) (now_at n' other) ≡ byte_or page (other % 512) (now_at n other)
    by (Some text) s = refl
    by None s = absurd (false≢true s)

-- a page that isn't found isn't there
pub missed : (found : Option (Bor (List ℕ))) (page : Option (List ℕ)) (b : Bool) → option_map (λ f. f.now) found ≡ page → b ≡ is_some found → b ≡ false → page ≡ None
missed None page b is some lacks = sym is
missed (Some x) page b is some lacks = absurd (false≢true (sym lacks ∙ some))

-- what is read of a page that is there, and of one that isn't
pub read_text : (n : ℕ → Option (List ℕ)) (place size done : ℕ) (text into into' : List ℕ) → n (place / 512) ≡ Some text → length text ≡ 512 → place % 512 + size ≤ 512 → done + size ≤ length into
    → into' ≡ overlay into done (slice_range text (place % 512) (place % 512 + size))
    → (k : ℕ) → get_or into' k 0 ≡ cond (within done size k) (now_at n (place + (k - done))) (get_or into k 0)
unfolding now_at
read_text n place size done text into into' is whole fits room put k =
    let part = slice_range text (place % 512) (place % 512 + size) in
    let len : length part ≡ size = omega (arith, slice_size text (place % 512) (place % 512 + size) (omega (arith, fits, whole))) in
    let r : done + length part ≤ length into = omega (arith, len, room) in
    ap (λ l. get_or l k 0) put ∙ elim (cases_lt k done) [
      | inl before ↦ rw (not_before done size k before) (overlay_before into part done r k before)
      | inr behind ↦ elim (cases_lt k (done + size)) [
        | inl here ↦
            let q : (place + (k - done)) / 512 ≡ place / 512 = omega (arith, behind, here, fits) in
            let m : (place + (k - done)) % 512 ≡ place % 512 + (k - done) = omega (arith, behind, here, fits) in
            rw (in_part done size k behind here) (overlay_here into part done r k (k - done) (omega (arith, behind)) (omega (arith, behind, here, len))
            ∙ (slice_at text (place % 512) (place % 512 + size) (k - done) (place % 512 + (k - done)) (omega (arith, behind, here)) refl
            ∙ sym (ap (λ p. byte_or p ((place + (k - done)) % 512) 0) (ap n q ∙ is) ∙ ap (λ i. get_or text i 0) m)))
        | inr past ↦ rw (not_behind done size k past) (overlay_behind into part done r k (omega (arith, past, len)))
      ]
    ]

pub read_zeros : (n : ℕ → Option (List ℕ)) (place size done : ℕ) (into into' : List ℕ) → n (place / 512) ≡ None → place % 512 + size ≤ 512 → done + size ≤ length into
    → into' ≡ overlay into done (replicate size 0)
    → (k : ℕ) → get_or into' k 0 ≡ cond (within done size k) (now_at n (place + (k - done))) (get_or into k 0)
unfolding now_at
read_zeros n place size done into into' is fits room put k =
    let len : length (replicate {A = ℕ} size 0) ≡ size = length-replicate {A = ℕ} size 0 in
    let r : done + length (replicate {A = ℕ} size 0) ≤ length into = omega (arith, len, room) in
    ap (λ l. get_or l k 0) put ∙ elim (cases_lt k done) [
      | inl before ↦ rw (not_before done size k before) (overlay_before into (replicate size 0) done r k before)
      | inr behind ↦ elim (cases_lt k (done + size)) [
        | inl here ↦
            let q : (place + (k - done)) / 512 ≡ place / 512 = omega (arith, behind, here, fits) in
            rw (in_part done size k behind here) (overlay_here into (replicate size 0) done r k (k - done) (omega (arith, behind)) (omega (arith, behind, here, len))
            ∙ (get_or-replicate {A = ℕ} size (k - done) 0 0 (omega (arith, behind, here))
            ∙ sym (ap (λ p. byte_or p ((place + (k - done)) % 512) 0) (ap n q ∙ is))))
        | inr past ↦ rw (not_behind done size k past) (overlay_behind into (replicate size 0) done r k (omega (arith, past, len)))
      ]
    ]

-- with nothing kept, what is there now is what was there after the last sync
pub stable_clear : (n k : ℕ → Option (List ℕ)) → ((q : ℕ) → k q ≡ None) → (place : ℕ) → stable_at n k place ≡ now_at n place
unfolding stable_at
stable_clear n k none place = ap (λ p. byte_or p (place % 512) (now_at n place)) (none (place / 512))

pub now_none : (n : ℕ → Option (List ℕ)) → ((q : ℕ) → n q ≡ None) → (place : ℕ) → now_at n place ≡ 0
unfolding now_at
now_none n none place = ap (λ p. byte_or p (place % 512) 0) (none (place / 512))

pub dirty_none : (n : ℕ → Option (List ℕ)) (place : ℕ) → n (place / 512) ≡ None → dirty_at n place ≡ false
unfolding dirty_at
dirty_none n place none = ap (λ p. ltb 0 (byte_or p (place % 512) 0)) none
