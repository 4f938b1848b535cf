-- What a power cut leaves, place by place and page by page.
use Rattle.std.proofs.Common.{◌≡◌, ◌≢◌, ◌<◌, ◌+◌, ◌-◌, ◌*◌, ◌/◌, ◌%◌, ℕ, Bool, true, false, List, [], ◌∷◌, None, Option, cond, ltb, length, get_or, refl, sym, ap, ◌∙◌, arith, inl, inr}
use Rattle.std.specs.Prelude.{◌&&◌}
use Rattle.std.proofs.lemmas.Bool.{cases_lt}
use Rattle.std.proofs.lemmas.Bool.Decides.{nat_tests, eqb_tells}
use Rattle.kb_edge.specs.Disk.{within}
use Rattle.kb_edge.specs.declared.disk.Pick.{Pick}
use Rattle.kb_edge.specs.declared.disk.Pick.TheVariants as picks
use Rattle.kb_memdisk.specs.Cells.{now_at, stable_at, dirty_at, row, is_dirty, picked}
use Rattle.kb_memdisk.specs.Pages.{byte_or, is_there}
use Rattle.kb_memdisk.proofs.Places.{in_part, not_before, not_behind, dirty_none}
use Rattle.kb_memdisk.proofs.Rowed.{row_at, dirty_row}

-- what a power cut leaves in the places of these pages
abbrev pub left_at : Pick → (ℕ → Option (List ℕ)) → (ℕ → Option (List ℕ)) → (ℕ → Option (List ℕ)) → ℕ → ℕ
left_at pick flags kept now place = picked pick (dirty_at flags place) (stable_at now kept place) (now_at now place) place

-- it is told by what is there now in that place
pub left_same : (pick : Pick) (flags kept f h : ℕ → Option (List ℕ)) (place : ℕ) → now_at f place ≡ now_at h place → left_at pick flags kept f place ≡ left_at pick flags kept h place
unfolding stable_at
left_same pick flags kept f h place same = ap (λ n. picked pick (dirty_at flags place) (byte_or (kept (place / 512)) (place % 512) n) n place) same

-- one more place of a page
pub cut_more : (pick : Pick) (flags kept f g h : ℕ → Option (List ℕ)) (page k left : ℕ)
    → ((i : ℕ) → now_at f i ≡ cond (within (512 * page) k i) (left_at pick flags kept h i) (now_at h i))
    → left ≡ left_at pick flags kept f (512 * page + k)
    → ((i : ℕ) → now_at g i ≡ cond (within (512 * page + k) 1 i) (get_or (left ∷ []) (i - (512 * page + k)) 0) (now_at f i))
    → (i : ℕ) → now_at g i ≡ cond (within (512 * page) (k + 1) i) (left_at pick flags kept h i) (now_at h i)
cut_more pick flags kept f g h page k left was is put i =
    put i ∙ elim (cases_lt i (512 * page + k)) [
      | inl before ↦ rw (not_before (512 * page + k) 1 i before) (was i ∙ elim (cases_lt i (512 * page)) [
        | inl front ↦ rw (not_before (512 * page) k i front, not_before (512 * page) (k + 1) i front) refl
        | inr behind ↦ rw (in_part (512 * page) k i behind before, in_part (512 * page) (k + 1) i behind (omega (arith, before))) refl
      ])
      | inr behind ↦ elim (cases_lt (512 * page + k) i) [
        | inl past ↦ rw (not_behind (512 * page + k) 1 i (omega (arith, past)), not_behind (512 * page) (k + 1) i (omega (arith, past))) (was i ∙ rw (not_behind (512 * page) k i (omega (arith, past))) refl)
        | inr not ↦
            let at : 512 * page + k ≡ i = omega (arith, not, behind) in
            let old : now_at f i ≡ now_at h i = was i ∙ rw (not_behind (512 * page) k i behind) refl in
            rw (in_part (512 * page + k) 1 i behind (omega (arith, at)), in_part (512 * page) (k + 1) i (omega (arith, at)) (omega (arith, at)))
            (ap (λ j. get_or (left ∷ []) j 0) (zero i at) ∙ (is ∙ (ap (left_at pick flags kept f) at ∙ left_same pick flags kept f h i old)))
      ]
    ]
  where
    zero : (i : ℕ) → 512 * page + k ≡ i → i - (512 * page + k) ≡ 0
    zero i at = omega (arith, at)

-- whether a page is there, and among the first of those that are
abbrev pub is_among : List ℕ → List ℕ → ℕ → ℕ → Bool
is_among seats order index page = is_there seats order page && ltb (get_or seats page 0) index

cond_both : (b d : Bool) (x y : ℕ) → b ≡ d → cond b x y ≡ cond d x y
cond_both b d x y e = ap (λ t. cond t x y) e

-- one more page
pub cut_page_more : (pick : Pick) (flags kept f g h : ℕ → Option (List ℕ)) (seats order : List ℕ) (index page : ℕ)
    → index < length order → get_or order index 0 ≡ page → get_or seats page 0 ≡ index
    → ((i : ℕ) → now_at f i ≡ cond (is_among seats order index (i / 512)) (left_at pick flags kept h i) (now_at h i))
    → ((i : ℕ) → now_at g i ≡ cond (within (512 * page) 512 i) (left_at pick flags kept f i) (now_at f i))
    → (i : ℕ) → now_at g i ≡ cond (is_among seats order (index + 1) (i / 512)) (left_at pick flags kept h i) (now_at h i)
cut_page_more pick flags kept f g h seats order index page lt at seat was put i =
    elim (eqb_tells (i / 512) page) [
      | inl same ↦
          let is : i / 512 ≡ page = same.1 in
          let among : is_among seats order index (i / 512) ≡ false = rw is (rw seat (grind (arith, nat_tests))) in
          let among' : is_among seats order (index + 1) (i / 512) ≡ true = rw is (rw (seat, at) (grind (arith, nat_tests))) in
          let old : now_at f i ≡ now_at h i = was i ∙ rw among refl in
          put i ∙ rw (in_part (512 * page) 512 i (omega (arith, is)) (omega (arith, is)), among') (left_same pick flags kept f h i old)
      | inr apart ↦
          let out : within (512 * page) 512 i ≡ false = grind (arith, nat_tests, outside i apart.1) in
          let same : is_among seats order index (i / 512) ≡ is_among seats order (index + 1) (i / 512) = same_among (i / 512) apart.1 in
          put i ∙ rw out (was i ∙ cond_both _ _ _ _ same)
    ]
  where
    outside : (i : ℕ) → i / 512 ≢ page → (within (512 * page) 512 i ≡ false)
    outside i apart = elim (cases_lt i (512 * page)) [
      | inl before ↦ not_before (512 * page) 512 i before
      | inr behind ↦ not_behind (512 * page) 512 i (omega (arith, behind, apart))
    ]

    same_among : (q : ℕ) → q ≢ page → is_among seats order index q ≡ is_among seats order (index + 1) q
    same_among q apart = elim (cases_lt (get_or seats q 0) index) [
      | inl before ↦ grind (arith, nat_tests)
      | inr behind ↦ elim (cases_lt index (get_or seats q 0)) [
        | inl past ↦ grind (arith, nat_tests)
        | inr not ↦
            let is : get_or seats q 0 ≡ index = omega (arith, not, behind) in
            let none : is_there seats order q ≡ false = rw (is, at) (grind (arith, nat_tests)) in
            rw none refl
      ]
    ]

-- all pages
pub cut_all : (pick : Pick) (flags kept f h : ℕ → Option (List ℕ)) (seats order : List ℕ) (index : ℕ)
    → index ≡ length order
    → ((q : ℕ) → is_there seats order q ≡ false → flags q ≡ None)
    → ((i : ℕ) → now_at f i ≡ cond (is_among seats order index (i / 512)) (left_at pick flags kept h i) (now_at h i))
    → (i : ℕ) → now_at f i ≡ left_at pick flags kept h i
cut_all pick flags kept f h seats order index end none all i = all i ∙ by (is_there seats order (i / 512)) refl
  where
    clean : (p : Pick) (s n : ℕ) → n ≡ picked p false s n i
    clean picks.Old s n = refl
    clean picks.New s n = refl
    clean picks.Noise s n = refl

    by : (b : Bool) → is_there seats order (i / 512) ≡ b → cond (is_among seats order index (i / 512)) (left_at pick flags kept h i) (now_at h i) ≡ left_at pick flags kept h i
    by true e =
        let among : is_among seats order index (i / 512) ≡ true = grind (arith, nat_tests) in
        rw among refl
    by false e = rw e (clean pick (stable_at h kept i) (now_at h i) ∙ ap (λ d. picked pick d (stable_at h kept i) (now_at h i) i) (sym (dirty_none flags i (none (i / 512) e))))

-- the same, of the rows
pub rows_picked : (pick : Pick) (flags kept now : ℕ → Option (List ℕ)) (size place : ℕ) → place < size → picked pick (is_dirty (row (dirty_at flags) size) place) (get_or (row (stable_at now kept) size) place 0) (get_or (row (now_at now) size) place 0) place ≡ left_at pick flags kept now place
rows_picked pick flags kept now size place lt =
    ap (λ d. picked pick d (get_or (row (stable_at now kept) size) place 0) (get_or (row (now_at now) size) place 0) place) (dirty_row (dirty_at flags) size place lt)
    ∙ (ap (λ s. picked pick (dirty_at flags place) s (get_or (row (now_at now) size) place 0) place) (row_at (stable_at now kept) size place 0 lt)
    ∙ ap (λ n. picked pick (dirty_at flags place) (stable_at now kept place) n place) (row_at (now_at now) size place 0 lt))
