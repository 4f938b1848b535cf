-- Values for each place of a disk, and bytes that are written or picked part by part.
use Rattle.std.proofs.Common.{◌≡◌, ◌≤◌, ◌<◌, ◌+◌, ◌-◌, ℕ, Bool, true, false, List, cond, length, replicate, get_or, refl, sym, ap, subst, ◌∙◌, arith, inl, inr}
use Rattle.std.specs.Prelude.{◌||◌, slice_range}
use Rattle.std.proofs.lemmas.Bool.{cases_lt}
use Rattle.std.proofs.lemmas.List.{ext_get_or, get_or_past, get_or-replicate, length-replicate}
use Rattle.std.proofs.lemmas.List.FromFn.{length-map-range_with_len, get_or-map-range_with_len}
use Rattle.kb_edge.specs.Disk.{within, overlay}
use Rattle.kb_memdisk.specs.Cells.{row, is_dirty}
use Rattle.kb_memdisk.proofs.Overlaid.{slice_size, slice_at, overlay_size, overlay_here, overlay_before, overlay_behind}
use Rattle.kb_memdisk.proofs.Places.{in_part, not_before, not_behind}

pub row_size : {X : Type 0} (f : ℕ → X) (n : ℕ) → length (row f n) ≡ n
unfolding row
row_size f n = length-map-range_with_len f 0 n

pub row_at : {X : Type 0} (f : ℕ → X) (n i : ℕ) (d : X) → i < n → get_or (row f n) i d ≡ f i
unfolding row
row_at f n i d lt = get_or-map-range_with_len f 0 n i i d lt (omega arith)

-- a row is a list that has its values
pub row_is : {X : Type 0} (f : ℕ → X) (n : ℕ) (xs : List X) (d : X) → length xs ≡ n → ((i : ℕ) → i < n → f i ≡ get_or xs i d) → row f n ≡ xs
row_is f n xs d size same = ext_get_or d (row f n) xs (row_size f n ∙ sym size) (λ i lt.
    let k : i < n = omega (arith, lt, row_size f n) in
    row_at f n i d k ∙ same i k)

pub row_same : {X : Type 0} (f g : ℕ → X) (n : ℕ) (d : X) → ((i : ℕ) → f i ≡ g i) → row f n ≡ row g n
row_same f g n d same = row_is f n (row g n) d (row_size g n) (λ i lt. same i ∙ sym (row_at g n i d lt))

pub row_put : (f g : ℕ → ℕ) (n' n at done : ℕ) (part : List ℕ) → n' ≡ n → done ≡ length part → at + length part ≤ n → ((i : ℕ) → f i ≡ cond (within at done i) (get_or part (i - at) 0) (g i)) → row f n' ≡ overlay (row g n) at part
row_put f g n' n at done part same all fits so_far =
    let put : (i : ℕ) → f i ≡ cond (within at (length part) i) (get_or part (i - at) 0) (g i) = λ i. subst (λ d. f i ≡ cond (within at d i) (get_or part (i - at) 0) (g i)) all (so_far i) in
    ap (row f) same ∙
    let room : at + length part ≤ length (row g n) = omega (arith, fits, row_size g n) in
    row_is f n (overlay (row g n) at part) 0 (overlay_size (row g n) part at room ∙ row_size g n) (λ i lt.
    put i ∙ elim (cases_lt i at) [
      | inl before ↦ rw (not_before at (length part) i before) (sym (overlay_before (row g n) part at room i before ∙ row_at g n i 0 lt))
      | inr behind ↦ elim (cases_lt i (at + length part)) [
        | inl here ↦ rw (in_part at (length part) i behind here) (sym (overlay_here (row g n) part at room i (i - at) (omega (arith, behind)) (omega (arith, behind, here))))
        | inr past ↦ rw (not_behind at (length part) i past) (sym (overlay_behind (row g n) part at room i past ∙ row_at g n i 0 lt))
      ]
    ])

pub dirty_row : (f : ℕ → Bool) (n place : ℕ) → place < n → is_dirty (row f n) place ≡ f place
dirty_row f n place lt = row_at f n place false lt

pub clean_row : (f : ℕ → Bool) (n place : ℕ) → ((i : ℕ) → f i ≡ false) → is_dirty (row f n) place ≡ false
clean_row f n place clean = elim (cases_lt place n) [
  | inl lt ↦ dirty_row f n place lt ∙ clean place
  | inr le ↦ get_or_past (row f n) place false (omega (arith, le, row_size f n))
]

pub dirty_more : (f g : ℕ → Bool) (n' n at done size place : ℕ) → n' ≡ n → done ≡ size → at + size ≤ n → ((i : ℕ) → f i ≡ (g i || within at done i)) → is_dirty (row f n') place ≡ (is_dirty (row g n) place || within at size place)
dirty_more f g n' n at done size place same all fits so_far =
    let more : (i : ℕ) → f i ≡ (g i || within at size i) = λ i. subst (λ d. f i ≡ (g i || within at d i)) all (so_far i) in
    ap (λ k. is_dirty (row f k) place) same ∙ elim (cases_lt place n) [
      | inl lt ↦ dirty_row f n place lt ∙ (more place ∙ ap (λ b. b || within at size place) (sym (dirty_row g n place lt)))
      | inr le ↦
          get_or_past (row f n) place false (omega (arith, le, row_size f n))
          ∙ sym (ap (λ b. b || within at size place) (get_or_past (row g n) place false (omega (arith, le, row_size g n))) ∙ rw (not_behind at size place (omega (arith, le, fits))) refl)
    ]

pub zeros_row : {X : Type 0} (f : ℕ → X) (n : ℕ) (x : X) → ((i : ℕ) → f i ≡ x) → row f n ≡ replicate n x
zeros_row f n x all = row_is f n (replicate n x) x (length-replicate n x) (λ i lt. all i ∙ sym (get_or-replicate n i x x lt))

pub read_row : (f : ℕ → ℕ) (n at m : ℕ) (into : List ℕ) → length into ≡ m → at + m ≤ n → ((k : ℕ) → k < length into → get_or into k 0 ≡ f (at + k)) → into ≡ slice_range (row f n) at (at + m)
read_row f n at m into is room read =
    let fits : at + length into ≤ n = omega (arith, is, room) in
    subst (λ k. into ≡ slice_range (row f n) at (at + k)) is (
    let size : length (slice_range (row f n) at (at + length into)) ≡ length into = omega (arith, slice_size (row f n) at (at + length into) (omega (arith, fits, row_size f n))) in
    ext_get_or 0 into (slice_range (row f n) at (at + length into)) (sym size) (λ k lt.
    read k lt ∙ sym (slice_at (row f n) at (at + length into) k (at + k) (omega (arith, lt)) refl ∙ row_at f n (at + k) 0 (omega (arith, lt, fits)))))

-- a part more is written, read or marked
pub put_more : (f g h : ℕ → ℕ) (at done n : ℕ) (bytes : List ℕ) → done + n ≤ length bytes
    → ((i : ℕ) → f i ≡ cond (within at done i) (get_or bytes (i - at) 0) (h i))
    → ((i : ℕ) → g i ≡ cond (within (at + done) (length (slice_range bytes done (done + n))) i) (get_or (slice_range bytes done (done + n)) (i - (at + done)) 0) (f i))
    → (i : ℕ) → g i ≡ cond (within at (done + n) i) (get_or bytes (i - at) 0) (h i)
put_more f g h at done n bytes fits was put i =
    let size : length (slice_range bytes done (done + n)) ≡ n = omega (arith, slice_size bytes done (done + n) fits) in
    put i ∙ rw size (elim (cases_lt i (at + done)) [
      | inl before ↦ rw (not_before (at + done) n i before) (was i ∙ elim (cases_lt i at) [
        | inl front ↦ rw (not_before at done i front, not_before at (done + n) i front) refl
        | inr behind ↦ rw (in_part at done i behind before, in_part at (done + n) i behind (omega (arith, before))) refl
      ])
      | inr behind ↦ elim (cases_lt i (at + done + n)) [
        | inl here ↦ rw (in_part (at + done) n i behind here, in_part at (done + n) i (omega (arith, behind)) (omega (arith, here))) (slice_at bytes done (done + n) (i - (at + done)) (i - at) (omega (arith, behind, here)) (omega (arith, behind)))
        | inr past ↦ rw (not_behind (at + done) n i past, not_behind at (done + n) i (omega (arith, past))) (was i ∙ rw (not_behind at done i (omega (arith, past))) refl)
      ]
    ])

pub mark_more : (f g h : ℕ → Bool) (at done n' n : ℕ) → n' ≡ n → ((i : ℕ) → f i ≡ (h i || within at done i)) → ((i : ℕ) → g i ≡ (f i || within (at + done) n' i)) → (i : ℕ) → g i ≡ (h i || within at (done + n) i)
mark_more f g h at done n' n same was marked i =
    marked i ∙ ap (λ k. f i || within (at + done) k i) same ∙ rw (was i) (elim (cases_lt i (at + done)) [
      | inl before ↦ rw (not_before (at + done) n i before) (elim (cases_lt i at) [
        | inl front ↦ rw (not_before at done i front, not_before at (done + n) i front) (twice (h i))
        | inr behind ↦ rw (in_part at done i behind before, in_part at (done + n) i behind (omega (arith, before))) (end (h i || true))
      ])
      | inr behind ↦ elim (cases_lt i (at + done + n)) [
        | inl here ↦ rw (in_part (at + done) n i behind here, in_part at (done + n) i (omega (arith, behind)) (omega (arith, here))) (all (h i) (within at done i))
        | inr past ↦ rw (not_behind (at + done) n i past, not_behind at (done + n) i (omega (arith, past)), not_behind at done i (omega (arith, past))) (twice (h i))
      ]
    ])
  where
    end : (b : Bool) → (b || false) ≡ b
    end true = refl
    end false = refl

    twice : (b : Bool) → ((b || false) || false) ≡ (b || false)
    twice true = refl
    twice false = refl

    all : (b d : Bool) → ((b || d) || true) ≡ (b || true)
    all true d = refl
    all false true = refl
    all false false = refl

pub none_marked : (h : ℕ → Bool) (at i : ℕ) → h i ≡ (h i || within at 0 i)
none_marked h at i = elim (cases_lt i at) [
  | inl before ↦ rw (not_before at 0 i before) (or_false (h i))
  | inr behind ↦ rw (not_behind at 0 i (omega (arith, behind))) (or_false (h i))
]
  where
    or_false : (b : Bool) → b ≡ (b || false)
    or_false true = refl
    or_false false = refl

pub none_put : (h : ℕ → ℕ) (at i : ℕ) (bytes : List ℕ) → h i ≡ cond (within at 0 i) (get_or bytes (i - at) 0) (h i)
none_put h at i bytes = elim (cases_lt i at) [
  | inl before ↦ rw (not_before at 0 i before) refl
  | inr behind ↦ rw (not_behind at 0 i (omega (arith, behind))) refl
]

-- bytes over all of a list are these bytes
pub overlay_whole : (xs ys : List ℕ) → length xs ≡ length ys → overlay xs 0 ys ≡ ys
overlay_whole xs ys size =
    let fits : 0 + length ys ≤ length xs = omega (arith, size) in
    ext_get_or 0 (overlay xs 0 ys) ys (overlay_size xs ys 0 fits ∙ size) (λ i lt. overlay_here xs ys 0 fits i i (omega arith) (omega (arith, lt, size, overlay_size xs ys 0 fits)))
