-- What stays where only some places may change.
use Rattle.std.proofs.Common.{◌≡◌, ℕ, ◌+◌, ◌≤◌, ◌<◌, Bool, false, List, [], ◌∷◌, ◌++◌, length, get_or, take, drop, sym, ap, ◌∙◌, arith, append_assoc, length-append}
use Rattle.std.proofs.lemmas.Bool.Decides.{nat_tests}
use Rattle.std.proofs.lemmas.List.{places, ext_get_or, take_at, drop_at, length-take, length-drop, get_or-take, get_or-drop}
use Rattle.kb_edge.specs.Disk.{within, overlay, MayLeave}

before : (at n p : ℕ) → p < at → within at n p ≡ false
before at n p lt = grind (arith, nat_tests)

behind : (at n p : ℕ) → at + n ≤ p → within at n p ≡ false
behind at n p le = grind (arith, nat_tests)

pub front_kept : (old image : List ℕ) (at n k : ℕ) → MayLeave old (within at n) image → k ≤ at → take k image ≡ take k old
front_kept old image at n k may le =
    ext_get_or 0 (take k image) (take k old) (omega (arith, length-take k image, length-take k old, may.size)) (λ i lt.
    let below : i < k = omega (arith, length-take k image) in
    get_or-take k image i 0 below ∙ may.kept i (before at n i (omega arith)) ∙ sym (get_or-take k old i 0 below))

pub back_kept : (old image : List ℕ) (at n k : ℕ) → MayLeave old (within at n) image → at + n ≤ k → drop k image ≡ drop k old
back_kept old image at n k may le =
    ext_get_or 0 (drop k image) (drop k old) (omega (arith, length-drop k image, length-drop k old, may.size)) (λ i lt.
    get_or-drop k image i 0 ∙ may.kept (k + i) (behind at n (k + i) (omega arith)) ∙ sym (get_or-drop k old i 0))

-- nothing changes where no place is dirty
pub all_kept : (now image : List ℕ) (dirty : ℕ → Bool) → MayLeave now dirty image → ((p : ℕ) → dirty p ≡ false) → image ≡ now
all_kept now image dirty may clean = ext_get_or 0 image now may.size (λ i lt. may.kept i (clean i))

-- ---- bytes that are overlay

pub length-overlay : (old : List ℕ) (at : ℕ) (bytes : List ℕ) → at + length bytes ≤ length old → length (overlay old at bytes) ≡ length old
length-overlay old at bytes le =
    simp (length-append, length-take, length-drop) (omega arith)

pub overlay_front : (old : List ℕ) (at : ℕ) (bytes : List ℕ) → at + length bytes ≤ length old → take at (overlay old at bytes) ≡ take at old
overlay_front old at bytes le =
    ap (λ (l : List ℕ). take at l) (append_assoc (take at old) bytes (drop (at + length bytes) old))
    ∙ take_at (take at old) (bytes ++ drop (at + length bytes) old) at (omega (arith, length-take at old))

pub overlay_behind : (old : List ℕ) (at : ℕ) (bytes : List ℕ) → at + length bytes ≤ length old → drop at (overlay old at bytes) ≡ bytes ++ drop (at + length bytes) old
overlay_behind old at bytes le =
    ap (λ (l : List ℕ). drop at l) (append_assoc (take at old) bytes (drop (at + length bytes) old))
    ∙ drop_at (take at old) (bytes ++ drop (at + length bytes) old) at (omega (arith, length-take at old))

-- only the range has changed
pub overlay_kept : (old : List ℕ) (at : ℕ) (bytes : List ℕ) → at + length bytes ≤ length old → MayLeave old (within at (length bytes)) (overlay old at bytes)
overlay_kept old at bytes le = record { size = length-overlay old at bytes le; kept = λ p clean. grind (arith, nat_tests, places) }

pub get_overlay : (old : List ℕ) (at b : ℕ) → at + 1 ≤ length old → get_or (overlay old at (b ∷ [])) at 0 ≡ b
get_overlay old at b le = grind (arith, places)
