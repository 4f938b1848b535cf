-- How many blocks a range touches, part by part.
use Rattle.std.proofs.Common.{◌≡◌, ℕ, zero, suc, ◌+◌, ◌-◌, ◌*◌, ◌/◌, ◌<◌, ◌≤◌, min, max, ap, sym, subst, ◌∙◌, arith, inl, inr}
use Rattle.std.proofs.lemmas.Bool.{cases_lt}
use Rattle.std.proofs.lemmas.Bool.Decides.{nat_tests}
use Rattle.kb_files.specs.Files.{span}
use Rattle.kb_files.specs.Counts.{spread, touched}

pub spread_some : (each from to : ℕ) → from < to → spread each from to ≡ (to - 1) / each - from / each + 1
spread_some each from to h = grind (arith, nat_tests)

pub spread_none : (each from to : ℕ) → to ≤ from → spread each from to ≡ 0
spread_none each from to h = grind (arith, nat_tests)

-- a range up to a place, and the range behind it, where the numbers do it
pub spread_split : (each part from to : ℕ) → 0 < part
    → (from < part → part < to → (to - 1) / each - from / each + 1 ≡ ((part - 1) / each - from / each + 1) + ((to - part - 1) / each - (from - part) / each + 1))
    → (part ≤ from → from < to → (to - 1) / each - from / each + 1 ≡ (to - part - 1) / each - (from - part) / each + 1)
    → spread each from to ≡ spread each from (min to part) + spread each (from - part) (to - part)
spread_split each part from to some across behind = elim (cases_lt from to) as (λ _. spread each from to ≡ spread each from (min to part) + spread each (from - part) (to - part)) [
  | inr none ↦ spread_none each from to none ∙ sym (two 0 0 (spread_none each from (min to part) (omega arith)) (spread_none each (from - part) (to - part) (omega arith)))
  | inl more ↦ elim (cases_lt from part) as (λ _. spread each from to ≡ spread each from (min to part) + spread each (from - part) (to - part)) [
    | inr past ↦
        spread_some each from to more ∙ behind past more
        ∙ sym (two 0 _ (spread_none each from (min to part) (omega arith)) (spread_some each (from - part) (to - part) (omega arith)) ∙ zero_left _)
    | inl front ↦ elim (cases_lt part to) as (λ _. spread each from to ≡ spread each from (min to part) + spread each (from - part) (to - part)) [
      | inr within ↦
          let whole : min to part ≡ to = omega arith in
          sym (two (spread each from to) 0 (ap (spread each from) whole) (spread_none each (from - part) (to - part) (omega arith)) ∙ zero_right (spread each from to))
      | inl over ↦
          let cut : min to part ≡ part = omega arith in
          spread_some each from to more ∙ across front over
          ∙ sym (two _ _ (ap (spread each from) cut ∙ spread_some each from part front) (spread_some each (from - part) (to - part) (omega arith)))
    ]
  ]
]
  where
    two : (x y : ℕ) → {a b : ℕ} → a ≡ x → b ≡ y → a + b ≡ x + y
    two x y p q = cc

    zero_left : (n : ℕ) → 0 + n ≡ n
    zero_left n = omega arith

    zero_right : (n : ℕ) → n + 0 ≡ n
    zero_right n = omega arith

leaves : (from to : ℕ) → spread 4096 from to ≡ spread 4096 from (min to 4096) + spread 4096 (from - 4096) (to - 4096)
leaves from to = spread_split 4096 4096 from to (omega arith) (λ a b. omega arith) (λ a b. omega arith)

leaves_of_many : (from to : ℕ) → spread 4096 from to ≡ spread 4096 from (min to 262144) + spread 4096 (from - 262144) (to - 262144)
leaves_of_many from to = spread_split 4096 262144 from to (omega arith) (λ a b. omega arith) (λ a b. omega arith)

many : (from to : ℕ) → spread 262144 from to ≡ spread 262144 from (min to 262144) + spread 262144 (from - 262144) (to - 262144)
many from to = spread_split 262144 262144 from to (omega arith) (λ a b. omega arith) (λ a b. omega arith)

-- the blocks of a part and below, and those behind it
pub touched_split : (n from to : ℕ) → n ≤ 1 → touched n from to ≡ touched n from (min to (span n)) + touched n (from - span n) (to - span n)
touched_split zero from to h = leaves from to
touched_split (suc zero) from to h = let a = leaves_of_many from to in let b = many from to in omega arith
touched_split (suc (suc n)) from to h = absurd (omega arith)

pub touched_none : (n from to : ℕ) → to ≤ from → touched n from to ≡ 0
touched_none zero from to h = spread_none 4096 from to h
touched_none (suc n) from to h = let a = spread_none (span (suc n)) from to h in let b = touched_none n from to h in omega arith

-- within one block there is that block
pub spread_one : (n from to : ℕ) → n ≤ 2 → from < to → to ≤ span n → spread (span n) from to ≡ 1
spread_one zero from to h some within = spread_some 4096 from to some ∙ omega arith
spread_one (suc zero) from to h some within = spread_some 262144 from to some ∙ omega arith
spread_one (suc (suc zero)) from to h some within = spread_some 16777216 from to some ∙ omega arith
spread_one (suc (suc (suc n))) from to h some within = absurd (omega arith)

pub touched_above : (level n from to : ℕ) → level ≡ suc n → level ≤ 2 → from < to → to ≤ span level → touched level from to ≡ 1 + touched n from to
touched_above level n from to e h some within =
    ap (λ k. touched k from to) e ∙ ap (λ k. k + touched n from to) (ap (λ k. spread (span k) from to) (sym e) ∙ spread_one level from to h some within)

pub touched_leaf : (from to : ℕ) → from < to → to ≤ 4096 → touched 0 from to ≡ 1
touched_leaf from to some within = spread_one 0 from to (omega arith) some within

-- at most three blocks for each leaf
pub touched_few : (n from to : ℕ) → n ≤ 2 → touched n from to ≤ 3 * ((to - from) / 4096 + 2)
touched_few n from to h = elim (cases_lt from to) as (λ _. touched n from to ≤ 3 * ((to - from) / 4096 + 2)) [
  | inr none ↦ let e = touched_none n from to none in omega arith
  | inl some ↦ few n from to h some
]
  where
    few : (n from to : ℕ) → n ≤ 2 → from < to → touched n from to ≤ 3 * ((to - from) / 4096 + 2)
    few zero from to h some = let a = spread_some 4096 from to some in omega arith
    few (suc zero) from to h some = let a = spread_some 4096 from to some in let b = spread_some 262144 from to some in omega arith
    few (suc (suc zero)) from to h some = let a = spread_some 4096 from to some in let b = spread_some 262144 from to some in let c = spread_some 16777216 from to some in omega arith
    few (suc (suc (suc n))) from to h some = absurd (omega arith)

pub touched_some : (n from to : ℕ) → from < to → 1 ≤ touched n from to
touched_some zero from to h = let a = spread_some 4096 from to h in omega arith
touched_some (suc n) from to h = let a = touched_some n from to h in omega arith

-- the blocks made for one part more
pub made_more : (n old new start part rest whole : ℕ) → n ≤ 1 → 0 < rest → part ≡ min (span n) rest → new ≡ old + max 1 (touched n 0 part) → old + touched n 0 rest ≡ start + whole → new + touched n 0 (rest - min (span n) rest) ≡ start + whole
made_more n old new start part rest whole h some cut more so =
    let first : part ≡ min rest (span n) = cut ∙ omega arith in
    let here : 0 < part = front n rest some part cut in
    let one = touched_some n 0 part here in
    let both = touched_split n 0 rest h ∙ ap (λ k. touched n 0 k + touched n (0 - span n) (rest - span n)) (sym first) in
    let begin : 0 - span n ≡ 0 = omega arith in
    let behind : touched n (0 - span n) (rest - span n) ≡ touched n 0 (rest - min (span n) rest) = ap (λ k. touched n k (rest - span n)) begin ∙ ap (touched n 0) (left (span n) rest) in
    add old new start whole (touched n 0 rest) (touched n 0 part) (touched n (0 - span n) (rest - span n)) (touched n 0 (rest - min (span n) rest)) one more so both behind
  where
    front : (n rest : ℕ) → 0 < rest → (part : ℕ) → part ≡ min (span n) rest → 0 < part
    front n rest some part cut = let a = span_some n in omega arith
      where
        span_some : (n : ℕ) → 0 < span n
        span_some zero = omega arith
        span_some (suc n) = let a = span_some n in omega arith

    left : (each rest : ℕ) → rest - each ≡ rest - min each rest
    left each rest = omega arith

    add : (old new start whole all here behind again : ℕ) → 1 ≤ here → new ≡ old + max 1 here → old + all ≡ start + whole → all ≡ here + behind → behind ≡ again → new + again ≡ start + whole
    add old new start whole all here behind again one more so both same = omega arith

-- the blocks made for all parts, and their own
pub made_index : (level n made new old rest whole : ℕ) → level ≡ suc n → level ≤ 2 → 0 < whole → whole ≤ span level → rest ≡ 0 → made + touched n 0 rest ≡ old + touched n 0 whole → new ≡ made + 1 → new ≡ old + max 1 (touched level 0 whole)
made_index level n made new old rest whole e h some within ended so more =
    let none = touched_none n 0 rest (omega arith) in
    let above = touched_above level n 0 whole e h some within in
    add made new old (touched n 0 rest) (touched n 0 whole) (touched level 0 whole) none so more above
  where
    add : (made new old none all whole : ℕ) → none ≡ 0 → made + none ≡ old + all → new ≡ made + 1 → whole ≡ 1 + all → new ≡ old + max 1 whole
    add made new old none all whole z so more above = omega arith

pub made_leaf : (level new old whole : ℕ) → level ≡ 0 → whole ≤ span level → new ≡ old + 1 → new ≡ old + max 1 (touched level 0 whole)
made_leaf level new old whole e within more =
    more ∙ ap (λ k. old + k) (one whole (subst (λ k. whole ≤ span k) e within)) ∙ ap (λ k. old + max 1 (touched k 0 whole)) (sym e)
  where
    one : (whole : ℕ) → whole ≤ 4096 → 1 ≡ max 1 (touched 0 0 whole)
    one zero h = let a = spread_none 4096 0 0 (omega arith) in omega arith
    one (suc n) h = let a = touched_leaf 0 (suc n) (omega arith) h in omega arith
