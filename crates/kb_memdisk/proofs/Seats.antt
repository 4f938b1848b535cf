-- Pages after one was added, and after bytes were written over a part of one.
use Rattle.std.proofs.Common.{◌≡◌, ◌≢◌, ◌≤◌, ◌<◌, ◌+◌, ◌-◌, ◌*◌, ℕ, suc, Bool, true, false, List, [], ◌∷◌, ◌++◌, Some, None, cond, eqb, length, get_or, set, refl, sym, ap, ◌∙◌, subst, arith, inl, inr}
use Rattle.std.specs.Prelude.{slice_range, IsSome, is_some, unwrap_or, ◌||◌}
use Rattle.std.specs.Option.{option_map}
use Rattle.std.specs.List.{list_any}
use Rattle.std.proofs.lemmas.Bool.{cases_lt, false≢true}
use Rattle.std.proofs.lemmas.Bool.Decides.{nat_tests, eqb_tells}
use Rattle.std.proofs.lemmas.List.{ext_get_or, length-append, length-set, length-replicate, length_push, get_or_default, get_or_append_left, get_or_push, get_or-append_right, get_or-set_same, get_or-set_other}
use Rattle.std.proofs.lemmas.Map.Keys.{IsDistinct-from_apart}
use Rattle.std.proofs.lemmas.Map.Steps.{length-le_from_distinct_below}
use Rattle.kb_edge.specs.Disk.{overlay}
use Rattle.kb_memdisk.specs.Pages.{ArePages, is_there, page_in, or_zeros}
use Rattle.kb_memdisk.specs.Rows.{page_of}
use Rattle.kb_memdisk.specs.declared.pages.Pages.{Pages}
use Rattle.kb_memdisk.proofs.Overlaid.{slice_size, slice_at, overlay_size, overlay_here, overlay_before, overlay_behind}

second : (a b : Bool) → (a || b) ≡ true → a ≡ false → b ≡ true
second false b is not = is
second true b is not = absurd (false≢true (sym not))

below : (xs : List ℕ) (n q : ℕ) → ((k : ℕ) → k < length xs → get_or xs k 0 < n) → list_any (eqb q) xs ≡ true → q < n
below [] n q all is = absurd (false≢true is)
below (x ∷ xs) n q all is =
    elim (eqb_tells q x) [
      | inl same ↦ let first : x < n = all 0 (omega arith) in omega (arith, first, same.1)
      | inr other ↦ below xs n q (λ k lt. all (suc k) (omega (arith, lt))) (second (eqb q x) (list_any (eqb q) xs) is other.0)
    ]

module _ (seats order : List ℕ) (inside : (k : ℕ) → k < length order → get_or order k 0 < length seats) (seated : (k : ℕ) → k < length order → get_or seats (get_or order k 0) 0 ≡ k) where
  -- pages with seats of their own are no more than there are seats
  pub few : length order ≤ length seats
  few =
      length-le_from_distinct_below order (length seats) (IsDistinct-from_apart eqb order apart) (λ q is. below order (length seats) q inside is)
    where
      apart : (i j d : ℕ) → i < j → j < length order → eqb (get_or order i d) (get_or order j d) ≡ false
      apart i j d before lt = elim (eqb_tells (get_or order i d) (get_or order j d)) [
        | inl same ↦
            let first = get_or_default order i d 0 (omega (arith, before, lt)) in
            let other = get_or_default order j d 0 lt in
            let one = seated i (omega (arith, before, lt)) in
            let two = seated j lt in
            let equal : get_or order i 0 ≡ get_or order j 0 = sym first ∙ (same.1 ∙ other) in
            let is : i ≡ j = sym one ∙ (ap (λ p. get_or seats p 0) equal ∙ two) in
            absurd (omega (arith, before, is))
        | inr other ↦ other.0
      ]

module _ (seats order : List ℕ) (n order_room bytes_room : ℕ) (are : ArePages seats order n order_room bytes_room) (page : ℕ) (lt : page < length seats) (none : is_there seats order page ≡ false) where
  -- a page that isn't there is none of those that are
  absent : (k : ℕ) → k < length order → get_or order k 0 ≢ page
  absent k within is =
      let s = are.seated k within in
      grind (arith, nat_tests)

  pub inside_added : (k : ℕ) → k < length (order ++ page ∷ []) → get_or (order ++ page ∷ []) k 0 < length (set seats page (length order))
  inside_added k within =
      elim (cases_lt k (length order)) [
        | inl before ↦ rw (get_or_append_left order (page ∷ []) 0 k before, length-set seats page (length order)) (are.inside k before)
        | inr behind ↦ rw (get_or_push order page 0 k (omega (arith, behind, within, length_push order page)), length-set seats page (length order)) lt
      ]

  pub seated_added : (k : ℕ) → k < length (order ++ page ∷ []) → get_or (set seats page (length order)) (get_or (order ++ page ∷ []) k 0) 0 ≡ k
  seated_added k within =
      elim (cases_lt k (length order)) [
        | inl before ↦ rw (get_or_append_left order (page ∷ []) 0 k before, get_or-set_other seats page (get_or order k 0) (length order) 0 (absent k before)) (are.seated k before)
        | inr behind ↦ let is : length order ≡ k = omega (arith, behind, within, length_push order page) in rw (get_or_push order page 0 k is, get_or-set_same seats page (length order) 0 lt) is
      ]

  -- so there is room for it
  pub room_for : length order < length seats
  room_for =
      let all = few (set seats page (length order)) (order ++ page ∷ []) inside_added seated_added in
      omega (arith, all, length-set seats page (length order), length-append order (page ∷ []))

  -- the slices of pages that lie in front stay as they are
  kept : (bytes text : List ℕ) (s : ℕ) → 512 * s + 512 ≤ length bytes → slice_range (bytes ++ text) (512 * s) (512 * s + 512) ≡ slice_range bytes (512 * s) (512 * s + 512)
  kept bytes text s within =
      let size = slice_size bytes (512 * s) (512 * s + 512) within in
      let size' = slice_size (bytes ++ text) (512 * s) (512 * s + 512) (omega (arith, within, length-append bytes text)) in
      ext_get_or 0 (slice_range (bytes ++ text) (512 * s) (512 * s + 512)) (slice_range bytes (512 * s) (512 * s + 512)) (size' ∙ sym size) (λ i lt.
      let j : 512 * s + i < 512 * s + 512 = omega (arith, lt, size') in
      slice_at (bytes ++ text) (512 * s) (512 * s + 512) i (512 * s + i) j refl
      ∙ (get_or_append_left bytes text 0 (512 * s + i) (omega (arith, j, within)) ∙ sym (slice_at bytes (512 * s) (512 * s + 512) i (512 * s + i) j refl)))

  last : (bytes text : List ℕ) (s : ℕ) → 512 * s ≡ length bytes → length text ≡ 512 → slice_range (bytes ++ text) (512 * s) (512 * s + 512) ≡ text
  last bytes text s at size =
      let size' = slice_size (bytes ++ text) (512 * s) (512 * s + 512) (omega (arith, at, size, length-append bytes text)) in
      ext_get_or 0 (slice_range (bytes ++ text) (512 * s) (512 * s + 512)) text (omega (arith, size', size)) (λ i lt.
      let j : 512 * s + i < 512 * s + 512 = omega (arith, lt, size') in
      slice_at (bytes ++ text) (512 * s) (512 * s + 512) i (512 * s + i) j refl
      ∙ (get_or-append_right bytes text (512 * s) (512 * s + i) 0 (sym at) (omega arith) ∙ ap (λ k. get_or text k 0) (omega arith)))

  plain_added : ArePages (set seats page (length order)) (order ++ page ∷ []) (n + 512) order_room bytes_room
  plain_added = record {
    size = omega (arith, are.size, length_push order page);
    inside = inside_added;
    seated = seated_added;
    small = omega (arith, are.small, length-set seats page (length order));
    order_space = omega (arith, are.order_space, length-set seats page (length order));
    bytes_space = omega (arith, are.bytes_space, length-set seats page (length order));
  }

  pub are_added : (order' : List ℕ) (n' seat order_room' bytes_room' : ℕ) → seat ≡ length order → order' ≡ order ++ page ∷ [] → n' ≡ n + 512 → order_room ≤ order_room' → bytes_room ≤ bytes_room' → ArePages (set seats page seat) order' n' order_room' bytes_room'
  are_added order' n' seat o b is is' is'' more more' =
      let a : ArePages (set seats page seat) order' n' order_room bytes_room = rw (is, is', is'') plain_added in
      record {
        size = a.size;
        inside = a.inside;
        seated = a.seated;
        small = a.small;
        order_space = omega (arith, a.order_space, more);
        bytes_space = omega (arith, a.bytes_space, more');
      }

  there_added : (other : ℕ) → other ≢ page → (seat : ℕ) → get_or seats other 0 ≡ seat → is_there (set seats page (length order)) (order ++ page ∷ []) other ≡ is_there seats order other
  there_added other apart seat is =
      rw (get_or-set_other seats page other (length order) 0 apart, is)
      (elim (cases_lt seat (length order)) [
        | inl before ↦ rw (get_or_append_left order (page ∷ []) 0 seat before) (grind (arith, nat_tests, length_push order page))
        | inr behind ↦ elim (cases_lt (length order) seat) [
          | inl past ↦ grind (arith, nat_tests, length_push order page)
          | inr at ↦ rw (get_or_push order page 0 seat (omega (arith, at, behind))) (grind (arith, nat_tests))
        ]
      ])

  plain : (bytes text : List ℕ) → n ≡ length bytes → length text ≡ 512 → (other : ℕ) → page_in (set seats page (length order)) (order ++ page ∷ []) (bytes ++ text) other ≡ cond (eqb other page) (Some text) (page_in seats order bytes other)
  unfolding page_in
  plain bytes text count size other =
      elim (eqb_tells other page) [
        | inl same ↦
            let seat : get_or (set seats page (length order)) page 0 ≡ length order = get_or-set_same seats page (length order) 0 lt in
            let at : get_or (order ++ page ∷ []) (length order) 0 ≡ page = get_or_push order page 0 (length order) refl in
            let there : is_there (set seats page (length order)) (order ++ page ∷ []) page ≡ true = rw (seat, at) (grind (arith, nat_tests, length_push order page)) in
            subst (λ p. page_in (set seats page (length order)) (order ++ page ∷ []) (bytes ++ text) p ≡ cond (eqb other page) (Some text) (page_in seats order bytes p)) (sym same.1) (rw (same.0, there, seat) (ap Some (last bytes text (length order) (omega (arith, count, are.size)) size)))
        | inr apart ↦
            rw (apart.0, there_added other apart.1 (get_or seats other 0) refl, get_or-set_other seats page other (length order) 0 apart.1) (by other (is_there seats order other) refl)
      ]
    where
      by : (other : ℕ) (b : Bool) → is_there seats order other ≡ b → cond b (Some (slice_range (bytes ++ text) (512 * get_or seats other 0) (512 * get_or seats other 0 + 512))) None ≡ cond b (Some (slice_range bytes (512 * get_or seats other 0) (512 * get_or seats other 0 + 512))) None
      by other false e = refl
      by other true e =
          let within : get_or seats other 0 < length order = grind (arith, nat_tests) in
          ap Some (kept bytes text (get_or seats other 0) (omega (arith, within, count, are.size)))

  pub page_added : (order' bytes' : List ℕ) (seat : ℕ) (bytes text : List ℕ) → n ≡ length bytes → length text ≡ 512 → seat ≡ length order → order' ≡ order ++ page ∷ [] → bytes' ≡ bytes ++ text → (other : ℕ) → page_in (set seats page seat) order' bytes' other ≡ cond (eqb other page) (Some text) (page_in seats order bytes other)
  page_added order' bytes' seat bytes text count size is is' is'' other = rw (is, is', is'') (plain bytes text count size other)

-- a page that is missed isn't there, and one that is found is
pub none_there : (seats order bytes : List ℕ) (page : ℕ) → page_in seats order bytes page ≡ None → is_there seats order page ≡ false
unfolding page_in
none_there seats order bytes page = by (slice_range bytes (512 * get_or seats page 0) (512 * get_or seats page 0 + 512)) (is_there seats order page)
  where
    by : (x : List ℕ) (b : Bool) → cond b (Some x) None ≡ None → b ≡ false
    by x false e = refl
    by x true e = absurd (false≢true (sym (ap is_some e)))

pub some_there : (seats order bytes : List ℕ) (page : ℕ) → IsSome (page_in seats order bytes page) → is_there seats order page ≡ true
unfolding page_in
some_there seats order bytes page = by (slice_range bytes (512 * get_or seats page 0) (512 * get_or seats page 0 + 512)) (is_there seats order page)
  where
    by : (x : List ℕ) (b : Bool) → IsSome (cond b (Some x) None) → b ≡ true
    by x true e = refl
    by x false e = absurd (false≢true e)

-- bytes written over a part of a page
inside_page : (bytes part : List ℕ) (a from : ℕ) → a + 512 ≤ length bytes → from + length part ≤ 512 → slice_range (overlay bytes (a + from) part) a (a + 512) ≡ overlay (slice_range bytes a (a + 512)) from part
inside_page bytes part a from within fits =
    let f : a + from + length part ≤ length bytes = omega (arith, within, fits) in
    let old = slice_size bytes a (a + 512) within in
    let f' : from + length part ≤ length (slice_range bytes a (a + 512)) = omega (arith, old, fits) in
    let new = slice_size (overlay bytes (a + from) part) a (a + 512) (omega (arith, within, overlay_size bytes part (a + from) f)) in
    let size = overlay_size (slice_range bytes a (a + 512)) part from f' in
    ext_get_or 0 (slice_range (overlay bytes (a + from) part) a (a + 512)) (overlay (slice_range bytes a (a + 512)) from part) (omega (arith, old, new, size)) (λ i lt.
    let j : a + i < a + 512 = omega (arith, lt, new) in
    slice_at (overlay bytes (a + from) part) a (a + 512) i (a + i) j refl
    ∙ elim (cases_lt i from) [
      | inl before ↦ overlay_before bytes part (a + from) f (a + i) (omega (arith, before)) ∙ (sym (slice_at bytes a (a + 512) i (a + i) j refl) ∙ sym (overlay_before (slice_range bytes a (a + 512)) part from f' i before))
      | inr behind ↦ elim (cases_lt i (from + length part)) [
        | inl here ↦ overlay_here bytes part (a + from) f (a + i) (i - from) (omega (arith, behind)) (omega (arith, behind, here)) ∙ sym (overlay_here (slice_range bytes a (a + 512)) part from f' i (i - from) (omega (arith, behind)) (omega (arith, behind, here)))
        | inr past ↦ overlay_behind bytes part (a + from) f (a + i) (omega (arith, past)) ∙ (sym (slice_at bytes a (a + 512) i (a + i) j refl) ∙ sym (overlay_behind (slice_range bytes a (a + 512)) part from f' i past))
      ]
    ])

other_page : (bytes part : List ℕ) (s t from : ℕ) → 512 * s + 512 ≤ length bytes → 512 * t + 512 ≤ length bytes → s ≢ t → from + length part ≤ 512 → slice_range (overlay bytes (512 * s + from) part) (512 * t) (512 * t + 512) ≡ slice_range bytes (512 * t) (512 * t + 512)
other_page bytes part s t from within within' apart fits =
    let f : 512 * s + from + length part ≤ length bytes = omega (arith, within, fits) in
    let old = slice_size bytes (512 * t) (512 * t + 512) within' in
    let new = slice_size (overlay bytes (512 * s + from) part) (512 * t) (512 * t + 512) (omega (arith, within', overlay_size bytes part (512 * s + from) f)) in
    ext_get_or 0 (slice_range (overlay bytes (512 * s + from) part) (512 * t) (512 * t + 512)) (slice_range bytes (512 * t) (512 * t + 512)) (new ∙ sym old) (λ i lt.
    let j : 512 * t + i < 512 * t + 512 = omega (arith, lt, new) in
    slice_at (overlay bytes (512 * s + from) part) (512 * t) (512 * t + 512) i (512 * t + i) j refl
    ∙ (elim (cases_lt t s) [
      | inl before ↦ overlay_before bytes part (512 * s + from) f (512 * t + i) (omega (arith, before, j))
      | inr behind ↦ let past : s < t = omega (arith, behind, apart) in overlay_behind bytes part (512 * s + from) f (512 * t + i) (omega (arith, past, fits))
    ] ∙ sym (slice_at bytes (512 * t) (512 * t + 512) i (512 * t + i) j refl)))

module _ (seats order bytes : List ℕ) (order_room bytes_room : ℕ) (are : ArePages seats order (length bytes) order_room bytes_room) where
  pub within_bytes : (page : ℕ) → is_there seats order page ≡ true → 512 * get_or seats page 0 + 512 ≤ length bytes
  within_bytes page there = let lt : get_or seats page 0 < length order = grind (arith, nat_tests) in omega (arith, lt, are.size)

  plain_put : (page from : ℕ) (part : List ℕ) → is_there seats order page ≡ true → from + length part ≤ 512 → (other : ℕ) → page_in seats order (overlay bytes (512 * get_or seats page 0 + from) part) other ≡ cond (eqb other page) (option_map (λ text. overlay text from part) (page_in seats order bytes page)) (page_in seats order bytes other)
  unfolding page_in
  plain_put page from part there fits other =
      elim (eqb_tells other page) [
        | inl same ↦ subst (λ p. page_in seats order (overlay bytes (512 * get_or seats page 0 + from) part) p ≡ cond (eqb other page) (option_map (λ text. overlay text from part) (page_in seats order bytes page)) (page_in seats order bytes p)) (sym same.1) (rw (same.0, there) (ap Some (inside_page bytes part (512 * get_or seats page 0) from (within_bytes page there) fits)))
        | inr apart ↦ rw apart.0 (by other (is_there seats order other) refl apart.1)
      ]
    where
      seat_same : (other : ℕ) → is_there seats order other ≡ true → get_or seats page 0 ≡ get_or seats other 0 → other ≡ page
      seat_same other e same =
          let one : get_or order (get_or seats page 0) 0 ≡ page = grind (arith, nat_tests) in
          let two : get_or order (get_or seats other 0) 0 ≡ other = grind (arith, nat_tests) in
          sym two ∙ (ap (λ s. get_or order s 0) (sym same) ∙ one)

      by : (other : ℕ) (b : Bool) → is_there seats order other ≡ b → other ≢ page → cond b (Some (slice_range (overlay bytes (512 * get_or seats page 0 + from) part) (512 * get_or seats other 0) (512 * get_or seats other 0 + 512))) None ≡ cond b (Some (slice_range bytes (512 * get_or seats other 0) (512 * get_or seats other 0 + 512))) None
      by other false e apart = refl
      by other true e apart =
          let seats_apart : get_or seats page 0 ≢ get_or seats other 0 = λ same. apart (seat_same other e same) in
          ap Some (other_page bytes part (get_or seats page 0) (get_or seats other 0) from (within_bytes page there) (within_bytes other e) seats_apart fits)

  pub page_put : (bytes' : List ℕ) (at page from : ℕ) (part : List ℕ) → is_there seats order page ≡ true → from + length part ≤ 512 → at ≡ 512 * get_or seats page 0 + from → bytes' ≡ overlay bytes at part → (other : ℕ) → page_in seats order bytes' other ≡ cond (eqb other page) (option_map (λ text. overlay text from part) (page_in seats order bytes page)) (page_in seats order bytes other)
  page_put bytes' at page from part there fits is is' other = rw (is', is) (plain_put page from part there fits other)

-- the seat that is found for a page that is there
pub no_seat : (there : Bool) (seat : ℕ) → there ≡ true → cond there (Some seat) None ≡ None → ⊥
no_seat false seat is e = false≢true is
no_seat true seat is e = false≢true (sym (ap is_some e))

pub seat_is : (there : Bool) (seat found : ℕ) → there ≡ true → cond there (Some seat) None ≡ Some found → found ≡ seat
seat_is false seat found is e = absurd (false≢true is)
seat_is true seat found is e = ap (λ o. unwrap_or o 0) (sym e)

-- no page is there where none was added
pub none_in : (seats order bytes : List ℕ) (page : ℕ) → order ≡ [] → page_in seats order bytes page ≡ None
unfolding page_in
none_in seats order bytes page is = rw none refl
  where
    none : is_there seats order page ≡ false
    none = rw is (grind (arith, nat_tests))

-- a page has 512 bytes
pub page_size : (p : Pages) (page : ℕ) → length (or_zeros (page_of p page)) ≡ 512
unfolding page_in
page_size p page = by (is_there p.seats.items p.order.items page) refl
  where
    by : (b : Bool) → is_there p.seats.items p.order.items page ≡ b → length (or_zeros (cond b (Some (slice_range p.bytes.items (512 * get_or p.seats.items page 0) (512 * get_or p.seats.items page 0 + 512))) None)) ≡ 512
    by false e = length-replicate {A = ℕ} 512 0
    by true e = omega (arith, slice_size p.bytes.items (512 * get_or p.seats.items page 0) (512 * get_or p.seats.items page 0 + 512) (within_bytes p.seats.items p.order.items p.bytes.items _ _ p.are_pages page e))

pub not_there : (seats order bytes : List ℕ) (page : ℕ) → is_there seats order page ≡ false → page_in seats order bytes page ≡ None
unfolding page_in
not_there seats order bytes page e = rw e refl
