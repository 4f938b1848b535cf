-- Ways to bytes, part by part.
use Rattle.std.proofs.Common.{◌≡◌, inl, inr, ℕ, suc, ◌+◌, ◌-◌, ◌<◌, ◌≤◌, min, max, nat_le, true, List, [], ◌∷◌, Result, Ok, Err, drop, refl, sym, subst, arith}
use Rattle.std.proofs.lemmas.Bool.{cases_lt}
use Rattle.std.proofs.lemmas.Bool.Decides.{nat_tests}
use Rattle.kb_blocks.specs.declared.pointer.Ptr.{Ptr}
use Rattle.kb_files.specs.declared.loading.LoadFault.{LoadFault}
use Rattle.kb_files.specs.declared.loading.LoadFault.TheVariants.{BadBlock}
use Rattle.kb_files.specs.Opens.{Blocks}
use Rattle.kb_files.specs.Files.{Vault, IsLeafOf, IsIndexOf, level_of, span}
use Rattle.kb_files.specs.Stops.{IsBad, WhereSmall}
use Rattle.kb_ranges.specs.Ways.{Behind, Reaches, WayStops, StopsFirst, ReachesEach, NamesTop, ReachesRange}

module _ (F : ℕ → Ptr → ℕ → Type 0) (N : Type 0) (each : ℕ) (ps : List Ptr) (size : ℕ) where
  -- what holds of a part behind the pointers from here on holds behind all of them, so many bytes further
  abbrev pub Forward : ℕ → ℕ → ℕ → Type 0
  Forward i left base = (k : ℕ) → Behind F N each (drop i ps) left k → Behind F N each ps size (base + k)

  pub forward_start : Forward 0 size 0
  forward_start = λ k h. let e : k ≡ 0 + k = omega arith in subst (Behind F N each ps size) e h

  pub forward_more : (i left base : ℕ) (p : Ptr) → Forward i left base → drop i ps ≡ p ∷ drop (i + 1) ps → (left' base' : ℕ) → left' ≡ left - each → base' ≡ base + each → Forward (i + 1) left' base'
  forward_more i left base p so next left' base' less more = λ k h.
      let back : (each + k) - each ≡ k = omega arith in
      let past : each ≤ each + k = omega arith in
      let place : base + (each + k) ≡ base' + k = omega arith in
      let behind = subst (Behind F N each (drop (i + 1) ps) (left - each)) (sym back) (subst (λ n. Behind F N each (drop (i + 1) ps) n k) less h) in
      subst (Behind F N each ps size) place (so (each + k) (subst (λ qs. Behind F N each qs left (each + k)) (sym next) (inr (past, behind))))

  pub forward_here : (i left base : ℕ) (p : Ptr) → Forward i left base → drop i ps ≡ p ∷ drop (i + 1) ps → (k : ℕ) → k < each → F (min each left) p k → Behind F N each ps size (base + k)
  forward_here i left base p so next k within here = so k (subst (λ qs. Behind F N each qs left k) (sym next) (inl (within, here)))

  pub forward_past : (i left base : ℕ) → Forward i left base → drop i ps ≡ [] → (k : ℕ) → N → Behind F N each ps size (base + k)
  forward_past i left base so last k none = so k (subst (λ qs. Behind F N each qs left k) (sym last) none)

-- A range is reached up to the parts at hand.
pub record Passing (vault : Vault) (blocks : Blocks) (n : ℕ) (id : List ℕ) (each : ℕ) (ps : List Ptr) (size from to i left start end : ℕ) : Type 0 where
  pub base : ℕ
  pub left_is : left ≡ size - base
  pub start_is : start ≡ from - base
  pub end_is : end ≡ to - base
  pub reaches : Forward (Reaches vault n) ⊥ each ps size i left base
  pub stops : (fault : LoadFault) → Forward (WayStops vault blocks fault n) (fault ≡ BadBlock id) each ps size i left base
  pub reached : (k : ℕ) → from ≤ k → k < to → k < base → Behind (Reaches vault n) ⊥ each ps size k

module _ (vault : Vault) (blocks : Blocks) (n : ℕ) (id : List ℕ) (each : ℕ) (ps : List Ptr) (size from to : ℕ) where
  pub passing_start : Passing vault blocks n id each ps size from to 0 size from to
  passing_start = record {
    base = 0;
    left_is = omega arith;
    start_is = omega arith;
    end_is = omega arith;
    reaches = forward_start (Reaches vault n) ⊥ each ps size;
    stops = λ fault. forward_start (WayStops vault blocks fault n) (fault ≡ BadBlock id) each ps size;
    reached = λ k low high none. absurd (omega arith);
  }

  pub passing_more : (i left start end : ℕ) (p : Ptr) → Passing vault blocks n id each ps size from to i left start end → drop i ps ≡ p ∷ drop (i + 1) ps → end ≤ left → (here : ℕ) → here ≡ min each left
      → ((k : ℕ) → start ≤ k → k < min end here → Reaches vault n here p k) → (left' start' end' : ℕ) → left' ≡ left - here → start' ≡ start - each → end' ≡ end - each → Passing vault blocks n id each ps size from to (i + 1) left' start' end'
  passing_more i left start end p so next within here is part left' start' end' l s e =
      let left_is = so.left_is in
      let start_is = so.start_is in
      let end_is = so.end_is in
      let less : left' ≡ left - each = omega arith in
      record {
        base = so.base + each;
        left_is = omega arith;
        start_is = omega arith;
        end_is = omega arith;
        reaches = forward_more (Reaches vault n) ⊥ each ps size i left so.base p so.reaches next left' (so.base + each) less refl;
        stops = λ fault. forward_more (WayStops vault blocks fault n) (fault ≡ BadBlock id) each ps size i left so.base p (so.stops fault) next left' (so.base + each) less refl;
        reached = λ k low high passed. elim (cases_lt k so.base) as (λ _. Behind (Reaches vault n) ⊥ each ps size k) [
          | inl before ↦ so.reached k low high before
          | inr behind ↦
              let place : so.base + (k - so.base) ≡ k = omega arith in
              let here_is : Reaches vault n (min each left) p (k - so.base) = subst (λ m. Reaches vault n m p (k - so.base)) is (part (k - so.base) (omega arith) (omega arith)) in
              subst (Behind (Reaches vault n) ⊥ each ps size) place (forward_here (Reaches vault n) ⊥ each ps size i left so.base p so.reaches next (k - so.base) (omega arith) here_is)
        ];
      }

  -- what stops in a part, or behind the last, stops behind the pointers
  pub record Stopped (fault : LoadFault) : Type 0 where
    pub place : ℕ
    pub after : from ≤ place
    pub before : place < to
    pub stops : Behind (WayStops vault blocks fault n) (fault ≡ BadBlock id) each ps size place
    pub reached : (k : ℕ) → from ≤ k → k < place → Behind (Reaches vault n) ⊥ each ps size k

  pub passing_stops : (i left start end : ℕ) (p : Ptr) → Passing vault blocks n id each ps size from to i left start end → drop i ps ≡ p ∷ drop (i + 1) ps → (here : ℕ) → here ≡ min each left → (fault : LoadFault) → StopsFirst vault blocks n here p start (min end here) fault → Stopped fault
  passing_stops i left start end p so next here is fault s =
      let left_is = so.left_is in
      let start_is = so.start_is in
      let end_is = so.end_is in
      let place = s.stop.place in
      let after = s.stop.after in
      let before = s.stop.before in
      record {
        place = so.base + place;
        after = omega arith;
        before = omega arith;
        stops = forward_here (WayStops vault blocks fault n) (fault ≡ BadBlock id) each ps size i left so.base p (so.stops fault) next place (omega arith) (subst (λ m. WayStops vault blocks fault n m p place) is s.stop.stops);
        reached = λ k low high. elim (cases_lt k so.base) as (λ _. Behind (Reaches vault n) ⊥ each ps size k) [
          | inl front ↦ so.reached k low (omega arith) front
          | inr behind ↦
              let at : so.base + (k - so.base) ≡ k = omega arith in
              let here_is : Reaches vault n (min each left) p (k - so.base) = subst (λ m. Reaches vault n m p (k - so.base)) is (s.reached (k - so.base) (omega arith) (omega arith)) in
              subst (Behind (Reaches vault n) ⊥ each ps size) at (forward_here (Reaches vault n) ⊥ each ps size i left so.base p so.reaches next (k - so.base) (omega arith) here_is)
        ];
      }

  pub passing_short : (i left start end : ℕ) → Passing vault blocks n id each ps size from to i left start end → drop i ps ≡ [] → 0 < end → from < to → Stopped (BadBlock id)
  passing_short i left start end so last more some =
      let end_is = so.end_is in
      let place : so.base + (from - so.base) ≡ max so.base from = omega arith in
      record {
        place = max so.base from;
        after = omega arith;
        before = omega arith;
        stops = subst (Behind (WayStops vault blocks (BadBlock id) n) (BadBlock id ≡ BadBlock id) each ps size) place (forward_past (WayStops vault blocks (BadBlock id) n) (BadBlock id ≡ BadBlock id) each ps size i left so.base (so.stops (BadBlock id)) last (from - so.base) refl);
        reached = λ k low high. so.reached k low (omega arith) (omega arith);
      }

  -- behind the last part all of the range was reached
  pub passing_end : (i left start end : ℕ) → Passing vault blocks n id each ps size from to i left start end → end ≤ 0 → (k : ℕ) → from ≤ k → k < to → Behind (Reaches vault n) ⊥ each ps size k
  passing_end i left start end so none = λ k low high. let end_is = so.end_is in so.reached k low high (omega arith)

-- where the way to the first byte stops, it isn't reached
pub stops_at_once : (vault : Vault) (blocks : Blocks) (level size : ℕ) (p : Ptr) (from to : ℕ) (fault : LoadFault) → from < to → WayStops vault blocks fault level size p from → StopsFirst vault blocks level size p from to fault
stops_at_once vault blocks level size p from to fault some stop = record { stop = record { place = from; after = omega arith; before = some; stops = stop }; reached = λ k low high. absurd (omega arith) }

pub leaf_stops : (vault : Vault) (blocks : Blocks) (level size : ℕ) (p : Ptr) (place : ℕ) (fault : LoadFault) → level ≡ 0 → IsBad blocks (IsLeafOf vault size p) p.id fault → WayStops vault blocks fault level size p place
leaf_stops vault blocks level size p place fault e bad = subst (λ k. WayStops vault blocks fault k size p place) (sym e) bad

pub leaf_reaches : (vault : Vault) (level size : ℕ) (p : Ptr) (place : ℕ) (bytes : List ℕ) → level ≡ 0 → IsLeafOf vault size p bytes → Reaches vault level size p place
leaf_reaches vault level size p place bytes e leaf = subst (λ k. Reaches vault k size p place) (sym e) (bytes, leaf)

pub index_stops : (vault : Vault) (blocks : Blocks) (level n size : ℕ) (p : Ptr) (place : ℕ) (fault : LoadFault) → level ≡ suc n → IsBad blocks (IsIndexOf vault level p) p.id fault → WayStops vault blocks fault level size p place
index_stops vault blocks level n size p place fault e bad = subst (λ k. WayStops vault blocks fault k size p place) (sym e) (inl (subst (λ k. IsBad blocks (IsIndexOf vault k p) p.id fault) e bad))

-- what is so behind the pointers of a block is so of the block
pub behind_stops : (vault : Vault) (blocks : Blocks) (level n size each : ℕ) (p : Ptr) (ps qs : List Ptr) (place : ℕ) (fault : LoadFault) → level ≡ suc n → each ≡ span n → qs ≡ ps → IsIndexOf vault level p ps
    → Behind (WayStops vault blocks fault n) (fault ≡ BadBlock p.id) each qs size place → WayStops vault blocks fault level size p place
behind_stops vault blocks level n size each p ps qs place fault e spanned same index s =
    let s' = subst (λ k. Behind (WayStops vault blocks fault n) (fault ≡ BadBlock p.id) k ps size place) spanned (subst (λ rs. Behind (WayStops vault blocks fault n) (fault ≡ BadBlock p.id) each rs size place) same s) in
    subst (λ k. WayStops vault blocks fault k size p place) (sym e) (inr (ps, (subst (λ k. IsIndexOf vault k p ps) e index, s')))

pub behind_reaches : (vault : Vault) (level n size each : ℕ) (p : Ptr) (ps qs : List Ptr) (place : ℕ) → level ≡ suc n → each ≡ span n → qs ≡ ps → IsIndexOf vault level p ps → Behind (Reaches vault n) ⊥ each qs size place → Reaches vault level size p place
behind_reaches vault level n size each p ps qs place e spanned same index s =
    let s' = subst (λ k. Behind (Reaches vault n) ⊥ k ps size place) spanned (subst (λ rs. Behind (Reaches vault n) ⊥ each rs size place) same s) in
    subst (λ k. Reaches vault k size p place) (sym e) (ps, (subst (λ k. IsIndexOf vault k p ps) e index, s'))

-- the whole of a block whose parts stop
pub index_stopped : (vault : Vault) (blocks : Blocks) (level n size each : ℕ) (p : Ptr) (ps qs : List Ptr) (from to : ℕ) (fault : LoadFault) → level ≡ suc n → each ≡ span n → qs ≡ ps → IsIndexOf vault level p ps
    → Stopped vault blocks n p.id each qs size from to fault → StopsFirst vault blocks level size p from to fault
index_stopped vault blocks level n size each p ps qs from to fault e spanned same index s = record {
  stop = record { place = s.place; after = s.after; before = s.before; stops = behind_stops vault blocks level n size each p ps qs s.place fault e spanned same index s.stops };
  reached = λ k low high. behind_reaches vault level n size each p ps qs k e spanned same index (s.reached k low high);
}

small_is : (size : ℕ) → size ≤ 16777216 → nat_le size 16777216 ≡ true
small_is size h = grind (arith, nat_tests)

pub where_small : (size : ℕ) (small big : Type 0) → size ≤ 16777216 → small → WhereSmall (nat_le size 16777216) small big
where_small size small big h x = subst (λ b. WhereSmall b small big) (sym (small_is size h)) x

-- a range of a file is that of the bytes which are there
pub range_reached : (vault : Vault) (blocks : Blocks) (size : ℕ) (p : Ptr) (offset count from to : ℕ) → size ≤ 16777216 → from ≡ min offset size → to ≡ from + min count (size - from) → ((k : ℕ) → from ≤ k → k < to → Reaches vault (level_of size) size p k)
    → (X : Type 0) (x : X) → ReachesRange vault blocks size p offset count (Ok x)
range_reached vault blocks size p offset count from to small f t reached X x =
    let result : Result X LoadFault = Ok x in
    where_small size (ReachesEach vault blocks (level_of size) size p offset (min (offset + count) size) result) (NamesTop vault blocks size p result) small (λ k low high. reached k (omega arith) (omega arith))

pub range_stopped : (vault : Vault) (blocks : Blocks) (size : ℕ) (p : Ptr) (offset count from to : ℕ) → size ≤ 16777216 → from ≡ min offset size → to ≡ from + min count (size - from) → (fault : LoadFault) → StopsFirst vault blocks (level_of size) size p from to fault
    → (X : Type 0) → ReachesRange {X = X} vault blocks size p offset count (Err fault)
range_stopped vault blocks size p offset count from to small f t fault s X =
    let after = s.stop.after in
    let before = s.stop.before in
    let result : Result X LoadFault = Err fault in
    where_small size (ReachesEach vault blocks (level_of size) size p offset (min (offset + count) size) result) (NamesTop vault blocks size p result) small (record { stop = record { place = s.stop.place; after = omega arith; before = omega arith; stops = s.stop.stops }; reached = λ k low high. s.reached k (omega arith) high })
