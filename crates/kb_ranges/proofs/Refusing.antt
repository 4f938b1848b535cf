-- Which block a refused patch names.
use Rattle.std.proofs.Common.{◌≡◌, inl, inr, ℕ, zero, suc, ◌+◌, ◌-◌, ◌<◌, ◌≤◌, min, List, [], ◌∷◌, length, drop, slice_get, get_or, Option, Some, Result, Ok, Err, IfErr, refl, ap, sym, subst, ◌∙◌, arith, add-one}
use Rattle.std.proofs.lemmas.Bool.{cases_eq}
use Rattle.std.proofs.lemmas.List.{nil_from_length, drop-drop}
use Rattle.kb_blocks.specs.declared.pointer.Ptr.{Ptr}
use Rattle.kb_files.specs.declared.loading.LoadFault.{LoadFault}
use Rattle.kb_files.specs.declared.loading.LoadFault.TheVariants.{BadBlock}
use Rattle.kb_files.specs.Opens.{Blocks, Reads, RefusalNames}
use Rattle.kb_files.specs.Files.{Vault, IsLeafOf, IsIndexOf, IsFileOf, span, level_of}
use Rattle.kb_files.specs.Stops.{IsBad}
use Rattle.kb_ranges.specs.declared.parts.Part.{Part}
use Rattle.kb_ranges.specs.Ways.{Behind, WayStops, StopsIn}
use Rattle.kb_ranges.specs.Patches.{Covers}
use Rattle.kb_ranges.specs.Refusals.{OrMemory, PartIsBad, PartStopsAt, StandFor, StandsForFile, StopsAbove, PartRefused, PatchRefused}
use Rattle.kb_ranges.proofs.Numbers.{covers_part, covers_behind, covers_some}
use Rattle.kb_ranges.proofs.Fronts.{level_spans, level_grows, covers_front}
use Rattle.kb_ranges.proofs.OldParts.{span_some, span_within}
use Rattle.kb_ranges.proofs.Ways.{Forward, forward_start, forward_more, forward_here, leaf_stops, index_stops, behind_stops, where_small}

-- a part that is there and isn't kept has something that changes
pub changes_there : (level lower size long : ℕ) (o : Option Ptr) (p : Ptr) (bytes : List ℕ) → o ≡ Some p → lower ≤ level → (lower < level → size < long) → ((q : Ptr) → o ≡ Some q → lower ≡ level → size ≡ long → bytes ≡ [] → ⊥) → size ≡ long → length bytes ≡ 0 → ⊥
changes_there level lower size long o p bytes is low grows none same empty = elim (cases_eq lower level) as (λ _. ⊥) [
  | inl e ↦ none p is e same (nil_from_length bytes empty)
  | inr other ↦ let more = grows (omega arith) in absurd (omega arith)
]

-- the block that the part's pointer names
pub own_is_bad : {X Y : Type 0} (blocks : Blocks) (P : Ptr → Y → Type 0) (part : Part) (p : Ptr) (view : X → Y) (r : Result X LoadFault) → part.ptr ≡ Some p → Reads blocks view (P p) r → RefusalNames p.id r → IfErr r (PartIsBad blocks P part)
own_is_bad blocks P part p view (Ok x) is reads names = tt
own_is_bad blocks P part p view (Err fault) is reads names = (p, (is, (reads, names)))

-- a leaf that isn't right is in each range with all that changes
pub leaf_refused : (vault : Vault) (blocks : Blocks) (part : Part) (offset long : ℕ) (bytes : List ℕ) (fault : LoadFault) → part.level ≡ 0 → ((p : Ptr) → part.ptr ≡ Some p → part.size ≡ long → length bytes ≡ 0 → ⊥) → OrMemory fault (PartIsBad blocks (IsLeafOf vault part.size) part fault)
    → PartRefused vault blocks part offset (length bytes) long fault
leaf_refused vault blocks part offset long bytes fault leaf other (inl e) = inl e
leaf_refused vault blocks part offset long bytes fault leaf other (inr bad) = inr (λ from to covers. (
  bad.0,
  (
    bad.1.0,
    record {
      place = from;
      after = omega arith;
      before = covers_some part.size offset (length bytes) long from to (other bad.0 bad.1.0) covers;
      stops = leaf_stops vault blocks part.level part.size bad.0 from fault leaf bad.1.1;
    },
  ),
))

pub index_refused : (vault : Vault) (blocks : Blocks) (part : Part) (level offset long : ℕ) (bytes : List ℕ) (fault : LoadFault) → 0 < level → ((p : Ptr) → part.ptr ≡ Some p → part.size ≡ long → length bytes ≡ 0 → ⊥) → OrMemory fault ((part.level ≡ level) × PartIsBad blocks (IsIndexOf vault level) part fault)
    → PartRefused vault blocks part offset (length bytes) long fault
index_refused vault blocks part level offset long bytes fault some other (inl e) = inl e
index_refused vault blocks part level offset long bytes fault some other (inr bad) = inr (λ from to covers. (
  bad.1.0,
  (
    bad.1.1.0,
    record {
      place = from;
      after = omega arith;
      before = covers_some part.size offset (length bytes) long from to (other bad.1.0 bad.1.1.0) covers;
      stops = let same = bad.0 in index_stops vault blocks part.level (part.level - 1) part.size bad.1.0 from fault (omega arith) (subst (λ n. IsBad blocks (IsIndexOf vault n bad.1.0) bad.1.0.id fault) (sym same) bad.1.1.1);
    },
  ),
))

-- The old parts from here on are so many bytes further, and so is what changes there.
pub record Ahead (vault : Vault) (blocks : Blocks) (lower each : ℕ) (ps : List Ptr) (size offset count long i old start more left : ℕ) : Type 0 where
  pub base : ℕ
  pub old_is : old ≡ size - base
  pub covers : (from to : ℕ) → Covers size offset count long from to → 0 < left → Covers old start more left (from - base) (to - base)
  pub stops : (fault : LoadFault) → Forward (WayStops vault blocks fault lower) ⊥ each ps size i old base

pub ahead_start : (vault : Vault) (blocks : Blocks) (lower each : ℕ) (ps : List Ptr) (size offset count long : ℕ) → Ahead vault blocks lower each ps size offset count long 0 size offset count long
ahead_start vault blocks lower each ps size offset count long = record {
  base = 0;
  old_is = omega arith;
  covers = λ from to covers some.
      let a : from - 0 ≡ from = omega arith in
      let b : to - 0 ≡ to = omega arith in
      subst (λ n. Covers size offset count long n (to - 0)) (sym a) (subst (Covers size offset count long from) (sym b) covers);
  stops = λ fault. forward_start (WayStops vault blocks fault lower) ⊥ each ps size;
}

-- the pointer at a place, and those behind it
at_get : (ps : List Ptr) (i : ℕ) (q : Ptr) → slice_get ps i ≡ Some q → drop i ps ≡ q ∷ drop (suc i) ps
at_get [] zero q e = cc
at_get [] (suc i) q e = cc
at_get (p ∷ ps) zero q e = let same : p ≡ q = cc in ap (λ x. x ∷ ps) same
at_get (p ∷ ps) (suc i) q e = at_get ps i q e

-- one part further, also behind the last
forward_next : (F : ℕ → Ptr → ℕ → Type 0) (each : ℕ) (ps : List Ptr) (size i left base : ℕ) → Forward F ⊥ each ps size i left base → (left' base' : ℕ) → left' ≡ left - each → base' ≡ base + each → Forward F ⊥ each ps size (i + 1) left' base'
forward_next F each ps size i left base so left' base' less more = at_rest (drop i ps) refl
  where
    at_rest : (qs : List Ptr) → drop i ps ≡ qs → Forward F ⊥ each ps size (i + 1) left' base'
    at_rest [] e = λ k h. absurd (subst (λ rs. Behind F ⊥ each rs left' k) (sym (drop-drop 1 i ps) ∙ ap (drop 1) e) h)
    at_rest (q ∷ qs) e = forward_more F ⊥ each ps size i left base q so (e ∙ ap (λ rs. q ∷ rs) (sym (ap (drop 1) e) ∙ drop-drop 1 i ps)) left' base' less more

pub ahead_more : (vault : Vault) (blocks : Blocks) (lower each : ℕ) (ps : List Ptr) (size offset count long i old start more left : ℕ) → Ahead vault blocks lower each ps size offset count long i old start more left → 0 < left → start + more ≤ left
    → (here cut : ℕ) → here ≡ min each left → cut ≡ min (each - start) more → (i' old' start' more' left' : ℕ) → i' ≡ i + 1 → old' ≡ old - each → start' ≡ start - each → more' ≡ more - cut → left' ≡ left - here
    → Ahead vault blocks lower each ps size offset count long i' old' start' more' left'
ahead_more vault blocks lower each ps size offset count long i old start more left so some fit here cut h k i' old' start' more' left' ei eo es em el =
    subst (λ j. Ahead vault blocks lower each ps size offset count long j old' start' more' left') (sym ei)
    (subst (λ m. Ahead vault blocks lower each ps size offset count long (i + 1) old' m more' left') (sym es)
    (subst (λ m. Ahead vault blocks lower each ps size offset count long (i + 1) old' (start - each) m left') (sym em)
    (subst (λ m. Ahead vault blocks lower each ps size offset count long (i + 1) old' (start - each) (more - cut) m) (sym el)
    (subst (λ m. Ahead vault blocks lower each ps size offset count long (i + 1) m (start - each) (more - cut) (left - here)) (sym eo) now))))
  where
    now : Ahead vault blocks lower each ps size offset count long (i + 1) (old - each) (start - each) (more - cut) (left - here)
    now = record {
      base = so.base + each;
      old_is = let was = so.old_is in omega arith;
      covers = λ from to covers rest.
          let was = so.covers from to covers some in
          let a : from - (so.base + each) ≡ from - so.base - each = omega arith in
          let b : to - (so.base + each) ≡ to - so.base - each = omega arith in
          subst (λ n. Covers (old - each) (start - each) (more - cut) (left - here) n (to - (so.base + each))) (sym a)
          (subst (λ n. Covers (old - each) (start - each) (more - cut) (left - here) (from - so.base - each) n) (sym b) (covers_behind old start more left each here cut (from - so.base) (to - so.base) h k rest fit was));
      stops = λ fault. forward_next (WayStops vault blocks fault lower) each ps size i old so.base (so.stops fault) (old - each) (so.base + each) refl refl;
    }

-- a part that is refused is one of those behind the pointers
pub ahead_refused : (vault : Vault) (blocks : Blocks) (lower each : ℕ) (ps : List Ptr) (whole : Part) (offset count long i old start more left : ℕ) → Ahead vault blocks lower each ps whole.size offset count long i old start more left → StandFor vault blocks lower each whole ps → 0 < left → 0 < each → start + more ≤ left
    → (here cut : ℕ) → here ≡ min each left → cut ≡ min (each - start) more → (part : Part) → part.ptr ≡ slice_get ps i → part.level ≡ lower → part.size ≡ min each old → (from' : ℕ) → from' ≡ min start here → (fault : LoadFault) → PartRefused vault blocks part from' cut here fault
    → PartRefused vault blocks whole offset count long fault
ahead_refused vault blocks lower each ps whole offset count long i old start more left so stand some room fit here cut h k part at level size from' f fault (inl e) = inl e
ahead_refused vault blocks lower each ps whole offset count long i old start more left so stand some room fit here cut h k part at level size from' f fault (inr bad) = inr (λ from to covers.
    let was = so.covers from to covers some in
    let now = covers_part old start more left each here cut (from - so.base) (to - so.base) h k some room fit was in
    let got = bad (from - so.base) (min (to - so.base) each) (subst (λ n. Covers n from' cut here (from - so.base) (min (to - so.base) each)) (sym size) (subst (λ n. Covers (min each old) n cut here (from - so.base) (min (to - so.base) each)) (sym f) now)) in
    let stop = got.1.1 in
    let after = stop.after in
    let before = stop.before in
    let next : drop i ps ≡ got.0 ∷ drop (i + 1) ps = rw add-one (at_get ps i got.0 (sym at ∙ got.1.0)) in
    let here_stops = subst (λ n. WayStops vault blocks fault lower n got.0 stop.place) size (subst (λ n. WayStops vault blocks fault n part.size got.0 stop.place) level stop.stops) in
    let all = stand fault (so.base + stop.place) (forward_here (WayStops vault blocks fault lower) ⊥ each ps whole.size i old so.base got.0 (so.stops fault) next stop.place (omega arith) here_stops) in
    (all.0, (all.1.0, record { place = so.base + stop.place; after = omega arith; before = omega arith; stops = all.1.1 })))

-- a block of a lower level is the one part
pub alone_stands : (vault : Vault) (blocks : Blocks) (n each : ℕ) (part : Part) (p : Ptr) (ps : List Ptr) → part.ptr ≡ Some p → ps ≡ p ∷ [] → n ≡ part.level → part.size ≤ each → StandFor vault blocks n each part ps
alone_stands vault blocks n each part p ps at one level fits fault place h = go (subst (λ qs. Behind (WayStops vault blocks fault n) ⊥ each qs part.size place) one h)
  where
    go : Behind (WayStops vault blocks fault n) ⊥ each (p ∷ []) part.size place → PartStopsAt vault blocks part fault place
    go (inl here) =
        let all : min each part.size ≡ part.size = omega arith in
        (p, (at, subst (λ m. WayStops vault blocks fault m part.size p place) level (subst (λ m. WayStops vault blocks fault n m p place) all here.1)))
    go (inr past) = absurd past.1

behind_weaker : (F : ℕ → Ptr → ℕ → Type 0) (N : Type 0) (each : ℕ) (ps : List Ptr) (size place : ℕ) → Behind F ⊥ each ps size place → Behind F N each ps size place
behind_weaker F N each [] size place h = absurd h
behind_weaker F N each (p ∷ ps) size place (inl here) = inl here
behind_weaker F N each (p ∷ ps) size place (inr past) = inr (past.0, behind_weaker F N each ps (size - each) (place - each) past.1)

-- the pointers of the part's own block
pub index_stands : (vault : Vault) (blocks : Blocks) (level n each : ℕ) (part : Part) (p : Ptr) (ps : List Ptr) → part.ptr ≡ Some p → 0 < level → part.level ≡ level → n ≡ level - 1 → each ≡ span (level - 1) → IsIndexOf vault level p ps → StandFor vault blocks n each part ps
index_stands vault blocks level n each part p ps at some same lower spanned index fault place h =
    let above : part.level ≡ suc n = omega arith in
    let each_is : each ≡ span n = spanned ∙ ap span (sym lower) in
    let own = subst (λ k. IsIndexOf vault k p ps) (sym same) index in
    (p, (at, behind_stops vault blocks part.level n part.size each p ps ps place fault above each_is refl own (behind_weaker (WayStops vault blocks fault n) (fault ≡ BadBlock p.id) each ps part.size place h)))

pub none_stands : (vault : Vault) (blocks : Blocks) (n each : ℕ) (part : Part) (ps : List Ptr) → ps ≡ [] → StandFor vault blocks n each part ps
none_stands vault blocks n each part ps none fault place h = absurd (subst (λ qs. Behind (WayStops vault blocks fault n) ⊥ each qs part.size place) none h)

-- On the way down a file's first blocks: what stops below stops on the way from the file's pointer, up to the end of the block that was reached where it isn't the file's own.
abbrev pub Down : Vault → Blocks → ℕ → Ptr → ℕ → Ptr → Type 0
Down vault blocks size ptr above at = (fault : LoadFault) (place : ℕ) → (above < level_of size → place < span above) → WayStops vault blocks fault above (min (span above) size) at place → WayStops vault blocks fault (level_of size) size ptr place

pub down_start : (vault : Vault) (blocks : Blocks) (size : ℕ) (ptr : Ptr) (above : ℕ) → above ≡ level_of size → size ≤ 16777216 → Down vault blocks size ptr above ptr
down_start vault blocks size ptr above is small fault place within stop =
    let room = level_spans size small in
    let spanned = ap span is in
    let all : min (span above) size ≡ size = omega arith in
    subst (λ n. WayStops vault blocks fault n size ptr place) is (subst (λ n. WayStops vault blocks fault above n ptr place) all stop)

pub down_more : (vault : Vault) (blocks : Blocks) (size : ℕ) (ptr : Ptr) (above : ℕ) (at : Ptr) → Down vault blocks size ptr above at → 0 < above → above ≤ level_of size → (ps : List Ptr) → IsIndexOf vault above at ps → (q d : Ptr) → q ≡ get_or ps 0 d → Down vault blocks size ptr (above - 1) q
down_more vault blocks size ptr above at so some most ps index q d is fault place within stop =
    let below = above - 1 in
    let here : place < span below = within (omega arith) in
    let wider = span_within below above (omega arith) in
    let least : min (span below) (min (span above) size) ≡ min (span below) size = omega arith in
    so fault place (λ less. omega arith)
    (behind_stops vault blocks above below (min (span above) size) (span below) at ps ps place fault (omega arith) refl refl index (first here ps index.0.some is (subst (λ n. WayStops vault blocks fault below n q place) (sym least) stop)))
  where
    first : place < span (above - 1) → (qs : List Ptr) → 0 < length qs → q ≡ get_or qs 0 d → WayStops vault blocks fault (above - 1) (min (span (above - 1)) (min (span above) size)) q place
        → Behind (WayStops vault blocks fault (above - 1)) (fault ≡ BadBlock at.id) (span (above - 1)) qs (min (span above) size) place
    first here [] none e s = absurd (omega arith)
    first here (r ∷ rs) more e s = inl (here, subst (λ x. WayStops vault blocks fault (above - 1) (min (span (above - 1)) (min (span above) size)) x place) e s)

-- the block that was reached is the part
pub down_end : (vault : Vault) (blocks : Blocks) (level size : ℕ) (ptr : Ptr) (above : ℕ) (at : Ptr) → Down vault blocks size ptr above at → above ≤ level → (above < level_of size → level ≤ above) → (part : Part) → part.ptr ≡ Some at → part.level ≡ above → part.size ≡ min (span above) size → StandsForFile vault blocks level size ptr part
down_end vault blocks level size ptr above at so low down part is own sized fault place within stop =
    let same : Some stop.0 ≡ Some at = sym stop.1.0 ∙ is in
    let ptr_is : stop.0 ≡ at = cc in
    so fault place (λ less. let high = down less in let e : level ≡ above = omega arith in subst (λ n. place < span n) e within)
    (subst (λ x. WayStops vault blocks fault above (min (span above) size) x place) ptr_is (subst (λ n. WayStops vault blocks fault above n stop.0 place) sized (subst (λ n. WayStops vault blocks fault n part.size stop.0 place) own stop.1.1)))

-- a block above the part isn't right
pub down_stops : (vault : Vault) (blocks : Blocks) (level size : ℕ) (ptr : Ptr) (above : ℕ) (at : Ptr) (fault : LoadFault) → Down vault blocks size ptr above at → level < above → above ≤ level_of size → IsBad blocks (IsIndexOf vault above at) at.id fault → StopsAbove vault blocks level size ptr fault
down_stops vault blocks level size ptr above at fault so more within bad =
    let wider = span_within level above (omega arith) in (
      omega arith,
      λ place low. so fault place (λ less. omega arith) (index_stops vault blocks above (above - 1) (min (span above) size) at place fault (omega arith) bad),
    )

-- the size of the part that was reached
pub front_size : (level above size own part whole : ℕ) → size ≤ 16777216 → own ≡ level_of size → above ≤ level → (above < level → above ≡ own) → whole ≡ span level → part ≡ min size whole → part ≡ min (span above) size
front_size level above size own part whole small e low down w p = elim (cases_eq above level) as (λ _. part ≡ min (span above) size) [
  | inl same ↦ let spanned = ap span same in omega arith
  | inr other ↦
      let is : above ≡ level_of size = down (omega arith) ∙ e in
      let room = level_spans size small in
      let spanned = ap span is in
      let wider = span_within above level low in
      omega arith
]

small_file : (vault : Vault) (blocks : Blocks) (size offset count long : ℕ) (ptr : Ptr) (fault : LoadFault) → size ≤ 16777216 → OrMemory fault ((from to : ℕ) → Covers size offset count long from to → StopsIn vault blocks (level_of size) size ptr from to fault) → PatchRefused vault blocks size offset count long ptr fault
small_file vault blocks size offset count long ptr fault small refused =
    where_small size (OrMemory fault ((from to : ℕ) → Covers size offset count long from to → StopsIn vault blocks (level_of size) size ptr from to fault)) (IsBad blocks (IsFileOf vault size ptr) ptr.id fault) small refused

-- a file whose upper blocks aren't right
pub above_refused : (vault : Vault) (blocks : Blocks) (size offset count long : ℕ) (ptr : Ptr) (fault : LoadFault) → size ≤ 16777216 → long ≤ 16777216 → StopsAbove vault blocks (level_of long) size ptr fault → PatchRefused vault blocks size offset count long ptr fault
above_refused vault blocks size offset count long ptr fault small fits bad =
    let shrinks = level_grows long size bad.0 in
    let room = level_spans long fits in
    let some = span_some (level_of long) in
    small_file vault blocks size offset count long ptr fault small (inr (λ from to covers.
    let change = covers_some size offset count long from to (λ e _. absurd (omega arith)) covers in
    let within = covers.within in
    record { place = from; after = omega arith; before = change; stops = bad.1 from (omega arith) }))

-- a part that is refused is the file's
pub file_refused : (vault : Vault) (blocks : Blocks) (size offset count long : ℕ) (ptr : Ptr) (part : Part) (fault : LoadFault) → size ≤ 16777216 → long ≤ 16777216 → part.size ≡ min size (span (level_of long)) → StandsForFile vault blocks (level_of long) size ptr part → PartRefused vault blocks part offset count long fault → PatchRefused vault blocks size offset count long ptr fault
file_refused vault blocks size offset count long ptr part fault small fits sized stands (inl e) = small_file vault blocks size offset count long ptr fault small (inl e)
file_refused vault blocks size offset count long ptr part fault small fits sized stands (inr bad) =
    let room = level_spans long fits in
    let some = span_some (level_of long) in
    small_file vault blocks size offset count long ptr fault small (inr (λ from to covers.
    let got = bad from to (subst (λ n. Covers n offset count long from to) (sym sized) (covers_front size offset count long from to (span (level_of long)) room covers)) in
    let stop = got.1.1 in
    let within = covers.within in
    let before = stop.before in
    record { place = stop.place; after = stop.after; before = before; stops = stands fault stop.place (omega arith) (got.0, (got.1.0, stop.stops)) }))
