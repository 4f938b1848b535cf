-- A log whose list is replaced.
use Rattle.std.proofs.Common.{◌≡◌, ℕ, zero, ◌+◌, ◌%◌, ◌^◌, ◌≤◌, ◌<◌, Bool, false, true, not, cond, eqb, List, [], ◌∷◌, ◌++◌, length, get_or, take, drop, Some, refl, sym, ap, subst, ◌∙◌, arith, inl, inr, append_assoc, ◌⊎◌}
use Rattle.std.specs.Int.{w32, to_be_bytes}
use Rattle.std.proofs.lemmas.Nat.{from_be_bytes-to_be_bytes_4}
use Rattle.std.proofs.lemmas.Bool.Decides.{nat_tests}
use Rattle.std.proofs.lemmas.List.{take_at}
use Rattle.kb_edge.specs.Disk.{within, overlay, MayLeave}
use Rattle.kb_log.specs.LogList.{area_size, is_second, area_start, other_start, has_magic, log_list, used_of}
use Rattle.kb_log.specs.Pieces.{open_record, records_text}
use Rattle.kb_log.proofs.Kept.{front_kept, back_kept, overlay_kept, length-overlay, overlay_behind, get_overlay}
use Rattle.kb_log.proofs.Records.{AreRecords, records_length}
use Rattle.kb_log.proofs.Images.{Parts, head_same, behind_same, take_past, list_from_parts, start_low}
use Rattle.kb_log.proofs.Append.{Settled}
use Rattle.kb_log.proofs.Fill.{used_cons, length-records_text}

-- ---- a text of records

pub record Front (ps : List (List ℕ)) : Type 0 where
  pub front : List ℕ
  pub are : AreRecords ps front
  pub split : records_text ps ≡ front ++ zero ∷ []

pub front_of : (ps : List (List ℕ)) → used_of ps < 2 ^ 32 → Front ps
unfolding open_record
front_of [] short = record { front = []; are = refl; split = refl }
front_of (p ∷ ps) short =
    let len = to_be_bytes w32 (length p) in
    let rest = front_of ps (omega (arith, used_cons p ps)) in
    record {
      front = 1 ∷ (len ++ (p ++ rest.front));
      are = (0, len, rest.front, refl, from_be_bytes-to_be_bytes_4 (length p) (omega (arith, used_cons p ps)), refl, rest.are);
      split = ap (λ (l : List ℕ). (1 ∷ (len ++ p)) ++ l) rest.split ∙ simp append_assoc;
    }

-- ---- the two areas

apart : (old : List ℕ) → 16 ≤ length old → (area_start old + area_size (length old) ≤ other_start old) ⊎ (other_start old + area_size (length old) ≤ area_start old)
apart old low = by (is_second old)
  where
    by : (b : Bool) → (cond b (16 + area_size (length old)) 16 + area_size (length old) ≤ cond b 16 (16 + area_size (length old))) ⊎ (cond b 16 (16 + area_size (length old)) + area_size (length old) ≤ cond b (16 + area_size (length old)) 16)
    by true = inr (omega arith)
    by false = inl (omega arith)

pub other_low : (old : List ℕ) → 16 ≤ other_start old
other_low old = grind (arith, nat_tests)

pub other_fits : (old : List ℕ) → 16 ≤ length old → other_start old + area_size (length old) ≤ length old
other_fits old low = grind (arith, nat_tests)

-- what is written to the other area changes nothing
pub other_area : (ps : List (List ℕ)) (old image : List ℕ) (n : ℕ) → Parts ps old → 16 ≤ length old → n ≤ area_size (length old) → MayLeave old (within (other_start old) n) image → Parts ps image × (area_start image ≡ area_start old)
other_area ps old image n parts low fits may =
    let s = area_start old in
    let m = length parts.front + 1 in
    let head : take 16 image ≡ take 16 old = front_kept old image (other_start old) n 16 may (other_low old) in
    let same = head_same old image 16 (omega arith) head may.size in
    let front : take m (drop s old) ≡ parts.front ++ zero ∷ [] = ap (λ (l : List ℕ). take m l) parts.split ∙ take_past parts.front (zero ∷ parts.tail) m 1 (omega arith) in
    let make : (tail : List ℕ) → drop s image ≡ parts.front ++ zero ∷ tail → Parts ps image × (area_start image ≡ area_start old) =
    λ tail split. (record { magic = same.0 ∙ parts.magic; front = parts.front; tail = tail; are = parts.are; split = ap (λ (k : ℕ). drop k image) same.1 ∙ split; fits = rw may.size parts.fits }, same.1) in
    elim (apart old low) [
      | inl first ↦ make (drop m (drop s image)) (behind_same old image s m (front_kept old image (other_start old) n (s + m) may (omega (arith, parts.fits))) ∙ ap (λ (l : List ℕ). l ++ drop m (drop s image)) front ∙ simp append_assoc)
      | inr second ↦ make parts.tail (back_kept old image (other_start old) n s may (omega arith) ∙ parts.split)
    ]

module _ (ps qs : List (List ℕ)) (old : List ℕ) (parts : Parts ps old) (low : 16 ≤ length old) (small : used_of qs < 2 ^ 32) (fits : used_of qs ≤ area_size (length old)) where
  room : other_start old + length (records_text qs) ≤ length old
  room = omega (arith, other_fits old low, length-records_text qs)

  pub staged_kept : MayLeave old (within (other_start old) (length (records_text qs))) (overlay old (other_start old) (records_text qs))
  staged_kept = overlay_kept old (other_start old) (records_text qs) room

  staged_parts : Parts ps (overlay old (other_start old) (records_text qs)) × (area_start (overlay old (other_start old) (records_text qs)) ≡ area_start old)
  staged_parts = other_area ps old (overlay old (other_start old) (records_text qs)) (length (records_text qs)) parts low (omega (arith, length-records_text qs)) staged_kept

  st_size : length (overlay old (other_start old) (records_text qs)) ≡ length old
  st_size = length-overlay old (other_start old) (records_text qs) room

  -- an image that chooses the new area
  pub record Switched (image : List ℕ) : Type 0 where
    pub parts_new : Parts qs image
    pub start : area_start image ≡ other_start old
    pub behind : drop (other_start old) image ≡ records_text qs ++ drop (other_start old + length (records_text qs)) old
    pub size : length image ≡ length old

  magic_kept : (image : List ℕ) → MayLeave (overlay old (other_start old) (records_text qs)) (within 8 1) image → has_magic image ≡ true
  magic_kept image may =
      let st = overlay old (other_start old) (records_text qs) in
      let front : take 8 image ≡ take 8 st = front_kept st image 8 1 8 may (omega arith) in
      rw front staged_parts.0.magic

  pub switched : (image : List ℕ) → MayLeave (overlay old (other_start old) (records_text qs)) (within 8 1) image → is_second image ≡ not (is_second old) → Switched image
  switched image may turned =
      let st = overlay old (other_start old) (records_text qs) in
      let f = front_of qs small in
      let size : length image ≡ length old = may.size ∙ st_size in
      let start : area_start image ≡ other_start old = start_turned (is_second old) (is_second image) (length image) (length old) turned size in
      let tail = drop (other_start old + length (records_text qs)) old in
      let behind : drop (other_start old) image ≡ records_text qs ++ tail =
      back_kept st image 8 1 (other_start old) may (omega (arith, other_low old)) ∙ overlay_behind old (other_start old) (records_text qs) room in
      record {
        parts_new = record {
          magic = magic_kept image may;
          front = f.front;
          tail = tail;
          are = f.are;
          split = ap (λ (k : ℕ). drop k image) start ∙ behind ∙ ap (λ (l : List ℕ). l ++ tail) f.split ∙ simp append_assoc;
          fits = rw size (omega (arith, records_length qs f.front f.are, fits));
        };
        start = start;
        behind = behind;
        size = size;
      }
    where
      start_turned : (a b : Bool) (m n : ℕ) → b ≡ not a → m ≡ n → cond b (16 + area_size m) 16 ≡ cond a 16 (16 + area_size n)
      start_turned true b m n e is = rw e refl
      start_turned false b m n e is = rw (e, is) refl

  pub unswitched : (image : List ℕ) → MayLeave (overlay old (other_start old) (records_text qs)) (within 8 1) image → is_second image ≡ is_second old → Parts ps image
  unswitched image may same =
      let st = overlay old (other_start old) (records_text qs) in
      let size : length image ≡ length old = may.size ∙ st_size in
      let start : area_start image ≡ area_start old = start_same (is_second old) (is_second image) (length image) (length old) same size in
      let sp = staged_parts.0 in
      let behind : drop (area_start old) image ≡ drop (area_start old) st = back_kept st image 8 1 (area_start old) may (omega (arith, start_low old)) in
      record {
        magic = magic_kept image may;
        front = sp.front;
        tail = sp.tail;
        are = sp.are;
        split = ap (λ (k : ℕ). drop k image) start ∙ behind ∙ ap (λ (k : ℕ). drop k st) (sym staged_parts.1) ∙ sp.split;
        fits = rw may.size sp.fits;
      }
    where
      start_same : (a b : Bool) (m n : ℕ) → b ≡ a → m ≡ n → cond b (16 + area_size m) 16 ≡ cond a (16 + area_size n) 16
      start_same a b m n e is = rw (e, is) refl

  pub switch_either : (image : List ℕ) → MayLeave (overlay old (other_start old) (records_text qs)) (within 8 1) image → (log_list image ≡ Some ps) ⊎ (log_list image ≡ Some qs)
  switch_either image may =
      elim (same_or_not (is_second image) (is_second old)) [
        | inl same ↦ inl (list_from_parts ps image (unswitched image may same))
        | inr turned ↦ inr (list_from_parts qs image (switched image may turned).parts_new)
      ]
    where
      same_or_not : (a b : Bool) → (a ≡ b) ⊎ (a ≡ not b)
      same_or_not true true = inl refl
      same_or_not true false = inr refl
      same_or_not false true = inr refl
      same_or_not false false = inl refl

  pub first_area : (image : List ℕ) → MayLeave old (within (other_start old) (length (records_text qs))) image → log_list image ≡ Some ps
  first_area image may = list_from_parts ps image (other_area ps old image (length (records_text qs)) parts low (omega (arith, length-records_text qs)) may).0

  -- at the end
  pub settled_compact : (new : List ℕ) (v : ℕ) → new ≡ overlay (overlay old (other_start old) (records_text qs)) 8 (v ∷ []) → eqb (v % 2) 1 ≡ not (is_second old) → Settled new qs (other_start old) (records_text qs)
  settled_compact new v new_is turned =
      let st = overlay old (other_start old) (records_text qs) in
      let one_room : 8 + 1 ≤ length st = omega (arith, st_size, low) in
      let may : MayLeave st (within 8 1) new = subst (λ (l : List ℕ). MayLeave st (within 8 1) l) (sym new_is) (overlay_kept st 8 (v ∷ []) one_room) in
      let selector : get_or new 8 0 ≡ v = ap (λ (l : List ℕ). get_or l 8 0) new_is ∙ get_overlay st 8 v one_room in
      let s = switched new may (ap (λ (b : ℕ). eqb (b % 2) 1) selector ∙ turned) in
      let n = length (records_text qs) in
      record {
        list = list_from_parts qs new s.parts_new;
        start_is = sym s.start;
        used_is = length-records_text qs;
        same = sym (ap (λ (l : List ℕ). take n l) s.behind ∙ take_at (records_text qs) (drop (other_start old + n) old) n refl);
      }

-- the code's choice of the other area
pub turn : (b : Bool) (a s : ℕ) → 0 < a → s ≡ cond b (16 + a) 16 → (cond (eqb s 16) (16 + a) 16 ≡ cond b 16 (16 + a)) × (eqb (cond (eqb s 16) 1 0 % 2) 1 ≡ not b)
turn true a s some is =
    let no : eqb s 16 ≡ false = grind (arith, nat_tests) in
    (rw no refl, rw no refl)
turn false a s some is = (rw is refl, rw is refl)

pub size_compact : (old new text : List ℕ) (at v : ℕ) → 16 ≤ length old → at + length text ≤ length old → new ≡ overlay (overlay old at text) 8 (v ∷ []) → length new ≡ length old
size_compact old new text at v low room is =
    let first : length (overlay old at text) ≡ length old = length-overlay old at text room in
    ap length is ∙ length-overlay (overlay old at text) 8 (v ∷ []) (omega (arith, first, low)) ∙ first
