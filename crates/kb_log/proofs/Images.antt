-- What an image stands for, by its parts; and what a power cut leaves in each step of an append.
use Rattle.std.proofs.Common.{◌≡◌, ℕ, zero, suc, ◌+◌, ◌-◌, ◌≤◌, Bool, false, true, cond, List, [], ◌∷◌, ◌++◌, length, get_or, take, drop, Option, None, Some, refl, sym, ap, ◌∙◌, arith, inl, inr, append_assoc, length-append, ◌⊎◌}
use Rattle.std.specs.Int.{w32, from_be_bytes}
use Rattle.std.proofs.lemmas.Bool.Decides.{nat_tests}
use Rattle.std.proofs.lemmas.List.{take_at, drop_more, length-take, take-append-drop, take-take, drop-take, drop-drop, get_or-take}
use Rattle.kb_edge.specs.Disk.{within, overlay, MayLeave}
use Rattle.kb_log.specs.LogList.{list_of, area_size, area_start, area_of, has_magic, log_list, used_of}
use Rattle.kb_log.proofs.Kept.{front_kept, back_kept, overlay_kept, length-overlay, overlay_front, overlay_behind}
use Rattle.kb_log.proofs.Records.{AreRecords, records_read, records_length, records_few, records_push, records_split}

-- the records of an image's area, and the closed gate behind them
pub record Parts (ps : List (List ℕ)) (image : List ℕ) : Type 0 where
  pub magic : has_magic image ≡ true
  pub front : List ℕ
  pub tail : List ℕ
  pub are : AreRecords ps front
  pub split : drop (area_start image) image ≡ front ++ zero ∷ tail
  pub fits : length front + 1 ≤ area_size (length image)

pub used_front : (ps : List (List ℕ)) (image : List ℕ) (parts : Parts ps image) → length parts.front + 1 ≡ used_of ps
used_front ps image parts = records_length ps parts.front parts.are

pub take_past : (xs ys : List ℕ) (m n : ℕ) → m ≡ length xs + n → take m (xs ++ ys) ≡ xs ++ take n ys
take_past [] ys m n is = let same : m ≡ n = omega arith in ap (λ (k : ℕ). take k ys) same
take_past (x ∷ xs) ys zero n is = absurd (omega arith)
take_past (x ∷ xs) ys (suc m) n is = ap (λ (l : List ℕ). x ∷ l) (take_past xs ys m n (omega arith))

pub list_from_front : (ps : List (List ℕ)) (front tail : List ℕ) → AreRecords ps front → list_of (front ++ zero ∷ tail) ≡ Some ps
list_from_front ps front tail are = records_read ps front tail _ are (omega (arith, records_few ps front are, length-append front (zero ∷ tail)))

pub list_from_parts : (ps : List (List ℕ)) (image : List ℕ) → Parts ps image → log_list image ≡ Some ps
unfolding log_list
list_from_parts ps image parts =
    let n = area_size (length image) in
    let rest = n - (length parts.front + 1) in
    let area : area_of image ≡ parts.front ++ zero ∷ take rest parts.tail =
    ap (λ (l : List ℕ). take n l) parts.split ∙ take_past parts.front (zero ∷ parts.tail) n (suc rest) (omega (arith, parts.fits)) in
    rw (parts.magic, area) (list_from_front ps parts.front (take rest parts.tail) parts.are)

guard : {A : Type 0} (b : Bool) (o : Option A) (y : A) → cond b o None ≡ Some y → (b ≡ true) × (o ≡ Some y)
guard true o y e = (refl, e)
guard false o y e = absurd cc

pub parts_from_list : (ps : List (List ℕ)) (image : List ℕ) → log_list image ≡ Some ps → Parts ps image
unfolding log_list
parts_from_list ps image e =
    let n = area_size (length image) in
    let behind = drop (area_start image) image in
    let b = guard (has_magic image) (list_of (area_of image)) ps e in
    let read = records_split _ (area_of image) ps b.1 in
    record {
      magic = b.0;
      front = read.front;
      tail = read.tail ++ drop n behind;
      are = read.are;
      split = sym (take-append-drop n behind) ∙ ap (λ (l : List ℕ). l ++ drop n behind) read.split ∙ simp append_assoc;
      fits = omega (arith, ap length read.split, length-append read.front (zero ∷ read.tail), length-take n behind);
    }

-- Where the first 16 bytes are the same, so are the magic and the area.
pub head_same : (old image : List ℕ) (k : ℕ) → 16 ≤ k → take k image ≡ take k old → length image ≡ length old → (has_magic image ≡ has_magic old) × (area_start image ≡ area_start old)
head_same old image k le same size =
    let eight : take 8 image ≡ take 8 old = sym (take-take 8 k image (omega arith)) ∙ ap (λ (l : List ℕ). take 8 l) same ∙ take-take 8 k old (omega arith) in
    let selector : get_or image 8 0 ≡ get_or old 8 0 = sym (get_or-take k image 8 0 (omega arith)) ∙ ap (λ (l : List ℕ). get_or l 8 0) same ∙ get_or-take k old 8 0 (omega arith) in
    (rw eight refl, rw (selector, size) refl)

pub start_low : (image : List ℕ) → 16 ≤ area_start image
start_low image = grind (arith, nat_tests)

pub area_within : (image : List ℕ) → 16 ≤ length image → area_start image + area_size (length image) ≤ length image
area_within image low = grind (arith, nat_tests)

-- what lies behind the start, up to a place where all before it is the same
pub behind_same : (old image : List ℕ) (s m : ℕ) → take (s + m) image ≡ take (s + m) old → drop s image ≡ take m (drop s old) ++ drop m (drop s image)
behind_same old image s m same =
    sym (take-append-drop m (drop s image))
    ∙ ap (λ (l : List ℕ). l ++ drop m (drop s image)) (sym (drop-take s m image) ∙ ap (λ (l : List ℕ). drop s l) same ∙ drop-take s m old)

-- The closed gate stands, so nothing behind it counts.
pub behind_gate : (ps : List (List ℕ)) (old image : List ℕ) (parts : Parts ps old) (at n : ℕ) → at ≡ area_start old + used_of ps → MayLeave old (within at n) image → Parts ps image
behind_gate ps old image parts at n is may =
    let s = area_start old in
    let m = length parts.front + 1 in
    let low = start_low old in
    let used = used_front ps old parts in
    let front : take (s + m) image ≡ take (s + m) old = front_kept old image at n (s + m) may (omega arith) in
    let head = head_same old image (s + m) (omega arith) front may.size in
    let gate : take m (drop s old) ≡ parts.front ++ zero ∷ [] =
    ap (λ (l : List ℕ). take m l) parts.split ∙ take_past parts.front (zero ∷ parts.tail) m 1 (omega arith) in
    record {
      magic = head.0 ∙ parts.magic;
      front = parts.front;
      tail = drop m (drop s image);
      are = parts.are;
      split = ap (λ (k : ℕ). drop k image) head.1 ∙ behind_same old image s m front ∙ ap (λ (l : List ℕ). l ++ drop m (drop s image)) gate ∙ simp append_assoc;
      fits = rw may.size parts.fits;
    }

-- ---- a record staged behind the closed gate of an image, and the gate

module _ (ps : List (List ℕ)) (old : List ℕ) (parts : Parts ps old) (len p : List ℕ) (four : length len ≡ 4) (is : from_be_bytes w32 len ≡ length p) (fits : used_of ps + 5 + length p ≤ area_size (length old)) where
  start : ℕ
  start = area_start old

  bytes : List ℕ
  bytes = len ++ (p ++ zero ∷ [])

  abbrev pub staged : List ℕ
  staged = overlay old (area_start old + used_of ps) (len ++ (p ++ zero ∷ []))

  size : length (len ++ (p ++ zero ∷ [])) ≡ length p + 5
  size = omega (arith, four, length-append len (p ++ zero ∷ []), length-append p (zero ∷ []))

  pub within_disk : area_start old + used_of ps + length (len ++ (p ++ zero ∷ [])) ≤ length old
  within_disk = grind (arith, nat_tests, size, fits)

  used : length parts.front + 1 ≡ used_of ps
  used = used_front ps old parts

  pub staged_parts : Parts ps staged
  staged_parts = behind_gate ps old staged parts (area_start old + used_of ps) (length (len ++ (p ++ zero ∷ []))) refl (overlay_kept old (area_start old + used_of ps) (len ++ (p ++ zero ∷ [])) within_disk)

  rest : List ℕ
  rest = drop (area_start old + used_of ps + length (len ++ (p ++ zero ∷ []))) old

  -- Whatever stands at the gate, the record stands whole behind it.
  pub record Opened (image : List ℕ) : Type 0 where
    pub size : length image ≡ length old
    pub magic : has_magic image ≡ true
    pub start : area_start image ≡ area_start old
    pub split : drop (area_start image) image ≡ parts.front ++ get_or image (area_start old + used_of ps - 1) 0 ∷ (len ++ (p ++ zero ∷ drop (area_start old + used_of ps + length (len ++ (p ++ zero ∷ []))) old))

  pub opened : (image : List ℕ) → MayLeave staged (within (area_start old + used_of ps - 1) 1) image → Opened image
  opened image may =
      let s = area_start old in
      let at = area_start old + used_of ps in
      let g = area_start old + used_of ps - 1 in
      let bytes = len ++ (p ++ zero ∷ []) in
      let k = length parts.front in
      let low = start_low old in
      let sum : g ≡ s + k = omega (arith, used) in
      let long : at + length bytes ≤ length old = within_disk in
      let same_size : length image ≡ length old = may.size ∙ length-overlay old at bytes long in
      let to_staged : take (s + k) image ≡ take (s + k) staged = front_kept staged image g 1 (s + k) may (omega arith) in
      let to_old : take (s + k) staged ≡ take (s + k) old =
      sym (take-take (s + k) at staged (omega (arith, used))) ∙ ap (λ (l : List ℕ). take (s + k) l) (overlay_front old at bytes long) ∙ take-take (s + k) at old (omega (arith, used)) in
      let same : take (s + k) image ≡ take (s + k) old = to_staged ∙ to_old in
      let head = head_same old image (s + k) (omega arith) same same_size in
      let records : take k (drop s old) ≡ parts.front = ap (λ (l : List ℕ). take k l) parts.split ∙ take_at parts.front (zero ∷ parts.tail) k refl in
      let behind : drop (g + 1) image ≡ bytes ++ drop (at + length bytes) old =
      back_kept staged image g 1 (g + 1) may (omega arith) ∙ ap (λ (n : ℕ). drop n staged) (let e : g + 1 ≡ at = omega (arith, used) in e) ∙ overlay_behind old at bytes long in
      let gate : drop k (drop s image) ≡ get_or image g 0 ∷ (bytes ++ drop (at + length bytes) old) =
      drop-drop k s image ∙ ap (λ (n : ℕ). drop n image) (sym sum) ∙ drop_more image g 0 (omega (arith, used)) ∙ ap (λ (l : List ℕ). get_or image g 0 ∷ l) behind in
      record {
        size = same_size;
        magic = head.0 ∙ parts.magic;
        start = head.1;
        split = ap (λ (n : ℕ). drop n image) head.1 ∙ behind_same old image s k same ∙ ap (λ (l : List ℕ). l ++ drop k (drop s image)) records ∙ ap (λ (l : List ℕ). parts.front ++ l) gate ∙ simp append_assoc;
      }

  pub gate_open : (image : List ℕ) (n : ℕ) → MayLeave staged (within (area_start old + used_of ps - 1) 1) image → get_or image (area_start old + used_of ps - 1) 0 ≡ suc n → Parts (ps ++ p ∷ []) image
  gate_open image n may gate =
      let o = opened image may in
      let at = area_start old + used_of ps in
      let bytes = len ++ (p ++ zero ∷ []) in
      record {
        magic = o.magic;
        front = parts.front ++ suc n ∷ (len ++ (p ++ []));
        tail = drop (at + length bytes) old;
        are = records_push ps parts.front n len p parts.are four is;
        split = o.split ∙ ap (λ (l : ℕ). parts.front ++ l ∷ (len ++ (p ++ zero ∷ drop (at + length bytes) old))) gate ∙ simp append_assoc;
        fits = rw o.size (omega (arith, fits, four, used, length-append parts.front (suc n ∷ (len ++ (p ++ []))), length-append len (p ++ []), length-append p []));
      }

  pub gate_shut : (image : List ℕ) → MayLeave staged (within (area_start old + used_of ps - 1) 1) image → get_or image (area_start old + used_of ps - 1) 0 ≡ zero → Parts ps image
  gate_shut image may gate =
      let o = opened image may in
      let at = area_start old + used_of ps in
      let bytes = len ++ (p ++ zero ∷ []) in
      let behind = len ++ (p ++ zero ∷ drop (at + length bytes) old) in
      record {
        magic = o.magic;
        front = parts.front;
        tail = behind;
        are = parts.are;
        split = o.split ∙ ap (λ (l : ℕ). parts.front ++ l ∷ behind) gate;
        fits = rw o.size parts.fits;
      }

  pub gate_either : (image : List ℕ) → MayLeave staged (within (area_start old + used_of ps - 1) 1) image → Parts ps image ⊎ Parts (ps ++ p ∷ []) image
  gate_either image may = by_gate (get_or image (area_start old + used_of ps - 1) 0) refl
    where
      by_gate : (g : ℕ) → get_or image (area_start old + used_of ps - 1) 0 ≡ g → Parts ps image ⊎ Parts (ps ++ p ∷ []) image
      by_gate zero e = inl (gate_shut image may e)
      by_gate (suc n) e = inr (gate_open image n may e)
