-- What is known of a log that was read.
use Rattle.std.proofs.Common.{◌≡◌, ℕ, zero, ◌+◌, ◌^◌, ◌≤◌, Bool, true, false, cond, List, [], ◌∷◌, ◌++◌, length, take, drop, Option, None, Some, refl, sym, ap, subst, ◌∙◌, arith, append_assoc, length-append}
use Rattle.std.specs.Prelude.{unwrap_or, vec_capacity, Result, Err, IsErrOf}
use Rattle.std.specs.Option.{option_map}
use Rattle.std.proofs.lemmas.List.{take-append-drop, take-take, length-take}
use Rattle.kb_log.specs.LogList.{list_of, used_of, has_magic, area_size, area_start, log_list}
use Rattle.kb_log.specs.State.{IsRead, IsSettled, payloads_of}
use Rattle.kb_log.specs.Steps.{IsClean}
use Rattle.kb_log.specs.declared.area.Area.{Area}
use Rattle.kb_log.proofs.Images.{take_past, list_from_front}
use Rattle.kb_log.proofs.Records.{records_split, records_length}
use Rattle.kb_log.proofs.Resettled.{shows}

counted : (o : Option (List (List ℕ))) (used : ℕ) → option_map used_of o ≡ Some used → (o ≡ Some (unwrap_or o [])) × (used ≡ used_of (unwrap_or o []))
counted None used e = absurd cc
counted (Some ps) used e = (refl, cc)

pub uncounted : (o : Option (List (List ℕ))) → option_map used_of o ≡ None → o ≡ None
uncounted None e = refl
uncounted (Some ps) e = absurd cc

-- a beginning of an area that has a list is enough
pub read_front : (behind text : List ℕ) (size most used : ℕ) → most ≤ size → text ≡ take most behind → option_map used_of (list_of text) ≡ Some used → IsRead (take size behind) (take used text)
read_front behind text size most used le is count =
    let area = take size behind in
    let ps = unwrap_or (list_of text) [] in
    let c = counted (list_of text) used count in
    let read = records_split _ text ps c.0 in
    let front = read.front in
    let used_front : length front + 1 ≡ used_of ps = records_length ps front read.are in
    let tail = read.tail ++ drop most area in
    let cut : take used text ≡ front ++ zero ∷ [] = ap (λ (l : List ℕ). take used l) read.split ∙ take_past front (zero ∷ read.tail) used 1 (omega (arith, used_front, c.1)) in
    let whole : area ≡ front ++ zero ∷ (read.tail ++ drop most area) =
    sym (take-append-drop most area) ∙ ap (λ (l : List ℕ). l ++ drop most area) (take-take most size behind le ∙ sym is ∙ read.split) ∙ simp append_assoc in
    let shown : payloads_of (take used text) ≡ ps = shows (list_of (take used text)) ps [] (ap list_of cut ∙ list_from_front ps front [] read.are) in
    let long : length (take used text) ≡ length front + 1 = ap length cut ∙ length-append front (zero ∷ []) in
    record {
      list = ap list_of whole ∙ list_from_front ps front tail read.are ∙ ap (λ (l : List (List ℕ)). Some l) (sym shown);
      used = long ∙ used_front ∙ ap used_of (sym shown);
      same = cut ∙ sym (ap (λ (l : List ℕ). take (length (take used text)) l) whole ∙ take_past front (zero ∷ tail) (length (take used text)) 1 long);
    }

pub some_magic : (b : Bool) (found start : ℕ) → Some found ≡ cond b (Some start) None → (b ≡ true) × (found ≡ start)
some_magic true found start e = (refl, cc)
some_magic false found start e = absurd cc

-- a fault that is handed on
pub as_err : {T U E : Type 0} (x y : E) (r : Result U E) → r ≡ Err x → IsErrOf {T = T} (Err x) y → IsErrOf r y
as_err x y r is e = let same : x ≡ y = cc in is ∙ ap (λ z. Err z) same

-- an image without the magic
pub no_magic : (image : List ℕ) → None ≡ cond (has_magic image) (Some (area_start image)) None → log_list image ≡ None
unfolding log_list
no_magic image none = by (has_magic image) (area_start image) (list_of (take (area_size (length image)) (drop (area_start image) image))) none
  where
    by : (b : Bool) (start : ℕ) (o : Option (List (List ℕ))) → None ≡ cond b (Some start) None → cond b o None ≡ None
    by true start o e = absurd cc
    by false start o e = refl

listed : (image text : List ℕ) → has_magic image ≡ true → IsRead (take (area_size (length image)) (drop (area_start image) image)) text → log_list image ≡ Some (payloads_of text)
unfolding log_list
listed image text magic read = rw magic read.list

-- an image whose chosen area has no list
pub unlisted : (image : List ℕ) (start size : ℕ) → start ≡ area_start image → size ≡ area_size (length image) → list_of (take size (drop start image)) ≡ None → log_list image ≡ None
unfolding log_list
unlisted image start size starts sizes none =
    by (has_magic image) (list_of (take (area_size (length image)) (drop (area_start image) image))) (subst (λ (n : ℕ). list_of (take n (drop (area_start image) image)) ≡ None) sizes (subst (λ (s : ℕ). list_of (take size (drop s image)) ≡ None) starts none))
  where
    by : (b : Bool) (o : Option (List (List ℕ))) → o ≡ None → cond b o None ≡ None
    by true o e = e
    by false o e = refl

-- an area that was read from a clean disk
pub opened_settled : (old now : List ℕ) (dirty : ℕ → Bool) (area : Area) → now ≡ old → 4096 ≤ length old → length old ≤ 2 ^ 24 → IsClean dirty → has_magic old ≡ true → area.start ≡ area_start old → area.size ≡ area_size (length old)
    → area.size ≤ vec_capacity area.text → IsRead (take area.size (drop area.start old)) area.text.items → IsSettled now dirty area
opened_settled old now dirty area same low high clean magic starts sizes room read =
    let text = area.text.items in
    let whole : take area.size (drop area.start old) ≡ take (area_size (length old)) (drop (area_start old) old) =
    ap (λ (n : ℕ). take n (drop area.start old)) sizes ∙ ap (λ (s : ℕ). take (area_size (length old)) (drop s old)) starts in
    let short : length text ≤ area.size = omega (arith, ap length read.same, length-take (length text) (take area.size (drop area.start old)), length-take area.size (drop area.start old)) in
    subst (λ (l : List ℕ). IsSettled l dirty area) (sym same) (
    record {
      low = low;
      high = high;
      clean = clean;
      list = listed old text magic (subst (λ (l : List ℕ). IsRead l text) whole read);
      start = starts;
      size = sizes;
      room = room;
      used = read.used;
      same = read.same ∙ take-take (length text) area.size (drop area.start old) short;
    })
