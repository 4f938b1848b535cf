-- A log with one payload more.
use Rattle.std.proofs.Common.{◌≡◌, ℕ, zero, ◌+◌, ◌-◌, ◌^◌, ◌≤◌, ◌<◌, List, [], ◌∷◌, ◌++◌, length, get_or, set, take, drop, Some, refl, sym, ap, subst, ◌∙◌, arith, inl, inr, append_assoc, length-append, ◌⊎◌}
use Rattle.std.specs.Int.{w32, from_be_bytes, to_be_bytes}
use Rattle.std.proofs.lemmas.Nat.{from_be_bytes-to_be_bytes_4}
use Rattle.std.proofs.lemmas.List.{take_at, set_at}
use Rattle.std.proofs.lemmas.List.Sums.{sum_by_push}
use Rattle.kb_edge.specs.Disk.{within, overlay, MayLeave}
use Rattle.kb_log.specs.LogList.{list_of, area_size, area_start, log_list, used_of, record_of}
use Rattle.kb_log.proofs.Kept.{overlay_kept, length-overlay, get_overlay}
use Rattle.kb_log.proofs.Images.{Parts, used_front, take_past, list_from_front, list_from_parts, parts_from_list, behind_gate, within_disk, opened, gate_open, gate_either}

-- what the log in memory knows of its disk
pub record Settled (now : List ℕ) (ps : List (List ℕ)) (start : ℕ) (text : List ℕ) : Type 0 where
  pub list : log_list now ≡ Some ps
  pub start_is : start ≡ area_start now
  pub used_is : length text ≡ used_of ps
  pub same : text ≡ take (length text) (drop start now)

module _ (now : List ℕ) (ps : List (List ℕ)) (start : ℕ) (text : List ℕ) (s : Settled now ps start text) where
  abbrev parts : Parts ps now
  parts = parts_from_list ps now s.list

  pub used_fits : length text ≤ area_size (length now)
  used_fits = omega (arith, used_front ps now parts, parts.fits, s.used_is)

  pub used_some : 0 < length text
  used_some = omega (arith, used_front ps now parts, s.used_is)

  front_same : text ≡ parts.front ++ zero ∷ []
  front_same =
      s.same ∙ ap (λ (n : ℕ). take (length text) (drop n now)) s.start_is ∙ ap (λ (l : List ℕ). take (length text) l) parts.split
      ∙ take_past parts.front (zero ∷ parts.tail) (length text) 1 (omega (arith, used_front ps now parts, s.used_is))

  pub shown : list_of text ≡ Some ps
  shown = ap list_of front_same ∙ list_from_front ps parts.front [] parts.are

  module _ (p : List ℕ) (short : length p < 2 ^ 32) (fits : length text + 5 + length p ≤ area_size (length now)) where
    abbrev len : List ℕ
    len = to_be_bytes w32 (length p)

    is : from_be_bytes w32 (to_be_bytes w32 (length p)) ≡ length p
    is = from_be_bytes-to_be_bytes_4 (length p) short

    room : used_of ps + 5 + length p ≤ area_size (length now)
    room = omega (arith, fits, s.used_is)

    abbrev bytes : List ℕ
    bytes = to_be_bytes w32 (length p) ++ (p ++ zero ∷ [])

    at_is : start + length text ≡ area_start now + used_of ps
    at_is = omega (arith, s.start_is, s.used_is)

    -- the first step leaves the list as it was
    pub first_step : (n : ℕ) (image : List ℕ) → MayLeave now (within (start + length text) n) image → log_list image ≡ Some ps
    first_step n image may = list_from_parts ps image (behind_gate ps now image parts (start + length text) n at_is may)

    -- the second leaves it with the payload or without
    pub second_step : (image : List ℕ) → MayLeave (overlay now (start + length text) (record_of p)) (within (start + length text - 1) 1) image → (log_list image ≡ Some ps) ⊎ (log_list image ≡ Some (ps ++ p ∷ []))
    unfolding record_of
    second_step image may =
        let here : MayLeave (overlay now (area_start now + used_of ps) bytes) (within (area_start now + used_of ps - 1) 1) image = subst (λ (at : ℕ). MayLeave (overlay now at bytes) (within (at - 1) 1) image) at_is may in
        elim (gate_either ps now parts len p refl is room image here) [
          | inl old ↦ inl (list_from_parts ps image old)
          | inr new ↦ inr (list_from_parts (ps ++ p ∷ []) image new)
        ]

    long : length bytes ≡ length p + 5
    long = omega (arith, length-append (to_be_bytes w32 (length p)) (p ++ zero ∷ []), length-append p (zero ∷ []))

    -- the records with the new one, and its closed gate
    abbrev whole : List ℕ
    whole = parts.front ++ 1 ∷ (to_be_bytes w32 (length p) ++ (p ++ zero ∷ []))

    -- the text in memory after it
    text_after : set (text ++ bytes) (length text - 1) 1 ≡ whole
    text_after =
        let k : length parts.front ≡ length text - 1 = omega (arith, used_front ps now parts, s.used_is) in
        let before : text ++ bytes ≡ parts.front ++ zero ∷ bytes = ap (λ (l : List ℕ). l ++ bytes) front_same ∙ simp append_assoc in
        ap (λ (l : List ℕ). set l (length text - 1) 1) before ∙ set_at parts.front zero bytes 1 (length text - 1) k

    after_size : length (set (text ++ bytes) (length text - 1) 1) ≡ length text + (length p + 5)
    after_size = omega (arith, ap length text_after, used_front ps now parts, s.used_is, length-append parts.front (1 ∷ bytes), long)

    pub settled_after : (new : List ℕ) → new ≡ overlay (overlay now (start + length text) (record_of p)) (start + length text - 1) (1 ∷ []) → Settled new (ps ++ p ∷ []) start (set (text ++ record_of p) (length text - 1) 1)
    unfolding record_of
    settled_after new new_is =
        let at = area_start now + used_of ps in
        let st = overlay now at bytes in
        let disk_room : at + length bytes ≤ length now = within_disk ps now parts len p refl is room in
        let st_size : length st ≡ length now = length-overlay now at bytes disk_room in
        let some : 0 < used_of ps = omega (arith, used_front ps now parts) in
        let is_new : new ≡ overlay st (at - 1) (1 ∷ []) = subst (λ (a : ℕ). new ≡ overlay (overlay now a bytes) (a - 1) (1 ∷ [])) at_is new_is in
        let one_room : at - 1 + 1 ≤ length st = omega (arith, long) in
        let may : MayLeave st (within (at - 1) 1) new = subst (λ (l : List ℕ). MayLeave st (within (at - 1) 1) l) (sym is_new) (overlay_kept st (at - 1) (1 ∷ []) one_room) in
        let gate : get_or new (at - 1) 0 ≡ 1 = ap (λ (l : List ℕ). get_or l (at - 1) 0) is_new ∙ get_overlay st (at - 1) 1 one_room in
        let o = opened ps now parts len p refl is room new may in
        let tail = drop (at + length bytes) now in
        let new_split : drop start new ≡ parts.front ++ 1 ∷ (len ++ (p ++ zero ∷ tail)) =
        ap (λ (n : ℕ). drop n new) (s.start_is ∙ sym o.start) ∙ o.split ∙ ap (λ (g : ℕ). parts.front ++ g ∷ (len ++ (p ++ zero ∷ tail))) gate in
        let regroup : parts.front ++ 1 ∷ (len ++ (p ++ zero ∷ tail)) ≡ whole ++ tail = simp append_assoc in
        let more = length (set (text ++ bytes) (length text - 1) 1) in
        record {
          list = list_from_parts (ps ++ p ∷ []) new (gate_open ps now parts len p refl is room new 0 may gate);
          start_is = s.start_is ∙ sym o.start;
          used_is = omega (arith, after_size, s.used_is, sum_by_push (λ q. 5 + length q) ps p);
          same = text_after ∙ sym (ap (λ (l : List ℕ). take more l) (new_split ∙ regroup) ∙ take_at whole tail more (sym (ap length text_after)));
        }

    pub size_with : (new : List ℕ) → new ≡ overlay (overlay now (start + length text) (record_of p)) (start + length text - 1) (1 ∷ []) → length new ≡ length now
    unfolding record_of
    size_with new new_is =
        let disk_room : start + length text + length bytes ≤ length now = omega (arith, at_is, within_disk ps now parts len p refl is room) in
        let first : length (overlay now (start + length text) bytes) ≡ length now = length-overlay now (start + length text) bytes disk_room in
        ap length new_is ∙ length-overlay (overlay now (start + length text) bytes) (start + length text - 1) (1 ∷ []) (omega (arith, first, long, used_some)) ∙ first
