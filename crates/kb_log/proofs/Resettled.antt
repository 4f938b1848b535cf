-- What is settled before a change, and again after it.
use Rattle.std.proofs.Common.{◌≡◌, ◌+◌, ◌-◌, ◌^◌, ◌≤◌, ◌<◌, ℕ, Bool, List, [], ◌∷◌, ◌++◌, length, set, Option, None, Some, ap, sym, subst, ◌∙◌, arith, inl, inr, ◌⊎◌}
use Rattle.std.specs.Prelude.{unwrap_or, vec_capacity}
use Rattle.kb_edge.specs.Disk.{MayLeave, within, overlay}
use Rattle.kb_log.specs.Images.{HasList, HasEither}
use Rattle.kb_log.specs.LogList.{list_of, log_list, used_of, area_size, record_of}
use Rattle.kb_log.specs.State.{IsSettled, payloads_of}
use Rattle.kb_log.specs.Steps.{IsClean}
use Rattle.kb_log.specs.declared.area.Area.{Area}
use Rattle.kb_log.proofs.Kept.{all_kept}
use Rattle.kb_log.proofs.Append.{Settled, shown, used_some, first_step, second_step, settled_after, size_with}
use Rattle.kb_log.proofs.Images.{area_within}

pub settled : (now : List ℕ) (dirty : ℕ → Bool) (area : Area) → IsSettled now dirty area → Settled now (payloads_of area.text.items) area.start area.text.items
settled now dirty area s = record { list = s.list; start_is = s.start; used_is = s.used; same = s.same }

pub shows : {A : Type 0} (o : Option A) (x d : A) → o ≡ Some x → unwrap_or o d ≡ x
shows None x d e = absurd cc
shows (Some y) x d e = cc

pub payloads_settled : (now : List ℕ) (ps : List (List ℕ)) (start : ℕ) (text : List ℕ) → Settled now ps start text → payloads_of text ≡ ps
payloads_settled now ps start text s = shows (list_of text) ps [] (shown now ps start text s)

pub resettled : (now new : List ℕ) (dirty clean : ℕ → Bool) (old area : Area) (ps : List (List ℕ)) → IsSettled now dirty old → length new ≡ length now → IsClean clean → area.size ≡ old.size → vec_capacity old.text ≤ vec_capacity area.text
    → Settled new ps area.start area.text.items → IsSettled new clean area
resettled now new dirty clean old area ps was same_size is_clean same_area more s =
    let list = payloads_settled new ps area.start area.text.items s in
    record {
      low = omega (arith, same_size, was.low);
      high = omega (arith, same_size, was.high);
      clean = is_clean;
      list = s.list ∙ ap (λ (l : List (List ℕ)). Some l) (sym list);
      start = s.start_is;
      size = same_area ∙ was.size ∙ ap area_size (sym same_size);
      room = omega (arith, same_area, more, was.room);
      used = s.used_is ∙ ap used_of (sym list);
      same = s.same;
    }

-- every image of a clean disk is the disk
pub image_list : (now image : List ℕ) (dirty : ℕ → Bool) (ps : List (List ℕ)) → MayLeave now dirty image → IsClean dirty → log_list now ≡ Some ps → HasList ps image
image_list now image dirty ps may clean list = ap log_list (all_kept now image dirty may clean) ∙ list

module _ (now : List ℕ) (dirty : ℕ → Bool) (area : Area) (was : IsSettled now dirty area) where
  -- where the records end on the disk
  pub end_within : area.start + area.size ≤ length now
  end_within = omega (arith, was.start, was.size, area_within now (omega (arith, was.low)))

  pub text_some : 0 < length area.text.items
  text_some = used_some now (payloads_of area.text.items) area.start area.text.items (settled now dirty area was)

  module _ (p : List ℕ) (fits : length area.text.items + 5 + length p ≤ area.size) where
    room : length area.text.items + 5 + length p ≤ area_size (length now)
    room = omega (arith, fits, was.size)

    short : length p < 2 ^ 32
    short = omega (arith, room, was.high)

    pub appended : (new text : List ℕ) → new ≡ overlay (overlay now (area.start + length area.text.items) (record_of p)) (area.start + length area.text.items - 1) (1 ∷ []) → text ≡ set (area.text.items ++ record_of p) (length area.text.items - 1) 1
        → Settled new (payloads_of area.text.items ++ p ∷ []) area.start text
    appended new text new_is text_is =
        subst (λ (l : List ℕ). Settled new (payloads_of area.text.items ++ p ∷ []) area.start l) (sym text_is)
        (settled_after now (payloads_of area.text.items) area.start area.text.items (settled now dirty area was) p short room new new_is)

    pub appended_size : (new : List ℕ) → new ≡ overlay (overlay now (area.start + length area.text.items) (record_of p)) (area.start + length area.text.items - 1) (1 ∷ []) → length new ≡ length now
    appended_size new new_is = size_with now (payloads_of area.text.items) area.start area.text.items (settled now dirty area was) p short room new new_is

    pub appended_either : (n : ℕ) (image : List ℕ) → MayLeave now (within (area.start + length area.text.items) n) image ⊎ MayLeave (overlay now (area.start + length area.text.items) (record_of p)) (within (area.start + length area.text.items - 1) 1) image
        → HasEither (payloads_of area.text.items) (payloads_of area.text.items ++ p ∷ []) image
    appended_either n image (inl one) = inl (first_step now (payloads_of area.text.items) area.start area.text.items (settled now dirty area was) p short room n image one)
    appended_either n image (inr two) = second_step now (payloads_of area.text.items) area.start area.text.items (settled now dirty area was) p short room image two
