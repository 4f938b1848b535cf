-- A settled log whose list is replaced.
use Rattle.std.proofs.Common.{◌≡◌, ◌+◌, ◌%◌, ◌^◌, ◌≤◌, ◌<◌, ℕ, Bool, not, cond, eqb, List, [], ◌∷◌, length, ap, subst, ◌∙◌, arith, inl, inr, ◌⊎◌}
use Rattle.kb_edge.specs.Disk.{MayLeave, within, overlay}
use Rattle.kb_log.specs.Images.{HasEither}
use Rattle.kb_log.specs.LogList.{used_of, area_size, other_start, is_second}
use Rattle.kb_log.specs.Pieces.{records_text}
use Rattle.kb_log.specs.State.{IsSettled, payloads_of}
use Rattle.kb_log.specs.declared.area.Area.{Area}
use Rattle.kb_log.proofs.Append.{Settled}
use Rattle.kb_log.proofs.Compact.{turn, other_fits, switch_either, first_area, settled_compact, size_compact}
use Rattle.kb_log.proofs.Fill.{length-records_text}
use Rattle.kb_log.proofs.Images.{Parts, parts_from_list}

module _ (now : List ℕ) (dirty : ℕ → Bool) (area : Area) (was : IsSettled now dirty area) (qs : List (List ℕ)) (fits : used_of qs ≤ area.size) (other v : ℕ) (other_is : other ≡ cond (eqb area.start 16) (16 + area.size) 16)
    (v_is : v ≡ cond (eqb area.start 16) 1 0) where
  low : 16 ≤ length now
  low = omega (arith, was.low)

  turned : (cond (eqb area.start 16) (16 + area_size (length now)) 16 ≡ other_start now) × (eqb (cond (eqb area.start 16) 1 0 % 2) 1 ≡ not (is_second now))
  turned = turn (is_second now) (area_size (length now)) area.start (omega (arith, was.low)) was.start

  pub starts : other ≡ other_start now
  starts = other_is ∙ ap (λ (a : ℕ). cond (eqb area.start 16) (16 + a) 16) was.size ∙ turned.0

  selects : eqb (v % 2) 1 ≡ not (is_second now)
  selects = ap (λ (n : ℕ). eqb (n % 2) 1) v_is ∙ turned.1

  parts : Parts (payloads_of area.text.items) now
  parts = parts_from_list (payloads_of area.text.items) now was.list

  pub area_fits : used_of qs ≤ area_size (length now)
  area_fits = omega (arith, fits, was.size)

  short : used_of qs < 2 ^ 32
  short = omega (arith, area_fits, was.high)

  pub replaced : (new text : List ℕ) → new ≡ overlay (overlay now other (records_text qs)) 8 (v ∷ []) → text ≡ records_text qs → Settled new qs other text
  replaced new text new_is text_is =
      let at : new ≡ overlay (overlay now (other_start now) (records_text qs)) 8 (v ∷ []) = new_is ∙ ap (λ (a : ℕ). overlay (overlay now a (records_text qs)) 8 (v ∷ [])) starts in
      rw (starts, text_is) (settled_compact (payloads_of area.text.items) qs now parts low short area_fits new v at selects)

  pub replaced_size : (new : List ℕ) → new ≡ overlay (overlay now other (records_text qs)) 8 (v ∷ []) → length new ≡ length now
  replaced_size new new_is = size_compact now new (records_text qs) other v low (omega (arith, starts, other_fits now low, length-records_text qs, area_fits)) new_is

  pub replaced_either : (image : List ℕ) → MayLeave now (within other (length (records_text qs))) image ⊎ MayLeave (overlay now other (records_text qs)) (within 8 1) image → HasEither (payloads_of area.text.items) qs image
  replaced_either image may =
      by_step (subst (λ (a : ℕ). MayLeave now (within a (length (records_text qs))) image ⊎ MayLeave (overlay now a (records_text qs)) (within 8 1) image) starts may)
    where
      by_step : MayLeave now (within (other_start now) (length (records_text qs))) image ⊎ MayLeave (overlay now (other_start now) (records_text qs)) (within 8 1) image → HasEither (payloads_of area.text.items) qs image
      by_step (inl one) = inl (first_area (payloads_of area.text.items) qs now parts low short area_fits image one)
      by_step (inr two) = switch_either (payloads_of area.text.items) qs now parts low short area_fits image two
