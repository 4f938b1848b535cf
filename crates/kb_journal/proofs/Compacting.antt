-- What a compaction writes.
use Rattle.std.proofs.Common.{◌≡◌, ◌⊎◌, inl, inr, ℕ, ◌+◌, ◌≤◌, Bool, true, false, List, [], ◌∷◌, ◌++◌, length, map, refl, sym, ap, subst, ◌∙◌, arith, length-append}
use Rattle.std.specs.Prelude.{sum_by}
use Rattle.std.proofs.lemmas.Bool.{leb-true}
use Rattle.std.proofs.lemmas.List.Sums.{sum_by-cons}
use Rattle.kb_ops.specs.declared.rows.Op.{Op as Operation}
use Rattle.kb_ops.specs.Grammar.{op_text, flag_text}
use Rattle.kb_log.specs.Images.{HasList}
use Rattle.kb_log.specs.LogList.{used_of, area_size}
use Rattle.kb_log.specs.Pieces.{pieces}
use Rattle.kb_wire.specs.Fields.{u32_text}
use Rattle.kb_journal.specs.declared.entries.Entry.TheVariants.{Head}
use Rattle.kb_journal.specs.Entries.{entry_text}
use Rattle.kb_journal.specs.State.{State, Leads, HasState, empty, use_of, is_whole, queued_text, compacted}
use Rattle.kb_journal.proofs.Good.{IsGood, both, good_empty, good_leads}
use Rattle.kb_journal.proofs.Again.{compacted_leads}

flag_length : (b : Bool) → length (flag_text b) ≡ 1
flag_length true = refl
flag_length false = refl

pub queue_sum : (ops : List Operation) → sum_by (λ (p : List ℕ). 5 + length p) (map queued_text ops) ≡ sum_by (λ (o : Operation). 6 + length (op_text o)) ops
queue_sum [] = refl
queue_sum (o ∷ ops) =
    omega (arith, sum_by-cons (λ (p : List ℕ). 5 + length p) (queued_text o) (map queued_text ops), sum_by-cons (λ (o : Operation). 6 + length (op_text o)) o ops, queue_sum ops)

pub used_compacted : (s : State) → length s.hash ≡ 32 → used_of (compacted s) ≡ use_of s.queue
used_compacted s size =
    let head = entry_text (Head s.known s.hash s.base s.mark) in
    let behind = u32_text s.base ++ flag_text s.mark in
    let long : length head ≡ 42 = omega (arith, length-append s.hash behind, flag_length s.mark, size) in
    omega (arith, long, sum_by-cons (λ (p : List ℕ). 5 + length p) head (map queued_text s.queue), queue_sum s.queue)

pub whole_fits : (area : ℕ) (s : State) → is_whole area s ≡ true → use_of s.queue ≤ area
whole_fits area s whole = leb-true _ _ (both _ _ whole).0

pub image_state : (s : State) (n : ℕ) (image : List ℕ) (ps : List (List ℕ)) → HasList ps image → Leads empty ps s → length image ≡ n → is_whole (area_size n) s ≡ true → HasState s image
image_state s n image ps list leads size whole = (ps, list, leads, subst (λ (m : ℕ). is_whole (area_size m) s ≡ true) (sym size) whole)

-- the pieces that were built are the compacted list
pub pieces_built : (bytes ends given_bytes given_ends : List ℕ) (s : State) → given_bytes ≡ bytes → given_ends ≡ ends → pieces 0 bytes ends ≡ compacted s → pieces 0 given_bytes given_ends ≡ compacted s
pieces_built bytes ends given_bytes given_ends s b e is = rw (b, e) is

module _ (s : State) (before : List (List ℕ)) (leads : Leads empty before s) where
  good : IsGood s
  good = good_leads empty s before good_empty leads

  pub built_leads : (ps : List (List ℕ)) → ps ≡ compacted s → Leads empty ps s
  built_leads ps is = subst (λ (l : List (List ℕ)). Leads empty l s) (sym is) (compacted_leads s good)

  pub built_used : (ps : List (List ℕ)) → ps ≡ compacted s → used_of ps ≡ use_of s.queue
  built_used ps is = ap used_of is ∙ used_compacted s good.hash

  pub built_state : (n : ℕ) (image : List ℕ) (ps : List (List ℕ)) → ps ≡ compacted s → HasList ps image → length image ≡ n → is_whole (area_size n) s ≡ true → HasState s image
  built_state n image ps is list size whole = image_state s n image ps list (built_leads ps is) size whole

  pub built_either : (n : ℕ) (image : List ℕ) (old ps : List (List ℕ)) → ps ≡ compacted s → HasList old image ⊎ HasList ps image → length image ≡ n → is_whole (area_size n) s ≡ true → HasList old image ⊎ HasState s image
  built_either n image old ps is (inl list) size whole = inl list
  built_either n image old ps is (inr list) size whole = inr (built_state n image ps is list size whole)
