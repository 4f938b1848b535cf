-- A log that was armed has the same list, and its disk the same images.
use Rattle.std.proofs.Common.{◌≡◌, ◌≤◌, ℕ, Bool, List, length, sym, ◌∙◌, ap, subst}
use Rattle.std.specs.Prelude.{slice_index, vec_capacity}
use Rattle.kb_log.specs.Images.{HasList}
use Rattle.kb_log.specs.LogList.{area_size}
use Rattle.kb_log.specs.State.{LogState}
use Rattle.kb_journal.specs.declared.ready.Ready.{Ready}
use Rattle.kb_journal.specs.Held.{state_of}
use Rattle.kb_journal.specs.Seen.{IsReady}
use Rattle.kb_journal.specs.State.{Leads, empty, is_whole}

pub armed : {D : Type 0} (content : D → List ℕ) (dirty : D → ℕ → Bool) (old new : LogState D) (ready : Ready) → new.payloads ≡ old.payloads → content new.disk ≡ content old.disk → ((place : ℕ) → dirty new.disk place ≡ dirty old.disk place)
    → IsReady content dirty old ready → IsReady content dirty new ready
armed content dirty old new ready payloads same still r =
    let size : length (content new.disk) ≡ length (content old.disk) = ap length same in
    record {
      leads = subst (λ (ps : List (List ℕ)). Leads empty ps (state_of ready.held)) (sym payloads) r.leads;
      whole = ap (λ (n : ℕ). is_whole (area_size n) (state_of ready.held)) size ∙ r.whole;
      listed = λ image may.
          subst (λ (ps : List (List ℕ)). HasList ps image) (sym payloads)
          (r.listed image (record { size = may.size ∙ size; kept = λ place clean. may.kept place (still place ∙ clean) ∙ ap (λ (l : List ℕ). slice_index l place) same }));
      room = subst (λ (n : ℕ). area_size n ≤ vec_capacity ready.bytes) (sym size) r.room;
      ends_room = r.ends_room;
      line_room = r.line_room;
    }
