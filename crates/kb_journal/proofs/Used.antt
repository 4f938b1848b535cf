-- Each image of a disk that a device alone has used has a state.
use Rattle.std.proofs.Common.{◌≡◌, ℕ, zero, suc, ◌≤◌, Bool, List, inl, inr, refl, sym, subst, ◌∙◌}
use Rattle.std.proofs.lemmas.List.{ext_get_or}
use Rattle.kb_edge.specs.Disk.{MayLeave}
use Rattle.kb_log.specs.Images.{EachImage}
use Rattle.kb_log.specs.Steps.{IsClean}
use Rattle.kb_journal.specs.State.{State, HasState, empty}
use Rattle.kb_journal.specs.Runs.{Use, Uses, IsNew, StaysJournal}
use Rattle.kb_journal.proofs.Zeros.{zeros_state}

abbrev HasSome : List ℕ → Type 0
HasSome image = (s : State) × HasState s image

-- the one image of bytes of which none is dirty
only_image : (now image : List ℕ) (dirty : ℕ → Bool) → MayLeave now dirty image → IsClean dirty → image ≡ now
only_image now image dirty may clean = ext_get_or 0 image now may.size (λ place lt. may.kept place (clean place))

module _ {D : Type 0} (content : D → List ℕ) (dirty : D → ℕ → Bool) where
  abbrev Good : D → Type 0
  Good disk = EachImage content dirty disk HasSome

  new_good : (size : ℕ) (disk : D) → 4096 ≤ size → IsNew content dirty size disk → Good disk
  new_good size disk low new image may =
      (empty, subst (HasState empty) (sym (only_image (content disk) image (dirty disk) may new.clean ∙ new.zeros)) (zeros_state size low))

  use_good : (old new : D) → Good old → Use content dirty old new → Good new
  use_good old new good (inl more) image may = good image (more image may)
  use_good old new good (inr (inl call)) image may =
      elim (call.2 image may) [ inl h ↦ (call.0, h) | inr h ↦ (call.1, h) ]
  use_good old new good (inr (inr cut)) image may =
      subst HasSome (sym (only_image (content new) image (dirty new) may cut.clean)) (good (content new) cut.image)

  uses_good : (n : ℕ) (first last : D) → Good first → Uses content dirty n first last → Good last
  uses_good zero first last good same = subst Good same good
  uses_good (suc n) first last good uses = uses_good n uses.0 last (use_good first uses.0 good uses.1) uses.2

  itself : (disk : D) → MayLeave (content disk) (dirty disk) (content disk)
  itself disk = record { size = refl; kept = λ place clean. refl }

  pub stays_journal : StaysJournal content dirty
  stays_journal size n first last low new uses none =
      let found = uses_good n first last (new_good size first low new) uses (content last) (itself last) in
      none found.0 found.1
