-- How a device's own use leaves a disk: what its calls promise of each step.
use Rattle.std.specs.Prelude.{◌≡◌, ◌⊎◌, ◌≤◌, ℕ, zero, suc, Bool, List, replicate}
use Rattle.kb_edge.specs.Disk.{MayLeave}
use Rattle.kb_log.specs.Images.{EachImage, LeavesNoMore}
use Rattle.kb_log.specs.Steps.{IsClean}
use Rattle.kb_journal.specs.State.{State, HasState, IsNoJournal}

module _ {D : Type 0} (content : D → List ℕ) (dirty : D → ℕ → Bool) where
  -- a call of a journal, whatever it answered: each image has the state before or the state after
  abbrev pub IsCall : D → Type 0
  IsCall new = (before after : State) × EachImage content dirty new (λ image. HasState before image ⊎ HasState after image)

  -- the power was cut: one of the images is there, and nothing is dirty
  pub record IsCut (old new : D) : Type 0 where
    pub image : MayLeave (content old) (dirty old) (content new)
    pub clean : IsClean (dirty new)

  -- an opening or an arming, which leave no image that there was not; a call; a power cut
  abbrev pub Use : D → D → Type 0
  Use old new = LeavesNoMore content dirty old new ⊎ (IsCall new ⊎ IsCut old new)

  -- one use after another, so many
  abbrev pub Uses : ℕ → D → D → Type 0
  Uses zero first last = first ≡ last
  Uses (suc n) first last = (next : D) × Use first next × Uses n next last

  -- a new disk of so many zeros
  pub record IsNew (size : ℕ) (disk : D) : Type 0 where
    pub zeros : content disk ≡ replicate size 0
    pub clean : IsClean (dirty disk)

  -- a disk that began as zeros, and that a device alone has used, is a journal, whatever the power cuts left
  abbrev pub StaysJournal : Type 0
  StaysJournal = (size n : ℕ) (first last : D) → 4096 ≤ size → IsNew size first → Uses n first last → IsNoJournal (content last) → ⊥
