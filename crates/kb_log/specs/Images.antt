-- What a power cut may leave of a log.
use Rattle.std.specs.Prelude.{◌≡◌, ◌⊎◌, ℕ, Bool, List, Some}
use Rattle.kb_edge.specs.Disk.{MayLeave}
use Rattle.kb_log.specs.LogList.{log_list}

-- every image that a power cut may leave has P
abbrev pub EachImage : {D : Type 0} → (D → List ℕ) → (D → ℕ → Bool) → D → (List ℕ → Type 0) → Type 0
EachImage content dirty disk P = (image : List ℕ) → MayLeave (content disk) (dirty disk) image → P image

-- the image has this list
abbrev pub HasList : List (List ℕ) → List ℕ → Type 0
HasList ps image = log_list image ≡ Some ps

-- the image has the one list or the other
abbrev pub HasEither : List (List ℕ) → List (List ℕ) → List ℕ → Type 0
HasEither before after image = HasList before image ⊎ HasList after image

-- no power cut of the new disk leaves what none of the old one could leave
abbrev pub LeavesNoMore : {D : Type 0} → (D → List ℕ) → (D → ℕ → Bool) → D → D → Type 0
LeavesNoMore content dirty old new = EachImage content dirty new (λ image. MayLeave (content old) (dirty old) image)
