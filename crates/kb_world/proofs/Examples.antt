-- What comes next in a drain, in small cases.
use Rattle.std.proofs.Common.{◌≡◌, ℕ, [], ◌∷◌, Some, None, Ok, Err, refl}
use Rattle.kb_device.specs.Answers as answers
use Rattle.kb_snap.specs.Answers as folder_says
use Rattle.kb_world.specs.Statements as statements
use Rattle.kb_world.specs.Statements.{ByPick, ByLand, ByNote, On}
use Rattle.kb_world.specs.Machine.{next}

-- a drain goes on where the put landed and was noted, notes a refused put, and ends there
drain_begins : next (statements.Drain 1) [] ≡ Some (On 1 statements.Pick)
drain_begins = refl

drain_notes : next (statements.Drain 1) (ByPick (Ok (1, 1, 2)) ∷ ByLand (Err (statements.ByFolder (folder_says.Stale 3))) ∷ []) ≡ Some (On 1 statements.Note)
drain_notes = refl

drain_ends : next (statements.Drain 1) (ByPick (Ok (1, 1, 2)) ∷ ByLand (Err (statements.ByFolder (folder_says.Stale 3))) ∷ ByNote (Ok (answers.Noted.Branched 1)) ∷ []) ≡ None
drain_ends = refl

drain_goes_on : next (statements.Drain 1) (ByPick (Ok (1, 1, 2)) ∷ ByLand (Ok 2) ∷ ByNote (Ok (answers.Landed 2)) ∷ []) ≡ Some (On 1 statements.Pick)
drain_goes_on = refl

drain_done : next (statements.Drain 1) (ByPick (Ok (1, 1, 2)) ∷ ByLand (Ok 2) ∷ ByNote (Ok (answers.Landed 2)) ∷ ByPick (Err answers.Idle) ∷ []) ≡ None
drain_done = refl

-- where the link lost the put, no note comes
drain_cut : next (statements.Drain 1) (ByPick (Ok (1, 1, 2)) ∷ ByLand (Err (statements.LinkFault (Some (Ok 2)))) ∷ []) ≡ None
drain_cut = refl
