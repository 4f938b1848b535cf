-- What openings take over, what restores put back, and what a pick has, in small cases.
use Rattle.std.proofs.Common.{◌≡◌, ℕ, false, true, List, [], ◌∷◌, refl}
use Rattle.kb_name.specs.Nodes.{root}
use Rattle.kb_ops.specs.declared.rows.Op.{Op}
use Rattle.kb_ops.specs.declared.rows.Change.TheVariants.{Touch}
use Rattle.kb_snap.specs.Chains.{Founded, Stepped, Merged, Revision}
use Rattle.kb_device.specs.Journals.{resumed, returned}
use Rattle.kb_device.specs.Parts.{flight_of}

touch : ℕ → ℕ → Op
touch d seq = record { device = d; seq = seq; moment = 0; change = Touch root 0 }

by : ℕ → Revision
by d = record { writer = d; name = []; moment = 0; deed = Founded }

step : ℕ → List Op → Revision
step d ops = record { writer = d; name = []; moment = 0; deed = Stepped ops }

merge : ℕ → ℕ → List Op → Revision
merge d base ops = record { writer = d; name = []; moment = 0; deed = Merged base 2 ops }

-- a step landed and its note was stopped: it is taken over, and what was queued behind it waits on
step_taken : resumed 1 (by 1 ∷ step 1 (touch 1 1 ∷ []) ∷ step 2 (touch 2 1 ∷ []) ∷ []) (record { known = 1; base = 0; mark = false; queue = touch 1 1 ∷ touch 1 2 ∷ [] })
    ≡ record { known = 2; base = 1; mark = false; queue = touch 1 2 ∷ [] }
unfolding by step
step_taken = refl

-- nothing waits behind it: the head becomes known
head_taken : resumed 1 (by 1 ∷ step 1 (touch 1 1 ∷ []) ∷ step 2 (touch 2 1 ∷ []) ∷ []) (record { known = 1; base = 0; mark = false; queue = touch 1 1 ∷ [] }) ≡ record { known = 3; base = 1; mark = false; queue = [] }
unfolding by step
head_taken = refl

-- a step of several operations is taken over whole
steps_taken : resumed 1 (by 1 ∷ step 1 (touch 1 1 ∷ touch 1 2 ∷ []) ∷ []) (record { known = 1; base = 0; mark = false; queue = touch 1 1 ∷ touch 1 2 ∷ touch 1 3 ∷ [] }) ≡ record { known = 2; base = 2; mark = false; queue = touch 1 3 ∷ [] }
unfolding by step
steps_taken = refl

-- a merge is taken over with the whole queue, and the mark is cleared
merge_taken : resumed 2 (by 1 ∷ step 1 (touch 1 1 ∷ []) ∷ merge 2 1 (touch 2 1 ∷ touch 2 2 ∷ []) ∷ []) (record { known = 1; base = 0; mark = true; queue = touch 2 1 ∷ touch 2 2 ∷ [] }) ≡ record { known = 3; base = 2; mark = false; queue = [] }
unfolding by step merge
merge_taken = refl

-- a branch stays
branch_stays : resumed 2 (by 1 ∷ step 1 (touch 1 1 ∷ []) ∷ []) (record { known = 1; base = 0; mark = true; queue = touch 2 1 ∷ [] }) ≡ record { known = 1; base = 0; mark = true; queue = touch 2 1 ∷ [] }
unfolding by step
branch_stays = refl

-- of a queue of three a pick of two has the first two
two_of_three : (flight_of 2 (record { known = 1; base = 0; mark = false; queue = touch 1 1 ∷ touch 1 2 ∷ touch 1 3 ∷ [] })) ≡ record { first = 1; count = 2; number = 2 }
two_of_three = refl

-- a journal of two was kept, and its first landed: it is put back without that
back_without : returned 1 (by 1 ∷ step 1 (touch 1 1 ∷ []) ∷ step 2 (touch 2 1 ∷ []) ∷ []) (record { known = 1; base = 0; mark = false; queue = touch 1 1 ∷ touch 1 2 ∷ [] }) ≡ record { known = 2; base = 1; mark = false; queue = touch 1 2 ∷ [] }
unfolding by step touch
back_without = refl

-- nothing landed: it is put back as it was
back_whole : returned 2 (by 1 ∷ step 1 (touch 1 1 ∷ []) ∷ []) (record { known = 1; base = 0; mark = true; queue = touch 2 1 ∷ [] }) ≡ record { known = 1; base = 0; mark = true; queue = touch 2 1 ∷ [] }
unfolding by step touch
back_whole = refl

-- a branch was kept, and merged since
back_merged : returned 2 (by 1 ∷ step 1 (touch 1 1 ∷ []) ∷ merge 2 1 (touch 2 1 ∷ touch 2 2 ∷ []) ∷ step 1 (touch 1 2 ∷ []) ∷ []) (record { known = 1; base = 0; mark = true; queue = touch 2 1 ∷ touch 2 2 ∷ [] })
    ≡ record { known = 3; base = 2; mark = false; queue = [] }
unfolding by step merge touch
back_merged = refl
