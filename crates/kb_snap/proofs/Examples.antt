-- Members and keys of a small chain.
use Rattle.std.proofs.Common.{◌≡◌, ℕ, [], ◌∷◌, Some, None, refl}
use Rattle.kb_keys.specs.declared.policy.Action.TheVariants.{GrantWriter, Revoke}
use Rattle.kb_keys.specs.declared.policy.Role.TheVariants.{Writer}
use Rattle.kb_snap.specs.Chains.{Founded, Rekeyed, Revision, Chain}
use Rattle.kb_snap.specs.Members.{roles_of, generation_of}

by : ℕ → Revision
by d = record { writer = d; name = []; moment = 0; deed = Founded }

-- members and keys
rekeys : Chain
rekeys = by 1 ∷ record { writer = 1; name = []; moment = 0; deed = Rekeyed GrantWriter 2 } ∷ record { writer = 2; name = []; moment = 0; deed = Rekeyed Revoke 1 } ∷ []

one_left : roles_of rekeys 1 ≡ None
unfolding rekeys by
one_left = refl

two_writes : roles_of rekeys 2 ≡ Some Writer
unfolding rekeys by
two_writes = refl

two_keys : generation_of rekeys ≡ 2
unfolding rekeys by
two_keys = refl
