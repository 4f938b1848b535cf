-- A declared device as it stands in the world's list, and the line of its answer.
use Rattle.std.proofs.Common.{◌≡◌, ℕ, ◌+◌, ◌-◌, ◌≤◌, ◌<◌, List, length, get_or, Option, Some, inl, Result, Ok, Err, IfOk, OnOk, OnErr, refl, sym, ap, ◌∙◌, subst, arith}
use Rattle.std.specs.Prelude.{slice_get, slice_set}
use Rattle.std.proofs.lemmas.Option.{slice_get_read}
use Rattle.sha2.specs.Sha256.{sha256}
use Rattle.kb_edge.specs.declared.disk.Disk.{Ghosts}
use Rattle.kb_seal.specs.Sealing.{seal_by_hmac, sign_by_hmac}
use Rattle.kb_world.specs.Machine.{State, Lacks}
use Rattle.kb_world.specs.Statements.{Act}
use Rattle.kb_folder.specs.Puts.{Held}
use Rattle.kb_folder.specs.Held.{held, empty_folder}
use Rattle.kb_folder.specs.Goes.{HasChain}
use Rattle.kb_snap.specs.Chains.{most_revisions}
use Rattle.kb_world.specs.Standing.{DeclaredStands, WorldStands}
use Rattle.kb_world.specs.Doing.{GoesOn}
use Rattle.kb_world.specs.declared.declared.Declared.{Declared}
use Rattle.kb_world.specs.declared.world.World.{World}
use Rattle.kb_world.proofs.Worlds.{same_set}

-- the element that was borrowed
pub at_number : {A : Type 0} (xs : List A) (d : ℕ) (x : A) → 1 ≤ d → d ≤ length xs → x ≡ get_or xs (d - 1) x → slice_get xs (d - 1) ≡ Some x
at_number xs d x from to is = slice_get_read xs (length xs) (d - 1) x refl (omega arith) is

-- what two clauses of a result say of the value
pub if_ok : {T E : Type 0} (r : Result T E) (P Q : T → Type 0) (R : Type 0) → ((x : T) → P x → R → Q x) → IfOk r P → OnOk r R → IfOk r Q
if_ok (Ok x) P Q R f p h = f x p h
if_ok (Err e) P Q R f p h = tt

-- what a clause of an error gives
pub on_err : {T E : Type 0} (r : Result T E) (P Q : Type 0) → (P → Q) → OnErr r P → OnErr r Q
on_err (Ok x) P Q f h = tt
on_err (Err e) P Q f h = f h

-- of each result
pub err_always : {T E : Type 0} (r : Result T E) (Q : Type 0) → Q → OnErr r Q
err_always (Ok x) Q h = tt
err_always (Err e) Q h = h

-- a world that has what another has
pub same_world : {M D : Type 0} {disks : Ghosts D} (w v : World M D disks) → v.devices.items ≡ w.devices.items → v.seed ≡ w.seed → v.moment ≡ w.moment → held v.folder ≡ held w.folder → GoesOn w v (λ names s t. t ≡ s)
same_world w v devices seed moment folder names s h = (
  s,
  refl,
  record {
    seed = h.seed ∙ sym seed;
    moment = h.moment ∙ sym moment;
    rule = h.rule;
    folder = subst (λ f. HasChain seal_by_hmac sign_by_hmac sha256 s.seed names f s.chain) (sym folder) h.folder;
    fresh = λ none. folder ∙ h.fresh none;
    registered = ap (λ (f : Held). f.state.registered) folder ∙ h.registered;
    count = ap length devices ∙ h.count;
    members = λ i x m at there. subst (λ f. DeclaredStands s.seed names (i + 1) f s.chain x m) (sym folder) (h.members i x m (ap (λ l. slice_get l i) (sym devices) ∙ at) there);
    good = h.good;
  },
)

-- a device was borrowed and put back as it was
pub stays : {M D : Type 0} {disks : Ghosts D} (w v : World M D disks) (d : ℕ) (x : Declared D _ _ disks _ _) → slice_get w.devices.items (d - 1) ≡ Some x → v.devices.items ≡ slice_set w.devices.items (d - 1) x → v.seed ≡ w.seed → v.moment ≡ w.moment → held v.folder ≡ held w.folder → GoesOn w v (λ names s t. t ≡ s)
stays w v d x found devices seed moment folder = same_world w v (devices ∙ same_set w.devices.items (d - 1) x found) seed moment folder

-- and so of want of memory
pub stays_lacking : {M D : Type 0} {disks : Ghosts D} (w v : World M D disks) (d : ℕ) (x : Declared D _ _ disks _ _) → slice_get w.devices.items (d - 1) ≡ Some x → v.devices.items ≡ slice_set w.devices.items (d - 1) x → v.seed ≡ w.seed → v.moment ≡ w.moment → held v.folder ≡ held w.folder → (act : Option Act) → GoesOn w v (λ names s t. Lacks act s t)
stays_lacking w v d x found devices seed moment folder act names s h =
    let to = stays w v d x found devices seed moment folder names s h in
    (to.0, inl to.1, to.2)
