-- A queue that is done one operation after another, and what a stop leaves.
use Rattle.std.proofs.Common.{◌≡◌, ◌⊎◌, ℕ, zero, suc, ◌<◌, ◌+◌, false, List, [], ◌∷◌, ◌++◌, length, map, take, drop, refl, sym, ap, subst, ◌∙◌, arith, append_assoc}
use Rattle.std.proofs.lemmas.Bool.Decides.{nat_tests}
use Rattle.std.specs.Prelude.{nat_le, slice_index_or, slice_index_or as get_or}
use Rattle.std.proofs.lemmas.List.{take-append-drop}
use Rattle.std.proofs.lemmas.Grind.{take_at_read}
use Rattle.sha2.specs.Sha256.{sha256}
use Rattle.kb_edge.specs.declared.disk.Disk.{Ghosts}
use Rattle.kb_log.specs.Images.{EachImage}
use Rattle.kb_log.specs.Steps.{RanOut}
use Rattle.kb_ops.specs.declared.rows.Op.{Op}
use Rattle.kb_ops.specs.Trees.{Tree, apply, fold_ops, FitAll, Fits}
use Rattle.kb_journal.specs.State.{State, HasState}
use Rattle.kb_snap.specs.Lawful.{AreOf}
use Rattle.kb_device.specs.Disks.{hash_at}
use Rattle.kb_device.specs.Noting.{Stops}
use Rattle.kb_device.specs.Views.{platter}

own_push : (d : ℕ) (ops : List Op) (op : Op) → AreOf d ops → op.device ≡ d → AreOf d (ops ++ op ∷ [])
own_push d [] op all is = (is, tt)
own_push d (o ∷ ops) op all is = (all.0, own_push d ops op all.1 is)

fit_push : (ops : List Op) (op : Op) (t : Tree) → FitAll ops t → Fits op (fold_ops ops t) → FitAll (ops ++ op ∷ []) t
fit_push [] op t all fits = (fits, tt)
fit_push (o ∷ ops) op t all fits = (all.0, fit_push ops op (apply o t) all.1 fits)

fold_push : (ops : List Op) (op : Op) (t : Tree) → fold_ops (ops ++ op ∷ []) t ≡ apply op (fold_ops ops t)
fold_push [] op t = refl
fold_push (o ∷ ops) op t = fold_push ops op (apply o t)

-- the operations up to one, that one, and those behind it
take_more : (queue : List Op) (i : ℕ) (op : Op) → i < length queue → op ≡ get_or queue i op → take (i + 1) queue ≡ take i queue ++ op ∷ []
take_more queue i op lt is = (take_at_read queue i op lt).1 ∙ ap (λ x. take i queue ++ x ∷ []) (sym is)

split_at : (queue : List Op) (i : ℕ) (op : Op) → i < length queue → op ≡ get_or queue i op → queue ≡ take i queue ++ op ∷ drop (i + 1) queue
split_at queue i op lt is = sym (take-append-drop (i + 1) queue) ∙ ap (λ l. l ++ drop (i + 1) queue) (take_more queue i op lt is) ∙ append_assoc (take i queue) (op ∷ []) (drop (i + 1) queue)

own_at : (d : ℕ) (front : List Op) (op : Op) (rest : List Op) → AreOf d (front ++ op ∷ rest) → op.device ≡ d
own_at d [] op rest h = h.0
own_at d (o ∷ front) op rest h = own_at d front op rest h.1

fit_at : (front : List Op) (op : Op) (rest : List Op) (t : Tree) → FitAll (front ++ op ∷ rest) t → Fits op (fold_ops front t)
fit_at [] op rest t h = h.0
fit_at (o ∷ front) op rest t h = fit_at front op rest (apply o t) h.1

pub own_more : (d : ℕ) (queue : List Op) (i : ℕ) (op : Op) → i < length queue → op ≡ get_or queue i op → AreOf d (take i queue) → op.device ≡ d → AreOf d (take (i + 1) queue)
own_more d queue i op lt is h own = subst (AreOf d) (sym (take_more queue i op lt is)) (own_push d (take i queue) op h own)

pub not_own : (d : ℕ) (queue : List Op) (i : ℕ) (op : Op) → i < length queue → op ≡ get_or queue i op → AreOf d queue → op.device ≡ d
not_own d queue i op lt is h = own_at d (take i queue) op (drop (i + 1) queue) (subst (AreOf d) (split_at queue i op lt is) h)

pub fits_there : (queue : List Op) (i : ℕ) (op : Op) (t u : Tree) → i < length queue → op ≡ get_or queue i op → u ≡ fold_ops (take i queue) t → FitAll queue t → Fits op u
fits_there queue i op t u lt is tree h = subst (Fits op) (sym tree) (fit_at (take i queue) op (drop (i + 1) queue) t (subst (λ q. FitAll q t) (split_at queue i op lt is) h))

pub fold_more : (queue : List Op) (i : ℕ) (op : Op) (t u v : Tree) → i < length queue → op ≡ get_or queue i op → (u ≡ fold_ops (take i queue) t) × FitAll (take i queue) t → Fits op u → v ≡ apply op u
    → (v ≡ fold_ops (take (i + 1) queue) t) × FitAll (take (i + 1) queue) t
fold_more queue i op t u v lt is h fits next =
    let more = take_more queue i op lt is in (
      next ∙ ap (apply op) h.0 ∙ sym (fold_push (take i queue) op t) ∙ ap (λ l. fold_ops l t) (sym more),
      subst (λ l. FitAll l t) (sym more) (fit_push (take i queue) op t h.1 (subst (Fits op) h.0 fits)),
    )

-- ---- the hash of a revision

at_place : (l : List (List ℕ)) (r : ℕ) (item : List ℕ) → r < length l → slice_index_or l r item ≡ item → slice_index_or (map sha256 l) r [] ≡ sha256 item
at_place [] r item lt is = absurd (omega arith)
at_place (x ∷ l) zero item lt is = ap sha256 is
at_place (x ∷ l) (suc r) item lt is = at_place l r item (omega (arith, lt)) is

pub hash_of_place : (l : List (List ℕ)) (known r : ℕ) (item : List ℕ) → known ≡ r + 1 → r < length l → slice_index_or l r item ≡ item → hash_at (map sha256 l) known ≡ sha256 item
hash_of_place l known r item e lt is = ap (hash_at (map sha256 l)) (let s : known ≡ suc r = omega (arith, e) in s) ∙ at_place l r item lt is

-- ---- what a stop leaves

pub stops_of : {D : Type 0} (disks : Ghosts D) (s after : State) (was mid now : D) → now ≡ mid → EachImage disks.content disks.dirty mid (λ image. HasState s image ⊎ HasState after image) → length (disks.content mid) ≡ length (disks.content was)
    → RanOut 4 (disks.left was) (disks.left mid) → Stops s after (platter disks was) (platter disks now)
stops_of disks s after was mid now e every size ran = subst (λ d. Stops s after (platter disks was) (platter disks d)) (sym e) (record { images = every; size = size; ran_out = ran })

pub above : (a b : ℕ) → b < a → nat_le a b ≡ false
above a b h = grind (arith, nat_tests, h)
