-- What is prepared can be done, and a row that is to move finds its place free once the one that stands there has gone.
use Rattle.std.proofs.Common.{◌≡◌, List, ℕ, Option, Some, None, refl, sym, subst}
use Rattle.std.specs.Prelude.{Vec}
use Rattle.std.specs.Vec.{vec_capacity}
use Rattle.std.specs.declared.alloc.Global.{Global}
use Rattle.std.specs.FinMap.{remove, len}
use Rattle.kb_name.specs.declared.ids.NodeId.{NodeId}
use Rattle.kb_ops.specs.Rows.{FitsRename}
use Rattle.kb_ops.specs.Trees.{Tree, look, IsWellFormed, make_way, Fits}
use Rattle.kb_ops.specs.declared.rows.Op.{Op}
use Rattle.kb_ops.proofs.Kept.{fits_after_way, fits_remove}
use Rattle.kb_ops.proofs.Looks.{look-remove, map_most}
use Rattle.kb_apply.specs.Prepared.{CanGo, HasRoom, HasSpare, IsReady}

pub goes_first : (t : Tree) (node parent : NodeId) (name : List ℕ) (gone : Option NodeId) → IsWellFormed t → FitsRename (len t) (look t) node parent name gone → CanGo gone t
goes_first t node parent name None w fits = tt
goes_first t node parent name (Some gone) w fits =
    let mid = remove t gone in
    fits_remove (look t) (look mid) (len t) (len mid) node parent gone name w fits (map_most (len t) t refl) (look-remove t gone)

pub fits_then : (t : Tree) (node parent : NodeId) (name : List ℕ) (gone : Option NodeId) → IsWellFormed t → FitsRename (len t) (look t) node parent name gone → FitsRename (len (make_way t gone)) (look (make_way t gone)) node parent name None
fits_then t node parent name None w fits = fits
fits_then t node parent name (Some gone) w fits =
    let mid = remove t gone in
    fits_after_way (look t) (look mid) (len t) (len mid) node parent gone name w fits (map_most (len t) t refl) (look-remove t gone)

-- a copy of an operation that fits is ready, with what it needs
pub copy_ready : (op own : Op) (spare : Vec ℕ Global) (t : Tree) (room : ℕ) → Fits op t → own ≡ op → HasRoom own.change room → HasSpare own.change (vec_capacity spare) t → IsReady (record { op = own; spare = spare }) t room
copy_ready op own spare t room fits is has_room has_spare = record { fits = subst (λ (o : Op). Fits o t) (sym is) fits; has_room = has_room; has_spare = has_spare }
