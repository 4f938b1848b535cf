-- A file as it was before the write that the base table has already.
use Rattle.std.proofs.Common.{◌≡◌, ℕ, List, length, Option, Some, None, inr, refl, sym, ap, subst, ◌∙◌}
use Rattle.std.specs.Prelude.{IsSomeAnd}
use Rattle.std.specs.FinMap.{get, insert}
use Rattle.std.specs.Option.{option_map_or}
use Rattle.kb_name.specs.declared.ids.NodeId.{NodeId}
use Rattle.kb_ops.specs.declared.values.Kind.TheVariants.{File}
use Rattle.kb_ops.specs.declared.rows.Row.{Row}
use Rattle.kb_ops.specs.declared.rows.Change.{Change}
use Rattle.kb_ops.specs.declared.rows.Op.{Op}
use Rattle.kb_ops.specs.declared.rows.Change.TheVariants.{Create, Remove, Rename, Sync, Exec, Touch}
use Rattle.kb_ops.specs.Rows.{is_dir_kind}
use Rattle.kb_ops.specs.Trees.{Tree, look, apply, apply_change, edit, new_id, patched, Fits, FitsChange}
use Rattle.kb_ops.proofs.Looks.{look-insert}
use Rattle.kb_ops.proofs.TreeKept.{file_at}
use Rattle.kb_files.specs.Files.{Vault}
use Rattle.kb_files.specs.Opens.{Blocks, Keys, Opens}
use Rattle.kb_files.proofs.Vaults.{opens_kept}
use Rattle.kb_snap.specs.Pointers.{Kept, AllHold}
use Rattle.kb_snap.proofs.Kept.{file_within}
use Rattle.kb_snap.proofs.HeldRows.{as_file}
use Rattle.kb_ranges.specs.Patches.{StaysIn}
use Rattle.kb_device.specs.Left.{left_of, KeepsBeside}
use Rattle.kb_device.proofs.Beside.{leaves_beside}
use Rattle.kb_device.specs.Inside.{HasDone}
use Rattle.kb_device.specs.Patching.{IsOver, IsOldOf, IsOldAt, FindsOld, WasAt}
use Rattle.kb_device.specs.declared.patching.OldFile.{OldFile}

-- more blocks keep it
pub old_within : (sealed : List ℕ → List ℕ → List ℕ) (hashed : List ℕ → List ℕ) (few more : Blocks) (keys : Keys) (t : Tree) (change : Change) (old : OldFile) → StaysIn few more → IsOldOf (Opens sealed hashed few keys) t change old → IsOldOf (Opens sealed hashed more keys) t change old
old_within sealed hashed few more keys t (Create parent name kind bytes) old stays h = tt
old_within sealed hashed few more keys t (Remove node) old stays h = tt
old_within sealed hashed few more keys t (Rename node parent name replaced) old stays h = tt
old_within sealed hashed few more keys t (Sync node offset bytes size) old stays h = record {
  was = h.was;
  file = (h.file.0, file_within (Opens sealed hashed few keys) (Opens sealed hashed more keys) (opens_kept sealed hashed few more keys stays) old.ptr h.was h.file.1);
  row = h.row;
  there = h.there;
  no_dir = h.no_dir;
  written = h.written;
}
old_within sealed hashed few more keys t (Exec node on) old stays h = tt
old_within sealed hashed few more keys t (Touch node mtime) old stays h = tt

-- a file whose pointer was kept before the write
over_at : (vault : Vault) (t : Tree) (kept : Kept) (node : NodeId) (offset : ℕ) (bytes : List ℕ) (size moment : ℕ) (old : OldFile) (r : Row) → look t node ≡ Some r → r.kind ≡ File → AllHold vault (look t) kept → IsOldAt t kept node old
    → IsOver vault (edit t node (λ r. record r { bytes = patched r.bytes offset bytes size; mtime = moment })) node offset bytes size old
over_at vault t kept node offset bytes size moment old r there kind all at =
    let same : at.row ≡ r = (let e : Some at.row ≡ Some r = sym at.there ∙ there in cc) in
    let new : Row = record r { bytes = patched r.bytes offset bytes size; mtime = moment } in
    let edited : edit t node (λ r. record r { bytes = patched r.bytes offset bytes size; mtime = moment }) ≡ insert t node new = ap (λ (o : Option Row). option_map_or (λ r. insert t node (record r { bytes = patched r.bytes offset bytes size; mtime = moment })) o t) there in
    record {
      was = r.bytes;
      file = (ap (λ (x : Row). length x.bytes) (sym same) ∙ at.sized, as_file vault (look t) node old.ptr (all node old.ptr at.pointed) r there (ap is_dir_kind kind));
      row = new;
      there = ap (λ (u : Tree). look u node) edited ∙ (look-insert t node new).here;
      no_dir = ap is_dir_kind kind;
      written = refl;
    }

-- so it is of a change that was done
pub was_over : (vault : Vault) (t : Tree) (id : NodeId) (moment : ℕ) (change : Change) (kept : Kept) (old : OldFile) → FitsChange id moment change t → AllHold vault (look t) kept → WasAt t kept change old → IsOldOf vault (apply_change id moment change t) change old
was_over vault t id moment (Create parent name kind bytes) kept old fits all at = absurd at
was_over vault t id moment (Remove node) kept old fits all at = absurd at
was_over vault t id moment (Rename node parent name replaced) kept old fits all at = absurd at
was_over vault t id moment (Sync node offset bytes size) kept old fits all at =
    let r = file_at t node fits.0 in
    over_at vault t kept node offset bytes size moment old r.0 r.1 (subst (λ (o : Option Row). IsSomeAnd o (λ r. r.kind ≡ File)) r.1 fits.0) all at
was_over vault t id moment (Exec node on) kept old fits all at = absurd at
was_over vault t id moment (Touch node mtime) kept old fits all at = absurd at

-- The base table goes ahead, by what was prepared of it.
pub went_ahead : (op : Op) (ahead : ℕ) (base mid base' : Tree) (done : Tree → Tree) (kept kept' : Kept) (written written' : Option OldFile) → mid ≡ base → done base ≡ apply op base → ahead ≡ 0 → Fits op base → base' ≡ done mid
    → ((q : NodeId) → get kept' q ≡ left_of mid op.change q (get kept q)) → ((old : OldFile) → written' ≡ Some old → WasAt mid kept op.change old) → FindsOld mid kept op.change written' → HasDone op ahead 1 base base' kept kept' written written'
went_ahead op ahead base mid base' done kept kept' written written' stays does none fits is leaves was finds = record {
  ahead_is = refl;
  does = inr (none, fits, is ∙ ap done stays ∙ does, (λ q p at. subst (λ (t : Tree). left_of t op.change q (get kept q) ≡ Some p) stays (sym (leaves q) ∙ at)), (λ old at. subst (λ (t : Tree). WasAt t kept op.change old) stays (was old at)));
  beside = subst (λ (t : Tree). KeepsBeside t op.change kept kept') (sym (is ∙ ap done stays ∙ does))
      (leaves_beside base (new_id op) op.moment op.change kept kept' fits (λ q. leaves q ∙ ap (λ (t : Tree). left_of t op.change q (get kept q)) stays));
  finds = λ _. subst (λ (t : Tree). FindsOld t kept op.change written') stays finds;
}
