use Rattle.std.proofs.Common.{◌≡◌, [], Ok, refl, sym, subst}
use Rattle.sha2.specs.Sha256.{sha256}
use Rattle.kb_seal.specs.Sealing.{seal_by_hmac, sign_by_hmac}
use Rattle.kb_rekey.specs.Founding.{Founds, any_names}
use Rattle.kb_folder.specs.Held.{held}
use Rattle.kb_folder.specs.Lands.{FolderStands}
use Rattle.kb_world.proofs.Unchanged.{on_err, stays}
use Rattle.kb_world.proofs.Founding.{founds, may_found}
use Rattle.kb_world.proofs.world.World.found.Goals as goal

pub found-requires : goal.found-requires
found-requires g c =
    let h = c.requires in
    let may = may_found c.args.self.now c.args.device h.0 h.1 h.2 h.3 h.4 in
    record { empty = subst (λ k. FolderStands seal_by_hmac sign_by_hmac sha256 k any_names (held c.args.self.now.folder) []) (sym c.new-secrets.ensures) may.0; registered = may.1 }

pub returns-in_err-revision-clause-memory : goal.returns-in_err-revision-clause-memory
returns-in_err-revision-clause-memory g c = on_err _ _ (stays _ _ refl refl c.in_err-revision.ensures refl)

pub returns-clause-step : goal.returns-clause-step
returns-clause-step g c =
    let w = c.args.self.now in
    founds w _ c.args.device c.in_ok-revision.revision refl refl refl c.longer_law.ensures c.machine_law.ensures.stay c.landing_law.ensures.stays _ refl
    (subst (λ k. Founds seal_by_hmac sign_by_hmac sha256 k c.args.device w.moment (held w.folder) (held c.found.new.folder) (Ok c.in_ok-revision.revision)) c.new-secrets.ensures c.in_ok-revision.ensures)
