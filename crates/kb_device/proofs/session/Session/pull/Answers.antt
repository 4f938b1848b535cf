use Rattle.std.proofs.Common.{◌≡◌, ◌≤◌, length, Ok, inl, refl, sym, subst, ◌∙◌}
use Rattle.kb_snap.specs.Chains.{ops_of}
use Rattle.kb_snap.specs.Members.{generation_at}
use Rattle.kb_device.specs.Fresh.{IdsEndAt}
use Rattle.kb_folder.specs.Held.{held}
use Rattle.kb_device.specs.Views.{inside, platter, read_of}
use Rattle.kb_device.proofs.Keys.{no_bad}
use Rattle.kb_device.proofs.OwnQueues.{pull_owned}
use Rattle.kb_device.proofs.Rings.{can_keep}
use Rattle.kb_device.proofs.session.Session.pull.Goals as goal

pub know-requires-clause-readable : goal.know-requires-clause-readable
know-requires-clause-readable g c = can_keep c.known-known.result (read_of c.in-Ok-read_next.head) c.in-Ok-read_next.ensures.readable

pub know-requires-clause-flushed : goal.know-requires-clause-flushed
know-requires-clause-flushed g c = sym c.queue.ensures ∙ c.is_waiting.ensures.none c.if-is_waiting.false

pub returns-in-Err-BadFolder-clause-does : goal.returns-in-Err-BadFolder-clause-does
returns-in-Err-BadFolder-clause-does g c =
    let known_is = c.known-known.ensures in
    let flushed = sym c.queue.ensures ∙ c.is_waiting.ensures.none c.if-is_waiting.false in
    let member = c.in-Ok.ensures.lent.0 in
    let is = c.in-Ok.ensures.lent.1 in (
      record { session = refl; disk = refl },
      record { member = member; flushed = flushed },
      λ seed names chain has secret_is gen ring within low. no_bad c.in-Err-BadFolder.field-0 _ c.in-Err-BadFolder.field-0-is (c.in-Err-BadFolder.ensures.stands seed names chain has secret_is member (subst (λ n. c.args.self.now.generation ≡ generation_at chain n) (sym known_is) gen) ring (subst (λ n. n ≤ length chain) (sym known_is) within) (subst (λ n. length (ops_of c.args.d chain) ≤ n) (sym c.last.ensures) low) is),
    )

pub returns-in-Ok-know-clause-does : goal.returns-in-Ok-know-clause-does
returns-in-Ok-know-clause-does g c =
    let known_is = c.known-known.ensures in
    let flushed = sym c.queue.ensures ∙ c.is_waiting.ensures.none c.if-is_waiting.false in
    let member = c.in-Ok.ensures.lent.0 in
    let is = c.in-Ok.ensures.lent.1 in
    inl (record {
      may = record { member = member; flushed = flushed };
      read = read_of c.in-Ok-read_next.head;
      role = c.in-Ok-read_next.head.role;
      head = λ seed names chain has secret_is gen ring within low. c.in-Ok-read_next.ensures.stands seed names chain has secret_is member (subst (λ n. c.args.self.now.generation ≡ generation_at chain n) (sym known_is) gen) ring (subst (λ n. n ≤ length chain) (sym known_is) within) (subst (λ n. length (ops_of c.args.d chain) ≤ n) (sym c.last.ensures) low) is;
      fresh = subst (λ n. IdsEndAt c.args.d n c.in-Ok-read_next.head.base.tree) c.last.ensures c.in-Ok-read_next.ensures.fresh;
      n_is = refl;
      session = c.in-Ok-know.ensures.session;
      disk = c.in-Ok-know.ensures.writes;
    })

pub returns-in-Err-know-clause-does : goal.returns-in-Err-know-clause-does
returns-in-Err-know-clause-does g c =
    let known_is = c.known-known.ensures in
    let flushed = sym c.queue.ensures ∙ c.is_waiting.ensures.none c.if-is_waiting.false in
    let member = c.in-Ok.ensures.lent.0 in
    let is = c.in-Ok.ensures.lent.1 in
    record {
      may = record { member = member; flushed = flushed };
      read = read_of c.in-Ok-read_next.head;
      role = c.in-Ok-read_next.head.role;
      head = λ seed names chain has secret_is gen ring within low. c.in-Ok-read_next.ensures.stands seed names chain has secret_is member (subst (λ n. c.args.self.now.generation ≡ generation_at chain n) (sym known_is) gen) ring (subst (λ n. n ≤ length chain) (sym known_is) within) (subst (λ n. length (ops_of c.args.d chain) ≤ n) (sym c.last.ensures) low) is;
      disk = c.in-Err-know.ensures.stops;
    }

pub returns-in-Ok-know-clause-owned : goal.returns-in-Ok-know-clause-owned
returns-in-Ok-know-clause-owned g c = λ h.
    pull_owned c.args.d (inside c.args.self.now) (inside c.know.new.self) h g.S.Sealer.sealed g.S.Sealer.signed g.H.BlockHash.hashed (held c.args.folder.now) c.args.secret.now (platter g.D.Disk c.args.self.now.journal.disk) (platter g.D.Disk c.know.new.self.journal.disk) (Ok c.in-Ok-read_next.head.number)
    (returns-in-Ok-know-clause-does g c)
