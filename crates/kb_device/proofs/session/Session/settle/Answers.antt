use Rattle.std.proofs.Common.{Some, Ok, Err, inl, inr, refl, sym, ap, ◌∙◌}
use Rattle.std.specs.Option.{option_map}
use Rattle.sha2.specs.Sha256.{sha256}
use Rattle.kb_keys.specs.Policies.{role_at}
use Rattle.kb_folder.specs.Held.{held}
use Rattle.kb_device.specs.Inside.{Inside}
use Rattle.kb_device.specs.Settling.{grown}
use Rattle.kb_device.specs.Views.{inside, plan_of, platter}
use Rattle.kb_device.proofs.Links.{spares, answers_as, memory_over, lost_over}
use Rattle.kb_device.proofs.Settlings.{can_be, can_grown, runs_unplanned, no_stop, asks_by, settles, settle_stops}
use Rattle.kb_device.proofs.Shared.{takes_of}
use Rattle.kb_device.proofs.session.Session.settle.Goals as goal

pub merge_of-requires-clause-can : goal.merge_of-requires-clause-can
merge_of-requires-clause-can g c = can_be _ (plan_of c.in-Some.goal) (sym c.can_settle.ensures ∙ c.if-not-can_settle.false)

pub resolve-requires-clause-can : goal.resolve-requires-clause-can
resolve-requires-clause-can g c = can_grown _ (plan_of c.in-Some.goal) c.keep_blocks.new.cache (can_be _ (plan_of c.in-Some.goal) (sym c.can_settle.ensures ∙ c.if-not-can_settle.false))

pub returns-in-Err-clause-does : goal.returns-in-Err-clause-does
returns-in-Err-clause-does g c = (inl (record { folder = refl; session = ap (λ o. let s : Inside = record (inside c.args.self.now) { plan = option_map plan_of o } in s) (sym c.in-Some.is ∙ c.take.ensures.value); disk = refl }), spares (g.K.Link.armed c.args.link.now))

pub returns-in-Err-copy-clause-does : goal.returns-in-Err-copy-clause-does
returns-in-Err-copy-clause-does g c = (inl (record { folder = refl; session = ap (λ o. let s : Inside = record (inside c.args.self.now) { plan = option_map plan_of o } in s) (sym c.in-Some.is ∙ c.take.ensures.value); disk = refl }), spares (g.K.Link.armed c.args.link.now))

pub returns-in-Err-keep_blocks-clause-does : goal.returns-in-Err-keep_blocks-clause-does
returns-in-Err-keep_blocks-clause-does g c = (inl (record { folder = refl; session = ap (λ k. let s : Inside = record (inside c.args.self.now) { plan = Some (grown (plan_of c.in-Some.goal) k) } in s) c.in-Err-keep_blocks.ensures.same ∙ ap (λ o. let s : Inside = record (inside c.args.self.now) { plan = option_map plan_of o } in s) (sym c.in-Some.is ∙ c.take.ensures.value); disk = refl }), spares (g.K.Link.armed c.args.link.now))

pub returns-in-Err-put_over-clause-does : goal.returns-in-Err-put_over-clause-does
returns-in-Err-put_over-clause-does g c =
    let over = memory_over g.S.Sealer.signed g.H.BlockHash.hashed (held c.args.folder.now) (held c.put_over.new.folder) c.in-Ok.made.request (g.K.Link.armed c.args.link.now) (g.K.Link.armed c.put_over.new.link) c.in-Err-put_over.fault (c.has_lost.ensures.other c.if-has_lost.false) c.in-Err-put_over.ensures.does in (
      inr (record {
        folder = over.0;
        plan = plan_of c.in-Some.goal;
        planned = (ap (option_map plan_of) (sym c.take.ensures.value ∙ c.in-Some.is));
        made = c.in-Ok.made.request.blocks;
        cache = c.keep_blocks.new.cache;
        takes = (takes_of g.H.BlockHash.hashed _ _ _ _ c.as_slice-blocks.ensures c.in-Ok-keep_blocks.ensures.takes);
        session = refl;
        disk = refl;
      }),
      over.1,
    )

pub returns-then-has_lost-clause-does : goal.returns-then-has_lost-clause-does
returns-then-has_lost-clause-does g c =
    lost_over g.S.Sealer.sealed g.S.Sealer.signed g.H.BlockHash.hashed (held c.args.folder.now) (held c.put_over.new.folder) c.args.d c.args.secret.now c.args.moment c.args.table.tree (inside c.args.self.now) (platter g.D.Disk c.args.self.now.journal.disk) _ _
    (option_map plan_of c.take.new.self) (plan_of c.in-Some.goal) c.in-Ok.made.request c.in-Ok.made.pointers c.keep_blocks.new.cache (g.K.Link.armed c.args.link.now) (g.K.Link.armed c.put_over.new.link) c.in-Err-put_over.fault
    (ap (option_map plan_of) (sym c.take.ensures.value ∙ c.in-Some.is)) c.in-Ok.ensures.asked (takes_of g.H.BlockHash.hashed _ _ _ _ c.as_slice-blocks.ensures c.in-Ok-keep_blocks.ensures.takes) refl (c.has_lost.ensures.lost c.if-has_lost.true) c.in-Err-put_over.ensures.does

pub returns-in-Err-answer-clause-does : goal.returns-in-Err-answer-clause-does
returns-in-Err-answer-clause-does g c = (
  record {
    asks = asks_by g.S.Sealer.sealed g.S.Sealer.signed g.H.BlockHash.hashed (held c.args.folder.now) (held c.put_over.new.folder) c.args.d c.args.secret.now c.args.moment c.args.table.tree (inside c.args.self.now) (platter g.D.Disk c.args.self.now.journal.disk)
        _ _ (option_map plan_of c.take.new.self) (plan_of c.in-Some.goal) c.in-Ok.made.request c.in-Ok.made.pointers c.keep_blocks.new.cache (Err c.in-Err-answer.refusal)
        (ap (option_map plan_of) (sym c.take.ensures.value ∙ c.in-Some.is)) c.in-Ok.ensures.asked (takes_of g.H.BlockHash.hashed _ _ _ _ c.as_slice-blocks.ensures c.in-Ok-keep_blocks.ensures.takes) (answers_as g.S.Sealer.signed g.H.BlockHash.hashed (held c.args.folder.now) (held c.put_over.new.folder) c.in-Ok.made.request c.in-Ok-put_over.answer (Err c.in-Err-answer.refusal) c.in-Err-answer.is c.in-Ok-put_over.ensures.does.0);
    session = ap (λ o. let s : Inside = record (inside c.args.self.now) { plan = option_map plan_of o } in s) c.take.ensures.after;
    disk = refl;
  },
  c.in-Ok-put_over.ensures.does.1,
)

pub returns-in-Err-answer-clause-running : goal.returns-in-Err-answer-clause-running
returns-in-Err-answer-clause-running g c = runs_unplanned (inside c.args.self.now) (option_map plan_of c.take.new.self) c.requires.running

pub returns-in-Ok-resolve-clause-does : goal.returns-in-Ok-resolve-clause-does
returns-in-Ok-resolve-clause-does g c =
    let asks = asks_by g.S.Sealer.sealed g.S.Sealer.signed g.H.BlockHash.hashed (held c.args.folder.now) (held c.put_over.new.folder) c.args.d c.args.secret.now c.args.moment c.args.table.tree (inside c.args.self.now) (platter g.D.Disk c.args.self.now.journal.disk)
    (inside c.resolve.new.self) (platter g.D.Disk c.resolve.new.self.journal.disk) (option_map plan_of c.take.new.self) (plan_of c.in-Some.goal) c.in-Ok.made.request c.in-Ok.made.pointers c.keep_blocks.new.cache (Ok c.in-Ok-answer.field-0)
    (ap (option_map plan_of) (sym c.take.ensures.value ∙ c.in-Some.is)) c.in-Ok.ensures.asked (takes_of g.H.BlockHash.hashed _ _ _ _ c.as_slice-blocks.ensures c.in-Ok-keep_blocks.ensures.takes) (answers_as g.S.Sealer.signed g.H.BlockHash.hashed (held c.args.folder.now) (held c.put_over.new.folder) c.in-Ok.made.request c.in-Ok-put_over.answer (Ok c.in-Ok-answer.field-0) c.in-Ok-answer.is c.in-Ok-put_over.ensures.does.0) in (
      settles g.S.Sealer.sealed g.S.Sealer.signed g.H.BlockHash.hashed (held c.args.folder.now) (held c.put_over.new.folder) c.args.d c.args.secret.now c.args.moment c.args.table.tree (inside c.args.self.now) (platter g.D.Disk c.args.self.now.journal.disk)
          (inside c.resolve.new.self) (platter g.D.Disk c.resolve.new.self.journal.disk) c.in-Ok-answer.field-0 asks c.hash_of-hash.result (c.hash_of-hash.ensures ∙ ap sha256 c.as_slice.ensures)
          c.in-Ok-resolve.number c.role-role.result c.in-Ok-resolve.ensures.number (c.role-role.ensures ∙ ap (λ p. role_at p.0 c.args.d) c.policy.ensures) c.in-Ok-resolve.ensures.session c.in-Ok-resolve.ensures.writes,
      c.in-Ok-put_over.ensures.does.1,
    )

pub returns-clause-does : goal.returns-clause-does
returns-clause-does g c =
    let asks = asks_by g.S.Sealer.sealed g.S.Sealer.signed g.H.BlockHash.hashed (held c.args.folder.now) (held c.put_over.new.folder) c.args.d c.args.secret.now c.args.moment c.args.table.tree (inside c.args.self.now) (platter g.D.Disk c.args.self.now.journal.disk)
    (inside c.resolve.new.self) (platter g.D.Disk c.resolve.new.self.journal.disk) (option_map plan_of c.take.new.self) (plan_of c.in-Some.goal) c.in-Ok.made.request c.in-Ok.made.pointers c.keep_blocks.new.cache (Ok c.in-Ok-answer.field-0)
    (ap (option_map plan_of) (sym c.take.ensures.value ∙ c.in-Some.is)) c.in-Ok.ensures.asked (takes_of g.H.BlockHash.hashed _ _ _ _ c.as_slice-blocks.ensures c.in-Ok-keep_blocks.ensures.takes) (answers_as g.S.Sealer.signed g.H.BlockHash.hashed (held c.args.folder.now) (held c.put_over.new.folder) c.in-Ok.made.request c.in-Ok-put_over.answer (Ok c.in-Ok-answer.field-0) c.in-Ok-answer.is c.in-Ok-put_over.ensures.does.0) in (
      settle_stops g.S.Sealer.sealed g.S.Sealer.signed g.H.BlockHash.hashed (held c.args.folder.now) (held c.put_over.new.folder) c.args.d c.args.secret.now c.args.moment c.args.table.tree (inside c.args.self.now) (platter g.D.Disk c.args.self.now.journal.disk)
          (inside c.resolve.new.self) (platter g.D.Disk c.resolve.new.self.journal.disk) c.in-Ok-answer.field-0 asks c.hash_of-hash.result (c.hash_of-hash.ensures ∙ ap sha256 c.as_slice.ensures) c.in-Err-resolve.ensures.stops,
      c.in-Ok-put_over.ensures.does.1,
    )
