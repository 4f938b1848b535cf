use Rattle.std.proofs.Common.{inr, sym, subst}
use Rattle.kb_snap.specs.Lawful.{AreOf}
use Rattle.kb_device.specs.Fresh.{IdsEndAt}
use Rattle.kb_device.specs.Opened.{IsUnwritten}
use Rattle.kb_device.specs.Opening.{CanStart, taken_by, caught_by}
use Rattle.kb_device.specs.Views.{inside, platter, read_of}
use Rattle.kb_device.proofs.OwnQueues.{begins_owned}
use Rattle.kb_device.proofs.Resuming.{proper_of, resumes_from, stops_from, foreign_so, bad_never}
use Rattle.kb_device.proofs.session.Session.open.Goals as goal

pub returns-in-Err-default-BadDisk-clause-fails : goal.returns-in-Err-default-BadDisk-clause-fails
returns-in-Err-default-BadDisk-clause-fails g c =
    let of = c.in-Err-default-BadDisk.ensures in
    (c.in-Ok.ensures.lent.0, record { content = of.content_err; images = of.images_err; left = of.left_err }, of.bad c.in-Err-default-BadDisk.field-0-1-is)

pub returns-in-Err-Foreign-clause-fails : goal.returns-in-Err-Foreign-clause-fails
returns-in-Err-Foreign-clause-fails g c =
    let of = c.in-Ok-open.ensures in
    let j = c.in-Ok-open.journal in
    let member = c.in-Ok.ensures.lent.0 in
    let unwritten : IsUnwritten (platter g.D.Disk c.args.disk) (platter g.D.Disk j.disk) = record { content = of.content; images = of.images; left = of.left } in (
      member,
      subst (λ x. IsUnwritten (platter g.D.Disk c.args.disk) (platter g.D.Disk x)) (sym c.finish.ensures) unwritten,
      record {
        found = j.state;
        has = of.state;
        so = (
          c.known-known.ensures,
          λ seed names chain has secret_is. foreign_so c.in-Err-Foreign.field-0 _ _ c.in-Err-Foreign.field-0-is (c.in-Err-Foreign.ensures.stands seed names chain j.state has secret_is member c.in-Ok.ensures.lent.1 c.known-known.ensures c.known_hash.ensures c.queue.ensures c.last.ensures),
        );
      },
    )

pub returns-in-Err-BadFolder-clause-fails : goal.returns-in-Err-BadFolder-clause-fails
returns-in-Err-BadFolder-clause-fails g c =
    let of = c.in-Ok-open.ensures in
    let j = c.in-Ok-open.journal in
    let member = c.in-Ok.ensures.lent.0 in
    let unwritten : IsUnwritten (platter g.D.Disk c.args.disk) (platter g.D.Disk j.disk) = record { content = of.content; images = of.images; left = of.left } in (
      member,
      subst (λ x. IsUnwritten (platter g.D.Disk c.args.disk) (platter g.D.Disk x)) (sym c.finish-in-Err-BadFolder.ensures) unwritten,
      record {
        found = j.state;
        has = of.state;
        so = λ seed names chain has secret_is. bad_never c.in-Err-BadFolder.field-0 c.in-Err-BadFolder.number _ _ c.in-Err-BadFolder.field-0-is (c.in-Err-BadFolder.ensures.stands seed names chain j.state has secret_is member c.in-Ok.ensures.lent.1 c.known-known.ensures c.known_hash.ensures c.queue.ensures c.last.ensures);
      },
    )

pub resume-requires-clause-proper : goal.resume-requires-clause-proper
resume-requires-clause-proper g c = proper_of c.in-Ok-open.journal.state (g.D.Disk.content c.args.disk) c.in-Ok-open.ensures.state

pub returns-in-Ok-resume-clause-begins : goal.returns-in-Ok-resume-clause-begins
returns-in-Ok-resume-clause-begins g c =
    let of = c.in-Ok-open.ensures in
    let j = c.in-Ok-open.journal in
    let start = c.in-Ok-find_start.start in
    let r = read_of start.head in
    let member = c.in-Ok.ensures.lent.0 in
    let can = subst (λ n. CanStart n j.state.queue start.taking r start.head.shown.tree) c.known-known.ensures (subst (λ q. CanStart c.known-known.result q start.taking r start.head.shown.tree) c.queue.ensures c.in-Ok-find_start.ensures.can) in
    record {
      found = j.state;
      has = of.state;
      goes = record {
        taking = start.taking;
        read = r;
        shown = start.head.shown.tree;
        role = start.head.role;
        can = can;
        stands = λ seed names chain has secret_is. c.in-Ok-find_start.ensures.stands seed names chain j.state has secret_is member c.in-Ok.ensures.lent.1 c.known-known.ensures c.known_hash.ensures c.queue.ensures c.last.ensures;
        disk_is = resumes_from (platter g.D.Disk c.args.disk) (platter g.D.Disk j.disk) (platter g.D.Disk c.in-Ok-resume.session.journal.disk) (caught_by (taken_by j.state start.taking) r) of.content of.left c.in-Ok-resume.ensures.writes;
      };
      session = c.in-Ok-resume.ensures.session;
      running = c.in-Ok-resume.ensures.running;
    }

pub returns-in-Ok-resume-clause-owned : goal.returns-in-Ok-resume-clause-owned
returns-in-Ok-resume-clause-owned g c =
    let of = c.in-Ok-open.ensures in
    let j = c.in-Ok-open.journal in
    let start = c.in-Ok-find_start.start in
    let r = read_of start.head in
    let can = subst (λ n. CanStart n j.state.queue start.taking r start.head.shown.tree) c.known-known.ensures (subst (λ q. CanStart c.known-known.result q start.taking r start.head.shown.tree) c.queue.ensures c.in-Ok-find_start.ensures.can) in
    begins_owned c.args.d j.state (g.D.Disk.content c.args.disk) of.state start.taking r start.head.shown.tree can start.head.role (inside c.in-Ok-resume.session) c.in-Ok-resume.ensures.session (subst (AreOf c.args.d) c.queue.ensures c.in-Ok-find_start.ensures.own)
    (subst (λ n. IdsEndAt c.args.d n start.head.base.tree) c.last.ensures c.in-Ok-find_start.ensures.fresh)

pub returns-in-Err-resume-clause-fails : goal.returns-in-Err-resume-clause-fails
returns-in-Err-resume-clause-fails g c =
    let of = c.in-Ok-open.ensures in
    let j = c.in-Ok-open.journal in
    let start = c.in-Ok-find_start.start in
    let r = read_of start.head in
    let taken = taken_by j.state start.taking in
    let member = c.in-Ok.ensures.lent.0 in
    let can = subst (λ n. CanStart n j.state.queue start.taking r start.head.shown.tree) c.known-known.ensures (subst (λ q. CanStart c.known-known.result q start.taking r start.head.shown.tree) c.queue.ensures c.in-Ok-find_start.ensures.can) in (
      member,
      inr (record {
        found = j.state;
        has = of.state;
        so = record {
          taking = start.taking;
          read = r;
          shown = start.head.shown.tree;
          role = start.head.role;
          can = can;
          stands = λ seed names chain has secret_is. c.in-Ok-find_start.ensures.stands seed names chain j.state has secret_is member c.in-Ok.ensures.lent.1 c.known-known.ensures c.known_hash.ensures c.queue.ensures c.last.ensures;
          disk_is = stops_from (platter g.D.Disk c.args.disk) (platter g.D.Disk j.disk) (platter g.D.Disk c.in-Err-resume.disk) j.state taken (caught_by taken r) of.content of.left c.in-Err-resume.ensures.stops;
        };
      }),
    )
