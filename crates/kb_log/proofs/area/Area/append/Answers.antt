use Rattle.std.proofs.Common.{inr, refl, arith}
use Rattle.kb_log.proofs.Resettled.{end_within, text_some, resettled, payloads_settled, image_list, appended, appended_size, appended_either}
use Rattle.kb_log.proofs.area.Area.append.Goals as goal

pub add_record-requires-clause-range : goal.add_record-requires-clause-range
add_record-requires-clause-range g c =
    omega (arith, end_within _ _ c.args.self.now c.requires.settled, c.requires.fits)

pub add_record-requires-clause-some : goal.add_record-requires-clause-some
add_record-requires-clause-some g c = text_some _ _ c.args.self.now c.requires.settled

pub add_record-requires-clause-room : goal.add_record-requires-clause-room
add_record-requires-clause-room g c =
    omega (arith, c.requires.settled.room, c.requires.fits)

pub returns-in_err-add_record-clause-every : goal.returns-in_err-add_record-clause-every
returns-in_err-add_record-clause-every g c = λ image may.
    appended_either _ _ c.args.self.now c.requires.settled c.args.payload.now c.requires.fits _ image (c.in_err-add_record.ensures.stopped image may)

pub returns-clause-settled : goal.returns-clause-settled
returns-clause-settled g c =
    let e = c.in_ok-add_record.ensures in
    let s = appended _ _ c.args.self.now c.requires.settled c.args.payload.now c.requires.fits _ _ e.written e.text in
    let size = appended_size _ _ c.args.self.now c.requires.settled c.args.payload.now c.requires.fits _ e.written in
    resettled _ _ _ _ c.args.self.now _ _ c.requires.settled size e.clean refl e.room s

pub returns-clause-payloads : goal.returns-clause-payloads
returns-clause-payloads g c =
    let e = c.in_ok-add_record.ensures in
    let s = appended _ _ c.args.self.now c.requires.settled c.args.payload.now c.requires.fits _ _ e.written e.text in
    payloads_settled _ _ _ _ s

pub returns-clause-durable : goal.returns-clause-durable
returns-clause-durable g c = λ image may.
    let e = c.in_ok-add_record.ensures in
    let s = appended _ _ c.args.self.now c.requires.settled c.args.payload.now c.requires.fits _ _ e.written e.text in
    image_list _ image _ _ may e.clean s.list

pub returns-clause-every : goal.returns-clause-every
returns-clause-every g c = λ image may.
    let e = c.in_ok-add_record.ensures in
    let s = appended _ _ c.args.self.now c.requires.settled c.args.payload.now c.requires.fits _ _ e.written e.text in
    inr (image_list _ image _ _ may e.clean s.list)
