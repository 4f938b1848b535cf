-- The laws of a device's part.
use Rattle.std.proofs.lemmas.List.Elements.{All-contains}
use Rattle.kb_device.specs.Journals.{returned}
use Rattle.kb_device.specs.Meets.{Meets, FitsArea}
use Rattle.kb_device.specs.PartLaws.{KeptIsOld, KeptReturns, PartIsOwned, FindsNoneForeign, FindsOneBeyond, FindsSpelled}
use Rattle.kb_device.proofs.Owned.{owns, is_owned, has_one}
use Rattle.kb_device.proofs.Foreign.{not_foreign}
use Rattle.kb_device.proofs.Returns.{shelf_is_old, returned_meets, returned_held}

pub part_owned : PartIsOwned
part_owned d c p lawful meets acknowledges = is_owned d c p lawful meets acknowledges

pub none_foreign : FindsNoneForeign
none_foreign d c p j lawful meets may foreign = not_foreign d c j lawful (All-contains (Meets d c) p.may j meets.may may) foreign

pub one_beyond : FindsOneBeyond
one_beyond d c p j meets may = has_one d c j (All-contains (Meets d c) p.may j meets.may may)

pub spelled : FindsSpelled
spelled d c p j meets may = record { proper = (All-contains (Meets d c) p.may j meets.may may).proper; fits = All-contains (FitsArea p.area) p.may j meets.areas may }

pub kept_old : KeptIsOld
kept_old d c p kept lawful meets acknowledges shelved = shelf_is_old d c p kept lawful meets acknowledges shelved

pub kept_returns : KeptReturns
kept_returns d c p kept lawful meets acknowledges shelved far =
    let there = returned_meets d c p kept lawful meets acknowledges shelved far in
    let held = returned_held d c p kept lawful meets acknowledges shelved far in
    record { meets = there; held = held; owns = owns d c (returned d c kept) p.acknowledged lawful there held }
