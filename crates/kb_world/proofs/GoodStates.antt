-- The laws of good states.
use Rattle.std.proofs.Common.{◌≡◌, ℕ, ◌+◌, ◌-◌, true, false, drop, Option, Some, None, sym, ap, ◌∙◌, subst, arith}
use Rattle.kb_ops.specs.Trees.{fold_ops}
use Rattle.kb_rules.specs.Meet.{Meet}
use Rattle.kb_snap.specs.Chains.{Chain, tree_at}
use Rattle.kb_device.specs.Journals.{Journal, returned}
use Rattle.kb_device.specs.Parts.{Flight}
use Rattle.kb_device.specs.Meets.{NoneOf, Meets, FlightMeets, FitsArea}
use Rattle.kb_world.specs.Machine.{Member, State, new_state}
use Rattle.kb_world.specs.Good.{MemberMeets, IsGood}
use Rattle.kb_world.specs.RunLaws.{RunsAreGood, IsDevice, GoodIsOwned, ShowsKnown, EqualsShowEqual, BranchesMeet, NoneForeign, OneBeyond, ShelvesAreOld, ReturnsMeet, QueuesAreSpelled}
use Rattle.kb_device.proofs.PartSteps.{at_session, at_journal}
use Rattle.kb_device.proofs.Owned.{owns, is_owned, has_one}
use Rattle.kb_device.proofs.Merging.{branch_meets}
use Rattle.kb_device.proofs.Foreign.{not_foreign}
use Rattle.std.proofs.lemmas.List.Elements.{All-contains}
use Rattle.kb_device.proofs.Returns.{shelf_is_old, returned_meets, returned_held}
use Rattle.kb_world.proofs.Machine.{run_keeps, new_good}

pub runs_good : RunsAreGood
runs_good statements each t h = run_keeps new_state statements each t h new_good

pub device_meets : (s : State) (d : ℕ) (m : Member) → IsGood s → IsDevice s d m → MemberMeets d s.chain m
device_meets s d m good h = (let n = h.numbered in subst (λ k. MemberMeets k s.chain m) (let e : d - 1 + 1 ≡ d = omega arith in e) (good.members (d - 1) m h.found))

pub good_owned : GoodIsOwned
good_owned s d m good h = (let meets = device_meets s d m good h in is_owned d s.chain m.part good.chain meets.part meets.acknowledged)

pub shows_known : ShowsKnown
shows_known s d m j good h at empty =
    let meets = device_meets s d m good h in
    let session = at_session d s.chain m.part j meets.part at in
    ap (λ q. fold_ops q m.part.base) empty ∙ session.base

pub equals_show : EqualsShowEqual
equals_show s d e m n j k good hm hn am an ej ek same = shows_known s d m j good hm am ej ∙ ap (tree_at s.chain) same ∙ sym (shows_known s e n k good hn an ek)

-- a marked device has no flight
unflown : (d : ℕ) (c : Chain) (j : Journal) (o : Option Flight) → j.mark ≡ true → FlightMeets d c j o → NoneOf d (drop j.known c)
unflown d c j None marked h = h
unflown d c j (Some flight) marked h = absurd (let no : true ≡ false = sym marked ∙ h.clear in cc)

pub branches_meet : BranchesMeet
branches_meet s d m j r stamp good h at marked within device last =
    let meets = device_meets s d m good h in
    let session = at_session d s.chain m.part j meets.part at in
    let mj = at_journal d s.chain m.part j meets.part at.journal_is in
    subst (λ t. Meet (tree_at s.chain j.known) (tree_at s.chain r) (fold_ops j.queue t) stamp) (sym session.base)
    (branch_meets d s.chain j good.chain mj (unflown d s.chain j m.part.flight marked session.flight) (mj.marked marked) r within stamp device last)

pub one_beyond : OneBeyond
one_beyond s d m j good h may =
    let meets = device_meets s d m good h in
    has_one d s.chain j (All-contains (Meets d s.chain) m.part.may j meets.part.may may)

pub none_foreign : NoneForeign
none_foreign s d m j good h may foreign =
    let meets = device_meets s d m good h in
    not_foreign d s.chain j good.chain (All-contains (Meets d s.chain) m.part.may j meets.part.may may) foreign

pub shelves_old : ShelvesAreOld
shelves_old s d m kept good h shelved =
    let meets = device_meets s d m good h in
    shelf_is_old d s.chain m.part kept good.chain meets.part meets.acknowledged shelved

pub returns_meet : ReturnsMeet
returns_meet s d m kept good h shelved far =
    let meets = device_meets s d m good h in
    let there = returned_meets d s.chain m.part kept good.chain meets.part meets.acknowledged shelved far in
    let held = returned_held d s.chain m.part kept good.chain meets.part meets.acknowledged shelved far in
    record { meets = there; held = held; owns = owns d s.chain (returned d s.chain kept) m.part.acknowledged good.chain there held }

pub queues_spelled : QueuesAreSpelled
queues_spelled s d m j good h may =
    let meets = device_meets s d m good h in
    record {
      proper = (All-contains (Meets d s.chain) m.part.may j meets.part.may may).proper;
      fits = All-contains (FitsArea m.part.area) m.part.may j meets.part.areas may;
    }
