use Rattle.std.proofs.Common.{◌≡◌, true, false, ◌∙◌, ap, subst}
use Rattle.std.specs.Str.{bytes_eq}
use Rattle.kb_script.specs.Seen.{known, is_declared, IsNew}
use Rattle.kb_script.proofs.DevicesNew.{goes_last, noted_last}
use Rattle.kb_script.proofs.noting.note.Goals as goal

pub invariant_of-seen-in-Device-clause-none : goal.invariant_of-seen-in-Device-clause-none
invariant_of-seen-in-Device-clause-none c = λ no. absurd (let e : true ≡ false = no in cc)

pub returns-in_ok-insert-in-Device : goal.returns-in_ok-insert-in-Device
returns-in_ok-insert-in-Device c =
    let seen = known c.args.seen.now in
    let new : is_declared seen c.in-Device.name ≡ false = subst (IsNew seen) c.in-Device.is c.requires.new in
    let last = goes_last (λ name. name.items) (λ x y. bytes_eq x.items y.items) c.in_ok-name-in-Device.name c.in-Device.name c.args.seen.now.devices.keys c.insert.new.self.keys
    (c.in_ok-name-in-Device.ensures.items ∙ c.bytes.ensures.value)
    (λ x. ap (λ n. bytes_eq n x.items) (c.in_ok-name-in-Device.ensures.items ∙ c.bytes.ensures.value)) new c.in_ok-insert-in-Device.ensures.keys in
    noted_last seen c.args.statement.now c.in-Device.name c.in-Device.size _ c.in-Device.is last
