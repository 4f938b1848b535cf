use Rattle.std.proofs.Common.{◌≡◌, ◌≤◌, true, arith, rules}
use Rattle.kb_name.specs.Moments.{last_second}
use Rattle.kb_name.specs.Names.{is_kept_name, is_device_name}
use Rattle.kb_name.proofs.Apart.{differ}
use Rattle.kb_name.proofs.Named.{named}
use Rattle.kb_name.proofs.copies.conflicted.Goals as goal

pub returns-in_err-text-clause-name : goal.returns-in_err-text-clause-name
returns-in_err-text-clause-name c =
    let name : is_kept_name c.args.name.now ≡ true = search rules in
    let device : is_device_name c.args.device.now ≡ true = search rules in
    let last : c.args.moment ≤ last_second = search rules in
    named c.args.name.now c.args.device.now c.args.moment c.args.k name device last (omega arith)

pub returns-clause-name : goal.returns-clause-name
returns-clause-name c =
    let name : is_kept_name c.args.name.now ≡ true = search rules in
    let device : is_device_name c.args.device.now ≡ true = search rules in
    let last : c.args.moment ≤ last_second = search rules in
    named c.args.name.now c.args.device.now c.args.moment c.args.k name device last (omega arith)

pub of_text-requires : goal.of_text-requires
of_text-requires c =
    let name : is_kept_name c.args.name.now ≡ true = search rules in
    let device : is_device_name c.args.device.now ≡ true = search rules in
    let last : c.args.moment ≤ last_second = search rules in
    let is = named c.args.name.now c.args.device.now c.args.moment c.args.k name device last (omega arith) in
    rw (c.in_ok-text.ensures, c.bytes.ensures.value, c.bytes-2.ensures.value) is

pub returns-in_err-text-clause-apart : goal.returns-in_err-text-clause-apart
returns-in_err-text-clause-apart c = λ j lo hi e. differ c.args.name.now c.args.device.now c.args.moment j c.args.k lo c.requires hi (omega arith) e

pub returns-clause-apart : goal.returns-clause-apart
returns-clause-apart c = λ j lo hi e. differ c.args.name.now c.args.device.now c.args.moment j c.args.k lo c.requires hi (omega arith) e
