-- Journals on disks and plain ones.
use Rattle.std.proofs.Common.{◌≡◌, ℕ, ◌+◌, List, [], length, refl, sym, ap, arith}
use Rattle.kb_journal.specs.State.{State as Disk, done, last_seq as last_of}
use Rattle.kb_journal.specs.declared.entries.Entry.TheVariants as entry
use Rattle.kb_device.specs.Journals.{plain, taken}
use Rattle.kb_device.specs.PartLaws.{JournalsArePlain}

head_is : (s : Disk) (number : ℕ) (hash : List ℕ) → s.queue ≡ [] → plain (done s (entry.Head number hash (last_of s) s.mark)) ≡ record (plain s) { known = number }
head_is s number hash empty =
    let none : last_of s ≡ s.base = (let e = ap length empty in omega arith) in
    λ i. record { known = number; base = none i; mark = s.mark; queue = sym empty i }

pub journals_plain : JournalsArePlain
journals_plain s = record {
  op = λ op. refl;
  landed = λ number hash clear i. record { known = number; base = s.base + 1; mark = clear i; queue = (taken number 1 (plain s)).queue };
  branched = refl;
  merged = λ number hash count. refl;
  head = head_is s;
}
