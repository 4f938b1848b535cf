-- What a note writes.
use Rattle.std.specs.Prelude.{ℕ, Bool}
use Rattle.kb_journal.specs.declared.entries.Entry.{Entry}
use Rattle.kb_journal.specs.declared.entries.Entry.TheVariants.{Landed, Branched, Merged, Head}
use Rattle.kb_journal.specs.declared.entries.Note.{Note}
use Rattle.kb_journal.specs.declared.entries.Note.TheVariants as notes
use Rattle.kb_journal.specs.State.{State, last_seq}

-- the payload of a note, where the last operation has this seq, and the mark is this
abbrev pub entry_with : ℕ → Bool → Note → Entry
entry_with last mark (notes.Landed number hash) = Landed number hash
entry_with last mark notes.Branched = Branched
entry_with last mark (notes.Merged number hash count) = Merged number hash count
entry_with last mark (notes.Head number hash) = Head number hash last mark

-- the payload of a note in a state
abbrev pub entry_of : State → Note → Entry
entry_of s note = entry_with (last_seq s) s.mark note
