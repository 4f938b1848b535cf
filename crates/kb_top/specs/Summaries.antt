-- What is put once generated statements ran: how long the chain is, how many rows the laptop's tree has, and how many
-- names the resolution gave.
use Rattle.std.specs.Prelude.{ℕ, ◌+◌, List, [], ◌∷◌, ◌++◌, length, Option, Some, None, Ok, slice_get, codes, decimal, if◌then◌else◌}
use Rattle.std.specs.List.{fold}
use Rattle.kb_apply.specs.Shows.{rows_of}
use Rattle.kb_lines.specs.declared.lines.Line.{Line}
use Rattle.kb_lines.specs.declared.lines.Line.TheVariants as line
use Rattle.kb_device.specs.Journals.{Journal}
use Rattle.kb_device.specs.Parts.{Part, tree_shown}
use Rattle.kb_world.specs.Statements.{Reply, BySettle}
use Rattle.kb_world.specs.Machine.{Member, State}

-- the rows of the tree that a session on the first of these journals shows, as they are listed, and the root
abbrev pub rows_on : Part → List Journal → ℕ
rows_on p [] = 0
rows_on p (j ∷ journals) = length (rows_of (tree_shown p j)) + 1

-- those of the tree that a device's user sees; none without a session
abbrev pub rows_seen : Option Member → ℕ
rows_seen None = 0
rows_seen (Some m) = if m.part.is_open then rows_on m.part m.part.may else 0

-- the laptop is the first device
abbrev pub laptop_rows : State → ℕ
laptop_rows s = rows_seen (slice_get s.members 0)

-- the names that a merge gave, where this is its reply; else as many as before
abbrev pub names_after : ℕ → Reply → ℕ
names_after before (BySettle (Ok merged)) = merged.1.renamed
names_after before reply = before

-- those of the last merge among the replies of statements, or none
abbrev pub names_given : List (List Reply) → ℕ
names_given each = fold (λ before replies. fold names_after before replies) 0 each

abbrev pub summary_of : (number revisions rows renamed : ℕ) → List ℕ
summary_of number revisions rows renamed =
    codes "gen " ++ (decimal number ++ (codes ": revisions " ++ (decimal revisions ++ (codes " rows " ++ (decimal rows ++ (codes " renamed " ++ (decimal renamed ++ 10 ∷ [])))))))

abbrev pub summary : ℕ → State → List (List Reply) → List ℕ
summary number s each = summary_of number (length s.chain) (laptop_rows s) (names_given each)

-- ---- read off lines

-- the revisions that the head of the list of a chain tells
abbrev pub revisions_told : List Line → ℕ
revisions_told (line.Chain revisions generation ∷ lines) = revisions
revisions_told lines = 0

-- the rows that a tree's head tells, the root with them
abbrev pub rows_told : List Line → ℕ
rows_told (line.Tree name at queue rows ∷ lines) = length rows + 1
rows_told lines = 0

-- the names that a merge's line tells; else as many as before
abbrev pub names_told : ℕ → Line → ℕ
names_told before (line.Merged name revision copies renamed joined) = renamed
names_told before other = before
