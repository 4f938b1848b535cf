-- What the statements of a script reply, and how it is printed.
use Rattle.std.specs.Prelude.{◌≡◌, ℕ, ◌-◌, List, [], ◌∷◌, ◌++◌, map, slice_index_or}
use Rattle.kb_script.specs.declared.statements.Statement.{Statement}
use Rattle.kb_script.specs.declared.statements.Statement.TheVariants.{Device}
use Rattle.kb_lines.specs.LineTexts.{text_of_all}
use Rattle.kb_snap.specs.Chains.{tree_at}
use Rattle.kb_device.specs.Journals.{Journal}
use Rattle.kb_device.specs.Parts.{IsOpenAt, tree_shown}
use Rattle.kb_device.specs.Owned.{IsOwned}
use Rattle.kb_world.specs.Statements.{Reply}
use Rattle.kb_world.specs.Statements as machine
use Rattle.kb_world.specs.Machine.{Member, State}
use Rattle.kb_world.specs.RunLaws.{IsDevice}
use Rattle.kb_world.specs.RunReplies.{AreTheReplies, Front, plain_front}
use Rattle.kb_folder.specs.Chains.{Names}
use Rattle.kb_world.specs.Spoken.{statement_of, device_of}
use Rattle.kb_world.specs.Printed.{all_printed}

-- the names of the devices that statements declare, in their order
abbrev pub declared_names : List Statement → List (List ℕ)
declared_names [] = []
declared_names (Device name size ∷ statements) = name ∷ declared_names statements
declared_names (statement ∷ statements) = declared_names statements

-- devices are numbered from 1 in this order
abbrev pub names_in : List Statement → Names
names_in statements d = slice_index_or (declared_names statements) (d - 1) []

-- the statements of the plain machine
abbrev pub plain : List Statement → List machine.Statement
plain statements = map statement_of statements

-- the bytes of the lines of a statement's replies
abbrev pub text_of_replies : Names → Statement → List Reply → List ℕ
text_of_replies names statement replies = text_of_all (all_printed names (device_of statement) replies)

-- the same of statements, one after another
abbrev pub text_of_each : Names → List Statement → List (List Reply) → List ℕ
text_of_each names (statement ∷ statements) (replies ∷ each) = text_of_replies names statement replies ++ text_of_each names statements each
text_of_each names statements each = []

-- each device's acknowledged operations stand once and in order in the chain and then in its journal
abbrev pub AllOwned : State → Type 0
AllOwned s = (d : ℕ) (m : Member) → IsDevice s d m → IsOwned d s.chain m.part

-- an open device whose queue is empty shows the chain's tree at its known revision, so equal revisions show equal trees
abbrev pub AllAgree : State → Type 0
AllAgree s = (d : ℕ) (m : Member) (j : Journal) → IsDevice s d m → IsOpenAt m.part j → j.queue ≡ [] → tree_shown m.part j ≡ tree_at s.chain j.known

-- The statements have their replies, which are theirs whatever run gives them, and these are the first of them, up to one
-- that tells of a stop or of a collision.
pub record IsAnswered (statements : List machine.Statement) (each : List (List Reply)) : Type 0 where
  pub all : List (List Reply)
  pub are : AreTheReplies statements all
  pub first : Front (plain_front each) all
