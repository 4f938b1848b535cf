-- How a reply is printed.
use Rattle.std.specs.Prelude.{ℕ, ◌+◌, List, ◌++◌, length, codes, decimal}
use Rattle.std.specs.List.{flat_map}
use Rattle.kb_name.specs.Texts.{escaped}
use Rattle.kb_lines.specs.declared.lines.Did.{Did}
use Rattle.kb_lines.specs.declared.lines.Did.TheVariants as did
use Rattle.kb_lines.specs.declared.lines.Line.{Line}
use Rattle.kb_lines.specs.declared.lines.Line.TheVariants.{FolderAt, FolderRefused, Done, Same, Refused, Cat, Ls, Tree, Stat, Picked, Landed, Noted, BranchedAt, Kept, At, Fetched, Merged, Status, Opened, Off, Chain, Revision, Whole, FolderCell, Cell, Entry}
use Rattle.kb_lines.specs.EntryTexts.{standing, branch_text, flight_text, entry_text}
use Rattle.kb_lines.specs.Reasons.{reason_text}
use Rattle.kb_lines.specs.RowTexts.{named_row, placed_row, stat_text}

-- what the folder says
abbrev pub folder_says : List ℕ → List ℕ
folder_says text = codes "folder: " ++ text ++ codes "\n"

-- what a device says
abbrev pub says : List ℕ → List ℕ → List ℕ
says device text = escaped device ++ codes ": " ++ text ++ codes "\n"

abbrev pub did_text : Did → List ℕ
did_text (did.Found d) = codes "found " ++ escaped d
did_text (did.Step d seq) = codes "step " ++ escaped d ++ codes " " ++ decimal seq
did_text (did.Merge d first last) = codes "merge " ++ escaped d ++ codes " " ++ decimal first ++ codes " " ++ decimal last
did_text (did.GrantWriter by d) = codes "grant " ++ escaped by ++ codes " " ++ escaped d ++ codes " writer"
did_text (did.GrantReader by d) = codes "grant " ++ escaped by ++ codes " " ++ escaped d ++ codes " reader"
did_text (did.Revoke by d) = codes "revoke " ++ escaped by ++ codes " " ++ escaped d

abbrev pub text_of : Line → List ℕ
text_of (FolderAt r) = folder_says (codes "at " ++ decimal r)
text_of (FolderRefused why) = folder_says (codes "refused " ++ reason_text why)
text_of (Done d seq) = says d (codes "done " ++ decimal seq)
text_of (Same d) = says d (codes "same")
text_of (Refused d why) = says d (codes "refused " ++ reason_text why)
text_of (Cat d bytes) = says d (codes "=" ++ escaped bytes)
text_of (Ls d rows) = says d (codes "ls " ++ decimal (length rows)) ++ flat_map named_row rows
text_of (Tree d r queue rows) = says d (codes "tree at " ++ decimal r ++ codes " queue " ++ decimal queue ++ codes " rows " ++ decimal (length rows + 1)) ++ flat_map placed_row rows
text_of (Stat d row) = says d (stat_text row)
text_of (Picked d seq r) = says d (codes "picked " ++ decimal seq ++ codes " as " ++ decimal r)
text_of (Landed d r) = says d (codes "landed " ++ decimal r)
text_of (Noted d r) = says d (codes "noted " ++ decimal r)
text_of (BranchedAt d r) = says d (codes "branched at " ++ decimal r)
text_of (Kept d) = says d (codes "kept")
text_of (At d r) = says d (codes "at " ++ decimal r)
text_of (Fetched d r) = says d (codes "fetched " ++ decimal r)
text_of (Merged d r copies renamed joined) = says d (codes "merged " ++ decimal r ++ codes " copies " ++ decimal copies ++ codes " renamed " ++ decimal renamed ++ codes " joined " ++ decimal joined)
text_of (Status d r queue last branched flight) = says d (standing (codes "status") r queue last ++ codes " " ++ branch_text branched ++ codes " " ++ flight_text flight)
text_of (Opened d r queue last) = says d (standing (codes "open") r queue last)
text_of (Off d) = says d (codes "off")
text_of (Chain n g) = folder_says (decimal n ++ codes " revisions generation " ++ decimal g)
text_of (Revision n what) = decimal n ++ codes " " ++ did_text what ++ codes "\n"
text_of (Whole n) = folder_says (codes "whole " ++ decimal n)
text_of (FolderCell n) = codes "cell folder " ++ decimal n ++ codes "\n"
text_of (Cell d n) = codes "cell " ++ escaped d ++ codes " " ++ decimal n ++ codes "\n"
text_of (Entry worker asked answer) = entry_text worker asked answer

abbrev pub text_of_all : List Line → List ℕ
text_of_all lines = flat_map text_of lines
