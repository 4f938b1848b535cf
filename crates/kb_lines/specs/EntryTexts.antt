-- How an entry of the history of a block of workers is printed.
use Rattle.std.specs.Prelude.{ℕ, Bool, List, [], ◌++◌, codes, decimal, if◌then◌else◌, Option, Some, None}
use Rattle.kb_name.specs.Texts.{escaped}
use Rattle.kb_ops.specs.declared.requests.Request.{Request}
use Rattle.kb_ops.specs.declared.requests.Request.TheVariants.{Mkdir, Mkfile, Link, Remove, Move, Write, Cut, Exec, Touch}
use Rattle.kb_ops.specs.declared.requests.Show.{Show}
use Rattle.kb_ops.specs.declared.requests.Show.TheVariants as show
use Rattle.kb_lines.specs.declared.lines.Answer.{Answer}
use Rattle.kb_lines.specs.declared.lines.Answer.TheVariants as answer
use Rattle.kb_lines.specs.declared.lines.Asked.{Asked}
use Rattle.kb_lines.specs.declared.lines.Asked.TheVariants as asked
use Rattle.kb_lines.specs.Reasons.{reason_text}
use Rattle.kb_lines.specs.RowTexts.{exec_text, stat_text}

-- the words of a statement, without the device: paths as they were written, data escaped
abbrev pub request_text : Request → List ℕ
request_text (Mkdir path) = codes "mkdir " ++ path
request_text (Mkfile path) = codes "mkfile " ++ path
request_text (Link path target) = codes "link " ++ path ++ codes " =" ++ escaped target
request_text (Remove path) = codes "rm " ++ path
request_text (Move from to) = codes "mv " ++ from ++ codes " " ++ to
request_text (Write path offset bytes) = codes "write " ++ path ++ codes " " ++ decimal offset ++ codes " =" ++ escaped bytes
request_text (Cut path size) = codes "cut " ++ path ++ codes " " ++ decimal size
request_text (Exec path on) = codes "chmod " ++ path ++ codes " " ++ exec_text on
request_text (Touch path mtime) = codes "touch " ++ path ++ codes " " ++ decimal mtime

abbrev pub range_text : Option (ℕ × ℕ) → List ℕ
range_text None = []
range_text (Some range) = codes " " ++ decimal range.0 ++ codes " " ++ decimal range.1

abbrev pub show_text : Show → List ℕ
show_text (show.Cat path range) = codes "cat " ++ path ++ range_text range
show_text (show.Ls path) = codes "ls " ++ path
show_text show.Tree = codes "tree"
show_text (show.Stat path) = codes "stat " ++ path

abbrev pub branch_text : Bool → List ℕ
branch_text branched = if branched then codes "branched" else codes "merged"

abbrev pub flight_text : Bool → List ℕ
flight_text flight = if flight then codes "flight" else codes "idle"

-- where a device stands
abbrev pub standing : List ℕ → ℕ → ℕ → ℕ → List ℕ
standing word r queue last = word ++ codes " at " ++ decimal r ++ codes " queue " ++ decimal queue ++ codes " last " ++ decimal last

-- an answer, without the device
abbrev pub answer_text : Answer → List ℕ
answer_text (answer.Done seq) = codes "done " ++ decimal seq
answer_text answer.Same = codes "same"
answer_text (answer.Refused why) = codes "refused " ++ reason_text why
answer_text (answer.Cat bytes) = codes "=" ++ escaped bytes
answer_text (answer.Stat row) = stat_text row
answer_text (answer.Status r queue last branched flight) = standing (codes "status") r queue last ++ codes " " ++ branch_text branched ++ codes " " ++ flight_text flight
answer_text (answer.Picked seq r) = codes "picked " ++ decimal seq ++ codes " as " ++ decimal r
answer_text (answer.Landed r) = codes "landed " ++ decimal r
answer_text (answer.Noted r) = codes "noted " ++ decimal r
answer_text (answer.BranchedAt r) = codes "branched at " ++ decimal r
answer_text answer.Kept = codes "kept"

abbrev pub asked_text : Asked → List ℕ
asked_text (asked.Call request) = request_text request
asked_text (asked.Look show) = show_text show
asked_text asked.Status = codes "status"
asked_text asked.Pick = codes "pick"
asked_text (asked.Note put) = codes "note " ++ answer_text put
asked_text (asked.Put r) = codes "put " ++ decimal r

-- the worker's number in the block, what it asked for, and the answer
abbrev pub entry_text : ℕ → Asked → Answer → List ℕ
entry_text worker asked answer = decimal worker ++ codes " " ++ asked_text asked ++ codes " -> " ++ answer_text answer ++ codes "\n"
