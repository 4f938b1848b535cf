-- How a refusal is printed: its name, and the fields of three.
use Rattle.std.specs.Prelude.{ℕ, List, [], ◌++◌, codes, decimal}
use Rattle.hex.specs.Hex.{encode_lower}
use Rattle.kb_lines.specs.declared.reasons.Reason.{Reason}
use Rattle.kb_lines.specs.declared.reasons.Reason.TheVariants.{Closed, ReadOnly, BadPath, TooDeep, NotFound, NotDir, NotFile, Exists, NotEmpty, Inside, TooBig, TreeFull, Spent, QueueFull, Full, Memory, Stopped, AlreadyOpen, NotMember, BadDisk, Foreign, BadFolder, InFlight, Branched, Idle, NoFlight, Unflushed, NoBranch, NoPlan, LinkFault, BadRevision, NotWriter, BadSignature, Stale, SeqGap, BadFit, ChainEnd, Collision, Known, LastWriter, GenEnd}

abbrev pub reason_name : Reason → List ℕ
reason_name Closed = codes "Closed"
reason_name ReadOnly = codes "ReadOnly"
reason_name BadPath = codes "BadPath"
reason_name TooDeep = codes "TooDeep"
reason_name NotFound = codes "NotFound"
reason_name NotDir = codes "NotDir"
reason_name NotFile = codes "NotFile"
reason_name Exists = codes "Exists"
reason_name NotEmpty = codes "NotEmpty"
reason_name Inside = codes "Inside"
reason_name TooBig = codes "TooBig"
reason_name TreeFull = codes "TreeFull"
reason_name Spent = codes "Spent"
reason_name QueueFull = codes "QueueFull"
reason_name (Full need room) = codes "Full"
reason_name Memory = codes "Memory"
reason_name Stopped = codes "Stopped"
reason_name AlreadyOpen = codes "AlreadyOpen"
reason_name NotMember = codes "NotMember"
reason_name BadDisk = codes "BadDisk"
reason_name Foreign = codes "Foreign"
reason_name BadFolder = codes "BadFolder"
reason_name InFlight = codes "InFlight"
reason_name Branched = codes "Branched"
reason_name Idle = codes "Idle"
reason_name NoFlight = codes "NoFlight"
reason_name Unflushed = codes "Unflushed"
reason_name NoBranch = codes "NoBranch"
reason_name NoPlan = codes "NoPlan"
reason_name LinkFault = codes "LinkFault"
reason_name BadRevision = codes "BadRevision"
reason_name NotWriter = codes "NotWriter"
reason_name BadSignature = codes "BadSignature"
reason_name (Stale size) = codes "Stale"
reason_name SeqGap = codes "SeqGap"
reason_name BadFit = codes "BadFit"
reason_name ChainEnd = codes "ChainEnd"
reason_name (Collision id) = codes "Collision"
reason_name Known = codes "Known"
reason_name LastWriter = codes "LastWriter"
reason_name GenEnd = codes "GenEnd"

abbrev pub reason_fields : Reason → List ℕ
reason_fields (Full need room) = codes " " ++ decimal need ++ codes " " ++ decimal room
reason_fields (Stale size) = codes " " ++ decimal size
reason_fields (Collision id) = codes " " ++ encode_lower id
reason_fields reason = []

abbrev pub reason_text : Reason → List ℕ
reason_text reason = reason_name reason ++ reason_fields reason
