-- The statements: how their first word is spelled, what words may follow it, and where they may stand.
use Rattle.std.specs.Prelude.{ℕ, Bool, List, [], ◌∷◌, find, codes, Option, if◌then◌else◌}
use Rattle.std.specs.List.{list_any}
use Rattle.std.specs.Str.{bytes_eq}
use Rattle.kb_name.specs.Moments.{last_second}
use Rattle.kb_script.specs.declared.verbs.Verb.{Verb}
use Rattle.kb_script.specs.declared.verbs.Verb.TheVariants.{Seed, Device, Found, Grant, Revoke, At, Open, Pick, Land, Note, Flush, Drain, Pull, Fetch, Settle, Resolve, Status, Fuse, Lose, Power, Folder, Verify, Mkdir, Mkfile, Link, Remove, Move, Write, Cut, Chmod, Touch, Cat, Ls, Tree, Stat}

abbrev pub spelling : Verb → List ℕ
spelling Seed = codes "seed"
spelling Device = codes "device"
spelling Found = codes "found"
spelling Grant = codes "grant"
spelling Revoke = codes "revoke"
spelling At = codes "at"
spelling Open = codes "open"
spelling Pick = codes "pick"
spelling Land = codes "land"
spelling Note = codes "note"
spelling Flush = codes "flush"
spelling Drain = codes "drain"
spelling Pull = codes "pull"
spelling Fetch = codes "fetch"
spelling Settle = codes "settle"
spelling Resolve = codes "resolve"
spelling Status = codes "status"
spelling Fuse = codes "fuse"
spelling Lose = codes "lose"
spelling Power = codes "power"
spelling Folder = codes "folder"
spelling Verify = codes "verify"
spelling Mkdir = codes "mkdir"
spelling Mkfile = codes "mkfile"
spelling Link = codes "link"
spelling Remove = codes "rm"
spelling Move = codes "mv"
spelling Write = codes "write"
spelling Cut = codes "cut"
spelling Chmod = codes "chmod"
spelling Touch = codes "touch"
spelling Cat = codes "cat"
spelling Ls = codes "ls"
spelling Tree = codes "tree"
spelling Stat = codes "stat"

abbrev pub verbs : List Verb
verbs = Seed ∷ Device ∷ Found ∷ Grant ∷ Revoke ∷ At ∷ Open ∷ Pick ∷ Land ∷ Note ∷ Flush ∷ Drain ∷ Pull ∷ Fetch ∷ Settle ∷ Resolve ∷ Status ∷ Fuse ∷ Lose ∷ Power ∷ Folder ∷ Verify ∷ Mkdir ∷ Mkfile ∷ Link ∷ Remove ∷ Move ∷ Write ∷ Cut ∷ Chmod ∷ Touch ∷ Cat ∷ Ls ∷ Tree ∷ Stat ∷ []

-- the statement that a first word names
abbrev pub verb_of : List ℕ → Option Verb
verb_of w = find (λ v. bytes_eq w (spelling v)) verbs

-- the first words of statements that aren't built yet: those of a block, which are no words where a block may not stand
abbrev pub block_words : List (List ℕ)
block_words = codes "par" ∷ codes "caller" ∷ codes "flusher" ∷ codes "end" ∷ []

abbrev pub is_later_word : Bool → List ℕ → Bool
is_later_word live w = list_any (bytes_eq w) (if live then block_words else [])

-- what may stand at a place behind the first word
pub data Want : Type 0 where
  Number : (low high : ℕ) → Want
  SeedWord : Want
  NewDevice : Want
  OldDevice : Want
  AnyPath : Want
  DataWord : Want
  OneOf : (choices : List (List ℕ)) → Want

abbrev pub last_u32 : ℕ
last_u32 = 4294967295

-- what a power cut leaves, by its word
abbrev pub pick_words : List (List ℕ)
pick_words = codes "old" ∷ codes "new" ∷ codes "noise" ∷ []

-- what a link loses, by its word
abbrev pub side_words : List (List ℕ)
side_words = codes "request" ∷ codes "reply" ∷ []

-- what a grant makes of a device, by its word
abbrev pub role_words : List (List ℕ)
role_words = codes "writer" ∷ codes "reader" ∷ []

-- the forms of a statement
abbrev pub forms : Verb → List (List Want)
forms Seed = (SeedWord ∷ []) ∷ []
forms Device = (NewDevice ∷ Number 4096 16777216 ∷ []) ∷ []
forms Found = (OldDevice ∷ []) ∷ []
forms Grant = (OldDevice ∷ OldDevice ∷ OneOf role_words ∷ []) ∷ []
forms Revoke = (OldDevice ∷ OldDevice ∷ []) ∷ []
forms At = (Number 0 last_second ∷ []) ∷ []
forms Open = (OldDevice ∷ []) ∷ []
forms Pick = (OldDevice ∷ []) ∷ []
forms Land = (OldDevice ∷ []) ∷ []
forms Note = (OldDevice ∷ []) ∷ []
forms Flush = (OldDevice ∷ []) ∷ []
forms Drain = (OldDevice ∷ []) ∷ []
forms Pull = (OldDevice ∷ []) ∷ []
forms Fetch = (OldDevice ∷ []) ∷ []
forms Settle = (OldDevice ∷ []) ∷ []
forms Resolve = (OldDevice ∷ []) ∷ []
forms Status = (OldDevice ∷ []) ∷ []
forms Fuse = (OldDevice ∷ Number 0 last_u32 ∷ []) ∷ []
forms Lose = (OldDevice ∷ OneOf side_words ∷ []) ∷ []
forms Power = (OldDevice ∷ OneOf pick_words ∷ []) ∷ []
forms Folder = [] ∷ []
forms Verify = [] ∷ []
forms Mkdir = (OldDevice ∷ AnyPath ∷ []) ∷ []
forms Mkfile = (OldDevice ∷ AnyPath ∷ []) ∷ []
forms Link = (OldDevice ∷ AnyPath ∷ DataWord ∷ []) ∷ []
forms Remove = (OldDevice ∷ AnyPath ∷ []) ∷ []
forms Move = (OldDevice ∷ AnyPath ∷ AnyPath ∷ []) ∷ []
forms Write = (OldDevice ∷ AnyPath ∷ Number 0 last_u32 ∷ DataWord ∷ []) ∷ []
forms Cut = (OldDevice ∷ AnyPath ∷ Number 0 last_u32 ∷ []) ∷ []
forms Chmod = (OldDevice ∷ AnyPath ∷ OneOf (codes "x" ∷ codes "-" ∷ []) ∷ []) ∷ []
forms Touch = (OldDevice ∷ AnyPath ∷ Number 0 last_second ∷ []) ∷ []
forms Cat = (OldDevice ∷ AnyPath ∷ []) ∷ (OldDevice ∷ AnyPath ∷ Number 0 last_u32 ∷ Number 0 last_u32 ∷ []) ∷ []
forms Ls = (OldDevice ∷ AnyPath ∷ []) ∷ []
forms Tree = (OldDevice ∷ []) ∷ []
forms Stat = (OldDevice ∷ AnyPath ∷ []) ∷ []

-- so many devices may be declared
abbrev pub most_devices : ℕ
most_devices = 32

-- where a statement may stand: anywhere, as the first, while fewer devices are declared than may be, once, or behind `found`
pub data Place : Type 0 where
  Anywhere : Place
  First : Place
  WithRoom : Place
  Once : Place
  Behind : Place

abbrev pub place : Verb → Place
place Seed = First
place Device = WithRoom
place At = Anywhere
place Fuse = Anywhere
place Found = Once
place Grant = Behind
place Revoke = Behind
place Open = Behind
place Pick = Behind
place Land = Behind
place Note = Behind
place Flush = Behind
place Drain = Behind
place Pull = Behind
place Fetch = Behind
place Settle = Behind
place Resolve = Behind
place Status = Behind
place Lose = Behind
place Power = Behind
place Folder = Behind
place Verify = Behind
place Mkdir = Behind
place Mkfile = Behind
place Link = Behind
place Remove = Behind
place Move = Behind
place Write = Behind
place Cut = Behind
place Chmod = Behind
place Touch = Behind
place Cat = Behind
place Ls = Behind
place Tree = Behind
place Stat = Behind
