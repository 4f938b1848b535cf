-- The statements for a number of files: two devices make the same files apart, and the later one's branch is resolved.
use Rattle.std.specs.Prelude.{ℕ, zero, suc, List, [], ◌∷◌, ◌++◌, codes, decimal}
use Rattle.kb_keys.specs.declared.policy.Role.TheVariants.{Writer}
use Rattle.kb_ops.specs.declared.requests.Request.TheVariants.{Mkdir, Mkfile, Write}
use Rattle.kb_script.specs.declared.statements.Statement.{Statement}
use Rattle.kb_script.specs.declared.statements.Statement.TheVariants.{Device, Found, Grant, At, Open, Flush, Drain, Pull, Resolve, File}

-- the devices' numbers
abbrev pub laptop : ℕ
laptop = 1

abbrev pub phone : ℕ
phone = 2

-- in seconds after the start of 1970
abbrev pub moment : ℕ
moment = 1700000000

-- the bytes of a disk
abbrev pub disk : ℕ
disk = 4194304

-- both devices are members, and know one directory
abbrev pub beginning : List Statement
beginning =
    At moment
    ∷ Device (codes "laptop") disk
    ∷ Device (codes "phone") disk
    ∷ Found laptop
    ∷ Grant laptop phone Writer
    ∷ Open laptop
    ∷ File laptop (Mkdir (codes "/d"))
    ∷ Flush laptop
    ∷ Open phone
    ∷ []

-- the path of the file with this number, and what a device writes to it
abbrev pub path_of : ℕ → List ℕ
path_of file = codes "/d/f" ++ decimal file

abbrev pub text_of : List ℕ → ℕ → List ℕ
text_of letter file = letter ++ decimal file

-- a device makes the files with the numbers from 1 to this one, and writes its text to each
abbrev pub files : ℕ → List ℕ → ℕ → List Statement
files device letter zero = []
files device letter (suc before) =
    files device letter before
    ++ File device (Mkfile (path_of (suc before)))
    ∷ File device (Write (path_of (suc before)) 0 (text_of letter (suc before)))
    ∷ []

-- the laptop puts all that it did; the phone is late with its first file, and its branch is resolved
abbrev pub ending : List Statement
ending = Drain laptop ∷ Flush phone ∷ Resolve phone ∷ Pull laptop ∷ []

abbrev pub generated : ℕ → List Statement
generated number = beginning ++ files laptop (codes "l") number ++ files phone (codes "p") number ++ ending
