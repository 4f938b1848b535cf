-- Which statements may follow which, over two numbers: how many devices were declared, and whether `found` came.
use Rattle.std.specs.Prelude.{◌≡◌, ℕ, ◌+◌, ◌≤◌, ◌<◌, Bool, true, false, List, [], ◌∷◌}
use Rattle.kb_name.specs.Names.{is_device_name}
use Rattle.kb_name.specs.Moments.{last_second}
use Rattle.kb_script.specs.declared.statements.Statement.{Statement}
use Rattle.kb_script.specs.declared.statements.Statement.TheVariants.{Seed, Device, Found, Grant, Revoke, At, Open, Pick, Land, Note, Flush, Drain, Pull, Fetch, Settle, Resolve, Status, Fuse, Lose, Power, Folder, Verify, File, Look}

-- a device is named by its number, from 1, after it was declared
abbrev pub IsDeclared : ℕ → ℕ → Type 0
IsDeclared count device = (1 ≤ device) × (device ≤ count)

-- the seed before all devices; at most 32 devices, each with a disk of 4,096 to 16,777,216 bytes; one `found`; and only
-- behind it what changes the members, opens, changes, shows, takes to the folder, arms a link or cuts the power
abbrev pub IsFit : ℕ → Bool → Statement → Type 0
IsFit count found (Seed seed) = count ≡ 0
IsFit count found (Device name size) = (count < 32) × (is_device_name name ≡ true) × (4096 ≤ size) × (size ≤ 16777216)
IsFit count found (Found device) = (found ≡ false) × IsDeclared count device
IsFit count found (Grant by device role) = (found ≡ true) × IsDeclared count by × IsDeclared count device
IsFit count found (Revoke by device) = (found ≡ true) × IsDeclared count by × IsDeclared count device
IsFit count found (At moment) = moment ≤ last_second
IsFit count found (Open device) = (found ≡ true) × IsDeclared count device
IsFit count found (Pick device) = (found ≡ true) × IsDeclared count device
IsFit count found (Land device) = (found ≡ true) × IsDeclared count device
IsFit count found (Note device) = (found ≡ true) × IsDeclared count device
IsFit count found (Flush device) = (found ≡ true) × IsDeclared count device
IsFit count found (Drain device) = (found ≡ true) × IsDeclared count device
IsFit count found (Pull device) = (found ≡ true) × IsDeclared count device
IsFit count found (Fetch device) = (found ≡ true) × IsDeclared count device
IsFit count found (Settle device) = (found ≡ true) × IsDeclared count device
IsFit count found (Resolve device) = (found ≡ true) × IsDeclared count device
IsFit count found (Status device) = (found ≡ true) × IsDeclared count device
IsFit count found (Fuse device steps) = IsDeclared count device
IsFit count found (Lose device side) = (found ≡ true) × IsDeclared count device
IsFit count found (Power device pick) = (found ≡ true) × IsDeclared count device
IsFit count found Folder = found ≡ true
IsFit count found Verify = found ≡ true
IsFit count found (File device request) = (found ≡ true) × IsDeclared count device
IsFit count found (Look device show) = (found ≡ true) × IsDeclared count device

-- what a statement adds
abbrev pub declared_after : ℕ → Statement → ℕ
declared_after count (Device name size) = count + 1
declared_after count s = count

abbrev pub found_after : Bool → Statement → Bool
found_after found (Found device) = true
found_after found s = found

-- each fits behind those before it
abbrev pub AllFitFrom : ℕ → Bool → List Statement → Type 0
AllFitFrom count found [] = Unit {0}
AllFitFrom count found (s ∷ rest) = IsFit count found s × AllFitFrom (declared_after count s) (found_after found s) rest

abbrev pub AllFit : List Statement → Type 0
AllFit statements = AllFitFrom 0 false statements
