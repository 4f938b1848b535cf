-- The secrets that a seed gives.
use Rattle.std.specs.Prelude.{ℕ, List, [], ◌∷◌, ◌++◌, bit_xor}
use Rattle.std.specs.Int.{w16, w32, to_be_bytes}
use Rattle.kb_seal.specs.Hmac.{hmac}

-- a device's secret, a generation's folder key, and the half that the server keeps for both
abbrev pub device_secret : List ℕ → ℕ → List ℕ
device_secret seed d = hmac seed (0x10 ∷ to_be_bytes w16 d)

abbrev pub folder_key : List ℕ → ℕ → List ℕ
folder_key seed g = hmac seed (0x11 ∷ to_be_bytes w32 g)

abbrev pub server_half : List ℕ → ℕ → ℕ → List ℕ
server_half seed d g = hmac seed (0x12 ∷ (to_be_bytes w16 d ++ to_be_bytes w32 g))

-- one text laid over another, byte by byte
abbrev pub xored : List ℕ → List ℕ → List ℕ
xored [] ys = []
xored (x ∷ xs) [] = []
xored (x ∷ xs) (y ∷ ys) = bit_xor x y ∷ xored xs ys
