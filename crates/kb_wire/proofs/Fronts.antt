-- What stands in front of a text is one thing, so the field that was written is the field that is read.
use Rattle.std.proofs.Common.{◌≡◌, ℕ, ◌^◌, ◌<◌, List, ◌++◌, length, take, drop, Result, Ok, Err, refl, sym, ap, ◌∙◌, arith}
use Rattle.std.specs.Prelude.{IsOkAnd}
use Rattle.std.specs.Int.{w16, w32, w64, from_be_bytes}
use Rattle.std.proofs.lemmas.List.{take_at, drop_at, length-append}
use Rattle.std.proofs.lemmas.Nat.{from_be_bytes-to_be_bytes_2, from_be_bytes-to_be_bytes_4, from_be_bytes-to_be_bytes_8}
use Rattle.kb_wire.specs.declared.reader.WireFault.{WireFault}
use Rattle.kb_wire.specs.declared.reader.WireFault.TheVariants.{Short, BadText}
use Rattle.kb_wire.specs.Fields.{u16_text, u32_text, u64_text}
use Rattle.kb_wire.specs.Reads.{Reads}

-- two fields of one length in front of one text are one field
pub same_front : (a b x y : List ℕ) → length a ≡ length b → a ++ x ≡ b ++ y → a ≡ b
same_front a b x y len e = sym (take_at a x (length b) len) ∙ ap (take (length b)) e ∙ take_at b y (length b) refl

-- and the same is left behind them
pub same_rest : (a b x y : List ℕ) → length a ≡ length b → a ++ x ≡ b ++ y → x ≡ y
same_rest a b x y len e = sym (drop_at a x (length b) len) ∙ ap (drop (length b)) e ∙ drop_at b y (length b) refl

-- two numbers with one spelling are one number
pub same_u16 : (m n : ℕ) → m < 2 ^ 16 → n < 2 ^ 16 → u16_text m ≡ u16_text n → m ≡ n
same_u16 m n m_fits n_fits e = sym (from_be_bytes-to_be_bytes_2 m m_fits) ∙ ap (from_be_bytes w16) e ∙ from_be_bytes-to_be_bytes_2 n n_fits

pub same_u32 : (m n : ℕ) → m < 2 ^ 32 → n < 2 ^ 32 → u32_text m ≡ u32_text n → m ≡ n
same_u32 m n m_fits n_fits e = sym (from_be_bytes-to_be_bytes_4 m m_fits) ∙ ap (from_be_bytes w32) e ∙ from_be_bytes-to_be_bytes_4 n n_fits

pub same_u64 : (m n : ℕ) → m < 2 ^ 64 → n < 2 ^ 64 → u64_text m ≡ u64_text n → m ≡ n
same_u64 m n m_fits n_fits e = sym (from_be_bytes-to_be_bytes_8 m m_fits) ∙ ap (from_be_bytes w64) e ∙ from_be_bytes-to_be_bytes_8 n n_fits

-- a field that stands in front is the one that is read, and what stands behind it is left
pub Reads-again : {X : Type 0} (text : X → List ℕ) (n : ℕ) (field rest new : List ℕ) (r : Result X WireFault) → length field ≡ n → Reads text n (field ++ rest) new r
    → IsOkAnd r (λ x. (text x ≡ field) × (new ≡ rest))
Reads-again text n field rest new (Ok x) len read =
    let lens : length field ≡ length (text x) = len ∙ sym read.0 in
    (sym (same_front field (text x) rest new lens read.1), sym (same_rest field (text x) rest new lens read.1))
Reads-again text n field rest new (Err Short) len read = absurd (omega (arith, read.0, length-append field rest))
Reads-again text n field rest new (Err BadText) len read = absurd read
