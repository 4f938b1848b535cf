-- Pieces that are written one after the other.
use Rattle.std.proofs.Common.{◌≡◌, ℕ, ◌+◌, ◌-◌, ◌*◌, ◌≤◌, ◌<◌, List, [], ◌∷◌, ◌++◌, length, get_or, drop, refl, ap, subst, arith, length-append}
use Rattle.std.specs.Prelude.{slice_range}
use Rattle.std.specs.Int.{w32, to_be_bytes}
use Rattle.std.proofs.lemmas.List.{drop_more, length-take, length-drop}
use Rattle.std.proofs.lemmas.List.Sums.{sum_by-cons}
use Rattle.kb_log.specs.LogList.{used_of}
use Rattle.kb_log.specs.Pieces.{pieces, AreEnds, open_record, records_text}

pub ends_within : (from : ℕ) (bytes ends : List ℕ) → AreEnds from bytes ends → from ≤ length bytes
ends_within from bytes [] are = omega arith
ends_within from bytes (to ∷ ends) are = omega (arith, ends_within to bytes ends are.1)

pub ends_at : (from i : ℕ) (bytes ends : List ℕ) → i < length ends → AreEnds from bytes (drop i ends) → (from ≤ get_or ends i 0) × AreEnds (get_or ends i 0) bytes (drop (i + 1) ends)
ends_at from i bytes ends lt are = subst (λ (l : List ℕ). AreEnds from bytes l) (drop_more ends i 0 lt) are

pub pieces_at : (from i : ℕ) (bytes ends : List ℕ) → i < length ends → pieces from bytes (drop i ends) ≡ slice_range bytes from (get_or ends i 0) ∷ pieces (get_or ends i 0) bytes (drop (i + 1) ends)
pieces_at from i bytes ends lt = ap (λ (l : List ℕ). pieces from bytes l) (drop_more ends i 0 lt)

pub length-piece : (bytes : List ℕ) (from to : ℕ) → from ≤ to → to ≤ length bytes → length (slice_range bytes from to) ≡ to - from
length-piece bytes from to a b = omega (arith, length-take (to - from) (drop from bytes), length-drop from bytes)

pub length-open_record : (p : List ℕ) → length (open_record p) ≡ length p + 5
unfolding open_record
length-open_record p = omega (arith, length-append (to_be_bytes w32 (length p)) p)

pub used_cons : (p : List ℕ) (ps : List (List ℕ)) → used_of (p ∷ ps) ≡ 5 + length p + used_of ps
used_cons p ps = omega (arith, sum_by-cons (λ q. 5 + length q) p ps)

pub length-records_text : (ps : List (List ℕ)) → length (records_text ps) ≡ used_of ps
length-records_text [] = refl
length-records_text (p ∷ ps) = omega (arith, length-append (open_record p) (records_text ps), length-open_record p, length-records_text ps, used_cons p ps)

-- what stands already and what is left take as much as all
pub still_used : (text : List ℕ) (rest all : List (List ℕ)) → text ++ records_text rest ≡ records_text all → length text + used_of rest ≡ used_of all
still_used text rest all e = omega (arith, ap length e, length-append text (records_text rest), length-records_text rest, length-records_text all)

-- what all pieces take
pub used_total : (from : ℕ) (bytes ends : List ℕ) → AreEnds from bytes ends → used_of (pieces from bytes ends) + from ≡ length bytes + 5 * length ends + 1
used_total from bytes [] are = omega (arith, are)
used_total from bytes (to ∷ ends) are =
    omega (arith, are.0, used_cons (slice_range bytes from to) (pieces to bytes ends), length-piece bytes from to are.0 (ends_within to bytes ends are.1), used_total to bytes ends are.1)
