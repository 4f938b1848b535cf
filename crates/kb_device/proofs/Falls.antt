-- How the steps that a disk has left fall by one call and then by another.
use Rattle.std.proofs.Common.{ℕ, ◌+◌, ◌≤◌, Option, None, Some, refl, arith}
use Rattle.kb_edge.specs.Disk.{FallsBy}
use Rattle.kb_log.specs.Steps.{RanOut}

-- a number that falls by so many and then by so many more
pub falls_both : (m n : ℕ) (a b c : Option ℕ) → FallsBy m a b → FallsBy n b c → FallsBy (m + n) a c
falls_both m n None None None f g = refl
falls_both m n None None (Some z) f g = cc
falls_both m n None (Some y) c f g = cc
falls_both m n (Some x) None c f g = absurd f
falls_both m n (Some x) (Some y) None f g = absurd g
falls_both m n (Some x) (Some y) (Some z) f g = (omega (arith, f.0, f.1, g.0, g.1), omega (arith, f.0, f.1, g.0, g.1))

pub falls_more : (m n : ℕ) (a b : Option ℕ) → m ≤ n → FallsBy m a b → FallsBy n a b
falls_more m n None b le f = f
falls_more m n (Some x) None le f = absurd f
falls_more m n (Some x) (Some y) le f = (f.0, omega (arith, f.1))

-- a number that falls by so many, and then runs out
pub runs_out : (m n : ℕ) (a b c : Option ℕ) → FallsBy m a b → RanOut n b c → RanOut (m + n) a c
runs_out m n None None c f g = absurd g.0
runs_out m n None (Some y) c f g = cc
runs_out m n (Some x) None c f g = absurd g.0
runs_out m n (Some x) (Some y) c f g = (omega (arith, f.1, g.0), g.1)

pub out_more : (m n : ℕ) (a b : Option ℕ) → m ≤ n → RanOut m a b → RanOut n a b
out_more m n None b le g = absurd g.0
out_more m n (Some x) b le g = (omega (arith, g.0), g.1)
