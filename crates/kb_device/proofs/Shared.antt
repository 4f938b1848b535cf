-- The blocks of a device's cache that the folder has too.
use Rattle.std.proofs.Common.{◌≡◌, ℕ, Bool, true, false, cond, List, [], ◌∷◌, Option, Some, None, Ok, refl, sym, ap, subst, ◌∙◌}
use Rattle.std.specs.Str.{bytes_eq}
use Rattle.std.specs.List.{AllByRecursion}
use Rattle.std.specs.FinMap.{get}
use Rattle.kb_rules.proofs.Basics.{bytes_same, bytes_self}
use Rattle.kb_ops.specs.Rows.{Look}
use Rattle.kb_blocks.specs.Stores as stores
use Rattle.kb_files.specs.Opens.{Blocks, Keys, Opens}
use Rattle.kb_files.proofs.Kept.{all_stored}
use Rattle.kb_files.proofs.Vaults.{opens_kept}
use Rattle.kb_snap.specs.Pointers.{Kept, AllHold}
use Rattle.kb_snap.proofs.Kept.{row_within}
use Rattle.kb_ranges.specs.Patches.{StaysIn}
use Rattle.kb_device.specs.Caches.{Cache, agreed, known_in, AreIn, HasAll, Takes}

agreed_here : (a b : Option (List ℕ)) (x : List ℕ) → a ≡ Some x → b ≡ Some x → agreed a b ≡ Some x
agreed_here a b x here there = subst (λ o. agreed o b ≡ Some x) (sym here) (subst (λ o. agreed (Some x) o ≡ Some x) (sym there) (ap (λ c. cond c (Some x) None) (bytes_self x)))

agreed_first : (a b : Option (List ℕ)) (x : List ℕ) → agreed a b ≡ Some x → a ≡ Some x
agreed_first None o x e = cc
agreed_first (Some a) None x e = cc
agreed_first (Some a) (Some b) x e = by (bytes_eq a b) e where
  by : (c : Bool) → cond c (Some a) None ≡ Some x → Some a ≡ Some x
  by true h = h
  by false h = cc

agreed_second : (a b : Option (List ℕ)) (x : List ℕ) → agreed a b ≡ Some x → b ≡ Some x
agreed_second None o x e = cc
agreed_second (Some a) None x e = cc
agreed_second (Some a) (Some b) x e = by (bytes_eq a b) refl e where
  by : (c : Bool) → bytes_eq a b ≡ c → cond c (Some a) None ≡ Some x → Some b ≡ Some x
  by true same h = ap Some (sym (bytes_same a b same)) ∙ h
  by false other h = cc

-- what both have is known
pub known_both : (m : stores.Blocks) (blocks : Blocks) (few : Blocks) → StaysIn few (get m) → StaysIn few blocks → StaysIn few (known_in (Some m) blocks)
known_both m blocks few mine theirs id b at = agreed_here (get m id) (blocks id) b (mine id b at) (theirs id b at)

-- what is known is the folder's, and the cache's
pub known_there : (cache : Cache) (blocks : Blocks) → StaysIn (known_in cache blocks) blocks
known_there None blocks id b at = at
known_there (Some m) blocks id b at = agreed_second (get m id) (blocks id) b at

pub known_here : (m : stores.Blocks) (blocks : Blocks) → StaysIn (known_in (Some m) blocks) (get m)
known_here m blocks id b at = agreed_first (get m id) (blocks id) b at

pub known_cached : (cache : Cache) (blocks : Blocks) → AreIn cache (known_in cache blocks)
known_cached None blocks = tt
known_cached (Some m) blocks = known_here m blocks

-- it stays while the folder grows, and while the cache takes more
pub known_longer : (cache : Cache) (old new : Blocks) → StaysIn old new → StaysIn (known_in cache old) (known_in cache new)
known_longer None old new stays id b at = stays id b at
known_longer (Some m) old new stays id b at = known_both m new (known_in (Some m) old) (known_here m old) (λ q v is. stays q v (known_there (Some m) old q v is)) id b at

pub known_taken : (hashed : List ℕ → List ℕ) (was cache : Cache) (made : List (List ℕ)) (blocks : Blocks) → Takes hashed was made cache → StaysIn (known_in was blocks) (known_in cache blocks)
known_taken hashed None cache made blocks takes id b at = ap (λ (c : Cache). known_in c blocks id) takes ∙ at
known_taken hashed (Some m) (Some n) made blocks takes id b at = known_both n blocks (known_in (Some m) blocks) (λ q v is. takes.0 q v (known_here m blocks q v is)) (known_there (Some m) blocks) id b at
known_taken hashed (Some m) None made blocks takes id b at = known_there (Some m) blocks id b at

pub takes_all : (hashed : List ℕ → List ℕ) (was cache : Cache) (made : List (List ℕ)) → Takes hashed was made cache → HasAll hashed cache made
takes_all hashed None cache made takes = subst (λ (c : Cache). HasAll hashed c made) (sym takes) tt
takes_all hashed (Some m) (Some n) made takes = takes.1
takes_all hashed (Some m) None made takes = tt

-- what a store took, its cache took
pub takes_some : (hashed : List ℕ → List ℕ) (was : Cache) (m new : stores.Blocks) (made : List (List ℕ)) → was ≡ Some m → stores.PutsAll hashed {X = Unit {0}} m new made (Ok tt) → stores.Keeps m new → Takes hashed was made (Some new)
takes_some hashed was m new made first puts keeps = subst (λ (c : Cache). Takes hashed c made (Some new)) (sym first)
    ((λ id b at. keeps id b at), subst (λ (n : stores.Blocks). AllByRecursion (λ b. get n (hashed b) ≡ Some b) made) (sym puts.1) (all_stored hashed m [] made puts.0))

pub takes_of : (hashed : List ℕ → List ℕ) (was cache : Cache) (a b : List (List ℕ)) → a ≡ b → Takes hashed was a cache → Takes hashed was b cache
takes_of hashed was cache a b e takes = subst (λ made. Takes hashed was made cache) e takes

-- blocks that both have
pub known_all : (hashed : List ℕ → List ℕ) (cache : Cache) (blocks : Blocks) (made : List (List ℕ)) → HasAll hashed cache made → AllByRecursion (λ b. blocks (hashed b) ≡ Some b) made → AllByRecursion (λ b. known_in cache blocks (hashed b) ≡ Some b) made
known_all hashed None blocks made mine theirs = theirs
known_all hashed (Some m) blocks [] mine theirs = tt
known_all hashed (Some m) blocks (b ∷ made) mine theirs = (agreed_here (get m (hashed b)) (blocks (hashed b)) b mine.0 theirs.0, known_all hashed (Some m) blocks made mine.1 theirs.1)

-- pointers that hold rows in fewer blocks
pub all_within : (sealed : List ℕ → List ℕ → List ℕ) (hashed : List ℕ → List ℕ) (few more : Blocks) (keys : Keys) (l : Look) (kept : Kept) → StaysIn few more → AllHold (Opens sealed hashed few keys) l kept → AllHold (Opens sealed hashed more keys) l kept
all_within sealed hashed few more keys l kept stays all q x at = row_within (Opens sealed hashed few keys) (Opens sealed hashed more keys) (opens_kept sealed hashed few more keys stays) l q x (all q x at)
