use Rattle.std.proofs.Common.{◌≡◌, ℕ, zero, suc, ◌+◌, ◌-◌, true, false, List, [], ◌∷◌, ◌++◌, length, get_or, Some, None, is_some, refl, sym, ap, ◌∙◌, arith}
use Rattle.kb_rules.specs.Hosting.{Joins, path_of}
use Rattle.kb_rules.proofs.Basics.{when, unless}
use Rattle.kb_rules.proofs.joins.path.Goals as goal

-- a list with nothing behind it, and with one more
none_behind : (xs : List ℕ) → xs ++ [] ≡ xs
none_behind [] = refl
none_behind (x ∷ xs) = ap (λ l. x ∷ l) (none_behind xs)

one_behind : (xs : List ℕ) (x : ℕ) (ys : List ℕ) → (xs ++ x ∷ []) ++ ys ≡ xs ++ (x ∷ ys)
one_behind [] x ys = refl
one_behind (z ∷ xs) x ys = ap (λ l. z ∷ l) (one_behind xs x ys)

ended : (ups : List ℕ) (known : Joins) (n at : ℕ) (path whole : List ℕ) → is_some (get_or known at (Some None)) ≡ true → path ++ path_of ups known n at ≡ whole → path ≡ whole
ended ups known zero at path whole e h = sym (none_behind path) ∙ h
ended ups known (suc n) at path whole e h = sym (none_behind path) ∙ ap (λ l. path ++ l) (sym (when _ [] (at ∷ path_of ups known n (get_or ups at (length ups))) e)) ∙ h

longer : (ups : List ℕ) (known : Joins) (n at next : ℕ) (path whole : List ℕ) → is_some (get_or known at (Some None)) ≡ false → next ≡ get_or ups at (length ups) → path ++ path_of ups known (suc n) at ≡ whole → (path ++ at ∷ []) ++ path_of ups known n next ≡ whole
longer ups known n at next path whole e up h =
    one_behind path at (path_of ups known n next)
    ∙ ap (λ j. path ++ (at ∷ path_of ups known n j)) up
    ∙ ap (λ l. path ++ l) (sym (unless _ [] (at ∷ path_of ups known n (get_or ups at (length ups))) e)) ∙ h

pub loop-init : goal.loop-init
loop-init c = λ n e. let z : n ≡ length c.args.ups.now = omega (arith, e) in ap (λ xs. xs ++ path_of c.args.ups.now c.args.known.now n c.args.from) c.new-path.ensures.items ∙ ap (λ k. path_of c.args.ups.now c.args.known.now k c.args.from) z

pub returns-then-is_known : goal.returns-then-is_known
returns-then-is_known c =
    let n = length c.args.ups.now - c.loop.counter in
    let left : n + c.loop.counter ≡ length c.args.ups.now = omega arith in
    ended c.args.ups.now c.args.known.now n c.loop.at c.loop.path.items _ (sym c.is_known.ensures ∙ c.if-is_known.true) (c.loop.invariant n left)

pub loop-preserved : goal.loop-preserved
loop-preserved c = λ n e.
    let left : suc n + c.loop.counter ≡ length c.args.ups.now = omega (arith, e) in
    ap (λ xs. xs ++ path_of c.args.ups.now c.args.known.now n c.next-at.result) c.in_ok-push.ensures.items
    ∙ longer c.args.ups.now c.args.known.now n c.loop.at c.next-at.result c.loop.path.items _ (sym c.is_known.ensures ∙ c.if-is_known.false) c.next-at.ensures (c.loop.invariant (suc n) left)

pub returns : goal.returns
returns c = let left : zero + c.loop.counter ≡ length c.args.ups.now = omega arith in sym (none_behind c.loop.path.items) ∙ c.loop.invariant zero left
