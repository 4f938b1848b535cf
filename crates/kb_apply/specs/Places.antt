-- What a place in the code stands for.
use Rattle.std.specs.Prelude.{List, ℕ, [], Option, Result, Ok, Err}
use Rattle.std.specs.Option.{option_map_or}
use Rattle.std.specs.Borrow.{Bor}
use Rattle.kb_name.specs.declared.paths.PathFault.{PathFault}
use Rattle.kb_name.specs.declared.paths.PathFault.TheVariants.{TooDeep}
use Rattle.kb_ops.specs.Plan as plan
use Rattle.kb_apply.specs.declared.plans.Place.{Place}

-- the name of a place, which the root has none of
abbrev pub name_of : Option (Bor (List ℕ)) → List ℕ
name_of name = option_map_or (λ n. n.now) name []

abbrev pub place_of : Place → plan.Place
place_of p = record { parent = p.parent; name = name_of p.name; target = p.target }

-- what a call answers, where f says what its value stands for
abbrev pub answer : {X A E : Type 0} → (X → A) → Result X E → Result A E
answer f (Ok x) = Ok (f x)
answer f (Err e) = Err e

-- of two calls that read a word each, BadPath of either comes before TooDeep of either; want of memory may hide a BadPath
abbrev pub least : {A B : Type 0} → Result A PathFault → Result B PathFault → Result (A × B) PathFault
least (Ok a) (Ok b) = Ok (a, b)
least (Ok a) (Err f) = Err f
least (Err e) (Ok b) = Err e
least (Err TooDeep) (Err f) = Err f
least (Err e) (Err f) = Err e
