use Rattle.std.proofs.Common.{◌≡◌, ◌++◌, ◌∷◌, take}
use Rattle.std.specs.List.{flat_map}
use Rattle.std.specs.String.{string_bytes}
use Rattle.kb_name.specs.Texts.{escaped}
use Rattle.kb_lines.proofs.pieces.push_path.Given as goal

abbrev pub invariant-loop-name : goal.invariant-loop-name
invariant-loop-name l = string_bytes l.text ≡ string_bytes l.initial.text ++ flat_map (λ name. 47 ∷ escaped name) (take l.name-index l.names)
