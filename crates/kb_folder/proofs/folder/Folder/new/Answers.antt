use Rattle.std.proofs.Common.{ap, map, reverse, Vec, ℕ, Global}
use Rattle.kb_folder.proofs.Beginning.{empty_sound}
use Rattle.kb_folder.proofs.folder.Folder.new.Goals as goal

pub invariant_of-result : goal.invariant_of-result
invariant_of-result g c = record { sound = empty_sound c.args.limit _ c.new-4.result c.new-3.result.0 c.new-2.result.items c.new.result (ap (λ xs. reverse (map (λ (b : Vec ℕ Global). b.items) xs)) c.new-5.ensures.items) c.new-4.ensures c.new-2.ensures.items c.new.ensures c.requires.0 c.requires.1 }
