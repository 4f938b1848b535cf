use Rattle.std.proofs.Common.{◌≡◌, reverse}
use Rattle.kb_script.specs.Seen.{known}
use Rattle.kb_script.specs.Earlier.{known_of, AllFitBack}
use Rattle.kb_script.proofs.LinesRead.{lines_in}
use Rattle.kb_script.proofs.ScriptsRead.{IsRead}
use Rattle.kb_script.proofs.scripts.read_parts.Given as goal

abbrev pub invariant-loop-i : goal.invariant-loop-i
invariant-loop-i l = record {
  seen : known l.seen ≡ known_of (reverse l.statements.items);
  fit : AllFitBack (reverse l.statements.items);
  read : IsRead l.live (lines_in l.ended l.last) l.i l.statements.items;
}
