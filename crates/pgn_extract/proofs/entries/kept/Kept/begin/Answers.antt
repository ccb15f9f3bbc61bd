use Rattle.pgn_extract.proofs.Common.{Some, sym, ap, ◌∙◌, arith}
use Rattle.pgn_extract.proofs.MoveCells.{first_position}
use Rattle.pgn_extract.proofs.entries.kept.Kept.begin.Goals as goal

pub returns-clause-reached : goal.returns-clause-reached
returns-clause-reached c = record {
  legal = c.requires.legal;
  sized = c.requires.sized;
  within = let size = c.requires.sized in omega (arith, size);
  first = c.requires.first;
  here = λ past. first_position c.args.start c.args.played.items
      ∙ ap Some (sym c.copy-here.ensures);
  last = λ n is. absurd (omega (arith, is));
}
