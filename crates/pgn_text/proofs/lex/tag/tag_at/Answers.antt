use Rattle.pgn_text.proofs.lex.TagReads.{whole_tag}
use Rattle.pgn_text.proofs.lex.tag.tag_at.Goals as goal

pub returns-clause-found : goal.returns-clause-found
returns-clause-found c =
    whole_tag (record {
      first = c.run_end-start.ensures;
      name = c.run_end-end.ensures;
      some =
          c.if-start-end.false;
      second = c.run_end-opening.ensures;
    })
    c.if-not-stands.ensures.1 c.in-Some.ensures c.if-not-stands-2.ensures.1 c.run_end-last.ensures
    c.if-not-stands-3.ensures.1
