use Rattle.std.proofs.Common.{subst}
use Rattle.pgn_extract.proofs.Common.{on_ok_weaker}
use Rattle.pgn_extract.specs.Public.Rows.{IsTagCell}
use Rattle.pgn_extract.proofs.entries.row_maker.put_tag.Goals as goal

pub returns : goal.returns
returns c =
    on_ok_weaker c.put_given.result
    (λ is text own. subst (λ contents. IsTagCell contents c.put_given.new.own.items)
    (c.tag.ensures.is text own) is) c.put_given.ensures
