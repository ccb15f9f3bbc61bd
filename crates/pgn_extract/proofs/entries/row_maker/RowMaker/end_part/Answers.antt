use Rattle.pgn_extract.proofs.Common.{◌++◌, ℕ, Vec, Global, refl, ap, ◌∙◌}
use Rattle.pgn_extract.proofs.entries.row_maker.RowMaker.end_part.Goals as goal

pub returns : goal.returns
returns c =
    let items = λ (v : Vec ℕ Global). v.items in record {
      row = refl;
      line = refl;
      annotations = refl;
      part = record { before = c.replace-before.result; column = c.args.column };
      of_column = refl;
      before = ap items c.replace-before.ensures.value ∙ c.in_ok-extend_from_slice.ensures.items
          ∙ ap (λ q. c.args.self.now.last.items ++ q) c.quote_of-quote.ensures;
      parts = c.in_ok-push.ensures.items;
      after = ap items c.replace-before.ensures.after ∙ c.in_ok-after.ensures.items
          ∙ c.quote_of-quote.ensures;
    }
