use Rattle.pgn_text.proofs.Common.{length, sym, ap, ◌∙◌, items_of_kept, token_of}
use Rattle.pgn_text.specs.declared.lex.token.Token.{Token}
use Rattle.pgn_text.proofs.Located.{glyph_count}
use Rattle.pgn_text.proofs.error.locate.element_count.Goals as goal

pub returns-in-Marks : goal.returns-in-Marks
returns-in-Marks c = sym (glyph_count c.in-Marks.marks.now)
    ∙ ap (λ (t : Token). length (items_of_kept (token_of t))) (sym c.in-Marks.is)
