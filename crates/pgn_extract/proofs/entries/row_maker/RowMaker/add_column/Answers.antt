use Rattle.pgn_extract.proofs.Common.{◌≡◌, ◌++◌, ℕ, true, false, refl, sym, ap, ◌∙◌, subst}
use Rattle.pgn_extract.proofs.Common.{on_ok_weaker, tag_in, Vec, Global, GameText}
use Rattle.pgn_extract.specs.Public.Columns.{is_number_column, shows_annotations}
use Rattle.pgn_extract.specs.Public.Rows.{IsCell, IsTagCell, place_of}
use Rattle.pgn_extract.specs.Private.RowGames.{IsGameIn, name_of, openings_of}
use Rattle.pgn_extract.specs.Private.RowTexts.{AddsCell, key_text, value_text}
use Rattle.pgn_extract.specs.declared.entries.row_maker.PartColumn.TheVariants as kind
use Rattle.pgn_extract.specs.declared.entries.row_maker.RowMaker.{RowMaker}
use Rattle.pgn_extract.specs.declared.rows.column.Column.{Column}
use Rattle.pgn_extract.proofs.entries.RowMaking.{adds_known, adds_shown}
use Rattle.pgn_extract.proofs.entries.row_maker.RowMaker.add_column.Goals as goal

pub returns-in_ok-put_tag-in-Tag-clause-cell : goal.returns-in_ok-put_tag-in-Tag-clause-cell
returns-in_ok-put_tag-in-Tag-clause-cell c =
    let name = name_of c.args.game in
    let openings = openings_of c.args.game.source in
    let id = c.args.game.id in
    let line = c.args.game.line in
    let column = c.args.column.now in
    let format = c.args.self.now.row.now.format in
    let cell = c.put_tag.new.own.items in
    let mid = c.push_key.new.text.items in
    let key = key_text format column in
    let old = c.args.self.now in
    let new : Vec ℕ Global → RowMaker = λ last. record {
      alloc = old.alloc;
      row = old.row;
      line = old.line;
      annotations = old.annotations;
      parts = old.parts;
      last = last;
    } in
    let is : (text : GameText) → IsGameIn c.args.game.source text
    → IsTagCell (tag_in c.in-Tag.name.items text.tags) cell =
    λ text own. subst (λ n. IsTagCell (tag_in n text.tags) cell) c.deref.ensures.value
    (c.in_ok-put_tag-in-Tag.ensures text own) in
    on_ok_weaker c.push_value.result
    (λ pushed text own. adds_known old (new c.push_value.new.text) name openings id line text column
    cell mid refl
    c.in_ok-push_key.ensures
    (λ replay of ply. subst (λ (k : Column).
    IsCell k (place_of name openings id line text replay ply) cell) (sym c.in-Tag.is) (is text own))
    (value_text format false cell)
    (ap (λ n. key ++ value_text format n cell) (sym (ap is_number_column c.in-Tag.is)))
    (pushed ∙ ap (λ v. mid ++ value_text format false v) c.deref-in-Tag.ensures.value))
    c.push_value.ensures

pub returns-in_ok-put_game_value-in-OfGame-clause-cell :
    goal.returns-in_ok-put_game_value-in-OfGame-clause-cell
returns-in_ok-put_game_value-in-OfGame-clause-cell c =
    let name = name_of c.args.game in
    let openings = openings_of c.args.game.source in
    let id = c.args.game.id in
    let line = c.args.game.line in
    let column = c.args.column.now in
    let format = c.args.self.now.row.now.format in
    let cell = c.put_game_value.new.own.items in
    let mid = c.push_key.new.text.items in
    let key = key_text format column in
    let old = c.args.self.now in
    let new : Vec ℕ Global → RowMaker = λ last. record {
      alloc = old.alloc;
      row = old.row;
      line = old.line;
      annotations = old.annotations;
      parts = old.parts;
      last = last;
    } in
    on_ok_weaker c.push_value-in-OfGame.result
    (λ pushed text own. adds_known old (new c.push_value-in-OfGame.new.text) name openings id
    line text column cell mid refl
    c.in_ok-push_key.ensures
    (λ replay of ply. subst (λ (k : Column).
    IsCell k (place_of name openings id line text replay ply) cell) (sym c.in-OfGame.is)
    (c.in_ok-put_game_value-in-OfGame.ensures text own replay of ply))
    (value_text format c.is_number.result cell)
    (ap (λ n. key ++ value_text format n cell)
    (c.is_number.ensures ∙ sym (ap is_number_column c.in-OfGame.is)))
    (pushed ∙ ap (λ v. mid ++ value_text format c.is_number.result v)
    c.deref-in-OfGame.ensures.value))
    c.push_value-in-OfGame.ensures

pub returns-in-OfPly-clause-cell : goal.returns-in-OfPly-clause-cell
returns-in-OfPly-clause-cell c =
    let name = name_of c.args.game in
    let openings = openings_of c.args.game.source in
    let id = c.args.game.id in
    let line = c.args.game.line in
    let old = c.args.self.now in
    let mid : RowMaker = record {
      alloc = old.alloc;
      row = old.row;
      line = old.line;
      annotations = old.annotations;
      parts = old.parts;
      last = c.push_key.new.text;
    } in
    on_ok_weaker c.end_part.result
    (λ ends text own. subst (λ (k : Column).
    AddsCell old c.end_part.new.self name openings id line text k)
    (sym c.in-OfPly.is)
    (adds_shown old mid c.end_part.new.self name openings id line text (kind.OfPly c.in-OfPly.shown)
    refl refl
    (c.in_ok-push_key.ensures
    ∙ ap (λ (k : Column). old.last.items ++ key_text old.row.now.format k) c.in-OfPly.is)
    ends (λ none. absurd (cc))))
    c.end_part.ensures

pub returns-in-OfAnnotations-clause-cell : goal.returns-in-OfAnnotations-clause-cell
returns-in-OfAnnotations-clause-cell c =
    let name = name_of c.args.game in
    let openings = openings_of c.args.game.source in
    let id = c.args.game.id in
    let line = c.args.game.line in
    let old = c.args.self.now in
    let mid : RowMaker = record {
      alloc = old.alloc;
      row = old.row;
      line = old.line;
      annotations = old.annotations;
      parts = old.parts;
      last = c.push_key.new.text;
    } in
    let shows : shows_annotations c.args.column.now ≡ true =
    ap shows_annotations c.in-OfAnnotations.is in
    on_ok_weaker c.end_part-in-OfAnnotations.result
    (λ ends text own. subst (λ (k : Column).
    AddsCell old c.end_part-in-OfAnnotations.new.self name openings id line text k)
    (sym c.in-OfAnnotations.is)
    (adds_shown old mid c.end_part-in-OfAnnotations.new.self name openings id line text
    (kind.OfAnnotations c.in-OfAnnotations.shown) refl refl
    (c.in_ok-push_key.ensures
    ∙ ap (λ (k : Column). old.last.items ++ key_text old.row.now.format k) c.in-OfAnnotations.is)
    ends (λ _. c.requires.annotations shows text own)))
    c.end_part-in-OfAnnotations.ensures
