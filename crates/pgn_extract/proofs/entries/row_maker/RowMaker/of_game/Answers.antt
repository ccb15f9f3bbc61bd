use Rattle.std.specs.List.{list_any}
use Rattle.std.proofs.lemmas.List.Folds.{list_any_at}
use Rattle.pgn_extract.proofs.Common.{◌≡◌, ◌<◌, ◌+◌, ◌++◌, ◌∷◌, [], List, Bool, GameText}
use Rattle.pgn_extract.proofs.Common.{length, refl, ℕ, true, Option}
use Rattle.pgn_extract.specs.Public.Aims.{LineId}
use Rattle.pgn_extract.proofs.Common.{sym, ap, ◌∙◌, subst, arith, nat_tests, get_or, take}
use Rattle.pgn_extract.proofs.Common.{take-length, if◌then◌else◌}
use Rattle.pgn_text.specs.Public.Games.{Item}
use Rattle.pgn_extract.specs.Public.Columns.{shows_annotations}
use Rattle.pgn_extract.specs.Private.AnnotationLists.{lists_in}
use Rattle.pgn_extract.specs.Private.RowGames.{IsGameIn, name_of, openings_of}
use Rattle.pgn_extract.specs.Private.RowTexts.{MakesCells, MakesRow, gap}
use Rattle.pgn_extract.specs.declared.entries.row_maker.RowMaker.{RowMaker}
use Rattle.pgn_extract.specs.declared.rows.column.Column.{Column}
use Rattle.pgn_extract.specs.declared.rows.column.Row.{Row}
use Rattle.pgn_extract.proofs.entries.RowMaking.{makes_more, makes_all, gap_is, part_taken}
use Rattle.pgn_extract.proofs.entries.row_maker.RowMaker.of_game.Goals as goal

-- a row that has the column shows annotations where the column does
shows_some : (columns : List Column) (i : ℕ) (column : Column) → i < length columns
    → column ≡ get_or columns i column → shows_annotations column ≡ true
    → list_any shows_annotations columns ≡ true
shows_some columns i column within is shows =
    list_any_at shows_annotations columns i column within (ap shows_annotations (sym is) ∙ shows)

pub add_column-requires : goal.add_column-requires
add_column-requires c =
    let inv = c.loop-column.invariant in
    let all = c.args.row.now.columns.items in
    let i = c.loop-column.column-index in
    let column = c.column-item.result in
    let slice = c.deref-column-items.ensures.value in
    let size_is : length c.deref-column-items.result.now ≡ length all = ap length slice in
    let within : i < length all = omega arith in record {
      annotations = λ shows text own. inv.known (shows_some all i column within
          (c.column-item.is ∙ ap (λ (ks : List Column). get_or ks i column) slice) shows) text own;
    }

pub loop-column-preserved : goal.loop-column-preserved
loop-column-preserved c =
    let inv = c.loop-column.invariant in
    let row = c.args.row.now in
    let all = row.columns.items in
    let i = c.loop-column.column-index in
    let column = c.column-item.result in
    let slice = c.deref-column-items.ensures.value in
    let size_is : length c.deref-column-items.result.now ≡ length all = ap length slice in
    let within : i < length all = omega arith in
    let old = c.loop-column.maker in
    let mid : RowMaker = record {
      alloc = old.alloc;
      row = old.row;
      line = old.line;
      annotations = old.annotations;
      parts = old.parts;
      last = c.push_gap.new.text;
    } in
    let next : take (i + 1) all ≡ take i all ++ column ∷ [] =
    part_taken all i column within
    (c.column-item.is ∙ ap (λ (ks : List Column). get_or ks i column) slice) in
    let name = name_of c.args.game in
    let openings = openings_of c.args.game.source in
    let id = c.args.game.id in
    let line = c.args.game.line in
    let new = c.add_column.new.self in
    let lists = lists_in new.annotations in
    let same : new.annotations ≡ old.annotations = c.in_ok-add_column.ensures.annotations in
    let so_far : (text : GameText) → IsGameIn c.args.game.source text
    → MakesCells row.format lists (take i all) old.parts.items old.last.items name openings id
    line text =
    λ text own. subst (λ (ls : List (List Item)). MakesCells row.format ls (take i all)
    old.parts.items old.last.items name openings id line text) (ap lists_in (sym same))
    (inv.made text own) in
    record {
      row = c.in_ok-add_column.ensures.row ∙ inv.row;
      line = c.in_ok-add_column.ensures.line ∙ inv.line;
      known = λ shows text own. ap lists_in same ∙ inv.known shows text own;
      first = grind (arith, nat_tests);
      made = λ text own. subst (λ (ks : List Column).
          MakesCells row.format lists ks new.parts.items new.last.items name openings id line text)
          (sym next)
          (makes_more row.format lists old.parts.items old.last.items mid new (take i all) column
          name openings id line text (so_far text own) (ap (λ (r : Row). r.format) inv.row)
          (ap lists_in (sym same)) refl
          (c.in_ok-push_gap.ensures
          ∙ ap (λ (t : Bool). old.last.items ++ (if t then [] else gap row.format)) inv.first
          ∙ ap (λ t. old.last.items ++ t) (gap_is row.format all i within))
          (c.in_ok-add_column.ensures.cell text own));
    }

pub returns : goal.returns
returns c =
    let inv = c.loop-column.invariant in
    let row = c.args.row.now in
    let all = row.columns.items in
    let i = c.loop-column.column-index in
    let size_is : length c.deref-column-items.result.now ≡ length all =
    ap length c.deref-column-items.ensures.value in
    let count : i ≡ length all = omega arith in
    let whole : take i all ≡ all = ap (λ n. take n all) count ∙ take-length all in
    let parts = c.loop-column.maker.parts.items in
    let last = c.loop-column.maker.last.items in
    let text = c.extend_from_slice.new.self.items in
    let name = name_of c.args.game in
    let openings = openings_of c.args.game.source in
    let id = c.args.game.id in
    let line = c.args.game.line in
    let ends = c.in_ok-extend_from_slice.ensures.items ∙ ap (λ b. last ++ b) c.back.ensures in
    let lists = lists_in c.loop-column.maker.annotations in
    let made : (game : GameText) → IsGameIn c.args.game.source game
    → MakesRow row.format lists all parts text name openings id line game =
    λ game own. makes_all row.format lists all parts last text name openings id line game
    (subst (λ (ks : List Column).
    MakesCells row.format lists ks parts last name openings id line game)
    whole
    (inv.made game own))
    ends in (
      inv.row,
      inv.line,
      λ game own. subst (λ (n : Option LineId).
          MakesRow c.loop-column.maker.row.now.format lists
          c.loop-column.maker.row.now.columns.items parts text name openings id n game)
          (sym inv.line)
          (subst (λ (r : Row).
          MakesRow r.format lists r.columns.items parts text name openings id line game)
          (sym inv.row) (made game own)),
    )
