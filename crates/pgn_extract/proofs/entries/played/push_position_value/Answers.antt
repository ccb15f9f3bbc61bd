use Rattle.pgn_extract.proofs.Common.{◌++◌, decimal, refl, sym, ap, ◌∙◌, subst, on_ok_weaker}
use Rattle.pgn_extract.specs.Public.Rows.{IsPositionCell}
use Rattle.pgn_extract.specs.declared.rows.column.PositionColumn.{PositionColumn}
use Rattle.pgn_extract.specs.declared.rows.column.PositionColumn.TheVariants.{Fen, Men, Check}
use Rattle.pgn_extract.specs.declared.rows.column.PositionColumn.TheVariants.{Material}
use Rattle.pgn_extract.specs.Public.PositionCells.{material_text}
use Rattle.pgn_game.proofs.StartTexts.{on_ok_if}
use Rattle.pgn_extract.proofs.entries.PlainCells.{position_plain}
use Rattle.pgn_extract.proofs.entries.PlainTexts.{decimal_plain}
use Rattle.pgn_extract.proofs.entries.played.push_position_value.Goals as goal

pub returns-in_ok-extend_from_slice-in-Fen : goal.returns-in_ok-extend_from_slice-in-Fen
returns-in_ok-extend_from_slice-in-Fen c =
    let P = c.args.position.now in
    let old = c.args.text.now.items in
    let text = c.fen.result.bytes in
    let written = c.as_bytes.ensures.value ∙ c.deref.ensures.0 in (
      text,
      position_plain Fen P text c.invariant.ensures c.fen.ensures,
      subst (λ (k : PositionColumn). IsPositionCell k P text) (sym c.in-Fen.is) c.fen.ensures,
      c.in_ok-extend_from_slice-in-Fen.ensures.items ∙ ap (λ t. old ++ t) written,
    )

pub returns-in-Number : goal.returns-in-Number
returns-in-Number c =
    let P = c.args.position.now in
    let old = c.args.text.now.items in
    on_ok_weaker c.push_number.result
    (λ items. (
      decimal P.fullmove_number,
      decimal_plain P.fullmove_number,
      subst (λ (k : PositionColumn). IsPositionCell k P (decimal P.fullmove_number))
          (sym c.in-Number.is) refl,
      items ∙ ap (λ n. old ++ decimal n) c.number.ensures,
    ))
    c.push_number.ensures

pub returns-in-Men : goal.returns-in-Men
returns-in-Men c =
    let P = c.args.position.now in
    on_ok_weaker c.push_men.result
    (λ (men, is, items). (
      men,
      position_plain Men P men c.invariant.ensures is,
      subst (λ (k : PositionColumn). IsPositionCell k P men) (sym c.in-Men.is) is,
      items,
    ))
    c.push_men.ensures

pub returns-in-Check : goal.returns-in-Check
returns-in-Check c =
    let P = c.args.position.now in
    let sign = c.check_sign.result.now in
    let is = c.check_sign.ensures in
    on_ok_weaker c.extend_from_slice-in-Check.result
    (λ items. (
      sign,
      position_plain Check P sign c.invariant.ensures is,
      subst (λ (k : PositionColumn). IsPositionCell k P sign) (sym c.in-Check.is) is,
      items,
    ))
    (on_ok_if c.extend_from_slice-in-Check.result c.extend_from_slice-in-Check.new.self.items
    (c.args.text.now.items ++ sign) c.args.text.now.items
    c.extend_from_slice-in-Check.ensures.items)

pub returns-in-Material : goal.returns-in-Material
returns-in-Material c =
    let P = c.args.position.now in
    let text = material_text P.men in
    on_ok_weaker c.push_material.result
    (λ items. (
      text,
      position_plain Material P text c.invariant.ensures refl,
      subst (λ (k : PositionColumn). IsPositionCell k P text) (sym c.in-Material.is) refl,
      items,
    ))
    c.push_material.ensures
