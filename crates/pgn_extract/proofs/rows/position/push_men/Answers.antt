use Rattle.pgn_extract.proofs.Common.{◌++◌, ◌∙◌, on_ok_weaker}
use Rattle.pgn_game.proofs.StartTexts.{on_ok_if}
use Rattle.pgn_extract.proofs.PositionTexts.{men_of_run}
use Rattle.pgn_extract.proofs.rows.position.push_men.Goals as goal

pub returns : goal.returns
returns c =
    let fen = c.fen-fen.result.bytes in
    let men = c.split_run.result.0.now in
    on_ok_weaker c.extend_from_slice.result
    (λ items. (
      men,
      men_of_run c.args.position.now fen c.as_bytes.result.now men c.fen-fen.ensures
          (c.as_bytes.ensures.value ∙ c.deref.ensures.0) c.split_run.ensures.run,
      items,
    ))
    (on_ok_if c.extend_from_slice.result c.extend_from_slice.new.self.items
    (c.args.text.now.items ++ men) c.args.text.now.items c.extend_from_slice.ensures.items)
