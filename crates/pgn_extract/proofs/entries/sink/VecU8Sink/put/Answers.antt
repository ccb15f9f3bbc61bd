use Rattle.std.proofs.Common.{◌++◌, ◌∷◌, [], length, decimal, sym, ap, ◌∙◌, append-nil, subst}
use Rattle.std.proofs.Common.{append_assoc}
use Rattle.pgn_extract.proofs.Common.{on_ok_weaker}
use Rattle.pgn_extract.specs.Private.Lines.{marked_line, IsEnoughFor}
use Rattle.pgn_extract.specs.Public.Listing.{AfterPly, AsRow, line_field}
use Rattle.pgn_extract.specs.declared.entries.line_maker.LineMaker.{LineMaker}
use Rattle.pgn_extract.proofs.Finds.{one_line}
use Rattle.pgn_extract.proofs.entries.LineMaking.{shows_marked, shows_row, made_text}
use Rattle.pgn_extract.proofs.entries.sink.VecU8Sink.put.Goals as goal

pub returns-in_ok-end_line-in-Fields-clause-put : goal.returns-in_ok-end_line-in-Fields-clause-put
returns-in_ok-end_line-in-Fields-clause-put g c =
    let (text, shows, pushed) = c.in_ok-push_fields-in-Fields.ensures.shown in
    let start = c.args.self.now.items in
    let mark = c.args.mark.now in
    let own = c.in-Fields.own in
    let all = line_field own ++ text in
    let begun = start ++ (mark ++ 32 ∷ decimal c.ply.result) in (
      AfterPly all,
      λ aim game before P at id makes. (
        shows_marked c.args.lines.now c.in-Fields.fields text aim id game before P own
            c.in-Fields.is makes (shows aim game before P at),
        c.in_ok-end_line-in-Fields.ensures
            ∙ ap (λ t. t ++ 10 ∷ []) (pushed
            ∙ ap (λ t. t ++ text) (c.in_ok-push_line_number-in-Fields.ensures
            ∙ ap (λ t. t ++ line_field own) c.in_ok-push_ply-in-Fields.ensures)
            ∙ append_assoc begun (line_field own) text)
            ∙ one_line start mark (decimal c.ply.result) all
            ∙ ap (λ n. start
            ++ marked_line mark (record { id = id; ply = n; shown = AfterPly all }))
            (c.ply.ensures aim game before P at)
            ∙ ap (λ t. start ++ t)
            (sym (append-nil
            (marked_line mark (record { id = id; ply = length before; shown = AfterPly all })))),
      ),
    )

pub returns-in-Rows-clause-put : goal.returns-in-Rows-clause-put
returns-in-Rows-clause-put g c =
    let rows = c.in-Rows.rows in
    let start = c.args.self.now.items in
    on_ok_weaker c.push_row.result
    (λ (values, shown, pushed). (
      AsRow (made_text rows values),
      λ aim game before P at id makes. (
        shows_row c.args.lines.now rows values aim id game before P c.in-Rows.is makes
            (shown aim game before P at),
        pushed ∙ ap (λ t. start ++ t) (sym (append-nil (made_text rows values))),
      ),
    ))
    c.push_row.ensures.shown

pub push_fields-requires-clause-fen : goal.push_fields-requires-clause-fen
push_fields-requires-clause-fen g c =
    (subst (λ (lines : LineMaker). IsEnoughFor g.L.Line.Shows lines) c.in-Fields.is
    c.requires.shows).0

pub push_fields-requires-clause-next : goal.push_fields-requires-clause-next
push_fields-requires-clause-next g c =
    (subst (λ (lines : LineMaker). IsEnoughFor g.L.Line.Shows lines) c.in-Fields.is
    c.requires.shows).1

pub push_row-requires-clause-shows : goal.push_row-requires-clause-shows
push_row-requires-clause-shows g c =
    subst (λ (lines : LineMaker). IsEnoughFor g.L.Line.Shows lines) c.in-Rows.is c.requires.shows
