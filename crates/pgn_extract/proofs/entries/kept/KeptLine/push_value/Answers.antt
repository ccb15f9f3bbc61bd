use Rattle.std.specs.Prelude.{IfSome}
use Rattle.std.proofs.Common.{decimal, refl, sym, subst}
use Rattle.pgn_extract.proofs.Common.{◌≡◌, [], List, Move, IsLegal, MatchOption, on_ok_weaker}
use Rattle.pgn_extract.proofs.Common.{slice_get}
use Rattle.pgn_game.specs.Public.GameLines.{IsMoveText}
use Rattle.pgn_game.specs.declared.exports.notation.Notation.TheVariants.{San, Uci}
use Rattle.pgn_extract.specs.Private.KeptLines.{line_of}
use Rattle.pgn_extract.specs.Private.Lines.{ShowsValue}
use Rattle.pgn_extract.specs.declared.rows.column.PlyColumn.{PlyColumn}
use Rattle.pgn_extract.specs.declared.rows.column.PlyColumn.TheVariants.{Ply, OfPosition, Next}
use Rattle.pgn_extract.specs.declared.rows.column.PlyColumn.TheVariants.{NextUci, OfLine}
use Rattle.pgn_extract.proofs.entries.KeptLines.{shows_kept_value}
use Rattle.pgn_extract.proofs.entries.KeptMoves.{legal_of, moved_there, squares_there}
use Rattle.pgn_extract.proofs.entries.PlainTexts.{decimal_plain}
use Rattle.pgn_extract.proofs.entries.kept.KeptLine.push_value.Goals as goal

pub push_played-requires-clause-legal : goal.push_played-requires-clause-legal
push_played-requires-clause-legal c =
    let line = c.args.self.now in
    let P = c.position-in-Next.result.now in
    subst (λ (ms : List Move). IfSome (slice_get ms line.ply) (IsLegal P))
    (sym c.deref.ensures.value)
    (legal_of line.start line.played.items line.ply P c.requires.valid.legal
    c.position-in-Next.ensures)

pub push_played-requires-in-NextUci-clause-legal :
    goal.push_played-requires-in-NextUci-clause-legal
push_played-requires-in-NextUci-clause-legal c =
    let line = c.args.self.now in
    let P = c.position-in-NextUci.result.now in
    subst (λ (ms : List Move). IfSome (slice_get ms line.ply) (IsLegal P))
    (sym c.deref-in-NextUci.ensures.value)
    (legal_of line.start line.played.items line.ply P c.requires.valid.legal
    c.position-in-NextUci.ensures)

pub returns-in-Ply-clause-shown : goal.returns-in-Ply-clause-shown
returns-in-Ply-clause-shown c =
    let line = c.args.self.now in
    on_ok_weaker c.push_number.result
    (λ items. (
      decimal line.ply,
      decimal_plain line.ply,
      λ aim game before P at. subst (λ (k : PlyColumn).
          ShowsValue k (decimal line.ply) aim game before P)
          (sym c.in-Ply.is) (shows_kept_value (line_of line) line.met.items line.ply Ply
          (decimal line.ply) refl aim game before P at),
      items,
    ))
    c.push_number.ensures

pub returns-in-OfPosition-clause-shown : goal.returns-in-OfPosition-clause-shown
returns-in-OfPosition-clause-shown c =
    let line = c.args.self.now in
    on_ok_weaker c.push_position_value.result
    (λ (value, plain, is, items). (
      value,
      plain,
      λ aim game before P at. subst (λ (k : PlyColumn). ShowsValue k value aim game before P)
          (sym c.in-OfPosition.is)
          (shows_kept_value (line_of line) line.met.items line.ply
          (OfPosition c.in-OfPosition.own) value
          (c.position.result.now, c.position.ensures, is) aim game before P at),
      items,
    ))
    c.push_position_value.ensures

pub returns-in-Next-clause-shown : goal.returns-in-Next-clause-shown
returns-in-Next-clause-shown c =
    let line = c.args.self.now in
    let moves = line.played.items in
    let Q = c.position-in-Next.result.now in
    on_ok_weaker c.push_played.result
    (λ (value, plain, is, items). (
      value,
      plain,
      λ aim game before P at. subst (λ (k : PlyColumn). ShowsValue k value aim game before P)
          (sym c.in-Next.is) (shows_kept_value (line_of line) line.met.items line.ply Next value
          (moved_there San line.start moves line.ply Q value c.position-in-Next.ensures
          (slice_get moves line.ply)
          (subst (λ (ms : List Move). MatchOption (slice_get ms line.ply) (value ≡ [])
          (λ m. IsMoveText San Q m value)) c.deref.ensures.value is)) aim game before P at),
      items,
    ))
    c.push_played.ensures

pub returns-in-NextUci-clause-shown : goal.returns-in-NextUci-clause-shown
returns-in-NextUci-clause-shown c =
    let line = c.args.self.now in
    let moves = line.played.items in
    let Q = c.position-in-NextUci.result.now in
    on_ok_weaker c.push_played-in-NextUci.result
    (λ (value, plain, is, items). (
      value,
      plain,
      λ aim game before P at. subst (λ (k : PlyColumn). ShowsValue k value aim game before P)
          (sym c.in-NextUci.is)
          (shows_kept_value (line_of line) line.met.items line.ply NextUci value
          (squares_there value (slice_get moves line.ply)
          (subst (λ (ms : List Move). MatchOption (slice_get ms line.ply) (value ≡ [])
          (λ m. IsMoveText Uci Q m value)) c.deref-in-NextUci.ensures.value is))
          aim game before P at),
      items,
    ))
    c.push_played-in-NextUci.ensures

pub returns-in-OfLine-clause-shown : goal.returns-in-OfLine-clause-shown
returns-in-OfLine-clause-shown c =
    let line = c.args.self.now in
    on_ok_weaker c.push_line_value.result
    (λ (value, plain, is, items). (
      value,
      plain,
      λ aim game before P at. subst (λ (k : PlyColumn). ShowsValue k value aim game before P)
          (sym c.in-OfLine.is)
          (shows_kept_value (line_of line) line.met.items line.ply (OfLine c.in-OfLine.own) value
          is aim game before P at),
      items,
    ))
    c.push_line_value.ensures
