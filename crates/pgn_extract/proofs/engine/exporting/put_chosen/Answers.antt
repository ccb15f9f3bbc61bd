use Rattle.std.proofs.lemmas.List.{append-nil}
use Rattle.std.specs.Prelude.{◌↔◌, IsTrue, is_some}
use Rattle.pgn_extract.proofs.Common.{[], refl, sym, ap, subst, ◌++◌, ◌∙◌, ◌≡◌, ℕ, Bool, false≢true}
use Rattle.pgn_extract.proofs.Common.{Aim, GameText, HasEntry, IsOfGame, Option, Replay, heading_of}
use Rattle.pgn_extract.proofs.Common.{MatchResult-weaker, fault_of, by_itself, aim_of, IsTextOf}
use Rattle.pgn_extract.proofs.Common.{as_it_stands, selected, unselected, written_lines}
use Rattle.pgn_extract.proofs.Exported.{first_tells}
use Rattle.pgn_extract.proofs.engine.AllTaken.{stops_left}
use Rattle.pgn_extract.specs.Public.Exports.{IsFirstOrNone}
use Rattle.pgn_extract.proofs.engine.exporting.put_chosen.Goals as goal

-- the test of the first entry tells whether the game has one
tells : (aim : Aim) (game : GameText) (first : Option ℕ)
    → ((replay : Replay) → IsOfGame game replay
    → IsFirstOrNone aim (heading_of game) replay first) → (has : Bool) → has ≡ is_some first
    → (replay : Replay) → IsOfGame game replay
    → IsTrue has ↔ HasEntry aim (heading_of game) replay
tells aim game first each has is replay own =
    subst (λ h. IsTrue h ↔ HasEntry aim (heading_of game) replay) (sym is)
    (first_tells aim (heading_of game) replay first (each replay own))

pub check_written-requires : goal.check_written-requires
check_written-requires c = c.requires.0

pub returns-then-not-is_selected : goal.returns-then-not-is_selected
returns-then-not-is_selected c =
    let lines = written_lines (aim_of c.args.context.settings.now) in
    let game = c.args.game.now in
    let old = c.args.text.now.items in
    MatchResult-weaker c.check_written.result c.check_written.ensures
    (λ _ sound.
    let reports =
    c.is_selected.ensures game sound.0
    (tells (aim_of c.args.context.settings.now) game c.args.first c.requires.1 c.is_some.result
    c.is_some.ensures sound.0 (lines, sound.1)) in (
      sound.0,
      sound.1,
      [],
      unselected (λ selected.
          false≢true (sym c.if-not-is_selected.true ∙ reports.1 selected)) refl,
      sym (append-nil old),
    ))
    (λ fault reports. stops_left lines game old old (fault_of fault) reports refl)

pub check_written-requires-then-is_as_it_stands : goal.check_written-requires-then-is_as_it_stands
check_written-requires-then-is_as_it_stands c = c.requires.0

pub returns-then-is_as_it_stands : goal.returns-then-is_as_it_stands
returns-then-is_as_it_stands c =
    let aim = aim_of c.args.context.settings.now in
    let game = c.args.game.now in
    let sound = c.in_ok-check_written.ensures in
    let reports =
    c.is_selected.ensures game sound.0
    (tells aim game c.args.first c.requires.1 c.is_some.result c.is_some.ensures sound.0
    (written_lines aim, sound.1))
    in (
      sound.0,
      sound.1,
      as_it_stands game.text,
      selected (reports.0 c.if-not-is_selected.false)
          (subst (λ f. IsTextOf f aim c.args.context.own (by_itself game) (as_it_stands game.text))
          (sym (c.is_as_it_stands.ensures.0 c.if-is_as_it_stands.true)) refl),
      c.in_ok-push_as_is.ensures
          ∙ ap (λ bytes. c.args.text.now.items ++ as_it_stands bytes) c.text.ensures,
    )

pub returns : goal.returns
returns c =
    let aim = aim_of c.args.context.settings.now in
    let game = c.args.game.now in
    MatchResult-weaker c.put_text.result c.put_text.ensures
    (λ _ put.
    let reports =
    c.is_selected.ensures game put.0
    (tells aim game c.args.first c.requires.1 c.is_some.result c.is_some.ensures put.0
    (written_lines aim, put.1)) in
    (put.0, put.1, put.2, selected (reports.0 c.if-not-is_selected.false) put.3, put.4))
    (λ fault reports. reports)
