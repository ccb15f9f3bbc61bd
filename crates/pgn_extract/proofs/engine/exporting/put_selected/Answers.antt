use Rattle.pgn_extract.proofs.Common.{[], refl, sym, append-nil, subst, MatchResult-weaker}
use Rattle.pgn_extract.proofs.Common.{fault_of, aim_of, HasEntry, IsSelected, unselected}
use Rattle.pgn_extract.proofs.Common.{written_lines, heading_of}
use Rattle.pgn_extract.proofs.engine.AllTaken.{all_written, first_is_entry, stops_left}
use Rattle.pgn_extract.proofs.engine.exporting.put_selected.Goals as goal

pub put_text-requires : goal.put_text-requires
put_text-requires c =
    first_is_entry (aim_of c.args.context.settings.now) c.args.game.now
    (c.takes_all.ensures c.if-takes_all.true)

pub returns-then-takes_all : goal.returns-then-takes_all
returns-then-takes_all c =
    let aim = aim_of c.args.context.settings.now in
    let game = c.args.game.now in
    MatchResult-weaker c.put_text.result c.put_text.ensures
    (λ _ put. (
      put.0,
      put.1,
      put.2,
      all_written aim c.args.context.own game put.0 put.2
          (c.takes_all.ensures c.if-takes_all.true) put.1 put.3,
      put.4,
    ))
    (λ fault reports. reports)

pub returns-in-Faulty : goal.returns-in-Faulty
returns-in-Faulty c =
    let aim = aim_of c.args.context.settings.now in
    let game = c.args.game.now in
    let old = c.args.text.now.items in
    let none : (P : Type 0) → IsSelected c.args.context.settings.now.select P → ⊥ =
    λ P. subst (λ s. IsSelected s P → ⊥) (sym c.in-Faulty.is) (λ never. never) in
    let checked = rw c.written_lines.ensures at c.check_lines.ensures in
    MatchResult-weaker c.check_lines.result checked
    (λ _ sound. (
      sound.0,
      sound.1,
      [],
      unselected (none (HasEntry aim (heading_of game) sound.0)) refl,
      sym (append-nil old),
    ))
    (λ fault reports. stops_left (written_lines aim) game old old (fault_of fault) reports refl)
