use Rattle.pgn_criteria.proofs.Common.{◌/◌, ℕ, List, length, IsTrue, sym, subst, Heading}
use Rattle.pgn_criteria.proofs.Common.{heading_of_raw, codes_in}
use Rattle.pgn_criteria.specs.Public.Prefilters.{IsPlayedBy}
use Rattle.pgn_criteria.proofs.CodedLines.{none_in_line, played_count}
use Rattle.pgn_criteria.proofs.CountedFacts.{not_counted}
use Rattle.pgn_criteria.proofs.StageFacts.{fits_of, game_of}
use Rattle.pgn_criteria.proofs.alternative.Alternative.may_be_told.Goals as goal

pub returns-then-not-is_of_counted : goal.returns-then-not-is_of_counted
returns-then-not-is_of_counted g c out P replay seen by ply met =
    let heading : Heading = heading_of_raw c.args.record.now in
    let own = c.args.self.now in
    let bytes = c.plies-plies.result.now in
    let told = subst (λ (b : List ℕ). IsPlayedBy P (codes_in b) replay) (sym c.plies-plies.ensures)
    by in
    let so : IsTrue c.is_of_counted.result =
    (not_counted heading replay (length bytes / 3) (played_count P bytes replay told) own
    c.is_of_counted.result c.if-not-is_of_counted.true c.is_of_counted.ensures).1
    (game_of heading replay ply own met) in
    absurd (cc)

pub returns-then-not-words_are_shown : goal.returns-then-not-words_are_shown
returns-then-not-words_are_shown g c out P replay seen by ply met =
    let fits = fits_of (heading_of_raw c.args.record.now) replay ply c.args.self.now met in
    c.words_are_shown.ensures c.if-not-words_are_shown.true P replay
    (subst (λ (b : List ℕ). IsPlayedBy P (codes_in b) replay) (sym c.plies-plies.ensures) by) ply
    fits.0.3

pub returns : goal.returns
returns g c none P replay seen by ply met =
    let S = c.args.start.now in
    let fits = fits_of (heading_of_raw c.args.record.now) replay ply c.args.self.now met in
    none_in_line c.args.self.now.positions P (codes_in c.plies-plies.result.now) replay
    (g.S.Seen.men S) (g.S.Seen.turn S) (g.S.Seen.checked S) (g.S.Seen.stuck S) seen
    (subst (λ (b : List ℕ). IsPlayedBy P (codes_in b) replay) (sym c.plies-plies.ensures) by)
    (c.may_be_met.ensures none) ply fits.0.0 fits.0.1 fits.0.2
