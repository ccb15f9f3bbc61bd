use Rattle.std.proofs.lemmas.Result.{MatchResult-weaker, err_from_is_err_and}
use Rattle.pgn_criteria.proofs.Common.{◌≡◌, ◌↔◌, ◌*◌, ◌/◌, ◌∙◌, ℕ, List, take, refl, sym, ap}
use Rattle.pgn_criteria.proofs.Common.{subst, length, map, Meets, heading_of}
use Rattle.pgn_criteria.proofs.Common.{heading_of_raw}
use Rattle.chess.specs.declared.moves.Move.{Move}
use Rattle.pgn_game.specs.Public.CodeLines.{IsCodedLine, IsCodedReplay}
use Rattle.pgn_game.proofs.CodeLineFacts.{legal_along}
use Rattle.pgn_criteria.proofs.BegunFacts.{begun_fits, none_begun}
use Rattle.pgn_criteria.proofs.CodedPlays.{coded_count}
use Rattle.pgn_criteria.proofs.ColumnFacts.{met_as}
use Rattle.pgn_criteria.proofs.RecordHeadings.{raw_heading, text_heading}
use Rattle.pgn_criteria.specs.Private.Stages.{AllOfGame, EachIs}
use Rattle.pgn_criteria.proofs.meets.Criteria.met_coded.Goals as goal

pub left_of_begun-requires : goal.left_of_begun-requires
left_of_begun-requires c k =
    let line = c.in_ok-beginning.ensures.line in (
      (refl, tt),
      (
        c.requires,
        λ i P m at is.
            legal_along c.copy.result c.in_ok-beginning.beginning.played line.legal i P m
            (rw (← line.positions) at) is,
      ),
    )

pub returns-in_err-beginning : goal.returns-in_err-beginning
returns-in_err-beginning c =
    let raw = c.args.record.now in
    let given = c.from_residual in
    let p = err_from_is_err_and given.result given.ensures.1 in
    let most = c.most_words.result in
    let front : c.front_of.result.now ≡ take (3 * most) raw.plies =
    c.front_of.ensures ∙ ap (take (3 * most)) c.plies-plies.ensures in
    rw (p.1, p.2) (λ is. none_begun most c.args.start.now raw.plies
    (rw (← c.copy.ensures)
    (subst (λ (bytes : List ℕ). (moves : List Move) → IsCodedLine c.copy.result bytes moves → ⊥)
    front (c.in_err-beginning.ensures is))))

pub returns : goal.returns
returns c =
    let raw = c.args.record.now in
    let own = heading_of_raw raw in
    let start = c.args.start.now in
    let whole = c.args.self.now in
    let most = c.most_words.result in
    let beginning = c.in_ok-beginning.beginning in
    let front : c.front_of.result.now ≡ take (3 * most) raw.plies =
    c.front_of.ensures ∙ ap (take (3 * most)) c.plies-plies.ensures in
    let begun : IsCodedReplay start (take (3 * most) raw.plies) beginning =
    subst (λ (bytes : List ℕ). IsCodedReplay start bytes beginning) front
    (rw c.copy.ensures at c.in_ok-beginning.ensures) in
    MatchResult-weaker c.met_by_codes.result c.met_by_codes.ensures
    (λ met are game replay packed is fits shows line legal coded.
    let heading : own ≡ heading_of game =
    ap heading_of_raw (sym shows) ∙ raw_heading packed fits
    ∙ text_heading packed.name packed.number packed.offset game replay packed is in
    let (each, same) = c.in_ok-left.ensures most line c.most_words.ensures
    (coded_count start raw.plies line coded
    ∙ ap (λ bytes. length bytes / 3) (sym c.plies-plies.ensures))
    (begun_fits most start raw.plies beginning line begun legal coded) in
    rw (← heading)
    (met_as own line _ whole met.items
    (subst (λ xs. (ply : ℕ) → Meets own line ply (map (λ a. a.now) xs)
    ↔ Meets own line ply whole) (sym c.deref.ensures.value) same)
    (are line legal (subst (λ (bytes : List ℕ). IsCodedLine start bytes line.played)
    (sym c.plies-plies.ensures) coded) own
    (subst (λ xs. EachIs (AllOfGame own line) (map (λ a. a.now) xs))
    (sym c.deref.ensures.value) each))))
    (λ error is none moves coded. is none moves
    (subst (λ (bytes : List ℕ). IsCodedLine start bytes moves) (sym c.plies-plies.ensures) coded))
