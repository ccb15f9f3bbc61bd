use Rattle.std.specs.Prelude.{◌≢◌, codes}
use Rattle.pgn_extract.proofs.Common.{◌≡◌, ◌++◌, [], true, false, length, sym, ap, ◌∙◌, subst}
use Rattle.pgn_extract.proofs.Common.{append-nil, arith, Move}
use Rattle.chess.specs.Public.Positions.{IsSound}
use Rattle.chess.specs.Public.San.{IsOnlyNamed}
use Rattle.pgn_game.specs.Public.GameLines.{uci_text}
use Rattle.pgn_extract.proofs.entries.UciTexts.{added_part, cut_again, none_is_next, text_names}
use Rattle.pgn_extract.proofs.entries.UciTexts.{move_is_next, uci_plain}
use Rattle.pgn_extract.proofs.entries.played.push_next_uci.Goals as goal

pub returns-then-is_dash-clause-shown : goal.returns-then-is_dash-clause-shown
returns-then-is_dash-clause-shown c =
    let line = c.args.line.now in
    let old = c.args.text.now.items in
    let (own, is, items) = c.in_ok-push_next.ensures.text in
    let begin : length old ≡ c.len-from.result = omega arith in
    let part = added_part c.deref.result.now old own c.len-from.result
    (c.deref.ensures.value ∙ items) begin in
    let dash : own ≡ codes "-" = sym part ∙ c.is_dash.ensures.0 c.if-is_dash.true in
    let cut = cut_again c.push_next.new.out.items c.truncate.new.self.items old own
    c.len-from.result items begin c.truncate.ensures.items in
    ([], tt, none_is_next line.position line.words own is dash, cut ∙ sym (append-nil old))

pub move_of-m-requires : goal.move_of-m-requires
move_of-m-requires c =
    let line = c.args.line.now in
    let old = c.args.text.now.items in
    let (own, is, items) = c.in_ok-push_next.ensures.text in
    let begin : length old ≡ c.len-from.result = omega arith in
    let part = added_part c.deref.result.now old own c.len-from.result
    (c.deref.ensures.value ∙ items) begin in
    let again = added_part c.deref-2.result.now old own c.len-from.result
    (c.deref-2.ensures.value ∙ items) begin in
    let other : own ≢ codes "-" =
    λ dash. let yes : c.is_dash.result ≡ true = c.is_dash.ensures.1 (part ∙ dash) in
    let no : c.is_dash.result ≡ false = c.if-is_dash.false in absurd (cc) in
    let sound : IsSound line.position = subst IsSound c.position.ensures c.invariant.ensures in
    let (m, named) = text_names line.position line.words own sound is other in (
      m,
      subst (λ x. IsOnlyNamed c.position-2.result.now x m) (sym again)
          (subst (λ Q. IsOnlyNamed Q own m) (sym c.position-2.ensures) named),
    )

pub returns-clause-shown : goal.returns-clause-shown
returns-clause-shown c =
    let line = c.args.line.now in
    let old = c.args.text.now.items in
    let (own, is, items) = c.in_ok-push_next.ensures.text in
    let begin : length old ≡ c.len-from.result = omega arith in
    let part = added_part c.deref.result.now old own c.len-from.result
    (c.deref.ensures.value ∙ items) begin in
    let again = added_part c.deref-2.result.now old own c.len-from.result
    (c.deref-2.ensures.value ∙ items) begin in
    let other : own ≢ codes "-" =
    λ dash. let yes : c.is_dash.result ≡ true = c.is_dash.ensures.1 (part ∙ dash) in
    let no : c.is_dash.result ≡ false = c.if-is_dash.false in absurd (cc) in
    let sound : IsSound line.position = subst IsSound c.position.ensures c.invariant.ensures in
    let m : Move = c.move_of-m.result in
    let named : IsOnlyNamed line.position own m =
    subst (λ Q. IsOnlyNamed Q own m) c.position-2.ensures
    (subst (λ x. IsOnlyNamed c.position-2.result.now x m) again c.move_of-m.ensures) in
    let cut = cut_again c.push_next.new.out.items c.truncate-2.new.self.items old own
    c.len-from.result items begin c.truncate-2.ensures.items in (
      uci_text m,
      uci_plain line.position m named.named.legal,
      move_is_next line.position line.words own m sound is other named,
      c.in_ok-push_uci.ensures ∙ ap (λ t. t ++ uci_text m) cut,
    )
