-- Lines in a row: what holds of each, and their texts one after the other.
use Rattle.pgn_game.proofs.Common.{◌≡◌, ℕ, List, [], ◌∷◌, ◌++◌, sym, ap, ◌∙◌, append_assoc}
use Rattle.pgn_game.proofs.Common.{append-nil, AllByRecursion, subst, GameText}
use Rattle.pgn_game.specs.Public.LineGames.{AreTextsOf, LineGame, LineLayout, WritesFirst}

pub all_joined : {X : Type 0} (P : X → Type 0) (xs ys : List X) → AllByRecursion P xs
    → AllByRecursion P ys → AllByRecursion P (xs ++ ys)
all_joined P [] ys first second = second
all_joined P (x ∷ xs) ys first second = (first.0, all_joined P xs ys first.1 second)

pub all_parted : {X : Type 0} (P : X → Type 0) (xs ys : List X) → AllByRecursion P (xs ++ ys)
    → AllByRecursion P xs × AllByRecursion P ys
all_parted P [] ys all = (tt, all)
all_parted P (x ∷ xs) ys all =
    let (first, second) = all_parted P xs ys all.1 in ((all.0, first), second)

module _ (layout : LineLayout) (game : GameText) where
  pub texts_joined : (first second : List LineGame) (text more : List ℕ)
      → AreTextsOf layout game first text → AreTextsOf layout game second more
      → AreTextsOf layout game (first ++ second) (text ++ more)
  texts_joined [] second text more none is =
      subst (AreTextsOf layout game second) (sym (ap (λ bytes. bytes ++ more) none)) is
  texts_joined (line ∷ first) second text more (own, rest, parted, written, later) is = (
    own,
    rest ++ more,
    ap (λ bytes. bytes ++ more) parted ∙ append_assoc own rest more,
    written,
    texts_joined first second rest more later is,
  )

  -- after the first lines more are written, in the same way
  pub writes_more : (layout' : LineLayout) (game' : GameText) (lines left later : List LineGame)
      (text more : List ℕ) → layout' ≡ layout → game' ≡ game
      → WritesFirst layout game lines left text → WritesFirst layout' game' left later more
      → WritesFirst layout game lines later (text ++ more)
  writes_more layout' game' lines left later text more same_layout same_game (first, is, put)
      (next, goes, puts) = (
        first ++ next,
        is ∙ ap (λ rest. first ++ rest) goes ∙ sym (append_assoc first next later),
        texts_joined first next text more put
            (subst (λ l. AreTextsOf l game next more) same_layout
            (subst (λ g. AreTextsOf layout' g next more) same_game puts)),
      )

  -- where none is left, all are
  pub writes_all : (lines left : List LineGame) (text : List ℕ) → left ≡ []
      → WritesFirst layout game lines left text → AreTextsOf layout game lines text
  writes_all lines left text none (first, is, put) =
      subst (λ all. AreTextsOf layout game all text)
      (sym (is ∙ ap (λ rest. first ++ rest) none ∙ append-nil first)) put
