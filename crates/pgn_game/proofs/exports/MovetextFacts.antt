-- What is written of a movetext from its first token to its result.
use Rattle.pgn_game.proofs.Common.{◌≡◌, ℕ, true, false, List, [], ◌∷◌, ◌++◌, refl, sym, ap, ◌∙◌}
use Rattle.pgn_game.proofs.Common.{subst, append_assoc, State, GameText, IsPaired, AreTokens}
use Rattle.pgn_game.proofs.Common.{after_tokens, IsLaid, first_level, Step, Visits, Walks}
use Rattle.pgn_game.proofs.Common.{shown_items, MovetextWriter, Style, Level, is_inside}
use Rattle.pgn_game.specs.Public.Exports.{IsLineMovetext, IsMovetext}
use Rattle.pgn_game.specs.Private.MovetextWalks.{IsNew, WritesStep}
use Rattle.pgn_game.proofs.LaidFacts.{added_is_laid}
use Rattle.pgn_game.proofs.exports.MovetextLines.{written_tokens}

-- what grew twice grew
pub grown_twice : (old mid new : List ℕ) → ((some : List ℕ) × (mid ≡ old ++ some))
    → ((some : List ℕ) × (new ≡ mid ++ some)) → (some : List ℕ) × (new ≡ old ++ some)
grown_twice old mid new (first, is_mid) (second, is_new) =
    (first ++ second, is_new ∙ ap (λ bytes. bytes ++ second) is_mid ∙ append_assoc old first second)

-- what a wrapper writes from its first token on is laid in lines
pub laid_first : (width : ℕ) (tokens : List (List ℕ))
    → IsLaid width tokens (after_tokens width false 0 tokens)
laid_first width [] = record { lines = []; all = refl; are_lines = record {}; spells = refl }
laid_first width (first ∷ rest) = added_is_laid width first rest

-- a writer that goes along the steps, and ends with the result, writes the movetext
pub written_line : (style : Style) (start : State) (game : GameText) (outer : List Level)
    (steps : List Step) (before after : List ℕ) (first last : MovetextWriter)
    → IsNew style before first → IsPaired 0 game.elements
    → Walks (shown_items style.variations 0 game.elements) (first_level start) outer steps
    → Visits WritesStep first steps last
    → after ≡ last.out.items ++ after_tokens last.wrapper.width last.wrapper.begun
    last.wrapper.column (game.result ∷ [])
    → (movetext : List ℕ) × IsLineMovetext (is_inside outer) style start game movetext
    × (after ≡ before ++ movetext)
written_line style start game outer steps before after first last new paired walks visits ends =
    let same = new.style in
    let written =
    written_tokens start game.elements outer steps first last paired new.apart
    (subst (λ (s : Style). Walks (shown_items s.variations 0 game.elements) (first_level start)
    outer steps) (sym same) walks) visits in
    let tokens = written.own ++ game.result ∷ [] in
    let text : after_tokens first.wrapper.width first.wrapper.begun first.wrapper.column tokens
    ≡ after_tokens style.width false 0 tokens =
    ap (λ w. after_tokens w first.wrapper.begun first.wrapper.column tokens) new.width
    ∙ ap (λ b. after_tokens style.width b first.wrapper.column tokens) new.begun
    ∙ ap (λ n. after_tokens style.width false n tokens) new.column in (
      after_tokens style.width false 0 tokens,
      (
        tokens,
        (
          written.line,
          written.own,
          written.spells,
          subst (λ (s : Style). AreTokens s (is_inside outer) start
              start true written.line written.own) same written.tokens,
          refl,
        ),
        laid_first style.width tokens,
      ),
      ends ∙ written.put (game.result ∷ []) ∙ ap (λ bytes. first.out.items ++ bytes) text
          ∙ ap (λ bytes. bytes ++ after_tokens style.width false 0 tokens) new.out,
    )

-- that of a game
pub written_movetext : (style : Style) (start : State) (game : GameText) (steps : List Step)
    (before after : List ℕ) (first last : MovetextWriter) → IsNew style before first
    → IsPaired 0 game.elements
    → Walks (shown_items style.variations 0 game.elements) (first_level start) [] steps
    → Visits WritesStep first steps last
    → after ≡ last.out.items ++ after_tokens last.wrapper.width last.wrapper.begun
    last.wrapper.column (game.result ∷ [])
    → (movetext : List ℕ) × IsMovetext style start game movetext × (after ≡ before ++ movetext)
written_movetext style start game = written_line style start game []
