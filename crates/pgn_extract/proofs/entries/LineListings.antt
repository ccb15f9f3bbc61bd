-- The listings of lines in a row.
use Rattle.pgn_extract.proofs.Common.{◌≡◌, ◌+◌, ◌++◌, ◌∷◌, [], ℕ, zero, suc, List, refl, sym, ap}
use Rattle.pgn_extract.proofs.Common.{◌∙◌, subst, length, arith, append-nil, length-append, Main}
use Rattle.pgn_extract.proofs.Common.{append_assoc, Aim, AreListed, GameId, GameText, listing}
use Rattle.pgn_extract.proofs.Common.{false, fen_tag, tag_in}
use Rattle.std.specs.Prelude.{None, Option, Some, IfSome}
use Rattle.pgn_game.specs.Public.AllLines.{Line, spelled}
use Rattle.pgn_game.specs.Public.Faults.{Fault, IsFault}
use Rattle.pgn_game.specs.Public.LineGames.{LineGame, line_items, lines_of, variations_in}
use Rattle.pgn_game.specs.Public.Replays.{IsSoundGame}
use Rattle.pgn_game.specs.Public.SearchedLines.{as_searched, up_to_pass_if}
use Rattle.pgn_game.specs.declared.replays.replayer.Lines.TheVariants.{All}
use Rattle.pgn_game.proofs.OneReplay.{no_fault}
use Rattle.pgn_extract.specs.Public.LineListing.{AreLineListings, IsLineListing, ListsEachLine}
use Rattle.pgn_extract.specs.Public.LineListing.{aim_in, listed_items}
use Rattle.pgn_extract.specs.Private.Blockwise.{AddsSound, by_itself}
use Rattle.pgn_extract.specs.Private.Finding.{AddsEntries}
use Rattle.pgn_extract.proofs.LaterGames.{main_sound}

-- ---- rows of lines

module _ (aim : Aim) (id : GameId) (game : GameText) where
  pub listings_joined : (number : ℕ) (first more : List LineGame) (text rest : List ℕ)
      → AreLineListings aim id game number first text
      → AreLineListings aim id game (number + length first) more rest
      → AreLineListings aim id game number (first ++ more) (text ++ rest)
  listings_joined number [] more text rest are later =
      subst (AreLineListings aim id game number more) (sym (ap (λ t. t ++ rest) are))
      (subst (λ n. AreLineListings aim id game n more rest) (omega arith) later)
  listings_joined number (line ∷ first) more text rest (own, left, is, listed, are) later = (
    own,
    left ++ rest,
    ap (λ t. t ++ rest) is ∙ append_assoc own left rest,
    listed,
    listings_joined (number + 1) first more left rest are
        (subst (λ n. AreLineListings aim id game n more rest) (omega arith) later),
  )

-- ---- one line

-- the main line of a line as a game is sound
pub sound_in : (game : GameText) (number : ℕ) (line : LineGame)
    → IsSoundGame Main (tag_in fen_tag game.tags) game.elements
    → IsSoundGame Main (tag_in fen_tag game.tags) (up_to_pass_if line.inside (line_items line))
    → IsSoundGame Main (tag_in fen_tag game.tags)
    (listed_items number game.elements (up_to_pass_if line.inside (line_items line)))
sound_in game zero line main own = main
sound_in game (suc n) line main own = own

-- ---- the variations of a game, one after the other

-- where none begins
pub none_here : (aim : Aim) (id : GameId) (game : GameText) (number : ℕ) (lines : List LineGame)
    (old : List ℕ) → lines ≡ []
    → (text : List ℕ) × AreLineListings aim id game number lines text × (old ≡ old ++ text)
none_here aim id game number lines old nothing = (
  [],
  subst (λ all. AreLineListings aim id game number all []) (sym nothing) refl,
  sym (append-nil old),
)

-- where one does
pub one_here : (aim : Aim) (id : GameId) (game searched : GameText) (count : ℕ) (line : LineGame)
    (lines : List LineGame) (old new : List ℕ) → lines ≡ line ∷ []
    → searched ≡ as_searched game line
    → AddsEntries (aim_in aim (count + 1) line) id searched old new
    → (text : List ℕ) × AreLineListings aim id game (count + 1) lines text
    × (new ≡ old ++ text)
one_here aim id game searched count line lines old new one same adds =
    let (replay, is, entries, listed, added) =
    subst (λ (g : GameText). AddsEntries (aim_in aim (count + 1) line) id g old new) same adds in
    let text = listing aim.name entries in
    let number : suc count ≡ count + 1 = omega arith in
    let own : IsLineListing aim id game (count + 1) line text =
    subst (λ n. IsLineListing aim id game n line text) number (
      replay,
      is,
      entries,
      subst (λ n. AreListed (aim_in aim n line) id (as_searched game line)
          replay entries) (sym number) listed,
      refl,
    ) in (
      text,
      subst (λ all. AreLineListings aim id game (count + 1) all text) (sym one)
          (text, [], sym (append-nil text), own, refl),
      added,
    )

-- the first variations of a game are listed, so many, and the others are left
abbrev pub ListsFirst : Aim → GameId → GameText → List ℕ → List LineGame → ℕ → List ℕ → Type 0
ListsFirst aim id game old left count new =
    (line : Line) × (first : List LineGame) × (text : List ℕ) × (game.elements ≡ spelled line)
    × (variations_in [] [] line ≡ first ++ left) × (count ≡ length first)
    × AreLineListings aim id game 1 first text × (new ≡ old ++ text)

module _ (aim : Aim) (id : GameId) (game : GameText) (old : List ℕ) where
  -- more of them are
  pub lists_more : (other : GameText) (lines begun later : List LineGame) (count next : ℕ)
      (mid new : List ℕ) → other ≡ game → lines ≡ begun ++ later → next ≡ count + length begun
      → ListsFirst aim id game old lines count mid
      → (text : List ℕ) × AreLineListings aim id other (count + 1) begun text
      × (new ≡ mid ++ text)
      → ListsFirst aim id game old later next new
  lists_more other lines begun later count next mid new same parts counted
      (line, first, text, spells, parted, many, are, put) (more, these, added) = (
        line,
        first ++ begun,
        text ++ more,
        spells,
        parted ∙ ap (λ ls. first ++ ls) parts ∙ sym (append_assoc first begun later),
        counted ∙ ap (λ n. n + length begun) many ∙ sym (length-append first begun),
        listings_joined aim id game 1 first begun text more are
            (subst (λ n. AreLineListings aim id game n begun more) (omega (arith, many))
            (subst (λ g. AreLineListings aim id g (count + 1) begun more) same these)),
        added ∙ ap (λ t. t ++ more) put ∙ append_assoc old text more,
      )

  -- all are
  pub lists_all : (left : List LineGame) (count : ℕ) (new : List ℕ) → left ≡ []
      → ListsFirst aim id game old left count new
      → (line : Line) × (text : List ℕ) × (game.elements ≡ spelled line)
      × AreLineListings aim id game 1 (variations_in [] [] line) text × (new ≡ old ++ text)
  lists_all left count new nothing (line, first, text, spells, parted, many, are, put) = (
    line,
    text,
    spells,
    subst (λ all. AreLineListings aim id game 1 all text)
        (sym (parted ∙ ap (λ ls. first ++ ls) nothing ∙ append-nil first)) are,
    put,
  )

-- and the main line before them
pub each_listed : (aim : Aim) (id : GameId) (game : GameText) (old mid new : List ℕ)
    → AddsEntries (aim_in aim 0 (record { inside = false; before = []; own = [] })) id game old mid
    → (line : Line) × (text : List ℕ) × (game.elements ≡ spelled line)
    × AreLineListings aim id game 1 (variations_in [] [] line) text × (new ≡ mid ++ text)
    → (text : List ℕ) × ListsEachLine aim id game text × (new ≡ old ++ text)
each_listed aim id game old mid new (replay, is, entries, listed, put)
    (line, rest, spells, are, added) =
    let text = listing aim.name entries in (
      text ++ rest,
      (line, spells, (text, rest, refl, (replay, is, entries, listed, refl), are)),
      added ∙ ap (λ t. t ++ rest) put ∙ append_assoc old text rest,
    )

-- a sound main line has no fault
pub none_of_main : (game : GameText) (fault : Option Fault)
    → IsSoundGame Main (tag_in fen_tag game.tags) game.elements
    → IfSome fault (IsFault Main (tag_in fen_tag game.tags) game.elements) → fault ≡ None
none_of_main game None sound met = refl
none_of_main game (Some fault) sound met =
    absurd (no_fault Main (tag_in fen_tag game.tags) game.elements fault sound met)

-- a fault of the main line of a game whose lines are sound is none
pub none_of_all : (game : GameText) (fault : Option Fault)
    → IsSoundGame All (tag_in fen_tag game.tags) game.elements
    → IfSome fault (IsFault Main (tag_in fen_tag game.tags) game.elements)
    → IfSome fault (IsFault All (tag_in fen_tag game.tags) game.elements)
none_of_all game None sound met = tt
none_of_all game (Some fault) sound met =
    absurd (no_fault Main (tag_in fen_tag game.tags) game.elements fault
    (main_sound All (tag_in fen_tag game.tags) game.elements sound) met)

-- ---- a game by itself

pub lists_itself : (aim : Aim) (id : GameId) (game : GameText) (number : ℕ)
    (lines : List LineGame) (text : List ℕ) → AreLineListings aim id game number lines text
    → AreLineListings aim id (by_itself game) number lines text
lists_itself aim id game number [] text is = is
lists_itself aim id game number (line ∷ more) text (own, rest, parted, listed, later) =
    (own, rest, parted, listed, lists_itself aim id game (number + 1) more rest later)

pub each_itself : (aim : Aim) (id : GameId) (game : GameText) (old new : List ℕ)
    → AddsSound All game (λ _. ListsEachLine aim id game) old new
    → AddsSound All game (λ _. ListsEachLine aim id (by_itself game)) old new
each_itself aim id game old new (replay, is, text, (line, spells, lines), put) =
    (replay, is, text, (line, spells, lists_itself aim id game 0 (lines_of line) text lines), put)
