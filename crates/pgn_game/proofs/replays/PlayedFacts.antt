-- A main line that is played ply by ply: what one element of its game does.
use Rattle.std.specs.Prelude.{Some}
use Rattle.pgn_game.proofs.Common.{◌≡◌, ◌+◌, ◌-◌, ◌<◌, ◌≤◌, List, [], ◌∷◌, length}
use Rattle.pgn_game.proofs.Common.{get_or, take, drop, map, refl, sym, subst, ap, ◌∙◌, arith}
use Rattle.pgn_game.proofs.Common.{take_all}
use Rattle.pgn_game.proofs.Common.{Move, after, IsOnlyNamed, item_of, Element, main_words}
use Rattle.pgn_game.proofs.Common.{PlayedLine, HasEnded, HasStepped, MainWalk}
use Rattle.pgn_game.specs.Public.PlayedLines.{HasGoneOn}
use Rattle.pgn_game.proofs.WalkFacts.{items_step}

-- the elements after the first
after_first : (rest : List Element) → 1 ≤ length rest
    → take (length rest - 1) (drop 1 rest) ≡ drop 1 rest
after_first [] some = absurd (omega arith)
after_first (first ∷ more) some = take_all (length (first ∷ more) - 1) more (omega arith)

first_item : (rest : List Element) (d : Element) → 1 ≤ length rest
    → map item_of rest ≡ item_of (get_or rest 0 d)
    ∷ map item_of (take (length rest - 1) (drop 1 rest))
first_item rest d some =
    items_step rest 0 d (omega arith)
    ∙ ap (λ xs. item_of (get_or rest 0 d) ∷ map item_of xs) (sym (after_first rest some))

module _ (old new : MainWalk) (entry : PlayedLine) (rest : List Element) (d : Element) (some : 1
    ≤ length rest)
    (words : main_words (map item_of rest) old.depth ≡ entry.words) (position : old.position
    ≡ entry.position) (plies : old.plies ≡ entry.plies) where
  -- a move of the main line
  pub plays_word : (m : Move) → HasStepped old new (item_of (get_or rest 0 d)) (Some m)
      → HasGoneOn entry (record {
        position = new.position;
        plies = new.plies;
        words = main_words (map item_of (take (length rest - 1) (drop 1 rest))) new.depth;
      }) (Some m)
  plays_word m stepped = (
    record {
      word = stepped.word;
      m = m;
      words = sym words ∙ ap (λ items. main_words items old.depth) (first_item rest d some)
          ∙ stepped.words (map item_of (take (length rest - 1) (drop 1 rest)));
      named = subst (λ s. IsOnlyNamed s stepped.word m) position stepped.named;
      position = stepped.position ∙ ap (λ s. after s m) position;
      plies = stepped.plies ∙ ap (λ n. n + 1) plies;
    },
    refl,
  )

-- after the last
pub has_ended : (walk : MainWalk) (rest : List Element) (entry : PlayedLine) → length rest < 1
    → main_words (map item_of rest) walk.depth ≡ entry.words
    → walk.position ≡ entry.position → walk.plies ≡ entry.plies
    → HasEnded entry (record {
      position = walk.position;
      plies = walk.plies;
      words = main_words (map item_of rest) walk.depth;
    })
has_ended walk [] entry none words position plies = record {
  words = sym words;
  same = λ i. record { position = position i; plies = plies i; words = words i };
}
has_ended walk (first ∷ more) entry none words position plies = absurd (omega arith)
