-- Conditions on the material: what spells one is read as it, and the other way round.
use Rattle.pgn_criteria.proofs.Common.{◌≡◌, ℕ, List, ◌++◌, refl, sym, subst, codes, run_of}
use Rattle.pgn_criteria.proofs.Common.{after_word, SpellsPosition, SpellsLimits, Limits, Material}
use Rattle.pgn_criteria.proofs.SolidFacts.{BeginsSolid, solid_begins, begins_front, front_some}
use Rattle.pgn_criteria.proofs.SolidFacts.{word_read, word_spelled}
use Rattle.pgn_criteria.proofs.LimitFacts.{limits_some, limits_solid}

-- the words of the text are those of the condition
pub record IsMaterialRead (text : List ℕ) (white black : Limits) : Type 0 where
  pub key_is : run_of text ≡ codes "material"
  pub white_is : SpellsLimits (run_of (after_word text)) white
  pub between_is : run_of (after_word (after_word text)) ≡ codes "v"
  pub black_is : SpellsLimits (after_word (after_word (after_word text))) black

limits_begin : (text : List ℕ) (limits : Limits) → SpellsLimits text limits → BeginsSolid text
limits_begin text limits spells =
    solid_begins text (limits_some text limits spells) (limits_solid text limits spells)

pub material_read : (text : List ℕ) (white black : Limits)
    → SpellsPosition text (Material white black) → IsMaterialRead text white black
material_read text white black
    (first, second, third, of_white, of_black, is, g, h, k, spells_white, spells_black) =
    let between = codes "v" ++ (third ++ of_black) in
    let one = word_read text (codes "material") first (of_white ++ (second ++ between)) is refl g
    (begins_front of_white (second ++ between) (limits_begin of_white white spells_white)) in
    let two = word_read (after_word text) of_white second between one.1
    (limits_solid of_white white spells_white) h (118, third ++ of_black, refl, refl) in
    let three = word_read (after_word (after_word text)) (codes "v") third of_black two.1 refl k
    (limits_begin of_black black spells_black) in
    record {
      key_is = one.0;
      white_is = subst (λ x. SpellsLimits x white) (sym two.0) spells_white;
      between_is = three.0;
      black_is = subst (λ x. SpellsLimits x black) (sym three.1) spells_black;
    }

pub material_spelled : (text : List ℕ) (white black : Limits) → IsMaterialRead text white black
    → SpellsPosition text (Material white black)
material_spelled text white black read =
    let of_white = run_of (after_word text) in
    let of_black = after_word (after_word (after_word text)) in
    let three =
    word_spelled (after_word (after_word text)) (codes "v") of_black read.between_is refl
    (limits_some of_black black read.black_is) in
    let two = word_spelled (after_word text) of_white (codes "v"
    ++ (three.0 ++ of_black)) refl three.1 (λ none. cc) in
    let one = word_spelled text (codes "material") (of_white
    ++ (two.0 ++ (codes "v" ++ (three.0 ++ of_black)))) read.key_is two.1
    (front_some of_white (two.0 ++ (codes "v" ++ (three.0 ++ of_black)))
    (limits_begin of_white white read.white_is)) in (
      one.0,
      two.0,
      three.0,
      of_white,
      of_black,
      one.1,
      one.2,
      two.2,
      three.2,
      read.white_is,
      read.black_is,
    )
