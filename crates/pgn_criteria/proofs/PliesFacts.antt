-- Conditions on the number of plies: what spells one is read as it, and the other way round.
use Rattle.pgn_criteria.proofs.Common.{◌≡◌, ◌≢◌, ◌≤◌, ℕ, true, List, [], ◌∷◌, ◌++◌, refl, sym}
use Rattle.pgn_criteria.proofs.Common.{subst, arith, codes, nat_tests, is_digit, run_of, after_word}
use Rattle.pgn_criteria.proofs.Common.{SpellsGame, SpellsSpan, SpellsDigits, SpellsCount}
use Rattle.pgn_criteria.proofs.Common.{comparison_text, Comparison, Equal, Plies, For, Count}
use Rattle.pgn_criteria.specs.Public.Lines.{SpellsCompared}
use Rattle.pgn_criteria.proofs.SolidFacts.{is_solid, AreSolid, BeginsSolid, EndsSolid, all_solid}
use Rattle.pgn_criteria.proofs.SolidFacts.{solid_begins, solid_ends, begins_front, front_some}
use Rattle.pgn_criteria.proofs.SolidFacts.{word_read, word_spelled}

pub comparison_solid : (comparison : Comparison) → AreSolid (comparison_text comparison)
comparison_solid Equal = refl
comparison_solid _ = refl

comparison_some : (comparison : Comparison) → comparison_text comparison ≢ []
comparison_some Equal none = cc
comparison_some _ none = cc

pub comparison_begins : (comparison : Comparison) → BeginsSolid (comparison_text comparison)
comparison_begins comparison =
    solid_begins (comparison_text comparison) (comparison_some comparison)
    (comparison_solid comparison)

pub digit_solid : (b : ℕ) → is_digit b ≡ true → is_solid b ≡ true
digit_solid b is = grind (arith, nat_tests)

pub count_some : {most : ℕ} (digits : List ℕ) (count : ℕ) → SpellsDigits most digits count
    → digits ≢ []
count_some [] count spells none = let some : 1 ≤ 0 = spells.short.0 in omega arith
count_some (b ∷ x) count spells none = cc

pub count_begins : {most : ℕ} (digits : List ℕ) (count : ℕ) → SpellsDigits most digits count
    → BeginsSolid digits
count_begins digits count spells =
    solid_begins digits (count_some digits count spells)
    (all_solid is_digit digit_solid digits spells.digits)

pub count_ends : {most : ℕ} (digits : List ℕ) (count : ℕ) → SpellsDigits most digits count
    → EndsSolid digits
count_ends digits count spells =
    solid_ends digits (count_some digits count spells)
    (all_solid is_digit digit_solid digits spells.digits)

-- the words of the text are those of a condition with this key word
pub record IsComparedRead (key text : List ℕ) (comparison : Comparison) (count : ℕ) : Type 0 where
  pub key_is : run_of text ≡ key
  pub sign_is : run_of (after_word text) ≡ comparison_text comparison
  pub count_is : SpellsCount (after_word (after_word text)) count

pub compared_read : (key text : List ℕ) (comparison : Comparison) (count : ℕ) → AreSolid key
    → SpellsCompared key text comparison count → IsComparedRead key text comparison count
compared_read key text comparison count solid (first, second, digits, is, g, h, counted) =
    let sign = comparison_text comparison in
    let one = word_read text key first (sign
    ++ (second ++ digits)) is solid g
    (begins_front sign (second ++ digits) (comparison_begins comparison)) in
    let two = word_read (after_word text) sign second digits one.1 (comparison_solid comparison) h
    (count_begins digits count counted) in
    record {
      key_is = one.0;
      sign_is = two.0;
      count_is = subst (λ x. SpellsCount x count) (sym two.1) counted;
    }

-- and a text of such words spells it
pub compared_spelled : (key text : List ℕ) (comparison : Comparison) (count : ℕ)
    → IsComparedRead key text comparison count → SpellsCompared key text comparison count
compared_spelled key text comparison count read =
    let sign = comparison_text comparison in
    let digits = after_word (after_word text) in
    let two = word_spelled (after_word text) sign digits read.sign_is refl
    (count_some digits count read.count_is) in
    let one = word_spelled text key (sign ++ (two.0 ++ digits)) read.key_is two.1
    (front_some sign (two.0 ++ digits) (comparison_begins comparison)) in
    (one.0, two.0, digits, one.1, one.2, two.2, read.count_is)

pub plies_read : (text : List ℕ) (comparison : Comparison) (count : ℕ)
    → SpellsGame text (Plies comparison count)
    → IsComparedRead (codes "plies") text comparison count
plies_read text comparison count spells =
    compared_read (codes "plies") text comparison count refl spells

pub counted_read : (text : List ℕ) (comparison : Comparison) (count : ℕ)
    → SpellsSpan text (Count comparison count)
    → IsComparedRead (codes "count") text comparison count
counted_read text comparison count spells =
    compared_read (codes "count") text comparison count refl spells

-- a number of plies in a row
pub for_read : (text : List ℕ) (count : ℕ) → SpellsSpan text (For count)
    → (run_of text ≡ codes "for") × SpellsCount (after_word text) count × (1 ≤ count)
for_read text count (digits, (gap, is, g), counted, some) =
    let parts =
    word_read text (codes "for") gap digits is refl g (count_begins digits count counted) in
    (parts.0, subst (λ x. SpellsCount x count) (sym parts.1) counted, some)

pub for_spelled : (text digits : List ℕ) (count : ℕ) → run_of text ≡ codes "for"
    → digits ≡ after_word text → SpellsCount digits count → 1 ≤ count → SpellsSpan text (For count)
for_spelled text digits count run after counted some =
    let spelled =
    word_spelled text (codes "for") digits run (sym after) (count_some digits count counted) in
    (digits, spelled, counted, some)
