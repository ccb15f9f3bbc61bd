-- What is left of a text without its commands.
use Rattle.std.specs.Prelude.{◌&&◌}
use Rattle.std.proofs.Common.{◌||◌}
use Rattle.pgn_game.proofs.Common.{◌≡◌, ℕ, Bool, true, false, List, [], ◌∷◌, ◌++◌, refl, ap, ◌∙◌}
use Rattle.pgn_game.proofs.Common.{begins, begins_command, closes, outside, not, ◌==◌}
use Rattle.pgn_game.proofs.Common.{if◌then◌else◌}
use Rattle.pgn_game.specs.Public.Comments.{has_bracket, has_command_sign, NoCommandIsLeft}
use Rattle.pgn_game.specs.Public.Comments.{CommandIsASpace, LoneSignIsBroken, OtherTextsAreLeft}

-- no percent sign comes to the beginning of a text
first_stays : (text : List ℕ) → begins (λ c. c == 37) text ≡ false
    → begins (λ c. c == 37) (outside false text) ≡ false
first_stays [] is = refl
first_stays (b ∷ text) is = by (begins_command (b ∷ text)) (closes text)
  where
    by : (sign end : Bool) → begins (λ c. c == 37) (if sign
        then (if end then 32 ∷ outside true text else 40 ∷ outside false text)
        else b ∷ outside false text) ≡ false
    by true true = refl
    by true false = refl
    by false end = is

-- so none that a bracket stands before begins a command
stays : (own : Bool) (text : List ℕ) → (own && begins (λ c. c == 37) text) ≡ false
    → (own && begins (λ c. c == 37) (outside false text)) ≡ false
stays true text is = first_stays text is
stays false text is = refl

none_left : (inside : Bool) (text : List ℕ) → has_command_sign (outside inside text) ≡ false
none_left true [] = refl
none_left false [] = refl
none_left true (b ∷ text) = none_left (not (b == 93)) text
none_left false (b ∷ text) =
    by (begins_command (b ∷ text)) (closes text) refl (none_left true text) (none_left false text)
  where
    by : (sign end : Bool) → begins_command (b ∷ text) ≡ sign
        → has_command_sign (outside true text) ≡ false
        → has_command_sign (outside false text) ≡ false
        → has_command_sign (if sign
        then (if end then 32 ∷ outside true text else 40 ∷ outside false text)
        else b ∷ outside false text) ≡ false
    by true true is within after = within
    by true false is within after = after
    by false end is within after =
        ap (λ sign. sign || has_command_sign (outside false text)) (stays (b == 91) text is) ∙ after

pub no_command : NoCommandIsLeft
no_command text = none_left false text

pub others_left : OtherTextsAreLeft
others_left [] none = refl
others_left (b ∷ text) none =
    by (begins_command (b ∷ text)) (closes text) none (others_left text)
  where
    by : (sign end : Bool) → (sign || has_command_sign text) ≡ false
        → (has_command_sign text ≡ false → outside false text ≡ text)
        → (if sign then (if end then 32 ∷ outside true text else 40 ∷ outside false text)
        else b ∷ outside false text) ≡ b ∷ text
    by true end none later = let never : true ≡ false = none in absurd (cc)
    by false end none later = ap (λ more. b ∷ more) (later none)

-- ---- a text after one without commands

or_left : (a b : Bool) → (a || b) ≡ false → a ≡ false
or_left true b none = none
or_left false b none = refl

or_right : (a b : Bool) → (a || b) ≡ false → b ≡ false
or_right true b none = let never : true ≡ false = none in absurd (cc)
or_right false b none = none

or_true : (a : Bool) → (a || true) ≡ true
or_true true = refl
or_true false = refl

-- what follows begins no command with a bracket before it, but with a percent sign
begins_stay : (b : ℕ) (front tail : List ℕ) → begins_command (b ∷ front) ≡ false
    → begins (λ c. c == 37) tail ≡ false → begins_command (b ∷ (front ++ tail)) ≡ false
begins_stay b [] tail none first = by (b == 91)
  where
    by : (own : Bool) → (own && begins (λ c. c == 37) tail) ≡ false
    by true = first
    by false = refl
begins_stay b (c ∷ front) tail none first = none

over_front : (front tail shown : List ℕ) → has_command_sign front ≡ false
    → begins (λ c. c == 37) tail ≡ false → outside false tail ≡ shown
    → outside false (front ++ tail) ≡ front ++ shown
over_front [] tail shown none first is = is
over_front (b ∷ front) tail shown none first is =
    ap (λ sign. if sign then (if closes (front ++ tail) then 32 ∷ outside true (front ++ tail)
    else 40 ∷ outside false (front ++ tail)) else b ∷ outside false (front ++ tail))
    (begins_stay b front tail (or_left (begins_command (b ∷ front)) (has_command_sign front) none)
    first)
    ∙ ap (λ text. b ∷ text) (over_front front tail shown
    (or_right (begins_command (b ∷ front)) (has_command_sign front) none) first is)

-- a bracket after a text without brackets and commands closes one
closes_there : (body rest : List ℕ) → has_command_sign body ≡ false → has_bracket body ≡ false
    → closes (body ++ 93 ∷ rest) ≡ true
closes_there [] rest none bare = refl
closes_there (b ∷ body) rest none bare =
    ap (λ sign. b == 93 || (not sign && closes (body ++ 93 ∷ rest)))
    (begins_stay b body (93 ∷ rest)
    (or_left (begins_command (b ∷ body)) (has_command_sign body) none) refl)
    ∙ ap (λ ends. b == 93 || ends) (closes_there body rest
    (or_right (begins_command (b ∷ body)) (has_command_sign body) none)
    (or_right (b == 93) (has_bracket body) bare))
    ∙ or_true (b == 93)

past_bracket : (body rest : List ℕ) → has_bracket body ≡ false
    → outside true (body ++ 93 ∷ rest) ≡ outside false rest
past_bracket [] rest bare = refl
past_bracket (b ∷ body) rest bare =
    ap (λ own. outside (not own) (body ++ 93 ∷ rest)) (or_left (b == 93) (has_bracket body) bare)
    ∙ past_bracket body rest (or_right (b == 93) (has_bracket body) bare)

pub command_is_a_space : CommandIsASpace
command_is_a_space front body rest none within bare =
    over_front front (91 ∷ 37 ∷ (body ++ 93 ∷ rest)) (32 ∷ outside false rest) none refl
    (ap (λ ends. if ends then 32 ∷ outside true (37 ∷ (body ++ 93 ∷ rest))
    else 40 ∷ outside false (37 ∷ (body ++ 93 ∷ rest))) (closes_there body rest within bare)
    ∙ ap (λ text. 32 ∷ text) (past_bracket body rest bare))

pub lone_sign_is_broken : LoneSignIsBroken
lone_sign_is_broken front rest none lone =
    over_front front (91 ∷ 37 ∷ rest) (40 ∷ 37 ∷ outside false rest) none refl
    (ap (λ ends. if ends then 32 ∷ outside true (37 ∷ rest)
    else 40 ∷ outside false (37 ∷ rest)) lone)
