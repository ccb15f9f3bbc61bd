-- The head of a record shows its game, and a name is read as it was written.
use Rattle.std.proofs.Common.{◌≡◌, ℕ, zero, suc, ◌+◌, ◌*◌, ◌/◌, ◌%◌, ◌^◌, ◌<◌, ◌==◌, Bool, true}
use Rattle.std.proofs.Common.{false, List, ◌++◌, length, Option, Some, None, Ok, refl, sym, ap}
use Rattle.std.proofs.Common.{subst, ◌∙◌, arith, inl, inr}
use Rattle.pgn_game.proofs.Common.{IfSome, is_some, IsResult, marks_number, head_of, name_bytes}
use Rattle.pgn_game.proofs.Common.{named_number, result_number, numbered_result, text_at, name_at}
use Rattle.pgn_game.specs.Public.Laws.{HeadIsReadBack}
use Rattle.pgn_game.proofs.PlyCodeFacts.{first_mark, second_mark}
use Rattle.pgn_game.proofs.RecordFields.{IsBytes, Takes, bind_ok, ok_is, text_takes, text_again}

-- ---- the result

pub result_is_below : (result : List ℕ) → IsResult result → result_number result < 4
result_is_below result (inl e) = rw e (omega arith)
result_is_below result (inr (inl e)) = rw e (omega arith)
result_is_below result (inr (inr (inl e))) = rw e (omega arith)
result_is_below result (inr (inr (inr e))) = rw e (omega arith)

abbrev back : List ℕ → List ℕ
back result = numbered_result (result_number result)

-- the result with a result's number is that result
pub result_again : (result : List ℕ) → IsResult result
    → numbered_result (result_number result) ≡ result
result_again result (inl e) = ap back e ∙ sym e
result_again result (inr (inl e)) = ap back e ∙ sym e
result_again result (inr (inr (inl e))) = ap back e ∙ sym e
result_again result (inr (inr (inr e))) = ap back e ∙ sym e

-- each number below 4 is that of a result
pub result_taken : (n : ℕ) → n < 4 → IsResult (numbered_result n)
    × (result_number (numbered_result n) ≡ n)
result_taken zero lt = (inr (inr (inr refl)), refl)
result_taken (suc zero) lt = (inl refl, refl)
result_taken (suc (suc zero)) lt = (inr (inl refl), refl)
result_taken (suc (suc (suc zero))) lt = (inr (inr (inl refl)), refl)
result_taken (suc (suc (suc (suc n)))) lt = absurd (omega arith)

-- ---- the name

-- what is read of a name
abbrev IsNameRead : Bool → List ℕ → Option (List ℕ) × List ℕ → Type 0
IsNameRead is_named bytes x = Takes bytes (name_bytes x.0) x.1
    × IfSome x.0 (λ name. length name < 2 ^ 32) × (is_some x.0 ≡ is_named)

pub name_takes : (is_named : Bool) (bytes : List ℕ) (name : Option (List ℕ)) (rest : List ℕ)
    → IsBytes bytes → name_at is_named bytes ≡ Ok (name, rest)
    → Takes bytes (name_bytes name) rest × IfSome name (λ own. length own < 2 ^ 32)
    × (is_some name ≡ is_named)
name_takes false bytes name rest fits e =
    let own : IsNameRead false bytes (None, bytes) =
    (record { parts = refl; rest_fits = fits }, tt, refl) in
    subst (IsNameRead false bytes) (ok_is (None, bytes) (name, rest) e) own
name_takes true bytes name rest fits e =
    let b = bind_ok (text_at bytes) (λ t. Ok (Some t.0, t.1)) (name, rest) e in
    let t = text_takes bytes b.0.0 b.0.1 fits b.1 in
    let own : IsNameRead true bytes (Some b.0.0, b.0.1) = (t.0, t.1, refl) in
    subst (IsNameRead true bytes) (ok_is (Some b.0.0, b.0.1) (name, rest) b.2) own

pub name_again : (name : Option (List ℕ)) (rest : List ℕ) → IfSome name (λ own. length own < 2 ^ 32)
    → name_at (is_some name) (name_bytes name ++ rest) ≡ Ok (name, rest)
name_again None rest fits = refl
name_again (Some name) rest fits = rw (text_again name rest fits) refl

pub named_below : (name : Option (List ℕ)) → named_number name < 2
named_below None = omega arith
named_below (Some name) = omega arith

named_taken : (name : Option (List ℕ)) (n : ℕ) → n < 2 → is_some name ≡ (n == 1)
    → named_number name ≡ n
named_taken None zero lt e = refl
named_taken None (suc zero) lt e = absurd cc
named_taken None (suc (suc n)) lt e = absurd (omega arith)
named_taken (Some name) zero lt e = absurd cc
named_taken (Some name) (suc zero) lt e = refl
named_taken (Some name) (suc (suc n)) lt e = absurd (omega arith)

named_again : (name : Option (List ℕ)) → (named_number name == 1) ≡ is_some name
named_again None = refl
named_again (Some name) = refl

-- ---- the head

pub mark_below : (check stuck : Bool) → marks_number check stuck < 4
mark_below true true = omega arith
mark_below false true = omega arith
mark_below _ _ = omega arith

head_whole : (h : ℕ) → 32 * (h / 32) + 16 * (h / 16 % 2) + 4 * (h / 4 % 4) + h % 4 ≡ h
head_whole h = omega arith

-- the parts of a head make it
pub head_taken : (h count marks : ℕ) (name : Option (List ℕ)) → count ≡ h / 32
    → is_some name ≡ (h / 16 % 2 == 1) → marks ≡ h % 4
    → 32 * count + 16 * named_number name + 4 * result_number (numbered_result (h / 4 % 4)) + marks
    ≡ h
head_taken h count marks name count_is named marks_are =
    let name_is : named_number name ≡ h / 16 % 2 =
    named_taken name (h / 16 % 2) (omega arith) named in
    let result_is = (result_taken (h / 4 % 4) (omega arith)).1 in
    rw (count_is, name_is, result_is, marks_are) (head_whole h)

record Parts (t n r m h : ℕ) : Type 0 where
  count : h / 32 ≡ t
  named : h / 16 % 2 ≡ n
  result : h / 4 % 4 ≡ r
  check : h % 2 ≡ m % 2
  stuck : h / 2 % 2 ≡ m / 2

parts : (t n r m h : ℕ) → n < 2 → r < 4 → m < 4 → h ≡ 32 * t + 16 * n + 4 * r + m → Parts t n r m h
parts t n r m h name result mark is =
    record {
      count = omega arith;
      named = omega arith;
      result = omega arith;
      check = omega arith;
      stuck = omega arith;
    }

-- the head of a record shows its game
pub head_shows : HeadIsReadBack
head_shows game fits =
    let marks = mark_below game.check game.stuck in
    let own =
    parts (length game.tags) (named_number game.name) (result_number game.result)
    (marks_number game.check game.stuck) (head_of game) (named_below game.name)
    (result_is_below game.result fits.result) marks refl in
    record {
      count = own.count;
      named = ap (λ (n : ℕ). n == 1) own.named ∙ named_again game.name;
      result = ap numbered_result own.result ∙ result_again game.result fits.result;
      check = ap (λ (n : ℕ). n == 1) own.check ∙ first_mark game.check game.stuck;
      stuck = ap (λ (n : ℕ). n == 1) own.stuck ∙ second_mark game.check game.stuck;
    }
