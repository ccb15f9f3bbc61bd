use Rattle.std.specs.Prelude.{Result, Ok, Err, OnOk}
use Rattle.pgn_criteria.proofs.Common.{◌≡◌, ◌∷◌, ◌++◌, [], ℕ, List, ap, ◌∙◌, Conditions}
use Rattle.pgn_criteria.proofs.Common.{no_conditions, with_condition, alternatives_of, IsLine}
use Rattle.pgn_criteria.proofs.Common.{with_open, joined, Meaning, Or, Asks, condition_seen}
use Rattle.pgn_criteria.proofs.Common.{Condition}
use Rattle.pgn_criteria.proofs.ParseFacts.{or_added, condition_added}
use Rattle.pgn_criteria.proofs.parse.add_line.Goals as goal

-- an alternative pushed after others, and none begun
or_pushed : (done new : List Conditions) (own last begun : Conditions) → new ≡ done ++ (own ∷ [])
    → own ≡ last → begun ≡ no_conditions
    → (more : List (Meaning (List ℕ))) → with_open new begun (alternatives_of more)
    ≡ with_open done last (alternatives_of (Or ∷ more))
or_pushed done new own last begun pushed is fresh more =
    ap (λ x. with_open x begun (alternatives_of more)) (pushed ∙ ap (λ a. done ++ (a ∷ [])) is)
    ∙ ap (λ x. with_open (done ++ (last ∷ [])) x (alternatives_of more)) fresh
    ∙ or_added done last more

-- a line that asks for a condition which is added
asked : {T E : Type 0} (r : Result T E) (line : List ℕ) (condition : Condition (List ℕ))
    (done : List Conditions) (begun new : Conditions) → IsLine line (Asks condition)
    → OnOk r (new ≡ joined begun (with_condition condition no_conditions))
    → OnOk r ((means : Meaning (List ℕ)) × IsLine line means
    × ((more : List (Meaning (List ℕ))) → with_open done new (alternatives_of more)
    ≡ with_open done begun (alternatives_of (means ∷ more))))
asked (Ok t) line condition done begun new is added = (
  Asks condition,
  is,
  (λ more. ap (λ x. with_open done x (alternatives_of more)) added
      ∙ condition_added done begun condition more),
)
asked (Err e) line condition done begun new is added = tt

pub returns-in-Some-Asks : goal.returns-in-Some-Asks
returns-in-Some-Asks c =
    asked c.add.result c.args.line.now
    (condition_seen (λ bytes. bytes.now) c.in-Some-Asks.condition) c.args.alternatives.now.items
    c.args.last.now c.add.new.self (rw c.in-Some-Asks.field-0-is at c.in-Some-Asks.ensures)
    c.add.ensures

pub returns-in_ok-push-in-Some-Or : goal.returns-in_ok-push-in-Some-Or
returns-in_ok-push-in-Some-Or c = (
  Or,
  (rw c.in-Some-Or.field-0-is at c.in-Some-Or.ensures),
  or_pushed c.args.alternatives.now.items c.push.new.self.items c.in_ok-own-in-Some-Or.own
      c.args.last.now c.replace-conditions.new.dest
      c.in_ok-push-in-Some-Or.ensures.items (c.in_ok-own-in-Some-Or.ensures
      ∙ c.replace-conditions.ensures.value)
      (c.replace-conditions.ensures.after ∙ c.new.ensures),
)
