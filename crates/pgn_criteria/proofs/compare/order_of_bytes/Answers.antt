use Rattle.std.specs.Ordering.{nat_cmp}
use Rattle.std.proofs.lemmas.Iterator.Search.{cmp_from_yields_List}
use Rattle.std.proofs.lemmas.Iterator.Consumers.{YieldsList-from_first}
use Rattle.pgn_criteria.proofs.Common.{◌≡◌, refl, ◌∙◌, value_of, one_value}
use Rattle.pgn_criteria.proofs.compare.order_of_bytes.Goals as goal

pub returns : goal.returns
returns c =
    let first : c.value.result ≡ value_of c.args.given.now = one_value _ _ _ c.value.ensures.1 in
    let second : c.value-2.result ≡ value_of c.args.text.now =
    one_value _ _ _ c.value-2.ensures.1 in
    cmp_from_yields_List (λ x y. y ≡ x) _ nat_cmp _ c.cmp.ensures.ran
    (YieldsList-from_first (λ x. x) (λ bytes. bytes) (value_of c.args.given.now) first)
    (λ it is. YieldsList-from_first (λ x. x) (λ bytes. bytes) (value_of c.args.text.now) (is
    ∙ second))
    (λ x y. refl)
