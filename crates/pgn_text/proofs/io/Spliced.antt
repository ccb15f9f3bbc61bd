-- What a read into the room after some bytes leaves.
use Rattle.std.proofs.lemmas.List.{take-take}
use Rattle.pgn_text.proofs.Common.{◌≡◌, ℕ, ◌+◌, ◌≤◌, List, ◌++◌, length, take, sym, ap, ◌∙◌}
use Rattle.pgn_text.proofs.Common.{append_assoc, take-append-le, take-append-add}

-- of the room after `old` the first n bytes were filled, and the rest was cut off
pub spliced : (old new front filled post rest : List ℕ) (held size n : ℕ) → front ≡ old
    → length old ≡ held → n ≤ length filled → held + n ≤ size
    → new ≡ take (held + n) (take size ((front ++ (filled ++ post)) ++ rest))
    → new ≡ old ++ take n filled
spliced old new front filled post rest held size n is long some room cut =
    let tail = post ++ rest in
    let shape : (front ++ (filled ++ post)) ++ rest ≡ old ++ (filled ++ tail) =
    append_assoc front (filled ++ post) rest ∙ ap (λ t. front ++ t) (append_assoc filled post rest)
    ∙ ap (λ f. f ++ (filled ++ tail)) is in
    cut ∙ take-take (held + n) size ((front ++ (filled ++ post)) ++ rest) room
    ∙ ap (take (held + n)) shape
    ∙ ap (λ k. take (k + n) (old ++ (filled ++ tail))) (sym long)
    ∙ take-append-add old (filled ++ tail) n
    ∙ ap (λ t. old ++ t) (take-append-le n filled tail some)
