-- A word names one legal move alone, or is refused, and is refused in one way.
use Rattle.pgn_game.proofs.Common.{◌≡◌, ℕ, ◌+◌, List, sym, ap, ◌∙◌, State, IsOnlyNamed, Move, Fault}
use Rattle.pgn_game.proofs.Common.{BadStart, IllegalMove, AmbiguousMove, NamesSeveral}
use Rattle.pgn_game.proofs.Common.{IsRefusedWord}

-- a word that names one legal move alone is not refused
pub named_or_refused : (now : State) (plies : ℕ) (word : List ℕ) (m : Move) (fault : Fault)
    → IsOnlyNamed now word m → IsRefusedWord now plies word fault → ⊥
named_or_refused now plies word m BadStart named refused = refused
named_or_refused now plies word m (IllegalMove reports ply) named refused = refused.2 m named.named
named_or_refused now plies word m (AmbiguousMove reports ply) named refused =
    let several : NamesSeveral now word = refused.2 in
    several.4 (named.only several.0 several.2 ∙ sym (named.only several.1 several.3))

same_told : (make : List ℕ → ℕ → Fault) (reports other word : List ℕ) (ply place plies : ℕ)
    → reports ≡ word → ply ≡ plies + 1 → other ≡ word → place ≡ plies + 1
    → make reports ply ≡ make other place
same_told make reports other word ply place plies a b c d =
    ap (λ w. make w ply) (a ∙ sym c) ∙ ap (make other) (b ∙ sym d)

pub one_refused : (now : State) (plies : ℕ) (word : List ℕ) (fault other : Fault)
    → IsRefusedWord now plies word fault → IsRefusedWord now plies word other → fault ≡ other
one_refused now plies word BadStart other a b = absurd a
one_refused now plies word (IllegalMove reports ply) BadStart a b = absurd b
one_refused now plies word (IllegalMove reports ply) (IllegalMove again place) a b =
    same_told IllegalMove reports again word ply place plies a.0 a.1 b.0 b.1
one_refused now plies word (IllegalMove reports ply) (AmbiguousMove again place) a b =
    absurd (a.2 b.2.0 b.2.2)
one_refused now plies word (AmbiguousMove reports ply) BadStart a b = absurd b
one_refused now plies word (AmbiguousMove reports ply) (IllegalMove again place) a b =
    absurd (b.2 a.2.0 a.2.2)
one_refused now plies word (AmbiguousMove reports ply) (AmbiguousMove again place) a b =
    same_told AmbiguousMove reports again word ply place plies a.0 a.1 b.0 b.1
