-- The squares on which a man has to stand and those on which he may, gathered.
use Rattle.std.proofs.Common.{◌≡◌, ◌&&◌, not, Bool, true, false, Some, refl, subst, ◌∙◌}
use Rattle.pgn_criteria.proofs.Common.{Place, same_square, Placement, man_at, Places, is_in, Man}
use Rattle.pgn_criteria.proofs.Common.{same_square-then, AreEmpty, StaysOn, StandingSquares}
use Rattle.pgn_criteria.specs.Private.Layouts.{IsRest}

still_in : (was same : Bool) → was ≡ true → (same ≡ true → ⊥) → (was && not same) ≡ true
still_in true true e other = absurd (other refl)
still_in true false e other = refl
still_in false same e other = absurd cc

-- or one less is free
pub bars : (old new : StandingSquares) (man : Man) (men : Placement) (t : Place)
    → ((s : Place) → is_in new.free s ≡ (is_in old.free s && not (same_square s t)))
    → new.wanted ≡ old.wanted
    → (man_at men t ≡ Some man → ⊥) → StaysOn old man men → StaysOn new man men
bars old new man men t put same never so = record {
  wanted = λ s here. so.wanted s (subst (λ (wanted : Places). is_in wanted s ≡ true) same here);
  free = λ s on at. put s ∙ still_in (is_in old.free s) (same_square s t) (so.free s on at)
      (λ own. never (subst (λ (s : Place). man_at men s ≡ Some man) (same_square-then s t own) at));
}

-- at first only squares that must be empty are not free
pub begins : (stand : StandingSquares) (man : Man) (men : Placement) (empty : Places)
    → ((s : Place) → is_in stand.wanted s ≡ false) → IsRest empty stand.free → AreEmpty men empty
    → StaysOn stand man men
begins stand man men empty none rest are = record {
  wanted = λ s here. absurd (cc (none s, here));
  free = λ s on at. (rest s on).1 (λ here. let no = are s here in absurd (cc (no, at)));
}
