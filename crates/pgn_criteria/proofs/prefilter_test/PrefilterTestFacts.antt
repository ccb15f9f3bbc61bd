-- A man who is put on a square, or goes from it, has that square more or less.
use Rattle.std.proofs.Common.{◌≡◌, ◌↔◌, ◌⊎◌, inl, inr, Bool, true, false, cond, Option, Some, None}
use Rattle.std.proofs.Common.{ℕ, zero, suc, ◌<◌, ◌≤◌, arith, refl, sym, ap, subst, ◌∙◌}
use Rattle.pgn_criteria.proofs.Common.{◌==◌, nat_tests, Place, IsOnBoard, same_square, Placement}
use Rattle.pgn_criteria.proofs.Common.{man_at, with_man, Places, is_in, IsSquaresOf, Man}
use Rattle.pgn_criteria.proofs.Common.{same_square-then, rook_from, rook_to, Side, White, Black}
use Rattle.pgn_criteria.proofs.Common.{Wing, KingSide, numbered_man, AreTaken, IsPut}
use Rattle.chess.specs.Shared.CellFacts.{man_at-same, man_at-other}
use Rattle.chess.proofs.PlaceFacts.{same_square-same}
use Rattle.chess.specs.Public.Positions.{rook_of}
use Rattle.chess.specs.Public.Moves.{with_rook}
use Rattle.pgn_game.specs.Public.PlyCodes.{man_number, numbered_castle}
use Rattle.pgn_game.proofs.PlyCodeFacts.{man_again, man_back}

at_same : (men : Placement) (man : Man) (t s : Place) (x : Option Man) (his : Bool) → IsOnBoard t
    → ((his ≡ true) ↔ (x ≡ Some man)) → s ≡ t
    → (his ≡ true) ↔ (IsOnBoard s × (man_at (with_man men t x) s ≡ Some man))
at_same men man t s x his on says same =
    let here : man_at (with_man men t x) s ≡ x =
    ap (man_at (with_man men t x)) same ∙ man_at-same men t x in
    ((λ e. (subst IsOnBoard (sym same) on, here ∙ says.0 e)), (λ h. says.1 (sym here ∙ h.1)))

by_test : (men : Placement) (man : Man) (t s : Place) (x : Option Man) (his was : Bool)
    (test : Bool) → test ≡ same_square s t → IsOnBoard t → ((his ≡ true) ↔ (x ≡ Some man))
    → ((was ≡ true) ↔ (IsOnBoard s × (man_at men s ≡ Some man)))
    → (cond test his was ≡ true) ↔ (IsOnBoard s × (man_at (with_man men t x) s ≡ Some man))
by_test men man t s x his was true e on says old =
    at_same men man t s x his on says (same_square-then s t (sym e))
by_test men man t s x his was false e on says old =
    let apart : t ≡ s → ⊥ = λ same. let no : true ≡ false =
    sym (same_square-same s s refl) ∙ ap (same_square s) (sym same) ∙ sym e in cc in
    let stays : man_at (with_man men t x) s ≡ man_at men s =
    man_at-other men t s x (λ back. apart (sym back)) in
    ((λ h. let o = old.0 h in (o.0, stays ∙ o.1)), (λ h. old.1 (h.0, sym stays ∙ h.1)))

pub is_put : (men : Placement) (man : Man) (old new : Places) (t : Place) (x : Option Man)
    (his : Bool) → IsOnBoard t → ((his ≡ true) ↔ (x ≡ Some man))
    → IsPut t his old new → IsSquaresOf men man old → IsSquaresOf (with_man men t x) man new
is_put men man old new t x his on says put are s =
    let by = by_test men man t s x his (is_in old s) (same_square s t) refl on says (are s) in
    ((λ e. by.0 (sym (put s) ∙ e)), (λ h. put s ∙ by.1 h))

never : (man : Man) → (false ≡ true) ↔ (None ≡ Some man)
never man = ((λ e. absurd cc), (λ e. absurd cc))

his_man : (his : Bool) (man own : Man) → ((his ≡ true) ↔ (man ≡ own))
    → (his ≡ true) ↔ (Some own ≡ Some man)
his_man his man own says =
    ((λ e. ap Some (sym (says.0 e))), (λ e. says.1 (let same : own ≡ man = cc in sym same)))

-- he or another goes from one square to another
pub goes : (men : Placement) (man own : Man) (from to : Place) (s1 s2 s3 : Places) (his : Bool)
    → IsOnBoard from → IsOnBoard to → ((his ≡ true) ↔ (man ≡ own))
    → IsPut from false s1 s2 → IsPut to his s2 s3 → IsSquaresOf men man s1
    → IsSquaresOf (with_man (with_man men from None) to (Some own)) man s3
goes men man own from to s1 s2 s3 his from_on to_on says p2 p3 are =
    let a2 = is_put men man s1 s2 from None false from_on (never man) p2 are in
    is_put (with_man men from None) man s2 s3 to (Some own) his to_on (his_man his man own says) p3
    a2

-- and is taken
pub is_taken : (men : Placement) (man : Man) (t : Place) (s0 s1 : Places) → IsOnBoard t
    → IsPut t false s0 s1 → IsSquaresOf men man s0 → IsSquaresOf (with_man men t None) man s1
is_taken men man t s0 s1 on p1 are = is_put men man s0 s1 t None false on (never man) p1 are

home : (s : Place) → 1 ≤ s.file → s.file ≤ 8 → 1 ≤ s.rank → s.rank ≤ 8 → IsOnBoard s
home s a b d e = record { file_low = a; file_high = b; rank_low = d; rank_high = e }

from_on_board : (side : Side) (wing : Wing) → IsOnBoard (rook_from side wing)
from_on_board White KingSide = home _ (omega arith) (omega arith) (omega arith) (omega arith)
from_on_board Black KingSide = home _ (omega arith) (omega arith) (omega arith) (omega arith)
from_on_board _ _ = home _ (omega arith) (omega arith) (omega arith) (omega arith)

to_on_board : (side : Side) (wing : Wing) → IsOnBoard (rook_to side wing)
to_on_board White KingSide = home _ (omega arith) (omega arith) (omega arith) (omega arith)
to_on_board Black KingSide = home _ (omega arith) (omega arith) (omega arith) (omega arith)
to_on_board _ _ = home _ (omega arith) (omega arith) (omega arith) (omega arith)

-- he or another castles
pub castles : (men : Placement) (man : Man) (side : Side) (wing : Wing) (s3 s4 s5 : Places)
    (his : Bool) → ((his ≡ true) ↔ (man ≡ rook_of side))
    → IsPut (rook_from side wing) false s3 s4 → IsPut (rook_to side wing) his s4 s5
    → IsSquaresOf men man s3 → IsSquaresOf (with_rook side (Some wing) men) man s5
castles men man side wing s3 s4 s5 his says p4 p5 are =
    let a4 =
    is_put men man s3 s4 (rook_from side wing) None false (from_on_board side wing) (never man)
    p4 are in
    is_put (with_man men (rook_from side wing) None) man s4 s5 (rook_to side wing)
    (Some (rook_of side)) his (to_on_board side wing) (his_man his man (rook_of side) says) p5
    a4

-- ---- numbers of men

pub no_castle : (w : ℕ) → w < 12 → numbered_castle w ≡ None
no_castle zero low = refl
no_castle (suc zero) low = refl
no_castle (suc (suc zero)) low = refl
no_castle (suc (suc (suc zero))) low = refl
no_castle (suc (suc (suc (suc zero)))) low = refl
no_castle (suc (suc (suc (suc (suc zero))))) low = refl
no_castle (suc (suc (suc (suc (suc (suc zero)))))) low = refl
no_castle (suc (suc (suc (suc (suc (suc (suc zero))))))) low = refl
no_castle (suc (suc (suc (suc (suc (suc (suc (suc zero)))))))) low = refl
no_castle (suc (suc (suc (suc (suc (suc (suc (suc (suc zero))))))))) low = refl
no_castle (suc (suc (suc (suc (suc (suc (suc (suc (suc (suc zero)))))))))) low = refl
no_castle (suc (suc (suc (suc (suc (suc (suc (suc (suc (suc (suc zero))))))))))) low = refl
no_castle (suc (suc (suc (suc (suc (suc (suc (suc (suc (suc (suc (suc w)))))))))))) low =
    absurd (omega arith)

same_number : (n w : ℕ) → ((n == w) ≡ true) ↔ (n ≡ w)
same_number n w = ((λ t. grind (arith, nat_tests)), (λ e. grind (arith, nat_tests)))

-- a man has a number if it is that of the man of that number
pub has_his_number : (man own : Man) (n number : ℕ) → man_number own None ≡ n
    → man_number man None ≡ number → ((n == number) ≡ true) ↔ (man ≡ own)
has_his_number man own n number is his = (
  λ t. sym (man_again man None tt).0
      ∙ ap numbered_man (his ∙ sym ((same_number n number).0 t) ∙ sym is)
      ∙ (man_again own None tt).0,
  λ e. (same_number n number).1 (sym is ∙ ap (λ (m : Man). man_number m None) (sym e) ∙ his),
)

-- a number that no castling king has is that of one man
pub is_his_number : (man : Man) (number w : ℕ) → w < 12 → man_number man None ≡ number
    → (w ≡ number) ↔ (man ≡ numbered_man w)
is_his_number man number w low is =
    let back : man_number (numbered_man w) None ≡ w =
    subst (λ (castle : Option Wing). man_number (numbered_man w) castle
    ≡ w) (no_castle w low) (man_back w (omega (arith, low))) in (
      λ t. sym (man_again man None tt).0 ∙ ap numbered_man (is ∙ sym t),
      λ e. sym back ∙ ap (λ (own : Man). man_number own None) (sym e) ∙ is,
    )

-- ---- squares that are known to be taken

-- a square of a set that a square is taken from or put into
less : (old new : Places) (t s : Place) → IsPut t false old new → is_in new s ≡ true
    → (is_in old s ≡ true) × (t ≡ s → ⊥)
less old new t s put here = by_test_of (same_square s t) refl (sym (put s) ∙ here)
  where
    by_test_of : (test : Bool) → test ≡ same_square s t → cond test false (is_in old s) ≡ true
        → (is_in old s ≡ true) × (t ≡ s → ⊥)
    by_test_of true e h = absurd cc
    by_test_of false e h = (
      h,
      λ same. let no : true ≡ false = sym (same_square-same s s refl)
          ∙ ap (same_square s) (sym same) ∙ sym e in cc,
    )

more : (old new : Places) (t s : Place) → IsPut t true old new → is_in new s ≡ true
    → (s ≡ t) ⊎ ((is_in old s ≡ true) × (t ≡ s → ⊥))
more old new t s put here = by_test_of (same_square s t) refl (sym (put s) ∙ here)
  where
    by_test_of : (test : Bool) → test ≡ same_square s t → cond test true (is_in old s) ≡ true
        → (s ≡ t) ⊎ ((is_in old s ≡ true) × (t ≡ s → ⊥))
    by_test_of true e h = inl (same_square-then s t (sym e))
    by_test_of false e h =
        inr (
          h,
          λ same. let no : true ≡ false =
              sym (same_square-same s s refl) ∙ ap (same_square s) (sym same) ∙ sym e in cc,
        )

-- a man is gone
pub leaves : (men : Placement) (t : Place) (old new : Places) → IsPut t false old new
    → AreTaken men old → AreTaken (with_man men t None) new
leaves men t old new put are s here =
    let so = less old new t s put here in
    let was = are s so.0 in
    (was.0, (was.1.0, man_at-other men t s None (λ back. so.1 (sym back)) ∙ was.1.1))

-- or has come
pub comes : (men : Placement) (t : Place) (own : Man) (old new : Places) → IsOnBoard t
    → IsPut t true old new → AreTaken men old → AreTaken (with_man men t (Some own)) new
comes men t own old new on put are s here = elim (more old new t s put here) [
  | inl same ↦ (
    subst IsOnBoard (sym same) on,
    (own, ap (man_at (with_man men t (Some own))) same ∙ man_at-same men t (Some own)),
  )
  | inr so ↦ let was = are s so.0 in
      (was.0, (was.1.0, man_at-other men t s (Some own) (λ back. so.1 (sym back)) ∙ was.1.1))
]

-- and left another square, which is found out last
pub comes_from : (men : Placement) (from to : Place) (own : Man) (k1 k2 k3 : Places) → IsOnBoard to
    → IsPut to true k1 k2 → IsPut from false k2 k3 → AreTaken men k1
    → AreTaken (with_man (with_man men from None) to (Some own)) k3
comes_from men from to own k1 k2 k3 on put_to put_from are s here =
    let so = less k2 k3 from s put_from here in
    elim (more k1 k2 to s put_to so.0) [
      | inl same ↦ (
        subst IsOnBoard (sym same) on,
        (
          own,
          ap (man_at (with_man (with_man men from None) to (Some own))) same
              ∙ man_at-same (with_man men from None) to (Some own),
        ),
      )
      | inr old ↦
          let was = are s old.0 in (
            was.0,
            (
              was.1.0,
              man_at-other (with_man men from None) to s (Some own) (λ back. old.1 (sym back))
                  ∙ man_at-other men from s None (λ back. so.1 (sym back)) ∙ was.1.1,
            ),
          )
    ]

-- a rook has castled
pub rook_settles : (men : Placement) (side : Side) (wing : Wing) (k1 k2 k3 : Places)
    → IsPut (rook_from side wing) false k1 k2 → IsPut (rook_to side wing) true k2 k3
    → AreTaken men k1 → AreTaken (with_rook side (Some wing) men) k3
rook_settles men side wing k1 k2 k3 p1 p2 are =
    comes (with_man men (rook_from side wing) None) (rook_to side wing) (rook_of side) k2 k3
    (to_on_board side wing) p2 (leaves men (rook_from side wing) k1 k2 p1 are)
