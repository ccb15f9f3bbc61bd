-- What holds of a piece, whether it is chosen or passed over.
use Rattle.pgn_extract.proofs.Common.{◌≡◌, Bool, true, false, None, not, refl, sym, ◌∙◌, IfChosen}
use Rattle.pgn_extract.specs.declared.marks.Met.{Met}

-- it is the one or the other
pub by_choice : (taken : Bool) {P Q R : Type 0} → (taken ≡ true → P → R) → (taken ≡ false → Q → R)
    → IfChosen taken P Q → R
by_choice true chosen passed has = chosen refl has
by_choice false chosen passed has = passed refl has

-- two facts of one piece
pub by_both : (taken : Bool) {P Q S T R : Type 0} → (P → S → R) → (Q → T → R) → IfChosen taken P Q
    → IfChosen taken S T → R
by_both true chosen passed has also = chosen has also
by_both false chosen passed has also = passed has also

-- one fact makes another
pub choice_of : (taken : Bool) {P Q S T : Type 0} → (P → S) → (Q → T) → IfChosen taken P Q
    → IfChosen taken S T
choice_of true chosen passed has = chosen has
choice_of false chosen passed has = passed has

-- of one that is chosen
pub if_taken : (taken : Bool) {P : Type 0} (Q : Type 0) → taken ≡ true → P → IfChosen taken P Q
if_taken true Q is has = has
if_taken false Q is has = absurd (cc)

-- of one that is passed over
pub if_passed : (taken : Bool) (P : Type 0) {Q : Type 0} → taken ≡ false → Q → IfChosen taken P Q
if_passed true P is has = absurd (cc)
if_passed false P is has = has

-- what holds of one that is chosen
pub when_taken : (taken : Bool) {P : Type 0} (Q : Type 0) → taken ≡ true → IfChosen taken P Q → P
when_taken true Q is has = has
when_taken false Q is has = absurd (cc)

pub when_passed : (taken : Bool) (P : Type 0) {Q : Type 0} → taken ≡ false → IfChosen taken P Q → Q
when_passed true P is has = absurd (cc)
when_passed false P is has = has

-- a test whether it is passed over
pub passed_by : (taken result : Bool) → result ≡ not taken → result ≡ true → taken ≡ false
passed_by true result by on = sym on ∙ by
passed_by false result by on = refl

pub taken_by : (taken result : Bool) → result ≡ not taken → result ≡ false → taken ≡ true
taken_by true result by off = refl
taken_by false result by off = sym off ∙ by

-- what a run without marks says of them
abbrev pub none_met : Met
none_met = record { count = 0; missed = None }
