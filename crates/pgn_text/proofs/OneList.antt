-- A block has one list of pieces at most.
use Rattle.std.proofs.Common.{le_antisymm}
use Rattle.pgn_text.proofs.Common.{◌≡◌, ◌≢◌, ℕ, suc, ◌<◌, Bool, List, [], ◌∷◌, ◌++◌, length, take}
use Rattle.pgn_text.proofs.Common.{drop, refl, sym, ap, ◌∙◌, arith, append-nil, length-append}
use Rattle.pgn_text.proofs.Common.{take_at, drop_at, Part, standing_of, spelled, spelled_part}
use Rattle.pgn_text.proofs.Common.{IsGame, IsLongestGap, Piece, Game, Unreadable, ArePieces}
use Rattle.pgn_text.proofs.laws.PartLemmas.{part_has_byte}
use Rattle.pgn_text.proofs.laws.Halfway.{one_game}

-- two fronts of one text of the same length
pub same_fronts : {X : Type 0} (a b c d : List X) → length a ≡ length c → a ++ b ≡ c ++ d
    → (a ≡ c) × (b ≡ d)
same_fronts a b c d l e = (
  sym (take_at a b (length a) refl) ∙ ap (take (length a)) e ∙ take_at c d (length a) (sym l),
  sym (drop_at a b (length a) refl) ∙ ap (drop (length a)) e ∙ drop_at c d (length a) (sym l),
)

-- two longest gaps at one place have the same bytes
pub one_gap : (file_start : Bool) (before : List ℕ) (g h : List Part) (a b : List ℕ)
    → spelled g ++ a ≡ spelled h ++ b
    → IsLongestGap file_start before g a → IsLongestGap file_start before h b
    → (spelled g ≡ spelled h) × (a ≡ b)
one_gap file_start before g h a b e k l =
    same_fronts (spelled g) a (spelled h) b
    (le_antisymm (l.longest g a e k.is_gap) (k.longest h b (sym e) l.is_gap)) e

pub no_bytes : {X : Type 0} (a b : List X) → a ++ b ≡ [] → a ≡ []
no_bytes [] b e = refl
no_bytes (x ∷ a) b e = cc

pub no_more : {X : Type 0} (a b : List X) → a ++ b ≡ [] → b ≡ []
no_more [] b e = e
no_more (x ∷ a) b e = cc

-- after bytes less is left
pub shorter : (text x rest : List ℕ) (fuel : ℕ) → text ≡ x ++ rest → x ≢ [] → length text < suc fuel
    → length rest < fuel
shorter text [] rest fuel e some l = absurd (some refl)
shorter text (b ∷ x) rest fuel e some l = omega (arith, ap length e, length-append x rest)

-- a game has a byte
pub game_has_byte : (max_depth : ℕ) (file_start : Bool) (before : List ℕ) (parts : List Part)
    (after : List ℕ)
    → IsGame max_depth file_start before parts after → spelled parts ≢ []
game_has_byte max_depth file_start before [] after g e = let b = g.begins in cc
game_has_byte max_depth file_start before (p ∷ parts) after g e =
    part_has_byte (standing_of file_start before) p (spelled parts
    ++ after) g.stand.0 (no_bytes (spelled_part p)
    (spelled parts) e)

-- a longest gap to the end leaves no game and nothing unreadable
ends_there : (file_start : Bool) (before : List ℕ) (g h : List Part) (text b : List ℕ)
    → text ≡ spelled g
    → text ≡ spelled h ++ b → IsLongestGap file_start before g []
    → IsLongestGap file_start before h b → b ≡ []
ends_there file_start before g h text b e f k l =
    sym (one_gap file_start before g h [] b (append-nil (spelled g) ∙ sym e ∙ f) k l).1

pub one_list : (max_depth : ℕ) (file_start : Bool) (before : List ℕ) (xs ys : List Piece)
    (text : List ℕ)
    → ArePieces max_depth file_start before xs text → ArePieces max_depth file_start before ys text
    → xs ≡ ys
one_list max_depth file_start before [] [] text h k = refl
one_list max_depth file_start before [] (Game at parts ∷ more) text h k =
    absurd (game_has_byte max_depth file_start (before
    ++ spelled k.0) parts k.1 k.5 (no_bytes (spelled parts) k.1
    (ends_there file_start before h.0 k.0 text (spelled parts ++ k.1) h.1 k.2 h.2 k.3)))
one_list max_depth file_start before [] (Unreadable at bytes ∷ more) text h k =
    absurd (k.4 (ends_there file_start before h.0 k.0 text bytes h.1 k.1 h.2 k.2))
one_list max_depth file_start before (Game at parts ∷ more) [] text h k =
    absurd (game_has_byte max_depth file_start (before
    ++ spelled h.0) parts h.1 h.5 (no_bytes (spelled parts) h.1
    (ends_there file_start before k.0 h.0 text (spelled parts ++ h.1) k.1 h.2 k.2 h.3)))
one_list max_depth file_start before (Unreadable at bytes ∷ more) [] text h k =
    absurd (h.4 (ends_there file_start before k.0 h.0 text bytes k.1 h.1 k.2 h.2))
one_list max_depth file_start before (Game at parts ∷ more) (Game at' parts' ∷ more') text h k =
    let same =
    one_gap file_start before h.0 k.0 (spelled parts ++ h.1) (spelled parts' ++ k.1) (sym h.2
    ∙ k.2) h.3 k.3 in
    let one =
    one_game max_depth file_start (before ++ spelled k.0) (spelled parts
    ++ h.1) parts parts' h.1 k.1 refl
    same.1 (rw same.0 at h.5) k.5 in
    let at_is : at ≡ at' = h.4 ∙ ap (λ l. length (before ++ l)) same.0 ∙ sym k.4 in
    let parts_is : parts ≡ parts' = one.0 in
    let rest : more ≡ more' =
    one_list max_depth file_start ((before ++ spelled k.0) ++ spelled parts') more more' k.1
    (rw (same.0, one.0, one.1) at h.6) k.6 in
    cc
one_list max_depth file_start before (Game at parts ∷ more) (Unreadable at' bytes'
    ∷ more') text h k =
    let same =
    one_gap file_start before h.0 k.0 (spelled parts ++ h.1) bytes' (sym h.2 ∙ k.1) h.3 k.2 in
    absurd (k.5 parts h.1 (sym same.1) (rw same.0 at h.5))
one_list max_depth file_start before (Unreadable at bytes ∷ more) (Game at' parts'
    ∷ more') text h k =
    let same =
    one_gap file_start before k.0 h.0 (spelled parts' ++ k.1) bytes (sym k.2 ∙ h.1) k.3 h.2 in
    absurd (h.5 parts' k.1 (sym same.1) (rw same.0 at k.5))
one_list max_depth file_start before (Unreadable at bytes ∷ more) (Unreadable at' bytes'
    ∷ more') text h k =
    let same = one_gap file_start before h.0 k.0 bytes bytes' (sym h.1 ∙ k.1) h.2 k.2 in
    let at_is : at ≡ at' = h.3 ∙ ap (λ l. length (before ++ l)) same.0 ∙ sym k.3 in
    let bytes_is : bytes ≡ bytes' = same.1 in
    let more_is : more ≡ more' = h.6 ∙ sym k.6 in
    cc
