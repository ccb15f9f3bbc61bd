-- The note on bytes that are no game is about a place of the block.
use Rattle.std.proofs.Common.{◌≡◌, ℕ, ◌+◌, ◌≤◌, Bool, List, [], ◌∷◌, ◌++◌, take, drop, length, refl}
use Rattle.std.proofs.Common.{◌∙◌, arith, append_assoc, length-drop}
use Rattle.pgn_text.specs.Public.Stops.{IsLongestViablePrefix}

pub stops_within : (max_depth : ℕ) (f : Bool) (block : List ℕ) (begin agreeing : ℕ)
    → begin ≤ length block
    → IsLongestViablePrefix max_depth f (take begin block) (drop begin block) agreeing
    → begin + agreeing ≤ length block
stops_within max_depth f block begin agreeing fits stops = let w = stops.within in
    omega (arith, length-drop begin block)

-- the parts of a note, pushed one after the other
pub note_joined : (t0 t1 t2 t3 t4 t5 t6 place stopper context more : List ℕ)
    → t1 ≡ t0 ++ (32 ∷ 32 ∷ []) → t2 ≡ t1 ++ place → t3 ≡ t2 ++ stopper
    → t4 ≡ t3 ++ context → t5 ≡ t4 ++ (10 ∷ []) → t6 ≡ t5 ++ more
    → t6 ≡ t0 ++ (32 ∷ 32 ∷ (place ++ stopper ++ context) ++ 10 ∷ more)
note_joined t0 t1 t2 t3 t4 t5 t6 place stopper context more a b c d e f =
    let all : t6 ≡ (((((t0 ++ (32 ∷ 32 ∷ [])) ++ place) ++ stopper) ++ context) ++ (10 ∷ []))
    ++ more = cc in
    all ∙ shape
  where
    shape : (((((t0 ++ (32 ∷ 32 ∷ [])) ++ place) ++ stopper) ++ context) ++ (10 ∷ [])) ++ more
        ≡ t0 ++ (32 ∷ 32 ∷ (place ++ stopper ++ context) ++ 10 ∷ more)
    shape = simp append_assoc refl
