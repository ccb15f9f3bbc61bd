-- Which edits the definitions of the options ask for, and which they do not.
use Rattle.std.specs.Borrow.{Bor}
use Rattle.std.specs.List.{Contains}
use Rattle.std.specs.Prelude.{bytes_eq, codes, flat_map, ◌≢◌}
use Rattle.pgn_extract.proofs.Common.{◌≡◌, ◌∷◌, [], ℕ, List, None, Some, true, false, refl, sym}
use Rattle.pgn_extract.proofs.Common.{inl, inr, ap, ◌∙◌, arith, subst}
use Rattle.pgn_game.specs.Public.Edits.{EditedTag, Edits}
use Rattle.pgn_text.specs.Public.Strings.{IsContents, Single, Escaped}
use Rattle.pgn_game.specs.Public.TagLines.{escaped}
use Rattle.pgn_extract.proofs.app.EditTexts.{not_parted}
use Rattle.pgn_extract.specs.Public.AskedEdits.{IsDropped, IsOfStart, IsParted, IsSet}
use Rattle.pgn_extract.specs.Public.AskedEdits.{AreAskedEdits, has_edits, results_fixed}
use Rattle.pgn_extract.specs.Public.AskedEdits.{IsDropFault, IsOrder, IsOrderFault, IsOrderIn}
use Rattle.pgn_extract.specs.Public.AskedEdits.{IsSetFault}
use Rattle.pgn_extract.specs.Public.Columns.{AreDistinct, IsTagName}
use Rattle.pgn_extract.specs.declared.app.command.Request.{Request}
use Rattle.pgn_extract.specs.declared.app.edits.EditFault.TheVariants as fault

-- a text is parted at its first sign, and nowhere else
parted : IsParted (codes "A=B=C") (codes "A") (codes "B=C")
    × (IsParted (codes "A=B=C") (codes "A=B") (codes "C") → ⊥)
    × (IsParted (codes "A=") (codes "A") [])
parted = ((refl, refl), (λ is. let no = is.1 in cc), (refl, refl))

-- a value is written as a string has it
a_source : IsSet (codes "Source=a\"b") (record {
  name = codes "Source";
  contents = Some (codes "a\\\"b");
})
a_source = record {
  name = codes "Source";
  value = codes "a\"b";
  parted = (refl, refl);
  named = ((λ is. cc), refl);
  start = λ is. elim is [
    | inl fen ↦ let differ = ap (λ name. bytes_eq name (codes "FEN")) fen in cc
    | inr set ↦ let differ = ap (λ name. bytes_eq name (codes "SetUp")) set in cc
  ];
  result = λ is. let differ = ap (λ name. bytes_eq name (codes "Result")) is in cc;
  contents = (Single 97 ∷ Escaped 34 ∷ Single 98 ∷ [], refl, refl);
  gives = refl;
}

-- no text asks for an end of the game, or for a start
no_end : (text : List ℕ) (edit : EditedTag) → IsSet text edit → edit.name ≢ codes "Result"
no_end text edit is same = is.result (sym (ap (λ (e : EditedTag). e.name) is.gives) ∙ same)

no_start : (text : List ℕ) (edit : EditedTag) → IsSet text edit → IsOfStart edit.name → ⊥
no_start text edit is start = is.start (elim start [
  | inl fen ↦ inl (sym (ap (λ (e : EditedTag). e.name) is.gives) ∙ fen)
  | inr set ↦ inr (sym (ap (λ (e : EditedTag). e.name) is.gives) ∙ set)
])

no_start_dropped : (edit : EditedTag) → (IsDropped (codes "FEN") edit → ⊥)
    × (IsDropped (codes "SetUp") edit → ⊥) × (IsDropped [] edit → ⊥)
no_start_dropped edit = (
  (λ is. is.0.1 (inl refl)),
  (λ is. is.0.1 (inr refl)),
  (λ is. is.0.0.0 refl),
)

-- results are fixed where that is asked for
fixed : (results_fixed true ≡ record { name = codes "Result"; contents = None } ∷ [])
    × (results_fixed false ≡ [])
fixed = (refl, refl)

-- none is made unasked
unasked : (request : Request) → has_edits request ≡ true → AreAskedEdits request None → ⊥
unasked request has none = let no = sym has ∙ none in cc

-- plies are counted where that is asked for, and not unasked
counted : (request : Request) → has_edits (record request { fix_results = false; plycount = true })
    ≡ true
counted request = refl

uncounted : (request : Request) (edits : Edits) → edits.counts_plies ≡ true
    → request.plycount ≡ false → AreAskedEdits request (Some edits) → ⊥
uncounted request edits counts unasked (drops, sets, dropped, set, is, asked) =
    let no = sym counts ∙ asked.plies ∙ unasked in cc

-- games end, and tags stand first, where that is asked for
unended : (request : Request) (edits : Edits) → edits.last_ply ≡ Some 3
    → request.to_ply ≡ None → AreAskedEdits request (Some edits) → ⊥
unended request edits ends unasked (drops, sets, dropped, set, is, asked) =
    let no = sym ends ∙ asked.last ∙ unasked in cc

unordered : (request : Request) (edits : Edits) → edits.order ≢ [] → request.order ≡ None
    → AreAskedEdits request (Some edits) → ⊥
unordered request edits some unasked (drops, sets, dropped, set, is, asked) =
    some (subst (λ given. IsOrderIn given edits.order) unasked asked.order)

-- a list has no name that is none of a tag, and none twice
no_empty_name : (names : List (List ℕ)) → IsOrder (codes "A,,B") names → ⊥
no_empty_name names is = (is.named [] (subst (λ xs. Contains xs []) (sym is.parts)
    (1, omega arith, refl))).0 refl

no_name_twice : (names : List (List ℕ)) → IsOrder (codes "A,A") names → ⊥
no_name_twice names is =
    (subst AreDistinct is.parts is.distinct).0 (0, omega arith, refl)

-- one name is a list, and no fault is found in it
one_name : (word : Bor (List ℕ)) → word.now ≡ codes "A"
    → (IsOrderFault (codes "A") (fault.NoOrder word) → ⊥)
    × (IsOrderFault (codes "A") (fault.NoName word) → ⊥)
one_name word is = (
  (λ wrong. wrong.1 (subst IsTagName (sym is) ((λ same. cc), refl))),
  (λ wrong. wrong),
)

-- a text without a sign sets nothing, and neither does one without a name or a value of a string
no_sign : (edit : EditedTag) → IsSet (codes "Source") edit → ⊥
no_sign edit is = not_parted (codes "Source") [] is.name is.value refl refl is.parted

no_name : (text : List ℕ) (edit : EditedTag) → IsSet text edit → edit.name ≢ []
no_name text edit is same = is.named.0 (sym (ap (λ (e : EditedTag). e.name) is.gives) ∙ same)

no_value : (text : List ℕ) (edit : EditedTag) → IsSet text edit → edit.contents ≢ None
no_value text edit is none =
    let some = sym (ap (λ (e : EditedTag). e.contents) is.gives) ∙ none in cc

no_string : (text : List ℕ) (edit : EditedTag) (is : IsSet text edit)
    → (IsContents (flat_map escaped is.value) → ⊥) → ⊥
no_string text edit is none = none is.contents

-- no fault is found in a name of a tag, or in a text with a sign
no_fault_of_a_name : (word : Bor (List ℕ))
    → (IsDropFault (codes "Source") (fault.NoName word) → ⊥)
    × (IsDropFault (codes "Source") (fault.Start word) → ⊥)
    × (IsDropFault (codes "Source") fault.Result → ⊥)
no_fault_of_a_name word = (
  (λ is. is.1 ((λ same. cc), refl)),
  (λ is. elim is.1 [
    | inl fen ↦ let differ = ap (λ name. bytes_eq name (codes "FEN")) fen in cc
    | inr set ↦ let differ = ap (λ name. bytes_eq name (codes "SetUp")) set in cc
  ]),
  (λ is. is),
)

no_missing_sign : (word : Bor (List ℕ)) → IsSetFault (codes "Source=x") (fault.NoValue word) → ⊥
no_missing_sign word is = is.1 (codes "Source") (codes "x") (refl, refl)
