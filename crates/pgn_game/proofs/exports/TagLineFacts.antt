-- The lines of tags, one after another.
use Rattle.std.specs.Prelude.{Bool, true, false, filter, if◌then◌else◌}
use Rattle.std.proofs.Common.{Vec, Global}
use Rattle.std.proofs.lemmas.List.{append_assoc, append-nil}
use Rattle.std.proofs.lemmas.List.Elements.{filter-append}
use Rattle.pgn_game.proofs.Common.{◌≡◌, ℕ, ◌+◌, ◌<◌, List, [], ◌∷◌, ◌++◌, length, take, get_or, map}
use Rattle.pgn_game.proofs.Common.{refl, sym, ap, ◌∙◌, subst, Bor, deref_pair, take_more}
use Rattle.pgn_game.proofs.Common.{map-append, tag_of, tag_in, tag_names, IsLineOf, AreLinesOf}

-- those of some names and then those of others
pub lines_join : (tags : List (List ℕ × List ℕ)) (result : List ℕ) (names more : List (List ℕ))
    (lines ends : List ℕ) → AreLinesOf tags result names lines → AreLinesOf tags result more ends
    → AreLinesOf tags result (names ++ more) (lines ++ ends)
lines_join tags result [] more lines ends are others =
    subst (λ xs. AreLinesOf tags result more (xs ++ ends)) (sym are) others
lines_join tags result (name ∷ names) more lines ends (line, rest, is, spells, are) others = (
  line,
  rest ++ ends,
  is,
  ap (λ xs. xs ++ ends) spells ∙ append_assoc line rest ends,
  lines_join tags result names more rest ends are others,
)

-- one more line
pub lines_push : (tags : List (List ℕ × List ℕ)) (result : List ℕ) (names : List (List ℕ))
    (lines name line : List ℕ)
    → AreLinesOf tags result names lines → IsLineOf result name (tag_in name tags) line
    → AreLinesOf tags result (names ++ name ∷ []) (lines ++ line)
lines_push tags result names lines name line are is =
    lines_join tags result names (name ∷ []) lines line are (
      line,
      [],
      is,
      sym (append-nil line),
      refl,
    )

-- the names so far, with the next one
pub names_more : (names : List (Bor (List ℕ))) (i : ℕ) (d : Bor (List ℕ)) → i < length names
    → map (λ name. name.now) (take (i + 1) names)
    ≡ map (λ name. name.now) (take i names) ++ (get_or names i d).now ∷ []
names_more names i d within =
    ap (map (λ name. name.now)) (take_more names i d within)
    ∙ map-append (λ (name : Bor (List ℕ)). name.now) (take i names) (get_or names i d ∷ [])

-- the names of the tags that a walk over their map has shown
abbrev pub shown_names : List (Bor (Bor (List ℕ)) × Bor (Bor (List ℕ))) → List (List ℕ)
shown_names shown = tag_names (map tag_of (map deref_pair shown))

shown_more : (shown : List (Bor (Bor (List ℕ)) × Bor (Bor (List ℕ)))) (tag : Bor (Bor (List ℕ))
    × Bor (Bor (List ℕ)))
    → shown_names (shown ++ tag ∷ []) ≡ shown_names shown ++ tag.0.now.now ∷ []
shown_more [] tag = refl
shown_more (first ∷ shown) tag = ap (λ names. first.0.now.now ∷ names) (shown_more shown tag)

-- those that pass a test, with one more that passes it
pub passed_more : (test : List ℕ
    → Bool) (shown : List (Bor (Bor (List ℕ)) × Bor (Bor (List ℕ)))) (tag : Bor (Bor (List ℕ))
    × Bor (Bor (List ℕ)))
    → test tag.0.now.now ≡ true → filter test (shown_names (shown ++ tag ∷ []))
    ≡ filter test (shown_names shown) ++ tag.0.now.now ∷ []
passed_more test shown tag passes =
    ap (filter test) (shown_more shown tag)
    ∙ filter-append test (shown_names shown) (tag.0.now.now ∷ [])
    ∙ ap (λ b. filter test (shown_names shown) ++ (if b then tag.0.now.now ∷ [] else [])) passes

-- the names that are asked for so far, with the next one
pub names_held : (names : List (Vec ℕ Global)) (i : ℕ) (d : Vec ℕ Global) → i < length names
    → map (λ name. name.items) (take (i + 1) names)
    ≡ map (λ name. name.items) (take i names) ++ (get_or names i d).items ∷ []
names_held names i d within =
    ap (map (λ name. name.items)) (take_more names i d within)
    ∙ map-append (λ (name : Vec ℕ Global). name.items) (take i names) (get_or names i d ∷ [])

-- the lines of those that pass a test, with the next name that passes it or does not
pub line_more : (tags : List (List ℕ × List ℕ)) (result : List ℕ) (test : List ℕ → Bool)
    (names more : List (List ℕ)) (lines name line : List ℕ) → more ≡ names ++ name ∷ []
    → test name ≡ true → AreLinesOf tags result (filter test names) lines
    → IsLineOf result name (tag_in name tags) line
    → AreLinesOf tags result (filter test more) (lines ++ line)
line_more tags result test names more lines name line pushed passes are is =
    subst (λ own. AreLinesOf tags result own (lines ++ line))
    (sym (ap (filter test) pushed ∙ filter-append test names (name ∷ [])
    ∙ ap (λ b. filter test names ++ (if b then name ∷ [] else [])) passes))
    (lines_push tags result (filter test names) lines name line are is)

pub line_less : (tags : List (List ℕ × List ℕ)) (result : List ℕ) (test : List ℕ → Bool)
    (names more : List (List ℕ)) (lines name : List ℕ) → more ≡ names ++ name ∷ []
    → test name ≡ false → AreLinesOf tags result (filter test names) lines
    → AreLinesOf tags result (filter test more) lines
line_less tags result test names more lines name pushed fails are =
    subst (λ own. AreLinesOf tags result own lines)
    (sym (ap (filter test) pushed ∙ filter-append test names (name ∷ [])
    ∙ ap (λ b. filter test names ++ (if b then name ∷ [] else [])) fails
    ∙ append-nil (filter test names))) are
