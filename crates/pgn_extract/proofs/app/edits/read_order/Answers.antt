-- Each name is listed after those before it, is one of a tag, and stands once.
use Rattle.std.specs.List.{list_any}
use Rattle.std.specs.Prelude.{bytes_eq, map}
use Rattle.std.proofs.lemmas.List.{map-append}
use Rattle.chess.specs.Public.Fen.{parted_at}
use Rattle.pgn_game.proofs.TagsInOrder.{among_items}
use Rattle.pgn_extract.proofs.Common.{◌≡◌, ◌∷◌, ◌++◌, [], ℕ, List, Vec, Global, refl}
use Rattle.pgn_extract.proofs.Common.{sym}
use Rattle.pgn_extract.proofs.Common.{ap, ◌∙◌, Bool}
use Rattle.pgn_extract.proofs.app.OrderLists.{is_there, lists_last, lists_on, named_twice}
use Rattle.pgn_extract.proofs.rows.ColumnFacts.{first_name}
use Rattle.pgn_extract.proofs.app.edits.read_order.Goals as goal

-- what the test of a name says of the names that were read
tested : (order seen : List (Vec ℕ Global)) (name : List ℕ) (says : Bool) → seen ≡ order
    → says ≡ list_any (λ other. bytes_eq other.items name) seen
    → is_there name (map (λ own. own.items) order) ≡ says
tested order seen name says same is =
    sym (among_items (λ (v : Vec ℕ Global). v.items) order name)
    ∙ ap (list_any (λ (v : Vec ℕ Global). bytes_eq v.items name)) (sym same) ∙ sym is

one_more : (order more : List (Vec ℕ Global)) (own : Vec ℕ Global) (name : List ℕ)
    → more ≡ order ++ own ∷ [] → own.items ≡ name
    → map (λ v. v.items) more ≡ map (λ v. v.items) order ++ name ∷ []
one_more order more own name pushed is =
    ap (map (λ (v : Vec ℕ Global). v.items)) pushed
    ∙ map-append (λ (v : Vec ℕ Global). v.items) order (own ∷ [])
    ∙ ap (λ n. map (λ (v : Vec ℕ Global). v.items) order ++ n ∷ []) is

pub returns-then-is_among : goal.returns-then-is_among
returns-then-is_among c =
    let name = c.next_name.result.0.now in
    let next = first_name c.next_name.result.1 (parted_at 44 c.loop-after.rest.now) name
    (λ rest. parted_at 44 rest.now) c.next_name.ensures in
    named_twice c.args.text.now c.loop-after.rest.now name _ next.0 c.loop-after.invariant next.1
    (tested c.loop-after.order.items _ name _ c.deref.ensures.value c.is_among.ensures
    ∙ c.if-is_among.true)

pub returns-in_default : goal.returns-in_default
returns-in_default c =
    let name = c.next_name.result.0.now in
    let parts : parted_at 44 c.loop-after.rest.now ≡ name ∷ [] =
    rw c.in_default.is at c.next_name.ensures in
    lists_last c.args.text.now c.loop-after.rest.now name _ _ c.loop-after.invariant parts
    (c.if-not-is_tag_name.ensures.0 refl)
    (tested c.loop-after.order.items _ name _ c.deref.ensures.value c.is_among.ensures
    ∙ c.if-is_among.false)
    (one_more c.loop-after.order.items _ c.in_ok-own.own name
    (rw c.if-is_err.ensures.negation at c.push.ensures.items) c.in_ok-own.ensures.items)

pub loop-after-preserved : goal.loop-after-preserved
loop-after-preserved c =
    let name = c.next_name.result.0.now in
    let parts : parted_at 44 c.loop-after.rest.now ≡ name ∷ parted_at 44 c.in-Some.after.now =
    rw c.in-Some.is at c.next_name.ensures in
    lists_on c.args.text.now c.loop-after.rest.now c.in-Some.after.now name _ _
    c.loop-after.invariant parts (c.if-not-is_tag_name.ensures.0 refl)
    (tested c.loop-after.order.items _ name _ c.deref.ensures.value c.is_among.ensures
    ∙ c.if-is_among.false)
    (one_more c.loop-after.order.items _ c.in_ok-own.own name
    (rw c.if-is_err.ensures.negation at c.push.ensures.items) c.in_ok-own.ensures.items)
