use Rattle.std.proofs.Common.{◌≡◌, ◌∷◌, ◌++◌, [], ℕ, List, map, ap, sym, subst, ◌∙◌, arith, Vec}
use Rattle.std.proofs.Common.{Global, rules, Bor}
use Rattle.std.proofs.lemmas.List.{map-append}
use Rattle.pgn_text.specs.Public.Elements.{item_of}
use Rattle.pgn_text.specs.Public.Games.{Item}
use Rattle.pgn_text.specs.declared.game.Element.{Element}
use Rattle.pgn_text.specs.declared.game.Element.TheVariants.{Move}
use Rattle.pgn_extract.specs.Public.Annotations.{main_items, parted_at_moves}
use Rattle.pgn_extract.specs.Private.AnnotationLists.{before_first}
use Rattle.pgn_extract.proofs.entries.AnnotationFacts.{moved}
use Rattle.pgn_extract.proofs.entries.annotations.AnnotationKeeper.step.Goals as goal

pub returns-in_ok-push-in-Move : goal.returns-in_ok-push-in-Move
returns-in_ok-push-in-Move c = record {
  within = omega arith;
  kept = λ items all makes.
      let f = λ (own : Vec Element Global). map item_of own.items in
      let old = c.args.self.now in
      let pushed : map f c.push.new.self.items
      ≡ map f old.lists.items ++ map item_of old.own.items ∷ [] =
      ap (map f) c.in_ok-push-in-Move.ensures.items
      ∙ map-append f old.lists.items (c.replace-own.result ∷ [])
      ∙ ap (λ (v : Vec Element Global). map f old.lists.items ++ f v ∷ [])
      c.replace-own.ensures.value in
      let none : map item_of c.replace-own.new.dest.items ≡ [] =
      ap (λ (v : Vec Element Global). map item_of v.items) c.replace-own.ensures.after
      ∙ ap (map item_of) c.new.ensures.items in
      let outside : old.depth ≡ 0 = omega arith in
      let move : (word : Bor (List ℕ)) × (c.args.element ≡ Move word) = search rules in
      subst (λ (xs : List Item). map f c.push.new.self.items
      ++ before_first xs (parted_at_moves (main_items items old.depth)) ≡ all) (sym none)
      (moved (map f old.lists.items) (map f c.push.new.self.items) (map item_of old.own.items)
      move.0.now items all old.depth outside pushed
      (subst (λ (e : Element). map f old.lists.items
      ++ before_first (map item_of old.own.items)
      (parted_at_moves (main_items (item_of e ∷ items) old.depth)) ≡ all) move.1 makes));
}
