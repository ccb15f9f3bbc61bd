use Rattle.pgn_text.proofs.Common.{inl, refl, depth_limit, glyph_front, state_of}
use Rattle.pgn_text.specs.Private.Reading.{KeptGlyph}
use Rattle.pgn_text.proofs.PartsAt.{kept_after, none_further}
use Rattle.pgn_text.proofs.game.ReadingLemmas.{readings_of}
use Rattle.pgn_text.proofs.game.read_glyph.Goals as goal

pub returns-in-Some : goal.returns-in-Some
returns-in-Some g c =
    readings_of (g.K.TokenVisitor.kept c.args.visitor.now)
    (g.K.TokenVisitor.kept c.step_after.new.visitor)
    depth_limit (state_of c.args.progress.now) (state_of c.step_after.new.progress)
    (λ f. kept_after f c.args.block.now c.args.at 36 glyph_front c.requires.place c.requires.dollar
    (λ place rest. refl)
    (KeptGlyph c.in-Some.number) c.in-Some.end c.in-Some.ensures.within c.in-Some.ensures.found)
    refl c.step_after.result c.step_after.ensures

pub returns-in-None : goal.returns-in-None
returns-in-None g c f =
    inl (none_further f c.args.block.now c.args.at 36 glyph_front c.requires.place c.requires.dollar
    (λ place rest. refl) c.in-None.ensures.found)
