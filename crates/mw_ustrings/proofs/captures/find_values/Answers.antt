use Rattle.std.proofs.Common.{◌∙◌, ap, ◌∷◌, ◌++◌, map}
use Rattle.mw_frame_texts.specs.LuaMeaningUstring.{place_value, last_value, capture_value}
use Rattle.mw_ustrings.proofs.captures.find_values.Goals as goal

pub add_captures-requires-clause-of : goal.add_captures-requires-clause-of
add_captures-requires-clause-of c = c.in_ok-values.ensures.of c.args.store.now

pub add_captures-requires-clause-places : goal.add_captures-requires-clause-places
add_captures-requires-clause-places c = rw c.as_slice.ensures c.requires.captures

pub returns-clause-values : goal.returns-clause-values
returns-clause-values c =
    c.in_ok-add_captures.ensures.values ∙ ap (λ vs. vs ++ map (capture_value c.args.s.now) c.as_slice.result.now) (c.in_ok-values.ensures.values c.args.store.now.texts)
    ∙ ap (λ cs. place_value c.args.s.now c.args.found.now.start ∷ (last_value c.args.s.now c.args.found.now.end ∷ map (capture_value c.args.s.now) cs)) c.as_slice.ensures
