use Rattle.std.proofs.Common.{◌++◌, ap, sym, ◌∙◌, encode_utf8}
use Rattle.std.proofs.lemmas.Str.{chars_past_char}
use Rattle.mw_text.proofs.Edges.{none_left}
use Rattle.mw_text.proofs.ends.first_point.Goals as goal

pub returns-in-Some : goal.returns-in-Some
returns-in-Some c =
    chars_past_char c.args.text.now c.as_str.result.now c.in-Some.point c.utf8.text
    (sym c.chars-points.ensures.rest ∙ c.in-Some.ensures.steps.0 ∙ ap (λ l. encode_utf8 c.in-Some.point ++ l) (sym c.as_str.ensures))

pub returns-in-None : goal.returns-in-None
returns-in-None c = none_left c.args.text.now (sym c.chars-points.ensures.len ∙ c.in-None.ensures.steps.0.0)
