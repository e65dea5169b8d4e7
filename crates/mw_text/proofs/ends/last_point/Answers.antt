use Rattle.std.proofs.Common.{reverse, ◌++◌, ap, sym, ◌∙◌, encode_utf8}
use Rattle.mw_text.proofs.Edges.{last_is, none_left}
use Rattle.mw_text.proofs.ends.last_point.Goals as goal

pub returns-in-Some : goal.returns-in-Some
returns-in-Some c =
    last_is c.args.text.now c.as_str.result.now c.in-Some.point c.utf8.text c.as_str.utf8
    (sym c.chars-points.ensures.rest ∙ c.in-Some.ensures.steps ∙ ap (λ l. l ++ encode_utf8 c.in-Some.point) (sym c.as_str.ensures))

pub returns-in-None : goal.returns-in-None
returns-in-None c = ap reverse (none_left c.args.text.now (sym c.chars-points.ensures.len ∙ c.in-None.ensures.steps.0))
