use Rattle.std.proofs.Common.{ap, sym, ◌∙◌, ◌+◌, take, List, ℕ}
use Rattle.std.proofs.lemmas.Bool.{ne_eqb}
use Rattle.lua_format.specs.Format.{formatted, put}
use Rattle.lua_format.proofs.Formats.{run_text}
use Rattle.lua_format.proofs.formatting.take_step.Goals as goal

pub returns-clause-step : goal.returns-clause-step
returns-clause-step c =
    run_text c.args.values.now c.args.text.now c.in-Some.behind.now c.in-Some.byte c.plain_len.result c.args.at c.in-Some.ensures (ne_eqb _ 37 c.if-byte-eq37.false)
    (c.plain_len.ensures.plain c.args.values.now c.args.at)
    ∙ ap (λ (t : List ℕ). put (take (1 + c.plain_len.result) c.args.text.now) (formatted c.args.values.now t c.args.at)) (sym c.split_at.ensures.back)
    ∙ ap (λ (t : List ℕ). put t (formatted c.args.values.now c.split_at.result.1.now c.args.at)) (sym (c.plain_piece-piece.ensures ∙ c.split_at.ensures.front))
