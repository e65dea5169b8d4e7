use Rattle.std.proofs.Common.{◌+◌, ◌∙◌, ap, sym, refl}
use Rattle.lua_lexer.specs.Lexis.{closes_long}
use Rattle.lua_lexer.proofs.Steps.{closing_later}
use Rattle.lua_print.proofs.fronts.before_closing.Goals as goal

pub loop-i-preserved : goal.loop-i-preserved
loop-i-preserved c =
    closing_later c.args.level c.args.text.now c.loop-i.i (c.loop-i.i + 1) c.loop-i-test.true refl (sym (ap (closes_long c.args.level) c.rest.ensures) ∙ sym c.closes_long.ensures ∙ c.if-closes_long.false) ∙ c.loop-i.invariant
