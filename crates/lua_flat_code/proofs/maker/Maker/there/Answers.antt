use Rattle.std.proofs.Common.{rules}
use mir.Val.{SFits}
use mir.Syntax.{w64}
use Rattle.std.proofs.lemmas.Int.{to_z-of_z}
use Rattle.lua_code.proofs.Views.{expression-Local, expression-Nil, expression-Truth, expression-Number, expression-Text}
use Rattle.lua_flat_code.proofs.maker.Maker.there.Goals as goal

pub returns-in-Local : goal.returns-in-Local
returns-in-Local c = rw (c.in-Local.is, expression-Local) c.variable_there.ensures

pub returns-in-Nil : goal.returns-in-Nil
returns-in-Nil c = rw (c.in-Nil.is, expression-Nil) c.constant_there.ensures

pub returns-in-Truth : goal.returns-in-Truth
returns-in-Truth c = rw (c.in-Truth.is, expression-Truth) c.constant_there-in-Truth.ensures

pub returns-in-Number : goal.returns-in-Number
returns-in-Number c = let f : SFits w64 c.in-Number.number = search rules in rw (c.in-Number.is, expression-Number) (rw (to_z-of_z w64 c.in-Number.number f) at c.constant_there-in-Number.ensures)

pub returns-in-Text : goal.returns-in-Text
returns-in-Text c = rw (c.in-Text.is, expression-Text) c.text_there.ensures
