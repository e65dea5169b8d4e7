use Rattle.std.proofs.Common.{◌≡◌, ◌∙◌, [], sym}
use Rattle.std.proofs.lemmas.Bool.{eqb-true}
use Rattle.lua_flat_code.proofs.Handed.{nothing_left}
use Rattle.lua_flat_code.specs.Making.{state_of}
use Rattle.lua_flat_code.proofs.FunctionLaws.{said_code}
use Rattle.lua_flat_code.proofs.maker.Maker.code.Goals as goal

pub returns : goal.returns
returns c =
    let none : (state_of c.emit.new.self).breaks ≡ [] = sym c.as_slice-3.ensures ∙ nothing_left _ (eqb-true _ _ (sym c.is_empty.ensures ∙ c.if-not-is_empty.false)) in
    said_code _ _ _ _ _ _ _ _ _ _ c.as_slice.ensures c.in_ok-free.ensures c.as_slice-2.ensures c.in_ok-statements.ensures c.in_ok-count.ensures c.in_ok-emit.ensures none
