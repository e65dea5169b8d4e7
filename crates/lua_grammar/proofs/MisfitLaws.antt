-- Trees that no text spells.
use Rattle.std.proofs.Common.{◌≡◌, true, false, arith, true≢false, sym}
use Rattle.lua_grammar.specs.Facts.{FitsExp}
use Rattle.lua_grammar.specs.Misfits.{BreaksAreInLoops, DotsAreOfTheirFunction, NumeralsAreInRange, StatementsAreWhole, NodesAreFew, MisfitsAreRefused}

no_loop : false ≡ true → ⊥
no_loop e = true≢false (sym e)

breaks : BreaksAreInLoops
unfolding FitsExp
breaks = ((λ h. no_loop h.0.1), (λ h. no_loop h.0.2.0.1.0.1.0.1), (λ h. h.0.2.1 tt))

dots : DotsAreOfTheirFunction
unfolding FitsExp
dots h = no_loop h.0.1.0.1.0.1.0.1

numerals : NumeralsAreInRange
unfolding FitsExp
numerals = ((λ h. h.0.1.0.1), (λ h. omega (arith, h.0.1.0.1)))

statements : StatementsAreWhole
unfolding FitsExp
statements = ((λ h. h.0.1.0), (λ h. h.0.2), (λ h. h.0.3), (λ h. h.0.1), (λ h. h.0.1), (λ h. h.0.1), (λ h. h.0.1))

nodes : NodesAreFew
unfolding FitsExp
nodes h = omega (arith, h)

pub misfits_are_refused : MisfitsAreRefused
misfits_are_refused = (breaks, dots, numerals, statements, nodes)
