use Rattle.std.proofs.Common.{◌≡◌, ◌==◌, false, sym, subst, arith}
use Rattle.lua_pattern.specs.Read.{Next}
use Rattle.lua_pattern.specs.Reads.{IsFault}
use Rattle.lua_pattern.proofs.Nexts.{next_item}
use Rattle.lua_pattern.proofs.read.Reading.step.Goals as goal

pub returns-in-Err-read_item-clause-step : goal.returns-in-Err-read_item-clause-step
returns-in-Err-read_item-clause-step c =
    let a : (c.in-Some.symbol == 40) ≡ false = grind (arith, c.if-symbol-eq40.false) in
    let b : (c.in-Some.symbol == 41) ≡ false = grind (arith, c.if-symbol-eq41.false) in
    let P : Next → Type 0 = λ n. IsFault n c.in-Err-read_item.e in
    subst P (sym (next_item c.args.text.now c.in-Some.rest.now c.in-Some.symbol c.args.self.now c.in-Some.ensures a b))
    (c.in-Err-read_item.ensures.step c.args.self.now (sym c.as_slice-else-symbol-eq41.ensures))
