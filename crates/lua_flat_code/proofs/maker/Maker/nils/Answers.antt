use Rattle.std.proofs.Common.{◌≡◌, subst, sym, arith}
use Rattle.std.proofs.lemmas.Result.{on_ok_weaker}
use Rattle.lua_flat.specs.LuaSlotsCode.{NoC}
use Rattle.lua_flat_code.specs.Making.{state_of}
use Rattle.lua_flat_code.specs.Parts.{ExactSaid}
use Rattle.lua_flat_code.proofs.ListLaws.{exact_no_more, exact_absent}
use Rattle.lua_flat_code.proofs.maker.Maker.nils.Goals as goal

pub returns-then-count-gt0 : goal.returns-then-count-gt0
returns-then-count-gt0 c = on_ok_weaker c.emit.result (λ e. subst (ExactSaid c.args.to NoC c.args.count (state_of c.args.self.now)) (sym e) (exact_absent _ _ _ _ _ c.in_ok-take.ensures.1)) c.emit.ensures

pub returns : goal.returns
returns c =
    let none : c.args.count ≡ 0 = omega (arith, c.if-count-gt0.false) in
    subst (λ n. ExactSaid c.args.to NoC n (state_of c.args.self.now) (state_of c.args.self.now)) (sym none) (exact_no_more _ _)
