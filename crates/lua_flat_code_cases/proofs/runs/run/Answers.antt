use Rattle.std.proofs.Common.{sym, subst, arith}
use Rattle.lua_flat_loop.specs.LuaStackOf.{MayBeClosureOf}
use Rattle.lua_flat_code_cases.proofs.runs.run.Goals as goal

pub go-halt-requires : goal.go-halt-requires
go-halt-requires c = record {
  modules = (c.in_ok-module.ensures.of, tt);
  globals = omega (arith, c.in_ok-globals.ensures.of, c.in_ok-title.ensures.later.tables, c.in_ok-module.ensures.later.tables);
  regs = c.requires c.prepare.new.store;
  act = subst (λ k. MayBeClosureOf c.prepare.new.store k) (sym c.first_place-at.ensures.plain) tt;
  acts = tt;
  waiting = omega (arith, c.first_place-at.ensures.alone);
  within = omega (arith, c.first_place-at.ensures.steps);
}
