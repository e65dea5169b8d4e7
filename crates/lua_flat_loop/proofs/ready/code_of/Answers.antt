use Rattle.std.proofs.Common.{sym}
use Rattle.lua_flat_loop.proofs.ready.code_of.Goals as goal

pub returns-in-Some-function_in : goal.returns-in-Some-function_in
returns-in-Some-function_in c = record {
  home = c.in-Some.home.now;
  there = sym c.in-Some.ensures;
  function = sym c.in-Some-function_in.ensures;
  steps = c.as_slice.ensures;
  constants = c.as_slice-in-Some-function_in.ensures.value;
}
