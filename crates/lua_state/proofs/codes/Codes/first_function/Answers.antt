use Rattle.std.proofs.Common.{ap, sym}
use Rattle.lua_code.specs.LuaSlotsCode.{Protos}
use Rattle.lua_state.proofs.FoundCode.{function_is}
use Rattle.lua_state.proofs.codes.Codes.first_function.Goals as goal

pub returns-in_ok-learn-in-Some-clause-codes : goal.returns-in_ok-learn-in-Some-clause-codes
returns-in_ok-learn-in-Some-clause-codes c = c.in_ok-learn-in-Some.ensures.codes c.args.store.now c.requires.codes (record { of = c.requires.source; code = rw c.in-Some.is at c.in_ok-code.ensures })

pub returns-in_ok-learn-in-Some-clause-found : goal.returns-in_ok-learn-in-Some-clause-found
returns-in_ok-learn-in-Some-clause-found c = function_is _ _ c.args.index _ (rw c.in-Some.is at c.in_ok-code.ensures) c.get-function.ensures

pub returns-in-None-clause-found : goal.returns-in-None-clause-found
returns-in-None-clause-found c = ap (λ (x : Protos). x.function c.args.index) (sym (rw c.in-None.is at c.in_ok-code.ensures))
