-- The answers of functions of the library that call back nobody.
use Rattle.lua_meaning.specs.Scope.{Function, Levels}
use Rattle.lua_meaning.specs.Messages.{place_at}
use Rattle.lua_meaning.specs.Arguments as arguments
use Rattle.lua_meaning.specs.Arguments.{Plain, PlainEnd, Gives, Fails}
use Rattle.lua_lint_laws.proofs.Told.{Allowed, IsSoundHeap, Quiet, ◌>>=◌, ◌>>◌, give, tick}
use Rattle.lua_lint_laws.proofs.Heaps.{change_heap, raise_at}

pub end_act : {P : Allowed} → (end : PlainEnd) (callers : Levels) → Quiet P (arguments.end_act end callers)
end_act (Gives vs) callers = give vs
end_act (Fails v level) callers = raise_at (place_at callers level) v

pub plain_act : {P : Allowed} → (p : Plain Function) → IsSoundHeap P p.heap → (callers : Levels) → Quiet P (arguments.plain_act p callers)
plain_act p ok callers = do
  tick p.charge
  change_heap p.heap ok
  end_act p.end callers
