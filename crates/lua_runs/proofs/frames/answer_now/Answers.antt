use Rattle.std.specs.Prelude.{[]}
use Rattle.std.proofs.Common.{subst, sym}
use Rattle.lua_modules.specs.LuaStackDeclaredFocusFocusTheVariants as focus
use Rattle.lua_modules.specs.LuaStackOf.{ValuesOf}
use Rattle.lua_runs.proofs.Parts.{on}
use Rattle.lua_runs.proofs.frames.answer_now.Goals as goal

pub returns : goal.returns
returns c = λ l.
    rw (← c.in_ok-list.ensures, c.new.ensures)
    (on c.args.store.now c.args.state.now l (focus.Texts c.in_ok-list.list []) c.requires.state (subst (ValuesOf c.args.store.now) (sym c.in_ok-list.ensures) c.requires.values, tt))
