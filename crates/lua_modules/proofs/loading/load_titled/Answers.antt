use Rattle.std.proofs.Common.{Some, None}
use Rattle.lua_state.specs.LuaStoreParts.{IsOf}
use Rattle.lua_state.specs.LuaStackDeclaredFocusFocusTheVariants as focus
use Rattle.lua_state.specs.LuaStackDeclaredValuesGivenTheVariants as given
use Rattle.lua_state.specs.declared.turn.Turn.TheVariants as turn
use Rattle.lua_modules.proofs.Held.{item_all}
use Rattle.lua_modules.proofs.Kept.{loaded}
use Rattle.lua_modules.proofs.Parts.{on}
use Rattle.lua_modules.proofs.loading.load_titled.Goals as goal

pub returns-in-Some : goal.returns-in-Some
returns-in-Some c = λ l.
    loaded c.args.store.now c.args.store.now c.args.state.now c.args.state.now l l c.args.text.now c.args.title c.args.line (turn.On (focus.Gives (given.One c.in-Some.value))) _ (Some c.in-Some.value) c.in_ok-found.ensures c.in-Some.is
    (on c.args.store.now c.args.state.now l (focus.Gives (given.One c.in-Some.value)) c.requires.state
    (item_all (IsOf c.args.store.now) c.args.state.now.loaded c.args.title _ c.in-Some.value c.in_ok-found.ensures c.in-Some.is c.requires.state.loaded, tt))

pub returns : goal.returns
returns c = λ l.
    loaded c.args.store.now c.ask_data.new.store c.args.state.now c.ask_data.new.state l l c.args.text.now c.args.title c.args.line c.in_ok-turn-in-None.turn _ None c.in_ok-found.ensures c.in-None.is
    (c.in_ok-turn-in-None.ensures l)
