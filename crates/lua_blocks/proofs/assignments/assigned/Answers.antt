use Rattle.std.proofs.Common.{◌∙◌, ap, subst, sym, List, map}
use Rattle.std.specs.Prelude.{reverse}
use Rattle.lua_state.specs.LuaStoreDeclaredValueValue.{Value}
use Rattle.lua_state.specs.LuaSlotsPoints.{Sets, Now}
use Rattle.lua_code.specs.LuaSlotsStatements.{with_values}
use Rattle.lua_state.specs.LuaStackDeclaredFrameFound.{Found}
use Rattle.lua_state.specs.LuaStackDeclaredFocusFocusTheVariants as focus
use Rattle.lua_state.specs.LuaStackOf.{ValuesOf}
use Rattle.lua_state.specs.LuaStackSeen.{found_seen, values_seen}
use Rattle.lua_state.specs.declared.turn.Turn.TheVariants as turn
use Rattle.lua_state.specs.Makes.{Makes}
use Rattle.lua_state.specs.Seen.{slots_of, frames_of}
use Rattle.lua_blocks.proofs.Parts.{on}
use Rattle.lua_blocks.proofs.assignments.assigned.Goals as goal

pub settings-requires-clause-values : goal.settings-requires-clause-values
settings-requires-clause-values c = subst (ValuesOf c.args.store.now) (sym c.in_ok-values.ensures) c.requires.values

pub returns : goal.returns
returns c = λ l.
    subst (λ z. Makes c.args.store.now c.args.state.now l c.args.store.now c.args.state.now l (Now (Sets z (frames_of c.args.store.now c.args.state.now)) (slots_of c.args.store.now c.args.state.now)) (turn.On (focus.Sets c.in_ok-pairs.pairs)))
    (c.in_ok-pairs.ensures.pairs
    ∙ ap (λ (ts : List Found). reverse (with_values (map (found_seen c.args.store.now.texts) ts) (values_seen c.args.store.now.texts c.in_ok-values.values))) c.as_slice-found.ensures
    ∙ ap (λ (vs : List Value). reverse (with_values (map (found_seen c.args.store.now.texts) c.args.targets) (values_seen c.args.store.now.texts vs))) c.in_ok-values.ensures)
    (on c.args.store.now c.args.state.now c.args.state.now.frames l (focus.Sets c.in_ok-pairs.pairs) c.requires.state c.requires.state.frames c.in_ok-pairs.ensures.of)
