use Rattle.std.proofs.Common.{sym, subst, ◌∷◌, None, List}
use Rattle.std.specs.Prelude.{IfOk}
use Rattle.lua_code.specs.LuaHeapValue.{Value as Plain, Table}
use Rattle.lua_modules.specs.LuaMeaningPending.{GsubWaits}
use Rattle.lua_code.specs.LuaMeaningValues.{first}
use Rattle.lua_modules.specs.LuaSlotsCalls.{call}
use Rattle.lua_code.specs.LuaSlotsGsub.{asks}
use Rattle.lua_code.specs.LuaSlotsIndex.{index}
use Rattle.lua_modules.specs.LuaSlotsPoints.{Waits, Move}
use Rattle.lua_tables.specs.LuaStoreDeclaredValueValue.{Value}
use Rattle.lua_tables.specs.LuaStoreSeen.{seen}
use Rattle.lua_modules.proofs.LuaStackOpenings.{first_of}
use Rattle.lua_modules.specs.LuaStackSeen.{values_seen}
use Rattle.lua_modules.specs.LuaStateMakes.{Makes}
use Rattle.lua_modules.specs.LuaStateSeen.{slots_of, frames_of}
use Rattle.lua_acts.proofs.Lists.{with_first}
use Rattle.lua_gsubs.specs.LuaReplacingDeclaredJobReplacer.{Replacer}
use Rattle.lua_gsubs.specs.LuaReplacingDeclaredJobReplacing.{Replacing}
use Rattle.lua_gsubs.specs.LuaReplacingSeen.{replacer_seen, replacing_seen}
use Rattle.lua_calls.proofs.Replaces.{each_made}
use Rattle.lua_calls.proofs.gsubs.ask.Goals as goal

pub index_and_wait-requires-clause-key : goal.index_and_wait-requires-clause-key
index_and_wait-requires-clause-key c = first_of c.args.store.now c.args.captures c.first-key.result (rw c.of_list-captures.ensures at c.first-key.ensures) c.requires.captures

pub returns-in-Table : goal.returns-in-Table
returns-in-Table c =
    let s = c.args.store.now in
    let m = c.args.state.now in
    let l = c.args.left.now in
    let t = c.index_and_wait.new.store in
    let n = c.index_and_wait.new.state in
    let k = c.index_and_wait.new.left in
    let r = c.index_and_wait.result in
    let key = rw c.of_list-captures.ensures at c.first-key.ensures in
    let at : Replacing → Plain → Move = λ w v. index (Table c.in-Table.table.at) v None (Waits (GsubWaits (replacing_seen s.texts w)) c.args.line ∷ frames_of s m) (slots_of s m) in
    let made = subst (λ (w : Replacing). IfOk r (Makes s m l t n k (at w (seen s.texts c.first-key.result)))) c.in-Ok.ensures.ok c.index_and_wait.ensures in
    subst (λ (x : Replacer). IfOk r (Makes s m l t n k (asks (replacer_seen s.texts x) (values_seen s.texts c.args.captures) (Waits (GsubWaits (replacing_seen s.texts c.args.waits)) c.args.line ∷ frames_of s m) (slots_of s m)))) (sym c.in-Table.is)
    (each_made s s t m m n l l k (at c.args.waits (first (values_seen s.texts c.args.captures))) (at c.args.waits (seen s.texts c.first-key.result)) r
    (λ x. with_first s t m n l k x c.args.captures c.first-key.result (at c.args.waits) key) made)

pub returns : goal.returns
returns c =
    let s = c.args.store.now in
    let m = c.args.state.now in
    let l = c.args.left.now in
    let t = c.call_and_wait.new.store in
    let n = c.call_and_wait.new.state in
    let k = c.call_and_wait.new.left in
    let r = c.call_and_wait.result in
    let f = seen s.texts c.in-Function.function in
    let at : Replacing → List Value → Move = λ w vs. call f (values_seen s.texts vs) None (Waits (GsubWaits (replacing_seen s.texts w)) c.args.line ∷ frames_of s m) (slots_of s m) in
    let made = subst (λ (w : Replacing). IfOk r (Makes s m l t n k (at w c.of_list-captures.result))) c.in-Ok.ensures.ok c.call_and_wait.ensures in
    let called = subst (λ (vs : List Value). IfOk r (Makes s m l t n k (at c.args.waits vs))) c.of_list-captures.ensures made in
    subst (λ (x : Replacer). IfOk r (Makes s m l t n k (asks (replacer_seen s.texts x) (values_seen s.texts c.args.captures) (Waits (GsubWaits (replacing_seen s.texts c.args.waits)) c.args.line ∷ frames_of s m) (slots_of s m)))) (sym c.in-Function.is) called
