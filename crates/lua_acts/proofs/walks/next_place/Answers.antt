use Rattle.std.proofs.Common.{◌≡◌, rules, sym, subst, w64, to_z, of_z}
use Rattle.std.proofs.lemmas.Int.{to_z-of_z}
use Rattle.lua_code.specs.LuaHeapValue.{Number}
use Rattle.lua_code.specs.LuaHeapTable.{get}
use Rattle.lua_code.specs.LuaHeapHeap.{table_at}
use Rattle.lua_code.specs.LuaSlotsCallBacks.{place_and_value}
use Rattle.lua_state.specs.LuaSlotsErrors.{gives}
use Rattle.lua_state.specs.Makes.{Makes}
use Rattle.lua_state.specs.Seen.{slots_of, frames_of}
use Rattle.lua_acts.proofs.Next.{in_range, out_of_range}
use Rattle.lua_acts.proofs.walks.next_place.Goals as goal

pub returns-in_ok-turn-in-Ok : goal.returns-in_ok-turn-in-Ok
returns-in_ok-turn-in-Ok c = λ l.
    let whole : to_z w64 (of_z w64 c.in-Ok.next) ≡ c.in-Ok.next = search rules in
    let s = c.args.store.now in
    let m = c.args.state.now in
    subst (λ mv. Makes s m l s m l mv c.in_ok-turn-in-Ok.turn)
    (sym (in_range c.args.place c.in-Ok.next _ c.add.result (λ z. gives (place_and_value z (get (table_at s.heap c.args.table.at).entries (Number z))) (frames_of s m) (slots_of s m)) _
    (to_z-of_z w64 c.args.place c.ranges.place) c.add.ensures c.in-Ok.is))
    (subst (λ v. Makes s m l s m l (gives (place_and_value c.in-Ok.next v) (frames_of s m) (slots_of s m)) c.in_ok-turn-in-Ok.turn)
    (rw whole at c.get-value.ensures.value) (rw whole at (c.in_ok-turn-in-Ok.ensures l)))

pub returns-in-Err : goal.returns-in-Err
returns-in-Err c = λ l.
    let s = c.args.store.now in
    let m = c.args.state.now in
    subst (λ mv. Makes s m l s m l mv c.give.result)
    (sym (out_of_range c.args.place _ c.add.result _ _ c.in-Err.field-0 (to_z-of_z w64 c.args.place c.ranges.place) c.add.ensures c.in-Err.is)) (c.give.ensures l)
