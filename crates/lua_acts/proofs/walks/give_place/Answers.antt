use Rattle.std.proofs.Common.{sym, subst, w64}
use Rattle.std.proofs.lemmas.Int.{to_z-of_z}
use Rattle.lua_state.specs.LuaStoreSeen.{seen}
use Rattle.lua_state.specs.LuaSlotsErrors.{gives}
use Rattle.lua_state.specs.Makes.{Makes}
use Rattle.lua_state.specs.Seen.{slots_of, frames_of}
use Rattle.lua_acts.proofs.Next.{no_value, some_value}
use Rattle.lua_acts.proofs.walks.give_place.Goals as goal

pub returns-then-is_nil : goal.returns-then-is_nil
returns-then-is_nil c = λ l.
    subst (λ vs. Makes c.args.store.now c.args.state.now l c.args.store.now c.args.state.now l (gives vs (frames_of c.args.store.now c.args.state.now) (slots_of c.args.store.now c.args.state.now)) c.give.result)
    (sym (no_value c.args.place (seen c.args.store.now.texts c.args.value) (c.if-is_nil.ensures c.args.store.now.texts))) (c.give.ensures l)

pub returns : goal.returns
returns c = λ l.
    subst (λ vs. Makes c.args.store.now c.args.state.now l c.args.store.now c.args.state.now l (gives vs (frames_of c.args.store.now c.args.state.now) (slots_of c.args.store.now c.args.state.now)) c.give_all.result)
    (sym (some_value c.args.place (seen c.args.store.now.texts c.args.value) (c.if-is_nil.ensures c.args.store.now.texts)))
    (rw (to_z-of_z w64 c.args.place c.ranges.place) at (rw c.in_ok-values.ensures at (c.give_all.ensures l)))
