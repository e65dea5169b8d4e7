use Rattle.std.proofs.lemmas.Result.{IfOk-weaker}
use Rattle.std.proofs.Common.{subst, sym}
use Rattle.lua_state.specs.LuaStackLists.{given_values}
use Rattle.lua_state.specs.Seen.{slots_of, frames_of}
use Rattle.lua_state.specs.Makes.{Makes}
use Rattle.lua_evals.proofs.Items.{other_item}
use Rattle.lua_evals.proofs.constructors.set_item.Goals as goal

pub set-requires-clause-key : goal.set-requires-clause-key
set-requires-clause-key c = c.in_ok-key.ensures.of c.args.store.now

pub returns : goal.returns
returns c = λ g same.
    IfOk-weaker c.set.result _ _ (λ r e. subst (λ mv. Makes c.args.store.now c.args.state.now c.args.left.now c.set.new.store c.set.new.state c.set.new.left mv r)
    (sym (other_item c.args.store.now.texts c.args.entries.now c.args.front.rest.now c.args.front.first.now (given_values g) c.in_ok-key.key c.args.first c.args.place.0.at c.args.place.1 c.in_ok-next.next c.args.line
    (frames_of c.args.store.now c.args.state.now) (slots_of c.args.store.now c.args.state.now) c.requires.front (c.in_ok-key.ensures.value c.args.store.now.texts) same c.in_ok-next.ensures))
    e) c.set.ensures
