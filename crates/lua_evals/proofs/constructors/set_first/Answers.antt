use Rattle.std.proofs.lemmas.Result.{IfOk-weaker}
use Rattle.std.proofs.Common.{subst, sym}
use Rattle.lua_state.specs.Seen.{slots_of, frames_of}
use Rattle.lua_state.specs.Makes.{Makes}
use Rattle.lua_evals.proofs.Items.{first_item}
use Rattle.lua_evals.proofs.constructors.set_first.Goals as goal

pub set-requires-clause-key : goal.set-requires-clause-key
set-requires-clause-key c = c.in_ok-key.ensures.of c.args.store.now

pub returns : goal.returns
returns c =
    IfOk-weaker c.set.result _ _ (λ r e. subst (λ mv. Makes c.args.store.now c.args.state.now c.args.left.now c.set.new.store c.set.new.state c.set.new.left mv r)
    (sym (first_item c.args.store.now.texts c.args.values c.take_first-value.new.self c.in_ok-key.key c.take_first-value.result c.args.table.at c.args.place c.in_ok-next.next c.args.line (frames_of c.args.store.now c.args.state.now) (slots_of c.args.store.now c.args.state.now)
    c.requires.some (c.in_ok-key.ensures.value c.args.store.now.texts) c.take_first-value.ensures.first c.take_first-value.ensures.rest c.in_ok-next.ensures))
    e) c.set.ensures
