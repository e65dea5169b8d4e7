use Rattle.std.proofs.Common.{◌≡◌, ◌∙◌, sym, subst}
use Rattle.lua_state.specs.LuaStackLists.{given_values}
use Rattle.lua_state.specs.LuaStackOf.{ValuesOf}
use Rattle.lua_acts.proofs.walks.three_of.Goals as goal

pub give_all-requires-clause-values : goal.give_all-requires-clause-values
give_all-requires-clause-values c =
    let list : c.as_slice-values.result.now ≡ given_values c.args.given = c.as_slice-values.ensures ∙ c.into_list-list.ensures ∙ c.in_ok-all.ensures in
    let of = subst (ValuesOf c.args.store.now) (sym list) c.requires.given in
    rw c.in_ok-kept.ensures (c.first-step.ensures.of c.args.store.now of, (c.second-walked.ensures.of c.args.store.now of, (c.third-start.ensures.of c.args.store.now of, tt)))

pub returns : goal.returns
returns c = λ l.
    let texts = c.args.store.now.texts in
    let list : c.as_slice-values.result.now ≡ given_values c.args.given = c.as_slice-values.ensures ∙ c.into_list-list.ensures ∙ c.in_ok-all.ensures in
    rw list at (rw (c.first-step.ensures.value texts, c.second-walked.ensures.value texts, c.third-start.ensures.value texts) at (rw c.in_ok-kept.ensures at (c.give_all.ensures l)))
