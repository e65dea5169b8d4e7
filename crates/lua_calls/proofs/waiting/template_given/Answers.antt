use Rattle.std.proofs.Common.{◌∙◌, sym, subst}
use Rattle.lua_tables.specs.LuaStoreSeen.{text_at}
use Rattle.lua_modules.specs.LuaStackLists.{given_values}
use Rattle.lua_modules.specs.LuaStateMakes.{Makes}
use Rattle.lua_modules.specs.LuaStateSeen.{slots_of, frames_of}
use Rattle.lua_calls.proofs.Heard.{absent_template, present_template}
use Rattle.lua_calls.proofs.waiting.template_given.Goals as goal

pub returns-in-Nothing : goal.returns-in-Nothing
returns-in-Nothing c =
    let texts = c.args.store.now.texts in
    subst (λ mv. Makes c.args.store.now c.args.state.now c.args.left.now c.no_template.new.store c.args.state.now c.no_template.new.left mv c.in_ok-turn-in-Nothing.turn)
    (sym (absent_template texts (frames_of c.args.store.now c.args.state.now) (slots_of c.args.store.now c.args.state.now) (text_at texts c.args.name.at) c.args.line (given_values c.args.given) (sym c.answer_of.ensures ∙ c.in-Nothing.is)))
    c.in_ok-turn-in-Nothing.ensures

pub returns-in-Text : goal.returns-in-Text
returns-in-Text c =
    let texts = c.args.store.now.texts in
    subst (λ mv. Makes c.args.store.now c.args.state.now c.args.left.now c.text_given.new.store c.args.state.now c.text_given.new.left mv c.in_ok-turn-in-Text.turn)
    (sym (present_template texts (frames_of c.args.store.now c.args.state.now) (slots_of c.args.store.now c.args.state.now) (text_at texts c.args.name.at) c.args.line (given_values c.args.given)
    (λ e. let both = sym e ∙ sym c.answer_of.ensures ∙ c.in-Text.is in absurd cc)))
    c.in_ok-turn-in-Text.ensures

pub returns : goal.returns
returns c =
    let texts = c.args.store.now.texts in
    subst (λ mv. Makes c.args.store.now c.args.state.now c.args.left.now c.text_given-in-Other.new.store c.args.state.now c.text_given-in-Other.new.left mv c.in_ok-turn-in-Other.turn)
    (sym (present_template texts (frames_of c.args.store.now c.args.state.now) (slots_of c.args.store.now c.args.state.now) (text_at texts c.args.name.at) c.args.line (given_values c.args.given)
    (λ e. let both = sym e ∙ sym c.answer_of.ensures ∙ c.in-Other.is in absurd cc)))
    c.in_ok-turn-in-Other.ensures
