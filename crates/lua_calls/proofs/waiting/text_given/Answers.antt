use Rattle.std.proofs.Common.{◌∙◌, sym, subst}
use Rattle.page_run.specs.Outcome.{Goes}
use Rattle.lua_code.specs.LuaSlotsLibraries.{text_answer}
use Rattle.lua_modules.specs.LuaStackLists.{given_values}
use Rattle.lua_modules.specs.LuaStackOf.{ValuesOf}
use Rattle.lua_modules.specs.LuaStackSeen.{values_seen}
use Rattle.lua_modules.specs.LuaStateMakes.{Makes}
use Rattle.lua_modules.specs.LuaStateSeen.{slots_of, frames_of}
use Rattle.lua_calls.proofs.Heard.{is_text, refused, refused_nothing}
use Rattle.lua_calls.proofs.waiting.text_given.Goals as goal

pub give_id-requires-clause-text : goal.give_id-requires-clause-text
give_id-requires-clause-text c = (subst (ValuesOf c.args.store.now) (is_text (given_values c.args.given) c.in-Text.id (sym c.answer_of.ensures ∙ c.in-Text.is)) c.requires.given).0

pub returns-in-Text : goal.returns-in-Text
returns-in-Text c =
    subst (λ vs. Makes c.args.store.now c.args.state.now c.args.left.now c.give_id.new.store c.args.state.now c.give_id.new.left
    (text_answer (Goes (values_seen c.args.store.now.texts vs)) (frames_of c.args.store.now c.args.state.now) (slots_of c.args.store.now c.args.state.now)) c.in_ok-turn-in-Text.turn)
    (sym (is_text (given_values c.args.given) c.in-Text.id (sym c.answer_of.ensures ∙ c.in-Text.is))) c.in_ok-turn-in-Text.ensures

pub returns-in-Nothing : goal.returns-in-Nothing
returns-in-Nothing c =
    subst (λ mv. Makes c.args.store.now c.args.state.now c.args.left.now c.wrong_answer.new.store c.args.state.now c.args.left.now mv c.in_ok-turn-in-Nothing.turn)
    (sym (refused_nothing c.args.store.now.texts (frames_of c.args.store.now c.args.state.now) (slots_of c.args.store.now c.args.state.now) (given_values c.args.given) (sym c.answer_of.ensures ∙ c.in-Nothing.is)))
    (c.in_ok-turn-in-Nothing.ensures c.args.left.now)

pub returns : goal.returns
returns c =
    subst (λ mv. Makes c.args.store.now c.args.state.now c.args.left.now c.wrong_answer-in-Other.new.store c.args.state.now c.args.left.now mv c.in_ok-turn-in-Other.turn)
    (sym (refused c.args.store.now.texts (frames_of c.args.store.now c.args.state.now) (slots_of c.args.store.now c.args.state.now) (given_values c.args.given) (sym c.answer_of.ensures ∙ c.in-Other.is)))
    (c.in_ok-turn-in-Other.ensures c.args.left.now)
