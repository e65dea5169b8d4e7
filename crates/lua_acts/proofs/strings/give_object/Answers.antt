use Rattle.mw_html_texts.specs.MwHtmlRender.{render}
use Rattle.mw_html_texts.specs.LuaMeaningHtml.{text_of_object}
use Rattle.lua_state.proofs.Staying.{state_later}
use Rattle.lua_acts.proofs.Objects.{piece_heap}
use Rattle.lua_acts.proofs.Paying.{given, stopped}
use Rattle.lua_acts.proofs.strings.give_object.Goals as goal

pub give_all-requires-clause-state : goal.give_all-requires-clause-state
give_all-requires-clause-state c = state_later c.args.store.now c.give_object_text.new.store c.in-Ok.ensures.later c.args.state.now c.requires.state

pub give_all-requires-clause-values : goal.give_all-requires-clause-values
give_all-requires-clause-values c = rw c.of_list.ensures c.in-Ok.ensures.of

pub refuse-requires-clause-state : goal.refuse-requires-clause-state
refuse-requires-clause-state c = state_later c.args.store.now c.give_object_text.new.store c.in-Err.ensures.later c.args.state.now c.requires.state

pub refuse-requires-clause-stop : goal.refuse-requires-clause-stop
refuse-requires-clause-stop c = c.in-Err.ensures.of

pub returns-in-Ok : goal.returns-in-Ok
returns-in-Ok c =
    let s = c.args.store.now in
    given s c.give_object_text.new.store c.give_object_text.new.store c.args.state.now c.args.left.now c.give_object_text.new.left c.give_object_text.new.left c.args.line (text_of_object c.args.id.at s.heap) c.give_all.result
    c.requires.state c.in-Ok.ensures.later (piece_heap (render s.heap.markup c.args.id.at) s.heap) c.in-Ok.values c.in-Ok.ensures.answer (rw c.of_list.ensures at (c.give_all.ensures c.give_object_text.new.left))

pub returns-in_ok-turn-in-Err : goal.returns-in_ok-turn-in-Err
returns-in_ok-turn-in-Err c =
    let s = c.args.store.now in
    stopped s c.give_object_text.new.store c.refuse.new.store c.args.state.now c.args.left.now c.give_object_text.new.left c.refuse.new.left c.args.line (text_of_object c.args.id.at s.heap) c.in_ok-turn-in-Err.turn
    c.requires.state c.in-Err.ensures.later (piece_heap (render s.heap.markup c.args.id.at) s.heap) c.in-Err.stop c.in-Err.ensures.answer c.in_ok-turn-in-Err.ensures
