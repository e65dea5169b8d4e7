use Rattle.lua_state.proofs.LuaStoreLater.{later-then, text_of-later}
use Rattle.lua_blocks.proofs.Changes.{closure_later, function_opened}
use Rattle.lua_state.proofs.LuaStackStay.{captured_stay}
use Rattle.lua_code.specs.Seen.{place_seen}
use Rattle.std.specs.Prelude.{map}
use Rattle.lua_blocks.proofs.functions.open_function.Goals as goal

pub open-requires-clause-value : goal.open-requires-clause-value
open-requires-clause-value c = tt

pub name_function-requires-clause-closure : goal.name_function-requires-clause-closure
name_function-requires-clause-closure c = closure_later c.args.store.now c.open.new.store c.open.ensures.later c.args.closure c.requires.closure

pub name_function-requires-clause-source : goal.name_function-requires-clause-source
name_function-requires-clause-source c = text_of-later c.args.store.now c.open.new.store c.open.ensures.later c.args.proto.title c.requires.source

pub returns-clause-later : goal.returns-clause-later
returns-clause-later c = later-then c.args.store.now c.open.new.store c.name_function.new.store c.open.ensures.later c.in_ok-name_function.ensures.later

pub returns-clause-named : goal.returns-clause-named
returns-clause-named c =
    function_opened c.args.store.now c.open.new.store c.args.proto.title.at c.args.closure c.args.boxed c.args.proto.index (map place_seen c.args.places.now) _ _ _ c.open.ensures.texts
    (captured_stay c.args.store.now c.open.new.store c.open.ensures.later c.args.closure c.requires.closure) c.in_ok-open.ensures.opened c.in_ok-name_function.ensures.named
