-- WHAT EACH THING MEANS that begins. A function entered, and a turn of a loop, are counted like the nodes of the tree.
use Rattle.std.specs.Prelude.{List, [], length, drop, if◌then◌else◌}
use Rattle.page_run.specs.Outcome.{Outcome, Goes, Jumps, ◌>>=◌, ◌>>◌, give, jump, catch, count, in_call}
use Rattle.lua_syntax.specs.Tree.{Block}
use Rattle.lua_walk.specs.LuaHeapValue.{Value}
use Rattle.lua_meaning.specs.World.{World}
use Rattle.lua_meaning.specs.Scope.{Bytes, Scope, Function, Levels}
use Rattle.lua_meaning.specs.Acts.{Act, Jump, Returned, Thing, WhileTurn, RepeatTurn, CountTurn, EachTurn, Body, LibraryBody, ChunkBody, IndexLink, SetLink, CallLink, declare}
use Rattle.lua_meaning.specs.Calls.{call}
use Rattle.lua_meaning.specs.Index.{index_link, set_link}
use Rattle.lua_meaning.specs.Loops.{while_turn, repeat_turn, count_turn, each_turn}
use Rattle.lua_meaning.specs.Meaning.{params_of, has_dots, body_of, block, exp_part, block_part}
use Rattle.lua_walk.specs.LuaHeapDeclaredLibraryLibrary.{Library}
use Rattle.lua_meaning.specs.Libraries.{library}

-- FUNCTIONS (manual 2.5.9). The arguments beyond the parameters are the values of `...`, if the function has it.
abbrev pub dots_of : Function → List Value → List Value
dots_of f args = if has_dots f.node then drop (length (params_of f.node)) args else []

abbrev pub body_scope : Function → List Value → Levels → Scope
body_scope f args callers = record { names = f.names; dots = dots_of f args; source = f.source; callers = callers }

-- a body gives the values of its `return`, and none where it comes to its end
abbrev pub after_body : Outcome Scope Jump → Act (List Value)
after_body (Goes scope) = give []
after_body (Jumps (Returned vs)) = give vs
after_body (Jumps j) = jump j

abbrev pub enter_function : Function → List Value → Levels → Act (List Value)
enter_function f args callers = in_call (do
  count
  scope ← declare (params_of f.node) args (body_scope f args callers)
  catch (body_of f.node scope) after_body)

abbrev pub enter_library : World → Library → List Value → Levels → Act (List Value)
enter_library world which args callers = in_call (do
  count
  library world which args callers)

-- the text of a module is a function without parameters (2.4.1)
abbrev pub chunk_scope : Bytes → Scope
chunk_scope source = record { names = []; dots = []; source = source; callers = [] }

abbrev pub enter_chunk : Bytes → Block → Act (List Value)
enter_chunk source b = in_call (do
  count
  catch (block b (chunk_scope source)) after_body)

abbrev pub meaning_of : World → Thing → Act (List Value)
meaning_of world (WhileTurn test body scope) = while_turn (exp_part test) (block_part body) scope
meaning_of world (RepeatTurn body test scope) = repeat_turn (block_part body) (exp_part test) scope
meaning_of world (CountTurn name index limit step body scope) = count_turn name index limit step (block_part body) scope
meaning_of world (EachTurn names f state results body line scope) = each_turn names f state results (block_part body) line scope
meaning_of world (Body f args callers) = enter_function f args callers
meaning_of world (LibraryBody which args callers) = enter_library world which args callers
meaning_of world (ChunkBody source b) = enter_chunk source b
meaning_of world (IndexLink object h key ls) = index_link object h key ls
meaning_of world (SetLink object h key value ls) = set_link object h key value ls
meaning_of world (CallLink h args ls) = call h args ls
