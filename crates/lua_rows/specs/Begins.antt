-- HOW A CALL BEGINS in code: with its answer behind its charge, or, of `gsub`, with a job that begins behind its charge.
use Rattle.std.specs.Prelude.{List, [], ◌∷◌, Result, Ok, Err}
use Rattle.lua_turns.specs.WkBaseDeclaredLeftLeft.{Left}
use Rattle.lua_code.specs.LuaHeapValue.{Value}
use Rattle.lua_calls.specs.LuaMeaningGsub.{gsub_form}
use Rattle.lua_turns.specs.LuaStoreDeclaredValueValue.{Value as StoreValue}
use Rattle.lua_turns.specs.LuaStoreSeen.{StoreView}
use Rattle.lua_calls.specs.LuaBasicDeclaredStopStop.{Stop}
use Rattle.lua_calls.specs.LuaBasicSeen.{Paid}
use Rattle.lua_calls.specs.LuaGsubsDeclaredBeginningBegun.{Begun}
use Rattle.lua_calls.specs.LuaGsubsDeclaredBeginningBegunTheVariants as begun
use Rattle.lua_calls.specs.LuaGsubsBegun.{IsBegun}
use Rattle.lua_calls.specs.LuaGsubsTable.{alphabet_of}
use Rattle.lua_calls.specs.declared.table.AtOnce.{AtOnce}
use Rattle.lua_calls.specs.Table.{once_seen}
use Rattle.lua_rows.specs.declared.making.Made.{Made}
use Rattle.lua_rows.specs.declared.making.Made.TheVariants as made
use Rattle.lua_rows.specs.declared.ready.Callee.{Callee}
use Rattle.lua_rows.specs.declared.ready.Callee.TheVariants as callee

-- what came of a call, as what it has begun
abbrev pub begun_of : Made → Result Begun Stop
begun_of (made.GaveOne v) = Ok (begun.Answers (v ∷ []))
begun_of (made.Gave vs) = Ok (begun.Answers vs)
begun_of (made.Stopped b) = b.value

abbrev pub begun_one : Result StoreValue Stop → Result Begun Stop
begun_one (Ok v) = Ok (begun.Answers (v ∷ []))
begun_one (Err e) = Err e

abbrev pub begun_list : Result (List StoreValue) Stop → Result Begun Stop
begun_list (Ok vs) = Ok (begun.Answers vs)
begun_list (Err e) = Err e

-- one that answers at once
abbrev pub AnswersAtOnce : AtOnce → List Value → StoreView → Left → StoreView → Left → Result Begun Stop → Type 0
AnswersAtOnce f args s l t l' (Ok (begun.Answers vs)) = Paid (once_seen f args s.heap) s l t l' (Ok vs)
AnswersAtOnce f args s l t l' (Ok (begun.Asks job limit)) = ⊥
AnswersAtOnce f args s l t l' (Err e) = Paid (once_seen f args s.heap) s l t l' (Err e)

abbrev pub Begins : Callee → List Value → StoreView → Left → StoreView → Left → Result Begun Stop → Type 0
Begins (callee.Answers f) args s l t l' r = AnswersAtOnce f args s l t l' r
Begins (callee.Gsub f) args s l t l' r = IsBegun (gsub_form (alphabet_of f) args s.heap) s l t l' r
