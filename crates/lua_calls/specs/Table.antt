-- THE TABLE OF THE LIBRARY as code goes through it: what each function is, and what is done with it.
use Rattle.std.specs.Prelude.{◌≡◌, List, None}
use Rattle.lua_code.specs.LuaHeapProc.{Proc}
use Rattle.lua_code.specs.LuaHeapValue.{Value}
use Rattle.lua_code.specs.LuaHeapHeap.{Heap}
use Rattle.lua_tables.specs.LuaHeapDeclaredLibraryLibrary.{Library}
use Rattle.lua_tables.specs.LuaHeapDeclaredLibraryLibraryTheVariants.{MwClone, MwGetCurrentTitle, ArgsIndex, BasicPcall, BasicXpcall, BasicToString, BasicPairs, BasicIpairs, IpairsStep, BasicRequire, MwLoadData, StrictIndex, StrictNewIndex, StringGsub}
use Rattle.lua_code.specs.LuaMeaningWorld.{World}
use Rattle.lua_code.specs.LuaMeaningActs.{Frame}
use Rattle.lua_tables.specs.LuaMeaningArguments.{Plain}
use Rattle.lua_code.specs.LuaMeaningMw.{clone, get_current_title}
use Rattle.lua_modules.specs.LuaMeaningFrames.{args_index}
use Rattle.lua_tables.specs.LuaMeaningLibraries as meaning
use Rattle.lua_tables.specs.LuaMeaningLibraries.{Form, Answers, InFrames, CallsBack, form}
use Rattle.lua_acts.specs.LuaLibsTable as basic
use Rattle.mw_htmls.specs.LuaStringsTable as strings
use Rattle.lua_tables.specs.Table as tables
use Rattle.mw_texts.specs.MwUstringsTable as ustrings
use Rattle.mw_texts.specs.Table as texts
use Rattle.lua_gsubs.specs.LuaIteratorsTable as iterators
use Rattle.mw_htmls.specs.Table as html
use Rattle.mw_frame_calls.specs.Table.{framed_of}
use Rattle.lua_gsubs.specs.declared.table.GsubFunction.TheVariants as gsubs
use Rattle.lua_gsubs.specs.Table.{alphabet_of}
use Rattle.lua_calls.specs.declared.table.AtOnce.{AtOnce}
use Rattle.lua_calls.specs.declared.table.AtOnce.TheVariants as once
use Rattle.lua_calls.specs.declared.table.CallBack.{CallBack}
use Rattle.lua_calls.specs.declared.table.CallBack.TheVariants as call_back
use Rattle.lua_calls.specs.declared.table.Act.{Act}
use Rattle.lua_calls.specs.declared.table.Act.TheVariants as act

abbrev pub caller_seen : CallBack → meaning.Caller
caller_seen call_back.Pcall = meaning.Pcall
caller_seen call_back.Xpcall = meaning.Xpcall
caller_seen call_back.ToString = meaning.ToString
caller_seen call_back.Pairs = meaning.Pairs
caller_seen call_back.Ipairs = meaning.Ipairs
caller_seen call_back.NextPlace = meaning.NextPlace
caller_seen call_back.Require = meaning.Require
caller_seen call_back.LoadData = meaning.LoadData
caller_seen call_back.StrictRead = meaning.StrictRead
caller_seen call_back.StrictWrite = meaning.StrictWrite

-- what a function gives that answers at once
abbrev pub once_seen : {X : Type 0} → AtOnce → List Value → Heap X → Plain X
once_seen (once.Basic f) args h = basic.answer_of f args h
once_seen (once.Strings f) args h = strings.answer_of f args h
once_seen (once.Tables f) args h = tables.answer_of f args h
once_seen (once.Ustrings f) args h = ustrings.answer_of f args h
once_seen (once.Texts f) args h = texts.answer_of f args h
once_seen (once.Iterators f) args h = iterators.answer_of f args h
once_seen (once.Html f) args h = html.answer_of f args h

-- what an act does with its arguments
abbrev pub act_seen : World → Act → List Value → Heap Proc → List Frame → Form Proc
act_seen world (act.Answers f) args h frames = Answers (once_seen f args h)
act_seen world (act.Framed f) args h frames = InFrames (framed_of f args h frames)
act_seen world act.Clone args h frames = Answers (clone args h)
act_seen world act.CurrentTitle args h frames = Answers (get_current_title world.page h)
act_seen world act.ArgsIndex args h frames = Answers (args_index args h)
act_seen world (act.Calls caller) args h frames = CallsBack (caller_seen caller)
act_seen world (act.Gsub f) args h frames = CallsBack (meaning.Gsub (alphabet_of f))

-- a function that is in no group of those that answer at once
pub record InNoGroup (which : Library) : Type 0 where
  pub not_basic : basic.plain_in which ≡ None
  pub not_strings : strings.string_function_in which ≡ None
  pub not_tables : tables.table_function_in which ≡ None
  pub not_ustrings : ustrings.ustring_function_in which ≡ None
  pub not_texts : texts.text_function_in which ≡ None
  pub not_iterators : iterators.iterator_function_in which ≡ None
  pub not_html : html.html_function_in which ≡ None

-- the functions that are in no group and none of the frames
abbrev pub other_in : Library → Act
other_in MwClone = act.Clone
other_in MwGetCurrentTitle = act.CurrentTitle
other_in ArgsIndex = act.ArgsIndex
other_in BasicPcall = act.Calls call_back.Pcall
other_in BasicXpcall = act.Calls call_back.Xpcall
other_in BasicToString = act.Calls call_back.ToString
other_in BasicPairs = act.Calls call_back.Pairs
other_in BasicIpairs = act.Calls call_back.Ipairs
other_in IpairsStep = act.Calls call_back.NextPlace
other_in BasicRequire = act.Calls call_back.Require
other_in MwLoadData = act.Calls call_back.LoadData
other_in StrictIndex = act.Calls call_back.StrictRead
other_in StrictNewIndex = act.Calls call_back.StrictWrite
other_in StringGsub = act.Gsub gsubs.OfBytes
other_in which = act.Gsub gsubs.OfPoints

-- THE LINE of a function in the meaning's table is what this act does
abbrev pub IsLine : Library → Act → Type 0
IsLine which a = (world : World) (args : List Value) (h : Heap Proc) (frames : List Frame) → form world which args h frames ≡ act_seen world a args h frames
