-- THE LIBRARY (manual 5): a table with a line for each of its functions, and what a function does that is entered.
use Rattle.std.specs.Prelude.{List, [], ◌∷◌}
use Rattle.page_run.specs.Outcome.{◌>>=◌, ◌>>◌, tick, see, change}
use Rattle.lua_walk.specs.LuaHeapValue.{Value}
use Rattle.lua_walk.specs.LuaHeapHeap.{Heap}
use Rattle.lua_walk.specs.LuaHeapDeclaredLibraryLibrary.{Library}
use Rattle.lua_walk.specs.LuaHeapDeclaredLibraryLibraryTheVariants as builtin
use Rattle.lua_meaning.specs.World.{World}
use Rattle.lua_meaning.specs.Scope.{Function, Levels}
use Rattle.lua_meaning.specs.Acts.{Act, Frame}
use Rattle.lua_meaning.specs.Messages.{fail_quoting}
use Rattle.lua_meaning.specs.Arguments.{Plain, plain_act, end_act}
use Rattle.lua_meaning.specs.Basic.{assert, error, get_metatable, set_metatable, raw_equal, raw_get, raw_set, select, to_number, kind, unpack, next}
use Rattle.lua_meaning.specs.Mw.{log, clone, get_current_title}
use Rattle.lua_meaning.specs.Strings as strings
use Rattle.lua_meaning.specs.Searches as searches
use Rattle.lua_meaning.specs.Formats as formats
use Rattle.lua_meaning.specs.Numbers as numbers
use Rattle.lua_meaning.specs.TableLibrary as tables
use Rattle.lua_meaning.specs.TextArguments.{of_texts}
use Rattle.lua_meaning.specs.Ustring as ustring
use Rattle.lua_meaning.specs.Texts as texts
use Rattle.lua_meaning.specs.Html as html
use Rattle.lua_meaning.specs.Iterators as iterators
use Rattle.lua_meaning.specs.Frames.{args_index, argument_expand}
use Rattle.lua_meaning.specs.FrameMethods.{FramedEnd, FrameEnds, FrameQuotes, FrameAsks, FrameWalks, Framed, get_current_frame, get_title, get_parent, argument_pairs, get_argument, preprocess, frame_extension_tag, expand_template, new_child}
use Rattle.lua_meaning.specs.Waiting.{asking}
use Rattle.lua_meaning.specs.CallBacks.{pcall, xpcall, to_string, pairs, ipairs, ipairs_step}
use Rattle.lua_meaning.specs.Gsub.{Alphabet, OfBytes, OfPoints, gsub}
use Rattle.lua_meaning.specs.Modules.{strict_index, strict_new_index, require, load_data}
use Rattle.lua_meaning.specs.Pending.{hears}

-- the functions that call back, or see more of a run than its heap and its frames
pub data Caller : Type 0 where
  Pcall Xpcall ToString Pairs Ipairs NextPlace Require LoadData StrictRead StrictWrite : Caller
  Gsub : (alphabet : Alphabet) → Caller

-- WHAT A FUNCTION DOES with its arguments, in a heap and with the frames of a run, whatever the functions in the heap hold
pub data Form (X : Type 0) : Type 0 where
  -- it calls back nobody, and this is its answer
  Answers : (plain : Plain X) → Form X
  -- it sees the frames, and may ask
  InFrames : (framed : Framed X) → Form X
  -- it is said below
  CallsBack : (caller : Caller) → Form X

-- THE TABLE
abbrev pub form : {X : Type 0} → World → Library → List Value → Heap X → List Frame → Form X
form world builtin.BasicAssert args h frames = Answers (assert args h)
form world builtin.BasicError args h frames = Answers (error args h)
form world builtin.BasicGetMetatable args h frames = Answers (get_metatable args h)
form world builtin.BasicSetMetatable args h frames = Answers (set_metatable args h)
form world builtin.BasicIpairs args h frames = CallsBack Ipairs
form world builtin.BasicPairs args h frames = CallsBack Pairs
form world builtin.BasicNext args h frames = Answers (next args h)
form world builtin.BasicPcall args h frames = CallsBack Pcall
form world builtin.BasicXpcall args h frames = CallsBack Xpcall
form world builtin.BasicRawEqual args h frames = Answers (raw_equal args h)
form world builtin.BasicRawGet args h frames = Answers (raw_get args h)
form world builtin.BasicRawSet args h frames = Answers (raw_set args h)
form world builtin.BasicSelect args h frames = Answers (select args h)
form world builtin.BasicToNumber args h frames = Answers (to_number args h)
form world builtin.BasicToString args h frames = CallsBack ToString
form world builtin.BasicType args h frames = Answers (kind args h)
form world builtin.BasicUnpack args h frames = Answers (unpack args h)
form world builtin.BasicRequire args h frames = CallsBack Require
form world builtin.StringByte args h frames = Answers (strings.byte args h)
form world builtin.StringChar args h frames = Answers (strings.char_of args h)
form world builtin.StringFind args h frames = Answers (searches.find args h)
form world builtin.StringMatch args h frames = Answers (searches.match_from args h)
form world builtin.StringGmatch args h frames = Answers (iterators.gmatch args h)
form world builtin.StringGsub args h frames = CallsBack (Gsub OfBytes)
form world builtin.StringFormat args h frames = Answers (formats.format args h)
form world builtin.StringLen args h frames = Answers (strings.len args h)
form world builtin.StringLower args h frames = Answers (strings.lower args h)
form world builtin.StringUpper args h frames = Answers (strings.upper args h)
form world builtin.StringRep args h frames = Answers (strings.rep args h)
form world builtin.StringReverse args h frames = Answers (strings.reverse args h)
form world builtin.StringSub args h frames = Answers (strings.sub args h)
form world builtin.TableConcat args h frames = Answers (tables.concat args h)
form world builtin.TableInsert args h frames = Answers (tables.insert args h)
form world builtin.TableMaxn args h frames = Answers (tables.maxn args h)
form world builtin.TableRemove args h frames = Answers (tables.remove args h)
form world builtin.TableSort args h frames = Answers (tables.sort args h)
form world builtin.MathAbs args h frames = Answers (numbers.abs args h)
form world builtin.MathCeil args h frames = Answers (numbers.ceil args h)
form world builtin.MathFloor args h frames = Answers (numbers.floor args h)
form world builtin.MathFmod args h frames = Answers (numbers.fmod args h)
form world builtin.MathMax args h frames = Answers (numbers.max args h)
form world builtin.MathMin args h frames = Answers (numbers.min args h)
form world builtin.MathPow args h frames = Answers (numbers.pow args h)
form world builtin.MwClone args h frames = Answers (clone args h)
form world builtin.MwLog args h frames = Answers (log args h)
form world builtin.MwGetCurrentTitle args h frames = Answers (get_current_title world.page h)
form world builtin.MwLoadData args h frames = CallsBack LoadData
form world builtin.MwGetCurrentFrame args h frames = InFrames (get_current_frame h frames)
form world builtin.UstringChar args h frames = Answers (of_texts ustring.char args h)
form world builtin.UstringCodepoint args h frames = Answers (of_texts ustring.codepoint args h)
form world builtin.UstringGcodepoint args h frames = Answers (of_texts iterators.gcodepoint args h)
form world builtin.UstringByteOffset args h frames = Answers (of_texts ustring.byteoffset args h)
form world builtin.UstringFind args h frames = Answers (of_texts ustring.find args h)
form world builtin.UstringMatch args h frames = Answers (of_texts ustring.match_from args h)
form world builtin.UstringGmatch args h frames = Answers (of_texts iterators.ustring_gmatch args h)
form world builtin.UstringGsub args h frames = CallsBack (Gsub OfPoints)
form world builtin.UstringLen args h frames = Answers (of_texts ustring.len args h)
form world builtin.UstringSub args h frames = Answers (of_texts ustring.sub args h)
form world builtin.UstringIsUtf8 args h frames = Answers (of_texts ustring.isutf8 args h)
form world builtin.UstringToNfc args h frames = Answers (of_texts ustring.to_nfc args h)
form world builtin.UstringToNfd args h frames = Answers (of_texts ustring.to_nfd args h)
form world builtin.UstringToNfkc args h frames = Answers (of_texts ustring.to_nfkc args h)
form world builtin.UstringToNfkd args h frames = Answers (of_texts ustring.to_nfkd args h)
form world builtin.TextTrim args h frames = Answers (of_texts texts.trim args h)
form world builtin.TextSplit args h frames = Answers (of_texts texts.split args h)
form world builtin.TextGsplit args h frames = Answers (of_texts iterators.gsplit args h)
form world builtin.TextEncode args h frames = Answers (of_texts texts.encode args h)
form world builtin.TextDecode args h frames = Answers (of_texts texts.decode args h)
form world builtin.TextListToText args h frames = Answers (of_texts texts.list_to_text args h)
form world builtin.TextNowiki args h frames = Answers (of_texts texts.nowiki args h)
form world builtin.TextTag args h frames = Answers (of_texts texts.tag args h)
form world builtin.TextTruncate args h frames = Answers (of_texts texts.truncate args h)
form world builtin.HtmlCreate args h frames = Answers (html.create args h)
form world builtin.HtmlNode args h frames = Answers (of_texts html.node args h)
form world builtin.HtmlWikitext args h frames = Answers (of_texts html.wikitext args h)
form world builtin.HtmlNewline args h frames = Answers (of_texts html.newline args h)
form world builtin.HtmlAttr args h frames = Answers (of_texts html.attr args h)
form world builtin.HtmlAddClass args h frames = Answers (of_texts html.add_class args h)
form world builtin.HtmlCss args h frames = Answers (of_texts html.css args h)
form world builtin.HtmlCssText args h frames = Answers (of_texts html.css_text args h)
form world builtin.HtmlTag args h frames = Answers (of_texts html.tag args h)
form world builtin.HtmlDone args h frames = Answers (of_texts html.done args h)
form world builtin.HtmlAllDone args h frames = Answers (of_texts html.all_done args h)
form world builtin.HtmlGetAttr args h frames = Answers (of_texts html.get_attr args h)
form world builtin.FrameGetParent args h frames = InFrames (get_parent h frames args)
form world builtin.FrameExpandTemplate args h frames = InFrames (expand_template h frames args)
form world builtin.FramePreprocess args h frames = InFrames (preprocess h frames args)
form world builtin.FrameGetArgument args h frames = InFrames (get_argument h frames args)
form world builtin.FrameArgumentPairs args h frames = InFrames (argument_pairs h frames args)
form world builtin.FrameNewChild args h frames = InFrames (new_child h frames args)
form world builtin.FrameGetTitle args h frames = InFrames (get_title h frames args)
form world builtin.FrameExtensionTag args h frames = InFrames (frame_extension_tag h frames args)
form world builtin.ArgsIndex args h frames = Answers (args_index args h)
form world builtin.ArgumentExpand args h frames = Answers (argument_expand args h)
form world builtin.StrictIndex args h frames = CallsBack StrictRead
form world builtin.StrictNewIndex args h frames = CallsBack StrictWrite
form world builtin.IpairsStep args h frames = CallsBack NextPlace
form world builtin.GmatchStep args h frames = Answers (iterators.gmatch_step args h)
form world builtin.UstringGmatchStep args h frames = Answers (of_texts iterators.ustring_gmatch_step args h)
form world builtin.GcodepointStep args h frames = Answers (of_texts iterators.gcodepoint_step args h)
form world builtin.GsplitStep args h frames = Answers (of_texts iterators.gsplit_step args h)

-- a function that sees the frames
abbrev pub framed_end : FramedEnd → Levels → Act (List Value)
framed_end (FrameEnds end) callers = end_act end callers
framed_end (FrameQuotes message) callers = fail_quoting callers message
framed_end (FrameAsks question asked) callers = asking question (hears asked callers)
framed_end (FrameWalks v) callers = pairs (v ∷ []) callers

abbrev pub framed_act : Framed Function → Levels → Act (List Value)
framed_act f callers = do
  tick f.charge
  s ← see
  change (record s { heap = f.heap; frames = f.frames })
  framed_end f.end callers

-- a function that calls back
abbrev pub call_back : World → Caller → List Value → Levels → Act (List Value)
call_back world Pcall args callers = pcall args
call_back world Xpcall args callers = xpcall args
call_back world ToString args callers = to_string args callers
call_back world Pairs args callers = pairs args callers
call_back world Ipairs args callers = ipairs args callers
call_back world NextPlace args callers = ipairs_step args callers
call_back world Require args callers = require world args callers
call_back world LoadData args callers = load_data args callers
call_back world StrictRead args callers = strict_index args callers
call_back world StrictWrite args callers = strict_new_index args callers
call_back world (Gsub alphabet) args callers = gsub alphabet args callers

-- A FUNCTION OF THE LIBRARY, with the levels of an error at its entry
abbrev pub do_form : World → Form Function → List Value → Levels → Act (List Value)
do_form world (Answers plain) args callers = plain_act plain callers
do_form world (InFrames framed) args callers = framed_act framed callers
do_form world (CallsBack caller) args callers = call_back world caller args callers

abbrev pub library : World → Library → List Value → Levels → Act (List Value)
library world which args callers = do
  s ← see
  do_form world (form world which args s.heap s.frames) args callers
