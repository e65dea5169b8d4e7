-- THE TABLE OF THE LIBRARY, line by line: in a heap whose functions are sound, they are so behind each function.
use Rattle.std.specs.Prelude.{List, Option, Some, None, Ok, Err}
use Rattle.wk_base.specs.declared.title.Title.{Title}
use Rattle.lua_meaning.specs.MwFrameDeclaredSceneArg.{Arg}
use Rattle.lua_meaning.specs.LuaPatternTexts.{bytes, points}
use Rattle.lua_meaning.specs.LuaHeapTable.{Entries}
use Rattle.lua_walk.specs.LuaHeapValue.{Value}
use Rattle.lua_walk.specs.LuaHeapHeap.{Heap}
use Rattle.lua_meaning.specs.LuaHeapDeclaredLibraryLibrary.{Library}
use Rattle.lua_meaning.specs.LuaHeapDeclaredLibraryLibraryTheVariants as library
use Rattle.lua_meaning.specs.Scope.{Bytes, Function}
use Rattle.lua_meaning.specs.World.{World}
use Rattle.lua_meaning.specs.Values.{first}
use Rattle.lua_meaning.specs.Acts.{Frame, Parent, Nobody, Unmade, Made}
use Rattle.lua_meaning.specs.Arguments.{Argument}
use Rattle.lua_meaning.specs.Frames.{Numbered}
use Rattle.lua_meaning.specs.Tag as tags
use Rattle.lua_meaning.specs.Tag.{TagParts}
use Rattle.lua_meaning.specs.Iterators as iterators
use Rattle.lua_meaning.specs.FrameMethods as methods
use Rattle.lua_meaning.specs.FrameMethods.{Framed}
use Rattle.lua_meaning.specs.Libraries.{Form, Answers, InFrames, CallsBack, form}
use Rattle.lua_lint_laws.proofs.Told.{Allowed, IsSoundHeap}
use Rattle.lua_lint_laws.proofs.Kept.{Kept, KeptFramed, changed, charged, either, same, given, with_metatable, with_entry, from_place, in_base, next_entry, by_read, find_in, searches_in, find_from, laid_out, number, by_set, splits, tag_of, concat_values, insert_at, append, remove_at, sort_walked, clone_of, set_by, adds_styles, adds_class, gives_value, make_iterator, on_cells, match_step, point_step, part_step, by_key}

-- WHAT THE TABLE SAYS of a function
abbrev pub KeepsForm : Allowed → Form Function → Type 0
KeepsForm P (Answers plain) = Kept P plain
KeepsForm P (InFrames framed) = KeptFramed P framed
KeepsForm P (CallsBack caller) = Unit {0}

framed : {P : Allowed} → (f : Framed Function) → IsSoundHeap P f.heap → KeptFramed P f
framed f ok = record { sound = ok }

ruleset kept = (either, charged, given, with_metatable, with_entry, from_place, in_base, next_entry, by_read, find_in, searches_in, find_from, laid_out, number, by_set, splits, tag_of, concat_values, insert_at, append, remove_at, sort_walked, set_by, adds_styles, adds_class, gives_value, make_iterator, by_key, changed)

module _ {P : Allowed} (h : Heap Function) (ok : IsSoundHeap P h) where
  tagged : (p : TagParts) → IsSoundHeap P (tags.tag_of p h).heap
  tagged p = (tag_of h ok p).sound

  -- METHODS OF FRAMES
  module _ (fs : List Frame) where
    if_argument : {Y : Type 0} → (a : Argument Y) {f : Y → Framed Function} → ((y : Y) → KeptFramed P (f y)) → KeptFramed P (methods.if_argument h fs a f)
    if_argument (Ok y) k = k y
    if_argument (Err message) k = record { sound = ok }

    if_title : (a : Argument Title) {f : Title → Framed Function} → ((t : Title) → KeptFramed P (f t)) → KeptFramed P (methods.if_title h fs a f)
    if_title (Ok title) k = k title
    if_title (Err message) k = record { sound = ok }

    if_entries : (es : Entries) {f : List Arg → Framed Function} → ((read : List Arg) → KeptFramed P (f read)) → KeptFramed P (methods.if_entries h fs es f)
    if_entries es k = record { sound = (if_argument _ k).sound }

    in_frame : (function : Bytes) (args : List Value) {f : Numbered → Framed Function} → ((self : Numbered) → KeptFramed P (f self)) → KeptFramed P (methods.in_frame h fs function args f)
    in_frame function args k = if_argument _ k

    parent_of : (self : Numbered) (p : Parent) → KeptFramed P (methods.parent_of h fs self p)
    parent_of self Nobody = record { sound = ok }
    parent_of self (Made number) = record { sound = ok }
    parent_of self (Unmade scene) = record { sound = ok }

    argument_table : (text : Option Bytes) → KeptFramed P (methods.argument_table h fs text)
    argument_table None = record { sound = ok }
    argument_table (Some text) = record { sound = ok }

    get_argument : (args : List Value) → KeptFramed P (methods.get_argument h fs args)
    get_argument args = search (in_frame, if_argument, argument_table)

    preprocess : (args : List Value) → KeptFramed P (methods.preprocess h fs args)
    preprocess args = search (in_frame, if_argument, framed)

    frame_extension_tag : (args : List Value) → KeptFramed P (methods.frame_extension_tag h fs args)
    frame_extension_tag args = search (in_frame, framed, tagged) depth 20 fits 20000

    expand_template : (args : List Value) → KeptFramed P (methods.expand_template h fs args)
    expand_template args = search (in_frame, if_argument, if_title, if_entries, framed) depth 20 fits 20000

    new_child : (args : List Value) → KeptFramed P (methods.new_child h fs args)
    new_child args = search (in_frame, if_argument, if_title, if_entries, framed) depth 20 fits 20000

  -- EACH LINE
  pub form_kept : (world : World) (which : Library) (args : List Value) (fs : List Frame) → KeepsForm P (form world which args h fs)
  form_kept world library.BasicAssert args fs = search kept depth 20 fits 20000
  form_kept world library.BasicError args fs = search kept depth 20 fits 20000
  form_kept world library.BasicGetMetatable args fs = same h ok
  form_kept world library.BasicSetMetatable args fs = search kept depth 20 fits 20000
  form_kept world library.BasicIpairs args fs = tt
  form_kept world library.BasicPairs args fs = tt
  form_kept world library.BasicNext args fs = search kept depth 20 fits 20000
  form_kept world library.BasicPcall args fs = tt
  form_kept world library.BasicXpcall args fs = tt
  form_kept world library.BasicRawEqual args fs = same h ok
  form_kept world library.BasicRawGet args fs = search kept depth 20 fits 20000
  form_kept world library.BasicRawSet args fs = search kept depth 20 fits 20000
  form_kept world library.BasicSelect args fs = search kept depth 20 fits 20000
  form_kept world library.BasicToNumber args fs = search kept depth 20 fits 20000
  form_kept world library.BasicToString args fs = tt
  form_kept world library.BasicType args fs = same h ok
  form_kept world library.BasicUnpack args fs = search kept depth 20 fits 20000
  form_kept world library.BasicRequire args fs = tt
  form_kept world library.StringByte args fs = search kept depth 20 fits 20000
  form_kept world library.StringChar args fs = search kept depth 20 fits 20000
  form_kept world library.StringFind args fs = search kept depth 20 fits 20000
  form_kept world library.StringMatch args fs = search kept depth 20 fits 20000
  form_kept world library.StringGmatch args fs = search kept depth 20 fits 20000
  form_kept world library.StringGsub args fs = tt
  form_kept world library.StringFormat args fs = search kept depth 20 fits 20000
  form_kept world library.StringLen args fs = search kept depth 20 fits 20000
  form_kept world library.StringLower args fs = search kept depth 20 fits 20000
  form_kept world library.StringUpper args fs = search kept depth 20 fits 20000
  form_kept world library.StringRep args fs = search kept depth 20 fits 20000
  form_kept world library.StringReverse args fs = search kept depth 20 fits 20000
  form_kept world library.StringSub args fs = search kept depth 20 fits 20000
  form_kept world library.TableConcat args fs = search kept depth 20 fits 20000
  form_kept world library.TableInsert args fs = search kept depth 20 fits 20000
  form_kept world library.TableMaxn args fs = search kept depth 20 fits 20000
  form_kept world library.TableRemove args fs = search kept depth 20 fits 20000
  form_kept world library.TableSort args fs = search kept depth 20 fits 20000
  form_kept world library.MathAbs args fs = search kept depth 20 fits 20000
  form_kept world library.MathCeil args fs = search kept depth 20 fits 20000
  form_kept world library.MathFloor args fs = search kept depth 20 fits 20000
  form_kept world library.MathFmod args fs = search kept depth 20 fits 20000
  form_kept world library.MathMax args fs = search kept depth 20 fits 20000
  form_kept world library.MathMin args fs = search kept depth 20 fits 20000
  form_kept world library.MathPow args fs = search kept depth 20 fits 20000
  form_kept world library.MwClone args fs = record { sound = clone_of h ok (first args) }
  form_kept world library.MwLog args fs = same h ok
  form_kept world library.MwGetCurrentTitle args fs = record { sound = ok }
  form_kept world library.MwLoadData args fs = tt
  form_kept world library.MwGetCurrentFrame args fs = record { sound = ok }
  form_kept world library.UstringChar args fs = search kept depth 20 fits 20000
  form_kept world library.UstringCodepoint args fs = search kept depth 20 fits 20000
  form_kept world library.UstringGcodepoint args fs = search kept depth 20 fits 20000
  form_kept world library.UstringByteOffset args fs = search kept depth 20 fits 20000
  form_kept world library.UstringFind args fs = search kept depth 20 fits 20000
  form_kept world library.UstringMatch args fs = search kept depth 20 fits 20000
  form_kept world library.UstringGmatch args fs = search kept depth 20 fits 20000
  form_kept world library.UstringGsub args fs = tt
  form_kept world library.UstringLen args fs = search kept depth 20 fits 20000
  form_kept world library.UstringSub args fs = search kept depth 20 fits 20000
  form_kept world library.UstringIsUtf8 args fs = search kept depth 20 fits 20000
  form_kept world library.UstringToNfc args fs = search kept depth 20 fits 20000
  form_kept world library.UstringToNfd args fs = search kept depth 20 fits 20000
  form_kept world library.UstringToNfkc args fs = search kept depth 20 fits 20000
  form_kept world library.UstringToNfkd args fs = search kept depth 20 fits 20000
  form_kept world library.TextTrim args fs = search kept depth 20 fits 20000
  form_kept world library.TextSplit args fs = search kept depth 20 fits 20000
  form_kept world library.TextGsplit args fs = search kept depth 20 fits 20000
  form_kept world library.TextEncode args fs = search kept depth 20 fits 20000
  form_kept world library.TextDecode args fs = search kept depth 20 fits 20000
  form_kept world library.TextListToText args fs = search kept depth 20 fits 20000
  form_kept world library.TextNowiki args fs = search kept depth 20 fits 20000
  form_kept world library.TextTag args fs = search kept depth 20 fits 20000
  form_kept world library.TextTruncate args fs = search kept depth 20 fits 20000
  form_kept world library.HtmlCreate args fs = search kept depth 20 fits 20000
  form_kept world library.HtmlNode args fs = search kept depth 20 fits 20000
  form_kept world library.HtmlWikitext args fs = search kept depth 20 fits 20000
  form_kept world library.HtmlNewline args fs = search kept depth 20 fits 20000
  form_kept world library.HtmlAttr args fs = search kept depth 20 fits 20000
  form_kept world library.HtmlAddClass args fs = search kept depth 20 fits 20000
  form_kept world library.HtmlCss args fs = search kept depth 20 fits 20000
  form_kept world library.HtmlCssText args fs = search kept depth 20 fits 20000
  form_kept world library.HtmlTag args fs = search kept depth 20 fits 20000
  form_kept world library.HtmlDone args fs = search kept depth 20 fits 20000
  form_kept world library.HtmlAllDone args fs = search kept depth 20 fits 20000
  form_kept world library.HtmlGetAttr args fs = search kept depth 20 fits 20000
  form_kept world library.FrameGetParent args fs = in_frame fs _ args (λ self. parent_of fs self self.frame.parent)
  form_kept world library.FrameExpandTemplate args fs = expand_template fs args
  form_kept world library.FramePreprocess args fs = preprocess fs args
  form_kept world library.FrameGetArgument args fs = get_argument fs args
  form_kept world library.FrameArgumentPairs args fs = in_frame fs _ args (λ self. record { sound = ok })
  form_kept world library.FrameNewChild args fs = new_child fs args
  form_kept world library.FrameGetTitle args fs = in_frame fs _ args (λ self. record { sound = ok })
  form_kept world library.FrameExtensionTag args fs = frame_extension_tag fs args
  form_kept world library.ArgsIndex args fs = search kept depth 20 fits 20000
  form_kept world library.ArgumentExpand args fs = search kept depth 20 fits 20000
  form_kept world library.StrictIndex args fs = tt
  form_kept world library.StrictNewIndex args fs = tt
  form_kept world library.IpairsStep args fs = tt
  form_kept world library.GmatchStep args fs = on_cells h ok (iterators.match_step bytes) (λ c. match_step h ok bytes c) _
  form_kept world library.UstringGmatchStep args fs = charged _ (on_cells h ok (iterators.match_step points) (λ c. match_step h ok points c) _)
  form_kept world library.GcodepointStep args fs = charged _ (on_cells h ok iterators.point_step (λ c. point_step h ok c) _)
  form_kept world library.GsplitStep args fs = charged _ (on_cells h ok iterators.part_step (λ c. part_step h ok c) _)
