-- THE TABLE OF THE LIBRARY, line by line: each function does the same to two heaps.
use Rattle.std.proofs.Common.{◌≡◌, List, subst}
use Rattle.lua_heap.specs.Value.{Value}
use Rattle.lua_heap.specs.Heap.{Heap}
use Rattle.lua_heap.specs.Related.{Map, GrowsWith, Each, Same, Stands}
use Rattle.lua_heap.specs.declared.library.Library.{Library}
use Rattle.lua_heap.specs.declared.library.Library.TheVariants as library
use Rattle.lua_meaning.specs.World.{World}
use Rattle.lua_meaning.specs.Acts.{Frame}
use Rattle.lua_meaning.specs.Arguments.{Plain, with_charge, text_charge}
use Rattle.lua_meaning.specs.Mw.{get_current_title}
use Rattle.lua_meaning.specs.Libraries.{Answers, form}
use Rattle.lua_library_agree.specs.Same.{SameFrame, SamePlain, SameForm, both_answer, both_see, both_call}
use Rattle.lua_library_agree.proofs.Values.{text_charge-same}
use Rattle.lua_library_agree.proofs.Heaps.{charging}
use Rattle.lua_library_agree.proofs.Basics.{assert-same, error-same, get_metatable-same, set_metatable-same, raw_equal-same, raw_get-same, raw_set-same, select-same, to_number-same, kind_is-same, unpack-same, next-same}
use Rattle.lua_library_agree.proofs.FrameTables.{args_index-same, argument_expand-same}
use Rattle.lua_library_agree.proofs.Methods.{get_current_frame-same, get_title-same, get_parent-same, argument_pairs-same, get_argument-same, preprocess-same, frame_extension_tag-same, expand_template-same, new_child-same}
use Rattle.lua_library_agree.proofs.StringsAgree as strings
use Rattle.lua_library_agree.proofs.TableAgree as tables
use Rattle.lua_library_agree.proofs.UstringAgree as ustring
use Rattle.lua_library_agree.proofs.TextsAgree as texts
use Rattle.lua_library_agree.proofs.HtmlAgree as html
use Rattle.lua_library_agree.proofs.IteratorsAgree as iterators
use Rattle.lua_library_agree.proofs.MwFunctions.{log-same, clone-same, get_current_title-same}

module _ {X Y : Type 0} (R : Map → X → Y → Type 0) (up : GrowsWith R) (m : Map) (h : Heap X) (s : Heap Y) (st : Stands R m h s) (world other : World)
    (vs ws : List Value) (e : Each (Same m) vs ws) (fs gs : List Frame) (ef : Each (SameFrame m) fs gs) where
  -- a function of texts, behind the charge of its arguments
  behind_texts : {a : Plain X} {b : Plain Y} → SamePlain R m h s a b → SamePlain R m h s (with_charge (text_charge vs) a) (with_charge (text_charge ws) b)
  behind_texts {a} {b} k = charging R m h s st _ _ (text_charge-same e) a b k

  pub all-agree : world.page ≡ other.page → (which : Library) → SameForm R m h s (form world which vs h fs) (form other which ws s gs)
  all-agree page library.BasicAssert = both_answer _ _ (assert-same R m h s st vs ws e)
  all-agree page library.BasicError = both_answer _ _ (error-same R m h s st vs ws e)
  all-agree page library.BasicGetMetatable = both_answer _ _ (get_metatable-same R m h s st vs ws e)
  all-agree page library.BasicSetMetatable = both_answer _ _ (set_metatable-same R m h s st vs ws e)
  all-agree page library.BasicIpairs = both_call _
  all-agree page library.BasicPairs = both_call _
  all-agree page library.BasicNext = both_answer _ _ (next-same R m h s st vs ws e)
  all-agree page library.BasicPcall = both_call _
  all-agree page library.BasicXpcall = both_call _
  all-agree page library.BasicRawEqual = both_answer _ _ (raw_equal-same R m h s st vs ws e)
  all-agree page library.BasicRawGet = both_answer _ _ (raw_get-same R m h s st vs ws e)
  all-agree page library.BasicRawSet = both_answer _ _ (raw_set-same R m h s st vs ws e)
  all-agree page library.BasicSelect = both_answer _ _ (select-same R m h s st vs ws e)
  all-agree page library.BasicToNumber = both_answer _ _ (to_number-same R m h s st vs ws e)
  all-agree page library.BasicToString = both_call _
  all-agree page library.BasicType = both_answer _ _ (kind_is-same R m h s st vs ws e)
  all-agree page library.BasicUnpack = both_answer _ _ (unpack-same R m h s st vs ws e)
  all-agree page library.BasicRequire = both_call _
  all-agree page library.StringByte = both_answer _ _ (strings.byte-same R m h s st vs ws e)
  all-agree page library.StringChar = both_answer _ _ (strings.char-same R m h s st vs ws e)
  all-agree page library.StringFind = both_answer _ _ (strings.find-same R m h s st vs ws e)
  all-agree page library.StringMatch = both_answer _ _ (strings.match-same R m h s st vs ws e)
  all-agree page library.StringGmatch = both_answer _ _ (iterators.gmatch-same R up m h s st vs ws e)
  all-agree page library.StringGsub = both_call _
  all-agree page library.StringFormat = both_answer _ _ (strings.format-same R m h s st vs ws e)
  all-agree page library.StringLen = both_answer _ _ (strings.len-same R m h s st vs ws e)
  all-agree page library.StringLower = both_answer _ _ (strings.lower-same R m h s st vs ws e)
  all-agree page library.StringUpper = both_answer _ _ (strings.upper-same R m h s st vs ws e)
  all-agree page library.StringRep = both_answer _ _ (strings.rep-same R m h s st vs ws e)
  all-agree page library.StringReverse = both_answer _ _ (strings.reverse-same R m h s st vs ws e)
  all-agree page library.StringSub = both_answer _ _ (strings.sub-same R m h s st vs ws e)
  all-agree page library.TableConcat = both_answer _ _ (tables.concat-same R m h s st vs ws e)
  all-agree page library.TableInsert = both_answer _ _ (tables.insert-same R m h s st vs ws e)
  all-agree page library.TableMaxn = both_answer _ _ (tables.maxn-same R m h s st vs ws e)
  all-agree page library.TableRemove = both_answer _ _ (tables.remove-same R m h s st vs ws e)
  all-agree page library.TableSort = both_answer _ _ (tables.sort-same R m h s st vs ws e)
  all-agree page library.MathAbs = both_answer _ _ (strings.abs-same R m h s st vs ws e)
  all-agree page library.MathCeil = both_answer _ _ (strings.ceil-same R m h s st vs ws e)
  all-agree page library.MathFloor = both_answer _ _ (strings.floor-same R m h s st vs ws e)
  all-agree page library.MathFmod = both_answer _ _ (strings.fmod-same R m h s st vs ws e)
  all-agree page library.MathMax = both_answer _ _ (strings.max-same R m h s st vs ws e)
  all-agree page library.MathMin = both_answer _ _ (strings.min-same R m h s st vs ws e)
  all-agree page library.MathPow = both_answer _ _ (strings.pow-same R m h s st vs ws e)
  all-agree page library.MwClone = both_answer _ _ (clone-same R m h s st up vs ws e)
  all-agree page library.MwLog = both_answer _ _ (log-same R m h s st vs ws)
  all-agree page library.MwGetCurrentTitle = subst (λ p. SameForm R m h s (Answers (get_current_title world.page h)) (Answers (get_current_title p s))) page (both_answer _ _ (get_current_title-same R m h s st up world.page))
  all-agree page library.MwLoadData = both_call _
  all-agree page library.MwGetCurrentFrame = both_see _ _ (get_current_frame-same R up m h s st fs gs ef)
  all-agree page library.UstringChar = both_answer _ _ (behind_texts (ustring.char-same R m h s st vs ws e))
  all-agree page library.UstringCodepoint = both_answer _ _ (behind_texts (ustring.codepoint-same R m h s st vs ws e))
  all-agree page library.UstringGcodepoint = both_answer _ _ (behind_texts (iterators.gcodepoint-same R up m h s st vs ws e))
  all-agree page library.UstringByteOffset = both_answer _ _ (behind_texts (ustring.byteoffset-same R m h s st vs ws e))
  all-agree page library.UstringFind = both_answer _ _ (behind_texts (ustring.find-same R m h s st vs ws e))
  all-agree page library.UstringMatch = both_answer _ _ (behind_texts (ustring.match_from-same R m h s st vs ws e))
  all-agree page library.UstringGmatch = both_answer _ _ (behind_texts (iterators.ustring_gmatch-same R up m h s st vs ws e))
  all-agree page library.UstringGsub = both_call _
  all-agree page library.UstringLen = both_answer _ _ (behind_texts (ustring.len-same R m h s st vs ws e))
  all-agree page library.UstringSub = both_answer _ _ (behind_texts (ustring.sub-same R m h s st vs ws e))
  all-agree page library.UstringIsUtf8 = both_answer _ _ (behind_texts (ustring.isutf8-same R m h s st vs ws e))
  all-agree page library.UstringToNfc = both_answer _ _ (behind_texts (ustring.to_nfc-same R m h s st vs ws e))
  all-agree page library.UstringToNfd = both_answer _ _ (behind_texts (ustring.to_nfd-same R m h s st vs ws e))
  all-agree page library.UstringToNfkc = both_answer _ _ (behind_texts (ustring.to_nfkc-same R m h s st vs ws e))
  all-agree page library.UstringToNfkd = both_answer _ _ (behind_texts (ustring.to_nfkd-same R m h s st vs ws e))
  all-agree page library.TextTrim = both_answer _ _ (behind_texts (texts.trim-same R m h s st vs ws e))
  all-agree page library.TextSplit = both_answer _ _ (behind_texts (texts.split-same R m h s st vs ws e up))
  all-agree page library.TextGsplit = both_answer _ _ (behind_texts (iterators.gsplit-same R up m h s st vs ws e))
  all-agree page library.TextEncode = both_answer _ _ (behind_texts (texts.encode-same R m h s st vs ws e))
  all-agree page library.TextDecode = both_answer _ _ (behind_texts (texts.decode-same R m h s st vs ws e))
  all-agree page library.TextListToText = both_answer _ _ (behind_texts (texts.list_to_text-same R m h s st vs ws e))
  all-agree page library.TextNowiki = both_answer _ _ (behind_texts (texts.nowiki-same R m h s st vs ws e))
  all-agree page library.TextTag = both_answer _ _ (behind_texts (texts.tag-same R m h s st vs ws e))
  all-agree page library.TextTruncate = both_answer _ _ (behind_texts (texts.truncate-same R m h s st vs ws e))
  all-agree page library.HtmlCreate = both_answer _ _ (html.create-same R up m h s st vs ws e)
  all-agree page library.HtmlNode = both_answer _ _ (behind_texts (html.node-same R m h s st vs ws e))
  all-agree page library.HtmlWikitext = both_answer _ _ (behind_texts (html.wikitext-same R m h s st vs ws e))
  all-agree page library.HtmlNewline = both_answer _ _ (behind_texts (html.newline-same R m h s st vs ws e))
  all-agree page library.HtmlAttr = both_answer _ _ (behind_texts (html.attr-same R m h s st vs ws e))
  all-agree page library.HtmlAddClass = both_answer _ _ (behind_texts (html.add_class-same R m h s st vs ws e))
  all-agree page library.HtmlCss = both_answer _ _ (behind_texts (html.css-same R m h s st vs ws e))
  all-agree page library.HtmlCssText = both_answer _ _ (behind_texts (html.css_text-same R m h s st vs ws e))
  all-agree page library.HtmlTag = both_answer _ _ (behind_texts (html.tag-same R up m h s st vs ws e))
  all-agree page library.HtmlDone = both_answer _ _ (behind_texts (html.done-same R m h s st vs ws e))
  all-agree page library.HtmlAllDone = both_answer _ _ (behind_texts (html.all_done-same R m h s st vs ws e))
  all-agree page library.HtmlGetAttr = both_answer _ _ (behind_texts (html.get_attr-same R m h s st vs ws e))
  all-agree page library.FrameGetParent = both_see _ _ (get_parent-same R up m h s st fs gs ef vs ws e)
  all-agree page library.FrameExpandTemplate = both_see _ _ (expand_template-same R up m h s st fs gs ef vs ws e)
  all-agree page library.FramePreprocess = both_see _ _ (preprocess-same R up m h s st fs gs ef vs ws e)
  all-agree page library.FrameGetArgument = both_see _ _ (get_argument-same R up m h s st fs gs ef vs ws e)
  all-agree page library.FrameArgumentPairs = both_see _ _ (argument_pairs-same R up m h s st fs gs ef vs ws e)
  all-agree page library.FrameNewChild = both_see _ _ (new_child-same R up m h s st fs gs ef vs ws e)
  all-agree page library.FrameGetTitle = both_see _ _ (get_title-same R up m h s st fs gs ef vs ws e)
  all-agree page library.FrameExtensionTag = both_see _ _ (frame_extension_tag-same R up m h s st fs gs ef vs ws e)
  all-agree page library.ArgsIndex = both_answer _ _ (args_index-same R m h s st vs ws e)
  all-agree page library.ArgumentExpand = both_answer _ _ (argument_expand-same R m h s st vs ws e)
  all-agree page library.StrictIndex = both_call _
  all-agree page library.StrictNewIndex = both_call _
  all-agree page library.IpairsStep = both_call _
  all-agree page library.GmatchStep = both_answer _ _ (iterators.gmatch_step-same R m h s st vs ws e)
  all-agree page library.UstringGmatchStep = both_answer _ _ (behind_texts (iterators.ustring_gmatch_step-same R m h s st vs ws e))
  all-agree page library.GcodepointStep = both_answer _ _ (behind_texts (iterators.gcodepoint_step-same R m h s st vs ws e))
  all-agree page library.GsplitStep = both_answer _ _ (behind_texts (iterators.gsplit_step-same R m h s st vs ws e))
