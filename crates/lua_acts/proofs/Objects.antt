-- OBJECTS of `mw.html` as values whose text is asked.
use Rattle.std.proofs.Common.{◌≡◌, refl, ℕ, List, Option, None}
use Rattle.std.specs.Prelude.{codes}
use Rattle.mw_html_texts.specs.MwHtmlRender.{Piece, Whole, Deep}
use Rattle.lua_code.specs.LuaHeapProc.{Proc}
use Rattle.lua_code.specs.LuaHeapHeap.{Heap}
use Rattle.mw_html_texts.specs.LuaMeaningHtml.{gives_piece}
use Rattle.lua_code.specs.LuaMeaningMetatables.{handler}
use Rattle.lua_state.specs.LuaStoreDeclaredValueValue.{Value}
use Rattle.lua_state.specs.LuaStoreDeclaredValueValueTheVariants as value
use Rattle.lua_state.specs.LuaStoreSeen.{seen}
use Rattle.lua_code.specs.LuaSlotsCallBacks.{to_string_by, to_string_of}
use Rattle.lua_state.specs.LuaSlotsSlots.{Slots}
use Rattle.lua_state.specs.LuaSlotsPoints.{SFrame}
use Rattle.mw_html_texts.specs.LuaBasicObjects.{object_in}

-- to give an object's text changes no object
pub piece_heap : (p : Piece) (h : Heap Proc) → (gives_piece h p).heap ≡ h
piece_heap (Whole bytes begun) h = refl
piece_heap (Deep bytes begun) h = refl

-- the text of a value that is no object
pub no_object : (texts : List (List ℕ)) (v : Value) (line : Option ℕ) (fs : List SFrame) (s : Slots) → object_in v ≡ None
    → to_string_of (seen texts v) line fs s ≡ to_string_by (handler s.heap (seen texts v) (codes "__tostring")) (seen texts v) line fs s
no_object texts value.Nil line fs s e = refl
no_object texts (value.Bool b) line fs s e = refl
no_object texts (value.Number n) line fs s e = refl
no_object texts (value.Text t) line fs s e = refl
no_object texts (value.Table t) line fs s e = refl
no_object texts (value.Closure c) line fs s e = refl
no_object texts (value.Builtin b) line fs s e = refl
no_object texts (value.Markup m) line fs s e = absurd cc
