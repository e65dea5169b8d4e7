-- How a function of the library ends leaves what the machine holds: the move leads to just that.
use Rattle.std.proofs.Common.{◌≡◌, refl, ℕ, Bool, true, false, List, [], ◌∷◌, Option, Some, None, Ok, Err}
use Rattle.std.specs.Prelude.{codes}
use Rattle.lua_code.specs.LuaHeapProc.{Proc}
use Rattle.lua_code.specs.LuaHeapValue.{Value, Nil, Truth, Number, Text, Table, Closure, Builtin, Markup, is_nil}
use Rattle.lua_code.specs.LuaHeapHeap.{Closed, Function as FunctionClosed, Iterator, closure_at}
use Rattle.lua_code.specs.LuaMeaningScope.{Bytes, Place as TextPlace}
use Rattle.lua_tables.specs.LuaMeaningArguments.{PlainEnd, Gives as PlainGives, Fails as PlainFails, Argument, a_table}
use Rattle.mw_frame_calls.specs.LuaMeaningFrameMethods.{FramedEnd, FrameEnds, FrameQuotes, FrameAsks, FrameWalks}
use Rattle.lua_code.specs.LuaMeaningMetatables.{handler}
use Rattle.lua_modules.specs.LuaSlotsSlots.{Slots}
use Rattle.lua_modules.specs.LuaSlotsPoints.{SFrame, Move}
use Rattle.lua_modules.specs.LuaSlotsErrors.{choose, raises, raises_quote, raises_value, fails, ends, with_argument}
use Rattle.lua_modules.specs.LuaSlotsCalls.{enter, call}
use Rattle.lua_acts.specs.LuaSlotsCallBacks.{pairs_by}
use Rattle.lua_code.specs.LuaSlotsLibraries.{framed_end}
use Rattle.lua_modules.specs.LuaGoesGoing.{led}

led_raises : (p : Option TextPlace) (t : Bytes) (fs : List SFrame) (s : Slots) → led (raises p t fs s) ≡ s
led_raises None t fs s = refl
led_raises (Some p) t fs s = refl

led_value : (p : Option TextPlace) (v : Value) (fs : List SFrame) (s : Slots) → led (raises_value p v fs s) ≡ s
led_value p (Text t) fs s = led_raises p t fs s
led_value p v fs s = refl

led_fails : (line : Option ℕ) (t : Bytes) (fs : List SFrame) (s : Slots) → led (fails line t fs s) ≡ s
led_fails line t fs s = led_raises _ t fs s

led_quote : (p : Option TextPlace) (t : Bytes) (fs : List SFrame) (s : Slots) → led (raises_quote p t fs s) ≡ s
led_quote None t fs s = refl
led_quote (Some p) t fs s = refl

pub led_ends : (e : PlainEnd) (line : Option ℕ) (fs : List SFrame) (s : Slots) → led (ends e line fs s) ≡ s
led_ends (PlainGives vs) line fs s = refl
led_ends (PlainFails v level) line fs s = led_value _ v fs s

led_choice : (b : Bool) (x y : Move) (s : Slots) → led x ≡ s → led y ≡ s → led (choose b x y) ≡ s
led_choice true x y s p q = p
led_choice false x y s p q = q

led_argument : {X : Type 0} (a : Argument X) (line : Option ℕ) (fs : List SFrame) (s : Slots) (go : X → Move) → ((x : X) → led (go x) ≡ s) → led (with_argument a line fs s go) ≡ s
led_argument (Ok x) line fs s go q = q x
led_argument (Err message) line fs s go q = led_fails line message fs s

led_enter : (f : Value) (o : Option (Closed Proc)) (args : List Value) (line : Option ℕ) (fs : List SFrame) (s : Slots) → led (enter f o args line fs s) ≡ s
led_enter f None args line fs s = led_fails line _ fs s
led_enter f (Some (FunctionClosed g)) args line fs s = refl
led_enter f (Some (Iterator step cells)) args line fs s = refl

led_call : (f : Value) (args : List Value) (line : Option ℕ) (fs : List SFrame) (s : Slots) → led (call f args line fs s) ≡ s
led_call Nil args line fs s = led_fails line _ fs s
led_call (Truth b) args line fs s = led_fails line _ fs s
led_call (Number n) args line fs s = led_fails line _ fs s
led_call (Text t) args line fs s = led_fails line _ fs s
led_call (Table t) args line fs s = led_choice (is_nil (handler s.heap (Table t) (codes "__call"))) _ _ s (led_fails line _ fs s) refl
led_call (Closure c) args line fs s = led_enter (Closure c) (closure_at s.heap c) args line fs s
led_call (Builtin b) args line fs s = refl
led_call (Markup n) args line fs s = led_fails line _ fs s

led_pairs : (h : Value) (args : List Value) (line : Option ℕ) (fs : List SFrame) (s : Slots) → led (pairs_by h args line fs s) ≡ s
led_pairs h args line fs s = led_choice (is_nil h) _ _ s (led_argument (a_table 1 (codes "pairs") args) line fs s _ (λ t. refl)) (led_call h _ None _ s)

pub led_framed : (e : FramedEnd) (line : Option ℕ) (fs : List SFrame) (s : Slots) → led (framed_end e line fs s) ≡ s
led_framed (FrameEnds e) line fs s = led_ends e line fs s
led_framed (FrameQuotes message) line fs s = led_quote _ message fs s
led_framed (FrameAsks question asked) line fs s = refl
led_framed (FrameWalks v) line fs s = led_pairs (handler s.heap v (codes "__pairs")) (v ∷ []) line fs s
