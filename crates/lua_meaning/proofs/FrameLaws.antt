-- Where a run has no frames, a method finds none, and refuses.
use Rattle.std.proofs.Common.{◌≡◌, refl, sym, ap, subst, List, []}
use Rattle.std.specs.Prelude.{pos, negsuc, Option, None, codes}
use Rattle.lua_walk.specs.LuaHeapDeclaredLibraryLibrary.{Library}
use Rattle.lua_walk.specs.LuaHeapDeclaredLibraryLibraryTheVariants.{FrameGetParent, FrameExpandTemplate, FramePreprocess, FrameGetArgument, FrameArgumentPairs, FrameNewChild, FrameGetTitle, FrameExtensionTag, MwGetCurrentFrame}
use Rattle.lua_walk.specs.LuaHeapValue.{Value, Nil, Truth, Number, Text, Table, Closure, Builtin, Markup}
use Rattle.lua_walk.specs.LuaHeapHeap.{Heap}
use Rattle.lua_meaning.specs.Scope.{Bytes}
use Rattle.lua_meaning.specs.World.{World}
use Rattle.lua_meaning.specs.Values.{first}
use Rattle.lua_meaning.specs.Messages.{bad_argument, expected}
use Rattle.lua_meaning.specs.Metatables.{metatable}
use Rattle.lua_meaning.specs.Arguments.{some_value}
use Rattle.lua_meaning.specs.Frames.{Numbered, frame_numbered, number_in_metatable}
use Rattle.lua_meaning.specs.FrameMethods.{Framed, if_argument, in_frame, refuses}
use Rattle.lua_meaning.specs.Libraries.{InFrames, form}
use Rattle.lua_meaning.specs.Laws.{NeedsNoFrame, FramesAreNeeded}

-- no number is that of a frame
none_numbered : (v : Value) → frame_numbered [] v ≡ None
none_numbered Nil = refl
none_numbered (Truth b) = refl
none_numbered (Number (pos n)) = refl
none_numbered (Number (negsuc n)) = refl
none_numbered (Text t) = refl
none_numbered (Table t) = refl
none_numbered (Closure c) = refl
none_numbered (Builtin b) = refl
none_numbered (Markup m) = refl

refused : {X : Type 0} → (h : Heap X) (function : Bytes) (args : List Value) (f : Numbered → Framed X) →
    in_frame h [] function args f ≡ refuses h [] (bad_argument 1 function (expected (codes "frame") args))
refused h function args f =
    ap (λ (o : Option Numbered). if_argument h [] (some_value (bad_argument 1 function (expected (codes "frame") args)) o) f)
    (none_numbered (number_in_metatable h (metatable h (first args))))

needs_none : {X : Type 0} → (h : Heap X) (function : Bytes) (args : List Value) (f : Numbered → Framed X) → NeedsNoFrame (InFrames (in_frame h [] function args f))
needs_none h function args f = subst (λ r. NeedsNoFrame (InFrames r)) (sym (refused h function args f)) (tt, refl)

needed : {X : Type 0} → (world : World) (which : Library) (args : List Value) (h : Heap X) → NeedsNoFrame (form world which args h [])
needed world FrameGetParent args h = needs_none h (codes "getParent") args _
needed world FrameExpandTemplate args h = needs_none h (codes "expandTemplate") args _
needed world FramePreprocess args h = needs_none h (codes "preprocess") args _
needed world FrameGetArgument args h = needs_none h (codes "getArgument") args _
needed world FrameArgumentPairs args h = needs_none h (codes "argumentPairs") args _
needed world FrameNewChild args h = needs_none h (codes "newChild") args _
needed world FrameGetTitle args h = needs_none h (codes "getTitle") args _
needed world FrameExtensionTag args h = needs_none h (codes "extensionTag") args _
needed world MwGetCurrentFrame args h = (tt, refl)
needed world which args h = tt

pub frames_are_needed : FramesAreNeeded
frames_are_needed world which args h = needed world which args h
