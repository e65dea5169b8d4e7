-- THE FUNCTIONS THAT SEE THE FRAMES, and what each gives: the lines of the meaning's table that do.
use Rattle.std.specs.Prelude.{◌≡◌, ◌≢◌, List, Option, Some, None}
use Rattle.mw_frame_texts.specs.LuaHeapProc.{Proc}
use Rattle.mw_frame_texts.specs.LuaHeapValue.{Value}
use Rattle.mw_frame_texts.specs.LuaHeapHeap.{Heap}
use Rattle.mw_frame_texts.specs.LuaHeapDeclaredLibraryLibrary.{Library}
use Rattle.mw_frame_texts.specs.LuaHeapDeclaredLibraryLibraryTheVariants.{MwGetCurrentFrame, FrameGetParent, FrameExpandTemplate, FramePreprocess, FrameGetArgument, FrameArgumentPairs, FrameNewChild, FrameGetTitle, FrameExtensionTag}
use Rattle.mw_frame_texts.specs.LuaMeaningWorld.{World}
use Rattle.mw_frame_texts.specs.LuaMeaningActs.{Frame}
use Rattle.mw_frame_texts.specs.LuaMeaningFrameMethods.{Framed, get_current_frame, get_title, get_parent, argument_pairs, get_argument, preprocess, frame_extension_tag, expand_template, new_child}
use Rattle.mw_frame_texts.specs.LuaMeaningLibraries.{InFrames, form}
use Rattle.mw_frame_calls.specs.declared.table.FrameFunction.{FrameFunction}
use Rattle.mw_frame_calls.specs.declared.table.FrameFunction.TheVariants as function

abbrev pub frame_in : Library → Option FrameFunction
frame_in MwGetCurrentFrame = Some function.Current
frame_in FrameGetParent = Some function.Parent
frame_in FrameExpandTemplate = Some function.Template
frame_in FramePreprocess = Some function.Preprocess
frame_in FrameGetArgument = Some function.Argument
frame_in FrameArgumentPairs = Some function.Pairs
frame_in FrameNewChild = Some function.Child
frame_in FrameGetTitle = Some function.Title
frame_in FrameExtensionTag = Some function.Tag
frame_in which = None

abbrev pub framed_of : {X : Type 0} → FrameFunction → List Value → Heap X → List Frame → Framed X
framed_of function.Current args h frames = get_current_frame h frames
framed_of function.Parent args h frames = get_parent h frames args
framed_of function.Template args h frames = expand_template h frames args
framed_of function.Preprocess args h frames = preprocess h frames args
framed_of function.Argument args h frames = get_argument h frames args
framed_of function.Pairs args h frames = argument_pairs h frames args
framed_of function.Child args h frames = new_child h frames args
framed_of function.Title args h frames = get_title h frames args
framed_of function.Tag args h frames = frame_extension_tag h frames args

-- each is a line of the table of the library, and no other line sees the frames
abbrev pub AreInTable : Type 0
AreInTable = (which : Library) (f : FrameFunction) → frame_in which ≡ Some f → (world : World) (args : List Value) (h : Heap Proc) (frames : List Frame)
    → form world which args h frames ≡ InFrames (framed_of f args h frames)

abbrev pub NoOtherIs : Type 0
NoOtherIs = (which : Library) → frame_in which ≡ None → (world : World) (args : List Value) (h : Heap Proc) (frames : List Frame) (framed : Framed Proc)
    → form world which args h frames ≢ InFrames framed
