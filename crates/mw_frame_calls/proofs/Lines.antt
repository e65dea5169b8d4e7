-- Each function of frames is a line of the table of the library, and no other line sees the frames.
use Rattle.std.proofs.Common.{◌≡◌, ap, Some}
use Rattle.mw_frame_texts.specs.LuaHeapDeclaredLibraryLibraryTheVariants.{MwGetCurrentFrame, FrameGetParent, FrameExpandTemplate, FramePreprocess, FrameGetArgument, FrameArgumentPairs, FrameNewChild, FrameGetTitle, FrameExtensionTag}
use Rattle.mw_frame_texts.specs.LuaMeaningLibraries.{InFrames}
use Rattle.mw_frame_calls.specs.declared.table.FrameFunction.{FrameFunction}
use Rattle.mw_frame_calls.specs.declared.table.FrameFunction.TheVariants as function
use Rattle.mw_frame_calls.specs.Table.{framed_of, AreInTable, NoOtherIs}

same : (f g : FrameFunction) → Some f ≡ Some g → f ≡ g
same f g e = cc

pub in-table : AreInTable
in-table MwGetCurrentFrame f e = λ world args h frames. ap (λ g. InFrames (framed_of g args h frames)) (same function.Current f e)
in-table FrameGetParent f e = λ world args h frames. ap (λ g. InFrames (framed_of g args h frames)) (same function.Parent f e)
in-table FrameExpandTemplate f e = λ world args h frames. ap (λ g. InFrames (framed_of g args h frames)) (same function.Template f e)
in-table FramePreprocess f e = λ world args h frames. ap (λ g. InFrames (framed_of g args h frames)) (same function.Preprocess f e)
in-table FrameGetArgument f e = λ world args h frames. ap (λ g. InFrames (framed_of g args h frames)) (same function.Argument f e)
in-table FrameArgumentPairs f e = λ world args h frames. ap (λ g. InFrames (framed_of g args h frames)) (same function.Pairs f e)
in-table FrameNewChild f e = λ world args h frames. ap (λ g. InFrames (framed_of g args h frames)) (same function.Child f e)
in-table FrameGetTitle f e = λ world args h frames. ap (λ g. InFrames (framed_of g args h frames)) (same function.Title f e)
in-table FrameExtensionTag f e = λ world args h frames. ap (λ g. InFrames (framed_of g args h frames)) (same function.Tag f e)
in-table which f e = absurd cc

pub no-other : NoOtherIs
no-other MwGetCurrentFrame e = absurd cc
no-other FrameGetParent e = absurd cc
no-other FrameExpandTemplate e = absurd cc
no-other FramePreprocess e = absurd cc
no-other FrameGetArgument e = absurd cc
no-other FrameArgumentPairs e = absurd cc
no-other FrameNewChild e = absurd cc
no-other FrameGetTitle e = absurd cc
no-other FrameExtensionTag e = absurd cc
no-other which e = λ world args h frames framed is. cc
