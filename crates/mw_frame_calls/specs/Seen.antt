-- WHAT THE ANSWERS OF FUNCTIONS THAT SEE THE FRAMES ARE SEEN AS; and when an answer is the meaning's own, with the objects and the
-- frames that are there afterwards. `frames` are always those of the run, as the meaning sees them.
use Rattle.std.specs.Prelude.{◌≡◌, ℕ, ◌<◌, ◌≤◌, List, Result, Ok, Err}
use Rattle.mw_frame.specs.WkBaseDeclaredLeftLeft.{Left}
use Rattle.mw_frame_texts.specs.LuaHeapProc.{Proc}
use Rattle.mw_frame.specs.Scenes.{NamesDiffer}
use Rattle.mw_frame.specs.declared.question.Ask.{Ask}
use Rattle.mw_frame.specs.declared.question.Ask.TheVariants as ask
use Rattle.mw_frame_texts.specs.LuaMeaningActs.{Frame}
use Rattle.mw_frame_texts.specs.LuaMeaningArguments.{Gives, Fails}
use Rattle.mw_frame_texts.specs.LuaMeaningQuestions as asking
use Rattle.mw_frame_texts.specs.LuaMeaningFrameMethods.{FramedEnd, FrameEnds, FrameQuotes, FrameAsks, FrameWalks, Framed}
use Rattle.mw_frame_texts.specs.LuaStoreSeen.{StoreView, seen, text_at}
use Rattle.mw_frame_texts.specs.LuaStoreParts.{IsOf, IsTextOf}
use Rattle.mw_frame_texts.specs.LuaBasicDeclaredStopStop.{Stop}
use Rattle.mw_frame_texts.specs.LuaBasicDeclaredStopStopTheVariants as stop
use Rattle.mw_frame_texts.specs.LuaBasicSeen.{values_seen, AllOf, StopOf, less_steps}
use Rattle.mw_frame_texts.specs.MwFramesScenes.{made, frames_seen}
use Rattle.mw_frame_texts.specs.MwFramesDeclaredScenesScenes.{Scenes}
use Rattle.mw_frame_calls.specs.declared.answer.Awaited.{Awaited}
use Rattle.mw_frame_calls.specs.declared.answer.Awaited.TheVariants as awaited
use Rattle.mw_frame_calls.specs.declared.answer.FrameAnswer.{FrameAnswer}
use Rattle.mw_frame_calls.specs.declared.answer.FrameAnswer.TheVariants as answer

-- the frames of a run
abbrev pub scenes_seen : Scenes → List Frame
scenes_seen x = frames_seen (made x)

-- AN ANSWER, where texts are names of a store
abbrev pub awaited_seen : List (List ℕ) → Awaited → asking.Asked
awaited_seen texts (awaited.Template text) = asking.TemplateAsked (text_at texts text.at)
awaited_seen texts awaited.Text = asking.TextAsked

abbrev pub end_seen : List (List ℕ) → FrameAnswer → FramedEnd
end_seen texts (answer.Gives vs) = FrameEnds (Gives (values_seen texts vs))
end_seen texts (answer.Quotes text) = FrameQuotes (text_at texts text.at)
end_seen texts (answer.Asks question waits) = FrameAsks question (awaited_seen texts waits)
end_seen texts (answer.Walks v) = FrameWalks (seen texts v)

-- the meaning's answer with this charge and end, and the objects of a store
abbrev pub ends : ℕ → StoreView → List Frame → FramedEnd → Framed Proc
ends charge t frames end = record { charge = charge; heap = t.heap; frames = frames; end = end }

-- AN ANSWER FOR NOTHING is the meaning's answer f, with what is there then. Want of memory says nothing.
abbrev pub Stops : Framed Proc → StoreView → List Frame → Stop → Type 0
Stops f t frames (stop.Raised v level) = f ≡ ends 0 t frames (FrameEnds (Fails (seen t.texts v) level))
Stops f t frames stop.Spent = ⊥
Stops f t frames stop.NoMemory = Unit {0}

abbrev pub Free : Framed Proc → StoreView → List Frame → Result FrameAnswer Stop → Type 0
Free f t frames (Ok a) = f ≡ ends 0 t frames (end_seen t.texts a)
Free f t frames (Err e) = Stops f t frames e

-- AN ANSWER THAT IS PAID FOR, with the steps left before and after it: the charge is covered, and it is the meaning's answer f; or it
-- is not covered, no step stays, and the store and the frames are as they were.
pub record Covers (f : Framed Proc) (l : Left) (t : StoreView) (frames : List Frame) (m : Left) (end : FramedEnd) : Type 0 where
  pub covered : f.charge ≤ l.steps
  pub answer : f ≡ ends f.charge t frames end
  pub rest : m ≡ less_steps l f.charge

pub record IsShort (f : Framed Proc) (s : StoreView) (before : List Frame) (l : Left) (t : StoreView) (frames : List Frame) (m : Left) : Type 0 where
  pub short : l.steps < f.charge
  pub same : t ≡ s
  pub frames_same : frames ≡ before
  pub rest : m ≡ record l { steps = 0 }

abbrev pub Paid : Framed Proc → StoreView → List Frame → Left → StoreView → List Frame → Left → Result FrameAnswer Stop → Type 0
Paid f s before l t frames m (Ok a) = Covers f l t frames m (end_seen t.texts a)
Paid f s before l t frames m (Err (stop.Raised v level)) = Covers f l t frames m (FrameEnds (Fails (seen t.texts v) level))
Paid f s before l t frames m (Err stop.Spent) = IsShort f s before l t frames m
Paid f s before l t frames m (Err stop.NoMemory) = Unit {0}

-- WHAT AN ANSWER HOLDS is of the store; and in a question the names of arguments differ
abbrev pub AwaitedOf : StoreView → Awaited → Type 0
AwaitedOf s (awaited.Template text) = IsTextOf s text
AwaitedOf s awaited.Text = Unit {0}

abbrev pub HaveNames : Ask → Type 0
HaveNames (ask.Template scene title args) = NamesDiffer scene.args × NamesDiffer args
HaveNames (ask.Preprocess scene text) = NamesDiffer scene.args
HaveNames (ask.Data title) = Unit {0}

abbrev pub FrameAnswerOf : StoreView → FrameAnswer → Type 0
FrameAnswerOf s (answer.Gives vs) = AllOf s vs
FrameAnswerOf s (answer.Quotes text) = IsTextOf s text
FrameAnswerOf s (answer.Asks question waits) = HaveNames question × AwaitedOf s waits
FrameAnswerOf s (answer.Walks v) = IsOf s v

abbrev pub AnswerOf : StoreView → Result FrameAnswer Stop → Type 0
AnswerOf s (Ok a) = FrameAnswerOf s a
AnswerOf s (Err e) = StopOf s e
