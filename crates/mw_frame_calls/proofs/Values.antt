-- What methods give, for values that are names of a store.
use Rattle.std.proofs.Common.{◌≡◌, ◌∙◌, ap, sym, ℕ, List, [], ◌∷◌, slice_get, Some, None, Ok, Err, codes}
use Rattle.std.specs.Prelude.{Result, IfOk, IfErr}
use Rattle.std.specs.Option.{option_map}
use Rattle.mw_frame.specs.declared.question.Ask.{Ask}
use Rattle.mw_frame_texts.specs.LuaHeapProc.{Proc}
use Rattle.mw_frame_texts.specs.LuaHeapHeap.{Heap}
use Rattle.mw_frame_texts.specs.LuaHeapValue as kind
use Rattle.mw_frame_texts.specs.LuaMeaningActs.{Frame}
use Rattle.mw_frame_texts.specs.LuaMeaningQuestions.{Asked}
use Rattle.mw_frame_texts.specs.LuaMeaningScope.{Bytes}
use Rattle.mw_frame_texts.specs.LuaMeaningValues.{first}
use Rattle.mw_frame_texts.specs.LuaMeaningArguments.{Gives, some_value}
use Rattle.mw_frame_texts.specs.LuaMeaningMessages.{bad_argument, expected}
use Rattle.mw_frame_texts.specs.LuaMeaningMetatables.{metatable, field}
use Rattle.mw_frame_texts.specs.LuaMeaningFrames.{Numbered, frame_numbered, number_in_metatable, table_of_frame, table_or_nil}
use Rattle.mw_frame_texts.specs.LuaMeaningFrameMethods.{Framed, FramedEnd, FrameEnds, FrameAsks, FrameWalks, comes_to, a_frame}
use Rattle.mw_frame_texts.specs.LuaStoreDeclaredValueValue.{Value}
use Rattle.mw_frame_texts.specs.LuaStoreSeen.{StoreView, seen}
use Rattle.mw_frame_texts.specs.MwFramesDeclaredScenesSceneFrame.{SceneFrame}
use Rattle.mw_frame_texts.specs.MwFramesScenes.{frame_seen, frames_seen}
use Rattle.mw_frame_texts.proofs.MwFramesKept.{seen-get}
use Rattle.mw_frame_calls.specs.declared.answer.FrameAnswer.{FrameAnswer}
use Rattle.mw_frame_calls.specs.declared.answer.FrameAnswer.TheVariants as answer
use Rattle.mw_frame_calls.specs.Seen.{end_seen, ends}

-- what one call gave is what another one gives
pub if_ok : {A B : Type 0} (P Q : A → Type 0) (r : Result A B) → IfOk r P → ((a : A) → P a → Q a) → IfOk r Q
if_ok P Q (Ok a) h f = f a h
if_ok P Q (Err e) h f = tt

pub if_err : {A B : Type 0} (P Q : B → Type 0) (r : Result A B) → IfErr r P → ((e : B) → P e → Q e) → IfErr r Q
if_err P Q (Ok a) h f = tt
if_err P Q (Err e) h f = f e h

-- A FRAME that a value tells
module _ (h : Heap Proc) (frames : List Frame) (function : Bytes) (args : List kind.Value) where
  told : (v m w : kind.Value) → v ≡ number_in_metatable h m → m ≡ metatable h w → w ≡ first args → number_in_metatable h (metatable h (first args)) ≡ v
  told v m w vs ms ws = sym (vs ∙ ap (number_in_metatable h) (ms ∙ ap (metatable h) ws))

  pub frame_told : (v m w : kind.Value) (f : Numbered) → frame_numbered frames v ≡ Some f → v ≡ number_in_metatable h m → m ≡ metatable h w → w ≡ first args → a_frame h frames function args ≡ Ok f
  frame_told v m w f is vs ms ws = ap (some_value (bad_argument 1 function (expected (codes "frame") args))) (ap (frame_numbered frames) (told v m w vs ms ws) ∙ is)

  pub none_told : (v m w : kind.Value) → frame_numbered frames v ≡ None → v ≡ number_in_metatable h m → m ≡ metatable h w → w ≡ first args
      → a_frame h frames function args ≡ Err (bad_argument 1 function (expected (codes "frame") args))
  none_told v m w is vs ms ws = ap (some_value (bad_argument 1 function (expected (codes "frame") args))) (ap (frame_numbered frames) (told v m w vs ms ws) ∙ is)

-- the table of a frame
pub table_there : (fs : List SceneFrame) (n : ℕ) (f : SceneFrame) → slice_get fs n ≡ Some f → kind.Table f.table.at ≡ table_of_frame (frames_seen fs) n
table_there fs n f e = sym (ap table_or_nil (seen-get fs n ∙ ap (option_map frame_seen) e))

pub no_table : (fs : List SceneFrame) (n : ℕ) → slice_get fs n ≡ None → kind.Nil ≡ table_of_frame (frames_seen fs) n
no_table fs n e = sym (ap table_or_nil (seen-get fs n ∙ ap (option_map frame_seen) e))

-- A SINGLE VALUE that is given
abbrev gives_one : ℕ → Heap Proc → List Frame → kind.Value → Framed Proc
gives_one n h frames w = record { charge = n; heap = h; frames = frames; end = FrameEnds (Gives (w ∷ [])) }

pub one_given : (n : ℕ) (f : Framed Proc) (h : Heap Proc) (frames now : List Frame) (t : StoreView) (a : FrameAnswer) (v : Value) (w : kind.Value)
    → f ≡ record { charge = n; heap = h; frames = frames; end = FrameEnds (Gives (w ∷ [])) } → a ≡ answer.Gives (v ∷ []) → seen t.texts v ≡ w → t.heap ≡ h → now ≡ frames
    → f ≡ ends n t now (end_seen t.texts a)
one_given n f h frames now t a v w e is same heap still =
    e ∙ ap (λ x. gives_one n x frames w) (sym heap) ∙ ap (λ fs. gives_one n t.heap fs w) (sym still) ∙ ap (gives_one n t.heap now) (sym same)
    ∙ ap (λ x. ends n t now (end_seen t.texts x)) (sym is)

-- a value that is walked over
pub walked : (f : Framed Proc) (h : Heap Proc) (frames : List Frame) (args : List kind.Value) (t : StoreView) (v : Value) (w : kind.Value) (name : Bytes)
    → f ≡ comes_to h frames (FrameWalks (field h (first args) (codes "args"))) → seen t.texts v ≡ field h w name → w ≡ first args → name ≡ codes "args" → t.heap ≡ h
    → f ≡ ends 0 t frames (FrameWalks (seen t.texts v))
walked f h frames args t v w name e is ws names heap =
    let value : field h (first args) (codes "args") ≡ seen t.texts v = sym (is ∙ ap (λ x. field h x name) ws ∙ ap (field h (first args)) names) in
    e ∙ ap (λ x. comes_to h frames (FrameWalks x)) value ∙ ap (λ x. comes_to x frames (FrameWalks (seen t.texts v))) (sym heap)

-- a question
pub asked_given : (n : ℕ) (f : Framed Proc) (h : Heap Proc) (frames : List Frame) (t : StoreView) (q r : Ask) (w v : Asked)
    → f ≡ record { charge = n; heap = h; frames = frames; end = FrameAsks q w } → r ≡ q → v ≡ w → t.heap ≡ h → f ≡ ends n t frames (FrameAsks r v)
asked_given n f h frames t q r w v e is waits heap =
    let asks : Heap Proc → FramedEnd → Framed Proc = λ x end. record { charge = n; heap = x; frames = frames; end = end } in
    e ∙ ap (λ x. asks x (FrameAsks q w)) (sym heap) ∙ ap (λ x. asks t.heap (FrameAsks x w)) (sym is) ∙ ap (λ x. asks t.heap (FrameAsks r x)) (sym waits)
