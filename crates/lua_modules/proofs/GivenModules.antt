-- What is given to `require` and `mw.loadData`: a text that begins, an argument, a title that was read, and an answer.
use Rattle.std.proofs.Common.{◌≡◌, ◌∙◌, refl, ap, subst, ℕ, List, [], ◌∷◌, Option, Some, None, Result, Ok, Err, option_map, length, arith}
use Rattle.page_run.specs.WkBaseDeclaredLeftLeft.{Left}
use Rattle.lua_code.specs.WkBaseDeclaredTitleTitle.{Title}
use Rattle.page_run.specs.WkBaseDeclaredTitleReadTitleFault.{TitleFault}
use Rattle.page_run.specs.Outcome.{Goes, Jumps}
use Rattle.lua_code.specs.LuaHeapValue.{Value as Plain, Table, Text}
use Rattle.lua_code.specs.LuaMeaningActs.{Raised}
use Rattle.lua_state.specs.LuaMeaningMessages.{wrong_answer}
use Rattle.lua_state.specs.LuaSlotsErrors.{jumps}
use Rattle.lua_code.specs.LuaMeaningScope.{Bytes}
use Rattle.lua_code.specs.LuaMeaningValues.{text_in}
use Rattle.lua_code.specs.LuaMeaningArguments.{a_text, some_text}
use Rattle.lua_state.specs.LuaStoreDeclaredValueValue.{Value}
use Rattle.lua_state.specs.LuaStoreDeclaredValueValueTheVariants as own
use Rattle.lua_state.specs.LuaStoreDeclaredIdsTextId.{TextId}
use Rattle.lua_state.specs.LuaStoreSeen.{StoreView, seen, text_at}
use Rattle.lua_state.specs.LuaStoreParts.{IsLater, IsOf, IsTextOf}
use Rattle.lua_state.specs.LuaStackDeclaredFocusJump.{Jump}
use Rattle.lua_state.specs.LuaStackDeclaredFocusJumpTheVariants as jump
use Rattle.lua_state.specs.LuaBasicDeclaredTextsTextIn.{TextIn}
use Rattle.lua_state.specs.LuaBasicArguments.{text_bytes}
use Rattle.lua_state.specs.LuaSlotsCalls.{text_of_module}
use Rattle.lua_code.specs.LuaSlotsModules.{data_answer}
use Rattle.lua_state.specs.LuaSlotsPoints.{SFrame, Now, Starts, BodyS}
use Rattle.lua_state.specs.LuaSlotsSlots.{Slots}
use Rattle.lua_state.specs.LuaStackDeclaredFocusFocusTheVariants as focus
use Rattle.lua_state.specs.LuaStackDeclaredFrameThingTheVariants as thing
use Rattle.lua_state.specs.LuaStackLists.{first_stored}
use Rattle.lua_state.specs.LuaStackOf.{JumpOf, ValuesOf}
use Rattle.lua_state.specs.LuaStackSeen.{jump_seen, values_seen}
use Rattle.lua_state.proofs.LuaStackOpenings.{first_seen}
use Rattle.lua_state.specs.declared.state.State.{State}
use Rattle.lua_state.specs.declared.turn.Turn.TheVariants as turn
use Rattle.lua_state.specs.Seen.{slots_of, frames_of}
use Rattle.lua_state.specs.Of.{StateOf}
use Rattle.lua_state.specs.Makes.{Makes}
use Rattle.lua_state.proofs.Staying.{state_later}
use Rattle.lua_modules.specs.Read.{title_read}
use Rattle.lua_modules.specs.declared.loading.DataAnswer.TheVariants as answer
use Rattle.lua_modules.specs.Answers.{one_answer_in, answer_in, data_move, raised_in, DataAnswerOf}
use Rattle.lua_modules.proofs.Parts.{on}

-- THE TEXT OF A MODULE begins, whose name the store has
pub text_begins : (s u : StoreView) (m : State) (l : Left) (source : TextId) → StateOf s m → IsLater s u → IsTextOf u source
    → Makes u m l u m l (Now (Starts (BodyS (text_of_module (text_at u.texts source.at)) [] None) (frames_of u m)) (slots_of u m)) (turn.On (focus.Starts (thing.Body (record { source = source; index = 0; closure = None }) [] None)))
text_begins s u m l source of later there = on u m l (focus.Starts (thing.Body (record { source = source; index = 0; closure = None }) [] None)) (state_later s u later m of) (record { source = there; closure = tt }, tt)

-- AN ARGUMENT that is a text
pub argued : (texts : List (List ℕ)) (args : List Value) (v : Value) (o : Option TextIn) (function : Bytes) → v ≡ first_stored args → option_map text_bytes o ≡ text_in (seen texts v)
    → some_text 1 function (values_seen texts args) (option_map text_bytes o) ≡ a_text 1 function (values_seen texts args)
argued texts args v o function e h = ap (some_text 1 function (values_seen texts args)) (h ∙ ap text_in (ap (seen texts) e ∙ first_seen texts args))

-- A TITLE that was read, or none
pub read_title : (r : Result Title TitleFault) (o : Option Title) (t : Title) → o ≡ title_read r → o ≡ Some t → Ok t ≡ r
read_title (Ok x) o t e is = let same : t ≡ x = cc in ap Ok same
read_title (Err fault) o t e is = cc

pub read_none : (r : Result Title TitleFault) (o : Option Title) → o ≡ title_read r → o ≡ None → (fault : TitleFault) × (Err fault ≡ r)
read_none (Ok x) o e is = cc
read_none (Err fault) o e is = (fault, refl)

-- AN ANSWER
pub answer_of_values : (s : StoreView) (vs : List Value) → ValuesOf s vs → DataAnswerOf s (answer_in vs)
answer_of_values s [] h = tt
answer_of_values s (own.Table t ∷ []) h = h.0
answer_of_values s (v ∷ []) h = tt
answer_of_values s (v ∷ w ∷ vs) h = tt

pub answer_move : (texts : List (List ℕ)) (vs : List Value) (text : Bytes) (title : Title) (line : Option ℕ) (fs : List SFrame) (s : Slots)
    → data_move (answer_in vs) text title line fs s ≡ data_answer text title (Goes (values_seen texts vs)) line fs s
answer_move texts [] text title line fs s = refl
answer_move texts (own.Table t ∷ []) text title line fs s = refl
answer_move texts (v ∷ []) text title line fs s = refl
answer_move texts (v ∷ w ∷ vs) text title line fs s = many (seen texts v)
  where
    many : (x : Plain) → data_move (answer_in (v ∷ w ∷ vs)) text title line fs s ≡ data_answer text title (Goes (x ∷ seen texts w ∷ values_seen texts vs)) line fs s
    many (Table t) = refl
    many _ = refl

-- how many there are
pub nothing : (vs : List Value) → length vs ≡ 0 → answer.Nothing ≡ answer_in vs
nothing [] e = refl
nothing (v ∷ vs) e = absurd cc

pub single : (vs : List Value) → length vs ≡ 1 → one_answer_in (first_stored vs) ≡ answer_in vs
single [] e = absurd cc
single (v ∷ []) e = refl
single (v ∷ w ∷ vs) e = absurd (omega (arith, e))

pub several : (vs : List Value) → (length vs ≡ 0 → ⊥) → (length vs ≡ 1 → ⊥) → answer.Other ≡ answer_in vs
several [] none one = absurd (none refl)
several (v ∷ []) none one = absurd (one refl)
several (v ∷ w ∷ vs) none one = refl

-- an answer that is none
pub raised_of : (s : StoreView) (j : Jump) (v : Value) → raised_in j ≡ Some v → JumpOf s j → IsOf s v
raised_of s (jump.Raised x) v e h = let same : x ≡ v = cc in subst (IsOf s) same h
raised_of s (jump.Returned g) v e h = absurd cc
raised_of s jump.Broke v e h = absurd cc

module _ (texts : List (List ℕ)) (text : Bytes) (title : Title) (line : Option ℕ) (fs : List SFrame) (s : Slots) where
  pub raised_move : (j : Jump) (v : Value) → raised_in j ≡ Some v → jumps (Raised (seen texts v)) fs s ≡ data_answer text title (Jumps (jump_seen texts j)) line fs s
  raised_move (jump.Raised x) v e = let same : v ≡ x = cc in ap (λ (w : Value). jumps (Raised (seen texts w)) fs s) same
  raised_move (jump.Returned g) v e = absurd cc
  raised_move jump.Broke v e = absurd cc

  pub other_move : (j : Jump) → raised_in j ≡ None → jumps (Raised (Text wrong_answer)) fs s ≡ data_answer text title (Jumps (jump_seen texts j)) line fs s
  other_move (jump.Raised x) e = absurd cc
  other_move (jump.Returned g) e = refl
  other_move jump.Broke e = refl
