-- How a run of Lua ends, in terms of the store's own values.
use Rattle.std.proofs.Common.{◌≡◌, ℕ, List, [], ◌∷◌, None, length, refl, arith}
use Rattle.std.specs.Prelude.{codes, IfSome}
use Rattle.page_run.specs.declared.which.Which.TheVariants.{Steps, Calls}
use Rattle.page_run.specs.Outcome.{Goes, Jumps}
use Rattle.lua_code.specs.LuaHeapProc.{Proc}
use Rattle.lua_code.specs.LuaHeapHeap.{Heap}
use Rattle.lua_graph.specs.LuaWalkData.{taken}
use Rattle.page_meaning.specs.LuaMeaningStart.{Failed, end_of}
use Rattle.lua_graph.specs.LuaStoreDeclaredValueValue.{Value}
use Rattle.lua_graph.specs.LuaStoreDeclaredValueValueTheVariants as own
use Rattle.lua_graph.specs.LuaStoreSeen.{StoreView, seen}
use Rattle.lua_graph.specs.LuaStoreParts.{IsOf, IsTextOf}
use Rattle.lua_state.specs.LuaStackDeclaredFocusJump.{Jump}
use Rattle.lua_state.specs.LuaStackDeclaredFocusJumpTheVariants as jump
use Rattle.lua_state.specs.LuaStackLists.{first_stored}
use Rattle.lua_state.specs.LuaStackOf.{ValuesOf, JumpOf}
use Rattle.lua_state.specs.LuaStackSeen.{values_seen, jump_seen}
use Rattle.expand_texts.specs.ExpandMeaningTexts.{escape_byte, error_text}
use Rattle.page_meaning.specs.declared.outcome.JobOutcome.TheVariants as ending
use Rattle.page_meaning.specs.Told.{spent_text, graph_answer}
use Rattle.page_meaning.specs.Outcomes.{end_outcome}
use Rattle.page_points.specs.Machines.{data_told}
use Rattle.page_ground.specs.Ending.{text_in_value, only_text_in, raised_text_in, text_or_none}

-- A LIST of values
pub single : (vs : List Value) → length vs ≡ 1 → text_in_value (first_stored vs) ≡ only_text_in vs
single [] e = absurd cc
single (v ∷ []) e = refl
single (v ∷ w ∷ vs) e = absurd (omega (arith, e))

pub not_single : (vs : List Value) → (length vs ≡ 1 → ⊥) → None ≡ only_text_in vs
not_single [] n = refl
not_single (v ∷ []) n = absurd (n refl)
not_single (v ∷ w ∷ vs) n = refl

-- what is found is of the store
text_of : (s : StoreView) (v : Value) → IsOf s v → IfSome (text_in_value v) (IsTextOf s)
text_of s own.Nil h = tt
text_of s (own.Bool b) h = tt
text_of s (own.Number n) h = tt
text_of s (own.Text id) h = h
text_of s (own.Table id) h = tt
text_of s (own.Closure id) h = tt
text_of s (own.Builtin f) h = tt
text_of s (own.Markup id) h = tt

pub only_text_of : (s : StoreView) (vs : List Value) → ValuesOf s vs → IfSome (only_text_in vs) (IsTextOf s)
only_text_of s [] h = tt
only_text_of s (v ∷ []) h = text_of s v h.0
only_text_of s (v ∷ w ∷ vs) h = tt

pub raised_text_of : (s : StoreView) (j : Jump) → JumpOf s j → IfSome (raised_text_in j) (IsTextOf s)
raised_text_of s (jump.Raised v) h = text_of s v h
raised_text_of s (jump.Returned g) h = tt
raised_text_of s jump.Broke h = tt

pub first_of : (s : StoreView) (vs : List Value) → ValuesOf s vs → IsOf s (first_stored vs)
first_of s [] h = tt
first_of s (v ∷ vs) h = h.0

-- THE END
pub given_outcome : (texts : List (List ℕ)) (vs : List Value) → ending.Done (text_or_none texts (only_text_in vs)) ≡ end_outcome (end_of (Goes (values_seen texts vs)))
given_outcome texts [] = refl
given_outcome texts (own.Nil ∷ []) = refl
given_outcome texts (own.Bool b ∷ []) = refl
given_outcome texts (own.Number n ∷ []) = refl
given_outcome texts (own.Text id ∷ []) = refl
given_outcome texts (own.Table id ∷ []) = refl
given_outcome texts (own.Closure id ∷ []) = refl
given_outcome texts (own.Builtin f ∷ []) = refl
given_outcome texts (own.Markup id ∷ []) = refl
given_outcome texts (own.Nil ∷ w ∷ vs) = refl
given_outcome texts (own.Bool b ∷ w ∷ vs) = refl
given_outcome texts (own.Number n ∷ w ∷ vs) = refl
given_outcome texts (own.Text id ∷ w ∷ vs) = refl
given_outcome texts (own.Table id ∷ w ∷ vs) = refl
given_outcome texts (own.Closure id ∷ w ∷ vs) = refl
given_outcome texts (own.Builtin f ∷ w ∷ vs) = refl
given_outcome texts (own.Markup id ∷ w ∷ vs) = refl

pub given_data : (texts : List (List ℕ)) (h : Heap Proc) (vs : List Value) → graph_answer (taken h (seen texts (first_stored vs))) ≡ data_told h (end_of (Goes (values_seen texts vs)))
given_data texts h [] = refl
given_data texts h (own.Nil ∷ []) = refl
given_data texts h (own.Bool b ∷ []) = refl
given_data texts h (own.Number n ∷ []) = refl
given_data texts h (own.Text id ∷ []) = refl
given_data texts h (own.Table id ∷ []) = refl
given_data texts h (own.Closure id ∷ []) = refl
given_data texts h (own.Builtin f ∷ []) = refl
given_data texts h (own.Markup id ∷ []) = refl
given_data texts h (own.Nil ∷ w ∷ vs) = refl
given_data texts h (own.Bool b ∷ w ∷ vs) = refl
given_data texts h (own.Number n ∷ w ∷ vs) = refl
given_data texts h (own.Text id ∷ w ∷ vs) = refl
given_data texts h (own.Table id ∷ w ∷ vs) = refl
given_data texts h (own.Closure id ∷ w ∷ vs) = refl
given_data texts h (own.Builtin f ∷ w ∷ vs) = refl
given_data texts h (own.Markup id ∷ w ∷ vs) = refl

pub jump_end : (texts : List (List ℕ)) (j : Jump) → end_of (Jumps (jump_seen texts j)) ≡ Failed (text_or_none texts (raised_text_in j))
jump_end texts (jump.Raised own.Nil) = refl
jump_end texts (jump.Raised (own.Bool b)) = refl
jump_end texts (jump.Raised (own.Number n)) = refl
jump_end texts (jump.Raised (own.Text id)) = refl
jump_end texts (jump.Raised (own.Table id)) = refl
jump_end texts (jump.Raised (own.Closure id)) = refl
jump_end texts (jump.Raised (own.Builtin f)) = refl
jump_end texts (jump.Raised (own.Markup id)) = refl
jump_end texts (jump.Returned g) = refl
jump_end texts jump.Broke = refl

-- IT IS SPENT: the text has no mark of HTML that is escaped
pub steps_text : codes "<strong class=\"error\">Script error: The allowance of steps is spent.</strong>" ≡ spent_text Steps
unfolding error_text escape_byte
steps_text = refl

pub calls_text : codes "<strong class=\"error\">Script error: The allowance of nested calls is spent.</strong>" ≡ spent_text Calls
unfolding error_text escape_byte
calls_text = refl
