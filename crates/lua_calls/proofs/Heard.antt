-- What an answer is to a function that waits for a text.
use Rattle.std.proofs.Common.{◌≡◌, refl, ap, ℕ, List, [], ◌∷◌, length, arith}
use Rattle.std.specs.Prelude.{Option}
use Rattle.page_run.specs.Outcome.{Goes}
use Rattle.lua_code.specs.LuaHeapValue as kind
use Rattle.lua_code.specs.LuaMeaningScope.{Bytes}
use Rattle.lua_code.specs.LuaMeaningActs.{Raised}
use Rattle.lua_modules.specs.LuaMeaningMessages.{wrong_answer}
use Rattle.lua_tables.specs.LuaStoreDeclaredValueValue.{Value}
use Rattle.lua_tables.specs.LuaStoreDeclaredValueValueTheVariants as value
use Rattle.lua_tables.specs.LuaStoreDeclaredIdsTextId.{TextId}
use Rattle.lua_modules.specs.LuaSlotsSlots.{Slots}
use Rattle.lua_modules.specs.LuaSlotsPoints.{SFrame}
use Rattle.lua_modules.specs.LuaSlotsErrors.{jumps}
use Rattle.lua_code.specs.LuaSlotsLibraries.{text_answer, template_answer}
use Rattle.lua_modules.specs.LuaStackLists.{first_stored}
use Rattle.lua_modules.specs.LuaStackSeen.{values_seen}
use Rattle.lua_calls.specs.declared.waiting.TextAnswer.TheVariants as answer
use Rattle.lua_calls.specs.Answers.{one_answer_in, answer_in}

-- a list by its length
pub none : (vs : List Value) → length vs ≡ 0 → answer_in vs ≡ answer.Nothing
none [] e = refl
none (v ∷ vs) e = absurd cc

pub single : (vs : List Value) (v : Value) → length vs ≡ 1 → v ≡ first_stored vs → one_answer_in v ≡ answer_in vs
single [] v e f = absurd cc
single (w ∷ []) v e f = ap one_answer_in f
single (w ∷ x ∷ vs) v e f = absurd (omega (arith, e))

pub several : (vs : List Value) → (length vs ≡ 0 → ⊥) → (length vs ≡ 1 → ⊥) → answer_in vs ≡ answer.Other
several [] a b = absurd (a refl)
several (w ∷ []) a b = absurd (b refl)
several (w ∷ x ∷ vs) a b = refl

-- a list by what it is
pub is_text : (vs : List Value) (id : TextId) → answer_in vs ≡ answer.Text id → vs ≡ value.Text id ∷ []
is_text [] id e = absurd cc
is_text (value.Text i ∷ []) id e = let same : i ≡ id = cc in ap (λ x. value.Text x ∷ []) same
is_text (value.Nil ∷ []) id e = absurd cc
is_text (value.Bool b ∷ []) id e = absurd cc
is_text (value.Number n ∷ []) id e = absurd cc
is_text (value.Table t ∷ []) id e = absurd cc
is_text (value.Closure c ∷ []) id e = absurd cc
is_text (value.Builtin b ∷ []) id e = absurd cc
is_text (value.Markup n ∷ []) id e = absurd cc
is_text (v ∷ w ∷ vs) id e = absurd cc

is_nothing : (vs : List Value) → answer_in vs ≡ answer.Nothing → vs ≡ []
is_nothing [] e = refl
is_nothing (value.Text i ∷ []) e = absurd cc
is_nothing (value.Nil ∷ []) e = absurd cc
is_nothing (value.Bool b ∷ []) e = absurd cc
is_nothing (value.Number n ∷ []) e = absurd cc
is_nothing (value.Table t ∷ []) e = absurd cc
is_nothing (value.Closure c ∷ []) e = absurd cc
is_nothing (value.Builtin b ∷ []) e = absurd cc
is_nothing (value.Markup n ∷ []) e = absurd cc
is_nothing (v ∷ w ∷ vs) e = absurd cc

module _ (texts : List (List ℕ)) (fs : List SFrame) (s : Slots) where
  refused_many : (v : kind.Value) (w : kind.Value) (vs : List kind.Value) → text_answer (Goes (v ∷ w ∷ vs)) fs s ≡ jumps (Raised (kind.Text wrong_answer)) fs s
  refused_many kind.Nil w vs = refl
  refused_many (kind.Truth b) w vs = refl
  refused_many (kind.Number n) w vs = refl
  refused_many (kind.Text t) w vs = refl
  refused_many (kind.Table t) w vs = refl
  refused_many (kind.Closure c) w vs = refl
  refused_many (kind.Builtin b) w vs = refl
  refused_many (kind.Markup n) w vs = refl

  pub refused : (vs : List Value) → answer_in vs ≡ answer.Other → text_answer (Goes (values_seen texts vs)) fs s ≡ jumps (Raised (kind.Text wrong_answer)) fs s
  refused [] e = absurd cc
  refused (value.Text i ∷ []) e = absurd cc
  refused (value.Nil ∷ []) e = refl
  refused (value.Bool b ∷ []) e = refl
  refused (value.Number n ∷ []) e = refl
  refused (value.Table t ∷ []) e = refl
  refused (value.Closure c ∷ []) e = refl
  refused (value.Builtin b ∷ []) e = refl
  refused (value.Markup n ∷ []) e = refl
  refused (v ∷ w ∷ vs) e = refused_many _ _ _

  pub refused_nothing : (vs : List Value) → answer_in vs ≡ answer.Nothing → text_answer (Goes (values_seen texts vs)) fs s ≡ jumps (Raised (kind.Text wrong_answer)) fs s
  refused_nothing vs e = ap (λ xs. text_answer (Goes (values_seen texts xs)) fs s) (is_nothing vs e)

  pub absent_template : (name : Bytes) (line : Option ℕ) (vs : List Value) → answer_in vs ≡ answer.Nothing → template_answer name (Goes (values_seen texts vs)) line fs s ≡ template_answer name (Goes []) line fs s
  absent_template name line vs e = ap (λ xs. template_answer name (Goes (values_seen texts xs)) line fs s) (is_nothing vs e)

  pub present_template : (name : Bytes) (line : Option ℕ) (vs : List Value) → (answer_in vs ≡ answer.Nothing → ⊥) → template_answer name (Goes (values_seen texts vs)) line fs s ≡ text_answer (Goes (values_seen texts vs)) fs s
  present_template name line [] a = absurd (a refl)
  present_template name line (v ∷ vs) a = refl
