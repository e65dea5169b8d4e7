-- OBJECTS of `mw.html` among the values of an answer.
use Rattle.std.proofs.Common.{◌≡◌, ◌∙◌, refl, sym, ap, subst, true, false, ℕ, ◌+◌, List, ◌++◌, Option, None, length}
use Rattle.std.specs.Prelude.{codes, Vec}
use Rattle.std.specs.declared.alloc.Global.{Global}
use Rattle.page_run.specs.WkBaseDeclaredLeftLeft.{Left}
use Rattle.page_run.specs.Outcome.{Jumps}
use Rattle.page_run.specs.declared.which.Which.TheVariants.{Steps}
use Rattle.mw_html_texts.specs.MwHtmlRender.{Piece, Whole, Deep, count}
use Rattle.lua_code.specs.LuaHeapValue.{Value as Plain, Text as PlainText}
use Rattle.lua_code.specs.LuaMeaningActs.{Raised}
use Rattle.mw_html_texts.specs.LuaMeaningHtml.{nested_too_deeply}
use Rattle.lua_code.specs.LuaMeaningMetatables.{handler}
use Rattle.lua_store.specs.declared.value.Value.{Value}
use Rattle.lua_store.specs.declared.value.Value.TheVariants as value
use Rattle.lua_store.specs.Seen.{StoreView, seen}
use Rattle.lua_code.specs.LuaSlotsEnact.{all_given_back, Short, enact}
use Rattle.lua_modules.specs.LuaSlotsSlots.{Slots}
use Rattle.lua_modules.specs.LuaSlotsPoints.{SFrame, Texts, Move, Now}
use Rattle.lua_code.specs.LuaSlotsStarts.{invoke_ends, next_text, rendered, text_by, whole_or_fail}
use Rattle.lua_modules.proofs.LuaStackRaises.{pays, spends}
use Rattle.mw_html_texts.specs.LuaBasicObjects.{object_in}
use Rattle.mw_html_texts.specs.LuaStringsCosts.{Takes}
use Rattle.mw_html_texts.specs.declared.giving.ObjectText.TheVariants.{Text, TooDeep, Spent}
use Rattle.mw_html_texts.specs.Given.{IsText}
use Rattle.lua_modules.specs.LuaStateDeclaredStateState.{State}
use Rattle.lua_modules.specs.LuaStateDeclaredTurnTurn.{Turn}
use Rattle.lua_modules.specs.LuaStateDeclaredTurnTurnTheVariants as turn
use Rattle.lua_modules.specs.LuaStateCharges.{Pays}
use Rattle.lua_modules.specs.LuaStateSeen.{slots_of, frames_of, funds_of}
use Rattle.lua_modules.specs.LuaStateOf.{StateOf}
use Rattle.lua_modules.specs.LuaStateMakes.{Makes}
use Rattle.lua_runs.proofs.Parts.{costs, short}

-- the text of a value that is no object
pub no_object : (texts : List (List ℕ)) (v : Value) (vs : List Plain) (before : List ℕ) (fs : List SFrame) (s : Slots) → object_in v ≡ None
    → next_text (seen texts v) vs before fs s ≡ text_by (handler s.heap (seen texts v) (codes "__tostring")) (seen texts v) vs before fs s
no_object texts value.Nil vs before fs s e = refl
no_object texts (value.Bool b) vs before fs s e = refl
no_object texts (value.Number n) vs before fs s e = refl
no_object texts (value.Text t) vs before fs s e = refl
no_object texts (value.Table t) vs before fs s e = refl
no_object texts (value.Closure c) vs before fs s e = refl
no_object texts (value.Builtin b) vs before fs s e = refl
no_object texts (value.Markup m) vs before fs s e = absurd cc

-- WHAT A RENDERING TAKES, or lacks
taken : (n : ℕ) (l k : Left) → Takes n l k → Pays n l k true
taken n l k t = λ m mv told i. pays n mv (funds_of l m told i) t.0 ∙ ap (λ (x : Left). enact mv (funds_of x m told i)) (sym t.1)

lacked : (p : Piece) (l k : Left) → IsText l k p Spent → Pays (count p) l k false
lacked (Whole a n) l k t = λ m mv told i. spends (count (Whole a n)) mv (funds_of l m told i) t.0 ∙ ap (λ (x : Left). Short Steps (all_given_back (funds_of x m told i))) (sym t.1)
lacked (Deep a n) l k t = λ m mv told i. spends (count (Deep a n)) mv (funds_of l m told i) t.0 ∙ ap (λ (x : Left). Short Steps (all_given_back (funds_of x m told i))) (sym t.1)

-- THE ENDS of an object in its place
module _ (s t : StoreView) (m : State) (l k l' : Left) (r : Turn) (vs : List Plain) (before : List ℕ) where
  pub text_is_next : (p : Piece) (bytes : Vec ℕ Global) → IsText l k p (Text bytes) → Makes s m k t m l' (Now (Texts vs (before ++ bytes.items) (frames_of s m)) (slots_of s m)) r
      → Makes s m l t m l' (rendered p vs before (frames_of s m) (slots_of s m)) r
  text_is_next (Whole a n) bytes (took, is) made =
      costs s t m m l k l' (count (Whole a n)) (whole_or_fail (Whole a n) vs before (frames_of s m) (slots_of s m)) r (taken (count (Whole a n)) l k took)
      (subst (λ (b : List ℕ). Makes s m k t m l' (Now (Texts vs (before ++ b) (frames_of s m)) (slots_of s m)) r) is made)
  text_is_next (Deep a n) bytes is made = absurd is

  pub too_deep_is_raised : (p : Piece) → IsText l k p TooDeep → Makes s m k t m l' (invoke_ends (Jumps (Raised (PlainText nested_too_deeply))) (frames_of s m) (slots_of s m)) r
      → Makes s m l t m l' (rendered p vs before (frames_of s m) (slots_of s m)) r
  too_deep_is_raised (Whole a n) is made = absurd is
  too_deep_is_raised (Deep a n) took made =
      costs s t m m l k l' (count (Deep a n)) (whole_or_fail (Deep a n) vs before (frames_of s m) (slots_of s m)) r (taken (count (Deep a n)) l k took) made

pub object_is_short : (s : StoreView) (m : State) (l k : Left) (vs : List Plain) (before : List ℕ) (p : Piece) → StateOf s m → IsText l k p Spent
    → Makes s m l s m k (rendered p vs before (frames_of s m) (slots_of s m)) (turn.Spent Steps)
object_is_short s m l k vs before p of lacks = short s m l k (count p) (whole_or_fail p vs before (frames_of s m) (slots_of s m)) of (lacked p l k lacks)
