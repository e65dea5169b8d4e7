-- Arguments that are read, and what follows them; values that stay.
use Rattle.std.proofs.Common.{◌≡◌, ◌∙◌, ap, sym, subst, refl, List, [], ◌∷◌, ◌++◌, append_assoc, Ok, Err}
use Rattle.std.specs.Prelude.{Result}
use Rattle.lua_basic.specs.WkBaseDeclaredLeftLeft.{Left}
use Rattle.lua_basic.specs.LuaHeapProc.{Proc}
use Rattle.lua_basic.specs.LuaHeapValue as kind
use Rattle.lua_basic.specs.LuaMeaningArguments.{Plain, Argument, with_argument}
use Rattle.lua_basic.specs.LuaStoreDeclaredValueValue.{Value}
use Rattle.lua_basic.specs.LuaStoreSeen.{StoreView, seen}
use Rattle.lua_basic.specs.LuaStoreParts.{IsLater}
use Rattle.lua_basic.proofs.LuaStoreLater.{of-later, seen-later}
use Rattle.lua_basic.specs.declared.stop.Stop.{Stop}
use Rattle.lua_basic.specs.Seen.{values_seen, AllOf, Free, Paid, Refuses}
use Rattle.lua_basic.proofs.Found.{stopped, for_nothing}
use Rattle.lua_basic.proofs.Lists.{seen-with}

-- AN ARGUMENT is there, and the rest follows
pub past : {Y : Type 0} (a b : Argument Y) (y : Y) (next : Y → Plain Proc) (s t : StoreView) (l m : Left) (r : Result (List Value) Stop) → a ≡ Ok y → a ≡ b
    → Paid (next y) s l t m r → Paid (with_argument s.heap b next) s l t m r
past a b y next s t l m r is same paid = subst (λ x. Paid (with_argument s.heap x next) s l t m r) (sym is ∙ same) paid

pub past_free : {Y : Type 0} (a b : Argument Y) (y : Y) (next : Y → Plain Proc) (s t : StoreView) (r : Result (List Value) Stop) → a ≡ Ok y → a ≡ b
    → Free (next y) t r → Free (with_argument s.heap b next) t r
past_free a b y next s t r is same free = subst (λ x. Free (with_argument s.heap x next) t r) (sym is ∙ same) free

-- or it is none, and ends its function
pub ended : {Y : Type 0} (a b : Argument Y) (next : Y → Plain Proc) (s t : StoreView) (l : Left) (e : Stop) (r : Result (List Value) Stop) → Refuses a s t e → a ≡ b → r ≡ Err e
    → Paid (with_argument s.heap b next) s l t l r
ended a b next s t l e r none same is = for_nothing _ s t l r (stopped a b next s t e r none same is)

-- VALUES of a store in a later one
pub values_stay : (s t : StoreView) (vs : List Value) → IsLater s t → AllOf s vs → AllOf t vs × (values_seen t.texts vs ≡ values_seen s.texts vs)
values_stay s t [] later of = (tt, refl)
values_stay s t (v ∷ vs) later of =
    let more = values_stay s t vs later of.1 in (
      (of-later s t later v of.0, more.0),
      ap (λ x. x ∷ values_seen t.texts vs) (seen-later s t later v of.0) ∙ ap (λ xs. seen s.texts v ∷ xs) more.1,
    )

-- one value more, behind those of the earlier store
pub one_more : (s t : StoreView) (vs ws : List Value) (v : Value) (x : kind.Value) (more whole : List kind.Value) → IsLater s t → AllOf s vs → ws ≡ vs ++ v ∷ [] → seen t.texts v ≡ x
    → values_seen s.texts vs ++ x ∷ more ≡ whole → values_seen t.texts ws ++ more ≡ whole
one_more s t vs ws v x more whole later of is value e =
    ap (λ xs. values_seen t.texts xs ++ more) is ∙ ap (λ xs. xs ++ more) (seen-with t.texts vs v) ∙ append_assoc (values_seen t.texts vs) (seen t.texts v ∷ []) more
    ∙ ap (λ y. values_seen t.texts vs ++ y ∷ more) value ∙ ap (λ xs. xs ++ x ∷ more) (values_stay s t vs later of).1 ∙ e
