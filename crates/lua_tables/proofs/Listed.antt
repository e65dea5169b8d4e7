-- Lists of numbers as values, one after another.
use Rattle.std.proofs.Common.{◌≡◌, ◌∙◌, ap, sym, refl, arith, ℕ, zero, suc, ◌+◌, ◌<◌, ℤ, List, [], ◌∷◌, ◌++◌, append_assoc, append-nil, length, drop, map, slice_index_or}
use Rattle.std.specs.Borrow.{Bor}
use Rattle.lua_basic.specs.LuaHeapValue as kind
use Rattle.lua_basic.specs.LuaMeaningScope.{Bytes}
use Rattle.lua_basic.specs.LuaStoreDeclaredIdsTextId.{TextId}
use Rattle.lua_basic.specs.LuaStoreDeclaredValueValue.{Value}
use Rattle.lua_basic.specs.LuaStoreDeclaredValueValueTheVariants.{Number, Text}
use Rattle.lua_basic.specs.LuaStoreSeen.{StoreView, text_at, seen}
use Rattle.lua_basic.specs.LuaStoreParts.{IsLater}
use Rattle.lua_basic.specs.Seen.{values_seen, AllOf}
use Rattle.lua_basic.proofs.Lists.{seen-with}
use Rattle.lua_tables.specs.Kinds.{numbers_in}
use Rattle.lua_tables.proofs.Put.{values-later}
use Rattle.lua_tables.proofs.Orders.{numbers-more}

-- nothing is left
pub none-left : {A B : Type 0} (f : List A → List B) (xs whole : List B) (rest : List A) → rest ≡ [] → f [] ≡ [] → xs ++ f rest ≡ whole → xs ≡ whole
none-left f xs whole rest is none e = sym (append-nil xs) ∙ sym (ap (λ ys. xs ++ ys) (ap f is ∙ none)) ∙ e

pub number-on : (texts : List (List ℕ)) (vs after : List Value) (n : ℤ) (rest more all : List ℤ) → rest ≡ n ∷ more → after ≡ vs ++ Number n ∷ []
    → values_seen texts vs ++ map kind.Number rest ≡ map kind.Number all → values_seen texts after ++ map kind.Number more ≡ map kind.Number all
number-on texts vs after n rest more all is pushed e =
    ap (λ xs. xs ++ map kind.Number more) (ap (values_seen texts) pushed ∙ seen-with texts vs (Number n)) ∙ append_assoc (values_seen texts vs) (kind.Number n ∷ []) (map kind.Number more)
    ∙ sym (ap (λ ns. values_seen texts vs ++ map kind.Number ns) is) ∙ e

pub numbers-on : (texts : List (List ℕ)) (ns after : List ℤ) (v : Value) (rest more all : List Value) → rest ≡ v ∷ more → after ≡ ns ++ numbers_in (seen texts v ∷ [])
    → ns ++ numbers_in (values_seen texts rest) ≡ numbers_in (values_seen texts all) → after ++ numbers_in (values_seen texts more) ≡ numbers_in (values_seen texts all)
numbers-on texts ns after v rest more all is pushed e =
    let tail = numbers_in (values_seen texts more) in
    ap (λ xs. xs ++ tail) pushed ∙ append_assoc ns (numbers_in (seen texts v ∷ [])) tail
    ∙ sym (ap (λ xs. ns ++ xs) (numbers-more (seen texts v) (values_seen texts more))) ∙ sym (ap (λ vs. ns ++ numbers_in (values_seen texts vs)) is) ∙ e
