-- Lists of values, and what begins them.
use Rattle.std.proofs.Common.{◌≡◌, ◌∙◌, ap, sym, ℕ, Bool, false, List, [], ◌∷◌, ◌++◌, length, refl}
use Rattle.std.specs.Bool.{◌==◌}
use Rattle.lua_meaning.specs.LuaHeapValue.{Value as Seen}
use Rattle.lua_meaning.specs.Values.{first, kind_of}
use Rattle.lua_meaning.specs.Messages.{got}
use Rattle.lua_store.specs.declared.value.Value.{Value}
use Rattle.lua_store.specs.Seen.{StoreView, seen}
use Rattle.lua_store.specs.Parts.{IsOf}
use Rattle.lua_basic.specs.Seen.{values_seen, AllOf}

pub got-first : (texts : List (List ℕ)) (vs : List Value) → false ≡ (length vs == 0) → kind_of (first (values_seen texts vs)) ≡ got (values_seen texts vs)
got-first texts [] h = absurd cc
got-first texts (v ∷ vs) h = refl

-- what a test said of a value that is seen as w
pub tested : (f : Seen → Bool) (v w : Seen) (b : Bool) → v ≡ w → b ≡ f v → f w ≡ b
tested f v w b e h = ap f (sym e) ∙ sym h

pub all-with : (s : StoreView) (old : List Value) (v : Value) → AllOf s old → IsOf s v → AllOf s (old ++ v ∷ [])
all-with s [] v h k = (k, tt)
all-with s (x ∷ old) v h k = (h.0, all-with s old v h.1 k)

pub seen-with : (texts : List (List ℕ)) (old : List Value) (v : Value) → values_seen texts (old ++ v ∷ []) ≡ values_seen texts old ++ seen texts v ∷ []
seen-with texts [] v = refl
seen-with texts (x ∷ old) v = ap (λ xs. seen texts x ∷ xs) (seen-with texts old v)
