-- New iterators: cells that are made one after another, and texts of arguments.
use Rattle.std.proofs.Common.{◌≡◌, ◌∙◌, ap, sym, ℕ, List, [], ◌∷◌, Option, Some, None, Ok, Err}
use Rattle.std.specs.Prelude.{Bool, true, false, if◌then◌else◌, codes, Result}
use Rattle.std.specs.Str.{is_utf8}
use Rattle.lua_strings.specs.LuaHeapProc.{Proc}
use Rattle.lua_strings.specs.LuaHeapValue as kind
use Rattle.lua_strings.specs.LuaHeapHeap.{Heap, Iterator, new_cell, new_closure}
use Rattle.lua_strings.specs.LuaHeapDeclaredLibraryLibrary.{Library}
use Rattle.lua_strings.specs.LuaMeaningScope.{Bytes}
use Rattle.lua_strings.specs.LuaMeaningValues.{first, text_in}
use Rattle.lua_strings.specs.LuaMeaningMessages.{bad_argument}
use Rattle.lua_strings.specs.LuaMeaningArguments.{Plain, PlainEnd, Gives, Argument, some_text, a_text}
use Rattle.lua_strings.specs.LuaMeaningTextArguments.{in_utf8, utf8_text}
use Rattle.lua_strings.specs.LuaMeaningIterators.{new_cells, make_iterator}
use Rattle.lua_strings.specs.LuaStoreDeclaredIdsClosureId.{ClosureId}
use Rattle.lua_strings.specs.LuaStoreDeclaredValueValue.{Value}
use Rattle.lua_strings.specs.LuaStoreDeclaredValueValueTheVariants as own
use Rattle.lua_strings.specs.LuaStoreSeen.{StoreView, seen}
use Rattle.lua_strings.specs.LuaStoreParts.{IsOf, IsLater}
use Rattle.lua_strings.proofs.LuaStoreLater.{seen-later}
use Rattle.lua_strings.specs.LuaBasicSeen.{values_seen, Covers}
use Rattle.lua_strings.specs.WkBaseDeclaredLeftLeft.{Left}
use Rattle.mw_ustrings.specs.MwFramesCosts.{Took}

-- a cell in front of others
pub cell_first : (v : kind.Value) (h i : Heap Proc) (id : ℕ) → i ≡ (new_cell h v).0 → id ≡ (new_cell h v).1
    → (more : List kind.Value) (j : Heap Proc) (ids : List ℕ) → new_cells more i ≡ (j, ids) → new_cells (v ∷ more) h ≡ (j, id ∷ ids)
cell_first v h i id made is more j ids rest =
    ap (λ (p : Heap Proc × List ℕ). (p.0, (new_cell h v).1 ∷ p.1)) (ap (new_cells more) (sym made) ∙ rest) ∙ ap (λ n. (j, n ∷ ids)) (sym is)

-- THE ITERATOR over these cells
abbrev over : Library → Heap Proc × List ℕ → Heap Proc × ℕ
over step p = new_closure p.0 (Iterator step p.1)

pub iterator_heap : (step : Library) (vs : List kind.Value) (h i j : Heap Proc) (ids : List ℕ) → new_cells vs h ≡ (i, ids) → j ≡ (new_closure i (Iterator step ids)).0 → (make_iterator step vs h).heap ≡ j
iterator_heap step vs h i j ids cells is = ap (λ p. (over step p).0) cells ∙ sym is

abbrev given : ℕ → PlainEnd
given n = Gives (kind.Closure n ∷ [])

pub iterator_end : (step : Library) (vs : List kind.Value) (h i : Heap Proc) (ids : List ℕ) (id : ClosureId) (texts : List (List ℕ)) (values : List Value) → new_cells vs h ≡ (i, ids)
    → id.at ≡ (new_closure i (Iterator step ids)).1 → values ≡ own.Closure id ∷ [] → (make_iterator step vs h).end ≡ Gives (values_seen texts values)
iterator_end step vs h i ids id texts values cells at is =
    ap (λ p. given (over step p).1) cells ∙ ap given (sym at) ∙ ap (λ xs. Gives (values_seen texts xs)) (sym is)

-- AN ANSWER by its parts
abbrev answer : ℕ → Heap Proc → PlainEnd → Plain Proc
answer n h end = record { charge = n; heap = h; end = end }

pub iterator_covers : (p : Plain Proc) (t : StoreView) (l m : Left) (vs : List Value) → Took p.charge l m → p.heap ≡ t.heap → p.end ≡ Gives (values_seen t.texts vs)
    → Covers p l t m (Gives (values_seen t.texts vs))
iterator_covers p t l m vs took heap end = record {
  covered = took.0;
  answer = ap (λ h. answer p.charge h p.end) heap ∙ ap (answer p.charge t.heap) end;
  rest = took.1;
}

-- THE TEXT OF AN ARGUMENT that was found is that of the first value
some_text_in : (n : ℕ) (function : Bytes) (given : List kind.Value) (o : Option Bytes) (t : Bytes) → some_text n function given o ≡ Ok t → o ≡ Some t
some_text_in n function given (Some u) t e = ap Some cc
some_text_in n function given None t e = absurd cc

pub text_found : (n : ℕ) (function : Bytes) (given : List kind.Value) (t : Bytes) → a_text n function given ≡ Ok t → text_in (first given) ≡ Some t
text_found n function given t e = some_text_in n function given (text_in (first given)) t e

-- also where UTF-8 was tested
tested : (n : ℕ) (function : Bytes) (a : Argument Bytes) (t : Bytes) → in_utf8 n function a ≡ Ok t → a ≡ Ok t
tested n function (Ok u) t e = go (is_utf8 u) e
  where
    go : (b : Bool) → (let r : Result Bytes Bytes = if b then Ok u else Err (bad_argument n function (codes "not UTF-8")) in r) ≡ Ok t → (let r : Result Bytes Bytes = Ok u in r) ≡ Ok t
    go true f = f
    go false f = absurd cc
tested n function (Err message) t e = absurd cc

pub utf8_found : (n : ℕ) (function : Bytes) (given : List kind.Value) (t : Bytes) → utf8_text n function given ≡ Ok t → text_in (first given) ≡ Some t
utf8_found n function given t e = text_found n function given t (tested n function (a_text n function given) t e)

pub first_text : (texts : List (List ℕ)) (vs : List Value) (v : Value) (t : Bytes) → seen texts v ≡ first (values_seen texts vs) → text_in (first (values_seen texts vs)) ≡ Some t → text_in (seen texts v) ≡ Some t
first_text texts vs v t e is = ap text_in e ∙ is

-- and stays so in a later store
pub still_text : (s t : StoreView) (v : Value) (text : Bytes) → IsLater s t → IsOf s v → text_in (seen s.texts v) ≡ Some text → text_in (seen t.texts v) ≡ Some text
still_text s t v text later of is = ap text_in (seen-later s t later v of) ∙ is
