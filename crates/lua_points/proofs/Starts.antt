-- THE START of a machine, with a fresh environment: where it is, and that it owns what was made with it.
use Rattle.std.proofs.Common.{◌≡◌, ℕ, zero, suc, Bool, true, false, List, [], ◌∷◌, Some, None, IsTrue, refl, sym, ◌∙◌, ap, subst, slice_get, if◌then◌else◌}
use Rattle.lua_heap.specs.LuaTableEntries.{Contents}
use Rattle.lua_heap.specs.Proc.{Proc, proc_names}
use Rattle.lua_heap.specs.Value.{Value}
use Rattle.lua_heap.specs.Heap.{Heap, Ref, tab, cel, clo, mar, Obj, TableObj, CellObj, ClosureObj, MarkupObj, look, is_shared, table_at, empty}
use Rattle.lua_heap.specs.Related.{Map, none, SameObj, tables, cells, closures, nodes}
use Rattle.lua_heap.specs.Reach.{AllIn, nowhere, without_shared, image}
use Rattle.lua_heap.proofs.Stood.{look-table}
use Rattle.lua_heap.proofs.Places.{some_back, of-some_back, clash}
use Rattle.lua_heap.proofs.Sets.{image-at, image-back, closed-image, with-made}
use Rattle.lua_heap.proofs.Reached.{without-back, own-closed}
use Rattle.lua_agree.specs.LuaMeaningScope.{Function}
use Rattle.lua_goes.specs.LuaMeaningHome.{home, home_heap}
use Rattle.lua_agree.specs.LuaMeaningStart.{run_of}
use Rattle.lua_goes.specs.LuaSlotsCode.{CWorld}
use Rattle.lua_goes.specs.LuaSlotsPoints.{Works}
use Rattle.lua_agree.proofs.LuaLibraryAgreeLibraryLaws.{homes_agree}
use Rattle.lua_agree.specs.Variables.{vnone}
use Rattle.lua_agree.specs.Functions.{SameFunction}
use Rattle.lua_agree.specs.Agree.{works}
use Rattle.lua_agree.specs.Named.{roots}
use Rattle.lua_points.specs.Told.{slots_at_start}
use Rattle.lua_points.specs.Told.{IsHome}
use Rattle.lua_points.specs.Laws.{ThereIsAHome, StartIsAt, StartOwnsNew}
use Rattle.lua_points.proofs.Images.{function-names_stand}
use Rattle.lua_points.proofs.Standings.{apart}
use Rattle.lua_points.proofs.Points.{without-all}

shared-same : {m : Map} (code : CWorld) (a : Obj Function) (b : Obj Proc) → SameObj (SameFunction code) m a b → is_shared a ≡ is_shared b
shared-same code _ _ (tables a b t) = t.frozen
shared-same code _ _ (cells a b t) = refl
shared-same code _ _ (closures a b t) = refl
shared-same code _ _ (nodes a b t) = refl

-- A FRESH ENVIRONMENT has no read-only table, however many tables it has
abbrev all_plain : List (Contents Value) → Bool
all_plain [] = true
all_plain (t ∷ ts) = if t.frozen then false else all_plain ts

plain-at : (ts : List (Contents Value)) → IsTrue (all_plain ts) → (n : ℕ) (t : Contents Value) → slice_get ts n ≡ Some t → t.frozen ≡ false
plain-at [] p n t e = cc
plain-at (u ∷ ts) p zero t e = go u.frozen refl
  where
    go : (b : Bool) → u.frozen ≡ b → t.frozen ≡ false
    go false k = ap (λ (x : Contents Value). x.frozen) (sym (some_back e)) ∙ k
    go true k = let q : IsTrue false = subst (λ b. IsTrue (if b then false else all_plain ts)) k p in absurd cc
plain-at (u ∷ ts) p (suc n) t e = plain-at ts (tail u.frozen p) n t e
  where
    tail : (b : Bool) → IsTrue (if b then false else all_plain ts) → IsTrue (all_plain ts)
    tail false q = q
    tail true q = cc

home-plain : (q : Ref) (a : Obj Function) → look home_heap q ≡ Some a → is_shared a ≡ false
home-plain (tab n) a e =
    let t = of-some_back TableObj (slice_get (home_heap {X = Function}).tables n) a e in
    ap is_shared (sym t.2) ∙ plain-at (home_heap {X = Function}).tables refl n t.0 t.1
home-plain (cel n) a e = let t = of-some_back CellObj (slice_get (home_heap {X = Function}).cells n) a e in ap is_shared (sym t.2)
home-plain (clo n) a e = let t = of-some_back ClosureObj (slice_get (home_heap {X = Function}).closures n) a e in ap is_shared (sym t.2)
home-plain (mar n) a e = let t = of-some_back MarkupObj (slice_get (home_heap {X = Function}).markup n) a e in ap is_shared (sym t.2)

-- so what stands for its tables has none, and that of the global variables can be written
made-plain : (code : CWorld) (globals strings : ℕ) (s t : Heap Proc) (i : IsHome code globals strings s t) (q r : Ref) (e : i.names.to q ≡ Some r) → is_shared (i.stands.holds q r e).1 ≡ false
made-plain code globals strings s t i q r e = let v = i.stands.holds q r e in sym (shared-same code v.0 v.1 v.4) ∙ home-plain q v.0 v.2

home-writable : (code : CWorld) (globals strings : ℕ) (s t : Heap Proc) → IsHome code globals strings s t → (table_at t globals).frozen ≡ false
home-writable code globals strings s t i =
    let v = i.stands.holds _ _ i.globals_at in
    ap is_shared (look-table t globals v.1 v.3) ∙ made-plain code globals strings s t i _ _ i.globals_at

nothing-there : (r : Ref) → look (empty {X = Proc}) r ≡ None
nothing-there (tab n) = refl
nothing-there (cel n) = refl
nothing-there (clo n) = refl
nothing-there (mar n) = refl

pub there_is_a_home : ThereIsAHome
there_is_a_home code =
    let n = homes_agree {X = Function} {Y = Proc} (SameFunction code) in
    record {
      names = n.0;
      stands = n.1;
      globals_at = n.2;
      strings_at = n.3;
      made = λ q r e. nothing-there r;
      frame = record {
        lives = λ r b e. clash e (nothing-there r);
        others = λ r b e o. clash e (nothing-there r);
        shared = λ r b e o. clash e (nothing-there r);
      };
    }

pub start_is_at : StartIsAt
start_is_at code world agrees work first globals strings s t i = record {
  agrees = agrees;
  state = home;
  run = run_of world work;
  standing = record {
    map = i.names;
    vars = [];
    stands = i.stands;
    open_ = vnone;
    globals = i.globals_at;
    writable = home-writable code globals strings s t i;
    strings = i.strings_at;
    modules = none;
    data_modules = none;
    frames = none;
    inside = λ q r e. let v = i.stands.holds q r e in with-made nowhere s t r v.1 (i.made q r e) v.3;
    deep = λ q r b e f y.
        let v = i.stands.holds q r e in
        apart (is_shared b) y (subst (λ (o : Obj Proc). is_shared o ≡ false) (some_back (sym v.3 ∙ f)) (made-plain code globals strings s t i q r e));
    same = works world work agrees refl refl;
  };
  means = λ later. refl;
}

pub start_owns_new : StartOwnsNew
start_owns_new code work globals strings s t i r b l own =
    let R = SameFunction code in
    let closed = closed-image R proc_names (function-names_stand code) i.names home_heap t i.stands in
    let at = image-at R i.names home_heap t i.stands in
    let named : AllIn (image i.names) (roots (Works work) (slots_at_start t globals strings)) = (at _ _ i.globals_at, (at _ _ i.strings_at, tt)) in
    let mine = own (without_shared (image i.names) t) (own-closed proc_names (image i.names) t closed) (without-all (image i.names) t (roots (Works work) (slots_at_start t globals strings)) named) in
    let q = image-back R i.names home_heap t i.stands r (without-back proc_names (image i.names) t r mine).0 in
    clash l (i.made q.0 r q.1)
