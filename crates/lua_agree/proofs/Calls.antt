-- FUNCTIONS OF LUA ARE ENTERED (manual 2.5.9), and the texts of modules (2.4.1): their parameters are opened, and their bodies run.
use Rattle.std.proofs.Common.{◌≡◌, ℕ, suc, Bool, true, false, List, [], ◌∷◌, length, drop, Option, Some, None, refl, sym, subst, ap}
use Rattle.std.specs.Prelude.{if◌then◌else◌}
use Rattle.lua_slots.specs.LuaSyntaxTree.{Fun, Lambda, Block}
use Rattle.lua_slots.specs.PageRunOutcome.{on_value}
use Rattle.lua_heap.specs.Proc.{Proc}
use Rattle.lua_heap.specs.Value.{Value}
use Rattle.lua_heap.specs.Related.{Map, Each, none, Same}
use Rattle.lua_slots.specs.LuaMeaningScope.{Bytes, Function, Levels, cell_of}
use Rattle.lua_slots.specs.LuaMeaningActs.{State}
use Rattle.lua_library_agree.specs.LuaMeaningMeaning.{block}
use Rattle.lua_library_agree.specs.LuaMeaningThings.{after_body, body_scope, enter_function, chunk_scope, enter_chunk}
use Rattle.lua_slots.specs.LuaMeaningWorld.{World}
use Rattle.lua_slots.specs.Code.{Place, Up, CProto, CWorld}
use Rattle.lua_slots.specs.Sight.{Sighted, Everywhere, Here, Hidden, nothing_local, AreAsMany, up_of, up_or, inside}
use Rattle.lua_slots.specs.IsCode.{IsFun, IsText}
use Rattle.lua_slots.specs.Slots.{Activation, Slots, levels_at, all_opened}
use Rattle.lua_slots.specs.Points.{SFrame, BodyEnd}
use Rattle.lua_slots.specs.Calls.{activation, with_function, body_of, code_of, enters_body, text_of_module}
use Rattle.lua_agree.specs.Variables.{Var, HeldFunction, SameVar, at_up, Inside}
use Rattle.lua_agree.specs.Functions.{SameFunction}
use Rattle.lua_agree.specs.Rests.{After, leaving, SameRest, ends_body}
use Rattle.lua_agree.specs.Agree.{runs, Base, Rel}
use Rattle.lua_agree.specs.Follows.{Follows, counts, calls}
use Rattle.lua_agree.proofs.Carries.{held-in-grows, rest-grows}
use Rattle.lua_agree.proofs.Parts.{each-drop, no-levels, here-now}
use Rattle.lua_agree.proofs.Places.{opens}
use Rattle.lua_agree.proofs.Ends.{with-functions, depth-is}

as-many : (names : List Bytes) (flags : List Bool) → AreAsMany names flags → length names ≡ length flags
as-many [] [] e = refl
as-many (x ∷ xs) (b ∷ bs) e = ap suc (as-many xs bs e)
as-many [] (b ∷ bs) e = absurd e
as-many (x ∷ xs) [] e = absurd e

dots-same : {m : Map} {vs ws : List Value} (b c : Bool) (n k : ℕ) → c ≡ b → n ≡ k → Each (Same m) vs ws → Each (Same m) (if b then drop n vs else []) (if c then drop k ws else [])
dots-same {m} {vs} {ws} true true n k e f x = subst (λ z. Each (Same m) (drop n vs) (drop z ws)) f (each-drop n x)
dots-same false false n k e f x = none
dots-same true false n k e f x = cc
dots-same false true n k e f x = cc

-- the names that a function's body sees
up-under : {m : Map} {vars : List Var} {cells : List ℕ} {i : ℕ} {o : Option ℕ} → SameVar m [] cells (Up i) o → SameVar m vars cells (Up i) o
up-under (at_up i c r e f) = at_up i c r e f

up-here : (o : Option ℕ) (x : Sighted) (p : Place) → up_or o x ≡ Here p → (i : ℕ) × (o ≡ Some i) × (p ≡ Up i)
up-here (Some i) x p e = (i, refl, here_back e)
  where
    here_back : {x y : Place} → Here x ≡ Here y → y ≡ x
    here_back e = cc
up-here None Everywhere p e = cc
up-here None (Here q) p e = cc
up-here None Hidden p e = cc

up-everywhere : (o : Option ℕ) (x : Sighted) → up_or o x ≡ Everywhere → (o ≡ None) × (x ≡ Everywhere)
up-everywhere (Some i) x e = cc
up-everywhere None Everywhere e = (refl, refl)
up-everywhere None (Here q) e = cc
up-everywhere None Hidden e = cc

module _ (world : World) (code : CWorld) (B : Base) {m : Map} {vars : List Var} {h : State} {s : Slots} (r : Rel code B m vars h s) {k : After (List Value)} {fs : List SFrame} (g : SameRest code m vars s.functions k fs) where
  -- a function, whose node is taken apart
  enters-lambda : (node : Fun) (a : Function) (b : Proc) (vs ws : List Value) (ls : Levels) (line : Option ℕ) → node ≡ a.node → (e : SameFunction code m a b) → IsFun (code_of (code.modules b.title)) (inside e.names e.see) node e.proto
      → Each (Same m) vs ws → ls ≡ levels_at s.functions line → Follows world code B (enter_function a vs ls k) h (body_of (Some e.proto) b ws line fs s)
  enters-lambda (Lambda params vararg blk) a b vs ws ls line n e x es l =
      let act : Activation = activation b e.proto ws line s in
      let fns : List Activation = act ∷ s.functions in
      let there : Inside m vars fns (inside e.names e.see) (body_scope (record { node = Lambda params vararg blk; names = a.names; source = a.source }) vs ls) = record {
        locals = λ x p q. let u = up-here (up_of e.names x) (e.see x) p q in subst (λ z. SameVar m vars b.cells z (cell_of a.names x)) (sym u.2) (up-under (e.cells x u.0 u.1));
        globals = λ x q. let u = up-everywhere (up_of e.names x) (e.see x) q in e.globals x u.1 u.0;
        dots = dots-same vararg e.proto.dots (length params) (length e.proto.flags) x.0 (as-many params e.proto.flags x.1) es;
        levels = λ at. rw (e.title, l) refl;
        source = e.title;
      } in
      let held : HeldFunction m act = record { cells = e.has_cells; values = _; dots = there.dots } in
      let o : Follows world code B (enter_function (record { node = Lambda params vararg blk; names = a.names; source = a.source }) vs ls k) h (body_of (Some e.proto) b ws line fs s) =
      calls _ _ _ (counts _ _ _ (opens world code B params e.proto.flags _ _ (all_opened e.proto.flags ws (with_function act s)) x.1 (with-functions code fns r) there es refl
      (λ p all j scope' up op r' i'. here-now world code B r' (runs None blk e.proto.body _ scope' _ (BodyEnd ∷ fs) x.2 i'
      (ends_body vars all act s.functions k fs op (depth-is code r) (held-in-grows up held) (rest-grows code up g)))))) in
      subst (λ z. Follows world code B (enter_function (record { node = z; names = a.names; source = a.source }) vs ls k) h (body_of (Some e.proto) b ws line fs s)) n o

  pub bodies-on : (a : Function) (b : Proc) {vs ws : List Value} {ls : Levels} (line : Option ℕ) → SameFunction code m a b → Each (Same m) vs ws → ls ≡ levels_at s.functions line
      → Follows world code B (enter_function a vs ls k) h (enters_body code b ws line fs s)
  bodies-on a b {vs} {ws} {ls} line e es l = subst (λ o. Follows world code B (enter_function a vs ls k) h (body_of o b ws line fs s)) (sym e.found) (enters-lambda a.node a b vs ws ls line refl e e.code_ es l)

  -- a text, which captures nothing and has no parameters
  no-dots : (b : Bool) (n : ℕ) → b ≡ false → Each (Same m) [] (if b then drop n [] else [])
  no-dots true n e = cc
  no-dots false n e = none

  pub texts-run : (source : Bytes) (b : Block) (p : CProto) → IsText (code_of (code.modules source)) b p → Follows world code B (enter_chunk source b k) h (enters_body code (text_of_module source) [] None fs s)
  texts-run source b p e =
      let act : Activation = activation (text_of_module source) p [] None s in
      let fns : List Activation = act ∷ s.functions in
      let there : Inside m vars fns nothing_local (chunk_scope source) = record {
        locals = λ x q z. cc;
        globals = λ x z. refl;
        dots = no-dots p.dots (length p.flags) e.no_dots;
        levels = λ at. rw (sym (no-levels s.functions)) refl;
        source = refl;
      } in
      let held : HeldFunction m act = record { cells = tt; values = []; dots = there.dots } in
      subst (λ o. Follows world code B (enter_chunk source b k) h (body_of o (text_of_module source) [] None fs s)) (sym e.first)
      (calls _ _ _ (counts _ _ _ (opens world code B [] p.flags (on_value (λ scope. block b scope) (λ o. after_body o (leaving k))) _ (all_opened p.flags [] (with_function act s)) (subst (λ flags. AreAsMany [] flags) (sym e.no_parameters) tt) (with-functions code fns r) there none refl
      (λ n all j scope' up op r' i'. here-now world code B r' (runs None b p.body _ scope' _ (BodyEnd ∷ fs) e.body i'
      (ends_body vars all act s.functions k fs op (depth-is code r) (held-in-grows up held) (rest-grows code up g)))))))
