-- An argument of a function: what is done with it, or its function stops.
use Rattle.std.proofs.Common.{◌≡◌, sym, ap, subst, ℕ, [], Option, Ok, Err, arith}
use Rattle.page_run.specs.WkBaseDeclaredLeftLeft.{Left}
use Rattle.lua_code.specs.LuaHeapProc.{Proc}
use Rattle.lua_code.specs.LuaHeapHeap.{Heap}
use Rattle.lua_libs.specs.LuaMeaningArguments.{Plain, PlainEnd, Gives, Argument}
use Rattle.lua_state.specs.LuaStoreSeen.{StoreView}
use Rattle.lua_state.specs.LuaStoreParts.{IsLater}
use Rattle.lua_state.specs.LuaSlotsErrors.{fails, ends, with_argument}
use Rattle.lua_state.specs.LuaSlotsPoints.{Move}
use Rattle.mw_html_texts.specs.LuaBasicDeclaredStopStop.{Stop}
use Rattle.mw_html_texts.specs.LuaBasicDeclaredStopStopTheVariants as stop
use Rattle.lua_libs.specs.LuaBasicSeen.{Refuses}
use Rattle.lua_state.specs.declared.state.State.{State}
use Rattle.lua_state.specs.declared.turn.Turn.{Turn}
use Rattle.lua_state.specs.Seen.{slots_of, frames_of}
use Rattle.lua_state.specs.Of.{StateOf}
use Rattle.lua_state.specs.Makes.{Makes}
use Rattle.lua_acts.specs.Stops.{StopsAs}
use Rattle.lua_acts.proofs.Parts.{over_text}

abbrev one_step : Heap Proc → Plain Proc
one_step h = record { charge = 1; heap = h; end = Gives [] }

-- one that is refused
pub argument_refused : {X : Type 0} (s u t : StoreView) (m : State) (l l' : Left) (line : Option ℕ) (a : Argument X) (e : Stop) (r : Turn) (go : X → Move) → StateOf s m → IsLater s u → Refuses a s u e
    → StopsAs u m l line e t l' r → Makes s m l t m l' (with_argument a line (frames_of s m) (slots_of s m) go) r
argument_refused s u t m l l' line (Ok x) (stop.Raised v level) r go of later refused stops = let no_ : 1 ≡ 0 = ap (λ (p : Plain Proc). p.charge) (refused (λ y. one_step s.heap)) in absurd (omega (arith, no_))
argument_refused s u t m l l' line (Ok x) stop.Spent r go of later refused stops = absurd (refused (λ y. one_step s.heap))
argument_refused s u t m l l' line (Ok x) stop.NoMemory r go of later refused stops = absurd stops
argument_refused s u t m l l' line (Err message) (stop.Raised v level) r go of later refused stops =
    over_text s u t m m l l' r (λ fs x. fails line message fs x) of later (sym (ap (λ (p : Plain Proc). p.heap) (refused (λ y. one_step s.heap))))
    (subst (λ (z : PlainEnd). Makes u m l t m l' (ends z line (frames_of u m) (slots_of u m)) r) (sym (ap (λ (p : Plain Proc). p.end) (refused (λ y. one_step s.heap)))) stops)
argument_refused s u t m l l' line (Err message) stop.Spent r go of later refused stops = absurd (refused (λ y. one_step s.heap))
argument_refused s u t m l l' line (Err message) stop.NoMemory r go of later refused stops = absurd stops

-- one that is there
pub argument_found : {X : Type 0} (s u t : StoreView) (m : State) (l l' : Left) (line : Option ℕ) (a : Argument X) (x : X) (r : Turn) (f : StoreView → X → Move) → a ≡ Ok x → u ≡ s
    → Makes u m l t m l' (f u x) r → Makes s m l t m l' (with_argument a line (frames_of s m) (slots_of s m) (f s)) r
argument_found s u t m l l' line a x r f e same made =
    subst (λ b. Makes s m l t m l' (with_argument b line (frames_of s m) (slots_of s m) (f s)) r) (sym e) (subst (λ (y : StoreView). Makes y m l t m l' (f y x) r) same made)
