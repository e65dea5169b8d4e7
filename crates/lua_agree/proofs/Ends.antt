-- THE END OF A BLOCK cuts registers, and that of a function drops it from those in progress.
use Rattle.std.proofs.Common.{◌≡◌, ℕ, List, length, Option, sym, subst}
use Rattle.lua_slots.specs.LuaSyntaxTree.{Exp}
use Rattle.lua_heap.specs.Related.{Map}
use Rattle.lua_slots.specs.LuaMeaningScope.{Scope}
use Rattle.lua_slots.specs.LuaMeaningActs.{State}
use Rattle.lua_slots.specs.Code.{CExp, CWorld}
use Rattle.lua_slots.specs.Slots.{Activation, Slots, cut, cut_to}
use Rattle.lua_slots.specs.Points.{SFrame}
use Rattle.lua_agree.specs.Variables.{Var, Vars, Opens}
use Rattle.lua_agree.specs.Rests.{After, SameEnd, ends_block, ends_body, ends_while, ends_repeat, ends_count, ends_each}
use Rattle.lua_agree.specs.Agree.{Base, Rel}
use Rattle.lua_agree.proofs.Variables.{vars-cut, vars-length, opens-then}

-- a longer list of open variables may be cut down as well
pub end-more : (code : CWorld) {m : Map} {tail : Option (Exp × CExp)} {vars all : List Var} {fns : List Activation} {k : After Scope} {fs : List SFrame} → Opens vars all → SameEnd code m tail vars fns k fs → SameEnd code m tail all fns k fs
end-more code o (ends_block below vars fns d scope k fs p q r) = ends_block below _ fns d scope k fs (opens-then below vars _ p o) q r
end-more code o (ends_body below vars a fns k fs p q d r) = ends_body below _ a fns k fs (opens-then below vars _ p o) q d r
end-more code o (ends_while below vars fns e c b d depth see scope k fs x y i p q r) = ends_while below _ fns e c b d depth see scope k fs x y i (opens-then below vars _ p o) q r
end-more code o (ends_repeat below vars fns b c e d depth see scope k fs x i p q r) = ends_repeat below _ fns b c e d depth see scope k fs x i (opens-then below vars _ p o) q r
end-more code o (ends_count below vars fns x boxed index limit step b c depth see scope k fs y i p q r) = ends_count below _ fns x boxed index limit step b c depth see scope k fs y i (opens-then below vars _ p o) q r
end-more code o (ends_each below vars fns names flags f g t u v w b c line depth see scope k fs n x i y z j p q r) = ends_each below _ fns names flags f g t u v w b c line depth see scope k fs n x i y z j (opens-then below vars _ p o) q r

module _ (code : CWorld) {B : Base} {m : Map} {h : State} {s : Slots} where
  pub rel-cut : {all : List Var} (vars : List Var) (d : ℕ) → Opens vars all → d ≡ length vars → Rel code B m all h s → Rel code B m vars h (cut d s)
  rel-cut {all} vars d o e r = record {
    stands = r.stands;
    open_ = subst (λ n. Vars m h.heap vars (cut_to n s.regs)) (sym e) (vars-cut m h.heap vars all s.regs o r.open_);
    later = r.later;
    globals = r.globals;
    writable = r.writable;
    strings = r.strings;
    modules = r.modules;
    data_modules = r.data_modules;
    frames = r.frames;
  }

  pub with-functions : {vars : List Var} (fns : List Activation) → Rel code B m vars h s → Rel code B m vars h (record s { functions = fns })
  with-functions fns r = record { stands = r.stands; open_ = r.open_; later = r.later; globals = r.globals; writable = r.writable; strings = r.strings; modules = r.modules; data_modules = r.data_modules; frames = r.frames }

  pub depth-is : {vars : List Var} → Rel code B m vars h s → length s.regs ≡ length vars
  depth-is {vars} r = vars-length m h.heap vars s.regs r.open_
