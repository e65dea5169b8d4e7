-- TESTS that have their value.
use Rattle.std.proofs.Common.{◌≡◌, ◌∙◌, ◌+◌, ◌-◌, ℕ, Bool, true, false, List, [], ◌∷◌, length, Option, Some, None, refl, sym, ap, arith}
use Rattle.lua_loops.specs.PageRunOutcome.{Goes}
use Rattle.lua_code.specs.PageRunPerform.{less}
use Rattle.lua_code.proofs.PageRunLess.{less_of}
use Rattle.lua_code.specs.LuaHeapValue.{Value, is_true}
use Rattle.lua_code.specs.LuaSlotsCode.{CExp, CBlock, ThenC, CArms, NoArmC, ArmC, CWorld}
use Rattle.lua_operators.specs.LuaSlotsSlots.{Slots}
use Rattle.lua_operators.specs.LuaSlotsPoints.{WhileTurnS, SFrame, BranchNext, StatsNext, WhileTest, WhileEnd, Point, Gives, Evals, Runs, Starts, Move, Marks, Now}
use Rattle.lua_operators.specs.LuaSlotsErrors.{node, choose, gives}
use Rattle.lua_code.specs.LuaSlotsExpressions.{decides}
use Rattle.lua_loops.specs.LuaSlotsMoves.{moves}
use Rattle.lua_code.specs.LuaSlotsStatements.{within, otherwise, branches}
use Rattle.lua_operators.specs.LuaSlotsEnact.{Stands, paid, enact}
use Rattle.lua_strides.specs.LuaGoesGoing.{here, further}
use Rattle.lua_strides.proofs.LuaInPlaceReading.{with_count}
use Rattle.lua_strides.proofs.LuaInPlaceStatements.{Leads, free, free_first}
use Rattle.lua_strides.specs.Conditions.{if_seen}
use Rattle.lua_strides.specs.Strides.{LeadsAt}
use Rattle.lua_strides.proofs.Paths.{at_once}

-- AN `if` begins, with an `else` or without one
pub if_begins : (world : CWorld) (test : CExp) (body : CBlock) (more : CArms) (other : Option CBlock) (rest : CBlock) (fs : List SFrame) (s : Slots)
    → moves world (Runs (ThenC (if_seen (ArmC test body more) other) rest) fs) s ≡ node (Now (Evals test (BranchNext body more other ∷ StatsNext rest ∷ fs)) s)
if_begins world test body more None rest fs s = refl
if_begins world test body more (Some b) rest fs s = refl

-- A TEST that holds, or does not
pub held : (v : Value) (a b : Move) → is_true v ≡ true → choose (is_true v) a b ≡ a
held v a b e = ap (λ (t : Bool). choose t a b) e

pub not_held : (v : Value) (a b : Move) → is_true v ≡ false → choose (is_true v) a b ≡ b
not_held v a b e = ap (λ (t : Bool). choose t a b) e

-- the branches that are left, where there is one, an `else`, or neither
pub next_branch : (v : Value) (body : CBlock) (arms : CArms) (other : Option CBlock) (test : CExp) (b : CBlock) (more : CArms) (fs : List SFrame) (s : Slots) → is_true v ≡ false → arms ≡ ArmC test b more
    → choose (is_true v) (within body fs s) (branches arms other fs s) ≡ Now (Evals test (BranchNext b more other ∷ fs)) s
next_branch v body arms other test b more fs s e is = not_held v (within body fs s) (branches arms other fs s) e ∙ ap (λ (a : CArms). branches a other fs s) is

pub last_branch : (v : Value) (body : CBlock) (arms : CArms) (other : Option CBlock) (fs : List SFrame) (s : Slots) (mv : Move) → is_true v ≡ false → arms ≡ NoArmC → otherwise other fs s ≡ mv
    → choose (is_true v) (within body fs s) (branches arms other fs s) ≡ mv
last_branch v body arms other fs s mv e is o = not_held v (within body fs s) (branches arms other fs s) e ∙ ap (λ (a : CArms). branches a other fs s) is ∙ o

-- AN OPERAND of `and` or `or` decides, or does not
pub decided : (deciding truth : Bool) (a b : Move) (is : Bool) → decides deciding truth ≡ is → choose (decides deciding truth) a b ≡ choose is a b
decided deciding truth a b is e = ap (λ (t : Bool). choose t a b) e

-- A TURN of a `while` begins
one_less : (i k : ℕ) → i ≡ 1 + k → less 1 i ≡ Some k
one_less i k h = let l : i - 1 ≡ k = omega (arith, h) in less_of 1 i (omega (arith, h)) ∙ ap (λ (x : ℕ). Some x) l

module _ (world : CWorld) (test : CExp) (b : CBlock) (fs : List SFrame) (s : Slots) where
  begun : Leads world (Starts (WhileTurnS test b) fs) s 1 (Runs b (WhileEnd (length s.regs) test b ∷ fs)) s
  begun f i k c d h g =
      let p : Point = Starts (WhileTurnS test b) fs in
      let q : Point = Runs b (WhileEnd (length s.regs) test b ∷ fs) in
      further p s (with_count f i c) q s (with_count f k d) here
      (ap (λ (o : Option ℕ). paid o (with_count f i c) (enact (Marks (Now q s)))) (one_less i k h) ∙ ap (λ (x : ℕ). Stands q s (with_count f k x)) (sym g))

  pub turned : (v : Value) → is_true v ≡ true → LeadsAt world (Gives (Goes (v ∷ [])) (WhileTest test b ∷ fs)) s 1 (Runs b (WhileEnd (length s.regs) test b ∷ fs)) s
  turned v e =
      at_once world (Gives (Goes (v ∷ [])) (WhileTest test b ∷ fs)) s 1 (Runs b (WhileEnd (length s.regs) test b ∷ fs)) s
      (free_first world 1 (free world (Gives (Goes (v ∷ [])) (WhileTest test b ∷ fs)) s (Starts (WhileTurnS test b) fs) s (held v (Now (Starts (WhileTurnS test b) fs) s) (gives [] fs s) e)) begun)
