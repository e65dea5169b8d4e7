-- A RETURN passes the frames that wait in a function, and leaves it.
use Rattle.std.proofs.Common.{◌≡◌, ℕ, ◌+◌, ◌-◌, ◌≤◌, List, [], ◌∷◌, Option, sym, subst, arith, drop}
use Rattle.std.specs.Prelude.{◌++◌, length}
use Rattle.lua_goes.specs.PageRunOutcome.{Goes, Jumps}
use Rattle.lua_goes.specs.LuaHeapValue.{Value}
use Rattle.lua_goes.specs.LuaMeaningActs.{Returned}
use Rattle.lua_goes.specs.LuaSlotsCode.{Constants, CWorld}
use Rattle.lua_goes.specs.LuaSlotsSlots.{Slot, Activation, Slots, cut}
use Rattle.lua_goes.specs.LuaSlotsPoints.{SFrame, Point, Gives, BodyEnd, ReturnNow, Now}
use Rattle.lua_goes.specs.LuaSlotsMoves.{moves}
use Rattle.lua_flat.specs.Locals.{Local}
use Rattle.lua_flat.specs.Operations.{Wanted, Exactly, ReturnF, FlatFunction, Codes}
use Rattle.lua_flat.specs.Does.{values_to}
use Rattle.lua_flat.specs.Flat.{Act, Flat, FlatMove, FExits, FNow}
use Rattle.lua_flat.specs.Moves.{flat_moves}
use Rattle.lua_flat.specs.IsExpression.{Has}
use Rattle.lua_flat.specs.Keeps.{Keeps}
use Rattle.lua_flat.specs.WaitsStatement.{Resumes, resume_jump, resume_stats, resume_sets, Finishes, finish_block, finish_body, finish_while, finish_repeat, finish_count, finish_each, finish_each_top}
use Rattle.lua_flat.specs.Stands.{in_tree, in_code, from_code, constants_in, IsRowed, Within, Callers}
use Rattle.lua_flat_laws.specs.Follows.{Follows, follow_exits, follow_free, follow_stands}
use Rattle.lua_flat_laws.specs.Laws.{returns_row, returns_nothing, ReturnsAreMoves}
use Rattle.lua_flat_laws.proofs.Kept.{code_there, depth_there, callers_there}
use Rattle.lua_flat_laws.proofs.Meets.{Meets, by_operation, whole}
use Rattle.lua_flat_laws.proofs.Unwinds.{left_stands, cut_append, cut_all}
use Rattle.lua_flat_laws.proofs.Acts as acts_of

module _ (world : CWorld) (codes : Codes) where
  module _ (cs : Constants) (g : FlatFunction) (top : ℕ) {regs : List Slot} {acts : List Act} {fns : List Activation} {frames beneath : List SFrame} {limit : ℕ} (theirs : List Slot) (fn : Activation) (t : Slots) (vs : List Value) (depth : fn.base ≡ length theirs)
      (below : Callers world codes regs acts fns theirs frames beneath limit) where
    abbrev left : FlatMove
    left = FExits (FNow (from_code (Gives (Goes vs) frames) acts regs top (in_tree theirs fns t)))

    -- from above these frames, whatever registers the function has
    abbrev Returning : List SFrame → Type 0
    Returning fs = (xs : List Slot) → Follows world codes left (moves world (Gives (Jumps (Returned vs)) fs) (in_tree (xs ++ theirs) (fn ∷ fns) t))

    abbrev returned : List SFrame → Point
    returned fs = Gives (Jumps (Returned vs)) fs

    abbrev tree : List Slot → Slots
    tree xs = in_tree (xs ++ theirs) (fn ∷ fns) t

    -- a frame at which registers are cut
    cutting : {fs : List SFrame} (d : ℕ) → length theirs ≤ d → Returning fs → (xs : List Slot) → Follows world codes left (Now (returned fs) (cut d (tree xs)))
    cutting {fs} d l u xs =
        subst (λ (ys : List Slot). Follows world codes left (Now (returned fs) (in_tree ys (fn ∷ fns) t))) (sym (cut_append d xs theirs l))
        (follow_free (returned fs) (tree (drop (length (xs ++ theirs) - d) xs)) (u (drop (length (xs ++ theirs) - d) xs)))

    the_end : Returning (BodyEnd ∷ beneath)
    the_end xs =
        follow_exits
        (subst (λ (ys : List Slot). Follows world codes (FNow (from_code (Gives (Goes vs) frames) acts regs top (in_tree theirs fns t))) (Now (Gives (Goes vs) beneath) (in_tree ys fns t))) (sym (cut_all fn.base xs theirs depth))
        (follow_stands (left_stands world codes (Goes vs) tt t below)))

    mutual
      pub return_resumes : {away : Option ℕ} {locals : List Local} {low : ℕ} {keeps : Keeps} {pc c : ℕ} {fs : List SFrame} → Resumes cs g (length theirs) beneath away locals low keeps pc c fs → Returning fs
      return_resumes (resume_jump j r) = return_resumes r
      return_resumes (resume_stats {fs} ti lv b f) = λ xs. follow_free (returned fs) (tree xs) (return_finishes f xs)
      return_resumes (resume_sets {fs} l ti ab a s r) = λ xs. follow_free (returned fs) (tree xs) (return_resumes r xs)

      pub return_finishes : {away : Option ℕ} {locals : List Local} {low : ℕ} {keeps : Keeps} {pc c : ℕ} {fs : List SFrame} → Finishes cs g (length theirs) beneath away locals low keeps pc c fs → Returning fs
      return_finishes (finish_block inner {d} e l ti r) = λ xs. cutting d (omega (arith, e)) (return_resumes r) xs
      return_finishes (finish_body h) = the_end
      return_finishes (finish_while inner {d} e l1 ti w h r) = λ xs. cutting d (omega (arith, e)) (return_resumes r) xs
      return_finishes (finish_repeat inner {d} e l1 ti w h r) = λ xs. cutting d (omega (arith, e)) (return_resumes r) xs
      return_finishes (finish_count inner {d} e l1 l2 ti w h q r) = λ xs. cutting d (omega (arith, e)) (return_resumes r) xs
      return_finishes (finish_each inner {d} e l1 l2 ti w h r) = λ xs. cutting d (omega (arith, e)) (return_resumes r) xs
      return_finishes (finish_each_top inner {d} e l1 l2 ti w r) = λ xs. cutting d (omega (arith, e)) (return_resumes r) xs

module _ (world : CWorld) (codes : Codes) (room : ℕ) (index pc base : ℕ) (frames : List SFrame) (acts : List Act) (fn : Activation) (fns : List Activation) (g : FlatFunction) (mine theirs : List Slot) (beneath : List SFrame) (regs : List Slot) (top : ℕ) (s : Slots) where
  abbrev act : Act
  act = record { index = index; pc = pc; base = base; frames = frames }

  abbrev trees : Slots
  trees = in_tree (mine ++ theirs) (fn ∷ fns) s

  abbrev flat : Flat
  flat = in_code act acts regs top trees

  abbrev Here : List Local → ℕ → Keeps → Type 0
  Here locals low keeps = Within world codes regs act acts fn fns g mine theirs beneath locals low keeps

  abbrev gone : List Value → FlatMove
  gone vs = FExits (FNow (from_code (Gives (Goes vs) frames) acts regs top (in_tree theirs fns s)))

  pub row_returns : {away : Option ℕ} {locals : List Local} {low c r : ℕ} {keeps : Keeps} {count : Wanted} {fs : List SFrame} (vs : List Value) → Here locals low keeps → IsRowed regs top (base + r) count vs → Has g pc c (ReturnF r count)
      → Resumes (constants_in world fn.source) g (length theirs) beneath away locals low keeps (pc + 1) 0 fs → Meets world codes room flat c (Gives (Goes vs) (ReturnNow ∷ fs)) trees
  row_returns {c} {r} {count} {fs} vs w e has resumes =
      by_operation world codes room flat c (Gives (Goes vs) (ReturnNow ∷ fs)) trees (gone (values_to count regs (base + r) top)) (acts_of.operation_at world codes room index pc base frames acts fn fns g mine theirs beneath regs top s c (ReturnF r count) (code_there world codes w) has)
      (follow_free (Gives (Jumps (Returned vs)) fs) trees
      (subst (λ (xs : List Value). Follows world codes (gone xs) (moves world (Gives (Jumps (Returned vs)) fs) trees)) (sym e)
      (return_resumes world codes (constants_in world fn.source) g top theirs fn s vs (depth_there world codes w) (callers_there world codes w) resumes mine)))

  pub end_returns : {locals : List Local} {low : ℕ} {keeps : Keeps} (c : ℕ) (vs : List Value) → Here locals low keeps → Has g pc c (ReturnF 0 (Exactly 0)) → Meets world codes room flat c (Gives (Goes vs) (BodyEnd ∷ beneath)) trees
  end_returns c vs w has =
      by_operation world codes room flat c (Gives (Goes vs) (BodyEnd ∷ beneath)) trees (gone []) (acts_of.operation_at world codes room index pc base frames acts fn fns g mine theirs beneath regs top s c (ReturnF 0 (Exactly 0)) (code_there world codes w) has)
      (follow_exits
      (subst (λ (ys : List Slot). Follows world codes (FNow (from_code (Gives (Goes []) frames) acts regs top (in_tree theirs fns s))) (Now (Gives (Goes []) beneath) (in_tree ys fns s))) (sym (cut_all fn.base mine theirs (depth_there world codes w)))
      (follow_stands (left_stands world codes (Goes []) tt s (callers_there world codes w)))))

  pub row_gone : {away : Option ℕ} {locals : List Local} {low r : ℕ} {keeps : Keeps} {count : Wanted} {fs : List SFrame} (vs : List Value) → Here locals low keeps → IsRowed regs top (base + r) count vs → Has g pc 0 (ReturnF r count)
      → Resumes (constants_in world fn.source) g (length theirs) beneath away locals low keeps (pc + 1) 0 fs → Follows world codes (flat_moves world codes room flat) (Now (Gives (Goes vs) (ReturnNow ∷ fs)) trees)
  row_gone {fs} vs w e has resumes = whole world codes room flat (Gives (Goes vs) (ReturnNow ∷ fs)) trees (row_returns vs w e has resumes)

  pub end_gone : {locals : List Local} {low : ℕ} {keeps : Keeps} (vs : List Value) → Here locals low keeps → Has g pc 0 (ReturnF 0 (Exactly 0)) → Follows world codes (flat_moves world codes room flat) (Now (Gives (Goes vs) (BodyEnd ∷ beneath)) trees)
  end_gone vs w has = whole world codes room flat (Gives (Goes vs) (BodyEnd ∷ beneath)) trees (end_returns 0 vs w has)

pub returns_are_moves : ReturnsAreMoves
returns_are_moves world codes room f p s (returns_row {a} {acts} {fn} {fns} {g} {mine} {theirs} {regs} {beneath} {top} {vs} t w e has r) =
    row_gone world codes room a.index a.pc a.base a.frames acts fn fns g mine theirs beneath regs top t vs w e has r
returns_are_moves world codes room f p s (returns_nothing {a} {acts} {fn} {fns} {g} {mine} {theirs} {regs} {beneath} {top} {vs} t w has) =
    end_gone world codes room a.index a.pc a.base a.frames acts fn fns g mine theirs beneath regs top t vs w has
