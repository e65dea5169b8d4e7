-- A BREAK passes the frames that wait in a loop, and code goes on behind the loop.
use Rattle.std.proofs.Common.{◌≡◌, ℕ, suc, ◌+◌, ◌≤◌, List, [], ◌∷◌, ◌++◌, Option, Some, sym, ap, subst, arith, length-append}
use Rattle.std.specs.Prelude.{length}
use Rattle.lua_goes.specs.PageRunOutcome.{Goes, Jumps}
use Rattle.lua_goes.specs.LuaMeaningActs.{Broke}
use Rattle.lua_goes.specs.LuaSlotsCode.{Constants, CBlock, CWorld}
use Rattle.lua_goes.specs.LuaSlotsSlots.{Slot, Activation, Slots, cut}
use Rattle.lua_goes.specs.LuaSlotsPoints.{SFrame, Point, Gives, Now}
use Rattle.lua_goes.specs.LuaSlotsMoves.{moves}
use Rattle.lua_flat.specs.Locals.{Local}
use Rattle.lua_flat.specs.Operations.{FlatFunction, Codes}
use Rattle.lua_flat.specs.Flat.{Act, Flat, FNow}
use Rattle.lua_flat.specs.IsStatement.{IsBlock, block_end, block_pays, block_declares, block_names, block_then}
use Rattle.lua_flat.specs.Keeps.{Keeps, AreKept, Bounded, Tidy}
use Rattle.lua_flat.specs.WaitsStatement.{Leaves, Resumes, resume_jump, resume_stats, resume_sets, Finishes, finish_block, finish_body, finish_while, finish_repeat, finish_count, finish_each, finish_each_top}
use Rattle.lua_flat.specs.Stands.{in_tree, in_code, constants_in, Within, at_end_of_statement}
use Rattle.lua_flat_laws.specs.Follows.{Follows, follow_free, follow_stands}
use Rattle.lua_flat_laws.proofs.Kept.{with_keeps, kept_there, bounded_there, room_there, bounded_more}
use Rattle.lua_flat_laws.proofs.Cuts.{cuts}
use Rattle.lua_flat_laws.proofs.Targets.{kept_right}
use Rattle.lua_flat_laws.proofs.Tests as tests_of

-- a block's room
pub block_room : {g : FlatFunction} {away : Option ℕ} {locals inner : List Local} {free free' c pc c' pc' : ℕ} {b : CBlock} → IsBlock g away locals free b c pc c' pc' inner free' → free ≤ g.registers → free' ≤ g.registers
block_room block_end l = l
block_room (block_pays h b) l = block_room b l
block_room (block_declares r list opening b) l = block_room b r
block_room (block_names r origins h b) l = block_room b (omega (arith, r))
block_room (block_then st b) l = block_room b l

-- of two lists that end alike the longer one ends in the other
tail_same : {x y : Local} {xs ys : List Local} → (x ∷ xs) ≡ (y ∷ ys) → xs ≡ ys
tail_same e = cc

pub ends_in : (news inner cur locals : List Local) → inner ++ locals ≡ news ++ cur → length locals ≤ length cur → (ys : List Local) × (cur ≡ ys ++ locals)
ends_in [] inner cur locals e l = (inner, sym e)
ends_in (x ∷ news) [] cur locals e l =
    let n : length locals ≡ suc (length (news ++ cur)) = ap length e in
    let m : length (news ++ cur) ≡ length news + length cur = length-append news cur in
    absurd (omega (arith, n, m, l))
ends_in (x ∷ news) (y ∷ inner) cur locals e l = ends_in news inner cur locals (tail_same e) l

same_place : {x y : ℕ} → Some x ≡ Some y → x ≡ y
same_place e = cc

module _ (world : CWorld) (codes : Codes) (index base target : ℕ) (frames : List SFrame) (acts : List Act) (fn : Activation) (fns : List Activation) (g : FlatFunction) (theirs : List Slot) (beneath : List SFrame) (regs : List Slot) (top : ℕ) (s : Slots) where
  abbrev act : Act
  act = record { index = index; pc = target; base = base; frames = frames }

  abbrev cs : Constants
  cs = constants_in world fn.source

  abbrev slots : List Slot → Slots
  slots mine = in_tree (mine ++ theirs) (fn ∷ fns) s

  abbrev flat : Flat
  flat = in_code act acts regs top (slots [])

  abbrev There : List Slot → List Local → ℕ → Keeps → Type 0
  There mine locals low keeps = Within world codes regs act acts fn fns g mine theirs beneath locals low keeps

  abbrev broken : List SFrame → Point
  broken fs = Gives (Jumps Broke) fs

  abbrev Breaks : List Slot → List SFrame → Type 0
  Breaks mine fs = Follows world codes (FNow flat) (moves world (broken fs) (slots mine))

  -- the variables of the loop's turn are gone
  record Out (mine : List Slot) (locals : List Local) (low d : ℕ) (keeps : Keeps) : Type 0 where
    olds : List Slot
    is : cut d (slots mine) ≡ slots olds
    stays : There olds locals low keeps

  cut_out : {mine : List Slot} {cur locals : List Local} {low low' lower d : ℕ} {keeps kept : Keeps} (inner news : List Local) → inner ++ locals ≡ news ++ cur → d ≤ length cur + length theirs → d ≡ length locals + length theirs → lower ≤ low → low ≤ g.registers → low' ≤ low → Tidy low' locals keeps
      → AreKept cs regs base keeps → There mine cur lower kept → Bounded low cur keeps → Out mine locals low' d keeps
  cut_out {mine} {cur} {locals} {low} {low'} {d} {keeps} inner news e l ed l1 r l2 tidy ks w b =
      let y = ends_in news inner cur locals e (omega (arith, l, ed)) in
      let high : There mine cur low keeps = with_keeps world codes ks b r w in
      let k = cuts world codes y.0 locals (subst (λ (zs : List Local). There mine zs low keeps) y.1 high) ed l2 tidy.bounded in
      record { olds = k.olds; is = ap (λ (zs : List Slot). in_tree zs (fn ∷ fns) s) k.is; stays = k.stays }

  -- a loop ends
  leaves_loop : {away : Option ℕ} {mine : List Slot} {locals : List Local} {low end d : ℕ} {keeps : Keeps} {fs : List SFrame} → Some end ≡ Some target → Resumes cs g (length theirs) beneath away locals low keeps end 0 fs → Out mine locals low d keeps → Follows world codes (FNow flat) (Now (Gives (Goes []) fs) (cut d (slots mine)))
  leaves_loop {away} {mine} {locals} {low} {keeps} {fs} e r out =
      subst (λ (t : Slots). Follows world codes (FNow flat) (Now (Gives (Goes []) fs) t)) (sym out.is)
      (follow_stands (at_end_of_statement {mine = out.olds} s out.stays (subst (λ (n : ℕ). Resumes cs g (length theirs) beneath away locals low keeps n 0 fs) (same_place e) r)))

  mutual
    pub break_resumes : {away : Option ℕ} {locals : List Local} {low : ℕ} {keeps : Keeps} {pc c : ℕ} {fs : List SFrame} → Resumes cs g (length theirs) beneath away locals low keeps pc c fs → away ≡ Some target → (mine : List Slot) → There mine locals low keeps → Breaks mine fs
    break_resumes (resume_jump j r) e mine w = break_resumes r e mine w
    break_resumes (resume_stats {fs} tidy left code f) e mine w =
        let x = tests_of.block_extends code in
        follow_free (broken fs) (slots mine) (break_finishes f x.0 e x.1 left (tests_of.block_rises code) (block_room code (room_there world codes w)) mine w)
    break_resumes (resume_sets {low'} {k} {keeps} {fs} l tidy above found sets r) e mine w =
        let room_left : low' ≤ g.registers = let n = room_there world codes w in omega (arith, l, n) in
        follow_free (broken fs) (slots mine) (break_resumes r e mine (with_keeps world codes (kept_right cs regs base k keeps (kept_there world codes w)) tidy.bounded room_left w))

    break_finishes : {cur : List Local} {lower : ℕ} {away : Option ℕ} {inner : List Local} {low : ℕ} {keeps : Keeps} {pc c : ℕ} {fs : List SFrame} → Finishes cs g (length theirs) beneath away inner low keeps pc c fs → (news : List Local) → away ≡ Some target → inner ≡ news ++ cur → Leaves (length cur + length theirs) fs → lower ≤ low → low ≤ g.registers
        → (mine : List Slot) → There mine cur lower keeps → Breaks mine fs
    break_finishes {cur} {lower} {low} (finish_block {locals} inner {low'} {d} {keeps} {fs} ed l tidy r) news e is left l1 room mine w =
        let out = cut_out inner news is left ed l1 room l tidy (kept_there world codes w) w (bounded_more lower low cur keeps l1 (bounded_there world codes w)) in
        subst (λ (t : Slots). Follows world codes (FNow flat) (Now (broken fs) t)) (sym out.is) (follow_free (broken fs) (slots out.olds) (break_resumes r e out.olds out.stays))
    break_finishes (finish_body has) news e is left l1 room mine w = absurd cc
    break_finishes {cur} {lower} {low} (finish_while {locals} inner {keeps} ed l tidy loop has r) news e is left l1 room mine w =
        leaves_loop e r (cut_out inner news is left ed l1 room l tidy (kept_there world codes w) w (bounded_more lower low cur keeps l1 (bounded_there world codes w)))
    break_finishes {cur} {lower} {low} (finish_repeat {locals} inner {keeps} ed l tidy loop test r) news e is left l1 room mine w =
        leaves_loop e r (cut_out inner news is left ed l1 room l tidy (kept_there world codes w) w (bounded_more lower low cur keeps l1 (bounded_there world codes w)))
    break_finishes {cur} {lower} {low} (finish_count {locals} inner {keeps} ed l2 l3 tidy loop has ends r) news e is left l1 room mine w =
        let b = bounded_there world codes w in
        leaves_loop e r (cut_out inner news is left ed l1 room (omega (arith, l2, l3)) tidy (kept_there world codes w).1.1.1 w (bounded_more lower low cur keeps l1 (record { locals_below = b.locals_below; keeps_below = b.keeps_below.1.1.1 })))
    break_finishes {cur} {lower} {low} (finish_each {locals} inner {keeps} ed l2 l3 tidy each has r) news e is left l1 room mine w =
        let b = bounded_there world codes w in
        leaves_loop e r (cut_out inner news is left ed l1 room (omega (arith, l2, l3)) tidy (kept_there world codes w).1.1.1 w (bounded_more lower low cur keeps l1 (record { locals_below = b.locals_below; keeps_below = b.keeps_below.1.1.1 })))
    break_finishes {cur} {lower} {low} (finish_each_top {locals} inner {keeps} ed l2 l3 tidy each r) news e is left l1 room mine w =
        let b = bounded_there world codes w in
        leaves_loop e r (cut_out inner news is left ed l1 room (omega (arith, l2, l3)) tidy (kept_there world codes w).1.1.1 w (bounded_more lower low cur keeps l1 (record { locals_below = b.locals_below; keeps_below = b.keeps_below.1.1.1 })))
