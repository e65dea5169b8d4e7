-- AN ERROR passes the frames that wait in a function, and leaves it.
use Rattle.std.proofs.Common.{◌≡◌, ℕ, zero, suc, ◌-◌, ◌≤◌, ◌∙◌, Bool, List, [], ◌∷◌, Option, refl, sym, ap, subst, arith, length-append, drop}
use Rattle.std.specs.Prelude.{◌++◌, length}
use Rattle.lua_goes.specs.PageRunOutcome.{Outcome, Jumps}
use Rattle.lua_goes.specs.LuaHeapValue.{Value}
use Rattle.lua_goes.specs.LuaMeaningActs.{Jump, Raised}
use Rattle.lua_goes.specs.LuaSlotsCode.{Constants, CWorld}
use Rattle.lua_goes.specs.LuaSlotsSlots.{Slot, Activation, Slots, cut_to, cut}
use Rattle.lua_goes.specs.LuaSlotsPoints.{SFrame, Point, Gives, BodyEnd, Now}
use Rattle.lua_goes.specs.LuaSlotsMoves.{moves}
use Rattle.lua_flat.specs.Locals.{Local}
use Rattle.lua_flat.specs.Operations.{Operand, Wanted, FlatFunction, Codes}
use Rattle.lua_flat.specs.Flat.{Act, FlatMove, FExits, FNow}
use Rattle.lua_flat.specs.Keeps.{Keeps}
use Rattle.lua_flat.specs.WaitsStatement.{Resumes, resume_jump, resume_stats, resume_sets, Finishes, finish_block, finish_body, finish_while, finish_repeat, finish_count, finish_each, finish_each_top, StatTakes, take_branch, take_while, take_repeat}
use Rattle.lua_flat.specs.WaitsStatement.{StatWaits, wait_only_key, wait_only_value, wait_target_key, wait_target_now, wait_refused_key, wait_refused_now, wait_alone, wait_count_from, wait_count_to, wait_count_loaded, wait_count_by, StatRow, row_return, StatExact, exact_declare, exact_assign, exact_each, exact_next}
use Rattle.lua_flat.specs.WaitsExpression.{Waits, wait_first, wait_key, wait_index, wait_operand, wait_operate, wait_unary, wait_and, wait_or, wait_compared, wait_compare, wait_test, wait_arguments, wait_object, wait_method, wait_more, wait_last, exact_goes_on, exact_ends, exact_adds, exact_drops, exact_drops_last, wait_item, wait_pair_key, wait_pair, wait_assign, wait_stat}
use Rattle.lua_flat.specs.WaitsExpression.{Lands, in_register, in_variable, LandsMany, land_first, land_nothing, land_row, land_exact, land_dropped, land_all, RowWaits, row_call, row_items, row_stat, Takes, take_first, take_not, take_and, take_or, take_stat, FieldWaits, field_next, field_last}
use Rattle.lua_flat.specs.Stands.{in_tree, from_code, IsAwayOutcome, Callers, nobody, caller, StandsFor, is_away, is_alone}
use Rattle.lua_flat_laws.specs.Follows.{Follows, follow_exits, follow_free, follow_stands}

-- CUTTING down to a depth that is not below what others have
drop_append : (k : ℕ) (xs ys : List Slot) → k ≤ length xs → drop k (xs ++ ys) ≡ drop k xs ++ ys
drop_append zero xs ys l = refl
drop_append (suc k) [] ys l = absurd (omega (arith, l))
drop_append (suc k) (x ∷ xs) ys l = drop_append k xs ys (omega (arith, l))

pub cut_append : (d : ℕ) (xs ys : List Slot) → length ys ≤ d → cut_to d (xs ++ ys) ≡ drop (length (xs ++ ys) - d) xs ++ ys
cut_append d xs ys l = drop_append (length (xs ++ ys) - d) xs ys (let e = length-append xs ys in omega (arith, e, l))

drop_whole : (xs : List Slot) (n : ℕ) → n ≡ length xs → drop n xs ≡ []
drop_whole [] zero e = refl
drop_whole [] (suc n) e = refl
drop_whole (x ∷ xs) zero e = absurd (omega (arith, e))
drop_whole (x ∷ xs) (suc n) e = drop_whole xs n (omega (arith, e))

pub cut_all : (d : ℕ) (xs ys : List Slot) → d ≡ length ys → cut_to d (xs ++ ys) ≡ ys
cut_all d xs ys e =
    let l = length-append xs ys in
    cut_append d xs ys (omega (arith, e)) ∙ ap (λ (zs : List Slot). zs ++ ys) (drop_whole xs (length (xs ++ ys) - d) (omega (arith, l, e)))

module _ (world : CWorld) (codes : Codes) where
  -- A FUNCTION WAS LEFT, with an outcome for those below it
  pub left_stands : {acts : List Act} {fns : List Activation} {theirs regs : List Slot} {frames beneath : List SFrame} {limit top : ℕ} (o : Outcome (List Value) Jump) → IsAwayOutcome o → (t : Slots) → Callers world codes regs acts fns theirs frames beneath limit
      → StandsFor world codes (from_code (Gives o frames) acts regs top (in_tree theirs fns t)) (Gives o beneath) (in_tree theirs fns t)
  left_stands o i t (nobody {gs} away) = is_alone (Gives o gs) t (i, away)
  left_stands o i t (caller gs away w awaits l) = is_away (Gives o gs) t (i, away) w awaits

  module _ (cs : Constants) (g : FlatFunction) (top : ℕ) {regs : List Slot} {acts : List Act} {fns : List Activation} {frames beneath : List SFrame} {limit : ℕ} (theirs : List Slot) (fn : Activation) (t : Slots) (v : Value) (depth : fn.base ≡ length theirs)
      (below : Callers world codes regs acts fns theirs frames beneath limit) where
    abbrev left : FlatMove
    left = FExits (FNow (from_code (Gives (Jumps (Raised v)) frames) acts regs top (in_tree theirs fns t)))

    -- from above these frames, whatever registers the function has
    abbrev Unwinds : List SFrame → Type 0
    Unwinds fs = (xs : List Slot) → Follows world codes left (moves world (Gives (Jumps (Raised v)) fs) (in_tree (xs ++ theirs) (fn ∷ fns) t))

    abbrev raised : List SFrame → Point
    raised fs = Gives (Jumps (Raised v)) fs

    abbrev tree : List Slot → Slots
    tree xs = in_tree (xs ++ theirs) (fn ∷ fns) t

    -- a frame at which registers are cut
    cutting : {fs : List SFrame} (d : ℕ) → length theirs ≤ d → Unwinds fs → (xs : List Slot) → Follows world codes left (Now (raised fs) (cut d (tree xs)))
    cutting {fs} d l u xs =
        subst (λ (ys : List Slot). Follows world codes left (Now (raised fs) (in_tree ys (fn ∷ fns) t))) (sym (cut_append d xs theirs l))
        (follow_free (raised fs) (tree (drop (length (xs ++ theirs) - d) xs)) (u (drop (length (xs ++ theirs) - d) xs)))

    the_end : Unwinds (BodyEnd ∷ beneath)
    the_end xs =
        follow_exits
        (subst (λ (ys : List Slot). Follows world codes (FNow (from_code (raised frames) acts regs top (in_tree theirs fns t))) (Now (raised beneath) (in_tree ys fns t))) (sym (cut_all fn.base xs theirs depth))
        (follow_stands (left_stands (Jumps (Raised v)) tt t below)))

    mutual
      pub unwind_resumes : {away : Option ℕ} {locals : List Local} {low : ℕ} {keeps : Keeps} {pc c : ℕ} {fs : List SFrame} → Resumes cs g (length theirs) beneath away locals low keeps pc c fs → Unwinds fs
      unwind_resumes (resume_jump j r) = unwind_resumes r
      unwind_resumes (resume_stats {fs} ti lv b f) = λ xs. follow_free (raised fs) (tree xs) (unwind_finishes f xs)
      unwind_resumes (resume_sets {fs} l ti ab a s r) = λ xs. follow_free (raised fs) (tree xs) (unwind_resumes r xs)

      pub unwind_finishes : {away : Option ℕ} {locals : List Local} {low : ℕ} {keeps : Keeps} {pc c : ℕ} {fs : List SFrame} → Finishes cs g (length theirs) beneath away locals low keeps pc c fs → Unwinds fs
      unwind_finishes (finish_block inner {d} e l ti r) = λ xs. cutting d (omega (arith, e)) (unwind_resumes r) xs
      unwind_finishes (finish_body h) = the_end
      unwind_finishes (finish_while inner {d} e l1 ti w h r) = λ xs. cutting d (omega (arith, e)) (unwind_resumes r) xs
      unwind_finishes (finish_repeat inner {d} e l1 ti w h r) = λ xs. cutting d (omega (arith, e)) (unwind_resumes r) xs
      unwind_finishes (finish_count inner {d} e l1 l2 ti w h q r) = λ xs. cutting d (omega (arith, e)) (unwind_resumes r) xs
      unwind_finishes (finish_each inner {d} e l1 l2 ti w h r) = λ xs. cutting d (omega (arith, e)) (unwind_resumes r) xs
      unwind_finishes (finish_each_top inner {d} e l1 l2 ti w r) = λ xs. cutting d (omega (arith, e)) (unwind_resumes r) xs

    -- frames of statements
    unwind_stat_takes : {locals : List Local} {low : ℕ} {keeps : Keeps} {hit ch miss cm : ℕ} {fs : List SFrame} → StatTakes cs g (length theirs) beneath locals low keeps hit ch miss cm fs → Unwinds fs
    unwind_stat_takes (take_branch {fs} ti b j a r) = λ xs. follow_free (raised fs) (tree xs) (unwind_resumes r xs)
    unwind_stat_takes (take_while {fs} ti w r) = λ xs. follow_free (raised fs) (tree xs) (unwind_resumes r xs)
    unwind_stat_takes (take_repeat inner {d} e l1 ti w r) = λ xs. cutting d (omega (arith, e)) (unwind_resumes r) xs

    unwind_stat_waits : {locals : List Local} {low : ℕ} {keeps : Keeps} {pc c : ℕ} {o : Operand} {fs : List SFrame} → StatWaits cs g (length theirs) beneath locals low keeps pc c o fs → Unwinds fs
    unwind_stat_waits (wait_only_key {fs} ti l b x y h r) = λ xs. follow_free (raised fs) (tree xs) (unwind_resumes r xs)
    unwind_stat_waits (wait_only_value {fs} l ti l2 b x h r) = λ xs. follow_free (raised fs) (tree xs) (unwind_resumes r xs)
    unwind_stat_waits (wait_target_key {fs} l l2 l3 ti ab a x y r) = λ xs. follow_free (raised fs) (tree xs) (unwind_resumes r xs)
    unwind_stat_waits (wait_target_now {fs} l l2 l3 l4 ti ab a y r) = λ xs. follow_free (raised fs) (tree xs) (unwind_resumes r xs)
    unwind_stat_waits (wait_refused_key {fs} l l2 x y r) = λ xs. follow_free (raised fs) (tree xs) (unwind_resumes r xs)
    unwind_stat_waits (wait_refused_now {fs} q l y r) = λ xs. follow_free (raised fs) (tree xs) (unwind_resumes r xs)
    unwind_stat_waits (wait_alone r) = unwind_resumes r
    unwind_stat_waits (wait_count_from {fs} l ti x y r) = λ xs. follow_free (raised fs) (tree xs) (unwind_resumes r xs)
    unwind_stat_waits (wait_count_to {fs} l l2 ti y r) = λ xs. follow_free (raised fs) (tree xs) (unwind_resumes r xs)
    unwind_stat_waits (wait_count_loaded {fs} l l2 ti h y r) = λ xs. follow_free (raised fs) (tree xs) (unwind_resumes r xs)
    unwind_stat_waits (wait_count_by {fs} l l2 ti h y r) = λ xs. follow_free (raised fs) (tree xs) (unwind_resumes r xs)

    unwind_stat_row : {locals : List Local} {low : ℕ} {keeps : Keeps} {pc c r : ℕ} {count : Wanted} {fs : List SFrame} → StatRow cs g (length theirs) beneath locals low keeps pc c r count fs → Unwinds fs
    unwind_stat_row (row_return {fs} h r) = λ xs. follow_free (raised fs) (tree xs) (unwind_resumes r xs)

    pub unwind_stat_exact : {locals : List Local} {low : ℕ} {keeps : Keeps} {pc c r n : ℕ} {fs : List SFrame} → StatExact cs g (length theirs) beneath locals low keeps pc c r n fs → Unwinds fs
    unwind_stat_exact (exact_declare {fs} l l2 ti lv o b f) = λ xs. follow_free (raised fs) (tree xs) (unwind_finishes f xs)
    unwind_stat_exact (exact_assign {fs} l l2 l3 ti ab a s r) = λ xs. follow_free (raised fs) (tree xs) (unwind_resumes r xs)
    unwind_stat_exact (exact_each {fs} l ti j w r) = λ xs. follow_free (raised fs) (tree xs) (unwind_resumes r xs)
    unwind_stat_exact (exact_next {fs} l l2 ti w e r) = λ xs. follow_free (raised fs) (tree xs) (unwind_resumes r xs)

    -- one more frame that passes it on
    abbrev passed : {fs : List SFrame} → Unwinds fs → (xs : List Slot) → Follows world codes left (Now (raised fs) (tree xs))
    passed {fs} u xs = follow_free (raised fs) (tree xs) (u xs)

    mutual
      pub unwind_waits : {single : Bool} {locals : List Local} {low : ℕ} {keeps : Keeps} {pc c : ℕ} {o : Operand} {fs : List SFrame} → Waits cs g (length theirs) beneath single locals low keeps pc c o fs → Unwinds fs
      unwind_waits (wait_first w) = λ xs. passed (unwind_waits w) xs
      unwind_waits (wait_key l b x h k) = λ xs. passed (unwind_lands k) xs
      unwind_waits (wait_index l b h k) = λ xs. passed (unwind_lands k) xs
      unwind_waits (wait_operand l b x h k) = λ xs. passed (unwind_lands k) xs
      unwind_waits (wait_operate l b h k) = λ xs. passed (unwind_lands k) xs
      unwind_waits (wait_unary h k) = λ xs. passed (unwind_lands k) xs
      unwind_waits (wait_and l1 l2 h x w) = λ xs. passed (unwind_waits w) xs
      unwind_waits (wait_or l1 l2 h x w) = λ xs. passed (unwind_waits w) xs
      unwind_waits (wait_compared l b q x h f k) = λ xs. passed (unwind_takes k) xs
      unwind_waits (wait_compare l b q h f k) = λ xs. passed (unwind_takes k) xs
      unwind_waits (wait_test h f k) = unwind_takes k
      unwind_waits (wait_arguments l1 l2 x h k) = λ xs. passed (unwind_many k) xs
      unwind_waits (wait_object l1 l2 h x h2 k) = λ xs. passed (unwind_many k) xs
      unwind_waits (wait_method l1 l2 l3 b x h k) = λ xs. passed (unwind_many k) xs
      unwind_waits (wait_more l1 l2 b x k) = λ xs. passed (unwind_row k) xs
      unwind_waits (wait_last l1 l2 b k) = λ xs. passed (unwind_row k) xs
      unwind_waits (exact_goes_on l1 l2 b x k) = λ xs. passed (unwind_stat_exact k) xs
      unwind_waits (exact_ends l1 l2 b k) = λ xs. passed (unwind_stat_exact k) xs
      unwind_waits (exact_adds l1 l2 b h k) = λ xs. passed (unwind_stat_exact k) xs
      unwind_waits (exact_drops l1 l2 l3 b x k) = λ xs. passed (unwind_stat_exact k) xs
      unwind_waits (exact_drops_last l1 l2 l3 b k) = λ xs. passed (unwind_stat_exact k) xs
      unwind_waits (wait_item l0 l1 l2 i b h x w) = λ xs. passed (unwind_waits w) xs
      unwind_waits (wait_pair_key l0 l1 l2 l3 i b x h y w) = λ xs. passed (unwind_waits w) xs
      unwind_waits (wait_pair l0 l1 l2 b h x w) = λ xs. passed (unwind_waits w) xs
      unwind_waits (wait_assign {t} {fs} l ti f s r) = λ xs. passed (λ ys. passed (unwind_resumes r) ys) xs
      unwind_waits (wait_stat w) = unwind_stat_waits w

      pub unwind_lands : {last single : Bool} {locals : List Local} {low : ℕ} {keeps : Keeps} {pc to : ℕ} {fs : List SFrame} → Lands cs g (length theirs) beneath last single locals low keeps pc to fs → Unwinds fs
      unwind_lands (in_register l w) = unwind_waits w
      unwind_lands (in_variable ti e r) = λ xs. passed (λ ys. passed (unwind_resumes r) ys) xs

      pub unwind_many : {wanted : Wanted} {locals : List Local} {low : ℕ} {keeps : Keeps} {pc to : ℕ} {fs : List SFrame} → LandsMany cs g (length theirs) beneath wanted locals low keeps pc to fs → Unwinds fs
      unwind_many (land_first k) = unwind_lands k
      unwind_many (land_nothing r) = unwind_resumes r
      unwind_many (land_row l1 l2 b k) = λ xs. passed (unwind_row k) xs
      unwind_many (land_exact l1 l2 b k) = λ xs. passed (unwind_stat_exact k) xs
      unwind_many (land_dropped l1 l2 b k) = λ xs. passed (unwind_stat_exact k) xs
      unwind_many (land_all l k) = unwind_row k

      pub unwind_row : {locals : List Local} {low : ℕ} {keeps : Keeps} {pc c r : ℕ} {count : Wanted} {fs : List SFrame} → RowWaits cs g (length theirs) beneath locals low keeps pc c r count fs → Unwinds fs
      unwind_row (row_call l1 l2 b h k) = λ xs. passed (unwind_many k) xs
      unwind_row (row_items l0 l b h w) = λ xs. passed (unwind_waits w) xs
      unwind_row (row_stat k) = unwind_stat_row k

      pub unwind_takes : {locals : List Local} {low : ℕ} {keeps : Keeps} {hit ch miss cm : ℕ} {fs : List SFrame} → Takes cs g (length theirs) beneath locals low keeps hit ch miss cm fs → Unwinds fs
      unwind_takes (take_first k) = λ xs. passed (unwind_takes k) xs
      unwind_takes (take_not k) = λ xs. passed (unwind_takes k) xs
      unwind_takes (take_and l x k) = λ xs. passed (unwind_takes k) xs
      unwind_takes (take_or l x k) = λ xs. passed (unwind_takes k) xs
      unwind_takes (take_stat k) = unwind_stat_takes k

    pub unwind_field : {locals : List Local} {low : ℕ} {keeps : Keeps} {pc : ℕ} {fs : List SFrame} → FieldWaits cs g (length theirs) beneath locals low keeps pc fs → Unwinds fs
    unwind_field (field_next l0 l1 l2 b x w) = λ xs. passed (unwind_waits w) xs
    unwind_field (field_last l0 l1 b w) = λ xs. passed (unwind_waits w) xs
