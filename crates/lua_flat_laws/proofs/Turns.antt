-- LOOPS: where a turn ends, and the iterator of a generic loop is called and its results are looked at.
use Rattle.std.proofs.Common.{◌≡◌, ℕ, zero, suc, ◌+◌, ◌≤◌, ◌<◌, ◌∙◌, Bool, true, false, List, [], ◌∷◌, ◌++◌, Option, Some, refl, sym, ap, ap₂, subst, arith}
use Rattle.std.specs.Prelude.{ℤ, ◌+ℤ◌, length, slice_get}
use Rattle.lua_goes.specs.PageRunOutcome.{Goes}
use Rattle.lua_goes.specs.LuaNumberWhole.{fits}
use Rattle.lua_goes.specs.LuaHeapValue.{Value, Number, is_nil}
use Rattle.lua_goes.specs.LuaMeaningValues.{first, second, third, rest}
use Rattle.lua_flat.specs.LuaMeaningLoops.{is_within}
use Rattle.lua_goes.specs.LuaSlotsCode.{Constants, CBlock, CWorld}
use Rattle.lua_goes.specs.LuaSlotsSlots.{Slot, Plain, Activation, Slots, cut}
use Rattle.lua_goes.specs.LuaSlotsPoints.{SFrame, CountTurnS, EachTurnS, WhileTest, WhileEnd, CountEnd, EachNext, EachEnd, EachValues, Point, Gives, Evals, Starts, Move, Now}
use Rattle.lua_goes.specs.LuaSlotsCalls as calls
use Rattle.lua_goes.specs.LuaSlotsErrors.{choose, gives}
use Rattle.lua_goes.specs.LuaSlotsLoops as loops
use Rattle.lua_flat.specs.Locals.{Local}
use Rattle.lua_flat.specs.Operations.{RegisterO, Op, JumpF, PayF, CountGoesOnF, EachCallsF, EachTestsF, FlatFunction, Codes}
use Rattle.lua_flat.specs.Registers.{read, put, values_at, adjusted}
use Rattle.lua_flat.specs.Does.{Landing, whole, count_if, fits_within, counts_on, each_if, becomes}
use Rattle.lua_flat.specs.Flat.{Act, Flat, FlatMove, FNodes, FNow}
use Rattle.lua_flat.specs.Moves.{landed, goes_on, settled, does, flat_moves}
use Rattle.lua_flat.specs.IsExpression.{Has, HasAt}
use Rattle.lua_flat.specs.IsStatement.{IsJoin, joined, by_jump, by_pay}
use Rattle.lua_flat.specs.Keeps.{Keeps, Bounded, Tidy}
use Rattle.lua_flat.specs.WaitsStatement.{IsCount, IsEach, Resumes, Finishes, finish_block, finish_body, finish_while, finish_repeat, finish_count, finish_each, finish_each_top, StatExact, exact_declare, exact_assign, exact_each, exact_next, take_while}
use Rattle.lua_flat.specs.WaitsExpression.{take_stat}
use Rattle.lua_flat.specs.Stands.{erased, in_tree, in_code, constants_in, Within, StandsFor, await_each, at_test, at_exact, at_count, at_each, at_end_of_statement, at_end_of_block}
use Rattle.lua_flat_laws.specs.Follows.{Follows, follow_stands}
use Rattle.lua_flat_laws.specs.Laws.{IsTurnEnd, IsEachList, ends_turn, has_results, TurnsAreMoves}
use Rattle.lua_flat_laws.proofs.Likewise as like
use Rattle.lua_flat_laws.proofs.Kept.{put_value, put_reads, keep_within, moved, with_keeps, code_there, kept_there, bounded_there, room_there, bounded_more}
use Rattle.lua_flat_laws.proofs.Meets.{Meets, by_operation, by_standing, whole as whole_move}
use Rattle.lua_flat_laws.proofs.Cuts.{cuts}
use Rattle.lua_flat_laws.proofs.Acts as acts_of
use Rattle.lua_flat_laws.proofs.ComesBack as comes_of
use Rattle.lua_flat_laws.proofs.Returns as returns_of

-- values above a register that is put
values_kept : (n y at : ℕ) (x : Slot) (regs : List Slot) → y < at → values_at (put y x regs) at n ≡ values_at regs at n
values_kept zero y at x regs l = refl
values_kept (suc n) y at x regs l =
    ap₂ (λ (v : Value) (vs : List Value). v ∷ vs) (put_reads y x regs at (λ (q : y ≡ at). omega (arith, l, q))) (values_kept n y (at + 1) x regs (omega (arith, l)))

-- the first of some results
first_result : (n at : ℕ) (regs : List Slot) (vs : List Value) → 1 ≤ n → values_at regs at n ≡ adjusted n vs → read regs at ≡ first vs
first_result zero at regs vs l e = absurd (omega (arith, l))
first_result (suc n) at regs vs l e = ap first e

module _ (world : CWorld) (codes : Codes) (room : ℕ) (index pc base : ℕ) (frames : List SFrame) (acts : List Act) (fn : Activation) (fns : List Activation) (g : FlatFunction) (mine theirs : List Slot) (beneath : List SFrame) (regs : List Slot) (top : ℕ) (s : Slots) where
  abbrev at : ℕ → Act
  at q = record { index = index; pc = q; base = base; frames = frames }

  abbrev cs : Constants
  cs = constants_in world fn.source

  abbrev slots : List Slot → Slots
  slots xs = in_tree (xs ++ theirs) (fn ∷ fns) s

  abbrev flat : Flat
  flat = in_code (at pc) acts regs top (slots mine)

  abbrev Here : List Local → ℕ → Keeps → Type 0
  Here locals low keeps = Within world codes regs (at pc) acts fn fns g mine theirs beneath locals low keeps

  abbrev Met : ℕ → Point → Type 0
  Met c p = Meets world codes room flat c p (slots mine)

  abbrev Own : Op → FlatMove
  Own op = does codes cs (slice_get g.lines pc) op (at pc) acts flat

  next_is : {locals : List Local} {low : ℕ} {keeps : Keeps} → Here locals low keeps → (c : ℕ) (op : Op) → Has g pc c op → flat_moves world codes room flat ≡ FNodes c (Own op)
  next_is w c op has = acts_of.operation_at world codes room index pc base frames acts fn fns g mine theirs beneath regs top s c op (code_there world codes w) has

  -- an operation that gives nothing goes on here
  onward : {locals : List Local} {low : ℕ} {keeps : Keeps} → Here locals low keeps → (c : ℕ) (op : Op) → Has g pc c op → (mv : Move) → Own op ≡ FNow (goes_on codes [] (at pc) acts flat) → Follows world codes (FNow (landed (becomes op base pc [] regs top) (at pc) acts (erased (slots mine)))) mv
      → Follows world codes (Own op) mv
  onward w c op has mv own h =
      subst (λ (x : FlatMove). Follows world codes x mv) (sym own)
      (subst (λ (x : Flat). Follows world codes (FNow x) mv) (sym (acts_of.goes_on_at world codes room index pc base frames acts fn fns g mine theirs beneath regs top s c op (code_there world codes w) has [])) h)

  -- where two ways come together
  joins : {locals : List Local} {low c q : ℕ} {keeps : Keeps} (p : Point) → Here locals low keeps → IsJoin g c pc q → (pc ≡ q → c ≡ 0 → Met c p) → StandsFor world codes (in_code (at q) acts regs top (slots mine)) p (slots mine) → Met c p
  joins p w joined k stands = k refl refl
  joins {c} {q} p w (by_jump has) k stands = by_standing world codes room flat c p (slots mine) (Own (JumpF q)) (next_is w c (JumpF q) has) (onward w c (JumpF q) has (Now p (slots mine)) refl (follow_stands stands))
  joins {c} p w (by_pay has) k stands = by_standing world codes room flat c p (slots mine) (Own PayF) (next_is w c PayF has) (onward w c PayF has (Now p (slots mine)) refl (follow_stands stands))

  -- A TURN of a counting loop ends
  goes_on_counting : {away : Option ℕ} {locals : List Local} {low b end : ℕ} {keeps : Keeps} {fs : List SFrame} {boxed : Bool} {body : CBlock} {first_place : ℕ} (olds : List Slot) (i l st : ℤ) → Within world codes regs (at pc) acts fn fns g olds theirs beneath locals low keeps → low ≤ b → Tidy low locals keeps
      → read regs (base + (b + 1)) ≡ Number l → read regs (base + (b + 2)) ≡ Number st → IsCount cs g locals b boxed body first_place end → Resumes cs g (length theirs) beneath away locals low keeps end 0 fs → (f is : Bool) → fits (i +ℤ st) ≡ f → is_within (i +ℤ st) l st ≡ is
      → Follows world codes (FNow (landed (count_if (fits_within f is) (i +ℤ st) (base + b) first_place end regs top) (at pc) acts (erased (slots mine)))) (loops.count_next boxed i l st body fs (slots olds))
  goes_on_counting {locals} {low} {b} {keeps} {fs} {boxed} {body} {first_place} olds i l st w lb tidy el es count resumes true true ef ew =
      let n : Value = Number (i +ℤ st) in
      let ours : List Slot = put (base + b) (Plain n) regs in
      let after : List Slot = put (base + b + 3) (Plain n) ours in
      let kept : Within world codes after (at pc) acts fn fns g olds theirs beneath locals low keeps = keep_within world codes ours (base + b + 3) (Plain n) (omega (arith, lb)) (keep_within world codes regs (base + b) (Plain n) (omega (arith, lb)) w) in
      let more : Bounded (b + 4) locals keeps = bounded_more low (b + 4) locals keeps (omega (arith, lb)) tidy.bounded in
      let last : base + (b + 3) ≡ base + b + 3 = omega arith in
      let k3 : read after (base + (b + 3)) ≡ n = ap (λ (q : ℕ). read after q) last ∙ put_value (base + b + 3) n ours in
      let k0 : read after (base + b) ≡ n = put_reads (base + b + 3) (Plain n) ours (base + b) (λ (q : base + b + 3 ≡ base + b). omega (arith, q)) ∙ put_value (base + b) n regs in
      let k1 : read after (base + (b + 1)) ≡ Number l =
      put_reads (base + b + 3) (Plain n) ours (base + (b + 1)) (λ (q : base + b + 3 ≡ base + (b + 1)). omega (arith, q)) ∙ put_reads (base + b) (Plain n) regs (base + (b + 1)) (λ (q : base + b ≡ base + (b + 1)). omega (arith, q)) ∙ el in
      let k2 : read after (base + (b + 2)) ≡ Number st =
      put_reads (base + b + 3) (Plain n) ours (base + (b + 2)) (λ (q : base + b + 3 ≡ base + (b + 2)). omega (arith, q)) ∙ put_reads (base + b) (Plain n) regs (base + (b + 2)) (λ (q : base + b ≡ base + (b + 2)). omega (arith, q)) ∙ es in
      let here : Within world codes after (at pc) acts fn fns g olds theirs beneath locals (b + 4) ((RegisterO (b + 3), n) ∷ (RegisterO b, n) ∷ (RegisterO (b + 1), Number l) ∷ (RegisterO (b + 2), Number st) ∷ keeps) =
      with_keeps world codes (k3, (k0, (k1, (k2, kept_there world codes kept)))) (record { locals_below = more.locals_below; keeps_below = (omega arith, (omega arith, (omega arith, (omega arith, more.keeps_below)))) }) (let q = count.room in omega (arith, q)) kept in
      subst (λ (x : Bool). Follows world codes (FNow (in_code (at first_place) acts after top (slots olds))) (choose x (loops.count_from boxed (i +ℤ st) l st body fs (slots olds)) (gives [] fs (slots olds)))) (sym ef)
      (subst (λ (x : Bool). Follows world codes (FNow (in_code (at first_place) acts after top (slots olds))) (choose x (Now (Starts (CountTurnS boxed (i +ℤ st) l st body) fs) (slots olds)) (gives [] fs (slots olds)))) (sym ew)
      (follow_stands (at_count {mine = olds} s (moved world codes first_place here) lb tidy count resumes)))
  goes_on_counting {end} {fs} {boxed} {body} olds i l st w lb tidy el es count resumes true false ef ew =
      subst (λ (x : Bool). Follows world codes (FNow (in_code (at end) acts regs top (slots olds))) (choose x (loops.count_from boxed (i +ℤ st) l st body fs (slots olds)) (gives [] fs (slots olds)))) (sym ef)
      (subst (λ (x : Bool). Follows world codes (FNow (in_code (at end) acts regs top (slots olds))) (choose x (Now (Starts (CountTurnS boxed (i +ℤ st) l st body) fs) (slots olds)) (gives [] fs (slots olds)))) (sym ew)
      (follow_stands (at_end_of_statement {mine = olds} s (moved world codes end w) resumes)))
  goes_on_counting {end} {fs} {boxed} {body} olds i l st w lb tidy el es count resumes false is ef ew =
      subst (λ (x : Bool). Follows world codes (FNow (in_code (at end) acts regs top (slots olds))) (choose x (loops.count_from boxed (i +ℤ st) l st body fs (slots olds)) (gives [] fs (slots olds)))) (sym ef)
      (follow_stands (at_end_of_statement {mine = olds} s (moved world codes end w) resumes))

  -- the three registers of a counting loop
  counts_here : (b target : ℕ) (i l st : ℤ) → read regs (base + b) ≡ Number i → read regs (base + b + 1) ≡ Number l → read regs (base + b + 2) ≡ Number st
      → becomes (CountGoesOnF b target) base pc [] regs top ≡ counts_on i l st (base + b) pc target regs top
  counts_here b target i l st e0 e1 e2 =
      ap (λ (v : Value). counts_on (whole v) (whole (read regs (base + b + 1))) (whole (read regs (base + b + 2))) (base + b) pc target regs top) e0
      ∙ ap (λ (v : Value). counts_on i (whole v) (whole (read regs (base + b + 2))) (base + b) pc target regs top) e1 ∙ ap (λ (v : Value). counts_on i l (whole v) (base + b) pc target regs top) e2

  -- THE ITERATOR is called
  calls_iterator : {locals : List Local} {low b line : ℕ} {keeps : Keeps} {n : ℕ} {fs : List SFrame} (olds : List Slot) → Within world codes regs (at pc) acts fn fns g olds theirs beneath locals low keeps → low ≤ b + 3 → HasAt g pc 0 line (EachCallsF b n)
      → StatExact cs g (length theirs) beneath locals low keeps (pc + 1) 0 (b + 3) n fs → (f state before : Value) → read regs (base + b) ≡ f → read regs (base + b + 1) ≡ state → read regs (base + b + 2) ≡ before
      → Follows world codes (Own (EachCallsF b n)) (calls.call f (state ∷ before ∷ []) (Some line) fs (slots olds))
  calls_iterator {b} {line} {n} {fs} olds w l h k f state before e0 e1 e2 =
      let goal : Move = calls.call f (state ∷ before ∷ []) (Some line) fs (slots olds) in
      let there : Flat = in_code (at pc) acts regs top (slots olds) in
      subst (λ (x : Option ℕ). Follows world codes (settled codes (calls.call (read regs (base + b)) (read regs (base + b + 1) ∷ read regs (base + b + 2) ∷ []) x [] (erased (slots olds))) there) goal) (sym h.1)
      (subst (λ (x : Value). Follows world codes (settled codes (calls.call x (read regs (base + b + 1) ∷ read regs (base + b + 2) ∷ []) (Some line) [] (erased (slots olds))) there) goal) (sym e0)
      (subst (λ (x : Value). Follows world codes (settled codes (calls.call f (x ∷ read regs (base + b + 2) ∷ []) (Some line) [] (erased (slots olds))) there) goal) (sym e1)
      (subst (λ (x : Value). Follows world codes (settled codes (calls.call f (state ∷ x ∷ []) (Some line) [] (erased (slots olds))) there) goal) (sym e2)
      (comes_of.acts_by world codes room index pc base frames acts fn fns g olds theirs beneath regs top (await_each l h.0 k) w (like.call [] fs [] tt f (state ∷ before ∷ []) (Some line) (slots olds)) s))))

  -- its results are looked at
  looks : {away : Option ℕ} {locals : List Local} {low b line first_place end : ℕ} {keeps : Keeps} {fs : List SFrame} {flags : List Bool} {body : CBlock} (f state : Value) (vs : List Value) → Here locals low keeps → Tidy low locals keeps → low ≤ b → read regs (base + b) ≡ f → read regs (base + (b + 1)) ≡ state
      → values_at regs (base + b + 3) (length flags) ≡ adjusted (length flags) vs → pc ≡ first_place + 1 → IsEach cs g locals b flags body line first_place end → Resumes cs g (length theirs) beneath away locals low keeps end 0 fs → (is : Bool) → is_nil (first vs) ≡ is
      → Follows world codes (FNow (landed (each_if is (base + b) pc end regs top) (at pc) acts (erased (slots mine)))) (loops.each_next flags f state vs body line fs (slots mine))
  looks {line} {end} {fs} {flags} {body} f state vs w tidy l e0 e1 ev pe each resumes true is =
      subst (λ (x : Bool). Follows world codes (FNow (in_code (at end) acts regs top (slots mine))) (choose x (gives [] fs (slots mine)) (Now (Starts (EachTurnS flags f state vs body line) fs) (slots mine)))) (sym is)
      (follow_stands (at_end_of_statement s (moved world codes end w) resumes))
  looks {locals} {low} {b} {line} {first_place} {keeps} {fs} {flags} {body} f state vs w tidy l e0 e1 ev pe each resumes false is =
      let v : Value = read regs (base + b + 3) in
      let q : ℕ = base + b + 2 in
      let after : List Slot = put q (Plain v) regs in
      let kept : Within world codes after (at pc) acts fn fns g mine theirs beneath locals low keeps = keep_within world codes regs q (Plain v) (omega (arith, l)) w in
      let more : Bounded (b + 3) locals keeps = bounded_more low (b + 3) locals keeps (omega (arith, l)) tidy.bounded in
      let second : base + (b + 2) ≡ q = omega arith in
      let some : 1 ≤ length flags = each.some in
      let k0 : read after (base + b) ≡ f = put_reads q (Plain v) regs (base + b) (λ (k : q ≡ base + b). omega (arith, k)) ∙ e0 in
      let k1 : read after (base + (b + 1)) ≡ state = put_reads q (Plain v) regs (base + (b + 1)) (λ (k : q ≡ base + (b + 1)). omega (arith, k)) ∙ e1 in
      let k2 : read after (base + (b + 2)) ≡ first vs = ap (λ (n : ℕ). read after n) second ∙ put_value q v regs ∙ first_result (length flags) (base + b + 3) regs vs some ev in
      let low_room : b + 3 ≤ g.registers = let n = each.room in omega (arith, n) in
      let here : Within world codes after (at pc) acts fn fns g mine theirs beneath locals (b + 3) ((RegisterO b, f) ∷ (RegisterO (b + 1), state) ∷ (RegisterO (b + 2), first vs) ∷ keeps) =
      with_keeps world codes (k0, (k1, (k2, kept_there world codes kept))) (record { locals_below = more.locals_below; keeps_below = (omega arith, (omega arith, (omega arith, more.keeps_below))) }) low_room kept in
      let place_is : pc + 1 ≡ first_place + 2 = omega (arith, pe) in
      subst (λ (x : Bool). Follows world codes (FNow (in_code (at (pc + 1)) acts after top (slots mine))) (choose x (gives [] fs (slots mine)) (Now (Starts (EachTurnS flags f state vs body line) fs) (slots mine)))) (sym is)
      (follow_stands (at_each s (moved world codes (pc + 1) here) (values_kept (length flags) q (base + b + 3) (Plain v) regs (omega arith) ∙ ev) l tidy place_is each resumes))

  -- THE END OF A TURN
  pub turn_ends : {away : Option ℕ} {locals : List Local} {low c : ℕ} {keeps : Keeps} {fs : List SFrame} (vs : List Value) → (k : Finishes cs g (length theirs) beneath away locals low keeps pc c fs) → Here locals low keeps → IsTurnEnd k → Met c (Gives (Goes vs) fs)
  turn_ends vs (finish_block inner e l tidy r) w i = absurd i
  turn_ends vs (finish_repeat inner e l tidy loop test r) w i = absurd i
  turn_ends {c} vs (finish_body has) w i = returns_of.end_returns world codes room index pc base frames acts fn fns g mine theirs beneath regs top s c vs w has
  turn_ends {c} vs (finish_while {locals} inner {d} {top = place} {test} {body} {fs} e l tidy loop has r) w i =
      let k = cuts world codes inner locals w e l tidy.bounded in
      by_operation world codes room flat c (Gives (Goes vs) (WhileEnd d test body ∷ fs)) (slots mine) (Own (JumpF place)) (next_is w c (JumpF place) has)
      (onward w c (JumpF place) has (Now (Evals test (WhileTest test body ∷ fs)) (cut d (slots mine))) refl
      (subst (λ (zs : List Slot). Follows world codes (FNow (in_code (at place) acts regs top (slots mine))) (Now (Evals test (WhileTest test body ∷ fs)) (in_tree zs (fn ∷ fns) s))) (sym k.is)
      (follow_stands (at_test {mine = k.olds} s (moved world codes place k.stays) (omega arith) loop.tests (take_stat (take_while tidy loop r))))))
  turn_ends {low} {c} vs (finish_count {locals} inner {low'} {d} {keeps} {base = b} {top = place} {end} {boxed} {index = n} {limit} {step} {body} {fs} e l1 l2 tidy count has ends r) w i =
      let bound = bounded_there world codes w in
      let only : Here (inner ++ locals) low keeps = with_keeps world codes (kept_there world codes w).1.1.1 (record { locals_below = bound.locals_below; keeps_below = bound.keeps_below.1.1.1 }) (room_there world codes w) w in
      let k = cuts world codes inner locals only e (omega (arith, l1, l2)) tidy.bounded in
      let second_place : base + b + 1 ≡ base + (b + 1) = omega arith in
      let third_place : base + b + 2 ≡ base + (b + 2) = omega arith in
      let el : read regs (base + (b + 1)) ≡ Number limit = (kept_there world codes w).1.0 in
      let es : read regs (base + (b + 2)) ≡ Number step = (kept_there world codes w).1.1.0 in
      by_operation world codes room flat c (Gives (Goes vs) (CountEnd d boxed n limit step body ∷ fs)) (slots mine) (Own (CountGoesOnF b place)) (next_is w c (CountGoesOnF b place) has)
      (onward w c (CountGoesOnF b place) has (loops.count_next boxed n limit step body fs (cut d (slots mine))) refl
      (subst (λ (x : Landing). Follows world codes (FNow (landed x (at pc) acts (erased (slots mine)))) (loops.count_next boxed n limit step body fs (cut d (slots mine))))
      (sym (counts_here b place n limit step (kept_there world codes w).0 (ap (λ (q : ℕ). read regs q) second_place ∙ el) (ap (λ (q : ℕ). read regs q) third_place ∙ es)))
      (subst (λ (zs : List Slot). Follows world codes (FNow (landed (counts_on n limit step (base + b) pc place regs top) (at pc) acts (erased (slots mine)))) (loops.count_next boxed n limit step body fs (in_tree zs (fn ∷ fns) s))) (sym k.is)
      (subst (λ (q : ℕ). Follows world codes (FNow (landed (count_if (fits_within (fits (n +ℤ step)) (is_within (n +ℤ step) limit step)) (n +ℤ step) (base + b) place q regs top) (at pc) acts (erased (slots mine)))) (loops.count_next boxed n limit step body fs (slots k.olds))) ends
      (goes_on_counting k.olds n limit step k.stays l1 tidy el es count r (fits (n +ℤ step)) (is_within (n +ℤ step) limit step) refl refl)))))
  turn_ends {c} vs (finish_each inner {d} {line} {top = place} {flags} {f} {state} {before} {body} {fs} e l1 l2 tidy each has r) w i =
      by_standing world codes room flat c (Gives (Goes vs) (EachEnd d flags f state before body line ∷ fs)) (slots mine) (Own (JumpF place)) (next_is w c (JumpF place) has)
      (onward w c (JumpF place) has (Now (Gives (Goes vs) (EachEnd d flags f state before body line ∷ fs)) (slots mine)) refl
      (follow_stands (at_end_of_block s (moved world codes place w) (finish_each_top inner e l1 l2 tidy each r))))
  turn_ends {low} vs (finish_each_top {locals} inner {low'} {d} {keeps} {base = b} {line} {flags} {f} {state} {before} {body} {fs} e l1 l2 tidy each r) w i =
      let bound = bounded_there world codes w in
      let only : Here (inner ++ locals) low ((RegisterO b, f) ∷ (RegisterO (b + 1), state) ∷ keeps) =
      with_keeps world codes ((kept_there world codes w).0, ((kept_there world codes w).1.0, (kept_there world codes w).1.1.1))
      (record { locals_below = bound.locals_below; keeps_below = (bound.keeps_below.0, (bound.keeps_below.1.0, bound.keeps_below.1.1.1)) }) (room_there world codes w) w in
      let more : Bounded (b + 3) locals keeps = bounded_more low' (b + 3) locals keeps (omega (arith, l1)) tidy.bounded in
      let both : Bounded (b + 3) locals ((RegisterO b, f) ∷ (RegisterO (b + 1), state) ∷ keeps) = record { locals_below = more.locals_below; keeps_below = (omega arith, (omega arith, more.keeps_below)) } in
      let k = cuts world codes inner locals only e l2 both in
      let second_place : base + b + 1 ≡ base + (b + 1) = omega arith in
      let third_place : base + b + 2 ≡ base + (b + 2) = omega arith in
      by_operation world codes room flat 0 (Gives (Goes vs) (EachEnd d flags f state before body line ∷ fs)) (slots mine) (Own (EachCallsF b (length flags))) (next_is w 0 (EachCallsF b (length flags)) each.calls.0)
      (subst (λ (zs : List Slot). Follows world codes (Own (EachCallsF b (length flags))) (calls.call f (state ∷ before ∷ []) (Some line) (EachNext flags f state body line ∷ fs) (in_tree zs (fn ∷ fns) s))) (sym k.is)
      (calls_iterator k.olds k.stays (omega arith) each.calls (exact_next l1 (omega arith) tidy each refl r) f state before (kept_there world codes w).0
      (ap (λ (q : ℕ). read regs q) second_place ∙ (kept_there world codes w).1.0) (ap (λ (q : ℕ). read regs q) third_place ∙ (kept_there world codes w).1.1.0)))

  -- THE THREE VALUES of a generic loop are there, and results of its iterator
  called_first : {away : Option ℕ} {locals : List Local} {low b line place end : ℕ} {keeps : Keeps} {fs : List SFrame} {flags : List Bool} {body : CBlock} (vs : List Value) → Here locals low keeps → Tidy low locals keeps → low ≤ b → values_at regs (base + b) 3 ≡ adjusted 3 vs
      → IsEach cs g locals b flags body line place end → Resumes cs g (length theirs) beneath away locals low keeps end 0 fs → pc ≡ place → Met 0 (Gives (Goes vs) (EachValues flags body line ∷ fs))
  called_first {locals} {low} {b} {line} {keeps} {fs} {flags} {body} vs w tidy l ev each r here_is =
      let f : Value = first vs in
      let state : Value = second vs in
      let before : Value = third vs in
      let second_place : base + b + 1 ≡ base + (b + 1) = omega arith in
      let third_place : base + b + 1 + 1 ≡ base + b + 2 = omega arith in
      let e0 : read regs (base + b) ≡ f = ap first ev in
      let e1 : read regs (base + b + 1) ≡ state = ap (λ (xs : List Value). first (rest xs)) ev in
      let e2 : read regs (base + b + 1 + 1) ≡ before = ap (λ (xs : List Value). first (rest (rest xs))) ev in
      let more : Bounded (b + 3) locals keeps = bounded_more low (b + 3) locals keeps (omega (arith, l)) tidy.bounded in
      let low_room : b + 3 ≤ g.registers = let some = each.some in let n = each.room in omega (arith, some, n) in
      let here : Here locals (b + 3) ((RegisterO b, f) ∷ (RegisterO (b + 1), state) ∷ keeps) =
      with_keeps world codes (e0, (ap (λ (n : ℕ). read regs n) (sym second_place) ∙ e1, kept_there world codes w)) (record { locals_below = more.locals_below; keeps_below = (omega arith, (omega arith, more.keeps_below)) }) low_room w in
      let h : HasAt g pc 0 line (EachCallsF b (length flags)) = subst (λ (q : ℕ). HasAt g q 0 line (EachCallsF b (length flags))) (sym here_is) each.calls in
      by_operation world codes room flat 0 (Gives (Goes vs) (EachValues flags body line ∷ fs)) (slots mine) (Own (EachCallsF b (length flags))) (next_is w 0 (EachCallsF b (length flags)) h.0)
      (calls_iterator mine here (omega arith) h (exact_next l (omega arith) tidy each (ap (λ (q : ℕ). q + 1) here_is) r) f state before e0 e1 (ap (λ (n : ℕ). read regs n) (sym third_place) ∙ e2))

  pub results_given : {locals : List Local} {low c r n : ℕ} {keeps : Keeps} {fs : List SFrame} (vs : List Value) → (k : StatExact cs g (length theirs) beneath locals low keeps pc c r n fs) → Here locals low keeps → values_at regs (base + r) n ≡ adjusted n vs → IsEachList k → Met c (Gives (Goes vs) fs)
  results_given vs (exact_declare l l2 tidy left opening code f) w ev i = absurd i
  results_given vs (exact_assign l l2 l3 tidy above found sets r) w ev i = absurd i
  results_given vs (exact_each {line} {top = place} {flags} {body} {fs} l tidy join each r) w ev i =
      joins (Gives (Goes vs) (EachValues flags body line ∷ fs)) w join (λ e z. subst (λ (m : ℕ). Met m (Gives (Goes vs) (EachValues flags body line ∷ fs))) (sym z) (called_first vs w tidy l ev each r e)) (at_exact s (moved world codes place w) ev (exact_each l tidy joined each r))
  results_given vs (exact_next {locals} {low'} {keeps} {base = b} {line} {end} {f} {state} {flags} {body} {fs} l1 l2 tidy each pe r) w ev i =
      let n = room_there world codes w in
      let here : Here locals low' keeps = with_keeps world codes (kept_there world codes w).1.1 tidy.bounded (omega (arith, l1, l2, n)) w in
      let place_is : base + b + 3 ≡ base + (b + 3) = omega arith in
      let values_are : values_at regs (base + b + 3) (length flags) ≡ adjusted (length flags) vs = ap (λ (q : ℕ). values_at regs q (length flags)) place_is ∙ ev in
      let has : Has g pc 0 (EachTestsF b end) = subst (λ (q : ℕ). Has g q 0 (EachTestsF b end)) (sym pe) each.tests in
      by_operation world codes room flat 0 (Gives (Goes vs) (EachNext flags f state body line ∷ fs)) (slots mine) (Own (EachTestsF b end)) (next_is w 0 (EachTestsF b end) has)
      (onward w 0 (EachTestsF b end) has (loops.each_next flags f state vs body line fs (slots mine)) refl
      (subst (λ (v : Value). Follows world codes (FNow (landed (each_if (is_nil v) (base + b) pc end regs top) (at pc) acts (erased (slots mine)))) (loops.each_next flags f state vs body line fs (slots mine))) (sym (first_result (length flags) (base + b + 3) regs vs each.some values_are))
      (looks f state vs here tidy l1 (kept_there world codes w).0 (kept_there world codes w).1.0 values_are pe each r (is_nil (first vs)) refl)))

  pub ended : {away : Option ℕ} {locals : List Local} {low : ℕ} {keeps : Keeps} {fs : List SFrame} (vs : List Value) → (k : Finishes cs g (length theirs) beneath away locals low keeps pc 0 fs) → Here locals low keeps → IsTurnEnd k
      → Follows world codes (flat_moves world codes room flat) (Now (Gives (Goes vs) fs) (slots mine))
  ended {fs} vs k w i = whole_move world codes room flat (Gives (Goes vs) fs) (slots mine) (turn_ends vs k w i)

  pub resulted : {locals : List Local} {low r n : ℕ} {keeps : Keeps} {fs : List SFrame} (vs : List Value) → (k : StatExact cs g (length theirs) beneath locals low keeps pc 0 r n fs) → Here locals low keeps → values_at regs (base + r) n ≡ adjusted n vs → IsEachList k
      → Follows world codes (flat_moves world codes room flat) (Now (Gives (Goes vs) fs) (slots mine))
  resulted {fs} vs k w ev i = whole_move world codes room flat (Gives (Goes vs) fs) (slots mine) (results_given vs k w ev i)

pub turns_are_moves : TurnsAreMoves
turns_are_moves world codes room f p s (ends_turn {a} {acts} {fn} {fns} {g} {mine} {theirs} {regs} {beneath} {top} {vs} t w k i) =
    ended world codes room a.index a.pc a.base a.frames acts fn fns g mine theirs beneath regs top t vs k w i
turns_are_moves world codes room f p s (has_results {a} {acts} {fn} {fns} {g} {mine} {theirs} {regs} {beneath} {top} {vs} t w ev k i) =
    resulted world codes room a.index a.pc a.base a.frames acts fn fns g mine theirs beneath regs top t vs k w ev i
