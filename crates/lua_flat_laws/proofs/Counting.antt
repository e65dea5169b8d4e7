-- COUNTING LOOPS: the operations that begin one and go on with it.
use Rattle.std.proofs.Common.{◌≡◌, ℕ, ◌+◌, ◌≤◌, ◌∙◌, Bool, true, false, List, [], ◌∷◌, ◌++◌, Option, Some, None, refl, sym, ap, subst, arith}
use Rattle.std.specs.Prelude.{ℤ, length, slice_get}
use Rattle.lua_goes.specs.PageRunOutcome.{Jumps}
use Rattle.lua_goes.specs.LuaHeapValue.{Value, Number, Text}
use Rattle.lua_flat.specs.LuaMeaningScope.{Bytes, Levels, Place as TextPlace}
use Rattle.lua_goes.specs.LuaMeaningValues.{number_in}
use Rattle.lua_goes.specs.LuaMeaningActs.{Raised}
use Rattle.lua_flat.specs.LuaMeaningLoops.{is_within}
use Rattle.lua_flat.specs.LuaMeaningMessages.{place_text, nth_level, no_initial_value, no_limit, no_step}
use Rattle.lua_goes.specs.LuaSlotsCode.{Constants, CBlock, CWorld}
use Rattle.lua_goes.specs.LuaSlotsSlots.{Slot, Plain, Activation, Slots, levels_at}
use Rattle.lua_goes.specs.LuaSlotsPoints.{SFrame, CountTurnS, Gives, Starts, Move, Now}
use Rattle.lua_goes.specs.LuaSlotsErrors as errors
use Rattle.lua_goes.specs.LuaSlotsErrors.{choose, gives}
use Rattle.lua_goes.specs.LuaSlotsLoops as loops
use Rattle.lua_flat.specs.Locals.{Local}
use Rattle.lua_flat.specs.Operations.{RegisterO, CountBeginsF, FlatFunction, Codes}
use Rattle.lua_flat.specs.Registers.{read, put, put_values}
use Rattle.lua_flat.specs.Does.{counted, count_if}
use Rattle.lua_flat.specs.Flat.{Act, Flat, FNow}
use Rattle.lua_flat.specs.Moves.{landed, settled, does}
use Rattle.lua_flat.specs.IsExpression.{Has, HasAt}
use Rattle.lua_flat.specs.Keeps.{Keeps, Bounded, Tidy}
use Rattle.lua_flat.specs.WaitsStatement.{IsCount, Resumes}
use Rattle.lua_flat.specs.Stands.{erased, in_tree, in_code, constants_in, Within, at_count, at_end_of_statement}
use Rattle.lua_flat_laws.specs.Follows.{Follows, follow_costs, follow_free, follow_stands}
use Rattle.lua_flat_laws.proofs.Likewise.{levels_same}
use Rattle.lua_flat_laws.proofs.Kept.{put_value, put_reads, keep_within, moved, with_keeps, code_there, depth_there, kept_there, bounded_there, callers_there, bounded_more}
use Rattle.lua_flat_laws.proofs.Unwinds.{unwind_resumes}
use Rattle.lua_flat_laws.proofs.Rows.{keep_values}
use Rattle.lua_flat_laws.proofs.Acts as acts_of

module _ (world : CWorld) (codes : Codes) (room : ℕ) (index pc base : ℕ) (frames : List SFrame) (acts : List Act) (fn : Activation) (fns : List Activation) (g : FlatFunction) (mine theirs : List Slot) (beneath : List SFrame) (regs : List Slot) (top : ℕ) (s : Slots) where
  abbrev act : Act
  act = record { index = index; pc = pc; base = base; frames = frames }

  abbrev cs : Constants
  cs = constants_in world fn.source

  abbrev tree : Slots
  tree = in_tree (mine ++ theirs) (fn ∷ fns) s

  abbrev flat : Flat
  flat = in_code act acts regs top tree

  abbrev Here : List Local → ℕ → Keeps → Type 0
  Here locals low keeps = Within world codes regs act acts fn fns g mine theirs beneath locals low keeps

  abbrev Resuming : Option ℕ → List Local → ℕ → Keeps → ℕ → List SFrame → Type 0
  Resuming away locals low keeps end fs = Resumes cs g (length theirs) beneath away locals low keeps end 0 fs

  -- AN ERROR at this line
  raises_here : {away : Option ℕ} {locals : List Local} {low low' end : ℕ} {keeps keeps' : Keeps} {fs : List SFrame} → Here locals low' keeps' → Resuming away locals low keeps end fs → (p : Option TextPlace) (text : Bytes)
      → Follows world codes (settled codes (errors.raises p text [] (erased tree)) flat) (errors.raises p text fs tree)
  raises_here {fs} w r None text =
      follow_free (Gives (Jumps (Raised (Text text))) fs) tree (unwind_resumes world codes cs g top theirs fn s (Text text) (depth_there world codes w) (callers_there world codes w) r mine)
  raises_here {fs} w r (Some p) text =
      let v : Value = Text (place_text p ++ text) in
      follow_costs (follow_free (Gives (Jumps (Raised v)) fs) tree (unwind_resumes world codes cs g top theirs fn s v (depth_there world codes w) (callers_there world codes w) r mine))

  pub fails_here : {away : Option ℕ} {locals : List Local} {low low' end : ℕ} {keeps keeps' : Keeps} {fs : List SFrame} → Here locals low' keeps' → Resuming away locals low keeps end fs → (line : Option ℕ) (text : Bytes)
      → Follows world codes (settled codes (errors.fails line text [] (erased tree)) flat) (errors.fails line text fs tree)
  fails_here {fs} w r line text =
      subst (λ (l : Levels). Follows world codes (settled codes (errors.raises (nth_level l 1) text [] (erased tree)) flat) (errors.fails line text fs tree)) (sym (levels_same (fn ∷ fns) line))
      (raises_here w r (nth_level (levels_at (fn ∷ fns) line) 1) text)

  -- three numbers are in their registers, and the next index is too where the loop goes on
  abbrev three : ℕ → ℤ → ℤ → ℤ → List Slot
  three b i l st = put_values (base + b) (Number i ∷ Number l ∷ Number st ∷ []) regs

  count_turns : {away : Option ℕ} {locals : List Local} {low b end : ℕ} {keeps : Keeps} {fs : List SFrame} {boxed : Bool} {body : CBlock} (i l st : ℤ) → Here locals low keeps → low ≤ b → Tidy low locals keeps → IsCount cs g locals b boxed body (pc + 1) end → Resuming away locals low keeps end fs
      → (is : Bool) → is_within i l st ≡ is → Follows world codes (FNow (landed (count_if is i (base + b) (pc + 1) end (three b i l st) top) act acts (erased tree))) (loops.count_from boxed i l st body fs tree)
  count_turns {locals} {low} {b} {end} {keeps} {fs} {boxed} {body} i l st w lb tidy count resumes true is =
      let ours : List Slot = three b i l st in
      let after : List Slot = put (base + b + 3) (Plain (Number i)) (put (base + b) (Plain (Number i)) ours) in
      let far : base + low ≤ base + b = omega (arith, lb) in
      let kept : Within world codes after act acts fn fns g mine theirs beneath locals low keeps =
      keep_within world codes (put (base + b) (Plain (Number i)) ours) (base + b + 3) (Plain (Number i)) (omega (arith, lb)) (keep_within world codes ours (base + b) (Plain (Number i)) far (keep_values world codes (Number i ∷ Number l ∷ Number st ∷ []) regs (base + b) far w)) in
      let more : Bounded (b + 4) locals keeps = bounded_more low (b + 4) locals keeps (omega (arith, lb)) (bounded_there world codes w) in
      let last : base + (b + 3) ≡ base + b + 3 = omega arith in
      let second : base + (b + 1) ≡ base + b + 1 = omega arith in
      let third : base + (b + 2) ≡ base + b + 1 + 1 = omega arith in
      let k3 : read after (base + (b + 3)) ≡ Number i = ap (λ (n : ℕ). read after n) last ∙ put_value (base + b + 3) (Number i) (put (base + b) (Plain (Number i)) ours) in
      let k0 : read after (base + b) ≡ Number i = put_reads (base + b + 3) (Plain (Number i)) (put (base + b) (Plain (Number i)) ours) (base + b) (λ (q : base + b + 3 ≡ base + b). omega (arith, q)) ∙ put_value (base + b) (Number i) ours in
      let k1 : read after (base + (b + 1)) ≡ Number l =
      ap (λ (n : ℕ). read after n) second ∙ put_reads (base + b + 3) (Plain (Number i)) (put (base + b) (Plain (Number i)) ours) (base + b + 1) (λ (q : base + b + 3 ≡ base + b + 1). omega (arith, q))
      ∙ put_reads (base + b) (Plain (Number i)) ours (base + b + 1) (λ (q : base + b ≡ base + b + 1). omega (arith, q))
      ∙ put_reads (base + b + 1 + 1) (Plain (Number st)) (put (base + b + 1) (Plain (Number l)) (put (base + b) (Plain (Number i)) regs)) (base + b + 1) (λ (q : base + b + 1 + 1 ≡ base + b + 1). omega (arith, q))
      ∙ put_value (base + b + 1) (Number l) (put (base + b) (Plain (Number i)) regs) in
      let k2 : read after (base + (b + 2)) ≡ Number st =
      ap (λ (n : ℕ). read after n) third ∙ put_reads (base + b + 3) (Plain (Number i)) (put (base + b) (Plain (Number i)) ours) (base + b + 1 + 1) (λ (q : base + b + 3 ≡ base + b + 1 + 1). omega (arith, q))
      ∙ put_reads (base + b) (Plain (Number i)) ours (base + b + 1 + 1) (λ (q : base + b ≡ base + b + 1 + 1). omega (arith, q)) ∙ put_value (base + b + 1 + 1) (Number st) (put (base + b + 1) (Plain (Number l)) (put (base + b) (Plain (Number i)) regs)) in
      let here : Within world codes after act acts fn fns g mine theirs beneath locals (b + 4) ((RegisterO (b + 3), Number i) ∷ (RegisterO b, Number i) ∷ (RegisterO (b + 1), Number l) ∷ (RegisterO (b + 2), Number st) ∷ keeps) =
      with_keeps world codes (k3, (k0, (k1, (k2, kept_there world codes kept)))) (record { locals_below = more.locals_below; keeps_below = (omega arith, (omega arith, (omega arith, (omega arith, more.keeps_below)))) }) (let q = count.room in omega (arith, q)) kept in
      subst (λ (x : Bool). Follows world codes (FNow (landed (count_if true i (base + b) (pc + 1) end (three b i l st) top) act acts (erased tree))) (choose x (Now (Starts (CountTurnS boxed i l st body) fs) tree) (gives [] fs tree))) (sym is)
      (follow_stands (at_count s (moved world codes (pc + 1) here) lb tidy count resumes))
  count_turns {low} {b} {end} {fs} {boxed} {body} i l st w lb tidy count resumes false is =
      subst (λ (x : Bool). Follows world codes (FNow (landed (count_if false i (base + b) (pc + 1) end (three b i l st) top) act acts (erased tree))) (choose x (Now (Starts (CountTurnS boxed i l st body) fs) tree) (gives [] fs tree))) (sym is)
      (follow_stands (at_end_of_statement s (moved world codes end (keep_values world codes (Number i ∷ Number l ∷ Number st ∷ []) regs (base + b) (omega (arith, lb)) w)) resumes))

  -- by what is in the three registers: numbers, or an error
  counted_here : {away : Option ℕ} {locals : List Local} {low b c end : ℕ} {keeps : Keeps} {fs : List SFrame} {boxed : Bool} {body : CBlock} (line : ℕ) (i l st : Option ℤ) → Here locals low keeps → low ≤ b → Tidy low locals keeps → Has g pc c (CountBeginsF b end) → IsCount cs g locals b boxed body (pc + 1) end
      → Resuming away locals low keeps end fs → Follows world codes (settled codes (counted i l st (Some line) (erased tree)) flat) (loops.counts boxed i l st body line fs tree)
  counted_here {b} {c} {end} {fs} {boxed} {body} line (Some i) (Some l) (Some st) w lb tidy has count resumes =
      subst (λ (x : Flat). Follows world codes (FNow x) (loops.count_from boxed i l st body fs tree))
      (sym (acts_of.goes_on_at world codes room index pc base frames acts fn fns g mine theirs beneath regs top s c (CountBeginsF b end) (code_there world codes w) has (Number i ∷ Number l ∷ Number st ∷ [])))
      (count_turns i l st w lb tidy count resumes (is_within i l st) refl)
  counted_here line (Some i) (Some l) None w lb tidy has count resumes = fails_here w resumes (Some line) no_step
  counted_here line (Some i) None st w lb tidy has count resumes = fails_here w resumes (Some line) no_limit
  counted_here line None l st w lb tidy has count resumes = fails_here w resumes (Some line) no_initial_value

  pub count_begins : {away : Option ℕ} {locals : List Local} {low b c line end : ℕ} {keeps : Keeps} {fs : List SFrame} {boxed : Bool} {body : CBlock} → Here locals low keeps → low ≤ b → Tidy low locals keeps → HasAt g pc c line (CountBeginsF b end) → IsCount cs g locals b boxed body (pc + 1) end
      → Resuming away locals low keeps end fs → (from to by : Value) → read regs (base + b) ≡ from → read regs (base + (b + 1)) ≡ to → read regs (base + (b + 2)) ≡ by
      → Follows world codes (does codes cs (slice_get g.lines pc) (CountBeginsF b end) act acts flat) (loops.counting boxed from to by body line fs tree)
  count_begins {b} {line} {end} {fs} {boxed} {body} w lb tidy h count resumes from to by ef et eb =
      let goal : Move = loops.counting boxed from to by body line fs tree in
      let second : base + b + 1 ≡ base + (b + 1) = omega arith in
      let third : base + b + 2 ≡ base + (b + 2) = omega arith in
      let et' : read regs (base + b + 1) ≡ to = ap (λ (n : ℕ). read regs n) second ∙ et in
      let eb' : read regs (base + b + 2) ≡ by = ap (λ (n : ℕ). read regs n) third ∙ eb in
      subst (λ (x : Option ℕ). Follows world codes (settled codes (counted (number_in (read regs (base + b))) (number_in (read regs (base + b + 1))) (number_in (read regs (base + b + 2))) x (erased tree)) flat) goal) (sym h.1)
      (subst (λ (x : Value). Follows world codes (settled codes (counted (number_in x) (number_in (read regs (base + b + 1))) (number_in (read regs (base + b + 2))) (Some line) (erased tree)) flat) goal) (sym ef)
      (subst (λ (x : Value). Follows world codes (settled codes (counted (number_in from) (number_in x) (number_in (read regs (base + b + 2))) (Some line) (erased tree)) flat) goal) (sym et')
      (subst (λ (x : Value). Follows world codes (settled codes (counted (number_in from) (number_in to) (number_in x) (Some line) (erased tree)) flat) goal) (sym eb')
      (counted_here line (number_in from) (number_in to) (number_in by) w lb tidy h.0 count resumes))))
