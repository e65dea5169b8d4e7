-- WHERE A VALUE IS GIVEN to a frame of a statement.
use Rattle.std.proofs.Common.{◌≡◌, ℕ, ◌+◌, ◌≤◌, ◌<◌, ◌∙◌, Bool, false, List, [], ◌∷◌, ◌++◌, Option, Some, None, refl, sym, subst, arith}
use Rattle.std.specs.Prelude.{pos, length, slice_get}
use Rattle.lua_goes.specs.PageRunOutcome.{Goes}
use Rattle.lua_goes.specs.LuaHeapValue.{Value, Number}
use Rattle.lua_goes.specs.LuaMeaningValues.{first}
use Rattle.lua_goes.specs.LuaSlotsCode.{Constants, CExp, NoC, MoreC, CBlock, CWorld}
use Rattle.lua_goes.specs.LuaSlotsSlots.{Slot, Plain, Activation, Slots}
use Rattle.lua_goes.specs.LuaSlotsPoints.{STarget, EntryS, SFrame, MoreNext, AssignNow, TargetKey, TargetNow, CountFrom, CountTo, CountBy, Point, Gives, Evals, Lists, Finds, Sets, Now}
use Rattle.lua_flat.specs.Locals.{Local}
use Rattle.lua_flat.specs.Operations.{Operand, RegisterO, ConstantO, Op, LoadF, CountBeginsF, SetIndexF, FlatFunction, Codes}
use Rattle.lua_flat.specs.Registers.{read, put, operand}
use Rattle.lua_flat.specs.Flat.{Act, Flat, FNodes, FNow}
use Rattle.lua_flat.specs.Moves.{does, flat_moves}
use Rattle.lua_flat.specs.IsExpression.{Has, HasAt, IsOperand, in_place, made}
use Rattle.lua_flat.specs.IsStatement.{set_entry}
use Rattle.lua_flat.specs.Keeps.{Keeps, AreKept, IsBelow, Bounded, Tidy}
use Rattle.lua_flat.specs.WaitsStatement.{found_entry, IsCount, IsCounting, by_one, by_step, Resumes, StatWaits, wait_only_key, wait_only_value, wait_target_key, wait_target_now, wait_refused_key, wait_refused_now, wait_alone, wait_count_from, wait_count_to, wait_count_loaded, wait_count_by}
use Rattle.lua_flat.specs.WaitsExpression.{in_register, wait_assign, wait_stat}
use Rattle.lua_flat.specs.Stands.{in_tree, in_code, constants_in, Within, at_given}
use Rattle.lua_flat_laws.specs.Follows.{Follows, follow_stands}
use Rattle.lua_flat_laws.proofs.Kept.{put_value, put_reads, keep_within, moved, with_keeps, code_there, kept_there, bounded_there, room_there, bounded_more, below_more}
use Rattle.lua_flat_laws.proofs.Meets.{Meets, by_free, by_operation, by_standing}
use Rattle.lua_flat_laws.proofs.Acts as acts_of
use Rattle.lua_flat_laws.proofs.Values as values_of
use Rattle.lua_flat_laws.proofs.Settings as settings_of
use Rattle.lua_flat_laws.proofs.Counting as counting_of

-- FRAMES OF STATEMENTS at which an operation is next: all but a target behind which others are found or a list is evaluated, and a value that
-- does not matter
abbrev pub IsPromptStat : {cs : Constants} {g : FlatFunction} {under : ℕ} {beneath : List SFrame} {locals : List Local} {low : ℕ} {keeps : Keeps} {pc c : ℕ} {o : Operand} {fs : List SFrame} → StatWaits cs g under beneath locals low keeps pc c o fs → Type 0
IsPromptStat (wait_target_now l1 l2 l3 r tidy above found more resumes) = ⊥
IsPromptStat (wait_refused_now q l refusal resumes) = ⊥
IsPromptStat (wait_alone resumes) = ⊥
IsPromptStat k = Unit {0}

module _ (world : CWorld) (codes : Codes) (room : ℕ) (index pc base : ℕ) (frames : List SFrame) (acts : List Act) (fn : Activation) (fns : List Activation) (g : FlatFunction) (mine theirs : List Slot) (beneath : List SFrame) (regs : List Slot) (top : ℕ) (s : Slots) where
  abbrev act : Act
  act = record { index = index; pc = pc; base = base; frames = frames }

  abbrev cs : Constants
  cs = constants_in world fn.source

  abbrev tree : Slots
  tree = in_tree (mine ++ theirs) (fn ∷ fns) s

  abbrev flat : Flat
  flat = in_code act acts regs top tree

  abbrev Here : List Local → ℕ → Keeps → Type 0
  Here locals low keeps = Within world codes regs act acts fn fns g mine theirs beneath locals low keeps

  abbrev Met : ℕ → Point → Type 0
  Met c p = Meets world codes room flat c p tree

  abbrev read_of : Operand → Value
  read_of o = operand cs regs base o

  next_is : {locals : List Local} {low : ℕ} {keeps : Keeps} → Here locals low keeps → (c : ℕ) (op : Op) → Has g pc c op → flat_moves world codes room flat ≡ FNodes c (does codes cs (slice_get g.lines pc) op act acts flat)
  next_is w c op has = acts_of.operation_at world codes room index pc base frames acts fn fns g mine theirs beneath regs top s c op (code_there world codes w) has

  keeping : {locals : List Local} {low free : ℕ} {keeps : Keeps} → (o : Operand) (u : Value) → read_of o ≡ u → IsBelow free o → low ≤ free → free ≤ g.registers → Here locals low keeps → Here locals free ((o, u) ∷ keeps)
  keeping o u e b l r w = values_of.keeping world codes room index pc base frames acts fn fns g mine theirs beneath regs top s o u e b l r w

  -- what was relied on before values were kept
  without : {locals : List Local} {low low' : ℕ} {keeps all : Keeps} → Here locals low all → AreKept cs regs base keeps → Tidy low' locals keeps → low' ≤ low → Here locals low' keeps
  without {low'} w ks tidy l = let n = room_there world codes w in with_keeps world codes ks tidy.bounded (omega (arith, l, n)) w

  -- AN ASSIGNMENT to one entry: its table and its key are there, and its value follows
  only_value : {away : Option ℕ} {locals : List Local} {low free c line c2 pc2 free2 : ℕ} {keeps : Keeps} {e : CExp} {a b o : Operand} {of : Value} {fs : List SFrame} → Here locals low keeps → Tidy low locals keeps → low ≤ free → read_of a ≡ of → IsBelow free a → IsBelow free b
      → IsOperand g locals false free e c o pc c2 pc2 free2 → HasAt g pc2 c2 line (SetIndexF a b o) → Resumes cs g (length theirs) beneath away locals low keeps (pc2 + 1) 0 fs → (vs : List Value) → read_of b ≡ first vs → Met c (Gives (Goes vs) (TargetNow of line [] [] (MoreC e NoC) ∷ fs))
  only_value {free} {c} {line} {e} {a} {b} {of} {fs} w tidy l ea ua ub (made r v) h resumes vs eb =
      let key : Value = first vs in
      by_free world codes room flat c (Gives (Goes vs) (TargetNow of line [] [] (MoreC e NoC) ∷ fs)) tree (Finds [] (EntryS of key line ∷ []) (MoreC e NoC) fs) tree refl
      (by_free world codes room flat c (Finds [] (EntryS of key line ∷ []) (MoreC e NoC) fs) tree (Lists (MoreC e NoC) [] (AssignNow (EntryS of key line ∷ []) ∷ fs)) tree refl
      (by_free world codes room flat c (Lists (MoreC e NoC) [] (AssignNow (EntryS of key line ∷ []) ∷ fs)) tree (Evals e (MoreNext NoC [] ∷ AssignNow (EntryS of key line ∷ []) ∷ fs)) tree refl
      (values_of.value_meets world codes room index pc base frames acts fn fns g mine theirs beneath regs top s (keeping {free = free} b key eb ub (omega arith) (omega (arith, r)) (keeping {free = free} a of ea ua l (omega (arith, r)) w)) (omega arith) v
      (in_register (omega arith) (wait_assign l tidy found_entry (set_entry h) resumes)))))
  only_value {c} {line} {e} {a} {b} {o} {of} {fs} w tidy l ea ua ub (in_place th) h resumes vs eb =
      let key : Value = first vs in
      let set : STarget = EntryS of key line in
      by_free world codes room flat c (Gives (Goes vs) (TargetNow of line [] [] (MoreC e NoC) ∷ fs)) tree (Finds [] (set ∷ []) (MoreC e NoC) fs) tree refl
      (by_free world codes room flat c (Finds [] (set ∷ []) (MoreC e NoC) fs) tree (Lists (MoreC e NoC) [] (AssignNow (set ∷ []) ∷ fs)) tree refl
      (by_free world codes room flat c (Lists (MoreC e NoC) [] (AssignNow (set ∷ []) ∷ fs)) tree (Evals e (MoreNext NoC [] ∷ AssignNow (set ∷ []) ∷ fs)) tree refl
      (values_of.reads world codes room index pc base frames acts fn fns g mine theirs beneath regs top s c w th (MoreNext NoC [] ∷ AssignNow (set ∷ []) ∷ fs)
      (by_free world codes room flat (c + 1) (Gives (Goes (read_of o ∷ [])) (MoreNext NoC [] ∷ AssignNow (set ∷ []) ∷ fs)) tree (Gives (Goes (read_of o ∷ [])) (AssignNow (set ∷ []) ∷ fs)) tree refl
      (by_free world codes room flat (c + 1) (Gives (Goes (read_of o ∷ [])) (AssignNow (set ∷ []) ∷ fs)) tree (Sets ((set, read_of o) ∷ []) fs) tree refl
      (settings_of.sets_target world codes room index pc base frames acts fn fns g mine theirs beneath regs top s w (eb, (ea, kept_there world codes w)) tidy.falling tidy.apart found_entry (set_entry h) (settings_of.resumes_none tidy resumes) (read_of o) refl))))))

  -- A COUNTING LOOP'S registers are there
  counting_room : {locals : List Local} {b line q end : ℕ} {boxed : Bool} {by : Option CExp} {body : CBlock} → IsCounting cs g locals b boxed by body line q end → b + 3 < g.registers
  counting_room (by_one h h' count) = count.room
  counting_room (by_step v h count) = count.room

  -- its limit is there: its step follows, or is 1
  limit_met : {away : Option ℕ} {locals : List Local} {low b line end : ℕ} {keeps : Keeps} {from : Value} {boxed : Bool} {by : Option CExp} {body : CBlock} {fs : List SFrame} → Here locals low keeps → Tidy low locals keeps → low ≤ b → read_of (RegisterO b) ≡ from
      → IsCounting cs g locals b boxed by body line pc end → Resumes cs g (length theirs) beneath away locals low keeps end 0 fs → (vs : List Value) → read_of (RegisterO (b + 1)) ≡ first vs → Met 0 (Gives (Goes vs) (CountTo boxed from by body line ∷ fs))
  limit_met {locals} {low} {b} {line} {end} {keeps} {from} {boxed} {body = block} {fs} w tidy l ef (by_one has h count) resumes vs et =
      let one : Value = Number (pos 1) in
      let q : ℕ = base + (b + 2) in
      let after : List Slot = put q (Plain one) regs in
      let kept : Within world codes after act acts fn fns g mine theirs beneath locals low keeps = keep_within world codes regs q (Plain one) (omega (arith, l)) w in
      let k0 : read after (base + b) ≡ from = put_reads q (Plain one) regs (base + b) (λ (k : q ≡ base + b). omega (arith, k)) ∙ ef in
      let k1 : read after (base + (b + 1)) ≡ first vs = put_reads q (Plain one) regs (base + (b + 1)) (λ (k : q ≡ base + (b + 1)). omega (arith, k)) ∙ et in
      let more : Bounded (b + 3) locals keeps = bounded_more low (b + 3) locals keeps (omega (arith, l)) tidy.bounded in
      let here : Within world codes after act acts fn fns g mine theirs beneath locals (b + 3) ((RegisterO (b + 2), one) ∷ (RegisterO b, from) ∷ keeps) =
      with_keeps world codes (put_value q one regs, (k0, kept_there world codes kept)) (record { locals_below = more.locals_below; keeps_below = (omega arith, (omega arith, more.keeps_below)) }) (let n = count.room in omega (arith, n)) kept in
      let place_is : pc + 2 ≡ pc + 1 + 1 = omega arith in
      by_standing world codes room flat 0 (Gives (Goes vs) (CountTo boxed from None block line ∷ fs)) tree (does codes cs (slice_get g.lines pc) (LoadF (b + 2) (ConstantO one)) act acts flat) (next_is w 0 (LoadF (b + 2) (ConstantO one)) has)
      (subst (λ (x : Flat). Follows world codes (FNow x) (Now (Gives (Goes vs) (CountTo boxed from None block line ∷ fs)) tree))
      (sym (acts_of.goes_on_at world codes room index pc base frames acts fn fns g mine theirs beneath regs top s 0 (LoadF (b + 2) (ConstantO one)) (code_there world codes w) has (one ∷ [])))
      (follow_stands (at_given {single = false} s (moved world codes (pc + 1) here) (sym k1)
      (wait_stat (wait_count_loaded l (omega arith) tidy h (subst (λ (n : ℕ). IsCount cs g locals b boxed block n end) place_is count) resumes)))))
  limit_met {locals} {low} {b} {line} {keeps} {from} {boxed} {body = block} {fs} w tidy l ef (by_step {by = x} v h count) resumes vs et =
      let limit : Value = first vs in
      let n = count.room in
      by_free world codes room flat 0 (Gives (Goes vs) (CountTo boxed from (Some x) block line ∷ fs)) tree (Evals x (CountBy boxed from limit block line ∷ fs)) tree refl
      (values_of.value_meets world codes room index pc base frames acts fn fns g mine theirs beneath regs top s
      (keeping {free = b + 2} (RegisterO (b + 1)) limit et (omega arith) (omega arith) (omega (arith, n)) (keeping {free = b + 1} (RegisterO b) from ef (omega arith) (omega (arith, l)) (omega (arith, n)) w)) (omega arith) v
      (in_register (omega arith) (wait_stat (wait_count_by l (omega arith) tidy h count resumes))))

  -- EACH FRAME of a statement, but for a target behind which other targets or lists follow
  pub stat_given : {locals : List Local} {low c : ℕ} {o : Operand} {keeps : Keeps} {fs : List SFrame} (vs : List Value) → (k : StatWaits cs g (length theirs) beneath locals low keeps pc c o fs) → Here locals low keeps → read_of o ≡ first vs → IsPromptStat k → Met c (Gives (Goes vs) fs)
  stat_given {c} vs (wait_only_key {line} {key} {e} {a} {fs} tidy l ua (made r v) oe h resumes) w ea i =
      by_free world codes room flat c (Gives (Goes vs) (TargetKey key line [] [] (MoreC e NoC) ∷ fs)) tree (Evals key (TargetNow (first vs) line [] [] (MoreC e NoC) ∷ fs)) tree refl
      (values_of.value_meets world codes room index pc base frames acts fn fns g mine theirs beneath regs top s (keeping a (first vs) ea ua l (omega (arith, r)) w) (omega arith) v
      (in_register (omega arith) (wait_stat (wait_only_value l tidy (omega arith) (omega arith) oe h resumes))))
  stat_given {c} vs (wait_only_key {line} {key} {e} {b} {fs} tidy l ua (in_place th) oe h resumes) w ea i =
      by_free world codes room flat c (Gives (Goes vs) (TargetKey key line [] [] (MoreC e NoC) ∷ fs)) tree (Evals key (TargetNow (first vs) line [] [] (MoreC e NoC) ∷ fs)) tree refl
      (values_of.reads world codes room index pc base frames acts fn fns g mine theirs beneath regs top s c w th (TargetNow (first vs) line [] [] (MoreC e NoC) ∷ fs)
      (only_value w tidy l ea ua (values_of.there_below world codes room index pc base frames acts fn fns g mine theirs beneath regs top s w l th) oe h resumes (read_of b ∷ []) refl))
  stat_given {low} vs (wait_only_value {low'} {free} {a} l tidy lf ub oe h resumes) w eb i =
      only_value (without w (kept_there world codes w).1 tidy l) tidy (omega (arith, l, lf)) (kept_there world codes w).0 (below_more low free a lf (bounded_there world codes w).keeps_below.0) ub oe h resumes vs eb
  stat_given vs (wait_target_key {q} {line} {key} {before} {more} {values} {fs} l1 l2 r tidy above found v assigning resumes) w ea i =
      by_free world codes room flat 0 (Gives (Goes vs) (TargetKey key line more before values ∷ fs)) tree (Evals key (TargetNow (first vs) line more before values ∷ fs)) tree refl
      (values_of.value_meets world codes room index pc base frames acts fn fns g mine theirs beneath regs top s (keeping {free = q + 1} (RegisterO q) (first vs) ea (omega arith) (omega (arith, l2)) (omega (arith, r)) w) (omega arith) v
      (in_register (omega arith) (wait_stat (wait_target_now (omega (arith, l1, l2)) (omega arith) (omega arith) r tidy above found assigning resumes))))
  stat_given vs (wait_target_now l1 l2 l3 r tidy above found assigning resumes) w ea i = absurd i
  stat_given {low} vs (wait_refused_key {q} {line} {key} {before} {more} {values} {fs} l r v refusal resumes) w ea i =
      by_free world codes room flat 0 (Gives (Goes vs) (TargetKey key line more before values ∷ fs)) tree (Evals key (TargetNow (first vs) line more before values ∷ fs)) tree refl
      (values_of.value_meets world codes room index pc base frames acts fn fns g mine theirs beneath regs top s w (omega (arith, l)) v (in_register (omega (arith, l)) (wait_stat (wait_refused_now q (omega (arith, l)) refusal resumes))))
  stat_given vs (wait_refused_now q l refusal resumes) w ea i = absurd i
  stat_given vs (wait_alone resumes) w ea i = absurd i
  stat_given vs (wait_count_from {base = b} {line} {to} {boxed} {by} {body = block} {fs} l tidy v counting resumes) w ea i =
      let n = counting_room counting in
      by_free world codes room flat 0 (Gives (Goes vs) (CountFrom boxed to by block line ∷ fs)) tree (Evals to (CountTo boxed (first vs) by block line ∷ fs)) tree refl
      (values_of.value_meets world codes room index pc base frames acts fn fns g mine theirs beneath regs top s (keeping {free = b + 1} (RegisterO b) (first vs) ea (omega arith) (omega (arith, l)) (omega (arith, n)) w) (omega arith) v
      (in_register (omega arith) (wait_stat (wait_count_to l (omega arith) tidy counting resumes))))
  stat_given vs (wait_count_to l1 l2 tidy counting resumes) w et i =
      limit_met (without w (kept_there world codes w).1 tidy (omega (arith, l1, l2))) tidy l1 (kept_there world codes w).0 counting resumes vs et
  stat_given vs (wait_count_loaded {base = b} {line} {end} {from} {boxed} {body = block} {fs} l1 l2 tidy h count resumes) w et i =
      by_operation world codes room flat 0 (Gives (Goes vs) (CountTo boxed from None block line ∷ fs)) tree (does codes cs (slice_get g.lines pc) (CountBeginsF b end) act acts flat) (next_is w 0 (CountBeginsF b end) h.0)
      (counting_of.count_begins world codes room index pc base frames acts fn fns g mine theirs beneath regs top s (without w (kept_there world codes w).1.1 tidy (omega (arith, l1, l2))) l1 tidy h count resumes from (first vs) (Number (pos 1))
      (kept_there world codes w).1.0 et (kept_there world codes w).0)
  stat_given vs (wait_count_by {base = b} {line} {end} {from} {to} {boxed} {body = block} {fs} l1 l2 tidy h count resumes) w eb i =
      by_operation world codes room flat 0 (Gives (Goes vs) (CountBy boxed from to block line ∷ fs)) tree (does codes cs (slice_get g.lines pc) (CountBeginsF b end) act acts flat) (next_is w 0 (CountBeginsF b end) h.0)
      (counting_of.count_begins world codes room index pc base frames acts fn fns g mine theirs beneath regs top s (without w (kept_there world codes w).1.1 tidy (omega (arith, l1, l2))) l1 tidy h count resumes from to (first vs)
      (kept_there world codes w).1.0 (kept_there world codes w).0 eb)
