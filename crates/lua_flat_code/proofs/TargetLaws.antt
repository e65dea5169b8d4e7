-- Code of assignments, put together from that of their targets and values.
use Rattle.std.proofs.Common.{◌≡◌, ◌∙◌, ◌≤◌, ◌<◌, ◌-◌, ℕ, suc, ◌+◌, ◌^◌, true, false, List, [], ◌∷◌, ◌++◌, map, reverse, length, slice_get, Some, refl, sym, ap, subst, arith}
use Rattle.std.proofs.lemmas.List.{map-append, reverse-append}
use Rattle.lua_flat.specs.LuaSlotsCode.{Reg, Box, Up, CExp, CExps, NoC, MoreC, CTarget, PlaceC, GlobalTargetC, EntryC, RefusedC, AssignC}
use Rattle.lua_flat.specs.Operations as flat
use Rattle.lua_flat.specs.Locals.{PlainL, CellL}
use Rattle.lua_flat.specs.IsExpression.{IsValue, IsExact}
use Rattle.lua_flat.specs.IsStatement.{writes_last, EntryT, IsSetting, set_register, set_cell, set_captured, set_global, set_entry, IsVariable, plain_variable, celled_variable, captured_variable, global_variable}
use Rattle.lua_flat.specs.IsStatement.{IsTargets, no_target, to_variable, to_entry, IsRefused, refused, behind_variable, behind_entry, IsSets, no_more, one_set, IsStat, assign_into, assign_variable, assign_entry, assign_many, assign_refused}
use Rattle.lua_code.specs.declared.place.Place.{Place as PlaceHeld}
use Rattle.lua_code.specs.declared.place.Place.TheVariants as place_held
use Rattle.lua_code.specs.declared.expression.Expression.{Expression}
use Rattle.lua_code.specs.declared.statement.Target.{Target}
use Rattle.lua_code.specs.declared.statement.Target.TheVariants as held
use Rattle.lua_code.specs.Seen.{place_seen, target_seen, expression_seen, expressions_seen}
use Rattle.lua_flat_code.specs.declared.operand.Operand.{Operand}
use Rattle.lua_flat_code.specs.declared.assignments.Found.{Found}
use Rattle.lua_flat_code.specs.declared.assignments.Found.TheVariants as found
use Rattle.lua_flat_code.specs.declared.assignments.AllFound.{AllFound}
use Rattle.lua_flat_code.specs.declared.op.Op.{Op}
use Rattle.lua_flat_code.specs.declared.op.Op.TheVariants as op
use Rattle.lua_flat_code.specs.Seen.{operand_seen}
use Rattle.lua_flat_code.specs.Making.{State, place, Final, Stands, begun, lined, emitted, Reached}
use Rattle.lua_flat_code.specs.Parts.{Keeps, OperandSaid, ValueSaid, ExactSaid}
use Rattle.lua_flat_code.specs.Targets.{found_seen, VariableSaid, SettingSaid, SetSaid, SetsSoFar, SetsSaid, EntrySaid, TargetsSoFar, TargetSaid, TargetsSaid}
use Rattle.lua_flat_code.specs.Whole.{BegunStat}
use Rattle.lua_flat_code.proofs.Handed.{nil_behind, joined_lists}
use Rattle.lua_flat_code.proofs.MakingLaws.{length_snoc, stands_emitted, next_reached, has_room, is_register}
use Rattle.lua_flat_code.proofs.ValueLaws.{keeps_same, keeps_trans, keeps_begun, keeps_emitted, keeps_reached, no_fit, operand_in}
use Rattle.lua_flat_code.proofs.StatementLaws.{kept_stat, last_stat}

-- A TARGET GETS A VALUE, by one operation
setting : (t : Found) (from : Operand) (o : Op) (line : ℕ) (s : State) → ((f : Final) → Stands f (place s) (lined o line s) → IsSetting f.code (found_seen f.tables t) (operand_seen f.tables from) s.owed (place s)) → SettingSaid t from s (emitted o line s)
setting t from o line s sets = record {
  keeps = keeps_emitted o line s;
  paid = refl;
  one = length_snoc s.steps (lined o line s);
  code = λ f l. sets f (stands_emitted o line s f l);
}

pub setting_register : (r : ℕ) (from : Operand) (s : State) → SettingSaid (found.Register r) from s (emitted (op.Load r from) 0 s)
setting_register r from s = setting (found.Register r) from (op.Load r from) 0 s (λ f st. set_register st.has.0)

pub setting_cell : (r : ℕ) (from : Operand) (s : State) → SettingSaid (found.Cell r) from s (emitted (op.SetCell r from) 0 s)
setting_cell r from s = setting (found.Cell r) from (op.SetCell r from) 0 s (λ f st. set_cell st.has.0)

pub setting_captured : (n : ℕ) (from : Operand) (s : State) → SettingSaid (found.Captured n) from s (emitted (op.SetUp n from) 0 s)
setting_captured n from s = setting (found.Captured n) from (op.SetUp n from) 0 s (λ f st. set_captured st.has.0)

pub setting_global : (name line : ℕ) (from : Operand) (s : State) → SettingSaid (found.Global name line) from s (emitted (op.SetGlobal name from) line s)
setting_global name line from s = setting (found.Global name line) from (op.SetGlobal name from) line s (λ f st. set_global st.has)

pub setting_entry : (of key : Operand) (line : ℕ) (from : Operand) (s : State) → SettingSaid (found.Entry of key line) from s (emitted (op.SetIndex of key from) line s)
setting_entry of key line from s = setting (found.Entry of key line) from (op.SetIndex of key from) line s (λ f st. set_entry st.has)

pub set_from : (t : Found) (from : Operand) (r : ℕ) (s u : State) → from.code ≡ r → r < 2 ^ 31 → SettingSaid t from s u → SetSaid t r s u
set_from t from r s u is below h = record { keeps = h.keeps; paid = h.paid; one = h.one; code = λ f l. subst (λ o. IsSetting f.code (found_seen f.tables t) o s.owed (place s)) (is_register f.tables from r is below) (h.code f l) }

-- THE LAST TARGET FIRST
pub sets_start : (ts : List Found) (first : ℕ) (s : State) → SetsSoFar ts ts first s s
sets_start ts first s = record { keeps = keeps_same s; code = λ f l c' pc' h. h }

reverse_snoc : {A : Type 0} (xs : List A) (x : A) → reverse (xs ++ x ∷ []) ≡ x ∷ reverse xs
reverse_snoc xs x = reverse-append xs (x ∷ [])

map_snoc : {A B : Type 0} (g : A → B) (xs : List A) (x : A) → map g (xs ++ x ∷ []) ≡ map g xs ++ g x ∷ []
map_snoc g xs x = map-append g xs (x ∷ [])

pub sets_step : (ts left front : List Found) (t : Found) (first : ℕ) (s u v : State) → SetsSoFar ts left first s u → left ≡ front ++ t ∷ [] → SetSaid t (first + length front) u v → SetsSoFar ts front first s v
sets_step ts left front t first s u v so is h =
    let from : SetsSoFar ts (front ++ t ∷ []) first s u = subst (λ l. SetsSoFar ts l first s u) is so in
    let behind : first + length (front ++ t ∷ []) ≡ first + length front + 1 = let n : length (front ++ t ∷ []) ≡ length front + 1 = length_snoc front t in omega (arith, n) in
    record {
      keeps = keeps_trans s u v so.keeps h.keeps;
      code = λ f l c' pc' k.
          let g = found_seen f.tables in
          let backward : reverse (map g (front ++ t ∷ [])) ≡ g t ∷ reverse (map g front) = ap reverse (map_snoc g front t) ∙ reverse_snoc (map g front) (g t) in
          let rest : IsSets f.code (reverse (map g front)) (first + length front) 0 (place u + 1) c' pc' =
          subst (λ p. IsSets f.code (reverse (map g front)) (first + length front) 0 p c' pc') h.one (subst (λ c. IsSets f.code (reverse (map g front)) (first + length front) c (place v) c' pc') h.paid k) in
          from.code f (h.keeps.next f l) c' pc'
          (subst (λ n. IsSets f.code (reverse (map g (front ++ t ∷ []))) n u.owed (place u) c' pc') (sym behind)
          (subst (λ xs. IsSets f.code xs (first + length front + 1) u.owed (place u) c' pc') (sym backward) (one_set (h.code f l) rest)));
    }

pub sets_end : (ts left : List Found) (first : ℕ) (s u : State) → SetsSoFar ts left first s u → left ≡ [] → SetsSaid ts first s u
sets_end ts left first s u so is =
    let none : SetsSoFar ts [] first s u = subst (λ l. SetsSoFar ts l first s u) is so in
    record { keeps = so.keeps; code = λ f l. none.code f l u.owed (place u) no_more }

-- TARGETS ARE FOUND
pub variable_plain : (s : State) (i r : ℕ) → slice_get s.locals i ≡ Some (PlainL r) → VariableSaid s (PlaceC (Reg i)) (found.Register r)
variable_plain s i r is = λ g k. plain_variable is

pub variable_cell : (s : State) (i r : ℕ) → slice_get s.locals i ≡ Some (CellL r) → VariableSaid s (PlaceC (Box i)) (found.Cell r)
variable_cell s i r is = λ g k. celled_variable is

pub variable_captured : (s : State) (i n : ℕ) → n ≡ i → VariableSaid s (PlaceC (Up i)) (found.Captured n)
variable_captured s i n is = λ g k. subst (λ m. IsVariable g s.locals (PlaceC (Up i)) (found_seen k (found.Captured m))) (sym is) captured_variable

pub variable_global : (s : State) (name line : ℕ) → VariableSaid s (GlobalTargetC name line) (found.Global name line)
variable_global s name line = λ g k. global_variable

pub entry_said : (free end : ℕ) (of key : CExp) (s a t u : State) → end ≡ free + 2 → Reached end (begun s) a → ValueSaid (end - 1) of free a t → ValueSaid end key (end - 1) t u → EntrySaid free of key s u end
entry_said free end of key s a t u is reached one_value two_value =
    let one : end - 1 ≡ free + 1 = omega (arith, is) in
    let v : ValueSaid (end - 1) of free (record s { owed = s.owed + 1; registers = a.registers }) t = subst (λ x. ValueSaid (end - 1) of free x t) reached.same one_value in
    let before : Keeps s t = keeps_trans s a t (keeps_trans s (begun s) a (keeps_begun s) (keeps_reached end (begun s) a reached)) one_value.keeps in
    record {
      is = is;
      keeps = keeps_trans s t u before two_value.keeps;
      paid = two_value.paid;
      room = λ f l.
          let room : end ≤ f.code.registers = has_room end (begun s) a f reached (one_value.keeps.next f (two_value.keeps.next f l)) in
          omega (arith, is, room);
      between = place t;
      first = λ f l. subst (λ n. IsValue f.code s.locals false n of (s.owed + 1) free (place s) (place t)) one (v.code f false (two_value.keeps.next f l) (no_fit of));
      second = λ f l.
          subst (λ n. IsValue f.code s.locals false n key 0 (free + 1) (place t) (place u)) is
          (subst (λ n. IsValue f.code s.locals false end key 0 n (place t) (place u)) one
          (subst (λ c. IsValue f.code s.locals false end key c (end - 1) (place t) (place u)) one_value.paid
          (subst (λ ls. IsValue f.code ls false end key t.owed (end - 1) (place t) (place u)) before.locals (two_value.code f false l (no_fit key)))));
    }

pub target_variable : (free : ℕ) (target : CTarget) (t : Found) (old new : List Found) (s : State) → VariableSaid s target t → new ≡ old ++ t ∷ [] → TargetSaid free target old new s s free
target_variable free target t old new s is put = record {
  keeps = keeps_same s;
  one = t;
  put = put;
  code = λ f l left more c' pc' free' h. to_variable (is f.code f.tables) h;
  refused = λ f l left pc' h. behind_variable (is f.code f.tables) h;
}

pub target_entry : (free next line : ℕ) (of key : CExp) (a b : Operand) (old new : List Found) (s u : State) → EntrySaid free of key s u next → a.code ≡ free → free < 2 ^ 31 → b.code ≡ next - 1 → next - 1 < 2 ^ 31 → new ≡ old ++ found.Entry a b line ∷ []
    → TargetSaid free (EntryC of key line) old new s u next
target_entry free next line of key a b old new s u h a_is a_low b_is b_low put =
    let next_is : next ≡ free + 2 = h.is in
    let one : next - 1 ≡ free + 1 = omega (arith, next_is) in
    let low : free + 1 < 2 ^ 31 = subst (λ n. n < 2 ^ 31) one b_low in
    record {
      keeps = h.keeps;
      one = found.Entry a b line;
      put = put;
      code = λ f l left more c' pc' free' k.
          let first : operand_seen f.tables a ≡ flat.RegisterO free = is_register f.tables a free a_is a_low in
          let second : operand_seen f.tables b ≡ flat.RegisterO (free + 1) = is_register f.tables b (free + 1) (b_is ∙ one) low in
          let rest : IsTargets f.code s.locals (free + 2) left 0 more (place u) c' pc' free' =
          subst (λ n. IsTargets f.code s.locals n left 0 more (place u) c' pc' free') next_is
          (subst (λ c. IsTargets f.code s.locals next left c more (place u) c' pc' free') h.paid k) in
          subst (λ o. IsTargets f.code s.locals free (EntryC of key line ∷ left) s.owed (EntryT o (operand_seen f.tables b) line ∷ more) (place s) c' pc' free') (sym first)
          (subst (λ o. IsTargets f.code s.locals free (EntryC of key line ∷ left) s.owed (EntryT (flat.RegisterO free) o line ∷ more) (place s) c' pc' free') (sym second)
          (to_entry (h.room f l) (h.first f l) (h.second f l) rest));
      refused = λ f l left pc' k.
          let rest : IsRefused f.code s.locals (free + 2) left 0 (place u) pc' =
          subst (λ n. IsRefused f.code s.locals n left 0 (place u) pc') next_is (subst (λ c. IsRefused f.code s.locals next left c (place u) pc') h.paid k) in
          behind_entry (h.room f l) (h.first f l) (h.second f l) rest;
    }

pub targets_start : (free : ℕ) (targets : List CTarget) (ts : List Found) (s : State) → ts ≡ [] → TargetsSoFar free free targets targets ts s s
targets_start free targets ts s is = subst (λ xs. TargetsSoFar free free targets targets xs s s) (sym is) (record {
  keeps = keeps_same s;
  counted = let e : 0 + length targets ≡ length targets = omega arith in e;
  code = λ f l more c' pc' free' h. h;
  refused = λ f l pc' h. h;
})

pub targets_step : (free at next : ℕ) (whole left : List CTarget) (target : CTarget) (rest : List CTarget) (ts new : List Found) (s u v : State) → TargetsSoFar free at whole left ts s u → left ≡ target ∷ rest → TargetSaid at target ts new u v next
    → TargetsSoFar free next whole rest new s v
targets_step free at next whole left target rest ts new s u v so is h =
    let front : TargetsSoFar free at whole (target ∷ rest) ts s u = subst (λ l. TargetsSoFar free at whole l ts s u) is so in
    let counted : length ts + suc (length rest) ≡ length whole = front.counted in
    let longer : length (ts ++ h.one ∷ []) ≡ length ts + 1 = length_snoc ts h.one in
    subst (λ xs. TargetsSoFar free next whole rest xs s v) (sym h.put) (record {
      keeps = keeps_trans s u v so.keeps h.keeps;
      counted = omega (arith, counted, longer);
      code = λ f l more c' pc' free' k.
          let g = found_seen f.tables in
          let seen : map g (ts ++ h.one ∷ []) ++ more ≡ map g ts ++ (g h.one ∷ more) = ap (λ xs. xs ++ more) (map_snoc g ts h.one) ∙ joined_lists (map g ts) (g h.one ∷ []) more in
          subst (λ xs. IsTargets f.code s.locals free whole s.owed xs (place s) c' pc' free') (sym seen)
          (front.code f (h.keeps.next f l) (g h.one ∷ more) c' pc' free'
          (subst (λ ls. IsTargets f.code ls at (target ∷ rest) u.owed (g h.one ∷ more) (place u) c' pc' free') so.keeps.locals
          (h.code f l rest more c' pc' free' (subst (λ ls. IsTargets f.code ls next rest v.owed more (place v) c' pc' free') (sym so.keeps.locals) k))));
      refused = λ f l pc' k. front.refused f (h.keeps.next f l) pc' (subst (λ ls. IsRefused f.code ls at (target ∷ rest) u.owed (place u) pc') so.keeps.locals (h.refused f l rest pc' (subst (λ ls. IsRefused f.code ls next rest v.owed (place v) pc') (sym so.keeps.locals) k)));
    })

pub targets_refused : (free at : ℕ) (whole left : List CTarget) (rest : List CTarget) (all : AllFound) (s u : State) → TargetsSoFar free at whole left all.found s u → left ≡ RefusedC ∷ rest → all.refused ≡ true → TargetsSaid free whole s u all
targets_refused free at whole left rest all s u so is yes_refused =
    let front : TargetsSoFar free at whole (RefusedC ∷ rest) all.found s u = subst (λ l. TargetsSoFar free at whole l all.found s u) is so in
    record {
      keeps = so.keeps;
      code = λ e. absurd (not_both e);
      many = λ e. absurd (not_both e);
      refused = λ e f l has. front.refused f l (place u + 1) (refused has);
    }
  where
    not_both : all.refused ≡ false → ⊥
    not_both e = cc

pub targets_end : (free : ℕ) (whole left : List CTarget) (all : AllFound) (s u : State) → TargetsSoFar free all.free whole left all.found s u → left ≡ [] → all.refused ≡ false → TargetsSaid free whole s u all
targets_end free whole left all s u so is none_refused =
    let back : TargetsSoFar free all.free whole [] all.found s u = subst (λ l. TargetsSoFar free all.free whole l all.found s u) is so in
    let counted : length all.found + 0 ≡ length whole = back.counted in
    record {
      keeps = so.keeps;
      code = λ e f l. subst (λ xs. IsTargets f.code s.locals free whole s.owed xs (place s) u.owed (place u) all.free) (nil_behind (map (found_seen f.tables) all.found)) (back.code f l [] u.owed (place u) all.free no_target);
      many = λ e. omega (arith, counted);
      refused = λ e. absurd (not_both e);
    }
  where
    not_both : all.refused ≡ true → ⊥
    not_both e = cc

-- ASSIGNMENTS
pub begun_into : (free i r : ℕ) (e : CExp) (old t : State) → slice_get old.locals i ≡ Some (PlainL r) → writes_last e ≡ true → ValueSaid free e r old t → BegunStat free (AssignC (PlaceC (Reg i) ∷ []) (MoreC e NoC)) old t
begun_into free i r e old t at last h = λ s is.
    let v : ValueSaid free e r (begun s) t = subst (λ x. ValueSaid free e r x t) is h in
    let there : slice_get s.locals i ≡ Some (PlainL r) = ap (λ (x : State). slice_get x.locals i) (sym is) ∙ at in
    kept_stat free (AssignC (PlaceC (Reg i) ∷ []) (MoreC e NoC)) s t (keeps_trans s (begun s) t (keeps_begun s) v.keeps)
    (λ f l away. subst (λ c. IsStat f.code away s.locals free (AssignC (PlaceC (Reg i) ∷ []) (MoreC e NoC)) s.owed (place s) c (place t)) (sym v.paid) (assign_into there last (v.code f false l (no_fit e))))

pub begun_variable : (free free1 : ℕ) (target : CTarget) (x : Found) (from : Operand) (e : CExp) (old t u : State) → VariableSaid old target x → OperandSaid free e old t from free1 → SettingSaid x from t u
    → BegunStat free (AssignC (target ∷ []) (MoreC e NoC)) old u
begun_variable free free1 target x from e old t u variable operand sets = λ s is.
    let o : OperandSaid free e (begun s) t from free1 = subst (λ y. OperandSaid free e y t from free1) is operand in
    let v : VariableSaid (begun s) target x = subst (λ y. VariableSaid y target x) is variable in
    kept_stat free (AssignC (target ∷ []) (MoreC e NoC)) s u (keeps_trans s t u (keeps_trans s (begun s) t (keeps_begun s) o.keeps) sets.keeps)
    (λ f l away.
    subst (λ c. IsStat f.code away s.locals free (AssignC (target ∷ []) (MoreC e NoC)) s.owed (place s) c (place u)) (sym sets.paid)
    (subst (λ p. IsStat f.code away s.locals free (AssignC (target ∷ []) (MoreC e NoC)) s.owed (place s) 0 p) (sym sets.one)
    (assign_variable (v f.code f.tables) (o.code f false (sets.keeps.next f l) (no_fit e)) (sets.code f l))))

pub begun_entry : (free free1 free2 free3 line : ℕ) (of key e : CExp) (a b from : Operand) (old t u v : State) → OperandSaid free of (begun old) t a free1 → OperandSaid free1 key t u b free2 → OperandSaid free2 e u v from free3
    → BegunStat free (AssignC (EntryC of key line ∷ []) (MoreC e NoC)) old (emitted (op.SetIndex a b from) line v)
begun_entry free free1 free2 free3 line of key e a b from old t u v first second third = λ s is.
    let o : OperandSaid free of (begun (begun s)) t a free1 = subst (λ y. OperandSaid free of (begun y) t a free1) is first in
    let t_keeps : Keeps (begun s) t = keeps_trans (begun s) (begun (begun s)) t (keeps_begun (begun s)) o.keeps in
    let u_keeps : Keeps (begun s) u = keeps_trans (begun s) t u t_keeps second.keeps in
    last_stat free (AssignC (EntryC of key line ∷ []) (MoreC e NoC)) s v (op.SetIndex a b from) line (keeps_trans (begun s) u v u_keeps third.keeps)
    (λ f away l st.
    let lu = third.keeps.next f l in
    assign_entry (o.code f false (second.keeps.next f lu) (no_fit of)) (operand_in free1 key (begun s) t u b free2 f t_keeps.locals second lu) (operand_in free2 e (begun s) u v from free3 f u_keeps.locals third l) st.has)

pub begun_many : (free count next : ℕ) (targets : List CTarget) (es : CExps) (all : AllFound) (old t w u v : State) → all.refused ≡ false → TargetsSaid free targets old t all → count ≡ length targets → next ≡ all.free + count → Reached next t w
    → ExactSaid all.free es count w u → SetsSaid all.found all.free u v → BegunStat free (AssignC targets es) old v
begun_many free count next targets es all old t w u v kept found counted is room exact sets = λ s begins.
    let ts : TargetsSaid free targets (begun s) t all = subst (λ y. TargetsSaid free targets y t all) begins found in
    let held : ExactSaid all.free es count (record t { registers = w.registers }) u = subst (λ x. ExactSaid all.free es count x u) room.same exact in
    let w_keeps : Keeps (begun s) w = keeps_trans (begun s) t w ts.keeps (keeps_reached next t w room) in
    let u_keeps : Keeps (begun s) u = keeps_trans (begun s) w u w_keeps exact.keeps in
    kept_stat free (AssignC targets es) s v (keeps_trans s u v (keeps_trans s (begun s) u (keeps_begun s) u_keeps) sets.keeps)
    (λ f l away.
    let lu = sets.keeps.next f l in
    let lw = exact.keeps.next f lu in
    let enough : next ≤ f.code.registers = has_room next t w f room lw in
    let values : IsExact f.code s.locals all.free es (length targets) t.owed (place t) u.owed (place u) =
    subst (λ n. IsExact f.code s.locals all.free es n t.owed (place t) u.owed (place u)) counted (subst (λ ls. IsExact f.code ls all.free es count t.owed (place t) u.owed (place u)) ts.keeps.locals (held.code f lu)) in
    assign_many (ts.code kept f (next_reached next t w room f lw)) (omega (arith, enough, is, counted)) values
    (subst (λ n. IsSets f.code (reverse (map (found_seen f.tables) all.found)) (all.free + n) u.owed (place u) v.owed (place v)) (ts.many kept) (sets.code f l)))

pub begun_refused : (free : ℕ) (targets : List CTarget) (es : CExps) (all : AllFound) (old t : State) → all.refused ≡ true → TargetsSaid free targets old t all → BegunStat free (AssignC targets es) old (emitted op.Refuse 0 t)
begun_refused free targets es all old t kept found = λ s is.
    let ts : TargetsSaid free targets (begun s) t all = subst (λ y. TargetsSaid free targets y t all) is found in
    last_stat free (AssignC targets es) s t op.Refuse 0 ts.keeps (λ f away l st. assign_refused (ts.refused kept f l st.has.0))

-- IN THE WORDS OF A FUNCTION
pub said_one : (free : ℕ) (targets : List Target) (values : List Expression) (target : Target) (e : Expression) (old t : State) → targets ≡ target ∷ [] → values ≡ e ∷ [] → BegunStat free (AssignC (target_seen target ∷ []) (MoreC (expression_seen e) NoC)) old t
    → BegunStat free (AssignC (map target_seen targets) (expressions_seen values)) old t
said_one free targets values target e old t is alone h =
    subst (λ ts. BegunStat free (AssignC (map target_seen ts) (expressions_seen values)) old t) (sym is) (subst (λ es. BegunStat free (AssignC (target_seen target ∷ []) (expressions_seen es)) old t) (sym alone) h)

pub said_target : (free : ℕ) (x y : Target) (es : CExps) (old t : State) → x ≡ y → BegunStat free (AssignC (target_seen y ∷ []) es) old t → BegunStat free (AssignC (target_seen x ∷ []) es) old t
said_target free x y es old t is h = subst (λ z. BegunStat free (AssignC (target_seen z ∷ []) es) old t) (sym is) h

pub said_place : (free : ℕ) (p q : PlaceHeld) (es : CExps) (old t : State) → p ≡ q → BegunStat free (AssignC (PlaceC (place_seen q) ∷ []) es) old t → BegunStat free (AssignC (PlaceC (place_seen p) ∷ []) es) old t
said_place free p q es old t is h = subst (λ z. BegunStat free (AssignC (PlaceC (place_seen z) ∷ []) es) old t) (sym is) h

pub said_entry : (free free1 free2 free3 line : ℕ) (of key e : CExp) (a b from : Operand) (old begin t u v w : State) → begin ≡ begun old → OperandSaid free of begin t a free1 → OperandSaid free1 key t u b free2 → OperandSaid free2 e u v from free3
    → w ≡ emitted (op.SetIndex a b from) line v → BegunStat free (AssignC (EntryC of key line ∷ []) (MoreC e NoC)) old w
said_entry free free1 free2 free3 line of key e a b from old begin t u v w begins first second third ends =
    subst (BegunStat free (AssignC (EntryC of key line ∷ []) (MoreC e NoC)) old) (sym ends) (begun_entry free free1 free2 free3 line of key e a b from old t u v (subst (λ z. OperandSaid free of z t a free1) begins first) second third)

pub said_many : (free count next : ℕ) (targets : List CTarget) (es : CExps) (all : AllFound) (found : List Found) (old t w u v : State) → all.refused ≡ false → TargetsSaid free targets old t all → count ≡ length targets → next ≡ all.free + count → Reached next t w
    → ExactSaid all.free es count w u → found ≡ all.found → SetsSaid found all.free u v → BegunStat free (AssignC targets es) old v
said_many free count next targets es all found old t w u v kept are counted is room exact same sets =
    begun_many free count next targets es all old t w u v kept are counted is room exact (subst (λ xs. SetsSaid xs all.free u v) same sets)

pub said_refused : (free : ℕ) (targets : List CTarget) (es : CExps) (all : AllFound) (old t u : State) → all.refused ≡ true → TargetsSaid free targets old t all → u ≡ emitted op.Refuse 0 t → BegunStat free (AssignC targets es) old u
said_refused free targets es all old t u kept found ends = subst (BegunStat free (AssignC targets es) old) (sym ends) (begun_refused free targets es all old t kept found)

pub said_entry_target : (free next line : ℕ) (x : Target) (of key : Expression) (a b : Operand) (old new : List Found) (s u : State) → x ≡ held.At of key line → EntrySaid free (expression_seen of) (expression_seen key) s u next → a.code ≡ free → free < 2 ^ 31 → b.code ≡ next - 1 → next - 1 < 2 ^ 31
    → new ≡ old ++ found.Entry a b line ∷ [] → TargetSaid free (target_seen x) old new s u next
said_entry_target free next line x of key a b old new s u is h a_is a_low b_is b_low put =
    subst (λ z. TargetSaid free (target_seen z) old new s u next) (sym is) (target_entry free next line (expression_seen of) (expression_seen key) a b old new s u h a_is a_low b_is b_low put)

pub said_entry_values : (free end : ℕ) (of key : CExp) (s b a t u : State) → b ≡ begun s → end ≡ free + 2 → Reached end b a → ValueSaid (end - 1) of free a t → ValueSaid end key (end - 1) t u → EntrySaid free of key s u end
said_entry_values free end of key s b a t u begins is reached first second = entry_said free end of key s a t u is (subst (λ x. Reached end x a) begins reached) first second

pub said_variable : (s : State) (x : Target) (p : PlaceHeld) (t : Found) → x ≡ held.Variable p → VariableSaid s (PlaceC (place_seen p)) t → VariableSaid s (target_seen x) t
said_variable s x p t is h = subst (λ z. VariableSaid s (target_seen z) t) (sym is) h

pub said_global_target : (s : State) (x : Target) (name line : ℕ) → x ≡ held.Global name line → VariableSaid s (target_seen x) (found.Global name line)
said_global_target s x name line is = subst (λ z. VariableSaid s (target_seen z) (found.Global name line)) (sym is) (variable_global s name line)

pub said_plain_place : (s : State) (p : PlaceHeld) (i r : ℕ) → p ≡ place_held.Register i → slice_get s.locals i ≡ Some (PlainL r) → VariableSaid s (PlaceC (place_seen p)) (found.Register r)
said_plain_place s p i r is at = subst (λ q. VariableSaid s (PlaceC (place_seen q)) (found.Register r)) (sym is) (variable_plain s i r at)

pub said_cell_place : (s : State) (p : PlaceHeld) (i r : ℕ) → p ≡ place_held.Cell i → slice_get s.locals i ≡ Some (CellL r) → VariableSaid s (PlaceC (place_seen p)) (found.Cell r)
said_cell_place s p i r is at = subst (λ q. VariableSaid s (PlaceC (place_seen q)) (found.Cell r)) (sym is) (variable_cell s i r at)

pub said_captured_place : (s : State) (p : PlaceHeld) (i n : ℕ) → p ≡ place_held.Captured i → n ≡ i → VariableSaid s (PlaceC (place_seen p)) (found.Captured n)
said_captured_place s p i n is same = subst (λ q. VariableSaid s (PlaceC (place_seen q)) (found.Captured n)) (sym is) (variable_captured s i n same)

pub said_set_at : (t : Found) (from : Operand) (first behind short : ℕ) (s u : State) → short ≡ behind → from.code ≡ first + short → first + short < 2 ^ 31 → SettingSaid t from s u → SetSaid t (first + behind) s u
said_set_at t from first behind short s u same is low h = subst (λ n. SetSaid t (first + n) s u) same (set_from t from (first + short) s u is low h)

pub said_register : (x : Found) (r : ℕ) (from : Operand) (s u : State) → x ≡ found.Register r → u ≡ emitted (op.Load r from) 0 s → SettingSaid x from s u
said_register x r from s u is ends = subst (λ y. SettingSaid y from s u) (sym is) (subst (SettingSaid (found.Register r) from s) (sym ends) (setting_register r from s))

pub said_cell_set : (x : Found) (r : ℕ) (from : Operand) (s u : State) → x ≡ found.Cell r → u ≡ emitted (op.SetCell r from) 0 s → SettingSaid x from s u
said_cell_set x r from s u is ends = subst (λ y. SettingSaid y from s u) (sym is) (subst (SettingSaid (found.Cell r) from s) (sym ends) (setting_cell r from s))

pub said_captured_set : (x : Found) (n : ℕ) (from : Operand) (s u : State) → x ≡ found.Captured n → u ≡ emitted (op.SetUp n from) 0 s → SettingSaid x from s u
said_captured_set x n from s u is ends = subst (λ y. SettingSaid y from s u) (sym is) (subst (SettingSaid (found.Captured n) from s) (sym ends) (setting_captured n from s))

pub said_global_set : (x : Found) (name line : ℕ) (from : Operand) (s u : State) → x ≡ found.Global name line → u ≡ emitted (op.SetGlobal name from) line s → SettingSaid x from s u
said_global_set x name line from s u is ends = subst (λ y. SettingSaid y from s u) (sym is) (subst (SettingSaid (found.Global name line) from s) (sym ends) (setting_global name line from s))

pub said_entry_set : (x : Found) (of key : Operand) (line : ℕ) (from : Operand) (s u : State) → x ≡ found.Entry of key line → u ≡ emitted (op.SetIndex of key from) line s → SettingSaid x from s u
said_entry_set x of key line from s u is ends = subst (λ y. SettingSaid y from s u) (sym is) (subst (SettingSaid (found.Entry of key line) from s) (sym ends) (setting_entry of key line from s))
