-- Code of calls, of lists and of constructors, put together from that of their parts.
use Rattle.std.proofs.Common.{◌≡◌, ◌∙◌, ◌≤◌, ◌<◌, ◌-◌, ℕ, ◌+◌, ◌^◌, Bool, true, false, List, [], ◌∷◌, ◌++◌, length, refl, sym, ap, subst, arith}
use Rattle.lua_flat.specs.LuaSlotsCode.{CExp, DotsC, CallC, MethodC, TableC, CExps, NoC, MoreC, CFields, NoFieldC, ItemC, PairC}
use Rattle.lua_flat.specs.Operations as flat
use Rattle.lua_flat.specs.Operations.{Exactly, Every}
use Rattle.lua_flat.specs.Locals.{Local}
use Rattle.lua_flat.specs.IsExpression.{HasAt, one_more, is_last, IsOperand, IsValue, table_of, first_of_many, IsMany, dots_of, call_of, method_of, IsRow, row_none, row_one, row_many, row_more, IsFields, fields_end, field_item, field_items, field_pair}
use Rattle.lua_code.specs.declared.expression.Expression.{Expression}
use Rattle.lua_code.specs.Seen.{expression_seen, expressions_seen}
use Rattle.lua_flat_code.specs.declared.operand.Operand.{Operand}
use Rattle.lua_flat_code.specs.declared.operand.Wanted.{Wanted}
use Rattle.lua_flat_code.specs.declared.op.Op.{Op}
use Rattle.lua_flat_code.specs.declared.op.Op.TheVariants as op
use Rattle.lua_flat_code.specs.Seen.{operand_seen, wanted_seen}
use Rattle.lua_flat_code.specs.Making.{State, place, Final, Stands, Later, begun, lined, emitted, Reached}
use Rattle.lua_flat_code.specs.Parts.{Keeps, is_many, Fits, OperandSaid, ValueSaid, ManySaid, MethodSaid, RowSaid, RowSoFar, RowEndSaid, more, FieldsStep, FieldsSoFar}
use Rattle.lua_flat_code.proofs.MakingLaws.{length_snoc, next_emitted, stands_emitted, has_room}
use Rattle.lua_flat_code.proofs.ValueLaws.{keeps_same, keeps_trans, keeps_begun, keeps_emitted, keeps_reached, no_fit, operand_in}

-- one more operation is the last of several values
many_step : (free : ℕ) (e : CExp) (to : ℕ) (wanted : Wanted) (s u : State) (o : Op) (line : ℕ) → Keeps s u
    → ((f : Final) → Later u f → Stands f (place u) (lined o line u) → IsMany f.code s.locals free e s.owed to (wanted_seen wanted) (place s) (place u + 1)) → ManySaid free e to wanted s (emitted o line u)
many_step free e to wanted s u o line keeps h = record {
  keeps = keeps_trans s u (emitted o line u) keeps (keeps_emitted o line u);
  paid = refl;
  code = λ f l. subst (λ p. IsMany f.code s.locals free e s.owed to (wanted_seen wanted) (place s) p) (sym (length_snoc u.steps (lined o line u)))
      (h f (next_emitted o line u f l) (stands_emitted o line u f l));
}

pub many_dots : (free to : ℕ) (wanted : Wanted) (s : State) → ManySaid free DotsC to wanted s (emitted (op.Dots to wanted) 0 (begun s))
many_dots free to wanted s = many_step free DotsC to wanted s (begun s) (op.Dots to wanted) 0 (keeps_begun s) (λ f l st. dots_of st.has.0)

-- the first of them
pub value_first : (free : ℕ) (e : CExp) (to : ℕ) (wanted : Wanted) (s t : State) → is_many e ≡ true → wanted_seen wanted ≡ Exactly 1 → ManySaid free e to wanted s t → ValueSaid free e to s t
value_first free e to wanted s t many one h = record { keeps = h.keeps; paid = h.paid; code = λ f single l fits. pick f single l fits }
  where
    pick : (f : Final) (single : Bool) → Later t f → Fits single e → IsValue f.code s.locals single free e s.owed to (place s) (place t)
    pick f false l fits = first_of_many (subst (λ w. IsMany f.code s.locals free e s.owed to w (place s) (place t)) one (h.code f l))
    pick f true l fits = let no : is_many e ≡ false = fits refl in cc

-- a list behind code that owes nothing
row_in : (r : ℕ) (es : CExps) (s t u : State) (count : Wanted) (f : Final) → t.locals ≡ s.locals → t.owed ≡ 0 → RowSaid r es t u count → Later u f → IsRow f.code s.locals r es 0 (place t) u.owed (place u) (wanted_seen count)
row_in r es s t u count f same paid h l =
    subst (λ c. IsRow f.code s.locals r es c (place t) u.owed (place u) (wanted_seen count)) paid
    (subst (λ ls. IsRow f.code ls r es t.owed (place t) u.owed (place u) (wanted_seen count)) same (h.code f l))

pub many_call : (free to line : ℕ) (e : CExp) (es : CExps) (arguments wanted : Wanted) (s s1 t u : State) → Reached (free + 1) (begun s) s1 → ValueSaid (free + 1) e free s1 t → RowSaid (free + 1) es t u arguments
    → ManySaid free (CallC e es line) to wanted s (emitted (op.Call to free arguments wanted) line u)
many_call free to line e es arguments wanted s s1 t u r h k =
    let v : ValueSaid (free + 1) e free (record s { owed = s.owed + 1; registers = s1.registers }) t = subst (λ x. ValueSaid (free + 1) e free x t) r.same h in
    let before : Keeps s t = keeps_trans s s1 t (keeps_trans s (begun s) s1 (keeps_begun s) (keeps_reached (free + 1) (begun s) s1 r)) h.keeps in
    many_step free (CallC e es line) to wanted s u (op.Call to free arguments wanted) line (keeps_trans s t u before k.keeps)
    (λ f l st.
    let room : free + 1 ≤ f.code.registers = has_room (free + 1) (begun s) s1 f r (h.keeps.next f (k.keeps.next f l)) in
    call_of (omega (arith, room)) (v.code f false (k.keeps.next f l) (no_fit e)) (row_in (free + 1) es s t u arguments f before.locals h.paid k l) st.has)

pub many_call_next : (n free to line : ℕ) (e : CExp) (es : CExps) (arguments wanted : Wanted) (s s1 t u : State) → n ≡ free + 1 → Reached n (begun s) s1 → ValueSaid n e free s1 t → RowSaid n es t u arguments
    → ManySaid free (CallC e es line) to wanted s (emitted (op.Call to free arguments wanted) line u)
many_call_next n free to line e es arguments wanted s s1 t u is =
    subst (λ m. Reached m (begun s) s1 → ValueSaid m e free s1 t → RowSaid m es t u arguments → ManySaid free (CallC e es line) to wanted s (emitted (op.Call to free arguments wanted) line u)) (sym is)
    (many_call free to line e es arguments wanted s s1 t u)

-- the function of a method, and its object
pub method_said : (free next name line free1 : ℕ) (e : CExp) (o : Operand) (s s1 t : State) → next ≡ free + 2 → Reached next (begun s) s1 → OperandSaid (next - 1) e s1 t o free1 → MethodSaid free e name line s (emitted (op.Method free o name) line t) next
method_said free next name line free1 e o s s1 t is reached h =
    let last : Op = op.Method free o name in
    let one : next - 1 ≡ free + 1 = omega (arith, is) in
    let here : State = record s { owed = s.owed + 1; registers = s1.registers } in
    let k : OperandSaid (free + 1) e here t o free1 = subst (λ x. OperandSaid (free + 1) e x t o free1) reached.same (subst (λ n. OperandSaid n e s1 t o free1) one h) in
    let before : Keeps s t = keeps_trans s s1 t (keeps_trans s (begun s) s1 (keeps_begun s) (keeps_reached next (begun s) s1 reached)) h.keeps in
    record {
      is = is;
      keeps = keeps_trans s t (emitted last line t) before (keeps_emitted last line t);
      paid = refl;
      code = λ f l es arguments wanted to c' pc' row calls.
          let lt = next_emitted last line t f l in
          let st = stands_emitted last line t f l in
          let room : next ≤ f.code.registers = has_room next (begun s) s1 f reached (h.keeps.next f lt) in
          method_of (omega (arith, is, room)) (k.code f false lt (no_fit e)) st.has
          (subst (λ p. IsRow f.code s.locals (free + 2) es 0 p c' pc' arguments) (length_snoc t.steps (lined last line t)) row) calls;
    }

pub many_method : (free next to name line : ℕ) (e : CExp) (es : CExps) (arguments all wanted : Wanted) (s t u : State) → MethodSaid free e name line s t next → RowSaid next es t u arguments → wanted_seen all ≡ one_more (wanted_seen arguments)
    → ManySaid free (MethodC e name es line) to wanted s (emitted (op.Call to free all wanted) line u)
many_method free next to name line e es arguments all wanted s t u h k same =
    many_step free (MethodC e name es line) to wanted s u (op.Call to free all wanted) line (keeps_trans s t u h.keeps k.keeps)
    (λ f l st.
    let row : IsRow f.code s.locals (free + 2) es 0 (place t) u.owed (place u) (wanted_seen arguments) =
    subst (λ n. IsRow f.code s.locals n es 0 (place t) u.owed (place u) (wanted_seen arguments)) h.is (row_in next es s t u arguments f h.keeps.locals h.paid k l) in
    h.code f (k.keeps.next f l) es (wanted_seen arguments) (wanted_seen wanted) to u.owed (place u) row
    (subst (λ w. HasAt f.code (place u) u.owed line (flat.CallF to free w (wanted_seen wanted))) same st.has))

-- LISTS
pub row_start : (r : ℕ) (es : CExps) (s : State) → RowSoFar r r es es s s
row_start r es s = record { keeps = keeps_same s; done = 0; counted = omega arith; code = λ f l c' pc' count h. subst (λ n. IsRow f.code s.locals r es s.owed (place s) c' pc' n) (sym (more_none count)) h }
  where
    more_none : (count : flat.Wanted) → more 0 count ≡ count
    more_none Every = refl
    more_none (Exactly n) = let e : n + 0 ≡ n = omega arith in ap Exactly e

more_next : (n : ℕ) (count : flat.Wanted) → more n (one_more count) ≡ more (n + 1) count
more_next n Every = refl
more_next n (Exactly k) = let e : k + 1 + n ≡ k + (n + 1) = omega arith in ap Exactly e

-- one more value, behind which there are others
pub row_step : (r at : ℕ) (whole : CExps) (e e' : CExp) (es : CExps) (s t t1 u : State) → RowSoFar r at whole (MoreC e (MoreC e' es)) s t → Reached (at + 1) t t1 → ValueSaid (at + 1) e at t1 u → RowSoFar r (at + 1) whole (MoreC e' es) s u
row_step r at whole e e' es s t t1 u so room h =
    let v : ValueSaid (at + 1) e at (record t { registers = t1.registers }) u = subst (λ x. ValueSaid (at + 1) e at x u) room.same h in
    let step : Keeps t u = keeps_trans t t1 u (keeps_reached (at + 1) t t1 room) h.keeps in
    let so_far : at ≡ r + so.done = so.counted in
    record {
      keeps = keeps_trans s t u so.keeps step;
      done = so.done + 1;
      counted = omega (arith, so_far);
      code = λ f l c' pc' count k.
          let enough : at + 1 ≤ f.code.registers = has_room (at + 1) t t1 f room (h.keeps.next f l) in
          let value : IsValue f.code s.locals false (at + 1) e t.owed at (place t) (place u) = subst (λ ls. IsValue f.code ls false (at + 1) e t.owed at (place t) (place u)) so.keeps.locals (v.code f false l (no_fit e)) in
          subst (λ n. IsRow f.code s.locals r whole s.owed (place s) c' pc' n) (more_next so.done count)
          (so.code f (step.next f l) c' pc' (one_more count) (row_more (omega (arith, enough)) value (subst (λ c. IsRow f.code s.locals (at + 1) (MoreC e' es) c (place u) c' pc' count) h.paid k)));
    }

pub row_turn : (n r at : ℕ) (whole : CExps) (left : List Expression) (first : Expression) (rest : List Expression) (s t t1 u : State) → n ≡ at + 1 → left ≡ first ∷ rest → 1 ≤ length rest → RowSoFar r at whole (expressions_seen left) s t → Reached n t t1
    → ValueSaid n (expression_seen first) at t1 u → RowSoFar r n whole (expressions_seen rest) s u
row_turn n r at whole left first [] s t t1 u is shape some so room h = absurd (none some)
  where
    none : 1 ≤ 0 → ⊥
    none k = omega (arith, k)
row_turn n r at whole left first (x ∷ xs) s t t1 u is shape some so room h =
    let front : RowSoFar r at whole (MoreC (expression_seen first) (MoreC (expression_seen x) (expressions_seen xs))) s t = subst (λ l. RowSoFar r at whole (expressions_seen l) s t) shape so in
    subst (λ m. Reached m t t1 → ValueSaid m (expression_seen first) at t1 u → RowSoFar r m whole (MoreC (expression_seen x) (expressions_seen xs)) s u) (sym is)
    (λ a b. row_step r at whole (expression_seen first) (expression_seen x) (expressions_seen xs) s t t1 u front a b) room h

pub row_call : (at before : ℕ) (e : CExp) (wanted count : Wanted) (s s1 t : State) → wanted_seen wanted ≡ Every → wanted_seen count ≡ Every → Reached at s s1 → ManySaid at e at wanted s1 t → RowEndSaid at before (MoreC e NoC) s t count
row_call at before e wanted count s s1 t all is reached h =
    let k : ManySaid at e at wanted (record s { registers = s1.registers }) t = subst (λ x. ManySaid at e at wanted x t) reached.same h in
    record {
      keeps = keeps_trans s s1 t (keeps_reached at s s1 reached) h.keeps;
      last = Every;
      counted = is;
      code = λ f l.
          let room : at ≤ f.code.registers = has_room at s s1 f reached (h.keeps.next f l) in
          subst (λ c. IsRow f.code s.locals at (MoreC e NoC) s.owed (place s) c (place t) Every) (sym h.paid)
          (row_many (omega (arith, room)) (subst (λ w. IsMany f.code s.locals at e s.owed at w (place s) (place t)) all (k.code f l)));
    }

pub row_value : (n at before : ℕ) (e : CExp) (count : Wanted) (s s1 t : State) → n ≡ at + 1 → is_many e ≡ false → wanted_seen count ≡ Exactly (before + 1) → Reached n s s1 → ValueSaid n e at s1 t → RowEndSaid at before (MoreC e NoC) s t count
row_value n at before e count s s1 t next one is reached h =
    let v : ValueSaid (at + 1) e at (record s { registers = s1.registers }) t = subst (λ x. ValueSaid (at + 1) e at x t) reached.same (subst (λ m. ValueSaid m e at s1 t) next h) in
    record {
      keeps = keeps_trans s s1 t (keeps_reached n s s1 reached) h.keeps;
      last = Exactly 1;
      counted = is ∙ (let e : before + 1 ≡ 1 + before = omega arith in ap Exactly e);
      code = λ f l.
          let room : n ≤ f.code.registers = has_room n s s1 f reached (h.keeps.next f l) in
          subst (λ c. IsRow f.code s.locals at (MoreC e NoC) s.owed (place s) c (place t) (Exactly 1)) (sym h.paid) (row_one (omega (arith, next, room)) (v.code f true l (λ k. one)));
    }

pub row_said : (r at : ℕ) (whole left : CExps) (count : Wanted) (s t u : State) → RowSoFar r at whole left s t → RowEndSaid at (at - r) left t u count → RowSaid r whole s u count
row_said r at whole left count s t u so h =
    let so_far : at ≡ r + so.done = so.counted in
    let before : at - r ≡ so.done = omega (arith, so_far) in
    record {
      keeps = keeps_trans s t u so.keeps h.keeps;
      code = λ f l.
          let row : IsRow f.code s.locals at left t.owed (place t) u.owed (place u) h.last = subst (λ ls. IsRow f.code ls at left t.owed (place t) u.owed (place u) h.last) so.keeps.locals (h.code f l) in
          subst (λ w. IsRow f.code s.locals r whole s.owed (place s) u.owed (place u) w) (sym (h.counted ∙ ap (λ n. more n h.last) before)) (so.code f (h.keeps.next f l) u.owed (place u) h.last row);
    }

-- FIELDS of a constructor
pub fields_start : (free table n line : ℕ) (fields : CFields) (s : State) → FieldsSoFar free table n line fields fields s s n
fields_start free table n line fields s = record { keeps = keeps_same s; paid = λ h. h; code = λ f l paid end h. h }

pub fields_turn : (free table n0 n n' line : ℕ) (whole left rest : CFields) (one : CFields → CFields) (s t u : State) → FieldsSoFar free table n0 line whole left s t n → left ≡ one rest → FieldsStep free table n line (one rest) rest t u n' → FieldsSoFar free table n0 line whole rest s u n'
fields_turn free table n0 n n' line whole left rest one s t u so is k =
    let front : FieldsSoFar free table n0 line whole (one rest) s t n = subst (λ l. FieldsSoFar free table n0 line whole l s t n) is so in
    record {
      keeps = keeps_trans s t u so.keeps k.keeps;
      paid = λ was. k.paid;
      code = λ f l paid end h.
          front.code f (k.keeps.next f l) paid end
          (subst (λ ls. IsFields f.code ls free (one rest) table n line (place t) end) so.keeps.locals
          (k.code f l (so.paid paid) end (subst (λ ls. IsFields f.code ls free rest table n' line (place u) end) (sym so.keeps.locals) h)));
    }

-- an operand of a field, behind code that owes nothing
field_operand : (free : ℕ) (e : CExp) (single : Bool) (t u : State) (o : Operand) (free' : ℕ) (f : Final) → t.owed ≡ 0 → OperandSaid free e t u o free' → Fits single e → Later u f → IsOperand f.code t.locals single free e 0 (operand_seen f.tables o) (place t) u.owed (place u) free'
field_operand free e single t u o free' f paid h fits l = subst (λ c. IsOperand f.code t.locals single free e c (operand_seen f.tables o) (place t) u.owed (place u) free') paid (h.code f single l fits)

pub item_said : (free table n line free1 : ℕ) (rest : CFields) (e : CExp) (o : Operand) (t u : State) → OperandSaid free e t u o free1 → Fits (is_last rest) e → FieldsStep free table n line (ItemC e rest) rest t (emitted (op.SetItem table n o) line u) (n + 1)
item_said free table n line free1 rest e o t u h fits =
    let last : Op = op.SetItem table n o in
    record {
      keeps = keeps_trans t u (emitted last line u) h.keeps (keeps_emitted last line u);
      paid = refl;
      code = λ f l paid end k.
          let lu = next_emitted last line u f l in
          let st = stands_emitted last line u f l in
          field_item (field_operand free e (is_last rest) t u o free1 f paid h fits lu) st.has (subst (λ p. IsFields f.code t.locals free rest table (n + 1) line p end) (length_snoc u.steps (lined last line u)) k);
    }

pub pair_said : (free table n line free1 free2 : ℕ) (rest : CFields) (key e : CExp) (a b : Operand) (t u v : State) → OperandSaid free key t u a free1 → OperandSaid free1 e u v b free2 → FieldsStep free table n line (PairC key e rest) rest t (emitted (op.SetField table a b) line v) n
pair_said free table n line free1 free2 rest key e a b t u v h k =
    let last : Op = op.SetField table a b in
    record {
      keeps = keeps_trans t v (emitted last line v) (keeps_trans t u v h.keeps k.keeps) (keeps_emitted last line v);
      paid = refl;
      code = λ f l paid end m.
          let lv = next_emitted last line v f l in
          let st = stands_emitted last line v f l in
          field_pair (field_operand free key false t u a free1 f paid h (no_fit key) (k.keeps.next f lv)) (operand_in free1 e t u v b free2 f h.keeps.locals k lv) st.has
          (subst (λ p. IsFields f.code t.locals free rest table n line p end) (length_snoc v.steps (lined last line v)) m);
    }

pub items_said : (free table n line : ℕ) (e : CExp) (wanted : Wanted) (t u : State) → wanted_seen wanted ≡ Every → ManySaid free e free wanted t u → FieldsStep free table n line (ItemC e NoFieldC) NoFieldC t (emitted (op.SetItems table n free) line u) (n + 1)
items_said free table n line e wanted t u every h =
    let last : Op = op.SetItems table n free in
    record {
      keeps = keeps_trans t u (emitted last line u) h.keeps (keeps_emitted last line u);
      paid = refl;
      code = λ f l paid end k.
          let lu = next_emitted last line u f l in
          let st = stands_emitted last line u f l in
          let many : IsMany f.code t.locals free e 0 free Every (place t) (place u) =
          subst (λ w. IsMany f.code t.locals free e 0 free w (place t) (place u)) every (subst (λ c. IsMany f.code t.locals free e c free (wanted_seen wanted) (place t) (place u)) paid (h.code f lu)) in
          let end_is : end ≡ place u + 1 = at_end f.code t.locals free table (n + 1) line (place (emitted last line u)) end k ∙ length_snoc u.steps (lined last line u) in
          subst (λ p. IsFields f.code t.locals free (ItemC e NoFieldC) table n line (place t) p) (sym end_is) (field_items many (subst (λ c. HasAt f.code (place u) c line (flat.SetItemsF table n free)) h.paid st.has));
    }
  where
    at_end : (g : flat.FlatFunction) (ls : List Local) (free table n line pc end : ℕ) → IsFields g ls free NoFieldC table n line pc end → end ≡ pc
    at_end g ls free table n line pc _ fields_end = refl

-- a constructor
pub value_table : (free to line n : ℕ) (fields : CFields) (s t : State) → to < free → to < s.registers → FieldsSoFar free to 1 line fields NoFieldC (emitted (op.Table to) 0 (begun s)) t n → ValueSaid free (TableC fields line) to s t
value_table free to line n fields s t low there so =
    let first : State = emitted (op.Table to) 0 (begun s) in
    let begins : Keeps s first = keeps_trans s (begun s) first (keeps_begun s) (keeps_emitted (op.Table to) 0 (begun s)) in
    record {
      keeps = keeps_trans s first t begins so.keeps;
      paid = so.paid refl;
      code = λ f single l fits.
          let lf = so.keeps.next f l in
          let st = stands_emitted (op.Table to) 0 (begun s) f lf in
          let room : s.registers ≤ f.code.registers = (begins.next f lf).registers in
          let is_there : to < s.registers = there in
          table_of low (omega (arith, room, is_there)) st.has.0
          (subst (λ p. IsFields f.code s.locals free fields to 1 line p (place t)) (length_snoc s.steps (lined (op.Table to) 0 (begun s))) (so.code f l refl (place t) fields_end));
    }

-- IN THE WORDS OF A FUNCTION: a node is begun first, and an operation is the last
pub said_dots : (free to : ℕ) (wanted : Wanted) (s b t : State) → b ≡ begun s → t ≡ emitted (op.Dots to wanted) 0 b → ManySaid free DotsC to wanted s t
said_dots free to wanted s b t begins ends = subst (ManySaid free DotsC to wanted s) (sym (ends ∙ ap (emitted (op.Dots to wanted) 0) begins)) (many_dots free to wanted s)

pub said_call : (n free to line : ℕ) (e : CExp) (es : CExps) (arguments wanted : Wanted) (s b s1 t u v : State) → b ≡ begun s → n ≡ free + 1 → Reached n b s1 → ValueSaid n e free s1 t → RowSaid n es t u arguments → v ≡ emitted (op.Call to free arguments wanted) line u
    → ManySaid free (CallC e es line) to wanted s v
said_call n free to line e es arguments wanted s b s1 t u v begins is r value row ends =
    subst (ManySaid free (CallC e es line) to wanted s) (sym ends) (many_call_next n free to line e es arguments wanted s s1 t u is (subst (λ x. Reached n x s1) begins r) value row)

pub method_said_by : (free next name line free1 : ℕ) (e : CExp) (o : Operand) (s b s1 t u : State) → b ≡ begun s → next ≡ free + 2 → Reached next b s1 → OperandSaid (next - 1) e s1 t o free1 → u ≡ emitted (op.Method free o name) line t → MethodSaid free e name line s u next
method_said_by free next name line free1 e o s b s1 t u begins is r h ends =
    subst (λ x. MethodSaid free e name line s x next) (sym ends) (method_said free next name line free1 e o s s1 t is (subst (λ x. Reached next x s1) begins r) h)

pub said_method : (free next to name line : ℕ) (e : CExp) (es : CExps) (arguments all wanted : Wanted) (s t u v : State) → MethodSaid free e name line s t next → RowSaid next es t u arguments → wanted_seen all ≡ one_more (wanted_seen arguments)
    → v ≡ emitted (op.Call to free all wanted) line u → ManySaid free (MethodC e name es line) to wanted s v
said_method free next to name line e es arguments all wanted s t u v h row same ends =
    subst (ManySaid free (MethodC e name es line) to wanted s) (sym ends) (many_method free next to name line e es arguments all wanted s t u h row same)

-- nothing is left of a list
pub row_ended : (r at : ℕ) (whole left : CExps) (count : Wanted) (s t : State) → RowSoFar r at whole left s t → left ≡ NoC → wanted_seen count ≡ Exactly (at - r) → RowSaid r whole s t count
row_ended r at whole left count s t so is counted =
    let ends : RowSoFar r at whole NoC s t = subst (λ l. RowSoFar r at whole l s t) is so in
    let so_far : at ≡ r + ends.done = ends.counted in
    let before : at - r ≡ 0 + ends.done = omega (arith, so_far) in
    record {
      keeps = ends.keeps;
      code = λ f l. subst (λ w. IsRow f.code s.locals r whole s.owed (place s) t.owed (place t) w) (sym (counted ∙ ap Exactly before)) (ends.code f l t.owed (place t) (Exactly 0) row_none);
    }

pub row_said_by : (r at : ℕ) (whole left last : CExps) (count : Wanted) (s t u : State) → RowSoFar r at whole left s t → left ≡ last → RowEndSaid at (at - r) last t u count → RowSaid r whole s u count
row_said_by r at whole left last count s t u so is h = row_said r at whole last count s t u (subst (λ l. RowSoFar r at whole l s t) is so) h

pub step_as : (free table n line n' : ℕ) (whole same rest : CFields) (t u : State) → whole ≡ same → FieldsStep free table n line same rest t u n' → FieldsStep free table n line whole rest t u n'
step_as free table n line n' whole same rest t u is h = subst (λ x. FieldsStep free table n line x rest t u n') (sym is) h

pub step_to : (free table n line next last : ℕ) (whole rest : CFields) (t u : State) → next ≡ last → FieldsStep free table n line whole rest t u last → FieldsStep free table n line whole rest t u next
step_to free table n line next last whole rest t u is h = subst (FieldsStep free table n line whole rest t u) (sym is) h

pub all_items : (free table n line next last : ℕ) (rest : CFields) (e : CExp) (t u : State) → rest ≡ NoFieldC → next ≡ last → FieldsStep free table n line (ItemC e NoFieldC) NoFieldC t u last → FieldsStep free table n line (ItemC e rest) rest t u next
all_items free table n line next last rest e t u none is h = subst (λ r. FieldsStep free table n line (ItemC e r) r t u next) (sym none) (step_to free table n line next last (ItemC e NoFieldC) NoFieldC t u is h)

pub item_said_by : (free table n line free1 : ℕ) (rest : CFields) (e : CExp) (o : Operand) (t u v : State) → OperandSaid free e t u o free1 → Fits (is_last rest) e → v ≡ emitted (op.SetItem table n o) line u → FieldsStep free table n line (ItemC e rest) rest t v (n + 1)
item_said_by free table n line free1 rest e o t u v h fits ends = subst (λ x. FieldsStep free table n line (ItemC e rest) rest t x (n + 1)) (sym ends) (item_said free table n line free1 rest e o t u h fits)

pub pair_said_by : (free table n line free1 free2 : ℕ) (rest : CFields) (key e : CExp) (a b : Operand) (t u v w : State) → OperandSaid free key t u a free1 → OperandSaid free1 e u v b free2 → w ≡ emitted (op.SetField table a b) line v
    → FieldsStep free table n line (PairC key e rest) rest t w n
pair_said_by free table n line free1 free2 rest key e a b t u v w h k ends = subst (λ x. FieldsStep free table n line (PairC key e rest) rest t x n) (sym ends) (pair_said free table n line free1 free2 rest key e a b t u v h k)

pub items_said_by : (free table n line : ℕ) (e : CExp) (wanted : Wanted) (t u v : State) → wanted_seen wanted ≡ Every → ManySaid free e free wanted t u → v ≡ emitted (op.SetItems table n free) line u → FieldsStep free table n line (ItemC e NoFieldC) NoFieldC t v (n + 1)
items_said_by free table n line e wanted t u v every h ends = subst (λ x. FieldsStep free table n line (ItemC e NoFieldC) NoFieldC t x (n + 1)) (sym ends) (items_said free table n line e wanted t u every h)

pub value_table_by : (free to line n : ℕ) (fields left : CFields) (s b first t : State) → to < free → to < s.registers → b ≡ begun s → first ≡ emitted (op.Table to) 0 b → FieldsSoFar free to 1 line fields left first t n → left ≡ NoFieldC → ValueSaid free (TableC fields line) to s t
value_table_by free to line n fields left s b first t low there begins made so none =
    value_table free to line n fields s t low there
    (subst (λ x. FieldsSoFar free to 1 line fields NoFieldC x t n) (made ∙ ap (emitted (op.Table to) 0) begins) (subst (λ l. FieldsSoFar free to 1 line fields l first t n) none so))
