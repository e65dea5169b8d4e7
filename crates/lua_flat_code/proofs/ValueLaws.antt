-- Code of expressions, put together from that of their parts.
use Rattle.std.proofs.Common.{◌≡◌, ◌∙◌, ◌≤◌, ◌<◌, ◌-◌, ℕ, ◌+◌, ◌^◌, Bool, true, false, List, ◌∷◌, ◌++◌, slice_get, Some, refl, sym, ap, subst, arith}
use Rattle.lua_syntax.specs.declared.UnaryOp.{UnaryOp}
use Rattle.lua_flat.specs.LuaSlotsCode.{Place, Reg, Box, Up, CExp, ConstantC, TextC, LocalC, FunctionC, GlobalC, IndexC, AndC, OrC, OperateC, UnaryC, ParenC}
use Rattle.lua_flat.specs.Operations as flat
use Rattle.lua_flat.specs.Locals as locals
use Rattle.lua_flat.specs.IsExpression.{Has, IsThere, there_local, there_constant, there_text, IsOperand, in_place, made, IsValue, loaded, closure_of, cell_of, captured_of, global_of, index_of, operate_of, unary_of, and_of, or_of, paren_of}
use Rattle.lua_code.specs.declared.operator.Operator.{Operator}
use Rattle.lua_code.specs.declared.place.Place.{Place as PlaceHeld}
use Rattle.lua_code.specs.declared.place.Place.TheVariants as place_held
use Rattle.lua_code.specs.Seen.{place_seen, operator_seen}
use Rattle.lua_flat_code.specs.declared.operand.Constant.{Constant}
use Rattle.lua_flat_code.specs.declared.operand.Operand.{Operand}
use Rattle.lua_flat_code.specs.declared.op.Op.{Op}
use Rattle.lua_flat_code.specs.declared.op.Op.TheVariants as op
use Rattle.lua_flat_code.specs.Seen.{constant_seen, operand_seen}
use Rattle.lua_flat_code.specs.Making.{State, place, aim, Final, Stands, Later, Next, begun, lined, emitted, Reached, Led}
use Rattle.lua_flat_code.specs.Parts.{Keeps, Fits, either_of, ThereSaid, OperandSaid, ValueSaid, ConstantSaid, OriginsSaid}
use Rattle.lua_flat_code.proofs.MakingLaws.{length_snoc, next_same, next_trans, next_begun, next_emitted, stands_emitted, next_reached, has_room, is_register}

pub keeps_same : (s : State) → Keeps s s
keeps_same s = record { next = next_same s; locals = refl; breaks = refl }

pub keeps_trans : (s t u : State) → Keeps s t → Keeps t u → Keeps s u
keeps_trans s t u h k = record { next = next_trans s t u h.next k.next; locals = k.locals ∙ h.locals; breaks = k.breaks ∙ h.breaks }

pub keeps_begun : (s : State) → Keeps s (begun s)
keeps_begun s = record { next = next_begun s; locals = refl; breaks = refl }

pub keeps_emitted : (o : Op) (line : ℕ) (s : State) → Keeps s (emitted o line s)
keeps_emitted o line s = record { next = next_emitted o line s; locals = refl; breaks = refl }

pub keeps_reached : (n : ℕ) (s t : State) → Reached n s t → Keeps s t
keeps_reached n s t h = record { next = next_reached n s t h; locals = ap (λ u. u.locals) h.same; breaks = ap (λ u. u.breaks) h.same }

pub no_fit : (e : CExp) → Fits false e
no_fit e = λ h. cc

-- one more operation is the last of a value
pub one_step : (free : ℕ) (e : CExp) (to : ℕ) (s u : State) (o : Op) (line : ℕ) → Keeps s u
    → ((f : Final) (single : Bool) → Later u f → Fits single e → Stands f (place u) (lined o line u) → IsValue f.code s.locals single free e s.owed to (place s) (place u + 1)) → ValueSaid free e to s (emitted o line u)
one_step free e to s u o line keeps h = record {
  keeps = keeps_trans s u (emitted o line u) keeps (keeps_emitted o line u);
  paid = refl;
  code = λ f single l fits. subst (λ p. IsValue f.code s.locals single free e s.owed to (place s) p) (sym (length_snoc u.steps (lined o line u)))
      (h f single (next_emitted o line u f l) fits (stands_emitted o line u f l));
}

-- OPERANDS
pub operand_there : (free : ℕ) (e : CExp) (s s1 t : State) (o : Operand) → ThereSaid s s1 e o → t ≡ begun s1 → OperandSaid free e s t o free
operand_there free e s s1 t o h is =
    let with : State = record s { constants = s1.constants } in
    let next : Next s with = subst (Next s) h.same h.next in
    let code : (f : Final) → Later with f → IsThere s.locals e (operand_seen f.tables o) = subst (λ u. (f : Final) → Later u f → IsThere s.locals e (operand_seen f.tables o)) h.same h.code in
    subst (λ u. OperandSaid free e s u o free) (sym (is ∙ ap begun h.same)) (record {
      keeps = record { next = next_trans s with (begun with) next (next_begun with); locals = refl; breaks = refl };
      code = λ f single l fits. in_place (code f (next_begun with f l));
    })

pub operand_made : (free : ℕ) (e : CExp) (s s1 t : State) (o : Operand) → Reached (free + 1) s s1 → ValueSaid (free + 1) e free s1 t → o.code ≡ free → free < 2 ^ 31 → OperandSaid free e s t o (free + 1)
operand_made free e s s1 t o r h is below =
    let k : ValueSaid (free + 1) e free (record s { registers = s1.registers }) t = subst (λ u. ValueSaid (free + 1) e free u t) r.same h in
    record {
      keeps = keeps_trans s s1 t (keeps_reached (free + 1) s s1 r) h.keeps;
      code = λ f single l fits.
          let room : free + 1 ≤ f.code.registers = has_room (free + 1) s s1 f r (h.keeps.next f l) in
          subst (λ c. IsOperand f.code s.locals single free e s.owed (operand_seen f.tables o) (place s) c (place t) (free + 1)) (sym h.paid)
          (subst (λ x. IsOperand f.code s.locals single free e s.owed x (place s) 0 (place t) (free + 1)) (sym (is_register f.tables o free is below))
          (made (omega (arith, room)) (k.code f single l fits)));
    }

-- where the next register has a name
pub operand_next : (n free : ℕ) (e : CExp) (s s0 s1 t : State) (o : Operand) → n ≡ free + 1 → s0 ≡ s → Reached n s0 s1 → ValueSaid n e free s1 t → o.code ≡ free → free < 2 ^ 31 → OperandSaid free e s t o n
operand_next n free e s s0 s1 t o is same r v code below =
    subst (λ x. OperandSaid free e x t o n) same
    (subst (λ m. Reached m s0 s1 → ValueSaid m e free s1 t → OperandSaid free e s0 t o m) (sym is) (λ r v. operand_made free e s0 s1 t o r v code below) r v)

-- an operand at another state with the same variables
pub operand_in : (free : ℕ) (e : CExp) (s t u : State) (o : Operand) (free' : ℕ) (f : Final) → t.locals ≡ s.locals → OperandSaid free e t u o free' → Later u f → IsOperand f.code s.locals false free e t.owed (operand_seen f.tables o) (place t) u.owed (place u) free'
operand_in free e s t u o free' f same h l = subst (λ ls. IsOperand f.code ls false free e t.owed (operand_seen f.tables o) (place t) u.owed (place u) free') same (h.code f false l (no_fit e))

-- VALUES
pub value_loaded : (free : ℕ) (e : CExp) (to : ℕ) (s s1 t : State) (o : Operand) → ThereSaid s s1 e o → t ≡ emitted (op.Load to o) 0 (begun s1) → ValueSaid free e to s t
value_loaded free e to s s1 t o h is =
    let with : State = record s { constants = s1.constants } in
    let next : Next s with = subst (Next s) h.same h.next in
    let code : (f : Final) → Later with f → IsThere s.locals e (operand_seen f.tables o) = subst (λ u. (f : Final) → Later u f → IsThere s.locals e (operand_seen f.tables o)) h.same h.code in
    subst (ValueSaid free e to s) (sym (is ∙ ap (λ u. emitted (op.Load to o) 0 (begun u)) h.same))
    (one_step free e to s (begun with) (op.Load to o) 0 (record { next = next_trans s with (begun with) next (next_begun with); locals = refl; breaks = refl })
    (λ f single l fits st. loaded (code f (next_begun with f l)) st.has.0))

pub value_cell : (free to i r : ℕ) (s : State) → slice_get s.locals i ≡ Some (locals.CellL r) → ValueSaid free (LocalC (Box i)) to s (emitted (op.GetCell to r) 0 (begun s))
value_cell free to i r s is = one_step free (LocalC (Box i)) to s (begun s) (op.GetCell to r) 0 (keeps_begun s) (λ f single l fits st. cell_of is st.has.0)

pub value_captured : (free to i : ℕ) (s : State) → ValueSaid free (LocalC (Up i)) to s (emitted (op.GetUp to i) 0 (begun s))
value_captured free to i s = one_step free (LocalC (Up i)) to s (begun s) (op.GetUp to i) 0 (keeps_begun s) (λ f single l fits st. captured_of st.has.0)

pub value_global : (free to name line : ℕ) (s : State) → ValueSaid free (GlobalC name line) to s (emitted (op.GetGlobal to name) line (begun s))
value_global free to name line s = one_step free (GlobalC name line) to s (begun s) (op.GetGlobal to name) line (keeps_begun s) (λ f single l fits st. global_of st.has)

pub value_closure : (free to index first count : ℕ) (places : List Place) (s t : State) → OriginsSaid places (begun s) t first count → ValueSaid free (FunctionC index places) to s (emitted (op.Closure to index first count) 0 t)
value_closure free to index first count places s t h =
    let with : State = record s { owed = s.owed + 1; origins = t.origins } in
    subst (λ u. ValueSaid free (FunctionC index places) to s (emitted (op.Closure to index first count) 0 u)) (sym h.same)
    (one_step free (FunctionC index places) to s with (op.Closure to index first count) 0
    (record { next = next_trans s (begun s) with (next_begun s) (subst (Next (begun s)) h.same h.next); locals = refl; breaks = refl })
    (λ f single l fits st. closure_of (h.code f (subst (λ u. Later u f) (sym h.same) l)) st.has.0))

pub value_index : (free to line free1 free2 : ℕ) (of key : CExp) (a b : Operand) (s t u : State) → OperandSaid free of (begun s) t a free1 → OperandSaid free1 key t u b free2 → ValueSaid free (IndexC of key line) to s (emitted (op.Index to a b) line u)
value_index free to line free1 free2 of key a b s t u h k =
    one_step free (IndexC of key line) to s u (op.Index to a b) line (keeps_trans s t u (keeps_trans s (begun s) t (keeps_begun s) h.keeps) k.keeps)
    (λ f single l fits st. index_of (h.code f false (k.keeps.next f l) (no_fit of)) (operand_in free1 key s t u b free2 f h.keeps.locals k l) st.has)

pub value_operate : (free to line free1 free2 : ℕ) (which : Operator) (x y : CExp) (a b : Operand) (s t u : State) → OperandSaid free x (begun s) t a free1 → OperandSaid free1 y t u b free2
    → ValueSaid free (OperateC (operator_seen which) x y line) to s (emitted (op.Operate which to a b) line u)
value_operate free to line free1 free2 which x y a b s t u h k =
    one_step free (OperateC (operator_seen which) x y line) to s u (op.Operate which to a b) line (keeps_trans s t u (keeps_trans s (begun s) t (keeps_begun s) h.keeps) k.keeps)
    (λ f single l fits st. operate_of (h.code f false (k.keeps.next f l) (no_fit x)) (operand_in free1 y s t u b free2 f h.keeps.locals k l) st.has)

pub value_unary : (free to line free1 : ℕ) (which : UnaryOp) (x : CExp) (a : Operand) (s t : State) → OperandSaid free x (begun s) t a free1 → ValueSaid free (UnaryC which x line) to s (emitted (op.Unary which to a) line t)
value_unary free to line free1 which x a s t h =
    one_step free (UnaryC which x line) to s t (op.Unary which to a) line (keeps_trans s (begun s) t (keeps_begun s) h.keeps)
    (λ f single l fits st. unary_of (h.code f false l (no_fit x)) st.has)

pub value_paren : (free to : ℕ) (x : CExp) (s t : State) → ValueSaid free x to (begun s) t → ValueSaid free (ParenC x) to s t
value_paren free to x s t h = record {
  keeps = keeps_trans s (begun s) t (keeps_begun s) h.keeps;
  paid = h.paid;
  code = λ f single l fits. paren_of (h.code f false l (no_fit x));
}

-- `and` and `or`: a test behind the first operand, which leads behind the second one
pub test_stands : (when : Bool) (to : ℕ) (o : Operand) (t u w : State) (f : Final) → o.code ≡ to → to < 2 ^ 31 → t.owed ≡ 0 → Led (place t) (place u) u w → Next (emitted (op.Test when o (2 ^ 32 - 1)) 0 t) u → Later w f
    → Has f.code (place t) 0 (flat.TestF when (flat.RegisterO to) (place u))
test_stands when to o t u w f is below paid led next l =
    let st = stands_emitted (op.Test when o (2 ^ 32 - 1)) 0 t f (next f (led.next f l)) in
    let lead : Some (aim st.to (2 ^ 32 - 1)) ≡ Some (place u) = led.leads f l _ st.has.0 in
    let target : aim st.to (2 ^ 32 - 1) ≡ place u = cc in
    subst (λ c. Has f.code (place t) c (flat.TestF when (flat.RegisterO to) (place u))) paid
    (subst (λ x. Has f.code (place t) t.owed (flat.TestF when (flat.RegisterO to) x)) target
    (subst (λ x. Has f.code (place t) t.owed (flat.TestF when x (aim st.to (2 ^ 32 - 1)))) (is_register f.tables o to is below) st.has.0))

-- the second operand, behind the test
behind_test : (free : ℕ) (y : CExp) (to : ℕ) (when : Bool) (o : Operand) (s t u : State) (f : Final) → t.locals ≡ s.locals → ValueSaid free y to (emitted (op.Test when o (2 ^ 32 - 1)) 0 t) u → Later u f → IsValue f.code s.locals false free y 0 to (place t + 1) (place u)
behind_test free y to when o s t u f same h l =
    subst (λ p. IsValue f.code s.locals false free y 0 to p (place u)) (length_snoc t.steps (lined (op.Test when o (2 ^ 32 - 1)) 0 t))
    (subst (λ ls. IsValue f.code ls false free y 0 to (place (emitted (op.Test when o (2 ^ 32 - 1)) 0 t)) (place u)) same (h.code f false l (no_fit y)))

either_keeps : (when : Bool) (o : Operand) (s t u w : State) → Keeps (begun s) t → Keeps (emitted (op.Test when o (2 ^ 32 - 1)) 0 t) u → Led (place t) (place u) u w → Keeps s w
either_keeps when o s t u w h k led =
    let test : State = emitted (op.Test when o (2 ^ 32 - 1)) 0 t in
    keeps_trans s u w (keeps_trans s test u (keeps_trans s t test (keeps_trans s (begun s) t (keeps_begun s) h) (keeps_emitted (op.Test when o (2 ^ 32 - 1)) 0 t)) k)
    (record { next = led.next; locals = ap (λ v. v.locals) led.same; breaks = ap (λ v. v.breaks) led.same })

pub value_and : (free to : ℕ) (x y : CExp) (o : Operand) (s t u w : State) → ValueSaid free x to (begun s) t → o.code ≡ to → to < 2 ^ 31 → ValueSaid free y to (emitted (op.Test false o (2 ^ 32 - 1)) 0 t) u → Led (place t) (place u) u w → ValueSaid free (AndC x y) to s w
value_and free to x y o s t u w h is below k led = record {
  keeps = either_keeps false o s t u w h.keeps k.keeps led;
  paid = ap (λ v. v.owed) led.same ∙ k.paid;
  code = λ f single l fits. subst (λ p. IsValue f.code s.locals single free (AndC x y) s.owed to (place s) p) (sym led.place)
      (and_of (h.code f false (next_emitted (op.Test false o (2 ^ 32 - 1)) 0 t f (k.keeps.next f (led.next f l))) (no_fit x)) (test_stands false to o t u w f is below h.paid led k.keeps.next l)
      (behind_test free y to false o s t u f h.keeps.locals k (led.next f l)));
}

pub value_or : (free to : ℕ) (x y : CExp) (o : Operand) (s t u w : State) → ValueSaid free x to (begun s) t → o.code ≡ to → to < 2 ^ 31 → ValueSaid free y to (emitted (op.Test true o (2 ^ 32 - 1)) 0 t) u → Led (place t) (place u) u w → ValueSaid free (OrC x y) to s w
value_or free to x y o s t u w h is below k led = record {
  keeps = either_keeps true o s t u w h.keeps k.keeps led;
  paid = ap (λ v. v.owed) led.same ∙ k.paid;
  code = λ f single l fits. subst (λ p. IsValue f.code s.locals single free (OrC x y) s.owed to (place s) p) (sym led.place)
      (or_of (h.code f false (next_emitted (op.Test true o (2 ^ 32 - 1)) 0 t f (k.keeps.next f (led.next f l))) (no_fit x)) (test_stands true to o t u w f is below h.paid led k.keeps.next l)
      (behind_test free y to true o s t u f h.keeps.locals k (led.next f l)));
}

-- IN THE WORDS OF A FUNCTION: a node is begun first, and an operation is the last
pub said_cell : (p : PlaceHeld) (to i r : ℕ) (s b t : State) → p ≡ place_held.Cell i → b ≡ begun s → slice_get b.locals i ≡ Some (locals.CellL r) → t ≡ emitted (op.GetCell to r) 0 b → (free : ℕ) → ValueSaid free (LocalC (place_seen p)) to s t
said_cell p to i r s b t which begins is ends free =
    let there : slice_get s.locals i ≡ Some (locals.CellL r) = ap (λ (x : State). slice_get x.locals i) (sym begins) ∙ is in
    subst (λ q. ValueSaid free (LocalC (place_seen q)) to s t) (sym which) (subst (ValueSaid free (LocalC (Box i)) to s) (sym (ends ∙ ap (emitted (op.GetCell to r) 0) begins)) (value_cell free to i r s there))

pub said_captured : (p : PlaceHeld) (to i n : ℕ) (s b t : State) → p ≡ place_held.Captured i → b ≡ begun s → n ≡ i → t ≡ emitted (op.GetUp to n) 0 b → (free : ℕ) → ValueSaid free (LocalC (place_seen p)) to s t
said_captured p to i n s b t which begins is ends free =
    subst (λ q. ValueSaid free (LocalC (place_seen q)) to s t) (sym which)
    (subst (ValueSaid free (LocalC (Up i)) to s) (sym (ends ∙ ap (λ m. emitted (op.GetUp to m) 0 b) is ∙ ap (emitted (op.GetUp to i) 0) begins)) (value_captured free to i s))

pub said_global : (to name line : ℕ) (s b t : State) → b ≡ begun s → t ≡ emitted (op.GetGlobal to name) line b → (free : ℕ) → ValueSaid free (GlobalC name line) to s t
said_global to name line s b t begins ends free = subst (ValueSaid free (GlobalC name line) to s) (sym (ends ∙ ap (emitted (op.GetGlobal to name) line) begins)) (value_global free to name line s)

pub said_closure : (to index first count : ℕ) (places : List Place) (s b t u : State) → b ≡ begun s → OriginsSaid places b t first count → u ≡ emitted (op.Closure to index first count) 0 t → (free : ℕ) → ValueSaid free (FunctionC index places) to s u
said_closure to index first count places s b t u begins h ends free =
    subst (ValueSaid free (FunctionC index places) to s) (sym ends) (value_closure free to index first count places s t (subst (λ x. OriginsSaid places x t first count) begins h))

pub said_index : (free to line free1 free2 : ℕ) (of key : CExp) (a k : Operand) (s b t u v : State) → b ≡ begun s → OperandSaid free of b t a free1 → OperandSaid free1 key t u k free2 → v ≡ emitted (op.Index to a k) line u → ValueSaid free (IndexC of key line) to s v
said_index free to line free1 free2 of key a k s b t u v begins h second ends =
    subst (ValueSaid free (IndexC of key line) to s) (sym ends) (value_index free to line free1 free2 of key a k s t u (subst (λ x. OperandSaid free of x t a free1) begins h) second)

pub said_operate : (free to line free1 free2 : ℕ) (which : Operator) (x y : CExp) (a k : Operand) (s b t u v : State) → b ≡ begun s → OperandSaid free x b t a free1 → OperandSaid free1 y t u k free2 → v ≡ emitted (op.Operate which to a k) line u
    → ValueSaid free (OperateC (operator_seen which) x y line) to s v
said_operate free to line free1 free2 which x y a k s b t u v begins h second ends =
    subst (ValueSaid free (OperateC (operator_seen which) x y line) to s) (sym ends) (value_operate free to line free1 free2 which x y a k s t u (subst (λ z. OperandSaid free x z t a free1) begins h) second)

pub said_unary : (free to line free1 : ℕ) (which : UnaryOp) (x : CExp) (a : Operand) (s b t u : State) → b ≡ begun s → OperandSaid free x b t a free1 → u ≡ emitted (op.Unary which to a) line t → ValueSaid free (UnaryC which x line) to s u
said_unary free to line free1 which x a s b t u begins h ends =
    subst (ValueSaid free (UnaryC which x line) to s) (sym ends) (value_unary free to line free1 which x a s t (subst (λ z. OperandSaid free x z t a free1) begins h))

pub said_first : (free to : ℕ) (x : CExp) (s b t : State) → b ≡ begun s → ValueSaid free x to b t → ValueSaid free (ParenC x) to s t
said_first free to x s b t begins h = value_paren free to x s t (subst (λ z. ValueSaid free x to z t) begins h)

pub said_either : (when : Bool) (free to jump end : ℕ) (x y : CExp) (o : Operand) (s b t j u w : State) → b ≡ begun s → ValueSaid free x to b t → (o.code ≡ to) → to < 2 ^ 31 → jump ≡ place t → j ≡ emitted (op.Test when o (2 ^ 32 - 1)) 0 t → ValueSaid free y to j u
    → end ≡ place u → Led jump end u w → ValueSaid free (either_of when x y) to s w
said_either when free to jump end x y o s b t j u w begins h is below at jumped k ends led0 =
    go when (subst (λ z. ValueSaid free y to z u) jumped k)
  where
    go : (b2 : Bool) → ValueSaid free y to (emitted (op.Test b2 o (2 ^ 32 - 1)) 0 t) u → ValueSaid free (either_of b2 x y) to s w
    go false second = value_and free to x y o s t u w (subst (λ z. ValueSaid free x to z t) begins h) is below second (subst (λ n. Led n (place u) u w) at (subst (λ n. Led jump n u w) ends led0))
    go true second = value_or free to x y o s t u w (subst (λ z. ValueSaid free x to z t) begins h) is below second (subst (λ n. Led n (place u) u w) at (subst (λ n. Led jump n u w) ends led0))

-- WHAT IS READ WHERE IT STANDS
pub there_plain : (p : PlaceHeld) (i r : ℕ) (o : Operand) (s : State) → p ≡ place_held.Register i → slice_get s.locals i ≡ Some (locals.PlainL r) → o.code ≡ r → r < 2 ^ 31 → ThereSaid s s (LocalC (place_seen p)) o
there_plain p i r o s which is code below = subst (λ q. ThereSaid s s (LocalC (place_seen q)) o) (sym which) (record {
  next = next_same s;
  same = refl;
  code = λ f l. subst (IsThere s.locals (LocalC (Reg i))) (sym (is_register f.tables o r code below)) (there_local is);
})

pub there_constant_said : (c : Constant) (o : Operand) (s t : State) → ConstantSaid (constant_seen c) o s t → ThereSaid s t (ConstantC (constant_seen c)) o
there_constant_said c o s t h = record { next = h.next; same = h.same; code = λ f l. subst (IsThere s.locals (ConstantC (constant_seen c))) (sym (h.code f l)) there_constant }

pub there_text_said : (number : ℕ) (o : Operand) (s : State) → ((f : Final) → Later s f → operand_seen f.tables o ≡ flat.TextO number) → ThereSaid s s (TextC number) o
there_text_said number o s h = record { next = next_same s; same = refl; code = λ f l. subst (IsThere s.locals (TextC number)) (sym (h f l)) there_text }
