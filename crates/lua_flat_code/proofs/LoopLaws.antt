-- Code of loops, put together from that of their parts.
use Rattle.std.proofs.Common.{◌≡◌, ◌≢◌, ◌∙◌, ◌≤◌, ◌<◌, ◌-◌, ℕ, ◌+◌, ◌^◌, Bool, true, false, List, [], ◌∷◌, ◌++◌, length, drop, Option, Some, None, refl, sym, ap, subst, arith}
use Rattle.std.specs.Prelude.{pos, nat_eq}
use Rattle.lua_heap.specs.Value.{Number}
use Rattle.lua_flat.specs.LuaSlotsCode.{CExp, CExps, WhileC, RepeatC, CountC, CountByC, EachC, CBlock, EndC}
use Rattle.lua_flat.specs.Operations as flat
use Rattle.lua_flat.specs.Locals.{local_of, with_row}
use Rattle.lua_flat.specs.IsExpression.{Has, HasAt, IsValue, IsTest}
use Rattle.lua_flat.specs.IsStatement.{IsOpening, IsStat, while_loop, repeat_loop, count_loop, count_by_loop, each_loop, IsBlock, block_end}
use Rattle.std.specs.declared.alloc.Global.{Global}
use Rattle.std.specs.declared.boxed.Box.{Box}
use Rattle.lua_code.specs.declared.expression.Expression.{Expression}
use Rattle.lua_code.specs.Seen.{expression_seen}
use Rattle.lua_flat_code.specs.declared.operand.Operand.{Operand}
use Rattle.lua_flat_code.specs.declared.op.Op.{Op}
use Rattle.lua_flat_code.specs.declared.op.Op.TheVariants as op
use Rattle.lua_flat_code.specs.Seen.{operand_seen}
use Rattle.lua_flat_code.specs.Making.{State, place, aim, AllLead, Final, Later, Next, begun, lined, emitted, with_breaks, closed, Settled, Reached, Led, AllLed}
use Rattle.lua_flat_code.specs.Parts.{Keeps, ValueSaid, ExactSaid, ConstantSaid, TestSaid, ConditionSaid, OpenSaid, RowDeclared, AllBreak, BlockSoFar}
use Rattle.lua_flat_code.specs.Whole.{step_seen, TurnCode, CountCode, EachCode, BegunStat, BlockSaid, count_of, UntilSaid, TurnSaid, CountSaid, CountLoopSaid, EachSaid, EachLoopSaid}
use Rattle.lua_flat_code.proofs.Handed.{taken_off}
use Rattle.lua_flat_code.proofs.MakingLaws.{length_snoc, same_there, aim_closed, next_trans, next_begun, next_aside, next_row, next_emitted, stands_emitted}
use Rattle.lua_flat_code.proofs.ValueLaws.{keeps_trans, keeps_reached, no_fit}
use Rattle.lua_flat_code.proofs.StatementLaws.{breaks_kept, row_above}
use Rattle.lua_flat_code.proofs.ChoiceLaws.{settled_paid, settled_keeps, settled_joins}

-- A JUMP BACK has its target from the first
not_open : (to : ℕ) → to < 2 ^ 32 - 1 → nat_eq to (2 ^ 32 - 1) ≡ false
not_open to low = grind arith

pub jumps_back : (to : ℕ) (s : State) (f : Final) → to < 2 ^ 32 - 1 → Later (emitted (op.Jump to) 0 s) f → Has f.code (place s) s.owed (flat.JumpF to)
jumps_back to s f low l =
    let st = stands_emitted (op.Jump to) 0 s f l in
    subst (λ x. Has f.code (place s) s.owed (flat.JumpF x)) (aim_closed st.to to (not_open to low)) st.has.0

-- A LOOP IS LEFT: jumps out of it lead behind it, and those out of the loop around it are back
pub left_next : (outer : List ℕ) (s t : State) → AllLed s.breaks (place s) (with_breaks outer s) t → Next s t
left_next outer s t led = next_trans s (with_breaks outer s) t (next_aside s.owed s.locals outer s) led.next

-- `while`
pub begun_while : (free top : ℕ) (test : CExp) (b : CBlock) (misses : List ℕ) (old c v w x : State) → top ≡ place (emitted op.Pay 0 old) → top < 2 ^ 32 - 1 → ConditionSaid free test [] misses (emitted op.Pay 0 old) c → BlockSaid free b (with_breaks [] (begun c)) v
    → AllLed misses (place (emitted (op.Jump top) 0 v)) (emitted (op.Jump top) 0 v) w → AllLed w.breaks (place w) (with_breaks c.breaks w) x → BegunStat free (WhileC test b) old x
begun_while free top test b misses old c v w x at low cond block led left = λ s is.
    let jumped : State = emitted (op.Jump top) 0 v in
    let pay : State = emitted op.Pay 0 (begun s) in
    let first : ConditionSaid free test [] misses pay c = subst (λ y. ConditionSaid free test [] misses (emitted op.Pay 0 y) c) is cond in
    let enter : Next c (with_breaks [] (begun c)) = next_aside (c.owed + 1) c.locals [] c in
    let body_on : Next v x = next_trans v w x (next_trans v jumped w (next_emitted (op.Jump top) 0 v) led.next) (left_next c.breaks w x left) in
    let c_on : Next c x = next_trans c (with_breaks [] (begun c)) x enter (next_trans (with_breaks [] (begun c)) v x block.next body_on) in
    let to_pay : Next s pay = next_trans s (begun s) pay (next_begun s) (next_emitted op.Pay 0 (begun s)) in
    let vars : x.locals ≡ s.locals = ap (λ (y : State). y.locals) left.same ∙ ap (λ (y : State). y.locals) led.same ∙ block.locals ∙ first.keeps.locals in
    let jumps : x.breaks ≡ s.breaks = ap (λ (y : State). y.breaks) left.same ∙ first.keeps.breaks in
    let top_is : top ≡ place s + 1 = at ∙ ap (λ (y : State). place (emitted op.Pay 0 y)) is ∙ length_snoc s.steps (lined op.Pay 0 (begun s)) in
    let end_is : place jumped ≡ place v + 1 = length_snoc v.steps (lined (op.Jump top) 0 v) in
    record {
      next = next_trans s pay x to_pay (next_trans pay c x first.keeps.next c_on);
      locals = vars;
      breaks = breaks_kept s x jumps;
      code = λ f l away out.
          let lw = left_next c.breaks w x left f l in
          let lj = led.next f lw in
          let lv = next_emitted (op.Jump top) 0 v f lj in
          let lc = c_on f l in
          let lp = first.keeps.next f lc in
          let st = stands_emitted op.Pay 0 (begun s) f lp in
          let out_of : AllLead f.code v.breaks (place jumped) =
          subst (λ p. AllLead f.code v.breaks p) led.place (subst (λ js. AllLead f.code js (place w)) (ap (λ (y : State). y.breaks) led.same) (left.lead f l)) in
          let body = block.code f lv (Some (place jumped)) out_of in
          let turn : IsBlock f.code (Some (place jumped)) s.locals free b (c.owed + 1) (place c) v.owed (place v) body.0 body.1 =
          subst (λ ls. IsBlock f.code (Some (place jumped)) ls free b (c.owed + 1) (place c) v.owed (place v) body.0 body.1) first.keeps.locals body.2 in
          let tests : IsTest f.code s.locals free test 0 (place pay) (place c) c.owed (place jumped) 0 = first.code f lc (place jumped) (led.lead f lw) in
          let back : Has f.code (place v) v.owed (flat.JumpF (place s + 1)) = subst (λ p. Has f.code (place v) v.owed (flat.JumpF p)) top_is (jumps_back top v f low lj) in
          let paid : x.owed ≡ 0 = ap (λ (y : State). y.owed) left.same ∙ ap (λ (y : State). y.owed) led.same in
          let ends : place x ≡ place v + 1 = left.place ∙ led.place ∙ end_is in
          subst (λ p. IsStat f.code away s.locals free (WhileC test b) s.owed (place s) x.owed p) (sym ends)
          (subst (λ n. IsStat f.code away s.locals free (WhileC test b) s.owed (place s) n (place v + 1)) (sym paid)
          (while_loop st.has.0 (subst (λ p. IsTest f.code s.locals free test 0 (place s + 1) (place c) c.owed p 0) end_is
          (subst (λ p. IsTest f.code s.locals free test 0 p (place c) c.owed (place jumped) 0) (length_snoc s.steps (lined op.Pay 0 (begun s))) tests))
          (subst (λ p. IsBlock f.code (Some p) s.locals free b (c.owed + 1) (place c) v.owed (place v) body.0 body.1) end_is turn) back));
    }

-- `repeat`
pub until_said : (free top : ℕ) (e : CExp) (hits misses : List ℕ) (s t u v : State) → TestSaid free e true [] hits [] misses s t → AllLed hits (place t) t u → AllLed misses top u v → UntilSaid free e top s v
until_said free top e hits misses s t u v h hit miss =
    let keeps : Keeps t v = record {
      next = next_trans t u v hit.next miss.next;
      locals = ap (λ (y : State). y.locals) miss.same ∙ ap (λ (y : State). y.locals) hit.same;
      breaks = ap (λ (y : State). y.breaks) miss.same ∙ ap (λ (y : State). y.breaks) hit.same;
    } in
    record {
      keeps = keeps_trans s t v h.keeps keeps;
      paid = ap (λ (y : State). y.owed) miss.same ∙ ap (λ (y : State). y.owed) hit.same ∙ h.paid;
      code = λ f l.
          let lu = miss.next f l in
          subst (λ p. IsTest f.code s.locals free e s.owed (place s) p 0 top 0) (sym (miss.place ∙ hit.place))
          (h.code f (hit.next f lu) (place t) top (hit.lead f lu) (miss.lead f l) (λ k. refl) (λ k. absurd (not_false k)));
    }
  where
    not_false : true ≡ false → ⊥
    not_false k = cc

pub begun_repeat : (free top count inner : ℕ) (test : CExp) (b : CBlock) (old v w x y : State) → top ≡ place (emitted op.Pay 0 old) → count ≡ length old.locals → BlockSoFar free b EndC (with_breaks [] (begun (emitted op.Pay 0 old))) v inner
    → UntilSaid inner test top v w → x ≡ closed count w → AllLed x.breaks (place x) (with_breaks old.breaks x) y → BegunStat free (RepeatC b test) old y
begun_repeat free top count inner test b old v w x y at counted block until cut left0 = λ s is.
    let pay : State = emitted op.Pay 0 (begun s) in
    let first : State = with_breaks [] (begun pay) in
    let closes : State = closed count w in
    let body : BlockSoFar free b EndC first v inner = subst (λ o. BlockSoFar free b EndC (with_breaks [] (begun (emitted op.Pay 0 o))) v inner) is block in
    let left : AllLed w.breaks (place w) (with_breaks s.breaks closes) y = subst (λ (o : State). AllLed w.breaks (place w) (with_breaks o.breaks closes) y) is (subst (λ (z : State). AllLed z.breaks (place z) (with_breaks old.breaks z) y) cut left0) in
    let n : count ≡ length s.locals = counted ∙ ap (λ (o : State). length o.locals) is in
    let closing : Next w (with_breaks s.breaks closes) = next_aside w.owed (drop (length w.locals - count) w.locals) s.breaks w in
    let w_on : Next w y = next_trans w (with_breaks s.breaks closes) y closing left.next in
    let v_on : Next v y = next_trans v w y until.keeps.next w_on in
    let to_pay : Next s pay = next_trans s (begun s) pay (next_begun s) (next_emitted op.Pay 0 (begun s)) in
    let to_first : Next pay first = next_aside 1 s.locals [] pay in
    let above : w.locals ≡ body.opened ++ s.locals = until.keeps.locals ∙ body.locals in
    let vars : y.locals ≡ s.locals = ap (λ (z : State). z.locals) left.same ∙ taken_off w.locals body.opened s.locals count above n in
    let jumps : y.breaks ≡ s.breaks = ap (λ (z : State). z.breaks) left.same in
    let top_is : top ≡ place s + 1 = at ∙ ap (λ (o : State). place (emitted op.Pay 0 o)) is ∙ length_snoc s.steps (lined op.Pay 0 (begun s)) in
    record {
      next = next_trans s pay y to_pay (next_trans pay first y to_first (next_trans first v y body.next v_on));
      locals = vars;
      breaks = breaks_kept s y jumps;
      code = λ f l away out.
          let lw = w_on f l in
          let lv = v_on f l in
          let lp = to_first f (body.next f lv) in
          let st = stands_emitted op.Pay 0 (begun s) f lp in
          let out_of : AllBreak f (Some (place w)) v.breaks = subst (λ js. AllLead f.code js (place w)) until.keeps.breaks (left.lead f l) in
          let turn : IsBlock f.code (Some (place w)) s.locals free b 1 (place pay) v.owed (place v) v.locals inner = body.code f lv (Some (place w)) out_of v.owed (place v) v.locals inner block_end in
          let tests : IsTest f.code v.locals inner test v.owed (place v) (place w) 0 (place s + 1) 0 = subst (λ p. IsTest f.code v.locals inner test v.owed (place v) (place w) 0 p 0) top_is (until.code f lw) in
          let paid : y.owed ≡ 0 = ap (λ (z : State). z.owed) left.same ∙ until.paid in
          subst (λ p. IsStat f.code away s.locals free (RepeatC b test) s.owed (place s) y.owed p) (sym left.place)
          (subst (λ c. IsStat f.code away s.locals free (RepeatC b test) s.owed (place s) c (place w)) (sym paid)
          (repeat_loop st.has.0 (subst (λ p. IsBlock f.code (Some (place w)) s.locals free b 1 p v.owed (place v) v.locals inner) (length_snoc s.steps (lined op.Pay 0 (begun s))) turn) tests));
    }

-- A TURN of a loop with variables
pub turned : (names free count : ℕ) (flags : List Bool) (b : CBlock) (s t u v w : State) → OpenSaid flags names s t → RowDeclared names flags t u free → BlockSaid free b u v → count ≡ length s.locals → w ≡ closed count v → TurnSaid flags names b s w
turned names free count flags b s t u v w opens row block counted cut =
    let row_state : State = record t { registers = u.registers; locals = with_row names flags t.locals } in
    let body : BlockSaid free b row_state v = subst (λ x. BlockSaid free b x v) row.same block in
    let closes : State = closed count v in
    let to_row : Next t row_state = next_row u.registers (with_row names flags t.locals) t row.more in
    let closing : Next v closes = next_aside v.owed (drop (length v.locals - count) v.locals) v.breaks v in
    let above : v.locals ≡ with_row names flags [] ++ s.locals = body.locals ∙ row_above names flags t.locals ∙ ap (λ ls. with_row names flags [] ++ ls) opens.keeps.locals in
    let behind : free ≡ names + length flags = row.behind in
    let enough : free ≤ u.registers = row.enough in
    subst (TurnSaid flags names b s) (sym cut) (record {
      locals = taken_off v.locals (with_row names flags []) s.locals count above counted;
      next = next_trans s t closes opens.keeps.next (next_trans t row_state closes to_row (next_trans row_state v closes body.next closing));
      breaks = λ f away out. subst (AllBreak f away) opens.keeps.breaks (body.breaks f away out);
      room = λ f l.
          let room : u.registers ≤ f.code.registers = (body.next f (closing f l)).registers in
          omega (arith, behind, enough, room);
      code = λ f l away out.
          let lv = closing f l in
          let lr = body.next f lv in
          let code = body.code f lv away out in
          record {
            c = t.owed;
            pc = place t;
            locals = code.0;
            free = code.1;
            opening = opens.code f (to_row f lr);
            body = subst (λ n. IsBlock f.code away (with_row names flags s.locals) n b t.owed (place t) v.owed (place v) code.0 code.1) behind
                (subst (λ ls. IsBlock f.code away (with_row names flags ls) free b t.owed (place t) v.owed (place v) code.0 code.1) opens.keeps.locals code.2);
          };
    })

-- COUNTING: the values, with a step and without
value_at : (f : Final) (n n' r r' : ℕ) (e : CExp) (s t u : State) → n ≡ n' → r ≡ r' → t.locals ≡ s.locals → t.owed ≡ 0 → ValueSaid n e r t u → Later u f → IsValue f.code s.locals false n' e 0 r' (place t) (place u)
value_at f n n' r r' e s t u en er el ec h l =
    subst (λ m. IsValue f.code s.locals false m e 0 r' (place t) (place u)) en
    (subst (λ m. IsValue f.code s.locals false n e 0 m (place t) (place u)) er
    (subst (λ c. IsValue f.code s.locals false n e c r (place t) (place u)) ec
    (subst (λ ls. IsValue f.code ls false n e t.owed r (place t) (place u)) el (h.code f false l (no_fit e)))))

pub count_by_said : (free end : ℕ) (from to by : CExp) (old a t u v : State) → end ≡ free + 4 → Reached end old a → ValueSaid (end - 3) from free a t → ValueSaid (end - 2) to (end - 3) t u → ValueSaid (end - 1) by (end - 2) u v
    → CountSaid free from to (Some by) old v
count_by_said free end from to by old a t u v is reached first second third =
    let one : end - 3 ≡ free + 1 = omega (arith, is) in
    let two : end - 2 ≡ free + 2 = omega (arith, is) in
    let three : end - 1 ≡ free + 3 = omega (arith, is) in
    let before : Keeps old t = keeps_trans old a t (keeps_reached end old a reached) first.keeps in
    record {
      keeps = keeps_trans old u v (keeps_trans old t u before second.keeps) third.keeps;
      paid = third.paid;
      code = λ f l s begins away boxed body line last k.
          let lu = third.keeps.next f l in
          let lt = second.keeps.next f lu in
          let a_is : a ≡ record s { owed = s.owed + 1; registers = a.registers } = reached.same ∙ ap (λ (x : State). record x { registers = a.registers }) begins in
          let from_said : ValueSaid (end - 3) from free (record s { owed = s.owed + 1; registers = a.registers }) t = subst (λ x. ValueSaid (end - 3) from free x t) a_is first in
          let t_locals : t.locals ≡ s.locals = from_said.keeps.locals in
          let u_locals : u.locals ≡ s.locals = second.keeps.locals ∙ t_locals in
          let v1 : IsValue f.code s.locals false (free + 1) from (s.owed + 1) free (place s) (place t) = subst (λ n. IsValue f.code s.locals false n from (s.owed + 1) free (place s) (place t)) one (from_said.code f false lt (no_fit from)) in
          let v2 : IsValue f.code s.locals false (free + 2) to 0 (free + 1) (place t) (place u) = value_at f (end - 2) (free + 2) (end - 3) (free + 1) to s t u two one t_locals first.paid second lu in
          let v3 : IsValue f.code s.locals false (free + 3) by 0 (free + 2) (place u) (place v) = value_at f (end - 1) (free + 3) (end - 2) (free + 2) by s u v three two u_locals second.paid third l in
          subst (λ p. IsStat f.code away s.locals free (CountByC boxed from to by body line) s.owed (place s) 0 p) (sym k.is_end)
          (count_by_loop k.room v1 v2 v3 k.begins k.opening k.turn k.goes_on);
    }

pub count_said : (free end : ℕ) (from to : CExp) (o : Operand) (old a t u v : State) → end ≡ free + 4 → Reached end old a → ValueSaid (end - 3) from free a t → ValueSaid (end - 2) to (end - 3) t u → ConstantSaid (Number (pos 1)) o u v
    → CountSaid free from to None old (emitted (op.Load (end - 2) o) 0 v)
count_said free end from to o old a t u v is reached first second constant =
    let one : end - 3 ≡ free + 1 = omega (arith, is) in
    let two : end - 2 ≡ free + 2 = omega (arith, is) in
    let load : Op = op.Load (end - 2) o in
    let with : State = record u { constants = v.constants } in
    let before : Keeps old t = keeps_trans old a t (keeps_reached end old a reached) first.keeps in
    let on : Next u with = subst (Next u) constant.same constant.next in
    subst (λ x. CountSaid free from to None old (emitted load 0 x)) (sym constant.same) (record {
      keeps = keeps_trans old u (emitted load 0 with) (keeps_trans old t u before second.keeps) (record { next = next_trans u with (emitted load 0 with) on (next_emitted load 0 with); locals = refl; breaks = refl });
      paid = refl;
      code = λ f l s begins away boxed body line last k.
          let lw = next_emitted load 0 with f l in
          let lu = on f lw in
          let lt = second.keeps.next f lu in
          let st = stands_emitted load 0 with f l in
          let a_is : a ≡ record s { owed = s.owed + 1; registers = a.registers } = reached.same ∙ ap (λ (x : State). record x { registers = a.registers }) begins in
          let from_said : ValueSaid (end - 3) from free (record s { owed = s.owed + 1; registers = a.registers }) t = subst (λ x. ValueSaid (end - 3) from free x t) a_is first in
          let t_locals : t.locals ≡ s.locals = from_said.keeps.locals in
          let v1 : IsValue f.code s.locals false (free + 1) from (s.owed + 1) free (place s) (place t) = subst (λ n. IsValue f.code s.locals false n from (s.owed + 1) free (place s) (place t)) one (from_said.code f false lt (no_fit from)) in
          let v2 : IsValue f.code s.locals false (free + 2) to 0 (free + 1) (place t) (place u) = value_at f (end - 2) (free + 2) (end - 3) (free + 1) to s t u two one t_locals first.paid second lu in
          let value : operand_seen f.tables o ≡ flat.ConstantO (Number (pos 1)) = constant.code f (subst (λ x. Later x f) (sym constant.same) lw) in
          let loads : Has f.code (place u) 0 (flat.LoadF (free + 2) (flat.ConstantO (Number (pos 1)))) =
          subst (λ c. Has f.code (place u) c (flat.LoadF (free + 2) (flat.ConstantO (Number (pos 1))))) second.paid
          (subst (λ r. Has f.code (place u) u.owed (flat.LoadF r (flat.ConstantO (Number (pos 1))))) two
          (subst (λ x. Has f.code (place u) u.owed (flat.LoadF (end - 2) x)) value st.has.0)) in
          let at : place (emitted load 0 with) ≡ place u + 1 = length_snoc u.steps (lined load 0 with) in
          let behind : place u + 1 + 1 ≡ place u + 2 = omega arith in
          let k' : CountCode f boxed body line free s.locals (place u + 1) last = subst (λ p. CountCode f boxed body line free s.locals p last) at k in
          subst (λ p. IsStat f.code away s.locals free (CountC boxed from to body line) s.owed (place s) 0 p) (sym k'.is_end)
          (count_loop k'.room v1 v2 loads k'.begins (subst (λ p. IsOpening f.code (boxed ∷ []) (free + 3) 1 p k'.c k'.pc) behind k'.opening) k'.turn
          (subst (λ p. Has f.code k'.last k'.owed (flat.CountGoesOnF free p)) behind k'.goes_on));
    })

-- what stands where the jump over the loop was made, once it leads to the end
count_begins : (base line end : ℕ) (s u v : State) (f : Final) → Next (emitted (op.CountBegins base (2 ^ 32 - 1)) line s) u → Led (place s) end u v → Later v f → HasAt f.code (place s) s.owed line (flat.CountBeginsF base end)
count_begins base line end s u v f next led l =
    let st = stands_emitted (op.CountBegins base (2 ^ 32 - 1)) line s f (next f (led.next f l)) in
    let is : aim st.to (2 ^ 32 - 1) ≡ end = same_there (aim st.to (2 ^ 32 - 1)) end (led.leads f l _ st.has.0) in
    (subst (λ x. Has f.code (place s) s.owed (flat.CountBeginsF base x)) is st.has.0, st.has.1)

-- the loop
pub count_looped : (boxed : Bool) (b : CBlock) (line base top names : ℕ) (s a v w x y : State) → top ≡ place (emitted (op.CountBegins base (2 ^ 32 - 1)) line s) → top < 2 ^ 32 - 1 → names ≡ base + 3
    → Reached names (with_breaks [] (begun (emitted (op.CountBegins base (2 ^ 32 - 1)) line s))) a → TurnSaid (boxed ∷ []) names b a v → w ≡ emitted (op.CountGoesOn base top) 0 v → Led (place s) (place w) w x
    → AllLed x.breaks (place x) (with_breaks s.breaks x) y → CountLoopSaid boxed b line base s y
count_looped boxed b line base top names s a v w0 x y at low is reached turn w_is led0 left =
    let begins : Op = op.CountBegins base (2 ^ 32 - 1) in
    let first : State = emitted begins line s in
    let back : Op = op.CountGoesOn base top in
    let w : State = emitted back 0 v in
    let led : Led (place s) (place w) w x = subst (λ (z : State). Led (place s) (place z) z x) w_is led0 in
    let inside : State = record first { owed = 1; breaks = []; registers = a.registers } in
    let to_a : Next first inside = next_trans first (with_breaks [] (begun first)) inside (next_aside 1 s.locals [] first) (next_row a.registers s.locals (with_breaks [] (begun first)) reached.more) in
    let t : TurnSaid (boxed ∷ []) names b inside v = subst (λ z. TurnSaid (boxed ∷ []) names b z v) reached.same turn in
    let v_on : Next v y = next_trans v w y (next_emitted back 0 v) (next_trans w x y led.next (left_next s.breaks x y left)) in
    let x_breaks : x.breaks ≡ v.breaks = ap (λ (z : State). z.breaks) led.same in
    let y_owed : y.owed ≡ 0 = ap (λ (z : State). z.owed) left.same ∙ ap (λ (z : State). z.owed) led.same in
    record {
      locals = ap (λ (z : State). z.locals) left.same ∙ ap (λ (z : State). z.locals) led.same ∙ t.locals;
      next = next_trans s first y (next_emitted begins line s) (next_trans first inside y to_a (next_trans inside v y t.next v_on));
      breaks = ap (λ (z : State). z.breaks) left.same;
      paid = y_owed;
      code = λ f l paid.
          let lx = left_next s.breaks x y left f l in
          let lw = led.next f lx in
          let lv = next_emitted back 0 v f lw in
          let li = t.next f lv in
          let end_is : place w ≡ place v + 1 = length_snoc v.steps (lined back 0 v) in
          let x_place : place x ≡ place v + 1 = led.place ∙ end_is in
          let out_of : AllLead f.code v.breaks (place v + 1) = subst (λ p. AllLead f.code v.breaks p) x_place (subst (λ js. AllLead f.code js (place x)) x_breaks (left.lead f l)) in
          let code : TurnCode f (Some (place v + 1)) (boxed ∷ []) names b inside v = t.code f lv (Some (place v + 1)) out_of in
          let begin_has : HasAt f.code (place s) s.owed line (flat.CountBeginsF base (place w)) = count_begins base line (place w) s w x f (next_trans first inside w to_a (next_trans inside v w t.next (next_emitted back 0 v))) led lx in
          let st = stands_emitted back 0 v f lw in
          let room : names + 1 ≤ f.code.registers = t.room f lv in
          let place_first : place first ≡ place s + 1 = length_snoc s.steps (lined begins line s) in
          let four : base + 3 + 1 ≡ base + 4 = omega arith in
          let turn1 : IsBlock f.code (Some (place v + 1)) (local_of boxed (base + 3) ∷ s.locals) (base + 3 + 1) b code.c code.pc v.owed (place v) code.locals code.free =
          subst (λ n. IsBlock f.code (Some (place v + 1)) (local_of boxed n ∷ s.locals) (n + 1) b code.c code.pc v.owed (place v) code.locals code.free) is code.body in
          record {
            c = code.c;
            pc = code.pc;
            last = place v;
            owed = v.owed;
            locals = code.locals;
            free = code.free;
            is_end = left.place ∙ x_place;
            room = omega (arith, room, is);
            begins = (subst (λ c. Has f.code (place s) c (flat.CountBeginsF base (place v + 1))) paid (subst (λ p. Has f.code (place s) s.owed (flat.CountBeginsF base p)) end_is begin_has.0), begin_has.1);
            opening = subst (λ p. IsOpening f.code (boxed ∷ []) (base + 3) 1 p code.c code.pc) place_first (subst (λ n. IsOpening f.code (boxed ∷ []) n 1 (place first) code.c code.pc) is code.opening);
            turn = subst (λ n. IsBlock f.code (Some (place v + 1)) (local_of boxed (base + 3) ∷ s.locals) n b code.c code.pc v.owed (place v) code.locals code.free) four turn1;
            goes_on = subst (λ p. Has f.code (place v) v.owed (flat.CountGoesOnF base p)) (at ∙ place_first) st.has.0;
          };
    }

pub begun_count : (free line : ℕ) (boxed : Bool) (from to : CExp) (by : Option CExp) (b : CBlock) (old t u : State) → CountSaid free from to by old t → CountLoopSaid boxed b line free t u → BegunStat free (count_of boxed from to by b line) old u
begun_count free line boxed from to by b old t u values loop = λ s is.
    let vars : t.locals ≡ s.locals = values.keeps.locals ∙ ap (λ (x : State). x.locals) is in
    let jumps : u.breaks ≡ s.breaks = loop.breaks ∙ values.keeps.breaks ∙ ap (λ (x : State). x.breaks) is in
    record {
      next = next_trans s t u (next_trans s (begun s) t (next_begun s) (subst (λ x. Next x t) is values.keeps.next)) loop.next;
      locals = loop.locals ∙ vars;
      breaks = breaks_kept s u jumps;
      code = λ f l away out.
          subst (λ c. IsStat f.code away s.locals free (count_of boxed from to by b line) s.owed (place s) c (place u)) (sym loop.paid)
          (values.code f (loop.next f l) s is away boxed b line (place u) (subst (λ ls. CountCode f boxed b line free ls (place t) (place u)) vars (loop.code f l values.paid)));
    }

-- A GENERIC LOOP
pub each_said : (free : ℕ) (es : CExps) (old t u : State) → ExactSaid free es 3 old t → Settled t u → EachSaid free es old u
each_said free es old t u exact settles =
    let keeps : Keeps t u = settled_keeps t u settles in
    record {
      keeps = keeps_trans old t u exact.keeps keeps;
      paid = settled_paid t u settles;
      code = λ f l. (t.owed, place t, exact.code f (keeps.next f l), settled_joins t u f settles l);
    }

each_tests : (base end : ℕ) (s u v : State) (f : Final) → Next (emitted (op.EachTests base (2 ^ 32 - 1)) 0 s) u → Led (place s) end u v → Later v f → Has f.code (place s) s.owed (flat.EachTestsF base end)
each_tests base end s u v f next led l =
    let st = stands_emitted (op.EachTests base (2 ^ 32 - 1)) 0 s f (next f (led.next f l)) in
    let is : aim st.to (2 ^ 32 - 1) ≡ end = same_there (aim st.to (2 ^ 32 - 1)) end (led.leads f l _ st.has.0) in
    subst (λ x. Has f.code (place s) s.owed (flat.EachTestsF base x)) is st.has.0

pub each_looped : (flags : List Bool) (b : CBlock) (line base count top names tests : ℕ) (s a v w x y : State) → count ≡ length flags → 1 ≤ count → top ≡ place s → top < 2 ^ 32 - 1 → tests ≡ place (emitted (op.EachCalls base count) line s) → names ≡ base + 3
    → Reached names (emitted (op.EachTests base (2 ^ 32 - 1)) 0 (emitted (op.EachCalls base count) line s)) a → TurnSaid flags names b (with_breaks [] (begun a)) v → w ≡ emitted (op.Jump top) 0 v → Led tests (place w) w x
    → AllLed x.breaks (place x) (with_breaks s.breaks x) y → EachLoopSaid flags b line base s y
each_looped flags b line base count top names tests s a v w0 x y counted some at low tests_is is reached turn w_is led0 left =
    let calls : Op = op.EachCalls base count in
    let called : State = emitted calls line s in
    let test : Op = op.EachTests base (2 ^ 32 - 1) in
    let tested : State = emitted test 0 called in
    let back : Op = op.Jump top in
    let w : State = emitted back 0 v in
    let led : Led (place called) (place w) w x = subst (λ n. Led n (place w) w x) tests_is (subst (λ (z : State). Led tests (place z) z x) w_is led0) in
    let inside : State = record tested { owed = 1; breaks = []; registers = a.registers } in
    let to_a : Next tested inside = next_trans tested (with_breaks [] (begun tested)) inside (next_aside 1 s.locals [] tested) (next_row a.registers s.locals (with_breaks [] (begun tested)) reached.more) in
    let t : TurnSaid flags names b inside v = subst (λ z. TurnSaid flags names b (with_breaks [] (begun z)) v) reached.same turn in
    let v_on : Next v y = next_trans v w y (next_emitted back 0 v) (next_trans w x y led.next (left_next s.breaks x y left)) in
    let x_breaks : x.breaks ≡ v.breaks = ap (λ (z : State). z.breaks) led.same in
    let to_tested : Next s tested = next_trans s called tested (next_emitted calls line s) (next_emitted test 0 called) in
    record {
      locals = ap (λ (z : State). z.locals) left.same ∙ ap (λ (z : State). z.locals) led.same ∙ t.locals;
      next = next_trans s tested y to_tested (next_trans tested inside y to_a (next_trans inside v y t.next v_on));
      breaks = ap (λ (z : State). z.breaks) left.same;
      paid = ap (λ (z : State). z.owed) left.same ∙ ap (λ (z : State). z.owed) led.same;
      code = λ f l paid.
          let lx = left_next s.breaks x y left f l in
          let lw = led.next f lx in
          let lv = next_emitted back 0 v f lw in
          let li = t.next f lv in
          let lt = to_a f li in
          let lc = next_emitted test 0 called f lt in
          let end_is : place w ≡ place v + 1 = length_snoc v.steps (lined back 0 v) in
          let x_place : place x ≡ place v + 1 = led.place ∙ end_is in
          let out_of : AllLead f.code v.breaks (place v + 1) = subst (λ p. AllLead f.code v.breaks p) x_place (subst (λ js. AllLead f.code js (place x)) x_breaks (left.lead f l)) in
          let code : TurnCode f (Some (place v + 1)) flags names b inside v = t.code f lv (Some (place v + 1)) out_of in
          let call_stands = stands_emitted calls line s f lc in
          let test_has : Has f.code (place called) 0 (flat.EachTestsF base (place w)) = each_tests base (place w) called w x f (next_trans tested inside w to_a (next_trans inside v w t.next (next_emitted back 0 v))) led lx in
          let room : names + length flags ≤ f.code.registers = t.room f lv in
          let place_called : place called ≡ place s + 1 = length_snoc s.steps (lined calls line s) in
          let place_tested : place tested ≡ place s + 1 + 1 = length_snoc called.steps (lined test 0 called) ∙ ap (λ n. n + 1) place_called in
          let two : place s + 1 + 1 ≡ place s + 2 = omega arith in
          record {
            c = code.c;
            pc = code.pc;
            last = place v;
            owed = v.owed;
            locals = code.locals;
            free = code.free;
            is_end = left.place ∙ x_place;
            some = subst (λ n. 1 ≤ n) counted some;
            room = omega (arith, room, is);
            calls = (subst (λ n. Has f.code (place s) 0 (flat.EachCallsF base n)) counted (subst (λ c. Has f.code (place s) c (flat.EachCallsF base count)) paid call_stands.has.0), call_stands.has.1);
            tests = subst (λ p. Has f.code p 0 (flat.EachTestsF base (place v + 1))) place_called (subst (λ p. Has f.code (place called) 0 (flat.EachTestsF base p)) end_is test_has);
            opening = subst (λ p. IsOpening f.code flags (base + 3) 1 p code.c code.pc) (place_tested ∙ two) (subst (λ n. IsOpening f.code flags n 1 (place tested) code.c code.pc) is code.opening);
            turn = subst (λ n. IsBlock f.code (Some (place v + 1)) (with_row n flags s.locals) (n + length flags) b code.c code.pc v.owed (place v) code.locals code.free) is code.body;
            goes_on = subst (λ p. Has f.code (place v) v.owed (flat.JumpF p)) at (jumps_back top v f low lw);
          };
    }

pub begun_each : (free line : ℕ) (flags : List Bool) (es : CExps) (b : CBlock) (old t u : State) → EachSaid free es old t → EachLoopSaid flags b line free t u → BegunStat free (EachC flags es b line) old u
begun_each free line flags es b old t u values loop = λ s is.
    let v : EachSaid free es (begun s) t = subst (λ x. EachSaid free es x t) is values in
    let jumps : u.breaks ≡ s.breaks = loop.breaks ∙ v.keeps.breaks in
    record {
      next = next_trans s t u (next_trans s (begun s) t (next_begun s) v.keeps.next) loop.next;
      locals = loop.locals ∙ v.keeps.locals;
      breaks = breaks_kept s u jumps;
      code = λ f l away out.
          let front = v.code f (loop.next f l) in
          let k : EachCode f flags b line free s.locals (place t) (place u) = subst (λ ls. EachCode f flags b line free ls (place t) (place u)) v.keeps.locals (loop.code f l v.paid) in
          subst (λ c. IsStat f.code away s.locals free (EachC flags es b line) s.owed (place s) c (place u)) (sym loop.paid)
          (subst (λ p. IsStat f.code away s.locals free (EachC flags es b line) s.owed (place s) 0 p) (sym k.is_end)
          (each_loop k.some k.room front.2 front.3 k.calls k.tests k.opening k.turn k.goes_on));
    }

-- IN THE WORDS OF A FUNCTION
pub said_while : (free top : ℕ) (test : CExp) (b : CBlock) (none misses outer : List ℕ) (old p c d e v j w x : State) → p ≡ emitted op.Pay 0 old → top ≡ place p → top < 2 ^ 32 - 1 → none ≡ [] → ConditionSaid free test none misses p c → d ≡ begun c → outer ≡ d.breaks
    → e ≡ with_breaks [] d → BlockSaid free b e v → j ≡ emitted (op.Jump top) 0 v → AllLed misses (place j) j w → AllLed w.breaks (place w) (with_breaks outer w) x → BegunStat free (WhileC test b) old x
said_while free top test b none misses outer old p c d e v j w x p_is at low none_is cond d_is outer_is e_is block j_is led left =
    begun_while free top test b misses old c v w x (at ∙ ap place p_is) low (subst (λ z. ConditionSaid free test [] misses z c) p_is (subst (λ n. ConditionSaid free test n misses p c) none_is cond))
    (subst (λ z. BlockSaid free b (with_breaks [] z) v) d_is (subst (λ z. BlockSaid free b z v) e_is block)) (subst (λ (z : State). AllLed misses (place z) z w) j_is led)
    (subst (λ js. AllLed w.breaks (place w) (with_breaks js w) x) (outer_is ∙ ap (λ (z : State). z.breaks) d_is) left)

pub said_repeat : (free top count inner : ℕ) (test : CExp) (b : CBlock) (outer : List ℕ) (old p d e v w x y : State) → p ≡ emitted op.Pay 0 old → top ≡ place p → d ≡ begun p → count ≡ length d.locals → outer ≡ d.breaks → e ≡ with_breaks [] d → BlockSoFar free b EndC e v inner
    → UntilSaid inner test top v w → x ≡ closed count w → AllLed x.breaks (place x) (with_breaks outer x) y → BegunStat free (RepeatC b test) old y
said_repeat free top count inner test b outer old p d e v w x y p_is at d_is counted outer_is e_is block until cut left =
    let d_whole : d ≡ begun (emitted op.Pay 0 old) = d_is ∙ ap begun p_is in
    begun_repeat free top count inner test b old v w x y (at ∙ ap place p_is) (counted ∙ ap (λ (z : State). length z.locals) d_whole) (subst (λ z. BlockSoFar free b EndC (with_breaks [] z) v inner) d_whole (subst (λ z. BlockSoFar free b EndC z v inner) e_is block)) until cut
    (subst (λ js. AllLed x.breaks (place x) (with_breaks js x) y) (outer_is ∙ ap (λ (z : State). z.breaks) d_whole) left)

pub said_turn : (names free count : ℕ) (flags : List Bool) (b : CBlock) (s t u v w : State) → count ≡ length s.locals → OpenSaid flags names s t → RowDeclared names flags t u free → BlockSaid free b u v → w ≡ closed count v → TurnSaid flags names b s w
said_turn names free count flags b s t u v w counted opens row block cut = turned names free count flags b s t u v w opens row block counted cut

pub said_count_loop : (boxed : Bool) (b : CBlock) (line base begins top names end : ℕ) (outer : List ℕ) (s j d e a v w x y : State) → begins ≡ place s → j ≡ emitted (op.CountBegins base (2 ^ 32 - 1)) line s → top ≡ place j → top < 2 ^ 32 - 1 → d ≡ begun j → outer ≡ d.breaks
    → e ≡ with_breaks [] d → names ≡ base + 3 → Reached names e a → TurnSaid (boxed ∷ []) names b a v → w ≡ emitted (op.CountGoesOn base top) 0 v → end ≡ place w → Led begins end w x → AllLed x.breaks (place x) (with_breaks outer x) y → CountLoopSaid boxed b line base s y
said_count_loop boxed b line base begins top names end outer s j d e a v w x y begins_is j_is at low d_is outer_is e_is is reached turn w_is end_is led left =
    let d_whole : d ≡ begun (emitted (op.CountBegins base (2 ^ 32 - 1)) line s) = d_is ∙ ap begun j_is in
    count_looped boxed b line base top names s a v w x y (at ∙ ap place j_is) low is (subst (λ z. Reached names (with_breaks [] z) a) d_whole (subst (λ z. Reached names z a) e_is reached)) turn w_is
    (subst (λ n. Led n (place w) w x) begins_is (subst (λ n. Led begins n w x) end_is led)) (subst (λ js. AllLed x.breaks (place x) (with_breaks js x) y) (outer_is ∙ ap (λ (z : State). z.breaks) d_whole) left)

pub said_each_loop : (flags : List Bool) (b : CBlock) (line base count top names tests end : ℕ) (outer : List ℕ) (s j k a d e v w x y : State) → count ≡ length flags → count ≢ 0 → top ≡ place s → top < 2 ^ 32 - 1 → j ≡ emitted (op.EachCalls base count) line s → tests ≡ place j
    → k ≡ emitted (op.EachTests base (2 ^ 32 - 1)) 0 j → names ≡ base + 3 → Reached names k a → d ≡ begun a → outer ≡ d.breaks → e ≡ with_breaks [] d → TurnSaid flags names b e v → w ≡ emitted (op.Jump top) 0 v → end ≡ place w → Led tests end w x
    → AllLed x.breaks (place x) (with_breaks outer x) y → EachLoopSaid flags b line base s y
said_each_loop flags b line base count top names tests end outer s j k a d e v w x y counted some at low j_is tests_is k_is is reached d_is outer_is e_is turn w_is end_is led left =
    let k_whole : k ≡ emitted (op.EachTests base (2 ^ 32 - 1)) 0 (emitted (op.EachCalls base count) line s) = k_is ∙ ap (emitted (op.EachTests base (2 ^ 32 - 1)) 0) j_is in
    let r : Reached names (emitted (op.EachTests base (2 ^ 32 - 1)) 0 (emitted (op.EachCalls base count) line s)) a = subst (λ z. Reached names z a) k_whole reached in
    each_looped flags b line base count top names tests s a v w x y counted (omega (arith, some)) at low (tests_is ∙ ap place j_is) is r (subst (λ z. TurnSaid flags names b (with_breaks [] z) v) d_is (subst (λ z. TurnSaid flags names b z v) e_is turn)) w_is
    (subst (λ n. Led tests n w x) end_is led) (subst (λ js. AllLed x.breaks (place x) (with_breaks js x) y) (outer_is ∙ ap (λ (z : State). z.breaks) d_is ∙ ap (λ (z : State). z.breaks) r.same) left)

pub said_until : (free top : ℕ) (e : CExp) (none nothing hits misses : List ℕ) (s t u v : State) → none ≡ [] → nothing ≡ [] → TestSaid free e true none hits nothing misses s t → AllLed hits (place t) t u → AllLed misses top u v → UntilSaid free e top s v
said_until free top e none nothing hits misses s t u v a b h hit miss = until_said free top e hits misses s t u v (subst (λ n. TestSaid free e true [] hits n misses s t) b (subst (λ n. TestSaid free e true n hits nothing misses s t) a h)) hit miss

pub said_count_by : (free end : ℕ) (from to : CExp) (by : Option (Box Expression Global)) (e : Box Expression Global) (x : Expression) (old a t u v : State) → by ≡ Some e → x ≡ e.value → end ≡ free + 4 → Reached end old a → ValueSaid (end - 3) from free a t → ValueSaid (end - 2) to (end - 3) t u
    → ValueSaid (end - 1) (expression_seen x) (end - 2) u v → CountSaid free from to (step_seen by) old v
said_count_by free end from to by e x old a t u v which same is reached first second third =
    subst (λ o. CountSaid free from to (step_seen o) old v) (sym which)
    (subst (λ y. CountSaid free from to (Some (expression_seen y)) old v) same (count_by_said free end from to (expression_seen x) old a t u v is reached first second third))

pub said_count : (free end : ℕ) (from to : CExp) (by : Option (Box Expression Global)) (o : Operand) (old a t u v w : State) → by ≡ None → end ≡ free + 4 → Reached end old a → ValueSaid (end - 3) from free a t → ValueSaid (end - 2) to (end - 3) t u → ConstantSaid (Number (pos 1)) o u v
    → w ≡ emitted (op.Load (end - 2) o) 0 v → CountSaid free from to (step_seen by) old w
said_count free end from to by o old a t u v w which is reached first second constant ends =
    subst (λ b. CountSaid free from to (step_seen b) old w) (sym which) (subst (λ z. CountSaid free from to None old z) (sym ends) (count_said free end from to o old a t u v is reached first second constant))
