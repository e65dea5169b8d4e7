-- Code of tests, put together from that of their parts.
use Rattle.std.proofs.Common.{◌≡◌, ◌∙◌, ◌≤◌, ◌<◌, ℕ, ◌+◌, ◌-◌, ◌^◌, Bool, true, false, not, List, [], ◌∷◌, ◌++◌, Some, refl, sym, ap, subst}
use Rattle.lua_syntax.specs.declared.UnaryOp.{UnaryOp}
use Rattle.lua_syntax.specs.declared.UnaryOp.TheVariants as sign
use Rattle.lua_heap.specs.Value.{Value, is_true}
use Rattle.lua_flat.specs.LuaSlotsCode.{CExp, ConstantC, AndC, OrC, OperateC, UnaryC, ParenC}
use Rattle.lua_flat.specs.Operations as flat
use Rattle.lua_flat.specs.IsExpression.{Has, HasAt, is_comparison, IsOperand, IsTest, test_true, test_miss, test_hit, compare_miss, compare_hit, test_and, test_or, test_not, test_paren}
use Rattle.lua_code.specs.declared.operator.Operator.{Operator}
use Rattle.lua_code.specs.Seen.{operator_seen}
use Rattle.lua_flat_code.specs.declared.operand.Operand.{Operand}
use Rattle.lua_flat_code.specs.declared.op.Op.{Op}
use Rattle.lua_flat_code.specs.declared.op.Op.TheVariants as op
use Rattle.lua_flat_code.specs.Seen.{operand_seen}
use Rattle.lua_flat_code.specs.Making.{State, place, aim, AllLead, Leads, Final, begun, lined, emitted, AllLed}
use Rattle.lua_flat_code.specs.Parts.{Keeps, OperandSaid, Grows, IsTrueConstant, IsBranch, BranchSaid, TestSaid, ConditionSaid}
use Rattle.lua_flat_code.proofs.MakingLaws.{length_snoc, next_emitted, stands_emitted}
use Rattle.lua_flat_code.proofs.ValueLaws.{keeps_trans, keeps_begun, keeps_emitted, no_fit, operand_in}

pub grows_same : (jumps : List ℕ) → Grows jumps jumps
grows_same jumps = λ f target h. h

pub grows_trans : (a b c : List ℕ) → Grows a b → Grows b c → Grows a c
grows_trans a b c h k = λ f target l. h f target (k f target l)

-- jumps that get their targets change nothing else
keeps_led : (jumps : List ℕ) (target : ℕ) (s t : State) → AllLed jumps target s t → Keeps s t
keeps_led jumps target s t h = record { next = h.next; locals = ap (λ u. u.locals) h.same; breaks = ap (λ u. u.breaks) h.same }

-- `and`: the second test begins where the first one is true
pub tests_and : (free : ℕ) (x y : CExp) (goes_on : Bool) (hits hits' misses between misses' middle : List ℕ) (s t u v : State) → TestSaid free x true [] middle misses between (begun s) t → AllLed middle (place t) t u
    → TestSaid free y goes_on hits hits' between misses' u v → TestSaid free (AndC x y) goes_on hits hits' misses misses' s v
tests_and free x y goes_on hits hits' misses between misses' middle s t u v h led k =
    let keeps : Keeps s u = keeps_trans s t u (keeps_trans s (begun s) t (keeps_begun s) h.keeps) (keeps_led middle (place t) t u led) in
    let owed : u.owed ≡ 0 = ap (λ w. w.owed) led.same ∙ h.paid in
    record {
      keeps = keeps_trans s u v keeps k.keeps;
      paid = k.paid;
      hits_grow = k.hits_grow;
      misses_grow = grows_trans misses between misses' h.misses_grow k.misses_grow;
      code = λ f l hit miss on_hit on_miss falls_hit falls_miss.
          let lu = k.keeps.next f l in
          let first : IsTest f.code s.locals free x (s.owed + 1) (place s) (place t) 0 miss 0 =
          h.code f (led.next f lu) (place t) miss (led.lead f lu) (k.misses_grow f miss on_miss) (λ e. refl) (λ e. absurd (no_true e)) in
          let second : IsTest f.code s.locals free y 0 (place t) hit 0 miss 0 =
          subst (λ p. IsTest f.code s.locals free y 0 p hit 0 miss 0) led.place
          (subst (λ c. IsTest f.code s.locals free y c (place u) hit 0 miss 0) owed
          (subst (λ ls. IsTest f.code ls free y u.owed (place u) hit 0 miss 0) keeps.locals (k.code f l hit miss on_hit on_miss falls_hit falls_miss))) in
          test_and first second;
    }
  where
    no_true : true ≡ false → ⊥
    no_true e = cc

pub tests_or : (free : ℕ) (x y : CExp) (goes_on : Bool) (hits between hits' misses misses' middle : List ℕ) (s t u v : State) → TestSaid free x false hits between [] middle (begun s) t → AllLed middle (place t) t u
    → TestSaid free y goes_on between hits' misses misses' u v → TestSaid free (OrC x y) goes_on hits hits' misses misses' s v
tests_or free x y goes_on hits between hits' misses misses' middle s t u v h led k =
    let keeps : Keeps s u = keeps_trans s t u (keeps_trans s (begun s) t (keeps_begun s) h.keeps) (keeps_led middle (place t) t u led) in
    let owed : u.owed ≡ 0 = ap (λ w. w.owed) led.same ∙ h.paid in
    record {
      keeps = keeps_trans s u v keeps k.keeps;
      paid = k.paid;
      hits_grow = grows_trans hits between hits' h.hits_grow k.hits_grow;
      misses_grow = k.misses_grow;
      code = λ f l hit miss on_hit on_miss falls_hit falls_miss.
          let lu = k.keeps.next f l in
          let first : IsTest f.code s.locals free x (s.owed + 1) (place s) hit 0 (place t) 0 =
          h.code f (led.next f lu) hit (place t) (k.hits_grow f hit on_hit) (led.lead f lu) (λ e. absurd (no_false e)) (λ e. refl) in
          let second : IsTest f.code s.locals free y 0 (place t) hit 0 miss 0 =
          subst (λ p. IsTest f.code s.locals free y 0 p hit 0 miss 0) led.place
          (subst (λ c. IsTest f.code s.locals free y c (place u) hit 0 miss 0) owed
          (subst (λ ls. IsTest f.code ls free y u.owed (place u) hit 0 miss 0) keeps.locals (k.code f l hit miss on_hit on_miss falls_hit falls_miss))) in
          test_or first second;
    }
  where
    no_false : false ≡ true → ⊥
    no_false e = cc

pub tests_not : (free line : ℕ) (x : CExp) (goes_on : Bool) (hits hits' misses misses' : List ℕ) (s t : State) → TestSaid free x (not goes_on) misses misses' hits hits' (begun s) t → TestSaid free (UnaryC sign.Not x line) goes_on hits hits' misses misses' s t
tests_not free line x goes_on hits hits' misses misses' s t h = record {
  keeps = keeps_trans s (begun s) t (keeps_begun s) h.keeps;
  paid = h.paid;
  hits_grow = h.misses_grow;
  misses_grow = h.hits_grow;
  code = λ f l hit miss on_hit on_miss falls_hit falls_miss. test_not (h.code f l miss hit on_miss on_hit (λ e. falls_miss (from_true goes_on e)) (λ e. falls_hit (from_false goes_on e)));
}
  where
    from_true : (b : Bool) → not b ≡ true → b ≡ false
    from_true true e = cc
    from_true false e = refl

    from_false : (b : Bool) → not b ≡ false → b ≡ true
    from_false true e = refl
    from_false false e = cc

pub tests_paren : (free : ℕ) (x : CExp) (goes_on : Bool) (hits hits' misses misses' : List ℕ) (s t : State) → TestSaid free x goes_on hits hits' misses misses' (begun s) t → TestSaid free (ParenC x) goes_on hits hits' misses misses' s t
tests_paren free x goes_on hits hits' misses misses' s t h = record {
  keeps = keeps_trans s (begun s) t (keeps_begun s) h.keeps;
  paid = h.paid;
  hits_grow = h.hits_grow;
  misses_grow = h.misses_grow;
  code = λ f l hit miss on_hit on_miss falls_hit falls_miss. test_paren (h.code f l hit miss on_hit on_miss falls_hit falls_miss);
}

-- TESTS BY ONE OPERATION
lead_is : {A : Type 0} (x y : A) → Some x ≡ Some y → x ≡ y
lead_is x y e = cc

pub branch_test : (free free1 : ℕ) (e : CExp) (when : Bool) (o : Operand) (s t : State) → OperandSaid free e s t o free1 → BranchSaid free e when s (emitted (op.Test when o (2 ^ 32 - 1)) 0 t) (place t)
branch_test free free1 e when o s t h =
    let last : Op = op.Test when o (2 ^ 32 - 1) in
    record {
      keeps = keeps_trans s t (emitted last 0 t) h.keeps (keeps_emitted last 0 t);
      paid = refl;
      code = λ f l target leads.
          let st = stands_emitted last 0 t f l in
          let is : aim st.to (2 ^ 32 - 1) ≡ target = lead_is (aim st.to (2 ^ 32 - 1)) target (leads _ st.has.0) in
          let has : Has f.code (place t) t.owed (flat.TestF when (operand_seen f.tables o) target) = subst (λ x. Has f.code (place t) t.owed (flat.TestF when (operand_seen f.tables o) x)) is st.has.0 in
          subst (λ p. IsBranch f.code s.locals free e when s.owed (place s) p target) (sym (length_snoc t.steps (lined last 0 t)))
          (pick when f target has (h.code f false (next_emitted last 0 t f l) (no_fit e)));
    }
  where
    pick : (w : Bool) (f : Final) (target : ℕ) → Has f.code (place t) t.owed (flat.TestF w (operand_seen f.tables o) target)
        → IsOperand f.code s.locals false free e s.owed (operand_seen f.tables o) (place s) t.owed (place t) free1 → IsBranch f.code s.locals free e w s.owed (place s) (place t + 1) target
    pick false f target has of = test_miss of has
    pick true f target has of = test_hit of has

pub branch_compare : (free free1 free2 line : ℕ) (which : Operator) (x y : CExp) (when : Bool) (a b : Operand) (s t u : State) → is_comparison (operator_seen which) ≡ true → OperandSaid free x (begun s) t a free1 → OperandSaid free1 y t u b free2
    → BranchSaid free (OperateC (operator_seen which) x y line) when s (emitted (op.Compare which a b when (2 ^ 32 - 1)) line u) (place u)
branch_compare free free1 free2 line which x y when a b s t u compares h k =
    let last : Op = op.Compare which a b when (2 ^ 32 - 1) in
    let before : Keeps s t = keeps_trans s (begun s) t (keeps_begun s) h.keeps in
    record {
      keeps = keeps_trans s u (emitted last line u) (keeps_trans s t u before k.keeps) (keeps_emitted last line u);
      paid = refl;
      code = λ f l target leads.
          let lu = next_emitted last line u f l in
          let st = stands_emitted last line u f l in
          let is : aim st.to (2 ^ 32 - 1) ≡ target = lead_is (aim st.to (2 ^ 32 - 1)) target (leads _ st.has.0) in
          let has : HasAt f.code (place u) u.owed line (flat.CompareF (operator_seen which) (operand_seen f.tables a) (operand_seen f.tables b) when target) =
          (subst (λ x. Has f.code (place u) u.owed (flat.CompareF (operator_seen which) (operand_seen f.tables a) (operand_seen f.tables b) when x)) is st.has.0, st.has.1) in
          subst (λ p. IsBranch f.code s.locals free (OperateC (operator_seen which) x y line) when s.owed (place s) p target) (sym (length_snoc u.steps (lined last line u)))
          (pick when f target has (h.code f false (k.keeps.next f lu) (no_fit x)) (operand_in free1 y s t u b free2 f h.keeps.locals k lu));
    }
  where
    pick : (w : Bool) (f : Final) (target : ℕ) → HasAt f.code (place u) u.owed line (flat.CompareF (operator_seen which) (operand_seen f.tables a) (operand_seen f.tables b) w target)
        → IsOperand f.code s.locals false free x (s.owed + 1) (operand_seen f.tables a) (place s) t.owed (place t) free1 → IsOperand f.code s.locals false free1 y t.owed (operand_seen f.tables b) (place t) u.owed (place u) free2
        → IsBranch f.code s.locals free (OperateC (operator_seen which) x y line) w s.owed (place s) (place u + 1) target
    pick false f target has one two = compare_miss compares one two has
    pick true f target has one two = compare_hit compares one two has

-- its jump is put into the list of where it leads
pub all_front : (g : flat.FlatFunction) (target jump : ℕ) (jumps : List ℕ) → AllLead g (jumps ++ jump ∷ []) target → AllLead g jumps target
all_front g target jump [] h = tt
all_front g target jump (x ∷ jumps) h = (h.0, all_front g target jump jumps h.1)

pub all_last : (g : flat.FlatFunction) (target jump : ℕ) (jumps : List ℕ) → AllLead g (jumps ++ jump ∷ []) target → Leads g jump target
all_last g target jump [] h = h.0
all_last g target jump (x ∷ jumps) h = all_last g target jump jumps h.1

pub tests_goes_on : (free jump : ℕ) (e : CExp) (hits misses misses' : List ℕ) (s t : State) → BranchSaid free e false s t jump → misses' ≡ misses ++ jump ∷ [] → TestSaid free e true hits hits misses misses' s t
tests_goes_on free jump e hits misses misses' s t h is = subst (λ l. TestSaid free e true hits hits misses l s t) (sym is) (record {
  keeps = h.keeps;
  paid = h.paid;
  hits_grow = grows_same hits;
  misses_grow = λ f target all. all_front f.code target jump misses all;
  code = λ f l hit miss on_hit on_miss falls_hit falls_miss.
      subst (λ p. IsTest f.code s.locals free e s.owed (place s) p 0 miss 0) (sym (falls_hit refl)) (h.code f l miss (all_last f.code miss jump misses on_miss));
})

pub tests_falls : (free jump : ℕ) (e : CExp) (hits hits' misses : List ℕ) (s t : State) → BranchSaid free e true s t jump → hits' ≡ hits ++ jump ∷ [] → TestSaid free e false hits hits' misses misses s t
tests_falls free jump e hits hits' misses s t h is = subst (λ l. TestSaid free e false hits l misses misses s t) (sym is) (record {
  keeps = h.keeps;
  paid = h.paid;
  hits_grow = λ f target all. all_front f.code target jump hits all;
  misses_grow = grows_same misses;
  code = λ f l hit miss on_hit on_miss falls_hit falls_miss.
      subst (λ p. IsTest f.code s.locals free e s.owed (place s) hit 0 p 0) (sym (falls_miss refl)) (h.code f l hit (all_last f.code hit jump hits on_hit));
})

-- THE TEST OF A STATEMENT
pub condition_true : (free : ℕ) (v : Value) (misses : List ℕ) (s : State) → is_true v ≡ true → ConditionSaid free (ConstantC v) misses misses s (begun s)
condition_true free v misses s is = record { keeps = keeps_begun s; misses_grow = grows_same misses; code = λ f l miss on_miss. test_true is }

pub condition_tested : (free : ℕ) (e : CExp) (hits misses misses' : List ℕ) (s t u : State) → TestSaid free e true [] hits misses misses' s t → AllLed hits (place t) t u → ConditionSaid free e misses misses' s u
condition_tested free e hits misses misses' s t u h led = record {
  keeps = keeps_trans s t u h.keeps (keeps_led hits (place t) t u led);
  misses_grow = h.misses_grow;
  code = λ f l miss on_miss.
      let owed : u.owed ≡ 0 = ap (λ w. w.owed) led.same ∙ h.paid in
      subst (λ c. IsTest f.code s.locals free e s.owed (place s) (place u) c miss 0) (sym owed)
      (subst (λ p. IsTest f.code s.locals free e s.owed (place s) p 0 miss 0) (sym led.place)
      (h.code f (led.next f l) (place t) miss (led.lead f l) on_miss (λ k. refl) (λ k. absurd (not_false k))));
}
  where
    not_false : true ≡ false → ⊥
    not_false k = cc

-- IN THE WORDS OF A FUNCTION: a node is begun first
pub said_and : (free : ℕ) (x y : CExp) (goes_on : Bool) (hits hits' misses between misses' none middle : List ℕ) (s b t u v : State) → b ≡ begun s → none ≡ [] → TestSaid free x true none middle misses between b t → AllLed middle (place t) t u
    → TestSaid free y goes_on hits hits' between misses' u v → TestSaid free (AndC x y) goes_on hits hits' misses misses' s v
said_and free x y goes_on hits hits' misses between misses' none middle s b t u v begins is h led k =
    tests_and free x y goes_on hits hits' misses between misses' middle s t u v (subst (λ n. TestSaid free x true n middle misses between (begun s) t) is (subst (λ z. TestSaid free x true none middle misses between z t) begins h)) led k

pub said_or : (free : ℕ) (x y : CExp) (goes_on : Bool) (hits between hits' misses misses' none middle : List ℕ) (s b t u v : State) → b ≡ begun s → none ≡ [] → TestSaid free x false hits between none middle b t → AllLed middle (place t) t u
    → TestSaid free y goes_on between hits' misses misses' u v → TestSaid free (OrC x y) goes_on hits hits' misses misses' s v
said_or free x y goes_on hits between hits' misses misses' none middle s b t u v begins is h led k =
    tests_or free x y goes_on hits between hits' misses misses' middle s t u v (subst (λ n. TestSaid free x false hits between n middle (begun s) t) is (subst (λ z. TestSaid free x false hits between none middle z t) begins h)) led k

pub said_not : (free line : ℕ) (e x : CExp) (which : UnaryOp) (goes_on : Bool) (hits hits' misses misses' : List ℕ) (s b t : State) → e ≡ UnaryC which x line → which ≡ sign.Not → b ≡ begun s → TestSaid free x (not goes_on) misses misses' hits hits' b t
    → TestSaid free e goes_on hits hits' misses misses' s t
said_not free line e x which goes_on hits hits' misses misses' s b t is what begins h =
    subst (λ z. TestSaid free z goes_on hits hits' misses misses' s t) (sym (is ∙ ap (λ w. UnaryC w x line) what))
    (tests_not free line x goes_on hits hits' misses misses' s t (subst (λ z. TestSaid free x (not goes_on) misses misses' hits hits' z t) begins h))

pub said_paren : (free : ℕ) (x : CExp) (goes_on : Bool) (hits hits' misses misses' : List ℕ) (s b t : State) → b ≡ begun s → TestSaid free x goes_on hits hits' misses misses' b t → TestSaid free (ParenC x) goes_on hits hits' misses misses' s t
said_paren free x goes_on hits hits' misses misses' s b t begins h = tests_paren free x goes_on hits hits' misses misses' s t (subst (λ z. TestSaid free x goes_on hits hits' misses misses' z t) begins h)

pub said_on : (free jump : ℕ) (e : CExp) (goes_on : Bool) (hits misses misses' : List ℕ) (s t : State) → goes_on ≡ true → BranchSaid free e (not goes_on) s t jump → misses' ≡ misses ++ jump ∷ [] → TestSaid free e goes_on hits hits misses misses' s t
said_on free jump e true hits misses misses' s t is h put = tests_goes_on free jump e hits misses misses' s t h put
said_on free jump e false hits misses misses' s t is h put = cc

pub said_falls : (free jump : ℕ) (e : CExp) (goes_on : Bool) (hits hits' misses : List ℕ) (s t : State) → goes_on ≡ false → BranchSaid free e (not goes_on) s t jump → hits' ≡ hits ++ jump ∷ [] → TestSaid free e goes_on hits hits' misses misses s t
said_falls free jump e false hits hits' misses s t is h put = tests_falls free jump e hits hits' misses s t h put
said_falls free jump e true hits hits' misses s t is h put = cc

pub said_truth : (free free1 jump : ℕ) (e : CExp) (when : Bool) (o : Operand) (s t u : State) → OperandSaid free e s t o free1 → jump ≡ place t → u ≡ emitted (op.Test when o (2 ^ 32 - 1)) 0 t → BranchSaid free e when s u jump
said_truth free free1 jump e when o s t u h at ends = subst (λ n. BranchSaid free e when s u n) (sym at) (subst (λ z. BranchSaid free e when s z (place t)) (sym ends) (branch_test free free1 e when o s t h))

pub said_compare : (free free1 free2 line jump : ℕ) (which : Operator) (x y : CExp) (when : Bool) (a k : Operand) (s b t u v : State) → is_comparison (operator_seen which) ≡ true → b ≡ begun s → OperandSaid free x b t a free1 → OperandSaid free1 y t u k free2
    → jump ≡ place u → v ≡ emitted (op.Compare which a k when (2 ^ 32 - 1)) line u → BranchSaid free (OperateC (operator_seen which) x y line) when s v jump
said_compare free free1 free2 line jump which x y when a k s b t u v compares begins h second at ends =
    subst (λ n. BranchSaid free (OperateC (operator_seen which) x y line) when s v n) (sym at)
    (subst (λ z. BranchSaid free (OperateC (operator_seen which) x y line) when s z (place u)) (sym ends) (branch_compare free free1 free2 line which x y when a k s t u compares (subst (λ z. OperandSaid free x z t a free1) begins h) second))

pub branch_as : (free jump : ℕ) (e d : CExp) (when : Bool) (s t : State) → e ≡ d → BranchSaid free d when s t jump → BranchSaid free e when s t jump
branch_as free jump e d when s t is h = subst (λ x. BranchSaid free x when s t jump) (sym is) h

pub said_true : (free : ℕ) (e : CExp) (misses : List ℕ) (s t : State) → IsTrueConstant e → t ≡ begun s → ConditionSaid free e misses misses s t
said_true free e misses s t is begins = subst (ConditionSaid free e misses misses s) (sym begins) (subst (λ x. ConditionSaid free x misses misses s (begun s)) (sym is.1) (condition_true free is.0 misses s is.2))

pub said_tested : (free : ℕ) (e : CExp) (none hits misses misses' : List ℕ) (s t u : State) → none ≡ [] → TestSaid free e true none hits misses misses' s t → AllLed hits (place t) t u → ConditionSaid free e misses misses' s u
said_tested free e none hits misses misses' s t u is h led = condition_tested free e hits misses misses' s t u (subst (λ n. TestSaid free e true n hits misses misses' s t) is h) led
