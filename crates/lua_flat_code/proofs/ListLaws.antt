-- Code of lists that are adjusted to a number of values, put together from that of their parts.
use Rattle.std.proofs.Common.{◌≡◌, ◌∙◌, ◌≤◌, ◌<◌, ℕ, zero, suc, ◌+◌, true, false, ◌-◌, List, [], ◌∷◌, ◌++◌, length, refl, sym, subst, arith, inl, inr, ◌⊎◌}
use Rattle.lua_flat.specs.LuaSlotsCode.{CExp, CExps, NoC, MoreC}
use Rattle.lua_flat.specs.Operations.{FlatFunction, Exactly, NilsF}
use Rattle.lua_flat.specs.Locals.{Local}
use Rattle.lua_code.specs.declared.expression.Expression.{Expression}
use Rattle.lua_code.specs.Seen.{expression_seen, expressions_seen}
use Rattle.lua_flat.specs.IsExpression.{Has, IsValue, IsMany, IsExact, exact_none, exact_nils, exact_one, exact_one_nils, exact_dropped, exact_many, exact_more, exact_skips}
use Rattle.lua_flat_code.specs.declared.operand.Wanted.{Wanted}
use Rattle.lua_flat_code.specs.declared.op.Op.TheVariants as op
use Rattle.lua_flat_code.specs.Seen.{wanted_seen}
use Rattle.lua_flat_code.specs.Making.{State, place, lined, emitted, Reached}
use Rattle.lua_flat_code.specs.Parts.{Keeps, Fits, ValueSaid, ManySaid, ExactSaid, ExactSoFar}
use Rattle.lua_flat_code.proofs.MakingLaws.{length_snoc, stands_emitted, has_room}
use Rattle.lua_flat_code.proofs.ValueLaws.{keeps_same, keeps_trans, keeps_emitted, keeps_reached, no_fit}

-- registers that are reached before change nothing else
pub value_reached : (n free : ℕ) (e : CExp) (to : ℕ) (s s1 t : State) → Reached n s s1 → ValueSaid free e to s1 t → ValueSaid free e to s t
value_reached n free e to s s1 t r h =
    let k : ValueSaid free e to (record s { registers = s1.registers }) t = subst (λ u. ValueSaid free e to u t) r.same h in
    record { keeps = keeps_trans s s1 t (keeps_reached n s s1 r) h.keeps; paid = h.paid; code = k.code }

pub many_reached : (n free : ℕ) (e : CExp) (to : ℕ) (wanted : Wanted) (s s1 t : State) → Reached n s s1 → ManySaid free e to wanted s1 t → ManySaid free e to wanted s t
many_reached n free e to wanted s s1 t r h =
    let k : ManySaid free e to wanted (record s { registers = s1.registers }) t = subst (λ u. ManySaid free e to wanted u t) r.same h in
    record { keeps = keeps_trans s s1 t (keeps_reached n s s1 r) h.keeps; paid = h.paid; code = k.code }

-- THE LAST of a list
pub exact_no_more : (r : ℕ) (s : State) → ExactSaid r NoC 0 s s
exact_no_more r s = record { keeps = keeps_same s; code = λ f l. exact_none }

pub exact_absent : (r n room : ℕ) (s s1 : State) → Reached room s s1 → ExactSaid r NoC n s (emitted (op.Nils r n) 0 s1)
exact_absent r n room s s1 reached =
    subst (λ u. ExactSaid r NoC n s (emitted (op.Nils r n) 0 u)) (sym reached.same) (nils (record s { registers = s1.registers }) (subst (Keeps s) reached.same (keeps_reached room s s1 reached)) refl refl refl)
  where
    nils : (u : State) → Keeps s u → u.locals ≡ s.locals → u.owed ≡ s.owed → place u ≡ place s → ExactSaid r NoC n s (emitted (op.Nils r n) 0 u)
    nils u keeps ls owed at = record {
      keeps = keeps_trans s u (emitted (op.Nils r n) 0 u) keeps (keeps_emitted (op.Nils r n) 0 u);
      code = λ f l.
          let st = stands_emitted (op.Nils r n) 0 u f l in
          subst (λ p. IsExact f.code s.locals r NoC n s.owed (place s) 0 p) (sym (length_snoc u.steps (lined (op.Nils r n) 0 u)))
          (subst (λ p. IsExact f.code s.locals r NoC n s.owed p 0 (place u + 1)) at
          (subst (λ c. IsExact f.code s.locals r NoC n c (place u) 0 (place u + 1)) owed (exact_nils st.has.0)));
    }

pub exact_last : (r : ℕ) (e : CExp) (s s1 t : State) → Reached (r + 1) s s1 → ValueSaid (r + 1) e r s1 t → Fits true e → ExactSaid r (MoreC e NoC) 1 s t
exact_last r e s s1 t room h fits =
    let k = value_reached (r + 1) (r + 1) e r s s1 t room h in
    record {
      keeps = k.keeps;
      code = λ f l.
          let enough : r + 1 ≤ f.code.registers = has_room (r + 1) s s1 f room (h.keeps.next f l) in
          subst (λ c. IsExact f.code s.locals r (MoreC e NoC) 1 s.owed (place s) c (place t)) (sym h.paid) (exact_one (omega (arith, enough)) (k.code f true l fits));
    }

pub exact_unwanted : (r : ℕ) (e : CExp) (s s1 t : State) → Reached (r + 1) s s1 → ValueSaid (r + 1) e r s1 t → ExactSaid r (MoreC e NoC) 0 s t
exact_unwanted r e s s1 t room h =
    let k = value_reached (r + 1) (r + 1) e r s s1 t room h in
    record {
      keeps = k.keeps;
      code = λ f l.
          let enough : r + 1 ≤ f.code.registers = has_room (r + 1) s s1 f room (h.keeps.next f l) in
          subst (λ c. IsExact f.code s.locals r (MoreC e NoC) 0 s.owed (place s) c (place t)) (sym h.paid) (exact_dropped (omega (arith, enough)) (k.code f false l (no_fit e)));
    }

pub exact_call : (r n : ℕ) (e : CExp) (wanted : Wanted) (s s1 t : State) → Reached r s s1 → wanted_seen wanted ≡ Exactly n → ManySaid r e r wanted s1 t → ExactSaid r (MoreC e NoC) n s t
exact_call r n e wanted s s1 t room is h =
    let k = many_reached r r e r wanted s s1 t room h in
    record {
      keeps = k.keeps;
      code = λ f l.
          let enough : r ≤ f.code.registers = has_room r s s1 f room (h.keeps.next f l) in
          subst (λ c. IsExact f.code s.locals r (MoreC e NoC) n s.owed (place s) c (place t)) (sym h.paid)
          (exact_many enough (subst (λ w. IsMany f.code s.locals r e s.owed r w (place s) (place t)) is (k.code f l)));
    }

-- ONE MORE, behind which there are others
pub exact_start : (r n : ℕ) (es : CExps) (s : State) → ExactSoFar r n r n es es s s
exact_start r n es s = record { keeps = keeps_same s; code = λ f l c' pc' h. h }

pub exact_wanted : (r n at missing : ℕ) (whole : CExps) (e e' : CExp) (es : CExps) (s t t1 u : State) → ExactSoFar r n at (missing + 1) whole (MoreC e (MoreC e' es)) s t → Reached (at + 1) t t1 → ValueSaid (at + 1) e at t1 u
    → ExactSoFar r n (at + 1) missing whole (MoreC e' es) s u
exact_wanted r n at missing whole e e' es s t t1 u so room h =
    let k = value_reached (at + 1) (at + 1) e at t t1 u room h in
    record {
      keeps = keeps_trans s t u so.keeps k.keeps;
      code = λ f l c' pc' m.
          let enough : at + 1 ≤ f.code.registers = has_room (at + 1) t t1 f room (h.keeps.next f l) in
          let value : IsValue f.code s.locals false (at + 1) e t.owed at (place t) (place u) = subst (λ ls. IsValue f.code ls false (at + 1) e t.owed at (place t) (place u)) so.keeps.locals (k.code f false l (no_fit e)) in
          so.code f (k.keeps.next f l) c' pc' (exact_more (omega (arith, enough)) value (subst (λ c. IsExact f.code s.locals (at + 1) (MoreC e' es) missing c (place u) c' pc') h.paid m));
    }

pub exact_skipped : (r n at : ℕ) (whole : CExps) (e e' : CExp) (es : CExps) (s t t1 u : State) → ExactSoFar r n at 0 whole (MoreC e (MoreC e' es)) s t → Reached (at + 1) t t1 → ValueSaid (at + 1) e at t1 u
    → ExactSoFar r n at 0 whole (MoreC e' es) s u
exact_skipped r n at whole e e' es s t t1 u so room h =
    let k = value_reached (at + 1) (at + 1) e at t t1 u room h in
    record {
      keeps = keeps_trans s t u so.keeps k.keeps;
      code = λ f l c' pc' m.
          let enough : at + 1 ≤ f.code.registers = has_room (at + 1) t t1 f room (h.keeps.next f l) in
          let value : IsValue f.code s.locals false (at + 1) e t.owed at (place t) (place u) = subst (λ ls. IsValue f.code ls false (at + 1) e t.owed at (place t) (place u)) so.keeps.locals (k.code f false l (no_fit e)) in
          so.code f (k.keeps.next f l) c' pc' (exact_skips (omega (arith, enough)) value (subst (λ c. IsExact f.code s.locals at (MoreC e' es) 0 c (place u) c' pc') h.paid m));
    }

-- nils behind the last value
nils_of : (g : FlatFunction) (ls : List Local) (r n c pc c' pc' : ℕ) → IsExact g ls r NoC n c pc c' pc' → 1 ≤ n → (c' ≡ 0) × (pc' ≡ pc + 1) × Has g pc c (NilsF r n)
nils_of g ls r n c pc _ _ (exact_nils has) some = (refl, refl, has)
nils_of g ls r _ c pc _ _ exact_none some = absurd (none some)
  where
    none : 1 ≤ 0 → ⊥
    none k = omega (arith, k)

pub exact_padded : (next r n : ℕ) (e : CExp) (s s1 t u : State) → next ≡ r + 1 → Reached next s s1 → ValueSaid next e r s1 t → Fits true e → 2 ≤ n → ExactSaid next NoC (n - 1) t u → ExactSaid r (MoreC e NoC) n s u
exact_padded next r n e s s1 t u is room h fits some nils =
    let v : ValueSaid (r + 1) e r s t = subst (λ m. ValueSaid m e r s t) is (value_reached next next e r s s1 t room h) in
    record {
      keeps = keeps_trans s t u v.keeps nils.keeps;
      code = λ f l.
          let lt = nils.keeps.next f l in
          let enough : next ≤ f.code.registers = has_room next s s1 f room (h.keeps.next f lt) in
          let few : 1 ≤ n - 1 = omega (arith, some) in
          let whole : n - 1 + 1 ≡ n = omega (arith, some) in
          let behind = nils_of f.code t.locals next (n - 1) t.owed (place t) u.owed (place u) (nils.code f l) few in
          let has : Has f.code (place t) 0 (NilsF (r + 1) (n - 1)) = subst (λ c. Has f.code (place t) c (NilsF (r + 1) (n - 1))) h.paid (subst (λ m. Has f.code (place t) t.owed (NilsF m (n - 1))) is behind.2) in
          subst (λ p. IsExact f.code s.locals r (MoreC e NoC) n s.owed (place s) u.owed p) (sym behind.1)
          (subst (λ c. IsExact f.code s.locals r (MoreC e NoC) n s.owed (place s) c (place t + 1)) (sym behind.0)
          (subst (λ m. IsExact f.code s.locals r (MoreC e NoC) m s.owed (place s) 0 (place t + 1)) whole
          (exact_one_nils (omega (arith, is, enough)) (v.code f true lt fits) has)));
    }

-- where the next register has a name
pub exact_one_more : (next r n : ℕ) (e : CExp) (s s1 t : State) → next ≡ r + 1 → n ≤ 1 → Reached next s s1 → ValueSaid next e r s1 t → Fits true e → ExactSaid r (MoreC e NoC) n s t
exact_one_more next r zero e s s1 t is few room h fits = subst (λ m. Reached m s s1 → ValueSaid m e r s1 t → ExactSaid r (MoreC e NoC) 0 s t) (sym is) (exact_unwanted r e s s1 t) room h
exact_one_more next r (suc zero) e s s1 t is few room h fits = subst (λ m. Reached m s s1 → ValueSaid m e r s1 t → ExactSaid r (MoreC e NoC) 1 s t) (sym is) (λ a b. exact_last r e s s1 t a b fits) room h
exact_one_more next r (suc (suc n)) e s s1 t is few room h fits = absurd (many few)
  where
    many : suc (suc n) ≤ 1 → ⊥
    many k = omega (arith, k)

pub exact_turn : (next r n at at' missing missing' : ℕ) (whole : CExps) (left : List Expression) (first : Expression) (rest : List Expression) (s t t1 u : State) → next ≡ at + 1 → left ≡ first ∷ rest → 1 ≤ length rest
    → ((missing ≡ missing' + 1) × (at' ≡ next)) ⊎ ((missing ≡ 0) × (missing' ≡ 0) × (at' ≡ at)) → ExactSoFar r n at missing whole (expressions_seen left) s t → Reached next t t1 → ValueSaid next (expression_seen first) at t1 u
    → ExactSoFar r n at' missing' whole (expressions_seen rest) s u
exact_turn next r n at at' missing missing' whole left first [] s t t1 u is shape some way so room h = absurd (none some)
  where
    none : 1 ≤ 0 → ⊥
    none k = omega (arith, k)
exact_turn next r n at at' missing missing' whole left first (x ∷ xs) s t t1 u is shape some way so room h = go way
  where
    front : ExactSoFar r n at missing whole (MoreC (expression_seen first) (MoreC (expression_seen x) (expressions_seen xs))) s t
    front = subst (λ l. ExactSoFar r n at missing whole (expressions_seen l) s t) shape so

    reached : Reached (at + 1) t t1
    reached = subst (λ m. Reached m t t1) is room

    value : ValueSaid (at + 1) (expression_seen first) at t1 u
    value = subst (λ m. ValueSaid m (expression_seen first) at t1 u) is h

    go : ((missing ≡ missing' + 1) × (at' ≡ next)) ⊎ ((missing ≡ 0) × (missing' ≡ 0) × (at' ≡ at)) → ExactSoFar r n at' missing' whole (MoreC (expression_seen x) (expressions_seen xs)) s u
    go (inl w) =
        subst (λ a. ExactSoFar r n a missing' whole (MoreC (expression_seen x) (expressions_seen xs)) s u) (sym (w.1 ∙ is))
        (exact_wanted r n at missing' whole (expression_seen first) (expression_seen x) (expressions_seen xs) s t t1 u (subst (λ m. ExactSoFar r n at m whole (MoreC (expression_seen first) (MoreC (expression_seen x) (expressions_seen xs))) s t) w.0 front) reached value)
    go (inr w) =
        subst (λ a. ExactSoFar r n a missing' whole (MoreC (expression_seen x) (expressions_seen xs)) s u) (sym w.2)
        (subst (λ m. ExactSoFar r n at m whole (MoreC (expression_seen x) (expressions_seen xs)) s u) (sym w.1)
        (exact_skipped r n at whole (expression_seen first) (expression_seen x) (expressions_seen xs) s t t1 u (subst (λ m. ExactSoFar r n at m whole (MoreC (expression_seen first) (MoreC (expression_seen x) (expressions_seen xs))) s t) w.0 front) reached value))

pub exact_said : (r n at missing : ℕ) (whole left : CExps) (s t u : State) → ExactSoFar r n at missing whole left s t → ExactSaid at left missing t u → ExactSaid r whole n s u
exact_said r n at missing whole left s t u so h = record {
  keeps = keeps_trans s t u so.keeps h.keeps;
  code = λ f l. so.code f (h.keeps.next f l) u.owed (place u) (subst (λ ls. IsExact f.code ls at left missing t.owed (place t) u.owed (place u)) so.keeps.locals (h.code f l));
}

-- IN THE WORDS OF A FUNCTION
pub exact_said_by : (r n at missing : ℕ) (whole left last : CExps) (s t u : State) → ExactSoFar r n at missing whole left s t → left ≡ last → ExactSaid at last missing t u → ExactSaid r whole n s u
exact_said_by r n at missing whole left last s t u so is h = exact_said r n at missing whole last s t u (subst (λ l. ExactSoFar r n at missing whole l s t) is so) h

pub exact_as : (r n : ℕ) (es fs : List Expression) (s t : State) → es ≡ fs → ExactSaid r (expressions_seen fs) n s t → ExactSaid r (expressions_seen es) n s t
exact_as r n es fs s t is h = subst (λ xs. ExactSaid r (expressions_seen xs) n s t) (sym is) h
