-- Code of `if`, put together from that of its branches.
use Rattle.std.proofs.Common.{◌≡◌, ◌∙◌, ℕ, ◌+◌, ◌-◌, ◌^◌, List, [], ◌∷◌, ◌++◌, Option, Some, None, refl, sym, ap, subst}
use Rattle.lua_flat.specs.LuaSlotsCode.{CExp, IfC, IfElseC, CBlock, CArms, NoArmC, ArmC}
use Rattle.lua_flat.specs.Operations as flat
use Rattle.lua_flat.specs.IsExpression.{Has}
use Rattle.lua_flat.specs.IsStatement.{IsJoin, joined, by_jump, by_pay, IsStat, if_arms, if_else, IsBlock, IsArms, arms_end as no_arm, arms_else, arm_then}
use Rattle.lua_code.specs.declared.statement.Branch.{Branch}
use Rattle.lua_code.specs.declared.statement.Statement.{Statement}
use Rattle.lua_code.specs.Seen.{block_seen, branch_seen, branches_seen}
use Rattle.lua_flat_code.specs.declared.op.Op.TheVariants as op
use Rattle.lua_flat_code.specs.Making.{State, place, aim, AllLead, Final, Later, Next, begun, lined, emitted, Settled, settled, pays, AllLed}
use Rattle.lua_flat_code.specs.Parts.{Keeps, ConditionSaid, AllBreak, StatSaid}
use Rattle.lua_flat_code.specs.Whole.{BegunStat, BlockSaid, if_of, other_seen, arms_then, ArmSaid, ArmsSaid, ArmsEndSaid}
use Rattle.lua_flat_code.proofs.MakingLaws.{length_snoc, same_there, next_same, next_trans, next_begun, next_emitted, stands_emitted}
use Rattle.lua_flat_code.proofs.ValueLaws.{keeps_same, keeps_emitted}
use Rattle.lua_flat_code.proofs.TestLaws.{all_front, all_last}
use Rattle.lua_flat_code.proofs.StatementLaws.{breaks_kept, breaks_trans}

-- a jump to a place whose operation is known to lead there
jump_leads : (t u : State) (f : Final) (end : ℕ) → Next (emitted (op.Jump (2 ^ 32 - 1)) 0 t) u → Later u f → AllLead f.code (place t ∷ []) end → IsJoin f.code t.owed (place t) end
jump_leads t u f end next l ends =
    let st = stands_emitted (op.Jump (2 ^ 32 - 1)) 0 t f (next f l) in
    let is : aim st.to (2 ^ 32 - 1) ≡ end = same_there (aim st.to (2 ^ 32 - 1)) end (ends.0 _ st.has.0) in
    by_jump (subst (λ x. Has f.code (place t) t.owed (flat.JumpF x)) is st.has.0)

-- a branch behind which there are others, or another block: it jumps to the end
pub arm_jumps : (free : ℕ) (test : CExp) (b : CBlock) (arm : CArms → CArms) (ends ends' misses : List ℕ) (s u v x : State) → ((rest : CArms) → arm rest ≡ ArmC test b rest) → ConditionSaid free test [] misses s u → BlockSaid free b u v
    → ends' ≡ ends ++ place v ∷ [] → AllLed misses (place (emitted (op.Jump (2 ^ 32 - 1)) 0 v)) (emitted (op.Jump (2 ^ 32 - 1)) 0 v) x → ArmSaid free arm ends ends' s x
arm_jumps free test b arm ends ends' misses s u v x is cond block put led =
    let jumped : State = emitted (op.Jump (2 ^ 32 - 1)) 0 v in
    let jumped_next : Next v x = next_trans v jumped x (next_emitted (op.Jump (2 ^ 32 - 1)) 0 v) led.next in
    let vars : x.locals ≡ s.locals = ap (λ (w : State). w.locals) led.same ∙ block.locals ∙ cond.keeps.locals in
    let out_of : (f : Final) (away : Option ℕ) → AllBreak f away x.breaks → AllBreak f away v.breaks = λ f away out. subst (AllBreak f away) (ap (λ (w : State). w.breaks) led.same) out in
    subst (λ js. ArmSaid free arm ends js s x) (sym put) (record {
      locals = vars;
      next = next_trans s u x cond.keeps.next (next_trans u v x block.next jumped_next);
      breaks = λ f away out. subst (AllBreak f away) cond.keeps.breaks (block.breaks f away (out_of f away out));
      grows = λ f target all. all_front f.code target (place v) ends all;
      code = λ f l away out end all arms other h.
          let lv = jumped_next f l in
          let body = block.code f lv away (out_of f away out) in
          let owed : x.owed ≡ 0 = ap (λ (w : State). w.owed) led.same in
          let rest : IsArms f.code away s.locals free arms other 0 (place jumped) end =
          subst (λ p. IsArms f.code away s.locals free arms other 0 p end) led.place (subst (λ c. IsArms f.code away s.locals free arms other c (place x) end) owed h) in
          subst (λ a. IsArms f.code away s.locals free a other s.owed (place s) end) (sym (is arms))
          (arm_then (cond.code f (block.next f lv) (place jumped) (led.lead f l)) (subst (λ ls. IsBlock f.code away ls free b u.owed (place u) v.owed (place v) body.0 body.1) cond.keeps.locals body.2)
          (jump_leads v x f end led.next l (all_last f.code end (place v) ends all, tt)) rest);
    })

pub arms_start : (free : ℕ) (bs : List Branch) (ends : List ℕ) (s : State) → ArmsSaid free (arms_then bs) bs ends ends s s
arms_start free bs ends s = record { locals = refl; next = next_same s; breaks = λ f away h. h; grows = λ f target h. h; code = λ f l away out end all arms other h. h }

pub arms_step : (free : ℕ) (front : CArms → CArms) (left : List Branch) (b : Branch) (more : List Branch) (ends ends' ends'' : List ℕ) (s t u : State) → ArmsSaid free front left ends ends' s t → left ≡ b ∷ more → ArmSaid free (branch_seen b) ends' ends'' t u
    → ArmsSaid free front more ends ends'' s u
arms_step free front left b more ends ends' ends'' s t u so is k =
    let first : ArmsSaid free front (b ∷ more) ends ends' s t = subst (λ l. ArmsSaid free front l ends ends' s t) is so in
    record {
      locals = k.locals ∙ so.locals;
      next = next_trans s t u so.next k.next;
      breaks = breaks_trans s.breaks t.breaks u.breaks so.breaks k.breaks;
      grows = λ f target h. so.grows f target (k.grows f target h);
      code = λ f l away out end all arms other h.
          first.code f (k.next f l) away (k.breaks f away out) end (k.grows f end all) arms other
          (subst (λ ls. IsArms f.code away ls free (branch_seen b (arms_then more arms)) other t.owed (place t) end) so.locals
          (k.code f l away out end all (arms_then more arms) other (subst (λ ls. IsArms f.code away ls free (arms_then more arms) other u.owed (place u) end) (sym so.locals) h)));
    }

pub arms_end : (free : ℕ) (front : CArms → CArms) (left : List Branch) (ends ends' : List ℕ) (s t : State) → ArmsSaid free front left ends ends' s t → left ≡ [] → ArmsSaid free front [] ends ends' s t
arms_end free front left ends ends' s t so is = subst (λ l. ArmsSaid free front l ends ends' s t) is so

pub all_arms : (bs : List Branch) → arms_then bs NoArmC ≡ branches_seen bs
all_arms [] = refl
all_arms (b ∷ bs) = ap (branch_seen b) (all_arms bs)

pub settled_paid : (v w : State) → Settled v w → w.owed ≡ 0
settled_paid v _ (settled none) = none
settled_paid v w (pays is) = ap (λ (x : State). x.owed) is

pub settled_keeps : (v w : State) → Settled v w → Keeps v w
settled_keeps v _ (settled none) = keeps_same v
settled_keeps v w (pays is) = subst (Keeps v) (sym is) (keeps_emitted op.Pay 0 v)

pub settled_joins : (v w : State) (f : Final) → Settled v w → Later w f → IsJoin f.code v.owed (place v) (place w)
settled_joins v _ f (settled none) l = subst (λ c. IsJoin f.code c (place v) (place v)) (sym none) joined
settled_joins v w f (pays is) l =
    let st = stands_emitted op.Pay 0 v f (subst (λ x. Later x f) is l) in
    let at : place w ≡ place v + 1 = ap place is ∙ length_snoc v.steps (lined op.Pay 0 v) in
    subst (λ p. IsJoin f.code v.owed (place v) p) (sym at) (by_pay st.has.0)

-- THE END: a block behind `else`, or the last branch
pub else_ends : (free : ℕ) (b : CBlock) (s v w : State) → BlockSaid free b s v → Settled v w → ArmsEndSaid free NoArmC (Some b) s w
else_ends free b s v w block settles =
    let keeps : Keeps v w = settled_keeps v w settles in
    record {
      locals = keeps.locals ∙ block.locals;
      next = next_trans s v w block.next keeps.next;
      breaks = breaks_trans s.breaks v.breaks w.breaks block.breaks (breaks_kept v w keeps.breaks);
      paid = settled_paid v w settles;
      code = λ f l away out.
          let body = block.code f (keeps.next f l) away (subst (AllBreak f away) keeps.breaks out) in
          arms_else body.2 (settled_joins v w f settles l);
    }

pub arm_ends : (free : ℕ) (test : CExp) (b : CBlock) (misses : List ℕ) (s u v w x : State) → ConditionSaid free test [] misses s u → BlockSaid free b u v → Settled v w → AllLed misses (place w) w x → ArmsEndSaid free (ArmC test b NoArmC) None s x
arm_ends free test b misses s u v w x cond block settles led =
    let keeps : Keeps v w = settled_keeps v w settles in
    let on : Next v x = next_trans v w x keeps.next led.next in
    let jumps : x.breaks ≡ v.breaks = ap (λ (y : State). y.breaks) led.same ∙ keeps.breaks in
    record {
      locals = ap (λ (y : State). y.locals) led.same ∙ keeps.locals ∙ block.locals ∙ cond.keeps.locals;
      next = next_trans s u x cond.keeps.next (next_trans u v x block.next on);
      breaks = λ f away out. subst (AllBreak f away) cond.keeps.breaks (block.breaks f away (subst (AllBreak f away) jumps out));
      paid = ap (λ (y : State). y.owed) led.same ∙ settled_paid v w settles;
      code = λ f l away out.
          let lv = on f l in
          let body = block.code f lv away (subst (AllBreak f away) jumps out) in
          subst (λ p. IsArms f.code away s.locals free (ArmC test b NoArmC) None s.owed (place s) p) (sym led.place)
          (arm_then (cond.code f (block.next f lv) (place w) (led.lead f l)) (subst (λ ls. IsBlock f.code away ls free b u.owed (place u) v.owed (place v) body.0 body.1) cond.keeps.locals body.2)
          (settled_joins v w f settles (led.next f l)) (no_arm joined));
    }

-- AN `if`
choice_code : (free : ℕ) (whole last : CArms) (front : CArms → CArms) (left : List Branch) (other : Option CBlock) (ends0 ends : List ℕ) (s t u v : State) → ArmsSaid free front left ends0 ends (begun s) t → ArmsEndSaid free (arms_then left last) other t u → AllLed ends (place u) u v
    → front last ≡ whole → ((f : Final) (away : Option ℕ) (end : ℕ) → IsArms f.code away s.locals free whole other (s.owed + 1) (place s) end → IsStat f.code away s.locals free (if_of whole other) s.owed (place s) 0 end) → StatSaid free (if_of whole other) s v
choice_code free whole last front left other ends0 ends s t u v first end led is stat =
    let on : Next t v = next_trans t u v end.next led.next in
    let jumps : v.breaks ≡ u.breaks = ap (λ (y : State). y.breaks) led.same in
    record {
      next = next_trans s t v (next_trans s (begun s) t (next_begun s) first.next) on;
      locals = ap (λ (y : State). y.locals) led.same ∙ end.locals ∙ first.locals;
      breaks = breaks_trans s.breaks u.breaks v.breaks (breaks_trans s.breaks t.breaks u.breaks first.breaks end.breaks) (breaks_kept u v jumps);
      code = λ f l away out.
          let at_u : AllBreak f away u.breaks = subst (AllBreak f away) jumps out in
          let back : IsArms f.code away s.locals free (arms_then left last) other t.owed (place t) (place u) = subst (λ ls. IsArms f.code away ls free (arms_then left last) other t.owed (place t) (place u)) first.locals (end.code f (led.next f l) away at_u) in
          let arms : IsArms f.code away s.locals free (front last) other (s.owed + 1) (place s) (place u) = first.code f (on f l) away (end.breaks f away at_u) (place u) (led.lead f l) last other back in
          let owed : v.owed ≡ 0 = ap (λ (y : State). y.owed) led.same ∙ end.paid in
          subst (λ c. IsStat f.code away s.locals free (if_of whole other) s.owed (place s) c (place v)) (sym owed)
          (subst (λ p. IsStat f.code away s.locals free (if_of whole other) s.owed (place s) 0 p) (sym led.place)
          (stat f away (place u) (subst (λ a. IsArms f.code away s.locals free a other (s.owed + 1) (place s) (place u)) is arms)));
    }

pub begun_else : (free : ℕ) (bs : List Branch) (b : CBlock) (ends0 ends : List ℕ) (old t w u v : State) → ArmsSaid free (arms_then bs) [] ends0 ends old t → BlockSaid free b t w → Settled w u → AllLed ends (place u) u v → BegunStat free (IfElseC (branches_seen bs) b) old v
begun_else free bs b ends0 ends old t w u v so block settles led = λ s is.
    choice_code free (branches_seen bs) NoArmC (arms_then bs) [] (Some b) ends0 ends s t u v (subst (λ x. ArmsSaid free (arms_then bs) [] ends0 ends x t) is so) (else_ends free b t w u block settles) led (all_arms bs) (λ f away end arms. if_else arms)

-- one branch is left, which is the last
pub begun_alone : (free : ℕ) (bs left : List Branch) (last : Branch) (ends0 ends : List ℕ) (old t u v : State) → ArmsSaid free (arms_then bs) left ends0 ends old t → left ≡ last ∷ [] → ArmsEndSaid free (branch_seen last NoArmC) None t u → AllLed ends (place u) u v
    → BegunStat free (IfC (branches_seen bs)) old v
begun_alone free bs left last ends0 ends old t u v so alone end led = λ s is.
    let first : ArmsSaid free (arms_then bs) (last ∷ []) ends0 ends (begun s) t = subst (λ x. ArmsSaid free (arms_then bs) (last ∷ []) ends0 ends x t) is (subst (λ l. ArmsSaid free (arms_then bs) l ends0 ends old t) alone so) in
    choice_code free (branches_seen bs) NoArmC (arms_then bs) (last ∷ []) None ends0 ends s t u v first end led (all_arms bs) (λ f away end arms. if_arms arms)

-- IN THE WORDS OF A FUNCTION
pub said_arm : (free jump : ℕ) (test : CExp) (body held : List Statement) (arm : CArms → CArms) (ends ends' none misses : List ℕ) (s u v j x : State) → ((rest : CArms) → arm rest ≡ ArmC test (block_seen held) rest) → none ≡ [] → ConditionSaid free test none misses s u → body ≡ held
    → BlockSaid free (block_seen body) u v → jump ≡ place v → j ≡ emitted (op.Jump (2 ^ 32 - 1)) 0 v → ends' ≡ ends ++ jump ∷ [] → AllLed misses (place j) j x → ArmSaid free arm ends ends' s x
said_arm free jump test body held arm ends ends' none misses s u v j x is empty cond same block at ends_is put led =
    arm_jumps free test (block_seen held) arm ends ends' misses s u v x is (subst (λ n. ConditionSaid free test n misses s u) empty cond) (subst (λ b. BlockSaid free (block_seen b) u v) same block) (put ∙ ap (λ n. ends ++ n ∷ []) at)
    (subst (λ (z : State). AllLed misses (place z) z x) ends_is led)

pub said_last_arm : (free : ℕ) (test : CExp) (body held : List Statement) (arm : CArms) (none misses : List ℕ) (s u v w x : State) → arm ≡ ArmC test (block_seen held) NoArmC → none ≡ [] → ConditionSaid free test none misses s u → body ≡ held
    → BlockSaid free (block_seen body) u v → Settled v w → AllLed misses (place w) w x → ArmsEndSaid free arm None s x
said_last_arm free test body held arm none misses s u v w x is empty cond same block settles led =
    subst (λ a. ArmsEndSaid free a None s x) (sym is)
    (arm_ends free test (block_seen held) misses s u v w x (subst (λ n. ConditionSaid free test n misses s u) empty cond) (subst (λ b. BlockSaid free (block_seen b) u v) same block) settles led)

pub else_choice : (free : ℕ) (bs : List Branch) (other : Option (List Statement)) (body b : List Statement) (old t : State) → other ≡ Some body → b ≡ body → BegunStat free (IfElseC (branches_seen bs) (block_seen b)) old t → BegunStat free (if_of (branches_seen bs) (other_seen other)) old t
else_choice free bs other body b old t is same h =
    subst (λ o. BegunStat free (if_of (branches_seen bs) (other_seen o)) old t) (sym is) (subst (λ x. BegunStat free (IfElseC (branches_seen bs) (block_seen x)) old t) same h)

pub none_choice : (free : ℕ) (bs : List Branch) (other : Option (List Statement)) (old t : State) → other ≡ None → BegunStat free (IfC (branches_seen bs)) old t → BegunStat free (if_of (branches_seen bs) (other_seen other)) old t
none_choice free bs other old t is h = subst (λ o. BegunStat free (if_of (branches_seen bs) (other_seen o)) old t) (sym is) h
