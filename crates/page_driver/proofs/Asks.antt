-- A task asks: another one begins that answers it, or it is to be told the answer at once.
use Rattle.std.proofs.Common.{◌≡◌, ℕ, ◌+◌, ◌≤◌, ◌∷◌, Some, sym, ap, ◌∙◌, subst, arith}
use Rattle.std.specs.Prelude.{map}
use Rattle.std.specs.List.{AllByRecursion}
use Rattle.page_meaning.specs.WkBaseDeclaredLeftLeft.{Left}
use Rattle.page_meaning.specs.PageRunState.{Response, Reply as PlainReply}
use Rattle.page_meaning.specs.PageRunWalk.{WalkState, walk, pass_repeat}
use Rattle.page_tasks.specs.LuaHeapReach.{nowhere}
use Rattle.lua_code.specs.LuaMeaningWorld.{Modules}
use Rattle.page_meaning.specs.LuaMeaningQuestions.{Answer}
use Rattle.page_tasks.specs.LuaStoreSeen.{StoreView}
use Rattle.page_meaning.specs.Tasks.{Task as PlainTask, Question, Wants, task_of, answer_to}
use Rattle.page_tasks.specs.PagePointsPlaces.{Place, IsFresh, next_of}
use Rattle.page_tasks.proofs.PagePointsMoves.{going_with, one_begins, begin_counts, one_is_told, told_counts}
use Rattle.page_tasks.proofs.PagePointsApart.{nobody_is_there}
use Rattle.page_tasks.specs.declared.task.Task.{Task}
use Rattle.page_tasks.specs.declared.task.Halt.{Halt}
use Rattle.page_driver.specs.declared.tower.Tower.{Tower}
use Rattle.page_tasks.specs.PageGroundGround.{Ground, page_of, wiki_of, AreModulesOf}
use Rattle.page_tasks.specs.Tasks.{CanBeTold, Waits, HasHalted, at_halt, calls_in, depth_of, templates_of}
use Rattle.page_tasks.specs.Going.{IsToldWell}
use Rattle.page_tasks.specs.Beginning.{BeginsIn, StartsAt}
use Rattle.page_tasks.specs.PageGroundKept.{KeepOf, Keeps}
use Rattle.page_driver.specs.Driven.{set_of, sum_of, AllWait, IsBelow, IsHalted, IsReady, IsTold, Driven, Starting, Telling}
use Rattle.page_tasks.specs.PageGroundNumbered.{IsNumbered}
use Rattle.page_tasks.proofs.PageGroundNumbering.{numbered_later}
use Rattle.page_driver.proofs.Below.{below_later, all_wait_later}

-- it halts at this question
pub record AsksFor (g : Ground) (s : StoreView) (left : Left) (t : Task) (h : Halt) (q : Question) : Type 0 where
  pub counts : (n : ℕ) → at_halt h n ≡ n
  pub waits : CanBeTold t
  pub asks : (modules : Modules) (p : Place) → HasHalted g modules s left t p h → (next_of (wiki_of g modules) (page_of g) p ≡ Wants q left) × Waits g modules s t p

-- the answer to it is known, leaves this, and counts so much for data that was kept
pub record IsAnswered (g : Ground) (modules : Modules) (left : Left) (q : Question) (t : Task) (now : WalkState) (left' : Left) (charge : ℕ) (says : Response Answer) (high : ℕ) : Type 0 where
  pub reply : PlainReply Answer
  pub is : answer_to (wiki_of g modules) (page_of g) q left ≡ reply
  pub says_so : reply.response ≡ says
  pub leaves : reply.left ≡ left'
  pub invokes : reply.tally.invoked_nodes ≡ 0
  pub walks : walk reply.tally.loads now ≡ pass_repeat charge now
  pub well : IsToldWell t reply high

module _ (g : Ground) (root : PlainTask) (first : Left) (k₀ : ℕ) (s : StoreView) (left : Left) (k : ℕ) (tower tower' : Tower) (t : Task) (h : Halt) (q : Question) (a : AsksFor g s left t h q) (d : Driven g root first k₀ s left k tower (record { task = t; halt = h })) where
  -- A TASK BEGINS that answers it
  module _ (inner : Task) (s' : StoreView) (task : PlainTask) (b : BeginsIn g s s' inner) (e : tower'.stack ≡ t ∷ tower.stack) (e' : tower'.keep ≡ tower.keep) (e'' : tower'.repeat_charges ≡ tower.repeat_charges) (e''' : tower'.numbers ≡ tower.numbers) where
    below : AllByRecursion (IsBelow g s) (t ∷ tower.stack)
    below = (record { of = d.of; ground = d.ground; waits = a.waits }, d.accounts.below)

    is_ready : (modules : Modules) → ((began : WalkState) → StartsAt g modules s s' inner task left began) → task_of (wiki_of g modules) q ≡ Some task → (x : IsHalted g modules root first k₀ s left k tower (record { task = t; halt = h })) → IsFresh (wiki_of g modules) (page_of g) task left x.now → IsReady g modules root first k₀ s' left k tower' inner
    is_ready modules starts is x fresh =
        let st = x.standing in
        let w = a.asks modules x.top x.halted in
        let i = starts x.now in
        let apart = nobody_is_there s.heap (x.top.within ∷ map set_of x.below) st.apart in
        let going = one_begins (wiki_of g modules) (page_of g) root first x.top x.below x.now q left task st.going w.0 is fresh in
        record {
          top = _;
          below = x.top ∷ x.below;
          now = x.now;
          standing = record {
            going = going_with (wiki_of g modules) (page_of g) root first _ (x.top ∷ x.below) x.now 0 i.within going;
            others = subst (λ ts. AllWait g modules s' ts (x.top ∷ x.below)) (sym e) (all_wait_later g modules s s' b.later nowhere i.within i.alone (t ∷ tower.stack) (x.top ∷ x.below) below apart (w.1, st.others));
            apart = i.alone.apart (x.top.within ∷ map set_of x.below) apart;
            keeps = subst (λ keep. Keeps g modules keep x.now) (sym e') st.keeps;
            charges = st.charges ∙ sym e'';
            begun = omega (arith, st.begun, begin_counts (wiki_of g modules) (page_of g) x.top x.below x.now task left);
          };
          ready = i.ready;
        }

    pub driven_begins : ((modules : Modules) → AreModulesOf g modules → (began : WalkState) → StartsAt g modules s s' inner task left began) → ((modules : Modules) → AreModulesOf g modules → task_of (wiki_of g modules) q ≡ Some task)
        → ((modules : Modules) → AreModulesOf g modules → (now : WalkState) → Keeps g modules tower.keep now → IsFresh (wiki_of g modules) (page_of g) task left now) → Starting g root first k₀ s' left k tower' inner
    driven_begins starts is fresh = record {
      of = b.of;
      ground = b.ground;
      can = b.can;
      numbered = subst (IsNumbered s') (sym e''') (numbered_later s s' tower.numbers b.later d.numbered);
      accounts = record {
        below = subst (AllByRecursion (IsBelow g s')) (sym e) (below_later g s s' b.later (t ∷ tower.stack) below);
        keep = subst KeepOf (sym e') d.accounts.keep;
        calls_are = omega (arith, d.accounts.calls_are, a.counts (calls_in t), b.calls, ap (sum_of calls_in) e);
        depth_is = omega (arith, d.accounts.depth_is, a.counts (depth_of t), b.depth, ap (sum_of depth_of) e);
        templates_are = omega (arith, d.accounts.templates_are, a.counts (templates_of t), b.templates, ap (sum_of templates_of) e);
        rises = d.accounts.rises;
        paid = omega (arith, d.accounts.paid, e'');
      };
      placed = λ modules agree. let x = d.placed modules agree in is_ready modules (starts modules agree) (is modules agree) x (fresh modules agree x.now x.standing.keeps);
    }

  -- IT IS TOLD the answer at once
  module _ (left' : Left) (charge : ℕ) (says : Response Answer) (high : ℕ) (e : tower'.stack ≡ tower.stack) (e' : tower'.keep ≡ tower.keep) (e'' : tower'.repeat_charges ≡ tower.repeat_charges + charge) (e''' : tower'.numbers ≡ tower.numbers) (f : left' ≡ record left { steps = left'.steps }) (c : left'.steps + charge ≤ left.steps) where
    is_told : (modules : Modules) → (x : IsHalted g modules root first k₀ s left k tower (record { task = t; halt = h })) → IsAnswered g modules left q t x.now left' charge says high → IsTold g modules root first k₀ s left' k tower' t says high
    is_told modules x i =
        let st = x.standing in
        let w = a.asks modules x.top x.halted in
        let next : WalkState = walk i.reply.tally.loads x.now in
        record {
          top = x.top;
          below = x.below;
          now = next;
          reply = i.reply;
          standing = record {
            going = one_is_told (wiki_of g modules) (page_of g) root first x.top x.below x.now q left i.reply st.going w.0 i.is;
            others = subst (λ ts. AllWait g modules s ts x.below) (sym e) st.others;
            apart = st.apart;
            keeps = subst (λ keep. Keeps g modules keep next) (sym e') (subst (λ v. Keeps g modules tower.keep v) (sym i.walks) (record { all = st.keeps.all; names = st.keeps.names }));
            charges = ap (λ (v : WalkState). v.repeat_charges) i.walks ∙ ap (λ n. n + charge) st.charges ∙ sym e'';
            begun = omega (arith, st.begun, told_counts (wiki_of g modules) (page_of g) x.top x.below x.now q left i.reply w.0 i.invokes (ap (λ (v : WalkState). v.fresh_nodes) i.walks));
          };
          waits = w.1;
          says_so = i.says_so;
          leaves = i.leaves;
          well = i.well;
        }

    pub driven_answers : ((modules : Modules) → AreModulesOf g modules → (now : WalkState) → Keeps g modules tower.keep now → IsAnswered g modules left q t now left' charge says high) → Telling g root first k₀ s left' k tower' t says high
    driven_answers i = record {
      of = d.of;
      ground = d.ground;
      waits = a.waits;
      numbered = subst (IsNumbered s) (sym e''') d.numbered;
      accounts = record {
        below = subst (AllByRecursion (IsBelow g s)) (sym e) d.accounts.below;
        keep = subst KeepOf (sym e') d.accounts.keep;
        calls_are = omega (arith, d.accounts.calls_are, a.counts (calls_in t), ap (sum_of calls_in) e, ap (λ (l : Left). l.calls) f);
        depth_is = omega (arith, d.accounts.depth_is, a.counts (depth_of t), ap (sum_of depth_of) e, ap (λ (l : Left). l.depth) f);
        templates_are = omega (arith, d.accounts.templates_are, a.counts (templates_of t), ap (sum_of templates_of) e, ap (λ (l : Left). l.templates) f);
        rises = d.accounts.rises;
        paid = omega (arith, d.accounts.paid, e'', c);
      };
      placed = λ modules agree. let x = d.placed modules agree in is_told modules x (i modules agree x.now x.standing.keeps);
    }
