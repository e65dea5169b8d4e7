-- A page goes on: a task that can go on, or is told a reply, halts again.
use Rattle.std.proofs.Common.{◌≡◌, ℕ, ◌+◌, ◌-◌, List, arith}
use Rattle.std.specs.Prelude.{map}
use Rattle.page_meaning.specs.WkBaseDeclaredLeftLeft.{Left}
use Rattle.page_meaning.specs.PageRunState.{Response}
use Rattle.page_meaning.specs.PageRunWalk.{WalkState}
use Rattle.page_tasks.specs.LuaHeapReach.{Set}
use Rattle.lua_code.specs.LuaMeaningWorld.{Modules}
use Rattle.page_meaning.specs.LuaMeaningQuestions.{Answer}
use Rattle.page_tasks.specs.LuaStoreSeen.{StoreView}
use Rattle.page_meaning.specs.Tasks.{Task as PlainTask}
use Rattle.page_tasks.specs.PagePointsPlaces.{Place, replied}
use Rattle.page_tasks.specs.PagePointsApart.{LeavesAlone}
use Rattle.page_tasks.proofs.PagePointsMoves.{going_with}
use Rattle.page_tasks.specs.declared.task.Task.{Task}
use Rattle.page_tasks.specs.declared.task.Halted.{Halted}
use Rattle.page_driver.specs.declared.tower.Tower.{Tower}
use Rattle.page_tasks.specs.PageGroundGround.{Ground, page_of, wiki_of}
use Rattle.page_tasks.specs.Tasks.{calls_in, depth_of, templates_of, at_halt}
use Rattle.page_tasks.specs.Going.{Halts, GoesOn, GoesOnWith}
use Rattle.page_driver.specs.Driven.{set_of, Standing, Accounts, Driven, Starting, Telling}
use Rattle.page_tasks.proofs.PageGroundNumbering.{numbered_later}
use Rattle.page_driver.proofs.Below.{below_later, all_wait_later}

module _ (g : Ground) (root : PlainTask) (first : Left) (k₀ : ℕ) (s : StoreView) (left : Left) (k : ℕ) (tower : Tower) (s' : StoreView) (left' : Left) (k' : ℕ) (x : Halted) where
  accounts_go : (t : Task) → Accounts g first k₀ s left k tower (calls_in t) (depth_of t) (templates_of t) → Halts s left k t s' left' k' x
      → Accounts g first k₀ s' left' k' tower (at_halt x.halt (calls_in x.task)) (at_halt x.halt (depth_of x.task)) (at_halt x.halt (templates_of x.task))
  accounts_go t a h = record {
    below = below_later g s s' h.later tower.stack a.below;
    keep = a.keep;
    calls_are = omega (arith, a.calls_are, h.sums.calls);
    depth_is = omega (arith, a.depth_is, h.sums.depth);
    templates_are = omega (arith, a.templates_are, h.sums.templates);
    rises = omega (arith, a.rises, h.rises);
    paid = omega (arith, a.paid, h.paid);
  }

  -- the others stay where they are, and the top one has another set and has counted more
  standing_goes : (modules : Modules) (t : Task) (top : Place) (below : List Place) (now : WalkState) (n : ℕ) (S : Set) → Accounts g first k₀ s left k tower (calls_in t) (depth_of t) (templates_of t) → Halts s left k t s' left' k' x → k' ≡ k + n → LeavesAlone top.within s.heap s'.heap S
      → Standing g modules root first k₀ s k tower top below now → Standing g modules root first k₀ s' k' tower (record top { nodes = top.nodes + n; within = S }) below now
  standing_goes modules t top below now n S a h e alone d = record {
    going = going_with (wiki_of g modules) (page_of g) root first top below now (top.nodes + n) S d.going;
    others = all_wait_later g modules s s' h.later top.within S alone tower.stack below a.below d.apart d.others;
    apart = alone.apart (map set_of below) d.apart;
    keeps = d.keeps;
    charges = d.charges;
    begun = omega (arith, d.begun, e);
  }

  pub driven_goes : (t : Task) → Starting g root first k₀ s left k tower t → Halts s left k t s' left' k' x → ((n : ℕ) → k' ≡ k + n → GoesOn s left t s' left' n x) → Driven g root first k₀ s' left' k' tower x
  driven_goes t st h goes = record {
    of = h.of;
    ground = h.ground g st.ground;
    halts = h.halts;
    numbered = numbered_later s s' tower.numbers h.later st.numbered;
    accounts = accounts_go t st.accounts h;
    placed = λ modules agree.
        let p = st.placed modules agree in
        let n : ℕ = k' - k in
        let e : k' ≡ k + n = omega (arith, h.rises) in
        let halted = goes n e g st.ground modules agree p.top p.ready in
        record { top = _; below = p.below; now = p.now; standing = standing_goes modules t p.top p.below p.now n _ st.accounts h e halted.alone p.standing; halted = halted.halted };
  }

  pub driven_told : (t : Task) (says : Response Answer) (high : ℕ) → Telling g root first k₀ s left k tower t says high → Halts s left k t s' left' k' x → ((n : ℕ) → k' ≡ k + n → GoesOnWith s left t says high s' left' n x) → Driven g root first k₀ s' left' k' tower x
  driven_told t says high st h goes = record {
    of = h.of;
    ground = h.ground g st.ground;
    halts = h.halts;
    numbered = numbered_later s s' tower.numbers h.later st.numbered;
    accounts = accounts_go t st.accounts h;
    placed = λ modules agree.
        let p = st.placed modules agree in
        let n : ℕ = k' - k in
        let e : k' ≡ k + n = omega (arith, h.rises) in
        let told = goes n e g st.ground modules agree p.top p.waits p.standing.apart.0 p.reply p.says_so p.leaves p.well in
        record { top = _; below = p.below; now = p.now; standing = standing_goes modules t (replied p.top p.reply) p.below p.now n told.0 st.accounts h e told.1.alone p.standing; halted = told.1.halted };
  }
