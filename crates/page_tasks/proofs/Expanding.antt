-- An expansion goes on until it halts, at its start and with a text.
use Rattle.std.proofs.Common.{◌≡◌, ℕ, ◌+◌, List, [], ◌∷◌, ◌++◌, Result, Ok, Err, sym, ap, ◌∙◌, subst, arith}
use Rattle.std.specs.Prelude.{map, IfOk, OnOk}
use Rattle.std.proofs.lemmas.List.{map-append}
use Rattle.page_run.specs.WkBaseDeclaredLeftLeft.{Left}
use Rattle.page_run.specs.Outcome.{Outcome}
use Rattle.page_run.specs.State.{Gives, Reply as PlainReply}
use Rattle.lua_code.specs.LuaHeapProc.{Proc}
use Rattle.lua_code.specs.LuaHeapValue.{Value}
use Rattle.lua_code.specs.LuaHeapHeap.{Heap}
use Rattle.lua_machine.specs.LuaHeapReach.{Set, Frame}
use Rattle.wiki_expand.specs.ExpandMeaningExpand.{Setting}
use Rattle.wiki_expand.specs.ExpandMeaningOutcome.{Work, Comes, Asks, next_event}
use Rattle.lua_code.specs.LuaMeaningWorld.{Modules}
use Rattle.lua_machine.specs.LuaMeaningActs.{Jump}
use Rattle.page_ground.specs.LuaMeaningQuestions.{Answer}
use Rattle.lua_machine.specs.LuaStoreSeen.{StoreView}
use Rattle.page_ground.proofs.LuaStoreLater.{later-itself}
use Rattle.wiki_expand.specs.declared.expander.Expander.{Expander}
use Rattle.wiki_expand.specs.declared.expander.Move.{Move}
use Rattle.wiki_expand.specs.declared.expander.Move.TheVariants.{Text as Came, Invoke as Invokes}
use Rattle.wiki_expand.specs.WikiPagesPages.{Pages}
use Rattle.wiki_expand.specs.Standing.{At, Waits, IsMove, MoveAsks, MoveFalls, IsAfter, setting_of, depth_in, templates_in, allowed_in}
use Rattle.page_ground.specs.PageMeaningWiki.{setting}
use Rattle.page_ground.specs.PageMeaningTasks.{Expanding, as_text, text_of, text_response}
use Rattle.page_ground.specs.PagePointsPlaces.{Place, replied}
use Rattle.page_ground.specs.PagePointsMachines.{gone}
use Rattle.page_ground.proofs.PagePointsExpansions.{expansion_asks, expansion_ends}
use Rattle.page_ground.proofs.PagePointsApart.{going_leaves}
use Rattle.page_tasks.specs.declared.task.Task.TheVariants as task
use Rattle.page_tasks.specs.declared.task.Halted.{Halted}
use Rattle.page_ground.specs.Ground.{Ground, page_of, wiki_of}
use Rattle.page_tasks.specs.Tasks.{HasHalted}
use Rattle.page_tasks.specs.Going.{halt_of, Halts, GoesOn, ToldFrom}
use Rattle.page_tasks.specs.Calls.{ExpanderGoes, ExpanderIsTold}
use Rattle.page_tasks.specs.Falling.{CanGiveBack, FallsAt, Falls, allowed_with}

no_frame : (S : Set) (h : Heap Proc) → Frame S h h
no_frame S h = record { lives = λ r b e. (b, e); others = λ r b e i. e; shared = λ r b e i. e }

-- by the clauses of its calls
pub by_going : {E : Type 0} (e : Expander) (l : Left) (e' : Expander) (l' : Left) (pages : Pages) (r : Result Move E) → IfOk r (λ m. (work : Work) (first : Left) (given : List (PlainReply (List ℕ))) → At e work first given l → IsMove m e' work first given l') → IfOk r (MoveAsks pages) → OnOk r (setting_of e' ≡ setting_of e)
    → OnOk r (l'.depth + depth_in e' ≡ l.depth + depth_in e) → OnOk r (l'.templates + templates_in e' ≡ l.templates + templates_in e) → IfOk r (λ m. IsAfter m e') → OnOk r ((l'.steps ≡ l.steps) × (l'.calls ≡ l.calls)) → IfOk r (λ m. MoveFalls m (allowed_in l e) (allowed_in l' e')) → IfOk r (λ m. ExpanderGoes e l m e' l')
by_going e l e' l' pages (Ok m) goes asks setting depth templates after used falls = record { goes = goes; pages = pages; asks = asks; setting = setting; depth = depth; templates = templates; after = after; used = used; falls = falls }
by_going e l e' l' pages (Err x) goes asks setting depth templates after used falls = tt

pub by_answer : {U E : Type 0} (e : Expander) (l : Left) (text : List ℕ) (e' : Expander) (l' : Left) (r : Result U E)
    → OnOk r ((work : Work) (first : Left) (given : List (PlainReply (List ℕ))) (p : PlainReply (List ℕ)) → Waits e work first given → p.response ≡ Gives text → p.left ≡ l → At e' work first (given ++ p ∷ []) l') → l' ≡ l → OnOk r (setting_of e' ≡ setting_of e) → OnOk r (depth_in e' ≡ depth_in e)
    → OnOk r (templates_in e' ≡ templates_in e) → OnOk r (allowed_in l' e' ≡ allowed_in l e) → OnOk r (ExpanderIsTold e l text e' l')
by_answer e l text e' l' (Ok u) at left setting depth templates falls = record { at = at; left = left; setting = setting; depth = depth; templates = templates; falls = falls }
by_answer e l text e' l' (Err x) at left setting depth templates falls = tt

module _ (e : Expander) (l : Left) (m : Move) (e' : Expander) (l' : Left) (c : ExpanderGoes e l m e' l') where
  pub expansion_halts : (s : StoreView) (k : ℕ) → Halts s l k (task.Expansion e) s l' k (record { task = task.Expansion e'; halt = halt_of m })
  expansion_halts s k = by_move m c.after c.asks
    where
      by_move : (x : Move) → IsAfter x e' → MoveAsks c.pages x → Halts s l k (task.Expansion e) s l' k (record { task = task.Expansion e'; halt = halt_of x })
      by_move (Came text) a i = record {
        of = tt;
        halts = tt;
        ground = λ g h. c.setting ∙ h;
        later = later-itself s;
        sums = record { calls = omega (arith, c.used.1); depth = omega (arith, c.depth, a.0); templates = omega (arith, c.templates, a.1) };
        rises = omega arith;
        paid = omega (arith, c.used.0);
      }
      by_move (Invokes job) a i = record {
        of = tt;
        halts = (a, i.1);
        ground = λ g h. c.setting ∙ h;
        later = later-itself s;
        sums = record { calls = omega (arith, c.used.1); depth = c.depth; templates = c.templates };
        rises = omega arith;
        paid = omega (arith, c.used.0);
      }

  pub expansion_falls : Falls l (task.Expansion e) l' (record { task = task.Expansion e'; halt = halt_of m })
  expansion_falls = by_move m c.falls
    where
      by_move : (x : Move) → MoveFalls x (allowed_in l e) (allowed_in l' e') → FallsAt (halt_of x) l.steps (allowed_with l (task.Expansion e)) l'.steps (allowed_with l' (task.Expansion e'))
      by_move (Came text) f = (omega (arith, c.used.0), f)
      by_move (Invokes job) f = (omega (arith, c.used.0), f)

  module _ (g : Ground) (modules : Modules) (p : Place) (s : StoreView) (n : ℕ) (ground : setting_of e ≡ setting (wiki_of g modules) (page_of g)) where
    here : setting_of e' ≡ setting (wiki_of g modules) (page_of g)
    here = c.setting ∙ ground

    abbrev there : Place
    there = gone p s.heap s.heap n

    halted_at : (work : Work) → p.task ≡ Expanding work → ((work : Work) → p.task ≡ Expanding work → At e work p.first (map as_text p.given) l) → (x : Move) → ((work : Work) (first : Left) (given : List (PlainReply (List ℕ))) → At e work first given l → IsMove x e' work first given l') → HasHalted g modules s l' (task.Expansion e') there (halt_of x)
    halted_at work is at (Came text) goes =
        let came = goes work p.first (map as_text p.given) (at work is) in
        let x = expansion_ends (wiki_of g modules) (page_of g) there work text l' is (subst (λ (w : Setting). Comes (next_event w work p.first (map as_text p.given)) text l') here came) in
        record { task = (work, is); reply = x.reply; comes = x.comes; says = x.says_so; leaves = x.leaves; height = tt; ends_with = tt }
    halted_at work is at (Invokes job) goes =
        let asks = (goes work p.first (map as_text p.given) (at work is)).0 in (
          expansion_asks (wiki_of g modules) (page_of g) there work job l' is (subst (λ (w : Setting). Asks (next_event w work p.first (map as_text p.given)) job l') here asks),
          record { task = (work, is); waits = λ v i. (goes v p.first (map as_text p.given) (at v i)).1 },
        )

  pub expansion_goes : (s : StoreView) (n : ℕ) → GoesOn s l (task.Expansion e) s l' n (record { task = task.Expansion e'; halt = halt_of m })
  expansion_goes s n g ground modules agree p r = record {
    halted = halted_at g modules p s n ground r.task.0 r.task.1 r.stands m c.goes;
    alone = going_leaves p.within s.heap s.heap (no_frame p.within s.heap);
  }

-- WITH A TEXT
module _ (e : Expander) (l : Left) (text : List ℕ) (e₁ : Expander) (l₁ : Left) (c : ExpanderIsTold e l text e₁ l₁) where
  pub told_halts : (s : StoreView) (k : ℕ) (l' : Left) (x : Halted) → Halts s l₁ k (task.Expansion e₁) s l' k x → Halts s l k (task.Expansion e) s l' k x
  told_halts s k l' x h = record {
    of = h.of;
    halts = h.halts;
    ground = λ g i. h.ground g (c.setting ∙ i);
    later = h.later;
    sums = record {
      calls = h.sums.calls ∙ ap (λ (y : Left). y.calls + 0) c.left;
      depth = h.sums.depth ∙ ap (λ (y : Left). y.depth + depth_in e₁) c.left ∙ ap (λ n. l.depth + n) c.depth;
      templates = h.sums.templates ∙ ap (λ (y : Left). y.templates + templates_in e₁) c.left ∙ ap (λ n. l.templates + n) c.templates;
    };
    rises = h.rises;
    paid = omega (arith, h.paid, ap (λ (y : Left). y.steps) c.left);
  }

  pub told_back : CanGiveBack l (task.Expansion e) → CanGiveBack l₁ (task.Expansion e₁)
  told_back b = record {
    calls = omega (arith, b.calls, ap (λ (y : Left). y.calls) c.left);
    depth = omega (arith, b.depth, c.depth, ap (λ (y : Left). y.depth) c.left);
    templates = omega (arith, b.templates, c.templates, ap (λ (y : Left). y.templates) c.left);
  }

  pub told_falls : (l' : Left) (x : Halted) → Falls l₁ (task.Expansion e₁) l' x → Falls l (task.Expansion e) l' x
  told_falls l' x f =
      subst (λ n. FallsAt x.halt n (allowed_with l (task.Expansion e)) l'.steps (allowed_with l' x.task)) (ap (λ (y : Left). y.steps) c.left)
      (subst (λ n. FallsAt x.halt l₁.steps n l'.steps (allowed_with l' x.task)) c.falls f)

  pub told_goes : (s : StoreView) (high n : ℕ) (a : Answer) (o : Outcome (List Value) Jump) (l' : Left) (x : Halted) → text ≡ text_of a → GoesOn s l₁ (task.Expansion e₁) s l' n x → ToldFrom s l (task.Expansion e) a o high s l' n x
  told_goes s high n a o l' x is goes g ground modules agree p w K told r says leaves well =
      let given : (as_text r).response ≡ Gives text = ap text_response says ∙ ap Gives (sym is) in
      let stands = λ (work : Work) (i : p.task ≡ Expanding work).
      let at = c.at work p.first (map as_text p.given) (as_text r) (w.waits work i) given leaves in
      subst (λ rs. At e₁ work p.first rs l₁) (sym (map-append as_text p.given (r ∷ []))) at in
      let h = goes g (c.setting ∙ ground) modules agree (replied p r) (record { task = w.task; stands = stands }) in
      (_, record { halted = h.halted; alone = h.alone })
