-- A page in progress: what its functions ask for, and moves one after another.
use Rattle.std.proofs.Common.{◌≡◌, ℕ, ◌+◌, ◌-◌, ◌<◌, ◌≤◌, ◌^◌, false, List, Option, Some, None, refl, sym, subst, arith}
use Rattle.std.specs.Prelude.{min, IsSome, IfSome, is_some, option_map}
use Rattle.page_meaning.specs.WkBaseDeclaredLeftLeft.{Left}
use Rattle.lua_code.specs.WkBaseDeclaredTitleTitle.{Title}
use Rattle.page_tasks.specs.WikiPagesPages.{Pages, find_page, included_of, included_in}
use Rattle.page_tasks.specs.WikiPagesEntries.{Entry}
use Rattle.page_tasks.specs.LuaStoreSeen.{StoreView}
use Rattle.page_meaning.specs.PageRunState.{Gives}
use Rattle.page_tasks.specs.LuaMachineDeclaredMachineMachine.{Machine}
use Rattle.page_meaning.specs.Tasks.{Task as PlainTask}
use Rattle.page_tasks.specs.declared.task.Begun.{Begun}
use Rattle.page_tasks.specs.PageGroundDeclaredDataData.{Data as Given}
use Rattle.page_tasks.specs.PageGroundDeclaredKeepKept.{Kept}
use Rattle.page_tasks.specs.declared.task.Task.{Task}
use Rattle.page_tasks.specs.declared.task.Reply.{Reply}
use Rattle.page_tasks.specs.declared.task.Halted.{Halted}
use Rattle.page_driver.specs.declared.tower.Tower.{Tower}
use Rattle.page_driver.specs.declared.tower.Next.{Next}
use Rattle.page_driver.specs.declared.tower.Next.TheVariants as next
use Rattle.page_tasks.specs.PageGroundGround.{Ground}
use Rattle.page_tasks.specs.Tasks.{calls_in, depth_of, templates_of, at_halt}
use Rattle.page_tasks.specs.PageGroundSeen.{data_seen}
use Rattle.page_tasks.specs.Going.{Halts, GoesOnWith}
use Rattle.page_tasks.specs.PageGroundKept.{keep_with}
use Rattle.page_tasks.specs.Falling.{CanGiveBack}
use Rattle.page_driver.specs.Driven.{IsBelow, Accounts, Driven, Starting, Fits, InProgress, IsStarting, MovesOn, StartsOn}
use Rattle.page_driver.specs.Moving.{comes_with, loads_with, tower_with}
use Rattle.page_driver.proofs.MoveSteps.{data_moves}

module _ (g : Ground) (s : StoreView) (left : Left) (k : ℕ) (tower : Tower) where
  -- WHAT IS IN PROGRESS can be given back
  accounts_fit : (first : Left) (k₀ : ℕ) (t : Task) → Fits first → Accounts g first k₀ s left k tower (calls_in t) (depth_of t) (templates_of t) → CanGiveBack left t
  accounts_fit first k₀ t f a = record {
    calls = omega (arith, a.calls_are, f.calls);
    depth = omega (arith, a.depth_is, f.depth);
    templates = omega (arith, a.templates_are, f.templates);
  }

  pub starting_fits : (t : Task) → IsStarting g s left k tower t → CanGiveBack left t
  starting_fits t x = accounts_fit x.first x.start t x.fits x.starting.accounts

  pub asking_fits : (x : Halted) → ((n : ℕ) → at_halt x.halt n ≡ n) → InProgress g s left k tower x → CanGiveBack left x.task
  asking_fits x same p = record {
    calls = omega (arith, p.driven.accounts.calls_are, p.fits.calls, same (calls_in x.task));
    depth = omega (arith, p.driven.accounts.depth_is, p.fits.depth, same (depth_of x.task));
    templates = omega (arith, p.driven.accounts.templates_are, p.fits.templates, same (templates_of x.task));
  }

  -- the newest of those that wait
  pub below_of : (p : Task) (x : Halted) → InProgress g s left k (tower_with p tower) x → IsBelow g s p
  below_of p x i = i.driven.accounts.below.0

  pub below_fits : (p : Task) (t : Task) (r : Reply) → InProgress g s left k (tower_with p tower) (comes_with t r) → CanGiveBack left p
  below_fits p t r i = record {
    calls = omega (arith, i.driven.accounts.calls_are, i.fits.calls);
    depth = omega (arith, i.driven.accounts.depth_is, i.fits.depth);
    templates = omega (arith, i.driven.accounts.templates_are, i.fits.templates);
  }

  -- what is kept and what is left are no more than there was
  pub kept_fits : (x : Halted) (charge : ℕ) → charge ≤ left.steps → InProgress g s left k tower x → tower.repeat_charges + charge < 2 ^ 64
  kept_fits x charge le p = omega (arith, p.driven.accounts.paid, p.driven.accounts.rises, p.fits.steps, le)

  -- A TASK BEGINS where a page is in progress
  pub is_starting : (x : Halted) (s' : StoreView) (left' : Left) (k' : ℕ) (tower' : Tower) (t : Task) (p : InProgress g s left k tower x) → Starting g p.root p.first p.start s' left' k' tower' t → IsStarting g s' left' k' tower' t
  is_starting x s' left' k' tower' t p st = record { root = p.root; first = p.first; start = p.start; fits = p.fits; starting = st }

  -- MOVES, one after another
  pub in_progress : (x : Halted) (s' : StoreView) (left' : Left) (k' : ℕ) (tower' : Tower) (y : Halted) → InProgress g s left k tower x → MovesOn g s left k tower x s' left' k' tower' (next.On y) → InProgress g s' left' k' tower' y
  in_progress x s' left' k' tower' y p m = record { root = p.root; first = p.first; start = p.start; fits = p.fits; driven = m p.root p.first p.start p.fits p.driven }

  pub one_after_another : (x : Halted) (s₁ : StoreView) (left₁ : Left) (k₁ : ℕ) (tower₁ : Tower) (y : Halted) (s₂ : StoreView) (left₂ : Left) (k₂ : ℕ) (tower₂ : Tower) (n : Next)
      → MovesOn g s left k tower x s₁ left₁ k₁ tower₁ (next.On y) → MovesOn g s₁ left₁ k₁ tower₁ y s₂ left₂ k₂ tower₂ n → MovesOn g s left k tower x s₂ left₂ k₂ tower₂ n
  one_after_another x s₁ left₁ k₁ tower₁ y s₂ left₂ k₂ tower₂ n a b root first k₀ fits d = b root first k₀ fits (a root first k₀ fits d)

  pub start_then : (t : Task) (s₁ : StoreView) (left₁ : Left) (k₁ : ℕ) (tower₁ : Tower) (y : Halted) (s₂ : StoreView) (left₂ : Left) (k₂ : ℕ) (tower₂ : Tower) (n : Next)
      → StartsOn g s left k tower t s₁ left₁ k₁ tower₁ (next.On y) → MovesOn g s₁ left₁ k₁ tower₁ y s₂ left₂ k₂ tower₂ n → StartsOn g s left k tower t s₂ left₂ k₂ tower₂ n
  start_then t s₁ left₁ k₁ tower₁ y s₂ left₂ k₂ tower₂ n a b root first k₀ fits d = b root first k₀ fits (a root first k₀ fits d)

  pub started : (t : Task) (s₁ : StoreView) (left₁ : Left) (k₁ : ℕ) (tower₁ : Tower) (y : Halted) → IsStarting g s left k tower t → StartsOn g s left k tower t s₁ left₁ k₁ tower₁ (next.On y) → InProgress g s₁ left₁ k₁ tower₁ y
  started t s₁ left₁ k₁ tower₁ y p m = record { root = p.root; first = p.first; start = p.start; fits = p.fits; driven = m p.root p.first p.start p.fits p.starting }

-- NUMBERS, by name: in the functions that need them a search would go through all that is known there
pub least_fits : (a b n : ℕ) → n ≡ min a b → n ≤ b
least_fits a b n e = omega (arith, e)

pub taken_fits : (a b : ℕ) → a - b ≤ a
taken_fits a b = omega arith

pub same_fits : (n : ℕ) → n ≤ n
same_fits n = omega arith

pub too_few : (n l : ℕ) → n ≤ l → l < n → ⊥
too_few n l a b = omega (arith, a, b)

pub no_more : (a b n : ℕ) → a ≤ b → b ≤ n → a ≤ n
no_more a b n x y = omega (arith, x, y)

-- A PAGE that is included is held, and has trees
pub lacks_page : (pages : Pages) (title : Title) → is_some (find_page pages title) ≡ false → included_in pages title ≡ None
lacks_page pages title e = by_option (find_page pages title) e
  where
    by_option : (o : Option Entry) → is_some o ≡ false → option_map included_of o ≡ None
    by_option None h = refl
    by_option (Some x) h = absurd cc

pub with_trees : {A : Type 0} (P : A → Type 0) (o : Option A) → IsSome o → IfSome o P → (a : A) × (o ≡ Some a) × P a
with_trees P (Some a) h p = (a, refl, p)
with_trees P None h p = absurd cc

-- WHAT A LOAD GAVE is kept and told
module _ (g : Ground) (s : StoreView) (left : Left) (k : ℕ) (tower : Tower) (p : Task) (b : Begun) (m : Machine) (given : Given) (s' : StoreView) (left' : Left) (k' : ℕ) (x : Halted) where
  abbrev keeping : ℕ → ℕ → Tower
  keeping charge height = record tower { keep = keep_with tower.keep b.title (record { given = given; charge = charge; height = height }) }

  abbrev LoadMoves : ℕ → ℕ → Type 0
  LoadMoves charge height = MovesOn g s left k (tower_with p tower) (loads_with b m given) s' left' k' (keeping charge height) (next.On x)

  pub loaded_moves : (charge height : ℕ) → charge ≡ b.steps - left.steps → height ≡ min m.height left.calls → Halts s left k p s' left' k' x → ((n : ℕ) → k' ≡ k + n → GoesOnWith s left p (Gives (data_seen given)) height s' left' n x)
      → (keep : List (Title × Kept)) → keep ≡ keep_with tower.keep b.title (record { given = given; charge = charge; height = height }) → MovesOn g s left k (tower_with p tower) (loads_with b m given) s' left' k' (record tower { keep = keep }) (next.On x)
  loaded_moves charge height e e' h goes keep same =
      let moves = data_moves g s left k tower p b m given s' left' k' x h (λ n i. subst (λ high. GoesOnWith s left p (Gives (data_seen given)) high s' left' n x) e' (goes n i)) in
      subst (λ ks. MovesOn g s left k (tower_with p tower) (loads_with b m given) s' left' k' (record tower { keep = ks }) (next.On x)) (sym same)
      (subst (λ n. LoadMoves n height) (sym e) (subst (LoadMoves (b.steps - left.steps)) (sym e') moves))

-- A TASK BEGINS above the one that asks: the tower has that one on top
module _ (g : Ground) (s : StoreView) (left : Left) (k : ℕ) (tower : Tower) (t : Task) (x : Halted) (s₁ : StoreView) (inner : Task) (tower₁ : Tower) (e : tower₁ ≡ tower_with t tower) (starts : (root : PlainTask) (first : Left) (k₀ : ℕ) → Driven g root first k₀ s left k tower x → Starting g root first k₀ s₁ left k (tower_with t tower) inner) where
  pub above_starts : InProgress g s left k tower x → IsStarting g s₁ left k tower₁ inner
  above_starts p = subst (λ (w : Tower). IsStarting g s₁ left k w inner) (sym e) (is_starting g s left k tower x s₁ left k (tower_with t tower) inner p (starts p.root p.first p.start p.driven))

  pub above_moves : (s' : StoreView) (left' : Left) (k' : ℕ) (n : Next) → StartsOn g s₁ left k tower₁ inner s' left' k' tower₁ n → MovesOn g s left k tower x s' left' k' tower₁ n
  above_moves s' left' k' n on root first start fits d = on root first start fits (subst (λ (w : Tower). Starting g root first start s₁ left k w inner) (sym e) (starts root first start d))

-- a page that is held has its trees
pub held_has_trees : {A B : Type 0} (f : A → B) (o : Option A) → IsSome o → IsSome (option_map f o)
held_has_trees f (Some a) h = h
held_has_trees f None h = h
