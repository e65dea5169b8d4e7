-- LOOPS (manual 2.4.4 and 2.4.5): turns that begin, what waits for their tests and values, and how a turn ends.
use Rattle.std.proofs.Common.{◌≡◌, ℕ, Bool, List, [], ◌∷◌, length, Option, Some, None, refl}
use Rattle.std.specs.Prelude.{ℤ, pos, ◌+ℤ◌}
use Rattle.lua_slots.specs.LuaSyntaxTree.{Exp, Block}
use Rattle.lua_slots.specs.PageRunOutcome.{Goes, Jumps, on_value, ◌>>=◌, ◌>>◌, give, begin, catch}
use Rattle.lua_heap.specs.Value.{Value, Number, is_nil, is_true}
use Rattle.lua_heap.specs.Related.{Map, Each, none, Same, number}
use Rattle.lua_heap.proofs.Entries.{nil-related}
use Rattle.lua_slots.specs.LuaMeaningScope.{Bytes, Scope, levels}
use Rattle.lua_slots.specs.LuaMeaningValues.{first, second, third, number_in}
use Rattle.lua_slots.specs.LuaMeaningActs.{Act, Jump, State, WhileTurn, RepeatTurn, CountTurn, EachTurn, choose}
use Rattle.lua_slots.specs.LuaMeaningMessages.{no_initial_value, no_limit, no_step}
use Rattle.lua_library_agree.specs.LuaMeaningExpressions.{value}
use Rattle.lua_slots.specs.LuaMeaningLoops as meaning
use Rattle.lua_library_agree.specs.LuaMeaningMeaning.{expression, block, exp_part, block_part}
use Rattle.lua_library_agree.specs.LuaMeaningThings.{meaning_of}
use Rattle.lua_slots.specs.LuaMeaningWorld.{World}
use Rattle.lua_slots.specs.Code.{CExp, CBlock, CWorld}
use Rattle.lua_slots.specs.Sight.{Sight, with_local, with_locals, AreAsMany}
use Rattle.lua_slots.specs.IsCode.{any_sight, IsExp, IsBlock}
use Rattle.lua_slots.specs.Slots.{Activation, Slots, opened, all_opened, cut}
use Rattle.lua_slots.specs.Points.{WhileTurnS, RepeatTurnS, CountTurnS, EachTurnS, SFrame, WhileTest, WhileEnd, TestNext, TestNow, CountFrom, CountTo, CountBy, CountEnd, EachValues, EachNext, EachEnd}
use Rattle.lua_slots.specs.Loops as machine
use Rattle.lua_slots.specs.Moves as moves
use Rattle.lua_agree.specs.Variables.{Var, Opens, as_many, Inside}
use Rattle.lua_agree.specs.Values.{SameJump, returned, broke, raised}
use Rattle.lua_agree.specs.Functions.{here, end_of, IsStep, step_of}
use Rattle.lua_agree.specs.Rests.{After, first_of, stays, counted, SameRest, at_while, at_test, at_count_to, at_count_by, at_each_next, ends_while, ends_repeat, ends_count, ends_each}
use Rattle.lua_agree.specs.Agree.{while_turns, repeat_turns, count_turns, each_turns, evaluates, runs, starts, Base, Rel}
use Rattle.lua_agree.specs.Follows.{Follows, counts}
use Rattle.lua_agree.proofs.Carries.{end-grows}
use Rattle.lua_agree.proofs.Parts.{first-same, second-same, third-same, one-value, two-values, true-same, number-same, OnJump, rest-jumps, here-now, values-on, passes-on, fails}
use Rattle.lua_agree.proofs.Parts as parts
use Rattle.lua_agree.proofs.Places.{opens}
use Rattle.lua_agree.proofs.Ends.{rel-cut, with-functions, depth-is}

module _ (world : World) (code : CWorld) (B : Base) {m : Map} {vars : List Var} {h : State} {s : Slots} (r : Rel code B m vars h s) where
  -- TURNS that begin
  module _ (k : After (List Value)) (fs : List SFrame) (g : SameRest code m vars s.functions k fs) where
    pub while-turns : (e : Exp) (c : CExp) (b : Block) (d : CBlock) (see : Sight) (scope : Scope) → IsExp (here code s.functions) see e c → IsBlock (here code s.functions) any_sight see b d → Inside m vars s.functions see scope
        → Follows world code B (meaning_of world (WhileTurn e b scope) k) h (moves.begins code (WhileTurnS c d) fs s)
    while-turns e c b d see scope x y i = counts _ _ _ (here-now world code B r (runs None b d see scope _ _ y i (ends_while vars vars s.functions e c b d (length s.regs) see scope k fs x y i (as_many vars) (depth-is code r) g)))

    pub repeat-turns : (b : Block) (c : CBlock) (e : Exp) (d : CExp) (see : Sight) (scope : Scope) → IsBlock (here code s.functions) (λ end. IsExp (here code s.functions) end e d) see b c → Inside m vars s.functions see scope
        → Follows world code B (meaning_of world (RepeatTurn b e scope) k) h (moves.begins code (RepeatTurnS c d) fs s)
    repeat-turns b c e d see scope x i = counts _ _ _ (here-now world code B r (runs (Some (e, d)) b c see scope _ _ x i (ends_repeat vars vars s.functions b c e d (length s.regs) see scope k fs x i (as_many vars) (depth-is code r) g)))

    pub count-turns : (x : Bytes) (boxed : Bool) (index limit step : ℤ) (b : Block) (c : CBlock) (see : Sight) (scope : Scope) → IsBlock (here code s.functions) any_sight (with_local x boxed see) b c → Inside m vars s.functions see scope
        → Follows world code B (meaning_of world (CountTurn x index limit step b scope) k) h (moves.begins code (CountTurnS boxed index limit step c) fs s)
    count-turns x boxed index limit step b c see scope y i =
        counts _ _ _ (opens world code B (x ∷ []) (boxed ∷ []) (on_value (λ inner. catch (block b inner) (meaning.then_next (meaning.count_next x index limit step (block_part b) scope))) k) _ (opened boxed (Number index) s) tt r i (one-value (number index)) refl
        (λ p all j scope' up op r' i'. here-now world code B r' (runs None b c (with_local x boxed see) scope' _ _ y i'
        (end-grows code up (ends_count vars all s.functions x boxed index limit step b c (length s.regs) see scope k fs y i op (depth-is code r) g)))))

    pub each-turns : (names : List Bytes) (flags : List Bool) (f g' t u : Value) (vs ws : List Value) (b : Block) (c : CBlock) (line : ℕ) (see : Sight) (scope : Scope) → AreAsMany names flags
        → IsBlock (here code s.functions) any_sight (with_locals names flags see) b c → Inside m vars s.functions see scope → Same m f g' → Same m t u → Each (Same m) vs ws
        → Follows world code B (meaning_of world (EachTurn names f t vs b line scope) k) h (moves.begins code (EachTurnS flags g' u ws c line) fs s)
    each-turns names flags f g' t u vs ws b c line see scope n x i y z es =
        counts _ _ _ (opens world code B names flags _ _ (all_opened flags ws s) n r i es refl
        (λ p all j scope' up op r' i'. here-now world code B r' (runs None b c (with_locals names flags see) scope' _ _ x i'
        (end-grows code up (ends_each vars all s.functions names flags f g' t u (first vs) (first ws) b c line (length s.regs) see scope k fs n x i y z (first-same es) op (depth-is code r) g)))))

  -- `while`, and the test of `repeat`
  pub goes-while : (e : Exp) (c : CExp) (b : Block) (d : CBlock) (see : Sight) (scope : Scope) (k : After (List Value)) (fs : List SFrame)
      → IsExp (here code s.functions) see e c → IsBlock (here code s.functions) any_sight see b d → Inside m vars s.functions see scope → SameRest code m vars s.functions k fs
      → {vs ws : List Value} → Each (Same m) vs ws → Follows world code B (first_of (on_value (λ v. choose (is_true v) (begin (WhileTurn e b scope)) (give [])) k) (Goes vs)) h (moves.goes code (WhileTest c d) ws fs s)
  goes-while e c b d see scope k fs x y i g es =
      parts.branches world code B _ _ _ _ (true-same (first-same es)) (λ _. here-now world code B r (starts _ _ k fs (while_turns e c b d see scope x y i) g)) (λ _. values-on world code B r g none)

  -- A COUNTING LOOP begins, or goes on
  module _ (x : Bytes) (boxed : Bool) (b : Block) (c : CBlock) (see : Sight) (scope : Scope) (y : IsBlock (here code s.functions) any_sight (with_local x boxed see) b c) (i : Inside m vars s.functions see scope) where
    count-from-on : (k : After (List Value)) (fs : List SFrame) → SameRest code m vars s.functions k fs → (index limit step : ℤ) → Follows world code B (meaning.count_from x index limit step (block_part b) scope k) h (machine.count_from boxed index limit step c fs s)
    count-from-on k fs g index limit step =
        parts.branches world code B _ _ _ _ refl (λ _. here-now world code B r (starts _ _ k fs (count_turns x boxed index limit step b c see scope y i) g)) (λ _. values-on world code B r g none)

    pub count-next-on : (k : After (List Value)) (fs : List SFrame) → SameRest code m vars s.functions k fs → (index limit step : ℤ) → Follows world code B (meaning.count_next x index limit step (block_part b) scope k) h (machine.count_next boxed index limit step c fs s)
    count-next-on k fs g index limit step = parts.branches world code B _ _ _ _ refl (λ _. count-from-on k fs g (index +ℤ step) limit step) (λ _. values-on world code B r g none)

    -- with its numbers, or what is none
    module _ (line : ℕ) (k : After Scope) (fs : List SFrame) (g : SameRest code m vars s.functions (stays scope k) fs) where
      abbrev with_step : ℤ → ℤ → ℤ → Act Scope
      with_step index limit step = meaning.count_from x index limit step (block_part b) scope >> give scope

      abbrev with_limit : Option ℤ → ℤ → ℤ → Act Scope
      with_limit step index limit = meaning.for_number (levels scope line) no_step step >>= with_step index limit

      abbrev with_index : Option ℤ → Option ℤ → ℤ → Act Scope
      with_index limit step index = meaning.for_number (levels scope line) no_limit limit >>= with_limit step index

      number-jumps : (f : ℤ → Act Scope) → OnJump code m vars s.functions ℤ (on_value f k) fs
      number-jumps f = record { jump = (rest-jumps code g).jump }

      counts-on : (index limit step : Option ℤ)
          → Follows world code B ((meaning.for_number (levels scope line) no_initial_value index >>= with_index limit step) k) h
          (machine.counts boxed index limit step c line fs s)
      counts-on (Some a) (Some l) (Some st) = count-from-on (stays scope k) fs g a l st
      counts-on (Some a) (Some l) None = fails world code B r (Some line) (number-jumps (with_step a l)) (i.levels line) no_step
      counts-on (Some a) None step = fails world code B r (Some line) (number-jumps (with_limit step a)) (i.levels line) no_limit
      counts-on None limit step = fails world code B r (Some line) (number-jumps (with_index limit step)) (i.levels line) no_initial_value

      counted-on : {v w t u p q : Value} → Same m v w → Same m t u → Same m p q → Follows world code B (counted x (block_part b) line scope v t p k) h (machine.counting boxed w u q c line fs s)
      counted-on {v} {w} {t} {u} {p} {q} e f l = rw (number-same e, number-same f, number-same l) (counts-on (number_in w) (number_in u) (number_in q))

  pub goes-count-from : (x : Bytes) (boxed : Bool) (e : Exp) (d : CExp) (by : Option Exp) (dby : Option CExp) (b : Block) (c : CBlock) (line : ℕ) (see : Sight) (scope : Scope) (k : After Scope) (fs : List SFrame)
      → IsExp (here code s.functions) see e d → IsStep (here code s.functions) see by dby → IsBlock (here code s.functions) any_sight (with_local x boxed see) b c → Inside m vars s.functions see scope → SameRest code m vars s.functions (stays scope k) fs
      → {vs ws : List Value} → Each (Same m) vs ws
      → Follows world code B (first_of (on_value (λ from. value (expression e) scope >>= (λ to. meaning.step_value (step_of by) scope >>= (λ step. counted x (block_part b) line scope from to step))) k) (Goes vs)) h (moves.goes code (CountFrom boxed d dby c line) ws fs s)
  goes-count-from x boxed e d by dby b c line see scope k fs y z u i g es = here-now world code B r (evaluates e d see scope _ _ y i (at_count_to vars s.functions x boxed _ _ by dby b c line see scope k fs (first-same es) z u i g))

  step-on : (x : Bytes) (boxed : Bool) (v w t u : Value) (by : Option Exp) (dby : Option CExp) (b : Block) (c : CBlock) (line : ℕ) (see : Sight) (scope : Scope) (k : After Scope) (fs : List SFrame)
      → Same m v w → Same m t u → IsStep (here code s.functions) see by dby → IsBlock (here code s.functions) any_sight (with_local x boxed see) b c → Inside m vars s.functions see scope → SameRest code m vars s.functions (stays scope k) fs
      → Follows world code B ((meaning.step_value (step_of by) scope >>= (λ step. counted x (block_part b) line scope v t step)) k) h (machine.step_next boxed w u dby c line fs s)
  step-on x boxed v w t u None None b c line see scope k fs e f y z i g = counted-on x boxed b c see scope z i line k fs g e f (number (pos 1))
  step-on x boxed v w t u (Some by) (Some dby) b c line see scope k fs e f y z i g = here-now world code B r (evaluates by dby see scope _ _ y i (at_count_by vars s.functions x boxed v w t u b c line see scope k fs e f z i g))
  step-on x boxed v w t u None (Some dby) b c line see scope k fs e f y z i g = absurd y
  step-on x boxed v w t u (Some by) None b c line see scope k fs e f y z i g = absurd y

  pub goes-count-to : (x : Bytes) (boxed : Bool) (v w : Value) (by : Option Exp) (dby : Option CExp) (b : Block) (c : CBlock) (line : ℕ) (see : Sight) (scope : Scope) (k : After Scope) (fs : List SFrame)
      → Same m v w → IsStep (here code s.functions) see by dby → IsBlock (here code s.functions) any_sight (with_local x boxed see) b c → Inside m vars s.functions see scope → SameRest code m vars s.functions (stays scope k) fs
      → {vs ws : List Value} → Each (Same m) vs ws
      → Follows world code B (first_of (on_value (λ to. meaning.step_value (step_of by) scope >>= (λ step. counted x (block_part b) line scope v to step)) k) (Goes vs)) h (moves.goes code (CountTo boxed w dby c line) ws fs s)
  goes-count-to x boxed v w by dby b c line see scope k fs e y z i g {vs} {ws} es = step-on x boxed v w (first vs) (first ws) by dby b c line see scope k fs e (first-same es) y z i g

  pub goes-count-by : (x : Bytes) (boxed : Bool) (v w t u : Value) (b : Block) (c : CBlock) (line : ℕ) (see : Sight) (scope : Scope) (k : After Scope) (fs : List SFrame)
      → Same m v w → Same m t u → IsBlock (here code s.functions) any_sight (with_local x boxed see) b c → Inside m vars s.functions see scope → SameRest code m vars s.functions (stays scope k) fs
      → {vs ws : List Value} → Each (Same m) vs ws → Follows world code B (first_of (on_value (λ step. counted x (block_part b) line scope v t step) k) (Goes vs)) h (moves.goes code (CountBy boxed w u c line) ws fs s)
  goes-count-by x boxed v w t u b c line see scope k fs e f z i g es = counted-on x boxed b c see scope z i line k fs g e f (first-same es)

  -- A GENERIC LOOP: the iterator is called, and has given values
  pub each-from-on : (names : List Bytes) (flags : List Bool) (f g' t u p q : Value) (b : Block) (c : CBlock) (line : ℕ) (see : Sight) (scope : Scope) (k : After (List Value)) (fs : List SFrame) → AreAsMany names flags
      → IsBlock (here code s.functions) any_sight (with_locals names flags see) b c → Inside m vars s.functions see scope → Same m f g' → Same m t u → Same m p q → SameRest code m vars s.functions k fs
      → Follows world code B (meaning.each_from names f t p (block_part b) line scope k) h (machine.each_from flags g' u q c line fs s)
  each-from-on names flags f g' t u p q b c line see scope k fs n x i y z e g =
      parts.calls world code B r (at_each_next vars s.functions names flags f g' t u b c line see scope k fs n x i y z g) (levels scope line) (Some line) (i.levels line) y (two-values z e)

  pub goes-each-values : (names : List Bytes) (flags : List Bool) (b : Block) (c : CBlock) (line : ℕ) (see : Sight) (scope : Scope) (k : After Scope) (fs : List SFrame) → AreAsMany names flags
      → IsBlock (here code s.functions) any_sight (with_locals names flags see) b c → Inside m vars s.functions see scope → SameRest code m vars s.functions (stays scope k) fs
      → {vs ws : List Value} → Each (Same m) vs ws
      → Follows world code B ((meaning.each_from names (first vs) (second vs) (third vs) (block_part b) line scope >> give scope) k) h (moves.goes code (EachValues flags c line) ws fs s)
  goes-each-values names flags b c line see scope k fs n x i g es = each-from-on names flags _ _ _ _ _ _ b c line see scope (stays scope k) fs n x i (first-same es) (second-same es) (third-same es) g

  pub goes-each-next : (names : List Bytes) (flags : List Bool) (f g' t u : Value) (b : Block) (c : CBlock) (line : ℕ) (see : Sight) (scope : Scope) (k : After (List Value)) (fs : List SFrame) → AreAsMany names flags
      → IsBlock (here code s.functions) any_sight (with_locals names flags see) b c → Inside m vars s.functions see scope → Same m f g' → Same m t u → SameRest code m vars s.functions k fs
      → {vs ws : List Value} → Each (Same m) vs ws → Follows world code B (choose (is_nil (first vs)) (give []) (begin (EachTurn names f t vs b line scope)) k) h (moves.goes code (EachNext flags g' u c line) ws fs s)
  goes-each-next names flags f g' t u b c line see scope k fs n x i y z g {vs} {ws} es =
      parts.branches world code B _ _ _ _ (nil-related m _ _ (first-same es)) (λ _. values-on world code B r g none)
      (λ _. here-now world code B r (starts _ _ k fs (each_turns names flags f g' t u vs ws b c line see scope n x i y z es) g))

-- THE TEST OF `repeat`, and what a jump out of it does: the registers of the turn are gone after it
module _ (world : World) (code : CWorld) (B : Base) {m : Map} {all : List Var} {h : State} {s : Slots} (r : Rel code B m all h s) where
  -- what follows a turn that ends with a jump
  turn-jumps : (k : After (List Value)) (fs : List SFrame) → SameRest code m all s.functions k fs → (next : Act (List Value)) {j j' : Jump} → SameJump m j j' → Follows world code B (meaning.then_next {X = Scope} next (Jumps j) k) h (machine.after_turn j' fs s)
  turn-jumps k fs g next (returned vs ws e) = passes-on world code B r g (returned vs ws e)
  turn-jumps k fs g next broke = values-on world code B r g none
  turn-jumps k fs g next (raised v w e) = passes-on world code B r g (raised v w e)

  until-jumps : (k : After (List Value)) (fs : List SFrame) → SameRest code m all s.functions k fs → (next : Act (List Value)) {j j' : Jump} → SameJump m j j' → Follows world code B (meaning.until next (Jumps j) k) h (machine.after_turn j' fs s)
  until-jumps k fs g next (returned vs ws e) = passes-on world code B r g (returned vs ws e)
  until-jumps k fs g next broke = values-on world code B r g none
  until-jumps k fs g next (raised v w e) = passes-on world code B r g (raised v w e)

module _ (world : World) (code : CWorld) (B : Base) {m : Map} {all : List Var} {h : State} {s : Slots} (r : Rel code B m all h s) where
  pub goes-test : (vars : List Var) (b : Block) (c : CBlock) (e : Exp) (d : CExp) (depth : ℕ) (see : Sight) (scope : Scope) (k : After (List Value)) (fs : List SFrame)
      → IsBlock (here code s.functions) (λ end. IsExp (here code s.functions) end e d) see b c → Inside m vars s.functions see scope → Opens vars all → depth ≡ length vars → SameRest code m vars s.functions k fs
      → {vs ws : List Value} → Each (Same m) vs ws → Follows world code B (first_of (λ o. meaning.until (meaning.repeat_from (block_part b) (exp_part e) scope) o k) (Goes vs)) h (moves.goes code (TestNow d depth c) ws fs s)
  goes-test vars b c e d depth see scope k fs x i o q g es =
      parts.branches world code B _ _ _ _ (true-same (first-same es)) (λ _. values-on world code B (rel-cut code vars depth o q r) g none)
      (λ _. here-now world code B (rel-cut code vars depth o q r) (starts _ _ k fs (repeat_turns b c e d see scope x i) g))

  pub jumps-test : (vars : List Var) (b : Block) (c : CBlock) (e : Exp) (d : CExp) (depth : ℕ) (see : Sight) (scope : Scope) (k : After (List Value)) (fs : List SFrame)
      → IsBlock (here code s.functions) (λ end. IsExp (here code s.functions) end e d) see b c → Inside m vars s.functions see scope → Opens vars all → depth ≡ length vars → SameRest code m vars s.functions k fs
      → {j j' : Jump} → SameJump m j j' → Follows world code B (first_of (λ o. meaning.until (meaning.repeat_from (block_part b) (exp_part e) scope) o k) (Jumps j)) h (moves.passes (TestNow d depth c) j' fs s)
  jumps-test vars b c e d depth see scope k fs x i o q g y = until-jumps world code B (rel-cut code vars depth o q r) k fs g (meaning.repeat_from (block_part b) (exp_part e) scope) y

-- THE ENDS OF TURNS, with these functions in progress
module _ (world : World) (code : CWorld) (B : Base) {m : Map} {all : List Var} {h : State} (s : Slots) (r : Rel code B m all h s) where
  abbrev among : List Activation → Slots
  among fns = record s { functions = fns }

  module _ (vars : List Var) (fns : List Activation) (depth : ℕ) (o : Opens vars all) (q : depth ≡ length vars) where
    after-turn : Rel code B m vars h (cut depth (among fns))
    after-turn = rel-cut code vars depth o q (with-functions code fns r)

  pub ends-while : (vars : List Var) (fns : List Activation) (e : Exp) (c : CExp) (b : Block) (d : CBlock) (depth : ℕ) (see : Sight) (scope : Scope) (k : After (List Value)) (fs : List SFrame)
      → IsExp (here code fns) see e c → IsBlock (here code fns) any_sight see b d → Inside m vars fns see scope → Opens vars all → depth ≡ length vars → SameRest code m vars fns k fs
      → {see' : Sight} {inner : Scope} → end_of code fns None see' → Inside m all fns see' inner
      → Follows world code B (meaning.then_next (meaning.while_from (exp_part e) (block_part b) scope) (Goes inner) k) h (moves.goes code (WhileEnd depth c d) [] fs (among fns))
  ends-while vars fns e c b d depth see scope k fs x y i o q g x' i' = here-now world code B (after-turn vars fns depth o q) (evaluates e c see scope _ _ x i (at_while vars fns e c b d see scope k fs x y i g))

  pub jumps-while : (vars : List Var) (fns : List Activation) (e : Exp) (c : CExp) (b : Block) (d : CBlock) (depth : ℕ) (see : Sight) (scope : Scope) (k : After (List Value)) (fs : List SFrame)
      → IsExp (here code fns) see e c → IsBlock (here code fns) any_sight see b d → Inside m vars fns see scope → Opens vars all → depth ≡ length vars → SameRest code m vars fns k fs
      → {j j' : Jump} → SameJump m j j' → Follows world code B (meaning.then_next {X = Scope} (meaning.while_from (exp_part e) (block_part b) scope) (Jumps j) k) h (moves.passes (WhileEnd depth c d) j' fs (among fns))
  jumps-while vars fns e c b d depth see scope k fs x y i o q g z = turn-jumps world code B (after-turn vars fns depth o q) k fs g (meaning.while_from (exp_part e) (block_part b) scope) z

  pub ends-repeat : (vars : List Var) (fns : List Activation) (b : Block) (c : CBlock) (e : Exp) (d : CExp) (depth : ℕ) (see : Sight) (scope : Scope) (k : After (List Value)) (fs : List SFrame)
      → IsBlock (here code fns) (λ end. IsExp (here code fns) end e d) see b c → Inside m vars fns see scope → Opens vars all → depth ≡ length vars → SameRest code m vars fns k fs
      → {see' : Sight} {inner : Scope} → end_of code fns (Some (e, d)) see' → Inside m all fns see' inner
      → Follows world code B (on_value (λ inner. value (expression e) inner) (λ o. meaning.until (meaning.repeat_from (block_part b) (exp_part e) scope) o k) (Goes inner)) h (moves.goes code (TestNext d depth c) [] fs (among fns))
  ends-repeat vars fns b c e d depth see scope k fs x i o q g {see'} {inner} x' i' = here-now world code B (with-functions code fns r) (evaluates e d see' inner _ _ x' i' (at_test vars all fns b c e d depth see scope k fs x i o q g))

  pub jumps-repeat : (vars : List Var) (fns : List Activation) (b : Block) (c : CBlock) (e : Exp) (d : CExp) (depth : ℕ) (see : Sight) (scope : Scope) (k : After (List Value)) (fs : List SFrame)
      → IsBlock (here code fns) (λ end. IsExp (here code fns) end e d) see b c → Inside m vars fns see scope → Opens vars all → depth ≡ length vars → SameRest code m vars fns k fs
      → {j j' : Jump} → SameJump m j j'
      → Follows world code B (on_value {X = Scope} (λ inner. value (expression e) inner) (λ o. meaning.until (meaning.repeat_from (block_part b) (exp_part e) scope) o k) (Jumps j)) h (moves.passes (TestNext d depth c) j' fs (among fns))
  jumps-repeat vars fns b c e d depth see scope k fs x i o q g z = until-jumps world code B (after-turn vars fns depth o q) k fs g (meaning.repeat_from (block_part b) (exp_part e) scope) z

  pub ends-count : (vars : List Var) (fns : List Activation) (x : Bytes) (boxed : Bool) (index limit step : ℤ) (b : Block) (c : CBlock) (depth : ℕ) (see : Sight) (scope : Scope) (k : After (List Value)) (fs : List SFrame)
      → IsBlock (here code fns) any_sight (with_local x boxed see) b c → Inside m vars fns see scope → Opens vars all → depth ≡ length vars → SameRest code m vars fns k fs
      → {see' : Sight} {inner : Scope} → end_of code fns None see' → Inside m all fns see' inner
      → Follows world code B (meaning.then_next (meaning.count_next x index limit step (block_part b) scope) (Goes inner) k) h (moves.goes code (CountEnd depth boxed index limit step c) [] fs (among fns))
  ends-count vars fns x boxed index limit step b c depth see scope k fs y i o q g x' i' = count-next-on world code B (after-turn vars fns depth o q) x boxed b c see scope y i k fs g index limit step

  pub jumps-count : (vars : List Var) (fns : List Activation) (x : Bytes) (boxed : Bool) (index limit step : ℤ) (b : Block) (c : CBlock) (depth : ℕ) (see : Sight) (scope : Scope) (k : After (List Value)) (fs : List SFrame)
      → IsBlock (here code fns) any_sight (with_local x boxed see) b c → Inside m vars fns see scope → Opens vars all → depth ≡ length vars → SameRest code m vars fns k fs
      → {j j' : Jump} → SameJump m j j' → Follows world code B (meaning.then_next {X = Scope} (meaning.count_next x index limit step (block_part b) scope) (Jumps j) k) h (moves.passes (CountEnd depth boxed index limit step c) j' fs (among fns))
  jumps-count vars fns x boxed index limit step b c depth see scope k fs y i o q g z = turn-jumps world code B (after-turn vars fns depth o q) k fs g (meaning.count_next x index limit step (block_part b) scope) z

  pub ends-each : (vars : List Var) (fns : List Activation) (names : List Bytes) (flags : List Bool) (f g' t u p p' : Value) (b : Block) (c : CBlock) (line depth : ℕ) (see : Sight) (scope : Scope) (k : After (List Value)) (fs : List SFrame) → AreAsMany names flags
      → IsBlock (here code fns) any_sight (with_locals names flags see) b c → Inside m vars fns see scope → Same m f g' → Same m t u → Same m p p' → Opens vars all → depth ≡ length vars → SameRest code m vars fns k fs
      → {see' : Sight} {inner : Scope} → end_of code fns None see' → Inside m all fns see' inner
      → Follows world code B (meaning.then_next (meaning.each_from names f t p (block_part b) line scope) (Goes inner) k) h (moves.goes code (EachEnd depth flags g' u p' c line) [] fs (among fns))
  ends-each vars fns names flags f g' t u p p' b c line depth see scope k fs n x i y z e o q g x' i' =
      each-from-on world code B (after-turn vars fns depth o q) names flags f g' t u p p' b c line see scope k fs n x i y z e g

  pub jumps-each : (vars : List Var) (fns : List Activation) (names : List Bytes) (flags : List Bool) (f g' t u p p' : Value) (b : Block) (c : CBlock) (line depth : ℕ) (see : Sight) (scope : Scope) (k : After (List Value)) (fs : List SFrame) → AreAsMany names flags
      → IsBlock (here code fns) any_sight (with_locals names flags see) b c → Inside m vars fns see scope → Same m f g' → Same m t u → Same m p p' → Opens vars all → depth ≡ length vars → SameRest code m vars fns k fs
      → {j j' : Jump} → SameJump m j j' → Follows world code B (meaning.then_next {X = Scope} (meaning.each_from names f t p (block_part b) line scope) (Jumps j) k) h (moves.passes (EachEnd depth flags g' u p' c line) j' fs (among fns))
  jumps-each vars fns names flags f g' t u p p' b c line depth see scope k fs n x i y z e o q g w = turn-jumps world code B (after-turn vars fns depth o q) k fs g (meaning.each_from names f t p (block_part b) line scope) w
