-- A run that ends by itself ends alike, at the same charge, with any steps and calls that cover its charge and its height.
use Rattle.std.proofs.Common.{◌≡◌, ℕ, zero, suc, ◌+◌, ◌-◌, ◌≤◌, Option, Some, None, refl, sym, ap, ◌∙◌, subst, arith}
use Rattle.std.specs.Prelude.{max}
use Rattle.wk_base.specs.declared.left.Left.{Left}
use Rattle.page_run.specs.Run.{Run, Ends, Takes, Counts, Notes, Sees, Changes, Calls, Leaves, Uses, Begins, Opens, Asks, Meaning}
use Rattle.page_run.specs.State.{Tally, no_tally, join, Response, Gives, Exhausts, Reply, Replier, Moment, State, resume, Event, Ended, Spent, Asked, moment_of}
use Rattle.page_run.specs.Perform.{less, with_steps, after_steps, enter_call, with_call, after_call, give_back, leave_call, count_node, after_response, with_computed, with_reply, size, nothing_begins, perform_with, perform_by, perform, NoRise}
use Rattle.page_run.specs.Charges.{ReplyFits, RepliesFit, Fits, EndFits, MoreIsAsGood, OneCharge}
use Rattle.page_run.proofs.Less.{less_some, less_of}
use Rattle.page_run.proofs.Enough.{perform-Ends, perform-Takes, perform-Counts, perform-Notes, perform-Sees, perform-Changes, perform-Calls, perform-Leaves, perform-Begins, perform-Asks}

-- only of a run that ended by itself is anything said
abbrev IfEnds : {H Q A O : Type 0} → Event H Q O → (State H A → Event H Q O) → H → Left → ℕ → Tally → Type 0
IfEnds (Ended o end) go heap now n tally = Fits go heap now n tally o end
IfEnds (Spent w m) go heap now n tally = Unit {0}
IfEnds (Asked q m) go heap now n tally = Unit {0}

-- from a fact on whatever end
if_ends : {H Q A O : Type 0} (go go' : State H A → Event H Q O) (heap heap' : H) (now now' : Left) (n n' : ℕ) (tally told' : Tally) → ((o : O) (end : Moment H) → Fits go heap now n tally o end → Fits go' heap' now' n' told' o end) → (e : Event H Q O) → IfEnds e go heap now n tally → IfEnds e go' heap' now' n' told'
if_ends go go' heap heap' now now' n n' tally told' h (Ended o end) f = h o end f
if_ends go go' heap heap' now now' n n' tally told' h (Spent w m) f = tt
if_ends go go' heap heap' now now' n n' tally told' h (Asked q m) f = tt

-- the end that is owed
abbrev ending : {H : Type 0} → Moment H → Left → ℕ → ℕ → Moment H
ending end l d n = record { heap = end.heap; left = record l { steps = d; calls = n }; in_progress = 0; tally = end.tally }

module _ {H Q A O : Type 0} where
  -- the same with an equal rest
  fit_same : (go go' : State H A → Event H Q O) (heap : H) (now : Left) (n : ℕ) (tally : Tally) → ((s : State H A) → go s ≡ go' s) → (e : Event H Q O) → IfEnds e go' heap now n tally → IfEnds e go heap now n tally
  fit_same go go' heap now n tally h = if_ends go' go heap heap now now n n tally tally (λ o end f. record {
    falls = f.falls;
    keeps = f.keeps;
    higher = f.higher;
    covers = f.covers;
    fits = λ l d i j. h (resume heap l n tally) ∙ f.fits l d i j;
  })

  -- a charge
  charge_fits : (c r : ℕ) (heap : H) (now : Left) (n : ℕ) (tally : Tally) (go' : State H A → Event H Q O) (o : O) (end : Moment H) → r + c ≡ now.steps → Fits go' heap record now { steps = r } n tally o end → Fits (λ s. after_steps c s go') heap now n tally o end
  charge_fits c r heap now n tally go' o end e f = record {
    falls = omega (arith, f.falls);
    keeps = f.keeps;
    higher = f.higher;
    covers = f.covers;
    fits = λ l d i h.
        ap (λ x. with_steps x (resume heap l n tally) go') (less_of c l.steps (omega (arith, f.falls, i)))
        ∙ f.fits record l { steps = l.steps - c } d (rest l d i f.falls) h;
  }
    where
      rest : (l : Left) (d : ℕ) → l.steps ≡ d + (now.steps - end.left.steps) → end.left.steps ≤ r → l.steps - c ≡ d + (r - end.left.steps)
      rest l d i h = omega arith

  steps_fit : (x : Option ℕ) (c : ℕ) (heap : H) (now : Left) (n : ℕ) (tally : Tally) (go go' : State H A → Event H Q O) → less c now.steps ≡ x → ((r : ℕ) → r + c ≡ now.steps → IfEnds (go (resume heap record now { steps = r } n tally)) go' heap record now { steps = r } n tally) → IfEnds (with_steps x (resume heap now n tally) go) (λ s. after_steps c s go') heap now n tally
  steps_fit (Some r) c heap now n tally go go' e h =
      if_ends go' (λ s. after_steps c s go') heap heap record now { steps = r } now n n tally tally (λ o end f. charge_fits c r heap now n tally go' o end (less_some c now.steps r e) f) (go (resume heap record now { steps = r } n tally)) (h r (less_some c now.steps r e))
  steps_fit None c heap now n tally go go' e h = tt

  -- a call
  call_fits : (m : ℕ) (heap : H) (now : Left) (n : ℕ) (tally : Tally) (go' : State H A → Event H Q O) (o : O) (end : Moment H) → m + 1 ≡ now.calls → Fits go' heap record now { calls = m } (n + 1) record tally { height = max tally.height (n + 1) } o end → Fits (λ s. after_call s go') heap now n tally o end
  call_fits m heap now n tally go' o end e f = record {
    falls = f.falls;
    keeps = omega (arith, f.keeps);
    higher = grind (arith, f.higher);
    covers = λ h. less_if h;
    fits = λ l d i h.
        let some : 1 ≤ l.calls = omega (arith, tall) in
        let same : l.calls - 1 + (n + 1) ≡ l.calls + n = omega arith in
        ap (λ x. with_call x (resume heap l n tally) go') (less_of 1 l.calls some)
        ∙ f.fits record l { calls = l.calls - 1 } d i (omega arith)
        ∙ ap (λ k. Ended o (ending end l d k)) same;
  }
    where
      tall : n + 1 ≤ end.tally.height
      tall = grind (arith, f.higher)

      both : tally.height ≤ now.calls + n → max tally.height (n + 1) ≤ m + (n + 1)
      both h = grind (arith, e)

      less_if : tally.height ≤ now.calls + n → end.tally.height ≤ now.calls + n
      less_if h = omega (arith, e, f.covers (both h))

  calls_fit : (x : Option ℕ) (heap : H) (now : Left) (n : ℕ) (tally : Tally) (go go' : State H A → Event H Q O) → less 1 now.calls ≡ x → ((r : ℕ) → IfEnds (go (enter_call r (resume heap now n tally))) go' heap record now { calls = r } (n + 1) record tally { height = max tally.height (n + 1) }) → IfEnds (with_call x (resume heap now n tally) go) (λ s. after_call s go') heap now n tally
  calls_fit (Some r) heap now n tally go go' e h =
      if_ends go' (λ s. after_call s go') heap heap record now { calls = r } now (n + 1) n record tally { height = max tally.height (n + 1) } tally (λ o end f. call_fits r heap now n tally go' o end (less_some 1 now.calls r e) f) (go (enter_call r (resume heap now n tally))) (h r)
  calls_fit None heap now n tally go go' e h = tt

  -- a node that is counted, and a heap that is changed
  count_fits : (heap : H) (now : Left) (n : ℕ) (tally : Tally) (go' : State H A → Event H Q O) (e : Event H Q O) → IfEnds e go' heap now n record tally { nodes = tally.nodes + 1 } → IfEnds e (λ s. go' (count_node s)) heap now n tally
  count_fits heap now n tally go' = if_ends go' (λ s. go' (count_node s)) heap heap now now n n record tally { nodes = tally.nodes + 1 } tally (λ o end f. record { falls = f.falls; keeps = f.keeps; higher = f.higher; covers = f.covers; fits = f.fits })

  change_fits : (heap heap' : H) (now : Left) (n : ℕ) (tally : Tally) (go' : State H A → Event H Q O) (e : Event H Q O) → IfEnds e go' heap' now n tally → IfEnds e (λ s. go' record s { heap = heap' }) heap now n tally
  change_fits heap heap' now n tally go' = if_ends go' (λ s. go' record s { heap = heap' }) heap' heap now now n n tally tally (λ o end f. record { falls = f.falls; keeps = f.keeps; higher = f.higher; covers = f.covers; fits = f.fits })

  see_fits : (heap : H) (now : Left) (n : ℕ) (tally : Tally) (go' : H → State H A → Event H Q O) (e : Event H Q O) → IfEnds e (go' heap) heap now n tally → IfEnds e (λ s. go' s.heap s) heap now n tally
  see_fits heap now n tally go' = if_ends (go' heap) (λ s. go' s.heap s) heap heap now now n n tally tally (λ o end f. record { falls = f.falls; keeps = f.keeps; higher = f.higher; covers = f.covers; fits = f.fits })

  -- a call given back
  back_fits : (m : ℕ) (heap : H) (now : Left) (tally : Tally) (go' : State H A → Event H Q O) (o : O) (end : Moment H) → Fits go' heap record now { calls = now.calls + 1 } m tally o end → Fits (λ s. go' (leave_call s)) heap now (suc m) tally o end
  back_fits m heap now tally go' o end f = record {
    falls = f.falls;
    keeps = omega (arith, f.keeps);
    higher = f.higher;
    covers = λ h. omega (arith, f.covers (omega arith));
    fits = λ l d i h.
        let same : l.calls + 1 + m ≡ l.calls + suc m = omega arith in
        f.fits record l { calls = l.calls + 1 } d i (omega arith) ∙ ap (λ k. Ended o (ending end l d k)) same;
  }

  backs_fit : (n : ℕ) (heap : H) (now : Left) (tally : Tally) (go go' : State H A → Event H Q O) → ((now' : Left) (n' : ℕ) → IfEnds (go (resume heap now' n' tally)) go' heap now' n' tally) → IfEnds (go (give_back n (resume heap now n tally))) (λ s. go' (leave_call s)) heap now n tally
  backs_fit zero heap now tally go go' h =
      if_ends go' (λ s. go' (leave_call s)) heap heap now now zero zero tally tally (λ o end f. record { falls = f.falls; keeps = f.keeps; higher = f.higher; covers = f.covers; fits = f.fits }) (go (resume heap now zero tally)) (h now zero)
  backs_fit (suc m) heap now tally go go' h =
      if_ends go' (λ s. go' (leave_call s)) heap heap record now { calls = now.calls + 1 } now m (suc m) tally tally (λ o end f. back_fits m heap now tally go' o end f) (go (resume heap record now { calls = now.calls + 1 } m tally)) (h record now { calls = now.calls + 1 } m)

  -- a reply
  reply_fits : (q : Q) (x : Reply A) (a : A) (other : Replier Q A) (heap : H) (now : Left) (n : ℕ) (tally : Tally) (go' : A → State H A → Event H Q O) (o : O) (end : Moment H) → x.response ≡ Gives a → ReplyFits q now x other → Fits (go' a) heap x.left n (join n tally x.tally) o end → Fits (λ s. with_reply other s.replies q s go') heap now n tally o end
  reply_fits q x a other heap now n tally go' o end e xf f = record {
    falls = omega (arith, f.falls, xf.falls);
    keeps = omega (arith, f.keeps, xf.keeps);
    higher = grind (arith, f.higher);
    covers = λ h. omega (arith, xf.keeps, f.covers (both h));
    fits = λ l d i h.
        let d' = d + (x.left.steps - end.left.steps) in
        ap (λ v. with_computed v q (resume heap l n tally) go') (xf.fits l d' (rest l d i f.falls xf.falls) (omega (arith, tall)))
        ∙ ap (λ v. after_response v (resume heap record l { steps = d' } n (join n tally x.tally)) go') e
        ∙ f.fits record l { steps = d' } d refl h;
  }
    where
      tall : n + x.tally.height ≤ end.tally.height
      tall = grind (arith, f.higher)

      both : tally.height ≤ now.calls + n → max tally.height (n + x.tally.height) ≤ x.left.calls + n
      both h = grind (arith, xf.keeps, xf.covers)

      rest : (l : Left) (d : ℕ) → l.steps ≡ d + (now.steps - end.left.steps) → end.left.steps ≤ x.left.steps → x.left.steps ≤ now.steps → l.steps ≡ d + (x.left.steps - end.left.steps) + (now.steps - x.left.steps)
      rest l d e h i = omega arith

  saids_fit : (q : Q) (x : Reply A) (y : Response A) (other : Replier Q A) (heap : H) (now : Left) (n : ℕ) (tally : Tally) (go go' : A → State H A → Event H Q O) → x.response ≡ y → ((a : A) → x.response ≡ Gives a → ReplyFits q now x other) → ((a : A) → IfEnds (go a (resume heap x.left n (join n tally x.tally))) (go' a) heap x.left n (join n tally x.tally)) → IfEnds (after_response y (resume heap x.left n (join n tally x.tally)) go) (λ s. with_reply other s.replies q s go') heap now n tally
  saids_fit q x (Gives a) other heap now n tally go go' e xf h =
      if_ends (go' a) (λ s. with_reply other s.replies q s go') heap heap x.left now n n (join n tally x.tally) tally (λ o end f. reply_fits q x a other heap now n tally go' o end e (xf a e) f) (go a (resume heap x.left n (join n tally x.tally))) (h a)
  saids_fit q x (Exhausts w) other heap now n tally go go' e xf h = tt

  computed_fits : (q : Q) (v : Option (Reply A)) (other : Replier Q A) (heap : H) (now : Left) (n : ℕ) (tally : Tally) (go go' : A → State H A → Event H Q O) → ((x : Reply A) (a : A) → v ≡ Some x → x.response ≡ Gives a → ReplyFits q now x other) → ((a : A) (now' : Left) (told' : Tally) → IfEnds (go a (resume heap now' n told')) (go' a) heap now' n told') → IfEnds (with_computed v q (resume heap now n tally) go) (λ s. with_reply other s.replies q s go') heap now n tally
  computed_fits q (Some x) other heap now n tally go go' xf h = saids_fit q x x.response other heap now n tally go go' refl (λ a e. xf x a refl e) (λ a. h a x.left (join n tally x.tally))
  computed_fits q None other heap now n tally go go' xf h = tt

module _ {M H T Q A O : Type 0} (never : M → ⊥) (meaning : Meaning M H T Q A O) (b other : Replier Q A) (nr : NoRise other) (rf : RepliesFit b other) where
  with_fits : (g : Run M H T Q A O → State H A → Event H Q O) → ((p : Run M H T Q A O) (heap : H) (now : Left) (n : ℕ) (tally : Tally) → IfEnds (g p (resume heap now n tally)) (perform meaning other p) heap now n tally) → (p : Run M H T Q A O) (heap : H) (now : Left) (n : ℕ) (tally : Tally) → IfEnds (perform_with meaning b g p (resume heap now n tally)) (perform meaning other p) heap now n tally
  with_fits g h (Ends o) heap now n tally = record {
    falls = omega arith;
    keeps = refl;
    higher = omega arith;
    covers = λ h. h;
    fits = λ l d i j.
        let same : l.steps ≡ d = omega arith in
        perform-Ends meaning other nr o (resume heap l n tally) ∙ ap (λ m. Ended o (record { heap = heap; left = record l { steps = m; calls = l.calls + n }; in_progress = 0; tally = tally })) same;
  }
  with_fits g h (Takes c p) heap now n tally =
      fit_same (perform meaning other (Takes c p)) (λ s. after_steps c s (perform meaning other p)) heap now n tally (perform-Takes meaning other nr c p) (perform_with meaning b g (Takes c p) (resume heap now n tally)) (steps_fit (less c now.steps) c heap now n tally (perform_with meaning b g p) (perform meaning other p) refl (λ r e. with_fits g h p heap record now { steps = r } n tally))
  with_fits g h (Counts p) heap now n tally =
      fit_same (perform meaning other (Counts p)) (λ s. perform meaning other p (count_node s)) heap now n tally (perform-Counts meaning other nr p) (perform_with meaning b g (Counts p) (resume heap now n tally)) (count_fits heap now n tally (perform meaning other p) (perform_with meaning b g (Counts p) (resume heap now n tally)) (with_fits g h p heap now n record tally { nodes = tally.nodes + 1 }))
  with_fits g h (Notes source name p) heap now n tally =
      fit_same (perform meaning other (Notes source name p)) (perform meaning other p) heap now n tally (perform-Notes meaning other nr source name p) (perform_with meaning b g p (resume heap now n tally)) (with_fits g h p heap now n tally)
  with_fits g h (Sees f) heap now n tally =
      fit_same (perform meaning other (Sees f)) (λ s. perform meaning other (f s.heap) s) heap now n tally (perform-Sees meaning other nr f) (perform_with meaning b g (f heap) (resume heap now n tally)) (see_fits heap now n tally (λ x. perform meaning other (f x)) (perform_with meaning b g (f heap) (resume heap now n tally)) (with_fits g h (f heap) heap now n tally))
  with_fits g h (Changes heap' p) heap now n tally =
      fit_same (perform meaning other (Changes heap' p)) (λ s. perform meaning other p record s { heap = heap' }) heap now n tally (perform-Changes meaning other nr heap' p) (perform_with meaning b g p (resume heap' now n tally)) (change_fits heap heap' now n tally (perform meaning other p) (perform_with meaning b g p (resume heap' now n tally)) (with_fits g h p heap' now n tally))
  with_fits g h (Calls p) heap now n tally =
      fit_same (perform meaning other (Calls p)) (λ s. after_call s (perform meaning other p)) heap now n tally (perform-Calls meaning other nr p) (perform_with meaning b g (Calls p) (resume heap now n tally)) (calls_fit (less 1 now.calls) heap now n tally (perform_with meaning b g p) (perform meaning other p) refl (λ r. with_fits g h p heap record now { calls = r } (n + 1) record tally { height = max tally.height (n + 1) }))
  with_fits g h (Leaves p) heap now n tally =
      fit_same (perform meaning other (Leaves p)) (λ s. perform meaning other p (leave_call s)) heap now n tally (perform-Leaves meaning other nr p) (perform_with meaning b g (Leaves p) (resume heap now n tally)) (backs_fit n heap now tally (perform_with meaning b g p) (perform meaning other p) (λ now' n'. with_fits g h p heap now' n' tally))
  with_fits g h (Uses v u f) heap now n tally = absurd (never v)
  with_fits g h (Begins t k) heap now n tally =
      fit_same (perform meaning other (Begins t k)) (λ s. after_steps 1 s (perform meaning other (meaning t k))) heap now n tally (perform-Begins meaning other nr t k) (perform_with meaning b g (Begins t k) (resume heap now n tally)) (steps_fit (less 1 now.steps) 1 heap now n tally (g (meaning t k)) (perform meaning other (meaning t k)) refl (λ r e. h (meaning t k) heap record now { steps = r } n tally))
  with_fits g h (Opens v t p k) heap now n tally = absurd (never v)
  with_fits g h (Asks q f) heap now n tally =
      fit_same (perform meaning other (Asks q f)) (λ s. with_reply other s.replies q s (λ a. perform meaning other (f a))) heap now n tally (perform-Asks meaning other nr q f) (perform_with meaning b g (Asks q f) (resume heap now n tally)) (computed_fits q (b q now) other heap now n tally (λ a. perform_with meaning b g (f a)) (λ a. perform meaning other (f a)) (λ x a e i. rf q now x a e i) (λ a now' told'. with_fits g h (f a) heap now' n told'))

  by_fits : (k : ℕ) (p : Run M H T Q A O) (heap : H) (now : Left) (n : ℕ) (tally : Tally) → IfEnds (perform_by meaning b k p (resume heap now n tally)) (perform meaning other p) heap now n tally
  by_fits zero p heap now n tally = with_fits nothing_begins (λ p' heap' now' n' told'. tt) p heap now n tally
  by_fits (suc k) p heap now n tally = with_fits (perform_by meaning b k) (λ p' heap' now' n' told'. by_fits k p' heap' now' n' told') p heap now n tally

  perform_fits : (p : Run M H T Q A O) (heap : H) (now : Left) (n : ℕ) (tally : Tally) → IfEnds (perform meaning b p (resume heap now n tally)) (perform meaning other p) heap now n tally
  unfolding perform
  perform_fits p heap now n tally = by_fits (size now + 0) p heap now n tally

pub end_fits : {M H T Q A O : Type 0} (meaning : Meaning M H T Q A O) → EndFits meaning
end_fits meaning never b other nr rf p heap now n tally o end e = subst (λ x. IfEnds x (perform meaning other p) heap now n tally) e (perform_fits never meaning b other nr rf p heap now n tally)

pub more_is_as_good : {M H T Q A O : Type 0} (meaning : Meaning M H T Q A O) → MoreIsAsGood meaning
more_is_as_good meaning never beyond nr rf p heap l o end e a b =
    let f = end_fits meaning never beyond beyond nr rf p heap l 0 no_tally o end e in
    let low : end.tally.height ≤ l.calls + 0 = f.covers (omega arith) in
    let same : l.calls + b + 0 ≡ l.calls + b = omega arith in
    f.fits record l { steps = l.steps + a; calls = l.calls + b } (end.left.steps + a) (omega (arith, f.falls)) (omega arith)
    ∙ ap (λ c. Ended o (ending end l (end.left.steps + a) c)) same

-- what an end tells
outcome_or : {H Q O : Type 0} → O → Event H Q O → O
outcome_or d (Ended o m) = o
outcome_or d (Spent w m) = d
outcome_or d (Asked q m) = d

ended_same : {H Q O : Type 0} → (o o' : O) (m m' : Moment H) (e : Event H Q O) → e ≡ Ended o m → e ≡ Ended o' m' → (o ≡ o') × (m ≡ m')
unfolding outcome_or
ended_same o o' m m' e i j = (ap (outcome_or o) (sym i ∙ j), ap moment_of (sym i ∙ j))

-- two ends are both met with the steps and calls of both
pub one_charge : {M H T Q A O : Type 0} (meaning : Meaning M H T Q A O) → OneCharge meaning
one_charge meaning never beyond nr rf p heap l l' o o' end end' e e' =
    let f = end_fits meaning never beyond beyond nr rf p heap l 0 no_tally o end e in
    let g = end_fits meaning never beyond beyond nr rf p heap l' 0 no_tally o' end' e' in
    let both : Left = record l { steps = l.steps + l'.steps; calls = l.calls + l'.calls } in
    let d = l'.steps + end.left.steps in
    let d' = l.steps + end'.left.steps in
    let low : end.tally.height ≤ l.calls + 0 = f.covers (omega arith) in
    let low' : end'.tally.height ≤ l'.calls + 0 = g.covers (omega arith) in
    let same = ended_same o o' (ending end both d (both.calls + 0)) (ending end' both d' (both.calls + 0)) (perform meaning beyond p (resume heap both 0 no_tally)) (f.fits both d (omega (arith, f.falls)) (omega arith)) (g.fits both d' (omega (arith, g.falls)) (omega arith)) in
    let rest : l'.steps + end.left.steps ≡ l.steps + end'.left.steps = ap (λ m. m.left.steps) same.1 in
    let tally : end.tally ≡ end'.tally = ap (λ m. m.tally) same.1 in
    let height : end.tally.height ≡ end'.tally.height = ap (λ t. t.height) tally in
    let charge : l.steps - end.left.steps ≡ l'.steps - end'.left.steps = omega (arith, f.falls, g.falls) in
    (same.0, ap (λ m. m.heap) same.1, tally, charge, omega arith, omega arith)
