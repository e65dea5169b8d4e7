-- WHAT WAITS GOES ON: each frame with values, with a jump, and at the end of a block.
use Rattle.std.proofs.Common.{◌≡◌, Bool, true, false, List, [], ◌∷◌, Option, Some, None, refl, subst}
use Rattle.lua_slots.specs.LuaSyntaxTree.{Exp, MoreExp}
use Rattle.lua_slots.specs.PageRunOutcome.{Goes, Jumps}
use Rattle.lua_heap.specs.Value.{Value, is_true}
use Rattle.lua_heap.specs.Related.{Map, Each, none, Same, text}
use Rattle.lua_slots.specs.LuaMeaningScope.{Scope, levels}
use Rattle.lua_slots.specs.LuaMeaningActs.{Jump, State}
use Rattle.lua_library_agree.specs.LuaMeaningExpressions.{unless_decided}
use Rattle.lua_library_agree.specs.LuaMeaningMeaning.{expression}
use Rattle.lua_slots.specs.LuaMeaningWorld.{World}
use Rattle.lua_slots.specs.Code.{CExp, MoreC, CWorld}
use Rattle.lua_slots.specs.Sight.{Sight}
use Rattle.lua_slots.specs.IsCode.{IsExp}
use Rattle.lua_slots.specs.Slots.{Activation, Slots}
use Rattle.lua_slots.specs.Points.{SFrame, First, Evals, Now}
use Rattle.lua_slots.specs.Errors as machine
use Rattle.lua_slots.specs.Expressions as machine_expressions
use Rattle.lua_slots.specs.Expressions.{decides}
use Rattle.lua_slots.specs.Operators as machine_operators
use Rattle.lua_slots.specs.Moves as machine_moves
use Rattle.lua_agree.specs.Variables.{Var, Inside}
use Rattle.lua_agree.specs.Values.{SameJump, values_, jumps_}
use Rattle.lua_agree.specs.Functions.{here, end_of}
use Rattle.lua_agree.specs.Rests.{After, SameTruth, is_truth, is_falsehood, is_not_less, SameRest, at_end, at_first, at_verdict, at_key, at_index, at_decide, at_operand, at_operate, at_unary, at_arguments, at_call, at_method_of, at_method, at_last, at_more, at_last_item, at_item, at_pair, at_pair_value, at_fields, at_items, at_target_key, at_target, at_assign, at_sets, at_declare, at_stats, at_branch, at_return, at_while, at_test, at_count_from, at_count_to, at_count_by, at_each_values, at_each_next, at_library, at_wait, at_hearing, at_module, at_function, at_answer, at_text, at_data, SameEnd, ends_block, ends_body, ends_while, ends_repeat, ends_count, ends_each}
use Rattle.lua_agree.specs.Agree.{gives, jumps, evaluates, lists, Base, Rel}
use Rattle.lua_agree.specs.Follows.{Follows, leaves}
use Rattle.lua_agree.proofs.Parts.{first-same, one-value, each-join, true-same, no-levels, here-now, values-on, passes-on, calls}
use Rattle.lua_agree.proofs.Index.{indexes}
use Rattle.lua_agree.proofs.Operators.{answered, operates, applies}
use Rattle.lua_agree.proofs.Constructors.{items-on, sets-then, fields-on, goes-item, goes-pair}
use Rattle.lua_agree.proofs.Statements.{goes-target-key, goes-target, goes-assign, goes-sets, goes-declare, goes-stats, goes-branch, goes-return, ends-block, jumps-block, ends-body, jumps-body}
use Rattle.lua_agree.proofs.Loops.{goes-while, goes-test, jumps-test, goes-count-from, goes-count-to, goes-count-by, goes-each-values, goes-each-next, ends-while, jumps-while, ends-repeat, jumps-repeat, ends-count, jumps-count, ends-each, jumps-each}
use Rattle.lua_agree.proofs.Libraries.{waits-on, hears-on}
use Rattle.lua_agree.proofs.Starts.{goes-module, jumps-module, goes-function, jumps-function, goes-answer, jumps-answer, goes-text, jumps-text, goes-data, jumps-data}

module _ (world : World) (code : CWorld) (B : Base) {m : Map} {vars : List Var} {h : State} {s : Slots} (r : Rel code B m vars h s) where
  -- the first operand decides, or the second one is evaluated
  decides-as : {k : After (List Value)} {fs : List SFrame} (g : SameRest code m vars s.functions k fs) (a b : Bool) → a ≡ b → (e : Exp) (c : CExp) {v w : Value} {see : Sight} {scope : Scope} → IsExp (here code s.functions) see e c → Inside m vars s.functions see scope → Same m v w
      → Follows world code B (unless_decided a v (expression e) scope k) h (machine.choose b (machine.gives (w ∷ []) fs s) (Now (Evals c (First ∷ fs)) s))
  decides-as g true true q e c x i f = values-on world code B r g (one-value f)
  decides-as {k} {fs} g false false q e c {see = see} {scope = scope} x i f = here-now world code B r (evaluates e c see scope _ _ x i (at_first vars s.functions k fs g))
  decides-as g true false q e c x i f = cc
  decides-as g false true q e c x i f = cc

  decides-on : {k : After (List Value)} {fs : List SFrame} (g : SameRest code m vars s.functions k fs) (deciding : Bool) (e : Exp) (c : CExp) {v w : Value} {see : Sight} {scope : Scope} → IsExp (here code s.functions) see e c → Inside m vars s.functions see scope → Same m v w
      → Follows world code B (unless_decided (decides deciding (is_true v)) v (expression e) scope k) h (machine_expressions.choose_operand deciding c w fs s)
  decides-on g deciding e c {v} {w} x i f = decides-as g (decides deciding (is_true v)) (decides deciding (is_true w)) (rw (true-same f) refl) e c x i f

  -- a truth is given as it is, or negated
  verdicts : {negated : Bool} {t : After Bool} {k : After (List Value)} {fs : List SFrame} → SameTruth k negated t → SameRest code m vars s.functions k fs → (a b : Bool) → a ≡ b → Follows world code B (t (Goes a)) h (machine_operators.answers negated b fs s)
  verdicts {negated} {t} {fs = fs} w g a b e = subst (λ z. Follows world code B (t (Goes a)) h (machine_operators.answers negated z fs s)) e (answered world code B r g [] None (no-levels s.functions) w a)

  verdict-passes : {k : After (List Value)} {negated : Bool} {t : After Bool} {fs : List SFrame} {j j' : Jump} → SameTruth k negated t → SameRest code m vars s.functions k fs → SameJump m j j' → Follows world code B (t (Jumps j)) h (machine.jumps j' fs s)
  verdict-passes is_truth g e = passes-on world code B r g e
  verdict-passes is_falsehood g e = passes-on world code B r g e
  verdict-passes is_not_less g e = passes-on world code B r g e

  -- VALUES, where the functions in progress are these
  pub goes-on : {k : After (List Value)} {fs : List SFrame} {vs ws : List Value} → SameRest code m vars s.functions k fs → Each (Same m) vs ws → Follows world code B (k (Goes vs)) h (machine_moves.goes_on code (Goes ws) fs s)
  goes-on (at_end _ _ p0 p1) e = here-now world code B r (gives _ _ _ [] (values_ _ _ e) (at_end _ _ p0 p1))
  goes-on (at_first _ _ k fs p0) e = values-on world code B r p0 (one-value (first-same e))
  goes-on (at_verdict _ _ negated t k fs p0 p1) e = verdicts p0 p1 _ _ (true-same (first-same e))
  goes-on (at_key _ _ e_ c line see scope k fs p0 p1 p2) e = here-now world code B r (evaluates e_ c see scope _ _ p0 p1 (at_index vars s.functions _ _ (levels scope line) line k fs (first-same e) (p1.levels line) p2))
  goes-on (at_index _ _ v w ls line k fs p0 p1 p2) e = indexes world code B r (at_first vars s.functions k fs p2) ls (Some line) p1 p0 (first-same e)
  goes-on (at_decide _ _ deciding e_ c see scope k fs p0 p1 p2) e = decides-on p2 deciding e_ c p0 p1 (first-same e)
  goes-on (at_operand _ _ o e_ c line see scope k fs p0 p1 p2) e = here-now world code B r (evaluates e_ c see scope _ _ p0 p1 (at_operate vars s.functions o _ _ (levels scope line) line k fs (first-same e) (p1.levels line) p2))
  goes-on (at_operate _ _ o v w ls line k fs p0 p1 p2) e = operates world code B r p2 ls (Some line) p1 o p0 (first-same e)
  goes-on (at_unary _ _ o ls line k fs p0 p1) e = applies world code B r p1 ls (Some line) p0 o (first-same e)
  goes-on (at_arguments _ _ es cs line see scope k fs p0 p1 p2) e = here-now world code B r (lists es cs [] [] see scope _ _ p0 p1 none (at_call vars s.functions _ _ (levels scope line) line k fs (first-same e) (p1.levels line) p2))
  goes-on (at_call _ _ v w ls line k fs p0 p1 p2) e = calls world code B r p2 ls (Some line) p1 p0 e
  goes-on (at_method_of _ _ x es cs line see scope k fs p0 p1 p2) e = indexes world code B r (at_method vars s.functions _ _ es cs line see scope k fs (first-same e) p0 p1 p2) (levels scope line) (Some line) (p1.levels line) (first-same e) (text x)
  goes-on (at_method _ _ v w es cs line see scope k fs p0 p1 p2 p3) e = here-now world code B r (lists es cs (v ∷ []) (w ∷ []) see scope _ _ p1 p2 (one-value p0) (at_call vars s.functions _ _ (levels scope line) line k fs (first-same e) (p2.levels line) p3))
  goes-on (at_last _ _ vs ws k fs p0 p1) e = here-now world code B r (gives _ _ k fs (values_ _ _ (each-join p0 e)) p1)
  goes-on (at_more _ _ e_ es c cs vs ws see scope k fs p0 p1 p2 p3) e = here-now world code B r (lists (MoreExp e_ es) (MoreC c cs) _ _ see scope k fs p1 p2 (each-join p0 (one-value (first-same e))) p3)
  goes-on (at_last_item _ _ t u n ls line k fs p0 p1 p2) e = items-on world code B r p2 n ls line p1 p0 e
  goes-on (at_item _ _ t u n fields cs line see scope k fs p0 p1 p2 p3) e = goes-item world code B r p3 p2 n line p0 fields cs p1 e
  goes-on (at_pair _ _ t u n e_ c fields cs line see scope k fs p0 p1 p2 p3 p4) e = goes-pair world code B r p4 p3 n line p0 e_ c fields cs p1 p2 e
  goes-on (at_pair_value _ _ t u n v w fields cs line see scope k fs p0 p1 p2 p3 p4) e = sets-then world code B r p4 p3 n line p0 fields cs n p2 p1 (first-same e)
  goes-on (at_fields _ _ t u n fields cs line see scope k fs p0 p1 p2 p3) e = fields-on world code B r p3 p2 n line p0 fields cs p1
  goes-on (at_items _ _ t u n vs ws ls line k fs p0 p1 p2 p3) e = items-on world code B r p3 n ls line p2 p0 p1
  goes-on (at_target_key vars fns e_ c line left ts found sfound right cs see scope k fs p0 p1 p2 p3 p4 p5) e = goes-target-key world code B r e_ c line left ts found sfound right cs see scope k fs p0 p1 p2 p3 p4 p5 e
  goes-on (at_target vars fns v w line left ts found sfound right cs see scope k fs p0 p1 p2 p3 p4 p5) e = goes-target world code B r v w line left ts found sfound right cs see scope k fs p0 p1 p2 p3 p4 p5 e
  goes-on (at_assign vars fns found sfound scope k fs p0 p1) e = goes-assign world code B r found sfound scope k fs p0 p1 e
  goes-on (at_sets vars fns ps qs scope k fs p0 p1) e = goes-sets world code B r ps qs scope k fs p0 p1 e
  goes-on (at_declare vars fns tail names flags b c see scope k fs p0 p1 p2 p3) e = goes-declare world code B r tail names flags b c see scope k fs p0 p1 p2 p3 e
  goes-on (at_stats vars fns tail b c see scope k fs p0 p1 p2) e = goes-stats world code B r tail b c see scope k fs p0 p1 p2 e
  goes-on (at_branch vars fns b c arms cs other d see scope k fs p0 p1 p2 p3 p4) e = goes-branch world code B r b c arms cs other d see scope k fs p0 p1 p2 p3 p4 e
  goes-on (at_return vars fns scope k fs p0) e = goes-return world code B r scope k fs p0 e
  goes-on (at_while vars fns e_ c b d see scope k fs p0 p1 p2 p3) e = goes-while world code B r e_ c b d see scope k fs p0 p1 p2 p3 e
  goes-on (at_test vars all fns b c e_ d depth see scope k fs p0 p1 p2 p3 p4) e = goes-test world code B r vars b c e_ d depth see scope k fs p0 p1 p2 p3 p4 e
  goes-on (at_count_from vars fns x boxed e_ d by dby b c line see scope k fs p0 p1 p2 p3 p4) e = goes-count-from world code B r x boxed e_ d by dby b c line see scope k fs p0 p1 p2 p3 p4 e
  goes-on (at_count_to vars fns x boxed v w by dby b c line see scope k fs p0 p1 p2 p3 p4) e = goes-count-to world code B r x boxed v w by dby b c line see scope k fs p0 p1 p2 p3 p4 e
  goes-on (at_count_by vars fns x boxed v w t u b c line see scope k fs p0 p1 p2 p3 p4) e = goes-count-by world code B r x boxed v w t u b c line see scope k fs p0 p1 p2 p3 p4 e
  goes-on (at_each_values vars fns names flags b c line see scope k fs p0 p1 p2 p3) e = goes-each-values world code B r names flags b c line see scope k fs p0 p1 p2 p3 e
  goes-on (at_each_next vars fns names flags f_ g_ t u b c line see scope k fs p0 p1 p2 p3 p4 p5) e = goes-each-next world code B r names flags f_ g_ t u b c line see scope k fs p0 p1 p2 p3 p4 p5 e
  goes-on (at_library _ _ k fs p0) e = leaves _ _ _ (values-on world code B r p0 e)
  goes-on (at_wait _ _ p q ls line k fs p0 p1 p2) e = waits-on world code B r p2 ls line p1 p0 (values_ _ _ e)
  goes-on (at_hearing _ _ asked ls line k fs p0 p1) e = hears-on world code B r p1 ls line p0 asked (values_ _ _ e)
  goes-on (at_module _ _ name v w p0 p1 p2) e = goes-module world code B r p0 p1 name p2 e
  goes-on (at_function _ _ name v w p0 p1 p2) e = goes-function world code B r p0 p1 name p2 e
  goes-on (at_answer _ _ p0 p1) e = goes-answer world code B r p0 p1 e
  goes-on (at_text _ _ vs ws before p0 p1 p2) e = goes-text world code B r p0 p1 before p2 e
  goes-on (at_data _ _ p0 p1) e = goes-data world code B r p0 p1 e

  -- JUMPS pass on, but for what catches them
  block-passes : {tail : Option (Exp × CExp)} {k : After Scope} {fs : List SFrame} {j j' : Jump} → SameEnd code m tail vars s.functions k fs → SameJump m j j' → Follows world code B (k (Jumps j)) h (machine.jumps j' fs s)
  block-passes {tail} {k} {fs} {j} {j'} g e = here-now world code B r (jumps tail j j' k fs e g)

  pub jumps-on : {k : After (List Value)} {fs : List SFrame} {j j' : Jump} → SameRest code m vars s.functions k fs → SameJump m j j' → Follows world code B (k (Jumps j)) h (machine_moves.goes_on code (Jumps j') fs s)
  jumps-on (at_end _ _ p0 p1) e = here-now world code B r (gives _ _ _ [] (jumps_ _ _ e) (at_end _ _ p0 p1))
  jumps-on (at_first _ _ _ _ g) e = passes-on world code B r g e
  jumps-on (at_verdict _ _ negated t k fs p0 p1) e = verdict-passes p0 p1 e
  jumps-on (at_key _ _ _ _ _ _ _ _ _ _ _ g) e = passes-on world code B r g e
  jumps-on (at_index _ _ _ _ _ _ _ _ _ _ g) e = passes-on world code B r g e
  jumps-on (at_decide _ _ _ _ _ _ _ _ _ _ _ g) e = passes-on world code B r g e
  jumps-on (at_operand _ _ _ _ _ _ _ _ _ _ _ _ g) e = passes-on world code B r g e
  jumps-on (at_operate _ _ _ _ _ _ _ _ _ _ _ g) e = passes-on world code B r g e
  jumps-on (at_unary _ _ _ _ _ _ _ _ g) e = passes-on world code B r g e
  jumps-on (at_arguments _ _ _ _ _ _ _ _ _ _ _ g) e = passes-on world code B r g e
  jumps-on (at_call _ _ _ _ _ _ _ _ _ _ g) e = passes-on world code B r g e
  jumps-on (at_method_of _ _ _ _ _ _ _ _ _ _ _ _ g) e = passes-on world code B r g e
  jumps-on (at_method _ _ _ _ _ _ _ _ _ _ _ _ _ _ g) e = passes-on world code B r g e
  jumps-on (at_last _ _ _ _ _ _ _ g) e = passes-on world code B r g e
  jumps-on (at_more _ _ _ _ _ _ _ _ _ _ _ _ _ _ _ g) e = passes-on world code B r g e
  jumps-on (at_last_item _ _ _ _ _ _ _ _ _ _ _ g) e = passes-on world code B r g e
  jumps-on (at_item _ _ _ _ _ _ _ _ _ _ _ _ _ _ _ g) e = passes-on world code B r g e
  jumps-on (at_pair _ _ _ _ _ _ _ _ _ _ _ _ _ _ _ _ _ _ g) e = passes-on world code B r g e
  jumps-on (at_pair_value _ _ _ _ _ _ _ _ _ _ _ _ _ _ _ _ _ _ g) e = passes-on world code B r g e
  jumps-on (at_fields _ _ _ _ _ _ _ _ _ _ _ _ _ _ _ g) e = passes-on world code B r g e
  jumps-on (at_items _ _ _ _ _ _ _ _ _ _ _ _ _ _ g) e = passes-on world code B r g e
  jumps-on (at_target_key _ _ _ _ _ _ _ _ _ _ _ _ _ _ _ _ _ _ _ _ g) e = passes-on world code B r g e
  jumps-on (at_target _ _ _ _ _ _ _ _ _ _ _ _ _ _ _ _ _ _ _ _ g) e = passes-on world code B r g e
  jumps-on (at_assign _ _ _ _ _ _ _ _ g) e = passes-on world code B r g e
  jumps-on (at_sets _ _ _ _ _ _ _ _ g) e = passes-on world code B r g e
  jumps-on (at_declare _ _ tail names flags b c see scope k fs p0 p1 p2 p3) e = block-passes p3 e
  jumps-on (at_stats _ _ tail b c see scope k fs p0 p1 p2) e = block-passes p2 e
  jumps-on (at_branch _ _ _ _ _ _ _ _ _ _ _ _ _ _ _ _ g) e = passes-on world code B r g e
  jumps-on (at_return _ _ _ _ _ g) e = passes-on world code B r g e
  jumps-on (at_while _ _ _ _ _ _ _ _ _ _ _ _ _ g) e = passes-on world code B r g e
  jumps-on (at_test vars all fns b c e_ d depth see scope k fs p0 p1 p2 p3 p4) e = jumps-test world code B r vars b c e_ d depth see scope k fs p0 p1 p2 p3 p4 e
  jumps-on (at_count_from _ _ _ _ _ _ _ _ _ _ _ _ _ _ _ _ _ _ _ g) e = passes-on world code B r g e
  jumps-on (at_count_to _ _ _ _ _ _ _ _ _ _ _ _ _ _ _ _ _ _ _ g) e = passes-on world code B r g e
  jumps-on (at_count_by _ _ _ _ _ _ _ _ _ _ _ _ _ _ _ _ _ _ _ g) e = passes-on world code B r g e
  jumps-on (at_each_values _ _ _ _ _ _ _ _ _ _ _ _ _ _ g) e = passes-on world code B r g e
  jumps-on (at_each_next _ _ _ _ _ _ _ _ _ _ _ _ _ _ _ _ _ _ _ _ g) e = passes-on world code B r g e
  jumps-on (at_library _ _ k fs p0) e = leaves _ _ _ (passes-on world code B r p0 e)
  jumps-on (at_wait _ _ p q ls line k fs p0 p1 p2) e = waits-on world code B r p2 ls line p1 p0 (jumps_ _ _ e)
  jumps-on (at_hearing _ _ asked ls line k fs p0 p1) e = hears-on world code B r p1 ls line p0 asked (jumps_ _ _ e)
  jumps-on (at_module _ _ name v w p0 p1 p2) e = jumps-module world code B r p0 p1 name p2 e
  jumps-on (at_function _ _ name v w p0 p1 p2) e = jumps-function world code B r p0 p1 name p2 e
  jumps-on (at_answer _ _ p0 p1) e = jumps-answer world code B r p0 p1 e
  jumps-on (at_text _ _ vs ws before p0 p1 p2) e = jumps-text world code B r p0 p1 vs ws before e
  jumps-on (at_data _ _ p0 p1) e = jumps-data world code B r p0 p1 e

-- ENDS OF BLOCKS, with these functions in progress
module _ (world : World) (code : CWorld) (B : Base) {m : Map} {vars : List Var} {h : State} (s : Slots) (r : Rel code B m vars h s) where
  abbrev among : List Activation → Slots
  among fns = record s { functions = fns }

  pub ends-on : (tail : Option (Exp × CExp)) (fns : List Activation) {see : Sight} {scope : Scope} {k : After Scope} {fs : List SFrame} → end_of code fns tail see → Inside m vars fns see scope → SameEnd code m tail vars fns k fs
      → Follows world code B (k (Goes scope)) h (machine_moves.goes_on code (Goes []) fs (among fns))
  ends-on _ fns x i (ends_block vars _ _ depth scope k fs p0 p1 p2) = ends-block world code B s r vars fns depth scope k fs p0 p1 p2 x i
  ends-on _ _ x i (ends_body vars _ a fns k fs p0 p1 p2 p3) = ends-body world code B s r vars a fns k fs p0 p1 p2 p3 x i
  ends-on _ fns x i (ends_while vars _ _ e_ c b d depth see scope k fs p0 p1 p2 p3 p4 p5) = ends-while world code B s r vars fns e_ c b d depth see scope k fs p0 p1 p2 p3 p4 p5 x i
  ends-on _ fns x i (ends_repeat vars _ _ b c e_ d depth see scope k fs p0 p1 p2 p3 p4) = ends-repeat world code B s r vars fns b c e_ d depth see scope k fs p0 p1 p2 p3 p4 x i
  ends-on _ fns x i (ends_count vars _ _ name boxed index limit step b c depth see scope k fs p0 p1 p2 p3 p4) = ends-count world code B s r vars fns name boxed index limit step b c depth see scope k fs p0 p1 p2 p3 p4 x i
  ends-on _ fns x i (ends_each vars _ _ names flags f_ g_ t u p q b c line depth see scope k fs p0 p1 p2 p3 p4 p5 p6 p7 p8) = ends-each world code B s r vars fns names flags f_ g_ t u p q b c line depth see scope k fs p0 p1 p2 p3 p4 p5 p6 p7 p8 x i

  pub end-jumps-on : (tail : Option (Exp × CExp)) (fns : List Activation) {k : After Scope} {fs : List SFrame} {j j' : Jump} → SameJump m j j' → SameEnd code m tail vars fns k fs → Follows world code B (k (Jumps j)) h (machine_moves.goes_on code (Jumps j') fs (among fns))
  end-jumps-on _ fns x (ends_block vars _ _ depth scope k fs p0 p1 p2) = jumps-block world code B s r vars fns depth scope k fs p0 p1 p2 x
  end-jumps-on _ _ x (ends_body vars _ a fns k fs p0 p1 p2 p3) = jumps-body world code B s r vars a fns k fs p0 p1 p2 p3 x
  end-jumps-on _ fns x (ends_while vars _ _ e_ c b d depth see scope k fs p0 p1 p2 p3 p4 p5) = jumps-while world code B s r vars fns e_ c b d depth see scope k fs p0 p1 p2 p3 p4 p5 x
  end-jumps-on _ fns x (ends_repeat vars _ _ b c e_ d depth see scope k fs p0 p1 p2 p3 p4) = jumps-repeat world code B s r vars fns b c e_ d depth see scope k fs p0 p1 p2 p3 p4 x
  end-jumps-on _ fns x (ends_count vars _ _ name boxed index limit step b c depth see scope k fs p0 p1 p2 p3 p4) = jumps-count world code B s r vars fns name boxed index limit step b c depth see scope k fs p0 p1 p2 p3 p4 x
  end-jumps-on _ fns x (ends_each vars _ _ names flags f_ g_ t u p q b c line depth see scope k fs p0 p1 p2 p3 p4 p5 p6 p7 p8) = jumps-each world code B s r vars fns names flags f_ g_ t u p q b c line depth see scope k fs p0 p1 p2 p3 p4 p5 p6 p7 p8 x
