-- FROM AN EXPRESSION, a statement or a declaration to the frame that calls: the frames that wait then, and the nodes that lead there.
use Rattle.std.proofs.Common.{◌≡◌, ◌∙◌, ◌-◌, ◌+◌, ℕ, List, [], ◌∷◌, refl, sym, ap, subst, arith}
use Rattle.std.specs.Prelude.{Bool}
use Rattle.std.specs.Borrow.{Bor}
use Rattle.lua_turns.specs.PageRunOutcome.{Goes}
use Rattle.lua_code.specs.LuaHeapValue.{Builtin}
use Rattle.lua_code.specs.declared.expression.Expression.{Expression}
use Rattle.lua_code.specs.declared.statement.Statement.{Statement}
use Rattle.lua_code.specs.Seen.{block_seen, expressions_seen}
use Rattle.lua_code.specs.LuaSlotsCode.{CExp, CallStatC, DeclareC, MoreC, NoC, ThenC, UnaryC, CWorld}
use Rattle.lua_turns.specs.LuaSlotsSlots.{Slots}
use Rattle.lua_turns.specs.LuaSlotsPoints.{SFrame, CallNow, DeclareNow, MoreNext, StatsNext, UnaryNow, Point, Evals, Gives, Lists, Runs, Now}
use Rattle.lua_turns.specs.LuaSlotsErrors.{node}
use Rattle.lua_turns.specs.LuaSlotsMoves.{moves}
use Rattle.lua_turns.specs.LuaSlotsEnact.{Funds}
use Rattle.lua_turns.specs.LuaGoesGoing.{Reaches}
use Rattle.lua_turns.specs.LuaInPlaceLaws.{after_nodes}
use Rattle.lua_turns.proofs.LuaInPlaceReading.{with_count, node_move, reach_then}
use Rattle.lua_turns.proofs.LuaInPlaceStatements.{LeadsFree, free}
use Rattle.lua_turns.specs.LuaStackDeclaredFrameFrameTheVariants as frame
use Rattle.lua_turns.specs.LuaStackDeclaredFrameInExpressionTheVariants as in_expression
use Rattle.lua_turns.specs.LuaStackDeclaredFrameInStatementTheVariants as in_statement
use Rattle.lua_turns.specs.LuaStackSeen.{values_seen}
use Rattle.lua_turns.specs.LuaStateDeclaredStateState.{State}
use Rattle.lua_turns.specs.LuaStateOf.{StateOf}
use Rattle.lua_turns.specs.LuaStateSeen.{frames_of, slots_of}
use Rattle.lua_turns.specs.LuaStateWorlds.{world_seen}
use Rattle.lua_turns.specs.LuaStoreDeclaredValueValue.{Value}
use Rattle.lua_turns.specs.LuaStoreSeen.{StoreView}
use Rattle.lua_syntax.specs.declared.UnaryOp.{UnaryOp}
use Rattle.lua_turns.specs.LuaStridesStrides.{LeadsAt}
use Rattle.lua_rows.specs.declared.ready.ReadyCall.{ReadyCall}
use Rattle.lua_rows.specs.Declaring.{declaring}
use Rattle.lua_rows.specs.Made.{LeadsToCall}
use Rattle.lua_rows.specs.Ready.{IsReady}

-- A NODE, and so many behind it
after_both : (n : ℕ) (f : Funds) → after_nodes n (after_nodes 1 f) ≡ after_nodes (1 + n) f
after_both n f =
    let steps : f.left.steps - 1 - n ≡ f.left.steps - (1 + n) = omega arith in
    let nodes : f.tally.nodes + 1 + n ≡ f.tally.nodes + (1 + n) = omega arith in
    ap (λ (x : ℕ). with_count f x (f.tally.nodes + 1 + n)) steps ∙ ap (λ (x : ℕ). with_count f (f.left.steps - (1 + n)) x) nodes

module _ (world : CWorld) where
  pub node_first : (n : ℕ) (p q r : Point) (s : Slots) → moves world p s ≡ node (Now q s) → LeadsAt world q s n r s → LeadsAt world p s (1 + n) r s
  node_first n p q r s e x f le =
      subst (λ (g : Funds). Reaches world p s f r s g) (after_both n f)
      (reach_then (node_move world s p q f f.left.steps (f.left.steps - 1) f.tally.nodes (f.tally.nodes + 1) e (omega (arith, le)) refl) (x (after_nodes 1 f) (omega (arith, le))))

  pub move_first : (n : ℕ) (p q r : Point) (s : Slots) → LeadsFree world p s q s → LeadsAt world q s n r s → LeadsAt world p s n r s
  move_first n p q r s y x f le = reach_then (y f) (x f le)

-- THE CALL OF AN EXPRESSION that is ready
module _ (s : StoreView) (m : State) (e : CExp) (args : List Value) (c : ReadyCall) (of : StateOf s m) (ready : IsReady s m e args c) where
  -- an expression
  pub expression_leads : LeadsToCall s m c.callee args c.nodes (Evals e (frames_of s m)) c.line m.frames
  expression_leads = record { which = ready.which; is = ready.is; frames = of.frames; leads = ready.leads (frames_of s m) }

  -- the operand of an operator
  pub operand_leads : (op : UnaryOp) (line : ℕ) → LeadsToCall s m c.callee args (1 + c.nodes) (Evals (UnaryC op e line) (frames_of s m)) c.line (frame.Expression (in_expression.UnaryNow op line) ∷ m.frames)
  operand_leads op line =
      let fs : List SFrame = UnaryNow op line ∷ frames_of s m in
      record {
        which = ready.which;
        is = ready.is;
        frames = (tt, of.frames);
        leads = node_first (world_seen m.codes.world) c.nodes (Evals (UnaryC op e line) (frames_of s m)) (Evals e fs) (Gives (Goes (values_seen s.texts args)) (CallNow (Builtin ready.which) c.line ∷ fs)) (slots_of s m) refl (ready.leads fs);
      }

  -- a call that is a statement
  pub statement_leads : (rest : Bor (List Statement)) → LeadsToCall s m c.callee args (1 + c.nodes) (Runs (ThenC (CallStatC e) (block_seen rest.now)) (frames_of s m)) c.line (frame.Statement (in_statement.StatsNext rest) ∷ m.frames)
  statement_leads rest =
      let b = block_seen rest.now in
      let fs = frames_of s m in
      record {
        which = ready.which;
        is = ready.is;
        frames = (tt, of.frames);
        leads = node_first (world_seen m.codes.world) c.nodes (Runs (ThenC (CallStatC e) b) fs) (Evals e (StatsNext b ∷ fs)) (Gives (Goes (values_seen s.texts args)) (CallNow (Builtin ready.which) c.line ∷ StatsNext b ∷ fs)) (slots_of s m) refl
            (ready.leads (StatsNext b ∷ fs));
      }

  -- a declaration
  pub declaration_leads : (none : Bor (List Expression)) (flags : Bor (List Bool)) (rest : Bor (List Statement)) → none.now ≡ []
      → LeadsToCall s m c.callee args (1 + c.nodes) (Runs (DeclareC flags.now (MoreC e NoC) (block_seen rest.now)) (frames_of s m)) c.line (declaring none flags rest m.frames)
  declaration_leads none flags rest is =
      let world = world_seen m.codes.world in
      let x = slots_of s m in
      let fs : List SFrame = DeclareNow flags.now (block_seen rest.now) ∷ frames_of s m in
      let p = Runs (DeclareC flags.now (MoreC e NoC) (block_seen rest.now)) (frames_of s m) in
      let r : List SFrame → Point = λ gs. Gives (Goes (values_seen s.texts args)) (CallNow (Builtin ready.which) c.line ∷ gs) in
      record {
        which = ready.which;
        is = ready.is;
        frames = (tt, (tt, of.frames));
        leads = subst (λ (es : List Expression). LeadsAt world p x (1 + c.nodes) (r (MoreNext (expressions_seen es) [] ∷ fs)) x) (sym is)
            (node_first world c.nodes p (Lists (MoreC e NoC) [] fs) (r (MoreNext NoC [] ∷ fs)) x refl
            (move_first world c.nodes (Lists (MoreC e NoC) [] fs) (Evals e (MoreNext NoC [] ∷ fs)) (r (MoreNext NoC [] ∷ fs)) x (free world (Lists (MoreC e NoC) [] fs) x (Evals e (MoreNext NoC [] ∷ fs)) x refl)
            (ready.leads (MoreNext NoC [] ∷ fs))));
      }
