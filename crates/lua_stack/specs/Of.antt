-- When all that a machine holds names only what a store has. It stays so in each later store, and is seen there as it was (`Laws`).
use Rattle.std.specs.Prelude.{◌≡◌, ℕ, List, Option, Some, None, codes}
use Rattle.std.specs.List.{AllByRecursion}
use Rattle.lua_store.specs.declared.value.Value.{Value}
use Rattle.lua_store.specs.declared.ids.TextId.{TextId}
use Rattle.lua_store.specs.declared.ids.CellId.{CellId}
use Rattle.lua_store.specs.declared.ids.ClosureId.{ClosureId}
use Rattle.lua_store.specs.Seen.{StoreView, text_at}
use Rattle.lua_store.specs.Parts.{IsOf, IsTextOf, IsTableOf, IsCellOf, IsClosureOf}
use Rattle.mw_frame.specs.Scenes.{HaveNames}
use Rattle.lua_code.specs.LuaMeaningOperators as plain
use Rattle.lua_replacing.specs.Seen.{ReplacingOf}
use Rattle.lua_stack.specs.declared.values.Given.{Given}
use Rattle.lua_stack.specs.declared.frame.Found.{Found}
use Rattle.lua_stack.specs.declared.frame.Found.TheVariants as found
use Rattle.lua_stack.specs.declared.frame.Setting.{Setting}
use Rattle.lua_stack.specs.declared.frame.Pending.{Pending}
use Rattle.lua_stack.specs.declared.frame.Pending.TheVariants as pending
use Rattle.lua_stack.specs.declared.frame.Asked.{Asked}
use Rattle.lua_stack.specs.declared.frame.Asked.TheVariants as asked
use Rattle.lua_stack.specs.declared.frame.EachLoop.{EachLoop}
use Rattle.lua_stack.specs.declared.frame.Thing.{Thing}
use Rattle.lua_stack.specs.declared.frame.Thing.TheVariants as thing
use Rattle.lua_stack.specs.declared.frame.InExpression.{InExpression}
use Rattle.lua_stack.specs.declared.frame.InExpression.TheVariants as in_expression
use Rattle.lua_stack.specs.declared.frame.InConstructor.{InConstructor}
use Rattle.lua_stack.specs.declared.frame.InConstructor.TheVariants as in_constructor
use Rattle.lua_stack.specs.declared.frame.InAssignment.{InAssignment}
use Rattle.lua_stack.specs.declared.frame.InAssignment.TheVariants as in_assignment
use Rattle.lua_stack.specs.declared.frame.InStatement.{InStatement}
use Rattle.lua_stack.specs.declared.frame.InLoop.{InLoop}
use Rattle.lua_stack.specs.declared.frame.InLoop.TheVariants as in_loop
use Rattle.lua_stack.specs.declared.frame.Ending.{Ending}
use Rattle.lua_stack.specs.declared.frame.Ending.TheVariants as ending
use Rattle.lua_stack.specs.declared.frame.InRun.{InRun}
use Rattle.lua_stack.specs.declared.frame.InRun.TheVariants as in_run
use Rattle.lua_stack.specs.declared.frame.Frame.{Frame}
use Rattle.lua_stack.specs.declared.frame.Frame.TheVariants as frame
use Rattle.lua_stack.specs.declared.focus.Jump.{Jump}
use Rattle.lua_stack.specs.declared.focus.Jump.TheVariants as jump
use Rattle.lua_stack.specs.declared.focus.Work.{Work}
use Rattle.lua_stack.specs.declared.focus.Work.TheVariants as work
use Rattle.lua_stack.specs.declared.focus.Focus.{Focus}
use Rattle.lua_stack.specs.declared.focus.Focus.TheVariants as focus
use Rattle.lua_stack.specs.declared.register.Slot.{Slot}
use Rattle.lua_stack.specs.declared.register.Slot.TheVariants as slot
use Rattle.lua_stack.specs.declared.activation.Callee.{Callee}
use Rattle.lua_stack.specs.declared.activation.Activation.{Activation}
use Rattle.lua_stack.specs.declared.environment.Environment.{Environment}
use Rattle.lua_stack.specs.Lists.{given_values}

-- VALUES
abbrev pub ValuesOf : StoreView → List Value → Type 0
ValuesOf s vs = AllByRecursion (IsOf s) vs

abbrev pub GivenOf : StoreView → Given → Type 0
GivenOf s g = ValuesOf s (given_values g)

abbrev pub TextsOf : StoreView → List TextId → Type 0
TextsOf s ids = AllByRecursion (IsTextOf s) ids

-- REGISTERS
abbrev pub SlotOf : StoreView → Slot → Type 0
SlotOf s (slot.Plain v) = IsOf s v
SlotOf s (slot.Boxed c) = IsCellOf s c

abbrev pub RegistersOf : StoreView → List Slot → Type 0
RegistersOf s regs = AllByRecursion (SlotOf s) regs

-- a register, a cell and a closure, if there is one
abbrev pub MayBeSlotOf : StoreView → Option Slot → Type 0
MayBeSlotOf s None = Unit {0}
MayBeSlotOf s (Some r) = SlotOf s r

abbrev pub MayBeCellOf : StoreView → Option CellId → Type 0
MayBeCellOf s None = Unit {0}
MayBeCellOf s (Some c) = IsCellOf s c

abbrev pub MayBeClosureOf : StoreView → Option ClosureId → Type 0
MayBeClosureOf s None = Unit {0}
MayBeClosureOf s (Some c) = IsClosureOf s c

-- FUNCTIONS
pub record CalleeOf (s : StoreView) (f : Callee) : Type 0 where
  pub source : IsTextOf s f.source
  pub closure : MayBeClosureOf s f.closure

pub record ActivationOf (s : StoreView) (a : Activation) : Type 0 where
  pub source : IsTextOf s a.source
  pub closure : MayBeClosureOf s a.closure
  pub dots : ValuesOf s a.dots

abbrev pub ActivationsOf : StoreView → List Activation → Type 0
ActivationsOf s activations = AllByRecursion (ActivationOf s) activations

-- TARGETS
abbrev pub FoundOf : StoreView → Found → Type 0
FoundOf s (found.Variable p) = Unit {0}
FoundOf s (found.Global name line) = IsTextOf s name
FoundOf s (found.At of key line) = IsOf s of × IsOf s key

abbrev pub SettingOf : StoreView → Setting → Type 0
SettingOf s p = FoundOf s p.target × IsOf s p.value

-- FRAMES
abbrev pub PendingOf : StoreView → Pending → Type 0
PendingOf s (pending.Xpcall h) = IsOf s h
PendingOf s (pending.Gsub w) = ReplacingOf s w.value
PendingOf s _ = Unit {0}

abbrev pub AskedOf : StoreView → Asked → Type 0
AskedOf s (asked.Template text) = IsTextOf s text
AskedOf s asked.Text = Unit {0}
AskedOf s (asked.Data text title) = IsTextOf s text

abbrev pub InExpressionOf : StoreView → InExpression → Type 0
InExpressionOf s (in_expression.IndexNow of line) = IsOf s of
InExpressionOf s (in_expression.OperateNow op a line) = IsOf s a
InExpressionOf s (in_expression.CallNow f line) = IsOf s f
InExpressionOf s (in_expression.MethodNext name args line) = IsTextOf s name
InExpressionOf s (in_expression.MethodNow object args line) = IsOf s object
InExpressionOf s (in_expression.MoreNext es before) = ValuesOf s before
InExpressionOf s _ = Unit {0}

abbrev pub InConstructorOf : StoreView → InConstructor → Type 0
InConstructorOf s (in_constructor.ItemNow t n es line) = IsTableOf s t
InConstructorOf s (in_constructor.PairNext t n e es line) = IsTableOf s t
InConstructorOf s (in_constructor.PairNow t n key es line) = IsTableOf s t × IsOf s key
InConstructorOf s (in_constructor.FieldsNext t n es line) = IsTableOf s t
InConstructorOf s (in_constructor.ItemsNext t n left line) = IsTableOf s t × ValuesOf s left

abbrev pub InAssignmentOf : StoreView → InAssignment → Type 0
InAssignmentOf s (in_assignment.TargetKey key line finding) = AllByRecursion (FoundOf s) finding.value.before
InAssignmentOf s (in_assignment.TargetNow of line finding) = IsOf s of × AllByRecursion (FoundOf s) finding.value.before
InAssignmentOf s (in_assignment.AssignNow targets) = AllByRecursion (FoundOf s) targets
InAssignmentOf s (in_assignment.SetsNext pairs) = AllByRecursion (SettingOf s) pairs

abbrev pub InStatementOf : StoreView → InStatement → Type 0
InStatementOf s _ = Unit {0}

-- a generic loop: its iterator and its state
abbrev pub EachOf : StoreView → EachLoop → Type 0
EachOf s each = IsOf s each.iterator × IsOf s each.state

abbrev pub InLoopOf : StoreView → InLoop → Type 0
InLoopOf s (in_loop.CountTo boxed from by b line) = IsOf s from
InLoopOf s (in_loop.CountBy boxed from to b line) = IsOf s from × IsOf s to
InLoopOf s (in_loop.EachNext each) = EachOf s each.value
InLoopOf s _ = Unit {0}

abbrev pub EndingOf : StoreView → Ending → Type 0
EndingOf s (ending.EachEnd depth each before) = EachOf s each.value × IsOf s before
EndingOf s _ = Unit {0}

abbrev pub InRunOf : StoreView → InRun → Type 0
InRunOf s (in_run.ModuleFound name f) = IsOf s f
InRunOf s (in_run.FunctionFound name f) = IsOf s f
InRunOf s (in_run.TextNow values before) = ValuesOf s values × TextsOf s before
InRunOf s _ = Unit {0}

abbrev pub FrameOf : StoreView → Frame → Type 0
FrameOf s (frame.Expression f) = InExpressionOf s f
FrameOf s (frame.Constructor f) = InConstructorOf s f
FrameOf s (frame.Assignment f) = InAssignmentOf s f
FrameOf s (frame.Statement f) = InStatementOf s f
FrameOf s (frame.Loop f) = InLoopOf s f
FrameOf s (frame.End f) = EndingOf s f
FrameOf s (frame.Waits what line) = PendingOf s what
FrameOf s (frame.Hears what line) = AskedOf s what
FrameOf s (frame.Run f) = InRunOf s f

abbrev pub FramesOf : StoreView → List Frame → Type 0
FramesOf s frames = AllByRecursion (FrameOf s) frames

-- WHAT IS NEXT
abbrev pub ThingOf : StoreView → Thing → Type 0
ThingOf s (thing.EachTurn each results) = EachOf s each.value × GivenOf s results
ThingOf s (thing.Body f args line) = CalleeOf s f × ValuesOf s args
ThingOf s (thing.Library which args line) = ValuesOf s args
ThingOf s (thing.IndexLink object h key line) = IsOf s object × IsOf s h × IsOf s key
ThingOf s (thing.SetLink object h key value line) = IsOf s object × IsOf s h × IsOf s key × IsOf s value
ThingOf s (thing.CallLink h args line) = IsOf s h × ValuesOf s args
ThingOf s _ = Unit {0}

abbrev pub JumpOf : StoreView → Jump → Type 0
JumpOf s (jump.Returned g) = GivenOf s g
JumpOf s jump.Broke = Unit {0}
JumpOf s (jump.Raised v) = IsOf s v

-- the names of arguments differ
abbrev pub WorkOf : Work → Type 0
WorkOf (work.Invoke job) = HaveNames job
WorkOf (work.Data title) = Unit {0}

abbrev pub FocusOf : StoreView → Focus → Type 0
FocusOf s (focus.Gives g) = GivenOf s g
FocusOf s (focus.Jumps j) = JumpOf s j
FocusOf s (focus.Lists es before) = ValuesOf s before
FocusOf s (focus.Finds targets before values) = AllByRecursion (FoundOf s) before
FocusOf s (focus.Sets pairs) = AllByRecursion (SettingOf s) pairs
FocusOf s (focus.Starts t) = ThingOf s t
FocusOf s (focus.Texts values before) = ValuesOf s values × TextsOf s before
FocusOf s (focus.Works work) = WorkOf work.value
FocusOf s _ = Unit {0}

-- THE ENVIRONMENT of a run, whose names of handlers are what the manual calls them (2.8)
abbrev pub IsNameOf : StoreView → TextId → List ℕ → Type 0
IsNameOf s id name = IsTextOf s id × (text_at s.texts id.at ≡ name)

pub record EnvironmentOf (s : StoreView) (e : Environment) : Type 0 where
  pub globals : IsTableOf s e.globals
  pub strings : IsTableOf s e.strings
  pub index : IsNameOf s e.index (codes "__index")
  pub set_index : IsNameOf s e.set_index (codes "__newindex")
  pub call : IsNameOf s e.call (codes "__call")
  pub add : IsNameOf s e.add (plain.event plain.Add)
  pub subtract : IsNameOf s e.subtract (plain.event plain.Sub)
  pub multiply : IsNameOf s e.multiply (plain.event plain.Mul)
  pub divide : IsNameOf s e.divide (plain.event plain.Div)
  pub modulo : IsNameOf s e.modulo (plain.event plain.Mod)
  pub power : IsNameOf s e.power (plain.event plain.Pow)
  pub negate : IsNameOf s e.negate (codes "__unm")
  pub concatenate : IsNameOf s e.concatenate (codes "__concat")
  pub equal : IsNameOf s e.equal (codes "__eq")
  pub less : IsNameOf s e.less (codes "__lt")
  pub at_most : IsNameOf s e.at_most (codes "__le")
  pub to_string : IsNameOf s e.to_string (codes "__tostring")
  pub pairs : IsNameOf s e.pairs (codes "__pairs")
  pub ipairs : IsNameOf s e.ipairs (codes "__ipairs")
