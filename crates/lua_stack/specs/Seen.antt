-- What a machine's frames, registers, functions in progress and next things are seen as in `lua_slots`: match for match, where a value
-- is what the store's texts make of it, and code is what `lua_code` says.
use Rattle.std.specs.Prelude.{ℕ, List, [], ◌∷◌, ◌++◌, map, Option, Some, None, option_map}
use Rattle.page_run.specs.Outcome.{Goes, Jumps}
use Rattle.lua_code.specs.LuaHeapValue.{Value as Plain}
use Rattle.lua_store.specs.LuaHeapProc.{Proc}
use Rattle.lua_store.specs.LuaHeapHeap.{Heap, Closed, Function as FunctionClosed, Iterator, closure_at}
use Rattle.lua_store.specs.declared.value.Value.{Value}
use Rattle.lua_store.specs.declared.ids.TextId.{TextId}
use Rattle.lua_store.specs.declared.ids.ClosureId.{ClosureId}
use Rattle.lua_store.specs.Seen.{StoreView, text_at, seen}
use Rattle.lua_code.specs.LuaMeaningScope.{Bytes, Place}
use Rattle.lua_code.specs.LuaMeaningActs as act
use Rattle.lua_code.specs.LuaMeaningPending as waiting
use Rattle.lua_code.specs.LuaMeaningQuestions as asking
use Rattle.lua_code.specs.LuaMeaningStart as start
use Rattle.lua_code.specs.LuaSlotsSlots as slots
use Rattle.lua_code.specs.LuaSlotsPoints.{SFrame, SThing, STarget, Point}
use Rattle.lua_code.specs.LuaSlotsPoints as point
use Rattle.lua_code.specs.Seen.{place_seen, operator_seen, expression_seen, expressions_seen, entries_seen, target_seen, block_seen, branches_seen}
use Rattle.lua_replacing.specs.Seen.{replacing_seen}
use Rattle.lua_stack.specs.declared.values.Given.{Given}
use Rattle.lua_stack.specs.declared.frame.Found.{Found}
use Rattle.lua_stack.specs.declared.frame.Found.TheVariants as found
use Rattle.lua_stack.specs.declared.frame.Setting.{Setting}
use Rattle.lua_stack.specs.declared.frame.Pending.{Pending}
use Rattle.lua_stack.specs.declared.frame.Pending.TheVariants as pending
use Rattle.lua_stack.specs.declared.frame.Asked.{Asked}
use Rattle.lua_stack.specs.declared.frame.Asked.TheVariants as asked
use Rattle.lua_stack.specs.declared.frame.Thing.{Thing}
use Rattle.lua_stack.specs.declared.frame.Thing.TheVariants as thing
use Rattle.lua_stack.specs.declared.frame.InExpression.{InExpression}
use Rattle.lua_stack.specs.declared.frame.InExpression.TheVariants as in_expression
use Rattle.lua_stack.specs.declared.frame.InConstructor.{InConstructor}
use Rattle.lua_stack.specs.declared.frame.InConstructor.TheVariants as in_constructor
use Rattle.lua_stack.specs.declared.frame.InAssignment.{InAssignment}
use Rattle.lua_stack.specs.declared.frame.InAssignment.TheVariants as in_assignment
use Rattle.lua_stack.specs.declared.frame.InStatement.{InStatement}
use Rattle.lua_stack.specs.declared.frame.InStatement.TheVariants as in_statement
use Rattle.lua_stack.specs.declared.frame.InLoop.{InLoop}
use Rattle.lua_stack.specs.declared.frame.InLoop.TheVariants as in_loop
use Rattle.lua_stack.specs.declared.frame.Ending.{Ending}
use Rattle.lua_stack.specs.declared.frame.Ending.TheVariants as ending
use Rattle.lua_stack.specs.declared.frame.InRun.{InRun}
use Rattle.lua_stack.specs.declared.frame.InRun.TheVariants as in_run
use Rattle.lua_stack.specs.declared.frame.Frame.{Frame}
use Rattle.lua_stack.specs.declared.frame.Frame.TheVariants as frame
use Rattle.lua_stack.specs.declared.focus.Jump.{Jump}
use Rattle.lua_stack.specs.declared.focus.Jump.TheVariants as jump
use Rattle.lua_stack.specs.declared.focus.Work.{Work}
use Rattle.lua_stack.specs.declared.focus.Work.TheVariants as work
use Rattle.lua_stack.specs.declared.focus.Focus.{Focus}
use Rattle.lua_stack.specs.declared.focus.Focus.TheVariants as focus
use Rattle.lua_stack.specs.declared.register.Slot.{Slot}
use Rattle.lua_stack.specs.declared.register.Slot.TheVariants as slot
use Rattle.lua_stack.specs.declared.activation.Callee.{Callee}
use Rattle.lua_stack.specs.declared.activation.Activation.{Activation}
use Rattle.lua_stack.specs.declared.activation.Level.{Level}
use Rattle.lua_stack.specs.Lists.{given_values}

abbrev pub Texts : Type 0
Texts = List (List ℕ)

-- VALUES
abbrev pub values_seen : Texts → List Value → List Plain
values_seen texts vs = map (seen texts) vs

abbrev pub given_seen : Texts → Given → List Plain
given_seen texts g = values_seen texts (given_values g)

-- texts one after another
abbrev pub joined_seen : Texts → List TextId → Bytes
joined_seen texts [] = []
joined_seen texts (id ∷ ids) = text_at texts id.at ++ joined_seen texts ids

-- REGISTERS, the newest first
abbrev pub slot_seen : Texts → Slot → slots.Slot
slot_seen texts (slot.Plain v) = slots.Plain (seen texts v)
slot_seen texts (slot.Boxed c) = slots.Boxed c.at

abbrev pub registers_seen : Texts → List Slot → List slots.Slot
registers_seen texts regs = map (slot_seen texts) regs

-- FUNCTIONS. One that stands in a closure has the closure's cells; the text of a module has none.
abbrev pub closed_cells : Option (Closed Proc) → List ℕ
closed_cells (Some (FunctionClosed p)) = p.cells
closed_cells (Some (Iterator step cells)) = cells
closed_cells None = []

abbrev pub captured_by : Heap Proc → Option ClosureId → List ℕ
captured_by h None = []
captured_by h (Some id) = closed_cells (closure_at h id.at)

abbrev pub callee_seen : StoreView → Callee → Proc
callee_seen s f = record { title = text_at s.texts f.source.at; index = f.index; cells = captured_by s.heap f.closure }

abbrev pub activation_seen : StoreView → Activation → slots.Activation
activation_seen s a = record {
  cells = captured_by s.heap a.closure;
  dots = values_seen s.texts a.dots;
  source = text_at s.texts a.source.at;
  called_at = a.called_at;
  base = a.base;
}

abbrev pub activations_seen : StoreView → List Activation → List slots.Activation
activations_seen s activations = map (activation_seen s) activations

abbrev pub level_seen : Texts → Level → Place
level_seen texts l = record { source = text_at texts l.source.at; line = l.line }

-- TARGETS
abbrev pub found_seen : Texts → Found → STarget
found_seen texts (found.Variable p) = point.PlaceS (place_seen p)
found_seen texts (found.Global name line) = point.GlobalS (text_at texts name.at) line
found_seen texts (found.At of key line) = point.EntryS (seen texts of) (seen texts key) line

abbrev pub setting_seen : Texts → Setting → STarget × Plain
setting_seen texts p = (found_seen texts p.target, seen texts p.value)

-- those that are still to be set, the next one first
abbrev pub settings_seen : Texts → List Setting → List (STarget × Plain)
settings_seen texts ps = map (setting_seen texts) ps

-- FRAMES, the newest first
abbrev pub pending_seen : Texts → Pending → waiting.Pending
pending_seen texts pending.Pcall = waiting.PcallWaits
pending_seen texts (pending.Xpcall h) = waiting.XpcallWaits (seen texts h)
pending_seen texts pending.Handler = waiting.HandlerWaits
pending_seen texts pending.ToString = waiting.ToStringWaits
pending_seen texts pending.Pairs = waiting.PairsWaits
pending_seen texts (pending.Gsub w) = waiting.GsubWaits (replacing_seen texts w.value)
pending_seen texts (pending.Module title) = waiting.ModuleWaits title

abbrev pub asked_seen : Texts → Asked → asking.Asked
asked_seen texts (asked.Template text) = asking.TemplateAsked (text_at texts text.at)
asked_seen texts asked.Text = asking.TextAsked
asked_seen texts (asked.Data text title) = asking.DataAsked (text_at texts text.at) title

abbrev pub in_expression_seen : Texts → InExpression → SFrame
in_expression_seen texts in_expression.First = point.First
in_expression_seen texts (in_expression.Verdict negated) = point.Verdict negated
in_expression_seen texts (in_expression.KeyNext key line) = point.KeyNext (expression_seen key.now) line
in_expression_seen texts (in_expression.IndexNow of line) = point.IndexNow (seen texts of) line
in_expression_seen texts (in_expression.DecideNext deciding b) = point.DecideNext deciding (expression_seen b.now)
in_expression_seen texts (in_expression.OperandNext op b line) = point.OperandNext (operator_seen op) (expression_seen b.now) line
in_expression_seen texts (in_expression.OperateNow op a line) = point.OperateNow (operator_seen op) (seen texts a) line
in_expression_seen texts (in_expression.UnaryNow op line) = point.UnaryNow op line
in_expression_seen texts (in_expression.ArgumentsNext args line) = point.ArgumentsNext (expressions_seen args.now) line
in_expression_seen texts (in_expression.CallNow f line) = point.CallNow (seen texts f) line
in_expression_seen texts (in_expression.MethodNext name args line) = point.MethodNext (text_at texts name.at) (expressions_seen args.now) line
in_expression_seen texts (in_expression.MethodNow object args line) = point.MethodNow (seen texts object) (expressions_seen args.now) line
in_expression_seen texts (in_expression.MoreNext es before) = point.MoreNext (expressions_seen es.now) (values_seen texts before)

abbrev pub in_constructor_seen : Texts → InConstructor → SFrame
in_constructor_seen texts (in_constructor.ItemNow t n es line) = point.ItemNow t.at n (entries_seen es.now) line
in_constructor_seen texts (in_constructor.PairNext t n e es line) = point.PairNext t.at n (expression_seen e.now) (entries_seen es.now) line
in_constructor_seen texts (in_constructor.PairNow t n key es line) = point.PairNow t.at n (seen texts key) (entries_seen es.now) line
in_constructor_seen texts (in_constructor.FieldsNext t n es line) = point.FieldsNext t.at n (entries_seen es.now) line
in_constructor_seen texts (in_constructor.ItemsNext t n left line) = point.ItemsNext t.at n (values_seen texts left) line

abbrev pub in_assignment_seen : Texts → InAssignment → SFrame
in_assignment_seen texts (in_assignment.TargetKey key line finding) = point.TargetKey (expression_seen key.now) line (map target_seen finding.value.rest.now) (map (found_seen texts) finding.value.before) (expressions_seen finding.value.values.now)
in_assignment_seen texts (in_assignment.TargetNow of line finding) = point.TargetNow (seen texts of) line (map target_seen finding.value.rest.now) (map (found_seen texts) finding.value.before) (expressions_seen finding.value.values.now)
in_assignment_seen texts (in_assignment.AssignNow targets) = point.AssignNow (map (found_seen texts) targets)
in_assignment_seen texts (in_assignment.SetsNext pairs) = point.SetsNext (settings_seen texts pairs)

abbrev pub in_statement_seen : Texts → InStatement → SFrame
in_statement_seen texts (in_statement.DeclareNow flags more) = point.DeclareNow flags.now (block_seen more.now)
in_statement_seen texts (in_statement.StatsNext more) = point.StatsNext (block_seen more.now)
in_statement_seen texts (in_statement.BranchNext b arms other) = point.BranchNext (block_seen b.now) (branches_seen arms.now) (option_map (λ b. block_seen b.now) other)
in_statement_seen texts in_statement.ReturnNow = point.ReturnNow

abbrev pub in_loop_seen : Texts → InLoop → SFrame
in_loop_seen texts (in_loop.WhileTest test b) = point.WhileTest (expression_seen test.now) (block_seen b.now)
in_loop_seen texts (in_loop.CountFrom boxed to by b line) = point.CountFrom boxed (expression_seen to.now) (option_map (λ e. expression_seen e.now) by) (block_seen b.now) line
in_loop_seen texts (in_loop.CountTo boxed from by b line) = point.CountTo boxed (seen texts from) (option_map (λ e. expression_seen e.now) by) (block_seen b.now) line
in_loop_seen texts (in_loop.CountBy boxed from to b line) = point.CountBy boxed (seen texts from) (seen texts to) (block_seen b.now) line
in_loop_seen texts (in_loop.EachValues flags b line) = point.EachValues flags.now (block_seen b.now) line
in_loop_seen texts (in_loop.EachNext each) = point.EachNext each.value.flags.now (seen texts each.value.iterator) (seen texts each.value.state) (block_seen each.value.body.now) each.value.line

abbrev pub ending_seen : Texts → Ending → SFrame
ending_seen texts (ending.BlockEnd depth) = point.BlockEnd depth
ending_seen texts ending.BodyEnd = point.BodyEnd
ending_seen texts ending.LibraryEnd = point.LibraryEnd
ending_seen texts (ending.WhileEnd depth test b) = point.WhileEnd depth (expression_seen test.now) (block_seen b.now)
ending_seen texts (ending.TestNext test depth b) = point.TestNext (expression_seen test.now) depth (block_seen b.now)
ending_seen texts (ending.TestNow test depth b) = point.TestNow (expression_seen test.now) depth (block_seen b.now)
ending_seen texts (ending.CountEnd depth boxed index limit step b) = point.CountEnd depth boxed index limit step (block_seen b.now)
ending_seen texts (ending.EachEnd depth each before) = point.EachEnd depth each.value.flags.now (seen texts each.value.iterator) (seen texts each.value.state) (seen texts before) (block_seen each.value.body.now) each.value.line

abbrev pub in_run_seen : Texts → InRun → SFrame
in_run_seen texts (in_run.ModuleFound name f) = point.ModuleFound name (seen texts f)
in_run_seen texts (in_run.FunctionFound name f) = point.FunctionFound name (seen texts f)
in_run_seen texts in_run.AnswerNow = point.AnswerNow
in_run_seen texts (in_run.TextNow values before) = point.TextNow (values_seen texts values) (joined_seen texts before)
in_run_seen texts in_run.DataNow = point.DataNow

abbrev pub frame_seen : Texts → Frame → SFrame
frame_seen texts (frame.Expression f) = in_expression_seen texts f
frame_seen texts (frame.Constructor f) = in_constructor_seen texts f
frame_seen texts (frame.Assignment f) = in_assignment_seen texts f
frame_seen texts (frame.Statement f) = in_statement_seen texts f
frame_seen texts (frame.Loop f) = in_loop_seen texts f
frame_seen texts (frame.End f) = ending_seen texts f
frame_seen texts (frame.Waits what line) = point.Waits (pending_seen texts what) line
frame_seen texts (frame.Hears what line) = point.Hears (asked_seen texts what) line
frame_seen texts (frame.Run f) = in_run_seen texts f

abbrev pub frames_seen : Texts → List Frame → List SFrame
frames_seen texts frames = map (frame_seen texts) frames

-- THINGS
abbrev pub thing_seen : StoreView → Thing → SThing
thing_seen s (thing.WhileTurn test b) = point.WhileTurnS (expression_seen test.now) (block_seen b.now)
thing_seen s (thing.RepeatTurn b test) = point.RepeatTurnS (block_seen b.now) (expression_seen test.now)
thing_seen s (thing.CountTurn boxed index limit step b) = point.CountTurnS boxed index limit step (block_seen b.now)
thing_seen s (thing.EachTurn each results) = point.EachTurnS each.value.flags.now (seen s.texts each.value.iterator) (seen s.texts each.value.state) (given_seen s.texts results) (block_seen each.value.body.now) each.value.line
thing_seen s (thing.Body f args line) = point.BodyS (callee_seen s f) (values_seen s.texts args) line
thing_seen s (thing.Library which args line) = point.LibraryS which (values_seen s.texts args) line
thing_seen s (thing.IndexLink object h key line) = point.IndexLinkS (seen s.texts object) (seen s.texts h) (seen s.texts key) line
thing_seen s (thing.SetLink object h key value line) = point.SetLinkS (seen s.texts object) (seen s.texts h) (seen s.texts key) (seen s.texts value) line
thing_seen s (thing.CallLink h args line) = point.CallLinkS (seen s.texts h) (values_seen s.texts args) line

-- WHAT IS NEXT, above these frames
abbrev pub jump_seen : Texts → Jump → act.Jump
jump_seen texts (jump.Returned g) = act.Returned (given_seen texts g)
jump_seen texts jump.Broke = act.Broke
jump_seen texts (jump.Raised v) = act.Raised (seen texts v)

abbrev pub work_seen : Work → start.Work
work_seen (work.Invoke job) = start.Invoke job
work_seen (work.Data title) = start.DataOf title

abbrev pub focus_seen : StoreView → Focus → List SFrame → Point
focus_seen s (focus.Gives g) fs = point.Gives (Goes (given_seen s.texts g)) fs
focus_seen s (focus.Jumps j) fs = point.Gives (Jumps (jump_seen s.texts j)) fs
focus_seen s (focus.Evaluates e) fs = point.Evals (expression_seen e.now) fs
focus_seen s (focus.Lists es before) fs = point.Lists (expressions_seen es.now) (values_seen s.texts before) fs
focus_seen s (focus.Finds targets before values) fs = point.Finds (map target_seen targets.now) (map (found_seen s.texts) before) (expressions_seen values.now) fs
focus_seen s (focus.Sets pairs) fs = point.Sets (settings_seen s.texts pairs) fs
focus_seen s (focus.Runs b) fs = point.Runs (block_seen b.now) fs
focus_seen s (focus.Starts t) fs = point.Starts (thing_seen s t) fs
focus_seen s (focus.Texts values before) fs = point.Texts (values_seen s.texts values) (joined_seen s.texts before) fs
focus_seen s (focus.Asks q) fs = point.Asking q.value fs
focus_seen s (focus.Works w) fs = point.Works (work_seen w.value)
