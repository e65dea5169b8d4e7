-- What is of a store is of each later one, and is seen there as it was.
use Rattle.std.proofs.Common.{◌≡◌, ◌∙◌, ℕ, List, [], ◌∷◌, map, Option, Some, None, refl, ap, arith}
use Rattle.std.specs.List.{AllByRecursion}
use Rattle.lua_store.specs.declared.value.Value.{Value}
use Rattle.lua_store.specs.declared.ids.TextId.{TextId}
use Rattle.lua_store.specs.declared.ids.ClosureId.{ClosureId}
use Rattle.lua_store.specs.Seen.{StoreView, text_at, seen}
use Rattle.lua_store.specs.Parts.{IsOf, IsTextOf, IsLater}
use Rattle.lua_store.proofs.Later.{of-later, seen-later}
use Rattle.lua_store.proofs.Lists.{all-to, map-alike}
use Rattle.lua_code.specs.LuaSlotsPoints.{SFrame}
use Rattle.lua_code.specs.LuaSlotsSlots as slots
use Rattle.lua_code.specs.LuaMeaningPending as waiting
use Rattle.lua_replacing.proofs.Stays.{replacing_later, replacing_stays}
use Rattle.lua_stack.specs.declared.frame.Found.{Found}
use Rattle.lua_stack.specs.declared.frame.Found.TheVariants as found
use Rattle.lua_stack.specs.declared.frame.Setting.{Setting}
use Rattle.lua_stack.specs.declared.frame.Pending.{Pending}
use Rattle.lua_stack.specs.declared.frame.Pending.TheVariants as pending
use Rattle.lua_stack.specs.declared.frame.Asked.{Asked}
use Rattle.lua_stack.specs.declared.frame.Asked.TheVariants as asked
use Rattle.lua_stack.specs.declared.frame.EachLoop.{EachLoop}
use Rattle.lua_stack.specs.declared.frame.Thing.{Thing}
use Rattle.lua_stack.specs.declared.frame.Thing.TheVariants as thing
use Rattle.lua_stack.specs.declared.frame.InExpression.{InExpression}
use Rattle.lua_stack.specs.declared.frame.InExpression.TheVariants as in_expression
use Rattle.lua_stack.specs.declared.frame.InConstructor.{InConstructor}
use Rattle.lua_stack.specs.declared.frame.InConstructor.TheVariants as in_constructor
use Rattle.lua_stack.specs.declared.frame.InAssignment.{InAssignment}
use Rattle.lua_stack.specs.declared.frame.InAssignment.TheVariants as in_assignment
use Rattle.lua_stack.specs.declared.frame.InStatement.{InStatement}
use Rattle.lua_stack.specs.declared.frame.InLoop.{InLoop}
use Rattle.lua_stack.specs.declared.frame.InLoop.TheVariants as in_loop
use Rattle.lua_stack.specs.declared.frame.Ending.{Ending}
use Rattle.lua_stack.specs.declared.frame.Ending.TheVariants as ending
use Rattle.lua_stack.specs.declared.frame.InRun.{InRun}
use Rattle.lua_stack.specs.declared.frame.InRun.TheVariants as in_run
use Rattle.lua_stack.specs.declared.frame.Frame.{Frame}
use Rattle.lua_stack.specs.declared.frame.Frame.TheVariants as frame
use Rattle.lua_stack.specs.declared.focus.Jump.{Jump}
use Rattle.lua_stack.specs.declared.focus.Jump.TheVariants as jump
use Rattle.lua_stack.specs.declared.focus.Focus.{Focus}
use Rattle.lua_stack.specs.declared.focus.Focus.TheVariants as focus
use Rattle.lua_stack.specs.declared.register.Slot.{Slot}
use Rattle.lua_stack.specs.declared.register.Slot.TheVariants as slot
use Rattle.lua_stack.specs.declared.activation.Callee.{Callee}
use Rattle.lua_stack.specs.declared.activation.Activation.{Activation}
use Rattle.lua_stack.specs.declared.environment.Environment.{Environment}
use Rattle.lua_stack.specs.Lists.{given_values}
use Rattle.lua_stack.specs.Seen.{values_seen, joined_seen, slot_seen, registers_seen, captured_by, closed_cells, callee_seen, activation_seen, activations_seen, found_seen, setting_seen, pending_seen, asked_seen, in_expression_seen, in_constructor_seen, in_assignment_seen, in_statement_seen, in_loop_seen, ending_seen, in_run_seen, frame_seen, frames_seen, thing_seen, jump_seen, focus_seen}
use Rattle.lua_stack.specs.Of.{ValuesOf, TextsOf, SlotOf, RegistersOf, MayBeClosureOf, CalleeOf, ActivationOf, ActivationsOf, FoundOf, SettingOf, PendingOf, AskedOf, InExpressionOf, InConstructorOf, InAssignmentOf, InStatementOf, EachOf, InLoopOf, EndingOf, InRunOf, FrameOf, FramesOf, ThingOf, JumpOf, FocusOf, IsNameOf, EnvironmentOf}

module _ (s t : StoreView) (l : IsLater s t) where
  -- VALUES
  value_later : (v : Value) → IsOf s v → IsOf t v
  value_later v h = of-later s t l v h

  value_stays : (v : Value) → IsOf s v → seen t.texts v ≡ seen s.texts v
  value_stays v h = seen-later s t l v h

  text_later : (id : TextId) → IsTextOf s id → IsTextOf t id
  text_later id h = omega (arith, h, l.texts.length_)

  text_stays : (id : TextId) → IsTextOf s id → text_at t.texts id.at ≡ text_at s.texts id.at
  text_stays id h = l.texts.same id.at h

  pub values_later : (vs : List Value) → ValuesOf s vs → ValuesOf t vs
  values_later vs h = all-to (IsOf s) (IsOf t) value_later vs h

  pub values_stay : (vs : List Value) → ValuesOf s vs → values_seen t.texts vs ≡ values_seen s.texts vs
  values_stay vs h = map-alike (IsOf s) (seen t.texts) (seen s.texts) value_stays vs h

  texts_later : (ids : List TextId) → TextsOf s ids → TextsOf t ids
  texts_later ids h = all-to (IsTextOf s) (IsTextOf t) text_later ids h

  texts_stay : (ids : List TextId) → TextsOf s ids → joined_seen t.texts ids ≡ joined_seen s.texts ids
  texts_stay [] h = refl
  texts_stay (id ∷ ids) h = rw (text_stays id h.0, texts_stay ids h.1) refl

  -- REGISTERS
  slot_later : (r : Slot) → SlotOf s r → SlotOf t r
  slot_later (slot.Plain v) h = value_later v h
  slot_later (slot.Boxed c) h = omega (arith, h, l.cells)

  slot_stays : (r : Slot) → SlotOf s r → slot_seen t.texts r ≡ slot_seen s.texts r
  slot_stays (slot.Plain v) h = ap slots.Plain (value_stays v h)
  slot_stays (slot.Boxed c) h = refl

  pub registers_later : (regs : List Slot) → RegistersOf s regs → RegistersOf t regs
  registers_later regs h = all-to (SlotOf s) (SlotOf t) slot_later regs h

  pub registers_as : (regs : List Slot) → RegistersOf s regs → registers_seen t.texts regs ≡ registers_seen s.texts regs
  registers_as regs h = map-alike (SlotOf s) (slot_seen t.texts) (slot_seen s.texts) slot_stays regs h

  -- FUNCTIONS
  closure_later : (c : Option ClosureId) → MayBeClosureOf s c → MayBeClosureOf t c
  closure_later None h = tt
  closure_later (Some id) h = omega (arith, h, l.closures)

  pub captured_stay : (c : Option ClosureId) → MayBeClosureOf s c → captured_by t.heap c ≡ captured_by s.heap c
  captured_stay None h = refl
  captured_stay (Some id) h = ap closed_cells (l.closures_same id.at h)

  callee_later : (f : Callee) → CalleeOf s f → CalleeOf t f
  callee_later f h = record { source = text_later f.source h.source; closure = closure_later f.closure h.closure }

  callee_stays : (f : Callee) → CalleeOf s f → callee_seen t f ≡ callee_seen s f
  callee_stays f h = rw (text_stays f.source h.source, captured_stay f.closure h.closure) refl

  activation_later : (a : Activation) → ActivationOf s a → ActivationOf t a
  activation_later a h = record { source = text_later a.source h.source; closure = closure_later a.closure h.closure; dots = values_later a.dots h.dots }

  activation_stays : (a : Activation) → ActivationOf s a → activation_seen t a ≡ activation_seen s a
  activation_stays a h = rw (text_stays a.source h.source, captured_stay a.closure h.closure, values_stay a.dots h.dots) refl

  pub activations_later : (fs : List Activation) → ActivationsOf s fs → ActivationsOf t fs
  activations_later fs h = all-to (ActivationOf s) (ActivationOf t) activation_later fs h

  pub activations_as : (fs : List Activation) → ActivationsOf s fs → activations_seen t fs ≡ activations_seen s fs
  activations_as fs h = map-alike (ActivationOf s) (activation_seen t) (activation_seen s) activation_stays fs h

  -- TARGETS
  found_later : (p : Found) → FoundOf s p → FoundOf t p
  found_later (found.Variable p) h = tt
  found_later (found.Global name line) h = text_later name h
  found_later (found.At of key line) h = (value_later of h.0, value_later key h.1)

  found_stays : (p : Found) → FoundOf s p → found_seen t.texts p ≡ found_seen s.texts p
  found_stays (found.Variable p) h = refl
  found_stays (found.Global name line) h = rw (text_stays name h) refl
  found_stays (found.At of key line) h = rw (value_stays of h.0, value_stays key h.1) refl

  pub founds_later : (ps : List Found) → AllByRecursion (FoundOf s) ps → AllByRecursion (FoundOf t) ps
  founds_later ps h = all-to (FoundOf s) (FoundOf t) found_later ps h

  pub founds_stay : (ps : List Found) → AllByRecursion (FoundOf s) ps → map (found_seen t.texts) ps ≡ map (found_seen s.texts) ps
  founds_stay ps h = map-alike (FoundOf s) (found_seen t.texts) (found_seen s.texts) found_stays ps h

  setting_later : (p : Setting) → SettingOf s p → SettingOf t p
  setting_later p h = (found_later p.target h.0, value_later p.value h.1)

  setting_stays : (p : Setting) → SettingOf s p → setting_seen t.texts p ≡ setting_seen s.texts p
  setting_stays p h = rw (found_stays p.target h.0, value_stays p.value h.1) refl

  settings_later : (ps : List Setting) → AllByRecursion (SettingOf s) ps → AllByRecursion (SettingOf t) ps
  settings_later ps h = all-to (SettingOf s) (SettingOf t) setting_later ps h

  settings_stay : (ps : List Setting) → AllByRecursion (SettingOf s) ps → map (setting_seen t.texts) ps ≡ map (setting_seen s.texts) ps
  settings_stay ps h = map-alike (SettingOf s) (setting_seen t.texts) (setting_seen s.texts) setting_stays ps h

  -- FRAMES
  pending_later : (p : Pending) → PendingOf s p → PendingOf t p
  pending_later (pending.Xpcall h) o = value_later h o
  pending_later (pending.Gsub w) o = replacing_later s t l w.value o
  pending_later p o = tt

  pending_stays : (p : Pending) → PendingOf s p → pending_seen t.texts p ≡ pending_seen s.texts p
  pending_stays (pending.Xpcall h) o = rw (value_stays h o) refl
  pending_stays (pending.Gsub w) o = ap waiting.GsubWaits (replacing_stays s t l w.value o)
  pending_stays p o = refl

  asked_later : (a : Asked) → AskedOf s a → AskedOf t a
  asked_later (asked.Template text) h = text_later text h
  asked_later asked.Text h = tt
  asked_later (asked.Data text title) h = text_later text h

  asked_stays : (a : Asked) → AskedOf s a → asked_seen t.texts a ≡ asked_seen s.texts a
  asked_stays (asked.Template text) h = rw (text_stays text h) refl
  asked_stays asked.Text h = refl
  asked_stays (asked.Data text title) h = rw (text_stays text h) refl

  in_expression_later : (f : InExpression) → InExpressionOf s f → InExpressionOf t f
  in_expression_later (in_expression.IndexNow of line) h = value_later of h
  in_expression_later (in_expression.OperateNow op a line) h = value_later a h
  in_expression_later (in_expression.CallNow f line) h = value_later f h
  in_expression_later (in_expression.MethodNext name args line) h = text_later name h
  in_expression_later (in_expression.MethodNow object args line) h = value_later object h
  in_expression_later (in_expression.MoreNext es before) h = values_later before h
  in_expression_later f h = tt

  in_constructor_later : (f : InConstructor) → InConstructorOf s f → InConstructorOf t f
  in_constructor_later (in_constructor.ItemNow t n es line) h = omega (arith, h, l.tables)
  in_constructor_later (in_constructor.PairNext t n e es line) h = omega (arith, h, l.tables)
  in_constructor_later (in_constructor.PairNow t n key es line) h = (omega (arith, h.0, l.tables), value_later key h.1)
  in_constructor_later (in_constructor.FieldsNext t n es line) h = omega (arith, h, l.tables)
  in_constructor_later (in_constructor.ItemsNext t n left line) h = (omega (arith, h.0, l.tables), values_later left h.1)

  in_assignment_later : (f : InAssignment) → InAssignmentOf s f → InAssignmentOf t f
  in_assignment_later (in_assignment.TargetKey key line finding) h = founds_later finding.value.before h
  in_assignment_later (in_assignment.TargetNow of line finding) h = (value_later of h.0, founds_later finding.value.before h.1)
  in_assignment_later (in_assignment.AssignNow targets) h = founds_later targets h
  in_assignment_later (in_assignment.SetsNext pairs) h = settings_later pairs h

  in_statement_later : (f : InStatement) → InStatementOf s f → InStatementOf t f
  in_statement_later f h = tt

  each_later : (each : EachLoop) → EachOf s each → EachOf t each
  each_later each h = (value_later each.iterator h.0, value_later each.state h.1)

  in_loop_later : (f : InLoop) → InLoopOf s f → InLoopOf t f
  in_loop_later (in_loop.CountTo boxed from by b line) h = value_later from h
  in_loop_later (in_loop.CountBy boxed from to b line) h = (value_later from h.0, value_later to h.1)
  in_loop_later (in_loop.EachNext each) h = each_later each.value h
  in_loop_later f h = tt

  ending_later : (f : Ending) → EndingOf s f → EndingOf t f
  ending_later (ending.EachEnd depth each before) h = (each_later each.value h.0, value_later before h.1)
  ending_later f h = tt

  in_run_later : (f : InRun) → InRunOf s f → InRunOf t f
  in_run_later (in_run.ModuleFound name f) h = value_later f h
  in_run_later (in_run.FunctionFound name f) h = value_later f h
  in_run_later (in_run.TextNow values before) h = (values_later values h.0, texts_later before h.1)
  in_run_later f h = tt

  frame_later : (f : Frame) → FrameOf s f → FrameOf t f
  frame_later (frame.Expression f) h = in_expression_later f h
  frame_later (frame.Constructor f) h = in_constructor_later f h
  frame_later (frame.Assignment f) h = in_assignment_later f h
  frame_later (frame.Statement f) h = in_statement_later f h
  frame_later (frame.Loop f) h = in_loop_later f h
  frame_later (frame.End f) h = ending_later f h
  frame_later (frame.Waits what line) h = pending_later what h
  frame_later (frame.Hears what line) h = asked_later what h
  frame_later (frame.Run f) h = in_run_later f h

  in_expression_stays : (f : InExpression) → InExpressionOf s f → in_expression_seen t.texts f ≡ in_expression_seen s.texts f
  in_expression_stays (in_expression.IndexNow of line) h = rw (value_stays of h) refl
  in_expression_stays (in_expression.OperateNow op a line) h = rw (value_stays a h) refl
  in_expression_stays (in_expression.CallNow f line) h = rw (value_stays f h) refl
  in_expression_stays (in_expression.MethodNext name args line) h = rw (text_stays name h) refl
  in_expression_stays (in_expression.MethodNow object args line) h = rw (value_stays object h) refl
  in_expression_stays (in_expression.MoreNext es before) h = rw (values_stay before h) refl
  in_expression_stays f h = refl

  in_constructor_stays : (f : InConstructor) → InConstructorOf s f → in_constructor_seen t.texts f ≡ in_constructor_seen s.texts f
  in_constructor_stays (in_constructor.PairNow t n key es line) h = rw (value_stays key h.1) refl
  in_constructor_stays (in_constructor.ItemsNext t n left line) h = rw (values_stay left h.1) refl
  in_constructor_stays f h = refl

  in_assignment_stays : (f : InAssignment) → InAssignmentOf s f → in_assignment_seen t.texts f ≡ in_assignment_seen s.texts f
  in_assignment_stays (in_assignment.TargetKey key line finding) h = rw (founds_stay finding.value.before h) refl
  in_assignment_stays (in_assignment.TargetNow of line finding) h = rw (value_stays of h.0, founds_stay finding.value.before h.1) refl
  in_assignment_stays (in_assignment.AssignNow targets) h = rw (founds_stay targets h) refl
  in_assignment_stays (in_assignment.SetsNext pairs) h = rw (settings_stay pairs h) refl

  in_statement_stays : (f : InStatement) → InStatementOf s f → in_statement_seen t.texts f ≡ in_statement_seen s.texts f
  in_statement_stays f h = refl

  in_loop_stays : (f : InLoop) → InLoopOf s f → in_loop_seen t.texts f ≡ in_loop_seen s.texts f
  in_loop_stays (in_loop.CountTo boxed from by b line) h = rw (value_stays from h) refl
  in_loop_stays (in_loop.CountBy boxed from to b line) h = rw (value_stays from h.0, value_stays to h.1) refl
  in_loop_stays (in_loop.EachNext each) h = rw (value_stays each.value.iterator h.0, value_stays each.value.state h.1) refl
  in_loop_stays f h = refl

  ending_stays : (f : Ending) → EndingOf s f → ending_seen t.texts f ≡ ending_seen s.texts f
  ending_stays (ending.EachEnd depth each before) h = rw (value_stays each.value.iterator h.0.0, value_stays each.value.state h.0.1, value_stays before h.1) refl
  ending_stays f h = refl

  in_run_stays : (f : InRun) → InRunOf s f → in_run_seen t.texts f ≡ in_run_seen s.texts f
  in_run_stays (in_run.ModuleFound name f) h = rw (value_stays f h) refl
  in_run_stays (in_run.FunctionFound name f) h = rw (value_stays f h) refl
  in_run_stays (in_run.TextNow values before) h = rw (values_stay values h.0, texts_stay before h.1) refl
  in_run_stays f h = refl

  frame_stays : (f : Frame) → FrameOf s f → frame_seen t.texts f ≡ frame_seen s.texts f
  frame_stays (frame.Expression f) h = in_expression_stays f h
  frame_stays (frame.Constructor f) h = in_constructor_stays f h
  frame_stays (frame.Assignment f) h = in_assignment_stays f h
  frame_stays (frame.Statement f) h = in_statement_stays f h
  frame_stays (frame.Loop f) h = in_loop_stays f h
  frame_stays (frame.End f) h = ending_stays f h
  frame_stays (frame.Waits what line) h = rw (pending_stays what h) refl
  frame_stays (frame.Hears what line) h = rw (asked_stays what h) refl
  frame_stays (frame.Run f) h = in_run_stays f h

  pub frames_later : (fs : List Frame) → FramesOf s fs → FramesOf t fs
  frames_later fs h = all-to (FrameOf s) (FrameOf t) frame_later fs h

  pub frames_as : (fs : List Frame) → FramesOf s fs → frames_seen t.texts fs ≡ frames_seen s.texts fs
  frames_as fs h = map-alike (FrameOf s) (frame_seen t.texts) (frame_seen s.texts) frame_stays fs h

  -- WHAT IS NEXT
  thing_later : (x : Thing) → ThingOf s x → ThingOf t x
  thing_later (thing.EachTurn each results) h = (each_later each.value h.0, values_later (given_values results) h.1)
  thing_later (thing.Body f args line) h = (callee_later f h.0, values_later args h.1)
  thing_later (thing.Library which args line) h = values_later args h
  thing_later (thing.IndexLink object f key line) h = (value_later object h.0, value_later f h.1, value_later key h.2)
  thing_later (thing.SetLink object f key value line) h = (value_later object h.0, value_later f h.1, value_later key h.2, value_later value h.3)
  thing_later (thing.CallLink f args line) h = (value_later f h.0, values_later args h.1)
  thing_later x h = tt

  thing_stays : (x : Thing) → ThingOf s x → thing_seen t x ≡ thing_seen s x
  thing_stays (thing.EachTurn each results) h = rw (value_stays each.value.iterator h.0.0, value_stays each.value.state h.0.1, values_stay (given_values results) h.1) refl
  thing_stays (thing.Body f args line) h = rw (callee_stays f h.0, values_stay args h.1) refl
  thing_stays (thing.Library which args line) h = rw (values_stay args h) refl
  thing_stays (thing.IndexLink object f key line) h = rw (value_stays object h.0, value_stays f h.1, value_stays key h.2) refl
  thing_stays (thing.SetLink object f key value line) h = rw (value_stays object h.0, value_stays f h.1, value_stays key h.2, value_stays value h.3) refl
  thing_stays (thing.CallLink f args line) h = rw (value_stays f h.0, values_stay args h.1) refl
  thing_stays x h = refl

  jump_later : (j : Jump) → JumpOf s j → JumpOf t j
  jump_later (jump.Returned g) h = values_later (given_values g) h
  jump_later jump.Broke h = tt
  jump_later (jump.Raised v) h = value_later v h

  jump_stays : (j : Jump) → JumpOf s j → jump_seen t.texts j ≡ jump_seen s.texts j
  jump_stays (jump.Returned g) h = rw (values_stay (given_values g) h) refl
  jump_stays jump.Broke h = refl
  jump_stays (jump.Raised v) h = rw (value_stays v h) refl

  pub focus_later : (f : Focus) → FocusOf s f → FocusOf t f
  focus_later (focus.Gives g) h = values_later (given_values g) h
  focus_later (focus.Jumps j) h = jump_later j h
  focus_later (focus.Lists es before) h = values_later before h
  focus_later (focus.Finds targets before values) h = founds_later before h
  focus_later (focus.Sets pairs) h = settings_later pairs h
  focus_later (focus.Starts x) h = thing_later x h
  focus_later (focus.Texts values before) h = (values_later values h.0, texts_later before h.1)
  focus_later (focus.Works work) h = h
  focus_later f h = tt

  pub focus_as : (f : Focus) (fs : List SFrame) → FocusOf s f → focus_seen t f fs ≡ focus_seen s f fs
  focus_as (focus.Gives g) fs h = rw (values_stay (given_values g) h) refl
  focus_as (focus.Jumps j) fs h = rw (jump_stays j h) refl
  focus_as (focus.Lists es before) fs h = rw (values_stay before h) refl
  focus_as (focus.Finds targets before values) fs h = rw (founds_stay before h) refl
  focus_as (focus.Sets pairs) fs h = rw (settings_stay pairs h) refl
  focus_as (focus.Starts x) fs h = rw (thing_stays x h) refl
  focus_as (focus.Texts values before) fs h = rw (values_stay values h.0, texts_stay before h.1) refl
  focus_as f fs h = refl

  -- THE ENVIRONMENT
  name_later : (id : TextId) (name : List ℕ) → IsNameOf s id name → IsNameOf t id name
  name_later id name h = (text_later id h.0, text_stays id h.0 ∙ h.1)

  pub environment_later : (e : Environment) → EnvironmentOf s e → EnvironmentOf t e
  environment_later e h = record {
    globals = omega (arith, h.globals, l.tables);
    strings = omega (arith, h.strings, l.tables);
    index = name_later e.index _ h.index;
    set_index = name_later e.set_index _ h.set_index;
    call = name_later e.call _ h.call;
    add = name_later e.add _ h.add;
    subtract = name_later e.subtract _ h.subtract;
    multiply = name_later e.multiply _ h.multiply;
    divide = name_later e.divide _ h.divide;
    modulo = name_later e.modulo _ h.modulo;
    power = name_later e.power _ h.power;
    negate = name_later e.negate _ h.negate;
    concatenate = name_later e.concatenate _ h.concatenate;
    equal = name_later e.equal _ h.equal;
    less = name_later e.less _ h.less;
    at_most = name_later e.at_most _ h.at_most;
    to_string = name_later e.to_string _ h.to_string;
    pairs = name_later e.pairs _ h.pairs;
    ipairs = name_later e.ipairs _ h.ipairs;
  }
