-- What a task holds is of the store whatever run is at work there.
use Rattle.std.proofs.Common.{ℕ, Option, Some, None}
use Rattle.std.specs.Prelude.{IfSome}
use Rattle.lua_code.specs.declared.proto.Protos.{Protos}
use Rattle.lua_code.specs.LuaMeaningWorld.{Modules}
use Rattle.lua_code.specs.LuaSlotsCode.{CWorld}
use Rattle.page_ground.specs.LuaStoreDeclaredIdsTextId.{TextId}
use Rattle.lua_machine.specs.LuaStoreSeen.{StoreView}
use Rattle.page_ground.proofs.LuaStoreLists.{all-to}
use Rattle.page_ground.specs.LuaStackDeclaredActivationCallee.{Callee}
use Rattle.page_ground.specs.LuaStackDeclaredActivationActivation.{Activation}
use Rattle.page_ground.specs.LuaStackDeclaredEnvironmentEnvironment.{Environment}
use Rattle.page_ground.specs.LuaStackDeclaredFrameThing.{Thing}
use Rattle.page_ground.specs.LuaStackDeclaredFrameThingTheVariants as thing
use Rattle.lua_machine.specs.LuaStackDeclaredFocusFocus.{Focus}
use Rattle.lua_machine.specs.LuaStackDeclaredFocusFocusTheVariants as focus
use Rattle.lua_machine.specs.LuaStackOf.{CalleeOf, ActivationOf, ThingOf, FocusOf, EnvironmentOf}
use Rattle.page_ground.specs.LuaStateDeclaredCodesCodes.{Codes}
use Rattle.page_ground.specs.LuaStateDeclaredCodesRecent.{Recent}
use Rattle.page_ground.specs.LuaStateDeclaredHeldHeld.{Held}
use Rattle.lua_machine.specs.LuaStateDeclaredStateState.{State}
use Rattle.lua_machine.specs.LuaStateOf.{StateOf}
use Rattle.lua_machine.specs.LuaStateWorlds.{world_seen, IsFound, IsRecent, IsHeld, CodesOf}
use Rattle.page_ground.specs.MwFramesDeclaredScenesSceneFrame.{SceneFrame}
use Rattle.page_ground.specs.MwFramesDeclaredScenesScenes.{Scenes}
use Rattle.page_ground.specs.MwFramesScenes.{made, FrameOf, ScenesOf}
use Rattle.lua_machine.specs.declared.machine.Machine.{Machine}
use Rattle.lua_machine.specs.Events.{MachineOf}
use Rattle.page_ground.specs.PagePointsPlaces.{Place}
use Rattle.page_tasks.specs.declared.task.Task.{Task}
use Rattle.page_tasks.specs.declared.task.Task.TheVariants as task
use Rattle.page_ground.specs.Ground.{Ground}
use Rattle.page_tasks.specs.Tasks.{TaskIn, Waits, MachineWaits}

module _ (s : StoreView) (n : ℕ) where
  abbrev t : StoreView
  t = record s { env = n }

  callee_of : (f : Callee) → CalleeOf s f → CalleeOf t f
  callee_of f h = record { source = h.source; closure = h.closure }

  activation_of : (a : Activation) → ActivationOf s a → ActivationOf t a
  activation_of a h = record { source = h.source; closure = h.closure; dots = h.dots }

  thing_of : (x : Thing) → ThingOf s x → ThingOf t x
  thing_of (thing.Body f args line) h = (callee_of f h.0, h.1)
  thing_of x h = h

  focus_of : (f : Focus) → FocusOf s f → FocusOf t f
  focus_of (focus.Starts x) h = thing_of x h
  focus_of f h = h

  environment_of : (e : Environment) → EnvironmentOf s e → EnvironmentOf t e
  environment_of e h = record {
    globals = h.globals;
    strings = h.strings;
    index = h.index;
    set_index = h.set_index;
    call = h.call;
    add = h.add;
    subtract = h.subtract;
    multiply = h.multiply;
    divide = h.divide;
    modulo = h.modulo;
    power = h.power;
    negate = h.negate;
    concatenate = h.concatenate;
    equal = h.equal;
    less = h.less;
    at_most = h.at_most;
    to_string = h.to_string;
    pairs = h.pairs;
    ipairs = h.ipairs;
  }

  scene_of : (f : SceneFrame) → FrameOf s f → FrameOf t f
  scene_of f h = record { table = h.table; names = h.names; parent = h.parent }

  scenes_of : (x : Scenes) → ScenesOf s x → ScenesOf t x
  scenes_of x h = record {
    frames = all-to (FrameOf s) (FrameOf t) scene_of (made x) h.frames;
    names = record { args = h.names.args; title = h.names.title; name = h.names.name; text = h.names.text; content = h.names.content; attrs = h.names.attrs };
  }

  found_of : (w : CWorld) (source : TextId) (functions : Protos) → IsFound w s source functions → IsFound w t source functions
  found_of w source functions h = record { of = h.of; code = h.code }

  recent_of : (w : CWorld) (recent : Option Recent) → IsRecent w s recent → IsRecent w t recent
  recent_of w None h = tt
  recent_of w (Some r) h = found_of w r.source r.code.functions.now h

  held_of : (w : CWorld) (place : Option Held) → IfSome place (IsHeld w s) → IfSome place (IsHeld w t)
  held_of w None h = tt
  held_of w (Some one) h = record { of = h.of; text_of = h.text_of; same = h.same }

  codes_of : (c : Codes) → CodesOf s c → CodesOf t c
  codes_of c h = record {
    all = all-to (λ e. IsFound (world_seen c.world) s e.0 e.1.functions.now) (λ e. IsFound (world_seen c.world) t e.0 e.1.functions.now) (λ e k. found_of (world_seen c.world) e.0 e.1.functions.now k) c.known.entries h.all;
    recent = recent_of (world_seen c.world) c.recent h.recent;
    held = all-to (λ place. IfSome place (IsHeld (world_seen c.world) s)) (λ place. IfSome place (IsHeld (world_seen c.world) t)) (held_of (world_seen c.world)) c.held.items h.held;
  }

  state_of : (m : State) → StateOf s m → StateOf t m
  state_of m h = record {
    frames = h.frames;
    regs = h.regs;
    functions = all-to (ActivationOf s) (ActivationOf t) activation_of m.functions h.functions;
    env = environment_of m.env h.env;
    modules = h.modules;
    loaded = h.loaded;
    scenes = scenes_of m.scenes h.scenes;
    codes = codes_of m.codes h.codes;
  }

  machine_of : (m : Machine) → MachineOf s m → MachineOf t m
  machine_of m h = record { state = state_of m.state h.state; next = focus_of m.next h.next }

  pub task_renumbered : (x : Task) → TaskIn s x → TaskIn t x
  task_renumbered (task.Expansion e) h = tt
  task_renumbered (task.Invocation m) h = machine_of m h
  task_renumbered (task.Load b m) h = (machine_of m h.0, h.1)

  module _ (g : Ground) (modules : Modules) where
    machine_waits : (m : Machine) (p : Place) → MachineWaits g modules s m p → MachineWaits g modules t m p
    machine_waits m p w = record { question = w.question; left = w.left; stood = w.stood }

    pub waits_renumbered : (x : Task) (p : Place) → Waits g modules s x p → Waits g modules t x p
    waits_renumbered (task.Expansion e) p w = record { task = w.task; waits = w.waits }
    waits_renumbered (task.Invocation m) p w = record { task = w.task; waits = machine_waits m p w.waits }
    waits_renumbered (task.Load b m) p w = record { task = w.task; waits = machine_waits m p w.waits }
