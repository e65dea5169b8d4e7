-- CODE OF MODULES THAT CALL, and what comes of it: the same as of their trees, to the step.
use Rattle.std.specs.Prelude.{◌≡◌, pos, true, false, [], ◌∷◌, codes}
use Rattle.lua_meaning.specs.LuaSyntaxDeclaredUnaryOpTheVariants as sign
use Rattle.lua_meaning.specs.LuaHeapValue.{Number, Text}
use Rattle.lua_meaning.specs.Operators.{Add, Equal, Concatenate, Calculate}
use Rattle.lua_meaning.specs.Questions.{Loaded, LoadFailed}
use Rattle.lua_meaning.specs.Trial.{invoke_module, module_text, reply, invoke_in_template}
use Rattle.lua_slots.specs.Code.{Reg, Box, Up, ConstantC, TextC, DotsC, FunctionC, LocalC, GlobalC, IndexC, CallC, TableC, OperateC, UnaryC}
use Rattle.lua_slots.specs.Code.{NoC, MoreC, NoFieldC, PairC, PlaceC, EntryC}
use Rattle.lua_slots.specs.Code.{AssignC, CallStatC, ReturnC, EndC, DeclareC, LocalFunctionC, ThenC, CProto, Protos}
use Rattle.lua_slots.specs.IsCode.{IsProtos}
use Rattle.lua_slots.specs.Trial.{code_with}
use Rattle.lua_slots.specs.Trial as run
use Rattle.lua_meaning.specs.ExampleFunctions.{protected, arithmetic_handlers, error_handlers, new_index, call_handlers}
use Rattle.lua_meaning.specs.ExampleModules.{load_fails}

-- `pcall` gives false and the error, or true and the values.
--     return {f=function(...)
--     return tostring(pcall(error,'m')), select(2,pcall(error,'m')), pcall(function(...) return ... end,1,2)
--     end}
abbrev pub protected_0 : CProto
protected_0 = record {
  flags = [];
  dots = false;
  body =
      (ThenC (ReturnC (MoreC (TableC (PairC (TextC 0) (FunctionC 1 []) NoFieldC) 1) NoC)) EndC);
}

abbrev pub protected_1 : CProto
protected_1 = record {
  flags = [];
  dots = true;
  body =
      (ThenC (ReturnC (MoreC (CallC (GlobalC 1 2) (MoreC (CallC (GlobalC 2 2) (MoreC (GlobalC 3 2) (MoreC (TextC 4) NoC)) 2) NoC) 2) (MoreC (CallC
      (GlobalC 5 2) (MoreC (ConstantC (Number (pos 2))) (MoreC (CallC (GlobalC 2 2) (MoreC (GlobalC 3 2) (MoreC (TextC 4) NoC)) 2) NoC)) 2) (MoreC
      (CallC (GlobalC 2 2) (MoreC (FunctionC 2 []) (MoreC (ConstantC (Number (pos 1))) (MoreC (ConstantC (Number (pos 2))) NoC))) 2) NoC))))
      EndC);
}

abbrev pub protected_2 : CProto
protected_2 = record {
  flags = [];
  dots = true;
  body =
      (ThenC (ReturnC (MoreC DotsC NoC)) EndC);
}

abbrev pub protected_code : Protos
protected_code =
    code_with
    (codes "f" ∷ codes "tostring" ∷ codes "pcall" ∷ codes "error" ∷ codes "m" ∷ codes "select" ∷ [])
    (protected_0 ∷ protected_1 ∷ protected_2 ∷ [])

abbrev pub ProtectedIsCode : Type 0
ProtectedIsCode = IsProtos protected_code protected

abbrev pub ProtectedAlike : Type 0
ProtectedAlike = run.invoke_module (codes "X") 131 protected_code 6000 ≡ invoke_module (codes "X") 131 protected 6000

-- The first operand's handler, or else the second's.
--     return {f=function(...)
--     local m={__add=function(a,b) return 'add' end,__concat=function(a,b) return type(a)..type(b) end,__unm=function(a,b) return tostring(a==b) end}
--     local t=setmetatable({},m)
--     return t+1,1+t,t..'x','x'..t,-t
--     end}
abbrev pub arithmetic_handlers_0 : CProto
arithmetic_handlers_0 = record {
  flags = [];
  dots = false;
  body =
      (ThenC (ReturnC (MoreC (TableC (PairC (TextC 0) (FunctionC 1 []) NoFieldC) 1) NoC)) EndC);
}

abbrev pub arithmetic_handlers_1 : CProto
arithmetic_handlers_1 = record {
  flags = [];
  dots = true;
  body =
      (DeclareC (false ∷ []) (MoreC (TableC (PairC (TextC 1) (FunctionC 2 []) (PairC (TextC 2) (FunctionC 3 []) (PairC (TextC 3) (FunctionC 4 [])
      NoFieldC))) 2) NoC)
      (DeclareC (false ∷ []) (MoreC (CallC (GlobalC 4 3) (MoreC (TableC NoFieldC 3) (MoreC (LocalC (Reg 0)) NoC)) 3) NoC)
      (ThenC (ReturnC (MoreC (OperateC (Calculate Add) (LocalC (Reg 0)) (ConstantC (Number (pos 1))) 4) (MoreC (OperateC (Calculate Add)
      (ConstantC (Number (pos 1))) (LocalC (Reg 0)) 4) (MoreC (OperateC Concatenate (LocalC (Reg 0)) (TextC 5) 4) (MoreC (OperateC Concatenate
      (TextC 5) (LocalC (Reg 0)) 4) (MoreC (UnaryC sign.Minus (LocalC (Reg 0)) 4) NoC)))))) EndC)));
}

abbrev pub arithmetic_handlers_2 : CProto
arithmetic_handlers_2 = record {
  flags = (false ∷ false ∷ []);
  dots = false;
  body =
      (ThenC (ReturnC (MoreC (TextC 6) NoC)) EndC);
}

abbrev pub arithmetic_handlers_3 : CProto
arithmetic_handlers_3 = record {
  flags = (false ∷ false ∷ []);
  dots = false;
  body =
      (ThenC (ReturnC (MoreC (OperateC Concatenate (CallC (GlobalC 7 2) (MoreC (LocalC (Reg 1)) NoC) 2) (CallC (GlobalC 7 2) (MoreC (LocalC (Reg
      0)) NoC) 2) 2) NoC)) EndC);
}

abbrev pub arithmetic_handlers_4 : CProto
arithmetic_handlers_4 = record {
  flags = (false ∷ false ∷ []);
  dots = false;
  body =
      (ThenC (ReturnC (MoreC (CallC (GlobalC 8 2) (MoreC (OperateC Equal (LocalC (Reg 1)) (LocalC (Reg 0)) 2) NoC) 2) NoC)) EndC);
}

abbrev pub arithmetic_handlers_code : Protos
arithmetic_handlers_code =
    code_with
    (codes "f" ∷ codes "__add" ∷ codes "__concat" ∷ codes "__unm" ∷ codes "setmetatable" ∷ codes "x" ∷ codes "add" ∷ codes "type" ∷ codes "tostring" ∷ [])
    (arithmetic_handlers_0 ∷ arithmetic_handlers_1 ∷ arithmetic_handlers_2 ∷ arithmetic_handlers_3 ∷ arithmetic_handlers_4 ∷ [])

abbrev pub ArithmeticHandlersIsCode : Type 0
ArithmeticHandlersIsCode = IsProtos arithmetic_handlers_code arithmetic_handlers

abbrev pub ArithmeticHandlersAlike : Type 0
ArithmeticHandlersAlike = run.invoke_module (codes "X") 231 arithmetic_handlers_code 6000 ≡ invoke_module (codes "X") 231 arithmetic_handlers 6000

-- `xpcall` gives the error to its handler.
--     return {f=function(...)
--     local function h(m) return 'h('..m..')' end
--     local ok,v = xpcall(function() error('x',0) end,h)
--     local ok2,v2 = xpcall(function() return 5 end,h)
--     return tostring(ok),v,tostring(ok2),v2
--     end}
abbrev pub error_handlers_0 : CProto
error_handlers_0 = record {
  flags = [];
  dots = false;
  body =
      (ThenC (ReturnC (MoreC (TableC (PairC (TextC 0) (FunctionC 1 []) NoFieldC) 1) NoC)) EndC);
}

abbrev pub error_handlers_1 : CProto
error_handlers_1 = record {
  flags = [];
  dots = true;
  body =
      (LocalFunctionC false 2 []
      (DeclareC (false ∷ false ∷ []) (MoreC (CallC (GlobalC 1 3) (MoreC (FunctionC 3 []) (MoreC (LocalC (Reg 0)) NoC)) 3) NoC)
      (DeclareC (false ∷ false ∷ []) (MoreC (CallC (GlobalC 1 4) (MoreC (FunctionC 4 []) (MoreC (LocalC (Reg 2)) NoC)) 4) NoC)
      (ThenC (ReturnC (MoreC (CallC (GlobalC 2 5) (MoreC (LocalC (Reg 3)) NoC) 5) (MoreC (LocalC (Reg 2)) (MoreC (CallC (GlobalC 2 5) (MoreC
      (LocalC (Reg 1)) NoC) 5) (MoreC (LocalC (Reg 0)) NoC))))) EndC))));
}

abbrev pub error_handlers_2 : CProto
error_handlers_2 = record {
  flags = (false ∷ []);
  dots = false;
  body =
      (ThenC (ReturnC (MoreC (OperateC Concatenate (TextC 3) (OperateC Concatenate (LocalC (Reg 0)) (TextC 4) 2) 2) NoC)) EndC);
}

abbrev pub error_handlers_3 : CProto
error_handlers_3 = record {
  flags = [];
  dots = false;
  body =
      (ThenC (CallStatC (CallC (GlobalC 5 3) (MoreC (TextC 6) (MoreC (ConstantC (Number (pos 0))) NoC)) 3)) EndC);
}

abbrev pub error_handlers_4 : CProto
error_handlers_4 = record {
  flags = [];
  dots = false;
  body =
      (ThenC (ReturnC (MoreC (ConstantC (Number (pos 5))) NoC)) EndC);
}

abbrev pub error_handlers_code : Protos
error_handlers_code =
    code_with
    (codes "f" ∷ codes "xpcall" ∷ codes "tostring" ∷ codes "h(" ∷ codes ")" ∷ codes "error" ∷ codes "x" ∷ [])
    (error_handlers_0 ∷ error_handlers_1 ∷ error_handlers_2 ∷ error_handlers_3 ∷ error_handlers_4 ∷ [])

abbrev pub ErrorHandlersIsCode : Type 0
ErrorHandlersIsCode = IsProtos error_handlers_code error_handlers

abbrev pub ErrorHandlersAlike : Type 0
ErrorHandlersAlike = run.invoke_module (codes "X") 211 error_handlers_code 6000 ≡ invoke_module (codes "X") 211 error_handlers 6000

-- An assignment to an absent key asks `__newindex`.
--     return {f=function(...)
--     local log=''
--     local store={}
--     local a=setmetatable({old=1},{__newindex=function(t,k,v) log=log..k rawset(t,k,v) end})
--     local b=setmetatable({},{__newindex=store})
--     a.old=2 a.new=3 a.new=4 b.k=5
--     return log,a.old,a.new,tostring(rawget(b,'k')),store.k
--     end}
abbrev pub new_index_0 : CProto
new_index_0 = record {
  flags = [];
  dots = false;
  body =
      (ThenC (ReturnC (MoreC (TableC (PairC (TextC 0) (FunctionC 1 []) NoFieldC) 1) NoC)) EndC);
}

abbrev pub new_index_1 : CProto
new_index_1 = record {
  flags = [];
  dots = true;
  body =
      (DeclareC (true ∷ []) (MoreC (TextC 1) NoC)
      (DeclareC (false ∷ []) (MoreC (TableC NoFieldC 3) NoC)
      (DeclareC (false ∷ []) (MoreC (CallC (GlobalC 2 4) (MoreC (TableC (PairC (TextC 3) (ConstantC (Number (pos 1))) NoFieldC) 4) (MoreC (TableC
      (PairC (TextC 4) (FunctionC 2 ((Box 1) ∷ [])) NoFieldC) 4) NoC)) 4) NoC)
      (DeclareC (false ∷ []) (MoreC (CallC (GlobalC 2 5) (MoreC (TableC NoFieldC 5) (MoreC (TableC (PairC (TextC 4) (LocalC (Reg 1)) NoFieldC) 5)
      NoC)) 5) NoC)
      (ThenC (AssignC (EntryC (LocalC (Reg 1)) (TextC 3) 6 ∷ []) (MoreC (ConstantC (Number (pos 2))) NoC))
      (ThenC (AssignC (EntryC (LocalC (Reg 1)) (TextC 5) 6 ∷ []) (MoreC (ConstantC (Number (pos 3))) NoC))
      (ThenC (AssignC (EntryC (LocalC (Reg 1)) (TextC 5) 6 ∷ []) (MoreC (ConstantC (Number (pos 4))) NoC))
      (ThenC (AssignC (EntryC (LocalC (Reg 0)) (TextC 6) 6 ∷ []) (MoreC (ConstantC (Number (pos 5))) NoC))
      (ThenC (ReturnC (MoreC (LocalC (Box 3)) (MoreC (IndexC (LocalC (Reg 1)) (TextC 3) 7) (MoreC (IndexC (LocalC (Reg 1)) (TextC 5) 7) (MoreC
      (CallC (GlobalC 7 7) (MoreC (CallC (GlobalC 8 7) (MoreC (LocalC (Reg 0)) (MoreC (TextC 6) NoC)) 7) NoC) 7) (MoreC (IndexC (LocalC (Reg 2))
      (TextC 6) 7) NoC)))))) EndC)))))))));
}

abbrev pub new_index_2 : CProto
new_index_2 = record {
  flags = (false ∷ false ∷ false ∷ []);
  dots = false;
  body =
      (ThenC (AssignC (PlaceC (Up 0) ∷ []) (MoreC (OperateC Concatenate (LocalC (Up 0)) (LocalC (Reg 1)) 4) NoC))
      (ThenC (CallStatC (CallC (GlobalC 9 4) (MoreC (LocalC (Reg 2)) (MoreC (LocalC (Reg 1)) (MoreC (LocalC (Reg 0)) NoC))) 4)) EndC));
}

abbrev pub new_index_code : Protos
new_index_code =
    code_with
    (codes "f" ∷ [] ∷ codes "setmetatable" ∷ codes "old" ∷ codes "__newindex" ∷ codes "new" ∷ codes "k" ∷ codes "tostring" ∷ codes "rawget" ∷ codes "rawset" ∷ [])
    (new_index_0 ∷ new_index_1 ∷ new_index_2 ∷ [])

abbrev pub NewIndexIsCode : Type 0
NewIndexIsCode = IsProtos new_index_code new_index

abbrev pub NewIndexAlike : Type 0
NewIndexAlike = run.invoke_module (codes "X") 273 new_index_code 6000 ≡ invoke_module (codes "X") 273 new_index 6000

-- A table with `__call` is called with itself first.
--     return {f=function(...)
--     local t=setmetatable({n=2},{__call=function(self,a,b) return self.n+a+b end})
--     return t(3,4),pcall(t,1,1)
--     end}
abbrev pub call_handlers_0 : CProto
call_handlers_0 = record {
  flags = [];
  dots = false;
  body =
      (ThenC (ReturnC (MoreC (TableC (PairC (TextC 0) (FunctionC 1 []) NoFieldC) 1) NoC)) EndC);
}

abbrev pub call_handlers_1 : CProto
call_handlers_1 = record {
  flags = [];
  dots = true;
  body =
      (DeclareC (false ∷ []) (MoreC (CallC (GlobalC 1 2) (MoreC (TableC (PairC (TextC 2) (ConstantC (Number (pos 2))) NoFieldC) 2) (MoreC (TableC
      (PairC (TextC 3) (FunctionC 2 []) NoFieldC) 2) NoC)) 2) NoC)
      (ThenC (ReturnC (MoreC (CallC (LocalC (Reg 0)) (MoreC (ConstantC (Number (pos 3))) (MoreC (ConstantC (Number (pos 4))) NoC)) 3) (MoreC
      (CallC (GlobalC 4 3) (MoreC (LocalC (Reg 0)) (MoreC (ConstantC (Number (pos 1))) (MoreC (ConstantC (Number (pos 1))) NoC))) 3) NoC)))
      EndC));
}

abbrev pub call_handlers_2 : CProto
call_handlers_2 = record {
  flags = (false ∷ false ∷ false ∷ []);
  dots = false;
  body =
      (ThenC (ReturnC (MoreC (OperateC (Calculate Add) (OperateC (Calculate Add) (IndexC (LocalC (Reg 2)) (TextC 2) 2) (LocalC (Reg 1)) 2) (LocalC
      (Reg 0)) 2) NoC)) EndC);
}

abbrev pub call_handlers_code : Protos
call_handlers_code =
    code_with
    (codes "f" ∷ codes "setmetatable" ∷ codes "n" ∷ codes "__call" ∷ codes "pcall" ∷ [])
    (call_handlers_0 ∷ call_handlers_1 ∷ call_handlers_2 ∷ [])

abbrev pub CallHandlersIsCode : Type 0
CallHandlersIsCode = IsProtos call_handlers_code call_handlers

abbrev pub CallHandlersAlike : Type 0
CallHandlersAlike = run.invoke_module (codes "X") 133 call_handlers_code 6000 ≡ invoke_module (codes "X") 133 call_handlers 6000

-- The message of a load that failed is raised as it is, and the next load is a first one.
--     return {f=function(frame)
--     local ok,e=pcall(mw.loadData,'Module:D')
--     local ok2,e2=pcall(mw.loadData,'Module:D')
--     return e,tostring(ok2),e2.x
--     end}
abbrev pub load_fails_0 : CProto
load_fails_0 = record {
  flags = [];
  dots = false;
  body =
      (ThenC (ReturnC (MoreC (TableC (PairC (TextC 0) (FunctionC 1 []) NoFieldC) 1) NoC)) EndC);
}

abbrev pub load_fails_1 : CProto
load_fails_1 = record {
  flags = (false ∷ []);
  dots = false;
  body =
      (DeclareC (false ∷ false ∷ []) (MoreC (CallC (GlobalC 1 2) (MoreC (IndexC (GlobalC 2 2) (TextC 3) 2) (MoreC (TextC 4) NoC)) 2) NoC)
      (DeclareC (false ∷ false ∷ []) (MoreC (CallC (GlobalC 1 3) (MoreC (IndexC (GlobalC 2 3) (TextC 3) 3) (MoreC (TextC 4) NoC)) 3) NoC)
      (ThenC (ReturnC (MoreC (LocalC (Reg 2)) (MoreC (CallC (GlobalC 5 4) (MoreC (LocalC (Reg 1)) NoC) 4) (MoreC (IndexC (LocalC (Reg 0)) (TextC
      6) 4) NoC)))) EndC)));
}

abbrev pub load_fails_code : Protos
load_fails_code =
    code_with
    (codes "f" ∷ codes "pcall" ∷ codes "mw" ∷ codes "loadData" ∷ codes "Module:D" ∷ codes "tostring" ∷ codes "x" ∷ [])
    (load_fails_0 ∷ load_fails_1 ∷ [])

abbrev pub LoadFailsIsCode : Type 0
LoadFailsIsCode = IsProtos load_fails_code load_fails

abbrev pub LoadFailsAlike : Type 0
LoadFailsAlike = run.invoke_in_template (run.module_text (codes "X") 142 load_fails_code ∷ []) [] (codes "X") 6000 (reply (LoadFailed (codes
    "data module holds a function")) 3000 ∷ reply (Loaded (((Text (codes "x"), Text (codes "v")) ∷ []) ∷ [])) 2000 ∷ []) ≡ invoke_in_template (module_text (codes
    "X") 142 load_fails ∷ []) [] (codes "X") 6000 (reply (LoadFailed (codes "data module holds a function")) 3000 ∷ reply (Loaded (((
      Text (codes
          "x"),
      Text (codes "v"),
    ) ∷ []) ∷ [])) 2000 ∷ [])

-- all of these
abbrev pub AllCalls : Type 0
AllCalls = ProtectedIsCode × ProtectedAlike × ArithmeticHandlersIsCode × ArithmeticHandlersAlike × ErrorHandlersIsCode × ErrorHandlersAlike × NewIndexIsCode × NewIndexAlike × CallHandlersIsCode × CallHandlersAlike × LoadFailsIsCode × LoadFailsAlike
