-- The facts of a tree under one rule of the grammar alone: whoever spells a tree free of one fault says only so much of it.
-- Parts are in pairs, as the proofs of spelling give them.
use Rattle.std.proofs.Common.{◌≡◌, ℕ, true}
use Rattle.lua_grammar.specs.declared.Context.{Context}
use Rattle.lua_grammar.specs.Grammar.{AreVars, IsCall, IsLast, IsEmpty, under, in_loop, in_function}
use Rattle.lua_grammar.specs.Facts.{IsShallow, IsNumeral, HasExp, HasName, HasArm}
use Rattle.lua_lexer.specs.LuaSyntaxTree.{Exp, Exps, Fields, Fun, Block, Arms, Stat, NilE, TrueE, FalseE, NumberE, TextE, DotsE, FunctionE, NameE, IndexE, CallE, MethodE, TableE, BinaryE, UnaryE, ParenE, NoExp, MoreExp, NoField, Item, Pair, Lambda, NoStat, MoreStat, NoArm, Arm, AssignS, CallS, DoS, WhileS, RepeatS, IfS, IfElseS, CountS, CountByS, EachS, LocalFunctionS, LocalS, ReturnS, BreakS}

module _ (rule : ℕ) where
  abbrev pub Shallow : Context → Type 0
  Shallow w = rule ≡ 7 → IsShallow w

  unfoldable mutual
    pub RuledExp : Context → Exp → Type 0
    RuledExp w (NilE line) = Shallow w
    RuledExp w (TrueE line) = Shallow w
    RuledExp w (FalseE line) = Shallow w
    RuledExp w (NumberE line n) = Shallow w × (rule ≡ 6 → IsNumeral n)
    RuledExp w (TextE line bytes) = Shallow w
    RuledExp w (DotsE line) = Shallow w × (rule ≡ 10 → w.vararg ≡ true)
    RuledExp w (FunctionE line f) = Shallow w × RuledFun (under w) f
    RuledExp w (NameE line n) = Shallow w
    RuledExp w (IndexE line t k) = Shallow w × (RuledExp (under w) t × RuledExp (under w) k)
    RuledExp w (CallE line f es) = Shallow w × (RuledExp (under w) f × RuledExps (under w) es)
    RuledExp w (MethodE line o n es) = Shallow w × (RuledExp (under w) o × RuledExps (under w) es)
    RuledExp w (TableE line fs) = Shallow w × RuledFields (under w) fs
    RuledExp w (BinaryE line op a b) = Shallow w × (RuledExp (under w) a × RuledExp (under w) b)
    RuledExp w (UnaryE line op e) = Shallow w × RuledExp (under w) e
    RuledExp w (ParenE line e) = Shallow w × RuledExp (under w) e

    pub RuledExps : Context → Exps → Type 0
    RuledExps w NoExp = Unit {0}
    RuledExps w (MoreExp e es) = RuledExp w e × RuledExps w es

    pub RuledFields : Context → Fields → Type 0
    RuledFields w NoField = Unit {0}
    RuledFields w (Item e fs) = RuledExp w e × RuledFields w fs
    RuledFields w (Pair k e fs) = RuledExp w k × (RuledExp w e × RuledFields w fs)

    pub RuledFun : Context → Fun → Type 0
    RuledFun w (Lambda ps dots b) = RuledBlock (in_function dots w) b

    pub RuledBlock : Context → Block → Type 0
    RuledBlock w NoStat = Unit {0}
    RuledBlock w (MoreStat s b) = RuledStat w s × ((IsLast s → IsEmpty b) × RuledBlock w b)

    pub RuledArms : Context → Arms → Type 0
    RuledArms w NoArm = Unit {0}
    RuledArms w (Arm e b arms) = RuledExp w e × (RuledBlock w b × RuledArms w arms)

    pub RuledStat : Context → Stat → Type 0
    RuledStat w (AssignS line ts es) = Shallow w × (AreVars ts × ((HasExp ts × RuledExps (under w) ts) × (HasExp es × RuledExps (under w) es)))
    RuledStat w (CallS line e) = Shallow w × (IsCall e × RuledExp (under w) e)
    RuledStat w (DoS line b) = Shallow w × RuledBlock (under w) b
    RuledStat w (WhileS line e b) = Shallow w × (RuledExp (under w) e × RuledBlock (in_loop w) b)
    RuledStat w (RepeatS line b e) = Shallow w × (RuledBlock (in_loop w) b × RuledExp (under w) e)
    RuledStat w (IfS line arms) = Shallow w × (HasArm arms × RuledArms (under w) arms)
    RuledStat w (IfElseS line arms b) = Shallow w × ((HasArm arms × RuledArms (under w) arms) × RuledBlock (under w) b)
    RuledStat w (CountS line n from to b) = Shallow w × (RuledExp (under w) from × (RuledExp (under w) to × RuledBlock (in_loop w) b))
    RuledStat w (CountByS line n from to by b) = Shallow w × (RuledExp (under w) from × (RuledExp (under w) to × (RuledExp (under w) by × RuledBlock (in_loop w) b)))
    RuledStat w (EachS line ns es b) = Shallow w × (HasName ns × ((HasExp es × RuledExps (under w) es) × RuledBlock (in_loop w) b))
    RuledStat w (LocalFunctionS line n f) = Shallow w × RuledFun (under w) f
    RuledStat w (LocalS line ns es) = Shallow w × (HasName ns × RuledExps (under w) es)
    RuledStat w (ReturnS line es) = Shallow w × RuledExps (under w) es
    RuledStat w (BreakS line) = Shallow w × (rule ≡ 8 → w.inside_loop ≡ true)
