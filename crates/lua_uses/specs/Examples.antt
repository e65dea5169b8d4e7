-- WORKED EXAMPLES: modules, and the globals that the first of them uses.
use Rattle.std.specs.Prelude.{◌≡◌, false, ℕ, List, [], ◌∷◌, pos, codes}
use Rattle.lua_syntax.specs.declared.BinaryOp.TheVariants.{Add}
use Rattle.wk_base.specs.declared.title.Namespace.TheVariants.{Module}
use Rattle.lua_syntax.specs.Tree.{Exp, Exps, Block, Stat, NumberE, TextE, TrueE, FunctionE, NameE, IndexE, CallE, TableE, BinaryE, ParenE, NoExp, MoreExp, NoField, Item, Pair, Lambda, NoStat, MoreStat, AssignS, CallS, DoS, RepeatS, CountS, EachS, LocalFunctionS, LocalS, ReturnS}
use Rattle.lua_uses.specs.Modules.{Named, Names, CannotTell, uses}

abbrev pub one : Exp → Exps
one e = MoreExp e NoExp

abbrev pub two : Exp → Exp → Exps
two a b = MoreExp a (one b)

-- all on line 1
abbrev pub name : List ℕ → Exp
name x = NameE 1 x

abbrev pub call : List ℕ → Exps → Exp
call f args = CallE 1 (name f) args

abbrev pub field : Exp → List ℕ → Exp
field of x = IndexE 1 of (TextE 1 x)

abbrev pub statements : List Stat → Block
statements [] = NoStat
statements (s ∷ more) = MoreStat s (statements more)

abbrev pub module_ : List ℕ → List Stat → Named
module_ title body = record { title = record { ns = Module; name = title }; chunk = statements body }

-- local p={} function p.f(frame) n=tostring(frame.args[1]) return string.len(n) end return p
abbrev pub counting : Named
counting = module_ (codes "N")
    (LocalS 1 (codes "p" ∷ []) (one (TableE 1 NoField))
    ∷ AssignS 1 (one (field (name (codes "p")) (codes "f"))) (one (FunctionE 1 (Lambda (codes "frame" ∷ []) false (statements
    (AssignS 1 (one (name (codes "n"))) (one (call (codes "tostring") (one (IndexE 1 (field (name (codes "frame")) (codes "args")) (NumberE 1 (pos 1))))))
    ∷ ReturnS 1 (one (CallE 1 (field (name (codes "string")) (codes "len")) (one (name (codes "n"))))) ∷ [])))))
    ∷ ReturnS 1 (one (name (codes "p"))) ∷ [])

-- local g=_G return {}
abbrev pub all_globals : Named
all_globals = module_ (codes "V")
    (LocalS 1 (codes "g" ∷ []) (one (name (codes "_G"))) ∷ ReturnS 1 (one (TableE 1 NoField)) ∷ [])

-- return {add=function(f) return f.args[1] + n end}
abbrev pub sum : Named
sum = module_ (codes "Sum")
    (ReturnS 1 (one (TableE 1 (Pair (TextE 1 (codes "add")) (FunctionE 1 (Lambda (codes "f" ∷ []) false (statements
    (ReturnS 1 (one (BinaryE 1 Add (IndexE 1 (field (name (codes "f")) (codes "args")) (NumberE 1 (pos 1))) (name (codes "n")))) ∷ [])))) NoField)))
    ∷ [])

-- local s=require('Module:Sum') require('strict') return {f=function() return s.add({args={k,1}}) end}
abbrev pub sharing : Named
sharing = module_ (codes "Uses")
    (LocalS 1 (codes "s" ∷ []) (one (call (codes "require") (one (TextE 1 (codes "Module:Sum")))))
    ∷ CallS 1 (call (codes "require") (one (TextE 1 (codes "strict"))))
    ∷ ReturnS 1 (one (TableE 1 (Pair (TextE 1 (codes "f")) (FunctionE 1 (Lambda [] false (statements
    (ReturnS 1 (one (CallE 1 (field (name (codes "s")) (codes "add")) (one (TableE 1 (Pair (TextE 1 (codes "args")) (TableE 1 (Item (name (codes "k")) (Item (NumberE 1 (pos 1)) NoField))) NoField))))) ∷ [])))) NoField)))
    ∷ [])

-- local r = require
abbrev pub handing : Named
handing = module_ (codes "R") (LocalS 1 (codes "r" ∷ []) (one (name (codes "require"))) ∷ [])

-- require('Module:R') a()
abbrev pub reaching : Named
reaching = module_ (codes "Q") (CallS 1 (call (codes "require") (one (TextE 1 (codes "Module:R")))) ∷ CallS 1 (call (codes "a") NoExp) ∷ [])

-- (require)('x'), and require('x', y): no call of `require` with one text alone
abbrev pub in_parentheses : Named
in_parentheses = module_ (codes "A") (CallS 2 (CallE 2 (ParenE 2 (NameE 2 (codes "require"))) (one (TextE 2 (codes "x")))) ∷ [])

abbrev pub of_two : Named
of_two = module_ (codes "B") (CallS 3 (CallE 3 (NameE 3 (codes "require")) (two (TextE 3 (codes "x")) (name (codes "y")))) ∷ [])

-- SCOPES: what a name stands for at each place
-- local a = a; local function f(b) return a, b, f, c end; repeat local d = d until d; for i = 1, i do i = e end; for k in k do k() end; do local z = 1 end; z()
abbrev pub scopes : Named
scopes = module_ (codes "S")
    (LocalS 1 (codes "a" ∷ []) (one (name (codes "a")))
    ∷ LocalFunctionS 1 (codes "f") (Lambda (codes "b" ∷ []) false (statements (ReturnS 1 (MoreExp (name (codes "a")) (MoreExp (name (codes "b")) (two (name (codes "f")) (name (codes "c"))))) ∷ [])))
    ∷ RepeatS 1 (statements (LocalS 1 (codes "d" ∷ []) (one (name (codes "d"))) ∷ [])) (name (codes "d"))
    ∷ CountS 1 (codes "i") (NumberE 1 (pos 1)) (name (codes "i")) (statements (AssignS 1 (one (name (codes "i"))) (one (name (codes "e"))) ∷ []))
    ∷ EachS 1 (codes "k" ∷ []) (one (name (codes "k"))) (statements (CallS 1 (call (codes "k") NoExp) ∷ []))
    ∷ DoS 1 (statements (LocalS 1 (codes "z" ∷ []) (one (NumberE 1 (pos 1))) ∷ []))
    ∷ CallS 1 (call (codes "z") NoExp) ∷ [])

-- modules that require one another: require('Module:Y') u = 1; and require('Module:X') v = 1
abbrev pub circle_x : Named
circle_x = module_ (codes "X") (CallS 1 (call (codes "require") (one (TextE 1 (codes "Module:Y")))) ∷ AssignS 1 (one (name (codes "u"))) (one (TrueE 1)) ∷ [])

abbrev pub circle_y : Named
circle_y = module_ (codes "Y") (CallS 1 (call (codes "require") (one (TextE 1 (codes "Module:X")))) ∷ AssignS 1 (one (name (codes "v"))) (one (TrueE 1)) ∷ [])

-- THE ROWS HOLD
pub record RowsHold : Type 0 where
  pub counting_row : uses (counting ∷ []) 0 ≡ Names (codes "n" ∷ codes "string" ∷ codes "tostring" ∷ [])
  pub all_row : uses (all_globals ∷ []) 0 ≡ CannotTell (record { place = 0; line = 1 })
  pub sharing_row : uses (sum ∷ sharing ∷ []) 1 ≡ Names (codes "k" ∷ codes "n" ∷ codes "require" ∷ [])
  pub alone_row : uses (sharing ∷ []) 0 ≡ Names (codes "k" ∷ codes "require" ∷ [])
  pub hidden_row : uses (handing ∷ reaching ∷ []) 1 ≡ CannotTell (record { place = 0; line = 1 })
  pub unreached_row : uses (reaching ∷ []) 0 ≡ Names (codes "a" ∷ codes "require" ∷ [])
  pub parentheses_row : uses (in_parentheses ∷ []) 0 ≡ CannotTell (record { place = 0; line = 2 })
  pub two_row : uses (of_two ∷ []) 0 ≡ CannotTell (record { place = 0; line = 3 })
  pub scopes_row : uses (scopes ∷ []) 0 ≡ Names (codes "a" ∷ codes "c" ∷ codes "d" ∷ codes "e" ∷ codes "i" ∷ codes "k" ∷ codes "z" ∷ [])
  pub circle_row : uses (circle_x ∷ circle_y ∷ []) 0 ≡ Names (codes "require" ∷ codes "u" ∷ codes "v" ∷ [])
