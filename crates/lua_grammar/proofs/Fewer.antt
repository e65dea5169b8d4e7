-- What stands where some tokens are given stands where fewer of them are: part by part, then production by production, as the
-- grammar goes.
use Rattle.std.proofs.Common.{◌≡◌, ℕ, ◌<◌, ◌≤◌, inl, inr, Bool, true, false, List, [], ◌∷◌, cond, refl, ◌∙◌, arith}
use Rattle.std.specs.Prelude.{ℤ, nat_lt}
use Rattle.std.proofs.lemmas.Bool.{ltb-true, ltb-false}
use Rattle.lua_grammar.specs.declared.Context.{Context}
use Rattle.lua_grammar.specs.declared.TokenClass.{TokenClass}
use Rattle.lua_grammar.specs.declared.TokenClass.TheVariants.{Name, Text, Eof, Break, Do, Else, Elseif, End, False, For, Function, If, In, Local, Nil, Repeat, Return, Then, True, Until, While, Assign, LeftParen, RightParen, LeftBrace, RightBrace, LeftBracket, RightBracket, Semicolon, Colon, Comma, Dot, Dots}
use Rattle.lua_grammar.specs.Grammar.{GivenTokens, Span, ◌⨟◌, ◌∣◌, none, where', word, text, node, valued, word_if, opens, ends, separator, under, before, in_loop, in_function, MoreNames, Names, Params, SpellsDot, SpellsName, SpellsPath, IsPath, IsMethodPath, mark_of, sign_of, left_level, right_level, Spells, SpellsArgs, SpellsAll, MoreExps, SpellsFields, SpellsFun, SpellsMethod, SpellsNamed, SpellsBlock, SpellsArms, MoreArms, SpellsStat, SpellsChunk, outside}
use Rattle.lua_lexer.specs.LuaSyntaxTree.{Exp, Exps, Fields, Fun, Block, Arms, Stat, NilE, TrueE, FalseE, NumberE, TextE, DotsE, FunctionE, NameE, IndexE, CallE, MethodE, TableE, BinaryE, UnaryE, ParenE, NoExp, MoreExp, NoField, Item, Pair, Lambda, NoStat, MoreStat, NoArm, Arm, AssignS, CallS, DoS, WhileS, RepeatS, IfS, IfElseS, CountS, CountByS, EachS, LocalFunctionS, LocalS, ReturnS, BreakS}

-- The first n tokens alone are given.
abbrev pub first : ℕ → GivenTokens → GivenTokens
first n g = record { tokens = g.tokens; given = n; free_of = g.free_of }

-- One place in place of another, with no more nodes above it.
pub record NoDeeper (w v : Context) : Type 0 where
  pub depth : w.above ≤ v.above
  pub loops : w.inside_loop ≡ v.inside_loop
  pub dots : w.vararg ≡ v.vararg

below : {w v : Context} → NoDeeper w v → NoDeeper (under w) (under v)
below d = record { depth = omega (arith, d.depth); loops = d.loops; dots = d.dots }

looping : {w v : Context} → NoDeeper w v → NoDeeper (in_loop w) (in_loop v)
looping d = record { depth = omega (arith, d.depth); loops = refl; dots = d.dots }

inner : {w v : Context} (dots : Bool) → NoDeeper w v → NoDeeper (in_function dots w) (in_function dots v)
inner dots d = record { depth = d.depth; loops = refl; dots = refl }

-- Wherever one thing stands, another does.
abbrev pub Carries : Span → Span → Type 0
Carries A B = (i j : ℕ) → A i j → B i j

nothing : Carries none none
nothing i j e = e

holding : {P : Type 0} → Carries (where' P) (where' P)
holding i j d = d

-- two things behind one another
infixr 4 ◌⟫◌
◌⟫◌ : {A B C D : Span} → Carries A C → Carries B D → Carries (A ⨟ B) (C ⨟ D)
(a ⟫ b) i j (m, x, y) = (m, a i m x, b m j y)

-- one of two things
either : {A B C D : Span} → Carries A C → Carries B D → Carries (A ∣ B) (C ∣ D)
either a b i j (inl x) = inl (a i j x)
either a b i j (inr y) = inr (b i j y)

module _ (g : GivenTokens) (n : ℕ) (le : n ≤ g.given) where
  -- ---- tokens

  still : (i : ℕ) → i < n → i < g.given
  still i lt = omega (arith, le, lt)

  word-kept : (s : TokenClass) → Carries (word g s) (word (first n g) s)
  word-kept s i j (is, e) = ((λ lt. is (still i lt)), e)

  text-kept : (s : TokenClass) (bytes : List ℕ) → Carries (text g s bytes) (text (first n g) s bytes)
  text-kept s bytes i j (is, e) = ((λ lt. is (still i lt)), e)

  value-kept : (v : ℤ) → Carries (valued g v) (valued (first n g) v)
  value-kept v i j (is, free, e) = ((λ lt. is (still i lt)), (λ rule lt. free rule (still i lt)), e)

  word_if-kept : (s : TokenClass) (k : ℕ) (P Q : Type 0) → (P → Q) → Carries (word_if g s k P) (word_if (first n g) s k Q)
  word_if-kept s k P Q f i j (is, free, e) = ((λ lt. is (still i lt)), (λ rule lt. f (free rule (still i lt))), e)

  opening-kept : Carries (opens g) (opens (first n g))
  opening-kept i j (is, free, e) = ((λ lt. is (still i lt)), (λ rule lt. free rule (still i lt)), e)

  end-kept : (l : ℕ) → Carries (ends g l) (ends (first n g) l)
  end-kept l i j (is, e) = ((λ low lt. is low (still i lt)), e)

  separator-kept : Carries (separator g) (separator (first n g))
  separator-kept i j (is, e) = ((λ lt. is (still i lt)), e)

  -- ---- nodes

  node-kept : {w v : Context} → NoDeeper w v → (line : ℕ) → Carries (node g v line) (node (first n g) w line)
  node-kept d line i j (e, low, here) = (e, (λ rule lt. omega (arith, d.depth, low rule (still i lt))), here)

  -- A node that comes into being behind a tree counts for it, or no longer does.
  left_of : {w v : Context} (m : ℕ) → NoDeeper w v → NoDeeper (before (first n g) m w) (before g m v)
  left_of {w} {v} m d = go (nat_lt m n) (nat_lt m g.given) refl refl
    where
      go : (a b : Bool) → nat_lt m n ≡ a → nat_lt m g.given ≡ b → NoDeeper (cond a (under w) w) (cond b (under v) v)
      go true true e f = below d
      go true false e f = absurd (omega (arith, le, ltb-true m n e, ltb-false m g.given f))
      go false true e f = record { depth = omega (arith, d.depth); loops = d.loops; dots = d.dots }
      go false false e f = d

  -- ---- names

  more_names : (ns : List (List ℕ)) → Carries (MoreNames g ns) (MoreNames (first n g) ns)
  more_names [] = nothing
  more_names (x ∷ ns) = word-kept Comma ⟫ text-kept Name x ⟫ more_names ns

  names : (ns : List (List ℕ)) → Carries (Names g ns) (Names (first n g) ns)
  names [] = holding
  names (x ∷ ns) = text-kept Name x ⟫ more_names ns

  params : (ns : List (List ℕ)) (dots : Bool) → Carries (Params g ns dots) (Params (first n g) ns dots)
  params [] false = nothing
  params [] true = word-kept Dots
  params (x ∷ ns) false = names (x ∷ ns)
  params (x ∷ ns) true = names (x ∷ ns) ⟫ word-kept Comma ⟫ word-kept Dots

  -- ---- keys and paths

  dot_key : (k : Exp) {w v : Context} → NoDeeper w v → Carries (SpellsDot g v k) (SpellsDot (first n g) w k)
  dot_key (TextE line x) d = word-kept Dot ⟫ node-kept d line ⟫ text-kept Name x
  dot_key k d = holding

  name_key : (k : Exp) {w v : Context} → NoDeeper w v → Carries (SpellsName g v k) (SpellsName (first n g) w k)
  name_key (TextE line x) d = node-kept d line ⟫ text-kept Name x
  name_key k d = holding

  path : (e : Exp) {w v : Context} → NoDeeper w v → Carries (SpellsPath g v e) (SpellsPath (first n g) w e)
  unfolding SpellsPath
  path (NameE line x) d = node-kept d line ⟫ text-kept Name x
  path (IndexE line t k) d = λ i j (m, left, right). (m, path t (left_of m d) i m left, (node-kept d line ⟫ dot_key k (below d)) m j right)
  path e d = λ i j h. absurd h

  function_path : (ts : Exps) {w v : Context} → NoDeeper w v → Carries (IsPath g v ts) (IsPath (first n g) w ts)
  function_path (MoreExp e NoExp) d = path e d
  function_path ts d = holding

  method_path : (ts : Exps) {w v : Context} → NoDeeper w v → Carries (IsMethodPath g v ts) (IsMethodPath (first n g) w ts)
  method_path (MoreExp (IndexE line t k) NoExp) d =
      λ i j (m, left, right). (m, path t (left_of m d) i m left, (node-kept d line ⟫ word-kept Colon ⟫ name_key k (below d)) m j right)
  method_path ts d = λ i j h. absurd h

  -- ---- productions

  mutual
    unfolding Spells

    exp : (e : Exp) (l : ℕ) {w v : Context} → NoDeeper w v → Carries (Spells g v l e) (Spells (first n g) w l e)
    exp (NilE line) l d = node-kept d line ⟫ word-kept Nil
    exp (TrueE line) l d = node-kept d line ⟫ word-kept True
    exp (FalseE line) l d = node-kept d line ⟫ word-kept False
    exp (NumberE line x) l d = node-kept d line ⟫ value-kept x
    exp (TextE line bytes) l d = node-kept d line ⟫ text-kept Text bytes
    exp (DotsE line) l {w} {v} d = node-kept d line ⟫ word_if-kept Dots 10 (v.vararg ≡ true) (w.vararg ≡ true) (λ e. d.dots ∙ e)
    exp (FunctionE line f) l d = node-kept d line ⟫ word-kept Function ⟫ fun f (below d)
    exp (TableE line fs) l d = node-kept d line ⟫ word-kept LeftBrace ⟫ fields fs (below d) ⟫ word-kept RightBrace
    exp (UnaryE line op e) l d = λ i j (low, h). (low, (node-kept d line ⟫ word-kept (sign_of op) ⟫ exp e 7 (below d)) i j h)
    exp (BinaryE line op a b) l d = λ i j (m, left, low, right).
        (m, exp a (left_level op) (left_of m d) i m left, low, (node-kept d line ⟫ word-kept (mark_of op) ⟫ exp b (right_level op) (below d)) m j right)
    exp (NameE line x) l d = node-kept d line ⟫ text-kept Name x ⟫ end-kept l
    exp (ParenE line e) l d = node-kept d line ⟫ word-kept LeftParen ⟫ exp e 1 (below d) ⟫ word-kept RightParen ⟫ end-kept l
    exp (IndexE line t k) l d = λ i j (m, left, p, right).
        (m, exp t 10 (left_of m d) i m left, p, (node-kept d line ⟫ either (dot_key k (below d)) (word-kept LeftBracket ⟫ exp k 1 (below d) ⟫ word-kept RightBracket) ⟫ end-kept l) m j right)
    exp (CallE line f es) l d = λ i j (m, left, p, right). (m, exp f 10 (left_of m d) i m left, p, (node-kept d line ⟫ args es (below d) ⟫ end-kept l) m j right)
    exp (MethodE line o x es) l d = λ i j (m, left, p, right).
        (m, exp o 10 (left_of m d) i m left, p, (node-kept d line ⟫ word-kept Colon ⟫ text-kept Name x ⟫ args es (below d) ⟫ end-kept l) m j right)

    args : (es : Exps) {w v : Context} → NoDeeper w v → Carries (SpellsArgs g v es) (SpellsArgs (first n g) w es)
    args NoExp d = opening-kept ⟫ word-kept RightParen
    args (MoreExp e es) d = either (opening-kept ⟫ exp e 1 d ⟫ more es d ⟫ word-kept RightParen) (holding ⟫ exp e 9 d)

    all : (es : Exps) {w v : Context} → NoDeeper w v → Carries (SpellsAll g v es) (SpellsAll (first n g) w es)
    all NoExp d = λ i j h. absurd h
    all (MoreExp e es) d = exp e 1 d ⟫ more es d

    more : (es : Exps) {w v : Context} → NoDeeper w v → Carries (MoreExps g v es) (MoreExps (first n g) w es)
    more NoExp d = nothing
    more (MoreExp e es) d = word-kept Comma ⟫ exp e 1 d ⟫ more es d

    fields : (fs : Fields) {w v : Context} → NoDeeper w v → Carries (SpellsFields g v fs) (SpellsFields (first n g) w fs)
    fields NoField d = nothing
    fields (Item e fs) d = exp e 1 d ⟫ either holding (separator-kept ⟫ fields fs d)
    fields (Pair k e fs) d = either (name_key k d) (word-kept LeftBracket ⟫ exp k 1 d ⟫ word-kept RightBracket)
        ⟫ word-kept Assign ⟫ exp e 1 d ⟫ either holding (separator-kept ⟫ fields fs d)

    fun : (f : Fun) {w v : Context} → NoDeeper w v → Carries (SpellsFun g v f) (SpellsFun (first n g) w f)
    fun (Lambda ps dots b) d = word-kept LeftParen ⟫ params ps dots ⟫ word-kept RightParen ⟫ block b (inner dots d) ⟫ word-kept End

    method : (f : Fun) {w v : Context} → NoDeeper w v → Carries (SpellsMethod g v f) (SpellsMethod (first n g) w f)
    method (Lambda [] dots b) d = λ i j h. absurd h
    method (Lambda (p ∷ ps) dots b) d = holding ⟫ word-kept LeftParen ⟫ params ps dots ⟫ word-kept RightParen ⟫ block b (inner dots d) ⟫ word-kept End

    named : (ts es : Exps) {w v : Context} → NoDeeper w v → Carries (SpellsNamed g v ts es) (SpellsNamed (first n g) w ts es)
    named ts (MoreExp (FunctionE line f) NoExp) d =
        node-kept d line ⟫ word-kept Function ⟫ either (function_path ts d ⟫ fun f (below d)) (method_path ts d ⟫ method f (below d))
    named ts es d = λ i j h. absurd h

    block : (b : Block) {w v : Context} → NoDeeper w v → Carries (SpellsBlock g v b) (SpellsBlock (first n g) w b)
    block NoStat d = nothing
    block (MoreStat s b) d = stat s d ⟫ holding ⟫ either nothing (word-kept Semicolon) ⟫ block b d

    arms : (a : Arms) {w v : Context} → NoDeeper w v → Carries (SpellsArms g v a) (SpellsArms (first n g) w a)
    arms NoArm d = λ i j h. absurd h
    arms (Arm e b a) d = exp e 1 d ⟫ word-kept Then ⟫ block b d ⟫ more_arms a d

    more_arms : (a : Arms) {w v : Context} → NoDeeper w v → Carries (MoreArms g v a) (MoreArms (first n g) w a)
    more_arms NoArm d = nothing
    more_arms (Arm e b a) d = word-kept Elseif ⟫ exp e 1 d ⟫ word-kept Then ⟫ block b d ⟫ more_arms a d

    stat : (s : Stat) {w v : Context} → NoDeeper w v → Carries (SpellsStat g v s) (SpellsStat (first n g) w s)
    stat (AssignS line ts es) d = node-kept d line ⟫ either (holding ⟫ all ts (below d) ⟫ word-kept Assign ⟫ all es (below d)) (named ts es (below d))
    stat (CallS line e) d = λ i j (call, h). (call, (node-kept d line ⟫ exp e 9 (below d)) i j h)
    stat (DoS line b) d = node-kept d line ⟫ word-kept Do ⟫ block b (below d) ⟫ word-kept End
    stat (WhileS line e b) d = node-kept d line ⟫ word-kept While ⟫ exp e 1 (below d) ⟫ word-kept Do ⟫ block b (looping d) ⟫ word-kept End
    stat (RepeatS line b e) d = node-kept d line ⟫ word-kept Repeat ⟫ block b (looping d) ⟫ word-kept Until ⟫ exp e 1 (below d)
    stat (IfS line a) d = node-kept d line ⟫ word-kept If ⟫ arms a (below d) ⟫ word-kept End
    stat (IfElseS line a b) d = node-kept d line ⟫ word-kept If ⟫ arms a (below d) ⟫ word-kept Else ⟫ block b (below d) ⟫ word-kept End
    stat (CountS line x from to b) d =
        node-kept d line ⟫ word-kept For ⟫ text-kept Name x ⟫ word-kept Assign ⟫ exp from 1 (below d) ⟫ word-kept Comma ⟫ exp to 1 (below d)
        ⟫ word-kept Do ⟫ block b (looping d) ⟫ word-kept End
    stat (CountByS line x from to by b) d =
        node-kept d line ⟫ word-kept For ⟫ text-kept Name x ⟫ word-kept Assign ⟫ exp from 1 (below d) ⟫ word-kept Comma ⟫ exp to 1 (below d)
        ⟫ word-kept Comma ⟫ exp by 1 (below d) ⟫ word-kept Do ⟫ block b (looping d) ⟫ word-kept End
    stat (EachS line ns es b) d =
        node-kept d line ⟫ word-kept For ⟫ names ns ⟫ word-kept In ⟫ all es (below d) ⟫ word-kept Do ⟫ block b (looping d) ⟫ word-kept End
    stat (LocalFunctionS line x f) d = node-kept d line ⟫ word-kept Local ⟫ word-kept Function ⟫ text-kept Name x ⟫ fun f (below d)
    stat (LocalS line ns es) d = node-kept d line ⟫ word-kept Local ⟫ names ns ⟫ either holding (word-kept Assign ⟫ all es (below d))
    stat (ReturnS line es) d = node-kept d line ⟫ word-kept Return ⟫ either holding (all es (below d))
    stat (BreakS line) {w} {v} d = node-kept d line ⟫ word_if-kept Break 8 (v.inside_loop ≡ true) (w.inside_loop ≡ true) (λ e. d.loops ∙ e)

  same_place : (w : Context) → NoDeeper w w
  same_place w = record { depth = omega arith; loops = refl; dots = refl }

  pub chunk : (b : Block) (j : ℕ) → SpellsChunk g b j → SpellsChunk (first n g) b j
  unfolding SpellsChunk
  chunk b j = (block b (same_place outside) ⟫ word-kept Eof) 0 j
