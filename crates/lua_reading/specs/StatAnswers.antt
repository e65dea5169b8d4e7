-- What the functions for parts of statements answer.
use Rattle.std.specs.Prelude.{◌≡◌, ◌≢◌, ◌⊎◌, true, false, ℕ, ◌+◌, ◌∷◌, Bool, List, Result, Ok, Err}
use Rattle.lua_lexer.specs.declared.token.Token.{Token}
use Rattle.lua_grammar.specs.Tokens.{tok_at, class_at, bytes_of}
use Rattle.lua_grammar.specs.Grammar.{given_tokens, MoreNames, ◌⨟◌, word, SpellsBlock, SpellsPath, IsMethodPath}
use Rattle.lua_grammar.specs.declared.TokenClass.TheVariants.{Do, End, Return, Break, Semicolon, Name, LeftParen, Dot, Colon}
use Rattle.lua_grammar.specs.declared.TokenClass.{TokenClass}
use Rattle.lua_grammar.specs.declared.Context.{Context}
use Rattle.lua_syntax.specs.Tree.{Block, Exp, NameE, IndexE, CallE, MethodE, NoExp, MoreExp}
use Rattle.lua_reading.specs.declared.answer.Fault.{Fault}
use Rattle.lua_reading.specs.declared.answer.Reading.{Reading}
use Rattle.lua_reading.specs.Parsing.{Lang, ReadsTree, ReadsFault, names_goes, high}
use Rattle.lua_reading.specs.Answers.{IfFault}

-- names, each behind a comma
abbrev pub more_names_lang : List Token → List (List ℕ) → Lang
more_names_lang ts x b n f = MoreNames (given_tokens ts n f) x

-- The name at i, and more names behind it.
abbrev pub NamesAnswer : List Token → ℕ → Result (Reading (List (List ℕ))) Fault → Type 0
NamesAnswer ts i (Ok p) = (ms : List (List ℕ)) × (p.tree ≡ bytes_of (tok_at ts i) ∷ ms) × ReadsTree (List (List ℕ)) ts (more_names_lang ts) names_goes 0 (i + 1) ms p.end 0
NamesAnswer ts i (Err f) = IfFault (ReadsFault (List (List ℕ)) ts (more_names_lang ts) names_goes 0 (i + 1)) f

-- do block end
abbrev pub do_lang : List Token → Context → Block → Lang
do_lang ts w x b n f = word (given_tokens ts n f) Do ⨟ SpellsBlock (given_tokens ts n f) (high w b) x ⨟ word (given_tokens ts n f) End

-- The place behind the `;` at q, if there is one.
abbrev pub Behind : List Token → ℕ → ℕ → Type 0
Behind ts q r = ((class_at ts q ≡ Semicolon) × (r ≡ q + 1)) ⊎ ((class_at ts q ≢ Semicolon) × (r ≡ q))

-- A statement that begins so ends its block.
abbrev pub closing : TokenClass → Bool
closing Return = true
closing Break = true
closing s = false

-- A variable or a call.
abbrev pub IsSimple : Exp → Type 0
IsSimple (NameE l x) = Unit {0}
IsSimple (IndexE l t k) = Unit {0}
IsSimple (CallE l t es) = Unit {0}
IsSimple (MethodE l t x es) = Unit {0}
IsSimple e = ⊥

abbrev pub is_var : Exp → Bool
is_var (NameE l x) = true
is_var (IndexE l t k) = true
is_var e = false

abbrev pub is_call : Exp → Bool
is_call (CallE l t es) = true
is_call (MethodE l t x es) = true
is_call e = false

-- A prefix expression begins so.
abbrev pub Opening : TokenClass → Type 0
Opening Name = Unit {0}
Opening LeftParen = Unit {0}
Opening s = ⊥

-- The name of a function, and whether it is one of a method.
abbrev pub Head : Type 0
Head = Exp × Bool

abbrev pub head_lang : List Token → Context → Head → Lang
head_lang ts w (x, false) b n f = SpellsPath (given_tokens ts n f) (high w b) x
head_lang ts w (x, true) b n f = IsMethodPath (given_tokens ts n f) (high w b) (MoreExp x NoExp)

-- what goes on with a name
abbrev pub head_goes : TokenClass → Bool
head_goes Dot = true
head_goes Colon = true
head_goes s = false

-- The mark before the last name.
abbrev pub head_mark : Bool → TokenClass
head_mark true = Colon
head_mark false = Dot
