-- The kinds of pieces of which Lua's trees are made.
use Rattle.std.proofs.Common.{ℕ, suc, [], ◌≤◌, Bool, true, false, List, ◌∷◌, codes, refl, arith}
use Rattle.lua_lexer.specs.declared.token.Token.{Token}
use Rattle.lua_grammar.specs.declared.TokenClass.{TokenClass}
use Rattle.lua_grammar.specs.declared.Context.{Context}
use Rattle.lua_grammar.specs.Tokens.{tok_at}
use Rattle.lua_syntax.specs.Tree.{Exp, Exps, Fields, Fun, Block, Arms, Stat, NameE, TextE, NoExp, MoreExp, NoField, Item, Lambda, NoStat, NoArm, Arm, BreakS}
use Rattle.lua_grammar.specs.Grammar.{given_tokens, Spells, SpellsArgs, SpellsAll, SpellsFields, SpellsFun, SpellsBlock, SpellsArms, SpellsStat}
use Rattle.lua_reading.specs.Parsing.{high, exp_lang, args_lang, all_lang, fields_lang, block_lang, arms_lang, stat_lang, nothing, goes_on, exps_goes, fields_goes, block_goes, goes_after, arms_goes, operand_lang}
use Rattle.lua_reading.specs.Answers.{name_lang, params_lang, Parameters, params_goes, body_lang, field_lang, field_goes}
use Rattle.lua_reading.proofs.pieces.Steps.{CanOpen, Kind}

-- A name that is yet to come.
pub open_name : (ts : List Token) (w : Context) (n f b l i : ℕ) → n ≤ i → Spells (given_tokens ts n f) (high w b) l (NameE (tok_at ts i).line []) i (suc i)
unfolding Spells
open_name ts w n f b l i le =
    (i, (refl, (λ e lt. absurd (omega (arith, le, lt))), refl), (suc i, ((λ lt. absurd (omega (arith, le, lt))), refl), ((λ e lt. absurd (omega (arith, le, lt))), refl)))

pub exp_opens : (ts : List Token) (w : Context) (l : ℕ) → CanOpen Exp (exp_lang ts w l)
exp_opens ts w l b n f m le = (NameE (tok_at ts m).line [], suc m, omega (arith, le), open_name ts w n f b l m le)

pub operand_opens : (ts : List Token) (w : Context) → CanOpen Exp (operand_lang ts w)
operand_opens ts w b n f m le = (NameE (tok_at ts m).line [], suc m, omega (arith, le), (tt, 7, omega arith, open_name ts w n f b 7 m le, tt))

pub block_opens : (ts : List Token) (w : Context) → CanOpen Block (block_lang ts w)
unfolding SpellsBlock
block_opens ts w b n f m le = (NoStat, m, le, refl)

pub all_opens : (ts : List Token) (w : Context) → CanOpen Exps (all_lang ts w)
unfolding SpellsAll
all_opens ts w b n f m le = (MoreExp (NameE (tok_at ts m).line []) NoExp, suc m, omega (arith, le), (suc m, open_name ts w n f b 1 m le, refl))

pub args_opens : (ts : List Token) (w : Context) → CanOpen Exps (args_lang ts w)
unfolding SpellsArgs
args_opens ts w b n f m le = (NoExp, suc (suc m), omega (arith, le), (suc m, ((λ lt. absurd (omega (arith, le, lt))), (λ e lt. absurd (omega (arith, le, lt))), refl), ((λ lt. absurd (omega (arith, le, lt))), refl)))

pub fields_opens : (ts : List Token) (w : Context) → CanOpen Fields (fields_lang ts w)
unfolding SpellsFields
fields_opens ts w b n f m le = (NoField, m, le, refl)

pub field_opens : (ts : List Token) (w : Context) → CanOpen Fields (field_lang ts w)
field_opens ts w b n f m le = (Item (NameE (tok_at ts m).line []) NoField, suc m, omega (arith, le), open_name ts w n f b 1 m le)

pub name_opens : (ts : List Token) (w : Context) → CanOpen Exp (name_lang ts w)
name_opens ts w b n f m le = (TextE (tok_at ts m).line [], suc m, omega (arith, le), (m, (refl, (λ e lt. absurd (omega (arith, le, lt))), refl), ((λ lt. absurd (omega (arith, le, lt))), refl)))

pub params_opens : (ts : List Token) → CanOpen Parameters (params_lang ts)
params_opens ts b n f m le = (([], false), m, le, refl)

pub body_opens : (m : Bool) (ts : List Token) (w : Context) → CanOpen Fun (body_lang m ts w)
unfolding SpellsFun
body_opens false ts w b n f m le =
    (Lambda [] false NoStat, suc (suc (suc m)), omega (arith, le), (suc m, ((λ lt. absurd (omega (arith, le, lt))), refl), (suc m, refl, (suc (suc m), ((λ lt. absurd (omega (arith, le, lt))), refl), (suc (suc m), refl, ((λ lt. absurd (omega (arith, le, lt))), refl))))))
body_opens true ts w b n f m le =
    (Lambda self false NoStat, suc (suc (suc m)), omega (arith, le), (m, (refl, refl), (suc m, ((λ lt. absurd (omega (arith, le, lt))), refl), (suc m, refl, (suc (suc m), ((λ lt. absurd (omega (arith, le, lt))), refl), (suc (suc m), refl, ((λ lt. absurd (omega (arith, le, lt))), refl)))))))
  where
    self : List (List ℕ)
    self = codes "self" ∷ []

pub arms_opens : (ts : List Token) (w : Context) → CanOpen Arms (arms_lang ts w)
unfolding SpellsArms
arms_opens ts w b n f m le =
    (Arm (NameE (tok_at ts m).line []) NoStat NoArm, suc (suc m), omega (arith, le), (suc m, open_name ts w n f b 1 m le, (suc (suc m), ((λ lt. absurd (omega (arith, le, lt))), refl), (suc (suc m), refl, refl))))

pub stat_opens : (ts : List Token) (w : Context) → CanOpen Stat (stat_lang ts w)
unfolding SpellsStat
stat_opens ts w b n f m le =
    (BreakS (tok_at ts m).line, suc m, omega (arith, le), (m, (refl, (λ e lt. absurd (omega (arith, le, lt))), refl), ((λ lt. absurd (omega (arith, le, lt))), (λ e lt. absurd (omega (arith, le, lt))), refl)))

abbrev pub exp_kind : List Token → Context → ℕ → Kind Exp
exp_kind ts w l = record { lang = exp_lang ts w l; goes = goes_on l; open' = exp_opens ts w l }

abbrev pub args_kind : List Token → Context → Kind Exps
args_kind ts w = record { lang = args_lang ts w; goes = nothing; open' = args_opens ts w }

abbrev pub all_kind : List Token → Context → Kind Exps
all_kind ts w = record { lang = all_lang ts w; goes = exps_goes; open' = all_opens ts w }

abbrev pub fields_kind : List Token → Context → Kind Fields
fields_kind ts w = record { lang = fields_lang ts w; goes = fields_goes; open' = fields_opens ts w }

abbrev pub field_kind : List Token → Context → Kind Fields
field_kind ts w = record { lang = field_lang ts w; goes = field_goes; open' = field_opens ts w }

abbrev pub name_kind : List Token → Context → Kind Exp
name_kind ts w = record { lang = name_lang ts w; goes = nothing; open' = name_opens ts w }

abbrev pub params_kind : List Token → Kind Parameters
params_kind ts = record { lang = params_lang ts; goes = params_goes; open' = params_opens ts }

abbrev pub body_kind : Bool → List Token → Context → Kind Fun
body_kind m ts w = record { lang = body_lang m ts w; goes = nothing; open' = body_opens m ts w }

abbrev pub block_kind : List Token → Context → Kind Block
block_kind ts w = record { lang = block_lang ts w; goes = block_goes; open' = block_opens ts w }

abbrev pub arms_kind : List Token → Context → Kind Arms
arms_kind ts w = record { lang = arms_lang ts w; goes = arms_goes; open' = arms_opens ts w }

abbrev pub stat_kind : List Token → Context → TokenClass → Kind Stat
stat_kind ts w first = record { lang = stat_lang ts w; goes = goes_after first; open' = stat_opens ts w }
