use Rattle.std.specs.Prelude.{codes}
use Rattle.std.proofs.Common.{rules, arith, refl}
use Rattle.std.proofs.lemmas.Slice.Eq.{text_from_reads}
use Rattle.lua_grammar.specs.Tokens.{word_class}
use Rattle.lua_reading.proofs.tokens.word_class.Goals as goal

pub returns-in-break : goal.returns-in-break
unfolding word_class
returns-in-break c = rw (text_from_reads c.args.word.now (codes "break") (omega arith) (search rules)) refl

pub returns-in-false : goal.returns-in-false
unfolding word_class
returns-in-false c = rw (text_from_reads c.args.word.now (codes "false") (omega arith) (search rules)) refl

pub returns-in-local : goal.returns-in-local
unfolding word_class
returns-in-local c = rw (text_from_reads c.args.word.now (codes "local") (omega arith) (search rules)) refl

pub returns-in-until : goal.returns-in-until
unfolding word_class
returns-in-until c = rw (text_from_reads c.args.word.now (codes "until") (omega arith) (search rules)) refl

pub returns-in-while : goal.returns-in-while
unfolding word_class
returns-in-while c = rw (text_from_reads c.args.word.now (codes "while") (omega arith) (search rules)) refl

pub returns-in-elseif : goal.returns-in-elseif
unfolding word_class
returns-in-elseif c = rw (text_from_reads c.args.word.now (codes "elseif") (omega arith) (search rules)) refl

pub returns-in-repeat : goal.returns-in-repeat
unfolding word_class
returns-in-repeat c = rw (text_from_reads c.args.word.now (codes "repeat") (omega arith) (search rules)) refl

pub returns-in-return : goal.returns-in-return
unfolding word_class
returns-in-return c = rw (text_from_reads c.args.word.now (codes "return") (omega arith) (search rules)) refl

pub returns-in-function : goal.returns-in-function
unfolding word_class
returns-in-function c = rw (text_from_reads c.args.word.now (codes "function") (omega arith) (search rules)) refl
