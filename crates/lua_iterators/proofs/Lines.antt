-- Each of these functions is a line of the table of the library.
use Rattle.std.proofs.Common.{◌≡◌, ◌∙◌, ap, arith, ℕ, ◌+◌, Some}
use Rattle.lua_strings.specs.LuaHeapDeclaredLibraryLibraryTheVariants.{StringGmatch, UstringGmatch, UstringGcodepoint, TextGsplit, GmatchStep, UstringGmatchStep, GcodepointStep, GsplitStep}
use Rattle.lua_strings.specs.LuaMeaningArguments.{Plain, with_charge}
use Rattle.lua_strings.specs.LuaMeaningIterators.{gmatch, gmatch_step}
use Rattle.lua_strings.specs.LuaMeaningLibraries.{Answers}
use Rattle.lua_iterators.specs.declared.table.Maker.TheVariants as maker
use Rattle.lua_iterators.specs.declared.table.Stepper.TheVariants as stepper
use Rattle.lua_iterators.specs.declared.table.IteratorFunction.{IteratorFunction}
use Rattle.lua_iterators.specs.declared.table.IteratorFunction.TheVariants as own
use Rattle.lua_iterators.specs.Table.{answer_of, AreInTable}

same : (f g : IteratorFunction) → Some f ≡ Some g → f ≡ g
same f g e = cc

-- no charge before an answer changes nothing
for_nothing : {X : Type 0} (p : Plain X) → p ≡ with_charge 0 p
for_nothing {X} p =
    let e : p.charge ≡ 0 + p.charge = omega arith in
    ap (λ (n : ℕ). (let q : Plain X = record p { charge = n } in q)) e

pub in-table : AreInTable
in-table StringGmatch f e = λ world args h frames. ap Answers (for_nothing (gmatch args h)) ∙ ap (λ g. Answers (answer_of g args h)) (same (own.Makes maker.Gmatch) f e)
in-table UstringGmatch f e = λ world args h frames. ap (λ g. Answers (answer_of g args h)) (same (own.Makes maker.UstringGmatch) f e)
in-table UstringGcodepoint f e = λ world args h frames. ap (λ g. Answers (answer_of g args h)) (same (own.Makes maker.Gcodepoint) f e)
in-table TextGsplit f e = λ world args h frames. ap (λ g. Answers (answer_of g args h)) (same (own.Makes maker.Gsplit) f e)
in-table GmatchStep f e = λ world args h frames. ap Answers (for_nothing (gmatch_step args h)) ∙ ap (λ g. Answers (answer_of g args h)) (same (own.Steps stepper.Gmatch) f e)
in-table UstringGmatchStep f e = λ world args h frames. ap (λ g. Answers (answer_of g args h)) (same (own.Steps stepper.UstringGmatch) f e)
in-table GcodepointStep f e = λ world args h frames. ap (λ g. Answers (answer_of g args h)) (same (own.Steps stepper.Gcodepoint) f e)
in-table GsplitStep f e = λ world args h frames. ap (λ g. Answers (answer_of g args h)) (same (own.Steps stepper.Gsplit) f e)
in-table which f e = absurd cc
