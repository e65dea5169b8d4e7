use Rattle.std.proofs.Common.{◌≡◌, sym, subst, ℕ, List}
use Rattle.std.specs.Result.{IfOk}
use Rattle.mw_frame_texts.specs.LuaStoreSeen.{seen}
use Rattle.mw_ustrings.proofs.Utf8.{length_some, length_none}
use Rattle.mw_ustrings.proofs.wholes.length_in.Goals as goal

pub returns-in-Some-clause-value : goal.returns-in-Some-clause-value
returns-in-Some-clause-value c =
    subst (λ w. IfOk c.number.result (λ v. (texts : List (List ℕ)) → seen texts v ≡ w)) (sym (length_some c.args.s.now _ c.in-Some.ensures)) c.number.ensures.value

pub returns-in-None-clause-value : goal.returns-in-None-clause-value
returns-in-None-clause-value c = λ texts. sym (length_none c.args.s.now c.in-None.ensures)
