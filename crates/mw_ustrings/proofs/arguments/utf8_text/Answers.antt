use Rattle.std.proofs.Common.{◌≡◌, sym, subst, refl, Ok}
use Rattle.std.specs.Result.{IfOk, IfErr}
use Rattle.mw_frame_texts.specs.LuaBasicArguments.{text_bytes}
use Rattle.mw_frame_texts.specs.LuaBasicSeen.{Refuses}
use Rattle.mw_frame_texts.specs.LuaMeaningTextArguments.{in_utf8}
use Rattle.mw_ustrings.proofs.ReadArguments.{refuses_through}
use Rattle.mw_ustrings.proofs.arguments.utf8_text.Goals as goal

pub returns-in-Ok-clause-found : goal.returns-in-Ok-clause-found
returns-in-Ok-clause-found c =
    subst (λ a. IfOk c.in_utf8.result (λ made. in_utf8 c.args.n c.args.function.now a ≡ Ok (text_bytes made))) (sym c.in-Ok.ensures.found) c.in_utf8.ensures.found

pub returns-in-Ok-clause-same : goal.returns-in-Ok-clause-same
returns-in-Ok-clause-same c = rw c.in-Ok.ensures.same at c.in_utf8.ensures.same

pub returns-in-Ok-clause-refused : goal.returns-in-Ok-clause-refused
returns-in-Ok-clause-refused c =
    let none = rw c.in-Ok.ensures.same at c.in_utf8.ensures.refused in
    subst (λ a. IfErr c.in_utf8.result (Refuses (in_utf8 c.args.n c.args.function.now a) c.args.store.now c.in_utf8.new.store)) (sym c.in-Ok.ensures.found) none

pub returns-in-Err-clause-refused : goal.returns-in-Err-clause-refused
returns-in-Err-clause-refused c = refuses_through (in_utf8 c.args.n c.args.function.now) (λ m. refl) _ c.args.store.now c.a_text.new.store _ c.in-Err.ensures.refused
