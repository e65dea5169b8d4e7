use Rattle.std.proofs.Common.{◌++◌, ◌∷◌, [], ◌∙◌, ap, sym, subst, append_assoc, append-nil}
use Rattle.lua_basic.specs.LuaStoreSeen.{seen}
use Rattle.lua_basic.specs.LuaStoreParts.{IsOf}
use Rattle.lua_basic.specs.Seen.{values_seen, AllOf}
use Rattle.lua_basic.proofs.Lists.{all-with, seen-with}
use Rattle.lua_basic.specs.LuaMeaningStrings.{code_values}
use Rattle.lua_strings.proofs.places.code_values.Goals as goal

pub bytes-preserved : goal.bytes-preserved
bytes-preserved c = (
  λ s. subst (AllOf s) (sym c.in_ok-push.ensures.ok) (all-with s c.bytes.values c.code_value.result (c.bytes.invariant.0 s) (subst (IsOf s) (sym c.code_value.ensures) tt)),
  λ texts.
      let more = code_values c.in-Some.more.now in
      ap (λ vs. values_seen texts vs ++ more) c.in_ok-push.ensures.ok ∙ ap (λ xs. xs ++ more) (seen-with texts c.bytes.values c.code_value.result)
      ∙ append_assoc (values_seen texts c.bytes.values) (seen texts c.code_value.result ∷ []) more
      ∙ ap (λ v. values_seen texts c.bytes.values ++ seen texts v ∷ more) c.code_value.ensures
      ∙ sym (ap (λ bs. values_seen texts c.bytes.values ++ code_values bs) c.in-Some.ensures) ∙ c.bytes.invariant.1 texts,
)

pub returns-clause-values : goal.returns-clause-values
returns-clause-values c = λ texts.
    let vs = values_seen texts c.bytes.values in
    sym (append-nil vs) ∙ sym (ap (λ bs. vs ++ code_values bs) c.in_default.ensures) ∙ c.bytes.invariant.1 texts
