use Rattle.std.proofs.Common.{◌≡◌, ◌++◌, map, drop}
use Rattle.lua_syntax.specs.View.{fields_view}
use Rattle.case_names.specs.Cases.{field_keys}
use Rattle.case_names.proofs.functions.put_fields.Given as goal

abbrev pub invariant-loop-field : goal.invariant-loop-field
invariant-loop-field l = map (λ k. k.now) l.out ++ field_keys (fields_view (drop l.field-index l.fields)) ≡ map (λ k. k.now) l.initial.out ++ field_keys (fields_view l.fields)
