-- Numbers of invocations.
use Rattle.std.specs.Prelude.{ℕ, Bool, List, map, nat_eq}
use Rattle.std.specs.List.{list_any}
use Rattle.lua_store.specs.declared.closure.Closure.{Closure}

-- whether a number is among them
abbrev pub is_among : ℕ → List ℕ → Bool
is_among n ns = list_any (nat_eq n) ns

-- the number of each closure
abbrev pub envs_of : List Closure → List ℕ
envs_of = map (λ c. c.env)
