use Rattle.lua_store.proofs.Later.{later-then}
use Rattle.lua_store.proofs.laws.later_goes_on.Goals as goal

pub returns : goal.returns
returns c = λ s t u l m. later-then s t u l m
