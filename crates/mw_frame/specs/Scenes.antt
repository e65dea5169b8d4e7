-- Arguments and scenes.
use Rattle.std.specs.Prelude.{◌≢◌, ℕ, List, [], ◌∷◌}
use Rattle.mw_frame.specs.declared.scene.Arg.{Arg}
use Rattle.mw_frame.specs.declared.scene.Job.{Job}

-- no argument of these has this name
abbrev pub Lacks : List ℕ → List Arg → Type 0
Lacks name [] = Unit {0}
Lacks name (a ∷ args) = (name ≢ a.name) × Lacks name args

-- no two arguments have one name
abbrev pub NamesDiffer : List Arg → Type 0
NamesDiffer [] = Unit {0}
NamesDiffer (a ∷ args) = Lacks a.name args × NamesDiffer args

-- so it is in both scenes of a job
abbrev pub HaveNames : Job → Type 0
HaveNames job = NamesDiffer job.scene.args × NamesDiffer job.parent.args
