-- What is asked of the limits of a page.
use Rattle.std.specs.Prelude.{◌≤◌}
use Rattle.wk_base.specs.declared.left.Limits.{Limits}

-- so few steps and nodes that what each of them begins can be numbered in 32 bits
abbrev pub IsCountable : Limits → Type 0
IsCountable limits = (limits.steps ≤ 1000000000) × (limits.nodes ≤ 1000000000)
