-- WHAT THE TOOL PRINTS.
use Rattle.std.specs.Prelude.{ℕ, List, [], codes}
use Rattle.wk_tool.specs.declared.report.Report.{Report}
use Rattle.wk_tool.specs.declared.report.Status.TheVariants.{Done}

abbrev pub tool : List ℕ
tool = codes "wikifmt"

-- these bytes are printed
abbrev pub printed : List ℕ → Report
printed bytes = record { status = Done; out = bytes; err = [] }
