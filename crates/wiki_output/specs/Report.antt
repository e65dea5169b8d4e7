-- What pages give that were expanded.
use Rattle.std.specs.Prelude.{Bool, List}
use Rattle.wk_tool.specs.declared.report.Status.TheVariants.{Done}
use Rattle.wk_tool.specs.declared.report.Report.{Report}
use Rattle.wiki_output.specs.declared.made.Made.{Made}
use Rattle.wiki_output.specs.declared.made.Form.{Form}
use Rattle.wiki_output.specs.Output.{text_in, stats_if}

-- all pages were expanded
abbrev pub done_report : Form → Bool → List Made → Report
done_report form stats pages = record { status = Done; out = text_in form pages; err = stats_if stats pages }
