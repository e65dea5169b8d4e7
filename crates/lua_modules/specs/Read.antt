-- A title that was read, or none.
use Rattle.std.specs.Prelude.{Option, Some, None, Result, Ok, Err}
use Rattle.lua_code.specs.WkBaseDeclaredTitleTitle.{Title}
use Rattle.page_run.specs.WkBaseDeclaredTitleReadTitleFault.{TitleFault}

abbrev pub title_read : Result Title TitleFault → Option Title
title_read (Ok title) = Some title
title_read (Err fault) = None
