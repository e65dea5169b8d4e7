pub use Rattle.lua_strings.specs.Costs as LuaStringsCosts
pub use Rattle.lua_strings.specs.LuaBasicDeclaredStopStop as LuaBasicDeclaredStopStop
pub use Rattle.lua_strings.specs.LuaBasicDeclaredStopStopTheVariants as LuaBasicDeclaredStopStopTheVariants
pub use Rattle.lua_strings.specs.LuaBasicObjects as LuaBasicObjects
pub use Rattle.lua_strings.specs.LuaMeaningHtml as LuaMeaningHtml
pub use Rattle.mw_html.specs.Render as MwHtmlRender
pub mod Given
