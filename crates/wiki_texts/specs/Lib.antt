pub use Rattle.lua_code.specs.LuaMeaningWorld as LuaMeaningWorld
pub use Rattle.wiki_markup.specs.Trees as WikiMarkupTrees
pub use Rattle.wiki_pages.specs.Pages as WikiPagesPages
pub mod Pages
pub mod Modules
pub mod Code
pub mod Prepared
