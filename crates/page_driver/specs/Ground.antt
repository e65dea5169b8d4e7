-- THE WIKI of a page, for the crates above: they stand in `page_ground`.
pub use Rattle.page_tasks.specs.PageGroundGround.{AreModulesIn, wiki_in}
