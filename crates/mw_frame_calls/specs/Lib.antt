pub use Rattle.mw_frame_texts.specs.LuaMeaningFrameMethods as LuaMeaningFrameMethods
pub mod Seen
pub mod Table
pub mod Parts
