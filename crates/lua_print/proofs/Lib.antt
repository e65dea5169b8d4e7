pub use Rattle.lua_parser.proofs.lemmas.AnsweredOnce as LuaParserLemmasAnsweredOnce
pub mod FrontLemmas
pub mod ItemLemmas
pub mod LayLemmas
pub mod RowLemmas
pub mod ClassLemmas
pub mod Readings
pub mod ItemStays
pub mod ReadBack
pub mod RowLaws
pub mod TokenChains
pub mod TokenLines
pub mod LayoutLaws
