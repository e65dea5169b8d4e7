pub mod SightLaws
mod ReachLaws
mod SpotLaws
mod WholeLaws
