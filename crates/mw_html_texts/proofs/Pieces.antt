-- Pieces of a rendering one after another, as they are proved of a sheet where that is.
pub use Rattle.mw_html.proofs.Pieces.{leads_on, leads_here}
pub use Rattle.mw_html.proofs.Nodes.{node_on, children_on}
