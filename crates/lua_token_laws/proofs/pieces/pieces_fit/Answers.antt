use Rattle.lua_token_laws.proofs.SizeLemmas.{found_fits}
use Rattle.lua_token_laws.proofs.pieces.pieces_fit.Goals as goal

pub returns : goal.returns
returns c = found_fits
