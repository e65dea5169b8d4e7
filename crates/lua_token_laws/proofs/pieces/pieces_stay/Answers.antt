use Rattle.lua_token_laws.proofs.PieceStays.{piece_stays}
use Rattle.lua_token_laws.proofs.pieces.pieces_stay.Goals as goal

pub returns : goal.returns
returns c = piece_stays
