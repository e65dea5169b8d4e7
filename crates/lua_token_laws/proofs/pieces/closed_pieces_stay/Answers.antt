use Rattle.lua_token_laws.proofs.LooseStays.{name_stays, text_stays, comment_stays}
use Rattle.lua_token_laws.proofs.pieces.closed_pieces_stay.Goals as goal

pub returns-clause-names : goal.returns-clause-names
returns-clause-names c = name_stays

pub returns-clause-strings : goal.returns-clause-strings
returns-clause-strings c = text_stays

pub returns-clause-comments : goal.returns-clause-comments
returns-clause-comments c = comment_stays
