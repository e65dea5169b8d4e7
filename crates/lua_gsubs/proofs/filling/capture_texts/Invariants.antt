use Rattle.std.proofs.Common.{◌≡◌, ◌++◌, length, map}
use Rattle.mw_text.specs.LuaStringReplacements.{text_of}
use Rattle.lua_replacing.specs.LuaMeaningGsub.{capture_text}
use Rattle.lua_replacing.specs.Seen.{stand_seen}
use Rattle.lua_gsubs.proofs.filling.capture_texts.Given as goal

-- what is made and what is still to make are all
abbrev pub invariant-each : goal.invariant-each
invariant-each g l =
    let one = capture_text g.A.Alphabet.letters l.s (stand_seen l.stand) in
    map text_of l.texts ++ map one l.rest ≡ map one l.captures

abbrev pub decreases-each : goal.decreases-each
decreases-each g l = length l.rest
