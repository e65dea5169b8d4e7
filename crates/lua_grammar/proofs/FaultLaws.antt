-- A first fault is one, and stands in no chunk, as the contracts say it.
use Rattle.std.proofs.Common.{◌≡◌, ℕ, suc, ◌<◌, List, length, subst, arith}
use Rattle.lua_lexer.specs.declared.token.Token.{Token}
use Rattle.lua_grammar.specs.Grammar.{given_tokens, IsChunk, Begins, FirstFault}
use Rattle.lua_grammar.specs.FaultLaws.{FewerBegin, OneFault, FaultOrChunk}
use Rattle.lua_grammar.proofs.Fewer.{chunk}

pub fewer_begin : FewerBegin
unfolding Begins
fewer_begin tokens f n m le (b, j, reach, d) = (b, j, omega (arith, le, reach), chunk (given_tokens tokens m f) n le b j d)

-- No list has a fault behind its first one: up to there it has no fault of that kind.
not_behind : (tokens : List Token) (k l i j : ℕ) → FirstFault tokens k i → FirstFault tokens l j → i < j → ⊥
not_behind tokens k l i j x y lt = x.it_is (fewer_begin tokens k (suc i) j (omega (arith, lt)) (y.none_before k x.number.0 x.number.1))

-- Of two at one place, neither has the lower kind.
not_lower : (tokens : List Token) (k l i : ℕ) → FirstFault tokens k i → FirstFault tokens l i → k < l → ⊥
not_lower tokens k l i x y lt = x.it_is (y.none_lower k x.number.0 lt)

pub one_fault : OneFault
one_fault tokens k l i j x y = (kinds (subst (λ (p : ℕ). FirstFault tokens k p) places x), places)
  where
    places : i ≡ j
    places = omega (arith, not_behind tokens k l i j x y, not_behind tokens l k j i y x)

    kinds : FirstFault tokens k j → k ≡ l
    kinds z = omega (arith, not_lower tokens k l j z y, not_lower tokens l k j y z)

pub fault_or_chunk : FaultOrChunk
unfolding IsChunk Begins
fault_or_chunk tokens k i b x h = x.it_is (fewer_begin tokens k (suc i) (length tokens) (omega (arith, x.there)) (b, length tokens, omega arith, h k))
