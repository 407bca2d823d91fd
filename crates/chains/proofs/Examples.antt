-- The slots of two runs of document 01, and a chain of two parts, computed.
use Rattle.std.proofs.Common.{◌≡◌, ℕ, true, false, List, [], ◌∷◌, ◌++◌, map, refl}
use Rattle.fields.specs.Ascii.{ascii}
use Rattle.chains.specs.Hash.{hash_from, slot_of}
use Rattle.chains.specs.Chains.{stands_within, stands_among}

slots :
    map (slot_of (4 ∷ 5 ∷ 3 ∷ 1 ∷ 0 ∷ 16 ∷ [])) (64 ∷ 4096 ∷ [])
    ++ map (slot_of (10 ∷ 371 ∷ 995 ∷ 73 ∷ 100 ∷ 8 ∷ [])) (64 ∷ 4096 ∷ [])
    ≡ 57 ∷ 3680 ∷ 59 ∷ 3816 ∷ []
unfolding slot_of hash_from
slots = refl

-- parts at 0 and 12, the link 13 before the link 1: both are met, a part in between and one that is longer are not
abbrev two : List ℕ
two = ascii "1,0,0,0,0,1\n1,0,0,0,0,2\n1,0"

met :
    map (λ part. stands_among two (0 ∷ 1 ∷ []) part 13)
    (ascii "1,0,0,0,0,1\n" ∷ ascii "1,0,0,0,0,2\n" ∷ ascii "0,0,0,0,2\n" ∷ ascii "1,0,0,0,0,21\n" ∷ [])
    ≡ true ∷ true ∷ false ∷ false ∷ []
unfolding stands_within
met = refl
