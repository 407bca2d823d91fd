-- Small examples of the definition, computed.
use mathlib.Core.Path.{◌≡◌, refl}
use mathlib.Core.List.{[], ◌∷◌, map}
use Rattle.sequences.specs.Least.{least}
use Rattle.customary.specs.Customary.{odd_power, customary_of, customary_refusal}

customary : map customary_of (3 ∷ 4 ∷ 7 ∷ 36 ∷ 64 ∷ []) ≡ 5 ∷ 5 ∷ 125 ∷ 30517578125 ∷ 7450580596923828125 ∷ []
unfolding customary_of odd_power least
customary = refl

customary_refusals : map customary_refusal (0 ∷ 2 ∷ 3 ∷ 64 ∷ 65 ∷ 18446744073709551615 ∷ []) ≡ 3 ∷ 3 ∷ 0 ∷ 0 ∷ 3 ∷ 3 ∷ []
unfolding customary_refusal
customary_refusals = refl
