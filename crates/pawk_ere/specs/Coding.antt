-- The code of expressions, which tells the values of matchers apart.
use Rattle.std.specs.Prelude.{◌≡◌, ℕ, zero, suc, Bool, List, [], ◌∷◌, refl}
use Rattle.std.proofs.Common.{ap, ◌∙◌}
use Rattle.std.specs.Coded.{Coded, code_by, coded×, coded_ℕ, coded_bool, coded_list}
use Rattle.pawk_ere_automaton.specs.Regex.{Regex, Empty, Start, End, Bytes, Sequence, Either, Star, Plus}

-- a kind of expression by its number, with the bytes that it holds
abbrev Sign : Type 0
Sign = ℕ × List Bool

-- the signs of an expression before others, those of its parts before its own
abbrev pub signs : Regex → List Sign → List Sign
signs Empty rest = (0, []) ∷ rest
signs Start rest = (1, []) ∷ rest
signs End rest = (2, []) ∷ rest
signs (Bytes members) rest = (3, members) ∷ rest
signs (Sequence a b) rest = signs a (signs b ((4, []) ∷ rest))
signs (Either a b) rest = signs a (signs b ((5, []) ∷ rest))
signs (Star a) rest = signs a ((6, []) ∷ rest)
signs (Plus a) rest = signs a ((7, []) ∷ rest)

-- the last two expressions as parts of one
abbrev pub of_two : (Regex → Regex → Regex) → List Regex → List Regex
of_two whole [] = []
of_two whole (b ∷ []) = b ∷ []
of_two whole (b ∷ a ∷ others) = whole a b ∷ others

-- the last expression as the part of one
abbrev pub of_one : (Regex → Regex) → List Regex → List Regex
of_one whole [] = []
of_one whole (a ∷ others) = whole a ∷ others

-- the expressions, the last first, after a sign
abbrev pub with_sign : ℕ → List Bool → List Regex → List Regex
with_sign zero members others = Empty ∷ others
with_sign (suc zero) members others = Start ∷ others
with_sign (suc (suc zero)) members others = End ∷ others
with_sign (suc (suc (suc zero))) members others = Bytes members ∷ others
with_sign (suc (suc (suc (suc zero)))) members others = of_two Sequence others
with_sign (suc (suc (suc (suc (suc zero))))) members others = of_two Either others
with_sign (suc (suc (suc (suc (suc (suc zero)))))) members others = of_one Star others
with_sign (suc (suc (suc (suc (suc (suc (suc n))))))) members others = of_one Plus others

-- the expressions of these signs, the last first, after those that were read
abbrev pub with_signs : List Sign → List Regex → List Regex
with_signs [] others = others
with_signs (sign ∷ rest) others = with_signs rest (with_sign sign.0 sign.1 others)

abbrev pub last_of : List Regex → Regex
last_of [] = Empty
last_of (a ∷ others) = a

abbrev pub signs_give : (e : Regex) (rest : List Sign) (others : List Regex) → with_signs (signs e rest) others ≡ with_signs rest (e ∷ others)
signs_give Empty rest others = refl
signs_give Start rest others = refl
signs_give End rest others = refl
signs_give (Bytes members) rest others = refl
signs_give (Sequence a b) rest others = signs_give a (signs b ((4, []) ∷ rest)) others ∙ signs_give b ((4, []) ∷ rest) (a ∷ others)
signs_give (Either a b) rest others = signs_give a (signs b ((5, []) ∷ rest)) others ∙ signs_give b ((5, []) ∷ rest) (a ∷ others)
signs_give (Star a) rest others = signs_give a ((6, []) ∷ rest) others
signs_give (Plus a) rest others = signs_give a ((7, []) ∷ rest) others

-- an expression is stored as its signs
abbrev pub regex_code : Coded Regex
regex_code =
    code_by (List Sign) (coded_list (coded× coded_ℕ (coded_list coded_bool))) (λ e. signs e []) (λ s. last_of (with_signs s [])) (λ e. ap last_of (signs_give e [] []))
