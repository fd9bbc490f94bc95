-- A digest as text. Assumes nothing.
use Rattle.std.specs.Prelude.{◌≡◌, refl, List, [], ◌∷◌, ◌++◌, ℕ, zero, suc, get_or}
use Rattle.io.specs.Digits.{last_digits}

-- the first n bytes in hexadecimal, two digits for each, the more significant first
unfoldable pub hex : List ℕ → ℕ → List ℕ
hex bytes zero = []
hex bytes (suc n) = hex bytes n ++ last_digits 16 2 (get_or bytes n 0)

-- a line: a text, two spaces, the name of what it is of, and the line's end
abbrev pub line : (text name : List ℕ) → List ℕ
line text name = text ++ (32 ∷ 32 ∷ []) ++ name ++ (10 ∷ [])

-- "0aff10"
example : hex (10 ∷ 255 ∷ 16 ∷ []) 3 ≡ 48 ∷ 97 ∷ 102 ∷ 102 ∷ 49 ∷ 48 ∷ []
unfolding hex
example = refl
