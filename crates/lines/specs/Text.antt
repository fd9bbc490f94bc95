-- Texts and numbers as bytes. Assumes nothing.
use Rattle.std.specs.Prelude.{◌≡◌, refl, Bool, true, false, ◌&&◌, cond, List, [], ◌∷◌, ◌++◌, ℕ, zero, suc, ◌+◌, ◌/◌, ◌%◌, ltb, eqb}
use Prim.Native.Char.{code}
use Prim.Native.String.{String, [] as no_text, ◌∷◌ as ◌then◌}

-- the bytes of a text in ASCII
abbrev pub ascii : String → List ℕ
ascii no_text = []
ascii (c then s) = code c ∷ ascii s

-- whether two texts are the same
unfoldable pub same : List ℕ → List ℕ → Bool
same [] [] = true
same [] (y ∷ ys) = false
same (x ∷ xs) [] = false
same (x ∷ xs) (y ∷ ys) = eqb x y && same xs ys

-- a number in decimal digits, at most so many
unfoldable pub decimal_in : ℕ → ℕ → List ℕ
decimal_in zero n = []
decimal_in (suc k) n = cond (ltb n 10) ((48 + n) ∷ []) (decimal_in k (n / 10) ++ ((48 + n % 10) ∷ []))

-- a number of 64 bits in decimal digits
unfoldable pub decimal : ℕ → List ℕ
decimal n = decimal_in 20 n

texts : (ascii "box\n" ≡ 98 ∷ 111 ∷ 120 ∷ 10 ∷ []) × (decimal 0 ≡ ascii "0") × (decimal 10 ≡ ascii "10")
    × (decimal 18446744073709551615 ≡ ascii "18446744073709551615")
unfolding decimal_in decimal
texts = (refl, refl, refl, refl)
