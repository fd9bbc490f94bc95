-- The lines of an input, and the form of a line. Assumes nothing.
use Rattle.std.specs.Prelude.{not, ◌&&◌, cond, List, [], ◌∷◌, ℕ, ◌+◌, ◌-◌, ◌*◌, eqb, ltb, length, get_or, Option, Some, None}
use Rattle.paper.specs.Lent.{between}
use Rattle.lines.specs.Text.{ascii, same}
use Rattle.lines.specs.declared.Command.{Command}
use Rattle.lines.specs.declared.Command.TheVariants.{Box, Read, Look, Flush, Through, Back, Invalidate}

-- a byte put before the first of several texts
unfoldable pub onto : ℕ → List (List ℕ) → List (List ℕ)
onto c [] = (c ∷ []) ∷ []
onto c (l ∷ ls) = (c ∷ l) ∷ ls

-- "A last line without a newline counts; after a final newline no further line begins."
unfoldable pub lines_in : List ℕ → List (List ℕ)
lines_in [] = []
lines_in (c ∷ l) = cond (eqb c 10) ([] ∷ lines_in l) (onto c (lines_in l))

-- "Empty input is an empty line 1."
unfoldable pub lines : List ℕ → List (List ℕ)
lines [] = [] ∷ []
lines (c ∷ l) = lines_in (c ∷ l)

-- "single spaces": the words of a line are what stands before, between and after its spaces
unfoldable pub words : List ℕ → List (List ℕ)
words [] = [] ∷ []
words (c ∷ l) = cond (eqb c 32) ([] ∷ words l) (onto c (words l))

-- "Decimals have 1 to 5 digits, no leading zero but 0 itself"
unfoldable pub digits_from : ℕ → List ℕ → Option ℕ
digits_from n [] = Some n
digits_from n (c ∷ l) = cond (between 48 57 c) (digits_from (n * 10 + (c - 48)) l) None

unfoldable pub number : List ℕ → Option ℕ
number w = cond (between 1 5 (length w) && not (eqb (get_or w 0 0) 48 && ltb 1 (length w))) (digits_from 0 w) None

-- "hh, two upper-case hexadecimal digits"
unfoldable pub hex_digit : ℕ → Option ℕ
hex_digit c = cond (between 48 57 c) (Some (c - 48)) (cond (between 65 70 c) (Some (c - 55)) None)

unfoldable pub pair : Option ℕ → Option ℕ → Option ℕ
pair None y = None
pair (Some x) None = None
pair (Some x) (Some y) = Some (x * 16 + y)

unfoldable pub byte : List ℕ → Option ℕ
byte w = cond (eqb (length w) 2) (pair (hex_digit (get_or w 0 0)) (hex_digit (get_or w 1 0))) None

-- a line that has a number in this place
abbrev pub having : Option ℕ → (ℕ → Option Command) → Option Command
having None f = None
having (Some n) f = f n

-- "Line 1: `box B P m d`. Later lines: `R a`, `L a`, `F`, or `T a hh`, `B a hh`, `I a hh` (through, back, invalidate ..)"
unfoldable pub of_one : List ℕ → Option Command
of_one w = cond (same w (ascii "F")) (Some Flush) None

unfoldable pub of_two : (w a : List ℕ) → Option Command
of_two w a = having (number a) (λ n. cond (same w (ascii "R")) (Some (Read n)) (cond (same w (ascii "L")) (Some (Look n)) None))

unfoldable pub of_three : (w a h : List ℕ) → Option Command
of_three w a h =
    having (number a) (λ n. having (byte h) (λ x.
    cond (same w (ascii "T")) (Some (Through n x)) (cond (same w (ascii "B")) (Some (Back n x)) (cond (same w (ascii "I")) (Some (Invalidate n x)) None))))

unfoldable pub of_five : (w b p m d : List ℕ) → Option Command
of_five w b p m d =
    cond (same w (ascii "box")) (having (number b) (λ B. having (number p) (λ P. having (number m) (λ M. having (number d) (λ D. Some (Box B P M D)))))) None

unfoldable pub of_words : List (List ℕ) → Option Command
of_words [] = None
of_words (w ∷ []) = of_one w
of_words (w ∷ a ∷ []) = of_two w a
of_words (w ∷ a ∷ h ∷ []) = of_three w a h
of_words (w ∷ a ∷ h ∷ x ∷ []) = None
of_words (w ∷ b ∷ p ∷ m ∷ d ∷ []) = of_five w b p m d
of_words (w ∷ b ∷ p ∷ m ∷ d ∷ x ∷ ws) = None

-- "at most 32 bytes without the newline"; "A longer line is refused whole."
unfoldable pub parsed : List ℕ → Option Command
parsed l = cond (ltb 32 (length l)) None (of_words (words l))
