-- Lines and inputs with what they are, by computing. Assumes nothing.
use Rattle.std.specs.Prelude.{◌≡◌, refl, [], ◌∷◌, Some, None}
use Rattle.lines.specs.Text.{ascii, same}
use Rattle.lines.specs.Lines.{onto, lines_in, lines, words, digits_from, number, hex_digit, pair, byte, of_one, of_two, of_three, of_five, of_words, parsed}
use Rattle.lines.specs.declared.Command.TheVariants.{Box, Read, Look, Flush, Through, Back, Invalidate}

-- an address: "Decimals have 1 to 5 digits, no leading zero but 0 itself"
decimals : (parsed (ascii "R 1") ≡ Some (Read 1))
    × (parsed (ascii "R 0") ≡ Some (Read 0))
    × (parsed (ascii "R 99999") ≡ Some (Read 99999))
    × (parsed (ascii "R 100000") ≡ None)
    × (parsed (ascii "R 01") ≡ None)
    × (parsed (ascii "R 00") ≡ None)
    × (parsed (ascii "R -1") ≡ None)
    × (parsed (ascii "R 1A") ≡ None)
unfolding same onto words digits_from number of_two of_words parsed
decimals = (refl, refl, refl, refl, refl, refl, refl, refl)

-- "single spaces", and no other byte beside the words
spaces : (parsed (ascii "R ") ≡ None)
    × (parsed (ascii "R  1") ≡ None)
    × (parsed (ascii "R 1 ") ≡ None)
    × (parsed (ascii " R 1") ≡ None)
    × (parsed (ascii "R\t1") ≡ None)
    × (parsed (ascii "R 1\r") ≡ None)
    × (parsed (ascii "F ") ≡ None)
    × (parsed (ascii " ") ≡ None)
    × (parsed (ascii "") ≡ None)
unfolding same onto words digits_from number hex_digit pair byte of_one of_two of_three of_words parsed
spaces = (refl, refl, refl, refl, refl, refl, refl, refl, refl)

-- the calls, and words that are no calls
calls : (parsed (ascii "F") ≡ Some Flush)
    × (parsed (ascii "L 7") ≡ Some (Look 7))
    × (parsed (ascii "T 3 0A") ≡ Some (Through 3 10))
    × (parsed (ascii "B 3 FF") ≡ Some (Back 3 255))
    × (parsed (ascii "I 3 00") ≡ Some (Invalidate 3 0))
    × (parsed (ascii "r 1") ≡ None)
    × (parsed (ascii "RR 1") ≡ None)
    × (parsed (ascii "F 1") ≡ None)
    × (parsed (ascii "R") ≡ None)
    × (parsed (ascii "T 3") ≡ None)
    × (parsed (ascii "R 3 00") ≡ None)
unfolding same onto words digits_from number hex_digit pair byte of_one of_two of_three of_words parsed
calls = (refl, refl, refl, refl, refl, refl, refl, refl, refl, refl, refl)

-- "hh, two upper-case hexadecimal digits"
bytes : (parsed (ascii "T 3 9F") ≡ Some (Through 3 159))
    × (parsed (ascii "T 3 0a") ≡ None)
    × (parsed (ascii "T 3 A") ≡ None)
    × (parsed (ascii "T 3 00A") ≡ None)
    × (parsed (ascii "T 3 G0") ≡ None)
    × (parsed (ascii "T 3 @0") ≡ None)
    × (parsed (ascii "T 3 :0") ≡ None)
    × (parsed (ascii "T 3 /0") ≡ None)
unfolding same onto words digits_from number hex_digit pair byte of_three of_words parsed
bytes = (refl, refl, refl, refl, refl, refl, refl, refl)

-- the box line
boxes : (parsed (ascii "box 64 8 3 2") ≡ Some (Box 64 8 3 2))
    × (parsed (ascii "box 64 8 3") ≡ None)
    × (parsed (ascii "box 64 8 3 2 1") ≡ None)
    × (parsed (ascii "box 064 8 3 2") ≡ None)
    × (parsed (ascii "Box 64 8 3 2") ≡ None)
    × (parsed (ascii "box 64  3 2") ≡ None)
unfolding same onto words digits_from number of_five of_words parsed
boxes = (refl, refl, refl, refl, refl, refl)

-- "at most 32 bytes": the longest line that has the form has 27, and one of 33 bytes is refused whatever its words are
lengths : (parsed (ascii "box 99999 99999 99999 99999") ≡ Some (Box 99999 99999 99999 99999))
    × (parsed (ascii "RRRRRRRRRRRRRRRRRRRRRRRRRRRRRR 1") ≡ None)
    × (parsed (ascii "RRRRRRRRRRRRRRRRRRRRRRRRRRRRRRR 1") ≡ None)
    × (parsed (ascii "                                ") ≡ None)
    × (parsed (ascii "                                 ") ≡ None)
unfolding same onto words digits_from number of_two of_five of_words parsed
lengths = (refl, refl, refl, refl, refl)

-- "Empty input is an empty line 1. A last line without a newline counts; after a final newline no further line begins."
inputs : (lines (ascii "") ≡ [] ∷ [])
    × (lines (ascii "\n") ≡ [] ∷ [])
    × (lines (ascii "a") ≡ ascii "a" ∷ [])
    × (lines (ascii "a\n") ≡ ascii "a" ∷ [])
    × (lines (ascii "a\nb") ≡ ascii "a" ∷ ascii "b" ∷ [])
    × (lines (ascii "a\nb\n") ≡ ascii "a" ∷ ascii "b" ∷ [])
    × (lines (ascii "a\n\n") ≡ ascii "a" ∷ [] ∷ [])
    × (lines (ascii "\n\na") ≡ [] ∷ [] ∷ ascii "a" ∷ [])
unfolding onto lines_in lines
inputs = (refl, refl, refl, refl, refl, refl, refl, refl)
