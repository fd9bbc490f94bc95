-- The image in an area: its header, its body, and what a restore refuses it with.
-- Assumes nothing.
use Rattle.std.specs.Prelude.{Bool, not, ◌&&◌, ◌||◌, List, [], ◌∷◌, ℕ, ◌+◌, ◌*◌, ltb, length, take, drop}
use Rattle.std.proofs.Math.Option.{Option}
use Rattle.tables.specs.Rows.{le4}
use Rattle.tables.specs.Find.{all, same}
use Rattle.tables.specs.Sound.{is_zero}
use Rattle.paper.specs.Lent.{Test, test, first}
use Rattle.image.specs.Body.{Form, no_body}
use Rattle.image.specs.Area.{mark, version, writes_for}

-- a header that is "an image of version 1": the mark, version 1, any length, zeros
unfoldable pub is_image : List ℕ → Bool
is_image h = same (take 3 h) mark && (same (take 2 (drop 3 h)) version && all is_zero (drop 9 h))

-- "15 .. a header that isn't an image of version 1 or an area under 64 bytes"
unfoldable pub no_image : List ℕ → Bool
no_image area = ltb (length area) 64 || not (is_image (take 64 area))

-- "body length without fill (32 bits, little-endian)", and the body
unfoldable pub length_in : List ℕ → ℕ
length_in area = le4 area 5

unfoldable pub body_in : List ℕ → List ℕ
body_in area = take (length_in area) (drop 64 area)

-- "14 an area too short for header, body and fill"
unfoldable pub too_short : List ℕ → ℕ → Bool
too_short area n = ltb (length area) (64 + writes_for n * 64)

-- "a restore checks 15 first .. then 14, then 16 .. then 2": the first three, of the area alone
abbrev pub image_tests : (ℕ → Option Form) → List ℕ → List Test → List Test
image_tests forms area rest =
    test (no_image area) 15 ∷ test (too_short area (length_in area)) 14 ∷ test (no_body forms (body_in area)) 16 ∷ rest

unfoldable pub image_refusal : (ℕ → Option Form) → List ℕ → ℕ
image_refusal forms area = first (image_tests forms area [])
