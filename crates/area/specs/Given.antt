-- The fields of a body, and its bytes, from what the code is given. Assumes nothing.
use Rattle.std.specs.Prelude.{List, [], ◌∷◌, ℕ, map}
use Rattle.area.specs.declared.Body.{Body}
use Rattle.image.specs.Body.{Fields, body_of}

-- "then label, tables and lists"; "for a D-LRU image the lists' buffer has length 0"
abbrev pub fields : (numbers label addresses blocks lists : List ℕ) → Fields
fields numbers label addresses blocks lists = record { numbers = numbers; strings = label ∷ addresses ∷ blocks ∷ lists ∷ [] }

abbrev pub body_from : (numbers label addresses blocks lists : List ℕ) → List ℕ
body_from numbers label addresses blocks lists = body_of (fields numbers label addresses blocks lists)

-- the bytes of the body that the code is given
abbrev pub bytes_of : Body → List ℕ
bytes_of b = body_of (record { numbers = b.numbers.now; strings = map (λ s. s.now) b.strings })
