-- The writes of a save into a lent area, and the area where power fails at one of them.
-- Assumes nothing.
use Rattle.std.specs.Prelude.{◌≡◌, List, [], ◌∷◌, ◌++◌, ◌⊎◌, ℕ, zero, suc, ◌+◌, ◌-◌, ◌*◌, ◌/◌, length, take, drop}
use Rattle.tables.specs.Rows.{zeros}
use Rattle.tables.specs.Records.{bytes4}
use Rattle.block.specs.Blocks.{splice}

-- a write of bytes over those from a place on; writes one after another
pub record Write : Type 0 where
  pub place : ℕ
  pub bytes : List ℕ

abbrev pub put : List ℕ → Write → List ℕ
put area w = splice w.place w.bytes area

unfoldable pub applied : List Write → List ℕ → List ℕ
applied [] area = area
applied (w ∷ ws) area = applied ws (put area w)

-- "in writes of 64 bytes, zeros filling the last": how many writes n bytes take, and the body with its fill
unfoldable pub writes_for : ℕ → ℕ
writes_for n = (n + 63) / 64

unfoldable pub padded : List ℕ → List ℕ
padded body = body ++ zeros (writes_for (length body) * 64 - length body)

-- "The header is the area's first 64 bytes and the body follows it": write number k of the body, and the first k of these, "in rising order"
unfoldable pub body_write : List ℕ → ℕ → Write
body_write body k = record { place = 64 + k * 64; bytes = take 64 (drop (k * 64) (padded body)) }

unfoldable pub body_writes : List ℕ → ℕ → List Write
body_writes body zero = []
body_writes body (suc k) = body_writes body k ++ (body_write body k ∷ [])

-- "mark `VBX`, version 1 (16 bits, little-endian), body length without fill (32 bits, little-endian), zeros"
abbrev pub mark : List ℕ
mark = 86 ∷ 66 ∷ 88 ∷ []

abbrev pub version : List ℕ
version = 1 ∷ 0 ∷ []

unfoldable pub header : ℕ → List ℕ
header n = mark ++ (version ++ (bytes4 n ++ zeros 55))

-- "The first write clears the header, the next ones fill the body in rising order, the last one writes the header"
abbrev pub clearing : Write
clearing = record { place = 0; bytes = zeros 64 }

abbrev pub heading : ℕ → Write
heading n = record { place = 0; bytes = header n }

unfoldable pub save_writes : List ℕ → List Write
save_writes body = clearing ∷ (body_writes body (writes_for (length body)) ++ (heading (length body) ∷ []))

-- "If power fails during these writes .. earlier writes are new, later ones old, and the one at the cut is junk": the area where it fails at
-- write number j, whose place then has the bytes `left`
unfoldable pub cut_at : List Write → ℕ → List ℕ → List ℕ → List ℕ
cut_at [] j left area = area
cut_at (w ∷ ws) zero left area = put area (record { place = w.place; bytes = left })
cut_at (w ∷ ws) (suc j) left area = cut_at ws j left (put area w)

-- which bytes can be left: as many as are written, "except that a header write is wholly old or wholly new"
unfoldable pub CanLeave : List Write → ℕ → List ℕ → List ℕ → Type 0
CanLeave [] j left area = ⊥
CanLeave (w ∷ ws) zero left area = (length left ≡ length w.bytes) × (w.place ≡ 0 → (left ≡ take 64 area) ⊎ (left ≡ w.bytes))
CanLeave (w ∷ ws) (suc j) left area = CanLeave ws j left (put area w)
