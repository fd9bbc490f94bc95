-- The address, then the fingerprint, then the dirty byte: `addr-made`; then the seat: `seat-made`. Assumes nothing.
use Rattle.std.specs.Prelude.{List, ◌++◌, ◌≡◌, ℕ, ◌/◌, ◌%◌, length, get_or, set, replicate}
use Rattle.std.proofs.Common.{arith, ap, ◌∙◌, refl}
use Rattle.std.proofs.Math.Seq.{paste}
use Rattle.tables.specs.Records.{address_bytes, bytes4}
use Rattle.tables.specs.ShiftLaws.{addr-made, seat-made}
use Rattle.tables.proofs.row.new_address.Goals as goal

pub returns : goal.returns
unfolding address_bytes
returns c =
    let a = c.args in
    let g = a.g.now in
    let lg : length g ≡ 32 = omega arith in
    let w = bytes4 a.a.0 in
    let low = a.seat % 256 in
    let high = a.seat / 256 % 256 in
    let e = c.write.ensures ∙ ap (λ (x : List ℕ). paste (replicate 40 0) 0 x (length x)) c.to_le_bytes.ensures in
    ap (λ (b : List ℕ). set (set (set c.write-2.new.t 36 a.dirty) 37 (get_or b 0 0)) 38 (get_or b 1 0)) c.to_le_bytes-2.ensures
    ∙ ap (λ (x : List ℕ). set (set (set x 36 a.dirty) 37 low) 38 high) (c.write-2.ensures ∙ ap (λ (x : List ℕ). paste x 4 g (length g)) e)
    ∙ ap (λ (x : List ℕ). set (set x 37 low) 38 high) (addr-made (w ++ replicate 36 0) w g a.dirty refl lg refl refl)
    ∙ seat-made w g a.dirty low high refl lg
