-- Where a look finds the block of an address. Assumes nothing.
use Rattle.std.specs.Prelude.{cond, List, [], ℕ, ◌*◌, eqb, Result, Ok, Err}
use Rattle.std.proofs.Math.Option.{Option, none, some}
use Rattle.block.specs.Blocks.{part}
use Rattle.paper.specs.Cache.{Numbers, AddressRow, BlockRow, from_cache, from_disk, row_with_block, slot_of}
use Rattle.paper.specs.Engine.{Fixed, labelled}
use Rattle.paper.specs.Lent.{Lent, Ask, calling, refusal, box_in, Answer, refused, answered}
use Rattle.look.specs.declared.Place.{Place}
use Rattle.look.specs.declared.Place.TheVariants.{Flash, Disk}
use Rattle.refusal.specs.declared.Refusal.{Refusal}
use Rattle.refusal.specs.Numbers.{code}

-- a place, or the number of a refusal
abbrev pub numbered : Result Place Refusal → Result Place ℕ
numbered (Ok p) = Ok p
numbered (Err r) = Err (code r)

-- the place of a row's block, where there is a row with its block
unfoldable pub row_place : (N : Numbers) → List (BlockRow (Fixed 32)) → Option (AddressRow (Fixed 32)) → Place
row_place N used none = Disk
row_place N used (some r) = Flash (record { 0 = slot_of (labelled N) r.fingerprint used })

-- the place of the block of a, or the number of the refusal
unfoldable pub where_is : Numbers → Lent → ℕ → Result Place ℕ
where_is N t a =
    cond (eqb (refusal N t (calling (Ask.look a))) 0) (Ok (row_place N (box_in N t).used (row_with_block (labelled N) (box_in N t) a)))
    (Err (refusal N t (calling (Ask.look a))))

-- what a look answers and returns there
unfoldable pub answer_at : Result Place ℕ → Answer
answer_at (Err k) = refused k
answer_at (Ok (Flash s)) = answered from_cache 0 0
answer_at (Ok Disk) = answered from_disk 0 0

unfoldable pub part_at : (B a : ℕ) → (flash disk : List ℕ) → Result Place ℕ → List ℕ
part_at B a flash disk (Err k) = []
part_at B a flash disk (Ok (Flash s)) = part (s.0 * B) B flash
part_at B a flash disk (Ok Disk) = part (a * B) B disk
