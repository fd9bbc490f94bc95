-- "It gets its refusal number": the number of each refusal, and 0 where nothing is refused. Assumes nothing.
use Rattle.std.specs.Prelude.{ℕ, ◌<◌, ◌≡◌, Result, Ok, Err}
use Rattle.std.proofs.Common.{arith}
use Rattle.refusal.specs.declared.Refusal.{Refusal}
use Rattle.refusal.specs.declared.Refusal.TheVariants.{Outside, WrongLength, NoAddress, Unformed, BoxTooLarge, BadAddresses, BadBlocks, DirtyUncached, CounterFull}
use Rattle.refusal.specs.declared.Refusal.TheVariants.{BadCount, ArcOutside, BadLimit, TooDirty, NoRoom, NoImage, BadImage, TooLarge}

-- the number of a refusal
abbrev pub code : Refusal → ℕ
code Outside = 1
code WrongLength = 2
code NoAddress = 3
code Unformed = 4
code BoxTooLarge = 5
code BadAddresses = 6
code BadBlocks = 7
code DirtyUncached = 8
code CounterFull = 9
code BadCount = 10
code ArcOutside = 11
code BadLimit = 12
code TooDirty = 13
code NoRoom = 14
code NoImage = 15
code BadImage = 16
code TooLarge = 17

-- of what a check gives: 0 where it refuses nothing
abbrev pub number_of : {A : Type 0} → Result A Refusal → ℕ
number_of (Ok x) = 0
number_of (Err r) = code r

-- no refusal has the number 0
pub code-positive : (r : Refusal) → 0 < code r
code-positive Outside = omega arith
code-positive WrongLength = omega arith
code-positive NoAddress = omega arith
code-positive Unformed = omega arith
code-positive BoxTooLarge = omega arith
code-positive BadAddresses = omega arith
code-positive BadBlocks = omega arith
code-positive DirtyUncached = omega arith
code-positive CounterFull = omega arith
code-positive BadCount = omega arith
code-positive ArcOutside = omega arith
code-positive BadLimit = omega arith
code-positive TooDirty = omega arith
code-positive NoRoom = omega arith
code-positive NoImage = omega arith
code-positive BadImage = omega arith
code-positive TooLarge = omega arith

pub refused : (r : Refusal) → code r ≡ 0 → ⊥
refused r e = let p = code-positive r in omega (arith, e, p)
